use Rattle.std.proofs.Common.{◌≡◌, ◌-◌, true, false, sym, ◌∙◌, arith}
use Rattle.m2v_slice.proofs.References.{is_anchor_with, looked_past, looked_at, found_at, found_none}
use Rattle.m2v_slice.proofs.book.EncodeBook.reference_picture.Goals as goal

pub returns-then-left-eq0 : goal.returns-then-left-eq0
returns-then-left-eq0 c =
    let b = c.args.self.now in
    let q = c.loop-q.q - 1 in
    let is : is_anchor_with b c.args.lines q ≡ true = rw c.job.ensures.value at (sym c.is_anchor_with.ensures.value ∙ c.if-is_anchor_with.true) in
    record { value = sym (c.loop-q.invariant.same ∙ found_at b c.args.lines c.loop-q.q q c.loop-q.left (omega arith) c.if-left-eq0.true is) }

pub loop-q-preserved-then-is_anchor_with : goal.loop-q-preserved-then-is_anchor_with
loop-q-preserved-then-is_anchor_with c =
    let b = c.args.self.now in
    let q = c.loop-q.q - 1 in
    let is : is_anchor_with b c.args.lines q ≡ true = rw c.job.ensures.value at (sym c.is_anchor_with.ensures.value ∙ c.if-is_anchor_with.true) in
    record {
      low = omega arith;
      same = c.loop-q.invariant.same ∙ looked_at b c.args.lines c.loop-q.q q c.loop-q.left (c.loop-q.left - 1) (omega arith) (omega arith) is;
    }

pub loop-q-preserved : goal.loop-q-preserved
loop-q-preserved c =
    let b = c.args.self.now in
    let q = c.loop-q.q - 1 in
    let is : is_anchor_with b c.args.lines q ≡ false = rw c.job.ensures.value at (sym c.is_anchor_with.ensures.value ∙ c.if-is_anchor_with.false) in
    record {
      low = omega arith;
      same = c.loop-q.invariant.same ∙ looked_past b c.args.lines c.loop-q.q q c.loop-q.left (omega arith) is;
    }

pub returns : goal.returns
returns c =
    record { value = sym (c.loop-q.invariant.same ∙ found_none c.args.self.now c.args.lines c.loop-q.q c.loop-q.left (omega arith)) }
