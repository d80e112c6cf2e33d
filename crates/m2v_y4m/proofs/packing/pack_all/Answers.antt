use Rattle.std.proofs.Common.{arith, refl, ap, Ok, Err, ◌≡◌, ◌∙◌, ◌+◌, ◌*◌, ℕ, length}
use Rattle.std.proofs.lemmas.Result.{err_from_is_err_and}
use Rattle.m2v_port.proofs.Runs.{stays_on}
use Rattle.m2v_y4m.specs.Frames.{size_of}
use Rattle.m2v_y4m.specs.Answers.{PackStops}
use Rattle.m2v_y4m.proofs.SizeLaws.{size_some}
use Rattle.m2v_y4m.proofs.Packs.{so_far_none, so_far_more, stopped, ended, went_on, look_stopped, line_part}
use Rattle.m2v_y4m.proofs.packing.pack_all.Goals as goal

pub returns-in-Err-Failed-clause-ends : goal.returns-in-Err-Failed-clause-ends
unfolding PackStops
returns-in-Err-Failed-clause-ends g c =
    (c.in-Err-Failed.ensures.failed (ap Err c.in-Err-Failed.field-0-is), line_part g.S.Source.left g.S.Source.faults g.K.Sink.held g.K.Sink.faults _ c.args.line.now _ _ _ (size_some c.args.header.now c.requires.header) c.requires.line c.in-Err-Failed.ensures.err)

pub returns-in-Err-Memory-clause-ends : goal.returns-in-Err-Memory-clause-ends
unfolding PackStops
returns-in-Err-Memory-clause-ends g c =
    line_part g.S.Source.left g.S.Source.faults g.K.Sink.held g.K.Sink.faults _ c.args.line.now _ _ _ (size_some c.args.header.now c.requires.header) c.requires.line c.in-Err-Memory.ensures.err

pub loop-number-init : goal.loop-number-init
loop-number-init g c = record {
  room = c.requires.text;
  so_far = so_far_none g.S.Source.left g.S.Source.faults g.K.Sink.held g.K.Sink.faults c.args.header.now c.args.input.now _ _ (rw c.requires.line at c.in-Ok.ensures.ok);
  output = record { is_ready = c.put.ensures.ready; keeps_name = c.put.ensures.name; counts = c.put.ensures.faults };
  input = omega arith;
}

pub returns-in_err-next-clause-ends : goal.returns-in_err-next-clause-ends
returns-in_err-next-clause-ends g c =
    let p = err_from_is_err_and c.from_residual.result c.from_residual.ensures.1 in
    let inv = c.loop-number.invariant in
    rw (p.1, p.2) (stopped g.S.Source.left g.S.Source.faults g.K.Sink.held g.K.Sink.faults c.args.header.now c.loop-number.number _ _ _ _ _ _ _ (size_some c.args.header.now c.requires.header) (omega arith)
    inv.input inv.output.counts inv.so_far c.in_err-next.ensures.err)

pub returns-then-not-branch-clause-ends : goal.returns-then-not-branch-clause-ends
returns-then-not-branch-clause-ends g c =
    let inv = c.loop-number.invariant in
    let none = c.in_ok-next.ensures.none (ap Ok c.if-not-branch.true) in
    let room : length c.next.new.text ≡ 6 + size_of c.args.header.now = c.next.ensures.text.room in
    ended g.S.Source.left g.S.Source.faults g.K.Sink.held g.K.Sink.faults c.args.header.now c.loop-number.number (size_of c.args.header.now) (length c.args.line.now) _ _ _ _ _ _ _ (omega arith) refl (ap length c.requires.line)
    inv.so_far none.moved none.end none.same (c.summary_of.ensures.value ∙ ap (λ (n : ℕ). record { frames = c.loop-number.number; bytes = length c.args.line.now + c.loop-number.number * n }) room)

pub loop-number-preserved : goal.loop-number-preserved
loop-number-preserved g c =
    let inv = c.loop-number.invariant in
    record {
      room = c.next.ensures.text;
      so_far = so_far_more g.S.Source.left g.S.Source.faults g.K.Sink.held g.K.Sink.faults c.args.header.now c.loop-number.number _ _ _ _ _ _ inv.so_far (c.in_ok-next.ensures.packed (ap Ok c.if-not-branch.false));
      output = stays_on inv.output c.next.ensures.output;
      input = omega (arith, inv.input, c.next.ensures.input);
    }

pub returns-in_err-goes_on-clause-ends : goal.returns-in_err-goes_on-clause-ends
returns-in_err-goes_on-clause-ends g c =
    let p = err_from_is_err_and c.from_residual-in_err-goes_on.result c.from_residual-in_err-goes_on.ensures.1 in
    let inv = c.loop-number.invariant in
    rw (p.1, p.2) (look_stopped g.S.Source.left g.S.Source.faults g.K.Sink.held g.K.Sink.faults c.args.header.now c.loop-number.number _ _ _ _ _ _ (size_some c.args.header.now c.requires.header) (omega arith) inv.input inv.so_far c.in_err-goes_on.ensures.err)

pub returns-then-branch-clause-ends : goal.returns-then-branch-clause-ends
returns-then-branch-clause-ends g c =
    let inv = c.loop-number.invariant in
    let more = c.in_ok-goes_on.ensures.more (ap Ok c.if-branch.true) in
    went_on g.S.Source.left g.S.Source.faults g.K.Sink.held g.K.Sink.faults c.args.header.now c.loop-number.number more.0 _ _ _ _ _ (omega arith) inv.so_far more.1

pub returns-clause-ends : goal.returns-clause-ends
returns-clause-ends g c =
    let inv = c.loop-number.invariant in
    let all : c.loop-number.number ≡ 999999 = omega arith in
    let none = c.in_ok-goes_on.ensures.none (ap Ok c.if-branch.false) in
    let so_far = rw all at inv.so_far in
    let room : length c.loop-number.text ≡ 6 + size_of c.args.header.now = inv.room.room in
    ended g.S.Source.left g.S.Source.faults g.K.Sink.held g.K.Sink.faults c.args.header.now 999999 (size_of c.args.header.now) (length c.args.line.now) _ _ _ _ _ _ _ (omega arith) refl (ap length c.requires.line)
    so_far none.0 none.1 refl (c.summary_of-2.ensures.value ∙ ap (λ (n : ℕ). record { frames = 999999; bytes = length c.args.line.now + 999999 * n }) room)
