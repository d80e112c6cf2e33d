use Rattle.std.proofs.Common.{arith, sym, ap, ◌∙◌, ◌≡◌, false, refl, length, drop}
use Rattle.std.proofs.lemmas.Result.{err_from_is_err_and}
use Rattle.m2v_bits.specs.Bits.{Unread}
use Rattle.m2v_block.specs.Blocks.{Scan}
use Rattle.m2v_block.proofs.BlockLaws.{pairs_err, pairs_more, pairs_last, pairs_less}
use Rattle.m2v_block.proofs.read.pairs.Goals as goal

pub returns-in_err-more : goal.returns-in_err-more
returns-in_err-more c =
    let s : Scan = record { filled = c.quick_pairs-next.result.0; levels = c.quick_pairs-next.new.out.at } in
    let p = err_from_is_err_and c.from_residual.result c.from_residual.ensures.1 in
    let read = c.in_err-more.ensures in
    let quick = c.quick_pairs-next.ensures in
    record {
      exact = rw (p.1, p.2) (sym c.loop-input.invariant.read ∙ sym quick.read ∙ pairs_err c.args.one s c.quick_pairs-next.new.input.rest (c.in_err-more.field-0.0, length c.next_pair.new.input.rest) read.exact);
      text = read.text ∙ quick.text ∙ c.loop-input.invariant.text;
      levels = read.left.levels;
      dc = λ some. read.left.dc (omega (arith, some, quick.within, c.loop-input.invariant.above)) ∙ quick.dc ∙ c.loop-input.invariant.dc;
    }

pub returns-then-not-more : goal.returns-then-not-more
returns-then-not-more c =
    let s : Scan = record { filled = c.quick_pairs-next.result.0; levels = c.quick_pairs-next.new.out.at } in
    let m : Scan = record { filled = c.in_ok-more.next; levels = c.next_pair.new.out.at } in
    let read = c.in_ok-more.ensures in
    let quick = c.quick_pairs-next.ensures in
    record {
      exact = (c.in_ok-more.next, sym c.loop-input.invariant.read ∙ sym quick.read ∙ pairs_last c.args.one s m c.quick_pairs-next.new.input.rest c.next_pair.new.input.rest c.in_ok-more.more read.exact c.if-not-more.true);
      text = read.text ∙ quick.text ∙ c.loop-input.invariant.text;
      levels = read.left.levels;
      dc = λ some. read.left.dc (omega (arith, some, quick.within, c.loop-input.invariant.above)) ∙ quick.dc ∙ c.loop-input.invariant.dc;
    }

pub loop-input-smaller : goal.loop-input-smaller
loop-input-smaller c =
    let s : Scan = record { filled = c.quick_pairs-next.result.0; levels = c.quick_pairs-next.new.out.at } in
    let m : Scan = record { filled = c.in_ok-more.next; levels = c.next_pair.new.out.at } in
    let less = pairs_less c.args.one s m c.quick_pairs-next.new.input.rest c.next_pair.new.input.rest c.in_ok-more.more c.in_ok-more.ensures.exact in
    omega (arith, less, c.quick_pairs-next.ensures.less)

pub loop-input-preserved : goal.loop-input-preserved
loop-input-preserved c =
    let s : Scan = record { filled = c.quick_pairs-next.result.0; levels = c.quick_pairs-next.new.out.at } in
    let m : Scan = record { filled = c.in_ok-more.next; levels = c.next_pair.new.out.at } in
    let left = c.in_ok-more.ensures.left in
    let quick = c.quick_pairs-next.ensures in
    record {
      read = sym (pairs_more c.args.one s m c.quick_pairs-next.new.input.rest c.next_pair.new.input.rest c.in_ok-more.more c.in_ok-more.ensures.exact c.if-not-more.false) ∙ quick.read ∙ c.loop-input.invariant.read;
      text = c.in_ok-more.ensures.text ∙ quick.text ∙ c.loop-input.invariant.text;
      above = omega (arith, quick.within, left.within, c.loop-input.invariant.above);
      within = left.within.1;
      clear = left.clear;
      levels = left.levels;
      dc = left.dc (omega (arith, quick.within, c.requires.some, c.loop-input.invariant.above)) ∙ quick.dc ∙ c.loop-input.invariant.dc;
    }

pub returns-then-ended-gt0 : goal.returns-then-ended-gt0
returns-then-ended-gt0 c =
    let quick = c.quick_pairs-next in
    let s : Scan = record { filled = quick.result.0; levels = quick.new.out.at } in
    let ends = quick.ensures.ended c.if-ended-gt0.true in
    let mid = drop quick.result.1 quick.new.input.rest in
    let rest : c.skip.new.self.rest ≡ mid = ap (λ (u : Unread). u.rest) c.skip.ensures in
    record {
      exact = (quick.result.0, rw rest (sym c.loop-input.invariant.read ∙ sym quick.ensures.read ∙ pairs_last c.args.one s s quick.new.input.rest mid false ends.reads refl));
      text = ap (λ (u : Unread). u.text) c.skip.ensures ∙ quick.ensures.text ∙ c.loop-input.invariant.text;
      levels = quick.ensures.levels;
      dc = λ _. quick.ensures.dc ∙ c.loop-input.invariant.dc;
    }
