use Rattle.std.proofs.Common.{arith, rules, ℕ, ◌+◌, ◌≡◌, ◌<◌, ◌≤◌, false, get_or, length, drop, pos, ap, ◌∙◌}
use Rattle.std.proofs.lemmas.Int.{to_z-of_z}
use Rattle.std.proofs.lemmas.List.{length-append, length-drop}
use mir.Syntax.{w32}
use mir.Val.{SFits, to_z, of_z}
use Rattle.m2v_block.specs.Texts.{pair_text, pairs_text}
use Rattle.m2v_block.proofs.Written.{next_pair, at_zeros}
use Rattle.m2v_block.proofs.Marking.{none_marked}
use Rattle.m2v_block.proofs.Counted.{pairs_bound}
use Rattle.m2v_block.proofs.count.pairs_bits.Goals as goal

pub loop-rest-preserved : goal.loop-rest-preserved
loop-rest-preserved c =
    let levels = c.args.levels.now.at in
    let at = c.loop-rest.at in
    let run = c.run_at-run.result in
    let one = c.args.one in
    let len : length levels ≡ 64 = search rules in
    let fits : SFits w32 (get_or levels (at + run) (pos 0)) = search rules in
    let level = to_z w32 (of_z w32 (get_or levels (at + run) (pos 0))) in
    let next = ap length (next_pair false one levels at run level (omega (arith, len, c.run_at-run.ensures.within)) c.run_at-run.ensures.zeros (to_z-of_z w32 (get_or levels (at + run) (pos 0)) fits) c.run_at-run.ensures.some)
    ∙ length-append (pair_text false one run level) (pairs_text false one 0 (drop (at + run + 1) levels)) in
    let whole = pairs_bound one (drop c.args.from levels) (omega (arith, length-drop c.args.from levels, len)) in
    record {
      bits = omega (arith, c.loop-rest.invariant.bits, next, c.pair_bits-bits.ensures.value);
      marks = c.marks_behind-rest.ensures;
      inside = omega (arith, c.run_at-run.ensures.within);
      most = omega (arith, c.loop-rest.invariant.bits, next, c.pair_bits-bits.ensures.value, whole);
    }

pub returns-clause-value : goal.returns-clause-value
returns-clause-value c =
    let levels = c.args.levels.now.at in
    let rest = λ (k : ℕ) (le : c.loop-rest.at ≤ k) (lt : k < length levels). none_marked levels c.loop-rest.at c.loop-rest.rest c.loop-rest.invariant.marks (omega arith) k le in
    omega (arith, c.loop-rest.invariant.bits, c.end_bits.ensures.value, ap length (at_zeros false c.args.one 0 levels c.loop-rest.at rest))

pub returns-clause-most : goal.returns-clause-most
returns-clause-most c =
    let levels = c.args.levels.now.at in
    let len : length levels ≡ 64 = search rules in
    let rest = λ (k : ℕ) (le : c.loop-rest.at ≤ k) (lt : k < length levels). none_marked levels c.loop-rest.at c.loop-rest.rest c.loop-rest.invariant.marks (omega arith) k le in
    let whole = pairs_bound c.args.one (drop c.args.from levels) (omega (arith, length-drop c.args.from levels, len)) in
    omega (arith, c.loop-rest.invariant.bits, c.end_bits.ensures.value, ap length (at_zeros false c.args.one 0 levels c.loop-rest.at rest), whole)
