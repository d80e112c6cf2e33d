use Rattle.std.proofs.Common.{◌∙◌, sym, ◌+◌, ap, ℕ, rules}
use Rattle.m2v_pred.specs.Inside.{is_inside}
use Rattle.m2v_pred.specs.declared.mode.MbPlace.{MbPlace}
use Rattle.m2v_dec_picture.specs.Conditions.{place_in}
use Rattle.m2v_dec_picture.proofs.Ranges.{all_below, not_below}
use Rattle.m2v_dec_picture.proofs.rules.gap_inside.Goals as goal

pub returns-then-not-inside : goal.returns-then-not-inside
returns-then-not-inside c =
    let s = c.args.s.now in
    let mode = c.args.mode.now in
    let test = λ (k : ℕ). is_inside mode (place_in s c.args.row (c.args.gap.column + k)) s.dims in
    sym (not_below test c.args.gap.count c.loop-k.k c.loop-k-test.true
    (ap (λ (at : MbPlace). is_inside mode at s.dims) (sym c.place.ensures) ∙ sym c.inside.ensures.exact ∙ search rules))

pub returns : goal.returns
returns c =
    let s = c.args.s.now in
    let test = λ (k : ℕ). is_inside c.args.mode.now (place_in s c.args.row (c.args.gap.column + k)) s.dims in
    sym (all_below test c.args.gap.count (λ k lt. c.loop-k.invariant.so_far k (search rules)))
