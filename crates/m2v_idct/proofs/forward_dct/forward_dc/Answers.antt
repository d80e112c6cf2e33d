use Rattle.std.proofs.Common.{◌≡◌, arith, pos, ◌+ℤ◌, ◌*ℤ◌, ◌∙◌, ap}
use Rattle.std.proofs.lemmas.Int.{ints}
use mir.Val.{to_z, of_z}
use mir.Syntax.{w64}
use Rattle.std.specs.Int.{int_shr}
use Rattle.m2v_idct.proofs.ForwardSums.{mean_is}
use Rattle.m2v_idct.proofs.forward_dct.forward_dc.Goals as goal

pub returns-clause-value : goal.returns-clause-value
returns-clause-value c =
    let f = c.args.f.now in
    let low = c.sum_of.ensures.low in
    let high = c.sum_of.ensures.high in
    let summed : to_z w64 (of_z w64 c.scaled_sum.result) ≡ pos 8386816 *ℤ c.sum_of.result = omega (arith, ints, c.scaled_sum.ensures) in
    mean_is f c.sum_of.result c.sum_of.ensures.value _
    (omega (arith, ints, c.round.ensures.within) ∙ c.round.ensures.value ∙ ap (λ s. int_shr (s +ℤ pos 33554432) 26) summed)
