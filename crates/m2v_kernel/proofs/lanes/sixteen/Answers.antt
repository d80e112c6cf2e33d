use Rattle.std.proofs.Common.{◌≡◌, ◌+◌, ◌-◌, take, drop, ap, ◌∙◌, arith, refl}
use Rattle.std.proofs.lemmas.List.{take_all, length-take-le, length-drop}
use Rattle.m2v_kernel.proofs.Means.{taken, dropped}
use Rattle.m2v_kernel.proofs.lanes.sixteen.Goals as goal

pub returns : goal.returns
returns c =
    let s = c.args.samples.now in
    let from = c.args.from in
    let count : from + 16 - from ≡ 16 = omega arith in
    let len = length-take-le 16 (drop from s) (omega (arith, length-drop from s, c.requires)) in
    rw (ap (λ k. take 16 (take k (drop from s))) count ∙ take_all 16 (take 16 (drop from s)) (omega (arith, len)))
    (record { value = refl; len = len; bytes = record { small = taken 16 (drop from s) (dropped from s (λ i. (c.type_inv.samples i).fits)) } })
