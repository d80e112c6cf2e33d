use Rattle.std.proofs.Common.{◌∙◌, [], ◌∷◌, ◌+ℤ◌, ◌-ℤ◌}
use Rattle.std.specs.Int.{int_shr}
use Rattle.m2v_idct.specs.Inverse.{combine}
use Rattle.m2v_idct.proofs.combine.combine_terms.Goals as goal

pub returns : goal.returns
unfolding combine
returns c =
    let n = c.args.n in
    let e = c.even_part.ensures in
    let o = c.odd_part.ensures in
    c.join_parts.ensures
    ∙ (λ i. int_shr (e.s0 i +ℤ o.o0 i) n ∷ int_shr (e.s1 i +ℤ o.o1 i) n ∷ int_shr (e.s2 i +ℤ o.o2 i) n ∷ int_shr (e.s3 i +ℤ o.o3 i) n
    ∷ int_shr (e.s3 i -ℤ o.o3 i) n ∷ int_shr (e.s2 i -ℤ o.o2 i) n ∷ int_shr (e.s1 i -ℤ o.o1 i) n ∷ int_shr (e.s0 i -ℤ o.o0 i) n ∷ [])
