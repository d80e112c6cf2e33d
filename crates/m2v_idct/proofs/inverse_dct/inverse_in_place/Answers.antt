use Rattle.std.proofs.Common.{◌∙◌, arith, get_or, map, sym, subst, pos, ℤ}
use Rattle.std.proofs.lemmas.Int.{ints, clamps}
use Rattle.std.proofs.lemmas.List.{ext_get_or, get_or-map, length-map}
use Rattle.std.proofs.lemmas.List.Elements.{All-from_get_or}
use Rattle.m2v_idct.specs.Inverse.{clip}
use Rattle.m2v_idct.specs.Ranges.{IsSample}
use Rattle.m2v_idct.proofs.inverse_dct.inverse_in_place.Goals as goal

clipped : (z : ℤ) → IsSample (clip z)
clipped z = (omega (arith, ints, clamps), omega (arith, ints, clamps))

pub returns-clause-value : goal.returns-clause-value
returns-clause-value c =
    let mid = c.inverse_unclipped.new.block in
    let new = c.clip_all.new.block in
    let long = c.inverse_unclipped.array_long in
    let len = c.clip_all.array_long in
    ext_get_or (pos 0) new (map clip mid) (len ∙ sym long ∙ sym (length-map mid clip))
    (λ k l. c.clip_all.ensures k (omega (arith, l, len)) ∙ sym (get_or-map clip mid k (pos 0) (pos 0) (omega (arith, l, len, long))))
    ∙ c.inverse_unclipped.ensures.value

pub returns-clause-samples : goal.returns-clause-samples
returns-clause-samples c =
    let len = c.clip_all.array_long in
    All-from_get_or IsSample c.clip_all.new.block (pos 0)
    (λ k l. subst IsSample (sym (c.clip_all.ensures k (omega (arith, l, len)))) (clipped (get_or c.inverse_unclipped.new.block k (pos 0))))
