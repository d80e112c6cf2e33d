use Rattle.std.proofs.Common.{◌≡◌, ℕ, ◌<◌, ◌+◌, ◌*◌, ◌∙◌, List, All, length, arith, ap, sym, subst, ℤ, pos, neg_ℤ, ◌+ℤ◌, ◌*ℤ◌, ◌≤ℤ◌}
use Rattle.std.proofs.lemmas.Int.{ints}
use Rattle.m2v_idct.specs.Block.{at}
use Rattle.m2v_idct.specs.Forward.{forward_at, forward_of, projection, rounded}
use Rattle.m2v_idct.specs.ForwardLanes.{high_of, low_of}
use Rattle.m2v_idct.specs.Ranges.{IsCoefficient, IsSample, Within}
use Rattle.m2v_idct.proofs.Blocks.{all_places, block_is}
use Rattle.m2v_idct.proofs.Bounds.{double_between, single_between}
use Rattle.m2v_idct.proofs.ForwardSteps.{high_small, low_small, parts_join}
use Rattle.m2v_idct.proofs.ForwardSums.{forward_by_lines, rounded_within}
use Rattle.m2v_idct.proofs.Projections.{projection_same}
use Rattle.m2v_idct.proofs.forward_dct.forward_in_place.Goals as goal

-- the sums of the lines
module _ (f : List ℤ) (long : length f ≡ 64) (samples : All IsSample f) (y u : ℕ) (ly : y < 8) (lu : u < 8) where
  line_between : (neg_ℤ (pos 5931008) ≤ℤ projection u (at f y)) × (projection u (at f y) ≤ℤ pos 5919424)
  line_between = single_between u (at f y) lu (λ x lx. samples (8 * y + x) (pos 0) (omega (arith, long, ly, lx)))

  scaled : Within 67200000 (pos 8 *ℤ projection u (at f y))
  scaled = let b = line_between in (omega (arith, ints, b), omega (arith, ints, b))

  high_within : (z : ℤ) → z ≡ high_of (pos 8 *ℤ projection u (at f y)) → Within 8191 z
  high_within z e = let h = high_small _ scaled in subst (Within 8191) (sym e) (omega (arith, ints, h), omega (arith, ints, h))

  low_within : (z : ℤ) → z ≡ low_of (pos 8 *ℤ projection u (at f y)) → Within 8191 z
  low_within z e = subst (Within 8191) (sym e) (low_small _ scaled)

  joined : (h l : ℤ) → h ≡ high_of (pos 8 *ℤ projection u (at f y)) → l ≡ low_of (pos 8 *ℤ projection u (at f y)) → pos 8192 *ℤ h +ℤ l ≡ projection u (at f y)
  joined h l eh el = (λ i. pos 8192 *ℤ eh i +ℤ el i) ∙ parts_join (projection u (at f y))

pub transform_columns-requires-clause-high : goal.transform_columns-requires-clause-high
transform_columns-requires-clause-high c =
    all_places (Within 8191) c.transform_rows.new.high c.transform_rows.array_long
    (λ y u ly lu. high_within c.args.block.now c.told-block c.requires y u ly lu _ (c.transform_rows.ensures.high y u ly lu))

pub transform_columns-requires-clause-low : goal.transform_columns-requires-clause-low
transform_columns-requires-clause-low c =
    all_places (Within 8191) c.transform_rows.new.low c.transform_rows.array_long2
    (λ y u ly lu. low_within c.args.block.now c.told-block c.requires y u ly lu _ (c.transform_rows.ensures.low y u ly lu))

pub returns-clause-value : goal.returns-clause-value
unfolding forward_of
returns-clause-value c =
    let f = c.args.block.now in
    let high = c.transform_rows.new.high in let low = c.transform_rows.new.low in
    block_is c.transform_columns.new.out (forward_at f) c.transform_columns.array_long
    (λ v u lv lu. c.transform_columns.ensures v u lv lu
    ∙ ap rounded (projection_same v (λ y. pos 8192 *ℤ at high y u +ℤ at low y u) (λ y. projection u (at f y))
    (λ y ly. joined f c.told-block c.requires y u ly lu _ _ (c.transform_rows.ensures.high y u ly lu) (c.transform_rows.ensures.low y u ly lu)))
    ∙ sym (forward_by_lines f v u))

pub returns-clause-coefficients : goal.returns-clause-coefficients
returns-clause-coefficients c =
    let f = c.args.block.now in
    let high = c.transform_rows.new.high in let low = c.transform_rows.new.low in
    all_places IsCoefficient c.transform_columns.new.out c.transform_columns.array_long
    (λ v u lv lu. subst IsCoefficient (sym (c.transform_columns.ensures v u lv lu))
    (rounded_within (projection v (λ y. pos 8192 *ℤ at high y u +ℤ at low y u))
    (double_between v (λ y. pos 8192 *ℤ at high y u +ℤ at low y u) lv
    (λ y ly. subst (λ z. (neg_ℤ (pos 5931008) ≤ℤ z) × (z ≤ℤ pos 5919424))
    (sym (joined f c.told-block c.requires y u ly lu _ _ (c.transform_rows.ensures.high y u ly lu) (c.transform_rows.ensures.low y u ly lu)))
    (line_between f c.told-block c.requires y u ly lu)))))
