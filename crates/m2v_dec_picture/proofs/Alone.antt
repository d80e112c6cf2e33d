-- An intra macroblock is the same whatever the block held before.
use Rattle.std.proofs.Common.{◌≡◌, ℕ, zero, suc, ◌<◌, Bool, true, false, ◌&&◌, List, [], ◌∷◌, ◌++◌, refl, ap, ◌∙◌, arith, inl, inr, ℤ, pos, ◌+ℤ◌}
use Rattle.std.specs.Prelude.{if◌then◌else◌, slice_index}
use Rattle.std.proofs.lemmas.Bool.{cases_Bool}
use Rattle.m2v_plane.specs.declared.planes.Plane.{Plane}
use Rattle.m2v_plane.specs.declared.planes.Plane.TheVariants.{Y, Cb, Cr}
use Rattle.m2v_plane.specs.Sizes.{side}
use Rattle.m2v_plane.specs.Samples.{plane_by}
use Rattle.m2v_plane.proofs.Places.{plane_is}
use Rattle.m2v_plane.proofs.RawVideo.{plane_at, length-plane_by}
use Rattle.m2v_pred.specs.Predicted.{block_by}
use Rattle.m2v_quant.specs.declared.kind.BlockKind.{BlockKind}
use Rattle.m2v_recon.specs.Macro.{block_of, clamped, is_alone, is_coded, kind_at, kind_of, macro_sample, place_in, residual}
use Rattle.m2v_recon.proofs.Luma.{block_below}
use Rattle.m2v_macro.specs.declared.values.MacroSyntax.{MacroSyntax}
use Rattle.m2v_macro.specs.declared.values.PictureContext.{PictureContext}
use Rattle.m2v_macroblock.specs.Macroblocks.{kind_for}

-- ---- samples that are the same

plane_same : (lines columns : ℕ) (f g : ℕ → ℕ → ℕ) → ((r c : ℕ) → r < lines → c < columns → f r c ≡ g r c) → plane_by lines columns f ≡ plane_by lines columns g
plane_same lines columns f g same =
    plane_is (plane_by lines columns f) lines columns g (length-plane_by lines columns f)
    (λ r c lt small. plane_at lines columns f r c lt small ∙ same r c lt small)

block_same : (f g : Plane → ℕ → ℕ → ℕ) → ((plane : Plane) (r c : ℕ) → r < side plane → c < side plane → f plane r c ≡ g plane r c) → block_by f ≡ block_by g
unfolding block_by
block_same f g same =
    (λ i. plane_same 16 16 (f Y) (g Y) (same Y) i ++ (plane_same 8 8 (f Cb) (g Cb) (same Cb) i ++ plane_same 8 8 (f Cr) (g Cr) (same Cr) i))

-- ---- an intra macroblock

block_in : (field : Bool) (plane : Plane) (r c : ℕ) → r < side plane → c < side plane → (block_of field plane r c).block < 6
unfolding block_of
block_in field Y r c lt small = omega (arith, (block_below field r c lt small).0)
block_in field Cb r c lt small = omega arith
block_in field Cr r c lt small = omega arith

-- all of its blocks are coded, and each is its results alone
all_alone : (luma chroma : BlockKind) (block : ℕ) → block < 6 → luma.intra ≡ true → chroma.intra ≡ true → (is_coded 63 block && (kind_of luma chroma block).intra) ≡ true
all_alone luma chroma zero lt l c = l
all_alone luma chroma (suc zero) lt l c = l
all_alone luma chroma (suc (suc zero)) lt l c = l
all_alone luma chroma (suc (suc (suc zero))) lt l c = l
all_alone luma chroma (suc (suc (suc (suc zero)))) lt l c = c
all_alone luma chroma (suc (suc (suc (suc (suc zero))))) lt l c = c
all_alone luma chroma (suc (suc (suc (suc (suc (suc n)))))) lt l c = absurd (omega (arith, lt))

alone_same : (alone : Bool) → alone ≡ true → (x y : ℕ) (added : ℤ) → clamped (pos (if alone then 0 else x) +ℤ added) ≡ clamped (pos (if alone then 0 else y) +ℤ added)
alone_same true e x y added = refl
alone_same false e x y added = absurd cc

intra_same : (p q : List ℕ) (levels : List (List ℤ)) (luma chroma : BlockKind) (field : Bool) → luma.intra ≡ true → chroma.intra ≡ true
    → block_by (macro_sample p levels 63 luma chroma field) ≡ block_by (macro_sample q levels 63 luma chroma field)
unfolding macro_sample
intra_same p q levels luma chroma field l c =
    block_same (macro_sample p levels 63 luma chroma field) (macro_sample q levels 63 luma chroma field)
    (λ plane row column lt small.
    let place = block_of field plane row column in
    alone_same (is_alone 63 luma chroma place) (all_alone luma chroma place.block (block_in field plane row column lt small) l c)
    (slice_index p (place_in plane row column)) (slice_index q (place_in plane row column)) (residual levels 63 luma chroma place))

-- ---- a macroblock

kind_intra : (c : PictureContext) (intra luma : Bool) (quantiser : ℕ) → intra ≡ true → (kind_for c intra luma quantiser).intra ≡ true
unfolding kind_for
kind_intra c intra luma quantiser e = e

-- a block that holds the prediction of a macroblock that isn't intra, and anything in the place of that of one that is
pub rebuilt_same : (c : PictureContext) (m : MacroSyntax) (quantiser : ℕ) (held prediction : List ℕ) (levels : List (List ℤ)) (kinds : List BlockKind)
    → kinds ≡ kind_for c m.kind.intra true quantiser ∷ kind_for c m.kind.intra false quantiser ∷ []
    → (m.kind.intra ≡ true → m.pattern ≡ 63) → (m.kind.intra ≡ false → held ≡ prediction)
    → block_by (macro_sample held levels m.pattern (kind_at kinds 0) (kind_at kinds 1) m.dct_field)
    ≡ block_by (macro_sample prediction levels m.pattern (kind_at kinds 0) (kind_at kinds 1) m.dct_field)
rebuilt_same c m quantiser held prediction levels kinds is coded same = elim (cases_Bool m.kind.intra) [
  | inl e ↦
      let luma = ap (λ (ks : List BlockKind). (kind_at ks 0).intra) is ∙ kind_intra c m.kind.intra true quantiser e in
      let chroma = ap (λ (ks : List BlockKind). (kind_at ks 1).intra) is ∙ kind_intra c m.kind.intra false quantiser e in
      rw (coded e) (intra_same held prediction levels (kind_at kinds 0) (kind_at kinds 1) m.dct_field luma chroma)
  | inr e ↦ ap (λ (p : List ℕ). block_by (macro_sample p levels m.pattern (kind_at kinds 0) (kind_at kinds 1) m.dct_field)) (same e)
]
