-- Samples of a macroblock that agree in each of its blocks are the same.
use Rattle.std.proofs.Common.{◌≡◌, ℕ, ◌+◌, ◌-◌, ◌*◌, ◌/◌, ◌%◌, ◌^◌, ◌<◌, Bool, true, false, inl, inr, List, ◌++◌, length, get_or, ap, sym, ◌∙◌, subst, arith, ℤ}
use Rattle.std.proofs.lemmas.Bool.{cases_lt}
use Rattle.std.proofs.lemmas.List.{ext_get_or, length-append}
use Rattle.m2v_plane.specs.declared.planes.Plane.{Plane}
use Rattle.m2v_plane.specs.declared.planes.Plane.TheVariants.{Y, Cb, Cr}
use Rattle.m2v_plane.specs.Samples.{plane_by}
use Rattle.m2v_plane.proofs.RawVideo.{length-plane_by}
use Rattle.m2v_quant.specs.declared.kind.BlockKind.{BlockKind}
use Rattle.m2v_pred.specs.Predicted.{block_by}
use Rattle.m2v_recon.specs.Macro.{block_of, macro_sample}
use Rattle.m2v_recon.proofs.Luma.{place_again, block_below}
use Rattle.m2v_recon.proofs.Samples.{off}
use Rattle.m2v_macro.specs.declared.values.MacroSyntax.{MacroSyntax}
use Rattle.m2v_macro.specs.States.{after}
use Rattle.m2v_macroblock.specs.Macroblocks.{kind_for}
use Rattle.m2v_macroblock.specs.Predictions.{sample_at}
use Rattle.m2v_choose.specs.declared.task.Task.{Task}
use Rattle.m2v_choose.specs.Decisions.{block_place}
use Rattle.m2v_choose.specs.Trials.{AreAlike, rebuilt_by}
use Rattle.m2v_choose.proofs.PartSquares.{luma_begins, other_alike, alike_back}

pub length_block : (f : Plane → ℕ → ℕ → ℕ) → length (block_by f) ≡ 384
unfolding block_by
length_block f =
    let luma = length-plane_by 16 16 (f Y) in
    let blue = length-plane_by 8 8 (f Cb) in
    let red = length-plane_by 8 8 (f Cr) in
    let back = length-append (plane_by 8 8 (f Cb)) (plane_by 8 8 (f Cr)) in
    let all = length-append (plane_by 16 16 (f Y)) (plane_by 8 8 (f Cb) ++ plane_by 8 8 (f Cr)) in
    omega (arith, luma, blue, red, back, all)

module _ (dct : Bool) (x y : List ℕ) (alike : (b : ℕ) → b < 6 → AreAlike dct b x y) where
  -- a sample of luma
  luma_same : (k : ℕ) → k < 256 → get_or x k 0 ≡ get_or y k 0
  luma_same k lt =
      let l = k / 16 in
      let c = k % 16 in
      let down : l < 16 = omega (arith, lt) in
      let across : c < 16 = omega arith in
      let p = block_of dct Y l c in
      let low = block_below dct l c down across in
      let whole : 16 * l + c ≡ k = omega arith in
      let place : block_place dct p.block (8 * p.line) + p.column ≡ k = ap (λ (n : ℕ). n + p.column) (luma_begins dct p.block p.line low.0) ∙ place_again dct l c down across ∙ whole in
      let few : p.block < 6 = omega (arith, low.0) in
      subst (λ (n : ℕ). get_or x n 0 ≡ get_or y n 0) place ((alike p.block few).at p.line p.column low.1 low.2)

  -- and of chroma
  blue_same : (k : ℕ) → k < 64 → get_or x (256 + k) 0 ≡ get_or y (256 + k) 0
  unfolding block_place
  blue_same k lt =
      let place : block_place dct 4 (8 * (k / 8)) + k % 8 ≡ 256 + k = omega arith in
      subst (λ (n : ℕ). get_or x n 0 ≡ get_or y n 0) place ((alike 4 (omega arith)).at (k / 8) (k % 8) (omega (arith, lt)) (omega arith))

  red_same : (k : ℕ) → k < 64 → get_or x (320 + k) 0 ≡ get_or y (320 + k) 0
  unfolding block_place
  red_same k lt =
      let place : block_place dct 5 (8 * (k / 8)) + k % 8 ≡ 320 + k = omega arith in
      subst (λ (n : ℕ). get_or x n 0 ≡ get_or y n 0) place ((alike 5 (omega arith)).at (k / 8) (k % 8) (omega (arith, lt)) (omega arith))

  each_same : (k : ℕ) → k < 384 → get_or x k 0 ≡ get_or y k 0
  each_same k lt = elim (cases_lt k 256) [
    | inl low ↦ luma_same k low
    | inr high ↦
        elim (cases_lt k 320) [
          | inl less ↦ let at : 256 + (k - 256) ≡ k = omega (arith, high) in subst (λ (n : ℕ). get_or x n 0 ≡ get_or y n 0) at (blue_same (k - 256) (omega (arith, high, less)))
          | inr more ↦ let at : 320 + (k - 320) ≡ k = omega (arith, more) in subst (λ (n : ℕ). get_or x n 0 ≡ get_or y n 0) at (red_same (k - 320) (omega (arith, more, lt)))
        ]
  ]

  pub all_alike : length x ≡ 384 → length y ≡ 384 → x ≡ y
  all_alike long other = ext_get_or 0 x y (long ∙ sym other) (λ k lt. each_same k (omega (arith, lt, long)))

-- a macroblock without a coded block is its prediction
pub still_block : (dct : Bool) (p : List ℕ) (ls : List (List ℤ)) (pattern : ℕ) (luma chroma : BlockKind) → length p ≡ 384 → ((k : ℕ) → get_or p k 0 < 2 ^ 8) → pattern ≡ 0
    → p ≡ block_by (macro_sample p ls pattern luma chroma dct)
still_block dct p ls pattern luma chroma long bytes none =
    let x = block_by (macro_sample p ls pattern luma chroma dct) in
    all_alike dct p x (λ b lt. alike_back dct b x p (other_alike dct p ls pattern luma chroma b lt (off pattern b none lt) bytes)) long (length_block (macro_sample p ls pattern luma chroma dct))

pub still_samples : (t : Task) (p : List ℕ) (m : MacroSyntax) (ls : List (List ℤ)) → length p ≡ 384 → ((k : ℕ) → get_or p k 0 < 2 ^ 8) → m.pattern ≡ 0
    → p ≡ rebuilt_by t p (record { syntax = m; levels = ls })
unfolding rebuilt_by sample_at
still_samples t p m ls long bytes none =
    let q = (after t.context.now t.state.now m).quantiser in
    still_block m.dct_field p ls m.pattern (kind_for t.context.now m.kind.intra true q) (kind_for t.context.now m.kind.intra false q) long bytes none
