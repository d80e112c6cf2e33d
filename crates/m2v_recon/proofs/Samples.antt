-- The samples of a macroblock's planes.
use Rattle.std.proofs.Common.{◌≡◌, ℕ, ◌+◌, ◌*◌, ◌<◌, ◌^◌, Bool, true, false, ◌&&◌, cond, nat_lt, List, length, get_or, take, drop, refl, ap, sym, ◌∙◌, arith, ℤ, pos, ◌+ℤ◌}
use Rattle.std.proofs.lemmas.Bool.{ne_eqb}
use Rattle.std.proofs.lemmas.List.{get_or-take, get_or-drop}
use Rattle.m2v_pred.specs.m2v_plane.declared.planes.Plane.{Plane}
use Rattle.m2v_pred.specs.m2v_plane.declared.planes.Plane.TheVariants.{Y, Cb, Cr}
use Rattle.m2v_pred.specs.m2v_plane.declared.planes.Lines.TheVariants.{Whole}
use Rattle.m2v_pred.specs.m2v_plane.Sizes.{columns_of}
use Rattle.m2v_pred.specs.m2v_plane.Samples.{Samples, plane_by, plane_with_square, square_of, with_square}
use Rattle.m2v_pred.proofs.m2v_plane.Places.{part_at, plane_is}
use Rattle.m2v_pred.proofs.m2v_plane.Squares.{square_same}
use Rattle.m2v_quant.specs.declared.kind.BlockKind.{BlockKind}
use Rattle.m2v_pred.specs.Predicted.{block_by, place_in}
use Rattle.m2v_pred.proofs.Blocks.{luma_at, blue_at, red_at}
use Rattle.m2v_recon.specs.Macro.{block_of, is_alone, is_coded, kind_at, kind_of, residual, clamped, macro_sample, plane_with, with_macroblock}
use Rattle.m2v_recon.specs.Steps.{own_list, rebuilt}
use Rattle.m2v_recon.proofs.Luma.{block_below, plus_none}

-- luma samples
pub luma_is : (pred : List ℕ) (levels : List (List ℤ)) (pattern : ℕ) (luma chroma : BlockKind) (field : Bool) (samples : List ℕ) → length samples ≡ 256
    → ((l c : ℕ) → l < 16 → c < 16 → get_or samples (16 * l + c) 0
    ≡ clamped (pos (cond (is_alone pattern luma chroma (block_of field Y l c)) 0 (get_or (take 256 pred) (16 * l + c) 0)) +ℤ residual levels pattern luma chroma (block_of field Y l c)))
    → samples ≡ plane_by 16 16 (macro_sample pred levels pattern luma chroma field Y)
unfolding macro_sample
luma_is pred levels pattern luma chroma field samples len are =
    plane_is samples 16 16 (macro_sample pred levels pattern luma chroma field Y) len
    (λ l c lt small.
    let spot : l * 16 + c ≡ 16 * l + c = omega arith in
    ap (λ k. get_or samples k 0) spot ∙ are l c lt small
    ∙ ap (λ (x : ℕ). clamped (pos (cond (is_alone pattern luma chroma (block_of field Y l c)) 0 x) +ℤ residual levels pattern luma chroma (block_of field Y l c)))
    (get_or-take 256 pred (16 * l + c) 0 (omega arith)))

-- a chroma sample stands in its plane's one block, whatever the order of lines
blue_place : (field : Bool) (l c : ℕ) → block_of field Cb l c ≡ record { block = 4; line = l; column = c }
unfolding block_of
blue_place false l c = refl
blue_place true l c = refl

red_place : (field : Bool) (l c : ℕ) → block_of field Cr l c ≡ record { block = 5; line = l; column = c }
unfolding block_of
red_place false l c = refl
red_place true l c = refl

-- chroma samples
module _ (pred : List ℕ) (lists : List (List ℤ)) (kinds : List BlockKind) (pattern : ℕ) (coded field : Bool) (samples : List ℕ) (len : length samples ≡ 64) where
  chroma_is : (plane : Plane) (block : ℕ) (own : List ℕ) → ((l c : ℕ) → block_of field plane l c ≡ record { block = block; line = l; column = c })
      → nat_lt block 4 ≡ false → coded ≡ is_coded pattern block
      → ((l c : ℕ) → l < 8 → c < 8 → get_or own (8 * l + c) 0 ≡ get_or pred (place_in plane l c) 0)
      → ((i : ℕ) → i < 64 → get_or samples i 0 ≡ rebuilt coded (own_list lists block) (kind_at kinds 1) i (get_or own i 0))
      → samples ≡ plane_by 8 8 (macro_sample pred lists pattern (kind_at kinds 0) (kind_at kinds 1) field plane)
  unfolding macro_sample residual
  chroma_is plane block own place chroma told read are =
      plane_is samples 8 8 (macro_sample pred lists pattern (kind_at kinds 0) (kind_at kinds 1) field plane) len
      (λ l c lt small.
      let spot : l * 8 + c ≡ 8 * l + c = omega arith in
      ap (λ k. get_or samples k 0) spot ∙ are (8 * l + c) (omega arith)
      ∙ sym (rw (place l c, chroma, ← told, ← read l c lt small) refl))

  pub blue_is : coded ≡ is_coded pattern 4
      → ((i : ℕ) → i < 64 → get_or samples i 0 ≡ rebuilt coded (own_list lists 4) (kind_at kinds 1) i (get_or (take 64 (drop 256 pred)) i 0))
      → samples ≡ plane_by 8 8 (macro_sample pred lists pattern (kind_at kinds 0) (kind_at kinds 1) field Cb)
  blue_is told are =
      chroma_is Cb 4 (take 64 (drop 256 pred)) (blue_place field) refl told
      (λ l c lt small. part_at pred 256 64 (8 * l + c) (omega arith)) are

  pub red_is : coded ≡ is_coded pattern 5
      → ((i : ℕ) → i < 64 → get_or samples i 0 ≡ rebuilt coded (own_list lists 5) (kind_at kinds 1) i (get_or (drop 64 (drop 256 pred)) i 0))
      → samples ≡ plane_by 8 8 (macro_sample pred lists pattern (kind_at kinds 0) (kind_at kinds 1) field Cr)
  red_is told are =
      chroma_is Cr 5 (drop 64 (drop 256 pred)) (red_place field) refl told
      (λ l c lt small.
      let place : 256 + (64 + (8 * l + c)) ≡ 320 + (8 * l + c) = omega arith in
      get_or-drop 64 (drop 256 pred) (8 * l + c) 0 ∙ get_or-drop 256 pred (64 + (8 * l + c)) 0 ∙ ap (λ k. get_or pred k 0) place)
      are

-- the three squares are the macroblock
pub squares_are : (s : Samples) (column : ℕ) (f : Plane → ℕ → ℕ → ℕ) (xs : List ℕ) → xs ≡ block_by f
    → with_square 1 (with_square 1 (with_square 1 s Y Whole 0 column (square_of 16 (take 256 xs))) Cb Whole 0 column (square_of 8 (take 64 (drop 256 xs))))
    Cr Whole 0 column (square_of 8 (take 64 (drop 320 xs)))
    ≡ with_macroblock 1 0 column f s
unfolding plane_with plane_with_square
squares_are s column f xs is =
    λ i. record {
      dims = s.dims;
      luma = square_same 16 (columns_of s.dims Y) 16 Whole 0 column (square_of 16 (take 256 xs)) (f Y) s.luma (omega arith) (luma_at f xs is) i;
      cb = square_same 8 (columns_of s.dims Cb) 8 Whole 0 column (square_of 8 (take 64 (drop 256 xs))) (f Cb) s.cb (omega arith) (blue_at f xs is) i;
      cr = square_same 8 (columns_of s.dims Cr) 8 Whole 0 column (square_of 8 (take 64 (drop 320 xs))) (f Cr) s.cr (omega arith) (red_at f xs is) i;
    }

-- a macroblock without a coded block is its prediction
none_coded : (b : ℕ) → is_coded 0 b ≡ false
none_coded b = ne_eqb _ _ (λ e. omega (arith, e))

nothing_added : (coded alone : Bool) (x : ℕ) (z : ℤ) → coded ≡ false → x < 2 ^ 8 → x ≡ clamped (pos (cond (coded && alone) 0 x) +ℤ cond coded z (pos 0))
nothing_added true alone x z e lt = absurd cc
nothing_added false alone x z e lt = sym (plus_none x lt)

pub off : (pattern b : ℕ) → pattern ≡ 0 → b < 6 → is_coded pattern b ≡ false
off pattern b none lt = ap (λ p. is_coded p b) none ∙ none_coded b

pub luma_untouched : (xs : List ℕ) (levels : List (List ℤ)) (pattern : ℕ) (luma chroma : BlockKind) (field : Bool) → pattern ≡ 0 → ((i : ℕ) → get_or xs i 0 < 2 ^ 8)
    → (l c : ℕ) → l < 16 → c < 16 → get_or xs (16 * l + c) 0
    ≡ clamped (pos (cond (is_alone pattern luma chroma (block_of field Y l c)) 0 (get_or xs (16 * l + c) 0)) +ℤ residual levels pattern luma chroma (block_of field Y l c))
unfolding residual
luma_untouched xs levels pattern luma chroma field none bytes l c lt small =
    let place = block_of field Y l c in
    nothing_added (is_coded pattern place.block) (kind_of luma chroma place.block).intra _ _
    (off pattern place.block none (omega (arith, (block_below field l c lt small).0))) (bytes (16 * l + c))
