-- A macroblock's planes one by one.
use Rattle.std.specs.Prelude.{ℕ, ◌≡◌, ◌≢◌, ◌+◌, ◌*◌, ◌/◌, ◌%◌, ◌<◌, Bool, true, false, ◌&&◌, if◌then◌else◌, List, [], map, replicate, slice_index, slice_index_or, ℤ, pos, ◌+ℤ◌}
use Rattle.m2v_pred.specs.m2v_plane.declared.planes.Plane.TheVariants.{Y}
use Rattle.m2v_quant.specs.declared.kind.BlockKind.{BlockKind}
use Rattle.m2v_quant.specs.declared.kind.Levels.{Levels}
use Rattle.m2v_quant.specs.Coefficients.{coefficients_of}
use Rattle.m2v_idct.specs.Block.{nth}
use Rattle.m2v_idct.specs.Inverse.{clip, inverse_of}
use Rattle.m2v_recon.specs.Macro.{clamped, block_of, is_alone, kind_at, residual}

-- the line of luma that line k of a luma block is
abbrev pub luma_line : Bool → ℕ → ℕ → ℕ
luma_line false block k = 8 * (block / 2) + k
luma_line true block k = 2 * k + block / 2

-- where line k of a luma block begins in 16 lines of 16
abbrev pub luma_place : Bool → ℕ → ℕ → ℕ
luma_place dct_field block k = 16 * luma_line dct_field block k + 8 * (block % 2)

-- the differences of a block's levels, or none where it isn't coded
abbrev pub difference_at : Bool → List ℤ → BlockKind → ℕ → ℤ
difference_at coded levels kind place = if coded then slice_index_or (inverse_of (coefficients_of levels kind)) place (pos 0) else pos 0

-- a sample and its difference, the difference alone in a coded intra block
abbrev pub rebuilt : Bool → List ℤ → BlockKind → ℕ → ℕ → ℕ
rebuilt coded levels kind place sample =
    clamped (pos (if coded && kind.intra then 0 else sample) +ℤ difference_at coded levels kind place)

-- a luma block's differences are added to 16 lines of 16 samples, or stand in their place, and the others stay
pub record AddsBlock (field intra : Bool) (block : ℕ) (values : List ℤ) (old new : List ℕ) : Type 0 where
  pub lines : (k j : ℕ) → k < 8 → j < 8 → slice_index new (luma_place field block k + j)
      ≡ clamped (pos (if intra then 0 else slice_index old (luma_place field block k + j)) +ℤ clip (nth values (8 * k + j)))
  pub rest : (i : ℕ) → ((k j : ℕ) → k < 8 → j < 8 → i ≢ luma_place field block k + j) → slice_index new i ≡ slice_index old i

-- 16 lines of 16 samples are those of luma, by the samples of a prediction
pub record AreRebuilt (levels : List (List ℤ)) (pattern : ℕ) (kinds : List BlockKind) (field : Bool) (old new : List ℕ) : Type 0 where
  pub sample : (l c : ℕ) → l < 16 → c < 16 → slice_index new (16 * l + c)
      ≡ clamped (pos (if is_alone pattern (kind_at kinds 0) (kind_at kinds 1) (block_of field Y l c) then 0 else slice_index old (16 * l + c))
      +ℤ residual levels pattern (kind_at kinds 0) (kind_at kinds 1) (block_of field Y l c))

-- the levels of each block
abbrev pub levels_of : List Levels → List (List ℤ)
levels_of levels = map (λ l. l.at) levels

-- the levels of block k
abbrev pub own_list : List (List ℤ) → ℕ → List ℤ
own_list lists k = slice_index_or lists k (replicate 64 (pos 0))

-- the levels of number k
abbrev pub level_list : List Levels → ℕ → List ℤ
level_list levels k = (slice_index_or levels k (record { at = [] })).at
