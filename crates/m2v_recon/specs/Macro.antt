-- The samples of one macroblock (clause 7.6.8): the prediction, and the inverse transform of each block that is coded.
use Rattle.std.specs.Prelude.{ℕ, ◌+◌, ◌-◌, ◌*◌, ◌/◌, ◌%◌, ◌^◌, Bool, true, false, ◌&&◌, nat_eq, nat_lt, if◌then◌else◌, List, [], replicate, slice_index, slice_index_or, ℤ, pos, ◌+ℤ◌, unsigned_abs}
use Rattle.std.specs.Int.{int_max, int_min}
use Rattle.m2v_pred.specs.m2v_plane.declared.planes.Plane.{Plane}
use Rattle.m2v_pred.specs.m2v_plane.declared.planes.Plane.TheVariants.{Y, Cb, Cr}
use Rattle.m2v_pred.specs.m2v_plane.Sizes.{side, columns_of}
use Rattle.m2v_pred.specs.m2v_plane.Samples.{Samples, plane_by}
use Rattle.m2v_quant.specs.declared.kind.BlockKind.{BlockKind}
use Rattle.m2v_quant.specs.Coefficients.{coefficients_of}
use Rattle.m2v_idct.specs.Inverse.{inverse_of}
pub use Rattle.m2v_pred.specs.Predicted.{place_in}

-- where a sample stands among the blocks: the number of its block, and its line and its column there
pub record BlockPlace : Type 0 where
  pub block : ℕ
  pub line : ℕ
  pub column : ℕ

-- Luma has four blocks in raster order; with dct_type 1, blocks 0 and 1 hold its even lines, blocks 2 and 3 its odd ones
-- (clause 6.1.3, figures 6-12 and 6-13). Chroma is never ordered so.
unfoldable pub block_of : Bool → Plane → ℕ → ℕ → BlockPlace
block_of false Y line column = record { block = 2 * (line / 8) + column / 8; line = line % 8; column = column % 8 }
block_of true Y line column = record { block = 2 * (line % 2) + column / 8; line = line / 2; column = column % 8 }
block_of dct_field Cb line column = record { block = 4; line = line; column = column }
block_of dct_field Cr line column = record { block = 5; line = line; column = column }

-- a block is coded where its bit is 1: the highest of the pattern's six bits is that of block 0 (clause 6.3.17.4)
abbrev pub is_coded : ℕ → ℕ → Bool
is_coded pattern block = nat_eq (pattern / 2 ^ (5 - block) % 2) 1

-- luma blocks are of one kind, chroma blocks of another
abbrev pub kind_of : BlockKind → BlockKind → ℕ → BlockKind
kind_of luma chroma block = if nat_lt block 4 then luma else chroma

-- the kind of number k in a list
abbrev pub kind_at : List BlockKind → ℕ → BlockKind
kind_at kinds k =
    slice_index_or kinds k (record { intra = false; luma = false; precision = 0; scale = 0; matrix = []; alternate = false })

-- what is added to the prediction: the inverse transform of the block's coefficients, or nothing where it isn't coded
unfoldable pub residual : List (List ℤ) → ℕ → BlockKind → BlockKind → BlockPlace → ℤ
residual levels pattern luma chroma place =
    if is_coded pattern place.block
    then slice_index_or
    (inverse_of (coefficients_of (slice_index_or levels place.block (replicate 64 (pos 0))) (kind_of luma chroma place.block)))
    (8 * place.line + place.column)
    (pos 0)
    else pos 0

-- the nearest number from 0 to 255
abbrev pub clamped : ℤ → ℕ
clamped z = unsigned_abs (int_max (pos 0) (int_min z (pos 255)))

-- a coded block of an intra macroblock, all of whose blocks are coded, is its results alone: its prediction isn't added,
-- whatever it holds
abbrev pub is_alone : ℕ → BlockKind → BlockKind → BlockPlace → Bool
is_alone pattern luma chroma place = is_coded pattern place.block && (kind_of luma chroma place.block).intra

-- a sample of a macroblock, by its plane, line and column, from the samples of its prediction and the levels of its blocks
unfoldable pub macro_sample : List ℕ → List (List ℤ) → ℕ → BlockKind → BlockKind → Bool → Plane → ℕ → ℕ → ℕ
macro_sample prediction levels pattern luma chroma dct_field plane line column =
    clamped (
    pos (
    if is_alone pattern luma chroma (block_of dct_field plane line column) then 0
    else slice_index prediction (place_in plane line column))
    +ℤ residual levels pattern luma chroma (block_of dct_field plane line column))

-- a plane of so many lines and columns, with one square replaced
unfoldable pub plane_with : ℕ → ℕ → ℕ → ℕ → ℕ → (ℕ → ℕ → ℕ) → List ℕ → List ℕ
plane_with lines columns side row column new old =
    plane_by lines columns
    (λ line c.
    if nat_eq (line / side) row && nat_eq (c / side) column
    then new (line % side) (c % side)
    else slice_index old (line * columns + c))

-- planes of so many macroblock rows, with the macroblock of a row and a column replaced
abbrev pub with_macroblock : ℕ → ℕ → ℕ → (Plane → ℕ → ℕ → ℕ) → Samples → Samples
with_macroblock rows row column new s = record {
  dims = s.dims;
  luma = plane_with (16 * rows) (columns_of s.dims Y) 16 row column (new Y) s.luma;
  cb = plane_with (8 * rows) (columns_of s.dims Cb) 8 row column (new Cb) s.cb;
  cr = plane_with (8 * rows) (columns_of s.dims Cr) 8 row column (new Cr) s.cr;
}
