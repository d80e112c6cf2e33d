-- The frames that the stream of the flat profile stands for: each block is the inverse transform of its DC.
use Rattle.std.specs.Prelude.{ℕ, ◌+◌, ◌*◌, ◌/◌, ◌%◌, true, false, List, ◌∷◌, map, replicate, nat_lt, ℤ, pos, unsigned_abs}
use Rattle.std.specs.Int.{int_max, int_min}
use Rattle.m2v_quant.specs.declared.kind.BlockKind.{BlockKind}
use Rattle.m2v_quant.specs.Scans.{scale_at}
use Rattle.m2v_quant.specs.Matrices.{default_matrix}
use Rattle.m2v_quant.specs.Coefficients.{coefficients_of}
use Rattle.m2v_idct.specs.Block.{at}
use Rattle.m2v_idct.specs.Inverse.{inverse_of}
use Rattle.m2v_plane.specs.declared.planes.Plane.{Plane}
use Rattle.m2v_plane.specs.declared.planes.Plane.TheVariants.{Y, Cb, Cr}
use Rattle.m2v_plane.specs.Sizes.{side}
use Rattle.m2v_plane.specs.Samples.{Samples, plane_by}
use Rattle.m2v_plane.specs.Raw.{pad, crop}
use Rattle.m2v_flat.specs.declared.settings.FlatSettings.{FlatSettings}
use Rattle.m2v_flat.specs.Flat.{level}

-- what a block is coded with: intra, DC precision 8 bits, the linear scale, the default matrix and the zigzag scan
unfoldable pub flat_kind : ℕ → ℕ → BlockKind
flat_kind quantiser block = record {
  intra = true;
  luma = nat_lt block 4;
  precision = 0;
  scale = scale_at false quantiser;
  matrix = default_matrix true;
  alternate = false;
}

-- the levels of a block in scan order: its DC alone
unfoldable pub flat_levels : Samples → ℕ → ℕ → ℕ → List ℤ
flat_levels frame row column block = level frame row column block ∷ replicate 63 (pos 0)

-- which block of its macroblock a sample belongs to, by its line and column in the macroblock
unfoldable pub block_of : Plane → ℕ → ℕ → ℕ
block_of Y line column = 2 * (line / 8) + column / 8
block_of Cb line column = 4
block_of Cr line column = 5

-- a sample that is shown: the result of the inverse transform, kept within 0 to 255 (clause 7.6.8)
abbrev pub clamped : ℤ → ℕ
clamped z = unsigned_abs (int_max (int_min z (pos 255)) (pos 0))

-- the sample of a block in line y and column x
unfoldable pub rebuilt : ℕ → Samples → ℕ → ℕ → ℕ → ℕ → ℕ → ℕ
rebuilt quantiser frame row column block y x =
    clamped (at (inverse_of (coefficients_of (flat_levels frame row column block) (flat_kind quantiser block))) y x)

-- the sample of a plane by line and column
unfoldable pub recon_at : ℕ → Samples → Plane → ℕ → ℕ → ℕ
recon_at quantiser frame plane line column =
    rebuilt quantiser frame (line / side plane) (column / side plane)
    (block_of plane (line % side plane) (column % side plane)) (line % 8) (column % 8)

-- the planes of a frame
unfoldable pub recon_frame : ℕ → Samples → Samples
recon_frame quantiser frame = record {
  dims = frame.dims;
  luma = plane_by (16 * frame.dims.mb_rows) (16 * frame.dims.mb_width) (recon_at quantiser frame Y);
  cb = plane_by (8 * frame.dims.mb_rows) (8 * frame.dims.mb_width) (recon_at quantiser frame Cb);
  cr = plane_by (8 * frame.dims.mb_rows) (8 * frame.dims.mb_width) (recon_at quantiser frame Cr);
}

-- the frames as they are shown
abbrev pub FlatRecon : FlatSettings → List (List ℕ) → List (List ℕ)
FlatRecon s frames = map (λ raw. crop (recon_frame s.quantiser (pad s.dims raw))) frames
