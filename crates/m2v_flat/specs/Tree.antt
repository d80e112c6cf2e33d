-- What stands in the stream of the flat profile: the macroblocks of its slices, its headers, and the states between them.
use Rattle.std.specs.Prelude.{ℕ, zero, suc, ◌+◌, ◌*◌, Bool, true, false, List, [], ◌∷◌, ◌++◌, map, length, Option, Some, ℤ, pos}
use Rattle.std.specs.List.{range_with_len}
use Rattle.m2v_quant.specs.Matrices.{default_matrix}
use Rattle.m2v_vlc.specs.Values.{kind}
use Rattle.m2v_vector.specs.Predictors.{zero as no_predictors}
use Rattle.m2v_macro.specs.declared.values.MacroSyntax.{MacroSyntax}
use Rattle.m2v_macro.specs.declared.values.SliceState.{SliceState}
use Rattle.m2v_macro.specs.declared.values.PictureContext.{PictureContext}
use Rattle.m2v_macro.specs.Macros.{macro_of, no_vectors}
use Rattle.m2v_macro.specs.States.{at_start}
use Rattle.m2v_macroblock.specs.Macroblocks.{Macroblock}
use Rattle.m2v_plane.specs.declared.dims.Dims.{Dims}
use Rattle.m2v_plane.specs.Samples.{Samples}
use Rattle.m2v_plane.specs.Raw.{pad}
use Rattle.m2v_flat.specs.declared.settings.FlatSettings.{FlatSettings}
use Rattle.m2v_flat.specs.Flat.{flat_sequence, flat_sequence_extension, flat_picture, flat_picture_extension, flat_slice, predictors, macroblock_text}
use Rattle.m2v_flat.specs.Recon.{flat_levels}
use Rattle.m2v_model.specs.declared.state.Sequence.{Sequence}
use Rattle.m2v_model.specs.declared.state.Open.{Open}
use Rattle.m2v_model.specs.declared.state.State.{State}
use Rattle.m2v_model.specs.declared.setup.SliceSetup.{SliceSetup}
use Rattle.m2v_model.specs.States.{at_first, begun_open, after_sequence}
use Rattle.m2v_model.specs.Slices.{Slice}
use Rattle.m2v_model.specs.Streams.{Part, sequence, picture, slice, ending}

-- ---- macroblocks

-- what the headers say of a picture of so many columns
abbrev pub flat_context : ℕ → PictureContext
flat_context columns = record {
  kind = 1;
  second = false;
  columns = columns;
  extension = flat_picture_extension;
  intra = default_matrix true;
  non_intra = default_matrix false;
}

-- and what its slices are read by: an I picture has no references
abbrev pub flat_setup : ℕ → Dims → SliceSetup
flat_setup columns d = record { context = flat_context columns; dims = d; references = false ∷ false ∷ false ∷ false ∷ [] }

-- an intra macroblock right behind the one before it
abbrev pub flat_macro : MacroSyntax
flat_macro = macro_of 1 (kind 0 0 0 0 1) 2 false 0 no_vectors no_vectors 63

-- the macroblock of a row and a column
unfoldable pub flat_macroblock : Samples → ℕ → ℕ → Macroblock
flat_macroblock frame row column = record {
  syntax = flat_macro;
  levels =
      flat_levels frame row column 0 ∷ flat_levels frame row column 1 ∷ flat_levels frame row column 2
      ∷ flat_levels frame row column 3 ∷ flat_levels frame row column 4 ∷ flat_levels frame row column 5 ∷ [];
}

-- the DC predictors of a macroblock as a list
abbrev pub predictor_list : Samples → ℕ → ℕ → List ℤ
predictor_list frame row column =
    (predictors frame row column).luma ∷ (predictors frame row column).cb ∷ (predictors frame row column).cr ∷ []

-- a state inside a row, behind the macroblock of a column
abbrev pub state_in_row : ℕ → ℕ → List ℤ → ℕ → ℕ → SliceState
state_in_row quantiser columns dc row column = record {
  quantiser = quantiser;
  dc = dc;
  pmv = no_predictors;
  forward = false;
  backward = false;
  intra = true;
  first = false;
  address = pos (row * columns + column);
  next = row * columns;
}

-- the state in which the blocks of a macroblock are read
unfoldable pub state_inside : ℕ → ℕ → Samples → ℕ → ℕ → SliceState
state_inside quantiser columns frame row column = state_in_row quantiser columns (predictor_list frame row column) row column

-- the state before a macroblock
unfoldable pub state_before : ℕ → ℕ → Samples → ℕ → ℕ → SliceState
state_before quantiser columns frame row zero = at_start (flat_context columns) row quantiser (row * columns)
state_before quantiser columns frame row (suc column) = state_in_row quantiser columns (predictor_list frame row (suc column)) row column

-- ---- slices

-- the macroblocks of a row, n of them from a column on
abbrev pub flat_macroblocks : Samples → ℕ → ℕ → ℕ → List Macroblock
flat_macroblocks frame row from n = map (flat_macroblock frame row) (range_with_len from n)

-- how many bits each of them has
abbrev pub flat_bits : Samples → ℕ → ℕ → ℕ → List ℕ
flat_bits frame row from n = map (λ column. length (macroblock_text frame row column)) (range_with_len from n)

-- the slice of a row of so many columns
unfoldable pub flat_row : ℕ → ℕ → Samples → ℕ → Slice
flat_row quantiser columns frame row = record {
  info = flat_slice quantiser;
  macroblocks = flat_macroblocks frame row 0 columns;
  bits = flat_bits frame row 0 columns;
  covered = row * columns + columns;
}

-- the slices of n rows, from one on
abbrev pub flat_rows : ℕ → ℕ → Samples → ℕ → ℕ → List Part
flat_rows quantiser columns frame from n = map (λ row. slice row (flat_row quantiser columns frame row)) (range_with_len from n)

-- ---- streams

abbrev pub sequence_of : FlatSettings → Sequence
sequence_of s = record { info = flat_sequence s; extension = flat_sequence_extension }

-- the picture number n: whether a slice of it came, the row of the last one, and the address behind it; no macroblock is
-- large
abbrev pub flat_open : ℕ → Bool → ℕ → ℕ → Open
flat_open number has_slice row covered =
    record (begun_open (flat_picture number) flat_picture_extension false false false (false ∷ false ∷ false ∷ false ∷ [])) {
      has_slice = has_slice;
      row = row;
      covered = covered;
    }

-- the picture number n, of which so many rows were read
unfoldable pub open_picture : ℕ → ℕ → ℕ → Open
open_picture columns number zero = flat_open number false 0 0
open_picture columns number (suc row) = flat_open number true row (row * columns + columns)

-- the state behind the headers of the sequence
abbrev pub state_first : FlatSettings → State
state_first s = after_sequence at_first (sequence_of s)

-- a state in which they are in force: so many anchors were counted, and no field waits
abbrev pub state_with : FlatSettings → ℕ → Option Open → State
state_with s anchors open_one = record (state_first s) { anchors = anchors; picture = open_one }

-- the state inside a picture
abbrev pub state_in : FlatSettings → ℕ → ℕ → ℕ → State
state_in s anchors number row = state_with s anchors (Some (open_picture s.dims.mb_width number row))

-- a picture: its headers, and its slices
abbrev pub picture_parts : FlatSettings → ℕ → Samples → List Part
picture_parts s number frame =
    picture (flat_picture number) flat_picture_extension ∷ flat_rows s.quantiser s.dims.mb_width frame 0 s.dims.mb_rows

-- the pictures of raw frames
unfoldable pub pictures_parts : FlatSettings → ℕ → List (List ℕ) → List Part
pictures_parts s number [] = []
pictures_parts s number (raw ∷ frames) = picture_parts s number (pad s.dims raw) ++ pictures_parts s (number + 1) frames

-- all parts of the stream
abbrev pub stream_parts : FlatSettings → List (List ℕ) → List Part
stream_parts s frames = sequence (sequence_of s) ∷ (pictures_parts s 0 frames ++ ending ∷ [])
