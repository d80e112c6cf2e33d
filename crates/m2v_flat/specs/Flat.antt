-- The flat profile: a progressive sequence of I pictures, one for each raw frame. A picture has one slice for each
-- macroblock row, and each block is coded by its DC alone.
use Rattle.std.specs.Prelude.{ℕ, zero, suc, ◌+◌, ◌-◌, ◌*◌, ◌/◌, ◌%◌, Bool, true, false, ◌&&◌, List, [], ◌∷◌, map, None, nat_lt, nat_eq, if◌then◌else◌, ℤ, pos, ◌-ℤ◌}
use Rattle.std.specs.List.{flat_map, range_with_len}
use Rattle.m2v_bits.specs.Bits.{bits_of, packed, ◌⧺◌, start_code, unit}
use Rattle.m2v_quant.specs.Quantiser.{dc_level}
use Rattle.m2v_idct.specs.Forward.{forward_at}
use Rattle.m2v_vlc.specs.declared.values.Increment.TheVariants.{Step}
use Rattle.m2v_vlc.specs.Tables.{increment_code, type_i_code}
use Rattle.m2v_vlc.specs.Values.{kind}
use Rattle.m2v_head.specs.declared.sequence.SequenceInfo.{SequenceInfo}
use Rattle.m2v_head.specs.declared.sequence.SequenceExtension.{SequenceExtension}
use Rattle.m2v_head.specs.declared.picture.PictureInfo.{PictureInfo}
use Rattle.m2v_head.specs.declared.picture.PictureExtension.{PictureExtension}
use Rattle.m2v_head.specs.declared.slice.SliceInfo.{SliceInfo}
use Rattle.m2v_head.specs.Texts.{sequence_text, sequence_extension_text, picture_text, picture_extension_text, slice_text}
use Rattle.m2v_block.specs.Dc.{dc_text}
use Rattle.m2v_plane.specs.declared.planes.Plane.{Plane}
use Rattle.m2v_plane.specs.declared.planes.Plane.TheVariants.{Y, Cb, Cr}
use Rattle.m2v_plane.specs.Samples.{Samples, sample_of}
use Rattle.m2v_plane.specs.Raw.{pad}
use Rattle.m2v_model.specs.Plain.{plain_sequence, plain_sequence_extension, plain_picture, plain_picture_extension}
use Rattle.m2v_flat.specs.declared.settings.FlatSettings.{FlatSettings}
use Rattle.m2v_flat.specs.declared.writing.macroblocks.Predictors.{Predictors}

-- ---- headers

-- the sizes fit their 12 bits
abbrev pub flat_sequence : FlatSettings → SequenceInfo
flat_sequence s = plain_sequence s.dims.width s.dims.height s.rate_code

-- 72 is Main profile at Main level
abbrev pub flat_sequence_extension : SequenceExtension
flat_sequence_extension = plain_sequence_extension 72 true

-- temporal references count modulo 1024
abbrev pub flat_picture : ℕ → PictureInfo
flat_picture number = plain_picture (number % 1024)

abbrev pub flat_picture_extension : PictureExtension
flat_picture_extension = plain_picture_extension

abbrev pub flat_slice : ℕ → SliceInfo
flat_slice quantiser = record { quantiser = quantiser; intra_slice = None; reserved = 0 }

-- ---- blocks

-- the plane of a block of a macroblock: blocks 0 to 3 are luma, in raster order, 4 is Cb and 5 is Cr (clause 6.1.3)
unfoldable pub block_plane : ℕ → Plane
block_plane block = if nat_lt block 4 then Y else (if nat_eq block 4 then Cb else Cr)

-- the line of its plane where a block begins, by the macroblock's row
unfoldable pub block_line : ℕ → ℕ → ℕ
block_line row block = if nat_lt block 4 then 16 * row + 8 * (block / 2) else 8 * row

-- the column of its plane where a block begins, by the macroblock's column
unfoldable pub block_column : ℕ → ℕ → ℕ
block_column column block = if nat_lt block 4 then 16 * column + 8 * (block % 2) else 8 * column

-- the 64 samples of eight lines and eight columns of a plane
unfoldable pub samples_at : Samples → Plane → ℕ → ℕ → List ℤ
samples_at frame plane line column =
    map (λ k. pos (sample_of frame plane (line + k / 8) (column + k % 8))) (range_with_len 0 64)

-- the level of a block's DC
unfoldable pub level : Samples → ℕ → ℕ → ℕ → ℤ
level frame row column block =
    dc_level (forward_at (samples_at frame (block_plane block) (block_line row block) (block_column column block)) 0 0)

-- the predictors of DC as a macroblock begins: the levels of the last block of each component in the macroblock before,
-- and 2 ^ 7 where the slice begins (clause 7.2.1)
unfoldable pub predictors : Samples → ℕ → ℕ → Predictors
predictors frame row zero = record { luma = pos 128; cb = pos 128; cr = pos 128 }
predictors frame row (suc column) =
    record { luma = level frame row column 3; cb = level frame row column 4; cr = level frame row column 5 }

-- the predictor of a block: of the second to the fourth luma block the level of the one before
unfoldable pub predictor : Samples → ℕ → ℕ → ℕ → ℤ
predictor frame row column block =
    if nat_lt 0 block && nat_lt block 4 then level frame row column (block - 1)
    else (if nat_eq block 0 then (predictors frame row column).luma
    else (if nat_eq block 4 then (predictors frame row column).cb
    else (predictors frame row column).cr))

-- the code of end of block in table B.14
abbrev pub end_of_block : List Bool
end_of_block = bits_of 2 2

-- a block: its DC difference, and the end of the block
unfoldable pub block_text : Samples → ℕ → ℕ → ℕ → List Bool
block_text frame row column block =
    dc_text (nat_lt block 4) (level frame row column block -ℤ predictor frame row column block)
    ⧺ end_of_block

-- ---- pictures

-- the six blocks of a macroblock
unfoldable pub blocks_text : Samples → ℕ → ℕ → List Bool
blocks_text frame row column = flat_map (block_text frame row column) (range_with_len 0 6)

-- an intra macroblock right behind the one before it, or the first of its row, and its six blocks
unfoldable pub macroblock_text : Samples → ℕ → ℕ → List Bool
macroblock_text frame row column =
    increment_code (Step 1)
    ⧺ type_i_code (kind 0 0 0 0 1)
    ⧺ blocks_text frame row column

-- the macroblocks of a row, from left to right
unfoldable pub row_text : Samples → ℕ → List Bool
row_text frame row = flat_map (macroblock_text frame row) (range_with_len 0 frame.dims.mb_width)

-- the slice of a macroblock row; its start code is the row's number from 1 (clause 6.3.16)
unfoldable pub slice_unit : ℕ → Samples → ℕ → List Bool
slice_unit quantiser frame row = unit (row + 1) (slice_text (flat_slice quantiser) ⧺ row_text frame row)

-- the slices of a picture, from the top
unfoldable pub slices_units : ℕ → Samples → List Bool
slices_units quantiser frame = flat_map (slice_unit quantiser frame) (range_with_len 0 frame.dims.mb_rows)

-- the headers before the first picture
unfoldable pub sequence_units : FlatSettings → List Bool
sequence_units s =
    unit 0xB3 (sequence_text (flat_sequence s))
    ⧺ unit 0xB5 (sequence_extension_text flat_sequence_extension)

-- a picture: its headers, and its slices
unfoldable pub picture_units : FlatSettings → ℕ → Samples → List Bool
picture_units s number frame =
    unit 0x00 (picture_text (flat_picture number))
    ⧺ unit 0xB5 (picture_extension_text flat_picture_extension)
    ⧺ slices_units s.quantiser frame

-- ---- streams

-- the pictures of raw frames that are numbered from a number on; the edges of each frame are repeated up to whole
-- macroblocks
unfoldable pub pictures_from : FlatSettings → ℕ → List (List ℕ) → List Bool
pictures_from s number [] = []
pictures_from s number (raw ∷ frames) =
    picture_units s number (pad s.dims raw)
    ⧺ pictures_from s (number + 1) frames

-- what stands of the stream once some frames were read: the headers belong to the first of them
unfoldable pub begun_text : FlatSettings → List (List ℕ) → List Bool
begun_text s [] = []
begun_text s (raw ∷ frames) = sequence_units s ⧺ pictures_from s 0 (raw ∷ frames)

-- the stream of some frames: headers, pictures and the sequence end code; no frames have no stream
unfoldable pub flat_text : FlatSettings → List (List ℕ) → List Bool
flat_text s [] = []
flat_text s (raw ∷ frames) = sequence_units s ⧺ pictures_from s 0 (raw ∷ frames) ⧺ start_code 0xB7

-- the bytes of the stream, and those of it without its end code
abbrev pub Flat : FlatSettings → List (List ℕ) → List ℕ
Flat s frames = packed (flat_text s frames)

abbrev pub FlatBegun : FlatSettings → List (List ℕ) → List ℕ
FlatBegun s frames = packed (begun_text s frames)

-- what one frame brings: the first one the headers of the sequence too
unfoldable pub frame_units : FlatSettings → ℕ → Samples → List Bool
frame_units s number frame = (if nat_eq number 0 then sequence_units s else []) ⧺ picture_units s number frame

abbrev pub FlatFrame : FlatSettings → ℕ → List ℕ → List ℕ
FlatFrame s number raw = packed (frame_units s number (pad s.dims raw))
