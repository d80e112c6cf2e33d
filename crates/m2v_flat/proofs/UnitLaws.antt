-- How long the units of the flat profile are.
use Rattle.std.proofs.Common.{◌≡◌, ℕ, ◌+◌, ◌≤◌, ◌++◌, length, refl, arith}
use Rattle.std.proofs.lemmas.List.{length-append}
use Rattle.m2v_bits.specs.Bits.{bits_of, unit}
use Rattle.m2v_bits.proofs.Units.{start_length, unit_length}
use Rattle.m2v_head.specs.Texts.{sequence_text, sequence_extension_text, rates_text, picture_text, picture_extension_text, directions_text, flags_text, composite_text, slice_text, intra_slice_text, loaded_text}
use Rattle.m2v_plane.specs.Samples.{Samples}
use Rattle.m2v_bits.proofs.Texts.{texts_most}
use Rattle.m2v_flat.proofs.Lengths.{row_most}
use Rattle.m2v_flat.specs.declared.settings.FlatSettings.{FlatSettings}
use Rattle.m2v_flat.specs.Flat.{flat_sequence, flat_sequence_extension, flat_picture, flat_picture_extension, flat_slice, row_text, slice_unit, slices_units, sequence_units, picture_units}

pub sequence_length : (s : FlatSettings) → length (sequence_text (flat_sequence s)) ≡ 64
unfolding sequence_text loaded_text bits_of
sequence_length s = refl

pub sequence_extension_length : length (sequence_extension_text flat_sequence_extension) ≡ 48
unfolding sequence_extension_text rates_text bits_of
sequence_extension_length = refl

pub picture_length : (n : ℕ) → length (picture_text (flat_picture n)) ≡ 30
unfolding picture_text directions_text bits_of
picture_length n = refl

pub picture_extension_length : length (picture_extension_text flat_picture_extension) ≡ 34
unfolding picture_extension_text flags_text composite_text bits_of
picture_extension_length = refl

pub slice_length : (q : ℕ) → length (slice_text (flat_slice q)) ≡ 6
unfolding slice_text intra_slice_text bits_of
slice_length q = refl

pub ruleset units = (unit_length, sequence_length, sequence_extension_length, picture_length, picture_extension_length, slice_length)

pub sequence_most : (s : FlatSettings) → length (sequence_units s) ≤ 256
unfolding sequence_units
sequence_most s = omega (arith, length-append (unit 0xB3 (sequence_text (flat_sequence s))) (unit 0xB5 (sequence_extension_text flat_sequence_extension)), unit_length 0xB3 (sequence_text (flat_sequence s)), unit_length 0xB5 (sequence_extension_text flat_sequence_extension), sequence_length s, sequence_extension_length)

-- a slice, by the macroblocks of its row
pub slice_most : (quantiser : ℕ) (frame : Samples) (row : ℕ) → frame.dims.mb_width ≤ 45 → length (slice_unit quantiser frame row) ≤ 7264
unfolding slice_unit
slice_most quantiser frame row wide =
    let t = slice_text (flat_slice quantiser) in
    omega (arith, unit_length (row + 1) (t ++ row_text frame row), length-append t (row_text frame row), slice_length quantiser, row_most frame row)

-- the slices of a picture, and the picture with its headers
slices_most : (quantiser : ℕ) (frame : Samples) → frame.dims.mb_rows ≤ 36 → frame.dims.mb_width ≤ 45 → length (slices_units quantiser frame) ≤ 261504
unfolding slices_units
slices_most quantiser frame few wide =
    omega (arith, texts_most (slice_unit quantiser frame) 7264 (λ row. slice_most quantiser frame row wide) frame.dims.mb_rows, few)

pub picture_most : (s : FlatSettings) (number : ℕ) (frame : Samples) → frame.dims.mb_rows ≤ 36 → frame.dims.mb_width ≤ 45
    → length (picture_units s number frame) ≤ 261760
unfolding picture_units
picture_most s number frame few wide =
    let p = picture_text (flat_picture number) in
    let e = picture_extension_text flat_picture_extension in
    let slices = slices_units s.quantiser frame in
    let whole = length-append (unit 0x00 p) (unit 0xB5 e ++ slices) in
    let later = length-append (unit 0xB5 e) slices in
    let most = slices_most s.quantiser frame few wide in
    omega (arith, whole, later, most, unit_length 0x00 p, unit_length 0xB5 e, picture_length number, picture_extension_length)
