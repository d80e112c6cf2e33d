-- The blocks of a macroblock and the macroblocks of a row, one after another, and how long they are at most.
use Rattle.std.proofs.Common.{◌≡◌, ℕ, ◌+◌, ◌*◌, ◌<◌, ◌≤◌, Bool, List, [], ◌++◌, length, sym, ap, ◌∙◌, arith, append_assoc}
use Rattle.std.specs.Prelude.{◌-ℤ◌, nat_lt}
use Rattle.std.specs.List.{flat_map, range_with_len}
use Rattle.std.proofs.lemmas.List.{length-append}
use Rattle.m2v_bits.specs.Bits.{bits_of}
use Rattle.m2v_bits.proofs.Bits.{length-bits_of}
use Rattle.m2v_vlc.specs.declared.values.Increment.TheVariants.{Step}
use Rattle.m2v_vlc.specs.Codes.{code_of}
use Rattle.m2v_vlc.specs.Tables.{type_i, increment_code, type_i_code}
use Rattle.m2v_vlc.specs.Values.{kind}
use Rattle.m2v_vlc.proofs.Increments.{increment_length}
use Rattle.m2v_vlc.proofs.MbTypes.{type_i_length}
use Rattle.m2v_block.specs.Dc.{dc_text}
use Rattle.m2v_block.proofs.Numbers.{dc_length}
use Rattle.m2v_plane.specs.Samples.{Samples}
use Rattle.m2v_bits.proofs.Texts.{texts_more, texts_most}
use Rattle.m2v_flat.specs.Flat.{level, predictor, block_text, blocks_text, end_of_block, macroblock_text, row_text, slice_unit, slices_units}

pub block_length : (frame : Samples) (row column block : ℕ) → length (block_text frame row column block) ≤ 24
unfolding block_text
block_length frame row column block =
    omega (arith, length-append (dc_text (nat_lt block 4) (level frame row column block -ℤ predictor frame row column block)) end_of_block, dc_length (nat_lt block 4) (level frame row column block -ℤ predictor frame row column block), length-bits_of 2 2)

pub blocks_length : (frame : Samples) (row column : ℕ) → length (blocks_text frame row column) ≤ 144
unfolding blocks_text
blocks_length frame row column = texts_most (block_text frame row column) 24 (block_length frame row column) 6

-- the luma blocks, and the two others behind them
pub six_blocks : (frame : Samples) (row column : ℕ) (before : List Bool)
    → (before ++ flat_map (block_text frame row column) (range_with_len 0 4)) ++ block_text frame row column 4 ++ block_text frame row column 5 ≡ before ++ blocks_text frame row column
unfolding blocks_text
six_blocks frame row column before =
    let text = block_text frame row column in
    let four = flat_map text (range_with_len 0 4) in
    let five : four ++ text 4 ≡ flat_map text (range_with_len 0 5) = sym (texts_more text 4) in
    let six : flat_map text (range_with_len 0 5) ++ text 5 ≡ flat_map text (range_with_len 0 6) = sym (texts_more text 5) in
    append_assoc (before ++ four) (text 4) (text 5)
    ∙ append_assoc before four (text 4 ++ text 5)
    ∙ ap (λ (t : List Bool). before ++ t) (sym (append_assoc four (text 4) (text 5)) ∙ ap (λ (t : List Bool). t ++ text 5) five ∙ six)

pub six_lengths : (frame : Samples) (row column : ℕ)
    → length (flat_map (block_text frame row column) (range_with_len 0 4)) + length (block_text frame row column 4) + length (block_text frame row column 5) ≡ length (blocks_text frame row column)
six_lengths frame row column =
    let text = block_text frame row column in
    let four = flat_map text (range_with_len 0 4) in
    omega (arith, ap length (six_blocks frame row column []), length-append (([] ++ four) ++ text 4) (text 5), length-append ([] ++ four) (text 4))

pub macroblock_most : (frame : Samples) (row column : ℕ) → length (macroblock_text frame row column) ≤ 157
unfolding macroblock_text
macroblock_most frame row column =
    let i = increment_code (Step 1) in
    let t = type_i_code (kind 0 0 0 0 1) in
    let b = blocks_text frame row column in
    omega (arith, length-append i (t ++ b), length-append t b, increment_length (Step 1), type_i_length (kind 0 0 0 0 1), blocks_length frame row column)

pub row_most : (frame : Samples) (row : ℕ) → length (row_text frame row) ≤ 157 * frame.dims.mb_width
unfolding row_text
row_most frame row = texts_most (macroblock_text frame row) 157 (macroblock_most frame row) frame.dims.mb_width

-- all macroblocks of a row
pub row_is : (frame : Samples) (row n : ℕ) → n ≡ frame.dims.mb_width → flat_map (macroblock_text frame row) (range_with_len 0 n) ≡ row_text frame row
unfolding row_text
row_is frame row n is = ap (λ (m : ℕ). flat_map (macroblock_text frame row) (range_with_len 0 m)) is

-- all slices of a picture
pub slices_are : (quantiser : ℕ) (frame : Samples) (n : ℕ) → n ≡ frame.dims.mb_rows → flat_map (slice_unit quantiser frame) (range_with_len 0 n) ≡ slices_units quantiser frame
unfolding slices_units
slices_are quantiser frame n is = ap (λ (m : ℕ). flat_map (slice_unit quantiser frame) (range_with_len 0 m)) is

pub intra_known : 0 < length (type_i_code (kind 0 0 0 0 1))
unfolding type_i code_of bits_of
intra_known = omega arith
