-- No prefix of a start code stands in the texts of the flat profile.
use Rattle.std.proofs.Common.{◌≡◌, ℕ, ◌+◌, ◌%◌, ◌<◌, ◌≤◌, Bool, true, false, List, [], ◌∷◌, ◌++◌, length, refl, sym, subst, arith, inl, inr}
use Rattle.std.specs.Prelude.{nat_lt, ◌-ℤ◌, ℤ, unsigned_abs}
use Rattle.std.proofs.lemmas.Bool.{cases_eq}
use Rattle.std.proofs.lemmas.List.{length-append}
use Rattle.m2v_bits.specs.Bits.{bits_of}
use Rattle.m2v_bits.proofs.Bits.{length-bits_of}
use Rattle.m2v_vlc.specs.declared.values.Increment.TheVariants.{Step}
use Rattle.m2v_vlc.specs.Codes.{code_of}
use Rattle.m2v_vlc.specs.Tables.{increment, type_i, dc_luma, dc_chroma, increment_code, type_i_code}
use Rattle.m2v_vlc.specs.Values.{kind, same_increment}
use Rattle.m2v_block.specs.Dc.{size_of, number_of, size_code, dc_text}
use Rattle.m2v_block.proofs.Numbers.{size_most, code_most}
use Rattle.m2v_head.specs.Texts.{sequence_text, sequence_extension_text, rates_text, picture_text, picture_extension_text, directions_text, flags_text, composite_text, slice_text, loaded_text}
use Rattle.m2v_plane.specs.Samples.{Samples}
use Rattle.m2v_flat.specs.declared.settings.FlatSettings.{FlatSettings}
use Rattle.m2v_flat.specs.Flat.{flat_sequence, flat_sequence_extension, flat_picture, flat_picture_extension, flat_slice, level, predictor, block_text, blocks_text, end_of_block, macroblock_text, row_text}
use Rattle.m2v_flat.proofs.UnitLaws.{sequence_extension_length, slice_length}
use Rattle.m2v_model.specs.Texts.{Calm, IsCalm}
use Rattle.m2v_model.proofs.Calm.{calm_more, calm_less, calm_then, calm_any, calm_one, some_one, calm_end, calm_whole, calm_texts}

-- ---- blocks

no_code : (luma : Bool) → length (size_code luma 12) ≡ 0
unfolding size_code code_of dc_luma dc_chroma
no_code true = refl
no_code false = refl

-- a size and the number behind it have at most 21 bits
size_bits : (luma : Bool) (size : ℕ) → size ≤ 12 → length (size_code luma size) + size ≤ 21
size_bits luma size le = elim (cases_eq size 12) [
  | inl e ↦ subst (λ (n : ℕ). length (size_code luma n) + n ≤ 21) (sym e) (omega (arith, no_code luma))
  | inr other ↦ omega (arith, code_most luma size)
]

dc_bits : (luma : Bool) (d : ℤ) → length (dc_text luma d) ≤ 21
unfolding dc_text
dc_bits luma d =
    let size = size_of (unsigned_abs d) in
    omega (arith, length-append (size_code luma size) (bits_of size (number_of size d)), length-bits_of size (number_of size d), size_bits luma size (size_most (unsigned_abs d)))

calm_eob : Calm 0 end_of_block 21
unfolding bits_of
calm_eob = omega arith

calm_block : (frame : Samples) (row column block : ℕ) → Calm 21 (block_text frame row column block) 21
unfolding block_text
calm_block frame row column block =
    let dc = dc_text (nat_lt block 4) (level frame row column block -ℤ predictor frame row column block) in
    let few = dc_bits (nat_lt block 4) (level frame row column block -ℤ predictor frame row column block) in
    calm_then dc end_of_block 21 0 21 (calm_any dc 21 0 (omega arith) (omega arith)) calm_eob

-- ---- macroblocks

calm_blocks : (frame : Samples) (row column : ℕ) → Calm 21 (blocks_text frame row column) 21
unfolding blocks_text
calm_blocks frame row column = calm_texts (block_text frame row column) 21 (calm_block frame row column) 0 6

calm_start : (t : List Bool) → Calm 21 t 21 → Calm 16 (increment_code (Step 1) ++ (type_i_code (kind 0 0 0 0 1) ++ t)) 16
unfolding code_of increment type_i bits_of same_increment
calm_start t h = calm_more t 21 22 16 (omega arith) (calm_less t 21 21 16 (omega arith) h)

calm_macroblock : (frame : Samples) (row column : ℕ) → Calm 16 (macroblock_text frame row column) 16
unfolding macroblock_text
calm_macroblock frame row column = calm_start (blocks_text frame row column) (calm_blocks frame row column)

calm_row : (frame : Samples) (row : ℕ) → Calm 16 (row_text frame row) 16
unfolding row_text
calm_row frame row = calm_texts (macroblock_text frame row) 16 (calm_macroblock frame row) 0 frame.dims.mb_width

pub slice_calm : (quantiser : ℕ) (frame : Samples) (row : ℕ) → IsCalm (slice_text (flat_slice quantiser) ++ row_text frame row)
slice_calm quantiser frame row =
    let head = slice_text (flat_slice quantiser) in
    let few : length head ≡ 6 = slice_length quantiser in
    calm_end (head ++ row_text frame row)
    (calm_less (head ++ row_text frame row) 22 16 7 (omega arith)
    (calm_then head (row_text frame row) 22 16 16 (calm_any head 22 16 (omega arith) (omega arith)) (calm_row frame row)))

-- ---- headers

-- what stands behind the sizes: an aspect of 1, a frame rate, and numbers that are known
abbrev known : List Bool
known = bits_of 18 37500 ++ (true ∷ (bits_of 10 112 ++ (false ∷ false ∷ false ∷ [])))

calm_known : Calm 18 known 7
unfolding bits_of
calm_known = omega arith

calm_aspect : Calm 11 (bits_of 4 1) 22
unfolding bits_of
calm_aspect = omega arith

sequence_is : (s : FlatSettings) → sequence_text (flat_sequence s) ≡ bits_of 12 s.dims.width ++ (bits_of 12 s.dims.height ++ (bits_of 4 1 ++ (bits_of 4 s.rate_code ++ known)))
unfolding sequence_text loaded_text
sequence_is s = refl

calm_size : (k n : ℕ) → 11 ≤ k → 1 ≤ n → n < 4096 → Calm k (bits_of 12 n) 11
calm_size k n le some below =
    let len = length-bits_of 12 n in
    calm_one (bits_of 12 n) k 11 (some_one 12 n (omega arith) (omega arith)) (omega arith) (omega arith)

pub sequence_calm : (s : FlatSettings) → 1 ≤ s.dims.width → s.dims.width < 4096 → 1 ≤ s.dims.height → s.dims.height < 4096 → IsCalm (sequence_text (flat_sequence s))
sequence_calm s wide width tall height =
    let w = bits_of 12 s.dims.width in
    let h = bits_of 12 s.dims.height in
    let a = bits_of 4 1 in
    let r = bits_of 4 s.rate_code in
    let few : length r ≡ 4 = length-bits_of 4 s.rate_code in
    calm_end (sequence_text (flat_sequence s)) (subst (λ (t : List Bool). Calm 22 t 7) (sym (sequence_is s))
    (calm_then w (h ++ (a ++ (r ++ known))) 22 11 7 (calm_size 22 s.dims.width (omega arith) wide width)
    (calm_then h (a ++ (r ++ known)) 11 11 7 (calm_size 11 s.dims.height (omega arith) tall height)
    (calm_then a (r ++ known) 11 22 7 calm_aspect
    (calm_then r known 22 18 7 (calm_any r 22 18 (omega arith) (omega arith)) calm_known)))))

extension_calm : Calm 22 (sequence_extension_text flat_sequence_extension) 6
unfolding sequence_extension_text rates_text bits_of
extension_calm = omega arith

pub sequence_extension_calm : IsCalm (sequence_extension_text flat_sequence_extension)
sequence_extension_calm = calm_whole (sequence_extension_text flat_sequence_extension) (omega (arith, sequence_extension_length)) extension_calm

coding_calm : Calm 22 (picture_extension_text flat_picture_extension) 7
unfolding picture_extension_text flags_text composite_text bits_of
coding_calm = omega arith

pub picture_extension_calm : IsCalm (picture_extension_text flat_picture_extension)
picture_extension_calm = calm_end (picture_extension_text flat_picture_extension) coding_calm

-- behind the temporal reference
calm_kind : Calm 12 (bits_of 3 1 ++ (bits_of 16 65535 ++ (false ∷ []))) 7
unfolding bits_of
calm_kind = omega arith

picture_is : (n : ℕ) → picture_text (flat_picture n) ≡ bits_of 10 (n % 1024) ++ (bits_of 3 1 ++ (bits_of 16 65535 ++ (false ∷ [])))
unfolding picture_text directions_text
picture_is n = refl

pub picture_calm : (n : ℕ) → IsCalm (picture_text (flat_picture n))
picture_calm n =
    let number = bits_of 10 (n % 1024) in
    let few : length number ≡ 10 = length-bits_of 10 (n % 1024) in
    calm_end (picture_text (flat_picture n)) (subst (λ (t : List Bool). Calm 22 t 7) (sym (picture_is n))
    (calm_then number (bits_of 3 1 ++ (bits_of 16 65535 ++ (false ∷ []))) 22 12 7 (calm_any number 22 12 (omega arith) (omega arith)) calm_kind))
