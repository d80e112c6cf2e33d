-- The text of a matrix.
use Rattle.std.proofs.Common.{◌≡◌, ℕ, ◌+◌, ◌<◌, List, Bool, false, ◌++◌, map, take, length, get_or, refl, ◌∙◌, arith, append_assoc}
use Rattle.std.specs.Prelude.{slice_index}
use Rattle.std.proofs.lemmas.List.{append-nil, take_more, length-map, map-append}
use Rattle.std.proofs.lemmas.List.Concat.{flat_map-append}
use Rattle.m2v_bits.specs.Bits.{bits, bits_of}
use Rattle.m2v_bits.proofs.Cursor.{length-bits}
use Rattle.m2v_quant.specs.Scans.{zigzag, scan_order}
use Rattle.m2v_head.specs.Texts.{matrix_text}

zigzag_length : length zigzag ≡ 64
unfolding zigzag
zigzag_length = refl

pub matrix_length : (m : List ℕ) → length (matrix_text m) ≡ 512
unfolding matrix_text
matrix_length m = length-bits (map (λ p. slice_index m p) zigzag) ∙ omega (arith, length-map zigzag (λ (p : ℕ). slice_index m p), zigzag_length)

abbrev pub first : List ℕ → ℕ → List Bool
first m n = bits (map (λ p. slice_index m p) (take n zigzag))

-- one number more is written
pub matrix_step : (m : List ℕ) (i p : ℕ) (before now : List Bool) → i < 64 → p ≡ slice_index (scan_order false) i → now ≡ before ++ first m i → now ++ bits_of 8 (slice_index m p) ≡ before ++ first m (i + 1)
unfolding scan_order
matrix_step m i p before now lt is e =
    let more = take_more zigzag i 0 (omega (arith, zigzag_length)) in
    let place : p ≡ get_or zigzag i 0 = is in
    rw (e, more, map-append, flat_map-append, place) (rw (append-nil (bits_of 8 (get_or m (get_or zigzag i 0) 0))) (append_assoc before (first m i) (bits_of 8 (get_or m (get_or zigzag i 0) 0))))

pub matrix_whole : (m : List ℕ) (before now : List Bool) → now ≡ before ++ first m 64 → now ≡ before ++ matrix_text m
unfolding matrix_text zigzag
matrix_whole m before now e = e
