-- A part of a piece.
use Rattle.std.proofs.Common.{◌≡◌, ℕ, ◌+◌, ◌-◌, ◌/◌, ◌≤◌, ◌<◌, List, ◌++◌, length, take, drop, replicate, inl, inr, sym, ap, ◌∙◌, append-nil, arith}
use Rattle.std.proofs.lemmas.Bool.{cases_lt}
use Rattle.std.specs.Prelude.{vec_len, slice_index}
use Rattle.std.proofs.lemmas.List.{length-append, length-take-le, length-take, length-drop, length-replicate, take_all, get_or-drop, take-append-le, drop-append-le, take-replicate}
use Rattle.std.proofs.Math.Seq.{take-append-add}
use Rattle.m2v_model.specs.Units.{Units, joined, unit_bits}
use Rattle.m2v_model.proofs.CutLaws.{joined_bits}
use Rattle.m2v_law_group.specs.Groups.{to_end}
use Rattle.m2v_decode.specs.m2v_dec_piece.declared.answer.Piece.{Piece}
use Rattle.m2v_decode.specs.m2v_dec_piece.Sound.{IsSoundPiece}
use Rattle.m2v_decode.specs.Decoding.{whole_of}
use Rattle.m2v_mend.specs.Editing.{zeros_in}
use Rattle.m2v_mend.specs.Feeding.{from_end, IsPart, KeepsZeros}
use Rattle.m2v_mend.proofs.EditLaws.{zeros_drop}
use Rattle.m2v_mend.proofs.Stretched.{parted_bytes}

-- bytes and zero bytes behind them: so many of both are so many of the bytes, and zero bytes
pub part_zeros : (xs : List ℕ) (own zeros : ℕ) → own ≤ length xs + zeros → take own xs ++ replicate (own - length (take own xs)) 0 ≡ take own (xs ++ replicate zeros 0)
part_zeros xs own zeros le = elim (cases_lt (length xs) own) [
  | inl out ↦
      let all : take own xs ≡ xs = take_all own xs (omega (arith, out)) in
      let count : length xs + (own - length xs) ≡ own = omega (arith, out) in
      ap (λ (l : List ℕ). l ++ replicate (own - length l) 0) all
      ∙ ap (λ (l : List ℕ). xs ++ l) (sym (take-replicate (own - length xs) zeros 0 (omega (arith, le))))
      ∙ sym (take-append-add xs (replicate zeros 0) (own - length xs))
      ∙ ap (λ (n : ℕ). take n (xs ++ replicate zeros 0)) count
  | inr short ↦
      let none : own - length (take own xs) ≡ 0 = omega (arith, length-take-le own xs (omega (arith, short))) in
      ap (λ (n : ℕ). take own xs ++ replicate n 0) none ∙ append-nil (take own xs) ∙ sym (take-append-le own xs (replicate zeros 0) (omega (arith, short)))
]

-- the last zero bytes that are kept of a piece are those of a part of it, where zero bytes are left out there
pub part_room : (p q : Piece) (before own : ℕ) → before + own ≤ p.length → q.bytes.items ≡ take own (drop before p.bytes.items) → q.length ≡ own → KeepsZeros p q
part_room p q before own within bytes count room some k le =
    let kept = drop before p.bytes.items in
    let size = ap length bytes ∙ length-take own kept in
    let left = length-drop before p.bytes.items in
    let out : length kept < own = omega (arith, some, size, count, q.bytes.ok.0) in
    let all : q.bytes.items ≡ kept = bytes ∙ take_all own kept (omega (arith, out)) in
    let more : 0 < zeros_in p = omega (arith, out, left, within, p.bytes.ok.0) in
    ap (λ (l : List ℕ). slice_index l k) all ∙ zeros_drop before p.bytes.items (zeros_in p) room more k (omega (arith, ap length all, le))

module _ (p q : Piece) (before own : ℕ) (sound : IsSoundPiece p) (within : before + own ≤ p.length) (inside : before < vec_len p.bytes) (bytes : q.bytes.items ≡ take own (drop before p.bytes.items)) (count : q.length ≡ own) where
  abbrev kept : List ℕ
  kept = drop before p.bytes.items

  abbrev zeros : ℕ
  zeros = p.length - vec_len p.bytes

  kept_long : length kept ≡ vec_len p.bytes - before
  kept_long = omega (arith, length-drop before p.bytes.items)

  fits : own ≤ length kept + zeros
  fits = omega (arith, kept_long, within, inside, sound.kept)

  behind : drop before (whole_of p) ≡ kept ++ replicate zeros 0
  behind = drop-append-le before p.bytes.items (replicate zeros 0) (omega (arith, inside))

  whole : whole_of q ≡ take own (drop before (whole_of p))
  whole =
      let lengths : q.length - vec_len q.bytes ≡ own - length q.bytes.items = omega (arith, count) in
      ap (λ (n : ℕ). q.bytes.items ++ replicate n 0) lengths
      ∙ ap (λ (l : List ℕ). l ++ replicate (own - length l) 0) bytes
      ∙ part_zeros kept own zeros fits
      ∙ ap (take own) (sym behind)

  long : own ≡ length (take own (drop before (whole_of p)))
  long =
      let all : length (drop before (whole_of p)) ≡ length kept + zeros = ap length behind ∙ length-append kept (replicate zeros 0) ∙ ap (λ (n : ℕ). length kept + n) (length-replicate {A = ℕ} zeros 0) in
      sym (length-take-le own (drop before (whole_of p)) (omega (arith, all, fits)))

  few : length q.bytes.items ≤ own × (length q.bytes.items ≤ length kept)
  few = let n = ap length bytes ∙ length-take own kept in (omega (arith, n), omega (arith, n))

  last : 0 < q.length - vec_len q.bytes → (0 < length q.bytes.items) × (slice_index q.bytes.items (length q.bytes.items - 1) ≡ 0)
  last some =
      let n = ap length bytes ∙ length-take own kept in
      let all : q.bytes.items ≡ kept = bytes ∙ take_all own kept (omega (arith, n, some, count)) in
      let end = sound.zeros (omega (arith, n, some, count, fits)) in
      let at : before + (length q.bytes.items - 1) ≡ length p.bytes.items - 1 = omega (arith, ap length all, kept_long, inside) in (
        omega (arith, ap length all, kept_long, inside),
        ap (λ (l : List ℕ). slice_index l (length q.bytes.items - 1)) all ∙ get_or-drop before p.bytes.items (length q.bytes.items - 1) 0 ∙ ap (slice_index p.bytes.items) at ∙ end.1,
      )

  pub part_is : q.place ≡ p.place + before → IsPart q (p.place + before) (take own (drop before (whole_of p)))
  part_is place = record {
    whole = whole;
    at = place;
    length_is = count ∙ long;
    sound = λ some. record {
      some = some;
      end = omega (arith, place, count, within, sound.end);
      kept = omega (arith, few.0, count);
      most = omega (arith, few.1, kept_long, sound.most);
      zeros = last;
    };
  }

-- how many bytes units have, and those before a sequence end code, by their bits
pub extent_is : (us : Units) (all behind : ℕ) → all ≡ unit_bits us → behind ≡ unit_bits (from_end us)
    → (all / 8 ≡ length (joined us)) × ((all - behind) / 8 ≡ length (joined (to_end us)))
extent_is us all behind a b =
    let whole = joined_bits us in
    let rest = joined_bits (from_end us) in
    let parts = ap length (parted_bytes us) ∙ length-append (joined (to_end us)) (joined (from_end us)) in
    (omega (arith, a, whole), omega (arith, a, b, whole, rest, parts))
