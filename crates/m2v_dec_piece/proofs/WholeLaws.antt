-- A piece that is handed out, and the whole of which it is the front.
use Rattle.std.proofs.Common.{◌≡◌, ◌⊎◌, ℕ, zero, suc, ◌+◌, ◌-◌, ◌^◌, ◌<◌, ◌≤◌, false, nat_eq, List, [], ◌∷◌, ◌++◌, length, get_or, take, drop, replicate, min, Option, Some, None, refl, sym, ap, ◌∙◌, append_assoc, arith, inl, inr}
use Rattle.std.specs.Prelude.{reverse, nat_le, vec_len}
use Rattle.std.proofs.lemmas.Bool.{cases_Bool, eqb-true}
use Rattle.std.proofs.lemmas.Bool.Decides.{nat_tests}
use Rattle.std.proofs.lemmas.List.{reverse-append, reverse-reverse, length-reverse, length-append, length-replicate, take_at, get_or-append_right, replicate-append-replicate}
use Rattle.m2v_model.specs.Pieces.{zeros_first, zeros_last, trimmed, limit, Limit, most_bytes, most_input}
use Rattle.m2v_dec_piece.specs.declared.answer.Piece.{Piece}
use Rattle.m2v_dec_piece.specs.Cutting.{IsPiece}
use Rattle.m2v_dec_piece.specs.Sound.{IsSoundPiece}
use Rattle.m2v_dec_piece.proofs.TrimLaws.{reverse_zeros, trimmed_is, length-sure}
use Rattle.m2v_dec_piece.proofs.LimitLaws.{limit_more, limit_stays}

-- ---- the zero bytes that stand last

zeros : ℕ → List ℕ
zeros n = replicate n 0

front_zeros : (ys : List ℕ) → replicate (zeros_first ys) 0 ++ drop (zeros_first ys) ys ≡ ys
unfolding zeros_first
front_zeros [] = refl
front_zeros (b ∷ bs) =
    elim (cases_Bool (nat_eq b 0)) [
      | inl on ↦ rw on (ap (λ (t : List ℕ). 0 ∷ t) (front_zeros bs) ∙ ap (λ (x : ℕ). x ∷ bs) (sym (eqb-true b 0 on)))
      | inr off ↦ rw off refl
    ]

-- behind them nothing stands, or a byte that isn't zero
first_other : (ys : List ℕ) → (drop (zeros_first ys) ys ≡ []) ⊎ ((b : ℕ) × (rest : List ℕ) × (nat_eq b 0 ≡ false) × (drop (zeros_first ys) ys ≡ b ∷ rest))
unfolding zeros_first
first_other [] = inl refl
first_other (b ∷ bs) =
    elim (cases_Bool (nat_eq b 0)) [
      | inl on ↦ rw on (first_other bs)
      | inr off ↦ rw off (inr (b, bs, off, refl))
    ]

-- the bytes before the zeros that stand last
abbrev front_of : List ℕ → List ℕ
front_of whole = reverse (drop (zeros_last whole) (reverse whole))

front_whole : (whole : List ℕ) → front_of whole ++ replicate (zeros_last whole) 0 ≡ whole
front_whole whole =
    let n = zeros_last whole in
    ap (λ (t : List ℕ). front_of whole ++ t) (sym (reverse_zeros n))
    ∙ sym (reverse-append (replicate n 0) (drop n (reverse whole)))
    ∙ ap reverse (front_zeros (reverse whole))
    ∙ reverse-reverse whole

length_front : (whole : List ℕ) → length (front_of whole) + zeros_last whole ≡ length whole
length_front whole =
    let n = zeros_last whole in
    let e = sym (length-append (front_of whole) (replicate n 0)) ∙ ap length (front_whole whole) in
    ap (λ (k : ℕ). length (front_of whole) + k) (sym (length-replicate n 0)) ∙ e

-- what is handed on is this front with some of the zeros
trimmed_front : (whole : List ℕ) → trimmed whole ≡ front_of whole ++ replicate (min 64 (zeros_last whole)) 0
trimmed_front whole =
    let n = zeros_last whole in
    let k : length (front_of whole) ≡ length whole - n = omega (arith, length_front whole) in
    ap (λ (t : List ℕ). take (length whole - n) t ++ replicate (min 64 n) 0) (sym (front_whole whole))
    ∙ ap (λ (t : List ℕ). t ++ replicate (min 64 n) 0) (take_at (front_of whole) (replicate n 0) (length whole - n) k)

length_trimmed : (whole : List ℕ) → length (trimmed whole) ≡ length (front_of whole) + min 64 (zeros_last whole)
length_trimmed whole =
    let m = min 64 (zeros_last whole) in
    ap length (trimmed_front whole) ∙ length-append (front_of whole) (replicate m 0) ∙ ap (λ (k : ℕ). length (front_of whole) + k) (length-replicate m 0)

-- ---- the whole of a piece

pub whole_is : (p : Piece) (place : ℕ) (whole : List ℕ) → IsPiece p place whole → p.bytes.items ++ replicate (p.length - vec_len p.bytes) 0 ≡ whole
whole_is p place whole is =
    let n = zeros_last whole in
    let m = min 64 n in
    let left : p.length - vec_len p.bytes ≡ n - m = omega (arith, is.length, ap length is.bytes, length_trimmed whole, length_front whole) in
    let all : m + (n - m) ≡ n = omega arith in
    ap (λ (k : ℕ). p.bytes.items ++ replicate k 0) left
    ∙ ap (λ (t : List ℕ). t ++ replicate (n - m) 0) (is.bytes ∙ trimmed_front whole)
    ∙ append_assoc (front_of whole) (replicate m 0) (replicate (n - m) 0)
    ∙ ap (λ (t : List ℕ). front_of whole ++ t) (replicate-append-replicate m (n - m) 0 ∙ ap (λ (k : ℕ). replicate k 0) all)
    ∙ front_whole whole

-- the piece that is made of bytes of which the last isn't zero, and of zeros behind them
pub piece_is : (p : Piece) (bytes : List ℕ) (n place : ℕ) → zeros_last bytes ≡ 0 → p.bytes.items ≡ bytes ++ replicate (min 64 n) 0 → p.place ≡ place → p.length ≡ length bytes + n
    → limit place 0 (bytes ++ replicate n 0) ≡ None → IsPiece p place (bytes ++ replicate n 0)
piece_is p bytes n place none are at long fits = record { bytes = are ∙ trimmed_is bytes n none; at = at; length = omega (arith, long, length-sure bytes n); fits = fits }

-- ---- what is known of it

none_front : (place k : ℕ) (xs ys : List ℕ) → limit place k (xs ++ ys) ≡ None → limit place k xs ≡ None
none_front place k xs ys none = by_case (limit place k xs) refl
  where
    by_case : (o : Option Limit) → limit place k xs ≡ o → o ≡ None
    by_case None e = refl
    by_case (Some l) e = let stays : limit place k (xs ++ ys) ≡ Some l = limit_stays place k xs ys l e in absurd cc

less_from : (a b : ℕ) → nat_le a b ≡ false → b < a
less_from a b e = grind (arith, nat_tests)

-- a byte that isn't zero passes no limit
one_fits : (place k b : ℕ) → nat_eq b 0 ≡ false → limit place k (b ∷ []) ≡ None → k < most_bytes
unfolding limit
one_fits place k b some none =
    elim (cases_Bool (nat_le most_input (place + k))) [
      | inl long ↦ let told = rw long at none in absurd cc
      | inr off ↦
          elim (cases_Bool (nat_le most_bytes k)) [
            | inl large ↦ let told = rw (off, some, large) at none in absurd cc
            | inr fits ↦ less_from most_bytes k fits
          ]
    ]

front_most : (place : ℕ) (whole : List ℕ) → limit place 0 whole ≡ None → length (front_of whole) ≤ most_bytes
front_most place whole none =
    elim (first_other (reverse whole)) [
      | inl e ↦ omega (arith, ap length e, length-reverse (drop (zeros_last whole) (reverse whole)))
      | inr x ↦
          let front : front_of whole ≡ reverse x.1 ++ x.0 ∷ [] = ap reverse x.3 ∙ reverse-append (x.0 ∷ []) x.1 in
          let ends : limit place 0 ((reverse x.1 ++ x.0 ∷ []) ++ replicate (zeros_last whole) 0) ≡ None = ap (λ (t : List ℕ). limit place 0 (t ++ replicate (zeros_last whole) 0)) (sym front) ∙ ap (limit place 0) (front_whole whole) ∙ none in
          let both = none_front place 0 (reverse x.1 ++ x.0 ∷ []) (replicate (zeros_last whole) 0) ends in
          let before = none_front place 0 (reverse x.1) (x.0 ∷ []) both in
          let last = sym (limit_more place 0 (reverse x.1) (x.0 ∷ []) before) ∙ both in
          let lt = one_fits place (0 + length (reverse x.1)) x.0 x.2 last in
          omega (arith, ap length front, length-append (reverse x.1) (x.0 ∷ []), lt)
    ]

zeros_get : (n i : ℕ) → get_or (zeros n) i 0 ≡ 0
unfolding zeros
zeros_get zero i = refl
zeros_get (suc n) zero = refl
zeros_get (suc n) (suc i) = zeros_get n i

-- the last byte where zeros stand last
last_zero : (xs all : List ℕ) (m : ℕ) → all ≡ xs ++ zeros m → 0 < m → (0 < length all) × (get_or all (length all - 1) 0 ≡ 0)
unfolding zeros
last_zero xs all m is some =
    let len = ap length is ∙ length-append xs (replicate m 0) in
    let long : length all ≡ length xs + m = omega (arith, len, length-replicate {A = ℕ} m 0) in (
      omega arith,
      ap (λ (t : List ℕ). get_or t (length all - 1) 0) is ∙ get_or-append_right xs (replicate m 0) (length xs) (length all - 1) 0 refl (omega arith) ∙ zeros_get m (length all - 1 - length xs),
    )

pub piece_sound : (p : Piece) (place : ℕ) (whole : List ℕ) → IsPiece p place whole → p.place + p.length ≤ 2 ^ 36 → 1 ≤ length whole → IsSoundPiece p
unfolding zeros
piece_sound p place whole is end some =
    let len = ap length is.bytes ∙ length_trimmed whole in
    record {
      some = omega (arith, is.length);
      end = end;
      kept = omega (arith, len, is.length, length_front whole);
      most = omega (arith, len, front_most place whole is.fits);
      zeros = λ left. last_zero (front_of whole) p.bytes.items (min 64 (zeros_last whole)) (is.bytes ∙ trimmed_front whole) (omega (arith, len, is.length, length_front whole));
    }
