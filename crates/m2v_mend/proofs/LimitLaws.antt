-- How much of a piece counts against the limits, by its bytes before the zero bytes at its end.
use Rattle.std.proofs.Common.{◌≡◌, ◌≢◌, ◌⊎◌, ℕ, zero, suc, ◌+◌, ◌-◌, ◌^◌, ◌≤◌, ◌<◌, Bool, true, false, List, [], ◌∷◌, ◌++◌, length, take, drop, get_or, replicate, min, inl, inr, refl, sym, ap, ◌∙◌, append_assoc, arith, Some, None, drop-cons, take-suc}
use Rattle.std.specs.Prelude.{nat_eq, nat_le, not, ◌&&◌, vec_len, is_none, if◌then◌else◌}
use Rattle.std.proofs.lemmas.Bool.{cases_lt, le-leb, lt-leb, ne_eqb}
use Rattle.std.proofs.lemmas.List.{length-append, length-take, length-replicate, take-append-drop, replicate-append-replicate}
use Rattle.std.proofs.Math.Bool.{and-false}
use Rattle.m2v_model.specs.Pieces.{limit, most_input, most_bytes, zeros_first, zeros_last, trimmed, too_long, too_large}
use Rattle.m2v_dec_piece.proofs.LimitLaws.{limit_more}
use Rattle.m2v_dec_piece.proofs.TrimLaws.{zeros_last_end, trimmed_is}
use Rattle.m2v_decode.specs.m2v_dec_piece.declared.answer.Piece.{Piece}
use Rattle.m2v_decode.specs.m2v_dec_piece.Sound.{IsSoundPiece}
use Rattle.m2v_decode.specs.Decoding.{whole_of}
use Rattle.m2v_mend.specs.Kept.{IsUpToZeros}

-- ---- one byte less

zeros_snoc : (n : ℕ) → replicate {A = ℕ} (n + 1) 0 ≡ 0 ∷ replicate n 0
zeros_snoc n = let e : n + 1 ≡ suc n = omega arith in ap (λ (k : ℕ). replicate {A = ℕ} k 0) e

pub zeros_more : (xs : List ℕ) (n : ℕ) → 0 < n → n ≤ length xs → drop n xs ≡ replicate (length xs - n) 0 → get_or xs (n - 1) 0 ≡ 0 → drop (n - 1) xs ≡ replicate (length xs - (n - 1)) 0
zeros_more xs n some within zeros last =
    let back : suc (n - 1) ≡ n = omega (arith, some) in
    let count : length xs - (n - 1) ≡ (length xs - n) + 1 = omega (arith, some, within) in
    drop-cons xs (n - 1) 0 (omega (arith, some, within))
    ∙ ap (λ (x : ℕ). x ∷ drop (suc (n - 1)) xs) last
    ∙ ap (λ (k : ℕ). 0 ∷ drop k xs) back
    ∙ ap (λ (l : List ℕ). 0 ∷ l) zeros
    ∙ sym (ap (λ (k : ℕ). replicate {A = ℕ} k 0) count ∙ zeros_snoc (length xs - n))

-- ---- a text by its bytes before the zero bytes at its end

-- bytes, of which the last isn't zero
abbrev pub EndsSome : List ℕ → Type 0
EndsSome front = (front ≡ []) ⊎ ((xs : List ℕ) × (b : ℕ) × (front ≡ xs ++ b ∷ []) × (b ≢ 0))

pub ends_some : (xs : List ℕ) (n : ℕ) → IsUpToZeros xs n → EndsSome (take n xs)
ends_some xs n is = elim (cases_lt 0 n) [
  | inl lt ↦
      let back : suc (n - 1) ≡ n = omega (arith, lt) in
      inr (take (n - 1) xs, get_or xs (n - 1) 0, sym (ap (λ (k : ℕ). take k xs) back) ∙ take-suc xs (n - 1) 0 (omega (arith, lt, is.within)), is.last lt)
  | inr le ↦ let none : n ≡ 0 = omega (arith, le) in inl (ap (λ (k : ℕ). take k xs) none)
]

pub no_zeros : zeros_last [] ≡ 0
unfolding zeros_first
no_zeros = refl

none_last : (front : List ℕ) → EndsSome front → zeros_last front ≡ 0
none_last front (inl e) = ap zeros_last e ∙ no_zeros
none_last front (inr x) = ap zeros_last x.2 ∙ zeros_last_end x.0 x.1 x.3

module _ (p : Piece) (sound : IsSoundPiece p) (n : ℕ) (is : IsUpToZeros p.bytes.items n) where
  abbrev front : List ℕ
  front = take n p.bytes.items

  front_length : length front ≡ n
  front_length = omega (arith, length-take n p.bytes.items, is.within)

  all_length : length p.bytes.items ≡ vec_len p.bytes
  all_length = omega (arith, p.bytes.ok.0)

  pub within : n ≤ p.length
  within = omega (arith, is.within, all_length, sound.kept)

  whole_is : whole_of p ≡ front ++ replicate (p.length - n) 0
  whole_is =
      let z = p.length - vec_len p.bytes in
      let count : (length p.bytes.items - n) + z ≡ p.length - n = omega (arith, is.within, all_length, sound.kept) in
      ap (λ (l : List ℕ). l ++ replicate z 0) (sym (take-append-drop n p.bytes.items))
      ∙ append_assoc front (drop n p.bytes.items) (replicate z 0)
      ∙ ap (λ (l : List ℕ). front ++ (l ++ replicate z 0)) is.zeros
      ∙ ap (λ (l : List ℕ). front ++ l) (replicate-append-replicate (length p.bytes.items - n) z 0 ∙ ap (λ (k : ℕ). replicate {A = ℕ} k 0) count)

  -- how many bytes are handed on
  pub kept_is : n + min (p.length - n) 64 ≡ length (trimmed (whole_of p))
  kept_is =
      let z = p.length - n in
      let none = none_last front (ends_some p.bytes.items n is) in
      let own = ap length (trimmed_is front z none) in
      let size = length-append front (replicate (min 64 z) 0) in
      let zeros = length-replicate {A = ℕ} (min 64 z) 0 in
      let same = ap (λ (l : List ℕ). length (trimmed l)) whole_is in
      omega (arith, own, size, zeros, same, front_length)

-- ---- limits

fits_front : (k : ℕ) (xs : List ℕ) → k + length xs ≤ 2097152 → limit 0 k xs ≡ None
unfolding limit
fits_front k [] le = refl
fits_front k (x ∷ xs) le =
    let short : nat_le most_input (0 + k) ≡ false = lt-leb _ _ (omega (arith, le)) in
    let few : nat_le most_bytes k ≡ false = lt-leb _ _ (omega (arith, le)) in
    rw (short, few, and-false (not (nat_eq x 0))) (fits_front (k + 1) xs (omega (arith, le)))

fits_zeros : (n k : ℕ) → k + n ≤ 2 ^ 36 → limit 0 k (replicate n 0) ≡ None
unfolding limit
fits_zeros zero k le = refl
fits_zeros (suc n) k le =
    let short : nat_le most_input (0 + k) ≡ false = lt-leb _ _ (omega (arith, le)) in
    rw short (fits_zeros n (k + 1) (omega (arith, le)))

fits_all : (front : List ℕ) (z : ℕ) → length front ≤ 2097152 → length front + z ≤ 2 ^ 36 → limit 0 0 (front ++ replicate z 0) ≡ None
fits_all front z few short =
    limit_more 0 0 front (replicate z 0) (fits_front 0 front (omega (arith, few))) ∙ fits_zeros z (0 + length front) (omega (arith, short))

-- a byte that isn't zero and stands too far passes a limit
pub large_at : (place k : ℕ) (xs : List ℕ) (b : ℕ) (ys : List ℕ) → nat_eq b 0 ≡ false → most_bytes ≤ k + length xs → is_none (limit place k (xs ++ b ∷ ys)) ≡ false
unfolding limit
large_at place k [] b ys some le = by_long (nat_le most_input (place + k)) (not (nat_eq b 0)) (nat_le most_bytes k) (ap not some) (le-leb most_bytes k (omega (arith, le)))
  where
    by_long : (long other far : Bool) → other ≡ true → far ≡ true → is_none (if long then Some too_long else if other && far then Some too_large else limit place (k + 1) ys) ≡ false
    by_long true other far a b = refl
    by_long false true true a b = refl
    by_long false false far a b = absurd cc
    by_long false true false a b = absurd cc
large_at place k (x ∷ xs) b ys some le = by_tests (nat_le most_input (place + k)) (not (nat_eq x 0) && nat_le most_bytes k) (large_at place (k + 1) xs b ys some (omega (arith, le)))
  where
    by_tests : (long large : Bool) → is_none (limit place (k + 1) (xs ++ b ∷ ys)) ≡ false → is_none (if long then Some too_long else if large then Some too_large else limit place (k + 1) (xs ++ b ∷ ys)) ≡ false
    by_tests true large h = refl
    by_tests false true h = refl
    by_tests false false h = h

passes_end : (front rest : List ℕ) → EndsSome front → 2097152 < length front → is_none (limit 0 0 (front ++ rest)) ≡ false
passes_end front rest (inl none) lt = absurd (omega (arith, lt, ap length none))
passes_end front rest (inr x) lt =
    let size = ap length x.2 ∙ length-append x.0 (x.1 ∷ []) in
    ap (λ (l : List ℕ). is_none (limit 0 0 (l ++ rest))) x.2
    ∙ ap (λ (l : List ℕ). is_none (limit 0 0 l)) (append_assoc x.0 (x.1 ∷ []) rest)
    ∙ large_at 0 0 x.0 x.1 rest (ne_eqb x.1 0 x.3) (omega (arith, lt, size))

pub fits_is : (p : Piece) → IsSoundPiece p → (n : ℕ) → IsUpToZeros p.bytes.items n → nat_le n 2097152 ≡ is_none (limit 0 0 (whole_of p))
fits_is p sound n is =
    let whole = ap (λ (l : List ℕ). is_none (limit 0 0 l)) (whole_is p sound n is) in
    let size = front_length p sound n is in
    elim (cases_lt 2097152 n) [
      | inl lt ↦ lt-leb n 2097152 lt ∙ sym (whole ∙ passes_end (take n p.bytes.items) _ (ends_some p.bytes.items n is) (omega (arith, lt, size)))
      | inr le ↦
          le-leb n 2097152 le
          ∙ sym (whole ∙ ap is_none (fits_all (take n p.bytes.items) (p.length - n) (omega (arith, le, size)) (omega (arith, size, within p sound n is, sound.end))))
    ]
