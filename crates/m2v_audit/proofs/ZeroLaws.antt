-- How a piece ends: its zero bytes, counted from its end, and the sequence end code.
use Rattle.std.proofs.Common.{◌≡◌, ℕ, zero, suc, ◌+◌, ◌-◌, ◌<◌, ◌≤◌, ◌≢◌, List, [], ◌∷◌, ◌++◌, length, take, replicate, refl, sym, ap, ◌∙◌, arith}
use Rattle.std.specs.Prelude.{Bool, true, false, ◌&&◌, reverse, slice_index, nat_eq, nat_lt}
use Rattle.std.specs.List.{ends_with}
use Rattle.std.proofs.Math.Seq.{take-suc}
use Rattle.std.proofs.lemmas.Bool.{ne_eqb, lt-ltb, eqb-true, eq-eqb, false≢true, true≢false}
use Rattle.std.proofs.lemmas.List.{append-nil, reverse-append}
use Rattle.m2v_model.specs.Pieces.{zeros_first, zeros_last}
use Rattle.m2v_dec_piece.proofs.TrimLaws.{reverse_zeros}
use Rattle.m2v_audit.specs.Auditing.{ends_code}

-- ---- byte by byte

last_byte : (xs : List ℕ) (end : ℕ) → end < length xs → reverse (take (suc end) xs) ≡ slice_index xs end ∷ reverse (take end xs)
last_byte xs end lt = ap reverse (take-suc xs end 0 lt) ∙ reverse-append (take end xs) (slice_index xs end ∷ [])

pub one_more_zero : (xs : List ℕ) (end : ℕ) → end < length xs → slice_index xs end ≡ 0 → zeros_last (take (suc end) xs) ≡ suc (zeros_last (take end xs))
unfolding zeros_first
one_more_zero xs end lt is = ap zeros_first (last_byte xs end lt) ∙ rw is refl

pub no_more_zero : (xs : List ℕ) (end : ℕ) → end < length xs → slice_index xs end ≢ 0 → zeros_last (take (suc end) xs) ≡ 0
unfolding zeros_first
no_more_zero xs end lt is = ap zeros_first (last_byte xs end lt) ∙ rw (ne_eqb (slice_index xs end) 0 is) refl

-- ---- zero bytes that aren't kept

zeros_more : (n : ℕ) (xs : List ℕ) → zeros_first (replicate n 0 ++ xs) ≡ n + zeros_first xs
unfolding zeros_first
zeros_more zero xs = omega arith
zeros_more (suc n) xs = ap suc (zeros_more n xs) ∙ omega arith

pub zeros_of_whole : (bytes : List ℕ) (n : ℕ) → zeros_last (bytes ++ replicate n 0) ≡ n + zeros_last bytes
zeros_of_whole bytes n =
    ap zeros_first (reverse-append bytes (replicate n 0) ∙ ap (λ (x : List ℕ). x ++ reverse bytes) (reverse_zeros n))
    ∙ zeros_more n (reverse bytes)

-- a piece that doesn't end in a zero byte has all that was kept of it, and nothing else
all_kept : (bytes : List ℕ) (n : ℕ) → zeros_last (bytes ++ replicate n 0) ≡ 0 → bytes ++ replicate n 0 ≡ bytes
all_kept bytes zero none = append-nil bytes
all_kept bytes (suc n) none = let is = zeros_of_whole bytes (suc n) in absurd (omega (arith, none, is))

pub ends_so : (bytes : List ℕ) (n ending : ℕ) (ends : Bool) → ending ≡ zeros_last (bytes ++ replicate n 0) → ending ≡ 0
    → ends ≡ ends_with nat_eq bytes (0 ∷ 0 ∷ 1 ∷ 0xB7 ∷ []) → ends ≡ ends_code (bytes ++ replicate n 0)
ends_so bytes n ending ends are none is =
    let whole = bytes ++ replicate n 0 in
    let code : List ℕ = 0 ∷ 0 ∷ 1 ∷ 0xB7 ∷ [] in
    let last : zeros_last whole ≡ 0 = sym are ∙ none in
    is ∙ ap (λ (xs : List ℕ). ends_with nat_eq xs code) (sym (all_kept bytes n last))
    ∙ ap (λ (m : ℕ). nat_eq m 0 && ends_with nat_eq whole code) (sym last)

-- ---- the loop

second_is : (first second both : Bool) → first ≡ true → (first && second) ≡ both → second ≡ both
second_is true second both is e = e
second_is false second both is e = absurd (false≢true is)

some_byte : (n : ℕ) → nat_lt 0 (suc n) ≡ true
some_byte n = lt-ltb 0 (suc n) (omega arith)

pub zeros_step : (xs : List ℕ) (total end : ℕ) → end ≤ length xs → total ≡ (length xs - end) + zeros_last (take end xs)
    → (nat_lt 0 end && nat_eq (slice_index xs (end - 1)) 0) ≡ true → total ≡ (length xs - (end - 1)) + zeros_last (take (end - 1) xs)
zeros_step xs total zero le is ends = absurd (false≢true ends)
zeros_step xs total (suc n) le is ends =
    let here : suc n - 1 ≡ n = omega arith in
    let byte : slice_index xs n ≡ 0 = eqb-true (slice_index xs n) 0 (second_is (nat_lt 0 (suc n)) (nat_eq (slice_index xs n) 0) true (some_byte n) (rw here at ends)) in
    let more = one_more_zero xs n (omega (arith, le)) byte in
    rw here (omega (arith, is, more, le))

pub zeros_stop : (xs : List ℕ) (total end : ℕ) → end ≤ length xs → total ≡ (length xs - end) + zeros_last (take end xs)
    → (nat_lt 0 end && nat_eq (slice_index xs (end - 1)) 0) ≡ false → total ≡ length xs - end
unfolding zeros_first
zeros_stop xs total zero le is over = is ∙ omega arith
zeros_stop xs total (suc n) le is over =
    let here : suc n - 1 ≡ n = omega arith in
    let byte : slice_index xs n ≢ 0 = λ e. absurd (true≢false (sym (eq-eqb (slice_index xs n) 0 e) ∙ second_is (nat_lt 0 (suc n)) (nat_eq (slice_index xs n) 0) false (some_byte n) (rw here at over))) in
    let none = no_more_zero xs n (omega (arith, le)) byte in
    omega (arith, is, none)
