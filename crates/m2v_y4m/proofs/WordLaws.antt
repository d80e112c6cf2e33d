-- The words of a line, one behind another.
use Rattle.std.proofs.Common.{◌≡◌, ◌==◌, ℕ, suc, ◌+◌, ◌-◌, ◌<◌, ◌≤◌, Bool, true, false, cond, List, [], ◌∷◌, length, take, drop, refl, sym, ◌∙◌, ap, arith, nat_lt, nat_le}
use Rattle.std.specs.Prelude.{if◌then◌else◌, not, position, Some, None, Ok, Err}
use Rattle.std.specs.List.{position_or_len}
use Rattle.std.proofs.lemmas.Bool.Decides.{nat_tests}
use Rattle.std.proofs.lemmas.List.{drop-drop, length-drop, length-take-le}
use Rattle.std.proofs.lemmas.List.Sums.{prefix_len-le-length}
use Rattle.m2v_y4m.specs.Texts.{words, with_byte}
use Rattle.m2v_y4m.specs.declared.answer.Y4mKind.{Y4mKind}
use Rattle.m2v_y4m.specs.declared.words.Seen.{Seen}
use Rattle.m2v_y4m.specs.Header.{words_from, with_word, with_words, fault_at}

abbrev pub space : ℕ → Bool
space b = b == 32

-- the words behind the first one, which has so many bytes
abbrev pub others : ℕ → List ℕ → List (List ℕ)
others k text = if nat_lt k (length text) then words (drop (k + 1) text) else []

less_suc : (k n : ℕ) → nat_lt (suc k) (suc n) ≡ nat_lt k n
less_suc k n = by_test (nat_lt k n) refl
  where
    by_test : (b : Bool) → nat_lt k n ≡ b → nat_lt (suc k) (suc n) ≡ nat_lt k n
    by_test true is = rw is (grind (arith, nat_tests))
    by_test false is = rw is (grind (arith, nat_tests))

pub words_step : (text : List ℕ) → words text ≡ take (position_or_len space text) text ∷ others (position_or_len space text) text
unfolding words
words_step [] = refl
words_step (b ∷ text) = by_test (b == 32) refl (words_step text)
  where
    by_test : (is : Bool) → (b == 32) ≡ is → words text ≡ take (position_or_len space text) text ∷ others (position_or_len space text) text
        → with_byte b (words text) ≡ take (position_or_len space (b ∷ text)) (b ∷ text) ∷ others (position_or_len space (b ∷ text)) (b ∷ text)
    by_test true is split =
        let some : nat_lt 0 (suc (length text)) ≡ true = grind (arith, nat_tests) in
        ap (with_byte b) split ∙ rw (is, some) (ap (λ l. [] ∷ l) (sym split))
    by_test false is split =
        let one : 1 + position_or_len space text ≡ suc (position_or_len space text) = omega arith in
        let next : suc (position_or_len space text) + 1 ≡ suc (position_or_len space text + 1) = omega arith in
        ap (with_byte b) split ∙ rw (is, one, next, less_suc (position_or_len space text) (length text)) refl

others_from : (line : List ℕ) (at e k : ℕ) → e ≡ at + k → at ≤ length line → others k (drop at line) ≡ words_from (e + 1) line
others_from line at e k is fits = by_test (nat_lt k (length (drop at line))) refl
  where
    left : length (drop at line) ≡ length line - at
    left = length-drop at line

    place : at + (k + 1) ≡ e + 1
    place = omega arith

    by_test : (b : Bool) → nat_lt k (length (drop at line)) ≡ b → others k (drop at line) ≡ words_from (e + 1) line
    by_test true t =
        let more : k < length (drop at line) = grind (arith, nat_tests) in
        let fits_then : nat_le (e + 1) (length line) ≡ true = grind (arith, nat_tests, left) in
        rw (t, fits_then) (ap words (drop-drop (k + 1) at line ∙ ap (λ n. drop n line) place))
    by_test false t =
        let less : length (drop at line) ≤ k = grind (arith, nat_tests) in
        let past : nat_le (e + 1) (length line) ≡ false = grind (arith, nat_tests, left) in
        rw (t, past) refl

-- the words from a place on
pub words_from_step : (line : List ℕ) (at e : ℕ) → at ≤ length line → e ≡ at + position_or_len space (drop at line)
    → words_from at line ≡ take (e - at) (drop at line) ∷ words_from (e + 1) line
words_from_step line at e fits is =
    let k = position_or_len space (drop at line) in
    let here : nat_le at (length line) ≡ true = grind (arith, nat_tests) in
    let count : e - at ≡ k = omega (arith, is) in
    let behind : others k (drop at line) ≡ words_from (e + 1) line = others_from line at e k (omega (arith, is)) fits in
    rw (here, count) (words_step (drop at line) ∙ ap (λ l. take k (drop at line) ∷ l) behind)

module _ (seen : Seen) (line : List ℕ) (at e : ℕ) (fits : at ≤ length line) (is : e ≡ at + position_or_len space (drop at line)) where
  pub words_broken : (kind : Y4mKind) → with_word seen (take (e - at) (drop at line)) ≡ Err kind → with_words seen at (words_from at line) ≡ Err (fault_at kind at)
  unfolding with_words
  words_broken kind bad = ap (with_words seen at) (words_from_step line at e fits is) ∙ rw bad refl

  pub words_on : (more : Seen) → e ≤ length line → with_word seen (take (e - at) (drop at line)) ≡ Ok more → with_words seen at (words_from at line) ≡ with_words more (e + 1) (words_from (e + 1) line)
  unfolding with_words
  words_on more most good =
      let count : length (take (e - at) (drop at line)) ≡ e - at = length-take-le (e - at) (drop at line) (omega (arith, length-drop at line)) in
      let place : at + length (take (e - at) (drop at line)) + 1 ≡ e + 1 = omega (arith, count, is) in
      ap (with_words seen at) (words_from_step line at e fits is) ∙ rw good (ap (λ p. with_words more p (words_from (e + 1) line)) place)

pub words_end : (seen : Seen) (line : List ℕ) (at : ℕ) → length line < at → with_words seen at (words_from at line) ≡ Ok seen
unfolding with_words
words_end seen line at past = let none : nat_le at (length line) ≡ false = grind (arith, nat_tests) in rw none refl

-- no byte passes
pub none_found : (p : ℕ → Bool) (xs : List ℕ) → position p xs ≡ None → length xs ≡ position_or_len p xs
none_found p xs is = by_test (nat_lt (position_or_len p xs) (length xs)) refl is
  where
    omega_of : nat_lt (position_or_len p xs) (length xs) ≡ false → position_or_len p xs ≤ length xs → length xs ≡ position_or_len p xs
    omega_of e most = grind (arith, nat_tests)

    by_test : (b : Bool) → nat_lt (position_or_len p xs) (length xs) ≡ b → cond b (Some (position_or_len p xs)) None ≡ None → length xs ≡ position_or_len p xs
    by_test true e gone = absurd (cc)
    by_test false e gone = let most = prefix_len-le-length (λ x. not (p x)) xs in omega_of e most
