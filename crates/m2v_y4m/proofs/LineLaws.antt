-- Lines and words at the front of a text, whatever follows.
use Rattle.std.proofs.Common.{◌≡◌, ◌⊎◌, inl, inr, ℕ, zero, suc, ◌+◌, ◌<◌, ◌≤◌, min, Bool, true, false, cond, ◌==◌, ◌&&◌, List, [], ◌∷◌, ◌++◌, length, take, drop, refl, sym, ◌∙◌, ap, arith, Option, Some, None, Ok, Err, nat_lt, length-append}
use Rattle.std.specs.Prelude.{position, if◌then◌else◌}
use Rattle.std.proofs.lemmas.List.{take-append-le, length-take, append-nil, get_or_append_left, get_or_past}
use Rattle.std.proofs.Math.Seq.{take-length}
use Rattle.std.specs.List.{position_or_len, starts_with}
use Rattle.std.proofs.lemmas.Bool.Decides.{nat_tests}
use Rattle.m2v_y4m.specs.declared.answer.Y4mKind.TheVariants.{Magic, Frame}
use Rattle.m2v_y4m.specs.declared.opening.Opening.{Opening}
use Rattle.m2v_y4m.specs.Texts.{line_length, begins}
use Rattle.m2v_y4m.specs.Header.{opening, opening_at, opening_with, with_words, none_seen, words_from, fault_at, magic}
use Rattle.m2v_y4m.specs.Frames.{frame_line, frame_line_at, frame_word}

-- all of a list that is short enough
pub take_all : (n : ℕ) (xs : List ℕ) → length xs ≤ n → take n xs ≡ xs
take_all zero [] le = refl
take_all zero (x ∷ xs) le = absurd (omega arith)
take_all (suc n) [] le = refl
take_all (suc n) (x ∷ xs) le = ap (λ l. x ∷ l) (take_all n xs (omega arith))

pub drop_all : (n : ℕ) (xs : List ℕ) → length xs ≤ n → drop n xs ≡ []
drop_all zero [] le = refl
drop_all zero (x ∷ xs) le = absurd (omega arith)
drop_all (suc n) [] le = refl
drop_all (suc n) (x ∷ xs) le = drop_all n xs (omega arith)

pub take_least : (n : ℕ) (xs : List ℕ) → take (min (length xs) n) xs ≡ take n xs
take_least n xs = by_order (grind arith)
  where
    by_order : (n ≤ length xs) ⊎ (length xs ≤ n) → take (min (length xs) n) xs ≡ take n xs
    by_order (inl le) = let is : min (length xs) n ≡ n = omega arith in ap (λ k. take k xs) is
    by_order (inr le) = let is : min (length xs) n ≡ length xs = omega arith in ap (λ k. take k xs) is ∙ take-length xs ∙ sym (take_all n xs le)

-- what is known of a text by its first 1,024 bytes, or by all
pub record Seen (u r : List ℕ) : Type 0 where
  pub is : (1024 ≤ length u) ⊎ (r ≡ [])

pub line_seen : (u r : List ℕ) → Seen u r → line_length (u ++ r) ≡ line_length u
unfolding line_length
line_seen u r seen = by_case seen.is
  where
    by_case : (1024 ≤ length u) ⊎ (r ≡ []) → position (λ b. b == 10) (take 1024 (u ++ r)) ≡ position (λ b. b == 10) (take 1024 u)
    by_case (inl long) = ap (position (λ b. b == 10)) (take-append-le 1024 u r long)
    by_case (inr none) = ap (λ l. position (λ b. b == 10) (take 1024 l)) (ap (λ l. u ++ l) none ∙ append-nil u)

pub begins_seen : (word u r : List ℕ) → length word < 1024 → Seen u r → begins word (u ++ r) ≡ begins word u
unfolding begins
begins_seen word u r short seen = by_case seen.is
  where
    by_case : (1024 ≤ length u) ⊎ (r ≡ []) → begins word (u ++ r) ≡ begins word u
    by_case (inl long) = rw (take-append-le (length word) u r (omega arith), get_or_append_left u r 0 (length word) (omega arith)) refl
    by_case (inr none) = ap (begins word) (ap (λ l. u ++ l) none ∙ append-nil u)

pub frame_line_seen : (u r : List ℕ) → Seen u r → frame_line (u ++ r) ≡ frame_line u
unfolding frame_line
frame_line_seen u r seen = rw (line_seen u r seen) (by_length (line_length u))
  where
    by_length : (o : Option ℕ) → frame_line_at (u ++ r) o ≡ frame_line_at u o
    by_length None = refl
    by_length (Some n) = rw (begins_seen frame_word u r (omega arith) seen) refl

-- what was found stands within
found_within : (k m n : ℕ) (b : Bool) → nat_lt k m ≡ b → cond b (Some k) None ≡ Some n → n < m
found_within k m n true t eq =
    let less : k < m = grind (arith, nat_tests) in
    let same : k ≡ n = cc in
    omega (arith, less, same)
found_within k m n false t eq = absurd (cc)

-- a line ends within the text
pub line_within : (text : List ℕ) (n : ℕ) → line_length text ≡ Some n → n < length text
unfolding line_length
line_within text n is =
    let within = found_within (position_or_len (λ b. b == 10) (take 1024 text)) (length (take 1024 text)) n _ refl is in
    omega (arith, within, length-take 1024 text)

pub opening_seen : (u r : List ℕ) → Seen u r → opening (u ++ r) ≡ opening u
unfolding opening
opening_seen u r seen = rw (begins_seen magic u r (omega arith) seen, line_seen u r seen)
    (ap (λ o. if begins magic u then o else Err (fault_at Magic 0)) (by_length (line_length u) refl))
  where
    by_length : (o : Option ℕ) → line_length u ≡ o → opening_at (u ++ r) o ≡ opening_at u o
    by_length None is = refl
    by_length (Some n) is = ap (λ l. opening_with n (with_words none_seen 10 (words_from 10 l))) (take-append-le n u r (omega (arith, line_within u n is)))

-- ---- what stands in a text stands there whatever follows

-- the first place that passes among some bytes
found_first : (p : ℕ → Bool) (k : ℕ) (u r : List ℕ) → position_or_len p (take k u) < length (take k u) → position_or_len p (take k (u ++ r)) ≡ position_or_len p (take k u)
found_first p zero u r less = absurd (omega (arith, less))
found_first p (suc k) [] r less = absurd (omega (arith, less))
found_first p (suc k) (x ∷ u) r less = by_test (p x) refl (found_first p k u r) less
  where
    by_test : (b : Bool) → p x ≡ b → (position_or_len p (take k u) < length (take k u) → position_or_len p (take k (u ++ r)) ≡ position_or_len p (take k u))
        → position_or_len p (x ∷ take k u) < suc (length (take k u)) → position_or_len p (x ∷ take k (u ++ r)) ≡ position_or_len p (x ∷ take k u)
    by_test true is behind below = rw is refl
    by_test false is behind below = rw is (ap (λ n. 1 + n) (behind (omega (arith, rw is at below))))

by_less : (m n : ℕ) → m < n → nat_lt m n ≡ true
by_less m n less = grind (arith, nat_tests)

is_less : (m n : ℕ) → nat_lt m n ≡ true → m < n
is_less m n test = grind (arith, nat_tests)

pub line_stays : (u r : List ℕ) (n : ℕ) → line_length u ≡ Some n → line_length (u ++ r) ≡ Some n
unfolding line_length
line_stays u r n is = by_test (nat_lt (position_or_len (λ b. b == 10) (take 1024 u)) (length (take 1024 u))) refl is
  where
    by_test : (b : Bool) → nat_lt (position_or_len (λ b. b == 10) (take 1024 u)) (length (take 1024 u)) ≡ b → cond b (Some (position_or_len (λ b. b == 10) (take 1024 u))) None ≡ Some n
        → position (λ b. b == 10) (take 1024 (u ++ r)) ≡ Some n
    by_test true t eq =
        let less = is_less (position_or_len (λ b. b == 10) (take 1024 u)) (length (take 1024 u)) t in
        let same = found_first (λ b. b == 10) 1024 u r less in
        let still : position_or_len (λ b. b == 10) (take 1024 u) < length (take 1024 (u ++ r)) =
        omega (arith, less, length-take 1024 u, length-take 1024 (u ++ r), length-append u r) in
        let test = by_less (position_or_len (λ b. b == 10) (take 1024 u)) (length (take 1024 (u ++ r))) still in
        rw (same, test) eq
    by_test false t eq = absurd (cc)

-- a word with a space or a newline behind it is there whole
begins_whole : (word u : List ℕ) → begins word u ≡ true → length word < length u
unfolding begins
begins_whole word u is = by_order (grind arith)
  where
    by_order : (length word < length u) ⊎ (length u ≤ length word) → length word < length u
    by_order (inl less) = less
    by_order (inr most) = absurd (no_word (starts_with (λ a b. a == b) u word) (rw (get_or_past u (length word) 0 most) at is))
      where
        no_word : (b : Bool) → (b && false) ≡ true → ⊥
        no_word true e = absurd (cc)
        no_word false e = absurd (cc)

begins_stays : (word u r : List ℕ) → begins word u ≡ true → begins word (u ++ r) ≡ true
unfolding begins
begins_stays word u r is =
    let less = begins_whole word u is in
    rw (take-append-le (length word) u r (omega (arith, less)), get_or_append_left u r 0 (length word) less) is

pub frame_line_stays : (u r : List ℕ) (n : ℕ) → frame_line u ≡ Ok n → frame_line (u ++ r) ≡ Ok n
unfolding frame_line
frame_line_stays u r n is = by_length (line_length u) refl is
  where
    by_word : (k : ℕ) (b : Bool) → begins frame_word u ≡ b → (if b then Ok (k + 1) else Err Frame) ≡ Ok n → (if begins frame_word (u ++ r) then Ok (k + 1) else Err Frame) ≡ Ok n
    by_word k true b eq = rw (begins_stays frame_word u r b) eq
    by_word k false b eq = absurd (cc)

    by_length : (o : Option ℕ) → line_length u ≡ o → frame_line_at u o ≡ Ok n → frame_line_at (u ++ r) (line_length (u ++ r)) ≡ Ok n
    by_length None l eq = absurd (cc)
    by_length (Some k) l eq = rw (line_stays u r k l) (by_word k (begins frame_word u) refl eq)

pub opening_stays : (u r : List ℕ) (o : Opening) → opening u ≡ Ok o → opening (u ++ r) ≡ Ok o
unfolding opening
opening_stays u r o is = by_word (begins magic u) refl is
  where
    by_length : (l : Option ℕ) → line_length u ≡ l → opening_at u l ≡ Ok o → opening_at (u ++ r) (line_length (u ++ r)) ≡ Ok o
    by_length None l eq = absurd (cc)
    by_length (Some n) l eq =
        rw (line_stays u r n l) (ap (λ line. opening_with n (with_words none_seen 10 (words_from 10 line))) (take-append-le n u r (omega (arith, line_within u n l))) ∙ eq)

    by_word : (b : Bool) → begins magic u ≡ b → (if b then opening_at u (line_length u) else Err (fault_at Magic 0)) ≡ Ok o
        → (if begins magic (u ++ r) then opening_at (u ++ r) (line_length (u ++ r)) else Err (fault_at Magic 0)) ≡ Ok o
    by_word true b eq = rw (begins_stays magic u r b) (by_length (line_length u) refl eq)
    by_word false b eq = absurd (cc)
