-- Coding order along the frames, for any test that says which frames are anchors.
use Rattle.std.proofs.Common.{◌≡◌, ℕ, zero, suc, ◌+◌, ◌-◌, ◌<◌, ◌≤◌, Bool, true, false, cond, List, [], ◌∷◌, ◌++◌, refl, sym, ap, ◌∙◌, subst, arith, length, length-append, Option, Some}
use Rattle.std.specs.Prelude.{filter, All}
use Rattle.std.specs.List.{range_with_len, flat_map}
use Rattle.std.proofs.lemmas.List.{append-nil}
use Rattle.std.proofs.lemmas.List.Elements.{filter-append, All-nil, All-cons, All-append, All-weaker, All-head, All-tail}
use Rattle.std.proofs.lemmas.Grind.{flat_map-append}
use Rattle.std.proofs.lemmas.List.FromFn.{length-range_with_len}
use Rattle.m2v_order.specs.Coding.{frames_between, in_order}
use Rattle.m2v_order.specs.Groups.{past_last}
use Rattle.m2v_order.proofs.Orders.{range_append, frames_split, frames_one, in_order-append, past_last-append}

-- below or equal, and not equal
lt_or_is : (i n : ℕ) → i < n + 1 → (i ≡ n → ⊥) → i < n
lt_or_is i n le ne = omega (arith, ne)

-- a number from one on below another
abbrev pub Between : ℕ → ℕ → ℕ → Type 0
Between low high i = (low ≤ i) × (i < high)

pub range_within : (a n : ℕ) → All (Between a (a + n)) (range_with_len a n)
range_within a zero = All-nil (Between a (a + zero))
range_within a (suc n) =
    All-cons (Between a (a + suc n)) a (range_with_len (a + 1) n) (omega arith, omega arith)
    (All-weaker (Between (a + 1) (a + 1 + n)) (Between a (a + suc n)) (λ x h. (omega (arith, h.0), omega (arith, h.1))) (range_with_len (a + 1) n) (range_within (a + 1) n))

-- two tests that agree on some frames
pub filter_same : (p q : ℕ → Bool) (a n : ℕ) → ((i : ℕ) → a ≤ i → i < a + n → p i ≡ q i) → filter p (range_with_len a n) ≡ filter q (range_with_len a n)
filter_same p q a zero same = refl
filter_same p q a (suc n) same =
    rw (same a (omega arith) (omega arith), filter_same p q (a + 1) n (λ i low high. same i (omega arith) (omega arith))) refl

pub flat_map_same : {A : Type 0} (f g : ℕ → List A) (P : ℕ → Type 0) (xs : List ℕ) → All P xs → ((i : ℕ) → P i → f i ≡ g i) → flat_map f xs ≡ flat_map g xs
flat_map_same f g P [] each same = refl
flat_map_same f g P (x ∷ xs) each same =
    rw (same x (All-head P x xs each), flat_map_same f g P xs (All-tail P x xs each) same) refl

none_step : (p : ℕ → Bool) (a : ℕ) (xs : List ℕ) (b : Bool) → p a ≡ b → cond b (a ∷ filter p xs) (filter p xs) ≡ []
    → (filter p xs ≡ [] → All (λ i. p i ≡ false) xs) → All (λ i. p i ≡ false) (a ∷ xs)
none_step p a xs true is e rec = absurd (cc)
none_step p a xs false is e rec = All-cons (λ i. p i ≡ false) a xs is (rec e)

-- where no frame passes, each fails
pub none_pass : (p : ℕ → Bool) (a n : ℕ) → filter p (range_with_len a n) ≡ [] → All (λ i. p i ≡ false) (range_with_len a n)
none_pass p a zero e = All-nil (λ i. p i ≡ false)
none_pass p a (suc n) e = none_step p a (range_with_len (a + 1) n) (p a) refl e (none_pass p (a + 1) n)

module _ (p : ℕ → Bool) (from : ℕ) where
  -- the anchors among n frames
  abbrev pub upto : ℕ → List ℕ
  upto n = filter p (range_with_len from n)

  upto_more : (n : ℕ) → upto (suc n) ≡ upto n ++ cond (p (from + n)) ((from + n) ∷ []) []
  upto_more n =
      let e : suc n ≡ n + 1 = omega arith in
      ap (λ k. filter p (range_with_len from k)) e ∙ (ap (filter p) (range_append from n 1) ∙ filter-append p (range_with_len from n) ((from + n) ∷ []))

  upto_yes : (n : ℕ) → p (from + n) ≡ true → upto (suc n) ≡ upto n ++ (from + n) ∷ []
  upto_yes n is = upto_more n ∙ rw is refl

  upto_no : (n : ℕ) → p (from + n) ≡ false → upto (suc n) ≡ upto n
  upto_no n is = upto_more n ∙ rw is (append-nil (upto n))

  past_last_yes : (n : ℕ) → p (from + n) ≡ true → past_last from (upto (suc n)) ≡ from + n + 1
  unfolding past_last
  past_last_yes n is = rw (upto_yes n is, past_last-append from (upto n) ((from + n) ∷ [])) refl

  past_last_no : (n : ℕ) → p (from + n) ≡ false → past_last from (upto (suc n)) ≡ past_last from (upto n)
  past_last_no n is = ap (past_last from) (upto_no n is)

  order_yes : (n : ℕ) → p (from + n) ≡ true
      → in_order from (upto (suc n)) ≡ in_order from (upto n) ++ ((from + n) ∷ frames_between (past_last from (upto n)) (from + n))
  unfolding in_order
  order_yes n is =
      rw (upto_yes n is, in_order-append from (upto n) ((from + n) ∷ []), append-nil (frames_between (past_last from (upto n)) (from + n))) refl

  order_no : (n : ℕ) → p (from + n) ≡ false → in_order from (upto (suc n)) ≡ in_order from (upto n)
  order_no n is = ap (in_order from) (upto_no n is)

  -- the frame behind the last anchor is among these or right behind them, and none between is an anchor
  pub record PastLast (n : ℕ) : Type 0 where
    pub low : from ≤ past_last from (upto n)
    pub high : past_last from (upto n) ≤ from + n
    pub clear : filter p (frames_between (past_last from (upto n)) (from + n)) ≡ []

  past_last_step : (n : ℕ) (b : Bool) → p (from + n) ≡ b → PastLast n → PastLast (suc n)
  past_last_step n true is rec =
      let e = past_last_yes n is in
      let d : from + suc n - (from + n + 1) ≡ 0 = omega arith in
      record { low = omega (arith, e); high = omega (arith, e); clear = rw (e, d) refl }
  past_last_step n false is rec =
      let e = past_last_no n is in
      let low = rec.low in
      let high = rec.high in
      let more = frames_split (past_last from (upto n)) (from + n) (from + suc n) high (omega arith) in
      let one : from + suc n - (from + n) ≡ 1 = omega arith in
      record {
        low = omega (arith, e);
        high = omega (arith, e);
        clear = rw (e, more, filter-append p (frames_between (past_last from (upto n)) (from + n)) (frames_between (from + n) (from + suc n)), rec.clear, one, is) refl;
      }

  pub past_last_is : (n : ℕ) → PastLast n
  unfolding past_last
  past_last_is zero =
      let e : from + zero - from ≡ 0 = omega arith in
      record { low = omega arith; high = omega arith; clear = rw e refl }
  past_last_is (suc n) = past_last_step n (p (from + n)) refl (past_last_is n)

  -- the last anchor is at an anchor or behind it
  past_step : (n i : ℕ) (b : Bool) → p (from + n) ≡ b → from ≤ i → i < from + suc n → p i ≡ true
      → (i < from + n → i < past_last from (upto n)) → i < past_last from (upto (suc n))
  past_step n i true is low high at rec = let e = past_last_yes n is in omega (arith, e)
  past_step n i false is low high at rec =
      let e = past_last_no n is in
      let before : i < from + n =
      lt_or_is i (from + n) (omega arith) (λ same. absurd (let t : true ≡ false = sym at ∙ (ap p same ∙ is) in cc)) in
      omega (arith, e, rec before)

  pub past : (n i : ℕ) → from ≤ i → i < from + n → p i ≡ true → i < past_last from (upto n)
  past zero i low high at = absurd (omega arith)
  past (suc n) i low high at = past_step n i (p (from + n)) refl low high at (λ h. past n i low h at)

  order_within : (n : ℕ) (b : Bool) → p (from + n) ≡ b → All (Between from (past_last from (upto n))) (in_order from (upto n))
      → All (Between from (past_last from (upto (suc n)))) (in_order from (upto (suc n)))
  order_within n true is rec =
      let facts = past_last_is n in
      let low = facts.low in
      let high = facts.high in
      let old = past_last from (upto n) in
      let d = from + n in
      let P = Between from (d + 1) in
      rw (past_last_yes n is, order_yes n is)
      (All-append P (in_order from (upto n)) (d ∷ frames_between old d)
      (All-weaker (Between from old) P (λ x h. (h.0, omega (arith, h.1))) (in_order from (upto n)) rec)
      (All-cons P d (frames_between old d) (omega arith, omega arith)
      (All-weaker (Between old (old + (d - old))) P (λ x h. (omega (arith, h.0), omega (arith, h.1))) (frames_between old d) (range_within old (d - old)))))
  order_within n false is rec = rw (past_last_no n is, order_no n is) rec

  -- all frames in coding order lie between the first one and the last anchor
  pub within : (n : ℕ) → All (Between from (past_last from (upto n))) (in_order from (upto n))
  unfolding in_order
  within zero = All-nil (Between from (past_last from (upto zero)))
  within (suc n) = order_within n (p (from + n)) refl (within n)

  count_step : (n : ℕ) (b : Bool) → p (from + n) ≡ b → length (in_order from (upto n)) + from ≡ past_last from (upto n)
      → length (in_order from (upto (suc n))) + from ≡ past_last from (upto (suc n))
  count_step n true is rec =
      let old = past_last from (upto n) in
      let d = from + n in
      let high = (past_last_is n).high in
      let sum = length-append (in_order from (upto n)) (d ∷ frames_between old d) in
      let between = length-range_with_len old (d - old) in
      rw (past_last_yes n is, order_yes n is) (omega (arith, rec, sum, between, high))
  count_step n false is rec = rw (past_last_no n is, order_no n is) rec

  -- each frame up to the last anchor stands once
  pub order_count : (n : ℕ) → length (in_order from (upto n)) + from ≡ past_last from (upto n)
  unfolding in_order past_last
  order_count zero = omega arith
  order_count (suc n) = count_step n (p (from + n)) refl (order_count n)

  module _ {A : Type 0} (f : ℕ → List A) (last : Option ℕ → List A → Option ℕ)
      (on_none : (o : Option ℕ) → last o [] ≡ o)
      (on_more : (o : Option ℕ) (xs ys : List A) → last o (xs ++ ys) ≡ last (last o xs) ys)
      (on_anchor : (o : Option ℕ) (i : ℕ) → p i ≡ true → last o (f i) ≡ Some i)
      (on_other : (o : Option ℕ) (i : ℕ) → p i ≡ false → last o (f i) ≡ o) where
    on_others : (o : Option ℕ) (xs : List ℕ) → All (λ i. p i ≡ false) xs → last o (flat_map f xs) ≡ o
    on_others o [] each = on_none o
    on_others o (x ∷ xs) each =
        rw (on_more o (f x) (flat_map f xs), on_other o x (All-head (λ i. p i ≡ false) x xs each))
        (on_others o xs (All-tail (λ i. p i ≡ false) x xs each))

    last_step : (n : ℕ) (b : Bool) → p (from + n) ≡ b → (o : Option ℕ)
        → (from < past_last from (upto n) → last o (flat_map f (in_order from (upto n))) ≡ Some (past_last from (upto n) - 1))
        → from < past_last from (upto (suc n)) → last o (flat_map f (in_order from (upto (suc n)))) ≡ Some (past_last from (upto (suc n)) - 1)
    last_step n true is o rec some =
        let old = in_order from (upto n) in
        let d = from + n in
        let between = frames_between (past_last from (upto n)) d in
        let one : d + 1 - 1 ≡ d = omega arith in
        rw (past_last_yes n is, order_yes n is, one, flat_map-append f old (d ∷ between), on_more o (flat_map f old) (flat_map f (d ∷ between)), on_more (last o (flat_map f old)) (f d) (flat_map f between), on_anchor (last o (flat_map f old)) d is)
        (on_others (Some d) between (none_pass p (past_last from (upto n)) (d - past_last from (upto n)) (past_last_is n).clear))
    last_step n false is o rec some =
        rw (past_last_no n is, order_no n is) (rec (subst (λ b. from < b) (past_last_no n is) some))

    -- the last anchor stands right before the frame behind it
    pub last_is : (n : ℕ) (o : Option ℕ) → from < past_last from (upto n) → last o (flat_map f (in_order from (upto n))) ≡ Some (past_last from (upto n) - 1)
    unfolding past_last
    last_is zero o some = absurd (omega arith)
    last_is (suc n) o some = last_step n (p (from + n)) refl o (last_is n o) some

-- the coding order of frames, cut behind the last anchor below a frame
pub split_order : (p : ℕ → Bool) (first m c : ℕ) → first ≤ m → m ≤ c
    → (let b = past_last first (filter p (frames_between first m)) in
    in_order first (filter p (frames_between first c)) ≡ in_order first (filter p (frames_between first m)) ++ in_order b (filter p (frames_between b c)))
split_order p first m c low high =
    let there : first + (m - first) ≡ m = omega arith in
    let facts = past_last_is p first (m - first) in
    let b = past_last first (filter p (frames_between first m)) in
    let up : b ≤ m = omega (arith, facts.high) in
    let clear : filter p (frames_between b m) ≡ [] = subst (λ x. filter p (frames_between b x) ≡ []) there facts.clear in
    let rest : filter p (frames_between b c) ≡ filter p (frames_between m c) =
    rw (frames_split b m c up high, filter-append p (frames_between b m) (frames_between m c), clear) refl in
    rw (rest, frames_split first m c low high, filter-append p (frames_between first m) (frames_between m c))
    (in_order-append first (filter p (frames_between first m)) (filter p (frames_between m c)))

-- where no frame below one is an anchor, and that one is, it comes first
pub first_anchor : (p : ℕ → Bool) (first i m : ℕ) → first ≤ i → i < m → p i ≡ true → filter p (frames_between first i) ≡ []
    → filter p (frames_between first m) ≡ i ∷ filter p (frames_between (i + 1) m)
first_anchor p first i m low high is clear =
    rw (
      frames_split first i m low (omega arith),
      frames_split i (i + 1) m (omega arith) (omega arith),
      frames_one i,
      filter-append p (frames_between first i) ((i ∷ []) ++ frames_between (i + 1) m),
      clear,
      is,
    ) refl

head_step : (p : ℕ → Bool) (x a : ℕ) (xs more : List ℕ) (b : Bool) → p x ≡ b → cond b (x ∷ filter p xs) (filter p xs) ≡ a ∷ more
    → (filter p xs ≡ a ∷ more → p a ≡ true) → p a ≡ true
head_step p x a xs more true is e rec = let same : x ≡ a = cc in ap p (sym same) ∙ is
head_step p x a xs more false is e rec = rec e

-- what passes a test passes it
pub head_passes : (p : ℕ → Bool) (xs : List ℕ) (a : ℕ) (more : List ℕ) → filter p xs ≡ a ∷ more → p a ≡ true
head_passes p [] a more e = absurd (cc)
head_passes p (x ∷ xs) a more e = head_step p x a xs more (p x) refl e (head_passes p xs a more)
