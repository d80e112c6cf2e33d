-- Frames in display and in coding order, as loops go through them.
use Rattle.std.proofs.Common.{◌≡◌, ℕ, zero, suc, ◌+◌, ◌-◌, ◌≤◌, Bool, true, false, cond, List, [], ◌∷◌, ◌++◌, refl, sym, ap, ◌∙◌, arith, append_assoc}
use Rattle.std.specs.Prelude.{filter}
use Rattle.std.specs.List.{range_with_len, flat_map}
use Rattle.std.proofs.lemmas.List.{append-nil, flat_map_more}
use Rattle.std.proofs.lemmas.List.Elements.{filter-append}
use Rattle.std.proofs.lemmas.Grind.{flat_map-append}
use Rattle.m2v_order.specs.Coding.{frames_between, in_order}
use Rattle.m2v_order.specs.Groups.{past_last}

pub range_append : (a m n : ℕ) → range_with_len a (m + n) ≡ range_with_len a m ++ range_with_len (a + m) n
range_append a zero n =
    let e : zero + n ≡ n = omega arith in let f : a + zero ≡ a = omega arith in rw (e, f) refl
range_append a (suc m) n =
    let e : suc m + n ≡ suc (m + n) = omega arith in
    let f : a + suc m ≡ (a + 1) + m = omega arith in
    rw (e, f) (ap (λ xs. a ∷ xs) (range_append (a + 1) m n))

-- the frames from one on below another, in two parts
pub frames_split : (from mid to : ℕ) → from ≤ mid → mid ≤ to → frames_between from to ≡ frames_between from mid ++ frames_between mid to
frames_split from mid to low high =
    let e : to - from ≡ (mid - from) + (to - mid) = omega arith in
    let f : from + (mid - from) ≡ mid = omega arith in
    rw e (range_append from (mid - from) (to - mid) ∙ ap (λ a. range_with_len from (mid - from) ++ range_with_len a (to - mid)) f)

pub frames_none : (d : ℕ) → frames_between d d ≡ []
frames_none d = let e : d - d ≡ 0 = omega arith in rw e refl

pub frames_one : (d : ℕ) → frames_between d (d + 1) ≡ d ∷ []
frames_one d = let e : (d + 1) - d ≡ 1 = omega arith in rw e refl

pub frames_more : (from d : ℕ) → from ≤ d → frames_between from (d + 1) ≡ frames_between from d ++ d ∷ []
frames_more from d low =
    frames_split from d (d + 1) low (omega arith) ∙ ap (λ xs. frames_between from d ++ xs) (frames_one d)

-- the frames from one on, one more
pub between_more : {A : Type 0} (f : ℕ → List A) (bs : List A) (from d : ℕ) → from ≤ d
    → (bs ++ flat_map f (frames_between from d)) ++ f d ≡ bs ++ flat_map f (frames_between from (d + 1))
between_more f bs from d low = rw (frames_more from d low) (flat_map_more f bs (frames_between from d) d)

pub filter_more : (p : ℕ → Bool) (from d : ℕ) → from ≤ d
    → filter p (frames_between from (d + 1)) ≡ filter p (frames_between from d) ++ cond (p d) (d ∷ []) []
filter_more p from d low = rw (frames_more from d low) (filter-append p (frames_between from d) (d ∷ []))

-- coding order in two parts
pub in_order-append : (from : ℕ) (first more : List ℕ) → in_order from (first ++ more) ≡ in_order from first ++ in_order (past_last from first) more
unfolding in_order past_last
in_order-append from [] more = refl
in_order-append from (a ∷ first) more =
    ap (λ xs. a ∷ xs)
    (ap (λ xs. frames_between from a ++ xs) (in_order-append (a + 1) first more)
    ∙ sym (append_assoc (frames_between from a) (in_order (a + 1) first) (in_order (past_last (a + 1) first) more)))

pub past_last-append : (from : ℕ) (first more : List ℕ) → past_last from (first ++ more) ≡ past_last (past_last from first) more
unfolding past_last
past_last-append from [] more = refl
past_last-append from (a ∷ first) more = past_last-append (a + 1) first more

past_last_one : (from d : ℕ) → past_last from (d ∷ []) ≡ d + 1
unfolding past_last
past_last_one from d = refl

order_one : (from d : ℕ) → in_order from (d ∷ []) ≡ d ∷ frames_between from d
unfolding in_order
order_one from d = ap (λ xs. d ∷ xs) (append-nil (frames_between from d))

-- an anchor more
pub anchor_more : {A : Type 0} (f : ℕ → List A) (p : ℕ → Bool) (first d : ℕ) → first ≤ d → p d ≡ true
    → flat_map f (in_order first (filter p (frames_between first (d + 1))))
    ≡ (flat_map f (in_order first (filter p (frames_between first d))) ++ f d) ++ flat_map f (frames_between (past_last first (filter p (frames_between first d))) d)
anchor_more f p first d low is =
    let before = filter p (frames_between first d) in
    rw (
      filter_more p first d low,
      is,
      in_order-append first before (d ∷ []),
      order_one (past_last first before) d,
      flat_map-append f (in_order first before) (d ∷ frames_between (past_last first before) d),
    )
    (sym (append_assoc (flat_map f (in_order first before)) (f d) (flat_map f (frames_between (past_last first before) d))))

pub past_anchor : (p : ℕ → Bool) (first d : ℕ) → first ≤ d → p d ≡ true → past_last first (filter p (frames_between first (d + 1))) ≡ d + 1
past_anchor p first d low is =
    let before = filter p (frames_between first d) in
    rw (filter_more p first d low, is, past_last-append first before (d ∷ [])) (past_last_one (past_last first before) d)

-- a frame more that is no anchor
pub other_more : (p : ℕ → Bool) (first d : ℕ) → first ≤ d → p d ≡ false → filter p (frames_between first (d + 1)) ≡ filter p (frames_between first d)
other_more p first d low is = rw (filter_more p first d low, is) (append-nil (filter p (frames_between first d)))

-- before the first frame
pub order_none : {A : Type 0} (f : ℕ → List A) (p : ℕ → Bool) (first : ℕ) → [] ≡ flat_map f (in_order first (filter p (frames_between first first)))
unfolding in_order
order_none f p first = rw (frames_none first) refl

pub past_last_none : (p : ℕ → Bool) (first : ℕ) → first ≡ past_last first (filter p (frames_between first first))
unfolding past_last
past_last_none p first = rw (frames_none first) refl
