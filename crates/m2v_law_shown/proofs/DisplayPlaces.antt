-- Where frames in coding order stand, and their places in display order.
use Rattle.std.proofs.Common.{◌≡◌, ℕ, zero, suc, ◌+◌, ◌-◌, ◌<◌, ◌≤◌, cond, List, [], ◌∷◌, ◌++◌, map, ltb, refl, sym, ap, ◌∙◌, arith, ⊎_elim}
use Rattle.std.specs.Prelude.{All}
use Rattle.std.specs.List.{range_with_len}
use Rattle.std.proofs.lemmas.Bool.{lt-ltb, le-ltb, cases_lt, cases_eq, eq-eqb}
use Rattle.std.proofs.lemmas.List.{map-append}
use Rattle.std.proofs.lemmas.List.Elements.{All-nil, All-cons, All-head, All-tail, All-append, All-weaker}
use Rattle.m2v_order.specs.Coding.{frames_between, in_order}
use Rattle.m2v_order.specs.Groups.{past_last}
use Rattle.m2v_order.specs.Display.{frames_of}
use Rattle.m2v_order.proofs.Anchors.{Between, range_within}
use Rattle.m2v_order.proofs.Intra.{test_other}
use Rattle.m2v_order.proofs.Orders.{range_append}
use Rattle.m2v_model.specs.Lawful.{display_place}
use Rattle.m2v_law_shown.specs.Showing.{AreAnchors}
use Rattle.m2v_law_shown.proofs.Order.{past_low}

-- the place in coding order of a frame, by anchors from one on, of which the first stands at a place: the frames before an
-- anchor stand behind it
pub coded_at : ℕ → ℕ → List ℕ → ℕ → ℕ
coded_at at from [] i = at + (i - from)
coded_at at from (a ∷ more) i = cond (ltb i a) (at + (i - from) + 1) (cond (ltb a i) (coded_at (at + (a - from) + 1) (a + 1) more i) at)

at_before : (at from a : ℕ) (more : List ℕ) (i : ℕ) → i < a → coded_at at from (a ∷ more) i ≡ at + (i - from) + 1
unfolding coded_at
at_before at from a more i lt = rw (lt-ltb i a lt) refl

at_anchor : (at from a : ℕ) (more : List ℕ) → coded_at at from (a ∷ more) a ≡ at
unfolding coded_at
at_anchor at from a more = rw (le-ltb a a (omega arith)) refl

at_behind : (at from a : ℕ) (more : List ℕ) (i : ℕ) → a < i → coded_at at from (a ∷ more) i ≡ coded_at (at + (a - from) + 1) (a + 1) more i
unfolding coded_at
at_behind at from a more i lt = rw (le-ltb i a (omega arith), lt-ltb a i lt) refl

at_none : (at from i : ℕ) → coded_at at from [] i ≡ at + (i - from)
unfolding coded_at
at_none at from i = refl

-- a number is below another, the same, or above
by_order : (P : Type 0) (i a : ℕ) → (i < a → P) → (i ≡ a → P) → (a < i → P) → P
by_order P i a below same above =
    ⊎_elim below (λ (le : a ≤ i). ⊎_elim same (λ (ne : i ≡ a → ⊥). above (omega (arith, le, ne))) (cases_eq i a)) (cases_lt i a)

map_same : (f g : ℕ → ℕ) (P : ℕ → Type 0) (xs : List ℕ) → All P xs → ((i : ℕ) → P i → f i ≡ g i) → map f xs ≡ map g xs
map_same f g P [] all same = refl
map_same f g P (x ∷ xs) all same = rw (same x (All-head P x xs all), map_same f g P xs (All-tail P x xs all) same) refl

map_range : (h : ℕ → ℕ) (a b n : ℕ) → ((i : ℕ) → a ≤ i → i < a + n → h i ≡ b + (i - a)) → map h (range_with_len a n) ≡ range_with_len b n
map_range h a b zero is = refl
map_range h a b (suc n) is =
    let one : h a ≡ b = is a (omega arith) (omega arith) ∙ omega arith in
    rw (one, map_range h (a + 1) (b + 1) n (λ i low high. is i (omega arith) (omega arith) ∙ omega arith)) refl

module _ {F : Type 0} (f : ℕ → F × ℕ) where
  low_step : (at from a : ℕ) (more : List ℕ) (i : ℕ) → from ≤ i → from ≤ a
      → (a + 1 ≤ i → at + (a - from) + 1 ≤ coded_at (at + (a - from) + 1) (a + 1) more i) → at ≤ coded_at at from (a ∷ more) i
  low_step at from a more i low first rec =
      by_order (at ≤ coded_at at from (a ∷ more) i) i a
      (λ lt. let e = at_before at from a more i lt in omega (arith, e))
      (λ is. rw is (let e = at_anchor at from a more in omega (arith, e)))
      (λ gt. let e = at_behind at from a more i gt in let r = rec (omega (arith, gt)) in omega (arith, e, r))

  at_low : (at from : ℕ) (anchors : List ℕ) (i : ℕ) → AreAnchors f from anchors → from ≤ i → at ≤ coded_at at from anchors i
  unfolding AreAnchors
  at_low at from [] i ok low = let e = at_none at from i in omega (arith, e)
  at_low at from (a ∷ more) i ok low =
      low_step at from a more i low ok.0.low (λ le. at_low (at + (a - from) + 1) (a + 1) more i ok.1 le)

  -- no two frames stand at one place
  one_step : (at from a : ℕ) (more : List ℕ) (i j : ℕ) → from ≤ i → from ≤ j → from ≤ a
      → ((k : ℕ) → a + 1 ≤ k → at + (a - from) + 1 ≤ coded_at (at + (a - from) + 1) (a + 1) more k)
      → (a + 1 ≤ i → a + 1 ≤ j → coded_at (at + (a - from) + 1) (a + 1) more i ≡ coded_at (at + (a - from) + 1) (a + 1) more j → i ≡ j)
      → coded_at at from (a ∷ more) i ≡ coded_at at from (a ∷ more) j → i ≡ j
  one_step at from a more i j li lj low least rec same =
      let anchor = at_anchor at from a more in
      by_order (i ≡ j) i a
      (λ bi. let ei = at_before at from a more i bi in
      by_order (i ≡ j) j a
      (λ bj. let ej = at_before at from a more j bj in omega (arith, ei, ej, same, li, lj))
      (λ sj. let ej = ap (coded_at at from (a ∷ more)) sj ∙ anchor in absurd (omega (arith, ei, ej, same)))
      (λ gj. let ej = at_behind at from a more j gj in let m = least j (omega (arith, gj)) in absurd (omega (arith, ei, ej, same, m, bi, li, low))))
      (λ si. let ei = ap (coded_at at from (a ∷ more)) si ∙ anchor in
      by_order (i ≡ j) j a
      (λ bj. let ej = at_before at from a more j bj in absurd (omega (arith, ei, ej, same)))
      (λ sj. omega (arith, si, sj))
      (λ gj. let ej = at_behind at from a more j gj in let m = least j (omega (arith, gj)) in absurd (omega (arith, ei, ej, same, m))))
      (λ gi. let ei = at_behind at from a more i gi in let l = least i (omega (arith, gi)) in
      by_order (i ≡ j) j a
      (λ bj. let ej = at_before at from a more j bj in absurd (omega (arith, ei, ej, same, l, bj, lj, low)))
      (λ sj. let ej = ap (coded_at at from (a ∷ more)) sj ∙ anchor in absurd (omega (arith, ei, ej, same, l)))
      (λ gj. rec (omega (arith, gi)) (omega (arith, gj)) (sym ei ∙ same ∙ at_behind at from a more j gj)))

  pub at_one : (at from : ℕ) (anchors : List ℕ) (i j : ℕ) → AreAnchors f from anchors → from ≤ i → from ≤ j
      → coded_at at from anchors i ≡ coded_at at from anchors j → i ≡ j
  unfolding AreAnchors
  at_one at from [] i j ok li lj same =
      let ei = at_none at from i in let ej = at_none at from j in omega (arith, ei, ej, same, li, lj)
  at_one at from (a ∷ more) i j ok li lj same =
      one_step at from a more i j li lj ok.0.low (λ k low. at_low (at + (a - from) + 1) (a + 1) more k ok.1 low)
      (λ bi bj e. at_one (at + (a - from) + 1) (a + 1) more i j ok.1 bi bj e) same

  -- frames in coding order stand from the first one on
  order_low : (from : ℕ) (anchors : List ℕ) → AreAnchors f from anchors → All (λ i. from ≤ i) (in_order from anchors)
  unfolding AreAnchors in_order
  order_low from [] ok = All-nil (λ i. from ≤ i)
  order_low from (a ∷ more) ok =
      let P = λ (i : ℕ). from ≤ i in
      let low = ok.0.low in
      All-cons P a (frames_between from a ++ in_order (a + 1) more) low
      (All-append P (frames_between from a) (in_order (a + 1) more)
      (All-weaker (Between from (from + (a - from))) P (λ x h. h.0) (frames_between from a) (range_within from (a - from)))
      (All-weaker (λ (i : ℕ). a + 1 ≤ i) P (λ x h. omega (arith, h, low)) (in_order (a + 1) more) (order_low (a + 1) more ok.1)))

  -- and one behind another
  pub order_at : (at from : ℕ) (anchors : List ℕ) → AreAnchors f from anchors
      → map (coded_at at from anchors) (in_order from anchors) ≡ range_with_len at (past_last from anchors - from)
  unfolding AreAnchors in_order past_last
  order_at at from [] ok = let e : from - from ≡ 0 = omega arith in rw e refl
  order_at at from (a ∷ more) ok =
      let h = coded_at at from (a ∷ more) in
      let next = at + (a - from) + 1 in
      let low = ok.0.low in
      let past = past_low f (a + 1) more ok.1 in
      let rest = in_order (a + 1) more in
      let n = past_last (a + 1) more - (a + 1) in
      let first : map h (frames_between from a) ≡ range_with_len (at + 1) (a - from) =
      map_range h from (at + 1) (a - from)
      (λ i l u. let e = at_before at from a more i (omega (arith, l, u, low)) in omega (arith, e)) in
      let others : map h rest ≡ range_with_len next n =
      map_same h (coded_at next (a + 1) more) (λ i. a + 1 ≤ i) rest (order_low (a + 1) more ok.1)
      (λ i l. at_behind at from a more i (omega (arith, l)))
      ∙ order_at next (a + 1) more ok.1 in
      let count : past_last (a + 1) more - from ≡ suc ((a - from) + n) = omega (arith, past, low) in
      let there : at + 1 + (a - from) ≡ next = omega arith in
      rw (count, range_append (at + 1) (a - from) n, there, at_anchor at from a more, map-append h (frames_between from a) rest, first, others) refl

-- ---- the place of a frame in a list

place_step : (h : ℕ → ℕ) (a i first : ℕ) (x : ℕ × ℕ) (fs : List (ℕ × ℕ)) → x.0 ≡ h a → (h a ≡ h i → a ≡ i) → a ≤ i
    → (a + 1 ≤ i → display_place (h i) fs ≡ i - (a + 1)) → display_place (h i) (x ∷ fs) ≡ i - a
unfolding display_place
place_step h a i first x fs e one low rec =
    ⊎_elim
    (λ (same : a ≡ i). rw (eq-eqb x.0 (h i) (e ∙ ap h same)) (omega (arith, same)))
    (λ (other : a ≡ i → ⊥).
    let r = rec (omega (arith, other, low)) in
    rw (test_other x.0 (h i) (λ q. other (one (sym e ∙ q)))) (omega (arith, r, other, low)))
    (cases_eq a i)

pub place_is : (h : ℕ → ℕ) (a n : ℕ) (fs : List (ℕ × ℕ)) (i : ℕ) → frames_of fs ≡ map h (range_with_len a n)
    → ((j : ℕ) → a ≤ j → h j ≡ h i → j ≡ i) → a ≤ i → i < a + n → display_place (h i) fs ≡ i - a
place_is h a zero fs i e one low high = absurd (omega (arith, low, high))
place_is h a (suc n) [] i e one low high = absurd cc
place_is h a (suc n) (x ∷ fs) i e one low high =
    let head : x.0 ≡ h a = cc in
    let rest : frames_of fs ≡ map h (range_with_len (a + 1) n) = cc in
    place_step h a i a x fs head (λ q. one a (omega arith) q) low
    (λ l. place_is h (a + 1) n fs i rest (λ j lj q. one j (omega (arith, lj)) q) l (omega (arith, high)))
