-- The slots that a pass has: turned, and looked up.
use Rattle.std.proofs.Common.{◌≡◌, ◌≢◌, ℕ, zero, suc, ◌+◌, ◌<◌, ◌≤◌, Bool, true, false, cond, List, [], ◌∷◌, ◌++◌, length, take, drop, get_or, refl, sym, ap, ◌∙◌, subst, arith, eqb, append_assoc, drop-cons}
use Rattle.std.proofs.Math.Seq.{take-suc}
use Rattle.std.specs.Prelude.{Option, Some, None, not, position}
use Rattle.std.specs.List.{position_or_len}
use Rattle.std.proofs.lemmas.Bool.{eq-eqb, ne_eqb, eqb-true, lt-ltb}
use Rattle.std.proofs.lemmas.List.{take-append-drop}
use Rattle.std.proofs.lemmas.List.Sums.{sum_by-cons, sum_by-append, passes_at_first}
use mathlib.Core.Logic.{dite}
use native.Mathlib.Decide.{ℕ_discrete}
use Rattle.atomic_table.specs.Table.{rest, turned}
use Rattle.m2v_board.specs.Rule.{times, one_if}
use Rattle.m2v_board.specs.Slots.{jobs_in, slot_at}

pub times_cons : (i x : ℕ) (xs : List ℕ) → times i (x ∷ xs) ≡ one_if (eqb x i) + times i xs
times_cons i x xs = sum_by-cons (λ y. cond (eqb y i) 1 0) x xs

pub times_append : (i : ℕ) (xs ys : List ℕ) → times i (xs ++ ys) ≡ times i xs + times i ys
times_append i xs ys = sum_by-append (λ y. cond (eqb y i) 1 0) xs ys

or_else : {A : Type 0} → Option A → Option A → Option A
or_else (Some x) o = Some x
or_else None o = o

-- a queue that was turned p times
abbrev pub from : {A : Type 0} → ℕ → List A → List A
from p l = drop p l ++ take p l

-- one turn more
pub turn_more : {A : Type 0} (p : ℕ) (l : List (ℕ × A)) → p < length l → turned (from p l) ≡ from (p + 1) l
turn_more p [] lt = absurd (omega arith)
turn_more p (x ∷ l) lt =
    let e : suc p ≡ p + 1 = omega arith in
    ap (λ m. turned (m ++ take p (x ∷ l))) (drop-cons (x ∷ l) p x lt)
    ∙ append_assoc (drop (suc p) (x ∷ l)) (take p (x ∷ l)) (get_or (x ∷ l) p x ∷ [])
    ∙ ap (λ m. drop (suc p) (x ∷ l) ++ m) (sym (take-suc (x ∷ l) p x lt))
    ∙ ap (λ n. from n (x ∷ l)) e

pub times_from : (i p : ℕ) (xs : List ℕ) → times i (from p xs) ≡ times i xs
times_from i p xs = times_append i (drop p xs) (take p xs) ∙ (let e = times_append i (take p xs) (drop p xs) in let t = ap (times i) (take-append-drop p xs) in omega arith)

module _ {S : Type 0} where
  jobs_append : (a b : List (ℕ × S)) → jobs_in (a ++ b) ≡ jobs_in a ++ jobs_in b
  jobs_append [] b = refl
  jobs_append (x ∷ a) b = ap (λ l. x.0 ∷ l) (jobs_append a b)

  jobs_drop : (p : ℕ) (l : List (ℕ × S)) → jobs_in (drop p l) ≡ drop p (jobs_in l)
  jobs_drop zero l = refl
  jobs_drop (suc p) [] = refl
  jobs_drop (suc p) (x ∷ l) = jobs_drop p l

  jobs_take : (p : ℕ) (l : List (ℕ × S)) → jobs_in (take p l) ≡ take p (jobs_in l)
  jobs_take zero l = refl
  jobs_take (suc p) [] = refl
  jobs_take (suc p) (x ∷ l) = ap (λ m. x.0 ∷ m) (jobs_take p l)

  pub jobs_from : (p : ℕ) (l : List (ℕ × S)) → jobs_in (from p l) ≡ from p (jobs_in l)
  jobs_from p l = jobs_append (drop p l) (take p l) ∙ (λ i. jobs_drop p l i ++ jobs_take p l i)

  pub length_jobs : (l : List (ℕ × S)) → length (jobs_in l) ≡ length l
  length_jobs [] = refl
  length_jobs (x ∷ l) = ap suc (length_jobs l)

  slot_append : (a b : List (ℕ × S)) (i : ℕ) → slot_at (a ++ b) i ≡ or_else (slot_at a i) (slot_at b i)
  unfolding or_else
  slot_append [] b i = refl
  slot_append (x ∷ a) b i = by (eqb x.0 i) (slot_append a b i)
    where
      by : (t : Bool) → slot_at (a ++ b) i ≡ or_else (slot_at a i) (slot_at b i) → cond t (Some x.1) (slot_at (a ++ b) i) ≡ or_else (cond t (Some x.1) (slot_at a i)) (slot_at b i)
      by true h = refl
      by false h = h

  -- a job that isn't there has no slot
  slot_none : (a : List (ℕ × S)) (i : ℕ) → times i (jobs_in a) ≡ 0 → slot_at a i ≡ None
  slot_none [] i e = refl
  slot_none (x ∷ a) i e = by (eqb x.0 i) refl (slot_none a i)
    where
      c : times i (jobs_in (x ∷ a)) ≡ one_if (eqb x.0 i) + times i (jobs_in a)
      c = times_cons i x.0 (jobs_in a)

      by : (t : Bool) → eqb x.0 i ≡ t → (times i (jobs_in a) ≡ 0 → slot_at a i ≡ None) → cond t (Some x.1) (slot_at a i) ≡ None
      by true h rec = let o = ap one_if h in absurd (omega (arith, c, e))
      by false h rec = rec (omega (arith, c, e))

  none_right : (o : Option S) → or_else o None ≡ o
  unfolding or_else
  none_right (Some x) = refl
  none_right None = refl

  none_left : (o : Option S) → or_else None o ≡ o
  unfolding or_else
  none_left o = refl

  slot_swap : (a b : List (ℕ × S)) (i : ℕ) → times i (jobs_in (a ++ b)) ≤ 1 → slot_at (b ++ a) i ≡ slot_at (a ++ b) i
  slot_swap a b i once =
      let t : times i (jobs_in (a ++ b)) ≡ times i (jobs_in a) + times i (jobs_in b) = ap (times i) (jobs_append a b) ∙ times_append i (jobs_in a) (jobs_in b) in
      slot_append b a i
      ∙ dite (ℕ_discrete (times i (jobs_in a)) 0)
      (λ z. let n = slot_none a i z in (λ k. or_else (slot_at b i) (n k)) ∙ none_right (slot_at b i) ∙ sym (none_left (slot_at b i)) ∙ (λ k. or_else (sym n k) (slot_at b i)))
      (λ nz. let n = slot_none b i (omega arith) in (λ k. or_else (n k) (slot_at a i)) ∙ none_left (slot_at a i) ∙ sym (none_right (slot_at a i)) ∙ (λ k. or_else (slot_at a i) (sym n k)))
      ∙ sym (slot_append a b i)

  pub slot_from : (p : ℕ) (l : List (ℕ × S)) (i : ℕ) → times i (jobs_in l) ≤ 1 → slot_at (from p l) i ≡ slot_at l i
  slot_from p l i once = slot_swap (take p l) (drop p l) i (subst (λ m. times i (jobs_in m) ≤ 1) (sym (take-append-drop p l)) once) ∙ ap (λ m. slot_at m i) (take-append-drop p l)

  -- the first place of a job
  dropped : (p : ℕ) (l : List (ℕ × S)) (j : ℕ) → p < length l → get_or (jobs_in l) p 0 ≡ j → ((i : ℕ) → times i (jobs_in l) ≤ 1) → (x : S) × (slot_at l j ≡ Some x) × (drop p l ≡ (j, x) ∷ rest (drop p l))
  dropped p [] j lt e once = absurd (omega arith)
  dropped zero (x ∷ l) j lt e once = (x.1, ap (λ t. cond t (Some x.1) (slot_at l j)) (eq-eqb x.0 j e), (λ k. (e k, x.1) ∷ l))
  dropped (suc p) (x ∷ l) j lt e once =
      let c = times_cons j x.0 (jobs_in l) in
      let o = once j in
      let t = dropped p l j (omega arith) e (λ i. let ci = times_cons i x.0 (jobs_in l) in let oi = once i in omega arith) in
      let pos = there l j t.0 t.1 in
      let ne : x.0 ≢ j = λ h. (let one = ap one_if (eq-eqb x.0 j h) in omega arith) in
      (t.0, ap (λ b. cond b (Some x.1) (slot_at l j)) (ne_eqb x.0 j ne) ∙ t.1, t.2)
    where
      there : (l : List (ℕ × S)) (j : ℕ) (x : S) → slot_at l j ≡ Some x → 0 < times j (jobs_in l)
      there l j x e = dite (ℕ_discrete (times j (jobs_in l)) 0) (λ z. absurd (none_some (sym (slot_none l j z) ∙ e))) (λ nz. omega arith)
        where
          none_some : None ≡ Some x → ⊥
          none_some h = cc

  pub slot_there : (l : List (ℕ × S)) (j : ℕ) (x : S) → slot_at l j ≡ Some x → 0 < times j (jobs_in l)
  slot_there l j x e = dite (ℕ_discrete (times j (jobs_in l)) 0) (λ z. absurd (none_some (sym (slot_none l j z) ∙ e))) (λ nz. omega arith)
    where
      none_some : None ≡ Some x → ⊥
      none_some h = cc

  pub first_from : (p : ℕ) (l : List (ℕ × S)) (j : ℕ) → p < length l → get_or (jobs_in l) p 0 ≡ j → ((i : ℕ) → times i (jobs_in l) ≤ 1) → (x : S) × (slot_at l j ≡ Some x) × (from p l ≡ (j, x) ∷ rest (from p l))
  first_from p l j lt e once = let t = dropped p l j lt e once in
      (t.0, t.1, ap (λ m. m ++ take p l) t.2 ∙ ap (λ m. (j, t.0) ∷ rest (m ++ take p l)) (sym t.2))

  -- the slot that comes first, and the others
  pub slot_first : (j i : ℕ) (x : S) (l : List (ℕ × S)) → i ≢ j → slot_at ((j, x) ∷ l) i ≡ slot_at l i
  slot_first j i x l ne = ap (λ b. cond b (Some x) (slot_at l i)) (ne_eqb j i (λ e. ne (sym e)))

  pub slot_here : (j : ℕ) (x : S) (l : List (ℕ × S)) → slot_at ((j, x) ∷ l) j ≡ Some x
  slot_here j x l = ap (λ b. cond b (Some x) (slot_at l j)) (eq-eqb j j refl)

  -- behind the slot of a job there is none of that job
  pub slot_gone : (j : ℕ) (x : S) (l : List (ℕ × S)) → times j (jobs_in ((j, x) ∷ l)) ≤ 1 → slot_at l j ≡ None
  slot_gone j x l once = let c = times_cons j j (jobs_in l) in let o = ap one_if (eq-eqb j j refl) in slot_none l j (omega arith)

  pub none_open : (l : List (ℕ × S)) → ((i : ℕ) → slot_at l i ≡ None) → l ≡ []
  none_open [] h = refl
  none_open (x ∷ l) h = absurd (none_some (sym (h x.0) ∙ slot_here x.0 x.1 l))
    where
      none_some : None ≡ Some x.1 → ⊥
      none_some e = cc

-- a job that stands in the queue has a place there
place_there : (j : ℕ) (xs : List ℕ) → 0 < times j xs → position_or_len (λ i. eqb i j) xs < length xs
place_there j [] h = absurd (omega arith)
place_there j (x ∷ xs) h = by (eqb x j) refl (place_there j xs)
  where
    c : times j (x ∷ xs) ≡ one_if (eqb x j) + times j xs
    c = times_cons j x xs

    by : (b : Bool) → eqb x j ≡ b → (0 < times j xs → position_or_len (λ i. eqb i j) xs < length xs) → cond (not b) (1 + position_or_len (λ i. eqb i j) xs) 0 < length (x ∷ xs)
    by true e rec = omega arith
    by false e rec = let z = ap one_if e in let r = rec (omega (arith, c, h)) in omega arith

pub position_there : (j : ℕ) (xs : List ℕ) → 0 < times j xs → (p : ℕ) × (position (λ i. eqb i j) xs ≡ Some p) × (p < length xs) × (get_or xs p 0 ≡ j)
position_there j xs h =
    let p : ℕ = position_or_len (λ i. eqb i j) xs in
    let lt = place_there j xs h in
    (p, ap (λ b. cond b (Some p) None) (lt-ltb p (length xs) lt), lt, eqb-true (get_or xs p 0) j (passes_at_first (λ i. eqb i j) xs 0 lt))
