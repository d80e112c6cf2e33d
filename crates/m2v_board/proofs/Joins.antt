-- A pass that another takes in, and the end.
use Rattle.std.proofs.Common.{◌≡◌, ◌≢◌, ℕ, zero, suc, ◌+◌, ◌<◌, ◌≤◌, ◌||◌, ◌⊎◌, Bool, true, false, cond, List, [], ◌∷◌, ◌++◌, set, refl, sym, ap, ◌∙◌, subst, arith, eqb, ltb, leb}
use Rattle.std.specs.Prelude.{sum_by, None}
use Rattle.std.proofs.lemmas.Bool.Decides.{nat_tests}
use Rattle.std.proofs.lemmas.Bool.{lt-ltb}
use Rattle.std.proofs.lemmas.List.Elements.{All-append}
use Rattle.std.proofs.lemmas.List.Sums.{sum_by-append, sum_by-cons}
use mathlib.Core.Option.{some, some-injective, some-ne-none}
use mathlib.Core.Logic.{⊎_elim, dite}
use native.Mathlib.Decide.{ℕ_discrete}
use lib.ListN.{get_elem?}
use Rattle.atomic_table.specs.Table.{State, Joins, Final, Seen}
use Rattle.atomic_table.proofs.Lists.{set_else}
use Rattle.m2v_board.specs.declared.view.View.{View}
use Rattle.m2v_board.specs.Rule.{About, Ruled, ViewKept, times, past, one_if, held, word, draws, first_view}
use Rattle.m2v_board.specs.Steps.{both}
use Rattle.m2v_board.proofs.Sums.{sum_set, sum_one, sum_two, each_set}

cond_add : (b : Bool) (x y : ℕ) → cond b 0 x + cond b 0 y ≡ cond b 0 (x + y)
cond_add true x y = omega arith
cond_add false x y = refl

cond_none : (b : Bool) → let z : ℕ = 0 in z ≡ cond b z z
cond_none true = refl
cond_none false = refl

-- two views become one, and the other is spent
module _ (f : View → ℕ) where
  sum_join : (xs : List View) (i j : ℕ) (v w x e : View) → get_elem? xs i ≡ some v → ¬ (j ≡ i) → get_elem? (set xs i x) j ≡ some w → f x ≡ f v + f w → f e ≡ 0 → sum_by f (set (set xs i x) j e) ≡ sum_by f xs
  sum_join xs i j v w x e at ne there adds nothing = let a = sum_set f xs i v x at in let b = sum_set f (set xs i x) j w e there in omega arith

  sum_all_none : (xs : List View) → ((i : ℕ) (u : View) → get_elem? xs i ≡ some u → f u ≡ 0) → sum_by f xs ≡ 0
  sum_all_none [] h = refl
  sum_all_none (x ∷ xs) h = sum_by-cons f x xs ∙ (let a = h 0 x refl in let b = sum_all_none xs (λ i. h (suc i)) in omega arith)

  sum_alone : (xs : List View) (i : ℕ) (v : View) → get_elem? xs i ≡ some v → ((j : ℕ) (u : View) → j ≢ i → get_elem? xs j ≡ some u → f u ≡ 0) → sum_by f xs ≡ f v
  sum_alone [] i v at h = absurd (some-ne-none v (sym at))
  sum_alone (x ∷ xs) zero v at h = sum_by-cons f x xs ∙ (let a = ap f (some-injective x v at) in let b = sum_all_none xs (λ j u d. h (suc j) u (λ e. omega arith) d) in omega arith)
  sum_alone (x ∷ xs) (suc i) v at h = sum_by-cons f x xs ∙ (let a = h 0 x (λ e. omega arith) refl in let b = sum_alone xs i v at (λ j u ne d. h (suc j) u (λ e. ne (omega arith)) d) in omega arith)

module _ {S : Type 0} (k : About S) where
  pub joins_ok : (id : ℕ) (v : View) (other : ℕ) (w : View) → 0 < v.passes → v.holds ≡ None → w.holds ≡ None → Joins (Ruled k) id v other w (both v w) (first_view 0 0)
  joins_ok id v other w stands free free' s h at ne there =
      let n : ℕ = k.jobs in
      let q = h.each_view id v at in
      let there' : get_elem? s.views other ≡ some w = sym (set_else s.views id other (both v w) ne) ∙ there in
      let r = h.each_view other w there' in
      let x : View = both v w in
      let e : View = first_view 0 0 in
      let sums : (f : View → ℕ) → f x ≡ f v + f w → f e ≡ 0 → sum_by f (set (set s.views id x) other e) ≡ sum_by f s.views = λ f. sum_join f s.views id other v w x e at ne there in
      record {
        small = h.small;
        words = h.words;
        homes = h.homes;
        each_view = each_set (ViewKept n s.words) (set s.views id x) other e
            record {
              jobs = λ nz. absurd (nz refl);
              spent = λ _. refl;
              published = λ j. cond_none (eqb (word s.words j) 0);
              borrowed = λ i d lt. absurd (omega arith);
              over = omega arith;
            }
            (λ i u _ d. each_set (ViewKept n s.words) s.views id x
            record {
              jobs = λ _. q.jobs (λ z. omega arith);
              spent = λ z. absurd (omega arith);
              published = λ j. sum_by-append (λ y. cond (eqb y j) 1 0) v.published w.published
                  ∙ (let a = q.published j in let b = r.published j in (λ i. a i + b i))
                  ∙ cond_add (eqb (word s.words j) 0) (times j v.drawn) (times j w.drawn)
                  ∙ ap (cond (eqb (word s.words j) 0) 0) (sym (sum_by-append (λ y. cond (eqb y j) 1 0) v.drawn w.drawn));
              borrowed = All-append (λ j. word s.words j ≢ 0) v.borrowed w.borrowed q.borrowed r.borrowed;
              over = let a = sum_by-append (λ y. cond (leb n y) 1 0) v.drawn w.drawn in let b = q.over in let c = r.over in
                  subst (λ (m : ℕ). m ≤ v.passes + w.passes) (sym a) (omega arith);
            }
            (λ i u _ d. h.each_view i u d) i u d);
        each_job = h.each_job;
        drawn_once = λ y. sums (λ (u : View). times y u.drawn) (sum_by-append (λ z. cond (eqb z y) 1 0) v.drawn w.drawn) refl ∙ h.drawn_once y;
        over = sums (λ (u : View). past n u.drawn) (sum_by-append (λ z. cond (leb n z) 1 0) v.drawn w.drawn) refl ∙ h.over;
        held_once = λ j. sums (λ (u : View). held j u.holds) (let a = ap (held j) free in let b = ap (held j) free' in omega arith) refl ∙ h.held_once j;
        all_passes = sums (λ (u : View). u.passes) refl refl ∙ h.all_passes;
      }

  -- a view that stands for all passes, and has a number past the end, has drawn each job
  pub drawn_all : (s : State S View) → Ruled k s → (id : ℕ) (v : View) → get_elem? s.views id ≡ some v → v.passes ≡ k.workers → 0 < past k.jobs v.drawn → (j : ℕ) → j < k.jobs → 0 < times j v.drawn
  drawn_all s h id v at all ended j lt =
      let n : ℕ = k.jobs in
      let one = sum_one (λ (u : View). past n u.drawn) s.views id v at in
      let over = h.over in
      let alone : sum_by (λ (u : View). times j u.drawn) s.views ≡ times j v.drawn = sum_alone (λ (u : View). times j u.drawn) s.views id v at
      (λ i u ne there.
      let two = sum_two (λ (y : View). y.passes) s.views i id u v ne there at in
      let a = h.all_passes in
      ap (λ (y : View). times j y.drawn) ((h.each_view i u there).spent (omega arith))) in
      is_below j (draws s.words) (times j v.drawn) (sym alone ∙ h.drawn_once j) (omega arith)
    where
      is_below : (j r t : ℕ) → t ≡ one_if (ltb j r) → j < r → 0 < t
      is_below j r t e lt = grind (arith, nat_tests)

  -- at the end each job has its post at home, where all are published
  pub ends : (id : ℕ) (v : View) (ws : List ℕ) (xs : List S) → Final (Seen (Ruled k) id v) ws xs → v.passes ≡ k.workers → v.holds ≡ None
      → ((j : ℕ) → j < k.jobs → 0 < times j v.published) ⊎ ((0 < past k.jobs v.drawn) × ((j : ℕ) → j < k.jobs → times j v.published ≡ times j v.drawn))
      → (j : ℕ) → j < k.jobs → (x : S) × (get_elem? xs j ≡ some x) × k.IsReady j x
  ends id v ws xs end all free done j lt =
      let s = end.0 in
      let h = end.1.0 in
      let at = end.1.1 in
      let q = h.each_view id v at in
      let job = h.each_job j lt in
      let ever : 0 < times j v.published = ⊎_elim (λ f. f j lt) (λ t. let d = drawn_all s h id v at all t.0 j lt in let e = t.1 j lt in omega arith) done in
      let shown : word s.words j ≢ 0 = λ z. (let p = q.published j ∙ ap (λ (m : ℕ). cond (eqb m 0) 0 (times j v.drawn)) z in omega arith) in
      let nobody : sum_by (λ (u : View). held j u.holds) s.views ≡ 0 = sum_all_none (λ (u : View). held j u.holds) s.views
      (λ i u there. dite (ℕ_discrete i id)
      (λ e. ap (held j) (ap (λ (y : View). y.holds) (some-injective u v (sym there ∙ ap (get_elem? s.views) e ∙ at)) ∙ free))
      (λ ne.
      let two = sum_two (λ (y : View). y.passes) s.views i id u v ne there at in
      let a = h.all_passes in
      ap (λ (y : View). held j y.holds) ((h.each_view i u there).spent (omega arith)))) in
      let one : word s.words j ≡ 1 = is_one (word s.words j) job.face shown (sym (h.held_once j) ∙ nobody) in
      let b = job.ready one in
      (b.0, end.4 j b.0 b.1, b.2)
    where
      is_one : (n : ℕ) → n ≤ 2 → n ≢ 0 → one_if (eqb n 2) ≡ 0 → n ≡ 1
      is_one n le nz e = grind (arith, nat_tests)

any_past : (a b : ℕ) → ltb 0 (a + b) ≡ (ltb 0 a || ltb 0 b)
any_past zero b = let e : 0 + b ≡ b = omega arith in ap (ltb 0) e
any_past (suc a) b = lt-ltb 0 (suc a + b) (omega arith) ∙ (λ i. sym (lt-ltb 0 (suc a) (omega arith)) i || ltb 0 b)

-- whether a number past the end was drawn, of two passes together
pub ended_join : (n m : ℕ) (xs ys : List ℕ) (a b r : Bool) → m ≡ n → a ≡ ltb 0 (past n xs) → b ≡ ltb 0 (past m ys) → r ≡ (a || b) → r ≡ ltb 0 (past n (xs ++ ys))
ended_join n m xs ys a b r same is_a is_b is_r =
    is_r ∙ (λ i. is_a i || (is_b ∙ ap (λ (z : ℕ). ltb 0 (past z ys)) same) i) ∙ sym (any_past (past n xs) (past n ys)) ∙ ap (ltb 0) (sym (sum_by-append (λ y. cond (leb n y) 1 0) xs ys))
