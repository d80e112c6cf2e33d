-- A step at the word of one job keeps the rule.
use Rattle.std.proofs.Common.{◌≡◌, ◌≢◌, ℕ, ◌+◌, ◌-◌, ◌<◌, ◌≤◌, ◌⊎◌, Bool, cond, List, ◌∷◌, length, set, get_or, refl, sym, ap, ◌∙◌, subst, arith, eqb, ltb, length-set, get_or-set_other, get_or-set_same}
use Rattle.std.specs.Prelude.{sum_by, All, Contains, Some, None}
use Rattle.std.proofs.lemmas.Bool.Decides.{nat_tests}
use Rattle.std.proofs.lemmas.Bool.{cases_lt, eq-eqb, ne_eqb}
use mathlib.Core.Option.{some, none, some-injective, some-ne-none}
use mathlib.Core.Option as maybe
use mathlib.Core.Logic.{⊎_elim, inl, inr, dite}
use native.Mathlib.Decide.{ℕ_discrete}
use lib.ListN.{get_elem?}
use Rattle.atomic_table.specs.Table.{State, Me, keeps, takes, gives, Act, Valid, Allows, stepped, rest, carried_after}
use Rattle.atomic_table.proofs.Lists.{set_here, set_else}
use Rattle.m2v_board.specs.declared.view.View.{View}
use Rattle.m2v_board.specs.Rule.{About, Ruled, ViewKept, JobKept, times, past, one_if, held, word, draws}
use Rattle.m2v_board.specs.Steps.{publish, raised, borrow, lent, give_back, returned}
use Rattle.std.proofs.lemmas.List.{get_or_past}
use Rattle.std.proofs.lemmas.List.Elements.{All-push, All-contains}
use prog.Atomic.{either}
use Rattle.atomic_table.proofs.Lists.{exchanged, set_again, at_index}
use Rattle.m2v_board.proofs.Sums.{sum_set, sum_same, sum_one, sum_two, times_push, each_set}
use Rattle.m2v_board.proofs.Draws.{word_drawn}
use Rattle.m2v_board.proofs.Opening.{elem_there}

module _ {S : Type 0} (k : About S) where
  -- the word of the job j becomes b, which isn't 0, and the view of one pass becomes w
  pub job_step : (s : State S View) → Ruled k s → (id : ℕ) (v w : View) → get_elem? s.views id ≡ some v → 0 < v.passes → w.passes ≡ v.passes → w.jobs ≡ v.jobs → w.drawn ≡ v.drawn
      → (j : ℕ) → j < k.jobs → j < draws s.words → (b : ℕ) → b ≢ 0 → b ≤ 2
      → (homes : List (maybe.Option S)) → length homes ≡ length s.homes → ((i : ℕ) → i ≢ j → get_elem? homes i ≡ get_elem? s.homes i)
      → (b ≡ 1 → (x : S) × (get_elem? homes j ≡ some (some x)) × k.IsReady j x) → (b ≡ 2 → get_elem? homes j ≡ some none)
      → times j w.published ≡ times j v.drawn → ((i : ℕ) → i ≢ j → times i w.published ≡ times i v.published)
      → ((i : ℕ) (u : View) → i ≢ id → get_elem? s.views i ≡ some u → times j u.published ≡ times j u.drawn)
      → All (λ i. (word s.words i ≢ 0) ⊎ (i ≡ j)) w.borrowed → All (λ i. word s.words i ≢ 0) (k.needs j)
      → ((i : ℕ) → i ≢ j → held i w.holds ≡ held i v.holds) → held j w.holds + one_if (eqb (word s.words j) 2) ≡ held j v.holds + one_if (eqb b 2)
      → Ruled k record { words = set s.words (j + 1) b; homes = homes; views = set s.views id w }
  job_step s h id v w at stands same_passes same_jobs same_drawn j lt below b nz few homes size other ready lent pub_here pub_else pub_others borrowed needs held_else held_here =
      let ws : List ℕ = set s.words (j + 1) b in
      let n : ℕ = k.jobs in
      let q = h.each_view id v at in
      let here : word ws j ≡ b = get_or-set_same s.words (j + 1) b 0 (omega (arith, h.words)) in
      let off : (i : ℕ) → i ≢ j → word ws i ≡ word s.words i = λ i ne. get_or-set_other s.words (j + 1) (i + 1) b 0 (λ e. ne (omega arith)) in
      let first : draws ws ≡ draws s.words = get_or-set_other s.words (j + 1) 0 b 0 (λ e. omega arith) in
      let shown : word ws j ≢ 0 = λ z. nz (sym here ∙ z) in
      let mono : (i : ℕ) → word s.words i ≢ 0 → word ws i ≢ 0 = λ i f. dite (ℕ_discrete i j) (λ e. subst (λ (m : ℕ). word ws m ≢ 0) (sym e) shown) (λ ne z. f (sym (off i ne) ∙ z)) in
      let published : (u p : View) → times j p.published ≡ times j u.drawn → ((i : ℕ) → i ≢ j → times i p.published ≡ cond (eqb (word s.words i) 0) 0 (times i u.drawn))
      → (i : ℕ) → times i p.published ≡ cond (eqb (word ws i) 0) 0 (times i u.drawn)
      = λ u p a c i. dite (ℕ_discrete i j)
      (λ e. subst (λ (m : ℕ). times m p.published ≡ cond (eqb (word ws m) 0) 0 (times m u.drawn)) (sym e) (a ∙ ap (λ (t : Bool). cond t 0 (times j u.drawn)) (sym (ne_eqb (word ws j) 0 shown))))
      (λ ne. c i ne ∙ ap (λ (m : ℕ). cond (eqb m 0) 0 (times i u.drawn)) (sym (off i ne))) in
      record {
        small = h.small;
        words = length-set s.words (j + 1) b ∙ h.words;
        homes = size ∙ h.homes;
        each_view = each_set (ViewKept n ws) s.views id w
            record {
              jobs = λ nz. same_jobs ∙ q.jobs (λ z. nz (same_passes ∙ z));
              spent = λ z. absurd (omega arith);
              published = λ i. published v w pub_here (λ m ne. pub_else m ne ∙ q.published m) i ∙ ap (λ l. cond (eqb (word ws i) 0) 0 (times i l)) (sym same_drawn);
              borrowed = λ m d l. ⊎_elim (mono (get_or w.borrowed m d)) (λ e. subst (λ (i : ℕ). word ws i ≢ 0) (sym e) shown) (borrowed m d l);
              over = let o = q.over in let d = ap (past n) same_drawn in omega arith;
            }
            (λ i u ne e.
            let r = h.each_view i u e in
            record {
              jobs = r.jobs;
              spent = r.spent;
              published = published u u (pub_others i u ne e) (λ m _. r.published m);
              borrowed = λ m d l. mono (get_or u.borrowed m d) (r.borrowed m d l);
              over = r.over;
            });
        each_job = λ i l. dite (ℕ_discrete i j)
            (λ e. subst (JobKept k ws homes) (sym e)
            record {
              face = subst (λ (m : ℕ). m ≤ 2) (sym here) few;
              needs = λ _ m d ml. mono (get_or (k.needs j) m d) (needs m d ml);
              drawn = λ _. omega arith;
              blank = λ le. absurd (omega arith);
              out = λ _ z. absurd (shown z);
              ready = λ o. ready (sym here ∙ o);
              lent = λ o. lent (sym here ∙ o);
            })
            (λ ne.
            let r = h.each_job i l in
            record {
              face = subst (λ (m : ℕ). m ≤ 2) (sym (off i ne)) r.face;
              needs = λ f m d ml. mono (get_or (k.needs i) m d) (r.needs (λ z. f (off i ne ∙ z)) m d ml);
              drawn = λ f. let a : i < draws s.words = r.drawn (λ z. f (off i ne ∙ z)) in omega arith;
              blank = λ le. let x = r.blank (omega arith) in (x.0, other i ne ∙ x.1, x.2);
              out = λ d z. other i ne ∙ r.out (omega arith) (sym (off i ne) ∙ z);
              ready = λ o. let x = r.ready (sym (off i ne) ∙ o) in (x.0, other i ne ∙ x.1, x.2);
              lent = λ o. other i ne ∙ r.lent (sym (off i ne) ∙ o);
            });
        drawn_once = λ x. sum_same (λ (u : View). times x u.drawn) s.views id v w at (ap (times x) same_drawn) ∙ h.drawn_once x ∙ ap (λ (m : ℕ). one_if (ltb x m)) (sym first);
        over = sum_same (λ (u : View). past n u.drawn) s.views id v w at (ap (past n) same_drawn) ∙ h.over ∙ ap (λ (m : ℕ). m - n) (sym first);
        held_once = λ i. dite (ℕ_discrete i j)
            (λ e. subst (λ (m : ℕ). sum_by (λ (u : View). held m u.holds) (set s.views id w) ≡ one_if (eqb (word ws m) 2)) (sym e)
            (let t = sum_set (λ (u : View). held j u.holds) s.views id v w at in let o = h.held_once j in let a = held_here in omega arith ∙ ap (λ (m : ℕ). one_if (eqb m 2)) (sym here)))
            (λ ne. sum_same (λ (u : View). held i u.holds) s.views id v w at (held_else i ne) ∙ h.held_once i ∙ ap (λ (m : ℕ). one_if (eqb m 2)) (sym (off i ne)));
        all_passes = sum_same (λ (u : View). u.passes) s.views id v w at same_passes ∙ h.all_passes;
      }

  -- the word of a job is of the board where it isn't 0
  pub word_of_job : (s : State S View) → Ruled k s → (j : ℕ) → word s.words j ≢ 0 → j < k.jobs
  word_of_job s h j nz = ⊎_elim (λ lt. lt) (λ ge. absurd (nz (get_or_past s.words (j + 1) 0 (omega (arith, h.words))))) (cases_lt j k.jobs)

  -- a number that a pass drew was drawn
  pub drew_below : (s : State S View) → Ruled k s → (id : ℕ) (v : View) → get_elem? s.views id ≡ some v → (j : ℕ) → 0 < times j v.drawn → (j < draws s.words) × (times j v.drawn ≡ 1)
  drew_below s h id v at j some_time =
      let one = sum_one (λ (u : View). times j u.drawn) s.views id v at in
      let o = h.drawn_once j in
      ((grind (arith, nat_tests)), (grind (arith, nat_tests)))

  -- nobody else drew it
  pub others_drew : (s : State S View) → Ruled k s → (id : ℕ) (v : View) → get_elem? s.views id ≡ some v → (j : ℕ) → 0 < times j v.drawn → (i : ℕ) (u : View) → i ≢ id → get_elem? s.views i ≡ some u → times j u.drawn ≡ 0
  others_drew s h id v at j some_time i u ne there =
      let two = sum_two (λ (u : View). times j u.drawn) s.views i id u v ne there at in
      let o = h.drawn_once j in
      grind (arith, nat_tests)

  pub raise_ok : (slots id : ℕ) (m : Me S View) (j : ℕ) (x : S) → 0 < m.0.passes → m.1 ≡ (j, x) ∷ rest m.1 → j < k.jobs → times j m.0.published < times j m.0.drawn
      → All (λ i. Contains m.0.borrowed i) (k.needs j) → k.IsReady j x → Allows (Ruled k) slots id m (j + 1) (λ _. 1) (λ _ n. raised j m n)
  raise_ok slots id m j x stands has lt more needs ready s h size at _ =
      let v : View = m.0 in
      let q = h.each_view id v at in
      let open_ : times j v.published < times j v.drawn = more in
      let ever : 0 < times j v.drawn = omega arith in
      let once = drew_below s h id v at j ever in
      let only : times j v.drawn ≡ 1 = once.1 in
      let never : times j v.published ≡ 0 = omega arith in
      let zero_word : word s.words j ≡ 0 = dite (ℕ_discrete (word s.words j) 0) (λ z. z)
      (λ nz. let p = q.published j ∙ ap (λ (b : Bool). cond b 0 (times j v.drawn)) (ne_eqb (word s.words j) 0 nz) in absurd (omega arith)) in
      let homes : List (maybe.Option S) = set s.homes j (some x) in
      let slot : stepped s (j + 1) 1 id ((j, x) ∷ rest m.1) (publish v j) gives ≡ stepped s (j + 1) 1 id m.1 (publish v j) gives = ap (λ c. stepped s (j + 1) 1 id c (publish v j) gives) (sym has) in (
        publish v j,
        gives,
        tt,
        subst (Ruled k) slot (job_step s h id v (publish v j) at stands refl refl refl j lt once.0 1 (λ e. omega arith) (omega arith) homes (length-set s.homes j (some x))
            (λ i ne. set_else s.homes j i (some x) ne) (λ _. (x, set_here s.homes j (some x) (omega (arith, h.homes)), ready)) (λ e. absurd (omega arith))
            (let p = times_push j j v.published in let b = ap one_if (eq-eqb j j refl) in let o = once.1 in omega arith)
            (λ i ne. let p = times_push i j v.published in let b = ap one_if (ne_eqb j i (λ e. ne (sym e))) in omega arith)
            (λ i u ne there. let r = (h.each_view i u there).published j in let z = ap (λ (w : ℕ). cond (eqb w 0) 0 (times j u.drawn)) zero_word in r ∙ z ∙ sym (others_drew s h id v at j ever i u ne there))
            (λ i d l. inl (q.borrowed i d l))
            (λ i d l. All-contains (λ i. word s.words i ≢ 0) v.borrowed (get_or (k.needs j) i d) q.borrowed (needs i d l))
            (λ i _. refl) (ap (λ (w : ℕ). held j v.holds + one_if (eqb w 2)) zero_word)),
        refl,
      )

  -- a look that changes nothing
  pub stays : (s : State S View) → Ruled k s → (id i : ℕ) (m : Me S View) → get_elem? s.views id ≡ some m.0 → i < length s.words → Ruled k (stepped s i (get_or s.words i 0) id m.1 m.0 keeps)
  stays s h id i m at near =
      let t = elem_there s.words i near in
      subst (Ruled k) (λ e. record { words = sym (set_again s.words i (get_or s.words i 0) (at_index s.words i (get_or s.words i 0) near (t.2 0 ∙ sym (t.2 (get_or s.words i 0))))) e; homes = s.homes; views = sym (set_again s.views id m.0 at) e }) h

  pub lend_ok : (slots id : ℕ) (m : Me S View) (j : ℕ) (IsSo : ℕ → S → Type 0) → 0 < m.0.passes → m.0.holds ≡ None → j < k.jobs → ((j : ℕ) (x : S) → k.IsReady j x → IsSo j x)
      → Allows (Ruled k) slots id m (j + 1) (λ n. either (eqb n 1) 2 n) (lent IsSo j m)
  lend_ok slots id m j IsSo stands free lt tells s h size at _ =
      let v : View = m.0 in
      let r : ℕ = word s.words j in
      let q = h.each_view id v at in
      let Goal : ℕ → Type 0 = λ (b : ℕ). (w : View) × (a : Act S) × Valid s.homes m.1 a × Ruled k (stepped s (j + 1) b id m.1 w a) × lent IsSo j m r (w, carried_after m.1 a) in
      exchanged r 1 2 Goal
      (λ (hit : r ≡ 1).
      let job = h.each_job j lt in
      let b = job.ready hit in
      let nz : word s.words j ≢ 0 = λ z. omega arith in
      let shown : (p d : List ℕ) → times j p ≡ cond (eqb (word s.words j) 0) 0 (times j d) → times j p ≡ times j d = λ p d e. e ∙ ap (λ (n : ℕ). cond (eqb n 0) 0 (times j d)) hit in (
        borrow v j,
        takes j b.0,
        b.1,
        job_step s h id v (borrow v j) at stands refl refl refl j lt (word_drawn k s h j nz) 2 (λ e. omega arith) (omega arith) (set s.homes j none) (length-set s.homes j none)
            (λ i ne. set_else s.homes j i none ne) (λ e. absurd (omega arith)) (λ _. set_here s.homes j none (omega (arith, h.homes)))
            (shown v.published v.drawn (q.published j)) (λ i ne. refl) (λ i u ne there. shown u.published u.drawn ((h.each_view i u there).published j))
            (All-push (λ i. (word s.words i ≢ 0) ⊎ (i ≡ j)) v.borrowed j (λ i d l. inl (q.borrowed i d l)) (inr refl))
            (job.needs nz)
            (λ i ne. ap one_if (ne_eqb j i (λ e. ne (sym e))) ∙ ap (held i) (sym free))
            (let a = ap one_if (eq-eqb j j refl) in let b = ap (λ (n : ℕ). one_if (eqb n 2)) hit in let c = ap (held j) free in omega arith),
        ((λ _. (b.0, tells j b.0 b.2, refl)), (λ miss. absurd (miss hit))),
      ))
      (λ miss. (v, keeps, tt, stays s h id (j + 1) m at (omega (arith, h.words)), ((λ hit. absurd (miss hit)), (λ _. refl))))

  pub return_ok : (slots id : ℕ) (m : Me S View) (j : ℕ) (x : S) → 0 < m.0.passes → m.0.holds ≡ Some j → m.1 ≡ (j, x) ∷ rest m.1 → k.IsReady j x
      → Allows (Ruled k) slots id m (j + 1) (λ _. 1) (λ _ n. returned m n)
  return_ok slots id m j x stands holds has ready s h size at _ =
      let v : View = m.0 in
      let q = h.each_view id v at in
      let mine : held j v.holds ≡ 1 = ap (held j) holds ∙ ap one_if (eq-eqb j j refl) in
      let one = sum_one (λ (u : View). held j u.holds) s.views id v at in
      let o = h.held_once j in
      let two : word s.words j ≡ 2 = is_two (word s.words j) (omega arith) in
      let nz : word s.words j ≢ 0 = λ z. omega arith in
      let lt = word_of_job s h j nz in
      let shown : (p d : List ℕ) → times j p ≡ cond (eqb (word s.words j) 0) 0 (times j d) → times j p ≡ times j d = λ p d e. e ∙ ap (λ (n : ℕ). cond (eqb n 0) 0 (times j d)) two in
      let slot : stepped s (j + 1) 1 id ((j, x) ∷ rest m.1) (give_back v) gives ≡ stepped s (j + 1) 1 id m.1 (give_back v) gives = ap (λ c. stepped s (j + 1) 1 id c (give_back v) gives) (sym has) in (
        give_back v,
        gives,
        tt,
        subst (Ruled k) slot (job_step s h id v (give_back v) at stands refl refl refl j lt (word_drawn k s h j nz) 1 (λ e. omega arith) (omega arith) (set s.homes j (some x)) (length-set s.homes j (some x))
            (λ i ne. set_else s.homes j i (some x) ne) (λ _. (x, set_here s.homes j (some x) (omega (arith, h.homes)), ready)) (λ e. absurd (omega arith))
            (shown v.published v.drawn (q.published j)) (λ i ne. refl) (λ i u ne there. shown u.published u.drawn ((h.each_view i u there).published j))
            (λ i d l. inl (q.borrowed i d l)) ((h.each_job j lt).needs nz)
            (λ i ne. sym (ap (held i) holds ∙ ap one_if (ne_eqb j i (λ e. ne (sym e)))))
            (let b = ap (λ (n : ℕ). one_if (eqb n 2)) two in omega arith)),
        refl,
      )
    where
      is_two : (n : ℕ) → 1 ≤ one_if (eqb n 2) → n ≡ 2
      is_two n h = grind (arith, nat_tests)

  -- the same, as the calls meet it: the word is j + 1, and the slot was just written
  pub lend_at : (slots id : ℕ) (m : Me S View) (j : ℕ) (IsSo : ℕ → S → Type 0) → 0 < m.0.passes → m.0.holds ≡ None → j < k.jobs → ((j : ℕ) (x : S) → k.IsReady j x → IsSo j x)
      → Allows (Ruled k) slots id m (j + 1) (λ n. either (eqb n 1) 2 n) (lent IsSo (j + 1 - 1) m)
  lend_at slots id m j IsSo stands free lt tells =
      let e : j ≡ j + 1 - 1 = omega arith in
      subst (λ (i : ℕ). Allows (Ruled k) slots id m (j + 1) (λ n. either (eqb n 1) 2 n) (lent IsSo i m)) e (lend_ok slots id m j IsSo stands free lt tells)

  pub return_at : (slots id : ℕ) (m m' : Me S View) (j : ℕ) (x : S) → m' ≡ (m.0, (j, x) ∷ rest m.1) → 0 < m.0.passes → m.0.holds ≡ Some j → k.IsReady j x → Allows (Ruled k) slots id m' (j + 1) (λ _. 1) (λ _ n. returned m' n)
  return_at slots id m m' j x is stands holds ready =
      subst (λ (y : Me S View). Allows (Ruled k) slots id y (j + 1) (λ _. 1) (λ _ n. returned y n)) (sym is) (return_ok slots id (m.0, (j, x) ∷ rest m.1) j x stands holds refl ready)

  pub raise_at : (slots id : ℕ) (m m' : Me S View) (j : ℕ) (x : S) → m' ≡ (m.0, (j, x) ∷ rest m.1) → 0 < m.0.passes → j < k.jobs → times j m.0.published < times j m.0.drawn
      → All (λ i. Contains m.0.borrowed i) (k.needs j) → k.IsReady j x → Allows (Ruled k) slots id m' (j + 1) (λ _. 1) (λ _ n. raised (j + 1 - 1) m' n)
  raise_at slots id m m' j x is stands lt more needs ready =
      let e : j ≡ j + 1 - 1 = omega arith in
      subst (λ (i : ℕ). Allows (Ruled k) slots id m' (j + 1) (λ _. 1) (λ _ n. raised i m' n)) e
      (subst (λ (y : Me S View). Allows (Ruled k) slots id y (j + 1) (λ _. 1) (λ _ n. raised j y n)) (sym is) (raise_ok slots id (m.0, (j, x) ∷ rest m.1) j x stands refl lt more needs ready))
