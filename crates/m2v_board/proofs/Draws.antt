-- A claim keeps the rule.
use Rattle.std.proofs.Common.{◌≡◌, ◌≢◌, ℕ, ◌+◌, ◌-◌, ◌^◌, ◌%◌, ◌<◌, ◌≤◌, Bool, true, false, cond, List, length, set, get_or, refl, sym, ap, ◌∙◌, subst, arith, eqb, ltb, leb, length-set, get_or-set_other, get_or-set_same}
use Rattle.std.proofs.lemmas.Bool.Decides.{nat_tests}
use Rattle.std.proofs.lemmas.Bool.{cases_lt}
use Rattle.std.proofs.lemmas.List.{get_or_past}
use Rattle.std.proofs.Math.Nat.{mod-eq_of_lt}
use borrow.Author.Tests.{eqb-false}
use mathlib.Core.Logic.{dite}
use native.Mathlib.Decide.{ℕ_discrete}
use mathlib.Core.Option.{some, none, some-injective, some-ne-none}
use mathlib.Core.Logic.{⊎_elim}
use mathlib.Core.Option as maybe
use lib.ListN.{get_elem?}
use Rattle.atomic_table.specs.Table.{State, Me, keeps, takes, Act, Valid, Allows, stepped, carried_after}
use Rattle.atomic_table.proofs.Lists.{set_here, set_else}
use Rattle.m2v_board.specs.declared.view.View.{View}
use Rattle.m2v_board.specs.Rule.{About, Ruled, ViewKept, JobKept, times, past, one_if, held, word, draws}
use Rattle.m2v_board.specs.Steps.{draw, drew}
use Rattle.m2v_board.proofs.Sums.{sum_set, sum_same, sum_one, times_push, past_push, each_set, next_below, sum_le}

-- words that show the same of each job keep what is known of a view
pub view_words : (n : ℕ) (ws ws' : List ℕ) (v : View) → ((j : ℕ) → word ws' j ≡ word ws j) → ViewKept n ws v → ViewKept n ws' v
view_words n ws ws' v same q = record {
  jobs = q.jobs;
  spent = q.spent;
  published = λ j. q.published j ∙ ap (λ (x : ℕ). cond (eqb x 0) 0 (times j v.drawn)) (sym (same j));
  borrowed = λ i d lt e. q.borrowed i d lt (sym (same (get_or v.borrowed i d)) ∙ e);
  over = q.over;
}

published_push : (b : Bool) (t r j : ℕ) → (b ≡ false → j < r) → cond b 0 t ≡ cond b 0 (t + one_if (eqb r j))
published_push true t r j h = refl
published_push false t r j h = let lt = h refl in grind (arith, nat_tests)

over_push : (n r : ℕ) → r - n + one_if (leb n r) ≡ r + 1 - n
over_push n r = grind (arith, nat_tests)

one_if_small : (b : Bool) → one_if b ≤ 1
one_if_small true = omega arith
one_if_small false = omega arith

-- the next number was not drawn yet
not_yet : (r t : ℕ) → t ≤ one_if (ltb r r) → t ≡ 0
not_yet r t le = grind (arith, nat_tests)

module _ {S : Type 0} (k : About S) where
  -- a job whose slot stays as it is, and which is drawn if it was
  pub job_words : (ws ws' : List ℕ) (hs hs' : List (maybe.Option S)) (j : ℕ) → ((i : ℕ) → word ws' i ≡ word ws i) → draws ws ≤ draws ws' → (draws ws ≤ j → draws ws' ≤ j) → get_elem? hs' j ≡ get_elem? hs j
      → JobKept k ws hs j → JobKept k ws' hs' j
  job_words ws ws' hs hs' j same more still there q = record {
    face = subst (λ (x : ℕ). x ≤ 2) (sym (same j)) q.face;
    needs = λ nz i d lt e. q.needs (λ z. nz (same j ∙ z)) i d lt (sym (same (get_or (k.needs j) i d)) ∙ e);
    drawn = λ nz. let a : j < draws ws = q.drawn (λ z. nz (same j ∙ z)) in omega arith;
    blank = λ le. let b = q.blank (omega arith) in (b.0, there ∙ b.1, b.2);
    out = λ lt z. there ∙ q.out (by_contra j (draws ws) (draws ws') still lt) (sym (same j) ∙ z);
    ready = λ e. let b = q.ready (sym (same j) ∙ e) in (b.0, there ∙ b.1, b.2);
    lent = λ e. there ∙ q.lent (sym (same j) ∙ e);
  }
    where
      by_contra : (j a b : ℕ) → (a ≤ j → b ≤ j) → j < b → j < a
      by_contra j a b f lt = grind (arith, f)

  -- a word that isn't 0 is of a job that was drawn
  pub word_drawn : (s : State S View) → Ruled k s → (j : ℕ) → word s.words j ≢ 0 → j < draws s.words
  word_drawn s h j nz = ⊎_elim (λ lt. (h.each_job j lt).drawn nz) (λ ge. absurd (nz (get_or_past s.words (j + 1) 0 (omega (arith, h.words))))) (cases_lt j k.jobs)

  -- a job that isn't drawn has the word 0
  pub word_undrawn : (s : State S View) → Ruled k s → (j : ℕ) → draws s.words ≤ j → word s.words j ≡ 0
  word_undrawn s h j le = dite (ℕ_discrete (word s.words j) 0) (λ z. z) (λ nz. let lt = word_drawn s h j nz in absurd (omega arith))

  -- the rule after a claim of the number r, where slot r went to the pass if there is one
  drawn : (s : State S View) → Ruled k s → (id : ℕ) (v : View) → get_elem? s.views id ≡ some v → 0 < v.passes → past k.jobs v.drawn ≡ 0
      → (homes : List (maybe.Option S)) → length homes ≡ length s.homes → ((j : ℕ) → j ≢ draws s.words → get_elem? homes j ≡ get_elem? s.homes j) → (draws s.words < k.jobs → get_elem? homes (draws s.words) ≡ some none)
      → Ruled k record { words = set s.words 0 (draws s.words + 1); homes = homes; views = set s.views id (draw v (draws s.words)) }
  drawn s h id v at stands none_past homes size other mine =
      let r : ℕ = draws s.words in
      let w : View = draw v r in
      let n : ℕ = k.jobs in
      let some_word : 0 < length s.words = omega (arith, h.words) in
      let words' : List ℕ = set s.words 0 (r + 1) in
      let now : draws words' ≡ r + 1 = get_or-set_same s.words 0 (r + 1) 0 some_word in
      let same : (j : ℕ) → word words' j ≡ word s.words j = λ j. get_or-set_other s.words 0 (j + 1) (r + 1) 0 (λ e. omega arith) in
      let q = h.each_view id v at in
      record {
        small = h.small;
        words = length-set s.words 0 (r + 1) ∙ h.words;
        homes = size ∙ h.homes;
        each_view = each_set (ViewKept n words') s.views id w
            record {
              jobs = q.jobs;
              spent = λ z. absurd (omega arith);
              published = λ j. q.published j
                  ∙ published_push (eqb (word s.words j) 0) (times j v.drawn) r j (λ e. word_drawn s h j (eqb-false (word s.words j) 0 e))
                  ∙ (λ i. cond (eqb (sym (same j) i) 0) 0 (sym (times_push j r v.drawn) i));
              borrowed = (view_words n s.words words' v same q).borrowed;
              over = let p = past_push n r v.drawn in let o = one_if_small (leb n r) in omega arith;
            }
            (λ i u ne e. view_words n s.words words' u same (h.each_view i u e));
        each_job = λ j lt. dite (ℕ_discrete j r)
            (λ e.
            let z : word words' j ≡ 0 = same j ∙ word_undrawn s h j (omega arith) in
            record {
              face = subst (λ (x : ℕ). x ≤ 2) (sym z) (omega arith);
              needs = λ nz. absurd (nz z);
              drawn = λ nz. absurd (nz z);
              blank = λ le. absurd (omega arith);
              out = λ _ _. subst (λ (i : ℕ). get_elem? homes i ≡ some none) (sym e) (mine (omega arith));
              ready = λ o. absurd (omega arith);
              lent = λ o. absurd (omega arith);
            })
            (λ ne. job_words s.words words' s.homes homes j same (omega arith) (λ le. omega arith) (other j ne) (h.each_job j lt));
        drawn_once = λ x.
            let t = sum_set (λ (u : View). times x u.drawn) s.views id v w at in
            let p = times_push x r v.drawn in
            let b = next_below x r in
            let o = h.drawn_once x in
            omega arith ∙ ap (λ (m : ℕ). one_if (ltb x m)) (sym now);
        over =
            let t = sum_set (λ (u : View). past n u.drawn) s.views id v w at in
            let p = past_push n r v.drawn in
            let b = over_push n r in
            let o = h.over in
            omega arith ∙ ap (λ (m : ℕ). m - n) (sym now);
        held_once = λ j. sum_same (λ (u : View). held j u.holds) s.views id v w at refl ∙ h.held_once j ∙ ap (λ (m : ℕ). one_if (eqb m 2)) (sym (same j));
        all_passes = sum_same (λ (u : View). u.passes) s.views id v w at refl ∙ h.all_passes;
      }

  -- word 0 never passes the jobs plus the workers
  pub draws_few : (s : State S View) → Ruled k s → draws s.words ≤ k.jobs + k.workers
  draws_few s h =
      let le = sum_le (λ (u : View). past k.jobs u.drawn) (λ (u : View). u.passes) s.views (λ i u e. (h.each_view i u e).over) in
      let a = h.over in let b = h.all_passes in omega arith

  pub draws_ok : (slots id : ℕ) (m : Me S View) (IsBlank : ℕ → S → Type 0) → 0 < m.0.passes → m.0.jobs ≡ k.jobs → past k.jobs m.0.drawn ≡ 0 → ((j : ℕ) (x : S) → k.IsBlank j x → IsBlank j x)
      → Allows (Ruled k) slots id m 0 (λ n. (n + 1) % 2 ^ 64) (drew IsBlank m)
  draws_ok slots id m IsBlank stands is none_past tells s h size at _ =
      let r : ℕ = draws s.words in
      let n : ℕ = k.jobs in
      let as_many : m.0.jobs ≡ n = is in
      let few = draws_few s h in
      let small = h.small in
      let whole : (r + 1) % 2 ^ 64 ≡ r + 1 = mod-eq_of_lt (omega arith) in
      let mine = sum_one (λ (u : View). times r u.drawn) s.views id m.0 at in
      let once = h.drawn_once r in
      let fresh : times r m.0.drawn ≡ 0 = not_yet r (times r m.0.drawn) (omega arith) in
      let Goal : ℕ → Type 0 = λ (x : ℕ). (w : View) × (a : Act S) × Valid s.homes m.1 a × Ruled k (stepped s 0 x id m.1 w a) × drew IsBlank m r (w, carried_after m.1 a) in
      subst Goal (sym whole) (⊎_elim
      (λ (lt : r < n).
      let b = (h.each_job r lt).blank (omega arith) in (
        draw m.0 r,
        takes r b.0,
        b.1,
        drawn s h id m.0 at stands none_past (set s.homes r none) (length-set s.homes r none) (λ j ne. set_else s.homes r j none ne) (λ _. set_here s.homes r none (omega (arith, h.homes))),
        (refl, (λ le. absurd (omega arith)), (λ _. (b.0, tells r b.0 b.2, refl)), fresh),
      ))
      (λ (ge : n ≤ r). (
        draw m.0 r,
        keeps,
        tt,
        drawn s h id m.0 at stands none_past s.homes refl (λ j ne. refl) (λ lt. absurd (omega arith)),
        (refl, (λ _. refl), (λ lt. absurd (omega arith)), fresh),
      ))
      (cases_lt r n))
