-- One need more is learned, and one job is done.
use Rattle.std.proofs.Common.{◌≡◌, ◌≢◌, ℕ, cond, leb, ◌+◌, ◌<◌, List, [], ◌∷◌, ◌++◌, length, take, get_or, sym, ap, ◌∙◌, subst, arith}
use Rattle.std.specs.Prelude.{slice_index, All, Contains, Option, None}
use Rattle.std.proofs.lemmas.List.Elements.{All-more, All-weaker, Contains-push, Contains-append_left}
use Rattle.std.proofs.lemmas.List.Sums.{sum_by-append}
use Rattle.std.proofs.Math.ListN.{get_or-append}
use Rattle.std.proofs.Math.Seq.{get_or-append_seam}
use mathlib.Core.Logic.{dite}
use native.Mathlib.Decide.{ℕ_discrete}
use Rattle.m2v_board.specs.declared.view.View.{View}
use Rattle.m2v_board.specs.Steps.{both}
use Rattle.m2v_board.specs.Rule.{past}

pub borrowed_more : (borrowed needs : List ℕ) (at need : ℕ) → at < length needs → need ≡ slice_index needs at → All (λ i. Contains borrowed i) (take at needs) → All (λ i. Contains (borrowed ++ need ∷ []) i) (take (at + 1) needs)
borrowed_more borrowed needs at need lt is all =
    All-more (λ i. Contains (borrowed ++ need ∷ []) i) needs at 0 lt
    (All-weaker (λ i. Contains borrowed i) (λ i. Contains (borrowed ++ need ∷ []) i) (λ i c. Contains-append_left borrowed (need ∷ []) i c) (take at needs) all)
    (subst (λ (i : ℕ). Contains (borrowed ++ need ∷ []) i) is (Contains-push borrowed need))

-- nothing is open after a job that was claimed and done, where nothing was before
pub idle_again : {A : Type 0} (j : ℕ) (before claimed done : ℕ → Option A) → ((i : ℕ) → before i ≡ None) → ((i : ℕ) → i ≢ j → claimed i ≡ before i) → done j ≡ None → ((i : ℕ) → i ≢ j → done i ≡ claimed i) → (i : ℕ) → done i ≡ None
idle_again j before claimed done none a here b i = dite (ℕ_discrete i j) (λ e. ap done e ∙ here) (λ ne. b i ne ∙ a i ne ∙ none i)

-- what two passes have drawn past the jobs
pub both_past : (n : ℕ) (v w x : View) → x ≡ both v w → 0 < past n v.drawn → 0 < past n x.drawn
both_past n v w x is ended = subst (λ (u : View). 0 < past n u.drawn) (sym is) (let e = sum_by-append (λ y. cond (leb n y) 1 0) v.drawn w.drawn in subst (λ (m : ℕ). 0 < m) (sym e) (omega arith))

-- one element more of those that are so at each place
pub places_more : {A : Type 0} (IsSo : ℕ → A → Type 0) (xs : List A) (y : A) (n : ℕ) → length xs ≡ n → ((j : ℕ) (d : A) → j < n → IsSo j (get_or xs j d)) → IsSo n y → (j : ℕ) (d : A) → j < n + 1 → IsSo j (get_or (xs ++ y ∷ []) j d)
places_more IsSo xs y n size before here j d lt = dite (ℕ_discrete j n)
    (λ e. subst (λ (m : ℕ). IsSo m (get_or (xs ++ y ∷ []) m d)) (sym e) (subst (IsSo n) (sym (ap (λ m. get_or (xs ++ y ∷ []) m d) (sym size) ∙ get_or-append_seam xs y [] d)) here))
    (λ ne. subst (IsSo j) (sym (get_or-append xs (y ∷ []) d j (omega arith))) (before j d (omega arith)))
