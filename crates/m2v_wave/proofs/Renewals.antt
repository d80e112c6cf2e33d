-- Posts of a run before serve another one.
use Rattle.std.proofs.Common.{◌≡◌, ℕ, ◌+◌, ◌<◌, ◌≤◌, min, List, length, take, get_or, slice_set, sym, ap, subst, ◌∙◌, arith}
use Rattle.std.specs.Prelude.{Box}
use Rattle.std.proofs.lemmas.List.{length-take, get_or-take, get_or-set_same, get_or-set_other}
use borrow.Author.Count.{below_more}
use Rattle.m2v_board.specs.declared.post.Post.{Post}
use Rattle.m2v_wave.specs.Pieces.{MayServe}

-- what holds of an element that was not touched yet
pub part_stays : {A : Type 0} (IsSo : A → Type 0) (xs ys : List A) (k : ℕ) (d : A) → get_or ys k d ≡ get_or xs k d → IsSo (get_or xs k d) → IsSo (get_or ys k d)
part_stays IsSo xs ys k d same h = subst IsSo (sym same) h

-- one element more is set, from the first one on
pub places_renewed : {A : Type 0} (IsSo : ℕ → A → Type 0) (xs ys : List A) (n : ℕ) (y : A) → n < length ys
    → ((k : ℕ) (d : A) → n ≤ k → get_or ys k d ≡ get_or xs k d) → ((k : ℕ) (d : A) → k < n → IsSo k (get_or ys k d)) → IsSo n y
    → ((k : ℕ) (d : A) → n + 1 ≤ k → get_or (slice_set ys n y) k d ≡ get_or xs k d) × ((k : ℕ) (d : A) → k < n + 1 → IsSo k (get_or (slice_set ys n y) k d))
places_renewed IsSo xs ys n y small later before here = (
  λ k d h. get_or-set_other ys n k y d (λ e. omega arith) ∙ later k d (omega arith),
  λ k d h. below_more (λ i. IsSo i (get_or (slice_set ys n y) i d)) n
      (λ i u. subst (IsSo i) (sym (get_or-set_other ys n i y d (λ e. omega arith))) (before i d u))
      (subst (IsSo n) (sym (get_or-set_same ys n y d small)) here)
      k h,
)

-- as many posts as there are jobs serve as all do
pub first_serve : {B P S C A : Type 0} (n : ℕ) (fits_piece : ℕ → P → Type 0) (fits_shared : ℕ → S → Type 0) (xs : List (Box (Post B P S C) A))
    → MayServe n fits_piece fits_shared xs → MayServe n fits_piece fits_shared (take n xs)
first_serve n fits_piece fits_shared xs h = record {
  pieces = λ j d lt small.
      part_stays (λ b. fits_piece j b.value.piece) xs (take n xs) j d (get_or-take n xs j d lt) (h.pieces j d lt (omega (arith, small, length-take n xs)));
  parts = λ j d lt small.
      part_stays (λ b. fits_shared j b.value.shared) xs (take n xs) j d (get_or-take n xs j d lt) (h.parts j d lt (omega (arith, small, length-take n xs)));
}
