-- One need more is learned, and none of the needs is missing.
use Rattle.std.proofs.Common.{◌≡◌, ℕ, zero, suc, ◌+◌, ◌<◌, Bool, true, false, not, cond, List, [], ◌∷◌, length, get_or, refl, ap, ◌∙◌, arith, add-one}
use Rattle.std.specs.Prelude.{slice_index, Some, None, is_some, find}
use mathlib.Core.Bool.{true≢false}
use Rattle.m2v_core.specs.Book.{cache_after}

module _ {S C : Type 0} (learned : ℕ → S → C → C) (shared : ℕ → S) (needs : List ℕ) where
  pub learn_none : (c : C) → c ≡ cache_after learned shared needs 0 c
  unfolding cache_after
  learn_none c = refl

  pub learn_more : (at : ℕ) (c c1 c2 : C) → c1 ≡ cache_after learned shared needs at c → c2 ≡ learned at (shared (slice_index needs at)) c1 → c2 ≡ cache_after learned shared needs (at + 1) c
  unfolding cache_after
  learn_more at c c1 c2 e1 e2 = rw add-one (e2 ∙ ap (learned at (shared (slice_index needs at))) e1)

-- where no element passes the test, the one at i doesn't
pub find_none : (p : ℕ → Bool) (xs : List ℕ) → find p xs ≡ None → (i : ℕ) → i < length xs → p (get_or xs i 0) ≡ false
find_none p [] e i lt = absurd (omega arith)
find_none p (x ∷ xs) e i lt = by (p x) refl (find_none p xs) e i lt
  where
    by : (b : Bool) → p x ≡ b → (find p xs ≡ None → (i : ℕ) → i < length xs → p (get_or xs i 0) ≡ false) → cond b (Some x) (find p xs) ≡ None → (i : ℕ) → i < length (x ∷ xs) → p (get_or (x ∷ xs) i 0) ≡ false
    by true h rec e i lt = absurd (true≢false (ap is_some e))
    by false h rec e zero lt = h
    by false h rec e (suc i) lt = rec e i (omega arith)

pub not_false : (b : Bool) → not b ≡ false → b ≡ true
not_false true e = refl
not_false false e = absurd (true≢false e)
