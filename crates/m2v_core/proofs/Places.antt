-- What a cache holds once it has learned its needs, whatever it held before.
use Rattle.std.proofs.Common.{◌≡◌, ℕ, zero, suc, ◌≤◌, ◌<◌, inl, inr, List, length, get_or, set, refl, ap, subst, ◌∙◌, arith}
use Rattle.std.specs.Prelude.{slice_index}
use Rattle.std.proofs.lemmas.Bool.{cases_lt}
use Rattle.std.proofs.lemmas.List.{length-set, get_or-set_same, get_or-set_other}
use Rattle.m2v_core.specs.Book.{cache_after, SetsPlaces}

module _ {S C : Type 0} (learned : ℕ → S → C → C) (shared : ℕ → S) (needs : List ℕ) where
  cache-next : (k : ℕ) (c : C) → cache_after learned shared needs (suc k) c ≡ learned k (shared (slice_index needs k)) (cache_after learned shared needs k c)
  unfolding cache_after
  cache-next k c = refl

  cache-none : (c : C) → cache_after learned shared needs zero c ≡ c
  unfolding cache_after
  cache-none c = refl

  module _ {V : Type 0} (n : ℕ) (room : C → ℕ) (place : ℕ → C → V) (value : ℕ → V) (h : SetsPlaces learned shared needs n room place value) where
    -- the room stays
    pub places-room : (m : ℕ) (c : C) → m ≤ n → room (cache_after learned shared needs m c) ≡ room c
    places-room zero c le = ap room (cache-none c)
    places-room (suc m) c le =
        ap room (cache-next m c) ∙ h.room_stays m (cache_after learned shared needs m c) (omega arith) ∙ places-room m c (omega arith)

    -- what isn't learned of is as it was
    pub places-left : (m i : ℕ) (c : C) → m ≤ n → m ≤ i → place i (cache_after learned shared needs m c) ≡ place i c
    places-left zero i c le from = ap (place i) (cache-none c)
    places-left (suc m) i c le from =
        ap (place i) (cache-next m c)
        ∙ h.leaves m i (cache_after learned shared needs m c) (omega arith) (λ same. omega arith)
        ∙ places-left m i c (omega arith) (omega arith)

    -- each place that was learned of has its value
    pub places-set : (m i : ℕ) (c : C) → m ≤ n → m ≤ room c → i < m → place i (cache_after learned shared needs m c) ≡ value i
    places-set zero i c le fits lt = absurd (omega arith)
    places-set (suc m) i c le fits lt =
        let before = cache_after learned shared needs m c in
        let some : m < room before = omega (arith, places-room m c (omega arith)) in
        elim (cases_lt i m) [
          | inl less ↦
              ap (place i) (cache-next m c)
              ∙ h.leaves m i before (omega arith) (λ same. omega arith)
              ∙ places-set m i c (omega arith) (omega arith) less
          | inr more ↦
              let here : m ≡ i = omega arith in
              subst (λ (k : ℕ). place k (cache_after learned shared needs (suc m) c) ≡ value k) here
              (ap (place m) (cache-next m c) ∙ h.sets m before (omega arith) some)
        ]

  -- where learning number k sets element k of a list that the cache has, its elements are such places
  pub list-places : {V : Type 0} (n : ℕ) (list : C → List V) (value : ℕ → V) (d : V)
      → ((k : ℕ) (c : C) → k < n → list (learned k (shared (slice_index needs k)) c) ≡ set (list c) k (value k))
      → SetsPlaces learned shared needs n (λ c. length (list c)) (λ i c. get_or (list c) i d) value
  list-places n list value d h = record {
    room_stays = λ k c lt. ap length (h k c lt) ∙ length-set (list c) k (value k);
    sets = λ k c lt fits. ap (λ xs. get_or xs k d) (h k c lt) ∙ get_or-set_same (list c) k (value k) d fits;
    leaves = λ k i c lt other. ap (λ xs. get_or xs i d) (h k c lt) ∙ get_or-set_other (list c) k i (value k) d other;
  }
