-- What a cache has learned.
use Rattle.std.specs.Prelude.{ℕ, zero, suc, ◌≡◌, ◌≢◌, ◌<◌, List, slice_index}

module _ {S C : Type 0} (learned : ℕ → S → C → C) (shared : ℕ → S) (needs : List ℕ) where
  -- the cache after the first k needs were learned, in order
  unfoldable pub cache_after : ℕ → C → C
  cache_after zero c = c
  cache_after (suc k) c = learned k (shared (slice_index needs k)) (cache_after k c)

  -- learning so many needs sets the places of a cache one by one: learning number k sets place k, where there is room for it,
  -- and leaves the others and the room as they were
  pub record SetsPlaces {V : Type 0} (n : ℕ) (room : C → ℕ) (place : ℕ → C → V) (value : ℕ → V) : Type 0 where
    pub room_stays : (k : ℕ) (c : C) → k < n → room (learned k (shared (slice_index needs k)) c) ≡ room c
    pub sets : (k : ℕ) (c : C) → k < n → k < room c → place k (learned k (shared (slice_index needs k)) c) ≡ value k
    pub leaves : (k i : ℕ) (c : C) → k < n → i ≢ k → place i (learned k (shared (slice_index needs k)) c) ≡ place i c
