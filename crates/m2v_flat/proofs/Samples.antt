-- The samples of a block, one after another.
use Rattle.std.proofs.Common.{◌≡◌, ℕ, ◌+◌, ◌/◌, ◌%◌, ◌<◌, All, List, [], ◌∷◌, ◌++◌, map, take, set, length, ℤ, pos, refl, sym, subst, ◌∙◌, arith}
use Rattle.std.specs.List.{range_with_len}
use Rattle.std.proofs.lemmas.Int.{ints}
use Rattle.std.proofs.lemmas.List.{take_more_set, take_all, length-set}
use Rattle.std.proofs.lemmas.List.Elements.{All-append, All-cons, All-nil}
use Rattle.std.proofs.lemmas.List.FromFn.{map-range_with_len_more}
use Rattle.m2v_idct.specs.Ranges.{IsSample}
use Rattle.m2v_plane.specs.declared.planes.Plane.{Plane}
use Rattle.m2v_plane.specs.Samples.{Samples, sample_of}
use Rattle.m2v_flat.specs.Flat.{samples_at}

pub record Made (f : ℕ → ℤ) (k : ℕ) (xs : List ℤ) : Type 0 where
  pub made : take k xs ≡ map f (range_with_len 0 k)
  pub within : All IsSample (take k xs)
  pub len : length xs ≡ 64

byte_is_sample : (s : ℕ) → s < 256 → IsSample (pos s)
byte_is_sample s lt = (omega (arith, ints), omega (arith, ints))

pub made_none : (f : ℕ → ℤ) (xs : List ℤ) → length xs ≡ 64 → Made f 0 xs
made_none f xs len = record { made = refl; within = All-nil IsSample; len = len }

pub made_more : (f : ℕ → ℤ) (k s : ℕ) (v : ℤ) (xs : List ℤ) → Made f k xs → k < 64 → s < 256 → v ≡ pos s → f k ≡ pos s → Made f (k + 1) (set xs k v)
made_more f k s v xs h lt small is same =
    let front : take (k + 1) (set xs k v) ≡ take k xs ++ v ∷ [] = take_more_set xs k v (omega (arith, h.len)) in
    record {
      made = front ∙ rw (h.made, is, ← same) (sym (map-range_with_len_more f 0 k k (omega arith)));
      within = rw front (All-append IsSample (take k xs) (v ∷ []) h.within (All-cons IsSample v [] (rw is (byte_is_sample s small)) (All-nil IsSample)));
      len = length-set xs k v ∙ h.len;
    }

pub made_all : (frame : Samples) (plane : Plane) (line column : ℕ) (xs : List ℤ) → Made (λ k. pos (sample_of frame plane (line + k / 8) (column + k % 8))) 64 xs → xs ≡ samples_at frame plane line column
unfolding samples_at
made_all frame plane line column xs h = sym (take_all 64 xs (omega (arith, h.len))) ∙ h.made

pub all_within : (f : ℕ → ℤ) (xs : List ℤ) → Made f 64 xs → All IsSample xs
all_within f xs h = subst (All IsSample) (take_all 64 xs (omega (arith, h.len))) h.within
