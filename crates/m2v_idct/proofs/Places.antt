-- What callers need of the definitions of the two transforms.
use Rattle.std.proofs.Common.{◌≡◌, ℕ, ◌+◌, ◌*◌, ◌/◌, ◌%◌, ◌<◌, List, length, get_or, replicate, refl, ℤ, pos}
use Rattle.std.proofs.lemmas.List.FromFn.{length-map-range_with_len}
use Rattle.m2v_idct.specs.Forward.{forward_at, forward_of}
use Rattle.m2v_idct.specs.Inverse.{after_rows, column, combine, eighth, inverse_at, inverse_of, row, scaled}
use Rattle.m2v_idct.proofs.Blocks.{place_is}

-- a place of the whole block
pub forward_of-at : (f : List ℤ) (v u : ℕ) → v < 8 → u < 8 → get_or (forward_of f) (8 * v + u) (pos 0) ≡ forward_at f v u
unfolding forward_of
forward_of-at f v u lv lu = place_is (forward_at f) v u lv lu

pub inverse_of-at : (b : List ℤ) (y x : ℕ) → y < 8 → x < 8 → get_or (inverse_of b) (8 * y + x) (pos 0) ≡ inverse_at b y x
unfolding inverse_of
inverse_of-at b y x ly lx = place_is (inverse_at b) y x ly lx

pub length-forward_of : (f : List ℤ) → length (forward_of f) ≡ 64
unfolding forward_of
length-forward_of f = length-map-range_with_len (λ k. forward_at f (k / 8) (k % 8)) 0 64

pub length-inverse_of : (b : List ℤ) → length (inverse_of b) ≡ 64
unfolding inverse_of
length-inverse_of b = length-map-range_with_len (λ k. inverse_at b (k / 8) (k % 8)) 0 64

-- a block with no coefficient has no sample
pub inverse_of-zeros : inverse_of (replicate 64 (pos 0)) ≡ replicate 64 (pos 0)
unfolding inverse_of inverse_at after_rows row column combine scaled eighth
inverse_of-zeros = refl
