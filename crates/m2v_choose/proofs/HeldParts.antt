-- How many bits the parts of a held macroblock take: its increment, and components that are 0; a number less itself.
use Rattle.std.proofs.Common.{◌≡◌, ℕ, ◌+◌, ◌-◌, ◌*◌, ◌/◌, ◌%◌, ◌<◌, ◌≤◌, Bool, true, length, refl, arith, inl, inr, ℤ, pos, negsuc, ◌-ℤ◌, unsigned_abs, length-append}
use Rattle.std.specs.Prelude.{nat_le}
use Rattle.std.proofs.Math.Nat.{mul-div-le}
use Rattle.std.proofs.lemmas.Bool.{cases_lt, leb-true}
use Rattle.m2v_bits.specs.Bits.{bits_of}
use Rattle.m2v_vlc.specs.Codes.{code_of, is_within}
use Rattle.m2v_vlc.specs.Values.{same_increment, same_signed}
use Rattle.m2v_vlc.specs.Tables.{increment, increment_code, motion}
use Rattle.m2v_vlc.specs.declared.values.Increment.TheVariants.{Step}
use Rattle.m2v_vlc.proofs.CodeLaws.{length_within}
use Rattle.m2v_vlc.proofs.ValueLaws.{below, agree}
use Rattle.m2v_vector.specs.Vectors.{between, wrapped, with_sign, residual_of, code_of as motion_code_of}
use Rattle.m2v_macro.specs.Texts.{increment_text, escapes_text, component_text, difference_text, residual_text}
use Rattle.m2v_macro.specs.Vectors.{has_residual}
use Rattle.m2v_macro.proofs.Lengths.{escapes_bits}

-- ---- increments

steps_within : is_within 11 increment ≡ true
unfolding is_within increment
steps_within = refl

step_one : length (increment_code (Step 1)) ≡ 1
unfolding increment code_of bits_of same_increment
step_one = refl

increment_one : length (increment_text 1) ≡ 1
unfolding increment_text escapes_text
increment_one = step_one

increment_more : (n : ℕ) → 2 ≤ n → length (increment_text n) + 30 ≤ 31 * n
unfolding increment_text
increment_more n more =
    let step = Step ((n - 1) % 33 + 1) in
    omega (arith, more, length-append (escapes_text ((n - 1) / 33)) (increment_code step), escapes_bits ((n - 1) / 33), length_within same_increment 11 increment step steps_within, mul-div-le (n - 1) 33)

-- an increment leaves 30 of the 31 bits of each macroblock that it counts
pub increment_bits : (n : ℕ) → 0 < n → length (increment_text n) + 30 ≤ 31 * n
increment_bits n some = elim (cases_lt n 2) [
  | inl less ↦ let one : n ≡ 1 = omega (arith, some, less) in rw one (omega (arith, increment_one))
  | inr more ↦ increment_more n more
]

-- ---- components

unfoldable is_short : ℤ → Bool
is_short p = nat_le (length (component_text 2 p (pos 0))) 12

short_right : below (λ n. is_short (pos n)) 32 ≡ below (λ n. true) 32
unfolding below is_short component_text difference_text residual_text between wrapped with_sign residual_of motion_code_of has_residual code_of motion same_signed bits_of
short_right = refl

short_left : below (λ n. is_short (negsuc n)) 31 ≡ below (λ n. true) 31
unfolding below is_short component_text difference_text residual_text between wrapped with_sign residual_of motion_code_of has_residual code_of motion same_signed bits_of
short_left = refl

-- a component 0 behind a near predictor
pub still_bits : (p : ℤ) → unsigned_abs p ≤ 31 → length (component_text 2 p (pos 0)) ≤ 12
unfolding is_short
still_bits (pos n) near = leb-true (length (component_text 2 (pos n) (pos 0))) 12 (agree (λ k. is_short (pos k)) (λ k. true) 32 n short_right (omega (arith, near)))
still_bits (negsuc n) near = leb-true (length (component_text 2 (negsuc n) (pos 0))) 12 (agree (λ k. is_short (negsuc k)) (λ k. true) 31 n short_left (omega (arith, near)))

-- ---- differences

pub nothing : (z : ℤ) → z -ℤ z ≡ pos 0
nothing z = grind arith
