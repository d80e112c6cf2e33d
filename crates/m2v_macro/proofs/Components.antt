-- Components of vectors.
use Rattle.std.proofs.Common.{◌≡◌, ℕ, ◌≤◌, Bool, true, false, List, [], ◌∷◌, Ok, ℤ, pos, negsuc, refl, ap, sym, ◌∙◌, inl, inr, arith}
use Rattle.std.specs.Prelude.{nat_eq, not, unsigned_abs, drop, ◌+ℤ◌}
use Rattle.std.proofs.lemmas.Int.{ints, to_z-of_z}
use Rattle.std.proofs.lemmas.Bool.{cases_Bool, and_parts}
use mir.Syntax.{w32}
use mir.Val.{SFits, to_z, of_z}
use Rattle.m2v_bits.specs.Bits.{bits_of, number, ahead}
use Rattle.m2v_bits.specs.Syntax.{seq, bind, choose, done, renamed}
use Rattle.m2v_vlc.specs.Codes.{code_at, row_at, begins}
use Rattle.m2v_vlc.specs.Tables.{motion}
use Rattle.m2v_vector.specs.Vectors.{scale, IsVector, difference, wrapped, joined, half}
use Rattle.m2v_vector.proofs.Wrapping.{wrap_none}
use Rattle.m2v_vector.proofs.Ranges.{powers}
use Rattle.m2v_macro.specs.Faults.{coded}
use Rattle.m2v_macro.specs.Vectors.{has_residual, component_at}
use Rattle.m2v_macro.specs.Conditions.{IsDm}

-- a code of 0 has no residual
pub no_residual : (f_code : ℕ) (code : ℤ) → has_residual f_code code ≡ true → code ≡ pos 0 → ⊥
unfolding has_residual
no_residual f_code code e none =
    let some = (and_parts (not (nat_eq f_code 1)) (not (nat_eq (unsigned_abs code) 0)) e).1 in
    let same : false ≡ true = ap (λ (z : ℤ). not (nat_eq (unsigned_abs z) 0)) (sym none) ∙ some in
    cc

-- ---- numbers that are passed on

vector_fits : (f_code : ℕ) (v : ℤ) → f_code ≤ 9 → IsVector (scale f_code) v → SFits w32 v
vector_fits f_code (pos a) most h = let f = powers f_code most in record { sfits = omega (arith, ints, h.0, h.1, f.1) }
vector_fits f_code (negsuc a) most h = let f = powers f_code most in record { sfits = omega (arith, ints, h.0, h.1, f.1) }

pub passed : (f_code : ℕ) (v : ℤ) → f_code ≤ 9 → IsVector (scale f_code) v → to_z w32 (of_z w32 v) ≡ v
passed f_code v most h = to_z-of_z w32 v (vector_fits f_code v most h)

dm_fits : (d : ℤ) → IsDm d → SFits w32 d
dm_fits (pos a) h = record { sfits = omega (arith, ints, h.0, h.1) }
dm_fits (negsuc a) h = record { sfits = omega (arith, ints, h.0, h.1) }

pub passed_dm : (d : ℤ) → IsDm d → to_z w32 (of_z w32 d) ≡ d
passed_dm d h = to_z-of_z w32 d (dm_fits d h)

-- half a predictor
pub half_within : (f : ℕ) (v : ℤ) → IsVector f v → IsVector f (half v)
half_within f (pos a) h = (omega (arith, ints, h.0, h.1), omega (arith, ints, h.0, h.1))
half_within f (negsuc a) h = (omega (arith, ints, h.0, h.1), omega (arith, ints, h.0, h.1))

-- ---- a difference of 0

-- the number 1 is a bit 1
pub one_ahead : (bs : List Bool) → number (ahead 1 bs) ≡ 1 → bs ≡ true ∷ drop 1 bs
unfolding number ahead
one_ahead [] e = absurd cc
one_ahead (true ∷ t) e = refl
one_ahead (false ∷ t) e = absurd cc

-- it is the code of 0
code_of_none : (t : List Bool) → (coded motion).read (true ∷ t) ≡ Ok (pos 0, t)
unfolding renamed code_at row_at begins motion bits_of
code_of_none t = refl

none_behind : (f_code : ℕ) → has_residual f_code (pos 0) ≡ false
unfolding has_residual
none_behind f_code = elim (cases_Bool (nat_eq f_code 1)) [ inl e ↦ rw e refl | inr e ↦ rw e refl ]

no_difference : (f : ℕ) → difference f (pos 0) 0 ≡ pos 0
unfolding difference
no_difference f = elim (cases_Bool (nat_eq f 1)) [ inl e ↦ rw e refl | inr e ↦ rw e refl ]

still_joined : (f : ℕ) (p : ℤ) → IsVector f p → joined f p (pos 0) 0 ≡ p
unfolding joined
still_joined f p h =
    let same : p +ℤ difference f (pos 0) 0 ≡ p = ap (λ (d : ℤ). p +ℤ d) (no_difference f) ∙ omega (arith, ints) in
    ap (wrapped f) same ∙ wrap_none f p h.0 h.1

-- the predictor is the component
pub still_reads : (f_code : ℕ) (p : ℤ) (t : List Bool) → IsVector (scale f_code) p → (component_at f_code p).read (true ∷ t) ≡ Ok (p, t)
unfolding component_at seq bind choose done
still_reads f_code p t h = rw (code_of_none t, none_behind f_code, still_joined (scale f_code) p h) refl
