-- The leaves of every syntax of bits but for code tables.
use Rattle.std.specs.Prelude.{◌≡◌, ℕ, ◌<◌, ◌^◌, Bool, true, false, cond, nat_lt, List, [], ◌++◌, length, take, drop, Ok, Err}
use Rattle.m2v_bits.specs.Bits.{bits_of, number, all_zero, first_one}
use Rattle.m2v_bits.specs.Syntax.{Syntax}

-- a number of n bits, the highest first (mnemonic uimsbf, clause 4.6)
unfoldable pub bits_at : {K : Type 0} → K → ℕ → Syntax (List Bool) K ℕ
bits_at cut n = record {
  read = λ t. cond (nat_lt (length t) n) (Err (cut, length t)) (Ok (number (take n t), drop n t));
  Stands = λ v t rest. (v < 2 ^ n) × (t ≡ bits_of n v ++ rest);
  Broken = λ t f. (length t < n) × (f ≡ (cut, length t));
}

-- whether the rest is zero; takes nothing
unfoldable pub zero_at : {K : Type 0} → Syntax (List Bool) K Bool
zero_at = record { read = λ t. Ok (all_zero t, t); Stands = λ v t rest. (v ≡ all_zero t) × (rest ≡ t); Broken = λ t f. ⊥ }

-- zeros up to the end; else the fault stands at the first 1
unfoldable pub end_at : {K : Type 0} → K → Syntax (List Bool) K (Unit {0})
end_at one = record {
  read = λ t. cond (all_zero t) (Ok (tt, [])) (Err (one, first_one t));
  Stands = λ v t rest. (all_zero t ≡ true) × (rest ≡ []);
  Broken = λ t f. (all_zero t ≡ false) × (f ≡ (one, first_one t));
}
