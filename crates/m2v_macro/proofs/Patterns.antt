-- The code of pattern 0.
use Rattle.std.proofs.Common.{◌≡◌, ℕ, zero, suc, ◌*◌, ◌^◌, Bool, true, false, List, [], ◌∷◌, length, refl, ap, sym, zero-add, ◌∙◌, arith}
use Rattle.std.specs.Prelude.{nat_eq}
use Rattle.std.proofs.lemmas.Bool.{ne_eqb}
use Rattle.std.proofs.lemmas.Nat.{pow_pos}
use Rattle.std.proofs.Math.Nat.{pow-suc}
use Rattle.m2v_bits.specs.Bits.{bits_of, number, ahead}
use Rattle.m2v_vlc.specs.Codes.{begins}
use Rattle.m2v_macro.specs.Macros.{zero_pattern}

length-ahead : (n : ℕ) (t : List Bool) → length (ahead n t) ≡ n
unfolding ahead
length-ahead zero t = refl
length-ahead (suc n) [] = ap suc (length-ahead n [])
length-ahead (suc n) (b ∷ bs) = ap suc (length-ahead n bs)

-- k zeros and a 1
one_behind : ℕ → List Bool
one_behind zero = true ∷ []
one_behind (suc k) = false ∷ one_behind k

begins_none : (k : ℕ) → false ≡ begins (one_behind k) []
unfolding one_behind begins
begins_none zero = refl
begins_none (suc k) = refl

one_ahead : (k : ℕ) (t : List Bool) → begins (one_behind k) t ≡ nat_eq (number (ahead (suc k) t)) 1
unfolding one_behind begins ahead number
one_ahead zero [] = refl
one_ahead zero (true ∷ bs) = refl
one_ahead zero (false ∷ bs) = refl
one_ahead (suc k) [] = rw (zero-add (number (ahead (suc k) []))) (begins_none k ∙ one_ahead k [])
one_ahead (suc k) (true ∷ bs) =
    let some = pow_pos k in
    let two : 2 ^ suc k ≡ 2 ^ k * 2 = pow-suc 2 k in
    let len : length (ahead (suc k) bs) ≡ suc k = length-ahead (suc k) bs in
    sym (ne_eqb _ 1 (λ e. omega (arith, e, ap (λ (n : ℕ). 2 ^ n) len)))
one_ahead (suc k) (false ∷ bs) = rw (zero-add (number (ahead (suc k) bs))) (one_ahead k bs)

pub pattern_ahead : (t : List Bool) → begins zero_pattern t ≡ nat_eq (number (ahead 9 t)) 1
unfolding bits_of one_behind
pattern_ahead t = one_ahead 8 t
