-- Texts in which no prefix of a start code stands: among any 23 bits in a row there is a 1.
use Rattle.std.proofs.Common.{◌≡◌, ℕ, zero, suc, ◌+◌, ◌%◌, ◌^◌, ◌<◌, ◌≤◌, Bool, true, false, List, [], ◌∷◌, ◌++◌, length, take, replicate, ◌∙◌, arith}
use Rattle.std.specs.List.{flat_map, range_with_len}
use Rattle.std.proofs.lemmas.List.{take_all, length-replicate}
use Rattle.std.proofs.Math.Nat.{mod-eq_of_lt}
use Rattle.m2v_bits.specs.Bits.{bits_of, number, all_zero, to_edge}
use Rattle.m2v_bits.proofs.Bits.{length-bits_of, number-bits_of, zero_not}
use Rattle.m2v_model.specs.Texts.{Calm, ended, IsCalm}

pub calm_more : (t : List Bool) (k l m : ℕ) → k ≤ l → Calm k t m → Calm l t m
calm_more [] k l m le h = omega arith
calm_more (true ∷ t) k l m le h = h
calm_more (false ∷ t) zero l m le h = absurd h
calm_more (false ∷ t) (suc k) zero m le h = absurd (omega arith)
calm_more (false ∷ t) (suc k) (suc l) m le h = calm_more t k l m (omega arith) h

pub calm_then : (s t : List Bool) (k m n : ℕ) → Calm k s m → Calm m t n → Calm k (s ++ t) n
calm_then [] t k m n h g = calm_more t m k n h g
calm_then (true ∷ s) t k m n h g = calm_then s t 22 m n h g
calm_then (false ∷ s) t zero m n h g = absurd h
calm_then (false ∷ s) t (suc k) m n h g = calm_then s t k m n h g

pub calm_less : (t : List Bool) (k m n : ℕ) → n ≤ m → Calm k t m → Calm k t n
calm_less [] k m n le h = omega arith
calm_less (true ∷ t) k m n le h = calm_less t 22 m n le h
calm_less (false ∷ t) zero m n le h = absurd h
calm_less (false ∷ t) (suc k) m n le h = calm_less t k m n le h

-- a short text, whatever it is
pub calm_any : (t : List Bool) (k m : ℕ) → length t + m ≤ k → length t + m ≤ 22 → Calm k t m
calm_any [] k m le small = omega arith
calm_any (true ∷ t) k m le small = calm_any t 22 m (omega arith) (omega arith)
calm_any (false ∷ t) zero m le small = absurd (omega arith)
calm_any (false ∷ t) (suc k) m le small = calm_any t k m (omega arith) (omega arith)

-- a text with a 1
pub calm_one : (t : List Bool) (k m : ℕ) → all_zero t ≡ false → length t ≤ suc k → length t + m ≤ 23 → Calm k t m
unfolding all_zero
calm_one [] k m e le small = absurd cc
calm_one (true ∷ t) k m e le small = calm_any t 22 m (omega arith) (omega arith)
calm_one (false ∷ []) zero m e le small = absurd cc
calm_one (false ∷ x ∷ t) zero m e le small = absurd (omega arith)
calm_one (false ∷ t) (suc k) m e le small = calm_one t k m e (omega arith) (omega arith)

-- a number that isn't 0 has a 1
pub some_one : (n v : ℕ) → 0 < v → v < 2 ^ n → all_zero (bits_of n v) ≡ false
some_one n v some below =
    let all : take n (bits_of n v) ≡ bits_of n v = take_all n (bits_of n v) (omega (arith, length-bits_of n v)) in
    let is : number (take n (bits_of n v)) ≡ v = rw all (number-bits_of n v ∙ mod-eq_of_lt below) in
    zero_not n (bits_of n v) (λ none. omega arith)

pub calm_zeros : (n k m : ℕ) (t : List Bool) → Calm k (replicate n false ++ t) m → n ≤ k
calm_zeros zero k m t h = omega arith
calm_zeros (suc n) zero m t h = absurd h
calm_zeros (suc n) (suc k) m t h = omega (arith, calm_zeros n k m t h)

-- what stands behind a part
pub calm_rest : (s t : List Bool) (k m : ℕ) → k ≤ 22 → Calm k (s ++ t) m → (j : ℕ) × (j ≤ 22) × Calm j t m
calm_rest [] t k m le h = (k, le, h)
calm_rest (true ∷ s) t k m le h = calm_rest s t 22 m (omega arith) h
calm_rest (false ∷ s) t zero m le h = absurd h
calm_rest (false ∷ s) t (suc k) m le h = calm_rest s t k m (omega arith) h

-- the zeros behind a text that leaves seven more
pub calm_end : (t : List Bool) → Calm 22 t 7 → IsCalm t
unfolding ended
calm_end t h =
    let zeros = replicate (to_edge (32 + length t)) false in
    let few : length zeros ≤ 7 = omega (arith, length-replicate (to_edge (32 + length t)) false) in
    record { calm = calm_then t zeros 22 7 0 h (calm_any zeros 7 0 (omega arith) (omega arith)) }

-- a text that ends at the edge of a byte
pub calm_whole : (t : List Bool) → length t % 8 ≡ 0 → Calm 22 t 6 → IsCalm t
unfolding ended
calm_whole t edge h =
    let zeros = replicate (to_edge (32 + length t)) false in
    let none : length zeros ≤ 0 = omega (arith, length-replicate (to_edge (32 + length t)) false) in
    record { calm = calm_then t zeros 22 6 0 h (calm_any zeros 6 0 (omega arith) (omega arith)) }

-- texts one after another
pub calm_texts : (text : ℕ → List Bool) (k : ℕ) → ((i : ℕ) → Calm k (text i) k) → (from n : ℕ) → Calm k (flat_map text (range_with_len from n)) k
calm_texts text k each from zero = omega arith
calm_texts text k each from (suc n) = calm_then (text from) (flat_map text (range_with_len (from + 1) n)) k k k (each from) (calm_texts text k each (from + 1) n)
