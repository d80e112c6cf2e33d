-- Bytes that end in the prefix of a start code, by their last three.
use Rattle.std.proofs.Common.{◌≡◌, ℕ, zero, suc, ◌-◌, ◌≤◌, Bool, true, false, List, [], ◌∷◌, ◌++◌, length, drop, refl, sym, ap, ◌∙◌, arith}
use Rattle.std.specs.Prelude.{nat_eq, nat_le, ◌&&◌, ◌||◌, replicate}
use Rattle.std.proofs.lemmas.Bool.{le-leb, and_right}
use Rattle.std.proofs.lemmas.List.{length-append}
use Rattle.std.proofs.Math.Bool.{or-false, and-false}
use Rattle.m2v_law_seam.specs.Strands.{is_prefix, ends_open}

pub open_tail : (w : List ℕ) → ends_open w ≡ is_prefix (drop (length w - 3) w)
unfolding ends_open
open_tail [] = refl
open_tail (a ∷ []) = refl
open_tail (a ∷ b ∷ []) = refl
open_tail (a ∷ b ∷ c ∷ []) = or-false (is_prefix (a ∷ b ∷ c ∷ []))
open_tail (a ∷ b ∷ c ∷ d ∷ w) =
    let next : length (a ∷ b ∷ c ∷ d ∷ w) - 3 ≡ suc (length (b ∷ c ∷ d ∷ w) - 3) = omega arith in
    open_tail (b ∷ c ∷ d ∷ w) ∙ ap (λ (n : ℕ). is_prefix (drop n (a ∷ b ∷ c ∷ d ∷ w))) (sym next)

-- bytes before three others don't matter
front_step : (b : ℕ) (l : List ℕ) → 3 ≤ length l → ends_open (b ∷ l) ≡ ends_open l
unfolding ends_open
front_step b (x ∷ y ∷ z ∷ l) le = refl
front_step b _ le = absurd (omega (arith, le))

pub open_front : (x w : List ℕ) → 3 ≤ length w → ends_open (x ++ w) ≡ ends_open w
open_front [] w le = refl
open_front (b ∷ x) w le = front_step b (x ++ w) (omega (arith, le, length-append x w)) ∙ open_front x w le

-- a unit, behind its start code
pub open_unit : (u : List ℕ) → ends_open (drop 4 u) ≡ (nat_le 7 (length u) && ends_open u)
unfolding ends_open
open_unit [] = refl
open_unit (a ∷ []) = refl
open_unit (a ∷ b ∷ []) = refl
open_unit (a ∷ b ∷ c ∷ []) = refl
open_unit (a ∷ b ∷ c ∷ d ∷ []) = refl
open_unit (a ∷ b ∷ c ∷ d ∷ e ∷ []) = refl
open_unit (a ∷ b ∷ c ∷ d ∷ e ∷ f ∷ []) = refl
open_unit (a ∷ b ∷ c ∷ d ∷ e ∷ f ∷ g ∷ w) =
    let long : nat_le 7 (length (a ∷ b ∷ c ∷ d ∷ e ∷ f ∷ g ∷ w)) ≡ true = le-leb 7 _ (omega arith) in
    ap (λ (t : Bool). t && ends_open (a ∷ b ∷ c ∷ d ∷ e ∷ f ∷ g ∷ w)) (sym long)

-- zero bytes at the end
zeros_prefix : (n : ℕ) → is_prefix (replicate n 0) ≡ false
zeros_prefix zero = refl
zeros_prefix (suc zero) = refl
zeros_prefix (suc (suc zero)) = refl
zeros_prefix (suc (suc (suc zero))) = refl
zeros_prefix (suc (suc (suc (suc n)))) = refl

zeros_open : (n : ℕ) → ends_open (replicate n 0) ≡ false
unfolding ends_open
zeros_open zero = refl
zeros_open (suc n) = ap (λ (t : Bool). t || ends_open (replicate n 0)) (zeros_prefix (suc n)) ∙ zeros_open n

front_prefix : (a : ℕ) (w : List ℕ) (n : ℕ) → is_prefix (a ∷ (w ++ replicate (suc n) 0)) ≡ false
front_prefix a [] zero = refl
front_prefix a [] (suc zero) = and-false (nat_eq a 0)
front_prefix a [] (suc (suc n)) = refl
front_prefix a (b ∷ []) zero = and_right (nat_eq a 0) (nat_eq b 0 && false) (and-false (nat_eq b 0))
front_prefix a (b ∷ []) (suc n) = refl
front_prefix a (b ∷ c ∷ []) n = refl
front_prefix a (b ∷ c ∷ d ∷ w) n = refl

pub open_zeros : (w : List ℕ) (n : ℕ) → ends_open (w ++ replicate (suc n) 0) ≡ false
unfolding ends_open
open_zeros [] n = zeros_open (suc n)
open_zeros (a ∷ w) n = ap (λ (t : Bool). t || ends_open (w ++ replicate (suc n) 0)) (front_prefix a w n) ∙ open_zeros w n
