-- How far two samples lie apart, as lanes of 32 bits compute it.
use Rattle.std.proofs.Common.{◌≡◌, ℕ, ◌*◌, zero, suc, ◌+◌, ◌-◌, ◌^◌, ◌<◌, ◌≤◌, List, [], ◌∷◌, length, map, replicate, arith, refl, cond, pos}
use lib.Lanes.{sum_l, Each1, zip2, sel_l, top}
use borrow.Rule.Simd.Lanes.{Asks1, act1, act2}
use borrow.Table.Row.{s_int}
use mir.Syntax.{w8, w32, wrap_sub, mask, lt, signed, unsigned, cast}
use mir.Val.{to_z}
use Rattle.std.proofs.lemmas.Int.{to_z_pos}
use mir.Facts.{to_z-neg}
use native.Mathlib.Nat.{suc_inj}
use mathlib.Core.Logic.{⊎_elim}
use Rattle.std.specs.List.{sum}
use Rattle.std.proofs.lemmas.List.Sums.{sum_by-cons}
use Rattle.std.proofs.lemmas.Bool.{cases_lt}
use Rattle.m2v_kernel.specs.Sums.{apart}
use Rattle.m2v_kernel.proofs.Means.{Small}

abbrev C : ℕ → ℕ
C = act1 (cast unsigned signed w32) (s_int w8) (s_int w32)

abbrev SUB : ℕ → ℕ → ℕ
SUB = act2 wrap_sub (s_int w32) (s_int w32) (s_int w32)

abbrev LT : ℕ → ℕ → ℕ
LT = act2 (mask (lt signed)) (s_int w32) (s_int w32) (s_int w32)

-- the lane that `abs` leaves of the difference d
abbrev size_of : ℕ → ℕ
size_of d = cond (top 31 (LT d (SUB 0 d))) (SUB 0 d) d

upward : (d : ℕ) → d < 256 → size_of d ≡ d
upward zero h = refl
upward (suc k) h =
    let n_is : SUB 0 (suc k) ≡ 2 ^ 32 - suc k = omega arith in
    rw (n_is, to_z-neg w32 k (omega arith), to_z_pos w32 (suc k) (omega arith)) refl

downward : (k : ℕ) → suc k < 256 → size_of (2 ^ 32 - suc k) ≡ suc k
downward k h =
    let n_is : SUB 0 (2 ^ 32 - suc k) ≡ suc k = omega arith in
    rw (n_is, to_z-neg w32 k (omega arith), to_z_pos w32 (suc k) (omega arith)) refl

lane : (x y : ℕ) → x < 256 → y < 256 → size_of (SUB (C x) (C y)) ≡ apart x y
lane x y hx hy = ⊎_elim
    (λ l. let k = y - x - 1 in
    let d_is : SUB (C x) (C y) ≡ 2 ^ 32 - suc k = omega arith in
    let a_is : apart x y ≡ suc k = omega arith in
    rw (d_is, a_is) (downward k (omega arith)))
    (λ g. let d_is : SUB (C x) (C y) ≡ x - y = omega arith in
    let a_is : apart x y ≡ x - y = omega arith in
    rw (d_is, a_is) (upward (x - y) (omega arith)))
    (cases_lt x y)

pub lanes_apart : (n : ℕ) (xs ys : List ℕ) → length xs ≡ n → Small xs → Small ys
    → sel_l (map (top 31) (zip2 LT (zip2 SUB (map C xs) (map C ys)) (zip2 SUB (replicate n 0) (zip2 SUB (map C xs) (map C ys)))))
    (zip2 SUB (replicate n 0) (zip2 SUB (map C xs) (map C ys))) (zip2 SUB (map C xs) (map C ys))
    ≡ zip2 apart xs ys
lanes_apart zero [] ys lx fx fy = refl
lanes_apart (suc n) [] ys lx fx fy = absurd (omega arith)
lanes_apart zero (x ∷ xs) ys lx fx fy = absurd (omega arith)
lanes_apart (suc n) (x ∷ xs) [] lx fx fy = refl
lanes_apart (suc n) (x ∷ xs) (y ∷ ys) lx fx fy =
    λ i. lane x y (fx 0) (fy 0) i ∷ lanes_apart n xs ys (suc_inj lx) (λ k. fx (suc k)) (λ k. fy (suc k)) i

abbrev CU : ℕ → ℕ
CU = act1 (cast signed unsigned w32) (s_int w32) (s_int w32)

lane_cast : (m : ℕ) → m < 256 → CU m ≡ m
lane_cast m h = let e : to_z w32 m ≡ pos m = to_z_pos w32 m (omega arith) in rw e refl

pub lanes_cast : (xs ys : List ℕ) → Small xs → Small ys → map CU (zip2 apart xs ys) ≡ zip2 apart xs ys
lanes_cast [] ys fx fy = refl
lanes_cast (x ∷ xs) [] fx fy = refl
lanes_cast (x ∷ xs) (y ∷ ys) fx fy =
    let small : apart x y < 256 = omega (arith, fx 0, fy 0) in
    λ i. lane_cast (apart x y) small i ∷ lanes_cast xs ys (λ k. fx (suc k)) (λ k. fy (suc k)) i

ask : (m : ℕ) → m < 256 → Asks1 (cast signed unsigned w32) (s_int w32) m
ask m h = let e : to_z w32 m ≡ pos m = to_z_pos w32 m (omega arith) in rw e (tt, record { fits = omega arith })

pub lanes_ask : (xs ys : List ℕ) → Small xs → Small ys → Each1 (Asks1 (cast signed unsigned w32) (s_int w32)) (zip2 apart xs ys)
lanes_ask [] ys fx fy = tt
lanes_ask (x ∷ xs) [] fx fy = tt
lanes_ask (x ∷ xs) (y ∷ ys) fx fy =
    let small : apart x y < 256 = omega (arith, fx 0, fy 0) in
    (ask (apart x y) small, lanes_ask xs ys (λ k. fx (suc k)) (λ k. fy (suc k)))

-- a sum of lanes is the sum of the list
pub sum_is_sum_l : (xs : List ℕ) → sum_l xs ≡ sum xs
sum_is_sum_l [] = refl
sum_is_sum_l (x ∷ xs) = omega (arith, sum_is_sum_l xs, sum_by-cons (λ (n : ℕ). n) x xs)

pub apart_most : (xs ys : List ℕ) → Small xs → Small ys → sum_l (zip2 apart xs ys) ≤ 255 * length xs
apart_most [] ys fx fy = omega arith
apart_most (x ∷ xs) [] fx fy = omega arith
apart_most (x ∷ xs) (y ∷ ys) fx fy =
    let rest = apart_most xs ys (λ k. fx (suc k)) (λ k. fy (suc k)) in
    let l : length (x ∷ xs) ≡ length xs + 1 = omega arith in
    omega (arith, fx 0, fy 0, rest, l)
