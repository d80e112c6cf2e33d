-- How long a decoder waits for what is missing.
use Rattle.std.proofs.Common.{◌≡◌, ℕ, zero, suc, ◌+◌, ◌-◌, ◌*◌, ◌<◌, ◌≤◌, Bool, true, false, refl, sym, ◌∙◌, arith}
use Rattle.std.proofs.Math.Nat.{mul-le-mul, one-le-mul, suc-mul, mul-suc, mul_assoc, mul_comm}
use Rattle.std.proofs.lemmas.Bool.{ltb-true, ltb-false}
use Rattle.std.specs.Int.{div_ceil}
use Rattle.std.proofs.lemmas.Grind.{div_ceil_times}
use Rattle.m2v_vbv.specs.Buffer.{Inflow, Buffer, have_of, is_over, is_under, wait_for, wait_of, full_of}
use Rattle.m2v_vbv.proofs.Fine.{full_fine}

by_rounds : (s y x q : ℕ) → 1 ≤ s → s ≤ y → q * y < x + y → q * s < x + s
by_rounds s y x zero one le lt = omega arith
by_rounds s y x (suc p) one le lt =
    let a : p * s ≤ p * y = mul-le-mul (omega arith) le in omega (arith, suc-mul p s, suc-mul p y)

-- less than a step passes behind what is missing, even where a unit of time brings the least
pub wait_most : (k s x : ℕ) → 1 ≤ k → 1 ≤ s → s * div_ceil x (k * s) < x + s
wait_most k s x one step =
    let some : 1 ≤ k * s = one-le-mul one step in
    let le : 1 * s ≤ k * s = mul-le-mul one (omega arith) in
    let most = by_rounds s (k * s) x (div_ceil x (k * s)) step (omega arith) (div_ceil_times x (k * s) some).1 in
    omega (arith, most)

-- ---- behind a wait

some_rounds : (k s missing q : ℕ) → missing ≤ q * (k * s) → missing ≤ k * (s * q)
some_rounds k s missing q le =
    let e : k * (s * q) ≡ q * (k * s) = sym (mul_assoc k s q) ∙ mul_comm (k * s) q in rw e le

brings : (c : Inflow) (missing : ℕ) → 1 ≤ c.k → 1 ≤ c.step → missing ≤ c.k * wait_for c missing
brings c missing k step =
    some_rounds c.k c.step missing (div_ceil missing (c.k * c.step))
    (div_ceil_times missing (c.k * c.step) (one-le-mul k step)).0

by_one_less : (k s missing q : ℕ) → 1 ≤ missing → q * (k * s) < missing + k * s → k * (s * q - s) < missing
by_one_less k s missing zero some lt =
    let e : s * 0 - s ≡ 0 = omega arith in rw e (omega arith)
by_one_less k s missing (suc p) some lt =
    let e : s * suc p - s ≡ s * p = omega (arith, mul-suc s p) in
    let same : k * (s * p) ≡ p * (k * s) = sym (mul_assoc k s p) ∙ mul_comm (k * s) p in
    rw (e, same) (omega (arith, suc-mul p (k * s)))

too_few : (c : Inflow) (missing : ℕ) → 1 ≤ c.k → 1 ≤ c.step → 1 ≤ missing → c.k * (wait_for c missing - c.step) < missing
too_few c missing k step some =
    by_one_less c.k c.step missing (div_ceil missing (c.k * c.step)) some
    (div_ceil_times missing (c.k * c.step) (one-le-mul k step)).1

reaches : (b : Buffer) (bits rest : ℕ) (u : Bool) → 1 ≤ b.inflow.k → 1 ≤ b.inflow.step → is_over b rest ≡ false → is_under b bits rest ≡ u
    → 1800 * bits ≤ full_of b bits rest
reaches b bits rest true k step over under =
    let more = brings b.inflow (1800 * bits - have_of b rest) k step in
    rw (under, over) (omega (arith, more))
reaches b bits rest false k step over under =
    let whole : 1800 * bits ≤ have_of b rest = ltb-false _ _ under in
    rw (full_fine b bits rest under over) (omega arith)

pub whole_then : (b : Buffer) (bits rest : ℕ) → 1 ≤ b.inflow.k → 1 ≤ b.inflow.step → is_over b rest ≡ false
    → 1800 * bits ≤ full_of b bits rest
whole_then b bits rest k step over = reaches b bits rest _ k step over refl

pub not_sooner : (b : Buffer) (bits rest : ℕ) → 1 ≤ b.inflow.k → 1 ≤ b.inflow.step → is_under b bits rest ≡ true
    → have_of b rest + b.inflow.k * (wait_of b bits rest - b.inflow.step) < 1800 * bits
not_sooner b bits rest k step under =
    let lt : have_of b rest < 1800 * bits = ltb-true _ _ under in
    let less = too_few b.inflow (1800 * bits - have_of b rest) k step (omega arith) in
    omega (arith, less)
