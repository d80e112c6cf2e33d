-- The quantiser of a macroblock, and the work that it adds.
use Rattle.std.proofs.Common.{◌≡◌, ℕ, ◌+◌, ◌*◌, ◌≤◌, Bool, true, false, length, ap, arith}
use Rattle.std.specs.Prelude.{min, max, nat_eq, ◌||◌, if◌then◌else◌}
use Rattle.std.proofs.Math.Nat.{mul-le-mul_right}
use Rattle.m2v_rate.specs.declared.raising.SliceSoFar.{SliceSoFar}
use Rattle.m2v_rate.specs.Sharing.{raised}
use Rattle.m2v_choose.specs.Own.{IsCode}
use Rattle.m2v_slice.specs.Slices.{SliceTask, Begun, so_far, quantiser_at}

kept_within : (q x : ℕ) → IsCode q → IsCode (min 31 (max q x))
kept_within q x h = (omega (arith, h.0), omega arith)

raised_code : (q : ℕ) (s : SliceSoFar) → IsCode q → IsCode (raised q s)
unfolding raised
raised_code q s h = kept_within q _ h

either_code : (b : Bool) (x y : ℕ) → IsCode x → IsCode y → IsCode (if b then x else y)
either_code true x y h k = h
either_code false x y h k = k

-- it is a quantiser code, as that of the slice is
pub quantiser_code : (t : SliceTask) (s : Begun) (n : ℕ) → IsCode t.q → IsCode (quantiser_at t s n)
unfolding quantiser_at
quantiser_code t s n h =
    either_code (nat_eq n 0 || nat_eq (length t.activities) 0) t.q (raised t.q (so_far t s n)) h (raised_code t.q (so_far t s n) h)

-- a skipped macroblock adds none, and another at most 31 times its bits
pub skipped_work : (work q bits most : ℕ) → bits ≡ 0 → work ≤ most → work + q * bits ≤ most
skipped_work work q bits most e le =
    let none : q * bits ≡ q * 0 = ap (λ (k : ℕ). q * k) e in
    omega (arith, none, le)

pub written_work : (work q bits before all : ℕ) → q ≤ 31 → work ≤ 31 * before → all ≡ before + bits → work + q * bits ≤ 31 * all
written_work work q bits before all small le is =
    let most : q * bits ≤ 31 * bits = mul-le-mul_right bits small in
    omega (arith, most, le, is)
