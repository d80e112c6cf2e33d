-- The cap of a slice is small.
use Rattle.std.proofs.Common.{◌≡◌, ℕ, ◌*◌, ◌/◌, ◌%◌, ◌^◌, ◌<◌, ◌≤◌, Bool, true, false, cond, sym, arith}
use Rattle.std.specs.Prelude.{nat_lt}
use Rattle.std.proofs.Math.Nat.{div-div-eq-div-mul, div-le_self}
use Rattle.m2v_set.specs.declared.settings.Settings.{Settings}
use Rattle.m2v_set.specs.Numbers.{buffer_bits, rows_by, slice_least}
use Rattle.m2v_set.specs.Bounds.{Bounds}
use Rattle.m2v_rate.specs.Plans.{spare, slice_cap_of}

share_within : (left rows : ℕ) → 8 * (left / (8 * rows)) ≤ left
share_within left rows =
    let e : left / (8 * rows) ≡ left / 8 / rows = sym (div-div-eq-div-mul left 8 rows) in
    let least : left / 8 / rows ≤ left / 8 = div-le_self (left / 8) rows in
    omega (arith, e, least)

eight_most : (t : Bool) → cond t 8 0 ≤ 8
eight_most true = omega arith
eight_most false = omega arith

-- it is within the buffer of any level
pub cap_small : (s : Settings) → Bounds s → (cap r : ℕ) → cap ≤ buffer_bits s → slice_cap_of s cap r < 2 ^ 24
unfolding slice_cap_of slice_least
cap_small s h cap r le =
    omega (
      arith,
      share_within (spare s cap) (rows_by s.scan s.height),
      eight_most (nat_lt r (spare s cap / 8 % rows_by s.scan s.height)),
      h.size.width,
      h.size.buffer,
      le,
    )
