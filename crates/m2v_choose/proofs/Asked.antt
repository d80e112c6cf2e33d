-- Where a macroblock has room to be held.
use Rattle.std.proofs.Common.{◌≡◌, ℕ, ◌+◌, ◌*◌, ◌≤◌, List, ap, ◌∙◌, arith, ℤ, pos, ◌-ℤ◌}
use Rattle.std.specs.Prelude.{nat_abs}
use Rattle.std.proofs.lemmas.Int.{ints}
use Rattle.m2v_plane.specs.declared.dims.Dims.{Dims}
use Rattle.m2v_macro.specs.declared.values.SliceState.{SliceState}
use Rattle.m2v_macro.specs.declared.values.PictureContext.{PictureContext}
use Rattle.m2v_macroblock.specs.Predictions.{View}
use Rattle.m2v_choose.specs.declared.values.Limits.{Limits}
use Rattle.m2v_choose.specs.Decisions.{increment_of}
use Rattle.m2v_choose.specs.Candidates.{hold}
use Rattle.m2v_choose.specs.Choice.{bits_taken}
use Rattle.m2v_choose.specs.Own.{IsOwn, AreNear}
use Rattle.m2v_choose.specs.Trials.{decision}
use Rattle.m2v_choose.proofs.Held.{hold_fits}

next_address : (columns row column : ℕ) (a : ℤ) → row ≡ 0 → a ≡ pos column -ℤ pos 1 → nat_abs (pos (row * columns + column) -ℤ a) ≡ 1
next_address columns row column a first e =
    let none : row * columns ≡ 0 = ap (λ (n : ℕ). n * columns) first ∙ omega arith in
    omega (arith, ints, e, none)

-- 31 bits are room for a macroblock of the first row behind the one before
pub room_enough : (dims : Dims) (source : List ℕ) (f b : View) (c : PictureContext) (st : SliceState) (limits : Limits) → IsOwn c → AreNear st.pmv.at
    → limits.row ≡ 0 → st.address ≡ pos limits.column -ℤ pos 1 → 31 ≤ limits.room
    → bits_taken (decision dims source f b c st limits) (hold (decision dims source f b c st limits)) ≤ limits.room
unfolding increment_of
room_enough dims source f b c st limits own near first e room =
    let d = decision dims source f b c st limits in
    let one : increment_of d ≡ 1 = next_address c.columns limits.row limits.column st.address first e in
    omega (arith, hold_fits d own near (omega (arith, one)), one, room)
