use Rattle.std.proofs.Common.{ℕ, zero, suc, ◌<◌, ◌≤◌, arith}
use Rattle.std.specs.Prelude.{unsigned_abs}
use Rattle.std.proofs.lemmas.Bool.{leb-true}
use Rattle.m2v_pred.specs.declared.mode.Mode.{Mode}
use Rattle.m2v_pred.specs.Motion.{component}
use Rattle.m2v_pred.proofs.ShortVectors.{near_is}
use Rattle.m2v_pred.proofs.near.is_near.Goals as goal

-- all components, of those that are read
all_short : (mode : Mode) (direction long room : ℕ) → long ≤ room
    → unsigned_abs (component mode 0 direction 0) ≤ long → unsigned_abs (component mode 0 direction 1) ≤ long
    → unsigned_abs (component mode 1 direction 0) ≤ long → unsigned_abs (component mode 1 direction 1) ≤ long
    → (number k : ℕ) → number < 2 → k < 2 → unsigned_abs (component mode number direction k) ≤ room
all_short mode direction long room le a b c e zero zero n m = omega (arith, le, a)
all_short mode direction long room le a b c e zero (suc zero) n m = omega (arith, le, b)
all_short mode direction long room le a b c e (suc zero) zero n m = omega (arith, le, c)
all_short mode direction long room le a b c e (suc zero) (suc zero) n m = omega (arith, le, e)
all_short mode direction long room le a b c e zero (suc (suc k)) n m = absurd (omega (arith, m))
all_short mode direction long room le a b c e (suc zero) (suc (suc k)) n m = absurd (omega (arith, m))
all_short mode direction long room le a b c e (suc (suc number)) k n m = absurd (omega (arith, n))

pub returns-in-Frame : goal.returns-in-Frame
returns-in-Frame c =
    let long = c.longest.ensures in
    let room = c.room.ensures in
    record {
      near = λ is. near_is c.args.dims c.args.mode.now c.args.direction c.args.at c.room.result c.rows_of-rows.result
          (all_short c.args.mode.now c.args.direction c.longest.result c.room.result (leb-true c.longest.result c.room.result is)
          long.first_across long.first_down long.second_across long.second_down)
          room.above room.below room.left room.right c.rows_of-rows.ensures.frame c.rows_of-rows.ensures.field c.in-Frame.is;
    }
