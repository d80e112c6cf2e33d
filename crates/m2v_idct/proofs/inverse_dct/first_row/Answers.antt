use Rattle.std.proofs.Common.{arith, w32}
use Rattle.std.specs.Int.{trailing_zeros}
use Rattle.std.proofs.lemmas.Nat.Bits.{bit_at-trailing_zeros}
use Rattle.m2v_idct.proofs.InPlace.{low_only}
use Rattle.m2v_idct.proofs.inverse_dct.first_row.Goals as goal

pub returns : goal.returns
returns c =
    let least = bit_at-trailing_zeros w32 c.args.rows c.requires.some (omega (arith, c.requires.below)) in
    record { below = low_only c.args.rows (trailing_zeros w32 c.args.rows) c.requires.below least.1; here = least.1 }
