use Rattle.std.proofs.Common.{w64}
use Rattle.std.proofs.lemmas.Nat.Bits.{bit_at-trailing_zeros}
use Rattle.m2v_quant.proofs.marks.first_place.Goals as goal

pub returns : goal.returns
returns c =
    let first = bit_at-trailing_zeros w64 c.args.marks c.requires c.ranges.marks.fits in
    record { below = first.0; here = first.1; before = first.2 }
