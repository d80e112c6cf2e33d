use Rattle.std.proofs.Common.{arith, w32, ◌<◌}
use Rattle.std.proofs.lemmas.Nat.Bits.{bit_at_clear_same, bit_at_clear_other}
use Rattle.m2v_idct.proofs.InPlace.{cleared_less}
use Rattle.m2v_idct.proofs.inverse_dct.without.Goals as goal

pub returns : goal.returns
returns c =
    let inside : c.args.y < 32 = omega (arith, c.requires.y) in
    let gone = bit_at_clear_same w32 c.args.rows c.args.y inside in
    record {
      less = cleared_less c.args.rows _ c.args.y c.requires.here gone;
      gone = gone;
      others = λ i li ne. bit_at_clear_other w32 c.args.rows c.args.y inside i (omega (arith, li)) ne;
    }
