use Rattle.std.proofs.Common.{w64, arith}
use Rattle.std.proofs.lemmas.Nat.Bits.{bit_at_clear_same, bit_at_clear_other}
use Rattle.m2v_quant.proofs.marks.but_first.Goals as goal

pub returns : goal.returns
returns c = record {
  none = bit_at_clear_same w64 c.args.marks 0 (omega arith);
  others = λ p lt ne. bit_at_clear_other w64 c.args.marks 0 (omega arith) p lt ne;
}
