use Rattle.std.proofs.Common.{◌≡◌, ◌≤◌, length, drop}
use Rattle.m2v_bits.specs.Bits.{all_zero, first_one}
use Rattle.m2v_bits.proofs.reader.BitReader.past_zeros.Given as goal

abbrev pub invariant-loop-self : goal.invariant-loop-self
invariant-loop-self l = record {
  one : first_one l.ahead.rest ≡ first_one l.self.rest;
  within : length l.ahead.rest ≤ length l.self.rest;
  text : l.ahead.text ≡ l.self.text;
  zero : all_zero l.ahead.rest ≡ all_zero l.self.rest;
  place : l.ahead.rest ≡ drop l.ahead.place l.ahead.text;
}

abbrev pub decreases-loop-self : goal.decreases-loop-self
decreases-loop-self l = length l.ahead.rest
