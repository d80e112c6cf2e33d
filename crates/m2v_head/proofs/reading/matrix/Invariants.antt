use Rattle.std.proofs.Common.{◌≡◌, ◌-◌, length}
use Rattle.m2v_head.specs.Elements.{numbers_at}
use Rattle.m2v_head.proofs.MatrixLaws.{in_front, scanned}
use Rattle.m2v_head.proofs.reading.matrix.Given as goal

abbrev pub invariant-loop-i : goal.invariant-loop-i
invariant-loop-i l = record {
  exact : in_front (scanned l.numbers l.i) ((numbers_at l.field (64 - l.i)).read l.input.rest) ≡ (numbers_at l.field 64).read l.fn.input.rest;
  whole : length l.numbers ≡ 64;
  text : l.input.text ≡ l.fn.input.text;
}
