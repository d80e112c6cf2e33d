use Rattle.std.proofs.Common.{◌≡◌, length}
use Rattle.m2v_head.specs.Elements.{pairs_at}
use Rattle.m2v_head.proofs.reading.pairs.Given as goal

abbrev pub invariant-loop : goal.invariant-loop
invariant-loop l = record {
  exact : pairs_at.read l.input.rest ≡ pairs_at.read l.fn.input.rest;
  text : l.input.text ≡ l.fn.input.text;
}

abbrev pub decreases-loop : goal.decreases-loop
decreases-loop l = length l.input.rest
