use Rattle.std.proofs.Common.{◌≡◌, drop}
use Rattle.m2v_check.specs.Judging.{noted_rules}
use Rattle.m2v_check.proofs.judge.with_sequences.Given as goal

abbrev pub invariant-loop-pair : goal.invariant-loop-pair
invariant-loop-pair l = record {
  value : noted_rules l.rules (drop l.pair-index l.notes.sequences.items) ≡ noted_rules l.fn.rules l.notes.sequences.items;
  pictures : l.rules.pictures ≡ l.fn.rules.pictures;
  shown : l.rules.places.shown ≡ l.fn.rules.places.shown;
}
