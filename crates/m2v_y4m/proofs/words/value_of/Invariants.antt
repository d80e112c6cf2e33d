use Rattle.std.proofs.Common.{◌≡◌, ◌<◌, ◌^◌, take}
use Rattle.m2v_y4m.specs.Texts.{value_of}
use Rattle.m2v_y4m.proofs.words.value_of.Given as goal

abbrev pub invariant-loop-b : goal.invariant-loop-b
invariant-loop-b l = record {
  value : l.value ≡ value_of (take l.b-index l.digits);
  bound : l.value < 10 ^ l.b-index;
}
