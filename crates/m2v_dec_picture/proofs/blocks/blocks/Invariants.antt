use Rattle.std.proofs.Common.{◌≡◌, ◌-◌, [], length, take, All}
use Rattle.m2v_recon.specs.Steps.{levels_of}
use Rattle.m2v_model.specs.Slices.{blocks_from}
use Rattle.m2v_dec_picture.specs.Conditions.{AreFine}
use Rattle.m2v_dec_picture.proofs.blocks.blocks.Given as goal

abbrev pub invariant-loop-k : goal.invariant-loop-k
invariant-loop-k l = record {
  read : (blocks_from l.c l.m l.state l.k (6 - l.k) (take l.k (levels_of l.out))).read l.input.rest ≡ (blocks_from l.c l.m l.state 0 6 []).read l.fn.input.rest;
  text : l.input.text ≡ l.fn.input.text;
  fine : All (AreFine l.c l.m) (take l.k (levels_of l.out));
  long : length l.out ≡ 6;
}
