use Rattle.std.proofs.Common.{sym, arith, pos, refl}
use Rattle.std.proofs.lemmas.Int.{ints}
use Rattle.std.proofs.lemmas.List.Elements.{All-replicate}
use Rattle.m2v_quant.specs.Kinds.{IsLevel}
use Rattle.m2v_choose.proofs.blocks.quantise_reached.Goals as goal

pub returns-then-most-least : goal.returns-then-most-least
returns-then-most-least c = record {
  value = sym (c.requires.none c.if-most-least.true);
  levels = All-replicate IsLevel 64 (pos 0) (omega (arith, ints), omega (arith, ints));
  some = refl;
}
