use Rattle.std.proofs.Common.{arith, pos, replicate}
use Rattle.std.proofs.lemmas.Int.{ints}
use Rattle.std.proofs.lemmas.List.Elements.{All-replicate, All-same}
use Rattle.m2v_quant.specs.Kinds.{IsLevel}
use Rattle.m2v_dec_picture.proofs.blocks.clear.Goals as goal

pub returns-clause-levels : goal.returns-clause-levels
returns-clause-levels c =
    All-same IsLevel c.open.new.self.at (replicate 64 (pos 0)) c.open.ensures.value (All-replicate IsLevel 64 (pos 0) (omega (arith, ints), omega (arith, ints)))
