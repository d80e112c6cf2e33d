use Rattle.std.proofs.Common.{pos, replicate}
use Rattle.std.proofs.lemmas.List.Elements.{All-same}
use Rattle.m2v_quant.specs.Kinds.{IsLevel}
use Rattle.m2v_block.proofs.Ranges.{zeros_levels}
use Rattle.m2v_block.proofs.read.read_block.Goals as goal

pub returns-in_err-dc-clause-levels : goal.returns-in_err-dc-clause-levels
returns-in_err-dc-clause-levels c = All-same IsLevel c.clear.new.out.at (replicate 64 (pos 0)) c.clear.ensures zeros_levels
