use Rattle.std.proofs.Common.{[], All, arith}
use Rattle.std.proofs.lemmas.List.Elements.{All-get_or}
use Rattle.m2v_idct.specs.Ranges.{IsCoefficient}
use Rattle.m2v_choose.proofs.blocks.copy_block.Goals as goal

pub returns-clause-coefficients : goal.returns-clause-coefficients
returns-clause-coefficients c = All-get_or (All IsCoefficient) c.args.blocks.now c.args.block [] (omega (arith, c.told-blocks, c.requires.block)) c.requires.known
