use Rattle.m2v_bits.proofs.Decisions.{decided}
use Rattle.m2v_block.proofs.BlockLaws.{block_strict}
use Rattle.m2v_block.proofs.laws.law_one_reading.Goals as goal

pub returns : goal.returns
returns c = λ kind table_one predictor. decided (block_strict kind table_one predictor).lawful
