use Rattle.std.proofs.Common.{◌++◌}
use Rattle.m2v_block.specs.Texts.{block_text}
use Rattle.m2v_block.proofs.BlockLaws.{block_strict}
use Rattle.m2v_block.proofs.Spellings.{block_spells}
use Rattle.m2v_block.proofs.laws.law_round_trip.Goals as goal

pub returns : goal.returns
returns c = λ kind table_one predictor levels rest k b p len.
    (block_strict kind table_one predictor).lawful.only levels (block_text kind table_one predictor levels ++ rest) rest ((block_spells kind table_one predictor levels k b p len).stands rest)
