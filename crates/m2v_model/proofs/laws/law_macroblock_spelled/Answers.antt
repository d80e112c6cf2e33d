use Rattle.m2v_model.proofs.MacroblockSpellings.{macroblock_spells}
use Rattle.m2v_model.proofs.laws.law_macroblock_spelled.Goals as goal

pub returns : goal.returns
returns c = macroblock_spells
