use Rattle.m2v_macro.proofs.MacroLaws.{macro_strict}
use Rattle.m2v_bits.proofs.Decisions.{decided}
use Rattle.m2v_macro.proofs.laws.law_one_reading.Goals as goal

pub returns : goal.returns
returns c = λ context st. decided (macro_strict context st).lawful
