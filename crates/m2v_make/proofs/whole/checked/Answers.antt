use Rattle.std.proofs.Common.{◌∙◌}
use Rattle.m2v_make.proofs.MadeLaws.{still, checking_stops, checking_gives}
use Rattle.m2v_make.proofs.whole.checked.Goals as goal

pub figures_of-requires : goal.figures_of-requires
figures_of-requires c = checking_gives c.args.seed _ _ _ (c.new-input.ensures ∙ c.requires) c.in-Ok.ensures.answer

pub decoding_memory-requires : goal.decoding_memory-requires
decoding_memory-requires c = checking_stops c.args.seed _ _ _ (c.new-input.ensures ∙ c.requires) still c.in-Err.ensures.answer
