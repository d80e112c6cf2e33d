use Rattle.std.proofs.Common.{◌∙◌}
use Rattle.m2v_make.proofs.MadeLaws.{still, decoding_stops}
use Rattle.m2v_make.proofs.whole.decoded.Goals as goal

pub decoding_memory-requires : goal.decoding_memory-requires
decoding_memory-requires c = decoding_stops c.args.seed _ _ _ _ (c.new-input.ensures ∙ c.requires) still still c.in-Err.ensures.answer
