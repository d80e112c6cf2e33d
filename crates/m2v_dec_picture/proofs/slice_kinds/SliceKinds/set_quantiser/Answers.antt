use Rattle.m2v_dec_picture.proofs.BlockLaws.{kinds_rescaled}
use Rattle.m2v_dec_picture.proofs.slice_kinds.SliceKinds.set_quantiser.Goals as goal

pub returns-clause-kinds : goal.returns-clause-kinds
returns-clause-kinds c =
    kinds_rescaled c.args.c.now c.args.self.now c.args.quantiser c.scale_of-scale.result c.set_scale.new.kinds c.set_scale-2.new.kinds
    c.requires.kinds c.requires.quantiser.0 c.requires.quantiser.1 c.scale_of-scale.ensures.value c.set_scale.ensures c.set_scale-2.ensures
