use Rattle.m2v_macro.proofs.Ready.{vectors_small}
use Rattle.m2v_macro.proofs.values.SliceState.go_on.Goals as goal

pub pmv_behind-pmv-requires : goal.pmv_behind-pmv-requires
pmv_behind-pmv-requires c = vectors_small c.args.context.now c.args.self.now c.args.m.now c.requires.context c.requires.fits
