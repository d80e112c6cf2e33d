use Rattle.m2v_macroblock.proofs.DualLaws.{dual_is}
use Rattle.m2v_macroblock.proofs.modes.mode.Goals as goal

pub told_mode-requires : goal.told_mode-requires
told_mode-requires c = record { dual = λ form. dual_is c.args.context.now c.requires.fits.0 c.args.m.now c.requires.context c.requires.fits.1 form }
