use Rattle.std.proofs.Common.{sym, subst}
use Rattle.m2v_vector.specs.declared.predictors.Motion.{Motion}
use Rattle.m2v_vector.specs.Predictors.{AreSmall}
use Rattle.m2v_macro.proofs.state.pmv_behind.Goals as goal

pub after-requires : goal.after-requires
after-requires c = subst (λ (x : Motion). AreSmall x.vectors) (sym c.motion-motion.ensures) c.requires
