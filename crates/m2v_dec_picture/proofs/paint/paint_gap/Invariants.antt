use Rattle.std.proofs.Common.{◌≡◌, ◌+◌, ◌-◌}
use Rattle.m2v_pred.specs.declared.mode.MbPlace.{MbPlace}
use Rattle.m2v_macroblock.specs.Modes.{first_skipped}
use Rattle.m2v_model.specs.Samples.{skipped_painted}
use Rattle.m2v_dec_picture.specs.Reads.{seen_by}
use Rattle.m2v_dec_picture.proofs.paint.paint_gap.Given as goal

abbrev pub invariant-loop-k : goal.invariant-loop-k
invariant-loop-k g l = record {
  samples : skipped_painted g.T.Target.placed l.basis.setup.now (seen_by (g.V.RefView.at l.basis.forward.now) (g.V.RefView.at l.basis.backward.now)) l.before (first_skipped l.before + l.k) (l.gap.count - l.k) (g.T.Target.samples l.out)
      ≡ skipped_painted g.T.Target.placed l.basis.setup.now (seen_by (g.V.RefView.at l.basis.forward.now) (g.V.RefView.at l.basis.backward.now)) l.before (first_skipped l.before) l.gap.count (g.T.Target.samples l.fn.out);
  takes : (p : MbPlace) → g.T.Target.Takes l.fn.out p → g.T.Target.Takes l.out p;
}
