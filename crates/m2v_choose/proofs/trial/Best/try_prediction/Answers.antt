use Rattle.std.proofs.Common.{refl}
use Rattle.m2v_choose.specs.Trials.{references_of}
use Rattle.m2v_choose.proofs.Predicted.{samples_told}
use Rattle.m2v_choose.proofs.trial.Best.try_prediction.Goals as goal

pub returns : goal.returns
returns g c = record {
  tried = λ p same bare rated.
      let t = c.args.task.now in
      let r = references_of (g.V.RefView.size c.args.forward.now) (g.V.RefView.at c.args.forward.now) (g.V.RefView.at c.args.backward.now) in
      c.try_samples.ensures.tried r p same bare (samples_told r t p c.args.bare.now c.predict_moving.new.out.at same c.predict_moving.ensures) rated;
  samples = c.predict_moving.ensures;
  kept = refl;
}
