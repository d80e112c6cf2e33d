use Rattle.m2v_choose.proofs.PartSquares.{single_coded, single_alone}
use Rattle.m2v_choose.proofs.trial.single.Goals as goal

pub returns : goal.returns
returns c = record {
  coded = single_coded c.args.block c.requires.block;
  alone = λ b lt other. single_alone c.args.block b c.requires.block lt other;
}
