use Rattle.std.proofs.Common.{◌≡◌, ℕ, List, true, [], arith, ℤ}
use Rattle.std.proofs.Math.ListN.{length-set}
use Rattle.m2v_idct.specs.Forward.{forward_of}
use Rattle.m2v_choose.specs.Decisions.{differences}
use Rattle.m2v_choose.specs.Trials.{StandsFor}
use Rattle.m2v_choose.proofs.Sums.{set_both}
use Rattle.m2v_choose.proofs.Small.{six_stand}
use Rattle.m2v_choose.proofs.blocks.transform_by_fields.Goals as goal

pub block_by_fields-requires-clause-squares : goal.block_by_fields-requires-clause-squares
block_by_fields-requires-clause-squares c = c.requires.squares.value c.loop-block.block (omega arith)

pub loop-block-preserved : goal.loop-block-preserved
loop-block-preserved c =
    let n = c.loop-block.block in
    let f = λ (b : ℕ). forward_of (differences c.args.source.now.at c.args.prediction.now.at true b) in
    let inv = c.loop-block.invariant in
    record {
      len = simp length-set inv.len;
      count = simp length-set inv.count;
      at = set_both (λ b (x : List ℤ) m. StandsFor c.args.least (f b) x m) c.loop-block.out [] c.loop-block.most 0 n _ _ (omega (arith, inv.len)) (omega (arith, inv.count)) inv.at c.block_by_fields.ensures;
    }

pub returns : goal.returns
returns c =
    let inv = c.loop-block.invariant in
    let end : c.loop-block.block ≡ 6 = omega arith in
    let six = six_stand c.args.least c.args.source.now.at c.args.prediction.now.at true c.loop-block.out c.loop-block.most inv.len (λ b lt. inv.at b (omega (arith, lt, end))) in
    record { alike = six.0; coefficients = six.1; far = six.2 }
