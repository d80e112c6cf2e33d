use Rattle.std.proofs.Common.{not, nat_eq, arith, ◌∙◌}
use Rattle.m2v_idct.specs.Block.{nth}
use Rattle.m2v_idct.specs.Inverse.{clip}
use Rattle.m2v_recon.proofs.Luma.{eight_more}
use Rattle.m2v_recon.proofs.differences.add_rows.Goals as goal

pub loop-k-preserved : goal.loop-k-preserved
loop-k-preserved g c =
    let w = c.add_eight.ensures in
    let n = c.loop-k.k in
    record {
      done = eight_more n (not (nat_eq g.row.INTRA 0)) c.args.samples.now c.loop-k.samples c.add_eight.new.samples (λ i. clip (nth c.args.values.now i))
          c.loop-k.invariant.done c.loop-k.invariant.rest w.within w.before;
      rest = λ i le. c.add_eight.ensures.behind i (omega (arith, le)) ∙ c.loop-k.invariant.rest i (omega (arith, le));
    }

pub returns : goal.returns
returns g c i lt = c.loop-k.invariant.done i (omega arith)
