use Rattle.std.proofs.Common.{arith, not, nat_eq}
use Rattle.m2v_idct.specs.Block.{nth}
use Rattle.m2v_idct.specs.Inverse.{clip}
use Rattle.m2v_recon.proofs.Luma.{lines_more, rest_more}
use Rattle.m2v_recon.proofs.differences.add_lines.Goals as goal

pub loop-k-preserved : goal.loop-k-preserved
loop-k-preserved g c =
    let w = c.add_eight.ensures in
    let n = c.loop-k.k in
    record {
      lines = lines_more (not (nat_eq g.row.FIELD 0)) c.args.block n c.luma_place.result (not (nat_eq g.row.INTRA 0)) c.args.samples.now c.loop-k.samples c.add_eight.new.samples (λ i. clip (nth c.args.values.now i))
          c.luma_place.ensures.value c.loop-k.invariant.lines c.loop-k.invariant.rest w.within w.before;
      rest = rest_more (not (nat_eq g.row.FIELD 0)) c.args.block n c.luma_place.result c.args.samples.now c.loop-k.samples c.add_eight.new.samples
          c.luma_place.ensures.value c.loop-k.invariant.rest w.before w.behind;
    }

pub returns : goal.returns
returns g c = record {
  lines = λ k j lt small. c.loop-k.invariant.lines k j (omega arith) small;
  rest = λ i other. c.loop-k.invariant.rest i (λ k j lt small. other k j (omega arith) small);
}
