use Rattle.std.proofs.Common.{arith, pos}
use Rattle.std.proofs.lemmas.List.FromFn.{fill_by_all}
use Rattle.std.proofs.lemmas.List.Elements.{All-from_get_or}
use Rattle.m2v_idct.specs.Ranges.{IsSample}
use Rattle.m2v_choose.specs.Decisions.{differences}
use Rattle.m2v_choose.specs.Trials.{difference_at}
use Rattle.m2v_choose.proofs.blocks.differences.Goals as goal

pub returns : goal.returns
unfolding differences
returns c =
    let f = difference_at c.args.source.now.at c.args.prediction.now.at c.args.dct_field c.args.block in
    let inv = c.loop-line.invariant in
    record {
      value = fill_by_all f c.loop-line.out 64 (pos 0) inv.len (λ k lt. inv.value k (omega arith));
      samples = All-from_get_or IsSample c.loop-line.out (pos 0) (λ i lt. inv.samples i (omega (arith, inv.len, lt)));
    }
