use Rattle.std.proofs.Common.{◌≢◌, get_or, get_or-set_other, sym, ap, arith}
use Rattle.m2v_kernel.specs.Sums.{mean}
use Rattle.m2v_kernel.proofs.Steps.{stored_more, stored_all}
use Rattle.m2v_kernel.proofs.mean.average_into.Goals as goal

pub loop-i-preserved : goal.loop-i-preserved
loop-i-preserved c =
    let i = c.loop-i.i in
    let other = c.args.other.now in
    record {
      done = stored_more mean c.args.out.now other c.loop-i.out i _ (sym c.requires.same) (omega arith) (omega arith) c.loop-i.invariant.done
          (ap (λ x. mean x (get_or other i 0)) (c.loop-i.invariant.rest i (omega arith)));
      rest = λ k le. let apart : k ≢ i = omega arith in rw get_or-set_other (c.loop-i.invariant.rest k (omega arith));
    }

pub returns : goal.returns
returns c = record {
  value = stored_all mean c.args.out.now c.args.other.now c.loop-i.out c.loop-i.i (sym c.requires.same) (omega arith) (omega arith) c.loop-i.invariant.done;
}
