use Rattle.m2v_quant.proofs.Placed.{all_placed}
use Rattle.m2v_quant.proofs.forward.put_marked.Goals as goal

pub returns-clause-value : goal.returns-clause-value
returns-clause-value c =
    let inv = c.loop-left.invariant in
    all_placed c.args.f.now c.args.kind.now c.loop-left.left c.loop-left.levels inv.len c.loop-left-test.false inv.placed
