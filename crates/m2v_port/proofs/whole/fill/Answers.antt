use Rattle.std.proofs.Common.{arith, ◌∙◌, ◌≤◌, length}
use Rattle.m2v_port.proofs.Runs.{moves_into, length_into}
use Rattle.m2v_port.proofs.whole.fill.Goals as goal

pub loop-filled-preserved : goal.loop-filled-preserved
loop-filled-preserved g c =
    let so_far = c.loop-filled.invariant in
    let read = c.in_ok-n.ensures in
    let within : c.in_ok-n.n ≤ length c.read.new.buf = omega (arith, read.within, c.read.auto.buf) in
    record {
      within = length_into c.loop-filled.buf c.read.new.buf _ c.loop-filled.filled c.in_ok-n.n so_far.within within;
      moved = moves_into c.loop-filled.buf c.read.new.buf _ c.loop-filled.filled c.in_ok-n.n so_far.within within so_far.moved read.moved;
      faults = omega (arith, so_far.faults, read.faults);
      behind = omega (arith, so_far.behind, read.behind);
      lenders = read.lenders ∙ so_far.lenders;
    }
