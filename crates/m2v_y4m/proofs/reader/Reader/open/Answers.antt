use Rattle.std.proofs.Common.{[], ap, arith, Err}
use Rattle.m2v_port.proofs.Runs.{moves_nothing}
use Rattle.m2v_y4m.specs.Answers.{OpenStops}
use Rattle.m2v_y4m.proofs.Steps.{not_opened, took_held}
use Rattle.m2v_y4m.proofs.Spots.{opened}
use Rattle.m2v_y4m.proofs.reader.Reader.open.Goals as goal

pub returns-in_default-clause-err : goal.returns-in_default-clause-err
unfolding OpenStops
returns-in_default-clause-err g c = record { bytes = []; few = omega arith; moved = moves_nothing _ }

pub returns-in-Ok-over-clause-opened : goal.returns-in-Ok-over-clause-opened
returns-in-Ok-over-clause-opened g c =
    let e = c.in-Ok-over.ensures in
    let held = rw c.in-Ok.ensures.value at c.in-Ok-gather.ensures.held in
    opened c.in-Ok-over.reader c.gather.new.chunk _ _ c.gather.ensures.few held c.in-Ok-gather.ensures.all e.value e.unread e.within e.before e.unbroken

pub returns-in-Ok-gather-clause-err : goal.returns-in-Ok-gather-clause-err
unfolding OpenStops
returns-in-Ok-gather-clause-err g c =
    let held = rw c.in-Ok.ensures.value at c.in-Ok-gather.ensures.held in
    (not_opened c.in-Err.fault c.gather.new.chunk _ _ held c.in-Ok-gather.ensures.all c.in-Err.ensures.err, took_held _ _ _ c.gather.ensures.few held)

pub returns-in-Err-Failed-clause-err : goal.returns-in-Err-Failed-clause-err
unfolding OpenStops
returns-in-Err-Failed-clause-err g c =
    let held = rw c.in-Ok.ensures.value at c.gather.ensures.held in
    (c.in-Err-Failed.ensures.failed (ap Err c.in-Err-Failed.field-0-is), took_held _ _ _ c.gather.ensures.few held)

pub returns-clause-err : goal.returns-clause-err
unfolding OpenStops
returns-clause-err g c =
    let held = rw c.in-Ok.ensures.value at c.gather.ensures.held in
    took_held _ _ _ c.gather.ensures.few held
