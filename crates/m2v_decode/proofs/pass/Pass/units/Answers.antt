use Rattle.std.proofs.Common.{arith}
use Rattle.std.proofs.lemmas.Result.{err_from_is_err_and}
use Rattle.m2v_model.specs.Pictures.{no_frames}
use Rattle.m2v_model.proofs.FlowLaws.{unit_less}
use Rattle.m2v_decode.proofs.Passed.{so_far_none, so_far_more, all_read, stopped}
use Rattle.m2v_decode.proofs.pass.Pass.units.Goals as goal

pub loop-init : goal.loop-init
loop-init c = record { sound = c.requires.sound; so_far = so_far_none _ _ }

pub returns-in_err-unit-clause-err : goal.returns-in_err-unit-clause-err
returns-in_err-unit-clause-err c =
    let p = err_from_is_err_and c.from_residual.result c.from_residual.ensures.1 in
    rw (p.1, p.2) (stopped _ _ c.unit.new.self _ _ _ _ c.loop.invariant.so_far c.in_err-unit.ensures)

pub loop-smaller : goal.loop-smaller
loop-smaller c =
    let read = c.in_ok-unit.ensures in
    unit_less _ _ _ _ read.0 read.1 c.if-branch.true

pub loop-preserved : goal.loop-preserved
loop-preserved c =
    let read = c.in_ok-unit.ensures in
    record {
      sound = read.2.sound;
      so_far = so_far_more _ _ _ _ _ _ _ read.0 c.loop.invariant.so_far c.loop.invariant.sound read.1 c.if-branch.true read.2;
    }

pub returns-clause-ok : goal.returns-clause-ok
returns-clause-ok c =
    let read = c.in_ok-unit.ensures in
    all_read _ _ _ _ _ _ _ read.0 c.loop.invariant.so_far c.loop.invariant.sound read.1 c.if-branch.false read.2 (read.3 c.if-branch.false)

pub unit-requires-clause-counted : goal.unit-requires-clause-counted
unit-requires-clause-counted c =
    let so = c.loop.invariant.so_far.with_frames no_frames in
    let few = so.few in
    let told = so.tells.pictures in
    omega (arith, c.requires.counted, few, told)
