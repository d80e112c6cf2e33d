use Rattle.std.proofs.Common.{[], Err, refl, sym, ap, subst, arith}
use Rattle.m2v_port.proofs.Runs.{rose_since}
use Rattle.m2v_port.specs.Ends.{change}
use Rattle.m2v_cut.specs.Progress.{FindFails}
use Rattle.m2v_cut.proofs.Going.{progress_none, progress_more, find_stopped, find_none, finding_more}
use Rattle.m2v_cut.proofs.find.find.Goals as goal

pub loop-e-init : goal.loop-e-init
loop-e-init g c = rw c.requires.cutter (record {
  finding = record {
    first = [];
    few = omega arith;
    before_is = refl;
    behind_is = refl;
    progress = progress_none g.S.Source.left g.S.Source.faults _;
  };
  less = omega arith;
  cutting = refl;
  most = omega arith;
  input = omega arith;
})

pub returns-in-Err-clause-err : goal.returns-in-Err-clause-err
returns-in-Err-clause-err g c =
    let inv = c.loop-e.invariant in
    let x = c.in-Err.ensures in
    subst (FindFails c.args.from (change g.S.Source.left g.S.Source.faults c.args.input.now c.next_piece.new.input)) (sym c.reading.ensures)
    (find_stopped g.S.Source.left g.S.Source.faults _ _ _ c.args.from _ inv.finding.first c.in-Err.e (λ e. rose_since inv.input (x.failed (ap Err e))) x.kind inv.finding.few inv.finding.progress x.err)

pub returns-in-Ok-None-clause-err : goal.returns-in-Ok-None-clause-err
returns-in-Ok-None-clause-err g c =
    let inv = c.loop-e.invariant in
    let x = rw c.in-Ok-None.field-0-is at c.in-Ok-None.ensures.ok in
    let over = rw c.in-Ok-None.field-0-is at c.in-Ok-None.ensures.over in
    let onward = rw c.in-Ok-None.field-0-is at c.in-Ok-None.ensures.onward in
    find_none g.S.Source.left g.S.Source.faults _ _ _ c.args.from _ _ _ _ inv.finding.first inv.finding.progress x over onward.1 inv.finding.few inv.finding.before_is (omega (arith, c.from.ensures))

pub returns-then-number-groups-clause-ok : goal.returns-then-number-groups-clause-ok
returns-then-number-groups-clause-ok g c =
    let inv = c.loop-e.invariant in
    let x = rw c.in-Ok-Some.field-0-is at c.in-Ok-Some.ensures.ok in
    let begun = rw c.in-Ok-Some.field-0-is at c.in-Ok-Some.ensures.begun in
    let sound = rw c.in-Ok-Some.field-0-is at c.in-Ok-Some.ensures.sound in
    let onward = rw c.in-Ok-Some.field-0-is at c.in-Ok-Some.ensures.onward in
    record {
      group = record {
        first = inv.finding.first;
        few = inv.finding.few;
        number = omega (arith, c.from-in-Ok-Some.ensures, inv.finding.before_is);
        here = omega (arith, c.if-number-groups.true, c.groups_in-groups.ensures);
        behind = inv.finding.behind_is;
      };
      sound = sound;
      progress = progress_more g.S.Source.left g.S.Source.faults _ _ _ _ _ inv.finding.first c.in-Ok-Some.piece inv.finding.progress x begun c.in-Ok-Some.ensures.taken;
      place = onward.1;
      most = omega (arith, onward.1, sound.end);
      going = c.in-Ok-Some.ensures.going;
      begun = begun;
    }

pub loop-e-preserved : goal.loop-e-preserved
loop-e-preserved g c =
    let inv = c.loop-e.invariant in
    let x = rw c.in-Ok-Some.field-0-is at c.in-Ok-Some.ensures.ok in
    let begun = rw c.in-Ok-Some.field-0-is at c.in-Ok-Some.ensures.begun in
    let sound = rw c.in-Ok-Some.field-0-is at c.in-Ok-Some.ensures.sound in
    let onward = rw c.in-Ok-Some.field-0-is at c.in-Ok-Some.ensures.onward in
    record {
      finding = finding_more c.args.from _ _ c.loop-e.before c.groups_in-groups.result _ inv.finding.first inv.finding.few inv.finding.before_is c.groups_in-groups.ensures (omega (arith, c.if-number-groups.false, c.from-in-Ok-Some.ensures))
          (progress_more g.S.Source.left g.S.Source.faults _ _ _ _ _ inv.finding.first c.in-Ok-Some.piece inv.finding.progress x begun c.in-Ok-Some.ensures.taken);
      less = omega (arith, c.if-number-groups.false, c.from-in-Ok-Some.ensures, inv.less);
      cutting = c.in-Ok-Some.ensures.going;
      most = omega (arith, onward.1, sound.end);
      input = omega (arith, inv.input, c.next_piece.ensures.faults);
    }
