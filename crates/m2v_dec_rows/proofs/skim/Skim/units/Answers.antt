use Rattle.std.proofs.Common.{refl}
use Rattle.m2v_model.proofs.FlowLaws.{unit_less}
use Rattle.m2v_dec_rows.proofs.Standing.{ends_on}
use Rattle.m2v_dec_rows.proofs.FrontLaws.{behind_none, behind_more, reads_last, reads_fault}
use Rattle.m2v_dec_rows.proofs.skim.Skim.units.Goals as goal

pub loop-stop-init : goal.loop-stop-init
loop-stop-init c = record { sound = c.requires.sound; ends = c.requires.ends; behind = behind_none _ _ _ }

pub loop-stop-smaller : goal.loop-stop-smaller
loop-stop-smaller c =
    let read = rw c.in-More.is at c.in_ok-unit.ensures in
    unit_less _ _ _ _ read.0 read.1 refl

pub loop-stop-preserved : goal.loop-stop-preserved
loop-stop-preserved c =
    let p = c.args.piece.now in
    let old = c.args.self.now in
    let now = c.loop-stop.invariant in
    let read = rw c.in-More.is at c.in_ok-unit.ensures in
    record {
      sound = read.2.sound;
      ends = ends_on _ _ _ _ read.0 now.ends read.1;
      behind = behind_more p old c.loop-stop.self c.unit.new.self c.args.units.now c.loop-stop.units c.unit.new.units read.0 now.behind read.1 read.2;
    }

pub returns-in-Last : goal.returns-in-Last
returns-in-Last c =
    let now = c.loop-stop.invariant in
    let read = rw c.in-Last.is at c.in_ok-unit.ensures in
    reads_last c.args.piece.now c.args.self.now c.loop-stop.self c.unit.new.self c.args.units.now c.loop-stop.units c.unit.new.units read.0 now.behind now.sound read.1 read.2 read.3

pub returns-in-Broken : goal.returns-in-Broken
returns-in-Broken c =
    let now = c.loop-stop.invariant in
    let read = rw c.in-Broken.is at c.in_ok-unit.ensures in
    reads_fault c.args.piece.now c.args.self.now c.loop-stop.self c.unit.new.self c.args.units.now c.loop-stop.units c.in-Broken.stop now.behind now.sound read.0 read.1
