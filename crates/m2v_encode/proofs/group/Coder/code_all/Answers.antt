use Rattle.std.proofs.Common.{arith, refl, ap, subst, sym, Ok, ◌∙◌, length}
use Rattle.std.specs.Prelude.{IfOk}
use Rattle.std.proofs.lemmas.Result.{err_from_is_err_and}
use Rattle.m2v_port.specs.Ends.{change}
use Rattle.m2v_port.proofs.Runs.{stays_here, stays_on}
use Rattle.m2v_plane.specs.Samples.{Samples}
use Rattle.m2v_set.specs.declared.settings.Settings.{Settings}
use Rattle.m2v_order.specs.Groups.{Queue, group_of, after_end}
use Rattle.m2v_slice.proofs.Groups.{size_is}
use Rattle.m2v_encode.specs.declared.answer.Summary.{Summary}
use Rattle.m2v_encode.specs.Steps.{CanCode, ReadingStops, Comes, EndCoded, book_by}
use Rattle.m2v_encode.proofs.Due.{some_bytes}
use Rattle.m2v_encode.proofs.Loop.{goes_fresh, turns_fall, out_pushed, waits_reads, waits_group, waits_stopped, waits_last, waits_code}
use Rattle.m2v_encode.proofs.Ended.{all_ended, all_stopped, look_stopped, went_on}
use Rattle.m2v_encode.proofs.Progress.{so_far_none, reading_stopped}
use Rattle.m2v_encode.proofs.group.Coder.code_all.Goals as goal

-- ---- up to the first group

pub returns-in_err-next-clause-err : goal.returns-in_err-next-clause-err
returns-in_err-next-clause-err g c =
    let p = err_from_is_err_and c.from_residual.result c.from_residual.ensures.1 in
    let some = some_bytes _ (size_is c.args.self.now.settings c.settings-known.ensures.bounds) in
    let far = so_far_none g.S.Source.left g.S.Source.faults g.K.Sink.held g.K.Sink.faults g.N.Sink.held g.N.Sink.faults c.args.self.now.settings c.args.self.now c.args.intake.now.queue c.args.input.now c.args.output.now c.args.recon.now refl c.requires.ledger c.requires.before c.requires.total c.requires.queue in
    rw (p.1, p.2)
    (reading_stopped g.S.Source.left g.S.Source.faults g.K.Sink.held g.K.Sink.faults g.N.Sink.held g.N.Sink.faults _ c.args.self.now c.args.intake.now.queue _ _ _ _ _ _ _ _ c.settings-known.ensures.passes some (omega arith) far
    (subst (λ (s : Settings). ReadingStops g.S.Source.left g.S.Source.faults s c.args.intake.now.queue c.args.input.now c.next_group.new.input c.in_err-next.field-0.0) c.requires.settings (c.in_err-next.ensures.reads).err))

pub loop-next-init : goal.loop-next-init
loop-next-init g c =
    let q = c.requires.queue in
    let total = c.requires.total in
    let reads = c.in_ok-next.ensures.reads in
    let far = so_far_none g.S.Source.left g.S.Source.faults g.K.Sink.held g.K.Sink.faults g.N.Sink.held g.N.Sink.faults c.args.self.now.settings c.args.self.now c.args.intake.now.queue c.args.input.now c.args.output.now c.args.recon.now refl c.requires.ledger c.requires.before total q in
    record {
      room = c.requires.room;
      settings = refl;
      shown = refl;
      intake = reads.settings ∙ c.requires.settings;
      can = reads.ready;
      waits = waits_reads g.S.Source.left g.S.Source.faults g.K.Sink.held g.K.Sink.faults g.N.Sink.held g.N.Sink.faults c.args.self.now.settings c.args.self.now c.args.intake.now.queue c.next_group.new.self.queue c.in_ok-next.next _ _ _ _ _ _ _ far c.requires.reads.sound
          (goes_fresh c.args.self.now c.args.intake.now.queue c.settings-known.ensures.passes c.requires.ledger c.requires.before total q)
          (omega (arith, ap (λ (t : Summary). t.pictures) total, ap (λ (x : Queue Samples). length x.frames) q))
          (omega (arith, ap (λ (t : Summary). t.bytes) total)) (omega (arith, ap (λ (t : Summary). t.stuffing) total))
          (subst (λ (s : Settings). Comes g.S.Source.left g.S.Source.faults s c.args.intake.now.queue c.next_group.new.self.queue c.args.input.now c.next_group.new.input c.in_ok-next.next) c.requires.settings reads.ok);
      output = stays_here c.requires.output;
      recon = stays_here c.requires.recon;
      input = reads.rises;
      behind = c.next_group.ensures.behind;
      lenders = c.next_group.ensures.lenders;
    }

-- ---- a group

pub code_beside-requires-clause-going : goal.code_beside-requires-clause-going
code_beside-requires-clause-going g c = λ κs l. (waits_code _ c.loop-next.self c.loop-next.intake.queue c.in-Some.group _ _ _ (rw c.in-Some.is at c.loop-next.invariant.waits)).0

pub code_beside-requires-clause-group : goal.code_beside-requires-clause-group
code_beside-requires-clause-group g c = λ κs l.
    let inv = c.loop-next.invariant in
    subst (λ (s : Settings). CanCode s c.in-Some.group) (sym inv.settings) (waits_code _ c.loop-next.self c.loop-next.intake.queue c.in-Some.group _ _ _ (rw c.in-Some.is at inv.waits)).1

pub returns-in_err-next-2-clause-err : goal.returns-in_err-next-2-clause-err
returns-in_err-next-2-clause-err g c =
    let p = err_from_is_err_and c.from_residual-in_err-next-2.result c.from_residual-in_err-next-2.ensures.1 in
    let inv = c.loop-next.invariant in
    let some = some_bytes _ (size_is c.args.self.now.settings c.settings-known.ensures.bounds) in
    rw (p.1, p.2)
    (waits_stopped g.S.Source.left g.S.Source.faults g.K.Sink.held g.K.Sink.faults g.N.Sink.held g.N.Sink.faults _ c.loop-next.self c.code_beside.new.self c.loop-next.intake c.in-Some.group _ _ _ _ _ _ _ _ _ _ c.settings-known.ensures.passes some inv.intake
    inv.input inv.output.counts inv.recon.counts (rw c.in-Some.is at inv.waits) c.in_err-next-2.ensures.err)

pub loop-next-smaller : goal.loop-next-smaller
loop-next-smaller g c =
    let inv = c.loop-next.invariant in
    let came = c.in_ok-next-2.ensures.comes in
    let same = out_pushed _ came.queue c.code_beside.new.intake.queue _ c.in_ok-next-2.next came.out in
    rw c.in-Some.is
    (turns_fall c.in_ok-next-2.next c.loop-next.intake.count c.code_beside.new.intake.count inv.can.most
    (λ some. omega (arith, came.more some, same, inv.can.count, (c.in_ok-next-2.ensures.reads).count)))

pub loop-next-preserved : goal.loop-next-preserved
loop-next-preserved g c =
    let inv = c.loop-next.invariant in
    let h = c.in_ok-next-2.ensures in
    let coded = h.coded in
    record {
      room = c.code_beside.ensures.room;
      settings = coded.settings ∙ inv.settings;
      shown = c.code_beside.ensures.shown ∙ inv.shown;
      intake = c.code_beside.ensures.settings ∙ inv.intake;
      can = h.reads;
      waits = waits_group g.S.Source.left g.S.Source.faults g.K.Sink.held g.K.Sink.faults g.N.Sink.held g.N.Sink.faults _ c.loop-next.self c.code_beside.new.self c.loop-next.intake.queue c.code_beside.new.intake.queue c.in-Some.group c.in_ok-next-2.next _ _ _ _ _ _ _ _ _ c.settings-known.ensures.passes
          (rw c.in-Some.is at inv.waits) inv.can.sound coded h.going h.few.0 h.few.1
          (subst (λ (s : Settings). Comes g.S.Source.left g.S.Source.faults s c.loop-next.intake.queue c.code_beside.new.intake.queue c.loop-next.input c.code_beside.new.input c.in_ok-next-2.next) inv.intake h.comes);
      output = stays_on inv.output c.code_beside.ensures.output;
      recon = stays_on inv.recon c.code_beside.ensures.recon;
      input = omega (arith, inv.input, c.code_beside.ensures.input);
      behind = omega (arith, inv.behind, c.code_beside.ensures.behind);
      lenders = c.code_beside.ensures.lenders ∙ inv.lenders;
    }

-- ---- the end

pub goes_past-requires : goal.goes_past-requires
goes_past-requires g c =
    let inv = c.loop-next.invariant in
    let last = waits_last _ c.loop-next.self c.loop-next.intake.queue _ _ _ (rw c.in_default.is at inv.waits) in
    record { end = λ few. last.2 (omega (arith, few, inv.can.count)) }

pub returns-in_err-goes_past-clause-err : goal.returns-in_err-goes_past-clause-err
returns-in_err-goes_past-clause-err g c =
    let p = err_from_is_err_and c.from_residual-in_err-goes_past.result c.from_residual-in_err-goes_past.ensures.1 in
    let inv = c.loop-next.invariant in
    let last = waits_last _ c.loop-next.self c.loop-next.intake.queue _ _ _ (rw c.in_default.is at inv.waits) in
    let some = some_bytes _ (size_is c.args.self.now.settings c.settings-known.ensures.bounds) in
    rw (p.1, p.2)
    (look_stopped g.S.Source.left g.S.Source.faults g.K.Sink.held g.K.Sink.faults g.N.Sink.held g.N.Sink.faults _ c.loop-next.self c.loop-next.intake.queue _ _ _ _ _ _ _ _ c.settings-known.ensures.passes inv.can.sound (omega (arith, inv.can.count, inv.can.most)) some inv.can.rest inv.input last.0
    c.in_err-goes_past.ensures.err)

pub returns-then-branch-clause-err : goal.returns-then-branch-clause-err
returns-then-branch-clause-err g c =
    let inv = c.loop-next.invariant in
    let last = waits_last _ c.loop-next.self c.loop-next.intake.queue _ _ _ (rw c.in_default.is at inv.waits) in
    let past = c.in_ok-goes_past.ensures.past (ap Ok c.if-branch.true) in
    went_on g.S.Source.left g.S.Source.faults g.K.Sink.held g.K.Sink.faults g.N.Sink.held g.N.Sink.faults _ c.loop-next.self c.loop-next.intake.queue past.byte _ _ _ _ _ _ _ (omega (arith, inv.can.count, inv.can.most, past.all)) inv.can.rest last.0 (past.small, past.moved)

pub finish-requires-clause-going : goal.finish-requires-clause-going
finish-requires-clause-going g c = λ κs l. (waits_last _ c.loop-next.self c.loop-next.intake.queue _ _ _ (rw c.in_default.is at c.loop-next.invariant.waits)).1

pub returns-clause-ok : goal.returns-clause-ok
returns-clause-ok g c =
    let inv = c.loop-next.invariant in
    let last = waits_last _ c.loop-next.self c.loop-next.intake.queue _ _ _ (rw c.in_default.is at inv.waits) in
    let none = c.in_ok-goes_past.ensures.none (ap Ok c.if-branch.false) in
    let output = change g.K.Sink.held g.K.Sink.faults c.loop-next.output c.finish.new.output in
    let recon = change g.N.Sink.held g.N.Sink.faults c.loop-next.recon c.finish.new.recon in
    let q = c.loop-next.intake.queue in
    let x = c.loop-next.self in
    all_ended g.S.Source.left g.S.Source.faults g.K.Sink.held g.K.Sink.faults g.N.Sink.held g.N.Sink.faults _ x q _ _ _ _ _ _ _ _ _ c.finish.result c.settings-known.ensures.passes
    inv.can.sound inv.can.rest (omega (arith, inv.can.count, inv.can.most)) last.0 none.0 none.1 c.finish.ensures.some
    (subst (λ n. IfOk c.finish.result (EndCoded x n (book_by x (group_of (after_end q))) output recon)) (sym inv.can.count) c.finish.ensures.coded)

pub returns-clause-err : goal.returns-clause-err
returns-clause-err g c =
    let inv = c.loop-next.invariant in
    let last = waits_last _ c.loop-next.self c.loop-next.intake.queue _ _ _ (rw c.in_default.is at inv.waits) in
    let none = c.in_ok-goes_past.ensures.none (ap Ok c.if-branch.false) in
    let some = some_bytes _ (size_is c.args.self.now.settings c.settings-known.ensures.bounds) in
    all_stopped g.S.Source.left g.S.Source.faults g.K.Sink.held g.K.Sink.faults g.N.Sink.held g.N.Sink.faults _ c.loop-next.self c.loop-next.intake.queue _ _ _ _ _ _ _ _ _ c.finish.result c.settings-known.ensures.passes
    inv.can.sound inv.can.rest (omega (arith, inv.can.count, inv.can.most)) some inv.output.counts inv.recon.counts last.0 none.0 none.1 c.finish.ensures.err
