use Rattle.std.proofs.Common.{arith, ap, sym, Ok, ◌∙◌, vec_len}
use Rattle.m2v_encode.proofs.Loop.{sound_read, next_ended, next_full, next_lost, next_due, next_on}
use Rattle.m2v_encode.proofs.intake.Intake.next_group.Goals as goal

pub returns-then-not-branch-clause-reads : goal.returns-then-not-branch-clause-reads
returns-then-not-branch-clause-reads g c =
    let inv = c.loop-self.invariant in
    let h = c.in_ok-next_frame.ensures in
    let none = h.none (ap Ok c.if-not-branch.true) in
    next_ended g.S.Source.left g.S.Source.faults c.args.self.now c.loop-self.self c.next_frame.new.self _ _ _ inv.reads inv.can inv.settings none c.next_frame.ensures.input
    (h.same (ap Ok c.if-not-branch.true)) c.next_frame.ensures.settings c.next_frame.ensures.raw

pub due-requires-clause-sound : goal.due-requires-clause-sound
due-requires-clause-sound g c =
    let inv = c.loop-self.invariant in
    let read = c.in_ok-next_frame.ensures.read (ap Ok c.if-not-branch.false) in
    sound_read c.loop-self.self.settings c.loop-self.self.queue c.next_frame.new.self.queue _ (rw (← inv.settings) at c.settings-known.ensures.passes) inv.can.settings inv.can.sound inv.can.going read

pub returns-in_default-clause-reads : goal.returns-in_default-clause-reads
returns-in_default-clause-reads g c =
    let inv = c.loop-self.invariant in
    let read = c.in_ok-next_frame.ensures.read (ap Ok c.if-not-branch.false) in
    next_lost g.S.Source.left g.S.Source.faults c.args.self.now c.loop-self.self c.next_frame.new.self c.due.new.self _ _ _ inv.reads inv.can inv.settings (omega arith) read c.next_frame.ensures.input
    (c.due.ensures.settings ∙ c.next_frame.ensures.settings ∙ inv.settings)

pub returns-then-is_some-clause-reads : goal.returns-then-is_some-clause-reads
returns-then-is_some-clause-reads g c =
    let inv = c.loop-self.invariant in
    let h = c.in_ok-next_frame.ensures in
    next_due g.S.Source.left g.S.Source.faults c.args.self.now c.loop-self.self c.next_frame.new.self c.due.new.self c.in-Ok.next _ _ _ c.settings-known.ensures.passes inv.reads inv.can inv.settings
    (omega arith) (h.read (ap Ok c.if-not-branch.false)) c.next_frame.ensures.input (h.counted (ap Ok c.if-not-branch.false)) c.next_frame.ensures.settings c.next_frame.ensures.raw
    c.in-Ok.ensures.some c.due.ensures.count c.due.ensures.settings (ap (λ (v : _). vec_len v) c.due.ensures.raw) (sym c.is_some.ensures ∙ c.if-is_some.true)

pub loop-self-preserved : goal.loop-self-preserved
loop-self-preserved g c =
    let inv = c.loop-self.invariant in
    let h = c.in_ok-next_frame.ensures in
    let on = next_on g.S.Source.left g.S.Source.faults c.args.self.now c.loop-self.self c.next_frame.new.self c.due.new.self c.in-Ok.next _ _ _ c.settings-known.ensures.passes inv.reads inv.can inv.settings
    (omega arith) (h.read (ap Ok c.if-not-branch.false)) c.next_frame.ensures.input (h.counted (ap Ok c.if-not-branch.false)) c.next_frame.ensures.settings c.next_frame.ensures.raw
    c.in-Ok.ensures.none (sym c.is_some.ensures ∙ c.if-is_some.false) in
    record {
      reads = on.0;
      can = on.1;
      settings = c.due.ensures.settings ∙ c.next_frame.ensures.settings ∙ inv.settings;
      behind = omega (arith, inv.behind, c.next_frame.ensures.behind);
      lenders = c.next_frame.ensures.lenders ∙ inv.lenders;
    }

pub returns-clause-reads : goal.returns-clause-reads
returns-clause-reads g c =
    let inv = c.loop-self.invariant in
    next_full g.S.Source.left g.S.Source.faults c.args.self.now c.loop-self.self _ _ inv.reads inv.can inv.settings (omega arith)
