use Rattle.std.proofs.Common.{Err, ap, sym, subst, ◌∙◌}
use Rattle.m2v_port.specs.Ends.{change}
use Rattle.m2v_cut.specs.Starts.{SecondFails}
use Rattle.m2v_cut.proofs.Onwards.{second_stopped, no_second, second_over, second_more}
use Rattle.m2v_cut.proofs.second.second_piece.Goals as goal

pub returns-then-not-is_field-clause-ok : goal.returns-then-not-is_field-clause-ok
returns-then-not-is_field-clause-ok g c = no_second c.args.picture _ _ c.requires.begun (sym c.is_field.ensures ∙ c.if-not-is_field.true)

pub returns-in-Err-clause-err : goal.returns-in-Err-clause-err
returns-in-Err-clause-err g c =
    let x = c.in-Err.ensures in
    subst (SecondFails (change g.S.Source.left g.S.Source.faults c.args.input.now c.next_piece.new.input) c.args.cutter.now) (sym c.reading.ensures)
    (second_stopped g.S.Source.left g.S.Source.faults _ _ _ c.in-Err.e c.requires.begun (λ e. x.failed (ap Err e)) x.kind x.err)

pub returns-in-Ok-None-clause-ok : goal.returns-in-Ok-None-clause-ok
returns-in-Ok-None-clause-ok g c =
    let x = rw c.in-Ok-None.field-0-is at c.in-Ok-None.ensures.ok in
    let over = rw c.in-Ok-None.field-0-is at c.in-Ok-None.ensures.over in
    second_over c.args.picture _ _ _ _ c.requires.begun x over c.in-Ok-None.ensures.taken

pub returns-in-Ok-Some-clause-ok : goal.returns-in-Ok-Some-clause-ok
returns-in-Ok-Some-clause-ok g c =
    let x = rw c.in-Ok-Some.field-0-is at c.in-Ok-Some.ensures.ok in
    let begun = rw c.in-Ok-Some.field-0-is at c.in-Ok-Some.ensures.begun in
    let sound = rw c.in-Ok-Some.field-0-is at c.in-Ok-Some.ensures.sound in
    second_more c.args.picture _ _ _ _ c.in-Ok-Some.piece c.requires.begun (sym c.is_field.ensures ∙ c.if-not-is_field.false) x begun c.in-Ok-Some.ensures.taken sound
