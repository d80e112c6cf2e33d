use Rattle.std.proofs.Common.{[], Result, sym, subst, ap, ◌∙◌}
use Rattle.m2v_decode.specs.m2v_dec_piece.declared.answer.Fault.{Fault}
use Rattle.m2v_mend.specs.declared.begin.Begun.{Begun}
use Rattle.m2v_mend.specs.Putting.{BeginTold}
use Rattle.m2v_mend.specs.Making.{fault_told, IsMade}
use Rattle.m2v_mend.proofs.Made.{told_fault}
use Rattle.m2v_mend.proofs.Put.{begin_as, begun_is, left_is}
use Rattle.m2v_law_seam.specs.Mending.{strand_begun, left_out}
use Rattle.m2v_mend.proofs.mender.Mender.elsewhere.Goals as goal
use Rattle.m2v_mend.proofs.mender.Mender.elsewhere.Goals.{in-Ok+in_ok-begun-in-Ok, in-Err+in_ok-leave_out-in-Err}

pub returns-clause-told : goal.returns-clause-told
returns-clause-told c = λ written listed m s is span stretch off why.
    let told = begin_as m s c.args.self.now.first c.new-pieces.result.items c.begin.new.out.items c.in_ok-begun.field-0 is.first c.new-pieces.ensures.items (c.in_ok-begun.ensures.told s span c.requires.short stretch) in
    elim c.match-branch-2.branch [
      | in-Ok+in_ok-begun-in-Ok w ↦
          let own = subst (λ (o : Result Begun Fault). BeginTold m.first s [] c.begin.new.out.items o) w.in-Ok.is told in
          begun_is written listed m s c.match-branch-2.self off own.0
          (subst (IsMade written listed (strand_begun m s)) (sym w.self-is) (w.in_ok-begun-in-Ok.ensures.told written listed m s is span own))
      | in-Err+in_ok-leave_out-in-Err w ↦
          let own = subst (λ (o : Result Begun Fault). BeginTold m.first s [] c.begin.new.out.items o) w.in-Err.is told in
          left_is written listed m s c.match-branch-2.self off own.0
          (subst (IsMade written listed (left_out m s)) (sym w.self-is) (w.in_ok-leave_out-in-Err.ensures.told written listed m s is span (told_fault m s c.args.refused w.in-Err.fault why own.1 ∙ ap fault_told (sym w.unwrap_or.ensures))))
    ]
