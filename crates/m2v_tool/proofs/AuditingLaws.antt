-- What follows from what `audit` did and what was told of it.
use Rattle.std.proofs.Common.{◌≡◌, inr, ℕ, List, Some, subst}
use Rattle.m2v_port.proofs.Runs.{tells}
use Rattle.m2v_cut.proofs.m2v_decode.AnswerLaws.{of_text}
use Rattle.m2v_dec_piece.specs.declared.answer.DecodeError.{DecodeError}
use Rattle.m2v_dec_piece.specs.declared.answer.DecodeError.TheVariants as errors
use Rattle.m2v_audit.specs.declared.outcome.Outcome.{Outcome as Audit}
use Rattle.m2v_audit.specs.Leading.{IsAudited, Fails}
use Rattle.m2v_audit.specs.declared.asked.Asked.{Asked}
use Rattle.m2v_tool.specs.declared.audit.AuditOutcome.{AuditOutcome}
use Rattle.m2v_tool.specs.declared.audit.AuditOutcome.TheVariants.{Reported, Stopped}
use Rattle.m2v_tool.specs.Endings.{Ending, Told}
use Rattle.m2v_tool.specs.Stops.{decoding_stopped}
use Rattle.m2v_tool.specs.Auditing.{outcome_of, AuditComes, clean_ending, reported_ending, audit_ending, AuditAnswer, AuditKeeps}
use Rattle.m2v_tool.specs.Runs.{Run, work_of, IsUntouched, Yields, NoneFailed, Succeeds}
use Rattle.m2v_tool.proofs.EndingLaws.{read_told, write_told, want_told, well_answered}
use Rattle.m2v_tool.proofs.DoneLaws.{audit_done, no_success, clean_told}

module _ (r : Run) (w : Asked) where
  module _ (text : List ℕ) (told : r.input.old ≡ Some text) where
    -- the answer to the text
    abbrev Said : Type 0
    Said = AuditAnswer r w text

    reported_as : (o : Audit) → IsAudited w text r.output o → Told (reported_ending o) r.status r.report → Said
    reported_as o i t = record { report = i.grown; told = subst (λ (x : Audit). Told (reported_ending x) r.status r.report) i.outcome t }

    stopped_as : (e : DecodeError) → Fails w r.input r.output e → Told (decoding_stopped e) r.status r.report → Yields r Said
    unfolding decoding_stopped
    stopped_as errors.Read c t = read_told r t c.0
    stopped_as errors.Write c t = write_told r t c.0
    stopped_as (errors.Stream f) c t = absurd c
    stopped_as errors.TooLong c t = absurd c
    stopped_as errors.PictureTooLarge c t = absurd c
    stopped_as errors.Memory c t = want_told r t

    answer_at : (o : AuditOutcome) → AuditComes w r.input r.output o → Told (audit_ending o) r.status r.report → Yields r Said
    unfolding AuditComes audit_ending
    answer_at (Reported o) c t =
        Yields.said (reported_as o (of_text r.input (λ bytes. IsAudited w bytes r.output o) text told c) t)
    answer_at (Stopped e) c t = stopped_as e c t

    clean_as : reported_ending (outcome_of w text) ≡ clean_ending (outcome_of w text).totals → NoneFailed r → Said → Succeeds r
    clean_as is well a = clean_told r (outcome_of w text).totals well (subst (λ (e : Ending). Told e r.status r.report) is a.told)

  pub audit_keeps : (o : AuditOutcome) → AuditComes w r.input r.output o → Told (audit_ending o) r.status r.report → AuditKeeps w r
  audit_keeps o c t = record {
    done = audit_done r w o c t;
    answer = tells r.input (λ text. Yields r (AuditAnswer r w text)) (λ text told. answer_at text told o c t);
    clean = tells r.input (λ text. reported_ending (outcome_of w text) ≡ clean_ending (outcome_of w text).totals → NoneFailed r → Succeeds r)
        (λ text told is well. well_answered r well (clean_as text told is well) (answer_at text told o c t));
  }

  -- where memory ran out before the words were read
  pub audit_unread : IsUntouched (work_of r) → r.status ≡ 12 → AuditKeeps w r
  audit_unread untouched is = record {
    done = no_success r is;
    answer = tells r.input (λ text. Yields r (AuditAnswer r w text)) (λ text told. Yields.memory is);
    clean = tells r.input (λ text. reported_ending (outcome_of w text) ≡ clean_ending (outcome_of w text).totals → NoneFailed r → Succeeds r)
        (λ text told e well. inr is);
  }
