-- What follows from what `check` did and what was told of it.
use Rattle.std.proofs.Common.{◌≡◌, inl, inr, ℕ, List, Some, Option, Result, Ok, Err, refl, subst}
use Rattle.std.specs.Prelude.{IfSome}
use Rattle.m2v_port.specs.Ends.{Tells}
use Rattle.m2v_port.proofs.Runs.{tells}
use Rattle.m2v_model.specs.Pieces.{Limit, too_long, too_large}
use Rattle.m2v_model.specs.Decoding.{FaultAt}
use Rattle.m2v_model.proofs.Unique.{exactly_one}
use Rattle.m2v_dec_piece.specs.declared.answer.Fault.{Fault}
use Rattle.m2v_dec_piece.specs.declared.answer.DecodeError.{DecodeError}
use Rattle.m2v_dec_piece.specs.declared.answer.DecodeError.TheVariants as errors
use Rattle.m2v_cut.specs.m2v_decode.Answers.{OfText, IsOver as DecodeOver}
use Rattle.m2v_cut.specs.m2v_decode.Complete.{IsUnderLimits, IsReached, IsLate, IsPast, error_of}
use Rattle.m2v_cut.proofs.m2v_decode.AnswerLaws.{of_text, not_long, not_large, same_fault}
use Rattle.m2v_make.specs.m2v_check.declared.verdict.Figures.{Figures}
use Rattle.m2v_make.specs.m2v_check.declared.verdict.Verdict.{Verdict}
use Rattle.m2v_make.specs.m2v_check.declared.verdict.Verdict.TheVariants as verdicts
use Rattle.m2v_make.specs.m2v_check.Meaning.{IsLawful, IsVariable, Means}
use Rattle.m2v_make.specs.m2v_check.Answers.{IsJudged, IsFaulty, IsOver, Fails, Gives, IsAnswered}
use Rattle.m2v_make.proofs.m2v_check.OneMeaning.{decoding_in, one_meaning}
use Rattle.m2v_make.specs.m2v_check.Progress.{no_output}
use Rattle.m2v_make.proofs.m2v_check.AnswerLaws.{answered}
use Rattle.m2v_tool.specs.declared.check.CheckOutcome.{CheckOutcome}
use Rattle.m2v_tool.specs.declared.check.CheckOutcome.TheVariants.{Judged, Stopped}
use Rattle.m2v_tool.specs.Endings.{Ending, Told, whole, cut, stream_fault, ending_past}
use Rattle.m2v_tool.specs.Stops.{decoding_stopped}
use Rattle.m2v_tool.specs.Checking.{CheckComes, lawful_ending, variable_ending, verdict_ending, check_ending, Says, CheckKeeps}
use Rattle.m2v_tool.specs.Runs.{Run, Yields, NoneFailed, Succeeds}
use Rattle.m2v_tool.proofs.EndingLaws.{read_told, want_told, well_answered}
use Rattle.m2v_tool.proofs.DoneLaws.{check_done, no_success}

-- ---- outcomes as results

abbrev result_of : CheckOutcome → Result Verdict DecodeError
result_of (Judged v) = Ok v
result_of (Stopped e) = Err e

abbrev ending_by : Result Verdict DecodeError → Ending
ending_by (Ok v) = verdict_ending v
ending_by (Err e) = decoding_stopped e

over_there : (text : List ℕ) (e : DecodeError) → IsOver text e → DecodeOver text no_output e
over_there text e o = record { events = o.events; between = o.between; others = o.others; begun = o.begun; over = o.over; grown = record { is = refl } }

module _ (r : Run) where
  -- an endpoint or memory failed
  read_at : (Answer : Type 0) → r.input.Failed → Told (decoding_stopped errors.Read) r.status r.report → Yields r Answer
  unfolding decoding_stopped
  read_at Answer failed t = read_told r t failed

  memory_at : (Answer : Type 0) → Told (decoding_stopped errors.Memory) r.status r.report → Yields r Answer
  unfolding decoding_stopped
  memory_at Answer t = want_told r t

  -- ---- what is answered of a limit

  answered_at : (o : CheckOutcome) → CheckComes r.input o → Tells r.input (IsAnswered r.input (result_of o))
  unfolding CheckComes
  answered_at (Judged v) c = answered r.input (Ok v) c tt
  answered_at (Stopped e) c = answered r.input (Err e) tt c

  given : (answer : Result Verdict DecodeError) (o : CheckOutcome) → Gives r.input answer (result_of o) → Told (check_ending o) r.status r.report
      → Yields r (Told (ending_by answer) r.status r.report)
  unfolding check_ending
  given answer (Judged v) (Gives.as_said is) t = Yields.said (subst (λ (x : Result Verdict DecodeError). Told (ending_by x) r.status r.report) is t)
  given answer (Judged v) (Gives.read is failed) t = absurd cc
  given answer (Judged v) (Gives.memory is) t = absurd cc
  given answer (Stopped e) (Gives.as_said is) t = Yields.said (subst (λ (x : Result Verdict DecodeError). Told (ending_by x) r.status r.report) is t)
  given answer (Stopped e) (Gives.read is failed) t =
      let same : e ≡ errors.Read = cc in
      read_at (Told (ending_by answer) r.status r.report) failed (subst (λ (x : DecodeError). Told (decoding_stopped x) r.status r.report) same t)
  given answer (Stopped e) (Gives.memory is) t =
      let same : e ≡ errors.Memory = cc in
      memory_at (Told (ending_by answer) r.status r.report) (subst (λ (x : DecodeError). Told (decoding_stopped x) r.status r.report) same t)

  past_ending : (l : Limit) → Yields r (Told (decoding_stopped (error_of l)) r.status r.report) → Yields r (Told (ending_past l) r.status r.report)
  unfolding decoding_stopped
  past_ending too_long y = y
  past_ending too_large y = y

  module _ (text : List ℕ) (told : r.input.old ≡ Some text) where
    answers : (o : CheckOutcome) → CheckComes r.input o → IsAnswered r.input (result_of o) text
    answers o c = subst (λ (x : Option (List ℕ)). IfSome x (IsAnswered r.input (result_of o))) told (answered_at o c)

    over_at : (l : Limit) → IsPast text l → (o : CheckOutcome) → CheckComes r.input o → Told (check_ending o) r.status r.report
        → Yields r (Told (ending_past l) r.status r.report)
    over_at l past o c t = past_ending l (given (Err (error_of l)) o ((answers o c).over l past) t)

    late_at : IsLate text → (o : CheckOutcome) → CheckComes r.input o → Told (check_ending o) r.status r.report → Yields r (Told (ending_past too_long) r.status r.report)
    late_at late o c t = past_ending too_long (given (Err errors.TooLong) o ((answers o c).late late) t)

    -- ---- what is answered to a verdict or a fault

    judged_of : (v : Verdict) → OfText r.input (λ bytes. IsJudged bytes v) → IsJudged text v
    judged_of v c = of_text r.input (λ bytes. IsJudged bytes v) text told c

    fault_of : (f : Fault) → OfText r.input (λ bytes. IsFaulty bytes f) → IsFaulty text f
    fault_of f c = of_text r.input (λ bytes. IsFaulty bytes f) text told c

    over_of : (e : DecodeError) → OfText r.input (λ bytes. IsOver bytes e) → IsOver text e
    over_of e c = of_text r.input (λ bytes. IsOver bytes e) text told c

    long_at : (Reached : Type 0) (e : Ending) → IsOver text errors.TooLong → Told (decoding_stopped errors.TooLong) r.status r.report → Yields r (Says r text Reached e)
    unfolding decoding_stopped
    long_at Reached e i t = Yields.said (Says.past too_long (not_long text no_output (over_there text errors.TooLong i)) i t)

    large_at : (Reached : Type 0) (e : Ending) → IsOver text errors.PictureTooLarge → Told (decoding_stopped errors.PictureTooLarge) r.status r.report
        → Yields r (Says r text Reached e)
    unfolding decoding_stopped
    large_at Reached e i t = Yields.said (Says.past too_large (not_large text no_output (over_there text errors.PictureTooLarge i)) i t)

    no_fault : (v : Verdict) (f : Fault) → Means text v → FaultAt text f.place f.kind → ⊥
    no_fault v f m at =
        let d = decoding_in text v m in
        (exactly_one text).not_both d.0 f.place f.kind d.1 at

    stopped_judges : (v : Verdict) → Means text v → (e : DecodeError) → Fails r.input e → Told (decoding_stopped e) r.status r.report
        → Yields r (Says r text (IsUnderLimits text) (verdict_ending v))
    stopped_judges v m errors.Read c t = read_at (Says r text (IsUnderLimits text) (verdict_ending v)) c t
    stopped_judges v m errors.Write c t = absurd c
    stopped_judges v m (errors.Stream f) c t = absurd (no_fault v f m (fault_of f c).fault)
    stopped_judges v m errors.TooLong c t = long_at (IsUnderLimits text) (verdict_ending v) (over_of errors.TooLong c) t
    stopped_judges v m errors.PictureTooLarge c t = large_at (IsUnderLimits text) (verdict_ending v) (over_of errors.PictureTooLarge c) t
    stopped_judges v m errors.Memory c t = memory_at (Says r text (IsUnderLimits text) (verdict_ending v)) t

    judges_at : (v : Verdict) → Means text v → (o : CheckOutcome) → CheckComes r.input o → Told (check_ending o) r.status r.report
        → Yields r (Says r text (IsUnderLimits text) (verdict_ending v))
    unfolding CheckComes check_ending
    judges_at v m (Judged w) c t =
        let j = judged_of w c in
        let same : w ≡ v = one_meaning text w v j.means m in
        Yields.said (Says.told j.limits (subst (λ (x : Verdict). Told (verdict_ending x) r.status r.report) same t))
    judges_at v m (Stopped e) c t = stopped_judges v m e c t

    same_told : (g f : Fault) → g ≡ f → IsReached text g → Told (decoding_stopped (errors.Stream g)) r.status r.report
        → Yields r (Says r text (IsReached text f) (stream_fault f))
    unfolding decoding_stopped
    same_told g f same reached t =
        Yields.said (Says.told (subst (IsReached text) same reached) (subst (λ (x : Fault). Told (stream_fault x) r.status r.report) same t))

    stopped_refuses : (f : Fault) → FaultAt text f.place f.kind → (e : DecodeError) → Fails r.input e → Told (decoding_stopped e) r.status r.report
        → Yields r (Says r text (IsReached text f) (stream_fault f))
    stopped_refuses f at errors.Read c t = read_at (Says r text (IsReached text f) (stream_fault f)) c t
    stopped_refuses f at errors.Write c t = absurd c
    stopped_refuses f at (errors.Stream g) c t =
        let i = fault_of g c in
        same_told g f (same_fault text g f i.fault at) i.reached t
    stopped_refuses f at errors.TooLong c t = long_at (IsReached text f) (stream_fault f) (over_of errors.TooLong c) t
    stopped_refuses f at errors.PictureTooLarge c t = large_at (IsReached text f) (stream_fault f) (over_of errors.PictureTooLarge c) t
    stopped_refuses f at errors.Memory c t = memory_at (Says r text (IsReached text f) (stream_fault f)) t

    refuses_at : (f : Fault) → FaultAt text f.place f.kind → (o : CheckOutcome) → CheckComes r.input o → Told (check_ending o) r.status r.report
        → Yields r (Says r text (IsReached text f) (stream_fault f))
    unfolding CheckComes check_ending
    refuses_at f at (Judged v) c t = absurd (no_fault v f (judged_of v c).means at)
    refuses_at f at (Stopped e) c t = stopped_refuses f at e c t

    -- under the limits, with no count that rose and a verdict of status 0
    success_told : (e : Ending) → e.status ≡ 0 → NoneFailed r → Told e r.status r.report → Succeeds r
    success_told e zero well (whole is g) = inl (rw zero at is)
    success_told e zero well (cut (inl is) g) = inr is
    success_told e zero well (cut (inr is) g) = absurd (well.report is.0)

    passes_at : (e : Ending) → e.status ≡ 0 → IsUnderLimits text → NoneFailed r → Says r text (IsUnderLimits text) e → Succeeds r
    passes_at e zero under well (Says.told reached t) = success_told e zero well t
    passes_at e zero under well (Says.past l over i t) = absurd (over under)

lawful_zero : (f : Figures) → (verdict_ending (verdicts.Lawful f)).status ≡ 0
unfolding verdict_ending lawful_ending
lawful_zero f = refl

variable_zero : (f : Figures) → (verdict_ending (verdicts.Variable f)).status ≡ 0
unfolding verdict_ending variable_ending
variable_zero f = refl

pub check_keeps : (r : Run) (o : CheckOutcome) → CheckComes r.input o → Told (check_ending o) r.status r.report → CheckKeeps r
check_keeps r o c t = record {
  done = check_done r o c t;
  judged = tells r.input (λ text. (v : Verdict) → Means text v → Yields r (Says r text (IsUnderLimits text) (verdict_ending v)))
      (λ text is v m. judges_at r text is v m o c t);
  faulty = tells r.input (λ text. (f : Fault) → FaultAt text f.place f.kind → Yields r (Says r text (IsReached text f) (stream_fault f)))
      (λ text is f at. refuses_at r text is f at o c t);
  over = tells r.input (λ text. (l : Limit) → IsPast text l → Yields r (Told (ending_past l) r.status r.report)) (λ text is l past. over_at r text is l past o c t);
  late = tells r.input (λ text. IsLate text → Yields r (Told (ending_past too_long) r.status r.report)) (λ text is late. late_at r text is late o c t);
  lawful = tells r.input (λ text. (f : Figures) → IsLawful text f → IsUnderLimits text → NoneFailed r → Succeeds r)
      (λ text is f m under well. well_answered r well (passes_at r text is (verdict_ending (verdicts.Lawful f)) (lawful_zero f) under well) (judges_at r text is (verdicts.Lawful f) m o c t));
  variable = tells r.input (λ text. (f : Figures) → IsVariable text f → IsUnderLimits text → NoneFailed r → Succeeds r)
      (λ text is f m under well. well_answered r well (passes_at r text is (verdict_ending (verdicts.Variable f)) (variable_zero f) under well) (judges_at r text is (verdicts.Variable f) m o c t));
}

-- where memory ran out before the words were read
pub check_unread : (r : Run) → r.status ≡ 12 → CheckKeeps r
check_unread r is = record {
  done = no_success r is;
  judged = tells r.input (λ text. (v : Verdict) → Means text v → Yields r (Says r text (IsUnderLimits text) (verdict_ending v))) (λ text told v m. Yields.memory is);
  faulty = tells r.input (λ text. (f : Fault) → FaultAt text f.place f.kind → Yields r (Says r text (IsReached text f) (stream_fault f))) (λ text told f at. Yields.memory is);
  over = tells r.input (λ text. (l : Limit) → IsPast text l → Yields r (Told (ending_past l) r.status r.report)) (λ text told l past. Yields.memory is);
  late = tells r.input (λ text. IsLate text → Yields r (Told (ending_past too_long) r.status r.report)) (λ text told late. Yields.memory is);
  lawful = tells r.input (λ text. (f : Figures) → IsLawful text f → IsUnderLimits text → NoneFailed r → Succeeds r) (λ text told f m under well. inr is);
  variable = tells r.input (λ text. (f : Figures) → IsVariable text f → IsUnderLimits text → NoneFailed r → Succeeds r) (λ text told f m under well. inr is);
}
