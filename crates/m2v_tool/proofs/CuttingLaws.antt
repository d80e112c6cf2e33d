-- What follows from what `cut` did and what was told of it.
use Rattle.std.proofs.Common.{◌≡◌, inl, inr, ℕ, ◌≤◌, List, Some, Result, Ok, Err, refl, sym, subst, arith}
use Rattle.m2v_port.specs.Ends.{Tells}
use Rattle.m2v_port.proofs.Runs.{tells}
use Rattle.m2v_cut.proofs.m2v_decode.AnswerLaws.{of_text}
use Rattle.m2v_cut.specs.m2v_law_group.Chosen.{CutDecodes}
use Rattle.m2v_cut.proofs.m2v_law_group.Decodes.{cut_law}
use Rattle.m2v_cut.specs.declared.answer.CutSummary.{CutSummary}
use Rattle.m2v_cut.specs.declared.answer.CutError.{CutError}
use Rattle.m2v_cut.specs.declared.answer.CutError.TheVariants as errors
use Rattle.m2v_cut.specs.Answers.{IsCutOut, IsRefused, IsOver, Fails, answer_to}
use Rattle.m2v_tool.specs.declared.cut.CutWords.{CutWords}
use Rattle.m2v_tool.specs.declared.cut.CutOutcome.{CutOutcome}
use Rattle.m2v_tool.specs.declared.cut.CutOutcome.TheVariants.{Done, NoneAsked, Stopped}
use Rattle.m2v_tool.specs.Endings.{Told, whole, cut, unfit_ending}
use Rattle.m2v_tool.specs.Stops.{cutting_stopped}
use Rattle.m2v_tool.specs.Cutting.{CutComes, none_asked, cut_out_ending, cut_ending, CutAnswer, CutKeeps}
use Rattle.m2v_tool.specs.Runs.{Run, work_of, IsUntouched, Yields, RefusedBy, NoneFailed, Succeeds}
use Rattle.m2v_tool.proofs.EndingLaws.{refusal, read_told, write_told, want_told, well_answered}
use Rattle.m2v_tool.proofs.DoneLaws.{cut_done, no_success}

module _ (r : Run) (w : CutWords) where
  unfit_at : (o : CutOutcome) → CutComes w r.input r.output o → Told (cut_ending o) r.status r.report → r.recon.Unchanged → w.count ≡ 0 → RefusedBy 3 r
  unfolding CutComes cut_ending unfit_ending
  unfit_at (Done s) c t k none = absurd (omega (arith, c.0, none))
  unfit_at NoneAsked c t k none = (refusal (unfit_ending none_asked) r.status 3 r.report t refl refl, (c.1, c.2, k))
  unfit_at (Stopped e) c t k none = absurd (omega (arith, c.0, none))

  module _ (text : List ℕ) (told : r.input.old ≡ Some text) where
    -- the answer to the text
    abbrev Said : Type 0
    Said = CutAnswer r w text (answer_to text w.from w.count)

    refused_as : (e : CutError) → answer_to text w.from w.count ≡ Err e → Told (cutting_stopped e) r.status r.report → Said
    refused_as e is t = subst (CutAnswer r w text) (sym is) (CutAnswer.refused t)

    done_as : (s : CutSummary) → IsCutOut text w.from w.count r.output s → Told (cut_out_ending s) r.status r.report → Yields r Said
    unfolding cut_out_ending
    done_as s i (whole is g) = Yields.said (subst (CutAnswer r w text) (sym i.answer) (CutAnswer.ok is i.grown g))
    done_as s i (cut (inl is) g) = Yields.memory is
    done_as s i (cut (inr is) g) = Yields.said (subst (CutAnswer r w text) (sym i.answer) (CutAnswer.unreported is.1 is.0 i.grown))

    stopped_as : (e : CutError) → Fails w.from w.count r.input r.output e → Told (cutting_stopped e) r.status r.report → Yields r Said
    unfolding cutting_stopped
    stopped_as errors.Read c t = read_told r t c.0
    stopped_as errors.Write c t = write_told r t c.0
    stopped_as (errors.NoGroup have need) c t =
        let i = of_text r.input (λ bytes. IsRefused bytes w.from w.count r.output (errors.NoGroup have need)) text told c in
        Yields.said (refused_as (errors.NoGroup have need) i.answer t)
    stopped_as (errors.NotCuttable place) c t =
        let i = of_text r.input (λ bytes. IsRefused bytes w.from w.count r.output (errors.NotCuttable place)) text told c in
        Yields.said (refused_as (errors.NotCuttable place) i.answer t)
    stopped_as errors.TooLong c t =
        let i = of_text r.input (λ bytes. IsOver bytes w.from w.count r.output errors.TooLong) text told c in
        Yields.said (refused_as errors.TooLong i.answer t)
    stopped_as errors.PictureTooLarge c t =
        let i = of_text r.input (λ bytes. IsOver bytes w.from w.count r.output errors.PictureTooLarge) text told c in
        Yields.said (refused_as errors.PictureTooLarge i.answer t)
    stopped_as errors.Memory c t = want_told r t

    answer_at : (o : CutOutcome) → 1 ≤ w.count → CutComes w r.input r.output o → Told (cut_ending o) r.status r.report → Yields r Said
    unfolding CutComes cut_ending
    answer_at (Done s) some c t = done_as s (of_text r.input (λ bytes. IsCutOut bytes w.from w.count r.output s) text told c.1) t
    answer_at NoneAsked some c t = absurd (omega (arith, some, c.0))
    answer_at (Stopped e) some c t = stopped_as e c.1 t

    cut_as : (s : CutSummary) → (a : Result CutSummary CutError) → a ≡ Ok s → NoneFailed r → CutAnswer r w text a → Succeeds r
    cut_as s a is well (CutAnswer.ok zero g h) = inl zero
    cut_as s a is well (CutAnswer.unreported eight f g) = absurd (well.report f)
    cut_as s a is well (CutAnswer.refused t) = absurd cc

  decodes_by : Tells r.input (λ text. CutDecodes text w.from w.count)
  decodes_by = tells r.input (λ text. CutDecodes text w.from w.count) (λ text told. cut_law text w.from w.count)

  pub cut_keeps : (o : CutOutcome) → CutComes w r.input r.output o → Told (cut_ending o) r.status r.report → r.recon.Unchanged → CutKeeps w r
  cut_keeps o c t k = record {
    done = cut_done r w o c t;
    unfit = unfit_at o c t k;
    answer = λ some. tells r.input (λ text. Yields r (CutAnswer r w text (answer_to text w.from w.count))) (λ text told. answer_at text told o some c t);
    cut = λ some. tells r.input (λ text. (s : CutSummary) → answer_to text w.from w.count ≡ Ok s → NoneFailed r → Succeeds r)
        (λ text told s is well. well_answered r well (cut_as text told s (answer_to text w.from w.count) is well) (answer_at text told o some c t));
    decodes = decodes_by;
  }

  -- where memory ran out before the words were read
  pub cut_unread : IsUntouched (work_of r) → r.status ≡ 12 → CutKeeps w r
  cut_unread untouched is = record {
    done = no_success r is;
    unfit = λ none. (inr is, untouched);
    answer = λ some. tells r.input (λ text. Yields r (CutAnswer r w text (answer_to text w.from w.count))) (λ text told. Yields.memory is);
    cut = λ some. tells r.input (λ text. (s : CutSummary) → answer_to text w.from w.count ≡ Ok s → NoneFailed r → Succeeds r) (λ text told s a well. inr is);
    decodes = decodes_by;
  }
