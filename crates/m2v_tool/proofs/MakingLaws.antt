-- What follows from what `make` did and what was told of it.
use Rattle.std.proofs.Common.{◌≡◌, inl, inr, ℕ, refl}
use Rattle.m2v_make.specs.declared.answer.Made.{Made}
use Rattle.m2v_make.specs.declared.answer.MakeError.{MakeError}
use Rattle.m2v_make.specs.declared.answer.MakeError.TheVariants as errors
use Rattle.m2v_make.specs.Making.{MakeStops}
use Rattle.m2v_tool.specs.declared.make.MakeOutcome.{MakeOutcome}
use Rattle.m2v_tool.specs.declared.make.MakeOutcome.TheVariants.{Done, Stopped}
use Rattle.m2v_tool.specs.Endings.{Told, whole, cut}
use Rattle.m2v_tool.specs.Stops.{making_stopped}
use Rattle.m2v_tool.specs.Making.{MakeComes, made_ending, make_ending, MakeAnswer, MakeKeeps}
use Rattle.m2v_tool.specs.Runs.{Run, Succeeds}
use Rattle.m2v_tool.proofs.EndingLaws.{refusal}
use Rattle.m2v_tool.proofs.DoneLaws.{make_done, no_success}

module _ (r : Run) where
  done_answer : (seed : ℕ) (m : Made) → Told (made_ending seed m) r.status r.report → MakeAnswer r
  unfolding made_ending
  done_answer seed m (whole is g) = MakeAnswer.ok is
  done_answer seed m (cut (inl is) g) = MakeAnswer.memory is
  done_answer seed m (cut (inr is) g) = MakeAnswer.write (inr is.0) is.1

  stopped_answer : (seed : ℕ) (e : MakeError) → MakeStops seed r.output e → Told (making_stopped e) r.status r.report → MakeAnswer r
  unfolding MakeStops making_stopped
  stopped_answer seed errors.Write c t = elim (refusal (making_stopped errors.Write) r.status 8 r.report t refl refl) [
    | inl is ↦ MakeAnswer.write (inl c.0) is
    | inr is ↦ MakeAnswer.memory is
  ]
  stopped_answer seed errors.Memory c t = elim (refusal (making_stopped errors.Memory) r.status 12 r.report t refl refl) [
    | inl is ↦ MakeAnswer.memory is
    | inr is ↦ MakeAnswer.memory is
  ]

  answer_of : (seed : ℕ) (o : MakeOutcome) → MakeComes seed r.output o → Told (make_ending o) r.status r.report → MakeAnswer r
  unfolding MakeComes make_ending
  answer_of seed (Done own m) c t = done_answer own m t
  answer_of seed (Stopped e) c t = stopped_answer seed e c t

  made_by : MakeAnswer r → (r.output.Failed → ⊥) → (r.report.Failed → ⊥) → Succeeds r
  made_by (MakeAnswer.ok is) out told = inl is
  made_by (MakeAnswer.write (inl f) is) out told = absurd (out f)
  made_by (MakeAnswer.write (inr f) is) out told = absurd (told f)
  made_by (MakeAnswer.memory is) out told = inr is

  pub make_keeps : (seed : ℕ) (o : MakeOutcome) → MakeComes seed r.output o → Told (make_ending o) r.status r.report → MakeKeeps seed r
  make_keeps seed o c t = let a = answer_of seed o c t in record { done = make_done r seed o c t; answer = a; made = made_by a }

  -- where memory ran out before the words were read
  pub make_unread : (seed : ℕ) → r.status ≡ 12 → MakeKeeps seed r
  make_unread seed is = record { done = no_success r is; answer = MakeAnswer.memory is; made = λ out told. inr is }
