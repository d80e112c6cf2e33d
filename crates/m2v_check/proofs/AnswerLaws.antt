-- What follows from what is known of an answer: a text with a cause is answered by it, and by nothing else.
use Rattle.std.proofs.Common.{◌≡◌, inl, inr, ℕ, List, ◌++◌, Option, Some, Result, Ok, Err, refl, ap, subst, arith}
use Rattle.std.specs.Prelude.{IfOk, IfErr, IfSome}
use Rattle.m2v_port.specs.Ends.{Change, Tells}
use Rattle.m2v_port.proofs.Runs.{tells}
use Rattle.m2v_model.proofs.Unique.{exactly_one}
use Rattle.m2v_dec_piece.specs.declared.answer.Fault.{Fault}
use Rattle.m2v_dec_piece.specs.declared.answer.DecodeError.{DecodeError}
use Rattle.m2v_dec_piece.specs.declared.answer.DecodeError.TheVariants as errors
use Rattle.m2v_decode.specs.declared.answer.Decoded.{Decoded}
use Rattle.m2v_decode.specs.Answers.{OfText, AllFit, start_of, Fails as DecodeFails, IsFaulty as DecodeFaulty, IsOver as DecodeOver}
use Rattle.m2v_decode.specs.Complete.{error_of, IsAnswered as DecodeAnswered, Gives as DecodeGives}
use Rattle.m2v_decode.proofs.AnswerLaws.{of_text, passes_none, rest_fits, answered as decode_answered}
use Rattle.m2v_check.specs.declared.verdict.Verdict.{Verdict}
use Rattle.m2v_check.specs.Progress.{no_output}
use Rattle.m2v_check.specs.Answers.{IsJudged, IsFaulty, IsOver, Fails, Gives, IsAnswered}
use Rattle.m2v_check.proofs.OneMeaning.{decoding_in, one_meaning}

-- ---- an output that isn't there

over_there : (text : List ℕ) (e : DecodeError) → IsOver text e → DecodeOver text no_output e
over_there text e o = record { events = o.events; between = o.between; others = o.others; begun = o.begun; over = o.over; grown = record { is = refl } }

faulty_there : (text : List ℕ) (f : Fault) → IsFaulty text f → DecodeFaulty text no_output f
faulty_there text f i =
    let r = i.reached in
    record { fault = i.fault; start = r.start; events = r.events; between = r.between; others = r.others; begun = r.begun; here = r.here; grown = record { is = refl } }

-- what decoding says of a failure, without its output
over_here : (text : List ℕ) (e : DecodeError) → DecodeOver text no_output e → IsOver text e
over_here text e o = record { events = o.events; between = o.between; others = o.others; begun = o.begun; over = o.over }

faulty_here : (text : List ℕ) (f : Fault) → DecodeFaulty text no_output f → IsFaulty text f
faulty_here text f i = record {
  fault = i.fault;
  reached = record { start = i.start; events = i.events; between = i.between; others = i.others; begun = i.begun; here = i.here };
}

none_fails : no_output.Failed → ⊥
none_fails (inl l) = omega arith
none_fails (inr l) = omega arith

text_there : (left : Change) (P Q : List ℕ → Type 0) → ((text : List ℕ) → P text → Q text) → OfText left P → OfText left Q
text_there left P Q f h = record { bytes = h.bytes; moved = h.moved; told = λ rest e. f (h.bytes ++ rest) (h.told rest e) }

pub fails_here : (left : Change) (e : DecodeError) → DecodeFails left no_output e → Fails left e
fails_here left errors.Read h = h.0
fails_here left errors.Write h = absurd (none_fails h.0)
fails_here left (errors.Stream f) h = text_there left (λ t. DecodeFaulty t no_output f) (λ t. IsFaulty t f) (λ t. faulty_here t f) h
fails_here left errors.TooLong h = text_there left (λ t. DecodeOver t no_output errors.TooLong) (λ t. IsOver t errors.TooLong) (λ t. over_here t errors.TooLong) h
fails_here left errors.PictureTooLarge h = text_there left (λ t. DecodeOver t no_output errors.PictureTooLarge) (λ t. IsOver t errors.PictureTooLarge) (λ t. over_here t errors.PictureTooLarge) h
fails_here left errors.Memory h = tt

-- ---- no other answer

module _ (left : Change) (text : List ℕ) (is : left.old ≡ Some text) where
  -- what decoding would say of an error
  there : (e : DecodeError) → DecodeFails left no_output e → DecodeAnswered left no_output (Err e) text
  there e h = subst (λ (o : Option (List ℕ)). IfSome o (DecodeAnswered left no_output (Err e))) is (decode_answered left no_output (Err e) tt h)

  from_there : (x e : DecodeError) → DecodeGives left no_output (Err x) (Err e) → Gives left (Err x) (Err e)
  from_there x e (DecodeGives.as_said q) = let same : e ≡ x = cc in Gives.as_said (ap Err same)
  from_there x e (DecodeGives.read q failed) = let same : e ≡ errors.Read = cc in Gives.read (ap Err same) failed
  from_there x e (DecodeGives.write q failed) = absurd (none_fails failed)
  from_there x e (DecodeGives.memory q) = let same : e ≡ errors.Memory = cc in Gives.memory (ap Err same)

  verdict_from : (e : DecodeError) (v : Verdict) (d : Decoded) → DecodeGives left no_output (Ok d) (Err e) → Gives left (Ok v) (Err e)
  verdict_from e v d (DecodeGives.as_said q) = absurd cc
  verdict_from e v d (DecodeGives.read q failed) = let same : e ≡ errors.Read = cc in Gives.read (ap Err same) failed
  verdict_from e v d (DecodeGives.write q failed) = absurd (none_fails failed)
  verdict_from e v d (DecodeGives.memory q) = let same : e ≡ errors.Memory = cc in Gives.memory (ap Err same)

  by_there : (e : DecodeError) → DecodeFails left no_output e → IsAnswered left (Err e) text
  by_there e h =
      let a = there e h in
      record {
        judged = λ v m under. let d = decoding_in text v m in verdict_from e v _ (a.decodes d.0 d.1 under);
        faulty = λ f at r. from_there (errors.Stream f) e (a.faulty f at r);
        over = λ l past. from_there (error_of l) e (a.over l past);
        late = λ long. from_there errors.TooLong e (a.late long);
      }

  by_error : (e : DecodeError) → Fails left e → IsAnswered left (Err e) text
  by_error errors.Read h = record {
    judged = λ v m under. Gives.read refl h;
    faulty = λ f at r. Gives.read refl h;
    over = λ l past. Gives.read refl h;
    late = λ long. Gives.read refl h;
  }
  by_error errors.Write h = absurd h
  by_error (errors.Stream f) h = by_there (errors.Stream f) (text_there left (λ t. IsFaulty t f) (λ t. DecodeFaulty t no_output f) (λ t. faulty_there t f) h)
  by_error errors.TooLong h = by_there errors.TooLong (text_there left (λ t. IsOver t errors.TooLong) (λ t. DecodeOver t no_output errors.TooLong) (λ t. over_there t errors.TooLong) h)
  by_error errors.PictureTooLarge h = by_there errors.PictureTooLarge (text_there left (λ t. IsOver t errors.PictureTooLarge) (λ t. DecodeOver t no_output errors.PictureTooLarge) (λ t. over_there t errors.PictureTooLarge) h)
  by_error errors.Memory h = record {
    judged = λ v m under. Gives.memory refl;
    faulty = λ f at r. Gives.memory refl;
    over = λ l past. Gives.memory refl;
    late = λ long. Gives.memory refl;
  }

  by_verdict : (v : Verdict) → IsJudged text v → IsAnswered left (Ok v) text
  by_verdict v j = record {
    judged = λ w m under. Gives.as_said (ap Ok (one_meaning text v w j.means m));
    faulty = λ f at r. let d = decoding_in text v j.means in absurd ((exactly_one text).not_both d.0 f.place f.kind d.1 at);
    over = λ l past. absurd (passes_none _ _ l (rest_fits (start_of text) (past.begun).first past.others (subst (AllFit (start_of text)) (past.begun).are (j.limits).pieces)) past.passes);
    late = λ long. let start = (j.limits).start in absurd (omega (arith, start, long));
  }

  by_result : (result : Result Verdict DecodeError) → IfOk result (λ v. OfText left (λ t. IsJudged t v)) → IfErr result (Fails left) → IsAnswered left result text
  by_result (Ok v) ok err = by_verdict v (of_text left (λ t. IsJudged t v) text is ok)
  by_result (Err e) ok err = by_error e err

pub answered : (left : Change) (result : Result Verdict DecodeError) → IfOk result (λ v. OfText left (λ t. IsJudged t v)) → IfErr result (Fails left) → Tells left (IsAnswered left result)
answered left result ok err = tells left (IsAnswered left result) (λ text is. by_result left text is result ok err)
