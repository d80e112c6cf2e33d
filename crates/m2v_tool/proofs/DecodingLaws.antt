-- What follows from what `decode` did and what was told of it.
use Rattle.std.proofs.Common.{◌≡◌, ◌∙◌, inl, inr, ℕ, List, Some, refl, sym, subst, arith}
use Rattle.m2v_port.specs.Port.{Grows}
use Rattle.m2v_port.proofs.Runs.{tells}
use Rattle.m2v_plane.specs.Raw.{raw}
use Rattle.m2v_set.specs.declared.unfit.Unfit.{Unfit}
use Rattle.m2v_model.specs.Pieces.{Limit, too_long, too_large, pieces}
use Rattle.m2v_model.specs.Decoding.{Decodes, FaultAt}
use Rattle.m2v_model.proofs.Unique.{exactly_one}
use Rattle.m2v_dec_piece.specs.declared.answer.Fault.{Fault}
use Rattle.m2v_dec_piece.specs.declared.answer.DecodeError.{DecodeError}
use Rattle.m2v_dec_piece.specs.declared.answer.DecodeError.TheVariants as errors
use Rattle.m2v_cut.specs.m2v_decode.declared.answer.Decoded.{Decoded}
use Rattle.m2v_cut.specs.m2v_decode.Answers.{OfText, IsDecoded, IsFaulty, IsOver, Fails, AllFit, start_of}
use Rattle.m2v_cut.specs.m2v_decode.Complete.{IsUnderLimits, IsLate, IsPast, counted}
use Rattle.m2v_cut.proofs.m2v_decode.AnswerLaws.{not_long, not_large, of_text, shown_grown, shown_counted, same_fault, past_long, past_large, past_shown, past_fault, late_large}
use Rattle.m2v_tool.specs.declared.decode.DecodeOutcome.{DecodeOutcome}
use Rattle.m2v_tool.specs.declared.decode.DecodeOutcome.TheVariants.{Shown, Unfit as NotFit, Stopped}
use Rattle.m2v_tool.specs.Endings.{Told, whole, cut, line_of, unfit_ending, stream_fault, ending_past}
use Rattle.m2v_tool.specs.Stops.{decoding_stopped}
use Rattle.m2v_tool.specs.Decoding.{WorkersPass, WorkersFail, DecodeComes, shown_ending, decode_ending, Past, Showed, Refused, StreamKeeps, DecodeKeeps}
use Rattle.m2v_tool.specs.Runs.{Run, work_of, IsUntouched, Yields, RefusedBy, NoneFailed, Succeeds}
use Rattle.m2v_tool.proofs.EndingLaws.{refusal, or_memory, read_told, write_told, want_told, well_answered}
use Rattle.m2v_tool.proofs.DoneLaws.{decode_done, no_success}

-- ---- workers

fails_then : (workers : ℕ) (u : Unfit) → WorkersFail workers u → WorkersPass workers → ⊥
fails_then workers u fails passes = cc (sym passes ∙ fails)

unfit_at : (r : Run) (workers : ℕ) (o : DecodeOutcome) → DecodeComes workers r.input r.output o → Told (decode_ending o) r.status r.report → r.recon.Unchanged → (WorkersPass workers → ⊥) → RefusedBy 3 r
unfolding DecodeComes decode_ending unfit_ending
unfit_at r workers (Shown d) c t k fails = absurd (fails c.0)
unfit_at r workers (NotFit u) c t k fails = (refusal (decode_ending (NotFit u)) r.status 3 r.report t refl refl, (c.1, c.2, k))
unfit_at r workers (Stopped e) c t k fails = absurd (fails c.0)

-- ---- what was told

module _ (r : Run) (text : List ℕ) (told : r.input.old ≡ Some text) where
  over_of : (e : DecodeError) → OfText r.input (λ bytes. IsOver bytes r.output e) → IsOver text r.output e
  over_of e c = of_text r.input (λ bytes. IsOver bytes r.output e) text told c

  fault_of : (f : Fault) → OfText r.input (λ bytes. IsFaulty bytes r.output f) → IsFaulty text r.output f
  fault_of f c = of_text r.input (λ bytes. IsFaulty bytes r.output f) text told c

  shown_of : (n : Decoded) → OfText r.input (λ bytes. IsDecoded bytes r.output n) → IsDecoded text r.output n
  shown_of n c = of_text r.input (λ bytes. IsDecoded bytes r.output n) text told c

  -- a limit was told
  long_at : (Answer : Type 0) → IsOver text r.output errors.TooLong → Told (decoding_stopped errors.TooLong) r.status r.report → (Past r text too_long → Answer) → Yields r Answer
  unfolding decoding_stopped ending_past
  long_at Answer i t f =
      or_memory r Answer (ending_past too_long) 13 t refl refl (λ is. Yields.said (f (record { status = is; over = i; told = t })))

  large_at : (Answer : Type 0) → IsOver text r.output errors.PictureTooLarge → Told (decoding_stopped errors.PictureTooLarge) r.status r.report → (Past r text too_large → Answer) → Yields r Answer
  unfolding decoding_stopped ending_past
  large_at Answer i t f =
      or_memory r Answer (ending_past too_large) 14 t refl refl (λ is. Yields.said (f (record { status = is; over = i; told = t })))

  -- an endpoint or memory failed
  read_at : (Answer : Type 0) → Fails r.input r.output errors.Read → Told (decoding_stopped errors.Read) r.status r.report → Yields r Answer
  unfolding decoding_stopped
  read_at Answer c t = read_told r t c.0

  write_at : (Answer : Type 0) → Fails r.input r.output errors.Write → Told (decoding_stopped errors.Write) r.status r.report → Yields r Answer
  unfolding decoding_stopped
  write_at Answer c t = write_told r t c.0

  memory_at : (Answer : Type 0) → Told (decoding_stopped errors.Memory) r.status r.report → Yields r Answer
  unfolding decoding_stopped
  memory_at Answer t = want_told r t

  module _ (frames : List (List ℕ)) (d : Decodes text frames) where
    told_shown : (n : Decoded) → n ≡ counted d → AllFit (start_of text) (pieces text) → Grows r.output.old (raw frames) r.output.new → Told (shown_ending n) r.status r.report → Yields r (Showed r d)
    unfolding shown_ending
    told_shown n same fit grown (whole is g) = Yields.said (Showed.shown is fit grown (subst (λ (m : Decoded). Grows r.report.old (line_of (shown_ending m)) r.report.new) same g))
    told_shown n same fit grown (cut (inl is) g) = Yields.memory is
    told_shown n same fit grown (cut (inr is) g) = Yields.said (Showed.unreported is.1 is.0 fit grown (subst (λ (m : Decoded). Told (shown_ending m) r.status r.report) same (cut (inr is) g)))

    stopped_shows : (e : DecodeError) → Fails r.input r.output e → Told (decoding_stopped e) r.status r.report → Yields r (Showed r d)
    stopped_shows (errors.Stream f) c t = absurd ((exactly_one text).not_both frames f.place f.kind d (fault_of f c).fault)
    stopped_shows errors.TooLong c t =
        let i = over_of errors.TooLong c in
        long_at (Showed r d) i t (λ past. Showed.past too_long (not_long text r.output i) past)
    stopped_shows errors.PictureTooLarge c t =
        let i = over_of errors.PictureTooLarge c in
        large_at (Showed r d) i t (λ past. Showed.past too_large (not_large text r.output i) past)
    stopped_shows errors.Read c t = read_at (Showed r d) c t
    stopped_shows errors.Write c t = write_at (Showed r d) c t
    stopped_shows errors.Memory c t = memory_at (Showed r d) t

    shows_at : (workers : ℕ) (o : DecodeOutcome) → WorkersPass workers → DecodeComes workers r.input r.output o → Told (decode_ending o) r.status r.report → Yields r (Showed r d)
    unfolding DecodeComes decode_ending
    shows_at workers (Shown n) passes c t =
        let i = shown_of n c.1 in
        told_shown n (shown_counted text frames d r.output n i) i.fit (shown_grown text frames d r.output n i) t
    shows_at workers (NotFit u) passes c t = absurd (fails_then workers u c.0 passes)
    shows_at workers (Stopped e) passes c t = stopped_shows e c.1 t

    -- under the limits, and with no count that rose
    whole_shown : IsUnderLimits text → NoneFailed r → Showed r d → Succeeds r
    whole_shown under well (Showed.shown is fit grown line) = inl is
    whole_shown under well (Showed.unreported is rose fit grown line) = absurd (well.report rose)
    whole_shown under well (Showed.past l over past) = absurd (over under)

  module _ (f : Fault) where
    told_fault : (g : Fault) → g ≡ f → IsFaulty text r.output g → Told (stream_fault g) r.status r.report → Yields r (Refused r text f)
    unfolding stream_fault
    told_fault g same i t =
        or_memory r (Refused r text f) (stream_fault g) 9 t refl refl
        (λ is. Yields.said (Refused.fault is (subst (IsFaulty text r.output) same i) (subst (λ (h : Fault). Told (stream_fault h) r.status r.report) same t)))

    stopped_refuses : (e : DecodeError) → FaultAt text f.place f.kind → Fails r.input r.output e → Told (decoding_stopped e) r.status r.report → Yields r (Refused r text f)
    unfolding decoding_stopped
    stopped_refuses (errors.Stream g) at c t =
        let i = fault_of g c in
        told_fault g (same_fault text g f i.fault at) i t
    stopped_refuses errors.TooLong at c t =
        let i = over_of errors.TooLong c in
        long_at (Refused r text f) i t (λ past. Refused.past too_long (not_long text r.output i) past)
    stopped_refuses errors.PictureTooLarge at c t =
        let i = over_of errors.PictureTooLarge c in
        large_at (Refused r text f) i t (λ past. Refused.past too_large (not_large text r.output i) past)
    stopped_refuses errors.Read at c t = read_at (Refused r text f) c t
    stopped_refuses errors.Write at c t = write_at (Refused r text f) c t
    stopped_refuses errors.Memory at c t = memory_at (Refused r text f) t

    refuses_at : (workers : ℕ) (o : DecodeOutcome) → WorkersPass workers → FaultAt text f.place f.kind → DecodeComes workers r.input r.output o → Told (decode_ending o) r.status r.report → Yields r (Refused r text f)
    unfolding DecodeComes decode_ending
    refuses_at workers (Shown n) passes at c t =
        let i = shown_of n c.1 in
        absurd ((exactly_one text).not_both i.frames f.place f.kind i.decodes at)
    refuses_at workers (NotFit u) passes at c t = absurd (fails_then workers u c.0 passes)
    refuses_at workers (Stopped e) passes at c t = stopped_refuses e at c.1 t

  module _ (l : Limit) (past : IsPast text l) where
    stopped_past : (e : DecodeError) → Fails r.input r.output e → Told (decoding_stopped e) r.status r.report → Yields r (Past r text l)
    stopped_past (errors.Stream f) c t = absurd (past_fault text l r.output f past (fault_of f c))
    stopped_past errors.TooLong c t =
        let i = over_of errors.TooLong c in
        let one : l ≡ too_long = past_long text l r.output past i in
        long_at (Past r text l) i t (λ p. subst (Past r text) (sym one) p)
    stopped_past errors.PictureTooLarge c t =
        let i = over_of errors.PictureTooLarge c in
        let one : l ≡ too_large = past_large text l r.output past i in
        large_at (Past r text l) i t (λ p. subst (Past r text) (sym one) p)
    stopped_past errors.Read c t = read_at (Past r text l) c t
    stopped_past errors.Write c t = write_at (Past r text l) c t
    stopped_past errors.Memory c t = memory_at (Past r text l) t

    past_at : (workers : ℕ) (o : DecodeOutcome) → WorkersPass workers → DecodeComes workers r.input r.output o → Told (decode_ending o) r.status r.report → Yields r (Past r text l)
    unfolding DecodeComes decode_ending
    past_at workers (Shown n) passes c t = absurd (past_shown text l r.output n past (shown_of n c.1))
    past_at workers (NotFit u) passes c t = absurd (fails_then workers u c.0 passes)
    past_at workers (Stopped e) passes c t = stopped_past e c.1 t

  module _ (late : IsLate text) where
    stopped_late : (e : DecodeError) → Fails r.input r.output e → Told (decoding_stopped e) r.status r.report → Yields r (Past r text too_long)
    stopped_late (errors.Stream f) c t =
        let start = (fault_of f c).start in
        absurd (omega (arith, start, late))
    stopped_late errors.TooLong c t = long_at (Past r text too_long) (over_of errors.TooLong c) t (λ p. p)
    stopped_late errors.PictureTooLarge c t = absurd (late_large text r.output late (over_of errors.PictureTooLarge c))
    stopped_late errors.Read c t = read_at (Past r text too_long) c t
    stopped_late errors.Write c t = write_at (Past r text too_long) c t
    stopped_late errors.Memory c t = memory_at (Past r text too_long) t

    late_at : (workers : ℕ) (o : DecodeOutcome) → WorkersPass workers → DecodeComes workers r.input r.output o → Told (decode_ending o) r.status r.report → Yields r (Past r text too_long)
    unfolding DecodeComes decode_ending
    late_at workers (Shown n) passes c t =
        let start = (shown_of n c.1).start in
        absurd (omega (arith, start, late))
    late_at workers (NotFit u) passes c t = absurd (fails_then workers u c.0 passes)
    late_at workers (Stopped e) passes c t = stopped_late e c.1 t

module _ (r : Run) (workers : ℕ) where
  stream_keeps : (o : DecodeOutcome) → WorkersPass workers → DecodeComes workers r.input r.output o → Told (decode_ending o) r.status r.report → StreamKeeps r
  stream_keeps o passes c t = record {
    shown = tells r.input (λ text. (frames : List (List ℕ)) (d : Decodes text frames) → Yields r (Showed r d)) (λ text is frames d. shows_at r text is frames d workers o passes c t);
    faulty = tells r.input (λ text. (f : Fault) → FaultAt text f.place f.kind → Yields r (Refused r text f)) (λ text is f at. refuses_at r text is f workers o passes at c t);
    over = tells r.input (λ text. (l : Limit) → IsPast text l → Yields r (Past r text l)) (λ text is l past. past_at r text is l past workers o passes c t);
    late = tells r.input (λ text. IsLate text → Yields r (Past r text too_long)) (λ text is late. late_at r text is late workers o passes c t);
    decoded = tells r.input (λ text. (frames : List (List ℕ)) → Decodes text frames → IsUnderLimits text → NoneFailed r → Succeeds r)
        (λ text is frames d under well. well_answered r well (whole_shown r text is frames d under well) (shows_at r text is frames d workers o passes c t));
  }

  pub decode_keeps : (o : DecodeOutcome) → DecodeComes workers r.input r.output o → Told (decode_ending o) r.status r.report → r.recon.Unchanged → DecodeKeeps workers r
  decode_keeps o c t k = record { done = decode_done r workers o c t; unfit = unfit_at r workers o c t k; stream = λ passes. stream_keeps o passes c t }

  stream_unread : r.status ≡ 12 → StreamKeeps r
  stream_unread is = record {
    shown = tells r.input (λ text. (frames : List (List ℕ)) (d : Decodes text frames) → Yields r (Showed r d)) (λ text told frames d. Yields.memory is);
    faulty = tells r.input (λ text. (f : Fault) → FaultAt text f.place f.kind → Yields r (Refused r text f)) (λ text told f at. Yields.memory is);
    over = tells r.input (λ text. (l : Limit) → IsPast text l → Yields r (Past r text l)) (λ text told l past. Yields.memory is);
    late = tells r.input (λ text. IsLate text → Yields r (Past r text too_long)) (λ text told late. Yields.memory is);
    decoded = tells r.input (λ text. (frames : List (List ℕ)) → Decodes text frames → IsUnderLimits text → NoneFailed r → Succeeds r)
        (λ text told frames d under well. inr is);
  }

  -- where memory ran out before the words were read
  pub decode_unread : IsUntouched (work_of r) → r.status ≡ 12 → DecodeKeeps workers r
  decode_unread untouched is = record { done = no_success r is; unfit = λ fails. (inr is, untouched); stream = λ passes. stream_unread is }
