-- What follows from what `encode` did and what was told of it.
use Rattle.std.proofs.Common.{◌≡◌, inl, inr, ℕ, ◌*◌, ◌<◌, ◌≤◌, ◌++◌, List, [], ◌∷◌, length, Option, Some, refl, sym, ap, ◌∙◌, arith}
use Rattle.std.proofs.Math.Nat.{mul-pos}
use Rattle.m2v_port.specs.Ends.{Change, change}
use Rattle.m2v_port.specs.declared.error.PortError.{PortError}
use Rattle.m2v_port.specs.declared.error.PortError.TheVariants as calls
use Rattle.m2v_port.proofs.Runs.{tells, rose_since}
use Rattle.m2v_plane.specs.Raw.{frame_bytes, raw}
use Rattle.m2v_set.specs.declared.settings.Settings.{Settings}
use Rattle.m2v_set.specs.declared.unfit.Unfit.{Unfit}
use Rattle.m2v_set.specs.Numbers.{dims_of}
use Rattle.m2v_set.specs.declared.settings.Scan.{Scan}
use Rattle.m2v_set.specs.declared.settings.Scan.TheVariants.{Progressive, Frames, Fields}
use Rattle.m2v_set.specs.Rules.{Passes, FirstUnfit, is_progressive, line_step}
use Rattle.m2v_set.proofs.Facts.{bounds}
use Rattle.m2v_make.specs.m2v_encode.declared.answer.Summary.{Summary}
use Rattle.m2v_make.specs.m2v_encode.declared.answer.EncodeError.{EncodeError}
use Rattle.m2v_make.specs.m2v_encode.declared.answer.EncodeError.TheVariants as errors
use Rattle.m2v_make.specs.m2v_encode.Answers.{AllCoded, Stops, EndedShort, WasEmpty, WentOn, most_frames}
use Rattle.m2v_make.proofs.m2v_encode.Alike.{TellAlike, coded_alike, stops_alike}
use Rattle.m2v_tool.specs.declared.encode.EncodeOutcome.{EncodeOutcome}
use Rattle.m2v_tool.specs.declared.encode.EncodeOutcome.TheVariants.{Coded, Unfit as NotFit, Unopened, Stopped}
use Rattle.m2v_tool.specs.Endings.{Success, Told, whole, cut, unfit_ending, unopened_ending}
use Rattle.m2v_tool.specs.Stops.{encoding_stopped}
use Rattle.m2v_tool.specs.EncodeWords.{Meant}
use Rattle.m2v_tool.specs.Inputs.{AreFrames, EndInside}
use Rattle.m2v_tool.specs.Places.{opened, recon_by}
use Rattle.m2v_tool.specs.Encoding.{frame_size, EncodeDone, EncodeStopped, EncodeShut, EncodeComes, encoded_ending, encode_ending, EncodeAnswer, EncodeKeeps}
use Rattle.m2v_tool.specs.Runs.{Run, work_of, IsUntouched, Yields, RefusedBy, NoneFailed, Succeeds}
use Rattle.m2v_tool.proofs.EndingLaws.{refusal, or_memory, read_told, want_told, well_answered}
use Rattle.m2v_tool.proofs.PlaceLaws.{grown_from, prefix_from, failed_of}
use Rattle.m2v_tool.proofs.DoneLaws.{encode_done, no_success}
use Rattle.m2v_tool.proofs.CodingLaws.{ends_inside, goes_past, frames_length, all_read, long_by, not_inside, not_empty, not_many}

-- ---- how many bytes an input had

done_frames : (s : Settings) (left held recon : Change) (bytes : List ℕ) (summary : Summary) → left.old ≡ Some bytes → AllCoded s left held recon summary
    → AreFrames (frame_bytes (dims_of s)) (length bytes)
done_frames s left held recon bytes summary is c =
    let all : raw c.frames ≡ bytes = all_read left bytes (raw c.frames) is c.moved c.end in
    record { frames = length c.frames; some = c.some; most = c.most; are = ap length (sym all) ∙ frames_length (frame_bytes (dims_of s)) c.frames c.whole }

short_inside : (s : Settings) (left held recon : Change) (bytes : List ℕ) (extra : ℕ) → left.old ≡ Some bytes → EndedShort s left held recon extra
    → EndInside (frame_bytes (dims_of s)) (length bytes)
short_inside s left held recon bytes extra is e =
    ends_inside (frame_bytes (dims_of s)) extra e.frames e.part bytes e.begun.whole (all_read left bytes (raw e.frames ++ e.part) is e.begun.moved e.end) e.count e.fewer e.some e.less

none_empty : (left held recon : Change) (bytes : List ℕ) → left.old ≡ Some bytes → WasEmpty left held recon → length bytes ≡ 0
none_empty left held recon bytes is e = let all : [] ≡ bytes = all_read left bytes [] is e.moved e.end in ap length (sym all)

many_long : (s : Settings) (left held recon : Change) (bytes : List ℕ) → left.old ≡ Some bytes → WentOn s left held recon → most_frames * frame_bytes (dims_of s) < length bytes
many_long s left held recon bytes is e =
    goes_past (frame_bytes (dims_of s)) e.next e.frames bytes e.begun.whole e.all (long_by left bytes (raw e.frames ++ e.next ∷ []) is e.begun.moved)

pub least_step : (scan : Scan) → 1 ≤ line_step scan
unfolding is_progressive
least_step Progressive = let some : 1 ≤ 2 = omega arith in some
least_step Frames = let some : 1 ≤ 4 = omega arith in some
least_step Fields = let some : 1 ≤ 4 = omega arith in some

some_bytes : (s : Settings) → Passes s → 0 < frame_bytes (dims_of s)
unfolding dims_of
some_bytes s passes =
    let size = (bounds s passes).size in
    let some : 0 < s.width * s.height = mul-pos (omega (arith, size.wide)) (omega (arith, size.tall, least_step s.scan)) in
    omega arith

-- ---- what was told

module _ (r : Run) (m : Meant) where
  unfit_at : (o : EncodeOutcome) → EncodeComes m (work_of r) o → Told (encode_ending o) r.status r.report → (Passes m.settings → ⊥) → RefusedBy 3 r
  unfolding EncodeComes encode_ending unfit_ending
  unfit_at (Coded s) c t fails = absurd (fails c.passes)
  unfit_at (NotFit u) c t fails = (refusal (encode_ending (NotFit u)) r.status 3 r.report t refl refl, (c.1, c.2, c.3))
  unfit_at (Unopened e) c t fails = absurd (fails c.passes)
  unfit_at (Stopped e) c t fails = absurd (fails c.passes)

  done_answer : (bytes : ℕ) (s : Summary) → Passes m.settings → AreFrames (frame_size m) bytes → Told (encoded_ending s) r.status r.report → Yields r (EncodeAnswer r m bytes)
  unfolding encoded_ending
  done_answer bytes s passes frames (whole is g) = Yields.said (EncodeAnswer.ok passes frames is)
  done_answer bytes s passes frames (cut (inl is) g) = Yields.memory is
  done_answer bytes s passes frames (cut (inr is) g) = Yields.said (EncodeAnswer.unreported passes frames is.0 is.1)

  fails_then : (u : Unfit) → FirstUnfit m.settings u → Passes m.settings → ⊥
  fails_then u fails passes = cc (sym passes ∙ fails)

  -- the count of recon rose
  recon_rose : (bytes : ℕ) → Passes m.settings → r.status ≡ 8 → (recon_by m.recon r.recon).Failed → Yields r (EncodeAnswer r m bytes)
  recon_rose bytes passes is failed = Yields.said (EncodeAnswer.recon passes (failed_of m.recon r.recon failed) is)

  stopped_at : (bytes : List ℕ) → r.input.old ≡ Some bytes → (e : EncodeError) → EncodeStopped m (work_of r) e → Told (encoding_stopped e) r.status r.report
      → Yields r (EncodeAnswer r m (length bytes))
  unfolding Stops encoding_stopped
  stopped_at bytes told (errors.ShortFrame x) c t =
      or_memory r (EncodeAnswer r m (length bytes)) (encoding_stopped (errors.ShortFrame x)) 4 t refl refl
      (λ is. Yields.said (EncodeAnswer.short c.passes (short_inside m.settings r.input r.output (recon_by m.recon r.recon) bytes x told c.stops) is))
  stopped_at bytes told errors.NoFrames c t =
      or_memory r (EncodeAnswer r m (length bytes)) (encoding_stopped errors.NoFrames) 5 t refl refl
      (λ is. Yields.said (EncodeAnswer.none c.passes (none_empty r.input r.output (recon_by m.recon r.recon) bytes told c.stops) is))
  stopped_at bytes told errors.TooManyFrames c t =
      or_memory r (EncodeAnswer r m (length bytes)) (encoding_stopped errors.TooManyFrames) 6 t refl refl
      (λ is. Yields.said (EncodeAnswer.many c.passes (many_long m.settings r.input r.output (recon_by m.recon r.recon) bytes told c.stops) is))
  stopped_at bytes told errors.Read c t =
      read_told r t c.stops.0
  stopped_at bytes told errors.Write c t =
      or_memory r (EncodeAnswer r m (length bytes)) (encoding_stopped errors.Write) 8 t refl refl
      (λ is. elim c.stops.0 [
        | inl output ↦ Yields.write is output
        | inr recon ↦ recon_rose (length bytes) c.passes is recon
      ])
  stopped_at bytes told errors.Memory c t =
      want_told r t

  shut_at : (bytes : ℕ) (e : PortError) → EncodeShut m (work_of r) e → Told (unopened_ending e) r.status r.report → Yields r (EncodeAnswer r m bytes)
  unfolding unopened_ending
  shut_at bytes calls.Failed c t =
      or_memory r (EncodeAnswer r m bytes) (unopened_ending calls.Failed) 8 t refl refl
      (λ is. Yields.said (EncodeAnswer.recon c.passes c.shut.0 is))
  shut_at bytes calls.Memory c t =
      want_told r t

  answer_at : (bytes : List ℕ) → r.input.old ≡ Some bytes → (o : EncodeOutcome) → EncodeComes m (work_of r) o → Told (encode_ending o) r.status r.report
      → Yields r (EncodeAnswer r m (length bytes))
  unfolding EncodeComes encode_ending unfit_ending
  answer_at bytes told (Coded s) c t =
      done_answer (length bytes) s c.passes (done_frames m.settings r.input r.output (recon_by m.recon r.recon) bytes s told c.coded) t
  answer_at bytes told (NotFit u) c t =
      or_memory r (EncodeAnswer r m (length bytes)) (encode_ending (NotFit u)) 3 t refl refl
      (λ is. Yields.said (EncodeAnswer.unfit (fails_then u c.0) is))
  answer_at bytes told (Unopened e) c t = shut_at (length bytes) e c t
  answer_at bytes told (Stopped e) c t = stopped_at bytes told e c t

  -- whole frames leave no other answer
  whole_answer : (bytes : ℕ) → 0 < frame_size m → Passes m.settings → AreFrames (frame_size m) bytes → NoneFailed r → (r.recon.Failed → ⊥) → EncodeAnswer r m bytes → Succeeds r
  whole_answer bytes some passes frames well sound (EncodeAnswer.unfit fails is) = absurd (fails passes)
  whole_answer bytes some passes frames well sound (EncodeAnswer.ok p f is) = inl is
  whole_answer bytes some passes frames well sound (EncodeAnswer.unreported p f g is) = absurd (well.report g)
  whole_answer bytes some passes frames well sound (EncodeAnswer.short p f is) = absurd (not_inside (frame_size m) bytes frames f)
  whole_answer bytes some passes frames well sound (EncodeAnswer.none p f is) = absurd (not_empty (frame_size m) bytes some frames f)
  whole_answer bytes some passes frames well sound (EncodeAnswer.many p f is) = absurd (not_many (frame_size m) bytes frames f)
  whole_answer bytes some passes frames well sound (EncodeAnswer.recon p f is) = absurd (sound f)

  keeps_with : (r.status ≡ 0 → Success (EncodeDone m (work_of r)) encoded_ending r.report) → ((Passes m.settings → ⊥) → RefusedBy 3 r)
      → ((bytes : List ℕ) → r.input.old ≡ Some bytes → Yields r (EncodeAnswer r m (length bytes))) → EncodeKeeps m r
  keeps_with done unfit answer = record {
    done = done;
    unfit = unfit;
    answer = tells r.input (λ bytes. Yields r (EncodeAnswer r m (length bytes))) answer;
    coded = tells r.input (λ bytes. Passes m.settings → AreFrames (frame_size m) (length bytes) → NoneFailed r → (r.recon.Failed → ⊥) → Succeeds r)
        (λ bytes told passes frames well sound. well_answered r well (whole_answer (length bytes) (some_bytes m.settings passes) passes frames well sound) (answer bytes told));
  }

  pub encode_keeps : (o : EncodeOutcome) → EncodeComes m (work_of r) o → Told (encode_ending o) r.status r.report → EncodeKeeps m r
  encode_keeps o c t = keeps_with (encode_done r m o c t) (unfit_at o c t) (λ bytes told. answer_at bytes told o c t)

  -- where memory ran out before the words were read
  pub encode_unread : IsUntouched (work_of r) → r.status ≡ 12 → EncodeKeeps m r
  encode_unread untouched is = keeps_with (no_success r is) (λ fails. (inr is, untouched)) (λ bytes told. Yields.memory is)

-- ---- what was done to a place since it was opened counts as done to it since before

module _ {N : Type 0} (held : N → Option (List ℕ)) (faults : N → ℕ) (n0 n1 n2 : N) (same : held n1 ≡ held n0) (le : faults n0 ≤ faults n1) where
  since_before : (left : Change) → TellAlike left (change held faults n1 n2) left (opened (change held faults n0 n2))
  since_before left = record {
    moved = λ bytes m. m;
    end = λ e. e;
    shown = λ bytes g. grown_from same g;
    part = λ bytes g. prefix_from same g;
    same = λ u. ap held u ∙ same;
  }

  pub coded_from : (s : Settings) (left output : Change) (summary : Summary) → AllCoded s left output (change held faults n1 n2) summary
      → AllCoded s left output (opened (change held faults n0 n2)) summary
  coded_from s left output summary c = coded_alike left (change held faults n1 n2) left (opened (change held faults n0 n2)) (since_before left) s output summary c

  pub stops_from : (s : Settings) (left output : Change) (e : EncodeError) → Stops s left output (change held faults n1 n2) e
      → Stops s left output (opened (change held faults n0 n2)) e
  stops_from s left output e c =
      stops_alike left (change held faults n1 n2) left (opened (change held faults n0 n2)) (since_before left) s output e (λ is f. f) (λ rose. rose_since le rose) c
