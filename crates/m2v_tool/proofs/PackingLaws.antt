-- What follows from what `pack` and `unpack` did and what was told of them.
use Rattle.std.proofs.Common.{◌≡◌, inl, inr, ℕ, ◌*◌, ◌<◌, ◌≤◌, List, [], ◌∷◌, ◌++◌, length, Option, Some, Result, Ok, Err, IfSome, refl, sym, ap, subst, ◌∙◌}
use Rattle.m2v_port.specs.Ends.{Change, Tells}
use Rattle.m2v_port.specs.Port.{Grows}
use Rattle.m2v_port.proofs.Runs.{tells}
use Rattle.m2v_plane.specs.Raw.{raw}
use Rattle.m2v_set.specs.Rules.{judged}
use Rattle.m2v_set.specs.declared.unfit.Unfit.{Unfit as Unfits}
use Rattle.m2v_y4m.specs.declared.header.Y4mHeader.{Y4mHeader}
use Rattle.m2v_y4m.specs.declared.answer.PackSummary.{PackSummary}
use Rattle.m2v_y4m.specs.declared.answer.EncodeFault.{EncodeFault}
use Rattle.m2v_y4m.specs.declared.answer.EncodeFault.TheVariants as packing
use Rattle.m2v_y4m.specs.declared.answer.UnpackError.{UnpackError}
use Rattle.m2v_y4m.specs.declared.answer.UnpackError.TheVariants as unpacking
use Rattle.m2v_y4m.specs.declared.answer.Y4mFault.{Y4mFault}
use Rattle.m2v_y4m.specs.Rules.{header_rules, Passes}
use Rattle.m2v_y4m.specs.Header.{opening}
use Rattle.m2v_y4m.specs.Frames.{size_of, AreWhole, Y4m, EndsShort, Begins}
use Rattle.m2v_y4m.specs.Answers.{most_frames, Packed, PackStops, PackEndedShort, PackWentOn, Hindered, FramesAnswered, ErrorAnswered, Gives, IsAnswered}
use Rattle.m2v_tool.specs.declared.pack.PackOutcome.{PackOutcome}
use Rattle.m2v_tool.specs.declared.pack.PackOutcome.TheVariants as packs
use Rattle.m2v_tool.specs.declared.unpack.UnpackOutcome.{UnpackOutcome}
use Rattle.m2v_tool.specs.declared.unpack.UnpackOutcome.TheVariants as unpacks
use Rattle.m2v_tool.specs.Endings.{Success, Told, whole, cut, line_of, unfit_ending, short_frame, too_many_frames, y4m_fault}
use Rattle.m2v_tool.specs.Stops.{packing_stopped, unpacking_stopped}
use Rattle.m2v_tool.specs.Inputs.{AreFew, EndInside}
use Rattle.m2v_tool.specs.Packing.{PackDone, PackComes, packed_ending, pack_ending, unpack_ending, PackAnswer, PackKeeps, UnpackComes, numbers_of, UnpackDone, Says, UnpackKeeps}
use Rattle.m2v_tool.specs.Runs.{Run, work_of, IsUntouched, Yields, RefusedBy, NoneFailed, Succeeds}
use Rattle.m2v_tool.proofs.EndingLaws.{refusal, or_memory, read_told, write_told, want_told, well_answered}
use Rattle.m2v_tool.proofs.DoneLaws.{pack_done, unpack_done, no_success}
use Rattle.m2v_tool.proofs.CodingLaws.{ends_inside, goes_past, frames_length, all_read, long_by, not_inside_of, not_many_of}

-- ---- how many bytes an input had

packed_frames : (h : Y4mHeader) (left held : Change) (bytes : List ℕ) (s : PackSummary) → left.old ≡ Some bytes → Packed h left held s → AreFew (size_of h) (length bytes)
packed_frames h left held bytes s is c =
    let all : raw c.frames ≡ bytes = all_read left bytes (raw c.frames) is c.moved c.end in
    record { frames = length c.frames; most = c.most; are = ap length (sym all) ∙ frames_length (size_of h) c.frames c.whole }

short_inside : (h : Y4mHeader) (left held : Change) (bytes : List ℕ) (extra : ℕ) → left.old ≡ Some bytes → PackEndedShort h left held extra → EndInside (size_of h) (length bytes)
short_inside h left held bytes extra is e =
    ends_inside (size_of h) extra e.frames e.part bytes e.before.whole (all_read left bytes (raw e.frames ++ e.part) is e.before.moved e.end) e.count e.fewer e.some e.less

many_long : (h : Y4mHeader) (left held : Change) (bytes : List ℕ) → left.old ≡ Some bytes → PackWentOn h left held → most_frames * size_of h < length bytes
many_long h left held bytes is e =
    goes_past (size_of h) e.next e.frames bytes e.before.whole e.all (long_by left bytes (raw e.frames ++ e.next ∷ []) is e.before.moved)

-- ---- what was told of packing

module _ (r : Run) (h : Y4mHeader) where
  fails_then : (u : Unfits) → judged (header_rules h) ≡ Err u → Passes h → ⊥
  fails_then u fails passes = cc (sym passes ∙ fails)

  unfit_at : (o : PackOutcome) → PackComes h r.input r.output o → Told (pack_ending o) r.status r.report → r.recon.Unchanged → (Passes h → ⊥) → RefusedBy 3 r
  unfolding PackComes pack_ending unfit_ending
  unfit_at (packs.Packed s) c t k fails = absurd (fails c.0)
  unfit_at (packs.Unfit u) c t k fails = (refusal (pack_ending (packs.Unfit u)) r.status 3 r.report t refl refl, (c.1, c.2, k))
  unfit_at (packs.Stopped e) c t k fails = absurd (fails c.0)

  done_answer : (bytes : ℕ) (s : PackSummary) → Passes h → AreFew (size_of h) bytes → Told (packed_ending s) r.status r.report → Yields r (PackAnswer r h bytes)
  unfolding packed_ending
  done_answer bytes s passes frames (whole is g) = Yields.said (PackAnswer.ok passes frames is)
  done_answer bytes s passes frames (cut (inl is) g) = Yields.memory is
  done_answer bytes s passes frames (cut (inr is) g) = Yields.said (PackAnswer.unreported passes frames is.0 is.1)

  stopped_at : (bytes : List ℕ) → r.input.old ≡ Some bytes → (e : EncodeFault) → Passes h → PackStops h r.input r.output e → Told (packing_stopped e) r.status r.report
      → Yields r (PackAnswer r h (length bytes))
  unfolding PackStops packing_stopped
  stopped_at bytes told (packing.ShortFrame x) passes c t =
      or_memory r (PackAnswer r h (length bytes)) (packing_stopped (packing.ShortFrame x)) 4 t refl refl
      (λ is. Yields.said (PackAnswer.short passes (short_inside h r.input r.output bytes x told c) is))
  stopped_at bytes told packing.TooManyFrames passes c t =
      or_memory r (PackAnswer r h (length bytes)) (packing_stopped packing.TooManyFrames) 6 t refl refl
      (λ is. Yields.said (PackAnswer.many passes (many_long h r.input r.output bytes told c) is))
  stopped_at bytes told packing.Read passes c t =
      read_told r t c.0
  stopped_at bytes told packing.Write passes c t =
      write_told r t c.0
  stopped_at bytes told packing.Memory passes c t =
      want_told r t

  answer_at : (bytes : List ℕ) → r.input.old ≡ Some bytes → (o : PackOutcome) → PackComes h r.input r.output o → Told (pack_ending o) r.status r.report → Yields r (PackAnswer r h (length bytes))
  unfolding PackComes pack_ending unfit_ending
  answer_at bytes told (packs.Packed s) c t = done_answer (length bytes) s c.0 (packed_frames h r.input r.output bytes s told c.1) t
  answer_at bytes told (packs.Unfit u) c t =
      or_memory r (PackAnswer r h (length bytes)) (pack_ending (packs.Unfit u)) 3 t refl refl (λ is. Yields.said (PackAnswer.unfit (fails_then u c.0) is))
  answer_at bytes told (packs.Stopped e) c t = stopped_at bytes told e c.0 c.1 t

  -- whole frames leave no other answer
  whole_answer : (bytes : ℕ) → Passes h → AreFew (size_of h) bytes → NoneFailed r → PackAnswer r h bytes → Succeeds r
  whole_answer bytes passes frames well (PackAnswer.unfit fails is) = absurd (fails passes)
  whole_answer bytes passes frames well (PackAnswer.ok p f is) = inl is
  whole_answer bytes passes frames well (PackAnswer.unreported p f g is) = absurd (well.report g)
  whole_answer bytes passes frames well (PackAnswer.short p f is) = absurd (not_inside_of (size_of h) bytes frames.frames frames.are f)
  whole_answer bytes passes frames well (PackAnswer.many p f is) = absurd (not_many_of (size_of h) bytes frames.frames frames.most frames.are f)

  keeps_with : (r.status ≡ 0 → Success (PackDone h r.input r.output) packed_ending r.report) → ((Passes h → ⊥) → RefusedBy 3 r)
      → ((bytes : List ℕ) → r.input.old ≡ Some bytes → Yields r (PackAnswer r h (length bytes))) → PackKeeps h r
  keeps_with done unfit answer = record {
    done = done;
    unfit = unfit;
    answer = tells r.input (λ bytes. Yields r (PackAnswer r h (length bytes))) answer;
    packed = tells r.input (λ bytes. Passes h → AreFew (size_of h) (length bytes) → NoneFailed r → Succeeds r)
        (λ bytes told passes frames well. well_answered r well (whole_answer (length bytes) passes frames well) (answer bytes told));
  }

  pub pack_keeps : (o : PackOutcome) → PackComes h r.input r.output o → Told (pack_ending o) r.status r.report → r.recon.Unchanged → PackKeeps h r
  pack_keeps o c t k = keeps_with (pack_done r h o c t) (unfit_at o c t k) (λ bytes told. answer_at bytes told o c t)

  -- where memory ran out before the words were read
  pub pack_unread : IsUntouched (work_of r) → r.status ≡ 12 → PackKeeps h r
  pack_unread untouched is = keeps_with (no_success r is) (λ fails. (inr is, untouched)) (λ bytes told. Yields.memory is)

-- ---- what was told of unpacking

-- an outcome as a result
abbrev result_of : UnpackOutcome → Result PackSummary UnpackError
result_of (unpacks.Unpacked s) = Ok s
result_of (unpacks.Stopped e) = Err e

module _ (r : Run) where
  -- an endpoint or memory failed
  hindered_at : (Answer : Type 0) (e : UnpackError) → Hindered r.input r.output e → Told (unpacking_stopped e) r.status r.report → Yields r Answer
  unfolding Hindered unpacking_stopped
  hindered_at Answer unpacking.Read f t = read_told r t f
  hindered_at Answer unpacking.Write f t = write_told r t f
  hindered_at Answer (unpacking.ShortFrame extra) f t = absurd f
  hindered_at Answer unpacking.TooManyFrames f t = absurd f
  hindered_at Answer (unpacking.Y4m fault) f t = absurd f
  hindered_at Answer unpacking.Memory f t = want_told r t

  told_done : (frames : List (List ℕ)) (s : PackSummary) → s ≡ numbers_of frames → Grows r.output.old (raw frames) r.output.new → Told (packed_ending s) r.status r.report
      → Yields r (UnpackDone r frames)
  unfolding packed_ending
  told_done frames s same grown (whole is g) =
      Yields.said (UnpackDone.ok is grown (subst (λ (n : PackSummary). Grows r.report.old (line_of (packed_ending n)) r.report.new) same g))
  told_done frames s same grown (cut (inl is) g) = Yields.memory is
  told_done frames s same grown (cut (inr is) g) = Yields.said (UnpackDone.unreported is.1 is.0 grown)

  frames_at : (frames : List (List ℕ)) (o : UnpackOutcome) → FramesAnswered r.input r.output frames (result_of o) → Told (unpack_ending o) r.status r.report → Yields r (UnpackDone r frames)
  unfolding unpack_ending
  frames_at frames (unpacks.Unpacked s) a t = told_done frames s a.1 a.0 t
  frames_at frames (unpacks.Stopped e) a t = hindered_at (UnpackDone r frames) e a t

  error_at : (error : UnpackError) (o : UnpackOutcome) → ErrorAnswered r.input r.output error (result_of o) → Told (unpack_ending o) r.status r.report → Says r (unpacking_stopped error)
  unfolding unpack_ending
  error_at error (unpacks.Unpacked s) a t = absurd a
  error_at error (unpacks.Stopped e) (inl same) t = Yields.said (subst (λ (x : UnpackError). Told (unpacking_stopped x) r.status r.report) same t)
  error_at error (unpacks.Stopped e) (inr f) t = hindered_at (Told (unpacking_stopped error) r.status r.report) e f t

  answered : (o : UnpackOutcome) → UnpackComes r.input r.output o → Tells r.input (IsAnswered r.input r.output (result_of o))
  unfolding UnpackComes
  answered (unpacks.Unpacked s) c = c.1
  answered (unpacks.Stopped e) c = c.1

  module _ (o : UnpackOutcome) (c : UnpackComes r.input r.output o) (t : Told (unpack_ending o) r.status r.report) (text : List ℕ) (told : r.input.old ≡ Some text) where
    of_text : IsAnswered r.input r.output (result_of o) text
    of_text = subst (λ (x : Option (List ℕ)). IfSome x (IsAnswered r.input r.output (result_of o))) told (answered o c)

    short_said : (extra : ℕ) → Says r (unpacking_stopped (unpacking.ShortFrame extra)) → Says r (short_frame extra)
    unfolding unpacking_stopped
    short_said extra s = s

    many_said : Says r (unpacking_stopped unpacking.TooManyFrames) → Says r too_many_frames
    unfolding unpacking_stopped
    many_said s = s

    fault_said : (f : Y4mFault) → Says r (unpacking_stopped (unpacking.Y4m f)) → Says r (y4m_fault f)
    unfolding unpacking_stopped
    fault_said f s = s

    frames_by : (h : Y4mHeader) (frames : List (List ℕ)) → Y4m text h frames → length frames ≤ most_frames → Yields r (UnpackDone r frames)
    frames_by h frames is few = frames_at frames o (of_text.frames h frames is few) t

    short_by : (h : Y4mHeader) (frames : List (List ℕ)) (extra : ℕ) → EndsShort text h frames extra → length frames < most_frames → Says r (short_frame extra)
    short_by h frames extra is few = short_said extra (error_at (unpacking.ShortFrame extra) o (of_text.short h frames extra is few) t)

    many_by : (h : Y4mHeader) (frames : List (List ℕ)) (next : ℕ) → Gives text h (raw frames ++ next ∷ []) → AreWhole h frames → length frames ≡ most_frames → Says r too_many_frames
    many_by h frames next is are all = many_said (error_at unpacking.TooManyFrames o (of_text.many h frames next is are all) t)

    header_by : (f : Y4mFault) → opening text ≡ Err f → Says r (y4m_fault f)
    header_by f is = fault_said f (error_at (unpacking.Y4m f) o (of_text.header f is) t)

    fault_by : (h : Y4mHeader) (frames : List (List ℕ)) (f : Y4mFault) → AreWhole h frames → Begins text h (record { raw = raw frames; fault = Some f }) → length frames ≤ most_frames
        → Says r (y4m_fault f)
    fault_by h frames f are is few = fault_said f (error_at (unpacking.Y4m f) o (of_text.fault h frames f are is few) t)

    succeeds_by : (h : Y4mHeader) (frames : List (List ℕ)) → NoneFailed r → UnpackDone r frames → Succeeds r
    succeeds_by h frames well (UnpackDone.ok is grown g) = inl is
    succeeds_by h frames well (UnpackDone.unreported is rose grown) = absurd (well.report rose)

  pub unpack_keeps : (o : UnpackOutcome) → UnpackComes r.input r.output o → Told (unpack_ending o) r.status r.report → UnpackKeeps r
  unpack_keeps o c t = record {
    done = unpack_done r o c t;
    frames = tells r.input (λ text. (h : Y4mHeader) (frames : List (List ℕ)) → Y4m text h frames → length frames ≤ most_frames → Yields r (UnpackDone r frames)) (frames_by o c t);
    short = tells r.input (λ text. (h : Y4mHeader) (frames : List (List ℕ)) (extra : ℕ) → EndsShort text h frames extra → length frames < most_frames → Says r (short_frame extra)) (short_by o c t);
    many = tells r.input (λ text. (h : Y4mHeader) (frames : List (List ℕ)) (next : ℕ) → Gives text h (raw frames ++ next ∷ []) → AreWhole h frames → length frames ≡ most_frames
        → Says r too_many_frames) (many_by o c t);
    header = tells r.input (λ text. (f : Y4mFault) → opening text ≡ Err f → Says r (y4m_fault f)) (header_by o c t);
    fault = tells r.input (λ text. (h : Y4mHeader) (frames : List (List ℕ)) (f : Y4mFault) → AreWhole h frames → Begins text h (record { raw = raw frames; fault = Some f })
        → length frames ≤ most_frames → Says r (y4m_fault f)) (fault_by o c t);
    unpacked = tells r.input (λ text. (h : Y4mHeader) (frames : List (List ℕ)) → Y4m text h frames → length frames ≤ most_frames → NoneFailed r → Succeeds r)
        (λ text told h frames is few well. well_answered r well (succeeds_by o c t text told h frames well) (frames_by o c t text told h frames is few));
  }

  -- where memory ran out before the words were read
  pub unpack_unread : r.status ≡ 12 → UnpackKeeps r
  unpack_unread is = record {
    done = no_success r is;
    frames = tells r.input (λ text. (h : Y4mHeader) (frames : List (List ℕ)) → Y4m text h frames → length frames ≤ most_frames → Yields r (UnpackDone r frames)) (λ text told h frames y few. Yields.memory is);
    short = tells r.input (λ text. (h : Y4mHeader) (frames : List (List ℕ)) (extra : ℕ) → EndsShort text h frames extra → length frames < most_frames → Says r (short_frame extra))
        (λ text told h frames extra y few. Yields.memory is);
    many = tells r.input (λ text. (h : Y4mHeader) (frames : List (List ℕ)) (next : ℕ) → Gives text h (raw frames ++ next ∷ []) → AreWhole h frames → length frames ≡ most_frames
        → Says r too_many_frames) (λ text told h frames next y are all. Yields.memory is);
    header = tells r.input (λ text. (f : Y4mFault) → opening text ≡ Err f → Says r (y4m_fault f)) (λ text told f y. Yields.memory is);
    fault = tells r.input (λ text. (h : Y4mHeader) (frames : List (List ℕ)) (f : Y4mFault) → AreWhole h frames → Begins text h (record { raw = raw frames; fault = Some f })
        → length frames ≤ most_frames → Says r (y4m_fault f)) (λ text told h frames f are y few. Yields.memory is);
    unpacked = tells r.input (λ text. (h : Y4mHeader) (frames : List (List ℕ)) → Y4m text h frames → length frames ≤ most_frames → NoneFailed r → Succeeds r) (λ text told h frames y few well. inr is);
  }
