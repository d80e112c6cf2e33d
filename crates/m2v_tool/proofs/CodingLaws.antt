-- What follows from what `flat` did and what was told of it.
use Rattle.std.proofs.Common.{◌≡◌, inl, inr, ℕ, suc, ◌*◌, ◌<◌, ◌≤◌, All, List, [], ◌∷◌, ◌++◌, length, Option, Some, None, IfSome, refl, sym, ap, subst, ◌∙◌, arith, length-append}
use Rattle.std.specs.Option.{option_map}
use Rattle.std.proofs.lemmas.Bool.{cases_lt}
use Rattle.std.proofs.Math.Nat.{suc-mul, mul-pos, mul-le-mul_right}
use Rattle.m2v_port.specs.Ends.{Change}
use Rattle.m2v_port.specs.Port.{Moves, IsAtEnd}
use Rattle.m2v_port.proofs.Runs.{moved_all, tells}
use Rattle.m2v_plane.specs.declared.dims.Dims.{Dims}
use Rattle.m2v_plane.specs.Sizes.{IsSize}
use Rattle.m2v_plane.specs.Raw.{frame_bytes, raw}
use Rattle.m2v_set.specs.Numbers.{flat_dims}
use Rattle.m2v_set.specs.declared.unfit.Unfit.{Unfit as Unfits}
use Rattle.m2v_flat.specs.declared.answer.EncodeError.{EncodeError}
use Rattle.m2v_flat.specs.declared.answer.EncodeError.TheVariants as Error
use Rattle.m2v_flat.specs.declared.settings.FlatSettings.{FlatSettings}
use Rattle.m2v_flat.specs.declared.answer.Summary.{Summary}
use Rattle.m2v_flat.specs.Answers.{FlatCoded, FlatStops, HasPassed, most_frames, WasEmpty, EndedShort, WentOn}
use Rattle.m2v_flat.specs.Flat.{Flat}
use Rattle.m2v_flat.specs.Recon.{FlatRecon}
use Rattle.m2v_flat.proofs.Passing.{in_bounds}
use Rattle.m2v_make.specs.m2v_law_shown.Laws.{DecodesTo}
use Rattle.m2v_make.proofs.m2v_law_shown.Decodes.{decoded_to}
use Rattle.m2v_flat.proofs.Streams.{flat_decodes}
use Rattle.m2v_flat.proofs.LawfulStreams.{flat_lawful}
use Rattle.m2v_tool.specs.declared.flat.FlatWords.{FlatWords}
use Rattle.m2v_tool.specs.declared.flat.FlatOutcome.{FlatOutcome}
use Rattle.m2v_tool.specs.declared.flat.FlatOutcome.TheVariants.{Coded, Unfit, Stopped}
use Rattle.m2v_tool.specs.Endings.{Success, Told, whole, cut, unfit_ending}
use Rattle.m2v_tool.specs.Stops.{coding_stopped}
use Rattle.m2v_tool.specs.Words.{settings_of, WordsPass, WordsFail}
use Rattle.m2v_tool.specs.Coding.{FlatDone, FlatStopped, FlatComes, flat_ending, flat_coded_ending, FlatAnswer, FlatKeeps}
use Rattle.m2v_tool.specs.Inputs.{AreFrames, EndInside}
use Rattle.m2v_tool.specs.Runs.{Run, work_of, IsUntouched, Yields, RefusedBy, NoneFailed, Succeeds}
use Rattle.m2v_tool.proofs.EndingLaws.{refusal, or_memory, read_told, write_told, want_told, well_answered}
use Rattle.m2v_tool.proofs.DoneLaws.{flat_done, no_success}

-- ---- how many bytes an input had

pub frames_length : (size : ℕ) (frames : List (List ℕ)) → All (λ (f : List ℕ). length f ≡ size) frames → length (raw frames) ≡ length frames * size
frames_length size [] each = omega arith
frames_length size (f ∷ frames) each =
    let first : length f ≡ size = each 0 f (omega arith) in
    let others : length (raw frames) ≡ length frames * size = frames_length size frames (λ k d lt. each (suc k) d (omega arith)) in
    omega (arith, length-append f (raw frames), first, others, suc-mul (length frames) size)

-- raw frames, a part of one more behind them, and where they end
pub ends_inside : (size extra : ℕ) (frames : List (List ℕ)) (part bytes : List ℕ) → All (λ (f : List ℕ). length f ≡ size) frames → raw frames ++ part ≡ bytes → length part ≡ extra
    → length frames < most_frames → 0 < extra → extra < size → EndInside size (length bytes)
ends_inside size extra frames part bytes each all count fewer some less = record {
  frames = length frames;
  extra = extra;
  fewer = fewer;
  some = some;
  less = less;
  are = omega (arith, ap length all, length-append (raw frames) part, frames_length size frames each, count);
}

pub goes_past : (size next : ℕ) (frames : List (List ℕ)) (bytes : List ℕ) → All (λ (f : List ℕ). length f ≡ size) frames → length frames ≡ most_frames → length (raw frames ++ next ∷ []) ≤ length bytes
    → most_frames * size < length bytes
goes_past size next frames bytes each all long =
    let total : length (raw frames) ≡ most_frames * size = frames_length size frames each ∙ ap (λ (n : ℕ). n * size) all in
    omega (arith, long, total, length-append (raw frames) (next ∷ []))

-- what was read to the end is the input, where it is told
pub all_read : (left : Change) (bytes xs : List ℕ) → left.old ≡ Some bytes → Moves left.old xs left.new → IsAtEnd left.new → xs ≡ bytes
all_read left bytes xs is m end = subst (λ (o : Option (List ℕ)). IfSome o (λ all. xs ≡ all)) is (moved_all m end)

pub long_by : (left : Change) (bytes xs : List ℕ) → left.old ≡ Some bytes → Moves left.old xs left.new → length xs ≤ length bytes
long_by left bytes xs is m = by_case left.new refl
  where
    by_case : (o : Option (List ℕ)) → left.new ≡ o → length xs ≤ length bytes
    by_case None e =
        let none : Some bytes ≡ None = sym is ∙ m.was ∙ ap (option_map (λ (t : List ℕ). xs ++ t)) e in
        absurd cc
    by_case (Some rest) e =
        let some : Some bytes ≡ Some (xs ++ rest) = sym is ∙ m.was ∙ ap (option_map (λ (t : List ℕ). xs ++ t)) e in
        let same : bytes ≡ xs ++ rest = cc some in
        omega (arith, ap length same, length-append xs rest)

done_frames : (s : FlatSettings) (left held : Change) (bytes : List ℕ) (summary : Summary) → left.old ≡ Some bytes → FlatCoded s left held summary → AreFrames (frame_bytes s.dims) (length bytes)
done_frames s left held bytes summary is c =
    let all : raw c.frames ≡ bytes = all_read left bytes (raw c.frames) is c.moved c.end in
    record { frames = length c.frames; some = c.some; most = c.most; are = ap length (sym all) ∙ frames_length (frame_bytes s.dims) c.frames c.whole }

short_inside : (s : FlatSettings) (left held : Change) (bytes : List ℕ) (extra : ℕ) → left.old ≡ Some bytes → EndedShort s left held extra → EndInside (frame_bytes s.dims) (length bytes)
short_inside s left held bytes extra is e =
    ends_inside (frame_bytes s.dims) extra e.frames e.part bytes e.begun.whole (all_read left bytes (raw e.frames ++ e.part) is e.begun.moved e.end) e.count e.fewer e.some e.less

none_empty : (left held : Change) (bytes : List ℕ) → left.old ≡ Some bytes → WasEmpty left held → length bytes ≡ 0
none_empty left held bytes is e = let all : [] ≡ bytes = all_read left bytes [] is e.moved e.end in ap length (sym all)

many_long : (s : FlatSettings) (left held : Change) (bytes : List ℕ) → left.old ≡ Some bytes → WentOn s left held → most_frames * frame_bytes s.dims < length bytes
many_long s left held bytes is e =
    goes_past (frame_bytes s.dims) e.next e.frames bytes e.begun.whole e.all (long_by left bytes (raw e.frames ++ e.next ∷ []) is e.begun.moved)

-- ---- an input is of one kind

some_bytes : (w : FlatWords) → WordsPass w → 0 < frame_bytes (settings_of w).dims
some_bytes w passes =
    let bounds = in_bounds w.width w.height w.rate_code w.quantiser passes in
    let some : 0 < w.width * w.height = mul-pos (omega (arith, bounds.width_least)) (omega (arith, bounds.height_least)) in
    omega arith

pub not_inside_of : (size bytes frames : ℕ) → bytes ≡ frames * size → EndInside size bytes → ⊥
not_inside_of size bytes frames are b = elim (cases_lt b.frames frames) [
  | inl fewer ↦
      let next : suc b.frames ≤ frames = omega arith in
      omega (arith, are, b.are, b.less, mul-le-mul_right size next, suc-mul b.frames size)
  | inr more ↦ omega (arith, are, b.are, b.some, mul-le-mul_right size more)
]

pub not_inside : (size bytes : ℕ) → AreFrames size bytes → EndInside size bytes → ⊥
not_inside size bytes a b = not_inside_of size bytes a.frames a.are b

pub not_empty : (size bytes : ℕ) → 0 < size → AreFrames size bytes → bytes ≡ 0 → ⊥
not_empty size bytes some a is =
    let least : 0 < a.frames * size = mul-pos (omega (arith, a.some)) some in
    omega (arith, a.are, is)

pub not_many_of : (size bytes frames : ℕ) → frames ≤ most_frames → bytes ≡ frames * size → most_frames * size < bytes → ⊥
not_many_of size bytes frames most are more = omega (arith, are, mul-le-mul_right size most)

pub not_many : (size bytes : ℕ) → AreFrames size bytes → most_frames * size < bytes → ⊥
not_many size bytes a more = not_many_of size bytes a.frames a.most a.are more

-- ---- what the stream decodes to

decodes_back : (s : FlatSettings) (frames : List (List ℕ)) → HasPassed s → 1 ≤ length frames → DecodesTo (Flat s frames) (FlatRecon s frames)
decodes_back s frames passed some =
    decoded_to (Flat s frames) (FlatRecon s frames) (flat_decodes s frames passed some)

has_passed : (w : FlatWords) → WordsPass w → IsSize (flat_dims w.width w.height) → HasPassed (settings_of w)
has_passed w passes size = record { passes = passes; dims = refl; size = size }

-- the size that the test gave is that of the words
pub done_of : (w : FlatWords) (d : Dims) (left held : Change) (summary : Summary) → d ≡ flat_dims w.width w.height → IsSize d → WordsPass w
    → FlatCoded (record { dims = d; rate_code = w.rate_code; quantiser = w.quantiser }) left held summary → FlatDone w left held summary
done_of w d left held summary is size passes coded =
    let c : FlatCoded (settings_of w) left held summary =
    subst (λ (x : Dims). FlatCoded (record { dims = x; rate_code = w.rate_code; quantiser = w.quantiser }) left held summary) is coded in
    let h = has_passed w passes (subst IsSize is size) in
    record {
      passes = passes;
      coded = c;
      back = decodes_back (settings_of w) c.frames h c.some;
      lawful = flat_lawful (settings_of w) c.frames h c.some;
    }

-- ---- what was told

module _ (r : Run) (w : FlatWords) where
  unfit_at : (o : FlatOutcome) → FlatComes w r.input r.output o → Told (flat_ending o) r.status r.report → r.recon.Unchanged → (WordsPass w → ⊥) → RefusedBy 3 r
  unfolding FlatComes flat_ending unfit_ending
  unfit_at (Coded s) c t k fails = absurd (fails c.passes)
  unfit_at (Unfit u) c t k fails = (refusal (flat_ending (Unfit u)) r.status 3 r.report t refl refl, (c.1, c.2, k))
  unfit_at (Stopped e) c t k fails = absurd (fails c.passes)

  done_answer : (bytes : ℕ) (s : Summary) → WordsPass w → AreFrames (frame_bytes (settings_of w).dims) bytes → Told (flat_ending (Coded s)) r.status r.report → Yields r (FlatAnswer r w bytes)
  unfolding flat_ending
  done_answer bytes s passes frames (whole is g) = Yields.said (FlatAnswer.ok passes frames is)
  done_answer bytes s passes frames (cut (inl is) g) = Yields.memory is
  done_answer bytes s passes frames (cut (inr is) g) = Yields.said (FlatAnswer.unreported passes frames is.0 is.1)

  fails_then : (u : Unfits) → WordsFail w u → WordsPass w → ⊥
  fails_then u fails passes = cc (sym passes ∙ fails)

  stopped_at : (bytes : List ℕ) → r.input.old ≡ Some bytes → (e : EncodeError) → FlatStopped w r.input r.output e → Told (coding_stopped e) r.status r.report
      → Yields r (FlatAnswer r w (length bytes))
  unfolding FlatStops coding_stopped
  stopped_at bytes told (Error.ShortFrame x) c t =
      or_memory r (FlatAnswer r w (length bytes)) (coding_stopped (Error.ShortFrame x)) 4 t refl refl
      (λ is. Yields.said (FlatAnswer.short c.passes (short_inside (settings_of w) r.input r.output bytes x told c.stops) is))
  stopped_at bytes told Error.NoFrames c t =
      or_memory r (FlatAnswer r w (length bytes)) (coding_stopped Error.NoFrames) 5 t refl refl
      (λ is. Yields.said (FlatAnswer.none c.passes (none_empty r.input r.output bytes told c.stops) is))
  stopped_at bytes told Error.TooManyFrames c t =
      or_memory r (FlatAnswer r w (length bytes)) (coding_stopped Error.TooManyFrames) 6 t refl refl
      (λ is. Yields.said (FlatAnswer.many c.passes (many_long (settings_of w) r.input r.output bytes told c.stops) is))
  stopped_at bytes told Error.Read c t =
      read_told r t c.stops.0
  stopped_at bytes told Error.Write c t =
      write_told r t c.stops.0
  stopped_at bytes told Error.Memory c t =
      want_told r t

  answer_at : (bytes : List ℕ) → r.input.old ≡ Some bytes → (o : FlatOutcome) → FlatComes w r.input r.output o → Told (flat_ending o) r.status r.report → Yields r (FlatAnswer r w (length bytes))
  unfolding FlatComes flat_ending unfit_ending
  answer_at bytes told (Coded s) c t = done_answer (length bytes) s c.passes (done_frames (settings_of w) r.input r.output bytes s told c.coded) t
  answer_at bytes told (Unfit u) c t =
      or_memory r (FlatAnswer r w (length bytes)) (flat_ending (Unfit u)) 3 t refl refl (λ is. Yields.said (FlatAnswer.unfit (fails_then u c.0) is))
  answer_at bytes told (Stopped e) c t = stopped_at bytes told e c t

  -- whole frames leave no other answer
  whole_answer : (bytes : ℕ) → WordsPass w → AreFrames (frame_bytes (settings_of w).dims) bytes → NoneFailed r → FlatAnswer r w bytes → Succeeds r
  whole_answer bytes passes frames well (FlatAnswer.unfit fails is) = absurd (fails passes)
  whole_answer bytes passes frames well (FlatAnswer.ok p f is) = inl is
  whole_answer bytes passes frames well (FlatAnswer.unreported p f g is) = absurd (well.report g)
  whole_answer bytes passes frames well (FlatAnswer.short p f is) = absurd (not_inside (frame_bytes (settings_of w).dims) bytes frames f)
  whole_answer bytes passes frames well (FlatAnswer.none p f is) = absurd (not_empty (frame_bytes (settings_of w).dims) bytes (some_bytes w passes) frames f)
  whole_answer bytes passes frames well (FlatAnswer.many p f is) = absurd (not_many (frame_bytes (settings_of w).dims) bytes frames f)

  keeps_with : (r.status ≡ 0 → Success (FlatDone w r.input r.output) flat_coded_ending r.report) → ((WordsPass w → ⊥) → RefusedBy 3 r)
      → ((bytes : List ℕ) → r.input.old ≡ Some bytes → Yields r (FlatAnswer r w (length bytes))) → FlatKeeps w r
  keeps_with done unfit answer = record {
    done = done;
    unfit = unfit;
    answer = tells r.input (λ bytes. Yields r (FlatAnswer r w (length bytes))) answer;
    coded = tells r.input (λ bytes. WordsPass w → AreFrames (frame_bytes (settings_of w).dims) (length bytes) → NoneFailed r → Succeeds r)
        (λ bytes told passes frames well. well_answered r well (whole_answer (length bytes) passes frames well) (answer bytes told));
  }

  pub flat_keeps : (o : FlatOutcome) → FlatComes w r.input r.output o → Told (flat_ending o) r.status r.report → r.recon.Unchanged → FlatKeeps w r
  flat_keeps o c t k = keeps_with (flat_done r w o c t) (unfit_at o c t k) (λ bytes told. answer_at bytes told o c t)

  -- where memory ran out before the words were read
  pub flat_unread : IsUntouched (work_of r) → r.status ≡ 12 → FlatKeeps w r
  flat_unread untouched is = keeps_with (no_success r is) (λ fails. (inr is, untouched)) (λ bytes told. Yields.memory is)
