-- What follows from what `encode-y4m` did and what was told of it.
use Rattle.std.proofs.Common.{◌≡◌, ◌⊎◌, inl, inr, ℕ, zero, suc, ◌+◌, ◌*◌, ◌<◌, ◌≤◌, All, List, [], ◌∷◌, ◌++◌, length, drop, Option, Some, None, IfSome, Ok, Err, refl, sym, ap, ap₂, subst, ◌∙◌, arith, length-append}
use Rattle.std.specs.Option.{option_map}
use Rattle.std.proofs.lemmas.List.{append-nil}
use Rattle.std.proofs.lemmas.List.Elements.{All-drop}
use Rattle.std.proofs.lemmas.Bool.{cases_lt}
use Rattle.std.proofs.Math.Nat.{suc-mul, mul-le-mul_left, mul-le-mul_right}
use Rattle.m2v_port.specs.Ends.{Change, change}
use Rattle.m2v_port.specs.Port.{Moves, Rose, IsAtEnd}
use Rattle.m2v_port.specs.declared.error.PortError.{PortError}
use Rattle.m2v_port.specs.declared.error.PortError.TheVariants as calls
use Rattle.m2v_port.proofs.Runs.{tells, rose_since}
use Rattle.m2v_plane.specs.Raw.{raw, frame_bytes}
use Rattle.m2v_set.specs.declared.settings.Settings.{Settings}
use Rattle.m2v_set.specs.Numbers.{dims_of}
use Rattle.m2v_set.proofs.Facts.{bounds}
use Rattle.m2v_set.specs.Rules.{Passes, FirstUnfit}
use Rattle.m2v_set.specs.declared.unfit.Unfit.{Unfit}
use Rattle.m2v_make.specs.m2v_encode.declared.answer.Summary.{Summary}
use Rattle.m2v_make.specs.m2v_encode.declared.answer.EncodeError.{EncodeError}
use Rattle.m2v_make.specs.m2v_encode.declared.answer.EncodeError.TheVariants as errors
use Rattle.m2v_make.specs.m2v_encode.Answers.{AllCoded, Stops, FailedInside, EndedShort, WasEmpty, WentOn, most_frames}
use Rattle.m2v_make.proofs.m2v_encode.Alike.{TellAlike, begun_alike, coded_alike, stops_alike}
use Rattle.m2v_y4m.specs.declared.answer.Y4mFault.{Y4mFault}
use Rattle.m2v_y4m.specs.declared.answer.Y4mError.{Y4mError}
use Rattle.m2v_y4m.specs.declared.answer.Y4mError.TheVariants as opening_errors
use Rattle.m2v_y4m.specs.declared.header.Y4mHeader.{Y4mHeader}
use Rattle.m2v_y4m.specs.Header.{opening}
use Rattle.m2v_y4m.specs.Frames.{Coming, Begins, size_of}
use Rattle.m2v_y4m.specs.Rules.{IsHeader}
use Rattle.m2v_y4m.specs.Sources.{Standing, Reading, IsOpen, OpensWith, left_of, mark, marked, told_left, most_ahead, TookText, coming, coming_at, unless_broken}
use Rattle.m2v_y4m.specs.Answers.{OpenStops}
use Rattle.m2v_y4m.proofs.Comings.{one_beginning, whole_before, comes_all, no_byte, one_mark}
use Rattle.m2v_y4m.proofs.Overs.{over_behind}
use Rattle.m2v_tool.specs.declared.encode.EncodeOutcome.{EncodeOutcome}
use Rattle.m2v_tool.specs.declared.encode.EncodeOutcome.TheVariants.{Coded, Unfit as NotFit, Unopened, Stopped}
use Rattle.m2v_tool.specs.declared.encode_y4m.Y4mOutcome.{Y4mOutcome}
use Rattle.m2v_tool.specs.declared.encode_y4m.Y4mOutcome.TheVariants.{Unread, Encoded, Broken}
use Rattle.m2v_tool.specs.Endings.{Told, whole, cut, unfit_ending, unopened_ending, y4m_fault}
use Rattle.m2v_tool.specs.Stops.{encoding_stopped, unread_ending}
use Rattle.m2v_tool.specs.EncodeWords.{Meant}
use Rattle.m2v_tool.specs.Inputs.{AreFrames, EndInside}
use Rattle.m2v_tool.specs.Places.{recon_by, Shut, Stands}
use Rattle.m2v_tool.specs.Encoding.{frame_size, EncodeStopped, EncodeShut, EncodeComes, encoded_ending, encode_ending}
use Rattle.m2v_tool.specs.Packing.{Says}
use Rattle.m2v_tool.specs.Y4mWords.{with_header}
use Rattle.m2v_tool.specs.Y4mCoding.{Behind, frames_change, frames_work, BrokenOff, FramesCome, read_behind, Y4mComes, y4m_ending, Y4mAnswer, Y4mKeeps}
use Rattle.m2v_tool.specs.Runs.{Run, Work, Place, work_of, IsUntouched, Yields, NoneFailed, Succeeds}
use Rattle.m2v_tool.proofs.EndingLaws.{or_memory, read_told, want_told, well_answered}
use Rattle.m2v_tool.proofs.PlaceLaws.{failed_of}
use Rattle.m2v_tool.proofs.DoneLaws.{text_done, no_success}
use Rattle.m2v_tool.proofs.CodingLaws.{ends_inside, frames_length, all_read, not_inside, not_empty, not_many}
use Rattle.m2v_tool.proofs.EncodingLaws.{least_step}

-- ---- what a list ends in

-- where two lists are the same and the second ends in a number, the last part of the first is empty or ends in it too
ends_in : (xs part ys : List ℕ) (n : ℕ) → xs ++ part ≡ ys ++ n ∷ [] → (part ≡ []) ⊎ ((zs : List ℕ) × (part ≡ zs ++ n ∷ []))
ends_in [] part ys n is = inr (ys, is)
ends_in (x ∷ xs) part [] n is = inl (by_rest xs part (cc))
  where
    by_rest : (xs part : List ℕ) → xs ++ part ≡ [] → part ≡ []
    by_rest [] part e = e
    by_rest (y ∷ ys) part e = absurd (cc)
ends_in (x ∷ xs) part (y ∷ ys) n is = ends_in xs part ys n (cc)

holds_last : (P : ℕ → Type 0) (zs : List ℕ) (n : ℕ) → All P (zs ++ n ∷ []) → P n
holds_last P [] n all = all 0 0 (omega arith)
holds_last P (z ∷ zs) n all = holds_last P zs n (λ k d less. all (suc k) d (omega arith))

one_all : (P : ℕ → Type 0) (b : ℕ) → P b → All P (b ∷ [])
one_all P b holds zero d less = holds
one_all P b holds (suc k) d less = absurd (omega arith)

-- ---- what comes behind a header

-- raw bytes in front of a fault are whole frames
abbrev AreWhole : ℕ → Coming → Type 0
AreWhole size c = (f : Y4mFault) → c.fault ≡ Some f → (k : ℕ) × (length c.raw ≡ k * size)

whole_behind : (text : List ℕ) (h : Y4mHeader) (m : Meant) (c : Coming) → Begins text h c → AreWhole (frame_size (with_header h m)) c
unfolding dims_of
whole_behind text h m c begins f is =
    let come = begins.comes in
    let w = whole_before (size_of h) begins.length (drop begins.length text) f (ap (λ (x : Coming). x.fault) (sym come) ∙ is) in
    (w.0, ap (λ (x : Coming). length x.raw) come ∙ w.1)

-- what is left at first of a source of a text, by its fault
left_none : (c : Coming) → c.fault ≡ None → left_of c ≡ c.raw
unfolding left_of
left_none c is = ap (λ (o : Option Y4mFault). c.raw ++ marked o) is ∙ append-nil c.raw

left_some : (c : Coming) (f : Y4mFault) → c.fault ≡ Some f → left_of c ≡ c.raw ++ mark f ∷ []
unfolding left_of
left_some c f is = ap (λ (o : Option Y4mFault). c.raw ++ marked o) is

-- ---- how many bytes were read

-- frames and one thing more are no frames
no_one_more : (size n k : ℕ) → 2 ≤ size → n * size ≡ k * size + 1 → ⊥
no_one_more size n k big is = elim (cases_lt k n) [
  | inl fewer ↦
      let next : suc k ≤ n = omega arith in
      omega (arith, is, big, mul-le-mul_right size next, suc-mul k size)
  | inr more ↦ omega (arith, is, mul-le-mul_right size more)
]

-- whole frames that are at most some and a part are at most those
no_more : (size n k part most : ℕ) → n ≤ most → part < size → k * size ≡ n * size + part → k * size ≤ most * size
no_more size n k part most few less is = elim (cases_lt most k) [
  | inl more ↦
      let next : suc most ≤ k = omega arith in
      absurd (omega (arith, is, less, mul-le-mul_right size next, suc-mul most size, mul-le-mul_right size few))
  | inr fits ↦ mul-le-mul_right size fits
]

more_bytes : (s : Settings) → Passes s → 2 ≤ frame_bytes (dims_of s)
unfolding dims_of
more_bytes s passes =
    let size = (bounds s passes).size in
    let tall : 1 ≤ s.height = omega (arith, size.tall, least_step s.scan) in
    let some : s.width * 1 ≤ s.width * s.height = mul-le-mul_left s.width tall in
    omega (arith, some, size.wide)

-- ---- what the frames were

-- `c` is what came behind the header, and `left` is what was done to it; where it has a fault, frames are whole before it.
module _ (s : Settings) (c : Coming) (left output recon : Change) (told : left.old ≡ Some (left_of c)) (are : AreWhole (frame_bytes (dims_of s)) c) where
  -- a part that was read to the end, if it has bytes alone and isn't empty, has no mark behind it
  unmarked : (frames : List (List ℕ)) (part : List ℕ) → raw frames ++ part ≡ left_of c → 0 < length part → All (λ b. b < 256) part → c.fault ≡ None
  unmarked frames part all some bytes = by_fault c.fault refl
    where
      by_fault : (o : Option Y4mFault) → c.fault ≡ o → o ≡ None
      by_fault None is = refl
      by_fault (Some f) is = elim (ends_in (raw frames) part c.raw (mark f) (all ∙ left_some c f is)) [
        | inl empty ↦ absurd (omega (arith, some, ap length empty))
        | inr more ↦
            let last : mark f < 256 = holds_last (λ b. b < 256) more.0 (mark f) (subst (All (λ b. b < 256)) more.1 bytes) in
            absurd (omega (arith, last, no_byte f))
      ]

  coded_whole : (summary : Summary) → Passes s → AllCoded s left output recon summary → (c.fault ≡ None) × AreFrames (frame_bytes (dims_of s)) (length c.raw)
  coded_whole summary passes a = by_fault c.fault refl
    where
      all : raw a.frames ≡ left_of c
      all = all_read left (left_of c) (raw a.frames) told a.moved a.end

      many : length (raw a.frames) ≡ length a.frames * frame_bytes (dims_of s)
      many = frames_length (frame_bytes (dims_of s)) a.frames a.whole

      by_fault : (o : Option Y4mFault) → c.fault ≡ o → (c.fault ≡ None) × AreFrames (frame_bytes (dims_of s)) (length c.raw)
      by_fault None is = (
        is,
        record {
          frames = length a.frames;
          some = a.some;
          most = a.most;
          are = ap length (sym (left_none c is) ∙ sym all) ∙ many;
        },
      )
      by_fault (Some f) is =
          let w = are f is in
          let total : length (raw a.frames) ≡ length c.raw + 1 = ap length (all ∙ left_some c f is) ∙ length-append c.raw (mark f ∷ []) in
          absurd (no_one_more (frame_bytes (dims_of s)) (length a.frames) w.0 (more_bytes s passes) (omega (arith, many, total, w.1)))

  short_inside : (extra : ℕ) → EndedShort s left output recon extra → (c.fault ≡ None) × EndInside (frame_bytes (dims_of s)) (length c.raw)
  short_inside extra e =
      let all : raw e.frames ++ e.part ≡ left_of c = all_read left (left_of c) (raw e.frames ++ e.part) told e.begun.moved e.end in
      let none : c.fault ≡ None = unmarked e.frames e.part all (omega (arith, e.some, e.count)) e.bytes in
      (none, ends_inside (frame_bytes (dims_of s)) extra e.frames e.part c.raw e.begun.whole (all ∙ left_none c none) e.count e.fewer e.some e.less)

  none_empty : WasEmpty left output recon → (c.fault ≡ None) × (length c.raw ≡ 0)
  none_empty e = by_fault c.fault refl
    where
      all : [] ≡ left_of c
      all = all_read left (left_of c) [] told e.moved e.end

      by_fault : (o : Option Y4mFault) → c.fault ≡ o → (c.fault ≡ None) × (length c.raw ≡ 0)
      by_fault None is = (is, ap length (sym (left_none c is) ∙ sym all))
      by_fault (Some f) is =
          let total : 0 ≡ length c.raw + 1 = ap length (all ∙ left_some c f is) ∙ length-append c.raw (mark f ∷ []) in
          absurd (omega (arith, total))

  many_long : WentOn s left output recon → most_frames * frame_bytes (dims_of s) < length c.raw
  many_long e = by_rest left.new refl
    where
      front : List ℕ
      front = raw e.frames ++ e.next ∷ []

      count : length front ≡ most_frames * frame_bytes (dims_of s) + 1
      count = omega (arith, length-append (raw e.frames) (e.next ∷ []), frames_length (frame_bytes (dims_of s)) e.frames e.begun.whole ∙ ap (λ (n : ℕ). n * frame_bytes (dims_of s)) e.all)

      byte : All (λ b. b < 256) (e.next ∷ [])
      byte = one_all (λ b. b < 256) e.next e.byte

      by_fault : (rest : List ℕ) → left_of c ≡ front ++ rest → (o : Option Y4mFault) → c.fault ≡ o → most_frames * frame_bytes (dims_of s) < length c.raw
      by_fault rest is None none = omega (arith, ap length (sym (left_none c none) ∙ is), length-append front rest, count)
      by_fault [] is (Some f) some =
          let none : c.fault ≡ None = unmarked e.frames (e.next ∷ []) (sym (is ∙ append-nil front)) (omega arith) byte in
          absurd (cc)
      by_fault (b ∷ rest) is (Some f) some =
          let total : length c.raw + 1 ≡ length (front ++ b ∷ rest) = sym (length-append c.raw (mark f ∷ [])) ∙ ap length (sym (left_some c f some) ∙ is) in
          omega (arith, total, length-append front (b ∷ rest), count)

      by_rest : (o : Option (List ℕ)) → left.new ≡ o → most_frames * frame_bytes (dims_of s) < length c.raw
      by_rest None is =
          let gone : Some (left_of c) ≡ None = sym told ∙ e.begun.moved.was ∙ ap (option_map (λ rest. front ++ rest)) is in
          absurd (cc)
      by_rest (Some rest) is =
          let same : Some (left_of c) ≡ Some (front ++ rest) = sym told ∙ e.begun.moved.was ∙ ap (option_map (λ rest. front ++ rest)) is in
          by_fault rest (cc) c.fault refl

-- ---- what was told

-- the text of an input that told it, as it begins
behind_told : (input : Change) (text : List ℕ) → input.old ≡ Some text → (b : Behind input) → (c : Coming) × Begins text b.header c × (b.old ≡ Some (left_of c))
behind_told input text told b =
    subst (λ (o : Option (List ℕ)). IfSome o (λ text. (c : Coming) × Begins text b.header c × (b.old ≡ Some (left_of c)))) told b.text

not_both : (text : List ℕ) (h : Y4mHeader) (c : Coming) (f : Y4mFault) → Begins text h c → opening text ≡ Err f → ⊥
not_both text h c f begins is =
    let both : Ok (record { header = h; length = begins.length }) ≡ Err f = sym begins.opens ∙ is in
    absurd (cc both)

module _ (r : Run) (text : List ℕ) (told : r.input.old ≡ Some text) where
  -- a header line that wasn't read
  unread_at : (Answer : Type 0) (e : Y4mError) → OpenStops r.input e → Told (unread_ending e) r.status r.report
      → ((f : Y4mFault) → opening text ≡ Err f → Told (y4m_fault f) r.status r.report → Yields r Answer) → Yields r Answer
  unfolding OpenStops unread_ending
  unread_at Answer opening_errors.Read c t by = read_told r t c.0
  unread_at Answer (opening_errors.Y4m f) c t by =
      by f (subst (λ (o : Option (List ℕ)). IfSome o (λ text. opening text ≡ Err f)) told c.0) t
  unread_at Answer opening_errors.Memory c t by = want_told r t

  -- a header line that is broken
  module _ (m : Meant) (f : Y4mFault) (is : opening text ≡ Err f) where
    unread_says : (e : Y4mError) → OpenStops r.input e → Told (unread_ending e) r.status r.report → Says r (y4m_fault f)
    unread_says e c t =
        unread_at (Told (y4m_fault f) r.status r.report) e c t
        (λ g other told. let both : Err g ≡ Err f = sym other ∙ is in
        let same : g ≡ f = cc in
        Yields.said (subst (λ (x : Y4mFault). Told (y4m_fault x) r.status r.report) same told))

    not_behind : Behind r.input → ⊥
    not_behind b = let come = behind_told r.input text told b in not_both text b.header come.0 f come.1 is

    header_at : (o : Y4mOutcome) → Y4mComes m (work_of r) o → Told (y4m_ending o) r.status r.report → Says r (y4m_fault f) × r.output.Unchanged × r.recon.Unchanged
    unfolding Y4mComes y4m_ending
    header_at (Unread e) c t = (unread_says e c.0 t, c.1, c.2)
    header_at (Encoded o) c t = absurd (not_behind c.behind)
    header_at (Broken g) c t = absurd (not_behind c.behind)

  -- a header
  module _ (m : Meant) (h : Y4mHeader) (c : Coming) (begins : Begins text h c) where
    unread_yields : (Answer : Type 0) (e : Y4mError) → OpenStops r.input e → Told (unread_ending e) r.status r.report → Yields r Answer
    unread_yields Answer e stops t = unread_at Answer e stops t (λ f is t. absurd (not_both text h c f begins is))

    same_header : (b : Behind r.input) → (b.header ≡ h) × (b.old ≡ Some (left_of c))
    same_header b =
        let come = behind_told r.input text told b in
        let one = one_beginning text b.header h come.0 c come.1 begins in
        (one.0, come.2 ∙ ap (λ (x : Coming). Some (left_of x)) one.1)

    -- ---- settings that don't pass

    unfit_by : (n : Meant) (k : Work) (o : EncodeOutcome) → EncodeComes n k o → Told (encode_ending o) r.status r.report → (Passes n.settings → ⊥)
        → Yields r (r.status ≡ 3) × k.output.Unchanged × k.recon.Unchanged
    unfolding EncodeComes encode_ending unfit_ending
    unfit_by n k (Coded s) c t fails = absurd (fails c.passes)
    unfit_by n k (NotFit x) c t fails = (or_memory r (r.status ≡ 3) (encode_ending (NotFit x)) 3 t refl refl (λ is. Yields.said is), c.2, c.3)
    unfit_by n k (Unopened e) c t fails = absurd (fails c.passes)
    unfit_by n k (Stopped e) c t fails = absurd (fails c.passes)

    unfit_at : (o : Y4mOutcome) → Y4mComes m (work_of r) o → Told (y4m_ending o) r.status r.report → (Passes (with_header h m).settings → ⊥)
        → Yields r (r.status ≡ 3) × r.output.Unchanged × r.recon.Unchanged
    unfolding Y4mComes y4m_ending
    unfit_at (Unread e) c t fails = (unread_yields (r.status ≡ 3) e c.0 t, c.1, c.2)
    unfit_at (Encoded o) c t fails =
        unfit_by (with_header c.behind.header m) (frames_work (work_of r) c.behind) o c.comes t
        (λ passes. fails (subst (λ (x : Y4mHeader). Passes (with_header x m).settings) (same_header c.behind).0 passes))
    unfit_at (Broken g) c t fails = absurd (fails (subst (λ (x : Y4mHeader). Passes (with_header x m).settings) (same_header c.behind).0 c.passes))

-- ---- the status by what came behind the header

module _ (r : Run) (n : Meant) (c : Coming) (left : Change) (told : left.old ≡ Some (left_of c)) (are : AreWhole (frame_size n) c) (failed : left.Failed → r.input.Failed) where
  abbrev work : Work
  work = record { input = left; output = r.output; recon = r.recon; place = r.place }

  fails_then : (u : Unfit) → FirstUnfit n.settings u → Passes n.settings → ⊥
  fails_then u fails passes = cc (sym passes ∙ fails)

  done_answer : (s : Summary) → Passes n.settings → (c.fault ≡ None) × AreFrames (frame_size n) (length c.raw) → Told (encoded_ending s) r.status r.report → Yields r (Y4mAnswer r n c)
  unfolding encoded_ending
  done_answer s passes frames (whole is g) = Yields.said (Y4mAnswer.ok passes frames.0 frames.1 is)
  done_answer s passes frames (cut (inl is) g) = Yields.memory is
  done_answer s passes frames (cut (inr is) g) = Yields.said (Y4mAnswer.unreported passes frames.0 frames.1 is.0 is.1)

  -- the count of recon rose
  recon_rose : Passes n.settings → r.status ≡ 8 → (recon_by n.recon r.recon).Failed → Yields r (Y4mAnswer r n c)
  recon_rose passes is rose = Yields.said (Y4mAnswer.recon passes (failed_of n.recon r.recon rose) is)

  stopped_at : (e : EncodeError) → EncodeStopped n work e → Told (encoding_stopped e) r.status r.report → Yields r (Y4mAnswer r n c)
  unfolding Stops encoding_stopped
  stopped_at (errors.ShortFrame x) s t =
      or_memory r (Y4mAnswer r n c) (encoding_stopped (errors.ShortFrame x)) 4 t refl refl
      (λ is. let i = short_inside n.settings c left r.output (recon_by n.recon r.recon) told are x s.stops in Yields.said (Y4mAnswer.short s.passes i.0 i.1 is))
  stopped_at errors.NoFrames s t =
      or_memory r (Y4mAnswer r n c) (encoding_stopped errors.NoFrames) 5 t refl refl
      (λ is. let i = none_empty n.settings c left r.output (recon_by n.recon r.recon) told are s.stops in Yields.said (Y4mAnswer.none s.passes i.0 i.1 is))
  stopped_at errors.TooManyFrames s t =
      or_memory r (Y4mAnswer r n c) (encoding_stopped errors.TooManyFrames) 6 t refl refl
      (λ is. Yields.said (Y4mAnswer.many s.passes (many_long n.settings c left r.output (recon_by n.recon r.recon) told are s.stops) is))
  stopped_at errors.Read s t =
      read_told r t (failed s.stops.0)
  stopped_at errors.Write s t =
      or_memory r (Y4mAnswer r n c) (encoding_stopped errors.Write) 8 t refl refl
      (λ is. elim s.stops.0 [
        | inl output ↦ Yields.write is output
        | inr recon ↦ recon_rose s.passes is recon
      ])
  stopped_at errors.Memory s t =
      want_told r t

  shut_at : (e : PortError) → EncodeShut n work e → Told (unopened_ending e) r.status r.report → Yields r (Y4mAnswer r n c)
  unfolding unopened_ending
  shut_at calls.Failed s t =
      or_memory r (Y4mAnswer r n c) (unopened_ending calls.Failed) 8 t refl refl
      (λ is. Yields.said (Y4mAnswer.recon s.passes s.shut.0 is))
  shut_at calls.Memory s t =
      want_told r t

  encoded_at : (o : EncodeOutcome) → EncodeComes n work o → Told (encode_ending o) r.status r.report → Yields r (Y4mAnswer r n c)
  unfolding EncodeComes encode_ending unfit_ending
  encoded_at (Coded s) d t = done_answer s d.passes (coded_whole n.settings c left r.output (recon_by n.recon r.recon) told are s d.passes d.coded) t
  encoded_at (NotFit u) d t =
      or_memory r (Y4mAnswer r n c) (encode_ending (NotFit u)) 3 t refl refl
      (λ is. Yields.said (Y4mAnswer.unfit (fails_then u d.0) is))
  encoded_at (Unopened e) d t = shut_at e d t
  encoded_at (Stopped e) d t = stopped_at e d t

  broken_at : (f : Y4mFault) (i : FailedInside n.settings left r.output (recon_by n.recon r.recon)) → Passes n.settings → c ≡ record { raw = raw i.frames ++ i.part; fault = Some f }
      → Told (y4m_fault f) r.status r.report → Yields r (Y4mAnswer r n c)
  broken_at f i passes is t =
      let some : c.fault ≡ Some f = ap (λ (x : Coming). x.fault) is in
      let w = are f some in
      let long : length c.raw ≡ length (raw i.frames) + length i.part = ap (λ (x : Coming). length x.raw) is ∙ length-append (raw i.frames) i.part in
      let most : w.0 * frame_size n ≤ most_frames * frame_size n =
      no_more (frame_size n) (length i.frames) w.0 (length i.part) most_frames i.begun.most i.less (sym w.1 ∙ long ∙ ap (λ (k : ℕ). k + length i.part) (frames_length (frame_size n) i.frames i.begun.whole)) in
      Yields.said (Y4mAnswer.broken f passes some (subst (λ (k : ℕ). k ≤ most_frames * frame_size n) (sym w.1) most) t)

-- ---- what is answered

module _ (r : Run) (m : Meant) where
  module _ (text : List ℕ) (told : r.input.old ≡ Some text) (bytes : All (λ b. b < 256) text) (h : Y4mHeader) (c : Coming) (begins : Begins text h c) where
    -- what holds by the header that was read holds by this one
    as_header : (b : Behind r.input) → Yields r (Y4mAnswer r (with_header b.header m) c) → Yields r (Y4mAnswer r (with_header h m) c)
    as_header b = subst (λ (x : Y4mHeader). Yields r (Y4mAnswer r (with_header x m) c)) (same_header r text told m h c begins b).0

    whole_in : (b : Behind r.input) → AreWhole (frame_size (with_header b.header m)) c
    whole_in b = whole_behind text b.header m c (subst (λ (x : Y4mHeader). Begins text x c) (sym (same_header r text told m h c begins b).0) begins)

    answer_at : (o : Y4mOutcome) → Y4mComes m (work_of r) o → Told (y4m_ending o) r.status r.report → Yields r (Y4mAnswer r (with_header h m) c)
    unfolding Y4mComes y4m_ending
    answer_at (Unread e) d t = unread_yields r text told m h c begins (Y4mAnswer r (with_header h m) c) e d.0 t
    answer_at (Encoded o) d t =
        let b = d.behind in
        as_header b (encoded_at r (with_header b.header m) c (frames_change r.input b) (same_header r text told m h c begins b).1 (whole_in b) (λ f. f) o d.comes t)
    answer_at (Broken f) d t =
        let b = d.behind in
        let first : Begins text b.header (record { raw = raw d.inside.frames ++ d.inside.part; fault = Some f }) =
        subst (λ (o : Option (List ℕ)). IfSome o (λ text. All (λ b. b < 256) text → Begins text b.header (record { raw = raw d.inside.frames ++ d.inside.part; fault = Some f }))) told d.first bytes in
        let same = (one_beginning text h b.header c _ begins first).1 in
        as_header b (broken_at r (with_header b.header m) c (frames_change r.input b) (same_header r text told m h c begins b).1 (whole_in b) (λ f. f) f d.inside d.passes same t)

  -- whole frames without a fault leave no other answer
  whole_answer : (n : Meant) (c : Coming) → Passes n.settings → c.fault ≡ None → AreFrames (frame_size n) (length c.raw) → NoneFailed r → (r.recon.Failed → ⊥)
      → Y4mAnswer r n c → Succeeds r
  whole_answer n c passes none frames well sound (Y4mAnswer.unfit fails is) = absurd (fails passes)
  whole_answer n c passes none frames well sound (Y4mAnswer.ok p u f is) = inl is
  whole_answer n c passes none frames well sound (Y4mAnswer.unreported p u f g is) = absurd (well.report g)
  whole_answer n c passes none frames well sound (Y4mAnswer.short p u f is) = absurd (not_inside (frame_size n) (length c.raw) frames f)
  whole_answer n c passes none frames well sound (Y4mAnswer.none p u f is) =
      absurd (not_empty (frame_size n) (length c.raw) (omega (arith, more_bytes n.settings passes)) frames f)
  whole_answer n c passes none frames well sound (Y4mAnswer.many p f is) = absurd (not_many (frame_size n) (length c.raw) frames f)
  whole_answer n c passes none frames well sound (Y4mAnswer.broken f p some few t) = let both : None ≡ Some f = sym none ∙ some in absurd (cc)
  whole_answer n c passes none frames well sound (Y4mAnswer.recon p f is) = absurd (sound f)

  abbrev HeaderKept : List ℕ → Type 0
  HeaderKept text = (f : Y4mFault) → opening text ≡ Err f → Says r (y4m_fault f) × r.output.Unchanged × r.recon.Unchanged

  abbrev UnfitKept : List ℕ → Type 0
  UnfitKept text = (h : Y4mHeader) (c : Coming) → Begins text h c → (Passes (with_header h m).settings → ⊥) → Yields r (r.status ≡ 3) × r.output.Unchanged × r.recon.Unchanged

  abbrev AnswerKept : List ℕ → Type 0
  AnswerKept text = All (λ b. b < 256) text → (h : Y4mHeader) (c : Coming) → Begins text h c → Yields r (Y4mAnswer r (with_header h m) c)

  abbrev CodedKept : List ℕ → Type 0
  CodedKept text = All (λ b. b < 256) text → (h : Y4mHeader) (c : Coming) → Begins text h c → Passes (with_header h m).settings → c.fault ≡ None
      → AreFrames (frame_size (with_header h m)) (length c.raw) → NoneFailed r → (r.recon.Failed → ⊥) → Succeeds r

  pub y4m_keeps : (o : Y4mOutcome) → Y4mComes m (work_of r) o → Told (y4m_ending o) r.status r.report → Y4mKeeps m r
  y4m_keeps o d t = record {
    done = text_done r m o d t;
    header = tells r.input HeaderKept (λ text told f is. header_at r text told m f is o d t);
    unfit = tells r.input UnfitKept (λ text told h c begins fails. unfit_at r text told m h c begins o d t fails);
    answer = tells r.input AnswerKept (λ text told bytes h c begins. answer_at text told bytes h c begins o d t);
    coded = tells r.input CodedKept (λ text told bytes h c begins passes none frames well sound.
        well_answered r well (whole_answer (with_header h m) c passes none frames well sound) (answer_at text told bytes h c begins o d t));
  }

  -- where memory ran out before the words were read
  pub y4m_unread : IsUntouched (work_of r) → r.status ≡ 12 → Y4mKeeps m r
  y4m_unread untouched is = record {
    done = no_success r is;
    header = tells r.input HeaderKept (λ text told f e. (Yields.memory is, untouched.1, untouched.2));
    unfit = tells r.input UnfitKept (λ text told h c begins fails. (Yields.memory is, untouched.1, untouched.2));
    answer = tells r.input AnswerKept (λ text told bytes h c begins. Yields.memory is);
    coded = tells r.input CodedKept (λ text told bytes h c begins passes none frames well sound. inr is);
  }

-- ---- the frames as they were read

-- What was done to the frames, told by another count of faults, which stands in what came only where reading failed, and with
-- another word for what is unchanged, which follows from the first one.
module _ (x y : Option (List ℕ)) (F G U V : Type 0) (output recon : Change) where
  abbrev by_source : Change
  by_source = record { old = x; new = y; Failed = F; Unchanged = U }

  abbrev by_text : Change
  by_text = record { old = x; new = y; Failed = G; Unchanged = V }

  as_text : TellAlike by_source recon by_text recon
  as_text = record { moved = λ bytes m. m; end = λ e. e; shown = λ bytes g. g; part = λ bytes g. g; same = λ u. u }

  pub inside_read : (s : Settings) → FailedInside s by_source output recon → FailedInside s by_text output recon
  inside_read s i = record {
    frames = i.frames;
    part = i.part;
    begun = begun_alike by_source recon by_text recon as_text s output i.frames i.part i.begun;
    less = i.less;
  }

  stops_read : (s : Settings) (e : EncodeError) → (e ≡ errors.Read → F → G) → Stops s by_source output recon e → Stops s by_text output recon e
  stops_read s e failed c = stops_alike by_source recon by_text recon as_text s output e failed (λ f. f) c

  coded_read : (s : Settings) (summary : Summary) → AllCoded s by_source output recon summary → AllCoded s by_text output recon summary
  coded_read s summary a = coded_alike by_source recon by_text recon as_text s output summary a

module _ (x y : Option (List ℕ)) (F G U V : Type 0) (output recon : Change) (place : Place) where
  abbrev work_by_source : Work
  work_by_source = record { input = by_source x y F G U V output recon; output = output; recon = recon; place = place }

  abbrev work_by_text : Work
  work_by_text = record { input = by_text x y F G U V output recon; output = output; recon = recon; place = place }

  shut_read : (e : PortError) → (U → V) → Shut e work_by_source → Shut e work_by_text
  shut_read calls.Failed same c = (c.0, c.1, c.2, same c.3, c.4)
  shut_read calls.Memory same c = (c.0, c.1, same c.2, c.3)

  stands_read : (o : Option (List ℕ)) → Stands o work_by_source → Stands o work_by_text
  stands_read (Some name) c = c
  stands_read None c = c

  pub comes_read : (m : Meant) (o : EncodeOutcome) → (o ≡ Stopped errors.Read → F → G) → (U → V) → EncodeComes m work_by_source o → EncodeComes m work_by_text o
  unfolding EncodeComes
  comes_read m (Coded s) failed same c = record {
    passes = c.passes;
    coded = coded_read x y F G U V output (recon_by m.recon recon) m.settings s c.coded;
    stands = stands_read m.recon c.stands;
  }
  comes_read m (NotFit u) failed same c = (c.0, same c.1, c.2, c.3)
  comes_read m (Unopened e) failed same c = record { passes = c.passes; named = c.named; shut = shut_read e same c.shut }
  comes_read m (Stopped e) failed same c = record {
    passes = c.passes;
    stops = stops_read x y F G U V output (recon_by m.recon recon) m.settings e (λ is. failed (ap Stopped is)) c.stops;
    stands = stands_read m.recon c.stands;
  }

  -- reading failed, and what is left then is known
  pub broken_read : (m : Meant) (f : Y4mFault) → IfSome y (λ rest. rest ≡ mark f ∷ []) → EncodeComes m work_by_source (Stopped errors.Read) → BrokenOff m work_by_text f
  unfolding EncodeComes Stops
  broken_read m f left c = record {
    passes = c.passes;
    inside = inside_read x y F G U V output (recon_by m.recon recon) m.settings c.stops.1;
    stands = stands_read m.recon c.stands;
    left = left;
  }

-- ---- the text that broke off

-- What is left is the mark of a fault, which is no byte: so that fault is the text's first one, behind what was read.
pub first_fault : (text : List ℕ) (h : Y4mHeader) (c : Coming) (old new : Option (List ℕ)) (bytes : List ℕ) (f : Y4mFault) → All (λ b. b < 256) text → Begins text h c
    → old ≡ Some (left_of c) → Moves old bytes new → IfSome new (λ rest. rest ≡ mark f ∷ []) → Begins text h (record { raw = bytes; fault = Some f })
first_fault text h c old new bytes f all begins told moved left =
    subst (Begins text h) (by_fault c.fault refl) begins
  where
    by_new : (o : Option (List ℕ)) → new ≡ o → IfSome o (λ rest. rest ≡ mark f ∷ []) → left_of c ≡ bytes ++ mark f ∷ []
    by_new None is l =
        let gone : Some (left_of c) ≡ None = sym told ∙ moved.was ∙ ap (option_map (λ rest. bytes ++ rest)) is in
        absurd (cc gone)
    by_new (Some rest) is l =
        let same : Some (left_of c) ≡ Some (bytes ++ rest) = sym told ∙ moved.was ∙ ap (option_map (λ rest. bytes ++ rest)) is in
        let inner : left_of c ≡ bytes ++ rest = cc same in
        inner ∙ ap (λ (r : List ℕ). bytes ++ r) l

    is_left : left_of c ≡ bytes ++ mark f ∷ []
    is_left = by_new new refl left

    raw_bytes : All (λ b. b < 256) c.raw
    raw_bytes =
        subst (λ (x : Coming). All (λ b. b < 256) x.raw) (sym begins.comes)
        (comes_all (λ b. b < 256) (size_of h) begins.length (drop begins.length text) (All-drop (λ b. b < 256) begins.length text all))

    one_end : (xs ys : List ℕ) (m n : ℕ) → xs ++ m ∷ [] ≡ ys ++ n ∷ [] → (xs ≡ ys) × (m ≡ n)
    one_end [] [] m n is = (refl, cc is)
    one_end [] (y ∷ []) m n is = absurd (cc is)
    one_end [] (y ∷ z ∷ ys) m n is = absurd (cc is)
    one_end (x ∷ []) [] m n is = absurd (cc is)
    one_end (x ∷ z ∷ xs) [] m n is = absurd (cc is)
    one_end (x ∷ xs) (y ∷ ys) m n is =
        let first : x ≡ y = cc is in
        let others : xs ++ m ∷ [] ≡ ys ++ n ∷ [] = cc is in
        let same = one_end xs ys m n others in
        (ap₂ (λ (b : ℕ) (l : List ℕ). b ∷ l) first same.0, same.1)

    by_fault : (o : Option Y4mFault) → c.fault ≡ o → c ≡ record { raw = bytes; fault = Some f }
    by_fault None is =
        let last : mark f < 256 = holds_last (λ b. b < 256) bytes (mark f) (subst (All (λ b. b < 256)) (sym (left_none c is) ∙ is_left) raw_bytes) in
        absurd (omega (arith, last, no_byte f))
    by_fault (Some g) is =
        let same = one_end c.raw bytes (mark g) (mark f) (sym (left_some c g is) ∙ is_left) in
        let fault : c.fault ≡ Some f = is ∙ ap Some (one_mark g f same.1) in
        ap₂ (λ (raw : List ℕ) (fault : Option Y4mFault). record { raw = raw; fault = fault }) same.0 fault

-- ---- reads that failed

-- no read was failed by a fault, before or after
unfailed_rose : (a b c d : ℕ) → c ≡ 0 → d ≡ 0 → Rose (a + c) (b + d) → Rose a b
unfailed_rose a b c d none after (inl less) = inl (omega (arith, less, none, after))
unfailed_rose a b c d none after (inr last) = inr (omega (arith, last, after))

module _ {S : Type 0} (left : S → Option (List ℕ)) (faults : S → ℕ) (Same : Type 0) (a : Reading) (before : S) (b : Reading) (after : S) (output recon : Change) (place : Place) (m : Meant) where
  abbrev given : Work
  given = record {
    input = record {
      old = told_left a.at (left before);
      new = told_left b.at (left after);
      Failed = Rose (faults before + a.failed) (faults after + b.failed);
      Unchanged = Same;
    };
    output = output;
    recon = recon;
    place = place;
  }

  abbrev known : Work
  known = record { input = read_behind left faults a.at before b.at after; output = output; recon = recon; place = place }

  -- What came of the source came of the frames, where reading didn't fail or no fault was found.
  pub encoded_read : (o : EncodeOutcome) → a.failed ≡ 0 → (o ≡ Stopped errors.Read → b.failed ≡ 0) → (Same → (b.at ≡ a.at) × (left after ≡ left before))
      → EncodeComes m given o → FramesCome m known (Encoded o)
  unfolding FramesCome
  encoded_read o none behind same c =
      comes_read (told_left a.at (left before)) (told_left b.at (left after)) (Rose (faults before + a.failed) (faults after + b.failed)) (Rose (faults before) (faults after)) Same ((b.at ≡ a.at) × (left after ≡ left before))
      output recon place m o (λ is rose. unfailed_rose (faults before) (faults after) a.failed b.failed none (behind is) rose) same c

  -- Nothing is left of a source that found a fault but the fault's mark.
  pub mark_left : (o : Option (List ℕ)) (f : Y4mFault) → b.at.fault ≡ Some f → IfSome (told_left b.at o) (λ rest. rest ≡ mark f ∷ [])
  unfolding coming left_of
  mark_left None f is = tt
  mark_left (Some text) f is = ap (λ (x : Option Y4mFault). left_of (unless_broken x (coming_at (size_of b.at.header) b.at.line b.at.rest b.at.place (b.at.unread ++ text)))) is

  pub broken_read_off : (f : Y4mFault) (o : EncodeOutcome) → b.at.fault ≡ Some f → o ≡ Stopped errors.Read → EncodeComes m given o → FramesCome m known (Broken f)
  unfolding FramesCome
  broken_read_off f o is stopped c =
      broken_read (told_left a.at (left before)) (told_left b.at (left after)) (Rose (faults before + a.failed) (faults after + b.failed)) (Rose (faults before) (faults after)) Same ((b.at ≡ a.at) × (left after ≡ left before))
      output recon place m f (mark_left (left after) f is) (subst (λ (x : EncodeOutcome). EncodeComes m given x) stopped c)

-- ---- the text as it was read

-- this header line begins the text, and these raw bytes and the mark of a fault come behind it
abbrev pub Opens : Y4mHeader → Option (List ℕ) → List ℕ → Type 0
Opens h left text = (c : Coming) × Begins text h c × (left ≡ Some (left_of c))

pub opens_text : (text left : Option (List ℕ)) (s : Standing) → IfSome text (OpensWith s left) → IfSome text (Opens s.header (told_left s left))
opens_text None left s o = tt
opens_text (Some text) left s o = (o.coming, o.begins, ap (option_map left_of) o.comes)

-- What came of the frames behind the header line came of the text, which failed where they did.
module _ (i n x y : Option (List ℕ)) (F G U W : Type 0) (output recon : Change) (place : Place) (m : Meant) (h : Y4mHeader) where
  abbrev text_work : Work
  text_work = record { input = record { old = i; new = n; Failed = G; Unchanged = U }; output = output; recon = recon; place = place }

  abbrev its_frames : Work
  its_frames = record { input = record { old = x; new = y; Failed = F; Unchanged = W }; output = output; recon = recon; place = place }

  module _ (failed : F → G) (header : IsHeader h) (opens : IfSome i (Opens h x)) (now : Standing) (ahead : length now.unread ≤ most_ahead) (is_left : y ≡ told_left now n)
      (end : IsAtEnd y → IsAtEnd n) (unread : W → TookText i [] now n) where
    abbrev behind_text : Behind text_work.input
    behind_text = record { header = h; within = header; old = x; new = y; text = opens; now = now; ahead = ahead; left = is_left; end = end }

    text_stands : (o : Option (List ℕ)) → Stands o its_frames → Stands o text_work
    text_stands (Some name) c = c
    text_stands None c = c

    first_of : (o : Option (List ℕ)) (bytes : List ℕ) (f : Y4mFault) → IfSome o (Opens h x) → Moves x bytes y → IfSome y (λ rest. rest ≡ mark f ∷ [])
        → IfSome o (λ text. All (λ b. b < 256) text → Begins text h (record { raw = bytes; fault = Some f }))
    first_of None bytes f o moved left = tt
    first_of (Some text) bytes f o moved left = λ all. first_fault text h o.0 x y bytes f all o.1 o.2 moved left

    pub text_comes : (o : Y4mOutcome) → FramesCome (with_header h m) its_frames o → Y4mComes m text_work o
    unfolding FramesCome Y4mComes inside_read
    text_comes (Unread e) c = absurd c
    text_comes (Encoded o) c = record {
      behind = behind_text;
      comes = comes_read x y F G W (TookText i [] now n) output recon place (with_header h m) o (λ is. failed) unread c;
    }
    text_comes (Broken f) c = record {
      behind = behind_text;
      passes = c.passes;
      inside = inside_read x y F G W (TookText i [] now n) output (recon_by m.recon recon) (with_header h m).settings c.inside;
      stands = text_stands m.recon c.stands;
      first = first_of i (raw c.inside.frames ++ c.inside.part) f opens c.inside.begun.moved c.left;
    }

-- the same by the states of the input: before the header line was read, behind it, and behind the frames
pub text_answer : {S : Type 0} (left : S → Option (List ℕ)) (faults : S → ℕ) (first before after last : S) (at now : Standing) (output recon : Change) (place : Place) (m w : Meant) (h : Y4mHeader) (o : Y4mOutcome)
    → last ≡ after → h ≡ at.header → w ≡ with_header h m → IsHeader at.header → IsOpen (left first) at (left before) → faults first ≤ faults before
    → IsHeader now.header → length now.unread ≤ most_ahead
    → FramesCome w (record { input = read_behind left faults at before now after; output = output; recon = recon; place = place }) o
    → Y4mComes m (record { input = change left faults first last; output = output; recon = recon; place = place }) o
text_answer left faults first before after last at now output recon place m w h o same says meant header opens less sound ahead comes =
    text_comes (left first) (left last) (told_left at (left before)) (told_left now (left after)) (Rose (faults before) (faults after)) (Rose (faults first) (faults last)) (last ≡ first) ((now ≡ at) × (left after ≡ left before))
    output recon place m h (λ rose. subst (λ (n : ℕ). Rose (faults first) n) (sym (ap faults same)) (rose_since less rose)) (subst IsHeader (sym says) header)
    (subst (λ (x : Y4mHeader). IfSome (left first) (Opens x (told_left at (left before)))) (sym says) (opens_text (left first) (left before) at opens.opens))
    now ahead (sym is_last) (λ end. over_behind now (left last) sound (subst IsAtEnd (sym is_last) end)) unread o
    (subst (λ (x : Meant). FramesCome x (record { input = read_behind left faults at before now after; output = output; recon = recon; place = place }) o) meant comes)
  where
    is_last : told_left now (left last) ≡ told_left now (left after)
    is_last = ap (λ s. told_left now (left s)) same

    unread : (now ≡ at) × (left after ≡ left before) → TookText (left first) [] now (left last)
    unread is =
        subst (λ (l : Option (List ℕ)). TookText (left first) [] now l) (sym (ap left same ∙ is.1))
        (subst (λ (s : Standing). TookText (left first) [] s (left before)) (sym is.0) opens.took)
