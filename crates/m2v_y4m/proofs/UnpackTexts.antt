-- What was given of a text, as what the text is.
use Rattle.std.proofs.Common.{◌≡◌, ◌⊎◌, inl, inr, ℕ, zero, suc, ◌+◌, ◌*◌, ◌<◌, ◌≤◌, ◌==◌, ◌&&◌, Bool, true, false, nat_lt, List, [], ◌∷◌, ◌++◌, length, take, drop, Option, Some, None, IfSome, Result, Ok, Err, refl, sym, subst, ap, ap₂, ◌∙◌, arith}
use Rattle.std.specs.Prelude.{if◌then◌else◌}
use Rattle.std.proofs.Math.Nat.{suc-mul}
use Rattle.std.proofs.lemmas.List.{append-nil, length-append, length-take-le}
use Rattle.std.proofs.lemmas.List.Elements.{All-head, All-tail, All-nil}
use Rattle.m2v_port.specs.Ends.{Change, change}
use Rattle.m2v_port.specs.Port.{IsAtEnd, Grows}
use Rattle.m2v_port.proofs.Runs.{rose_since, grows_by_nothing}
use Rattle.m2v_plane.specs.Raw.{raw}
use Rattle.m2v_y4m.specs.declared.answer.Y4mFault.{Y4mFault}
use Rattle.m2v_y4m.specs.declared.answer.Y4mKind.{Y4mKind}
use Rattle.m2v_y4m.specs.declared.answer.PackSummary.{PackSummary}
use Rattle.m2v_y4m.specs.declared.header.Y4mHeader.{Y4mHeader}
use Rattle.m2v_y4m.specs.declared.answer.UnpackError.{UnpackError}
use Rattle.m2v_y4m.specs.declared.answer.UnpackError.TheVariants as errors
use Rattle.std.proofs.lemmas.Bool.Decides.{nat_tests}
use Rattle.m2v_y4m.specs.declared.answer.Y4mKind.TheVariants.{Frame}
use Rattle.m2v_y4m.specs.Texts.{onward}
use Rattle.m2v_y4m.specs.Header.{fault_at}
use Rattle.m2v_y4m.specs.Frames.{Coming, nothing, with_front, broken, in_frame, at_line, in_steps, frames_from, frame_line, Begins, AreWhole, size_of, Y4m, EndsShort}
use Rattle.m2v_y4m.specs.Sources.{Standing, most_ahead, Spot, spot, ReadOn, comes_of, OpensWith, IsOpen}
use Rattle.m2v_y4m.specs.Answers.{most_frames, Unpacked, FramesRead, UnpackLost, UnpackCut, UnpackBroken, UnpackStops}
use Rattle.m2v_y4m.specs.Reading.{Gave, comes_at}
use Rattle.m2v_y4m.specs.Giving.{AllGiven, GivenLost, GivenCut, GivingStops}
use Rattle.m2v_y4m.proofs.Spots.{gave_by, taken_on, taken_gives}

value : Option Coming → Coming
value None = nothing
value (Some c) = c

-- all that comes of a text, from what was given of it and what comes then
with_coming : (bytes : List ℕ) (c1 : Option Coming) (coming k : Coming) → Gave (Some coming) bytes c1 → IfSome c1 (λ c. c ≡ k) → coming ≡ with_front bytes k
unfolding value
with_coming bytes None coming k gave is = absurd (cc)
with_coming bytes (Some c) coming k gave is = ap value gave.was ∙ ap (with_front bytes) is

-- what holds of a text by the header line that was read
tells_with : (s : Standing) (left0 left1 : Option (List ℕ)) (Holds : List ℕ → Type 0) → IfSome left0 (OpensWith s left1)
    → ((text : List ℕ) (coming : Coming) → Begins text s.header coming → comes_of s left1 ≡ Some coming → Holds text) → IfSome left0 Holds
tells_with s None left1 Holds opens each = tt
tells_with s (Some text) left1 Holds opens each = each text opens.coming opens.begins opens.comes

module _ (s : Standing) (left0 left1 : Option (List ℕ)) (opens : IfSome left0 (OpensWith s left1)) (c1 : Option Coming) (bytes : List ℕ) (gave : Gave (comes_of s left1) bytes c1) where
  gave_of : (coming : Coming) → comes_of s left1 ≡ Some coming → Gave (Some coming) bytes c1
  gave_of coming is = subst (λ o. Gave o bytes c1) is gave

  pub text_begins : (k : Coming) → IfSome c1 (λ c. c ≡ k) → IfSome left0 (λ text. Begins text s.header (with_front bytes k))
  text_begins k over = tells_with s left0 left1 (λ text. Begins text s.header (with_front bytes k)) opens
      (λ text coming begins is. subst (λ c. Begins text s.header c) (with_coming bytes c1 coming k (gave_of coming is) over) begins)

if_told : (o : Option (List ℕ)) (P Q : List ℕ → Type 0) → ((t : List ℕ) → P t → Q t) → IfSome o P → IfSome o Q
if_told None P Q weaker is = tt
if_told (Some t) P Q weaker is = weaker t is

-- ---- conversions

pub raw_size : (size : ℕ) (h : Y4mHeader) (frames : List (List ℕ)) → size ≡ size_of h → AreWhole h frames → length (raw frames) ≡ length frames * size
raw_size size h [] is whole = omega arith
raw_size size h (f ∷ frames) is whole =
    let P = λ (x : List ℕ). length x ≡ size_of h in
    let here : length f ≡ size_of h = All-head P f frames whole in
    let behind = raw_size size h frames is (All-tail P f frames whole) in
    rw (suc-mul (length frames) size) (omega (arith, length-append f (raw frames), behind, here, is))

pub all_unpacked : (s : Standing) (left1 : Option (List ℕ)) (left left_then held : Change) (c1 : Spot) (number : ℕ) (summary : PackSummary)
    → 1 ≤ size_of s.header → IfSome left.old (OpensWith s left1) → number ≤ most_frames → AllGiven s.header number (spot s left1) c1 left_then held → left_then.new ≡ left.new
    → summary ≡ record { frames = number; bytes = number * size_of s.header } → Unpacked left held summary
all_unpacked s left1 left left_then held c1 number summary some opens small given same is =
    let so_far = given.given in
    record {
      header = s.header;
      frames = so_far.frames;
      size = some;
      most = omega (arith, so_far.count);
      whole = so_far.whole;
      text = if_told left.old (λ t. Begins t s.header (with_front (raw so_far.frames) nothing)) (λ t. Y4m t s.header so_far.frames)
          (λ t begins. record { whole = so_far.whole; begins = subst (λ l. Begins t s.header (record { raw = l; fault = None })) (append-nil (raw so_far.frames)) begins })
          (text_begins s left.old left1 opens (comes_at c1) (raw so_far.frames) (gave_by (spot s left1) c1 (raw so_far.frames) so_far.read) nothing given.over);
      end = subst IsAtEnd same given.end;
      grown = so_far.grown;
      numbers = is ∙ ap₂ (λ n b. record { frames = n; bytes = b }) (sym so_far.count)
          (ap (λ n. n * size_of s.header) (sym so_far.count) ∙ sym (raw_size (size_of s.header) s.header so_far.frames refl so_far.whole));
    }

-- ---- where a text is broken, whole frames stand before it

abbrev WholeBefore : ℕ → Coming → Type 0
WholeBefore size c = (c.fault ≡ None) ⊎ ((k : ℕ) × (length c.raw ≡ k * size))

in_frame_whole : (size line : ℕ) (text : List ℕ) (behind : Coming) → WholeBefore size behind → WholeBefore size (in_frame size line size text behind)
unfolding in_frame
in_frame_whole size line text behind whole = by_none (length text == 0 && size == size)
  where
    by_less : (b : Bool) → nat_lt (length text) size ≡ b
        → WholeBefore size (if b then record { raw = text; fault = None } else record { raw = take size text ++ behind.raw; fault = behind.fault })
    by_less true is = inl refl
    by_less false is = of_behind whole
      where
        of_behind : WholeBefore size behind → WholeBefore size (record { raw = take size text ++ behind.raw; fault = behind.fault })
        of_behind (inl none) = inl none
        of_behind (inr multiple) =
            let most : size ≤ length text = grind (arith, nat_tests) in
            inr (suc multiple.0, length-append (take size text) behind.raw ∙ rw (suc-mul multiple.0 size) (omega (arith, length-take-le size text most, multiple.1)))

    by_none : (b : Bool) → WholeBefore size (if b then broken (fault_at Frame line) else (if nat_lt (length text) size then record { raw = text; fault = None } else record { raw = take size text ++ behind.raw; fault = behind.fault }))
    by_none true = inr (0, omega arith)
    by_none false = by_less (nat_lt (length text) size) refl

steps_whole : (steps size place : ℕ) (text : List ℕ) → WholeBefore size (in_steps steps size place text)
unfolding in_steps at_line
steps_whole zero size place text = inl refl
steps_whole (suc steps) size place [] = inl refl
steps_whole (suc steps) size place (b ∷ text) = by_line (frame_line (b ∷ text)) (λ n. steps_whole steps size (onward (onward place n) size) (drop (n + size) (b ∷ text)))
  where
    by_line : (r : Result ℕ Y4mKind) → ((n : ℕ) → WholeBefore size (in_steps steps size (onward (onward place n) size) (drop (n + size) (b ∷ text))))
        → WholeBefore size (at_line size place (b ∷ text) r (λ n. in_steps steps size (onward (onward place n) size) (drop (n + size) (b ∷ text))))
    by_line (Err kind) behind = inr (0, omega arith)
    by_line (Ok n) behind = in_frame_whole size place (drop n (b ∷ text)) _ (behind n)

part_none : (n k p size : ℕ) → n * size + p ≡ k * size → p < size → p ≡ 0
part_none zero zero p size is less = omega (arith, is)
part_none zero (suc k) p size is less = absurd (omega (arith, is, suc-mul k size))
part_none (suc n) zero p size is less = absurd (omega (arith, is, suc-mul n size))
part_none (suc n) (suc k) p size is less = part_none n k p size (omega (arith, is, suc-mul n size, suc-mul k size)) less

no_bytes : (part : List ℕ) → length part ≡ 0 → part ≡ []
no_bytes [] is = refl
no_bytes (b ∷ part) is = absurd (omega arith)

-- a fault stands behind whole frames
behind_frames : (text : List ℕ) (h : Y4mHeader) (frames : List (List ℕ)) (part : List ℕ) (fault : Y4mFault) → AreWhole h frames → length part < size_of h
    → Begins text h (with_front (raw frames ++ part) (broken fault)) → Begins text h (record { raw = raw frames; fault = Some fault })
unfolding frames_from
behind_frames text h frames part fault whole less begins =
    by_whole (subst (WholeBefore (size_of h)) (sym begins.comes) (steps_whole _ (size_of h) _ _))
  where
    by_whole : WholeBefore (size_of h) (with_front (raw frames ++ part) (broken fault)) → Begins text h (record { raw = raw frames; fault = Some fault })
    by_whole (inl none) = absurd (cc)
    by_whole (inr multiple) =
        let count : length frames * size_of h + length part ≡ multiple.0 * size_of h =
        omega (arith, sym multiple.1, ap length (append-nil (raw frames ++ part)), length-append (raw frames) part, raw_size (size_of h) h frames refl whole) in
        let none : part ≡ [] = no_bytes part (part_none (length frames) multiple.0 (length part) (size_of h) count less) in
        subst (λ l. Begins text h (record { raw = l; fault = Some fault })) (append-nil (raw frames ++ part) ∙ ap (λ l. raw frames ++ l) none ∙ append-nil (raw frames)) begins

-- no frame was begun
pub none_read : (left held : Change) (s : Standing) → 1 ≤ size_of s.header → IsOpen left.old s left.new → held.new ≡ held.old → UnpackLost left held
none_read left held s some opens same = UnpackLost.opened s [] [] (record {
  most = omega arith;
  whole = All-nil (λ (x : List ℕ). length x ≡ size_of s.header);
  less = some;
  took = opens.took;
  text = taken_gives left [] s opens.took;
}) (subst (λ (o : Option (List ℕ)). Grows held.old [] o) (sym same) (grows_by_nothing held.old))

module _ {S K : Type 0} (left : S → Option (List ℕ)) (input_faults : S → ℕ) (held : K → Option (List ℕ)) (output_faults : K → ℕ) where
  frames_read : (s t : Standing) (i0 i1 i2 : S) (frames : List (List ℕ)) (part : List ℕ) → IsOpen (left i0) s (left i1) → length t.unread ≤ most_ahead
      → length frames ≤ most_frames → AreWhole s.header frames → length part < size_of s.header → ReadOn (spot s (left i1)) (raw frames ++ part) (spot t (left i2))
      → FramesRead (change left input_faults i0 i2) t frames part
  frames_read s t i0 i1 i2 frames part opens few most whole less read =
      let took = taken_on (left i0) s t (left i1) (left i2) [] (raw frames ++ part) opens.took read few in
      record {
        most = most;
        whole = subst (λ (h : Y4mHeader). AreWhole h frames) (sym read.header) whole;
        less = subst (λ (h : Y4mHeader). length part < size_of h) (sym read.header) less;
        took = took;
        text = taken_gives (change left input_faults i0 i2) (raw frames ++ part) t took;
      }

  lost_read : (s t : Standing) (i0 i1 i2 : S) (o0 o1 : K) → IsOpen (left i0) s (left i1) → length t.unread ≤ most_ahead
      → GivenLost s.header (spot s (left i1)) (spot t (left i2)) (change held output_faults o0 o1) → UnpackLost (change left input_faults i0 i2) (change held output_faults o0 o1)
  lost_read s t i0 i1 i2 o0 o1 opens few lost = UnpackLost.opened t lost.frames lost.part
      (frames_read s t i0 i1 i2 lost.frames lost.part opens few lost.most lost.before.whole lost.less lost.before.read) lost.before.grown

  cut_read : (s t : Standing) (i0 i1 i2 : S) (o0 o1 : K) → 1 ≤ size_of s.header → IsOpen (left i0) s (left i1) → length t.unread ≤ most_ahead
      → GivenCut s.header (spot s (left i1)) (spot t (left i2)) (change held output_faults o0 o1) → UnpackCut (change left input_faults i0 i2) (change held output_faults o0 o1)
  cut_read s t i0 i1 i2 o0 o1 some opens few cut =
      let all = subst (λ b. ReadOn (spot s (left i1)) b (spot t (left i2))) (sym (append-nil (raw cut.frames))) cut.read in
      record {
        at = t;
        frames = cut.frames;
        read = frames_read s t i0 i1 i2 cut.frames [] opens few cut.most cut.whole some all;
        grown = cut.grown;
        lacks = subst (λ (h : Y4mHeader). length cut.grown.rest ≤ size_of h) (sym cut.read.header) cut.lacks;
      }

  pub unpack_stops : (s t : Standing) (i0 i1 i2 : S) (o0 o1 : K) (e : UnpackError) → 1 ≤ size_of s.header → IsOpen (left i0) s (left i1) → length t.unread ≤ most_ahead
      → input_faults i0 ≤ input_faults i1
      → GivingStops s.header (spot s (left i1)) (spot t (left i2)) (change left input_faults i1 i2) (change held output_faults o0 o1) e
      → UnpackStops (change left input_faults i0 i2) (change held output_faults o0 o1) e
  unfolding GivingStops UnpackStops
  unpack_stops s t i0 i1 i2 o0 o1 errors.Read some opens few reads g = (rose_since reads g.0, lost_read s t i0 i1 i2 o0 o1 opens few g.1)
  unpack_stops s t i0 i1 i2 o0 o1 errors.Write some opens few reads g = (g.0, cut_read s t i0 i1 i2 o0 o1 some opens few g.1)
  unpack_stops s t i0 i1 i2 o0 o1 (errors.ShortFrame extra) some opens few reads g =
      let short = g.1 in
      record {
        header = s.header;
        frames = short.frames;
        fewer = short.fewer;
        whole = short.before.whole;
        text = if_told (left i0) (λ t. Begins t s.header (with_front (raw short.frames ++ short.part) nothing)) (λ t. EndsShort t s.header short.frames extra)
            (λ t begins. record {
              part = short.part;
              whole = short.before.whole;
              count = short.count;
              some = short.some;
              less = short.less;
              begins = subst (λ l. Begins t s.header (record { raw = l; fault = None })) (append-nil (raw short.frames ++ short.part)) begins;
            })
            (text_begins s (left i0) (left i1) opens.opens (comes_of t (left i2)) (raw short.frames ++ short.part)
            (gave_by (spot s (left i1)) (spot t (left i2)) (raw short.frames ++ short.part) short.before.read) nothing short.over);
        end = g.0;
        grown = short.before.grown;
      }
  unpack_stops s t i0 i1 i2 o0 o1 errors.TooManyFrames some opens few reads g =
      let took = taken_on (left i0) s t (left i1) (left i2) [] (raw g.frames ++ g.next ∷ []) opens.took g.before.read few in
      record {
        at = t;
        frames = g.frames;
        next = g.next;
        all = g.all;
        whole = subst (λ (h : Y4mHeader). AreWhole h g.frames) (sym g.before.read.header) g.before.whole;
        took = took;
        text = taken_gives (change left input_faults i0 i2) (raw g.frames ++ g.next ∷ []) t took;
        grown = g.before.grown;
      }
  unpack_stops s t i0 i1 i2 o0 o1 (errors.Y4m fault) some opens few reads g = UnpackBroken.behind s.header g.frames g.most g.whole
      (if_told (left i0) (λ t. Begins t s.header (with_front (raw g.frames ++ g.part) (broken fault))) (λ t. Begins t s.header (record { raw = raw g.frames; fault = Some fault }))
      (λ t begins. behind_frames t s.header g.frames g.part fault g.whole g.less begins)
      (text_begins s (left i0) (left i1) opens.opens (comes_of t (left i2)) (raw g.frames ++ g.part) g.gave (broken fault) g.broken))
      g.grown
  unpack_stops s t i0 i1 i2 o0 o1 errors.Memory some opens few reads (inl lost) = inl (lost_read s t i0 i1 i2 o0 o1 opens few lost)
  unpack_stops s t i0 i1 i2 o0 o1 errors.Memory some opens few reads (inr cut) = inr (cut_read s t i0 i1 i2 o0 o1 some opens few cut)
