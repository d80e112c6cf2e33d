-- Packing frame after frame: what stands after one more, and where it stops.
use Rattle.std.proofs.Common.{◌≡◌, ℕ, ◌+◌, ◌*◌, ◌<◌, ◌≤◌, List, [], ◌∷◌, ◌++◌, length, take, drop, Option, Result, Ok, Err, IfOk, IfErr, refl, sym, subst, ap, ap₂, ◌∙◌, arith, inl, inr}
use Rattle.std.proofs.Math.Nat.{suc-mul}
use Rattle.std.specs.Prelude.{codes}
use Rattle.std.specs.List.{flat_map}
use Rattle.std.proofs.lemmas.List.{length-append, append-nil, append_assoc, length-drop, take-append-drop}
use Rattle.std.proofs.lemmas.List.Concat.{flat_map-append}
use Rattle.std.proofs.lemmas.List.Elements.{All-append, All-cons, All-nil, All-head, All-tail}
use Rattle.m2v_port.specs.Ends.{Change, change}
use Rattle.m2v_port.specs.Port.{Moves, IsAtEnd, Grows, GrowsByPrefix}
use Rattle.m2v_port.proofs.Runs.{rose_since, moves_on, moves_nothing, then_nothing, grows_on, grows_by_all, grows_by_none, prefix_on}
use Rattle.m2v_plane.specs.Raw.{raw}
use Rattle.m2v_y4m.specs.declared.header.Y4mHeader.{Y4mHeader}
use Rattle.m2v_y4m.specs.declared.answer.PackSummary.{PackSummary}
use Rattle.m2v_y4m.specs.declared.answer.EncodeFault.{EncodeFault}
use Rattle.m2v_y4m.specs.declared.answer.EncodeFault.TheVariants.{Read, Write, ShortFrame, TooManyFrames, Memory}
use Rattle.m2v_y4m.specs.Frames.{AreWhole, size_of}
use Rattle.m2v_y4m.specs.Writing.{header_text, frame_text, y4m_text}
use Rattle.m2v_y4m.specs.Answers.{most_frames, Packed, PackedBefore, PackedPart, PackStops, PackEnds}
use Rattle.m2v_y4m.proofs.LineLaws.{take_all}
use Rattle.m2v_y4m.specs.Packing.{SoFar, FramePacked, FrameCut, FrameStops, ReadStops}

pub raw_more : (frames : List (List ℕ)) (f : List ℕ) → raw (frames ++ f ∷ []) ≡ raw frames ++ f
raw_more frames f = flat_map-append (λ (x : List ℕ). x) frames (f ∷ []) ∙ ap (λ (t : List ℕ). raw frames ++ t) (append-nil f)

text_more : (h : Y4mHeader) (frames : List (List ℕ)) (f : List ℕ) → y4m_text h (frames ++ f ∷ []) ≡ y4m_text h frames ++ frame_text f
unfolding y4m_text
text_more h frames f =
    ap (λ t. header_text h ++ t) (flat_map-append frame_text frames (f ∷ []) ∙ ap (λ t. flat_map frame_text frames ++ t) (append-nil (frame_text f)))
    ∙ sym (append_assoc (header_text h) (flat_map frame_text frames) (frame_text f))

text_none : (h : Y4mHeader) → y4m_text h [] ≡ header_text h
unfolding y4m_text
text_none h = append-nil (header_text h)

pub whole_more : (size : ℕ) (h : Y4mHeader) (frames : List (List ℕ)) (f : List ℕ) → AreWhole h frames → length f ≡ size_of h → AreWhole h (frames ++ f ∷ [])
whole_more size h frames f whole is =
    let P = λ (x : List ℕ). length x ≡ size_of h in
    All-append P frames (f ∷ []) whole (All-cons P f [] is (All-nil P))

pub count_more : (frames : List (List ℕ)) (f : List ℕ) (n : ℕ) → length frames ≡ n → length (frames ++ f ∷ []) ≡ n + 1
count_more frames f n is = omega (arith, length-append frames (f ∷ []), is)

moved_more : (l0 l1 l2 : Option (List ℕ)) (frames : List (List ℕ)) (f : List ℕ) → Moves l0 (raw frames) l1 → Moves l1 f l2 → Moves l0 (raw (frames ++ f ∷ [])) l2
moved_more l0 l1 l2 frames f first second = subst (λ (b : List ℕ). Moves l0 b l2) (sym (raw_more frames f)) (moves_on first second)

-- the bytes of so many frames of one size
texts_size : (size : ℕ) (h : Y4mHeader) (frames : List (List ℕ)) → size ≡ size_of h → AreWhole h frames → length (flat_map frame_text frames) ≡ length frames * (6 + size)
texts_size size h [] is whole = omega arith
texts_size size h (f ∷ frames) is whole =
    let P = λ (x : List ℕ). length x ≡ size_of h in
    let here : length f ≡ size_of h = All-head P f frames whole in
    let behind = texts_size size h frames is (All-tail P f frames whole) in
    rw (suc-mul (length frames) (6 + size)) (omega (arith, length-append (frame_text f) (flat_map frame_text frames), behind, here, is))

total_size : (h : Y4mHeader) (frames : List (List ℕ)) (number size bytes : ℕ) → size ≡ size_of h → bytes ≡ length (header_text h) → length frames ≡ number
    → AreWhole h frames → bytes + number * (6 + size) ≡ length (y4m_text h frames)
unfolding y4m_text
total_size h frames number size bytes same line count whole =
    ap₂ (λ a b. a + b) line (ap (λ n. n * (6 + size)) (sym count) ∙ sym (texts_size size h frames same whole))
    ∙ sym (length-append (header_text h) (flat_map frame_text frames))

module _ {S K : Type 0} (left : S → Option (List ℕ)) (input_faults : S → ℕ) (held : K → Option (List ℕ)) (output_faults : K → ℕ) where
  abbrev input : S → S → Change
  input = change left input_faults

  abbrev output : K → K → Change
  output = change held output_faults

  pub so_far_none : (h : Y4mHeader) (i0 : S) (o0 o1 : K) → Grows (held o0) (header_text h) (held o1) → SoFar h 0 (input i0 i0) (output o0 o1)
  so_far_none h i0 o0 o1 grown = record {
    frames = [];
    count = refl;
    whole = All-nil (λ (x : List ℕ). length x ≡ size_of h);
    moved = moves_nothing (left i0);
    grown = subst (λ (b : List ℕ). Grows (held o0) b (held o1)) (sym (text_none h)) grown;
  }

  pub so_far_more : (h : Y4mHeader) (number : ℕ) (i0 i1 i2 : S) (o0 o1 o2 : K)
      → SoFar h number (input i0 i1) (output o0 o1) → FramePacked (size_of h) (input i1 i2) (output o1 o2) → SoFar h (number + 1) (input i0 i2) (output o0 o2)
  so_far_more h number i0 i1 i2 o0 o1 o2 before next = record {
    frames = before.frames ++ next.frame ∷ [];
    count = count_more before.frames next.frame number before.count;
    whole = whole_more number h before.frames next.frame before.whole next.whole;
    moved = moved_more (left i0) (left i1) (left i2) before.frames next.frame before.moved next.moved;
    grown = subst (λ (b : List ℕ). Grows (held o0) b (held o2)) (sym (text_more h before.frames next.frame)) (grows_on before.grown next.grown);
  }

  -- a part of the next frame was read
  before_here : (h : Y4mHeader) (number : ℕ) (part : List ℕ) (i0 i1 i2 : S) (o0 o1 o2 : K) → number ≤ most_frames
      → (before : SoFar h number (input i0 i1) (output o0 o1)) → Moves (left i1) part (left i2) → held o2 ≡ held o1
      → PackedBefore h (input i0 i2) (output o0 o2) before.frames part
  before_here h number part i0 i1 i2 o0 o1 o2 small before moved same = record {
    most = omega (arith, before.count);
    whole = before.whole;
    moved = moves_on before.moved moved;
    grown = subst (λ (x : Option (List ℕ)). Grows (held o0) (y4m_text h before.frames) x) (sym same) before.grown;
  }

  lost_here : (h : Y4mHeader) (number : ℕ) (part : List ℕ) (i0 i1 i2 : S) (o0 o1 o2 : K) → number ≤ most_frames
      → SoFar h number (input i0 i1) (output o0 o1) → Moves (left i1) part (left i2) → length part < size_of h → held o2 ≡ held o1
      → PackedPart h (input i0 i2) (output o0 o2)
  lost_here h number part i0 i1 i2 o0 o1 o2 small before moved less same =
      let here = before_here h number part i0 i1 i2 o0 o1 o2 small before moved same in
      record { frames = before.frames; part = part; most = here.most; whole = here.whole; less = less; moved = here.moved; grown = grows_by_all here.grown }

  cut_here : (h : Y4mHeader) (number : ℕ) (i0 i1 i2 : S) (o0 o1 o2 : K) → 1 ≤ size_of h → number < most_frames
      → SoFar h number (input i0 i1) (output o0 o1) → FrameCut (size_of h) (input i1 i2) (output o1 o2) → PackedPart h (input i0 i2) (output o0 o2)
  cut_here h number i0 i1 i2 o0 o1 o2 some small before next = record {
    frames = before.frames ++ next.frame ∷ [];
    part = [];
    most = omega (arith, count_more before.frames next.frame number before.count);
    whole = whole_more number h before.frames next.frame before.whole next.whole;
    less = omega arith;
    moved = moves_on (moved_more (left i0) (left i1) (left i2) before.frames next.frame before.moved next.moved) (moves_nothing (left i2));
    grown = subst (λ (b : List ℕ). GrowsByPrefix (held o0) b (held o2)) (sym (text_more h before.frames next.frame)) (prefix_on before.grown next.grown);
  }

  pub stopped : (h : Y4mHeader) (number : ℕ) (i0 i1 i2 : S) (o0 o1 o2 : K) (e : EncodeFault) → 1 ≤ size_of h → number < most_frames
      → input_faults i0 ≤ input_faults i1 → output_faults o0 ≤ output_faults o1
      → SoFar h number (input i0 i1) (output o0 o1) → FrameStops (size_of h) (input i1 i2) (output o1 o2) e → PackStops h (input i0 i2) (output o0 o2) e
  unfolding PackStops FrameStops
  stopped h number i0 i1 i2 o0 o1 o2 Read some small reads puts before s =
      (rose_since reads s.0, lost_here h number s.1.moved.part i0 i1 i2 o0 o1 o2 (omega arith) before s.1.moved.moved s.1.moved.fewer s.1.same)
  stopped h number i0 i1 i2 o0 o1 o2 Write some small reads puts before s = (rose_since puts s.0, cut_here h number i0 i1 i2 o0 o1 o2 some small before s.1)
  stopped h number i0 i1 i2 o0 o1 o2 (ShortFrame extra) some small reads puts before s = record {
    frames = before.frames;
    part = s.moved.part;
    before = before_here h number s.moved.part i0 i1 i2 o0 o1 o2 (omega arith) before s.moved.moved s.same;
    fewer = omega (arith, before.count);
    count = s.count;
    some = s.some;
    less = omega (arith, s.count, s.moved.fewer);
    end = s.end;
  }
  stopped h number i0 i1 i2 o0 o1 o2 TooManyFrames some small reads puts before s = absurd s
  stopped h number i0 i1 i2 o0 o1 o2 Memory some small reads puts before (inl lost) =
      lost_here h number lost.moved.part i0 i1 i2 o0 o1 o2 (omega arith) before lost.moved.moved lost.moved.fewer lost.same
  stopped h number i0 i1 i2 o0 o1 o2 Memory some small reads puts before (inr cut) = cut_here h number i0 i1 i2 o0 o1 o2 some small before cut

  pub ended : (h : Y4mHeader) (number size bytes : ℕ) (i0 i1 i2 : S) (o0 o1 o2 : K) (summary : PackSummary) → number ≤ most_frames → size ≡ size_of h → bytes ≡ length (header_text h)
      → SoFar h number (input i0 i1) (output o0 o1) → Moves (left i1) [] (left i2) → IsAtEnd (left i2) → held o2 ≡ held o1
      → summary ≡ record { frames = number; bytes = bytes + number * (6 + size) } → Packed h (input i0 i2) (output o0 o2) summary
  ended h number size bytes i0 i1 i2 o0 o1 o2 summary small same line before moved end stays is = record {
    frames = before.frames;
    most = omega (arith, before.count);
    whole = before.whole;
    moved = then_nothing before.moved moved;
    end = end;
    grown = subst (λ (x : Option (List ℕ)). Grows (held o0) (y4m_text h before.frames) x) (sym stays) before.grown;
    numbers = is ∙ ap₂ (λ n b. record { frames = n; bytes = b }) (sym before.count) (total_size h before.frames number size bytes same line before.count before.whole);
  }

  pub went_on : (h : Y4mHeader) (number byte : ℕ) (i0 i1 i2 : S) (o0 o1 : K) → number ≡ most_frames
      → SoFar h number (input i0 i1) (output o0 o1) → Moves (left i1) (byte ∷ []) (left i2) → PackStops h (input i0 i2) (output o0 o1) TooManyFrames
  unfolding PackStops
  went_on h number byte i0 i1 i2 o0 o1 all before moved = record {
    frames = before.frames;
    next = byte;
    before = before_here h number (byte ∷ []) i0 i1 i2 o0 o1 o1 (omega arith) before moved refl;
    all = omega (arith, before.count);
  }

  pub look_stopped : (h : Y4mHeader) (number : ℕ) (i0 i1 i2 : S) (o0 o1 : K) (e : EncodeFault) → 1 ≤ size_of h → number ≤ most_frames → input_faults i0 ≤ input_faults i1
      → SoFar h number (input i0 i1) (output o0 o1) → ReadStops 1 (input i1 i2) e → PackStops h (input i0 i2) (output o0 o1) e
  unfolding PackStops ReadStops
  look_stopped h number i0 i1 i2 o0 o1 Read some small reads before s =
      (rose_since reads s.0, lost_here h number s.1.part i0 i1 i2 o0 o1 o1 small before s.1.moved (omega (arith, s.1.fewer)) refl)
  look_stopped h number i0 i1 i2 o0 o1 Memory some small reads before s = lost_here h number s.part i0 i1 i2 o0 o1 o1 small before s.moved (omega (arith, s.fewer)) refl
  look_stopped h number i0 i1 i2 o0 o1 _ some small reads before s = absurd s

  -- the header line wasn't written whole
  pub line_part : (h : Y4mHeader) (bytes : List ℕ) (i0 : S) (o0 o1 : K) → 1 ≤ size_of h → bytes ≡ header_text h
      → GrowsByPrefix (held o0) bytes (held o1) → PackedPart h (input i0 i0) (output o0 o1)
  line_part h bytes i0 o0 o1 some is s = record {
    frames = [];
    part = [];
    most = omega arith;
    whole = All-nil (λ (x : List ℕ). length x ≡ size_of h);
    less = omega arith;
    moved = moves_nothing (left i0);
    grown = subst (λ (b : List ℕ). GrowsByPrefix (held o0) b (held o1)) (is ∙ sym (text_none h)) s;
  }

  -- nothing was written
  pub not_begun : (h : Y4mHeader) (i0 : S) (o0 : K) → 1 ≤ size_of h → PackStops h (input i0 i0) (output o0 o0) Memory
  unfolding PackStops
  not_begun h i0 o0 some = line_part h (header_text h) i0 o0 o0 some refl (grows_by_none (header_text h))

-- a frame that wasn't read
pub next_lost : (size : ℕ) (left held : Change) (e : EncodeFault) → held.new ≡ held.old → ReadStops size left e → FrameStops size left held e
unfolding ReadStops FrameStops
next_lost size left held Read same s = (s.0, record { moved = s.1; same = same })
next_lost size left held Memory same s = inl (record { moved = s; same = same })
next_lost size left held _ same s = absurd s

-- a frame that was read behind its line, and wasn't written whole
pub frame_cut : (n size : ℕ) (left held : Change) (text : List ℕ) → take 6 text ≡ codes "FRAME\n" → length text ≡ 6 + size → size ≤ n
    → Moves left.old (take n (drop 6 text)) left.new → GrowsByPrefix held.old text held.new → FrameCut size left held
frame_cut n size left held text line room all moved grown = record {
  frame = drop 6 text;
  whole = whole;
  moved = subst (λ (b : List ℕ). Moves left.old b left.new) (take_all n (drop 6 text) (omega (arith, whole, all))) moved;
  grown = subst (λ (b : List ℕ). GrowsByPrefix held.old b held.new) is grown;
}
  where
    whole : length (drop 6 text) ≡ size
    whole = omega (arith, length-drop 6 text, room)

    is : text ≡ frame_text (drop 6 text)
    is = sym (take-append-drop 6 text) ∙ ap (λ l. l ++ drop 6 text) line

-- where packing ended, by its answer
pub packed_there : (h : Y4mHeader) (left held : Change) (r : Result PackSummary EncodeFault) → PackEnds h left held r → IfOk r (Packed h left held)
packed_there h left held (Ok summary) ends = ends
packed_there h left held (Err e) ends = tt

pub stopped_there : (h : Y4mHeader) (left held : Change) (r : Result PackSummary EncodeFault) → PackEnds h left held r → IfErr r (PackStops h left held)
stopped_there h left held (Ok summary) ends = tt
stopped_there h left held (Err e) ends = ends
