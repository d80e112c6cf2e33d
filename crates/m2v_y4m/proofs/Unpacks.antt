-- Unpacking frame after frame: what stands after one more, and where it stops.
use Rattle.std.proofs.Common.{◌≡◌, ℕ, ◌+◌, ◌<◌, ◌≤◌, List, [], ◌∷◌, ◌++◌, length, take, Option, None, refl, sym, ◌∙◌, ap, subst, arith, inl, inr, append_assoc, length-append}
use Rattle.std.proofs.lemmas.List.{append-nil}
use Rattle.std.proofs.lemmas.List.Elements.{All-nil}
use Rattle.m2v_port.specs.Ends.{Change, change}
use Rattle.m2v_port.specs.Port.{IsAtEnd, Grows, GrowsByPrefix}
use Rattle.m2v_port.proofs.Runs.{rose_since, grows_on, grows_by_nothing}
use Rattle.m2v_plane.specs.Raw.{raw}
use Rattle.m2v_y4m.specs.declared.header.Y4mHeader.{Y4mHeader}
use Rattle.m2v_y4m.specs.declared.answer.Y4mFault.{Y4mFault}
use Rattle.m2v_y4m.specs.declared.answer.UnpackError.{UnpackError}
use Rattle.m2v_y4m.specs.declared.answer.UnpackError.TheVariants as errors
use Rattle.m2v_y4m.specs.Frames.{size_of}
use Rattle.m2v_y4m.specs.Sources.{Standing, Spot, spot, ReadOn}
use Rattle.m2v_y4m.specs.Answers.{most_frames}
use Rattle.m2v_y4m.specs.Reading.{Gave, comes_at, IsOver, IsBroken, GivenSoFar, FrameGiven, FrameCut, FrameStops, ReadStops}
use Rattle.m2v_y4m.specs.Giving.{AllGiven, GivenLost, GivenCut, GivenBefore, GivenBroken, GivingStops}
use Rattle.m2v_y4m.proofs.LineLaws.{take_all}
use Rattle.m2v_y4m.proofs.Steps.{gave_on}
use Rattle.m2v_y4m.proofs.Spots.{gave_by, read_here, read_on}
use Rattle.m2v_y4m.proofs.Packs.{raw_more, whole_more, count_more}

read_more : (c0 c1 c2 : Spot) (frames : List (List ℕ)) (f : List ℕ) → ReadOn c0 (raw frames) c1 → ReadOn c1 f c2 → ReadOn c0 (raw (frames ++ f ∷ [])) c2
read_more c0 c1 c2 frames f first second = subst (λ b. ReadOn c0 b c2) (sym (raw_more frames f)) (read_on c0 c1 c2 (raw frames) f first second)

module _ {S K : Type 0} (left : S → Option (List ℕ)) (input_faults : S → ℕ) (held : K → Option (List ℕ)) (output_faults : K → ℕ) where
  abbrev input : S → S → Change
  input = change left input_faults

  abbrev output : K → K → Change
  output = change held output_faults

  pub given_none : (h : Y4mHeader) (s : Standing) (i0 : S) (o0 : K) → s.fault ≡ None → GivenSoFar h 0 (spot s (left i0)) (spot s (left i0)) (output o0 o0)
  given_none h s i0 o0 none = record {
    frames = [];
    count = refl;
    whole = All-nil (λ (x : List ℕ). length x ≡ size_of h);
    read = read_here s (left i0) none;
    grown = grows_by_nothing (held o0);
  }

  pub given_more : (h : Y4mHeader) (number : ℕ) (c0 c1 c2 : Spot) (o0 o1 o2 : K) → GivenSoFar h number c0 c1 (output o0 o1) → FrameGiven (size_of h) c1 c2 (output o1 o2)
      → GivenSoFar h (number + 1) c0 c2 (output o0 o2)
  given_more h number c0 c1 c2 o0 o1 o2 before next = record {
    frames = before.frames ++ next.frame ∷ [];
    count = count_more before.frames next.frame number before.count;
    whole = whole_more number h before.frames next.frame before.whole next.whole;
    read = read_more c0 c1 c2 before.frames next.frame before.read next.read;
    grown = subst (λ b. Grows (held o0) b (held o2)) (sym (raw_more before.frames next.frame)) (grows_on before.grown next.grown);
  }

  same_grown : (bytes : List ℕ) (o0 o1 o2 : K) → Grows (held o0) bytes (held o1) → held o2 ≡ held o1 → Grows (held o0) bytes (held o2)
  same_grown bytes o0 o1 o2 grown same = subst (λ (x : Option (List ℕ)). Grows (held o0) bytes x) (sym same) grown

  before_here : (h : Y4mHeader) (number : ℕ) (part : List ℕ) (c0 c1 c2 : Spot) (o0 o1 o2 : K) → (before : GivenSoFar h number c0 c1 (output o0 o1)) → ReadOn c1 part c2 → held o2 ≡ held o1
      → GivenBefore h before.frames part c0 c2 (output o0 o2)
  before_here h number part c0 c1 c2 o0 o1 o2 before read same = record {
    whole = before.whole;
    read = read_on c0 c1 c2 (raw before.frames) part before.read read;
    grown = same_grown (raw before.frames) o0 o1 o2 before.grown same;
  }

  lost_here : (h : Y4mHeader) (number : ℕ) (part : List ℕ) (c0 c1 c2 : Spot) (o0 o1 o2 : K) → number ≤ most_frames → length part < size_of h → GivenSoFar h number c0 c1 (output o0 o1)
      → ReadOn c1 part c2 → held o2 ≡ held o1 → GivenLost h c0 c2 (output o0 o2)
  lost_here h number part c0 c1 c2 o0 o1 o2 small less before read same = record {
    frames = before.frames;
    part = part;
    most = omega (arith, before.count, small);
    less = less;
    before = before_here h number part c0 c1 c2 o0 o1 o2 before read same;
  }

  cut_here : (h : Y4mHeader) (number : ℕ) (c0 c1 c2 : Spot) (o0 o1 o2 : K) → number < most_frames → GivenSoFar h number c0 c1 (output o0 o1) → FrameCut (size_of h) c1 c2 (output o1 o2)
      → GivenCut h c0 c2 (output o0 o2)
  cut_here h number c0 c1 c2 o0 o1 o2 small before next = record {
    frames = before.frames ++ next.frame ∷ [];
    most = omega (arith, small, count_more before.frames next.frame number before.count);
    whole = whole_more number h before.frames next.frame before.whole next.whole;
    read = read_more c0 c1 c2 before.frames next.frame before.read next.read;
    grown = record {
      part = raw before.frames ++ next.grown.part;
      rest = next.grown.rest;
      split = raw_more before.frames next.frame ∙ ap (λ l. raw before.frames ++ l) next.grown.split ∙ sym (append_assoc (raw before.frames) next.grown.part next.grown.rest);
      grown = grows_on before.grown next.grown.grown;
    };
    lacks = omega (arith, next.whole, ap length next.grown.split, length-append next.grown.part next.grown.rest);
  }

  broken_here : (h : Y4mHeader) (number : ℕ) (fault : Y4mFault) (c0 c1 c2 : Spot) (o0 o1 o2 : K) → number ≤ most_frames → GivenSoFar h number c0 c1 (output o0 o1)
      → (part : List ℕ) → length part < size_of h → Gave (comes_at c1) part (comes_at c2) → IsBroken fault (comes_at c2) → held o2 ≡ held o1 → GivenBroken h c0 c2 (output o0 o2) fault
  broken_here h number fault c0 c1 c2 o0 o1 o2 small before part less gave broken same = record {
    frames = before.frames;
    part = part;
    whole = before.whole;
    gave = gave_on (comes_at c0) (comes_at c1) (comes_at c2) (raw before.frames) part (gave_by c0 c1 (raw before.frames) before.read) gave;
    grown = same_grown (raw before.frames) o0 o1 o2 before.grown same;
    broken = broken;
    most = omega (arith, before.count, small);
    less = less;
  }

  pub stopped : (h : Y4mHeader) (number : ℕ) (i0 i1 i2 : S) (c0 c1 c2 : Spot) (o0 o1 o2 : K) (e : UnpackError) → number < most_frames
      → input_faults i0 ≤ input_faults i1 → output_faults o0 ≤ output_faults o1
      → GivenSoFar h number c0 c1 (output o0 o1) → FrameStops (size_of h) (input i1 i2) c1 c2 (output o1 o2) e → GivingStops h c0 c2 (input i0 i2) (output o0 o2) e
  unfolding GivingStops FrameStops
  stopped h number i0 i1 i2 c0 c1 c2 o0 o1 o2 errors.Read small reads puts before s =
      (rose_since reads s.0, lost_here h number s.1.read.part c0 c1 c2 o0 o1 o2 (omega (arith, small)) s.1.read.fewer before s.1.read.read s.1.same)
  stopped h number i0 i1 i2 c0 c1 c2 o0 o1 o2 errors.Write small reads puts before s = (rose_since puts s.0, cut_here h number c0 c1 c2 o0 o1 o2 small before s.1)
  stopped h number i0 i1 i2 c0 c1 c2 o0 o1 o2 (errors.ShortFrame extra) small reads puts before s = (
    s.0,
    record {
      frames = before.frames;
      part = s.1.part;
      before = before_here h number s.1.part c0 c1 c2 o0 o1 o2 before s.1.read s.1.same;
      over = s.1.over;
      fewer = omega (arith, before.count, small);
      count = s.1.count;
      some = s.1.some;
      less = s.1.less;
    },
  )
  stopped h number i0 i1 i2 c0 c1 c2 o0 o1 o2 errors.TooManyFrames small reads puts before s = absurd s
  stopped h number i0 i1 i2 c0 c1 c2 o0 o1 o2 (errors.Y4m fault) small reads puts before s =
      broken_here h number fault c0 c1 c2 o0 o1 o2 (omega (arith, small)) before s.gave.part s.gave.fewer s.gave.gave s.broken s.same
  stopped h number i0 i1 i2 c0 c1 c2 o0 o1 o2 errors.Memory small reads puts before (inl lost) =
      inl (lost_here h number lost.read.part c0 c1 c2 o0 o1 o2 (omega (arith, small)) lost.read.fewer before lost.read.read lost.same)
  stopped h number i0 i1 i2 c0 c1 c2 o0 o1 o2 errors.Memory small reads puts before (inr cut) = inr (cut_here h number c0 c1 c2 o0 o1 o2 small before cut)

  pub stopped_at : (h h1 : Y4mHeader) (number : ℕ) (i0 i1 i2 : S) (c0 c1 c2 : Spot) (o0 o1 o2 : K) (e : UnpackError) → h1 ≡ h → number < most_frames
      → input_faults i0 ≤ input_faults i1 → output_faults o0 ≤ output_faults o1
      → GivenSoFar h number c0 c1 (output o0 o1) → FrameStops (size_of h1) (input i1 i2) c1 c2 (output o1 o2) e → GivingStops h c0 c2 (input i0 i2) (output o0 o2) e
  stopped_at h h1 number i0 i1 i2 c0 c1 c2 o0 o1 o2 e same small reads puts before s =
      stopped h number i0 i1 i2 c0 c1 c2 o0 o1 o2 e small reads puts before
      (subst (λ (x : Y4mHeader). FrameStops (size_of x) (input i1 i2) c1 c2 (output o1 o2) e) same s)

  pub given_at : (h h1 : Y4mHeader) (number : ℕ) (c0 c1 c2 : Spot) (o0 o1 o2 : K) → h1 ≡ h → GivenSoFar h number c0 c1 (output o0 o1) → FrameGiven (size_of h1) c1 c2 (output o1 o2)
      → GivenSoFar h (number + 1) c0 c2 (output o0 o2)
  given_at h h1 number c0 c1 c2 o0 o1 o2 same before next =
      given_more h number c0 c1 c2 o0 o1 o2 before (subst (λ (x : Y4mHeader). FrameGiven (size_of x) c1 c2 (output o1 o2)) same next)

  pub ended : (h : Y4mHeader) (n number : ℕ) (i0 i2 : S) (c0 c1 c2 : Spot) (o0 o1 o2 : K) → n ≡ number → GivenSoFar h n c0 c1 (output o0 o1)
      → ReadOn c1 [] c2 → IsOver (comes_at c2) → IsAtEnd (left i2) → held o2 ≡ held o1 → AllGiven h number c0 c2 (input i0 i2) (output o0 o2)
  ended h n number i0 i2 c0 c1 c2 o0 o1 o2 is before read over end same = record {
    given = record {
      frames = before.frames;
      count = before.count ∙ is;
      whole = before.whole;
      read = subst (λ b. ReadOn c0 b c2) (append-nil (raw before.frames)) (read_on c0 c1 c2 (raw before.frames) [] before.read read);
      grown = same_grown (raw before.frames) o0 o1 o2 before.grown same;
    };
    over = over;
    end = end;
  }

  pub went_on : (h : Y4mHeader) (number byte : ℕ) (i0 i2 : S) (c0 c1 c2 : Spot) (o0 o1 : K) → number ≡ most_frames
      → GivenSoFar h number c0 c1 (output o0 o1) → ReadOn c1 (byte ∷ []) c2 → GivingStops h c0 c2 (input i0 i2) (output o0 o1) errors.TooManyFrames
  unfolding GivingStops
  went_on h number byte i0 i2 c0 c1 c2 o0 o1 all before read = record {
    frames = before.frames;
    next = byte;
    before = before_here h number (byte ∷ []) c0 c1 c2 o0 o1 o1 before read refl;
    all = omega (arith, before.count, all);
  }

  pub look_stopped : (h : Y4mHeader) (number : ℕ) (i0 i1 i2 : S) (c0 c1 c2 : Spot) (o0 o1 : K) (e : UnpackError) → 1 ≤ size_of h → number ≤ most_frames → input_faults i0 ≤ input_faults i1
      → GivenSoFar h number c0 c1 (output o0 o1) → ReadStops 1 (input i1 i2) c1 c2 e → GivingStops h c0 c2 (input i0 i2) (output o0 o1) e
  unfolding GivingStops ReadStops
  look_stopped h number i0 i1 i2 c0 c1 c2 o0 o1 errors.Read some small reads before s =
      (rose_since reads s.0, lost_here h number s.1.part c0 c1 c2 o0 o1 o1 small (omega (arith, s.1.fewer, some)) before s.1.read refl)
  look_stopped h number i0 i1 i2 c0 c1 c2 o0 o1 (errors.Y4m fault) some small reads before s =
      broken_here h number fault c0 c1 c2 o0 o1 o1 small before s.1.part (omega (arith, s.1.fewer, some)) s.1.gave s.0 refl
  look_stopped h number i0 i1 i2 c0 c1 c2 o0 o1 errors.Memory some small reads before s =
      inl (lost_here h number s.part c0 c1 c2 o0 o1 o1 small (omega (arith, s.fewer, some)) before s.read refl)
  look_stopped h number i0 i1 i2 c0 c1 c2 o0 o1 _ some small reads before s = absurd s

-- a frame that wasn't read
pub next_lost : (size : ℕ) (left held : Change) (c1 c2 : Spot) (e : UnpackError) → held.new ≡ held.old → ReadStops size left c1 c2 e → FrameStops size left c1 c2 held e
unfolding ReadStops FrameStops
next_lost size left held c1 c2 errors.Read same s = (s.0, record { read = s.1; same = same })
next_lost size left held c1 c2 (errors.Y4m fault) same s = record { gave = s.1; broken = s.0; same = same }
next_lost size left held c1 c2 errors.Memory same s = inl (record { read = s; same = same })
next_lost size left held c1 c2 _ same s = absurd s

-- a frame that was read, and wasn't written whole
pub frame_cut : (n size : ℕ) (c1 c2 : Spot) (held : Change) (frame : List ℕ) → length frame ≡ size → length frame ≤ n → ReadOn c1 (take n frame) c2
    → GrowsByPrefix held.old frame held.new → FrameCut size c1 c2 held
frame_cut n size c1 c2 held frame whole all read grown =
    record { frame = frame; whole = whole; read = subst (λ (b : List ℕ). ReadOn c1 b c2) (take_all n frame all) read; grown = grown }
