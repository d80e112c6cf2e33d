-- Frame after frame: what stands after one more, and where coding stops.
use Rattle.std.proofs.Common.{◌≡◌, ℕ, ◌+◌, ◌*◌, ◌<◌, ◌≤◌, List, [], ◌∷◌, ◌++◌, length, Option, Result, Ok, Err, OnOk, IfOk, refl, sym, subst, ap, ◌∙◌, arith, inl, inr}
use Rattle.std.proofs.Math.Nat.{mul-pos}
use Rattle.std.proofs.lemmas.List.{length-append, append-nil}
use Rattle.std.proofs.lemmas.List.Concat.{flat_map-append}
use Rattle.std.proofs.lemmas.List.Elements.{All-append, All-cons, All-nil}
use Rattle.m2v_bits.specs.Bits.{packed, start_code}
use Rattle.m2v_port.specs.Ends.{Change, change}
use Rattle.m2v_port.specs.Port.{Moves, Grows, GrowsByPrefix}
use Rattle.m2v_port.proofs.Runs.{rose_since, moves_on, moves_nothing, then_nothing, grows_on, grows_by_nothing, grows_by_all, prefix_on, prefix_of_more}
use Rattle.m2v_plane.specs.declared.dims.Dims.{Dims}
use Rattle.m2v_plane.specs.Sizes.{IsSize}
use Rattle.m2v_plane.specs.Raw.{frame_bytes, raw}
use Rattle.m2v_flat.specs.declared.settings.FlatSettings.{FlatSettings}
use Rattle.m2v_flat.specs.declared.answer.Summary.{Summary}
use Rattle.m2v_flat.specs.declared.answer.EncodeError.{EncodeError}
use Rattle.m2v_flat.specs.declared.answer.EncodeError.TheVariants.{Read, Write, ShortFrame, NoFrames, TooManyFrames, Memory}
use Rattle.m2v_flat.specs.Flat.{Flat, FlatBegun, FlatFrame}
use Rattle.m2v_flat.specs.Answers.{AreWhole, most_frames, FlatCoded, FlatUnended, CutOff, FlatStops}
use Rattle.m2v_flat.specs.Steps.{SoFar, Unwritten, NextCoded, NextCut, NextNone, NextStops, EndStops, StoppedBy, ReadStops}
use Rattle.m2v_flat.proofs.Edges.{bytes_more, bytes_end, begun_none, flat_none}

pub some_bytes : (d : Dims) → IsSize d → 0 < frame_bytes d
some_bytes d is = let some : 0 < d.width * d.height = mul-pos (omega (arith, is.wide)) (omega (arith, is.tall)) in omega arith

raw_more : (frames : List (List ℕ)) (f : List ℕ) → raw (frames ++ f ∷ []) ≡ raw frames ++ f
raw_more frames f = flat_map-append (λ (x : List ℕ). x) frames (f ∷ []) ∙ ap (λ (t : List ℕ). raw frames ++ t) (append-nil f)

whole_more : (d : Dims) (frames : List (List ℕ)) (f : List ℕ) → AreWhole d frames → length f ≡ frame_bytes d → AreWhole d (frames ++ f ∷ [])
whole_more d frames f whole is =
    let P = λ (x : List ℕ). length x ≡ frame_bytes d in
    All-append P frames (f ∷ []) whole (All-cons P f [] is (All-nil P))

moved_more : (l0 l1 l2 : Option (List ℕ)) (frames : List (List ℕ)) (f : List ℕ) → Moves l0 (raw frames) l1 → Moves l1 f l2 → Moves l0 (raw (frames ++ f ∷ [])) l2
moved_more l0 l1 l2 frames f first second = subst (λ (b : List ℕ). Moves l0 b l2) (sym (raw_more frames f)) (moves_on first second)

count_more : (frames : List (List ℕ)) (f : List ℕ) (n : ℕ) → length frames ≡ n → length (frames ++ f ∷ []) ≡ n + 1
count_more frames f n is = omega (arith, length-append frames (f ∷ []), is)

-- ---- bytes

-- what stands is a prefix of what success would have given
begun_prefix : (s : FlatSettings) (frames : List (List ℕ)) (h0 h1 : Option (List ℕ)) → Grows h0 (FlatBegun s frames) h1 → GrowsByPrefix h0 (Flat s frames) h1
begun_prefix s [] h0 h1 grown = grows_by_all (subst (λ (b : List ℕ). Grows h0 b h1) (begun_none s ∙ sym (flat_none s)) grown)
begun_prefix s (f ∷ frames) h0 h1 grown =
    subst (λ (b : List ℕ). GrowsByPrefix h0 b h1) (sym (bytes_end s f frames)) (prefix_of_more (grows_by_all grown) (packed (start_code 0xB7)))

-- where frames were read, a prefix of their bytes is one of the stream
cut_prefix : (s : FlatSettings) (frames : List (List ℕ)) (h0 h1 : Option (List ℕ)) → 0 < length frames → GrowsByPrefix h0 (FlatBegun s frames) h1 → GrowsByPrefix h0 (Flat s frames) h1
cut_prefix s [] h0 h1 some grown = absurd (omega arith)
cut_prefix s (f ∷ frames) h0 h1 some grown =
    subst (λ (b : List ℕ). GrowsByPrefix h0 b h1) (sym (bytes_end s f frames)) (prefix_of_more grown (packed (start_code 0xB7)))

-- where the end was cut
end_prefix : (s : FlatSettings) (frames : List (List ℕ)) (h0 h1 h2 : Option (List ℕ)) → 0 < length frames → Grows h0 (FlatBegun s frames) h1 → GrowsByPrefix h1 (packed (start_code 0xB7)) h2 → GrowsByPrefix h0 (Flat s frames) h2
end_prefix s [] h0 h1 h2 some grown end = absurd (omega arith)
end_prefix s (f ∷ frames) h0 h1 h2 some grown end = subst (λ (b : List ℕ). GrowsByPrefix h0 b h2) (sym (bytes_end s f frames)) (prefix_on grown end)

-- where it was written
end_whole : (s : FlatSettings) (frames : List (List ℕ)) (h0 h1 h2 : Option (List ℕ)) → 0 < length frames → Grows h0 (FlatBegun s frames) h1 → Grows h1 (packed (start_code 0xB7)) h2 → Grows h0 (Flat s frames) h2
end_whole s [] h0 h1 h2 some grown end = absurd (omega arith)
end_whole s (f ∷ frames) h0 h1 h2 some grown end = subst (λ (b : List ℕ). Grows h0 b h2) (sym (bytes_end s f frames)) (grows_on grown end)

end_size : (s : FlatSettings) (frames : List (List ℕ)) (bytes : ℕ) → 0 < length frames → bytes ≡ length (FlatBegun s frames) → bytes + length (packed (start_code 0xB7)) ≡ length (Flat s frames)
end_size s [] bytes some is = absurd (omega arith)
end_size s (f ∷ frames) bytes some is = omega (arith, ap length (bytes_end s f frames), length-append (FlatBegun s (f ∷ frames)) (packed (start_code 0xB7)), is)

empty_list : (frames : List (List ℕ)) → length frames ≡ 0 → raw frames ≡ []
empty_list [] none = refl
empty_list (f ∷ frames) none = absurd (omega arith)

module _ {S K : Type 0} (left : S → Option (List ℕ)) (input_faults : S → ℕ) (held : K → Option (List ℕ)) (output_faults : K → ℕ) where
  abbrev input : S → S → Change
  input = change left input_faults

  abbrev output : K → K → Change
  output = change held output_faults

  -- ---- so far

  pub so_far_none : (s : FlatSettings) (i0 : S) (o0 : K) → SoFar s 0 0 (input i0 i0) (output o0 o0)
  so_far_none s i0 o0 = record {
    frames = [];
    count = refl;
    whole = All-nil (λ (x : List ℕ). length x ≡ frame_bytes s.dims);
    moved = moves_nothing (left i0);
    grown = subst (λ (b : List ℕ). Grows (held o0) b (held o0)) (sym (begun_none s)) (grows_by_nothing (held o0));
    size = ap length (sym (begun_none s));
    unwritten = λ none. refl;
  }

  pub so_far_more : (s : FlatSettings) (number bytes more : ℕ) (i0 i1 i2 : S) (o0 o1 o2 : K)
      → SoFar s number bytes (input i0 i1) (output o0 o1)
      → NextCoded s number more (input i1 i2) (output o1 o2)
      → SoFar s (number + 1) (bytes + more) (input i0 i2) (output o0 o2)
  so_far_more s number bytes more i0 i1 i2 o0 o1 o2 before next =
      let f = next.frame in
      let is = bytes_more s before.frames f ∙ ap (λ (n : ℕ). FlatBegun s before.frames ++ FlatFrame s n f) before.count in
      record {
        frames = before.frames ++ f ∷ [];
        count = count_more before.frames f number before.count;
        whole = whole_more s.dims before.frames f before.whole next.whole;
        moved = moved_more (left i0) (left i1) (left i2) before.frames f before.moved next.moved;
        grown = subst (λ (b : List ℕ). Grows (held o0) b (held o2)) (sym is) (grows_on before.grown next.grown);
        size = omega (arith, ap length is, length-append (FlatBegun s before.frames) (FlatFrame s number f), before.size, next.size);
        unwritten = λ none. absurd (omega arith);
      }

  -- ---- where it stops

  -- output holds what it held before, and a part of the next frame was read
  begun_here : (s : FlatSettings) (number bytes : ℕ) (part : List ℕ) (i0 i1 i2 : S) (o0 o1 o2 : K) → number ≤ most_frames
      → (before : SoFar s number bytes (input i0 i1) (output o0 o1))
      → Moves (left i1) part (left i2) → Unwritten (output o1 o2)
      → FlatUnended s (input i0 i2) (output o0 o2) before.frames part
  begun_here s number bytes part i0 i1 i2 o0 o1 o2 small before moved kept = record {
    most = omega (arith, before.count);
    whole = before.whole;
    moved = moves_on before.moved moved;
    grown = subst (λ (h : Option (List ℕ)). Grows (held o0) (FlatBegun s before.frames) h) (sym kept.stays) before.grown;
    unwritten = λ none. kept.same ∙ before.unwritten (omega (arith, none, before.count));
  }

  -- a frame was read, and a prefix of its bytes written
  cut_here : (s : FlatSettings) (number bytes : ℕ) (i0 i1 i2 : S) (o0 o1 o2 : K) → IsSize s.dims → number < most_frames
      → SoFar s number bytes (input i0 i1) (output o0 o1)
      → NextCut s number (input i1 i2) (output o1 o2)
      → CutOff s (input i0 i2) (output o0 o2)
  cut_here s number bytes i0 i1 i2 o0 o1 o2 size small before next =
      let f = next.frame in
      let frames = before.frames ++ f ∷ [] in
      let count = count_more before.frames f number before.count in
      let is = bytes_more s before.frames f ∙ ap (λ (n : ℕ). FlatBegun s before.frames ++ FlatFrame s n f) before.count in
      record {
        frames = frames;
        part = [];
        most = omega (arith, count);
        whole = whole_more s.dims before.frames f before.whole next.whole;
        less = some_bytes s.dims size;
        moved = moves_on (moved_more (left i0) (left i1) (left i2) before.frames f before.moved next.moved) (moves_nothing (left i2));
        grown = cut_prefix s frames (held o0) (held o2) (omega (arith, count)) (subst (λ (b : List ℕ). GrowsByPrefix (held o0) b (held o2)) (sym is) (prefix_on before.grown next.grown));
        unwritten = λ none. absurd (omega (arith, count, none));
      }

  -- a frame was not read
  lost_here : (s : FlatSettings) (number bytes : ℕ) (part : List ℕ) (i0 i1 i2 : S) (o0 o1 o2 : K) → number ≤ most_frames
      → SoFar s number bytes (input i0 i1) (output o0 o1)
      → Moves (left i1) part (left i2) → length part < frame_bytes s.dims → Unwritten (output o1 o2)
      → CutOff s (input i0 i2) (output o0 o2)
  lost_here s number bytes part i0 i1 i2 o0 o1 o2 small before moved less kept =
      let begun = begun_here s number bytes part i0 i1 i2 o0 o1 o2 small before moved kept in
      record {
        frames = before.frames;
        part = part;
        most = begun.most;
        whole = begun.whole;
        less = less;
        moved = begun.moved;
        grown = begun_prefix s before.frames (held o0) (held o2) begun.grown;
        unwritten = begun.unwritten;
      }

  -- why a next frame wasn't coded is why coding stopped
  pub stopped : (s : FlatSettings) (number bytes : ℕ) (i0 i1 i2 : S) (o0 o1 o2 : K) (e : EncodeError)
      → IsSize s.dims → number < most_frames → input_faults i0 ≤ input_faults i1 → output_faults o0 ≤ output_faults o1
      → SoFar s number bytes (input i0 i1) (output o0 o1)
      → NextStops s number (input i1 i2) (output o1 o2) e
      → FlatStops s (input i0 i2) (output o0 o2) e
  unfolding FlatStops NextStops
  stopped s number bytes i0 i1 i2 o0 o1 o2 Read size small reads puts before h =
      let lost = h.1 in (
        rose_since reads h.0,
        record {
          frames = before.frames;
          part = lost.moved.part;
          begun = begun_here s number bytes lost.moved.part i0 i1 i2 o0 o1 o2 (omega arith) before lost.moved.moved lost.unwritten;
          less = lost.moved.fewer;
        },
      )
  stopped s number bytes i0 i1 i2 o0 o1 o2 Write size small reads puts before h =
      (rose_since puts h.0, cut_here s number bytes i0 i1 i2 o0 o1 o2 size small before h.1)
  stopped s number bytes i0 i1 i2 o0 o1 o2 (ShortFrame extra) size small reads puts before h = record {
    frames = before.frames;
    part = h.part;
    begun = begun_here s number bytes h.part i0 i1 i2 o0 o1 o2 (omega arith) before h.moved h.unwritten;
    fewer = omega (arith, before.count);
    count = h.count;
    some = h.some;
    less = h.less;
    end = h.end;
  }
  stopped s number bytes i0 i1 i2 o0 o1 o2 NoFrames size small reads puts before h = absurd h
  stopped s number bytes i0 i1 i2 o0 o1 o2 TooManyFrames size small reads puts before h = absurd h
  stopped s number bytes i0 i1 i2 o0 o1 o2 Memory size small reads puts before (inl lost) =
      lost_here s number bytes lost.moved.part i0 i1 i2 o0 o1 o2 (omega arith) before lost.moved.moved lost.moved.fewer lost.unwritten
  stopped s number bytes i0 i1 i2 o0 o1 o2 Memory size small reads puts before (inr cut) =
      cut_here s number bytes i0 i1 i2 o0 o1 o2 size small before cut

  -- the end was written
  pub ended : (s : FlatSettings) (number bytes : ℕ) (i0 i1 i2 : S) (o0 o1 o2 o3 : K) (summary : Summary) → number ≤ most_frames
      → SoFar s number bytes (input i0 i1) (output o0 o1)
      → NextNone (input i1 i2) (output o1 o2)
      → 0 < number → Grows (held o2) (packed (start_code 0xB7)) (held o3)
      → summary ≡ record { frames = number; pictures = number; bytes = bytes + length (packed (start_code 0xB7)); stuffing = 0 }
      → FlatCoded s (input i0 i2) (output o0 o3) summary
  ended s number bytes i0 i1 i2 o0 o1 o2 o3 summary small before none some end is =
      let grown = subst (λ (h : Option (List ℕ)). Grows (held o0) (FlatBegun s before.frames) h) (sym none.unwritten.stays) before.grown in
      record {
        frames = before.frames;
        some = omega (arith, before.count);
        most = omega (arith, before.count);
        whole = before.whole;
        moved = then_nothing before.moved none.moved;
        end = none.end;
        grown = end_whole s before.frames (held o0) (held o2) (held o3) (omega (arith, before.count)) grown end;
        numbers = is ∙ rw (sym before.count, end_size s before.frames bytes (omega (arith, before.count)) before.size) refl;
      }

  -- the end was cut
  end_cut_here : (s : FlatSettings) (number bytes : ℕ) (i0 i1 i2 : S) (o0 o1 o2 o3 : K) → IsSize s.dims → number ≤ most_frames
      → SoFar s number bytes (input i0 i1) (output o0 o1)
      → NextNone (input i1 i2) (output o1 o2)
      → 0 < number → GrowsByPrefix (held o2) (packed (start_code 0xB7)) (held o3)
      → CutOff s (input i0 i2) (output o0 o3)
  end_cut_here s number bytes i0 i1 i2 o0 o1 o2 o3 size small before none some end =
      let grown = subst (λ (h : Option (List ℕ)). Grows (held o0) (FlatBegun s before.frames) h) (sym none.unwritten.stays) before.grown in
      record {
        frames = before.frames;
        part = [];
        most = omega (arith, before.count);
        whole = before.whole;
        less = some_bytes s.dims size;
        moved = moves_on before.moved none.moved;
        grown = end_prefix s before.frames (held o0) (held o2) (held o3) (omega (arith, before.count)) grown end;
        unwritten = λ nothing. absurd (omega (arith, before.count, nothing));
      }

  -- why the stream wasn't ended is why coding stopped
  pub end_stopped : (s : FlatSettings) (number bytes : ℕ) (i0 i1 i2 : S) (o0 o1 o2 o3 : K) (e : EncodeError)
      → IsSize s.dims → number ≤ most_frames → output_faults o0 ≤ output_faults o2
      → SoFar s number bytes (input i0 i1) (output o0 o1)
      → NextNone (input i1 i2) (output o1 o2)
      → EndStops number (output o2 o3) e
      → FlatStops s (input i0 i2) (output o0 o3) e
  unfolding FlatStops EndStops
  end_stopped s number bytes i0 i1 i2 o0 o1 o2 o3 Read size small puts before none h = absurd h
  end_stopped s number bytes i0 i1 i2 o0 o1 o2 o3 Write size small puts before none h =
      (rose_since puts h.0, end_cut_here s number bytes i0 i1 i2 o0 o1 o2 o3 size small before none h.1 h.2)
  end_stopped s number bytes i0 i1 i2 o0 o1 o2 o3 (ShortFrame extra) size small puts before none h = absurd h
  end_stopped s number bytes i0 i1 i2 o0 o1 o2 o3 NoFrames size small puts before none h =
      let moved = then_nothing before.moved none.moved in
      record {
        moved = subst (λ (b : List ℕ). Moves (left i0) b (left i2)) (empty_list before.frames (omega (arith, before.count, h.0))) moved;
        end = none.end;
        same = h.1.same ∙ none.unwritten.same ∙ before.unwritten h.0;
      }
  end_stopped s number bytes i0 i1 i2 o0 o1 o2 o3 TooManyFrames size small puts before none h = absurd h
  end_stopped s number bytes i0 i1 i2 o0 o1 o2 o3 Memory size small puts before none h =
      end_cut_here s number bytes i0 i1 i2 o0 o1 o2 o3 size small before none h.0 h.1

  -- a byte followed the last frame
  pub went_on : (s : FlatSettings) (number bytes byte : ℕ) (i0 i1 i2 : S) (o0 o1 : K) → number ≡ most_frames
      → SoFar s number bytes (input i0 i1) (output o0 o1) → Moves (left i1) (byte ∷ []) (left i2)
      → FlatStops s (input i0 i2) (output o0 o1) TooManyFrames
  unfolding FlatStops
  went_on s number bytes byte i0 i1 i2 o0 o1 all before moved = record {
    frames = before.frames;
    next = byte;
    begun = begun_here s number bytes (byte ∷ []) i0 i1 i2 o0 o1 o1 (omega arith) before moved (record { same = refl; stays = refl });
    all = omega (arith, before.count);
  }

  -- whether a byte follows wasn't seen
  pub look_stopped : (s : FlatSettings) (number bytes : ℕ) (i0 i1 i2 : S) (o0 o1 : K) (e : EncodeError)
      → IsSize s.dims → number ≤ most_frames → input_faults i0 ≤ input_faults i1
      → SoFar s number bytes (input i0 i1) (output o0 o1)
      → ReadStops 1 (input i1 i2) e
      → FlatStops s (input i0 i2) (output o0 o1) e
  unfolding FlatStops
  look_stopped s number bytes i0 i1 i2 o0 o1 e size small reads before h = by_why h.why
    where
      less : length h.moved.part < frame_bytes s.dims
      less = omega (arith, h.moved.fewer, some_bytes s.dims size)

      kept : Unwritten (output o1 o1)
      kept = record { same = refl; stays = refl }

      by_why : StoppedBy Read (input i1 i2) e → FlatStops s (input i0 i2) (output o0 o1) e
      by_why (inl failed) = rw failed.0 (
        rose_since reads failed.1,
        record {
          frames = before.frames;
          part = h.moved.part;
          begun = begun_here s number bytes h.moved.part i0 i1 i2 o0 o1 o1 small before h.moved.moved kept;
          less = less;
        },
      )
      by_why (inr memory) = rw memory (lost_here s number bytes h.moved.part i0 i1 i2 o0 o1 o1 small before h.moved.moved less kept)

  -- coding didn't begin
  pub not_begun : (s : FlatSettings) (i0 : S) (o0 : K) → IsSize s.dims → FlatStops s (input i0 i0) (output o0 o0) Memory
  unfolding FlatStops
  not_begun s i0 o0 size =
      lost_here s 0 0 [] i0 i0 i0 o0 o0 o0 (omega arith) (so_far_none s i0 o0) (moves_nothing (left i0)) (some_bytes s.dims size) (record { same = refl; stays = refl })

-- what holds of each value that was answered
pub join_ok : {T E A B : Type 0} (r : Result T E) (C D : T → Type 0) → OnOk r A → OnOk r B → IfOk r C → ((x : T) → A → B → C x → D x) → IfOk r D
join_ok (Ok x) C D a b c f = f x a b c
join_ok (Err e) C D a b c f = tt
