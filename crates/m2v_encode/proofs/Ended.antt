-- Behind the last frame: the whole stream, and where it stops.
use Rattle.std.proofs.Common.{◌≡◌, ℕ, ◌*◌, ◌/◌, ◌<◌, ◌≤◌, ◌⊎◌, inl, inr, Bool, true, false, List, [], ◌∷◌, ◌++◌, length, Option, Result, Ok, Err, refl, sym, subst, ap, ◌∙◌, arith, append_assoc}
use Rattle.std.specs.Prelude.{OnOk, IfOk, IfErr, nat_lt, ◌&&◌, ◌||◌}
use Rattle.std.proofs.lemmas.Bool.{cases_lt, lt-ltb, and_from}
use Rattle.std.proofs.lemmas.List.{length-append}
use Rattle.std.proofs.lemmas.List.Elements.{All-nil}
use Rattle.m2v_bits.specs.Bits.{packed, start_code, IsEdge}
use Rattle.m2v_bits.proofs.Units.{packed-append, start_length}
use Rattle.m2v_port.specs.Ends.{Change, change}
use Rattle.m2v_port.specs.Port.{Moves, IsAtEnd, Grows, GrowsByPrefix}
use Rattle.m2v_port.proofs.Runs.{rose_since, moves_on, moves_nothing, then_nothing, grows_on, grows_by_nothing, grows_by_all, prefix_on}
use Rattle.m2v_plane.specs.Raw.{frame_bytes, raw}
use Rattle.m2v_plane.specs.Samples.{Samples}
use Rattle.m2v_set.specs.declared.settings.Settings.{Settings}
use Rattle.m2v_set.specs.Numbers.{dims_of}
use Rattle.m2v_set.specs.Rules.{Passes}
use Rattle.m2v_order.specs.Groups.{Queue, next_intra, is_due, group_of, after_end, IsSoundQueue}
use Rattle.m2v_order.proofs.Queues.{due_is, sound_end}
use Rattle.m2v_slice.specs.Books.{Book}
use Rattle.m2v_law_shown.specs.m2v_enc_stream.Streams.{Progress, at_start, groups_begun, coded_all, Coded, Recon}
use Rattle.m2v_encode.specs.declared.answer.Summary.{Summary}
use Rattle.m2v_encode.specs.declared.answer.EncodeError.{EncodeError}
use Rattle.m2v_encode.specs.declared.answer.EncodeError.TheVariants.{Read, Write, ShortFrame, NoFrames, TooManyFrames, Memory}
use Rattle.m2v_encode.specs.declared.group.Coder.{Coder}
use Rattle.m2v_law_shown.proofs.Headline.{headline}
use Rattle.m2v_law_shown.proofs.Lengths.{bytes_by}
use Rattle.m2v_encode.specs.Answers.{most_frames, AllCoded, CutOff, Stops}
use Rattle.m2v_encode.specs.Groups.{group_text, group_shown}
use Rattle.m2v_encode.specs.Steps.{ReadStops, book_by, EndCoded, EndCut, EndStops, SoFar}
use Rattle.m2v_encode.proofs.Readings.{raw_both}
use Rattle.m2v_encode.proofs.Fronts.{all_is}
use Rattle.m2v_encode.proofs.Progress.{edge_by, progress_by, coded_is, begun_here, cut_here, front_begun, lost_here, prefix_by}

raw_none : (frames : List (List ℕ)) → length frames ≡ 0 → raw frames ≡ []
raw_none [] none = refl
raw_none (f ∷ frames) none = absurd (omega (arith, none))

-- the stream whose last group is this one
coded_by : (s : Settings) (frames : List (List ℕ)) (x : Progress) (b : Book) (ends : Bool) (at : ℕ) → coded_all s frames ≡ progress_by x b ends at → IsEdge x.text
    → Coded s frames ≡ packed x.text ++ packed (group_text b ends at ++ start_code 0xB7)
coded_by s frames x b ends at e edge =
    let g = group_text b ends at in
    ap (λ (y : Progress). packed (y.text ++ start_code 0xB7)) e ∙ ap packed (append_assoc x.text g (start_code 0xB7)) ∙ packed-append x.text (g ++ start_code 0xB7) edge

module _ {S K N : Type 0} (left : S → Option (List ℕ)) (input_faults : S → ℕ) (held : K → Option (List ℕ)) (output_faults : K → ℕ)
    (kept : N → Option (List ℕ)) (recon_faults : N → ℕ) where
  abbrev input : S → S → Change
  input = change left input_faults

  abbrev output : K → K → Change
  output = change held output_faults

  abbrev recon : N → N → Change
  recon = change kept recon_faults

  pub ended : (s : Settings) (c : Coder) (q : Queue Samples) (i0 i1 i2 : S) (o0 o1 o2 : K) (r0 r1 r2 : N) (t : Summary) → Passes s → is_due q ≡ false → IsSoundQueue (after_end q) → is_due (after_end q) ≡ true
      → 0 < q.pushed → q.pushed ≤ most_frames → SoFar s c q (input i0 i1) (output o0 o1) (recon r0 r1) → Moves (left i1) [] (left i2) → IsAtEnd (left i2)
      → EndCoded c q.pushed (book_by c (group_of (after_end q))) (output o1 o2) (recon r1 r2) t → AllCoded s (input i0 i2) (output o0 o2) (recon r0 r2) t
  ended s c q i0 i1 i2 o0 o1 o2 r0 r1 r2 t passes rest sound is some few far moved end coded =
      let st = far.stands in
      let x = groups_begun s (at_start s) far.groups in
      let b = book_by c (group_of (after_end q)) in
      let at = 8 * c.total.bytes in
      let g = group_text b true at in
      let e : coded_all s far.frames ≡ progress_by x b true at = all_is s far.frames far.groups q passes far.handed rest sound is ∙ coded_is s x c (group_of (after_end q)) true st far.settings in
      let edge : IsEdge x.text = edge_by x.text c.total.bytes st.bytes in
      let whole : Coded s far.frames ≡ packed x.text ++ packed (g ++ start_code 0xB7) = coded_by s far.frames x b true at e edge in
      let shown : raw (Recon s far.frames) ≡ raw x.shown ++ raw (group_shown b) = ap (λ (y : Progress). raw y.shown) e ∙ raw_both x.shown (group_shown b) in
      let bytes : t.bytes ≡ length (Coded s far.frames) =
      omega (
        arith,
        ap length whole,
        length-append (packed x.text) (packed (g ++ start_code 0xB7)),
        bytes_by x.text edge,
        bytes_by (g ++ start_code 0xB7) (omega (arith, length-append g (start_code 0xB7), start_length 0xB7, coded.bytes)),
        length-append g (start_code 0xB7),
        start_length 0xB7,
        coded.bytes,
        st.bytes,
      ) in
      let zero_bytes : t.stuffing ≡ (coded_all s far.frames).zeros / 8 = omega (arith, coded.stuffing, st.stuffing, ap (λ (y : Progress). y.zeros) e) in
      let count : t.frames ≡ length far.frames = coded.frames ∙ far.handed.pushed in
      let pictures : t.pictures ≡ (coded_all s far.frames).pictures = omega (arith, coded.pictures, st.pictures, ap (λ (y : Progress). y.pictures) e) in
      record {
        frames = far.frames;
        some = omega (arith, some, far.handed.pushed);
        most = omega (arith, few, far.handed.pushed);
        whole = far.whole;
        moved = then_nothing far.moved moved;
        end = end;
        grown = subst (λ (z : List ℕ). Grows (held o0) z (held o2)) (sym whole) (grows_on far.grown coded.grown);
        shown = subst (λ (z : List ℕ). Grows (kept r0) z (kept r2)) (sym shown) (grows_on far.shown coded.shown);
        numbers = same_summary t.frames _ t.pictures _ t.bytes _ t.stuffing _ count pictures bytes zero_bytes;
        headline = headline s far.frames passes (omega (arith, some, far.handed.pushed)) (omega (arith, few, far.handed.pushed));
      }
    where
      same_summary : (a x b y c z d w : ℕ) → a ≡ x → b ≡ y → c ≡ z → d ≡ w
          → (let s : Summary = record { frames = a; pictures = b; bytes = c; stuffing = d } in let t : Summary = record { frames = x; pictures = y; bytes = z; stuffing = w } in s ≡ t)
      same_summary a x b y c z d w e f g h = rw (e, f, g, h) refl

  -- the end was cut off
  end_cut : (s : Settings) (c : Coder) (q : Queue Samples) (i0 i1 i2 : S) (o0 o1 o2 : K) (r0 r1 r2 : N) → Passes s → is_due q ≡ false → IsSoundQueue (after_end q) → is_due (after_end q) ≡ true
      → 0 < q.pushed → q.pushed ≤ most_frames → 0 < frame_bytes (dims_of s) → SoFar s c q (input i0 i1) (output o0 o1) (recon r0 r1) → Moves (left i1) [] (left i2)
      → EndCut c (book_by c (group_of (after_end q))) (output o1 o2) (recon r1 r2) → CutOff s (input i0 i2) (output o0 o2) (recon r0 r2)
  end_cut s c q i0 i1 i2 o0 o1 o2 r0 r1 r2 passes rest sound is some few size far moved cut =
      let st = far.stands in
      let x = groups_begun s (at_start s) far.groups in
      let b = book_by c (group_of (after_end q)) in
      let at = 8 * c.total.bytes in
      let e : coded_all s far.frames ≡ progress_by x b true at = all_is s far.frames far.groups q passes far.handed rest sound is ∙ coded_is s x c (group_of (after_end q)) true st far.settings in
      let whole = coded_by s far.frames x b true at e (edge_by x.text c.total.bytes st.bytes) in
      let shown : raw (Recon s far.frames) ≡ raw x.shown ++ raw (group_shown b) = ap (λ (y : Progress). raw y.shown) e ∙ raw_both x.shown (group_shown b) in
      record {
        frames = far.frames;
        part = [];
        most = omega (arith, few, far.handed.pushed);
        whole = far.whole;
        less = size;
        moved = moves_on far.moved moved;
        grown = subst (λ (z : List ℕ). GrowsByPrefix (held o0) z (held o2)) (sym whole) (prefix_on far.grown cut.grown);
        shown = subst (λ (z : List ℕ). GrowsByPrefix (kept r0) z (kept r2)) (sym shown) (prefix_on far.shown cut.shown);
        unwritten = λ none. absurd (omega (arith, none, far.handed.pushed, some));
      }

  -- where a group is left at the end, frames were read
  due_frames : (s : Settings) (c : Coder) (q : Queue Samples) (i0 i1 : S) (o0 o1 : K) (r0 r1 : N) → SoFar s c q (input i0 i1) (output o0 o1) (recon r0 r1) → IsSoundQueue (after_end q)
      → is_due (after_end q) ≡ true → 0 < q.pushed
  due_frames s c q i0 i1 o0 o1 r0 r1 far sound is = omega (arith, (due_is (after_end q) is).some, sound.room)

  no_frames : (s : Settings) (c : Coder) (q : Queue Samples) (i0 i1 : S) (o0 o1 : K) (r0 r1 : N) → (far : SoFar s c q (input i0 i1) (output o0 o1) (recon r0 r1)) → IsSoundQueue q
      → is_due (after_end q) ≡ false → length far.frames ≡ 0
  unfolding is_due
  no_frames s c q i0 i1 o0 o1 r0 r1 far sound rest = elim (cases_lt 0 (length q.frames)) [
    | inl some ↦ absurd (is_false (nat_lt 0 (length q.frames) && (true || nat_lt (next_intra (after_end q)) q.pushed)) rest (and_from (nat_lt 0 (length q.frames)) (true || nat_lt (next_intra (after_end q)) q.pushed) (lt-ltb 0 (length q.frames) some) refl))
    | inr none ↦ omega (arith, sound.none (omega (arith, none)) far.handed.going, far.handed.pushed)
  ]
    where
      is_false : (b : Bool) → b ≡ false → b ≡ true → ⊥
      is_false true e f = absurd cc
      is_false false e f = absurd cc

  pub end_stopped : (s : Settings) (c : Coder) (q : Queue Samples) (i0 i1 i2 : S) (o0 o1 o2 : K) (r0 r1 r2 : N) (e : EncodeError) → Passes s → is_due q ≡ false → IsSoundQueue q → IsSoundQueue (after_end q)
      → q.pushed ≤ most_frames → 0 < frame_bytes (dims_of s) → output_faults o0 ≤ output_faults o1 → recon_faults r0 ≤ recon_faults r1
      → SoFar s c q (input i0 i1) (output o0 o1) (recon r0 r1) → Moves (left i1) [] (left i2) → IsAtEnd (left i2)
      → EndStops c (after_end q) (output o1 o2) (recon r1 r2) e → Stops s (input i0 i2) (output o0 o2) (recon r0 r2) e
  unfolding EndStops Stops
  end_stopped s c q i0 i1 i2 o0 o1 o2 r0 r1 r2 Read passes rest sound ending few size fo fr far moved end h = absurd h
  end_stopped s c q i0 i1 i2 o0 o1 o2 r0 r1 r2 Write passes rest sound ending few size fo fr far moved end h =
      (by_side h.0, end_cut s c q i0 i1 i2 o0 o1 o2 r0 r1 r2 passes rest ending h.1.0 (due_frames s c q i0 i1 o0 o1 r0 r1 far ending h.1.0) few size far moved h.1.1)
    where
      by_side : (output o1 o2).Failed ⊎ (recon r1 r2).Failed → (output o0 o2).Failed ⊎ (recon r0 r2).Failed
      by_side (inl f) = inl (rose_since fo f)
      by_side (inr f) = inr (rose_since fr f)
  end_stopped s c q i0 i1 i2 o0 o1 o2 r0 r1 r2 (ShortFrame extra) passes rest sound ending few size fo fr far moved end h = absurd h
  end_stopped s c q i0 i1 i2 o0 o1 o2 r0 r1 r2 NoFrames passes rest sound ending few size fo fr far moved end h =
      let none = no_frames s c q i0 i1 o0 o1 r0 r1 far sound h.0 in
      let same = far.unwritten none in
      record {
        moved = then_nothing (subst (λ (b : List ℕ). Moves (left i0) b (left i1)) (raw_none far.frames none) far.moved) moved;
        end = end;
        same = (h.1.0 ∙ same.0, h.1.1 ∙ same.1);
      }
  end_stopped s c q i0 i1 i2 o0 o1 o2 r0 r1 r2 TooManyFrames passes rest sound ending few size fo fr far moved end h = absurd h
  end_stopped s c q i0 i1 i2 o0 o1 o2 r0 r1 r2 Memory passes rest sound ending few size fo fr far moved end (inl h) =
      end_cut s c q i0 i1 i2 o0 o1 o2 r0 r1 r2 passes rest ending h.0 (due_frames s c q i0 i1 o0 o1 r0 r1 far ending h.0) few size far moved h.1
  end_stopped s c q i0 i1 i2 o0 o1 o2 r0 r1 r2 Memory passes rest sound ending few size fo fr far moved end (inr h) =
      cut_here left input_faults held output_faults kept recon_faults s far.frames [] (groups_begun s (at_start s) far.groups) i0 i2 o0 o2 r0 r2 (omega (arith, few, far.handed.pushed)) far.whole size
      (moves_on far.moved moved)
      (front_begun s far.frames far.groups q passes far.handed sound)
      (subst (λ (t : Option (List ℕ)). GrowsByPrefix (held o0) (packed (groups_begun s (at_start s) far.groups).text) t) (sym h.1.0) (grows_by_all far.grown))
      (subst (λ (t : Option (List ℕ)). GrowsByPrefix (kept r0) (raw (groups_begun s (at_start s) far.groups).shown) t) (sym h.1.1.1) (grows_by_all far.shown))
      (λ none. let same = far.unwritten none in (h.0 ∙ same.0, h.1.1.0 ∙ same.1))

  -- a byte behind the last frame was looked for in vain
  pub look_stopped : (s : Settings) (c : Coder) (q : Queue Samples) (i0 i1 i2 : S) (o0 o1 : K) (r0 r1 : N) (e : EncodeError) → Passes s → IsSoundQueue q → q.pushed ≤ most_frames
      → 0 < frame_bytes (dims_of s) → is_due q ≡ false → input_faults i0 ≤ input_faults i1
      → SoFar s c q (input i0 i1) (output o0 o1) (recon r0 r1) → ReadStops 1 (input i1 i2) e → Stops s (input i0 i2) (output o0 o1) (recon r0 r1) e
  unfolding ReadStops Stops
  look_stopped s c q i0 i1 i2 o0 o1 r0 r1 Read passes sound few some rest since far h = (
    rose_since since h.0,
    record {
      frames = far.frames;
      part = h.1.part;
      begun = begun_here left input_faults held output_faults kept recon_faults s c q h.1.part i0 i1 i2 o0 o1 r0 r1 few rest far h.1.moved;
      less = omega (arith, h.1.fewer, some);
    },
  )
  look_stopped s c q i0 i1 i2 o0 o1 r0 r1 Write passes sound few some rest since far h = absurd h
  look_stopped s c q i0 i1 i2 o0 o1 r0 r1 (ShortFrame extra) passes sound few some rest since far h = absurd h
  look_stopped s c q i0 i1 i2 o0 o1 r0 r1 NoFrames passes sound few some rest since far h = absurd h
  look_stopped s c q i0 i1 i2 o0 o1 r0 r1 TooManyFrames passes sound few some rest since far h = absurd h
  look_stopped s c q i0 i1 i2 o0 o1 r0 r1 Memory passes sound few some rest since far h =
      lost_here left input_faults held output_faults kept recon_faults s c q h.part i0 i1 i2 o0 o1 r0 r1 passes sound few far h.moved (omega (arith, h.fewer, some))

  -- a byte is there
  pub went_on : (s : Settings) (c : Coder) (q : Queue Samples) (next : ℕ) (i0 i1 i2 : S) (o0 o1 : K) (r0 r1 : N) → q.pushed ≡ most_frames → is_due q ≡ false
      → SoFar s c q (input i0 i1) (output o0 o1) (recon r0 r1) → (next < 256) × Moves (left i1) (next ∷ []) (left i2) → Stops s (input i0 i2) (output o0 o1) (recon r0 r1) TooManyFrames
  unfolding Stops
  went_on s c q next i0 i1 i2 o0 o1 r0 r1 all rest far moved = record {
    frames = far.frames;
    next = next;
    begun = begun_here left input_faults held output_faults kept recon_faults s c q (next ∷ []) i0 i1 i2 o0 o1 r0 r1 (omega (arith, all)) rest far moved.1;
    byte = moved.0;
    all = sym far.handed.pushed ∙ all;
  }

  -- no memory was left before a byte was read
  pub not_begun : (s : Settings) (i : S) (o : K) (r : N) → 0 < frame_bytes (dims_of s) → Stops s (input i i) (output o o) (recon r r) Memory
  unfolding Stops
  not_begun s i o r size = record {
    frames = [];
    part = [];
    most = omega arith;
    whole = All-nil (λ (x : List ℕ). length x ≡ frame_bytes (dims_of s));
    less = size;
    moved = moves_nothing (left i);
    grown = prefix_by (held o) (held o) [] (Coded s []) (Coded s []) refl (grows_by_all (grows_by_nothing (held o)));
    shown = prefix_by (kept r) (kept r) [] (raw (Recon s [])) (raw (Recon s [])) refl (grows_by_all (grows_by_nothing (kept r)));
    unwritten = λ none. (refl, refl);
  }

  pub all_ended : (s : Settings) (c : Coder) (q : Queue Samples) (i0 i1 i2 : S) (o0 o1 o2 : K) (r0 r1 r2 : N) (result : Result Summary EncodeError) → Passes s → IsSoundQueue q → is_due q ≡ false
      → q.pushed ≤ most_frames → SoFar s c q (input i0 i1) (output o0 o1) (recon r0 r1) → Moves (left i1) [] (left i2) → IsAtEnd (left i2)
      → OnOk result (is_due (after_end q) ≡ true) → IfOk result (EndCoded c q.pushed (book_by c (group_of (after_end q))) (output o1 o2) (recon r1 r2))
      → IfOk result (AllCoded s (input i0 i2) (output o0 o2) (recon r0 r2))
  all_ended s c q i0 i1 i2 o0 o1 o2 r0 r1 r2 (Ok t) passes sound rest few far moved end is coded =
      ended s c q i0 i1 i2 o0 o1 o2 r0 r1 r2 t passes rest (sound_end q sound) is (due_frames s c q i0 i1 o0 o1 r0 r1 far (sound_end q sound) is) few far moved end coded
  all_ended s c q i0 i1 i2 o0 o1 o2 r0 r1 r2 (Err e) passes sound rest few far moved end is coded = tt

  pub all_stopped : (s : Settings) (c : Coder) (q : Queue Samples) (i0 i1 i2 : S) (o0 o1 o2 : K) (r0 r1 r2 : N) (result : Result Summary EncodeError) → Passes s → IsSoundQueue q → is_due q ≡ false
      → q.pushed ≤ most_frames → 0 < frame_bytes (dims_of s) → output_faults o0 ≤ output_faults o1 → recon_faults r0 ≤ recon_faults r1
      → SoFar s c q (input i0 i1) (output o0 o1) (recon r0 r1) → Moves (left i1) [] (left i2) → IsAtEnd (left i2)
      → IfErr result (EndStops c (after_end q) (output o1 o2) (recon r1 r2)) → IfErr result (Stops s (input i0 i2) (output o0 o2) (recon r0 r2))
  all_stopped s c q i0 i1 i2 o0 o1 o2 r0 r1 r2 (Ok t) passes sound rest few size fo fr far moved end stops = tt
  all_stopped s c q i0 i1 i2 o0 o1 o2 r0 r1 r2 (Err e) passes sound rest few size fo fr far moved end stops =
      end_stopped s c q i0 i1 i2 o0 o1 o2 r0 r1 r2 e passes rest sound (sound_end q sound) few size fo fr far moved end stops
