-- Frame after frame: what stands after one more, and where coding stops.
use Rattle.std.proofs.Common.{◌≡◌, ℕ, ◌+◌, ◌*◌, ◌<◌, ◌≤◌, ◌⊎◌, inl, inr, Bool, true, false, List, [], ◌∷◌, ◌++◌, length, map, Option, None, refl, sym, subst, ap, ◌∙◌, arith, append_assoc}
use Rattle.std.proofs.lemmas.Bool.{cases_lt}
use Rattle.std.proofs.lemmas.List.{length-append}
use Rattle.std.proofs.lemmas.List.Elements.{All-nil}
use Rattle.m2v_bits.specs.Bits.{packed, number, start_code, IsEdge}
use Rattle.m2v_bits.proofs.Units.{packed-append}
use Rattle.m2v_port.specs.Ends.{Change, change}
use Rattle.m2v_port.specs.Port.{Moves, Grows, GrowsByPrefix}
use Rattle.m2v_port.proofs.Runs.{rose_since, moves_on, moves_nothing, grows_on, grows_by_nothing, grows_by_all, prefix_on, prefix_of_more}
use Rattle.m2v_plane.specs.Raw.{frame_bytes, raw, pad}
use Rattle.m2v_plane.specs.Samples.{Samples}
use Rattle.m2v_set.specs.declared.settings.Settings.{Settings}
use Rattle.m2v_set.specs.Numbers.{dims_of}
use Rattle.m2v_set.specs.Rules.{Passes}
use Rattle.m2v_order.specs.Groups.{Queue, Group, opening, is_due, group_of, after_group, followed, IsSoundQueue}
use Rattle.m2v_order.proofs.Queues.{due_is}
use Rattle.m2v_rate.specs.Plans.{fresh}
use Rattle.m2v_slice.specs.Books.{Book}
use Rattle.m2v_law_shown.specs.m2v_enc_stream.Streams.{Progress, at_start, book_of, group_coded, groups_begun, zeros_sum, coded_all, Coded, Recon}
use Rattle.m2v_encode.specs.declared.answer.Summary.{Summary}
use Rattle.m2v_encode.specs.declared.answer.EncodeError.{EncodeError}
use Rattle.m2v_encode.specs.declared.answer.EncodeError.TheVariants.{Read, Write, ShortFrame, NoFrames, TooManyFrames, Memory}
use Rattle.m2v_encode.specs.declared.group.Coder.{Coder}
use Rattle.m2v_encode.specs.Answers.{AreWhole, most_frames, Unended, CutOff, Stops}
use Rattle.m2v_encode.specs.Groups.{whole_ledger, group_text, group_shown, anchor_behind}
use Rattle.m2v_encode.specs.Steps.{FrameStops, ReadsOn, ReadingStops, ReadAhead, book_by, GroupCoded, GroupStops, HandedOut, Stands, SoFar}
use Rattle.m2v_encode.proofs.Readings.{raw_both, raw_one, whole_all, whole_one, moved_all}
use Rattle.m2v_encode.proofs.Fronts.{handed_none, handed_more, handed_group, begun_is, begun_behind, Front, front_is, front_start, left_some}

-- ---- bytes and bits

-- the bytes of a text begin with those of its front
pub packed_front : (a b : List Bool) → (rest : List ℕ) × (packed (a ++ b) ≡ packed a ++ rest)
unfolding packed
packed_front (x1 ∷ x2 ∷ x3 ∷ x4 ∷ x5 ∷ x6 ∷ x7 ∷ x8 ∷ a) b =
    let rec = packed_front a b in
    (rec.0, ap (λ (t : List ℕ). number (x1 ∷ x2 ∷ x3 ∷ x4 ∷ x5 ∷ x6 ∷ x7 ∷ x8 ∷ []) ∷ t) rec.1)
packed_front [] b = (packed b, refl)
packed_front (x1 ∷ []) b = (packed (x1 ∷ b), refl)
packed_front (x1 ∷ x2 ∷ []) b = (packed (x1 ∷ x2 ∷ b), refl)
packed_front (x1 ∷ x2 ∷ x3 ∷ []) b = (packed (x1 ∷ x2 ∷ x3 ∷ b), refl)
packed_front (x1 ∷ x2 ∷ x3 ∷ x4 ∷ []) b = (packed (x1 ∷ x2 ∷ x3 ∷ x4 ∷ b), refl)
packed_front (x1 ∷ x2 ∷ x3 ∷ x4 ∷ x5 ∷ []) b = (packed (x1 ∷ x2 ∷ x3 ∷ x4 ∷ x5 ∷ b), refl)
packed_front (x1 ∷ x2 ∷ x3 ∷ x4 ∷ x5 ∷ x6 ∷ []) b = (packed (x1 ∷ x2 ∷ x3 ∷ x4 ∷ x5 ∷ x6 ∷ b), refl)
packed_front (x1 ∷ x2 ∷ x3 ∷ x4 ∷ x5 ∷ x6 ∷ x7 ∷ []) b = (packed (x1 ∷ x2 ∷ x3 ∷ x4 ∷ x5 ∷ x6 ∷ x7 ∷ b), refl)

pub edge_by : (t : List Bool) (bytes : ℕ) → 8 * bytes ≡ length t → IsEdge t
edge_by t bytes is = omega (arith, is)

pub prefix_by : (h0 h1 : Option (List ℕ)) (part all rest : List ℕ) → all ≡ part ++ rest → GrowsByPrefix h0 part h1 → GrowsByPrefix h0 all h1
prefix_by h0 h1 part all rest is grown = subst (λ (b : List ℕ). GrowsByPrefix h0 b h1) (sym is) (prefix_of_more grown rest)

-- ---- one group more

-- behind a group that begins at a bit of the stream
abbrev pub progress_by : Progress → Book → Bool → ℕ → Progress
progress_by x b ends at = record {
  text = x.text ++ group_text b ends at;
  ledger = whole_ledger b;
  before = anchor_behind b;
  shown = x.shown ++ group_shown b;
  pictures = x.pictures + length b.pictures;
  zeros = x.zeros + zeros_sum (whole_ledger b) ends (length b.pictures);
}

progress_is : (s : Settings) (x : Progress) (g : Group Samples) (ends : Bool) → group_coded s x g ends ≡ progress_by x (book_of s x g) ends (length x.text)
unfolding group_coded
progress_is s x g ends = refl

book_is : (s : Settings) (x : Progress) (c : Coder) (g : Group Samples) → Stands x c → c.settings ≡ s → book_of s x g ≡ book_by c g
book_is s x c g st e = rw (st.ledger, st.before, e) refl

pub coded_is : (s : Settings) (x : Progress) (c : Coder) (g : Group Samples) (ends : Bool) → Stands x c → c.settings ≡ s
    → group_coded s x g ends ≡ progress_by x (book_by c g) ends (8 * c.total.bytes)
coded_is s x c g ends st e =
    progress_is s x g ends
    ∙ ap (λ (b : Book). progress_by x b ends (length x.text)) (book_is s x c g st e)
    ∙ ap (progress_by x (book_by c g) ends) (sym st.bytes)

-- the groups that were handed out stand in front of the whole stream
pub front_begun : (s : Settings) (frames : List (List ℕ)) (groups : List (Group Samples)) (q : Queue Samples) → Passes s → HandedOut s frames groups q → IsSoundQueue q
    → Front (groups_begun s (at_start s) groups) (coded_all s frames)
front_begun s frames groups q passes h sound = elim (cases_lt 0 (length q.frames)) [
  | inl some ↦ front_is s frames groups q passes h some
  | inr none ↦ front_empty s frames groups q h (omega (arith, sound.none (omega (arith, none)) h.going, h.pushed))
]
  where
    front_empty : (s : Settings) (frames : List (List ℕ)) (groups : List (Group Samples)) (q : Queue Samples) → HandedOut s frames groups q → length frames ≡ 0
        → Front (groups_begun s (at_start s) groups) (coded_all s frames)
    front_empty s [] [] q h none = front_start s
    front_empty s [] (g ∷ groups) q h none = absurd (omega (arith, h.count))
    front_empty s (f ∷ frames) groups q h none = absurd (omega (arith, none))

module _ {S K N : Type 0} (left : S → Option (List ℕ)) (input_faults : S → ℕ) (held : K → Option (List ℕ)) (output_faults : K → ℕ)
    (kept : N → Option (List ℕ)) (recon_faults : N → ℕ) where
  abbrev input : S → S → Change
  input = change left input_faults

  abbrev output : K → K → Change
  output = change held output_faults

  abbrev recon : N → N → Change
  recon = change kept recon_faults

  -- ---- so far

  pub so_far_none : (s : Settings) (c : Coder) (q : Queue Samples) (i0 : S) (o0 : K) (r0 : N) → c.settings ≡ s → c.ledger ≡ fresh c.settings → c.before ≡ None
      → c.total ≡ record { frames = 0; pictures = 0; bytes = 0; stuffing = 0 } → q ≡ opening c.settings → SoFar s c q (input i0 i0) (output o0 o0) (recon r0 r0)
  unfolding groups_begun packed
  so_far_none s c q i0 o0 r0 e ledger before total queue = record {
    frames = [];
    groups = [];
    whole = All-nil (λ (x : List ℕ). length x ≡ frame_bytes (dims_of s));
    moved = moves_nothing (left i0);
    handed = subst (HandedOut s [] []) (sym (queue ∙ ap (λ (x : Settings). opening x) e)) (handed_none s);
    settings = e;
    stands = record {
      ledger = ledger ∙ ap fresh e;
      before = before;
      pictures = ap (λ (t : Summary). t.pictures) total;
      bytes = ap (λ (t : Summary). 8 * t.bytes) total;
      stuffing = ap (λ (t : Summary). 8 * t.stuffing) total;
    };
    grown = grows_by_nothing (held o0);
    shown = grows_by_nothing (kept r0);
    unwritten = λ none. (refl, refl);
  }

  -- frames more wait
  pub so_far_reads : (s : Settings) (c : Coder) (q r : Queue Samples) (i0 i1 i2 : S) (o0 o1 : K) (r0 r1 : N)
      → SoFar s c q (input i0 i1) (output o0 o1) (recon r0 r1) → ReadsOn left input_faults s q r i1 i2 → SoFar s c r (input i0 i2) (output o0 o1) (recon r0 r1)
  so_far_reads s c q r i0 i1 i2 o0 o1 r0 r1 far reads = record {
    frames = far.frames ++ reads.frames;
    groups = far.groups;
    whole = whole_all s far.frames reads.frames far.whole reads.whole;
    moved = moved_all (left i0) (left i1) (left i2) far.frames reads.frames far.moved reads.moved;
    handed = handed_more s far.frames reads.frames far.groups q r far.handed reads.pushed;
    settings = far.settings;
    stands = far.stands;
    grown = far.grown;
    shown = far.shown;
    unwritten = λ none. far.unwritten (omega (arith, none, length-append far.frames reads.frames));
  }

  -- the group that was due is coded
  pub so_far_group : (s : Settings) (c d : Coder) (q r : Queue Samples) (i0 i1 : S) (o0 o1 o2 : K) (r0 r1 r2 : N) → Passes s → IsSoundQueue q → is_due q ≡ true
      → SoFar s c q (input i0 i1) (output o0 o1) (recon r0 r1) → r ≡ after_group q → GroupCoded c d (book_by c (group_of q)) false (output o1 o2) (recon r1 r2)
      → SoFar s d r (input i0 i1) (output o0 o2) (recon r0 r2)
  so_far_group s c d q r i0 i1 o0 o1 o2 r0 r1 r2 passes sound is far after group =
      let st = far.stands in
      let x = groups_begun s (at_start s) far.groups in
      let b = book_by c (group_of q) in
      let at = 8 * c.total.bytes in
      let e : groups_begun s (at_start s) (far.groups ++ group_of q ∷ []) ≡ progress_by x b false at =
      begun_behind s (at_start s) far.groups (group_of q) ∙ coded_is s x c (group_of q) false st far.settings in
      let bytes : packed (progress_by x b false at).text ≡ packed x.text ++ packed (group_text b false at) = packed-append x.text (group_text b false at) (edge_by x.text c.total.bytes st.bytes) in
      let here : Stands (progress_by x b false at) d = record {
        ledger = group.ledger;
        before = group.before;
        pictures = omega (arith, group.pictures, st.pictures);
        bytes = omega (arith, group.bytes, st.bytes, length-append x.text (group_text b false at));
        stuffing = omega (arith, group.stuffing, st.stuffing);
      } in
      record {
        frames = far.frames;
        groups = far.groups ++ group_of q ∷ [];
        whole = far.whole;
        moved = far.moved;
        handed = handed_group s far.frames far.groups q r passes sound is far.handed after;
        settings = group.settings ∙ far.settings;
        stands = subst (λ (y : Progress). Stands y d) (sym e) here;
        grown = subst (λ (y : Progress). Grows (held o0) (packed y.text) (held o2)) (sym e)
            (subst (λ (t : List ℕ). Grows (held o0) t (held o2)) (sym bytes) (grows_on far.grown group.grown));
        shown = subst (λ (y : Progress). Grows (kept r0) (raw y.shown) (kept r2)) (sym e)
            (subst (λ (t : List ℕ). Grows (kept r0) t (kept r2)) (sym (raw_both x.shown (group_shown b))) (grows_on far.shown group.shown));
        unwritten = λ none. absurd (omega (arith, none, (due_is q is).some, sound.room, far.handed.pushed));
      }

  -- ---- where it stops

  -- what stands is what the groups bring that were handed out
  pub begun_here : (s : Settings) (c : Coder) (q : Queue Samples) (part : List ℕ) (i0 i1 i2 : S) (o0 o1 : K) (r0 r1 : N) → q.pushed ≤ most_frames → is_due q ≡ false
      → (far : SoFar s c q (input i0 i1) (output o0 o1) (recon r0 r1)) → Moves (left i1) part (left i2)
      → Unended s (input i0 i2) (output o0 o1) (recon r0 r1) far.frames part
  begun_here s c q part i0 i1 i2 o0 o1 r0 r1 few rest far moved =
      let e = begun_is s far.frames far.groups q far.handed rest in
      record {
        most = omega (arith, few, far.handed.pushed);
        whole = far.whole;
        moved = moves_on far.moved moved;
        grown = subst (λ (y : Progress). Grows (held o0) (packed y.text) (held o1)) (sym e) far.grown;
        shown = subst (λ (y : Progress). Grows (kept r0) (raw y.shown) (kept r1)) (sym e) far.shown;
        unwritten = far.unwritten;
      }

  -- the stream of some frames begins with the groups that were handed out, and so do the frames that are shown
  front_bytes : (s : Settings) (frames : List (List ℕ)) (x : Progress) → Front x (coded_all s frames)
      → ((rest : List ℕ) × (Coded s frames ≡ packed x.text ++ rest)) × ((rest : List ℕ) × (raw (Recon s frames) ≡ raw x.shown ++ rest))
  front_bytes s frames x front =
      let more = packed_front x.text (front.bits ++ start_code 0xB7) in (
        (more.0, ap (λ (t : List Bool). packed (t ++ start_code 0xB7)) front.text ∙ ap packed (append_assoc x.text front.bits (start_code 0xB7)) ∙ more.1),
        (raw front.frames, ap raw front.shown ∙ raw_both x.shown front.frames),
      )

  -- output and recon hold a prefix of what the groups bring that stand in front of the stream
  pub cut_here : (s : Settings) (frames : List (List ℕ)) (part : List ℕ) (x : Progress) (i0 i2 : S) (o0 o2 : K) (r0 r2 : N) → length frames ≤ most_frames
      → AreWhole s frames → length part < frame_bytes (dims_of s) → Moves (left i0) (raw frames ++ part) (left i2) → Front x (coded_all s frames)
      → GrowsByPrefix (held o0) (packed x.text) (held o2) → GrowsByPrefix (kept r0) (raw x.shown) (kept r2)
      → (length frames ≡ 0 → (o2 ≡ o0) × (r2 ≡ r0))
      → CutOff s (input i0 i2) (output o0 o2) (recon r0 r2)
  cut_here s frames part x i0 i2 o0 o2 r0 r2 few whole less moved front grown shown none =
      let bytes = front_bytes s frames x front in
      record {
        frames = frames;
        part = part;
        most = few;
        whole = whole;
        less = less;
        moved = moved;
        grown = prefix_by (held o0) (held o2) (packed x.text) (Coded s frames) bytes.0.0 bytes.0.1 grown;
        shown = prefix_by (kept r0) (kept r2) (raw x.shown) (raw (Recon s frames)) bytes.1.0 bytes.1.1 shown;
        unwritten = none;
      }

  -- the input failed or memory ran out before the next frame was there
  pub lost_here : (s : Settings) (c : Coder) (q : Queue Samples) (part : List ℕ) (i0 i1 i2 : S) (o0 o1 : K) (r0 r1 : N) → Passes s → IsSoundQueue q → q.pushed ≤ most_frames
      → SoFar s c q (input i0 i1) (output o0 o1) (recon r0 r1) → Moves (left i1) part (left i2) → length part < frame_bytes (dims_of s)
      → CutOff s (input i0 i2) (output o0 o1) (recon r0 r1)
  lost_here s c q part i0 i1 i2 o0 o1 r0 r1 passes sound few far moved less =
      cut_here s far.frames part (groups_begun s (at_start s) far.groups) i0 i2 o0 o1 r0 r1 (omega (arith, few, far.handed.pushed)) far.whole less (moves_on far.moved moved)
      (front_begun s far.frames far.groups q passes far.handed sound) (grows_by_all far.grown) (grows_by_all far.shown) far.unwritten

  -- the next frame does not wait
  pub frame_stopped : (s : Settings) (c : Coder) (q : Queue Samples) (i0 i1 i2 : S) (o0 o1 : K) (r0 r1 : N) (e : EncodeError) → Passes s → IsSoundQueue q → q.pushed < most_frames
      → 0 < frame_bytes (dims_of s) → is_due q ≡ false → input_faults i0 ≤ input_faults i1
      → SoFar s c q (input i0 i1) (output o0 o1) (recon r0 r1) → FrameStops s (input i1 i2) e → Stops s (input i0 i2) (output o0 o1) (recon r0 r1) e
  unfolding FrameStops Stops
  frame_stopped s c q i0 i1 i2 o0 o1 r0 r1 Read passes sound few some rest since far h = (
    rose_since since h.0,
    record {
      frames = far.frames;
      part = h.1.part;
      begun = begun_here s c q h.1.part i0 i1 i2 o0 o1 r0 r1 (omega (arith, few)) rest far h.1.moved;
      less = h.1.fewer;
    },
  )
  frame_stopped s c q i0 i1 i2 o0 o1 r0 r1 Write passes sound few some rest since far h = absurd h
  frame_stopped s c q i0 i1 i2 o0 o1 r0 r1 (ShortFrame extra) passes sound few some rest since far h = record {
    frames = far.frames;
    part = h.part;
    begun = begun_here s c q h.part i0 i1 i2 o0 o1 r0 r1 (omega (arith, few)) rest far h.moved;
    bytes = h.bytes;
    fewer = omega (arith, few, far.handed.pushed);
    count = h.count;
    some = h.some;
    less = h.less;
    end = h.end;
  }
  frame_stopped s c q i0 i1 i2 o0 o1 r0 r1 NoFrames passes sound few some rest since far h = absurd h
  frame_stopped s c q i0 i1 i2 o0 o1 r0 r1 TooManyFrames passes sound few some rest since far h = absurd h
  frame_stopped s c q i0 i1 i2 o0 o1 r0 r1 Memory passes sound few some rest since far (inl h) =
      lost_here s c q h.part i0 i1 i2 o0 o1 r0 r1 passes sound (omega (arith, few)) far h.moved h.fewer
  frame_stopped s c q i0 i1 i2 o0 o1 r0 r1 Memory passes sound few some rest since far (inr h) =
      let f = h.frame in
      let more = handed_more s far.frames (f ∷ []) far.groups q (followed q (pad (dims_of s) f ∷ []) false) far.handed refl in
      let long = length-append far.frames (f ∷ []) in
      cut_here s (far.frames ++ f ∷ []) [] (groups_begun s (at_start s) far.groups) i0 i2 o0 o1 r0 r1 (omega (arith, few, far.handed.pushed, long)) (whole_all s far.frames (f ∷ []) far.whole (whole_one s f h.whole)) some
      (moves_on (moved_all (left i0) (left i1) (left i2) far.frames (f ∷ []) far.moved (subst (λ (b : List ℕ). Moves (left i1) b (left i2)) (sym (raw_one f)) h.moved)) (moves_nothing (left i2)))
      (front_is s (far.frames ++ f ∷ []) far.groups (followed q (pad (dims_of s) f ∷ []) false) passes more (omega (arith, length-append q.frames (pad (dims_of s) f ∷ []))))
      (grows_by_all far.grown) (grows_by_all far.shown) (λ none. absurd (omega (arith, none, long)))

  -- frames were read on, and then one was there no more
  pub reading_stopped : (s : Settings) (c : Coder) (q : Queue Samples) (i0 i1 i2 : S) (o0 o1 : K) (r0 r1 : N) (e : EncodeError) → Passes s → 0 < frame_bytes (dims_of s)
      → input_faults i0 ≤ input_faults i1 → SoFar s c q (input i0 i1) (output o0 o1) (recon r0 r1) → ReadingStops left input_faults s q i1 i2 e
      → Stops s (input i0 i2) (output o0 o1) (recon r0 r1) e
  reading_stopped s c q i0 i1 i2 o0 o1 r0 r1 e passes size since far stopped =
      frame_stopped s c stopped.queue i0 stopped.between i2 o0 o1 r0 r1 e passes stopped.sound stopped.fewer size stopped.rest (omega (arith, since, stopped.reads.rises))
      (so_far_reads s c q stopped.queue i0 i1 stopped.between o0 o1 r0 r1 far stopped.reads) stopped.stops

  -- a group was cut off, and frames beyond it were read meanwhile
  group_cut : (s : Settings) (c : Coder) (q p : Queue Samples) (i0 i1 i2 : S) (o0 o1 o2 : K) (r0 r1 r2 : N) → Passes s → IsSoundQueue q → is_due q ≡ true → p ≡ after_group q
      → SoFar s c q (input i0 i1) (output o0 o1) (recon r0 r1) → ReadAhead left input_faults s p i1 i2
      → GrowsByPrefix (held o1) (packed (group_text (book_by c (group_of q)) false (8 * c.total.bytes))) (held o2)
      → GrowsByPrefix (kept r1) (raw (group_shown (book_by c (group_of q)))) (kept r2) → CutOff s (input i0 i2) (output o0 o2) (recon r0 r2)
  group_cut s c q p i0 i1 i2 o0 o1 o2 r0 r1 r2 passes sound is after far ahead grown shown =
      let st = far.stands in
      let x = groups_begun s (at_start s) far.groups in
      let b = book_by c (group_of q) in
      let at = 8 * c.total.bytes in
      let more = ahead.frames in
      let waits = map (pad (dims_of s)) more in
      let long = length-append far.frames more in
      let e : groups_begun s (at_start s) (far.groups ++ group_of q ∷ []) ≡ progress_by x b false at =
      begun_behind s (at_start s) far.groups (group_of q) ∙ coded_is s x c (group_of q) false st far.settings in
      let bytes : packed (progress_by x b false at).text ≡ packed x.text ++ packed (group_text b false at) = packed-append x.text (group_text b false at) (edge_by x.text c.total.bytes st.bytes) in
      let pass : Passes q.settings = subst Passes (sym far.handed.settings) passes in
      let behind = handed_group s far.frames far.groups q (after_group q) passes sound is far.handed refl in
      let beyond = handed_more s far.frames more (far.groups ++ group_of q ∷ []) (after_group q) (followed (after_group q) waits false) behind refl in
      let front = front_is s (far.frames ++ more) (far.groups ++ group_of q ∷ []) (followed (after_group q) waits false) passes beyond
      (omega (arith, left_some q pass sound far.handed.going is, length-append (after_group q).frames waits)) in
      let moved : Moves (left i0) (raw (far.frames ++ more) ++ ahead.part) (left i2) =
      subst (λ (t : List ℕ). Moves (left i0) t (left i2)) (sym (ap (λ (t : List ℕ). t ++ ahead.part) (raw_both far.frames more) ∙ append_assoc (raw far.frames) (raw more) ahead.part))
      (moves_on far.moved ahead.moved) in
      cut_here s (far.frames ++ more) ahead.part (progress_by x b false at) i0 i2 o0 o2 r0 r2
      (omega (arith, ahead.most, ap (λ (y : Queue Samples). y.pushed) after, far.handed.pushed, long)) (whole_all s far.frames more far.whole ahead.whole) ahead.less moved
      (subst (λ (y : Progress). Front y (coded_all s (far.frames ++ more))) e front)
      (subst (λ (t : List ℕ). GrowsByPrefix (held o0) t (held o2)) (sym bytes) (prefix_on far.grown grown))
      (subst (λ (t : List ℕ). GrowsByPrefix (kept r0) t (kept r2)) (sym (raw_both x.shown (group_shown b))) (prefix_on far.shown shown))
      (λ none. absurd (omega (arith, none, long, (due_is q is).some, sound.room, far.handed.pushed)))

  pub group_stopped : (s : Settings) (c : Coder) (q p : Queue Samples) (i0 i1 i2 : S) (o0 o1 o2 : K) (r0 r1 r2 : N) (e : EncodeError) → Passes s → IsSoundQueue q → is_due q ≡ true → p ≡ after_group q
      → output_faults o0 ≤ output_faults o1 → recon_faults r0 ≤ recon_faults r1 → SoFar s c q (input i0 i1) (output o0 o1) (recon r0 r1) → ReadAhead left input_faults s p i1 i2
      → GroupStops (book_by c (group_of q)) false (8 * c.total.bytes) (output o1 o2) (recon r1 r2) e → Stops s (input i0 i2) (output o0 o2) (recon r0 r2) e
  unfolding GroupStops Stops
  group_stopped s c q p i0 i1 i2 o0 o1 o2 r0 r1 r2 Read passes sound is after fo fr far ahead h = absurd h
  group_stopped s c q p i0 i1 i2 o0 o1 o2 r0 r1 r2 Write passes sound is after fo fr far ahead h =
      (by_side h.0, group_cut s c q p i0 i1 i2 o0 o1 o2 r0 r1 r2 passes sound is after far ahead h.1.0 h.1.1)
    where
      by_side : (output o1 o2).Failed ⊎ (recon r1 r2).Failed → (output o0 o2).Failed ⊎ (recon r0 r2).Failed
      by_side (inl f) = inl (rose_since fo f)
      by_side (inr f) = inr (rose_since fr f)
  group_stopped s c q p i0 i1 i2 o0 o1 o2 r0 r1 r2 (ShortFrame extra) passes sound is after fo fr far ahead h = absurd h
  group_stopped s c q p i0 i1 i2 o0 o1 o2 r0 r1 r2 NoFrames passes sound is after fo fr far ahead h = absurd h
  group_stopped s c q p i0 i1 i2 o0 o1 o2 r0 r1 r2 TooManyFrames passes sound is after fo fr far ahead h = absurd h
  group_stopped s c q p i0 i1 i2 o0 o1 o2 r0 r1 r2 Memory passes sound is after fo fr far ahead h =
      group_cut s c q p i0 i1 i2 o0 o1 o2 r0 r1 r2 passes sound is after far ahead h.0 h.1
