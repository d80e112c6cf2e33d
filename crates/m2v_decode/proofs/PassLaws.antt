-- What each part of the stream does to a reader.
use Rattle.std.proofs.Common.{◌≡◌, ℕ, ◌+◌, ◌*◌, ◌<◌, ◌≤◌, ◌^◌, Bool, true, false, List, [], ◌∷◌, ◌++◌, length, Option, Some, None, is_some, Ok, refl, sym, ap, subst, ◌∙◌, arith}
use Rattle.std.specs.Prelude.{not, nat_le, nat_eq, ◌&&◌, ◌||◌, if◌then◌else◌}
use Rattle.std.proofs.lemmas.Bool.{and_parts}
use Rattle.std.proofs.lemmas.List.{append-nil, length-append}
use Rattle.m2v_head.specs.Fits.{PictureFits}
use Rattle.m2v_model.specs.declared.state.Sequence.{Sequence}
use Rattle.m2v_model.specs.declared.state.Open.{Open}
use Rattle.m2v_model.specs.declared.state.State.{State}
use Rattle.m2v_model.specs.States.{dims_of, is_b, is_frame, is_frame_end, drops, opened, picture_rows, slice_setup, after_end, after_slice, with_unread_slice, after_unread_slice}
use Rattle.m2v_model.specs.Units.{body}
use Rattle.m2v_model.specs.Slices.{slice_at}
use Rattle.m2v_model.specs.Streams.{after, slice, unread_slice, over}
use Rattle.m2v_model.specs.Pictures.{Picture, Pictures, Store, Events, picture_of, pictures_in, closed, told_by}
use Rattle.m2v_model.specs.PieceNotes.{noted}
use Rattle.m2v_model.proofs.EventLaws.{pictures_in-append}
use Rattle.m2v_dec_rows.specs.Headers.{HaveOneSize}
use Rattle.m2v_dec_rows.specs.m2v_dec_unit.Reads.{IsReadPicture}
use Rattle.m2v_dec_rows.specs.m2v_dec_unit.Among.{AreMatrices, HeaderFits, HeaderFollows, goes_on, part_of}
use Rattle.m2v_dec_rows.specs.m2v_dec_unit.declared.header.Header.{Header}
use Rattle.m2v_dec_rows.specs.m2v_dec_unit.declared.header.Header.TheVariants as headers
use Rattle.m2v_dec_rows.specs.m2v_dec_picture.declared.slices.SliceEnd.{SliceEnd}
use Rattle.m2v_dec_rows.specs.m2v_dec_picture.Reads.{PassesSlice}
use Rattle.m2v_dec_rows.proofs.StateLaws.{size_there, headers_behind, closed_behind}
use Rattle.m2v_decode.specs.declared.pass.Pass.{Pass}
use Rattle.m2v_decode.specs.Decoding.{decoded_of, dropped_in}
use Rattle.m2v_decode.specs.Course.{IsOpen, with_events}
use Rattle.m2v_decode.specs.Passing.{StandsOpen, AreSoundHeaders, IsSoundPass, Tells, Passes, makes_frame, Ends, EndsBefore, told_of, Noted, SlicePassed}
use Rattle.m2v_decode.proofs.NoteLaws.{notes_same, noted_on}
use Rattle.m2v_decode.proofs.Showing.{decoded-append, dropped-append}
use Rattle.m2v_decode.proofs.FrameLaws.{rest_same, moved, moves, slice_moves}
use Rattle.m2v_decode.proofs.CourseLaws.{open_dropped, few_dropped}
use Rattle.m2v_decode.proofs.StepLaws.{row_within, most_covered}
use Rattle.m2v_model.specs.declared.setup.SliceSetup.{SliceSetup}

-- ---- what is told

-- nothing was told
pub tells_none : (old new : Pass) → new.pictures ≡ old.pictures → new.dropped ≡ old.dropped → new.frames ≡ old.frames → noted new.notes ≡ noted old.notes → new.code_end ≡ old.code_end → Tells old [] new
tells_none old new pictures dropped frames notes code_end = record {
  pictures = omega (arith, pictures);
  dropped = omega (arith, dropped);
  frames = omega (arith, frames);
  notes = notes ∙ notes_same old.code_end (noted old.notes);
  code_end = code_end;
}

-- events, and those behind them
pub tells_on : (old mid new : Pass) (es fs : Events) → Tells old es mid → Tells mid fs new → Tells old (es ++ fs) new
tells_on old mid new es fs a b =
    let ps : pictures_in (es ++ fs) ≡ pictures_in es ++ pictures_in fs = pictures_in-append es fs in
    let ds : decoded_of (pictures_in (es ++ fs)) ≡ decoded_of (pictures_in es) ++ decoded_of (pictures_in fs) = ap decoded_of ps ∙ decoded-append (pictures_in es) (pictures_in fs) in
    record {
      pictures = omega (arith, a.pictures, b.pictures, ap length ps, length-append (pictures_in es) (pictures_in fs));
      dropped = omega (arith, a.dropped, b.dropped, ap dropped_in ps, dropped-append (pictures_in es) (pictures_in fs));
      frames = omega (arith, a.frames, b.frames, ap length ds, length-append (decoded_of (pictures_in es)) (decoded_of (pictures_in fs)));
      notes = noted_on old.code_end mid.code_end (noted old.notes) (noted mid.notes) (noted new.notes) es fs a.notes a.code_end b.notes;
      code_end = b.code_end ∙ a.code_end;
    }

-- the same, with other fields of the state
pub tells_same : (old new z : Pass) (es : Events) → Tells old es new → z.pictures ≡ new.pictures → z.dropped ≡ new.dropped → z.frames ≡ new.frames → z.notes ≡ new.notes → z.code_end ≡ new.code_end → Tells old es z
tells_same old new z es t pictures dropped frames notes code_end = record {
  pictures = pictures ∙ t.pictures;
  dropped = dropped ∙ t.dropped;
  frames = frames ∙ t.frames;
  notes = ap noted notes ∙ t.notes;
  code_end = code_end ∙ t.code_end;
}

-- ---- a picture ends

one_frame : (ends drop : Bool) (p : Picture) → p.ends_frame ≡ ends → p.dropped ≡ drop → (drop ≡ true → is_b p.info.kind ≡ true) → length (decoded_of (p ∷ [])) ≡ (if ends && not drop then 1 else 0)
one_frame false drop p e d dropped = rw e refl
one_frame true true p e d dropped =
    let b = dropped refl in
    rw (e, b, d) refl
one_frame true false p e d dropped = kept (is_b p.info.kind) refl
  where
    kept : (b : Bool) → is_b p.info.kind ≡ b → length (decoded_of (p ∷ [])) ≡ 1
    kept true b = rw (e, d, b) refl
    kept false b = rw (e, b) refl

-- the frame that a picture makes is counted
pub frame_counted : (p : Open) (store : Store) → IsOpen p → length (decoded_of (picture_of p store ∷ [])) ≡ (if makes_frame p then 1 else 0)
unfolding picture_of
frame_counted p store o = one_frame (is_frame_end p) p.dropped (picture_of p store) refl refl o.dropped

opened_as : (s : Option Sequence) (p : Open) → StandsOpen (Some p) s → IsOpen p
opened_as (Some s) p h = h
opened_as None p h = absurd h

-- what is known of the picture that is open
pub open_there : (st : State) (p : Open) → AreSoundHeaders st → st.picture ≡ Some p → IsOpen p
open_there st p h is = opened_as st.sequence p (subst (λ (o : Option Open). StandsOpen o st.sequence) is h.fits)

shut : (st : State) → AreSoundHeaders st → AreSoundHeaders (after_end st)
shut st h = record { headers_only = h.headers_only; matrices = h.matrices; size = h.size; fits = tt }

pub ends_some : (old d : Pass) (p : Open) → IsSoundPass old → old.state.picture ≡ Some p → d.state ≡ old.state → ((store : Store) → Tells old (closed (Some p) store) d) → (any : Store) → Ends old (record d { state = record d.state { picture = None } })
ends_some old d p sound is same tells any =
    let z : Pass = record d { state = record d.state { picture = None } } in
    let state : z.state ≡ after_end old.state = ap after_end same in
    let t = tells any in
    let frames = frame_counted p any (open_there old.state p sound.state is) in
    let few = few_dropped (makes_frame p) in
    let more = few_dropped p.dropped in
    record {
      state = state;
      tells = λ store. subst (λ (o : Option Open). Tells old (closed o store) z) (sym is) (tells_same old d z (closed (Some p) store) (tells store) refl refl refl refl refl);
      sound = record {
        state = subst AreSoundHeaders (sym state) (shut old.state sound.state);
        dropped = omega (arith, sound.dropped, t.dropped, t.pictures, open_dropped p any, more);
        frames = omega (arith, sound.frames, t.frames, t.pictures, frames, few);
      };
    }

-- no picture was open
pub ends_none : (old : Pass) → IsSoundPass old → old.state.picture ≡ None → Ends old old
ends_none old sound none = record {
  state = rest_same old.state none;
  tells = λ store. subst (λ (o : Option Open). Tells old (closed o store) old) (sym none) (tells_none old old refl refl refl refl refl);
  sound = sound;
}

-- ---- headers

open_behind : (q : Option Sequence) (p : Open) → is_some q ≡ true → IsOpen p → StandsOpen (Some p) q
open_behind (Some s) p some o = o
open_behind None p some o = absurd cc

-- a picture that begins is dropped where it is a B picture without its references
open_is : (st : State) (p : Open) (headers_only : Bool) → headers_only ≡ false → PictureFits p.info × IsReadPicture p.info p.extension → p.slices_unread ≡ (headers_only || drops st p.info.kind) → p.dropped ≡ drops st p.info.kind → p.covered ≡ 0 → p.large_macroblocks ≡ 0 → IsOpen p
open_is st p headers_only off fits unread dropped covered large = record {
  fits = fits;
  unread = unread ∙ ap (λ (b : Bool). b || drops st p.info.kind) off ∙ sym dropped;
  dropped = λ on. (and_parts (is_b p.info.kind) (not (nat_le 2 st.anchors || (nat_eq st.anchors 1 && st.closed_gop))) (sym dropped ∙ on)).0;
  covered = omega (arith, covered);
  large = omega (arith, covered, large);
}

headers_on : (st : State) (h : Header) (u : List ℕ) → AreSoundHeaders st → HeaderFits h → HeaderFollows st h → AreMatrices (after st (part_of u h)) → AreSoundHeaders (after st (part_of u h))
headers_on st h u sound = headers_behind false (λ (q : Option Sequence) (o : Option Open). StandsOpen o q) st h u (λ q. tt)
    (λ info extension fits follows. open_behind st.sequence (opened st info extension) follows.0 (open_is st (opened st info extension) st.headers_only sound.headers_only fits refl refl refl refl)) sound

-- what is told before a header and of it
told_header : (old mid new : Pass) (h : Header) (u : List ℕ) → EndsBefore h old mid → Tells mid (told_of h) new → (store : Store) → Tells old (told_by old.state store (part_of u h)) new
told_header old mid new (headers.Sequence s) u e t store = tells_on old mid new (closed old.state.picture store) (told_of (headers.Sequence s)) (e.tells store) t
told_header old mid new (headers.Group g) u e t store = tells_on old mid new (closed old.state.picture store) (told_of (headers.Group g)) (e.tells store) t
told_header old mid new (headers.Picture info extension) u e t store =
    subst (λ (es : Events). Tells old es new) (append-nil (closed old.state.picture store)) (tells_on old mid new (closed old.state.picture store) [] (e.tells store) t)
told_header old mid new (headers.Matrices m) u e t store = subst (λ (x : Pass). Tells x [] new) e t
told_header old mid new headers.Skipped u e t store = subst (λ (x : Pass). Tells x [] new) e t
told_header old mid new headers.Ending u e t store =
    subst (λ (es : Events). Tells old es new) (append-nil (closed old.state.picture store)) (tells_on old mid new (closed old.state.picture store) [] (e.tells store) t)

-- what is known behind what ends before a header
record Before (old mid : Pass) (h : Header) : Type 0 where
  pub sound : IsSoundPass mid
  pub follows : HeaderFollows mid.state h
  pub state : (u : List ℕ) → after mid.state (part_of u h) ≡ after old.state (part_of u h)

before_ended : (old mid : Pass) (h : Header) → (e : Ends old mid) → HeaderFollows (after_end old.state) h → ((u : List ℕ) → after (after_end old.state) (part_of u h) ≡ after old.state (part_of u h)) → Before old mid h
before_ended old mid h e follows same = record {
  sound = e.sound;
  follows = subst (λ (z : State). HeaderFollows z h) (sym e.state) follows;
  state = λ u. ap (λ (z : State). after z (part_of u h)) e.state ∙ same u;
}

before_same : (old mid : Pass) (h : Header) → mid ≡ old → IsSoundPass old → HeaderFollows old.state h → Before old mid h
before_same old mid h e sound follows = subst (λ (x : Pass). Before old x h) (sym e) (record { sound = sound; follows = follows; state = λ u. refl })

before : (old mid : Pass) (h : Header) → IsSoundPass old → HeaderFollows old.state h → EndsBefore h old mid → Before old mid h
unfolding after
before old mid (headers.Sequence s) sound follows e = before_ended old mid (headers.Sequence s) e follows (λ u. refl)
before old mid (headers.Group g) sound follows e = before_ended old mid (headers.Group g) e follows (λ u. refl)
before old mid (headers.Picture info extension) sound follows e = before_ended old mid (headers.Picture info extension) e follows (λ u. refl)
before old mid (headers.Matrices m) sound follows e = before_same old mid (headers.Matrices m) e sound follows
before old mid headers.Skipped sound follows e = before_same old mid headers.Skipped e sound follows
before old mid headers.Ending sound follows e = before_ended old mid headers.Ending e follows (λ u. refl)

none_in_header : (h : Header) → pictures_in (told_of h) ≡ []
none_in_header (headers.Sequence s) = refl
none_in_header (headers.Group g) = refl
none_in_header (headers.Picture info extension) = refl
none_in_header (headers.Matrices m) = refl
none_in_header headers.Skipped = refl
none_in_header headers.Ending = refl

pub passes_header : (old mid noted_now new : Pass) (h : Header) (u : List ℕ) → IsSoundPass old → HeaderFits h → HeaderFollows old.state h → EndsBefore h old mid → Noted mid h noted_now → new ≡ record noted_now { state = new.state }
    → ((v : List ℕ) → new.state ≡ after noted_now.state (part_of v h)) → (AreMatrices noted_now.state → AreMatrices new.state) → Passes old (part_of u h) new
passes_header old mid now new h u sound fits follows e n is state matrices =
    let b = before old mid h sound follows e in
    let z : new.state ≡ after mid.state (part_of u h) = state u ∙ ap (λ (x : State). after x (part_of u h)) n.state in
    let held = (b.sound).state in
    let t = tells_same mid now new (told_of h) n.tells (ap (λ (x : Pass). x.pictures) is) (ap (λ (x : Pass). x.dropped) is) (ap (λ (x : Pass). x.frames) is) (ap (λ (x : Pass). x.notes) is) (ap (λ (x : Pass). x.code_end) is) in
    let none = none_in_header h in
    record {
      state = z ∙ b.state u;
      tells = told_header old mid new h u e t;
      sound = record {
        state = subst AreSoundHeaders (sym z) (headers_on mid.state h u held fits b.follows (subst AreMatrices z (matrices (subst AreMatrices (sym n.state) held.matrices))));
        dropped = let dropped = (b.sound).dropped in omega (arith, dropped, t.dropped, t.pictures, ap dropped_in none, ap length none);
        frames = let frames = (b.sound).frames in omega (arith, frames, t.frames, t.pictures, ap (λ (l : Pictures). length (decoded_of l)) none, ap length none);
      };
    }

pub passes_over : (old new : Pass) → Ends old new → Passes old over new
unfolding after
passes_over old new e = record { state = e.state; tells = e.tells; sound = e.sound }

-- ---- slices

fits_unread : (p : Open) (row : ℕ) → IsOpen p → IsOpen (record p { has_slice = true; row = row })
fits_unread p row h = record { fits = h.fits; unread = h.unread; dropped = h.dropped; covered = h.covered; large = h.large }

stands_unread : (o : Option Open) (s : Option Sequence) (row : ℕ) → StandsOpen o s → StandsOpen (with_unread_slice o row) s
stands_unread None s row h = tt
stands_unread (Some p) (Some s) row h = fits_unread p row h
stands_unread (Some p) None row h = absurd h

pub passes_unread : (old new : Pass) (row : ℕ) (u : List ℕ) → IsSoundPass old → new ≡ record old { state = after_unread_slice old.state row } → Passes old (unread_slice row u) new
unfolding after
passes_unread old new row u sound is =
    let h = sound.state in
    subst (Passes old (unread_slice row u)) (sym is)
    (record {
      state = refl;
      tells = λ store. tells_none old (record old { state = after_unread_slice old.state row }) refl refl refl refl refl;
      sound = record {
        state = record { headers_only = h.headers_only; matrices = h.matrices; size = h.size; fits = stands_unread old.state.picture old.state.sequence row h.fits };
        dropped = sound.dropped;
        frames = sound.frames;
      };
    })

moved_open : (p : Open) (row covered large crowded : ℕ) → IsOpen p → covered ≤ 2 ^ 16 → large ≤ covered → IsOpen (moved p row covered large crowded)
moved_open p row covered large crowded o most few = record { fits = o.fits; unread = o.unread; dropped = o.dropped; covered = most; large = few }

pub passes_slice : (old mid new : Pass) (s : Sequence) (p : Open) (row : ℕ) (u : List ℕ) (end : SliceEnd) → IsSoundPass old → old.state.sequence ≡ Some s → old.state.picture ≡ Some p → (h : SlicePassed old s p row u end mid)
    → new ≡ record mid { state = after_slice mid.state row end.covered end.large } → Passes old (slice row h.slice) new
unfolding after
passes_slice old mid new s p row u end sound known is h new_is =
    let m = moves p row end.covered end.large in
    let o = open_there old.state p sound.state is in
    let held = sound.state in
    let last : Pass = record mid { state = after_slice mid.state row end.covered end.large } in
    let state_old = slice_moves old.state p row end.covered end.large is in
    let state = ap (λ (x : State). after_slice x row end.covered end.large) h.state ∙ state_old in
    let q = moved p row end.covered m.many m.crowded in
    let stands : StandsOpen (Some q) old.state.sequence =
    subst (StandsOpen (Some q)) (sym known) (moved_open p row end.covered m.many m.crowded o h.most (omega (arith, m.few, o.large, h.few))) in
    let t = tells_same old mid last [] h.tells refl refl refl refl refl in
    subst (Passes old (slice row h.slice)) (sym new_is)
    (record {
      state = state ∙ sym state_old ∙ ap (λ (n : ℕ). after_slice old.state row n end.large) h.covered ∙ ap (λ (n : ℕ). after_slice old.state row (h.slice).covered n) h.large;
      tells = λ store. t;
      sound = record {
        state = subst AreSoundHeaders (sym state) (record { headers_only = held.headers_only; matrices = held.matrices; size = held.size; fits = stands });
        dropped = omega (arith, sound.dropped, t.dropped, t.pictures);
        frames = omega (arith, sound.frames, t.frames, t.pictures);
      };
    })

-- ---- notes

pub noted_header : (old new : Pass) (h : Header) → pictures_in (told_of h) ≡ [] → new.state ≡ old.state → new.pictures ≡ old.pictures → new.dropped ≡ old.dropped → new.frames ≡ old.frames → new.code_end ≡ old.code_end
    → noted new.notes ≡ with_events old.code_end (noted old.notes) (told_of h) → Noted old h new
noted_header old new h none state pictures dropped frames code_end notes = record {
  state = state;
  tells = record {
    pictures = omega (arith, pictures, ap length none);
    dropped = omega (arith, dropped, ap dropped_in none);
    frames = omega (arith, frames, ap (λ (l : Pictures). length (decoded_of l)) none);
    notes = notes;
    code_end = code_end;
  };
}

pub noted_none : (old : Pass) (h : Header) → told_of h ≡ [] → Noted old h old
noted_none old h none = record { state = refl; tells = subst (λ (es : Events). Tells old es old) (sym none) (tells_none old old refl refl refl refl refl) }

-- ---- one slice

pub slice_passed : (old new : Pass) (s : Sequence) (p : Open) (setup : SliceSetup) (row : ℕ) (u : List ℕ) (text rest : List Bool) (end : SliceEnd) → setup ≡ slice_setup old.state s p → IsSoundPass old → old.state.sequence ≡ Some s
    → row < picture_rows s p → text ≡ body u → PassesSlice setup p.covered row text (Ok end) rest → end.covered ≤ (row + 1) * setup.context.columns → p.covered + end.large ≤ end.covered
    → new ≡ record old { slices = new.slices } → SlicePassed old s p row u end new
unfolding slice_setup
slice_passed old new s p setup row u text rest end setup_is sound known below text_is h le few is =
    let size = size_there old.state.first s (subst (HaveOneSize old.state.first) known (sound.state).size) in
    let columns : (dims_of s).mb_width ≤ 120 = omega (arith, size.mb_width, size.width) in
    let rows : (dims_of s).mb_rows ≤ 72 = omega (arith, size.mb_rows) in
    let high = row_within (is_frame p.extension) (dims_of s).mb_rows rows in
    record {
      told = record {
        slice = h.0;
        rest = rest;
        read = (λ i. (slice_at (sym setup_is i) p.covered row).read (sym text_is i)) ∙ h.1;
        covered = h.2;
        large = h.3;
        most = most_covered 0 (picture_rows s p) (dims_of s).mb_width row end.covered columns high below (subst (λ (z : SliceSetup). end.covered ≤ (row + 1) * z.context.columns) setup_is le);
        few = few;
      };
      state = ap (λ (x : Pass). x.state) is;
      tells = tells_none old new (ap (λ (x : Pass). x.pictures) is) (ap (λ (x : Pass). x.dropped) is) (ap (λ (x : Pass). x.frames) is) (ap (λ (x : Pass). noted x.notes) is) (ap (λ (x : Pass). x.code_end) is);
    }

-- ---- one unit

-- behind the sequence end code no picture is open
pub header_ends : (c d : Pass) (u : List ℕ) (h : Header) → goes_on h ≡ false → Passes c (part_of u h) d → d.state.picture ≡ None
header_ends c d u h e step = ap (λ (z : State). z.picture) step.state ∙ closed_behind c.state u h e
