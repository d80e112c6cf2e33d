-- What the end of a picture does to a decoder.
use Rattle.std.proofs.Common.{◌≡◌, ℕ, ◌+◌, ◌≤◌, Bool, true, false, List, [], ◌∷◌, ◌++◌, length, Option, Some, None, option_to_list, refl, sym, ap, subst, ◌∙◌, arith}
use Rattle.std.specs.Prelude.{◌||◌, ◌==◌, if◌then◌else◌, IsSome}
use Rattle.std.proofs.lemmas.List.{append-nil, length-append}
use Rattle.m2v_plane.specs.Samples.{Samples}
use Rattle.m2v_plane.specs.Fields.{or_none}
use Rattle.m2v_order.specs.Display.{Holder, shown as shown_step, held, handed, held_after}
use Rattle.m2v_model.specs.Decoding.{low_delay_of}
use Rattle.m2v_model.specs.declared.state.Sequence.{Sequence}
use Rattle.m2v_model.specs.declared.state.Open.{Open}
use Rattle.m2v_model.specs.declared.state.State.{State}
use Rattle.m2v_model.specs.States.{is_b, is_frame_end, after_end}
use Rattle.m2v_model.specs.Pictures.{Picture, Store, Events, picture_of, picture_ended, closed}
use Rattle.m2v_model.specs.PieceNotes.{noted}
use Rattle.m2v_dec_rows.specs.m2v_dec_picture.Frames.{Frames, store_of}
use Rattle.m2v_decode.specs.declared.course.Course.{Course}
use Rattle.m2v_decode.specs.Decoding.{decoded_of, dropped_in}
use Rattle.m2v_decode.specs.Course.{IsOpen, HasFrame, FitsOpen, HaveSizes, IsFresh, AreSound, IsSoundCourse, Emits, Ended, Closed, frame_list}
use Rattle.m2v_decode.proofs.Showing.{low_stays}
use Rattle.m2v_decode.proofs.NoteLaws.{notes_same}
use Rattle.m2v_decode.proofs.FrameLaws.{rest_same, ended}

-- ---- the frame of a picture

pub one_listed : (ends drop : Bool) (current frame : Option Samples) (p : Picture) → p.ends_frame ≡ ends → p.dropped ≡ drop → p.frame ≡ or_none current → frame ≡ (if ends then current else None)
    → (drop ≡ true → (is_b p.info.kind ≡ true) × (current ≡ None)) → (drop ≡ false → IsSome current) → decoded_of (p ∷ []) ≡ frame_list frame p.info.kind
one_listed false drop current frame p e d at is dropped there = rw (e, is) refl
one_listed true true current frame p e d at is dropped there =
    let b = dropped refl in
    rw (e, is, b.1, d, b.0) refl
one_listed true false (Some f) frame p e d at is dropped there = one_kept (is_b p.info.kind) refl
  where
    one_kept : (b : Bool) → is_b p.info.kind ≡ b → decoded_of (p ∷ []) ≡ frame_list frame p.info.kind
    one_kept true b = rw (e, is, d, b, at) refl
    one_kept false b = rw (e, is, d, b, at) refl
one_listed true false None frame p e d at is dropped there = let some = there refl in absurd cc

-- the frame that a picture ended is the one that is told
pub listed : (p : Open) (f : Frames) (frame : Option Samples) → IsOpen p → HasFrame p f → frame ≡ (if is_frame_end p then f.current else None) → decoded_of (picture_of p (store_of f) ∷ []) ≡ frame_list frame p.info.kind
unfolding picture_of
listed p f frame o h is =
    one_listed (is_frame_end p) p.dropped f.current frame (picture_of p (store_of f)) refl refl refl is (λ on. (o.dropped on, h.none on)) h.current

-- ---- counts

pub count_by_test : (q : Holder Samples) (frame : Samples) (kind : ℕ) (b : Bool) → (q.low_delay || (kind == 3)) ≡ b
    → length (option_to_list (shown_step q frame kind)) + length (option_to_list (held q frame kind).anchor) ≡ length (option_to_list q.anchor) + 1
unfolding shown_step held
count_by_test q frame kind true e = rw e (omega (arith))
count_by_test q frame kind false e = rw e refl

pub handed_few : (q : Holder Samples) (frame : Option Samples) (kind : ℕ) → length (handed q (frame_list frame kind)) + length (option_to_list (held_after q (frame_list frame kind)).anchor) ≤ length (option_to_list q.anchor) + 1
unfolding handed held_after
handed_few q None kind = omega arith
handed_few q (Some f) kind =
    let one : length (option_to_list (shown_step q f kind) ++ []) ≡ length (option_to_list (shown_step q f kind)) = ap length (append-nil (option_to_list (shown_step q f kind))) in
    omega (arith, one, count_by_test q f kind (q.low_delay || (kind == 3)) refl)

pub one_dropped : (p : Picture) (d : Bool) → p.dropped ≡ d → dropped_in (p ∷ []) ≡ (if d then 1 else 0)
one_dropped p true e = rw e refl
one_dropped p false e = rw e refl

pub open_dropped : (p : Open) (store : Store) → dropped_in (picture_of p store ∷ []) ≡ (if p.dropped then 1 else 0)
unfolding picture_of
open_dropped p store = one_dropped (picture_of p store) p.dropped refl

pub few_dropped : (b : Bool) → (if b then 1 else 0) ≤ 1
few_dropped true = omega arith
few_dropped false = omega arith

-- a picture is open behind a sequence header alone
fresh_open : (first s : Option Sequence) (p : Open) (f : Frames) (a : Option Samples) → HaveSizes first s f → FitsOpen (Some p) s f → IsFresh first a
fresh_open (Some first) s p f a h fits = tt
fresh_open None (Some s) p f a h fits = absurd h
fresh_open None None p f a h fits = absurd fits

opened_as : (s : Option Sequence) (p : Open) (f : Frames) → FitsOpen (Some p) s f → IsOpen p × HasFrame p f
opened_as (Some s) p f h = h
opened_as None p f h = absurd h

-- ---- the picture that is open ends

pub low_same : (old d : Course) (p : Open) → (e : Ended old p d) → d.queue.low_delay ≡ old.queue.low_delay
low_same old d p e = ap (λ (q : Holder Samples). q.low_delay) e.queue ∙ low_stays old.queue (frame_list e.frame p.info.kind)

pub counts_kept : (old d : Course) (p : Open) → Ended old p d → old.shown + (length old.ready.items + length (option_to_list old.queue.anchor)) ≤ old.pictures → d.shown + (length d.ready.items + length (option_to_list d.queue.anchor)) ≤ d.pictures
counts_kept old d p e counts =
    omega (arith, counts, e.pictures, e.shown, ap length e.ready, length-append old.ready.items (handed old.queue (frame_list e.frame p.info.kind)), ap (λ (q : Holder Samples). length (option_to_list q.anchor)) e.queue, handed_few old.queue e.frame p.info.kind)

pub dropped_kept : (old d : Course) (p : Open) → Ended old p d → old.dropped ≤ old.pictures → d.dropped ≤ d.pictures
dropped_kept old d p e few = omega (arith, few, e.pictures, e.dropped, few_dropped p.dropped)

pub closed_some : (old d : Course) (p : Open) → IsSoundCourse old → old.state.picture ≡ Some p → Ended old p d → Closed old (record d { state = record d.state { picture = None } })
closed_some old d p sound is e =
    let f = old.gallery in
    let st = old.state in
    let fits = subst (λ (o : Option Open). FitsOpen o st.sequence f) is (sound.frames).fits in
    let open_is = opened_as st.sequence p f fits in
    let one : decoded_of (picture_of p (store_of f) ∷ []) ≡ frame_list e.frame p.info.kind = listed p f e.frame open_is.0 open_is.1 e.frame_is in
    let told : Events = closed (Some p) (store_of f) in
    let state : record d.state { picture = None } ≡ after_end st = ap after_end e.state in
    let emits : Emits old told (record d { state = record d.state { picture = None } }) = record {
      ready = e.ready ∙ ap (λ (l : List (Samples × ℕ)). old.ready.items ++ handed old.queue l) (sym one);
      anchor = ap (λ (q : Holder Samples). q.anchor) (e.queue ∙ ap (held_after old.queue) (sym one));
      pictures = e.pictures;
      dropped = e.dropped ∙ ap (λ (n : ℕ). old.dropped + n) (sym (open_dropped p (store_of f)));
      notes = e.notes (store_of f);
      code_end = e.code_end;
      shown = e.shown;
    } in
    let ended_frames = ended st p f d.gallery sound.frames is e.store e.reading e.sizes in
    record {
      state = state;
      store = e.store ∙ sym (ap (λ (o : Option Open). picture_ended o (store_of f)) is);
      emits = subst (λ (es : Events). Emits old es (record d { state = record d.state { picture = None } })) (sym (ap (λ (o : Option Open). closed o (store_of f)) is)) emits;
      sound = record {
        frames = subst (λ (z : State). AreSound z d.gallery) (sym state) ended_frames;
        fresh = subst (λ (z : State). IsFresh z.first d.queue.anchor) (sym state) (fresh_open st.first st.sequence p f d.queue.anchor (sound.frames).sizes fits);
        low = low_same old d p e ∙ sound.low ∙ ap (λ (z : State). low_delay_of z.first) (sym state);
        counts = counts_kept old d p e sound.counts;
        dropped = dropped_kept old d p e sound.dropped;
      };
    }

-- no picture was open
pub closed_none : (old : Course) → IsSoundCourse old → old.state.picture ≡ None → Closed old old
unfolding handed held_after
closed_none old sound none =
    let f = old.gallery in
    let told : closed old.state.picture (store_of f) ≡ [] = ap (λ (o : Option Open). closed o (store_of f)) none in
    let emits : Emits old [] old = record {
      ready = sym (append-nil old.ready.items);
      anchor = refl;
      pictures = omega arith;
      dropped = omega arith;
      notes = notes_same old.code_end (noted old.notes);
      code_end = refl;
      shown = refl;
    } in
    record {
      state = rest_same old.state none;
      store = sym (ap (λ (o : Option Open). picture_ended o (store_of f)) none);
      emits = subst (λ (es : Events). Emits old es old) (sym told) emits;
      sound = sound;
    }
