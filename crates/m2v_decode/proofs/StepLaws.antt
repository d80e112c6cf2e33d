-- What each part of the stream does to a decoder.
use Rattle.std.proofs.Common.{◌≡◌, ℕ, ◌+◌, ◌*◌, ◌<◌, ◌≤◌, ◌^◌, ◌/◌, Bool, true, false, List, [], ◌∷◌, ◌++◌, length, Option, Some, None, is_some, option_to_list, Result, Ok, Err, refl, sym, ap, subst, ◌∙◌, arith}
use Rattle.std.specs.Prelude.{nat_lt, nat_le, if◌then◌else◌, IsSome}
use Rattle.std.proofs.Math.Nat.{mul-le-mul}
use Rattle.std.proofs.lemmas.Bool.{lt-ltb, le-leb}
use Rattle.std.proofs.lemmas.List.{append-nil}
use Rattle.m2v_bits.specs.Syntax.{seq, bind, rule, choose, done}
use Rattle.m2v_plane.specs.Sizes.{IsSize}
use Rattle.m2v_plane.specs.Samples.{Samples}
use Rattle.m2v_head.specs.declared.group.GroupInfo.{GroupInfo}
use Rattle.m2v_head.specs.declared.picture.PictureInfo.{PictureInfo}
use Rattle.m2v_head.specs.declared.picture.PictureExtension.{PictureExtension}
use Rattle.m2v_head.specs.declared.matrix.MatrixInfo.{MatrixInfo}
use Rattle.m2v_head.specs.Fits.{PictureFits}
use Rattle.m2v_order.specs.Display.{Holder, handed, held_after}
use Rattle.m2v_model.specs.declared.setup.SliceSetup.{SliceSetup}
use Rattle.m2v_model.specs.declared.state.Sequence.{Sequence}
use Rattle.m2v_model.specs.declared.state.Open.{Open}
use Rattle.m2v_model.specs.declared.state.State.{State}
use Rattle.m2v_model.specs.States.{dims_of, is_frame, opened, picture_rows, slice_setup, after_sequence, after_group, after_picture, after_matrices, after_slice, after_unread_slice, is_same_sequence, is_second_field_due, none_waits, first_or}
use Rattle.m2v_model.specs.declared.fault.FaultKind.{FaultKind}
use Rattle.m2v_model.specs.Units.{Units, unit_bits, body, of_body, inside}
use Rattle.m2v_model.specs.Slices.{Slice, slice_at, slice_start}
use Rattle.m2v_model.specs.Samples.{put_in_frame, all_painted}
use Rattle.m2v_model.specs.Streams.{after, sequence, group, picture, matrices, slice, unread_slice, skipped_unit, ending, over, slice_unit, slice_in, read_slice}
use Rattle.m2v_model.specs.Pictures.{Store, Pictures, Events, Event, sequence_header, group_header, pictures_in, picture_begun, picture_ended, on_frame, slice_painted, sliced}
use Rattle.m2v_model.specs.PieceNotes.{noted}
use Rattle.m2v_model.specs.Decoding.{low_delay_of}
use Rattle.m2v_model.proofs.EventLaws.{pictures_in-append}
use Rattle.m2v_dec_rows.specs.m2v_dec_unit.Reads.{IsReadPicture}
use Rattle.m2v_dec_rows.specs.m2v_dec_unit.Among.{AreMatrices}
use Rattle.m2v_dec_rows.specs.m2v_dec_picture.declared.slices.SliceEnd.{SliceEnd}
use Rattle.m2v_dec_rows.specs.m2v_dec_picture.Frames.{Frames, store_of, references_in, HasReferences, HaveSize, PaintsSlice}
use Rattle.m2v_decode.specs.declared.course.Course.{Course}
use Rattle.m2v_decode.specs.Decoding.{decoded_of, dropped_in}
use Rattle.m2v_decode.specs.Course.{IsOpen, HasFrame, FitsOpen, HaveSizes, IsFresh, AreSound, IsSoundCourse, with_events, Emits, Steps, Closed, Begun, Painted}
use Rattle.m2v_decode.proofs.NoteLaws.{notes_same, noted_on}
use Rattle.m2v_decode.proofs.FrameLaws.{sequenced, grouped, loaded, begun, moves, slice_moves, sliced_sound, unread_sound}

-- ---- the frames on their way stay as they are

-- the frames that are ready, the anchor and the counts are the same
pub record Keeps (old new : Course) : Type 0 where
  pub anchor : new.queue.anchor ≡ old.queue.anchor
  pub ready : new.ready.items ≡ old.ready.items
  pub pictures : new.pictures ≡ old.pictures
  pub dropped : new.dropped ≡ old.dropped
  pub code_end : new.code_end ≡ old.code_end
  pub shown : new.shown ≡ old.shown

-- nothing was told
pub emits_none : (old new : Course) → Keeps old new → noted new.notes ≡ noted old.notes → Emits old [] new
unfolding handed held_after
emits_none old new k notes = record {
  ready = k.ready ∙ sym (append-nil old.ready.items);
  anchor = k.anchor;
  pictures = omega (arith, k.pictures);
  dropped = omega (arith, k.dropped);
  notes = notes ∙ notes_same old.code_end (noted old.notes);
  code_end = k.code_end;
  shown = k.shown;
}

emits_kept : (old mid new : Course) (es : Events) → Emits old es mid → Keeps mid new → noted new.notes ≡ noted mid.notes → Emits old es new
emits_kept old mid new es e k notes = record {
  ready = k.ready ∙ e.ready;
  anchor = k.anchor ∙ e.anchor;
  pictures = k.pictures ∙ e.pictures;
  dropped = k.dropped ∙ e.dropped;
  notes = notes ∙ e.notes;
  code_end = k.code_end ∙ e.code_end;
  shown = k.shown ∙ e.shown;
}

-- a header was told
emits_header : (old mid new : Course) (es : Events) (h : Event) → pictures_in (h ∷ []) ≡ [] → Emits old es mid → Keeps mid new → noted new.notes ≡ with_events mid.code_end (noted mid.notes) (h ∷ []) → Emits old (es ++ h ∷ []) new
emits_header old mid new es h none e k notes =
    let ps : pictures_in (es ++ h ∷ []) ≡ pictures_in es = pictures_in-append es (h ∷ []) ∙ ap (λ (l : Pictures). pictures_in es ++ l) none ∙ append-nil (pictures_in es) in
    record {
      ready = k.ready ∙ e.ready ∙ ap (λ (l : Pictures). old.ready.items ++ handed old.queue (decoded_of l)) (sym ps);
      anchor = k.anchor ∙ e.anchor ∙ ap (λ (l : Pictures). (held_after old.queue (decoded_of l)).anchor) (sym ps);
      pictures = k.pictures ∙ e.pictures ∙ ap (λ (l : Pictures). old.pictures + length l) (sym ps);
      dropped = k.dropped ∙ e.dropped ∙ ap (λ (l : Pictures). old.dropped + dropped_in l) (sym ps);
      notes = noted_on old.code_end mid.code_end (noted old.notes) (noted mid.notes) (noted new.notes) es (h ∷ []) e.notes e.code_end notes;
      code_end = k.code_end ∙ e.code_end;
      shown = k.shown ∙ e.shown;
    }

-- what is known of the counts stays
counts_kept : (old new : Course) → Keeps old new → IsSoundCourse old → new.shown + (length new.ready.items + length (option_to_list new.queue.anchor)) ≤ new.pictures
counts_kept old new k sound = omega (arith, sound.counts, k.pictures, k.shown, ap length k.ready, ap (λ (a : Option Samples). length (option_to_list a)) k.anchor)

-- what is known of a decoder whose frames on their way stay as they are, behind a part that changes no first sequence header
sound_kept : (old new : Course) (z : State) (f : Frames) → IsSoundCourse old → Keeps old new → new.queue.low_delay ≡ old.queue.low_delay → z.first ≡ old.state.first → new.state ≡ z → new.gallery ≡ f → AreSound z f → IsSoundCourse new
sound_kept old new z f sound k low first state gallery frames = record {
  frames = subst (λ (s : State). AreSound s new.gallery) (sym state) (subst (AreSound z) (sym gallery) frames);
  fresh = subst (λ (s : State). IsFresh s.first new.queue.anchor) (sym state) (subst (λ q. IsFresh q new.queue.anchor) (sym first) (subst (IsFresh old.state.first) (sym k.anchor) sound.fresh));
  low = low ∙ sound.low ∙ ap low_delay_of (sym (ap (λ (s : State). s.first) state ∙ first));
  counts = counts_kept old new k sound;
  dropped = omega (arith, sound.dropped, k.pictures, k.dropped);
}

-- ---- parts that end a picture

pub none_open : (old mid : Course) → Closed old mid → mid.state.picture ≡ None
none_open old mid c = ap (λ (z : State). z.picture) c.state

fresh_now : (first : Option Sequence) (s : Sequence) (a : Option Samples) → IsFresh (Some (first_or first s)) a
fresh_now first s a = tt

pub steps_sequence : (old mid new : Course) (s : Sequence) → Closed old mid → Keeps mid new → noted new.notes ≡ with_events mid.code_end (noted mid.notes) (sequence_header s ∷ []) → new.gallery ≡ mid.gallery
    → new.state ≡ after mid.state (sequence s) → AreMatrices new.state → new.queue.low_delay ≡ low_delay_of (Some (first_or mid.state.first s)) → IsSize (dims_of s) → is_same_sequence old.state.first s ≡ true → Steps old (sequence s) new
unfolding after
steps_sequence old mid new s c k notes gallery state without_zero low size same =
    let z = after_sequence mid.state s in
    let same_first : is_same_sequence mid.state.first s ≡ true = subst (λ (x : State). is_same_sequence x.first s ≡ true) (sym c.state) same in
    let frames = sequenced mid.state s mid.gallery ((c.sound).frames) (none_open old mid c) size same_first (subst AreMatrices state without_zero) in
    record {
      state = state ∙ ap (λ (x : State). after_sequence x s) c.state;
      store = ap store_of gallery ∙ c.store;
      emits = emits_header old mid new _ (sequence_header s) refl c.emits k notes;
      sound = record {
        frames = subst (λ (x : State). AreSound x new.gallery) (sym state) (subst (AreSound z) (sym gallery) frames);
        fresh = subst (λ (x : State). IsFresh x.first new.queue.anchor) (sym state) (fresh_now mid.state.first s new.queue.anchor);
        low = low ∙ ap (λ (x : State). low_delay_of x.first) (sym state);
        counts = counts_kept mid new k c.sound;
        dropped = omega (arith, (c.sound).dropped, k.pictures, k.dropped);
      };
    }

pub steps_group : (old mid new : Course) (g : GroupInfo) → Closed old mid → Keeps mid new → new.queue.low_delay ≡ mid.queue.low_delay → noted new.notes ≡ with_events mid.code_end (noted mid.notes) (group_header g ∷ [])
    → new.gallery ≡ mid.gallery → new.state ≡ after mid.state (group g) → none_waits old.state.waiting ≡ true → Steps old (group g) new
unfolding after
steps_group old mid new g c k low notes gallery state waiting =
    let still : none_waits mid.state.waiting ≡ true = subst (λ (x : State). none_waits x.waiting ≡ true) (sym c.state) waiting in
    record {
      state = state ∙ ap (λ (x : State). after_group x g) c.state;
      store = ap store_of gallery ∙ c.store;
      emits = emits_header old mid new _ (group_header g) refl c.emits k notes;
      sound = sound_kept mid new (after_group mid.state g) mid.gallery c.sound k low refl state gallery (grouped mid.state g mid.gallery (c.sound).frames (none_open old mid c) still);
    }

-- the sequence header in force
pub known_sequence : (q : Option Sequence) → is_some q ≡ true → (s : Sequence) × (q ≡ Some s)
known_sequence (Some s) e = (s, refl)
known_sequence None e = absurd cc

pub steps_picture : (old mid b new : Course) (info : PictureInfo) (extension : PictureExtension) → Closed old mid → Begun mid (opened mid.state info extension) b → PictureFits info × IsReadPicture info extension
    → is_some old.state.sequence ≡ true → is_second_field_due old.state.waiting info extension ≡ true
    → Keeps b new → new.queue.low_delay ≡ b.queue.low_delay → noted new.notes ≡ noted b.notes → new.gallery ≡ b.gallery → new.state ≡ after b.state (picture info extension) → Steps old (picture info extension) new
unfolding after
steps_picture old mid b new info extension c begins fits some due k low notes gallery state =
    let at = known_sequence old.state.sequence some in
    let known : mid.state.sequence ≡ Some at.0 = ap (λ (z : State). z.sequence) c.state ∙ at.1 in
    let still : is_second_field_due mid.state.waiting info extension ≡ true = subst (λ (x : State). is_second_field_due x.waiting info extension ≡ true) (sym c.state) due in
    let p = opened mid.state info extension in
    let store : store_of b.gallery ≡ picture_begun (Some at.0) p (store_of mid.gallery) = begins.store ∙ ap (λ (q : Option Sequence). picture_begun q p (store_of mid.gallery)) known in
    let frames = begun mid.state at.0 info extension mid.gallery b.gallery (c.sound).frames (none_open old mid c) known fits still store begins.reading begins.first_field begins.sizes in
    let behind : new.state ≡ after_picture mid.state info extension = state ∙ ap (λ (z : State). after_picture z info extension) begins.state in
    let keeps : Keeps mid new = record {
      anchor = k.anchor ∙ ap (λ (q : Holder Samples). q.anchor) begins.queue;
      ready = k.ready ∙ ap (λ v. v.items) begins.ready;
      pictures = k.pictures ∙ begins.pictures;
      dropped = k.dropped ∙ begins.dropped;
      code_end = k.code_end ∙ begins.code_end;
      shown = k.shown ∙ begins.shown;
    } in
    record {
      state = behind ∙ ap (λ (z : State). after_picture z info extension) c.state;
      store =
          ap store_of gallery ∙ begins.store
          ∙ ap (λ (x : Store). picture_begun mid.state.sequence p x) c.store
          ∙ ap (λ (z : State). picture_begun z.sequence (opened z info extension) (picture_ended old.state.picture (store_of old.gallery))) c.state;
      emits = emits_kept old mid new _ c.emits keeps (notes ∙ begins.notes);
      sound = sound_kept mid new (after_picture mid.state info extension) b.gallery c.sound keeps (low ∙ ap (λ (q : Holder Samples). q.low_delay) begins.queue) refl behind gallery frames;
    }

pub steps_ending : (old new : Course) → Closed old new → Steps old ending new
unfolding after
steps_ending old new c = record { state = c.state; store = c.store; emits = c.emits; sound = c.sound }

pub steps_over : (old new : Course) → Closed old new → Steps old over new
unfolding after
steps_over old new c = record { state = c.state; store = c.store; emits = c.emits; sound = c.sound }

-- ---- parts that don't

pub steps_matrices : (old new : Course) (m : MatrixInfo) → IsSoundCourse old → Keeps old new → new.queue.low_delay ≡ old.queue.low_delay → noted new.notes ≡ noted old.notes → new.gallery ≡ old.gallery
    → new.state ≡ after old.state (matrices m) → AreMatrices new.state → Steps old (matrices m) new
unfolding after
steps_matrices old new m sound k low notes gallery state without_zero = record {
  state = state;
  store = ap store_of gallery;
  emits = emits_none old new k notes;
  sound = sound_kept old new (after_matrices old.state m) old.gallery sound k low refl state gallery (loaded old.state m old.gallery sound.frames (subst AreMatrices state without_zero));
}

pub steps_skipped : (c : Course) (u : List ℕ) → IsSoundCourse c → Steps c (skipped_unit u) c
unfolding after
steps_skipped c u sound = record {
  state = refl;
  store = refl;
  emits = emits_none c c (record { anchor = refl; ready = refl; pictures = refl; dropped = refl; code_end = refl; shown = refl }) refl;
  sound = sound;
}

pub steps_unread : (old new : Course) (row : ℕ) (u : List ℕ) → IsSoundCourse old → new ≡ record old { state = after_unread_slice old.state row } → Steps old (unread_slice row u) new
unfolding after
steps_unread old new row u sound is =
    let mid : Course = record old { state = after_unread_slice old.state row } in
    let k : Keeps old mid = record { anchor = refl; ready = refl; pictures = refl; dropped = refl; code_end = refl; shown = refl } in
    subst (Steps old (unread_slice row u)) (sym is)
    (record {
      state = refl;
      store = refl;
      emits = emits_none old mid k refl;
      sound = sound_kept old mid (after_unread_slice old.state row) old.gallery sound k refl refl refl refl (unread_sound old.state old.gallery row sound.frames);
    })

-- ---- slices

open_frames : (s : Option Sequence) (p : Open) (f : Frames) → FitsOpen (Some p) s f → IsOpen p × HasFrame p f
open_frames (Some s) p f h = h
open_frames None p f h = absurd h

-- what is known of the picture that is open
pub record IsAt (c : Course) (s : Sequence) (p : Open) : Type 0 where
  pub open_is : IsOpen p
  pub frame : HasFrame p c.gallery
  pub size : IsSize (dims_of s)
  pub sizes : HaveSize (dims_of s) c.gallery

sizes_of : (first : Option Sequence) (s : Sequence) (f : Frames) → HaveSizes first (Some s) f → IsSize (dims_of s) × HaveSize (dims_of s) f
sizes_of (Some first) s f h = (h.0, h.2)
sizes_of None s f h = absurd h

pub is_at : (c : Course) (s : Sequence) (p : Open) → IsSoundCourse c → c.state.sequence ≡ Some s → c.state.picture ≡ Some p → IsAt c s p
is_at c s p sound known is =
    let h = sound.frames in
    let fits = open_frames c.state.sequence p c.gallery (subst (λ (o : Option Open). FitsOpen o c.state.sequence c.gallery) is h.fits) in
    let sizes = sizes_of c.state.first s c.gallery (subst (λ (q : Option Sequence). HaveSizes c.state.first q c.gallery) known h.sizes) in
    record { open_is = fits.0; frame = fits.1; size = sizes.0; sizes = sizes.1 }

sizes_painted : (first : Option Sequence) (s : Sequence) (f g : Frames) → HaveSizes first (Some s) f → HaveSize (dims_of s) g → HaveSizes first (Some s) g
sizes_painted (Some first) s f g h size = (h.0, h.1, size)
sizes_painted None s f g h size = absurd h

some_painted : (f : Samples → Samples) (o : Option Samples) → IsSome o → IsSome (on_frame f o)
some_painted f (Some x) e = refl
some_painted f None e = absurd cc

pub most_covered : (d : ℕ) (rows columns row covered : ℕ) → columns ≤ 120 → rows ≤ 72 → row < rows → covered ≤ (row + 1) * columns → covered ≤ 2 ^ 16
most_covered d rows columns row covered narrow low below le =
    let more : row + 1 ≤ 72 = omega arith in
    let product : (row + 1) * columns ≤ 72 * 120 = mul-le-mul more narrow in
    omega arith

pub row_within : (b : Bool) (rows : ℕ) → rows ≤ 72 → (if b then rows else rows / 2) ≤ 72
row_within true rows le = le
row_within false rows le = omega (arith, le)

pub painted : (old : Course) (s : Sequence) (p : Open) (row : ℕ) (u : List ℕ) (g : Frames) (text rest : List Bool) (end : SliceEnd) → IsSoundCourse old → old.state.sequence ≡ Some s → old.state.picture ≡ Some p → p.slices_unread ≡ false
    → row < picture_rows s p → text ≡ body u → PaintsSlice (slice_setup old.state s p) p.covered row text old.gallery (Ok end) rest g → HaveSize (dims_of s) g
    → end.covered ≤ (row + 1) * (dims_of s).mb_width → p.covered + end.large ≤ end.covered → Painted old s p row u end (record old { gallery = g })
unfolding slice_setup slice_painted
painted old s p row u g text rest end sound known is unread below text_is h sizes le few =
    let at = is_at old s p sound known is in
    let off : p.dropped ≡ false = sym at.open_is.unread ∙ unread in
    let f = old.gallery in
    let x : Slice = h.0 in
    let size = at.size in
    let columns : (dims_of s).mb_width ≤ 120 = omega (arith, size.mb_width, size.width) in
    let rows : (dims_of s).mb_rows ≤ 72 = omega (arith, size.mb_rows) in
    let high = row_within (is_frame p.extension) (dims_of s).mb_rows rows in
    let setup = slice_setup old.state s p in
    let now : g ≡ record f { current = on_frame (all_painted put_in_frame setup (references_in f) (slice_start setup.context row p.covered x.info.quantiser) x.macroblocks) f.current } = h.4 in
    let frame = at.frame in
    let there : IsSome g.current = subst IsSome (sym (ap (λ (y : Frames). y.current) now)) (some_painted _ f.current (frame.current off)) in
    record {
      told = record {
        slice = x;
        rest = rest;
        read = ap (λ (t : List Bool). (slice_at setup p.covered row).read t) (sym text_is) ∙ h.1;
        covered = h.2;
        large = h.3;
        most = most_covered 0 (picture_rows s p) (dims_of s).mb_width row end.covered columns high below le;
        few = few;
      };
      store = ap store_of now;
      sizes = sizes_painted old.state.first s f g (subst (λ (q : Option Sequence). HaveSizes old.state.first q f) known (sound.frames).sizes) sizes;
      frame = subst (HasFrame p) (sym now) (record { reading = frame.reading; current = λ e. some_painted _ f.current (frame.current e); decoded = λ e. let r = frame.decoded e in record { top = r.top; bottom = r.bottom; back_top = r.back_top; back_bottom = r.back_bottom }; none = λ on. absurd cc });
      current = there;
      others = record { counts = record { stays = record { state = refl; shown = refl; code_end = refl }; pictures = refl; dropped = refl; notes = refl }; queue = refl; ready = refl };
    }

-- what the slices of the picture that is open are read by, as the program has it
pub setup_sizes : (c : Course) (s : Sequence) (p : Open) (setup : SliceSetup) → IsAt c s p → setup ≡ slice_setup c.state s p → HaveSize setup.dims c.gallery
unfolding slice_setup
setup_sizes c s p setup at is = subst (λ (z : SliceSetup). HaveSize z.dims c.gallery) (sym is) at.sizes

pub setup_references : (c : Course) (s : Sequence) (p : Open) (setup : SliceSetup) → IsAt c s p → setup ≡ slice_setup c.state s p → p.slices_unread ≡ false → HasReferences setup.references c.gallery
unfolding slice_setup
setup_references c s p setup at is off = subst (λ (z : SliceSetup). HasReferences z.references c.gallery) (sym is) (at.frame.decoded (sym at.open_is.unread ∙ off))

pub painted_by : (old : Course) (s : Sequence) (p : Open) (setup : SliceSetup) (row : ℕ) (u : List ℕ) (g : Frames) (text rest : List Bool) (end : SliceEnd) → setup ≡ slice_setup old.state s p → IsSoundCourse old → old.state.sequence ≡ Some s → old.state.picture ≡ Some p
    → p.slices_unread ≡ false → row < picture_rows s p → text ≡ body u → PaintsSlice setup p.covered row text old.gallery (Ok end) rest g → HaveSize setup.dims g
    → end.covered ≤ (row + 1) * setup.context.columns → p.covered + end.large ≤ end.covered → Painted old s p row u end (record old { gallery = g })
unfolding slice_setup
painted_by old s p setup row u g text rest end setup_is sound known is unread below text_is h sizes le few =
    painted old s p row u g text rest end sound known is unread below text_is
    (subst (λ (z : SliceSetup). PaintsSlice z p.covered row text old.gallery (Ok end) rest g) setup_is h)
    (subst (λ (z : SliceSetup). HaveSize z.dims g) setup_is sizes)
    (subst (λ (z : SliceSetup). end.covered ≤ (row + 1) * z.context.columns) setup_is le) few

pub steps_slice : (old mid new : Course) (s : Sequence) (p : Open) (row : ℕ) (u : List ℕ) (end : SliceEnd) → IsSoundCourse old → old.state.sequence ≡ Some s → old.state.picture ≡ Some p → (h : Painted old s p row u end mid)
    → new ≡ record mid { state = after_slice mid.state row end.covered end.large } → Steps old (slice row h.slice) new
unfolding after
steps_slice old mid new s p row u end sound known is h new_is =
    let m = moves p row end.covered end.large in
    let at = is_at old s p sound known is in
    let last : Course = record mid { state = after_slice mid.state row end.covered end.large } in
    let state_old = slice_moves old.state p row end.covered end.large is in
    let state = ap (λ (x : State). after_slice x row end.covered end.large) h.state ∙ state_old in
    let k : Keeps old last = record {
      anchor = ap (λ (y : Holder Samples). y.anchor) h.queue;
      ready = ap (λ v. v.items) h.ready;
      pictures = h.pictures;
      dropped = h.dropped;
      code_end = h.code_end;
      shown = h.shown;
    } in
    let frames = sliced_sound old.state s p old.gallery mid.gallery row end.covered m.many m.crowded sound.frames known is h.sizes h.frame
    (ap (λ (x : Store). x.older) h.store) (ap (λ (x : Store). x.newer) h.store) h.current h.most (omega (arith, m.few, at.open_is.large, h.few)) in
    subst (Steps old (slice row h.slice)) (sym new_is)
    (record {
      state = state ∙ sym state_old ∙ ap (λ (n : ℕ). after_slice old.state row n end.large) h.covered ∙ ap (λ (n : ℕ). after_slice old.state row (h.slice).covered n) h.large;
      store = h.store ∙ ap (λ (y : Option Sequence). sliced old.state y (Some p) row h.slice (store_of old.gallery)) (sym known) ∙ ap (λ (o : Option Open). sliced old.state old.state.sequence o row h.slice (store_of old.gallery)) (sym is);
      emits = emits_none old last k h.notes;
      sound = sound_kept old last _ mid.gallery sound k (ap (λ (y : Holder Samples). y.low_delay) h.queue) refl state refl frames;
    })

-- a slice in its unit, once its row stands
slice_in_row : (st : State) (s : Sequence) (p : Open) (row start : ℕ) (u : List ℕ) (us : Units) → row < picture_rows s p → p.row ≤ row → p.slices_unread ≡ false
    → (slice_unit st (Some s) (Some p) row start u).read us ≡ (read_slice st s p row u).read us
unfolding slice_unit slice_in seq bind rule choose
slice_in_row st s p row start u us below behind off =
    let low : nat_lt row (picture_rows s p) ≡ true = lt-ltb row (picture_rows s p) below in
    let high : nat_le p.row row ≡ true = le-leb p.row row behind in
    rw (low, high, off) refl

slice_by : (st : State) (s : Sequence) (p : Open) (row : ℕ) (u : List ℕ) (us : Units) (r : Result (Slice × List Bool) (FaultKind × ℕ)) → (slice_at (slice_setup st s p) p.covered row).read (body u) ≡ r
    → (read_slice st s p row u).read us ≡ bind (of_body us r) (λ (x : Slice) (mid : Units). Ok (slice row x, mid))
unfolding read_slice seq inside done
slice_by st s p row u us r e = ap (λ (q : Result (Slice × List Bool) (FaultKind × ℕ)). bind (of_body us q) (λ (x : Slice) (mid : Units). Ok (slice row x, mid))) e

slice_direct : (st : State) (s : Sequence) (p : Open) (row start : ℕ) (u : List ℕ) (us : Units) (x : Slice) (end : List Bool) → row < picture_rows s p → p.row ≤ row → p.slices_unread ≡ false → (slice_at (slice_setup st s p) p.covered row).read (body u) ≡ Ok (x, end)
    → (slice_unit st (Some s) (Some p) row start u).read us ≡ Ok (slice row x, us)
unfolding bind
slice_direct st s p row start u us x end below behind off read = slice_in_row st s p row start u us below behind off ∙ slice_by st s p row u us (Ok (x, end)) read

pub slice_reads : (st : State) (s : Sequence) (p : Open) (row start : ℕ) (u : List ℕ) (us : Units) (x : Slice) (end : List Bool) → st.sequence ≡ Some s → st.picture ≡ Some p → row < picture_rows s p → p.row ≤ row → p.slices_unread ≡ false
    → (slice_at (slice_setup st s p) p.covered row).read (body u) ≡ Ok (x, end) → (slice_unit st st.sequence st.picture row start u).read us ≡ Ok (slice row x, us)
slice_reads st s p row start u us x end known is below behind off read =
    subst (λ (q : Option Sequence). (slice_unit st q st.picture row start u).read us ≡ Ok (slice row x, us)) (sym known)
    (subst (λ (o : Option Open). (slice_unit st (Some s) o row start u).read us ≡ Ok (slice row x, us)) (sym is) (slice_direct st s p row start u us x end below behind off read))

slice_broken : (st : State) (s : Sequence) (p : Open) (row start : ℕ) (u : List ℕ) (us : Units) (kind : FaultKind) (left : ℕ) → row < picture_rows s p → p.row ≤ row → p.slices_unread ≡ false → (slice_at (slice_setup st s p) p.covered row).read (body u) ≡ Err (kind, left)
    → (slice_unit st (Some s) (Some p) row start u).read us ≡ Err (kind, left + unit_bits us)
unfolding bind
slice_broken st s p row start u us kind left below behind off read = slice_in_row st s p row start u us below behind off ∙ slice_by st s p row u us (Err (kind, left)) read

pub slice_fails : (st : State) (s : Sequence) (p : Open) (row start : ℕ) (u : List ℕ) (us : Units) (kind : FaultKind) (left : ℕ) → st.sequence ≡ Some s → st.picture ≡ Some p → row < picture_rows s p → p.row ≤ row → p.slices_unread ≡ false
    → (slice_at (slice_setup st s p) p.covered row).read (body u) ≡ Err (kind, left) → (slice_unit st st.sequence st.picture row start u).read us ≡ Err (kind, left + unit_bits us)
slice_fails st s p row start u us kind left known is below behind off read =
    subst (λ (q : Option Sequence). (slice_unit st q st.picture row start u).read us ≡ Err (kind, left + unit_bits us)) (sym known)
    (subst (λ (o : Option Open). (slice_unit st (Some s) o row start u).read us ≡ Err (kind, left + unit_bits us)) (sym is) (slice_broken st s p row start u us kind left below behind off read))
