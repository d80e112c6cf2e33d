-- A piece whose picture was read elsewhere: what its headers say of the decoder that takes it in, and what it tells.
use Rattle.std.proofs.Common.{◌≡◌, ℕ, ◌+◌, ◌*◌, ◌<◌, Bool, true, false, [], ◌++◌, length, Option, Some, None, is_some, option_to_list, Ok, refl, sym, ap, subst, ◌∙◌, arith}
use Rattle.std.specs.Prelude.{not, ◌&&◌, ◌||◌, if◌then◌else◌, IsSome}
use Rattle.std.proofs.lemmas.Bool.{or_parts}
use Rattle.std.proofs.lemmas.List.{length-append}
use Rattle.m2v_plane.specs.declared.dims.Dims.{Dims}
use Rattle.m2v_plane.specs.Sizes.{IsSize}
use Rattle.m2v_plane.specs.Samples.{Samples, blank}
use Rattle.m2v_plane.specs.Fields.{or_none}
use Rattle.m2v_order.specs.Display.{Holder, handed, held_after}
use Rattle.m2v_model.specs.declared.setup.SliceSetup.{SliceSetup}
use Rattle.m2v_model.specs.declared.notes.PictureNote.{PictureNote}
use Rattle.m2v_model.specs.declared.state.Sequence.{Sequence}
use Rattle.m2v_model.specs.declared.state.Open.{Open}
use Rattle.m2v_model.specs.declared.state.State.{State}
use Rattle.m2v_model.specs.Units.{cut}
use Rattle.m2v_model.specs.States.{dims_of, is_b, is_frame, is_frame_end, drops, opened, first_or, one_anchor_more, after_sequence, after_group, after_picture, after_end, slice_setup}
use Rattle.m2v_model.specs.Samples.{References, put_in_frame}
use Rattle.m2v_model.specs.Pictures.{Store, Picture, Pictures, Events, no_references, references_by, references_of, picture_of, pictures_in, picture_ended}
use Rattle.m2v_model.specs.Decoding.{low_delay_of}
use Rattle.m2v_model.specs.ByPieces.{Between, piece_read}
use Rattle.m2v_dec_piece.specs.declared.answer.Piece.{Piece}
use Rattle.m2v_dec_piece.specs.declared.answer.Fault.{Fault}
use Rattle.m2v_dec_rows.specs.m2v_dec_unit.Among.{AreMatrices}
use Rattle.m2v_model.specs.m2v_macroblock.Conditions.{IsMatrix}
use Rattle.m2v_dec_rows.specs.m2v_dec_picture.Conditions.{rows_in}
use Rattle.m2v_dec_rows.specs.m2v_dec_picture.Frames.{Frames, store_of, HaveSize}
use Rattle.m2v_dec_rows.specs.declared.opened.Opened.{Opened}
use Rattle.m2v_dec_rows.specs.Rows.{Slices, Placed, row_fault, slices_painted}
use Rattle.m2v_dec_rows.specs.Opened.{IsOpened, setup_of, slices_of, ending_by, ending, whole_of}
use Rattle.m2v_dec_rows.specs.Reads.{as_placed}
use Rattle.m2v_dec_rows.specs.InFrames.{rows_set}
use Rattle.m2v_dec_rows.proofs.RowsSet.{rows_in_frame}
use Rattle.m2v_dec_rows.specs.Headers.{Front, stopped, slices_by, fault_at, IsOpenedBy, IsBetween, HaveOneSize, end_of}
use Rattle.m2v_dec_rows.proofs.Standing.{whole_length}
use Rattle.m2v_dec_rows.specs.OnePicture.{HasOnePicture}
use Rattle.m2v_dec_rows.specs.Halves.{NoneAbove, ByItsRows, TellsPicture, frames_begun, frames_painted}
use Rattle.m2v_dec_rows.proofs.WholePieces.{halves}
use Rattle.m2v_dec_rows.proofs.Behind.{skim_at, unread_of}
use Rattle.m2v_dec_rows.proofs.Later.{reached, loaded}
use Rattle.m2v_dec_rows.proofs.UpToPicture.{Leads, here, by_sequence, by_group}
use Rattle.m2v_dec_rows.proofs.Entering.{Enters, enters}
use Rattle.m2v_decode.specs.declared.course.Course.{Course}
use Rattle.m2v_decode.specs.Decoding.{Agrees, queue_of, decoded_of, dropped_in, Onward}
use Rattle.m2v_decode.specs.Course.{between_of, seen_as, IsFresh, FitsOpen, HaveSizes, HasAnchors, AreSound, IsSoundCourse, frame_list}
use Rattle.m2v_decode.specs.Rebuilt.{IsRebuilt, refs_for, frame_begun, open_of, frames_behind}
use Rattle.m2v_decode.specs.Taking.{CanTake, queue_behind, frame_ended, TookIn}
use Rattle.m2v_decode.proofs.FrameLaws.{field_same, no_field, waiting_there, reads_none, sizes_next, begun_anchors, left_by}
use Rattle.m2v_decode.proofs.CourseLaws.{one_listed, one_dropped, handed_few, few_dropped}
use Rattle.m2v_decode.proofs.TookLaws.{begun_current, begun_sized, begun_whole, ended_same}
use Rattle.m2v_decode.proofs.Showing.{low_stays}

-- ---- between two pieces

sizes_one : (first s : Option Sequence) (f : Frames) → HaveSizes first s f → HaveOneSize first s
sizes_one (Some first) (Some s) f h = (h.0, h.1)
sizes_one None None f h = tt
sizes_one (Some first) None f h = absurd h
sizes_one None (Some s) f h = absurd h

pub between_pieces : (st : State) (f : Frames) → AreSound st f → st.picture ≡ None → IsBetween st
between_pieces st f h none = record { closed = none; matrices = h.matrices; size = sizes_one st.first st.sequence f h.sizes }

-- ---- what headers lead to

-- the frames at hand have the size of the sequence, and the anchors that were counted are there
record AreReady (st : State) (f : Frames) : Type 0 where
  sizes : HaveSizes st.first st.sequence f
  anchors : HasAnchors st (store_of f)

ready_at : (st : State) (f : Frames) → AreSound st f → st.picture ≡ None → AreReady st f
ready_at st f h none =
    let a = subst (λ (o : Option Open). HasAnchors st (picture_ended o (store_of f))) none h.anchors in
    record { sizes = h.sizes; anchors = record { newer = a.newer; older = a.older; first_field = a.first_field } }

led : (w v : State) (f : Frames) → Leads w v → AreReady w f → AreReady v f
led w v f here h = h
led w v f (by_sequence s size same l) h =
    led (after_sequence w s) v f l (record {
      sizes = sizes_next w.first w.sequence s f h.sizes size same;
      anchors = record { newer = h.anchors.newer; older = h.anchors.older; first_field = field_same w (after_sequence w s) w.waiting f.current (λ k. refl) h.anchors.first_field };
    })
led w v f (by_group g none l) h =
    led (after_group w g) v f l (record {
      sizes = h.sizes;
      anchors = record { newer = h.anchors.newer; older = h.anchors.older; first_field = no_field (after_group w g) w.waiting f.current none };
    })

-- the first sequence header stays the first one
first_kept : (o : Option Sequence) (s first : Sequence) → first_or (Some (first_or o s)) first ≡ first → first_or o first ≡ first
first_kept (Some x) s first e = e
first_kept None s first e = refl

first_same : (o : Option Sequence) (first : Sequence) → o ≡ Some first → first_or o first ≡ first
first_same (Some x) first e = cc e
first_same None first e = refl

led_first : (w v : State) (first : Sequence) → Leads w v → v.first ≡ Some first → first_or w.first first ≡ first
led_first w v first here e = first_same w.first first e
led_first w v first (by_sequence s size same l) e = first_kept w.first s first (led_first (after_sequence w s) v first l e)
led_first w v first (by_group g none l) e = led_first (after_group w g) v first l e

pub agrees_first : (low : Bool) (o : Option Sequence) (first : Sequence) → first_or o first ≡ first → Agrees low (Some first) → Agrees low o
agrees_first low (Some x) first same a = a ∙ ap (λ (s : Sequence). s.extension.low_delay) (sym same)
agrees_first low None first same a = tt

record HasFirst (first : Option Sequence) (s : Sequence) (f : Frames) : Type 0 where
  header : Sequence
  is : first ≡ Some header
  size : IsSize (dims_of s)
  same : dims_of header ≡ dims_of s
  sizes : HaveSize (dims_of s) f

has_first : (first q : Option Sequence) (s : Sequence) (f : Frames) → q ≡ Some s → HaveSizes first q f → HasFirst first s f
has_first (Some x) (Some y) s f e h =
    let same : y ≡ s = cc e in
    subst (λ (z : Sequence). HasFirst (Some x) z f) same (record { header = x; is = refl; size = h.0; same = h.1; sizes = h.2 })
has_first None (Some y) s f e h = absurd h
has_first first None s f e h = absurd (cc e)

open_is : (a b : Open) → Some a ≡ Some b → a ≡ b
open_is a b e = cc e

-- ---- a piece that is taken in

module _ (c : Course) (p : Piece) (o : Opened) (after : State) (sound : IsSoundCourse c) (none : c.state.picture ≡ None) (one : HasOnePicture (cut 0 (whole_of p)).1)
    (f : Front c.state p) (by : IsOpenedBy p f o) (left : after ≡ after_end (stopped f)) (fine : IsOpened p o) (read : o.note.dropped ≡ false) where
  abbrev pub between : IsBetween c.state
  between = between_pieces c.state c.gallery sound.frames none

  pub kept : by.picture.dropped ≡ false
  kept = sym (ap (λ (n : PictureNote). n.dropped) by.note) ∙ read

  enter : Enters c.state (stopped f) by.sequence
  enter = enters c.state p f (sound.frames).headers_only between one by.sequence by.picture by.in_force by.is_open kept

  abbrev before : State
  before = enter.before

  abbrev was : Open
  was = opened before enter.info enter.extension

  abbrev final : State
  final = skim_at (loaded (after_picture before enter.info enter.extension) enter.intra enter.non_intra) by.sequence (reached was enter.has_slice enter.row)

  after_is : after ≡ after_end final
  after_is = left ∙ ap after_end enter.final_is

  picture_is : by.picture ≡ unread_of (reached was enter.has_slice enter.row)
  picture_is = open_is by.picture (unread_of (reached was enter.has_slice enter.row)) (sym by.is_open ∙ ap (λ (z : State). z.picture) enter.final_is)

  ready : AreReady before c.gallery
  ready = led c.state before c.gallery enter.leads (ready_at c.state c.gallery sound.frames none)

  has : HasFirst before.first by.sequence c.gallery
  has = has_first before.first before.sequence by.sequence c.gallery enter.known ready.sizes

  first_is : after.first ≡ Some has.header
  first_is = ap (λ (z : State). z.first) after_is ∙ has.is

  in_force : after.sequence ≡ Some by.sequence
  in_force = ap (λ (z : State). z.sequence) left ∙ by.in_force

  first_stays : first_or c.state.first has.header ≡ has.header
  first_stays = led_first c.state before has.header enter.leads has.is

  dims_are : dims_of by.sequence ≡ o.dims
  unfolding slice_setup
  dims_are = sym (ap (λ (s : SliceSetup). s.dims) by.setup)

  pub second_is : o.context.second ≡ by.picture.second_field
  unfolding slice_setup
  second_is = ap (λ (s : SliceSetup). s.context.second) by.setup

  waits_there : o.context.second ≡ true → IsSome c.gallery.current
  waits_there second =
      let off : drops before enter.info.kind ≡ false = (or_parts before.headers_only (drops before enter.info.kind) enter.read).1 in
      waiting_there before before.waiting enter.info enter.extension c.gallery.current enter.due ready.anchors.first_field off
      (sym (ap (λ (x : Open). x.second_field) picture_is) ∙ sym second_is ∙ second)

  pub can_take : CanTake c o after
  can_take = record {
    first = has.header;
    sequence = by.sequence;
    first_is = first_is;
    in_force = in_force;
    same = first_stays;
    size = fine.setup.size;
    dims = dims_are;
    frames = subst (λ (d : Dims). HaveSize d c.gallery) dims_are has.sizes;
    closed = reads_none c.state c.gallery sound.frames none;
    waits = waits_there;
    fresh = sound.fresh;
    low = sound.low;
  }

  -- ---- what is known of the decoder behind it

  info_is : o.note.info ≡ enter.info
  info_is = ap (λ (n : PictureNote). n.info) by.note ∙ ap (λ (x : Open). x.info) picture_is

  extension_is : o.note.extension ≡ enter.extension
  extension_is = ap (λ (n : PictureNote). n.extension) by.note ∙ ap (λ (x : Open). x.extension) picture_is

  waiting_is : o.context.second ≡ is_some before.waiting
  waiting_is = second_is ∙ ap (λ (x : Open). x.second_field) picture_is

  abbrev ends : Bool
  ends = is_frame_end (open_of o)

  abbrev now : State
  now = record after { headers_only = false }

  closed_is : after.picture ≡ None
  closed_is = ap (λ (z : State). z.picture) left

  counted_is : now.anchors ≡ (if ends && not (is_b o.note.info.kind) then one_anchor_more before.anchors else before.anchors)
  counted_is =
      ap (λ (z : State). z.anchors) after_is
      ∙ (λ i. if (is_frame (sym extension_is i) || sym waiting_is i) && not (is_b (sym info_is i).kind) then one_anchor_more before.anchors else before.anchors)

  first_field_is : now.waiting ≡ (if ends then None else Some (record { kind = o.note.info.kind; structure = o.note.extension.structure }))
  first_field_is =
      ap (λ (z : State). z.waiting) after_is
      ∙ (λ i. if is_frame (sym extension_is i) || sym waiting_is i then None else Some (record { kind = (sym info_is i).kind; structure = (sym extension_is i).structure }))

  anchors_there : (frame : Samples) (g : Frames) → store_of g ≡ frames_behind o frame (store_of c.gallery) → HasAnchors now (store_of g)
  unfolding left_by
  anchors_there frame g store =
      let a = begun_anchors ends (is_b o.note.info.kind) now before.anchors o.note.info.kind o.note.extension.structure (store_of c.gallery) (record (store_of c.gallery) { current = Some frame })
      counted_is first_field_is refl refl (λ off. refl) (λ off. refl) ready.anchors.newer ready.anchors.older in
      subst (HasAnchors now) (sym store) (record { newer = a.newer; older = a.older; first_field = a.first_field })

  matrices_are : AreMatrices after
  unfolding slice_setup
  matrices_are = (
    subst IsMatrix (ap (λ (s : SliceSetup). s.context.intra) by.setup ∙ sym (ap (λ (z : State). z.intra) left)) fine.setup.picture.intra,
    subst IsMatrix (ap (λ (s : SliceSetup). s.context.non_intra) by.setup ∙ sym (ap (λ (z : State). z.non_intra) left)) fine.setup.picture.non_intra,
  )

  sizes_there : (g : Frames) → HaveSize o.dims g → HaveSizes after.first after.sequence g
  sizes_there g h =
      subst (λ (q : Option Sequence). HaveSizes after.first q g) (sym in_force)
      (subst (λ (x : Option Sequence). HaveSizes x (Some by.sequence) g) (sym first_is) (has.size, has.same, subst (λ (e : Dims). HaveSize e g) (sym dims_are) h))

  sound_frames : (frame : Samples) (g : Frames) → store_of g ≡ frames_behind o frame (store_of c.gallery) → g.reading ≡ None → HaveSize o.dims g → AreSound now g
  sound_frames frame g store reading sizes = record {
    headers_only = refl;
    matrices = matrices_are;
    sizes = sizes_there g sizes;
    fits = subst (λ (x : Option Open). FitsOpen x now.sequence g) (sym closed_is) reading;
    anchors = subst (λ (x : Option Open). HasAnchors now (picture_ended x (store_of g))) (sym closed_is) (anchors_there frame g store);
  }

  fresh_behind : (a : Option Samples) → IsFresh after.first a
  fresh_behind a = subst (λ (x : Option Sequence). IsFresh x a) (sym first_is) tt

  pub none_behind : (frame : Samples) (d : Course) → TookIn c o after frame d → d.state.picture ≡ None
  none_behind frame d t = ap (λ (z : State). z.picture) t.state ∙ closed_is

  pub sound_behind : (frame : Samples) (d : Course) → TookIn c o after frame d → IsSoundCourse d
  sound_behind frame d t =
      let q = queue_behind c after in
      let fl = frame_list (frame_ended o frame) o.note.info.kind in
      record {
        frames = subst (λ (z : State). AreSound z d.gallery) (sym t.state) (sound_frames frame d.gallery t.store t.reading t.sizes);
        fresh = subst (λ (z : State). IsFresh z.first d.queue.anchor) (sym t.state) (fresh_behind d.queue.anchor);
        low = ap (λ (x : Holder Samples). x.low_delay) t.queue ∙ low_stays q fl ∙ ap (λ (z : State). low_delay_of z.first) (sym t.state);
        counts = omega (arith, sound.counts, t.pictures, t.shown, ap length t.ready, length-append c.ready.items (handed q fl), ap (λ (x : Holder Samples). length (option_to_list x.anchor)) t.queue, handed_few q (frame_ended o frame) o.note.info.kind);
        dropped = omega (arith, sound.dropped, t.pictures, t.dropped, few_dropped o.note.dropped);
      }

  -- ---- what the piece tells

  abbrev at : Between
  at = between_of c

  abbrev refs : References
  refs = refs_for o (store_of c.gallery)

  abbrev first_frame : Samples
  first_frame = frame_begun o c.gallery.current

  abbrev structure : ℕ
  structure = o.context.extension.structure

  frames_sized : HaveSize o.dims c.gallery
  frames_sized = subst (λ (d : Dims). HaveSize d c.gallery) dims_are has.sizes

  -- the frames at hand before the picture's first slice
  references_are : references_of by.picture (store_of c.gallery) ≡ refs
  unfolding slice_setup
  references_are = sym (ap (λ (s : SliceSetup). references_by s.context.kind s.context.second s.context.extension.structure (store_of c.gallery)) by.setup)

  begun_is : frames_begun by.sequence by.picture (store_of c.gallery) ≡ record (store_of c.gallery) { current = Some first_frame; references = refs }
  begun_is =
      let size = dims_of by.sequence in
      let current = (λ i. if sym second_is i then c.gallery.current else Some (blank size size.mb_rows)) ∙ begun_current o.context.second c.gallery.current size o.dims waits_there dims_are in
      λ i. record { older = c.gallery.older; newer = c.gallery.newer; current = current i; references = references_are i }

  ends_are : is_frame_end by.picture ≡ ends
  ends_are = λ i. is_frame (sym (ap (λ (n : PictureNote). n.extension) by.note) i) || sym second_is i

  kind_is : by.picture.info.kind ≡ o.note.info.kind
  kind_is = sym (ap (λ (n : PictureNote). n.info.kind) by.note)

  left_alike : (s : Store) → picture_ended (Some by.picture) s ≡ picture_ended (Some (open_of o)) s
  unfolding left_by
  left_alike s = λ i. record (left_by (ends_are i) (is_b (kind_is i)) s) { references = no_references }

  module _ (row : ℕ → Samples) (whole : o.fault ≡ None) (rows : (r : ℕ) → r < o.rows → IsRebuilt refs p o r (row r)) where
    abbrev pub frame : Samples
    frame = rows_set structure row o.rows first_frame

    fault_is : fault_at (end_of p) f.fault ≡ None
    fault_is = sym by.fault_is ∙ ap as_placed whole

    abbrev Told : SliceSetup → Slices → Events → Between → Type 0
    Told s us = TellsPicture at (stopped f) by.sequence by.picture s us

    abbrev ByRowsOf : SliceSetup → Slices → Option Placed → Type 0
    ByRowsOf s us fault = ByItsRows s us (end_of p) fault (piece_read at (end_of p) (whole_of p)) (Told s us)

    by_rows : ByRowsOf (setup_of o) (slices_of p o) None
    by_rows =
        let law = (halves at p f (sound.frames).headers_only between one).rows by.sequence by.picture by.in_force by.is_open kept in
        subst (λ (x : Option Placed). ByRowsOf (setup_of o) (slices_of p o) x) fault_is
        (subst (λ (us : Slices). ByRowsOf (setup_of o) us (fault_at (end_of p) f.fault)) (sym by.slices_are)
        (subst (λ (s : SliceSetup). ByRowsOf s (slices_by (end_of p) [] f.read) (fault_at (end_of p) f.fault)) (sym by.setup) law))

    in_rows : (r : ℕ) → r < rows_in (setup_of o) → r < o.rows
    in_rows r lt = subst (λ (n : ℕ). r < n) (sym fine.rows) lt

    ending_is : ending p o ≡ Some (8 * end_of p)
    ending_is = ap (λ (x : Option Fault). ending_by x (8 * (p.place + p.length))) whole

    none_above : NoneAbove (setup_of o) (slices_of p o) (Some (8 * end_of p)) (rows_in (setup_of o))
    none_above r lt = subst (λ (e : Option ℕ). row_fault (setup_of o) r (slices_of p o) e ≡ None) ending_is (rows r (in_rows r lt)).fine

    told : (es : Events) × (next : Between) × (piece_read at (end_of p) (whole_of p) ≡ Ok (es, next)) × Told (setup_of o) (slices_of p o) es next
    told = by_rows.whole none_above refl

    abbrev es : Events
    es = told.0

    abbrev next : Between
    next = told.1

    abbrev tells : Told (setup_of o) (slices_of p o) es next
    tells = told.3

    painted_is : slices_painted put_in_frame (setup_of o) refs first_frame tells.slices ≡ frame
    painted_is =
        let law = rows_in_frame (setup_of o) refs (slices_of p o) (8 * end_of p) fine.setup by_rows.ordered in
        let size = begun_sized o.context.second c.gallery.current o.dims waits_there frames_sized.current in
        sym (law.set row tells.slices first_frame (begun_whole o.context.second c.gallery.current o.dims waits_there frames_sized.whole) size none_above (λ r lt. (rows r (in_rows r lt)).painted) tells.read)
        ∙ ap (λ (n : ℕ). rows_set structure row n first_frame) (sym fine.rows)

    abbrev painted : Store
    painted = frames_painted (setup_of o) tells.slices (frames_begun by.sequence by.picture (store_of c.gallery))

    store_painted : painted ≡ record (store_of c.gallery) { current = Some frame; references = refs }
    store_painted =
        ap (frames_painted (setup_of o) tells.slices) begun_is
        ∙ ap (λ (g : Samples). record (store_of c.gallery) { current = Some g; references = refs }) painted_is

    store_next : next.store ≡ frames_behind o frame (store_of c.gallery)
    store_next =
        tells.store
        ∙ ap (picture_ended (Some by.picture)) store_painted
        ∙ ended_same by.picture (record (store_of c.gallery) { current = Some frame; references = refs }) (record (store_of c.gallery) { current = Some frame }) refl
        ∙ left_alike (record (store_of c.gallery) { current = Some frame })

    next_is : (d : Course) → TookIn c o after frame d → next ≡ between_of d
    next_is d t =
        let state : next.state ≡ d.state = tells.state ∙ ap (λ (z : State). record z { headers_only = false }) (sym left) ∙ sym t.state in
        let store : next.store ≡ store_of d.gallery = store_next ∙ sym t.store in
        λ i. record { state = state i; store = store i }

    abbrev one_picture : Picture
    one_picture = record (picture_of by.picture painted) { crowded_row = tells.crowded }

    listed_one : decoded_of (pictures_in es) ≡ frame_list (frame_ended o frame) o.note.info.kind
    unfolding picture_of
    listed_one =
        ap decoded_of tells.picture
        ∙ one_listed ends false (Some frame) (frame_ended o frame) one_picture ends_are kept (ap (λ (s : Store). or_none s.current) store_painted) refl (λ on. absurd cc) (λ off. refl)
        ∙ ap (frame_list (frame_ended o frame)) kind_is

    dropped_one : dropped_in (pictures_in es) ≡ (if o.note.dropped then 1 else 0)
    unfolding picture_of
    dropped_one = ap dropped_in tells.picture ∙ one_dropped one_picture o.note.dropped (kept ∙ sym read)

    pub onward : (d : Course) (ended failed skims after_skims : Bool) → TookIn c o after frame d → Onward (seen_as c ended failed skims) p.place (whole_of p) (seen_as d false false after_skims)
    onward d ended failed skims after_skims t =
        let long = whole_length p fine.piece in
        let first : d.state.first ≡ Some has.header = ap (λ (z : State). z.first) t.state ∙ first_is in
        let low_is : (low : Bool) → Agrees low d.state.first → queue_behind c after ≡ queue_of low c.queue.anchor =
        λ low agree.
        let own : low ≡ has.header.extension.low_delay = subst (Agrees low) first agree in
        ap (λ (b : Bool). queue_of b c.queue.anchor) (ap low_delay_of first_is ∙ sym own) in
        record {
          events = es;
          read = ap (λ (n : ℕ). piece_read at (p.place + n) (whole_of p)) long ∙ told.2 ∙ ap (λ (b : Between). Ok (es, b)) (next_is d t);
          first = λ low agree. agrees_first low c.state.first has.header first_stays (subst (Agrees low) first agree);
          shows = λ low agree. record {
            ready_is = t.ready ∙ (λ i. c.ready.items ++ handed (low_is low agree i) (sym listed_one i));
            anchor_is = ap (λ (q : Holder Samples). q.anchor) t.queue ∙ (λ i. (held_after (low_is low agree i) (sym listed_one i)).anchor);
          };
          counted = t.pictures ∙ ap (λ (l : Pictures). c.pictures + length l) (sym tells.picture);
          dropped = t.dropped ∙ ap (λ (n : ℕ). c.dropped + n) (sym dropped_one);
          few = omega (arith, ap length tells.picture, long, fine.piece.some);
          shown = t.shown;
          going = refl;
          sound = refl;
        }
