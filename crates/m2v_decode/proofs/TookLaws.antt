-- A picture that was read elsewhere is taken in: its frame, and what its end does.
use Rattle.std.proofs.Common.{◌≡◌, ℕ, ◌+◌, ◌*◌, ◌++◌, Bool, true, false, Option, Some, None, refl, sym, ap, subst, ◌∙◌}
use Rattle.std.specs.Prelude.{IsSome, IfSome, if◌then◌else◌}
use Rattle.std.proofs.lemmas.List.{length-replicate}
use Rattle.m2v_plane.specs.declared.dims.Dims.{Dims}
use Rattle.m2v_plane.specs.Samples.{Samples, HasRows, blank}
use Rattle.m2v_plane.specs.Fields.{or_none}
use Rattle.m2v_order.specs.Display.{handed, held_after}
use Rattle.m2v_model.specs.declared.state.Sequence.{Sequence}
use Rattle.m2v_model.specs.declared.state.Open.{Open}
use Rattle.m2v_model.specs.declared.state.State.{State}
use Rattle.m2v_model.specs.States.{dims_of, is_b, is_frame_end, first_or}
use Rattle.m2v_model.specs.Pictures.{Store, on_frame, picture_begun, picture_ended, no_references}
use Rattle.m2v_model.specs.Decoding.{low_delay_of}
use Rattle.m2v_dec_rows.specs.m2v_dec_picture.Frames.{Frames, store_of, HaveSize}
use Rattle.m2v_dec_rows.specs.declared.opened.Opened.{Opened}
use Rattle.m2v_dec_rows.specs.InFrames.{rows_set}
use Rattle.m2v_dec_rows.proofs.RowsSet.{set_dims, set_sized}
use Rattle.m2v_decode.specs.declared.course.Course.{Course}
use Rattle.m2v_decode.specs.Decoding.{queue_of}
use Rattle.m2v_decode.specs.Course.{Ended, frame_list}
use Rattle.m2v_decode.specs.Rebuilt.{open_of, frame_begun}
use Rattle.m2v_decode.specs.Taking.{CanTake, queue_behind, TookIn}

-- the frame with which a picture begins is there
pub begun_current : (second : Bool) (c : Option Samples) (d e : Dims) → (second ≡ true → IsSome c) → d ≡ e
    → (if second then c else Some (blank d d.mb_rows)) ≡ Some (if second then or_none c else blank e e.mb_rows)
begun_current true (Some f) d e there same = refl
begun_current true None d e there same = let some = there refl in absurd cc
begun_current false c d e there same = ap (λ (x : Dims). Some (blank x x.mb_rows)) same

abbrev pub IsWhole : Samples → Type 0
IsWhole s = HasRows s s.dims.mb_rows

blank_whole : (d : Dims) → IsWhole (blank d d.mb_rows)
blank_whole d = record {
  luma = length-replicate (16 * d.mb_rows * (16 * d.mb_width)) 0;
  cb = length-replicate (8 * d.mb_rows * (8 * d.mb_width)) 0;
  cr = length-replicate (8 * d.mb_rows * (8 * d.mb_width)) 0;
}

-- it has the picture's size, and all samples of it
pub begun_whole : (second : Bool) (c : Option Samples) (d : Dims) → (second ≡ true → IsSome c) → IfSome c IsWhole → IsWhole (if second then or_none c else blank d d.mb_rows)
begun_whole true (Some f) d there h = h
begun_whole true None d there h = let some = there refl in absurd cc
begun_whole false c d there h = blank_whole d

pub begun_sized : (second : Bool) (c : Option Samples) (d : Dims) → (second ≡ true → IsSome c) → IfSome c (λ s. s.dims ≡ d) → (if second then or_none c else blank d d.mb_rows).dims ≡ d
begun_sized true (Some f) d there h = h
begun_sized true None d there h = let some = there refl in absurd cc
begun_sized false c d there h = refl

-- what a picture leaves doesn't look at what it was predicted from
left_same : (ends b : Bool) (s t : Store) → record s { references = no_references } ≡ record t { references = no_references }
    → record (if ends then (if b then record s { current = None } else record s { older = s.newer; newer = s.current; current = None }) else s) { references = no_references }
    ≡ record (if ends then (if b then record t { current = None } else record t { older = t.newer; newer = t.current; current = None }) else t) { references = no_references }
left_same true true s t e = ap (λ (x : Store). record x { current = None }) e
left_same true false s t e = ap (λ (x : Store). record x { older = x.newer; newer = x.current; current = None }) e
left_same false b s t e = e

pub ended_same : (p : Open) (s t : Store) → record s { references = no_references } ≡ record t { references = no_references } → picture_ended (Some p) s ≡ picture_ended (Some p) t
ended_same p s t e = left_same (is_frame_end p) (is_b p.info.kind) s t e

frame_where : (ends : Bool) (frame c : Option Samples) (f : Samples) → frame ≡ (if ends then c else None) → c ≡ Some f → frame ≡ (if ends then Some f else None)
frame_where ends frame c f e is = e ∙ ap (λ (x : Option Samples). if ends then x else None) is

-- the frames at hand with the rows set
record IsSet (c : Course) (o : Opened) (frame : Samples) (h : Frames) : Type 0 where
  older : h.older ≡ c.gallery.older
  newer : h.newer ≡ c.gallery.newer
  current : h.current ≡ Some frame
  sizes : HaveSize o.dims h

is_set : (c : Course) (o : Opened) (s : Sequence) (row : ℕ → Samples) (g h : Frames) → HaveSize (dims_of s) g → dims_of s ≡ o.dims → (o.context.second ≡ true → IsSome c.gallery.current) → HaveSize o.dims c.gallery
    → store_of g ≡ picture_begun (Some s) (open_of o) (store_of c.gallery)
    → h ≡ record g { current = on_frame (rows_set o.context.extension.structure row o.rows) g.current }
    → IsSet c o (rows_set o.context.extension.structure row o.rows (frame_begun o c.gallery.current)) h
is_set c o s row g h sizes dims waits before store is =
    let structure = o.context.extension.structure in
    let frame0 = frame_begun o c.gallery.current in
    let current : g.current ≡ Some frame0 = ap (λ (x : Store). x.current) store ∙ begun_current o.context.second c.gallery.current (dims_of s) o.dims waits dims in
    let now : h.current ≡ Some (rows_set structure row o.rows frame0) = ap (λ (x : Frames). x.current) is ∙ ap (on_frame (rows_set structure row o.rows)) current in
    let own : HaveSize o.dims g = subst (λ (d : Dims). HaveSize d g) dims sizes in
    record {
      older = ap (λ (x : Frames). x.older) is ∙ ap (λ (x : Store). x.older) store;
      newer = ap (λ (x : Frames). x.newer) is ∙ ap (λ (x : Store). x.newer) store;
      current = now;
      sizes = record {
        older = subst (λ (x : Option Samples). IfSome x (λ f. f.dims ≡ o.dims)) (sym (ap (λ (x : Frames). x.older) is)) own.older;
        newer = subst (λ (x : Option Samples). IfSome x (λ f. f.dims ≡ o.dims)) (sym (ap (λ (x : Frames). x.newer) is)) own.newer;
        current = subst (λ (x : Option Samples). IfSome x (λ f. f.dims ≡ o.dims)) (sym now) (set_dims structure row o.rows frame0 ∙ begun_sized o.context.second c.gallery.current o.dims waits before.current);
        first_field = subst (λ (x : Option Samples). IfSome x (λ f. f.dims ≡ o.dims)) (sym (ap (λ (x : Frames). x.first_field) is)) own.first_field;
        whole = subst (λ (x : Option Samples). IfSome x IsWhole) (sym now) (set_sized structure row o.rows frame0 (begun_whole o.context.second c.gallery.current o.dims waits before.whole));
      };
    }

low_is : (c : Course) (o : Opened) (after : State) (first : Sequence) (low : Bool) → CanTake c o after → after.first ≡ Some first → low ≡ low_delay_of (Some (first_or c.state.first first)) → low ≡ low_delay_of after.first
low_is c o after first low can is e =
    let same : first ≡ can.first = cc (sym is ∙ can.first_is) in
    e ∙ ap (λ (s : Sequence). low_delay_of (Some (first_or c.state.first s))) same ∙ ap (λ (s : Sequence). low_delay_of (Some s)) can.same ∙ ap low_delay_of (sym can.first_is)

-- the picture ends with its rows set
pub took_in : (c m d : Course) (o : Opened) (after : State) (first s : Sequence) (row : ℕ → Samples) (g : Frames) → CanTake c o after → after.first ≡ Some first → after.sequence ≡ Some s
    → m.queue.low_delay ≡ low_delay_of (Some (first_or c.state.first first)) → m.queue ≡ queue_of m.queue.low_delay c.queue.anchor
    → m.state ≡ record after { headers_only = false } → m.ready ≡ c.ready → m.pictures ≡ c.pictures → m.dropped ≡ c.dropped → m.shown ≡ c.shown
    → store_of g ≡ picture_begun (Some s) (open_of o) (store_of c.gallery) → HaveSize (dims_of s) g
    → m.gallery ≡ record g { current = on_frame (rows_set o.context.extension.structure row o.rows) g.current }
    → Ended m (open_of o) d → TookIn c o after (rows_set o.context.extension.structure row o.rows (frame_begun o c.gallery.current)) d
took_in c m d o after first s row g can first_is in_force low queue state ready pictures dropped shown store sizes set e =
    let frame = rows_set o.context.extension.structure row o.rows (frame_begun o c.gallery.current) in
    let same : s ≡ can.sequence = cc (sym in_force ∙ can.in_force) in
    let dims : dims_of s ≡ o.dims = ap dims_of same ∙ can.dims in
    let h = is_set c o s row g m.gallery sizes dims can.waits can.frames store set in
    let holds : m.queue ≡ queue_behind c after = queue ∙ ap (λ (b : Bool). queue_of b c.queue.anchor) (low_is c o after first m.queue.low_delay can first_is low) in
    let ended = frame_where (is_frame_end (open_of o)) e.frame m.gallery.current frame e.frame_is h.current in
    record {
      state = e.state ∙ state;
      store = e.store ∙ ended_same (open_of o) (store_of m.gallery) (record (store_of c.gallery) { current = Some frame }) (λ i. record { older = h.older i; newer = h.newer i; current = h.current i; references = no_references });
      reading = e.reading;
      sizes = e.sizes o.dims h.sizes;
      ready =
          e.ready
          ∙ ap (λ v. v.items ++ handed m.queue (frame_list e.frame o.note.info.kind)) ready
          ∙ (λ i. c.ready.items ++ handed (holds i) (frame_list (ended i) o.note.info.kind));
      queue = e.queue ∙ (λ i. held_after (holds i) (frame_list (ended i) o.note.info.kind));
      pictures = e.pictures ∙ ap (λ (n : ℕ). n + 1) pictures;
      dropped = e.dropped ∙ ap (λ (n : ℕ). n + (if o.note.dropped then 1 else 0)) dropped;
      shown = e.shown ∙ shown;
    }
