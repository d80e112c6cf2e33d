-- The frames at hand before the first picture of a batch, and behind each.
use Rattle.std.proofs.Common.{◌≡◌, ℕ, zero, suc, ◌+◌, ◌<◌, ◌≤◌, Bool, true, false, cond, not, Option, Some, None, refl, sym, ap, subst, ◌∙◌, arith}
use Rattle.std.specs.Prelude.{Ok, nat_eq, ◌&&◌, ◌||◌, slice_get}
use Rattle.std.proofs.lemmas.Bool.{eqb-true}
use Rattle.m2v_plane.specs.declared.dims.Dims.{Dims}
use Rattle.m2v_plane.specs.Samples.{Samples, blank, with_row}
use Rattle.m2v_plane.specs.Fields.{or_none}
use Rattle.m2v_pred.specs.Motion.{own_lines}
use Rattle.m2v_model.specs.declared.notes.PictureNote.{PictureNote}
use Rattle.m2v_model.specs.declared.setup.SliceSetup.{SliceSetup}
use Rattle.m2v_model.specs.declared.state.State.{State}
use Rattle.m2v_model.specs.States.{slice_setup}
use Rattle.m2v_model.specs.Pictures.{Store, no_references}
use Rattle.m2v_dec_piece.specs.declared.answer.Piece.{Piece}
use Rattle.m2v_decode.specs.m2v_dec_rows.declared.opened.Opened.{Opened}
use Rattle.m2v_decode.specs.m2v_dec_rows.Headers.{TellsHeaders}
use Rattle.m2v_dec_batch.specs.declared.picture.BatchPicture.{BatchPicture}
use Rattle.m2v_dec_batch.specs.declared.picture.Header.{Header}
use Rattle.m2v_dec_batch.specs.declared.picture.FramePlace.{FramePlace}
use Rattle.m2v_dec_batch.specs.declared.picture.FramePlace.TheVariants.{Older, Newer, Behind}
use Rattle.m2v_dec_batch.specs.Jobs.{header_at, first_job, ends_anchor, newer_before, older_before, first_field}
use Rattle.m2v_dec_batch.specs.Batches.{Batch, headers, header_of, Rows, with_own, all_set, begun, frame_behind, frame_at, IsBatch}
use Rattle.m2v_dec_batch.specs.Batches as batches
use Rattle.m2v_dec_batch.specs.Pieces.{row_of}
use Rattle.m2v_dec_batch.specs.Painted.{all_rows}
use Rattle.m2v_dec_batch.proofs.Sizes.{header_is, at_picture}
use Rattle.m2v_dec_batch.proofs.Anchors.{newer_first, older_first, newer_next, older_next}
use Rattle.m2v_decode.specs.m2v_dec_rows.InFrames.{rows_set}
use Rattle.m2v_pardec.specs.Behind.{Tracks, AreRebuilt, IsNoted, frame_made, store_behind}

-- ---- the first picture

waiting_first : (b : Batch) (at : Rows) → frame_at b at (first_field 0) ≡ b.waiting
unfolding frame_at first_field
waiting_first b at = refl

older_is : (b : Batch) (at : Rows) → frame_at b at Older ≡ b.older
unfolding frame_at
older_is b at = refl

newer_is : (b : Batch) (at : Rows) → frame_at b at Newer ≡ b.newer
unfolding frame_at
newer_is b at = refl

pub tracks_first : (b : Batch) (store : Store) → store.older ≡ b.older → store.newer ≡ b.newer → ((header_at (headers b) 0).second ≡ true → store.current ≡ b.waiting) → Tracks b 0 store
tracks_first b store older newer waiting =
    let at = all_rows b in
    record {
      older = older ∙ sym (ap (frame_at b at) (older_first (headers b)) ∙ older_is b at);
      newer = newer ∙ sym (ap (frame_at b at) (newer_first (headers b)) ∙ newer_is b at);
      waiting = λ second. waiting second ∙ sym (waiting_first b at);
    }

-- ---- the frame of a picture

set_same : (h : Header) (at : Rows) (from n : ℕ) (samples : ℕ → Samples) (frame : Samples) → ((k : ℕ) → k < n → at (from + k) ≡ Some (samples k))
    → batches.rows_set h at from n frame ≡ rows_set h.structure samples n frame
unfolding batches.rows_set rows_set
set_same h at from zero samples frame each = refl
set_same h at from (suc n) samples frame each =
    ap (λ (o : Option Samples). with_own h n o (batches.rows_set h at from n frame)) (each n (omega arith))
    ∙ ap (λ (f : Samples). with_row f (own_lines h.structure) n (samples n)) (set_same h at from n samples frame (λ k lt. each k (omega (arith, lt))))

behind_by : (b : Batch) (at : Rows) (p : ℕ) → frame_behind b at p ≡ all_set b at p (begun b p (or_none (frame_at b at (first_field p))))
unfolding frame_behind frame_at first_field
behind_by b at zero = refl
behind_by b at (suc p) = refl

begun_same : (second : Bool) (d e : Dims) (first current : Option Samples) → e ≡ d → (second ≡ true → current ≡ first)
    → cond second (or_none first) (blank d d.mb_rows) ≡ cond second (or_none current) (blank e e.mb_rows)
begun_same true d e first current size waiting = ap or_none (sym (waiting refl))
begun_same false d e first current size waiting = ap (λ (k : Dims). blank k k.mb_rows) (sym size)

-- the frame behind a picture is the one that its rows are set into
frame_is : (b : Batch) (p : ℕ) (x : BatchPicture) (store : Store) (samples : ℕ → Samples) → IsBatch b → slice_get b.pictures p ≡ Some x → Tracks b p store → AreRebuilt b p samples
    → frame_behind b (all_rows b) p ≡ frame_made x.opened samples store.current
frame_is b p x store samples h is tracks each =
    let hs = headers b in
    let at = all_rows b in
    let y = header_at hs p in
    let e = header_is b p x is in
    let first = frame_at b at (first_field p) in
    let size = at_picture (λ (z : BatchPicture). z.opened.dims ≡ b.dims) b p x h.sizes is in
    behind_by b at p
    ∙ set_same y at (first_job hs p) y.rows samples (begun b p (or_none first)) (λ k lt. ap row_of (each k lt))
    ∙ ap (rows_set y.structure samples y.rows) (begun_same y.second b.dims x.opened.dims first store.current size tracks.waiting)
    ∙ ap (λ (z : Header). rows_set z.structure samples z.rows (cond z.second (or_none store.current) (blank x.opened.dims x.opened.dims.mb_rows))) e

-- ---- the frames behind it

-- the frames at hand behind a picture, by whether it ends its frame and whether it is a B picture
abbrev left : Bool → Bool → Samples → Store → Store
left ends b frame store =
    let now = record store { current = Some frame } in
    record (cond ends (cond b (record now { current = None }) (record now { older = now.newer; newer = now.current; current = None })) now) { references = no_references }

older_left : (ends b : Bool) (frame : Samples) (store : Store) → (left ends b frame store).older ≡ cond (not b && ends) store.newer store.older
older_left true true frame store = refl
older_left true false frame store = refl
older_left false true frame store = refl
older_left false false frame store = refl

newer_left : (ends b : Bool) (frame : Samples) (store : Store) → (left ends b frame store).newer ≡ cond (not b && ends) (Some frame) store.newer
newer_left true true frame store = refl
newer_left true false frame store = refl
newer_left false true frame store = refl
newer_left false false frame store = refl

current_left : (ends b : Bool) (frame : Samples) (store : Store) → ends ≡ false → (left ends b frame store).current ≡ Some frame
current_left true b frame store e = absurd cc
current_left false b frame store e = refl

at_cond : (b : Batch) (at : Rows) (t : Bool) (x y : FramePlace) (f g : Option Samples) → f ≡ frame_at b at x → g ≡ frame_at b at y → cond t f g ≡ frame_at b at (cond t x y)
at_cond b at true x y f g e h = e
at_cond b at false x y f g e h = h

behind_is : (b : Batch) (at : Rows) (p : ℕ) → frame_at b at (Behind p) ≡ Some (frame_behind b at p)
unfolding frame_at
behind_is b at p = refl

field_is : (p : ℕ) → first_field (p + 1) ≡ Behind p
unfolding first_field
field_is p = ap first_field (let e : p + 1 ≡ suc p = omega arith in e)

not_frame : (structure : ℕ) (second : Bool) → structure ≤ 2 → second ≡ false → (nat_eq structure 3 || second) ≡ false
not_frame structure true le e = absurd cc
not_frame structure false le e = by_test (nat_eq structure 3) refl
  where
    by_test : (t : Bool) → nat_eq structure 3 ≡ t → (t || false) ≡ false
    by_test true is = absurd (omega (arith, le, eqb-true structure 3 is))
    by_test false is = refl

-- behind picture p, whose frame this is
left_tracks : (b : Batch) (p : ℕ) (frame : Samples) (store : Store) → IsBatch b → Tracks b p store → frame_behind b (all_rows b) p ≡ frame
    → Tracks b (p + 1) (left (nat_eq (header_at (headers b) p).structure 3 || (header_at (headers b) p).second) (nat_eq (header_at (headers b) p).kind 3) frame store)
left_tracks b p frame store h tracks is =
    let hs = headers b in
    let at = all_rows b in
    let y = header_at hs p in
    let ends = nat_eq y.structure 3 || y.second in
    let two = nat_eq y.kind 3 in
    let own : Some frame ≡ frame_at b at (Behind p) = sym (behind_is b at p ∙ ap (λ (f : Samples). Some f) is) in
    record {
      older = older_left ends two frame store
          ∙ at_cond b at (ends_anchor y) (newer_before hs p) (older_before hs p) store.newer store.older tracks.newer tracks.older
          ∙ ap (frame_at b at) (sym (older_next hs p));
      newer = newer_left ends two frame store
          ∙ at_cond b at (ends_anchor y) (Behind p) (newer_before hs p) (Some frame) store.newer own tracks.newer
          ∙ ap (frame_at b at) (sym (newer_next hs p));
      waiting = λ second.
          let e : p + 1 ≡ suc p = omega arith in
          let pair = h.pairs p (ap (λ (q : ℕ). (header_at hs q).second) (sym e) ∙ second) in
          current_left ends two frame store (not_frame y.structure y.second pair.is_field pair.is_first)
          ∙ own ∙ ap (frame_at b at) (sym (field_is p));
    }

-- what is told of a picture is what its macroblocks are read by
pub noted : (st now : State) (p : Piece) (o : Opened) → TellsHeaders st p (Ok (Some o)) now → IsNoted o
unfolding slice_setup
noted st now p o told =
    let by = told.1 in
    record {
      kind = ap (λ (n : PictureNote). n.info.kind) by.note ∙ sym (ap (λ (s : SliceSetup). s.context.kind) by.setup);
      structure = ap (λ (n : PictureNote). n.extension.structure) by.note ∙ sym (ap (λ (s : SliceSetup). s.context.extension.structure) by.setup);
    }

-- behind a picture whose rows are all rebuilt
pub tracks_next : (b : Batch) (p : ℕ) (x : BatchPicture) (store : Store) (samples : ℕ → Samples) → IsBatch b → slice_get b.pictures p ≡ Some x → IsNoted x.opened → Tracks b p store → AreRebuilt b p samples
    → Tracks b (p + 1) (store_behind x.opened samples store)
tracks_next b p x store samples h is note tracks each =
    let frame = frame_made x.opened samples store.current in
    let own : Tracks b (p + 1) (left (nat_eq x.opened.context.extension.structure 3 || x.opened.context.second) (nat_eq x.opened.context.kind 3) frame store) =
    subst (λ (y : Header). Tracks b (p + 1) (left (nat_eq y.structure 3 || y.second) (nat_eq y.kind 3) frame store)) (header_is b p x is)
    (left_tracks b p frame store h tracks (frame_is b p x store samples h is tracks each)) in
    subst (Tracks b (p + 1)) (sym (λ i. left (nat_eq (note.structure i) 3 || x.opened.context.second) (nat_eq (note.kind i) 3) frame store)) own
