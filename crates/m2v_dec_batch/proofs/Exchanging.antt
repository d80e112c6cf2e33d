-- A batch with other frames at hand before it, of which the same are there.
use Rattle.std.proofs.Common.{rules, ◌≡◌, ℕ, Bool, true, false, [], Option, Some, refl, sym, subst, ◌∙◌}
use Rattle.std.specs.Prelude.{is_some, IsSome, IfSome, slice_get}
use Rattle.m2v_plane.specs.declared.dims.Dims.{Dims}
use Rattle.m2v_plane.specs.Sizes.{IsSize}
use Rattle.m2v_plane.specs.Samples.{Samples}
use Rattle.m2v_dec_rows.specs.m2v_dec_picture.declared.gallery.FramesAtHand.{FramesAtHand}
use Rattle.m2v_dec_rows.specs.m2v_dec_picture.Frames.{HasReferences}
use Rattle.m2v_dec_batch.specs.declared.picture.BatchPicture.{BatchPicture}
use Rattle.m2v_dec_batch.specs.declared.picture.FramePlace.{FramePlace}
use Rattle.m2v_dec_batch.specs.declared.picture.FramePlace.TheVariants.{Older, Newer, Waiting, Behind}
use Rattle.m2v_dec_batch.specs.Jobs.{older_before, newer_before, first_field}
use Rattle.m2v_dec_batch.specs.Batches.{Batch, headers, no_rows, frames_for, IsBatch}
use Rattle.m2v_dec_batch.specs.declared.at_hand.FramesThere.{FramesThere}
use Rattle.m2v_dec_batch.specs.Filled.{any_frame, batch_of, with_frames, AreThere, HaveDims, is_there, at_hand, HasFields}
use Rattle.m2v_dec_batch.proofs.Presence.{references_by, fields_by}

-- ---- frames of samples 0

pub any_there : (d : Dims) (t : Bool) → is_some (any_frame d t) ≡ t
any_there d true = refl
any_there d false = refl

any_sized : (d : Dims) (t : Bool) → IfSome (any_frame d t) (λ f. f.dims ≡ d)
any_sized d true = refl
any_sized d false = tt

-- a batch of no picture
pub batch_none : (d : Dims) (before : FramesThere) → IsSize d → IsBatch (batch_of d [] before)
batch_none d before size = record {
  pictures_are = record { size = size; few = search rules; opened = search rules; sizes = search rules; field = search rules; pairs = search rules };
  frames_fit = record { older = any_sized d before.older; newer = any_sized d before.newer; waiting = any_sized d before.first };
  first = search rules;
  decoded = search rules;
}

-- ---- other frames

pub there_exchanged : (b : Batch) (f : FramesAtHand) (place : FramePlace) → AreThere f b → is_there (with_frames b f) place ≡ is_there b place
unfolding is_there
there_exchanged b f Older t = t.older
there_exchanged b f Newer t = t.newer
there_exchanged b f Waiting t = t.waiting
there_exchanged b f (Behind p) t = refl

at_exchanged : (b : Batch) (f : FramesAtHand) (p : ℕ) → AreThere f b → at_hand b p ≡ at_hand (with_frames b f) p
at_exchanged b f p t =
    let older = sym (there_exchanged b f (older_before (headers b) p) t) in
    let newer = sym (there_exchanged b f (newer_before (headers b) p) t) in
    let first = sym (there_exchanged b f (first_field p) t) in
    λ i. record { older = older i; newer = newer i; first = first i }

waiting_there : (x y : Option Samples) → is_some x ≡ is_some y → IsSome y → IsSome x
waiting_there x y e there = e ∙ there

decoded_exchanged : (b : Batch) (f : FramesAtHand) → IsBatch b → AreThere f b → (p : ℕ) (x : BatchPicture) → slice_get b.pictures p ≡ Some x
    → HasReferences x.opened.references (frames_for (with_frames b f) no_rows p)
decoded_exchanged b f h t p x is =
    references_by (with_frames b f) p x.opened.references
    (subst (HasFields x.opened.references (frames_for b no_rows p).reading) (at_exchanged b f p t) (fields_by b p x.opened.references (h.decoded p x is)))

-- the batch stays one
pub exchanged : (b : Batch) (f : FramesAtHand) → IsBatch b → AreThere f b → HaveDims b.dims f → IsBatch (with_frames b f)
exchanged b f h t sizes = record {
  pictures_are = h.pictures_are;
  frames_fit = sizes;
  first = λ second. waiting_there f.waiting b.waiting t.waiting (h.first second);
  decoded = decoded_exchanged b f h t;
}
