-- References by which frames are there alone.
use Rattle.std.proofs.Common.{◌≡◌, ℕ, suc, ◌+◌, Bool, true, false, cond, List, Option, Some, None, refl, sym, ap, subst, ◌∙◌, arith}
use Rattle.std.specs.Prelude.{◌&&◌, not, nat_eq, is_some}
use Rattle.m2v_plane.specs.Samples.{Samples}
use Rattle.m2v_model.specs.States.{is_b}
use Rattle.m2v_dec_rows.specs.m2v_dec_picture.declared.gallery.Reading.{Reading}
use Rattle.m2v_dec_rows.specs.m2v_dec_picture.Frames.{Frames, forward_top, forward_bottom, backward_frame, HasReferences}
use Rattle.m2v_dec_batch.specs.declared.picture.FramePlace.{FramePlace}
use Rattle.m2v_dec_batch.specs.declared.picture.Header.{Header}
use Rattle.m2v_dec_batch.specs.declared.picture.FramePlace.TheVariants.{Older, Newer, Waiting, Behind}
use Rattle.m2v_dec_batch.specs.Jobs.{header_at, ends_anchor, newer_before, older_before, first_field}
use Rattle.m2v_dec_batch.specs.Batches.{Batch, headers, no_rows, frame_at, frames_for}
use Rattle.m2v_dec_batch.specs.declared.at_hand.FramesThere.{FramesThere}
use Rattle.m2v_dec_batch.specs.Filled.{is_there, at_hand, top_there, bottom_there, backward_there, HasFields}

-- which of some frames are there
abbrev pub present : Option Samples → Option Samples → Option Samples → FramesThere
present older newer first = record { older = is_some older; newer = is_some newer; first = is_some first }

picked : (t : Bool) (x y : Option Samples) → is_some (cond t x y) ≡ cond t (is_some x) (is_some y)
picked true x y = refl
picked false x y = refl

picked_twice : (t s : Bool) (x y z : Option Samples) → is_some (cond t x (cond s y z)) ≡ cond t (is_some x) (cond s (is_some y) (is_some z))
picked_twice t s x y z = picked t x (cond s y z) ∙ ap (cond t (is_some x)) (picked s y z)

top_is : (r : Option Reading) (o n f : Option Samples) → is_some (forward_top r o n f) ≡ top_there r (present o n f)
top_is None o n f = refl
top_is (Some r) o n f = picked_twice (is_b r.kind) (r.second_field && not (nat_eq r.structure 1)) o f n

bottom_is : (r : Option Reading) (o n f : Option Samples) → is_some (forward_bottom r o n f) ≡ bottom_there r (present o n f)
bottom_is None o n f = refl
bottom_is (Some r) o n f = picked_twice (is_b r.kind) (r.second_field && nat_eq r.structure 1) o f n

backward_is : (r : Option Reading) (o n f : Option Samples) → is_some (backward_frame r n) ≡ backward_there r (present o n f)
backward_is None o n f = refl
backward_is (Some r) o n f = picked (is_b r.kind) n None

abbrev presence : Frames → FramesThere
presence f = present f.older f.newer f.first_field

-- each field that was decoded is there exactly if its frame is
by_presence : (decoded : List Bool) (f : Frames) → HasFields decoded f.reading (presence f) → HasReferences decoded f
by_presence decoded f h = record {
  top = λ t. top_is f.reading f.older f.newer f.first_field ∙ h.top t;
  bottom = λ t. bottom_is f.reading f.older f.newer f.first_field ∙ h.bottom t;
  back_top = λ t. backward_is f.reading f.older f.newer f.first_field ∙ h.back_top t;
  back_bottom = λ t. backward_is f.reading f.older f.newer f.first_field ∙ h.back_bottom t;
}

of_presence : (decoded : List Bool) (f : Frames) → HasReferences decoded f → HasFields decoded f.reading (presence f)
of_presence decoded f h = record {
  top = λ t. sym (top_is f.reading f.older f.newer f.first_field) ∙ h.top t;
  bottom = λ t. sym (bottom_is f.reading f.older f.newer f.first_field) ∙ h.bottom t;
  back_top = λ t. sym (backward_is f.reading f.older f.newer f.first_field) ∙ h.back_top t;
  back_bottom = λ t. sym (backward_is f.reading f.older f.newer f.first_field) ∙ h.back_bottom t;
}

-- ---- frames of a batch

there_is : (b : Batch) (x : FramePlace) → is_some (frame_at b no_rows x) ≡ is_there b x
unfolding frame_at is_there
there_is b Older = refl
there_is b Newer = refl
there_is b Waiting = refl
there_is b (Behind p) = refl

presence_is : (b : Batch) (p : ℕ) → presence (frames_for b no_rows p) ≡ at_hand b p
presence_is b p = λ i. record {
  older = there_is b (older_before (headers b) p) i;
  newer = there_is b (newer_before (headers b) p) i;
  first = there_is b (first_field p) i;
}

-- what a picture of a batch is predicted from is there
pub references_by : (b : Batch) (p : ℕ) (decoded : List Bool) → HasFields decoded (frames_for b no_rows p).reading (at_hand b p) → HasReferences decoded (frames_for b no_rows p)
references_by b p decoded h =
    let r = (frames_for b no_rows p).reading in
    by_presence decoded (frames_for b no_rows p) (subst (HasFields decoded r) (sym (presence_is b p)) h)

pub fields_by : (b : Batch) (p : ℕ) (decoded : List Bool) → HasReferences decoded (frames_for b no_rows p) → HasFields decoded (frames_for b no_rows p).reading (at_hand b p)
fields_by b p decoded h =
    let r = (frames_for b no_rows p).reading in
    subst (HasFields decoded r) (presence_is b p) (of_presence decoded (frames_for b no_rows p) h)

-- ---- one picture more

there_picked : (b : Batch) (t : Bool) (x y : FramePlace) → is_there b (cond t x y) ≡ cond t (is_there b x) (is_there b y)
there_picked b true x y = refl
there_picked b false x y = refl

behind_there : (b : Batch) (p : ℕ) → is_there b (Behind p) ≡ true
unfolding is_there
behind_there b p = refl

newer_more : (b : Batch) (p : ℕ) → (at_hand b (suc p)).newer ≡ cond (ends_anchor (header_at (headers b) p)) true (at_hand b p).newer
unfolding newer_before
newer_more b p =
    let t = ends_anchor (header_at (headers b) p) in
    there_picked b t (Behind p) (newer_before (headers b) p) ∙ ap (λ (s : Bool). cond t s (is_there b (newer_before (headers b) p))) (behind_there b p)

older_more : (b : Batch) (p : ℕ) → (at_hand b (suc p)).older ≡ cond (ends_anchor (header_at (headers b) p)) (at_hand b p).newer (at_hand b p).older
unfolding older_before
older_more b p = there_picked b (ends_anchor (header_at (headers b) p)) (newer_before (headers b) p) (older_before (headers b) p)

first_more : (b : Batch) (p : ℕ) → (at_hand b (suc p)).first ≡ true
unfolding first_field
first_more b p = behind_there b p

-- before the first picture
pub at_first : (b : Batch) (at : FramesThere) → at.older ≡ is_some b.older → at.newer ≡ is_some b.newer → at.first ≡ is_some b.waiting → at ≡ at_hand b 0
unfolding older_before newer_before first_field is_there
at_first b at o n f = λ i. record { older = o i; newer = n i; first = f i }

-- behind one picture more
pub at_next : (b : Batch) (p : ℕ) (before at : FramesThere) (h : Header) → before ≡ at_hand b p → h ≡ header_at (headers b) p → at.older ≡ cond (ends_anchor h) before.newer before.older
    → at.newer ≡ cond (ends_anchor h) true before.newer → at.first ≡ true → at ≡ at_hand b (p + 1)
at_next b p before at h e same o n f =
    let next : suc p ≡ p + 1 = omega arith in
    let older : at.older ≡ (at_hand b (suc p)).older = o ∙ (λ i. cond (ends_anchor (same i)) ((e i).newer) ((e i).older)) ∙ sym (older_more b p) in
    let newer : at.newer ≡ (at_hand b (suc p)).newer = n ∙ (λ i. cond (ends_anchor (same i)) true ((e i).newer)) ∙ sym (newer_more b p) in
    let first : at.first ≡ (at_hand b (suc p)).first = f ∙ sym (first_more b p) in
    (λ i. record { older = older i; newer = newer i; first = first i }) ∙ ap (at_hand b) next
