-- The frame behind a picture, before any of its rows is at hand.
use Rattle.std.proofs.Common.{◌≡◌, ℕ, zero, suc, Bool, true, false, cond, Some, refl, ap, ◌∙◌, ◌<◌, sym, arith}
use Rattle.std.specs.Prelude.{IfOk, Result, Ok, Err}
use Rattle.std.proofs.lemmas.Bool.{cond-true, cond-false}
use Rattle.m2v_plane.specs.Samples.{Samples, blank}
use Rattle.m2v_plane.specs.Fields.{or_none}
use Rattle.m2v_dec_batch.specs.declared.picture.Header.{Header}
use Rattle.m2v_dec_batch.specs.Jobs.{header_at, first_job}
use Rattle.m2v_dec_batch.specs.Batches.{Batch, headers, Rows, no_rows, rows_set, all_set, begun, frame_behind, IsBatch}
use Rattle.m2v_dec_batch.proofs.FrameRows.{begun_is, begun_second}

pub none_set : (h : Header) (from n : ℕ) (frame : Samples) → rows_set h no_rows from n frame ≡ frame
unfolding rows_set
none_set h from zero frame = refl
none_set h from (suc n) frame = none_set h from n frame

-- the frame of a first field that waits
pub waiting_behind : (b : Batch) (f : Samples) → (header_at (headers b) 0).second ≡ true → b.waiting ≡ Some f → frame_behind b no_rows 0 ≡ f
unfolding frame_behind
waiting_behind b f second e =
    let hs = headers b in
    none_set (header_at hs 0) (first_job hs 0) (header_at hs 0).rows (begun b 0 (or_none b.waiting))
    ∙ cond-true (header_at hs 0).second (or_none b.waiting) (blank b.dims b.dims.mb_rows) second
    ∙ ap or_none e

begun_blank : (b : Batch) (p : ℕ) (first : Samples) → ((header_at (headers b) p).second ≡ true → first ≡ blank b.dims b.dims.mb_rows) → begun b p first ≡ blank b.dims b.dims.mb_rows
begun_blank b p first h = by_second (header_at (headers b) p).second refl
  where
    by_second : (t : Bool) → (header_at (headers b) p).second ≡ t → cond t first (blank b.dims b.dims.mb_rows) ≡ blank b.dims b.dims.mb_rows
    by_second true e = h e
    by_second false e = refl

pub first_behind : (b : Batch) (p : ℕ) → (header_at (headers b) p).second ≡ false → frame_behind b no_rows p ≡ blank b.dims b.dims.mb_rows
unfolding frame_behind
first_behind b zero e =
    let hs = headers b in
    none_set (header_at hs 0) (first_job hs 0) (header_at hs 0).rows (begun b 0 (or_none b.waiting))
    ∙ cond-false (header_at hs 0).second (or_none b.waiting) (blank b.dims b.dims.mb_rows) e
first_behind b (suc p) e =
    let hs = headers b in
    none_set (header_at hs (suc p)) (first_job hs (suc p)) (header_at hs (suc p)).rows (begun b (suc p) (frame_behind b no_rows p))
    ∙ cond-false (header_at hs (suc p)).second (frame_behind b no_rows p) (blank b.dims b.dims.mb_rows) e

-- any other frame is blank
pub blank_behind : (b : Batch) (p : ℕ) → IsBatch b → (p ≡ 0 → ⊥) → frame_behind b no_rows p ≡ blank b.dims b.dims.mb_rows
unfolding frame_behind
blank_behind b zero h other = absurd (other refl)
blank_behind b (suc p) h other =
    let hs = headers b in
    none_set (header_at hs (suc p)) (first_job hs (suc p)) (header_at hs (suc p)).rows (begun b (suc p) (frame_behind b no_rows p))
    ∙ begun_blank b (suc p) (frame_behind b no_rows p) (λ e. first_behind b p (h.pairs p e).is_first)

-- ---- all rows at hand

-- a picture that begins its frame in the batch
pub begun_all : (b : Batch) (at : Rows) (p : ℕ) → (0 < p → (header_at (headers b) p).second ≡ false) → all_set b at p (frame_behind b no_rows p) ≡ frame_behind b at p
unfolding frame_behind
begun_all b at zero first =
    let hs = headers b in
    ap (all_set b at 0) (none_set (header_at hs 0) (first_job hs 0) (header_at hs 0).rows (begun b 0 (or_none b.waiting)))
begun_all b at (suc p) first =
    let e = first (omega arith) in
    ap (all_set b at (suc p)) (first_behind b (suc p) e ∙ sym (begun_is b (suc p) (frame_behind b at p) e))

-- a second field
pub behind_second : (b : Batch) (at : Rows) (p : ℕ) → (header_at (headers b) (suc p)).second ≡ true → all_set b at (suc p) (frame_behind b at p) ≡ frame_behind b at (suc p)
unfolding frame_behind
behind_second b at p e = ap (all_set b at (suc p)) (sym (begun_second b (suc p) (frame_behind b at p) e))

-- ---- results

pub ok_as : {A E : Type 0} (r : Result A E) (x y : A) → x ≡ y → IfOk r (λ f. f ≡ x) → IfOk r (λ f. f ≡ y)
ok_as (Ok f) x y e h = h ∙ e
ok_as (Err f) x y e h = tt
