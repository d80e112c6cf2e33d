-- The views by which a row of a picture is read.
use Rattle.std.proofs.Common.{◌≡◌, ℕ, ◌<◌, Option, Some, sym, ap, subst, ◌∙◌}
use Rattle.std.specs.Prelude.{IsSome, slice_get, slice_index_or, false}
use Rattle.m2v_plane.specs.declared.dims.Dims.{Dims}
use Rattle.m2v_plane.specs.Samples.{Samples, blank}
use Rattle.m2v_plane.specs.Fields.{FieldFrames, HoldsLine, sample_at}
use Rattle.m2v_model.specs.Samples.{References}
use Rattle.m2v_dec_rows.specs.m2v_dec_picture.declared.gallery.Reading.{Reading}
use Rattle.m2v_dec_rows.specs.m2v_dec_picture.Conditions.{HoldsForward, HoldsBackward}
use Rattle.m2v_dec_rows.specs.m2v_dec_picture.Frames.{references_at, forward_top, forward_bottom, backward_frame}
use Rattle.m2v_dec_rows.specs.m2v_dec_picture.Reads.{seen_by}
use Rattle.m2v_dec_rows.proofs.m2v_dec_picture.FrameLaws.{references_are, shown, view_holds}
use Rattle.m2v_dec_rows.specs.Opened.{IsOpened, setup_of}
use Rattle.m2v_dec_batch.specs.declared.picture.BatchPicture.{BatchPicture}
use Rattle.m2v_dec_batch.specs.declared.picture.Header.{Header}
use Rattle.m2v_dec_batch.specs.declared.pieces.DecodePiece.{DecodePiece}
use Rattle.m2v_dec_batch.specs.Jobs.{header_at}
use Rattle.m2v_dec_batch.specs.Batches.{Batch, headers, reading_of, IsBatch}
use Rattle.m2v_dec_batch.specs.Values.{outcome_in, outcome_of}
use Rattle.m2v_dec_batch.specs.Works.{AreDecoded}
use Rattle.m2v_dec_batch.proofs.Sizes.{header_is, at_picture}

-- a picture of a batch, and views of the frames that it is predicted from
module _ (b : Batch) (p : ℕ) (x : BatchPicture) (h : IsBatch b) (is : slice_get b.pictures p ≡ Some x) where
  pub opened_is : IsOpened x.piece x.opened
  opened_is = at_picture (λ (y : BatchPicture). IsOpened y.piece y.opened) b p x h.opened is

  pub size_is : x.opened.dims ≡ b.dims
  size_is = at_picture (λ (y : BatchPicture). y.opened.dims ≡ b.dims) b p x h.sizes is

  pub row_is : (r : ℕ) → r < (header_at (headers b) p).rows → r < x.opened.rows
  row_is r lt = subst (λ (y : Header). r < y.rows) (header_is b p x is) lt

  pub blank_is : (row : Samples) → row ≡ blank b.dims 1 → row ≡ blank x.opened.dims 1
  blank_is row e = e ∙ ap (λ (d : Dims). blank d 1) (sym size_is)

  pub holds_forward : (o n f : Option Samples) (v : FieldFrames) (d : Dims) (r : Option Reading) → AreDecoded b p o n f → r ≡ reading_of (header_at (headers b) p) → d ≡ b.dims → v.dims ≡ d
      → v.top ≡ forward_top r o n f → v.bottom ≡ forward_bottom r o n f → HoldsForward (setup_of x.opened) v.dims (HoldsLine v)
  holds_forward o n f v d r decoded er ed ev et eb =
      let has = decoded x is in
      view_holds (setup_of x.opened) v (slice_index_or x.opened.references 0 false) (slice_index_or x.opened.references 1 false) (ev ∙ ed ∙ sym size_is)
      (λ e. subst IsSome (sym (et ∙ ap (λ (q : Option Reading). forward_top q o n f) er)) (has.top e))
      (λ e. subst IsSome (sym (eb ∙ ap (λ (q : Option Reading). forward_bottom q o n f) er)) (has.bottom e))

  pub holds_backward : (o n f : Option Samples) (v : FieldFrames) (d : Dims) (r : Option Reading) → AreDecoded b p o n f → r ≡ reading_of (header_at (headers b) p) → d ≡ b.dims → v.dims ≡ d
      → v.top ≡ backward_frame r n → v.bottom ≡ backward_frame r n → HoldsBackward (setup_of x.opened) v.dims (HoldsLine v)
  holds_backward o n f v d r decoded er ed ev et eb =
      let has = decoded x is in
      view_holds (setup_of x.opened) v (slice_index_or x.opened.references 2 false) (slice_index_or x.opened.references 3 false) (ev ∙ ed ∙ sym size_is)
      (λ e. subst IsSome (sym (et ∙ ap (λ (q : Option Reading). backward_frame q n) er)) (has.back_top e))
      (λ e. subst IsSome (sym (eb ∙ ap (λ (q : Option Reading). backward_frame q n) er)) (has.back_bottom e))

  -- what these views show are the references
  seen_is : (o n f : Option Samples) (v w : FieldFrames) (r : Option Reading) → r ≡ reading_of (header_at (headers b) p) → v.top ≡ forward_top r o n f → v.bottom ≡ forward_bottom r o n f
      → w.top ≡ backward_frame r n → w.bottom ≡ backward_frame r n → seen_by (sample_at v) (sample_at w) ≡ references_at (reading_of (header_at (headers b) p)) o n f
  seen_is o n f v w r er vt vb wt wb =
      (λ i. record { forward = shown (vt i) (vb i); backward = shown (wt i) (wb i) })
      ∙ sym (references_are r o n f)
      ∙ ap (λ (q : Option Reading). references_at q o n f) er

  pub row_read : (o n f : Option Samples) (v w : FieldFrames) (r : Option Reading) (k : ℕ) (result : DecodePiece) → r ≡ reading_of (header_at (headers b) p) → v.top ≡ forward_top r o n f → v.bottom ≡ forward_bottom r o n f
      → w.top ≡ backward_frame r n → w.bottom ≡ backward_frame r n → result ≡ outcome_in x (seen_by (sample_at v) (sample_at w)) k
      → result ≡ outcome_of (slice_get b.pictures p) (references_at (reading_of (header_at (headers b) p)) o n f) k
  unfolding outcome_of
  row_read o n f v w r k result er vt vb wt wb e =
      e
      ∙ ap (λ (z : References). outcome_in x z k) (seen_is o n f v w r er vt vb wt wb)
      ∙ ap (λ (y : Option BatchPicture). outcome_of y (references_at (reading_of (header_at (headers b) p)) o n f) k) (sym is)
