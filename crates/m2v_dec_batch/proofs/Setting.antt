-- Rows set into a frame.
use Rattle.std.proofs.Common.{◌≡◌, ℕ, zero, suc, ◌+◌, ◌<◌, Option, refl, sym, ap, ◌∙◌, arith}
use Rattle.m2v_plane.specs.Samples.{Samples, plane_by}
use Rattle.m2v_plane.proofs.Places.{plane_is}
use Rattle.m2v_plane.proofs.RawVideo.{length-plane_by, plane_at}
use Rattle.m2v_dec_batch.specs.declared.picture.Header.{Header}
use Rattle.m2v_dec_batch.specs.Batches.{Rows, with_own, rows_set}

-- planes whose samples are the same
pub planes_same : (lines columns : ℕ) (f g : ℕ → ℕ → ℕ) → ((r c : ℕ) → r < lines → c < columns → f r c ≡ g r c) → plane_by lines columns f ≡ plane_by lines columns g
planes_same lines columns f g each =
    plane_is (plane_by lines columns f) lines columns g (length-plane_by lines columns f) (λ r c lt small. plane_at lines columns f r c lt small ∙ each r c lt small)

-- ---- the rows of a picture

pub none_set : (h : Header) (at : Rows) (from : ℕ) (frame : Samples) → rows_set h at from 0 frame ≡ frame
unfolding rows_set
none_set h at from frame = refl

pub one_set : (h : Header) (at : Rows) (from n : ℕ) (frame : Samples) → rows_set h at from (suc n) frame ≡ with_own h n (at (from + n)) (rows_set h at from n frame)
unfolding rows_set
one_set h at from n frame = refl

-- rows that are the same make the same frame
pub rows_same : (h : Header) (at now : Rows) (from n : ℕ) (frame : Samples) → ((k : ℕ) → k < n → at (from + k) ≡ now (from + k)) → rows_set h at from n frame ≡ rows_set h now from n frame
rows_same h at now from zero frame each = none_set h at from frame ∙ sym (none_set h now from frame)
rows_same h at now from (suc n) frame each =
    one_set h at from n frame
    ∙ ap (λ (o : Option Samples). with_own h n o (rows_set h at from n frame)) (each n (omega arith))
    ∙ ap (with_own h n (now (from + n))) (rows_same h at now from n frame (λ k lt. each k (omega (arith, lt))))
    ∙ sym (one_set h now from n frame)
