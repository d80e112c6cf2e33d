-- The frame behind a picture, by the rows that are at hand.
use Rattle.std.proofs.Common.{◌≡◌, ℕ, zero, suc, ◌+◌, ◌<◌, ◌≤◌, true, false, refl, sym, ap, ◌∙◌, arith, inl, inr}
use Rattle.std.proofs.lemmas.Bool.{cases_Bool, cond-true, cond-false}
use Rattle.m2v_plane.specs.Samples.{Samples, blank}
use Rattle.m2v_plane.specs.Fields.{or_none}
use Rattle.m2v_dec_batch.specs.Jobs.{Headers, header_at, first_job, frame_begin, frame_from}
use Rattle.m2v_dec_batch.specs.Batches.{Batch, headers, Rows, all_set, begun, frame_behind, IsBatch}
use Rattle.m2v_dec_batch.specs.Below.{first_more}
use Rattle.m2v_dec_batch.proofs.Setting.{rows_same}

-- the frame of the picture's first field, if it is a second one
first_of : Batch → Rows → ℕ → Samples
first_of b at zero = or_none b.waiting
first_of b at (suc p) = frame_behind b at p

behind_is : (b : Batch) (at : Rows) (p : ℕ) → frame_behind b at p ≡ all_set b at p (begun b p (first_of b at p))
unfolding frame_behind first_of
behind_is b at zero = refl
behind_is b at (suc p) = refl

-- rows at hand that agree on the jobs from one to another
abbrev pub AgreeOn : Rows → Rows → ℕ → ℕ → Type 0
AgreeOn at now from end = (j : ℕ) → from ≤ j → j < end → at j ≡ now j

own_same : (b : Batch) (at now : Rows) (p : ℕ) (frame : Samples) → AgreeOn at now (first_job (headers b) p) (first_job (headers b) (suc p)) → all_set b at p frame ≡ all_set b now p frame
own_same b at now p frame agree =
    let hs = headers b in
    rows_same (header_at hs p) at now (first_job hs p) (header_at hs p).rows frame
    (λ k lt. agree (first_job hs p + k) (omega arith) (omega (arith, lt, first_more hs p)))

pub begun_is : (b : Batch) (p : ℕ) (first : Samples) → (header_at (headers b) p).second ≡ false → begun b p first ≡ blank b.dims b.dims.mb_rows
begun_is b p first e = cond-false (header_at (headers b) p).second first (blank b.dims b.dims.mb_rows) e

pub begun_second : (b : Batch) (p : ℕ) (first : Samples) → (header_at (headers b) p).second ≡ true → begun b p first ≡ first
begun_second b p first e = cond-true (header_at (headers b) p).second first (blank b.dims b.dims.mb_rows) e

-- a picture that begins its frame
first_same : (b : Batch) (at now : Rows) (p : ℕ) → (header_at (headers b) p).second ≡ false → AgreeOn at now (first_job (headers b) p) (first_job (headers b) (suc p))
    → frame_behind b at p ≡ frame_behind b now p
first_same b at now p e agree =
    behind_is b at p
    ∙ ap (all_set b at p) (begun_is b p (first_of b at p) e)
    ∙ own_same b at now p (blank b.dims b.dims.mb_rows) agree
    ∙ ap (all_set b now p) (sym (begun_is b p (first_of b now p) e))
    ∙ sym (behind_is b now p)

pub from_first : (hs : Headers) (p : ℕ) → (header_at hs p).second ≡ false → frame_from hs p ≡ first_job hs p
unfolding frame_begin
from_first hs zero e = refl
from_first hs (suc p) e = ap (first_job hs) (cond-false (header_at hs (suc p)).second p (suc p) e)

pub from_second : (hs : Headers) (p : ℕ) → (header_at hs (suc p)).second ≡ true → frame_from hs (suc p) ≡ first_job hs p
unfolding frame_begin
from_second hs p e = ap (first_job hs) (cond-true (header_at hs (suc p)).second p (suc p) e)

second_same : (b : Batch) (at now : Rows) (p : ℕ) → IsBatch b → (header_at (headers b) p).second ≡ true → AgreeOn at now (frame_from (headers b) p) (first_job (headers b) (suc p))
    → frame_behind b at p ≡ frame_behind b now p
unfolding frame_behind frame_begin
second_same b at now zero h e agree = own_same b at now zero (begun b zero (or_none b.waiting)) agree
second_same b at now (suc p) h e agree =
    let hs = headers b in
    let from = from_second hs p e in
    let first = first_same b at now p (h.pairs p e).is_first (λ j le lt. agree j (omega (arith, le, from)) (omega (arith, lt, first_more hs (suc p)))) in
    own_same b at now (suc p) (begun b (suc p) (frame_behind b at p)) (λ j le lt. agree j (omega (arith, le, from, first_more hs p)) lt)
    ∙ ap (λ (f : Samples). all_set b now (suc p) (begun b (suc p) f)) first

-- the frame behind a picture goes by its rows alone
pub frame_same : (b : Batch) (at now : Rows) (p : ℕ) → IsBatch b → AgreeOn at now (frame_from (headers b) p) (first_job (headers b) (suc p)) → frame_behind b at p ≡ frame_behind b now p
frame_same b at now p h agree = elim (cases_Bool (header_at (headers b) p).second) [
  | inl e ↦ second_same b at now p h e agree
  | inr e ↦ first_same b at now p e (λ j le lt. agree j (omega (arith, le, from_first (headers b) p e)) lt)
]
