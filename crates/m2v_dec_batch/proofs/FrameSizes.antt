-- The size of a frame with rows set, and where rows lie in it.
use Rattle.std.proofs.Common.{◌≡◌, ℕ, zero, suc, ◌+◌, ◌*◌, ◌/◌, ◌<◌, ◌≤◌, Bool, true, false, cond, length, Option, Some, None, refl, sym, ap, subst, ◌∙◌, arith, inl, inr}
use Rattle.std.specs.Prelude.{IfSome, IsSome, nat_eq, slice_get}
use Rattle.std.proofs.lemmas.Option.{slice_get_cases}
use Rattle.m2v_plane.specs.declared.dims.Dims.{Dims}
use Rattle.m2v_plane.specs.declared.planes.Lines.TheVariants.{Whole, Top, Bottom}
use Rattle.m2v_plane.specs.Sizes.{part_of}
use Rattle.m2v_plane.specs.Samples.{Samples, blank}
use Rattle.m2v_plane.specs.Fields.{or_none}
use Rattle.m2v_pred.specs.Motion.{own_lines}
use Rattle.m2v_dec_rows.specs.Opened.{IsOpened}
use Rattle.m2v_dec_batch.specs.declared.picture.BatchPicture.{BatchPicture}
use Rattle.m2v_dec_batch.specs.declared.picture.Header.{Header}
use Rattle.m2v_dec_batch.specs.Jobs.{header_at, first_job}
use Rattle.m2v_dec_batch.specs.Batches.{Batch, headers, header_of, Rows, with_own, rows_set, begun, frame_behind, IsBatch}
use Rattle.m2v_dec_batch.proofs.Sizes.{header_is, count_is, no_picture, at_picture}

pub rows_size : (h : Header) (at : Rows) (from n : ℕ) (frame : Samples) → (rows_set h at from n frame).dims ≡ frame.dims
unfolding rows_set
rows_size h at from zero frame = refl
rows_size h at from (suc n) frame = own_size (at (from + n)) (rows_set h at from n frame) ∙ rows_size h at from n frame
  where
    own_size : (o : Option Samples) (f : Samples) → (with_own h n o f).dims ≡ f.dims
    own_size None f = refl
    own_size (Some xs) f = refl

some_size : (o : Option Samples) (d : Dims) → IsSome o → IfSome o (λ f. f.dims ≡ d) → (or_none o).dims ≡ d
some_size (Some x) d is e = e
some_size None d is e = absurd cc

-- the frame behind a picture has the batch's size
pub behind_size : (b : Batch) (at : Rows) (p : ℕ) → IsBatch b → (frame_behind b at p).dims ≡ b.dims
unfolding frame_behind
behind_size b at zero h =
    rows_size (header_at (headers b) 0) at (first_job (headers b) 0) (header_at (headers b) 0).rows (begun b zero (or_none b.waiting))
    ∙ by_second (header_at (headers b) 0).second refl
  where
    by_second : (t : Bool) → (header_at (headers b) 0).second ≡ t → (cond t (or_none b.waiting) (blank b.dims b.dims.mb_rows)).dims ≡ b.dims
    by_second true e = some_size b.waiting b.dims (h.first e) h.waiting
    by_second false e = refl
behind_size b at (suc p) h =
    rows_size (header_at (headers b) (suc p)) at (first_job (headers b) (suc p)) (header_at (headers b) (suc p)).rows (begun b (suc p) (frame_behind b at p))
    ∙ by_second (header_at (headers b) (suc p)).second (frame_behind b at p) (behind_size b at p h)
  where
    by_second : (t : Bool) (f : Samples) → f.dims ≡ b.dims → (cond t f (blank b.dims b.dims.mb_rows)).dims ≡ b.dims
    by_second true f e = e
    by_second false f e = refl

part_fits : (t u : Bool) (r rows high : ℕ) → rows ≡ cond t high (high / 2) → r < rows → 16 * r + 16 ≤ part_of (cond t Whole (cond u Bottom Top)) (16 * high)
part_fits true u r rows high e lt = omega (arith, e, lt)
part_fits false true r rows high e lt = omega (arith, e, lt)
part_fits false false r rows high e lt = omega (arith, e, lt)

row_in_picture : (b : Batch) (x : BatchPicture) (r high : ℕ) → (header_of x).rows ≡ cond (nat_eq (header_of x).structure 3) high (high / 2) → r < (header_of x).rows → 16 * r + 16 ≤ part_of (own_lines (header_of x).structure) (16 * high)
row_in_picture b x r high e lt = part_fits (nat_eq (header_of x).structure 3) (nat_eq (header_of x).structure 2) r (header_of x).rows high e lt

-- a picture has the rows of the frame, or of a field of it
rows_are : (b : Batch) (p : ℕ) (x : BatchPicture) → IsBatch b → slice_get b.pictures p ≡ Some x → (header_of x).rows ≡ cond (nat_eq (header_of x).structure 3) b.dims.mb_rows (b.dims.mb_rows / 2)
rows_are b p x h is =
    let opened = at_picture (λ (y : BatchPicture). IsOpened y.piece y.opened) b p x h.opened is in
    let size = ap (λ (d : Dims). d.mb_rows) (at_picture (λ (y : BatchPicture). y.opened.dims ≡ b.dims) b p x h.sizes is) in
    subst (λ (n : ℕ). (header_of x).rows ≡ cond (nat_eq (header_of x).structure 3) n (n / 2)) size opened.rows

-- a row of a picture lies in a frame
pub row_fits : (b : Batch) (p r : ℕ) → IsBatch b → r < (header_at (headers b) p).rows → 16 * r + 16 ≤ part_of (own_lines (header_at (headers b) p).structure) (16 * b.dims.mb_rows)
row_fits b p r h lt = elim ((slice_get_cases b.pictures p).1) [
  | inl x ↦
      let is = header_is b p x.0 x.2 in
      let rows = rows_are b p x.0 h x.2 in
      subst (λ (y : Header). r < y.rows → 16 * r + 16 ≤ part_of (own_lines y.structure) (16 * b.dims.mb_rows)) (sym is) (row_in_picture b x.0 r b.dims.mb_rows rows) lt
  | inr e ↦ absurd (omega (arith, lt, ap (λ (y : Header). y.rows) (no_picture b p e.0)))
]

few_rows : (t : Bool) (rows high : ℕ) → rows ≡ cond t high (high / 2) → rows ≡ 0 → high ≤ 1
few_rows true rows high e none = omega (arith, e, none)
few_rows false rows high e none = omega (arith, e, none)

-- a picture has no rows only where frames have one row, and it is a field
pub one_row : (b : Batch) (p : ℕ) → IsBatch b → p < length (headers b) → (header_at (headers b) p).rows ≡ 0 → b.dims.mb_rows ≡ 1
one_row b p h lt none = elim ((slice_get_cases b.pictures p).1) [
  | inl x ↦
      let is = header_is b p x.0 x.2 in
      let rows = rows_are b p x.0 h x.2 in
      omega (arith, few_rows (nat_eq (header_of x.0).structure 3) (header_of x.0).rows b.dims.mb_rows rows (sym (ap (λ (y : Header). y.rows) is) ∙ none), h.size.tall, h.size.covered)
  | inr e ↦ absurd (omega (arith, lt, e.0, count_is b))
]
