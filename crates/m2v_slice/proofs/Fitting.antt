-- Rows and caches are for frames of the settings' size.
use Rattle.std.proofs.Common.{◌≡◌, ℕ, zero, suc, ◌+◌, ◌-◌, ◌^◌, ◌<◌, ◌≤◌, length, get_or, refl, sym, ap, subst, ◌∙◌, arith, inl, inr}
use Rattle.std.specs.Prelude.{All, nat_eq, cond, slice_index, slice_set, List}
use Rattle.std.proofs.lemmas.Bool.{cases_eq, cond-true, cond-false, eq-eqb, ne_eqb}
use Rattle.std.proofs.lemmas.List.{length-set, get_or-set_same, get_or-set_other}
use Rattle.m2v_plane.specs.declared.dims.Dims.{Dims}
use Rattle.m2v_plane.specs.Samples.{Samples}
use Rattle.m2v_plane.specs.Fields.{no_samples}
use Rattle.m2v_set.specs.Numbers.{dims_of, mb_width_of}
use Rattle.m2v_set.proofs.Facts.{bounds}
use Rattle.m2v_rate.specs.declared.values.Plan.{Plan}
use Rattle.m2v_core.specs.Book.{cache_after}
use Rattle.m2v_slice.specs.Slices.{CodedSlice, most_bits_of}
use Rattle.m2v_slice.proofs.Whole.{slice_dims}
use Rattle.m2v_slice.specs.declared.pieces.EncodePiece.{EncodePiece}
use Rattle.m2v_slice.specs.declared.pieces.EncodePiece.TheVariants as piece
use Rattle.m2v_slice.specs.declared.pieces.EncodeShared.{EncodeShared}
use Rattle.m2v_slice.specs.declared.pieces.EncodeShared.TheVariants as part
use Rattle.m2v_slice.specs.Books.{Book, CodedPicture, rows, job_at, coded, picture_at, task_of, slice_at, picture_of_job, part_of_job, needs_of}
use Rattle.m2v_slice.specs.Cached.{Cached}
use Rattle.m2v_slice.specs.Conditions.{IsBook}
use Rattle.m2v_slice.specs.Jobs.{jobs_of, shared_of, with_plan, with_bits, with_row, learned_of, HasDims, IsSlicePart, FitsPiece, FitsShared, FitsCache}
use Rattle.m2v_slice.specs.Needs.{part_small, slice_few, needs_below}
use Rattle.m2v_slice.proofs.Coded.{slice_is}
use Rattle.m2v_slice.proofs.Groups.{source_size, passes_of}
use Rattle.m2v_slice.proofs.Learned.{IsSliceJob, slice_in, shared_plan, shared_slice}
use Rattle.m2v_slice.proofs.Rows.{job_picture}

-- ---- what is shared

source_of : (b : Book) (done : List CodedPicture) (p : ℕ) (plan : Plan) (r : ℕ)
    → (task_of b done p plan r).source ≡ get_or b.frames (job_at b p).frame no_samples
unfolding task_of
source_of b done p plan r = refl

pub slice_size : (b : Book) → IsBook b → (n p r : ℕ) → p < length b.pictures → p < n → r < rows b
    → (slice_at (coded b n) p r).row.dims ≡ dims_of b.settings
slice_size b h n p r lt small row =
    ap (λ (x : CodedSlice). x.row.dims) (slice_is b n p r small row)
    ∙ slice_dims (task_of b (coded b p) p (picture_at (coded b n) p).plan r)
    ∙ ap (λ (x : Samples). x.dims) (source_of b (coded b p) p (picture_at (coded b n) p).plan r)
    ∙ source_size b h p lt

plan_has : (d : Dims) (x : EncodeShared) (plan : _) (ledger : _) → x ≡ part.Plan plan ledger → HasDims d x
unfolding HasDims
plan_has d x plan ledger e = subst (HasDims d) (sym e) tt

slice_has : (d : Dims) (x : EncodeShared) (row : Samples) (bits work : ℕ) → x ≡ part.Slice row bits work → d ≡ row.dims → HasDims d x
unfolding HasDims
slice_has d x row bits work e same = subst (HasDims d) (sym e) same

pub shared_dims : (b : Book) → IsBook b → (j : ℕ) → j < jobs_of b → HasDims (dims_of b.settings) (shared_of b j)
shared_dims b h j lt = elim (cases_eq (part_of_job b j) 0) [
  | inl e ↦ plan_has (dims_of b.settings) (shared_of b j) _ _ (shared_plan b j e)
  | inr n ↦
      let p = picture_of_job b j in
      let r = part_of_job b j - 1 in
      slice_has (dims_of b.settings) (shared_of b j) (slice_in b j).row (length (slice_in b j).text) (slice_in b j).work (shared_slice b j n)
      (sym (slice_size b h (p + 1) p r (job_picture b j lt) (omega arith) (omega (arith, part_small b j, n))))
]

-- the part of a need
pub need_dims : (b : Book) → IsBook b → (j at : ℕ) (x : EncodeShared) → j < jobs_of b → at < length (needs_of b j)
    → x ≡ shared_of b (slice_index (needs_of b j) at) → HasDims (dims_of b.settings) x
need_dims b h j at x lt small e =
    let below : slice_index (needs_of b j) at < j = needs_below b j lt at 0 small in
    subst (HasDims (dims_of b.settings)) (sym e) (shared_dims b h (slice_index (needs_of b j) at) (omega (arith, below, lt)))

pub slice_needs_few : (b : Book) (j : ℕ) → IsSliceJob b j → length (needs_of b j) ≤ 13
unfolding needs_of
slice_needs_few b j n =
    let e = cond-false (nat_eq (part_of_job b j) 0) _ _ (ne_eqb (part_of_job b j) 0 n) in
    subst (λ (xs : List ℕ). length xs ≤ 13) (sym e) (omega (arith, slice_few b (picture_of_job b j) (part_of_job b j - 1)))

-- ---- caches

pub fits_plan : (b : Book) (x : EncodeShared) (c : Cached) → FitsCache b c → FitsCache b (with_plan x c)
unfolding with_plan
fits_plan b (part.Plan plan ledger) c h = record { room = h.room; size = h.size }
fits_plan b (part.Slice row bits work) c h = h

pub fits_bits : (b : Book) (x : EncodeShared) (c : Cached) → FitsCache b c → FitsCache b (with_bits x c)
unfolding with_bits
fits_bits b (part.Plan plan ledger) c h = h
fits_bits b (part.Slice row bits work) c h = record { room = h.room; size = h.size }

all_set : (d : Dims) (rows : List Samples) (k : ℕ) (row : Samples) → k < length rows → d ≡ row.dims
    → All (λ (x : Samples). x.dims ≡ d) rows → All (λ (x : Samples). x.dims ≡ d) (slice_set rows k row)
all_set d rows k row lt same each i e small = elim (cases_eq i k) [
  | inl is ↦ subst (λ n. (get_or (slice_set rows k row) n e).dims ≡ d) (sym is) (ap (λ (x : Samples). x.dims) (get_or-set_same rows k row e lt) ∙ sym same)
  | inr other ↦ ap (λ (x : Samples). x.dims) (get_or-set_other rows k i row e other) ∙ each i e (omega (arith, small, length-set rows k row))
]

pub fits_row : (b : Book) (k : ℕ) (x : EncodeShared) (c : Cached) → k < 12 → HasDims (dims_of b.settings) x → FitsCache b c → FitsCache b (with_row k x c)
unfolding with_row HasDims
fits_row b k (part.Plan plan ledger) c lt same h = h
fits_row b k (part.Slice row bits work) c lt same h = record {
  room = length-set c.rows k row ∙ h.room;
  size = all_set (dims_of b.settings) c.rows k row (omega (arith, lt, h.room)) same h.size;
}

pub row_dims : (b : Book) (k : ℕ) (x : EncodeShared) (c : Cached) → k < 12 → HasDims (dims_of b.settings) x → FitsCache b c
    → HasDims (get_or c.rows k no_samples).dims x
row_dims b k x c lt same h = subst (λ (d : Dims). HasDims d x) (sym (h.size k no_samples (omega (arith, lt, h.room)))) same

-- ---- learning by number

learned_zero : (b : Book) (j : ℕ) (x : EncodeShared) (c : Cached) → with_plan x c ≡ learned_of b j 0 x c
unfolding learned_of
learned_zero b j x c = refl

learned_suc : (b : Book) (j k : ℕ) (x : EncodeShared) (c : Cached)
    → learned_of b j (suc k) x c ≡ cond (nat_eq (part_of_job b j) 0) (with_bits x c) (with_row k x c)
unfolding learned_of
learned_suc b j k x c = refl

pub learned_first : (b : Book) (j at : ℕ) (x : EncodeShared) (c : Cached) → at ≡ 0 → with_plan x c ≡ learned_of b j at x c
learned_first b j at x c e = subst (λ n. with_plan x c ≡ learned_of b j n x c) (sym e) (learned_zero b j x c)

pub learned_bits : (b : Book) (j at : ℕ) (x : EncodeShared) (c : Cached) → (at ≡ 0 → ⊥) → part_of_job b j ≡ 0 → with_bits x c ≡ learned_of b j at x c
learned_bits b j at x c n is =
    let e : at ≡ suc (at - 1) = omega arith in
    sym (ap (λ i. learned_of b j i x c) e ∙ learned_suc b j (at - 1) x c
    ∙ cond-true (nat_eq (part_of_job b j) 0) (with_bits x c) (with_row (at - 1) x c) (eq-eqb (part_of_job b j) 0 is))

pub learned_row : (b : Book) (j at : ℕ) (x : EncodeShared) (c : Cached) → (at ≡ 0 → ⊥) → IsSliceJob b j → with_row (at - 1) x c ≡ learned_of b j at x c
learned_row b j at x c n is =
    let e : at ≡ suc (at - 1) = omega arith in
    sym (ap (λ i. learned_of b j i x c) e ∙ learned_suc b j (at - 1) x c
    ∙ cond-false (nat_eq (part_of_job b j) 0) (with_bits x c) (with_row (at - 1) x c) (ne_eqb (part_of_job b j) 0 is))

-- ---- sharing

pub shared_slice_fits : (b : Book) (j : ℕ) (x : EncodeShared) → (part_of_job b j ≡ 0 → ⊥) → FitsShared b j x → IsSlicePart x × HasDims (dims_of b.settings) x
unfolding FitsShared IsSlicePart HasDims
shared_slice_fits b j (part.Plan plan ledger) n h = absurd (n h)
shared_slice_fits b j (part.Slice row bits work) n h = (tt, sym h.1)

pub piece_slice_fits : (b : Book) (j : ℕ) (x : EncodePiece) (slice : CodedSlice) → x ≡ piece.Slice slice → FitsPiece b j x
    → (part_of_job b j ≡ 0 → ⊥) × (slice.row.dims ≡ dims_of b.settings) × (length slice.text ≤ most_bits_of (mb_width_of b.settings))
unfolding FitsPiece
piece_slice_fits b j x slice e h = subst (FitsPiece b j) e h

pub text_small : (b : Book) → IsBook b → (n : ℕ) → n ≤ most_bits_of (mb_width_of b.settings) → n < 2 ^ 32
text_small b h n le =
    let size = (bounds b.settings (passes_of b h)).size in
    omega (arith, le, size.width)

-- ---- a cache fits also once needs are learned

step_fits : (b : Book) → IsBook b → (j at : ℕ) (c : Cached) → j < jobs_of b → at < length (needs_of b j) → FitsCache b c
    → FitsCache b (learned_of b j at (shared_of b (slice_index (needs_of b j) at)) c)
step_fits b h j at c lt small fits =
    let x = shared_of b (slice_index (needs_of b j) at) in
    let dims = need_dims b h j at x lt small refl in
    elim (cases_eq at 0) [
      | inl e ↦ subst (FitsCache b) (learned_first b j at x c e) (fits_plan b x c fits)
      | inr n ↦ elim (cases_eq (part_of_job b j) 0) [
        | inl plan ↦ subst (FitsCache b) (learned_bits b j at x c n plan) (fits_bits b x c fits)
        | inr slice ↦ subst (FitsCache b) (learned_row b j at x c n slice) (fits_row b (at - 1) x c (omega (arith, n, small, slice_needs_few b j slice)) dims fits)
      ]
    ]

pub after_fits : (b : Book) → IsBook b → (j n : ℕ) (c : Cached) → j < jobs_of b → n ≤ length (needs_of b j) → FitsCache b c
    → FitsCache b (cache_after (learned_of b j) (shared_of b) (needs_of b j) n c)
unfolding cache_after
after_fits b h j zero c lt le fits = fits
after_fits b h j (suc n) c lt le fits =
    step_fits b h j n (cache_after (learned_of b j) (shared_of b) (needs_of b j) n c) lt (omega arith) (after_fits b h j n c lt (omega arith) fits)
