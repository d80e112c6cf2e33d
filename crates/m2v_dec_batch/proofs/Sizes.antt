-- How many rows the pictures of a batch have.
use Rattle.std.proofs.Common.{◌≡◌, ℕ, zero, suc, ◌+◌, ◌-◌, ◌/◌, ◌<◌, ◌≤◌, true, false, cond, length, get_or, Some, refl, sym, ap, subst, ◌∙◌, arith, inl, inr}
use Rattle.std.specs.Prelude.{All, nat_le, nat_eq, slice_get}
use Rattle.std.specs.List.{range_with_len}
use Rattle.std.proofs.lemmas.Bool.{cases_lt, cond_both, cond-true, cond-false, cases_Bool, le-leb, eqb-true, leb-true, leb-false}
use Rattle.std.proofs.lemmas.List.{length-map, get_or-map, get_or_past}
use Rattle.std.proofs.lemmas.List.Sums.{list_all-from_AllPass}
use Rattle.std.proofs.lemmas.Option.{slice_get_cases, get_or_from_slice_get, slice_get_within}
use Rattle.m2v_dec_rows.specs.Opened.{IsOpened}
use Rattle.m2v_dec_batch.specs.declared.picture.BatchPicture.{BatchPicture}
use Rattle.m2v_dec_batch.specs.declared.picture.Header.{Header}
use Rattle.m2v_dec_batch.specs.Jobs.{Headers, no_header, header_at, first_job, picture_among, frame_begin, frame_count, are_small, jobs_of}
use Rattle.m2v_dec_batch.specs.Batches.{Batch, headers, header_of, IsBatch}
use Rattle.m2v_dec_batch.specs.Below.{first_more, first_none, first_upto, picture_upto}

-- ---- headers

pub header_is : (b : Batch) (p : ℕ) (x : BatchPicture) → slice_get b.pictures p ≡ Some x → header_at (headers b) p ≡ header_of x
header_is b p x e =
    get_or-map header_of b.pictures p x no_header (slice_get_within b.pictures p x e) ∙ ap header_of (get_or_from_slice_get b.pictures p x x e)

pub count_is : (b : Batch) → length (headers b) ≡ length b.pictures
count_is b = length-map b.pictures header_of

pub no_picture : (b : Batch) (p : ℕ) → length b.pictures ≤ p → header_at (headers b) p ≡ no_header
no_picture b p le = get_or_past (headers b) p no_header (omega (arith, le, count_is b))

-- what holds of each picture holds of this one
pub at_picture : (P : BatchPicture → Type 0) (b : Batch) (p : ℕ) (x : BatchPicture) → All P b.pictures → slice_get b.pictures p ≡ Some x → P x
at_picture P b p x each e = subst P (get_or_from_slice_get b.pictures p x x e) (each p x (slice_get_within b.pictures p x e))

-- ---- rows

-- at most 72, and of a field half as many
pub record AreRows (h : Header) : Type 0 where
  pub most : h.rows ≤ 72
  pub field : h.structure ≤ 2 → h.rows ≤ 36

rows_by : (structure rows high : ℕ) → high ≤ 72 → rows ≡ cond (nat_eq structure 3) high (high / 2) → AreRows (record { kind = 1; second = false; structure = structure; rows = rows })
rows_by structure rows high small e = elim (cases_Bool (nat_eq structure 3)) [
  | inl t ↦ record {
    most = omega (arith, small, e, cond-true (nat_eq structure 3) high (high / 2) t);
    field = λ le. absurd (omega (arith, le, eqb-true structure 3 t));
  }
  | inr f ↦
      let half = e ∙ cond-false (nat_eq structure 3) high (high / 2) f in
      record { most = omega (arith, small, half); field = λ le. omega (arith, small, half) }
]

rows_opened : (x : BatchPicture) → IsOpened x.piece x.opened → AreRows (header_of x)
rows_opened x h =
    let r = rows_by x.opened.context.extension.structure x.opened.rows x.opened.dims.mb_rows h.setup.size.mb_rows h.rows in
    record { most = r.most; field = r.field }

pub rows_are : (b : Batch) (p : ℕ) → IsBatch b → AreRows (header_at (headers b) p)
rows_are b p h = elim ((slice_get_cases b.pictures p).1) [
  | inl x ↦ subst AreRows (sym (header_is b p x.0 x.2)) (rows_opened x.0 (at_picture (λ (y : BatchPicture). IsOpened y.piece y.opened) b p x.0 h.opened x.2))
  | inr e ↦ subst AreRows (sym (no_picture b p e.0)) (record { most = omega arith; field = λ le. omega arith })
]

-- ---- jobs

begin_is : (hs : Headers) (q : ℕ) → frame_begin hs (suc q) ≡ cond (header_at hs (suc q)).second q (suc q)
unfolding frame_begin
begin_is hs q = refl

begin_none : (hs : Headers) → frame_begin hs 0 ≡ 0
unfolding frame_begin
begin_none hs = refl

pair_small : (b : Batch) (q : ℕ) → IsBatch b → (header_at (headers b) (suc q)).second ≡ true → (header_at (headers b) q).rows + (header_at (headers b) (suc q)).rows ≤ 72
pair_small b q h second =
    omega (arith, (rows_are b (suc q) h).field (h.field (suc q) second), (rows_are b q h).field (h.pairs q second).is_field)

-- a frame has at most 72 rows
pub frame_fits : (b : Batch) (q : ℕ) → IsBatch b → frame_count (headers b) q ≤ 72
frame_fits b zero h =
    let hs = headers b in
    omega (arith, first_more hs 0, (rows_are b 0 h).most, ap (first_job hs) (begin_none hs))
frame_fits b (suc q) h = elim (cases_Bool (header_at (headers b) (suc q)).second) [
  | inl e ↦
      let hs = headers b in
      let from = ap (first_job hs) (begin_is hs q ∙ cond-true (header_at hs (suc q)).second q (suc q) e) in
      omega (arith, from, first_more hs (suc q), first_more hs q, pair_small b q h e)
  | inr e ↦
      let hs = headers b in
      let from = ap (first_job hs) (begin_is hs q ∙ cond-false (header_at hs (suc q)).second q (suc q) e) in
      omega (arith, from, first_more hs (suc q), (rows_are b (suc q) h).most)
]

small : (b : Batch) → IsBatch b → are_small (headers b) ≡ true
small b h =
    let hs = headers b in
    list_all-from_AllPass (λ q. nat_le (frame_count hs q) 72) (range_with_len 0 (length hs))
    (λ k d lt. le-leb _ 72 (frame_fits b (get_or (range_with_len 0 (length hs)) k d) h))

-- a batch has a job for each row
pub jobs_are : (b : Batch) → IsBatch b → jobs_of (headers b) ≡ first_job (headers b) (length (headers b))
unfolding jobs_of
jobs_are b h = cond-true (are_small (headers b)) (first_job (headers b) (length (headers b))) 0 (small b h)

-- ---- the picture of a job

at_place : (hs : Headers) (n p j : ℕ) → p < suc n → first_job hs n ≤ j → j < first_job hs (suc p) → n ≡ p
at_place hs n p j lt le small = elim (cases_lt p n) [
  | inl below ↦ absurd (omega (arith, first_upto hs (suc p) n (omega (arith, below)), le, small))
  | inr over ↦ omega (arith, over, lt)
]

before_place : (hs : Headers) (n p j : ℕ) → j < first_job hs n → first_job hs p ≤ j → p < n
before_place hs n p j lt le = elim (cases_lt p n) [
  | inl below ↦ below
  | inr over ↦ absurd (omega (arith, first_upto hs n p over, le, lt))
]

-- a job is of the picture among whose jobs it is
pub picture_found : (hs : Headers) (n p j : ℕ) → p < n → first_job hs p ≤ j → j < first_job hs (suc p) → picture_among hs n j ≡ p
unfolding picture_among
picture_found hs zero p j lt le small = absurd (omega arith)
picture_found hs (suc n) p j lt le small = elim (cases_Bool (nat_le (first_job hs n) j)) [
  | inl e ↦ cond-true (nat_le (first_job hs n) j) n (picture_among hs n j) e ∙ at_place hs n p j lt (leb-true (first_job hs n) j e) small
  | inr e ↦
      cond-false (nat_le (first_job hs n) j) n (picture_among hs n j) e
      ∙ picture_found hs n p j (before_place hs n p j (leb-false (first_job hs n) j e) le) le small
]

-- a job is among those of its picture
pub job_within : (hs : Headers) (n j : ℕ) → j < first_job hs n → j < first_job hs (suc (picture_among hs n j))
unfolding picture_among
job_within hs zero j lt = absurd (omega (arith, lt, first_none hs))
job_within hs (suc n) j lt =
    cond_both (nat_le (first_job hs n) j) n (picture_among hs n j) (λ p. j < first_job hs (suc p)) (λ e. lt) (λ e. job_within hs n j (leb-false (first_job hs n) j e))

-- one picture more
pub first_next : (hs : Headers) (p : ℕ) → first_job hs (p + 1) ≡ first_job hs p + (header_at hs p).rows
first_next hs p = ap (first_job hs) (let e : p + 1 ≡ suc p = omega arith in e) ∙ first_more hs p

-- the row of a job is one of its picture
pub row_within : (hs : Headers) (j : ℕ) → j < first_job hs (length hs) → j - first_job hs (picture_among hs (length hs) j) < (header_at hs (picture_among hs (length hs) j)).rows
row_within hs j lt =
    let p = picture_among hs (length hs) j in
    omega (arith, job_within hs (length hs) j lt, first_more hs p, picture_upto hs (length hs) j)

pub batch_jobs : (b : Batch) → IsBatch b → jobs_of (headers b) ≡ first_job (headers b) (length b.pictures)
batch_jobs b h = jobs_are b h ∙ ap (first_job (headers b)) (count_is b)
