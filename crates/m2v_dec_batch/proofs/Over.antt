-- A frame over which the rows of its pictures are set one behind another.
use Rattle.std.proofs.Common.{◌≡◌, ℕ, zero, suc, ◌+◌, ◌-◌, ◌/◌, ◌<◌, ◌≤◌, true, false, length, Option, Some, refl, sym, ap, ◌∙◌, arith, inl, inr}
use Rattle.std.specs.Prelude.{nat_eq, is_some, IsSome}
use Rattle.std.specs.List.{range_with_len}
use Rattle.std.proofs.lemmas.Bool.{cases_Bool, cond-true, eq-eqb, eqb-true, ne_eqb}
use Rattle.std.proofs.lemmas.List.Sums.{AllPass-from_list_all}
use Rattle.std.proofs.lemmas.List.FromFn.{length-range_with_len, get_or-range_with_len}
use Rattle.std.proofs.lemmas.Option.{slice_get_cases}
use Rattle.m2v_plane.specs.declared.dims.Dims.{Dims}
use Rattle.m2v_plane.specs.Samples.{Samples, blank}
use Rattle.m2v_dec_rows.specs.Opened.{IsOpened}
use Rattle.m2v_dec_batch.specs.declared.picture.BatchPicture.{BatchPicture}
use Rattle.m2v_dec_batch.specs.declared.picture.Header.{Header}
use Rattle.m2v_dec_batch.specs.declared.pieces.DecodePiece.{DecodePiece}
use Rattle.m2v_dec_batch.specs.declared.pieces.DecodePiece.TheVariants.{Unread, After, Faulty, Rebuilt}
use Rattle.m2v_dec_batch.specs.Jobs.{Headers, header_at, first_job, frame_begin, frame_from, frame_count}
use Rattle.m2v_dec_batch.specs.Batches.{Batch, headers, Rows, no_rows, with_own, rows_set, all_set, frame_behind, IsBatch}
use Rattle.m2v_dec_batch.specs.Below.{first_more}
use Rattle.m2v_dec_batch.specs.Pieces.{row_of, is_rebuilt}
use Rattle.m2v_dec_batch.specs.Values.{value_of}
use Rattle.m2v_dec_batch.specs.Painted.{all_rows}
use Rattle.m2v_dec_batch.specs.Learned.{with_job, frame_over, first_rebuilt, IsOver}
use Rattle.m2v_dec_batch.proofs.Sizes.{header_is, count_is, at_picture, picture_found}
use Rattle.m2v_dec_batch.proofs.Setting.{none_set, one_set}
use Rattle.m2v_dec_batch.proofs.FrameRows.{from_first, from_second}
use Rattle.m2v_dec_batch.proofs.Blank.{first_behind, blank_behind, begun_all, behind_second}
use Rattle.m2v_dec_batch.proofs.Covered.{covered}

-- ---- rows that are there

some_row : (p : DecodePiece) → is_rebuilt p ≡ true → IsSome (row_of p)
some_row (Unread d) e = e
some_row After e = e
some_row (Faulty f) e = e
some_row (Rebuilt xs) e = refl

rebuilt_at : (b : Batch) (q n k : ℕ) → first_rebuilt b q n ≡ true → k < n → is_rebuilt (value_of b (frame_from (headers b) q + k)) ≡ true
rebuilt_at b q n k e lt =
    let from = frame_from (headers b) q in
    ap (λ (i : ℕ). is_rebuilt (value_of b i)) (sym (get_or-range_with_len from n k 0 lt))
    ∙ AllPass-from_list_all (λ i. is_rebuilt (value_of b i)) (range_with_len from n) e k 0 (omega (arith, lt, length-range_with_len from n))

row_there : (b : Batch) (q n k from : ℕ) → frame_from (headers b) q ≡ from → first_rebuilt b q n ≡ true → k < n → IsSome (all_rows b (from + k))
row_there b q n k from place e lt =
    let there = some_row (value_of b (frame_from (headers b) q + k)) (rebuilt_at b q n k e lt) in
    ap (λ (i : ℕ). is_some (all_rows b (i + k))) (sym place) ∙ there

-- ---- rows of a frame picture

whole_rows : (b : Batch) (q : ℕ) → IsBatch b → q < length (headers b) → (header_at (headers b) q).structure ≡ 3 → (header_at (headers b) q).rows ≡ b.dims.mb_rows
whole_rows b q h lt e = elim ((slice_get_cases b.pictures q).1) [
  | inl x ↦
      let o = x.0.opened in
      let here = header_is b q x.0 x.2 in
      let opened = at_picture (λ (y : BatchPicture). IsOpened y.piece y.opened) b q x.0 h.opened x.2 in
      let size = at_picture (λ (y : BatchPicture). y.opened.dims ≡ b.dims) b q x.0 h.sizes x.2 in
      let whole = eq-eqb o.context.extension.structure 3 (sym (ap (λ (y : Header). y.structure) here) ∙ e) in
      ap (λ (y : Header). y.rows) here
      ∙ opened.rows
      ∙ cond-true (nat_eq o.context.extension.structure 3) o.dims.mb_rows (o.dims.mb_rows / 2) whole
      ∙ ap (λ (d : Dims). d.mb_rows) size
  | inr past ↦ absurd (omega (arith, past.0, count_is b, lt))
]

-- ---- the jobs of a picture

job_sets : (hs : Headers) (p k : ℕ) (row : Option Samples) (frame : Samples) → p < length hs → k < (header_at hs p).rows
    → with_job hs (first_job hs p + k) row frame ≡ with_own (header_at hs p) k row frame
job_sets hs p k row frame lt small =
    let found = picture_found hs (length hs) p (first_job hs p + k) lt (omega arith) (omega (arith, small, first_more hs p)) in
    let place : first_job hs p + k - first_job hs p ≡ k = omega arith in
    ap (λ (q : ℕ). with_own (header_at hs q) (first_job hs p + k - first_job hs q) row frame) found
    ∙ ap (λ (r : ℕ). with_own (header_at hs p) r row frame) place

over_none : (b : Batch) (q : ℕ) (base : Samples) → frame_over b q 0 base ≡ base
unfolding frame_over
over_none b q base = refl

over_one : (b : Batch) (q n : ℕ) (base : Samples)
    → frame_over b q (suc n) base ≡ with_job (headers b) (frame_from (headers b) q + n) (all_rows b (frame_from (headers b) q + n)) (frame_over b q n base)
unfolding frame_over
over_one b q n base = refl

-- the first k rows of a picture behind the s rows before them
over_rows : (b : Batch) (q p s k : ℕ) (base : Samples) → p < length (headers b) → k ≤ (header_at (headers b) p).rows → frame_from (headers b) q + s ≡ first_job (headers b) p
    → frame_over b q (s + k) base ≡ rows_set (header_at (headers b) p) (all_rows b) (first_job (headers b) p) k (frame_over b q s base)
over_rows b q p s zero base lt le place =
    let hs = headers b in
    let same : s + 0 ≡ s = omega arith in
    ap (λ (n : ℕ). frame_over b q n base) same ∙ sym (none_set (header_at hs p) (all_rows b) (first_job hs p) (frame_over b q s base))
over_rows b q p s (suc k) base lt le place =
    let hs = headers b in
    let next : s + suc k ≡ suc (s + k) = omega arith in
    let here : frame_from hs q + (s + k) ≡ first_job hs p + k = omega (arith, place) in
    ap (λ (n : ℕ). frame_over b q n base) next
    ∙ over_one b q (s + k) base
    ∙ ap (λ (i : ℕ). with_job hs i (all_rows b i) (frame_over b q (s + k) base)) here
    ∙ job_sets hs p k (all_rows b (first_job hs p + k)) (frame_over b q (s + k) base) lt (omega (arith, le))
    ∙ ap (with_own (header_at hs p) k (all_rows b (first_job hs p + k))) (over_rows b q p s k base lt (omega (arith, le)) place)
    ∙ sym (one_set (header_at hs p) (all_rows b) (first_job hs p) k (frame_over b q s base))

-- all rows of the picture that begins the frame
over_first : (b : Batch) (q p : ℕ) (base : Samples) → p < length (headers b) → frame_from (headers b) q ≡ first_job (headers b) p
    → frame_over b q (header_at (headers b) p).rows base ≡ all_set b (all_rows b) p base
over_first b q p base lt from =
    let hs = headers b in
    let x = header_at hs p in
    let count : x.rows ≡ 0 + x.rows = omega arith in
    ap (λ (n : ℕ). frame_over b q n base) count
    ∙ over_rows b q p 0 x.rows base lt (omega arith) (omega (arith, from))
    ∙ ap (all_set b (all_rows b) p) (over_none b q base)

-- a picture that has its frame for itself
over_own : (b : Batch) (q : ℕ) (base : Samples) → q < length (headers b) → frame_from (headers b) q ≡ first_job (headers b) q
    → frame_over b q (frame_count (headers b) q) base ≡ all_set b (all_rows b) q base
over_own b q base lt from =
    let hs = headers b in
    let count : frame_count hs q ≡ (header_at hs q).rows = omega (arith, from, first_more hs q) in
    ap (λ (n : ℕ). frame_over b q n base) count ∙ over_first b q q base lt from

-- two field pictures of a frame
over_both : (b : Batch) (p : ℕ) (base : Samples) → suc p < length (headers b) → (header_at (headers b) (suc p)).second ≡ true
    → frame_over b (suc p) (frame_count (headers b) (suc p)) base ≡ all_set b (all_rows b) (suc p) (all_set b (all_rows b) p base)
over_both b p base lt e =
    let hs = headers b in
    let x = header_at hs p in
    let y = header_at hs (suc p) in
    let from = from_second hs p e in
    let count : frame_count hs (suc p) ≡ x.rows + y.rows = omega (arith, from, first_more hs p, first_more hs (suc p)) in
    ap (λ (n : ℕ). frame_over b (suc p) n base) count
    ∙ over_rows b (suc p) (suc p) x.rows y.rows base lt (omega arith) (omega (arith, from, first_more hs p))
    ∙ ap (all_set b (all_rows b) (suc p)) (over_first b (suc p) p base (omega (arith, lt)) from)

-- ---- the frame behind a picture

behind_first : (b : Batch) (at : Rows) (p : ℕ) → (header_at (headers b) p).second ≡ false → all_set b at p (blank b.dims b.dims.mb_rows) ≡ frame_behind b at p
behind_first b at p e = ap (all_set b at p) (sym (first_behind b p e)) ∙ begun_all b at p (λ some. e)

from_none : (hs : Headers) → frame_from hs 0 ≡ first_job hs 0
unfolding frame_begin
from_none hs = refl

-- ---- by cases of the picture

-- a frame picture
whole_over : (b : Batch) (q : ℕ) (base : Samples) → IsBatch b → q < length (headers b) → (header_at (headers b) q).second ≡ false → (header_at (headers b) q).structure ≡ 3
    → first_rebuilt b q (frame_count (headers b) q) ≡ true → base.dims ≡ b.dims → all_set b (all_rows b) q base ≡ all_set b (all_rows b) q (blank b.dims b.dims.mb_rows)
whole_over b q base h lt first whole rebuilt size =
    let hs = headers b in
    let x = header_at hs q in
    let from = from_first hs q first in
    let rows = whole_rows b q h lt whole in
    covered x (all_rows b) (first_job hs q) x.rows base (blank b.dims b.dims.mb_rows) whole size (rows ∙ sym (ap (λ (d : Dims). d.mb_rows) size))
    (omega (arith, rows, h.size.tall, h.size.covered))
    (λ k small. row_there b q (frame_count hs q) k (first_job hs q) from rebuilt (omega (arith, from, small, first_more hs q)))

-- a picture that begins its frame, over samples 0 or over any where it is a frame picture
any_over : (b : Batch) (q : ℕ) (base : Samples) → IsBatch b → q < length (headers b) → (header_at (headers b) q).second ≡ false
    → first_rebuilt b q (frame_count (headers b) q) ≡ true → base.dims ≡ b.dims → (nat_eq (header_at (headers b) q).structure 3 ≡ false → base ≡ frame_behind b no_rows q)
    → all_set b (all_rows b) q base ≡ all_set b (all_rows b) q (blank b.dims b.dims.mb_rows)
any_over b q base h lt first rebuilt size begins = elim (cases_Bool (nat_eq (header_at (headers b) q).structure 3)) [
  | inl t ↦ whole_over b q base h lt first (eqb-true (header_at (headers b) q).structure 3 t) rebuilt size
  | inr f ↦ ap (all_set b (all_rows b) q) (begins f ∙ first_behind b q first)
]

first_over : (b : Batch) (q : ℕ) (base : Samples) → IsBatch b → q < length (headers b) → (header_at (headers b) q).second ≡ false
    → first_rebuilt b q (frame_count (headers b) q) ≡ true → base.dims ≡ b.dims → (nat_eq (header_at (headers b) q).structure 3 ≡ false → base ≡ frame_behind b no_rows q)
    → frame_over b q (frame_count (headers b) q) base ≡ frame_behind b (all_rows b) q
first_over b q base h lt first rebuilt size begins =
    over_own b q base lt (from_first (headers b) q first) ∙ any_over b q base h lt first rebuilt size begins ∙ behind_first b (all_rows b) q first

-- a second field is no frame picture
is_field : (structure : ℕ) → structure ≤ 2 → nat_eq structure 3 ≡ false
is_field structure le = ne_eqb structure 3 (λ e. omega (arith, e, le))

-- a second field
second_over : (b : Batch) (q : ℕ) (base : Samples) → IsBatch b → q < length (headers b) → (header_at (headers b) q).second ≡ true → base ≡ frame_behind b no_rows q
    → frame_over b q (frame_count (headers b) q) base ≡ frame_behind b (all_rows b) q
second_over b zero base h lt second is =
    over_own b 0 base lt (from_none (headers b)) ∙ ap (all_set b (all_rows b) 0) is ∙ begun_all b (all_rows b) 0 (λ some. absurd (omega (arith, some)))
second_over b (suc p) base h lt second is =
    over_both b p base lt second
    ∙ ap (λ (f : Samples). all_set b (all_rows b) (suc p) (all_set b (all_rows b) p f)) (is ∙ blank_behind b (suc p) h (λ e. omega (arith, e)))
    ∙ ap (all_set b (all_rows b) (suc p)) (behind_first b (all_rows b) p (h.pairs p second).is_first)
    ∙ behind_second b (all_rows b) p second

-- a frame over which all rows of its pictures are set is the frame behind the last one
pub over_is : (b : Batch) (q : ℕ) (frame : Option Samples) → IsBatch b → q < length (headers b) → first_rebuilt b q (frame_count (headers b) q) ≡ true → IsOver b q (frame_count (headers b) q) frame
    → frame ≡ Some (frame_behind b (all_rows b) q)
over_is b q frame h lt rebuilt over = elim (cases_Bool (header_at (headers b) q).second) [
  | inl e ↦ over.is ∙ ap Some (second_over b q over.base h lt e (over.begun (is_field (header_at (headers b) q).structure (h.field q e))))
  | inr e ↦ over.is ∙ ap Some (first_over b q over.base h lt e rebuilt over.size over.begun)
]
