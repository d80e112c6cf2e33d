-- The pieces of a book's jobs, its pictures, and what is told to its ledger.
use Rattle.std.proofs.Common.{◌≡◌, ℕ, zero, suc, ◌+◌, ◌-◌, ◌*◌, ◌%◌, ◌^◌, ◌<◌, ◌≤◌, List, [], ◌∷◌, length, map, get_or, refl, sym, ap, ap₂, subst, ◌∙◌, arith}
use Rattle.std.specs.Prelude.{slice_index, sum_by}
use Rattle.std.specs.List.{range_with_len}
use Rattle.std.proofs.lemmas.List.FromFn.{fill_by_all, sum_by-map-range_with_len_more}
use Rattle.m2v_order.specs.declared.jobs.PictureJob.{PictureJob}
use Rattle.m2v_rate.specs.declared.values.Plan.{Plan}
use Rattle.m2v_rate.specs.Plans.{Entries, first_open, with_size}
use Rattle.m2v_rate.proofs.Steps.{interval_small}
use Rattle.m2v_set.proofs.Facts.{bounds}
use Rattle.m2v_slice.specs.Slices.{CodedSlice}
use Rattle.m2v_slice.specs.Headers.{header_bits}
use Rattle.m2v_slice.specs.declared.pieces.EncodePiece.{EncodePiece}
use Rattle.m2v_slice.specs.declared.pieces.EncodePiece.TheVariants as piece
use Rattle.m2v_slice.specs.Books.{Book, CodedPicture, rows, job_at, no_job, coded, picture_at, slice_at, slice_job, plan_job, size_of, work_of}
use Rattle.m2v_slice.specs.Conditions.{IsBook}
use Rattle.m2v_slice.specs.Jobs.{value_of, slice_piece, plan_piece}
use Rattle.m2v_slice.proofs.Coded.{no_slice, picture_is, slices_count, slice_stays}
use Rattle.m2v_slice.proofs.Learned.{plan_picture, plan_part, slice_picture, slice_part, value_plan, value_slice}
use Rattle.m2v_slice.proofs.Groups.{passes_of}
use Rattle.m2v_slice.proofs.Steady.{ledger_at, ledger_known}
use Rattle.m2v_slice.proofs.Sound.{ledger_kinds, ledger_caps, ledger_sizes, ledger_cap, plan_is_good}
use Rattle.m2v_slice.proofs.Ledgers.{times_count, size_in, work_in}
use Rattle.m2v_encode.specs.Groups.{all_coded}

pub get_or_same : {A : Type 0} (xs : List A) (i : ℕ) (d e : A) → i < length xs → get_or xs i d ≡ get_or xs i e
get_or_same [] i d e lt = absurd (omega arith)
get_or_same (x ∷ xs) zero d e lt = refl
get_or_same (x ∷ xs) (suc i) d e lt = get_or_same xs i d e (omega (arith, lt))

-- ---- pieces

slice_there : (b : Book) (p r : ℕ) → p < length b.pictures → r < rows b → value_of b (slice_job b p r) ≡ piece.Slice (slice_at (all_coded b) p r)
slice_there b p r lt small =
    let j = slice_job b p r in
    let part = slice_part b p r small in
    value_slice b j (λ e. omega (arith, part, e))
    ∙ ap (λ (q : ℕ). slice_piece b q (j % (rows b + 1) - 1)) (slice_picture b p r small)
    ∙ ap (λ (i : ℕ). slice_piece b p i) (let e : j % (rows b + 1) - 1 ≡ r = omega (arith, part) in e)
    ∙ ap piece.Slice (slice_stays b (p + 1) (length b.pictures) p r (omega arith) lt)

same_slice : (a c : CodedSlice) → piece.Slice a ≡ piece.Slice c → a ≡ c
same_slice a c e = cc

other_piece : (plan : Plan) (ledger : Entries) (c : CodedSlice) → piece.Plan plan ledger ≡ piece.Slice c → ⊥
other_piece plan ledger c e = absurd cc

same_ledger : (plan other : Plan) (ledger known : Entries) → piece.Plan plan ledger ≡ piece.Plan other known → ledger ≡ known
same_ledger plan other ledger known e = cc

-- the piece of a slice's job is its slice
pub is_slice : (b : Book) (p r k : ℕ) (x : EncodePiece) (out : CodedSlice) → p < length b.pictures → r < rows b → k ≡ rows b
    → x ≡ value_of b (p * (k + 1) + 1 + r) → x ≡ piece.Slice out → out ≡ slice_at (all_coded b) p r
is_slice b p r k x out lt small same value is =
    same_slice out (slice_at (all_coded b) p r)
    (sym is ∙ value ∙ ap (λ (n : ℕ). value_of b (p * (n + 1) + 1 + r)) same ∙ slice_there b p r lt small)

pub no_plan_there : (b : Book) (p r k : ℕ) (x : EncodePiece) (plan : Plan) (ledger : Entries) → p < length b.pictures → r < rows b → k ≡ rows b
    → x ≡ value_of b (p * (k + 1) + 1 + r) → x ≡ piece.Plan plan ledger → ⊥
no_plan_there b p r k x plan ledger lt small same value is =
    other_piece plan ledger (slice_at (all_coded b) p r)
    (sym is ∙ value ∙ ap (λ (n : ℕ). value_of b (p * (n + 1) + 1 + r)) same ∙ slice_there b p r lt small)

plan_there : (b : Book) (p : ℕ) → value_of b (plan_job b p) ≡ plan_piece b p
plan_there b p = value_plan b (plan_job b p) (plan_part b p) ∙ ap (plan_piece b) (plan_picture b p)

last_there : (b : Book) → IsBook b → (k : ℕ) (x : EncodePiece) → k ≡ rows b → x ≡ value_of b ((length b.pictures - 1) * (k + 1))
    → x ≡ piece.Plan (picture_at (all_coded b) (length b.pictures - 1)).plan (ledger_at b (length b.pictures - 4) (length b.pictures))
last_there b h k x same value =
    let n = length b.pictures in
    let some = h.group.picture in
    let all : n - 1 + 1 ≡ n = omega (arith, some) in
    let open_one : first_open (n - 1) ≡ n - 4 = omega arith in
    value
    ∙ ap (λ (i : ℕ). value_of b ((n - 1) * (i + 1))) same
    ∙ plan_there b (n - 1)
    ∙ ap (λ (m : ℕ). piece.Plan (picture_at (coded b m) (n - 1)).plan (ledger_at b (first_open (n - 1)) m)) all
    ∙ ap (λ (m : ℕ). piece.Plan (picture_at (coded b n) (n - 1)).plan (ledger_at b m n)) open_one

-- the piece of the last plan has its ledger
pub is_ledger : (b : Book) → IsBook b → (k : ℕ) (x : EncodePiece) (plan : Plan) (ledger : Entries) → k ≡ rows b
    → x ≡ value_of b ((length b.pictures - 1) * (k + 1)) → x ≡ piece.Plan plan ledger → ledger ≡ ledger_at b (length b.pictures - 4) (length b.pictures)
is_ledger b h k x plan ledger same value is =
    same_ledger plan (picture_at (all_coded b) (length b.pictures - 1)).plan ledger _ (sym is ∙ last_there b h k x same value)

pub no_slice_there : (b : Book) → IsBook b → (k : ℕ) (x : EncodePiece) (out : CodedSlice) → k ≡ rows b
    → x ≡ value_of b ((length b.pictures - 1) * (k + 1)) → x ≡ piece.Slice out → ⊥
no_slice_there b h k x out same value is =
    other_piece _ _ out (sym (last_there b h k x same value) ∙ is)

-- ---- pictures

pub job_there : (b : Book) (p : ℕ) (d : PictureJob) → p < length b.pictures → get_or b.pictures p d ≡ job_at b p
job_there b p d lt = get_or_same b.pictures p d no_job lt

-- ---- sizes

-- the bits of a picture but for its last slices
abbrev pub bits_so_far : Book → ℕ → ℕ → ℕ
bits_so_far b p n = header_bits (job_at b p) + sum_by (λ (x : CodedSlice). length x.text) (map (λ r. slice_at (all_coded b) p r) (range_with_len 0 n))

pub bits_more : (b : Book) (p n : ℕ) → bits_so_far b p (n + 1) ≡ bits_so_far b p n + length (slice_at (all_coded b) p n).text
bits_more b p n =
    let more = sum_by-map-range_with_len_more (λ (x : CodedSlice). length x.text) (λ r. slice_at (all_coded b) p r) 0 n n (omega arith) in
    omega (arith, more)

-- more slices have more bits
bits_upto : (b : Book) (p n k : ℕ) → bits_so_far b p n ≤ bits_so_far b p (n + k)
bits_upto b p n zero = let e : n ≡ n + 0 = omega arith in omega (arith, ap (bits_so_far b p) e)
bits_upto b p n (suc k) = let e : n + k + 1 ≡ n + suc k = omega arith in omega (arith, bits_upto b p n k, bits_more b p (n + k), ap (bits_so_far b p) e)

-- the slices of a picture, one by one
pub slices_by : (b : Book) (p : ℕ) → p < length b.pictures → (picture_at (all_coded b) p).slices ≡ map (λ r. slice_at (all_coded b) p r) (range_with_len 0 (rows b))
slices_by b p lt =
    let xs = (picture_at (all_coded b) p).slices in
    let size : length xs ≡ rows b = ap (λ (x : CodedPicture). length x.slices) (picture_is b (length b.pictures) p lt) ∙ slices_count b p in
    fill_by_all (λ r. slice_at (all_coded b) p r) xs (rows b) no_slice size (λ k small. refl)

pub bits_all : (b : Book) (p : ℕ) → p < length b.pictures → bits_so_far b p (rows b) ≡ size_of b (all_coded b) p
bits_all b p lt = ap (λ (xs : List CodedSlice). header_bits (job_at b p) + sum_by (λ (x : CodedSlice). length x.text) xs) (sym (slices_by b p lt))

pub size_small : (b : Book) → IsBook b → (p : ℕ) → p < length b.pictures → size_of b (all_coded b) p < 2 ^ 24
size_small b h p lt =
    let good = plan_is_good b h (length b.pictures) p lt (omega arith) in
    let buffer = (bounds b.settings (passes_of b h)).size.buffer in
    omega (arith, size_in b h p lt, good.most, buffer)

pub slice_small : (b : Book) → IsBook b → (p r : ℕ) → p < length b.pictures → r < rows b → length (slice_at (all_coded b) p r).text < 2 ^ 24
slice_small b h p r lt small =
    let all = bits_upto b p (r + 1) (rows b - (r + 1)) in
    let whole : r + 1 + (rows b - (r + 1)) ≡ rows b = omega (arith, small) in
    omega (arith, size_small b h p lt, bits_all b p lt, bits_more b p r, all, ap (bits_so_far b p) whole)

-- ---- work

-- the work of a picture but for its last slices
abbrev pub work_so_far : Book → ℕ → ℕ → ℕ
work_so_far b p n = sum_by (λ (x : CodedSlice). x.work) (map (λ r. slice_at (all_coded b) p r) (range_with_len 0 n))

pub work_more : (b : Book) (p n : ℕ) → work_so_far b p (n + 1) ≡ work_so_far b p n + (slice_at (all_coded b) p n).work
work_more b p n =
    let more = sum_by-map-range_with_len_more (λ (x : CodedSlice). x.work) (λ r. slice_at (all_coded b) p r) 0 n n (omega arith) in
    omega (arith, more)

work_upto : (b : Book) (p n k : ℕ) → work_so_far b p n ≤ work_so_far b p (n + k)
work_upto b p n zero = let e : n ≡ n + 0 = omega arith in omega (arith, ap (work_so_far b p) e)
work_upto b p n (suc k) = let e : n + k + 1 ≡ n + suc k = omega arith in omega (arith, work_upto b p n k, work_more b p (n + k), ap (work_so_far b p) e)

pub work_all : (b : Book) (p : ℕ) → p < length b.pictures → work_so_far b p (rows b) ≡ work_of (all_coded b) p
work_all b p lt = ap (λ (xs : List CodedSlice). sum_by (λ (x : CodedSlice). x.work) xs) (sym (slices_by b p lt))

-- with each slice more it is within numbers of 32 bits
pub work_small : (b : Book) → IsBook b → (p r : ℕ) → p < length b.pictures → r < rows b → work_so_far b p r + (slice_at (all_coded b) p r).work < 2 ^ 29
work_small b h p r lt small =
    let all = work_upto b p (r + 1) (rows b - (r + 1)) in
    let whole : r + 1 + (rows b - (r + 1)) ≡ rows b = omega (arith, small) in
    omega (arith, work_in b h p lt, size_small b h p lt, work_all b p lt, work_more b p r, all, ap (work_so_far b p) whole)

-- ---- times

pub time_small : (b : Book) → IsBook b → (p : ℕ) → p < length b.pictures → slice_index b.ledger.intervals p < 2 ^ 20
time_small b h p lt =
    interval_small b.ledger.settings _ (h.ledger.ledger.steady.begun.times p 0 (omega (arith, lt, times_count b h)))

-- ---- the ledger

-- what a ledger is asked for before a size and a work are told to it
pub record MayTell (b : Book) (p bits work : ℕ) (l : Entries) : Type 0 where
  pub picture : p < length l.kinds
  pub first : p ≡ length l.sizes
  pub planned : p < length l.caps
  pub within : bits ≤ slice_index l.caps p
  pub effort : work ≤ 31 * bits

pub may_tell : (b : Book) → IsBook b → (p bits work : ℕ) (l : Entries) → p < length b.pictures → bits ≡ size_of b (all_coded b) p
    → work ≡ work_of (all_coded b) p → l ≡ ledger_at b p (length b.pictures) → MayTell b p bits work l
may_tell b h p bits work l lt size effort is =
    let n = length b.pictures in
    let here : MayTell b p bits work (ledger_at b p n) = record {
      picture = omega (arith, ledger_kinds b h p n, lt);
      first = sym (ledger_sizes b p n);
      planned = omega (arith, ledger_caps b p n, lt);
      within = omega (arith, ledger_cap b p n p lt, size_in b h p lt, size);
      effort = omega (arith, work_in b h p lt, size, effort);
    } in
    subst (MayTell b p bits work) (sym is) here

pub told_more : (b : Book) (p bits work : ℕ) (l m : Entries) → bits ≡ size_of b (all_coded b) p → work ≡ work_of (all_coded b) p
    → l ≡ ledger_at b p (length b.pictures) → m ≡ with_size l bits work → m ≡ ledger_at b (p + 1) (length b.pictures)
told_more b p bits work l m size effort is new =
    new ∙ ap (λ (x : Entries). with_size x bits work) is ∙ ap₂ (with_size (ledger_at b p (length b.pictures))) size effort
    ∙ sym (ledger_known b p (length b.pictures))
