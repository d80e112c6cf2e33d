-- Each need of a job is a lower job, and there are few of them.
use Rattle.std.proofs.Common.{◌≡◌, ℕ, zero, suc, ◌+◌, ◌-◌, ◌<◌, ◌≤◌, Bool, true, false, cond, length, Option, Some, None, sym, ap, subst, ◌∙◌, arith, inl, inr, refl}
use Rattle.std.specs.Prelude.{All, nat_le, nat_eq}
use Rattle.std.specs.List.{range_with_len}
use Rattle.std.proofs.lemmas.Bool.{leb-true, cond_both, cond-true, cond-false, cases_Bool}
use Rattle.std.proofs.lemmas.List.{length-append}
use Rattle.std.proofs.lemmas.List.Sums.{AllPass-from_list_all}
use Rattle.std.proofs.lemmas.List.Elements.{All-nil, All-append}
use Rattle.std.proofs.lemmas.List.FromFn.{length-range_with_len, get_or-range_with_len}
use Rattle.m2v_dec_batch.specs.declared.picture.FramePlace.{FramePlace}
use Rattle.m2v_dec_batch.specs.declared.picture.FramePlace.TheVariants.{Older, Newer, Waiting, Behind}
use Rattle.m2v_dec_batch.specs.declared.picture.Reads.{Reads}
use Rattle.m2v_dec_batch.specs.declared.reads.Before.{Before}
use Rattle.m2v_dec_batch.specs.Jobs.{Headers, header_at, first_job, picture_among, picture_of_job, ends_anchor, newer_before, older_before, first_field, read_by, frame_begin, frame_from, frame_count, jobs_behind, jobs_at, needs_of, are_small, jobs_of}

-- ---- first jobs

pub first_more : (hs : Headers) (p : ℕ) → first_job hs (suc p) ≡ first_job hs p + (header_at hs p).rows
unfolding first_job
first_more hs p = refl

pub first_none : (hs : Headers) → first_job hs 0 ≡ 0
unfolding first_job
first_none hs = refl

pub first_rises : (hs : Headers) (p k : ℕ) → first_job hs p ≤ first_job hs (p + k)
first_rises hs p zero = let e : p + 0 ≡ p = omega arith in omega (arith, ap (first_job hs) e)
first_rises hs p (suc k) =
    let e : p + suc k ≡ suc (p + k) = omega arith in
    omega (arith, ap (first_job hs) e, first_more hs (p + k), first_rises hs p k)

pub first_upto : (hs : Headers) (p q : ℕ) → p ≤ q → first_job hs p ≤ first_job hs q
first_upto hs p q le =
    let e : p + (q - p) ≡ q = omega arith in
    omega (arith, first_rises hs p (q - p), ap (first_job hs) e)

pub begin_below : (hs : Headers) (q : ℕ) → frame_begin hs q ≤ q
unfolding frame_begin
begin_below hs zero = omega arith
begin_below hs (suc q) = cond_both (header_at hs (suc q)).second q (suc q) (λ n. n ≤ suc q) (λ e. omega arith) (λ e. omega arith)

pub from_below : (hs : Headers) (q : ℕ) → frame_from hs q ≤ first_job hs q
from_below hs q = first_upto hs (frame_begin hs q) q (begin_below hs q)

-- ---- places

-- what holds of the frame that stands there, where one does
unfoldable pub MayBe : (FramePlace → Type 0) → Option FramePlace → Type 0
MayBe P None = Unit {0}
MayBe P (Some x) = P x

-- what holds of the last anchor before the batch, and of each in it, holds of the last one before a picture
pub newer_all : (P : FramePlace → Type 0) (hs : Headers) (p : ℕ) → P Newer → ((q : ℕ) → q < p → ends_anchor (header_at hs q) ≡ true → P (Behind q)) → P (newer_before hs p)
unfolding newer_before
newer_all P hs zero newer each = newer
newer_all P hs (suc p) newer each =
    cond_both (ends_anchor (header_at hs p)) (Behind p) (newer_before hs p) P (λ e. each p (omega arith) e) (λ e. newer_all P hs p newer (λ q lt. each q (omega (arith, lt))))

-- and of the last one but one
pub older_all : (P : FramePlace → Type 0) (hs : Headers) (p : ℕ) → P Older → P Newer → ((q : ℕ) → q < p → ends_anchor (header_at hs q) ≡ true → P (Behind q)) → P (older_before hs p)
unfolding older_before
older_all P hs zero older newer each = older
older_all P hs (suc p) older newer each =
    let below = λ (q : ℕ) (lt : q < p). each q (omega (arith, lt)) in
    cond_both (ends_anchor (header_at hs p)) (newer_before hs p) (older_before hs p) P (λ e. newer_all P hs p newer below) (λ e. older_all P hs p older newer below)

-- what holds of both frames that a picture reads
pub record ReadsAll (P : FramePlace → Type 0) (r : Reads) : Type 0 where
  pub forward : MayBe P r.forward
  pub other : MayBe P r.other

by_tests : (P : FramePlace → Type 0) (intra both second : Bool) (x y z : FramePlace) → P x → P y → (second ≡ true → P z)
    → ReadsAll P (cond intra (record { forward = None; other = None }) (cond both (record { forward = Some x; other = Some y }) (record { forward = Some y; other = cond second (Some z) None })))
unfolding MayBe
by_tests P true both second x y z h k l = record { forward = tt; other = tt }
by_tests P false true second x y z h k l = record { forward = h; other = k }
by_tests P false false true x y z h k l = record { forward = k; other = l refl }
by_tests P false false false x y z h k l = record { forward = k; other = tt }

pub reads_all : (P : FramePlace → Type 0) (hs : Headers) (p : ℕ) → P (older_before hs p) → P (newer_before hs p) → ((header_at hs p).second ≡ true → P (first_field p)) → ReadsAll P (read_by hs p)
unfolding read_by
reads_all P hs p older newer first =
    let h = header_at hs p in
    by_tests P (nat_eq h.kind 1) (nat_eq h.kind 3) h.second (older_before hs p) (newer_before hs p) (first_field p) older newer first

-- a frame stands before the batch, or behind a picture that comes before
unfoldable pub ComesBefore : ℕ → FramePlace → Type 0
ComesBefore p Older = Unit {0}
ComesBefore p Newer = Unit {0}
ComesBefore p Waiting = Unit {0}
ComesBefore p (Behind q) = q < p

pub newer_comes : (hs : Headers) (p : ℕ) → ComesBefore p (newer_before hs p)
unfolding ComesBefore
newer_comes hs p = newer_all (ComesBefore p) hs p tt (λ q lt e. lt)

pub older_comes : (hs : Headers) (p : ℕ) → ComesBefore p (older_before hs p)
unfolding ComesBefore
older_comes hs p = older_all (ComesBefore p) hs p tt tt (λ q lt e. lt)

pub field_comes : (p : ℕ) → ComesBefore p (first_field p)
unfolding first_field ComesBefore
field_comes zero = tt
field_comes (suc p) = omega arith

-- what a picture reads comes before it
pub reads_before : (hs : Headers) (p : ℕ) → ReadsAll (ComesBefore p) (read_by hs p)
reads_before hs p = reads_all (ComesBefore p) hs p (older_comes hs p) (newer_comes hs p) (λ e. field_comes p)

-- what is looked up of the pictures before one
pub record IsBefore (hs : Headers) (p : ℕ) (x : Before) : Type 0 where
  pub jobs : x.jobs ≡ first_job hs p
  pub older : x.older ≡ older_before hs p
  pub newer : x.newer ≡ newer_before hs p

-- ---- needs are below

pub all_range : (P : ℕ → Type 0) (a n : ℕ) → ((i : ℕ) → i < n → P (a + i)) → All P (range_with_len a n)
all_range P a n each i d lt =
    let small : i < n = omega (arith, lt, length-range_with_len a n) in
    subst P (sym (get_or-range_with_len a n i d small)) (each i small)

behind_below : (hs : Headers) (p q : ℕ) → q < p → All (λ i. i < first_job hs p) (jobs_behind hs q)
behind_below hs p q lt =
    all_range (λ i. i < first_job hs p) (frame_from hs q) (frame_count hs q)
    (λ i small. omega (arith, small, first_upto hs (suc q) p (omega (arith, lt))))

-- what holds of the rows behind a picture holds of those of a frame
pub jobs_all : (Q : ℕ → Type 0) (P : FramePlace → Type 0) (hs : Headers) (x : Option FramePlace) → ((q : ℕ) → P (Behind q) → All Q (jobs_behind hs q)) → MayBe P x → All Q (jobs_at hs x)
unfolding MayBe jobs_at
jobs_all Q P hs None each h = All-nil Q
jobs_all Q P hs (Some Older) each h = All-nil Q
jobs_all Q P hs (Some Newer) each h = All-nil Q
jobs_all Q P hs (Some Waiting) each h = All-nil Q
jobs_all Q P hs (Some (Behind q)) each h = each q h

-- and then, where it holds of both frames that its picture reads, of the needs of a job
pub needs_all : (Q : ℕ → Type 0) (P : FramePlace → Type 0) (hs : Headers) (j : ℕ) → ((q : ℕ) → P (Behind q) → All Q (jobs_behind hs q)) → ReadsAll P (read_by hs (picture_of_job hs j)) → All Q (needs_of hs j)
unfolding needs_of
needs_all Q P hs j each r =
    let reads = read_by hs (picture_of_job hs j) in
    All-append Q (jobs_at hs reads.forward) (jobs_at hs reads.other) (jobs_all Q P hs reads.forward each r.forward) (jobs_all Q P hs reads.other each r.other)

-- a job isn't before the first job of its picture
pub picture_upto : (hs : Headers) (n j : ℕ) → first_job hs (picture_among hs n j) ≤ j
unfolding picture_among
picture_upto hs zero j = omega (arith, first_none hs)
picture_upto hs (suc n) j =
    cond_both (nat_le (first_job hs n) j) n (picture_among hs n j) (λ p. first_job hs p ≤ j) (λ e. leb-true (first_job hs n) j e) (λ e. picture_upto hs n j)

-- the needs of a job come before the first job of its picture
pub needs_before : (hs : Headers) (j : ℕ) → All (λ i. i < first_job hs (picture_of_job hs j)) (needs_of hs j)
unfolding ComesBefore
needs_before hs j =
    let p = picture_of_job hs j in
    needs_all (λ i. i < first_job hs p) (ComesBefore p) hs j (λ q lt. behind_below hs p q lt) (reads_before hs p)

pub needs_below : (hs : Headers) (j : ℕ) → All (λ i. i < j) (needs_of hs j)
needs_below hs j i d lt = omega (arith, needs_before hs j i d lt, picture_upto hs (length hs) j)

-- ---- how many there are

-- the picture of a job is one of those that there are
pub picture_within : (hs : Headers) (n j : ℕ) → 0 < n → picture_among hs n j < n
unfolding picture_among
picture_within hs zero j some = absurd (omega arith)
picture_within hs (suc n) j some =
    cond_both (nat_le (first_job hs n) j) n (picture_among hs n j) (λ p. p < suc n) (λ e. omega arith) (λ e. upto n)
  where
    upto : (m : ℕ) → picture_among hs m j < suc m
    upto zero = omega arith
    upto (suc m) = cond_both (nat_le (first_job hs m) j) m (picture_among hs m j) (λ p. p < suc (suc m)) (λ e. omega arith) (λ e. omega (arith, upto m))

pub some_pictures : (hs : Headers) (j : ℕ) → j < jobs_of hs → (are_small hs ≡ true) × (j < first_job hs (length hs))
unfolding jobs_of
some_pictures hs j lt = elim (cases_Bool (are_small hs)) [
  | inl e ↦ (e, omega (arith, lt, cond-true (are_small hs) (first_job hs (length hs)) 0 e))
  | inr e ↦ absurd (omega (arith, lt, cond-false (are_small hs) (first_job hs (length hs)) 0 e))
]

pub frame_small : (hs : Headers) (q : ℕ) → are_small hs ≡ true → q < length hs → frame_count hs q ≤ 72
frame_small hs q e lt =
    let small = λ (i : ℕ). nat_le (frame_count hs i) 72 in
    let is = AllPass-from_list_all small (range_with_len 0 (length hs)) e q 0 (omega (arith, lt, length-range_with_len 0 (length hs))) in
    let from : 0 + q ≡ q = omega arith in
    let at = get_or-range_with_len 0 (length hs) q 0 lt ∙ from in
    leb-true (frame_count hs q) 72 (subst (λ (i : ℕ). small i ≡ true) at is)

pub jobs_few : (hs : Headers) (p : ℕ) (x : Option FramePlace) → are_small hs ≡ true → p ≤ length hs → MayBe (ComesBefore p) x → length (jobs_at hs x) ≤ 72
unfolding MayBe ComesBefore jobs_at
jobs_few hs p None e le h = omega arith
jobs_few hs p (Some Older) e le h = omega arith
jobs_few hs p (Some Newer) e le h = omega arith
jobs_few hs p (Some Waiting) e le h = omega arith
jobs_few hs p (Some (Behind q)) e le h = omega (arith, length-range_with_len (frame_from hs q) (frame_count hs q), frame_small hs q e (omega (arith, h, le)))

many_pictures : (hs : Headers) (j n : ℕ) → j < first_job hs n → 0 < n
many_pictures hs j zero lt = absurd (omega (arith, lt, first_none hs))
many_pictures hs j (suc n) lt = omega arith

pub picture_exists : (hs : Headers) (j : ℕ) → j < jobs_of hs → picture_of_job hs j < length hs
picture_exists hs j lt = picture_within hs (length hs) j (many_pictures hs j (length hs) (some_pictures hs j lt).1)

pub needs_few : (hs : Headers) (j : ℕ) → j < jobs_of hs → length (needs_of hs j) ≤ 160
unfolding needs_of
needs_few hs j lt =
    let p = picture_of_job hs j in
    let r = reads_before hs p in
    let small = (some_pictures hs j lt).0 in
    let le : p ≤ length hs = omega (arith, picture_exists hs j lt) in
    omega (arith, length-append (jobs_at hs (read_by hs p).forward) (jobs_at hs (read_by hs p).other), jobs_few hs p (read_by hs p).forward small le r.forward, jobs_few hs p (read_by hs p).other small le r.other)
