-- The rows that a job needs are shared with their samples.
use Rattle.std.proofs.Common.{◌≡◌, ℕ, zero, suc, ◌+◌, ◌<◌, ◌≤◌, true, length, get_or, None, sym, subst, inl, inr, arith}
use Rattle.std.specs.Prelude.{All, nat_eq, not, ◌||◌}
use Rattle.std.proofs.lemmas.Bool.{cases_lt, and_parts, or_left, or_right, cond_both, cond-true}
use Rattle.m2v_dec_batch.specs.declared.picture.FramePlace.{FramePlace}
use Rattle.m2v_dec_batch.specs.declared.picture.FramePlace.TheVariants.{Older, Newer, Waiting, Behind}
use Rattle.m2v_dec_batch.specs.Jobs.{Headers, header_at, first_job, picture_of_job, ends_anchor, newer_before, older_before, first_field, read_by, is_reference, frame_begin, frame_from, frame_count, jobs_behind, needs_of, jobs_of}
use Rattle.m2v_dec_batch.specs.Batches.{Batch, headers}
use Rattle.m2v_dec_batch.specs.Below.{ReadsAll, newer_all, older_all, reads_all, all_range, needs_all, picture_exists}
use Rattle.m2v_dec_batch.specs.Pieces.{row_of}
use Rattle.m2v_dec_batch.specs.Values.{value_of, shared_of}
use Rattle.m2v_dec_batch.proofs.Sizes.{picture_found}

anchor_is : (hs : Headers) (p : ℕ) → ends_anchor (header_at hs p) ≡ true → is_reference hs p ≡ true
anchor_is hs p e =
    let h = header_at hs p in
    or_left (not (nat_eq h.kind 3)) (header_at hs (suc p)).second (and_parts (not (nat_eq h.kind 3)) (nat_eq h.structure 3 || h.second) e).0

first_is : (hs : Headers) (p : ℕ) → (header_at hs (suc p)).second ≡ true → is_reference hs p ≡ true
first_is hs p e = or_right (not (nat_eq (header_at hs p).kind 3)) (header_at hs (suc p)).second e

-- ---- places

-- the frame that stands there is before the batch, or behind a reference in it
unfoldable OfReference : Headers → FramePlace → Type 0
OfReference hs Older = Unit {0}
OfReference hs Newer = Unit {0}
OfReference hs Waiting = Unit {0}
OfReference hs (Behind q) = (q < length hs) × (is_reference hs q ≡ true)

of_anchor : (hs : Headers) (p q : ℕ) → p ≤ length hs → q < p → ends_anchor (header_at hs q) ≡ true → OfReference hs (Behind q)
unfolding OfReference
of_anchor hs p q le lt e = (omega (arith, lt, le), anchor_is hs q e)

newer_is : (hs : Headers) (p : ℕ) → p ≤ length hs → OfReference hs (newer_before hs p)
unfolding OfReference
newer_is hs p le = newer_all (OfReference hs) hs p tt (λ q. of_anchor hs p q le)

older_is : (hs : Headers) (p : ℕ) → p ≤ length hs → OfReference hs (older_before hs p)
unfolding OfReference
older_is hs p le = older_all (OfReference hs) hs p tt tt (λ q. of_anchor hs p q le)

field_is : (hs : Headers) (p : ℕ) → p ≤ length hs → (header_at hs p).second ≡ true → OfReference hs (first_field p)
unfolding first_field OfReference
field_is hs zero le e = tt
field_is hs (suc p) le e = (le, first_is hs p e)

reads_references : (hs : Headers) (p : ℕ) → p ≤ length hs → ReadsAll (OfReference hs) (read_by hs p)
reads_references hs p le = reads_all (OfReference hs) hs p (older_is hs p le) (newer_is hs p le) (field_is hs p le)

-- ---- rows

-- the rows of the first field of a frame are those of a reference too
in_first : (hs : Headers) (q i : ℕ) → q < length hs → frame_from hs q ≤ i → i < first_job hs q → is_reference hs (picture_of_job hs i) ≡ true
unfolding frame_begin
in_first hs zero i lt from below = absurd (omega (arith, from, below))
in_first hs (suc q) i lt from below =
    cond_both (header_at hs (suc q)).second q (suc q) (λ n. first_job hs n ≤ i → is_reference hs (picture_of_job hs i) ≡ true)
    (λ e le. subst (λ (p : ℕ). is_reference hs p ≡ true) (sym (picture_found hs (length hs) q i (omega (arith, lt)) le below)) (first_is hs q e))
    (λ e le. absurd (omega (arith, le, below)))
    from

in_frame : (hs : Headers) (q i : ℕ) → is_reference hs q ≡ true → q < length hs → frame_from hs q ≤ i → i < first_job hs (suc q) → is_reference hs (picture_of_job hs i) ≡ true
in_frame hs q i is lt from below =
    elim (cases_lt i (first_job hs q)) [
      | inl small ↦ in_first hs q i lt from small
      | inr large ↦ subst (λ (p : ℕ). is_reference hs p ≡ true) (sym (picture_found hs (length hs) q i lt large below)) is
    ]

behind_are : (hs : Headers) (q : ℕ) → OfReference hs (Behind q) → All (λ i. is_reference hs (picture_of_job hs i) ≡ true) (jobs_behind hs q)
unfolding OfReference
behind_are hs q is =
    all_range (λ i. is_reference hs (picture_of_job hs i) ≡ true) (frame_from hs q) (frame_count hs q)
    (λ i small. in_frame hs q (frame_from hs q + i) is.1 is.0 (omega arith) (omega (arith, small)))

needs_are_references : (hs : Headers) (j : ℕ) → j < jobs_of hs → All (λ i. is_reference hs (picture_of_job hs i) ≡ true) (needs_of hs j)
needs_are_references hs j lt =
    needs_all (λ i. is_reference hs (picture_of_job hs i) ≡ true) (OfReference hs) hs j (λ q. behind_are hs q) (reads_references hs (picture_of_job hs j) (omega (arith, picture_exists hs j lt)))

-- what others learn of a row that a job needs is the row
pub shared_row : (b : Batch) (j k : ℕ) → j < jobs_of (headers b) → k < length (needs_of (headers b) j) → (shared_of b (get_or (needs_of (headers b) j) k 0)).row ≡ row_of (value_of b (get_or (needs_of (headers b) j) k 0))
shared_row b j k job lt =
    let i = get_or (needs_of (headers b) j) k 0 in
    cond-true (is_reference (headers b) (picture_of_job (headers b) i)) (row_of (value_of b i)) None (needs_are_references (headers b) j job k 0 lt)
