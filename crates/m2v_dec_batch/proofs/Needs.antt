-- The needs of a job, as two ranges of jobs.
use Rattle.std.proofs.Common.{◌≡◌, ℕ, ◌+◌, ◌<◌, ◌≤◌, List, ◌++◌, length, Option, Some, None, sym, ap, subst, ◌∙◌, arith}
use Rattle.std.specs.List.{range_with_len}
use Rattle.std.proofs.lemmas.List.{length-append}
use Rattle.std.proofs.lemmas.List.FromFn.{length-range_with_len}
use Rattle.m2v_dec_batch.specs.declared.picture.FramePlace.{FramePlace}
use Rattle.m2v_dec_batch.specs.declared.picture.FramePlace.TheVariants.{Older, Newer, Waiting, Behind}
use Rattle.m2v_dec_batch.specs.declared.picture.Reads.{Reads}
use Rattle.m2v_dec_batch.specs.Jobs.{Headers, picture_of_job, read_by, jobs_at, needs_of}
use Rattle.m2v_dec_batch.specs.Below.{ComesBefore, MayBe, reads_before}

pub comes_by : (p n : ℕ) (x : FramePlace) → p ≤ n → ComesBefore p x → ComesBefore n x
unfolding ComesBefore
comes_by p n Older le h = tt
comes_by p n Newer le h = tt
comes_by p n Waiting le h = tt
comes_by p n (Behind q) le h = omega (arith, h, le)

may_by : (p n : ℕ) (x : Option FramePlace) → p ≤ n → MayBe (ComesBefore p) x → MayBe (ComesBefore n) x
unfolding MayBe
may_by p n None le h = tt
may_by p n (Some x) le h = comes_by p n x le h

-- what a picture reads stands behind pictures that there are
pub forward_exists : (hs : Headers) (p : ℕ) (r : Reads) → p < length hs → r ≡ read_by hs p → MayBe (ComesBefore (length hs)) r.forward
forward_exists hs p r lt e = subst (λ (x : Reads). MayBe (ComesBefore (length hs)) x.forward) (sym e) (may_by p (length hs) (read_by hs p).forward (omega (arith, lt)) (reads_before hs p).forward)

pub other_exists : (hs : Headers) (p : ℕ) (r : Reads) → p < length hs → r ≡ read_by hs p → MayBe (ComesBefore (length hs)) r.other
other_exists hs p r lt e = subst (λ (x : Reads). MayBe (ComesBefore (length hs)) x.other) (sym e) (may_by p (length hs) (read_by hs p).other (omega (arith, lt)) (reads_before hs p).other)

pub needs_are : (hs : Headers) (j p : ℕ) (r : Reads) (a m b n : ℕ) → p ≡ picture_of_job hs j → r ≡ read_by hs p → jobs_at hs r.forward ≡ range_with_len a m → jobs_at hs r.other ≡ range_with_len b n
    → needs_of hs j ≡ range_with_len a m ++ range_with_len b n
unfolding needs_of
needs_are hs j p r a m b n e f g h =
    let is : r ≡ read_by hs (picture_of_job hs j) = f ∙ ap (read_by hs) e in
    ap (λ (x : Reads). jobs_at hs x.forward ++ jobs_at hs x.other) (sym is) ∙ ap (λ (l : List ℕ). l ++ jobs_at hs r.other) g ∙ ap (λ (l : List ℕ). range_with_len a m ++ l) h

pub needs_count : (xs : List ℕ) (a m b n : ℕ) → xs ≡ range_with_len a m ++ range_with_len b n → length xs ≡ m + n
needs_count xs a m b n e =
    omega (arith, ap (λ (l : List ℕ). length l) e, length-append (range_with_len a m) (range_with_len b n), length-range_with_len a m, length-range_with_len b n)
