use Rattle.std.proofs.Common.{ℕ, zero, suc, ◌≤◌, ◌<◌, ◌+◌, ◌≡◌, sym, ap, arith, inl, inr, length}
use Rattle.std.proofs.lemmas.Bool.{cases_eq}
use Rattle.m2v_dec_batch.specs.Jobs.{Headers, first_job}
use Rattle.m2v_dec_batch.specs.Batches.{headers}
use Rattle.m2v_dec_batch.specs.Below.{some_pictures, first_none}
use Rattle.m2v_dec_batch.proofs.Sizes.{picture_found}
use Rattle.m2v_dec_batch.proofs.book.DecodeBook.picture_of_job.Goals as goal

pub loop-p-init : goal.loop-p-init
loop-p-init c = record {
  low = omega (arith, c.pictures-p.ensures.value);
  before = (some_pictures (headers c.args.self.now) c.args.j c.requires.job).1;
  over = λ lt. absurd (omega (arith, lt, c.pictures-p.ensures.value));
}

some_left : (hs : Headers) (p jobs j : ℕ) → jobs ≡ first_job hs p → j < jobs → 1 ≤ p
some_left hs p jobs j is lt = by_place p is
  where
    by_place : (q : ℕ) → jobs ≡ first_job hs q → 1 ≤ q
    by_place zero e = absurd (omega (arith, e, first_none hs, lt))
    by_place (suc q) e = omega arith

pub overflow_sub-p : goal.overflow_sub-p
overflow_sub-p c = some_left (headers c.args.self.now) c.loop-p.p c.before-in-loop-p.result.jobs c.args.j c.before-in-loop-p.ensures.value.jobs c.loop-p-test.true

pub loop-p-smaller : goal.loop-p-smaller
loop-p-smaller c =
    omega (arith, some_left (headers c.args.self.now) c.loop-p.p c.before-in-loop-p.result.jobs c.args.j c.before-in-loop-p.ensures.value.jobs c.loop-p-test.true)

pub returns-clause-value : goal.returns-clause-value
returns-clause-value c =
    let hs = headers c.args.self.now in
    let p = c.loop-p.p in
    let is = c.before-in-loop-p.ensures.value.jobs in
    let there : p < length hs = within hs p c.before-in-loop-p.result.jobs c.args.j is c.loop-p.invariant.low c.loop-p.invariant.before c.loop-p-test.false in
    let next : p + 1 ≡ suc p = omega arith in
    sym (picture_found hs (length hs) p c.args.j there (omega (arith, is, c.loop-p-test.false)) (omega (arith, c.loop-p.invariant.over there, ap (first_job hs) next)))
  where
    within : (hs : Headers) (p first j : ℕ) → first ≡ first_job hs p → p ≤ length hs → j < first_job hs (length hs) → first ≤ j → p < length hs
    within hs p first j is le lt small = elim (cases_eq p (length hs)) [
      | inl e ↦ absurd (omega (arith, ap (first_job hs) e, is, lt, small))
      | inr n ↦ omega (arith, n, le)
    ]
