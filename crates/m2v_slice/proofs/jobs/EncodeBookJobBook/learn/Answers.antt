use Rattle.std.proofs.Common.{◌-◌, ◌<◌, sym, subst, ◌∙◌, arith}
use Rattle.m2v_slice.specs.Jobs.{FitsCache}
use Rattle.m2v_slice.proofs.Learned.{IsSliceJob}
use Rattle.m2v_slice.proofs.Fitting.{need_dims, slice_needs_few, fits_plan, fits_bits, fits_row, row_dims, learned_first, learned_bits, learned_row}
use Rattle.m2v_slice.proofs.jobs.EncodeBookJobBook.learn.Goals as goal

pub learn_row-requires-clause-place : goal.learn_row-requires-clause-place
learn_row-requires-clause-place c =
    let is : IsSliceJob c.args.self.now c.args.j = λ e. c.if-part_of_job-eq0.false (c.part_of_job.ensures.value ∙ e) in
    omega (arith, slice_needs_few c.args.self.now c.args.j is, c.requires.at, c.requires.cache.room, c.if-at-eq0.false)

pub learn_row-requires-clause-same : goal.learn_row-requires-clause-same
learn_row-requires-clause-same c =
    let b = c.args.self.now in
    let is : IsSliceJob b c.args.j = λ e. c.if-part_of_job-eq0.false (c.part_of_job.ensures.value ∙ e) in
    let place : c.args.at - 1 < 12 = omega (arith, slice_needs_few b c.args.j is, c.requires.at, c.if-at-eq0.false) in
    row_dims b (c.args.at - 1) c.args.part.now c.args.cache.now place
    (need_dims b c.pictures-book.ensures.book c.args.j c.args.at c.args.part.now c.requires.job c.requires.at c.requires.part) c.requires.cache

pub returns-then-at-eq0-clause-fits : goal.returns-then-at-eq0-clause-fits
returns-then-at-eq0-clause-fits c =
    subst (FitsCache c.args.self.now) (sym c.learn_plan.ensures.value) (fits_plan c.args.self.now c.args.part.now c.args.cache.now c.requires.cache)

pub returns-then-at-eq0-clause-learned : goal.returns-then-at-eq0-clause-learned
returns-then-at-eq0-clause-learned c =
    c.learn_plan.ensures.value ∙ learned_first c.args.self.now c.args.j c.args.at c.args.part.now c.args.cache.now c.if-at-eq0.true

pub returns-then-part_of_job-eq0-clause-fits : goal.returns-then-part_of_job-eq0-clause-fits
returns-then-part_of_job-eq0-clause-fits c =
    subst (FitsCache c.args.self.now) (sym c.learn_bits.ensures.value) (fits_bits c.args.self.now c.args.part.now c.args.cache.now c.requires.cache)

pub returns-then-part_of_job-eq0-clause-learned : goal.returns-then-part_of_job-eq0-clause-learned
returns-then-part_of_job-eq0-clause-learned c =
    c.learn_bits.ensures.value
    ∙ learned_bits c.args.self.now c.args.j c.args.at c.args.part.now c.args.cache.now c.if-at-eq0.false (sym c.part_of_job.ensures.value ∙ c.if-part_of_job-eq0.true)

pub returns-else-part_of_job-eq0-clause-fits : goal.returns-else-part_of_job-eq0-clause-fits
returns-else-part_of_job-eq0-clause-fits c =
    let b = c.args.self.now in
    let is : IsSliceJob b c.args.j = λ e. c.if-part_of_job-eq0.false (c.part_of_job.ensures.value ∙ e) in
    let place : c.args.at - 1 < 12 = omega (arith, slice_needs_few b c.args.j is, c.requires.at, c.if-at-eq0.false) in
    subst (FitsCache b) (sym c.learn_row.ensures.value)
    (fits_row b (c.args.at - 1) c.args.part.now c.args.cache.now place
    (need_dims b c.pictures-book.ensures.book c.args.j c.args.at c.args.part.now c.requires.job c.requires.at c.requires.part) c.requires.cache)

pub returns-else-part_of_job-eq0-clause-learned : goal.returns-else-part_of_job-eq0-clause-learned
returns-else-part_of_job-eq0-clause-learned c =
    let is : IsSliceJob c.args.self.now c.args.j = λ e. c.if-part_of_job-eq0.false (c.part_of_job.ensures.value ∙ e) in
    c.learn_row.ensures.value ∙ learned_row c.args.self.now c.args.j c.args.at c.args.part.now c.args.cache.now c.if-at-eq0.false is
