use Rattle.std.proofs.Common.{◌≡◌, ◌-◌, ap, arith}
use Rattle.m2v_slice.specs.Books.{part_of_job}
use Rattle.m2v_slice.proofs.Fitting.{piece_slice_fits}
use Rattle.m2v_slice.proofs.Worked.{plan_fits, fits_plan_piece, fits_slice_piece, plan_known, slice_known, plan_value, slice_place, slice_value}
use Rattle.m2v_slice.proofs.jobs.EncodeBookJobBook.work.Goals as goal

pub plan_picture-requires-clause-learned : goal.plan_picture-requires-clause-learned
plan_picture-requires-clause-learned c =
    let part = plan_fits c.args.self.now c.args.j c.args.out.now c.in-Plan.plan c.in-Plan.ledger c.in-Plan.is c.requires.fits in
    plan_known c.args.self.now c.pictures-book.ensures.book c.args.j c.picture_of_job-p.result c.args.cache.now c.requires.job c.picture_of_job-p.ensures.value part c.requires.learned

pub overflow_sub-part : goal.overflow_sub-part
overflow_sub-part c =
    let h = piece_slice_fits c.args.self.now c.args.j c.args.out.now c.in-Slice.out c.in-Slice.is c.requires.fits in
    let some : part_of_job c.args.self.now c.args.j ≡ 0 → ⊥ = h.0 in
    omega (arith, some, c.part_of_job-part.ensures.value)

pub code_picture_slice-requires-clause-row : goal.code_picture_slice-requires-clause-row
code_picture_slice-requires-clause-row c =
    let h = piece_slice_fits c.args.self.now c.args.j c.args.out.now c.in-Slice.out c.in-Slice.is c.requires.fits in
    let some : part_of_job c.args.self.now c.args.j ≡ 0 → ⊥ = h.0 in
    omega (arith, some, c.part_of_job-part.ensures.value, c.part_of_job-part.ensures.most)

pub code_picture_slice-requires-clause-learned : goal.code_picture_slice-requires-clause-learned
code_picture_slice-requires-clause-learned c =
    let h = piece_slice_fits c.args.self.now c.args.j c.args.out.now c.in-Slice.out c.in-Slice.is c.requires.fits in
    slice_known c.args.self.now c.pictures-book.ensures.book c.args.j c.picture_of_job-p.result (c.part_of_job-part.result - 1) c.args.cache.now c.requires.job
    c.picture_of_job-p.ensures.value (ap (λ n. n - 1) c.part_of_job-part.ensures.value) h.0 c.requires.learned

pub code_picture_slice-requires-clause-size : goal.code_picture_slice-requires-clause-size
code_picture_slice-requires-clause-size c =
    (piece_slice_fits c.args.self.now c.args.j c.args.out.now c.in-Slice.out c.in-Slice.is c.requires.fits).1

pub returns-in-Plan-clause-fits : goal.returns-in-Plan-clause-fits
returns-in-Plan-clause-fits c =
    let part = plan_fits c.args.self.now c.args.j c.args.out.now c.in-Plan.plan c.in-Plan.ledger c.in-Plan.is c.requires.fits in
    fits_plan_piece c.args.self.now c.args.j _ _ part

pub returns-in-Plan-clause-value : goal.returns-in-Plan-clause-value
returns-in-Plan-clause-value c =
    let part = plan_fits c.args.self.now c.args.j c.args.out.now c.in-Plan.plan c.in-Plan.ledger c.in-Plan.is c.requires.fits in
    plan_value c.args.self.now c.args.j c.picture_of_job-p.result _ _ c.picture_of_job-p.ensures.value part c.plan_picture.ensures.plan c.plan_picture.ensures.ledger

pub returns-in-Slice-clause-fits : goal.returns-in-Slice-clause-fits
returns-in-Slice-clause-fits c =
    let b = c.args.self.now in
    let h = piece_slice_fits b c.args.j c.args.out.now c.in-Slice.out c.in-Slice.is c.requires.fits in
    fits_slice_piece b c.pictures-book.ensures.book c.args.j _ c.requires.job h.0
    (slice_place b c.args.j c.picture_of_job-p.result (c.part_of_job-part.result - 1) _ c.picture_of_job-p.ensures.value (ap (λ n. n - 1) c.part_of_job-part.ensures.value) c.code_picture_slice.ensures.value)
    c.code_picture_slice.ensures.few

pub returns-in-Slice-clause-value : goal.returns-in-Slice-clause-value
returns-in-Slice-clause-value c =
    let b = c.args.self.now in
    let h = piece_slice_fits b c.args.j c.args.out.now c.in-Slice.out c.in-Slice.is c.requires.fits in
    slice_value b c.args.j c.picture_of_job-p.result (c.part_of_job-part.result - 1) _ c.picture_of_job-p.ensures.value (ap (λ n. n - 1) c.part_of_job-part.ensures.value) h.0 c.code_picture_slice.ensures.value
