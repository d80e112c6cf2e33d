use Rattle.std.proofs.Common.{◌+◌, ◌<◌, ◌∙◌, ap, arith}
use Rattle.m2v_plane.specs.Samples.{Samples}
use Rattle.m2v_dec_batch.specs.declared.picture.Header.{Header}
use Rattle.m2v_dec_batch.specs.Jobs.{header_at, first_job, jobs_of}
use Rattle.m2v_dec_batch.specs.Batches.{Batch, headers, with_own}
use Rattle.m2v_dec_batch.specs.Painted.{all_rows}
use Rattle.m2v_dec_batch.specs.Pieces.{row_of}
use Rattle.m2v_dec_batch.proofs.FrameSizes.{rows_size}
use Rattle.m2v_dec_batch.proofs.BehindFrames.{row_job, row_room, row_size, row_made, none_yet, row_next}
use Rattle.m2v_dec_batch.proofs.book.DecodeBook.set_picture.Goals as goal

pub loop-r-init : goal.loop-r-init
loop-r-init c =
    let hs = headers c.args.self.now in
    record { size = c.requires.size; value = none_yet (header_at hs c.args.p) (all_rows c.args.self.now) (first_job hs c.args.p) c.args.frame.now }

pub piece-requires-after_bounds : goal.piece-requires-after_bounds
piece-requires-after_bounds c κs =
    let b = c.args.self.now in
    let small : c.loop-r.r < (header_at (headers b) c.args.p).rows = omega (arith, ap (λ (h : Header). h.rows) c.header-header.ensures.value, c.loop-r-test.true) in
    omega (arith, row_job b c.args.p c.loop-r.r c.pictures-pictures.ensures.batch c.requires.picture small, c.first_job-first.ensures.value, ap (λ (x : Batch). jobs_of (headers x)) c.requires.done)

pub set_piece-requires-clause-row : goal.set_piece-requires-clause-row
set_piece-requires-clause-row c =
    row_room c.args.self.now c.args.p c.loop-r.r c.header-header.result c.loop-r.frame.dims c.pictures-pictures.ensures.batch c.header-header.ensures.value c.loop-r.invariant.size c.loop-r-test.true

pub set_piece-requires-clause-same : goal.set_piece-requires-clause-same
set_piece-requires-clause-same c =
    row_size c.args.self.now c.args.done.now (c.first_job-first.result + c.loop-r.r) c.piece.result.now c.loop-r.frame.dims c.pictures-pictures.ensures.batch c.requires.done c.loop-r.invariant.size c.piece.ensures

pub loop-r-preserved : goal.loop-r-preserved
loop-r-preserved c =
    let b = c.args.self.now in
    let hs = headers b in
    let h = header_at hs c.args.p in
    let from = first_job hs c.args.p in
    let start = c.args.frame.now in
    let row = row_of c.piece.result.now in
    let made = row_made b c.args.done.now (c.first_job-first.result + c.loop-r.r) (from + c.loop-r.r) c.piece.result.now c.requires.done (ap (λ k. k + c.loop-r.r) c.first_job-first.ensures.value) c.piece.ensures in
    let is = c.set_piece.ensures.value
    ∙ ap (λ (x : Header). with_own x c.loop-r.r row c.loop-r.frame) c.header-header.ensures.value
    ∙ row_next h (all_rows b) from c.loop-r.r start c.loop-r.frame row c.loop-r.invariant.value made in
    record { size = ap (λ (s : Samples). s.dims) is ∙ rows_size h (all_rows b) from (c.loop-r.r + 1) start ∙ c.requires.size; value = is }
