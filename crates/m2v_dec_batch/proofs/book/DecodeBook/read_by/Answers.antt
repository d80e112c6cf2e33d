use Rattle.std.proofs.Common.{◌∙◌, ap}
use Rattle.m2v_dec_rows.specs.m2v_dec_picture.Frames.{forward_top, forward_bottom, backward_frame}
use Rattle.m2v_dec_batch.specs.declared.picture.Header.{Header}
use Rattle.m2v_dec_batch.specs.Batches.{reading_of}
use Rattle.m2v_dec_batch.proofs.RowViews.{opened_is, row_is, blank_is, holds_forward, holds_backward, row_read}
use Rattle.m2v_dec_batch.proofs.book.DecodeBook.read_by.Goals as goal

pub read_piece-requires-clause-opened : goal.read_piece-requires-clause-opened
read_piece-requires-clause-opened c = opened_is c.args.self.now c.args.p c.picture.result.now c.dims-2.ensures.batch c.picture.ensures.value

pub read_piece-requires-clause-row : goal.read_piece-requires-clause-row
read_piece-requires-clause-row c = row_is c.args.self.now c.args.p c.picture.result.now c.dims-2.ensures.batch c.picture.ensures.value c.args.r c.requires.row

pub read_piece-requires-clause-blank : goal.read_piece-requires-clause-blank
read_piece-requires-clause-blank c = blank_is c.args.self.now c.args.p c.picture.result.now c.dims-2.ensures.batch c.picture.ensures.value c.args.row c.requires.blank

pub read_piece-requires-clause-forward : goal.read_piece-requires-clause-forward
read_piece-requires-clause-forward c =
    let older = c.as_ref-older.ensures.value in
    let newer = c.as_ref-newer.ensures.value in
    let first = c.as_ref-first.ensures.value in
    let reading = c.reading_of-reading.result in
    holds_forward c.args.self.now c.args.p c.picture.result.now c.dims-2.ensures.batch c.picture.ensures.value c.args.older.now c.args.newer.now c.args.first.now c.forward_view-forward.result _ reading
    c.requires.decoded (c.reading_of-reading.ensures.value ∙ ap (λ (h : Header). reading_of h) c.header.ensures.value) c.dims.ensures.value c.forward_view-forward.ensures.dims
    (c.forward_view-forward.ensures.top ∙ (λ i. forward_top reading (older i) (newer i) (first i)))
    (c.forward_view-forward.ensures.bottom ∙ (λ i. forward_bottom reading (older i) (newer i) (first i)))

pub read_piece-requires-clause-backward : goal.read_piece-requires-clause-backward
read_piece-requires-clause-backward c =
    let newer = ap (backward_frame c.reading_of-reading.result) c.as_ref-newer.ensures.value in
    holds_backward c.args.self.now c.args.p c.picture.result.now c.dims-2.ensures.batch c.picture.ensures.value c.args.older.now c.args.newer.now c.args.first.now c.backward_view-backward.result _ c.reading_of-reading.result
    c.requires.decoded (c.reading_of-reading.ensures.value ∙ ap (λ (h : Header). reading_of h) c.header.ensures.value) c.dims-2.ensures.value c.backward_view-backward.ensures.dims
    (c.backward_view-backward.ensures.top ∙ newer) (c.backward_view-backward.ensures.bottom ∙ newer)

pub returns : goal.returns
returns c =
    let older = c.as_ref-older.ensures.value in
    let newer = c.as_ref-newer.ensures.value in
    let first = c.as_ref-first.ensures.value in
    let reading = c.reading_of-reading.result in
    let back = ap (backward_frame reading) newer in
    record {
      value = row_read c.args.self.now c.args.p c.picture.result.now c.dims-2.ensures.batch c.picture.ensures.value c.args.older.now c.args.newer.now c.args.first.now c.forward_view-forward.result c.backward_view-backward.result
          reading c.args.r c.read_piece.result (c.reading_of-reading.ensures.value ∙ ap (λ (h : Header). reading_of h) c.header.ensures.value)
          (c.forward_view-forward.ensures.top ∙ (λ i. forward_top reading (older i) (newer i) (first i)))
          (c.forward_view-forward.ensures.bottom ∙ (λ i. forward_bottom reading (older i) (newer i) (first i)))
          (c.backward_view-backward.ensures.top ∙ back) (c.backward_view-backward.ensures.bottom ∙ back) c.read_piece.ensures.value;
    }
