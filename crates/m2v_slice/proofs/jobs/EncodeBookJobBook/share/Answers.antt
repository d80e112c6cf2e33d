use Rattle.std.proofs.Common.{sym, subst}
use Rattle.m2v_plane.specs.declared.dims.Dims.{Dims}
use Rattle.m2v_slice.specs.Jobs.{HasDims}
use Rattle.m2v_slice.proofs.Fitting.{shared_slice_fits, piece_slice_fits, text_small}
use Rattle.m2v_slice.proofs.jobs.EncodeBookJobBook.share.Goals as goal

pub share_slice-requires-clause-slice : goal.share_slice-requires-clause-slice
share_slice-requires-clause-slice c =
    let h = piece_slice_fits c.args.self.now c.args.j c.args.piece.now c.in-Slice.out c.in-Slice.is c.requires.piece in
    (shared_slice_fits c.args.self.now c.args.j c.args.into.now h.0 c.requires.into).0

pub share_slice-requires-clause-same : goal.share_slice-requires-clause-same
share_slice-requires-clause-same c =
    let h = piece_slice_fits c.args.self.now c.args.j c.args.piece.now c.in-Slice.out c.in-Slice.is c.requires.piece in
    subst (λ (d : Dims). HasDims d c.args.into.now) (sym h.1) (shared_slice_fits c.args.self.now c.args.j c.args.into.now h.0 c.requires.into).1

pub share_slice-requires-clause-few : goal.share_slice-requires-clause-few
share_slice-requires-clause-few c =
    let h = piece_slice_fits c.args.self.now c.args.j c.args.piece.now c.in-Slice.out c.in-Slice.is c.requires.piece in
    text_small c.args.self.now c.pictures-book.ensures.book _ h.2
