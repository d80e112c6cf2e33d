use Rattle.std.proofs.Common.{sym, subst}
use Rattle.m2v_decode.specs.m2v_dec_piece.declared.answer.Piece.{Piece}
use Rattle.m2v_decode.specs.Decoding.{whole_of}
use Rattle.m2v_law_group.specs.Groups.{to_end}
use Rattle.m2v_law_seam.specs.Spans.{units_of}
use Rattle.m2v_mend.specs.Feeding.{IsBare, KeepsZeros}
use Rattle.m2v_mend.specs.Telling.{IsCounted}
use Rattle.m2v_mend.proofs.FedLaws.{counted_bare}
use Rattle.m2v_mend.proofs.feed.fresh_of.Goals as goal

pub of-requires : goal.of-requires
of-requires c =
    let bare = subst (λ (p : Piece). IsBare c.in_ok-bare.bare p.place (whole_of p)) c.into_piece.ensures c.in_ok-bare.ensures.bare in
    let counted = subst (λ (p : Piece). IsCounted (to_end (units_of (whole_of p))) c.measured-extent.result.counted) c.piece.ensures c.measured-extent.ensures.counted in
    counted_bare c.in_ok-bare.bare c.args.piece.place (whole_of c.args.piece) c.measured-extent.result.counted bare counted

pub returns-clause-zeros : goal.returns-clause-zeros
returns-clause-zeros c =
    let zeros = subst (λ (p : Piece). KeepsZeros p c.in_ok-bare.bare) c.into_piece.ensures c.in_ok-bare.ensures.zeros in
    subst (KeepsZeros c.args.piece) (sym c.of.ensures) zeros
