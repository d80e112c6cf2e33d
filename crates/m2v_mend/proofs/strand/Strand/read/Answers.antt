use Rattle.std.proofs.Common.{Option, map, ◌+◌, sym, ap, subst, ◌∙◌}
use Rattle.m2v_decode.specs.m2v_dec_piece.declared.answer.Piece.{Piece}
use Rattle.m2v_decode.specs.Decoding.{whole_of}
use Rattle.m2v_law_seam.specs.Spans.{units_of}
use Rattle.m2v_law_seam.specs.Strands.{last_open}
use Rattle.m2v_mend.specs.declared.refusal.Refusal.{Refusal}
use Rattle.m2v_mend.specs.Strand.{Told}
use Rattle.m2v_mend.proofs.Closing.{last_open_is, last_end_is, all_bytes}
use Rattle.m2v_mend.proofs.Parting.{in_map, last_map}
use Rattle.m2v_mend.proofs.Answered.{told_walked, told_halted, told_open}
use Rattle.m2v_mend.proofs.strand.Strand.read.Goals as goal

pub returns-then-is_open-clause-told : goal.returns-then-is_open-clause-told
returns-then-is_open-clause-told g c =
    let own = g.P.HasPiece.own_piece in
    let ps = map own c.args.pieces.now in
    let item = c.in-Some.ensures.item in
    let some = in_map own c.args.pieces.now 0 item.3.0 in
    let last = last_map own c.args.pieces.now c.in-Some.last.now item.3.0 item.1 in
    λ bytes at go. told_open c.args.self.now c.args.self.now c.args.first.now bytes ps at go (last_open_is ps (own c.in-Some.last.now) some last go.pieces ∙ ap (λ (p : Piece). last_open (units_of (whole_of p))) (sym c.as_piece-last.ensures) ∙ sym c.is_open.ensures ∙ c.if-is_open.true)

pub returns-in-Some-2-clause-told : goal.returns-in-Some-2-clause-told
returns-in-Some-2-clause-told g c =
    let own = g.P.HasPiece.own_piece in
    let ps = map own c.args.pieces.now in
    let item = c.in-Some.ensures.item in
    let some = in_map own c.args.pieces.now 0 item.3.0 in
    let last = last_map own c.args.pieces.now c.in-Some.last.now item.3.0 item.1 in
    let told = rw c.in-Some-2.is at c.in_ok-fault.ensures.told in
    λ bytes at go.
    told_halted c.args.self.now c.args.self.now c.args.first.now bytes ps c.in-Some-2.fault at go (last_open_is ps (own c.in-Some.last.now) some last go.pieces ∙ ap (λ (p : Piece). last_open (units_of (whole_of p))) (sym c.as_piece-last.ensures) ∙ sym c.is_open.ensures ∙ c.if-is_open.false)
    (told at.decoder at.follows)

pub returns-in-None-clause-told : goal.returns-in-None-clause-told
returns-in-None-clause-told g c =
    let own = g.P.HasPiece.own_piece in
    let ps = map own c.args.pieces.now in
    let item = c.in-Some.ensures.item in
    let some = in_map own c.args.pieces.now 0 item.3.0 in
    let last = last_map own c.args.pieces.now c.in-Some.last.now item.3.0 item.1 in
    let told = rw c.in-None.is at c.in_ok-fault.ensures.told in
    λ bytes at go.
    subst (λ (o : Option Refusal). Told at.decoder c.args.self.now c.args.first.now bytes ps o c.pieces.new.self) (sym c.refusal.ensures)
    (told_walked c.args.self.now c.pieces.new.self c.args.first.now bytes ps _ at go (last_open_is ps (own c.in-Some.last.now) some last go.pieces ∙ ap (λ (p : Piece). last_open (units_of (whole_of p))) (sym c.as_piece-last.ensures) ∙ sym c.is_open.ensures ∙ c.if-is_open.false)
    (ap (λ (p : Piece). p.place + p.length) c.as_piece-last.ensures ∙ last_end_is ps (own c.in-Some.last.now) some last c.requires.pieces) (all_bytes ps c.requires.pieces) (told at.decoder at.follows))
