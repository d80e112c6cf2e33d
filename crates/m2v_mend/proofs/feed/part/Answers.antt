use Rattle.std.proofs.Common.{refl, ap, ◌∙◌, List, ℕ, ◌+◌, take, drop}
use Rattle.m2v_decode.specs.m2v_dec_piece.declared.answer.Piece.{Piece}
use Rattle.m2v_mend.proofs.PartLaws.{part_is, part_room}
use Rattle.m2v_mend.proofs.feed.part.Goals as goal

pub returns-clause-whole : goal.returns-clause-whole
returns-clause-whole c = part_is c.args.piece.now _ c.args.before c.args.own c.requires.sound c.requires.within c.requires.some (c.in_ok-bytes.ensures ∙ ap (λ (l : List ℕ). take c.args.own (drop c.args.before l)) c.deref.ensures.value) refl refl

pub returns-clause-zeros : goal.returns-clause-zeros
returns-clause-zeros c =
    let p = c.args.piece.now in
    let q : Piece = record { bytes = c.in_ok-bytes.bytes; place = p.place + c.args.before; length = c.args.own } in
    part_room p q c.args.before c.args.own c.requires.within (c.in_ok-bytes.ensures ∙ ap (λ (l : List ℕ). take c.args.own (drop c.args.before l)) c.deref.ensures.value) refl
