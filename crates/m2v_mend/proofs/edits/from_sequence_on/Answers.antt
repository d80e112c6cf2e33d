use Rattle.std.proofs.Common.{◌+◌, ◌-◌, length, refl, ap, ◌∙◌}
use Rattle.m2v_model.specs.Units.{Units}
use Rattle.m2v_model.specs.Pieces.{before_sequence}
use Rattle.m2v_decode.specs.m2v_dec_piece.declared.answer.Piece.{Piece}
use Rattle.m2v_mend.proofs.FrontLaws.{header_within, from_header}
use Rattle.m2v_mend.proofs.edits.from_sequence_on.Goals as goal

pub split_off-requires : goal.split_off-requires
split_off-requires c =
    header_within c.args.piece.now c.before_header-before.result c.requires.units c.requires.header (c.before_header-before.ensures ∙ ap (λ (us : Units). length (before_sequence us)) c.units.ensures.value)

pub returns-clause-sound : goal.returns-clause-sound
returns-clause-sound c =
    let n = c.before_header-before.result in
    let q : Piece = record { bytes = c.in_ok-bytes.bytes; place = c.args.piece.now.place + n; length = c.args.piece.now.length - n } in
    (from_header c.args.piece.now q n c.requires.sound c.requires.units c.requires.header (c.before_header-before.ensures ∙ ap (λ (us : Units). length (before_sequence us)) c.units.ensures.value)
    c.in_ok-bytes.ensures.tail c.in_ok-bytes.ensures.tail_len refl refl).0

pub returns-clause-front : goal.returns-clause-front
returns-clause-front c =
    let n = c.before_header-before.result in
    let q : Piece = record { bytes = c.in_ok-bytes.bytes; place = c.args.piece.now.place + n; length = c.args.piece.now.length - n } in
    (from_header c.args.piece.now q n c.requires.sound c.requires.units c.requires.header (c.before_header-before.ensures ∙ ap (λ (us : Units). length (before_sequence us)) c.units.ensures.value)
    c.in_ok-bytes.ensures.tail c.in_ok-bytes.ensures.tail_len refl refl).1
