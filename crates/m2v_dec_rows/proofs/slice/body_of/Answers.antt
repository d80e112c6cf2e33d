use Rattle.std.proofs.Common.{◌-◌, ◌∙◌, length, ap, sym, arith}
use Rattle.std.specs.Prelude.{vec_len}
use Rattle.m2v_model.specs.Units.{body}
use Rattle.m2v_dec_rows.proofs.Bytes.{unit_is, body_long}
use Rattle.m2v_dec_rows.proofs.slice.body_of.Goals as goal

pub returns-clause-rest : goal.returns-clause-rest
returns-clause-rest c =
    let p = c.args.piece.now in
    let u = c.args.u.now in
    let kept = c.kept-bytes.result.now in
    let stands = c.requires.stands in
    let sound = c.requires.sound in
    c.body.ensures.rest
    ∙ ap body (c.new.ensures
    ∙ unit_is p.bytes.items (p.length - vec_len p.bytes) (u.place - p.place) u.length kept
    (omega (arith, stands.kept, p.bytes.ok.0)) (omega (arith, stands.kept, stands.behind, stands.end, sound.kept, p.bytes.ok.0)) c.kept-bytes.ensures.value)

pub returns-clause-text : goal.returns-clause-text
returns-clause-text c = c.body.ensures.text ∙ sym c.body.ensures.rest ∙ returns-clause-rest c

pub returns-clause-long : goal.returns-clause-long
returns-clause-long c =
    let u = c.args.u.now in
    let kept = c.kept-bytes.result.now in
    let long = body_long kept (u.length - length kept) c.kept-bytes.ensures.code in
    let same = ap length (c.body.ensures.text ∙ ap body c.new.ensures) in
    omega (arith, long, same, c.kept-bytes.ensures.most)
