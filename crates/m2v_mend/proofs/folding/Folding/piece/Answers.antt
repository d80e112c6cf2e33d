use Rattle.m2v_decode.specs.Decoding.{whole_of}
use Rattle.m2v_mend.proofs.FoldLaws.{folded_piece}
use Rattle.m2v_mend.proofs.folding.Folding.piece.Goals as goal

pub returns-clause-told : goal.returns-clause-told
returns-clause-told c written listed g f n =
    let m = c.new-member.result in
    let is = c.new-member.ensures.is in
    folded_piece written listed g c.args.self.now c.with_member.new.self c.args.piece m c.begins_step-begins.result c.waits_behind-waiting.result c.new-member.ensures.piece f.waiting n
    (c.begins_step-begins.ensures (whole_of m.piece) is.info)
    (c.waits_behind-waiting.ensures (whole_of m.piece) is.info)
    (λ next begins. c.in_ok-with_member.ensures.told written listed g f next begins)
