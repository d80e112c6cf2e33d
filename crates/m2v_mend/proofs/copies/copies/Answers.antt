use Rattle.std.proofs.lemmas.List.Elements.{All-push}
use Rattle.m2v_decode.specs.m2v_dec_piece.Sound.{IsSoundPiece}
use Rattle.m2v_mend.proofs.CopyLaws.{copies_more, copies_all}
use Rattle.m2v_mend.proofs.copies.copies.Goals as goal

pub loop-member-preserved : goal.loop-member-preserved
loop-member-preserved c =
    let made = c.loop-member.copies.items in
    let inv = c.loop-member.invariant in
    rw c.in_ok-push.ensures.items
    (record {
      sound = All-push IsSoundPiece made c.in_ok-piece.piece inv.sound c.in_ok-piece.ensures.sound;
      continue = copies_more c.args.begun c.loop-member.behind c.args.low c.args.members.now made c.loop-member.member-index c.member-item.result c.in_ok-piece.piece c.loop-member-test.true c.member-item.is c.in_ok-piece.ensures.copy inv.continue;
    })

pub returns-clause-copies : goal.returns-clause-copies
returns-clause-copies c =
    copies_all c.args.begun c.loop-member.behind c.args.low c.args.members.now c.loop-member.copies.items c.loop-member.member-index c.loop-member-test.false c.loop-member.invariant.continue
