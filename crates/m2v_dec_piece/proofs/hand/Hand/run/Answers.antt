use Rattle.std.proofs.Common.{◌<◌, take, arith}
use Rattle.std.proofs.lemmas.List.{length-take-le}
use Rattle.m2v_dec_piece.proofs.AtOnce.{took_run}
use Rattle.m2v_dec_piece.proofs.hand.Hand.run.Goals as goal

pub returns-clause-took : goal.returns-clause-took
returns-clause-took c =
    let n = c.run_of-n.result in
    let some : 0 < c.room.result = omega (arith, c.if-n-eq0.false, c.run_of-n.ensures.most) in
    let len = length-take-le n c.args.bytes.now c.run_of-n.ensures.within in
    took_run c.args.self.now c.put_run.new.self (take n c.args.bytes.now) (c.room.ensures.ahead some) (c.room.ensures.begun some)
    c.run_of-n.ensures.run c.requires.fits (omega (arith, len, c.room.ensures.long some, c.run_of-n.ensures.most))
    (omega (arith, len, c.room.ensures.large some, c.run_of-n.ensures.most)) c.in_ok-put_run.ensures.ok
