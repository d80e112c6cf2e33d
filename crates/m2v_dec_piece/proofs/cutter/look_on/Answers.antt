use Rattle.std.proofs.Common.{Option, Some, None, subst, arith}
use Rattle.m2v_dec_piece.specs.declared.cutter.Stand.{Stand}
use Rattle.m2v_dec_piece.specs.Stepping.{Rounded}
use Rattle.m2v_dec_piece.proofs.Stands.{advanced_on, looked_on, fails_on, round_spends}
use Rattle.m2v_dec_piece.proofs.cutter.look_on.Goals as goal

pub loop-stand-preserved : goal.loop-stand-preserved
loop-stand-preserved g c =
    let left = g.S.Source.left in
    let l = c.loop-stand in
    let n = c.round.new in
    let r : Rounded None l.hand l.chunk (left l.input) n.hand n.chunk (left n.input) = subst (λ (o : Option Stand). Rounded o l.hand l.chunk (left l.input) n.hand n.chunk (left n.input)) c.in-Ok-None.field-0-is c.in-Ok-None.ensures.ok in (
      advanced_on c.args.hand.now l.hand c.args.chunk.now l.chunk (left c.args.input.now) (left l.input) l.invariant.0 n.hand n.chunk (left n.input) r.0,
      omega (arith, l.invariant.1, c.round.ensures.faults),
      round_spends None c.args.hand.now l.hand n.hand c.args.chunk.now l.chunk n.chunk (left c.args.input.now) (left l.input) (left n.input) l.invariant.2 r c.in-Ok-None.ensures.taken,
    )

pub returns-in-Ok-Some-clause-ok : goal.returns-in-Ok-Some-clause-ok
returns-in-Ok-Some-clause-ok g c =
    let left = g.S.Source.left in
    let l = c.loop-stand in
    let n = c.round.new in
    let r = c.in-Ok-Some.ensures.ok in
    looked_on c.args.hand.now l.hand c.args.chunk.now l.chunk (left c.args.input.now) (left l.input) l.invariant.0 c.in-Ok-Some.stand n.hand n.chunk (left n.input) (subst (λ (o : Option Stand). Rounded o l.hand l.chunk (left l.input) n.hand n.chunk (left n.input)) c.in-Ok-Some.field-0-is r)

pub returns-in-Err-clause-err : goal.returns-in-Err-clause-err
returns-in-Err-clause-err g c =
    let left = g.S.Source.left in
    let l = c.loop-stand in
    let n = c.round.new in
    fails_on c.args.hand.now l.hand c.args.chunk.now l.chunk (left c.args.input.now) (left l.input) l.invariant.0 (left n.input) c.in-Err.e c.in-Err.ensures.err

pub returns-in-Ok-Some-clause-taken : goal.returns-in-Ok-Some-clause-taken
returns-in-Ok-Some-clause-taken g c =
    let left = g.S.Source.left in
    let l = c.loop-stand in
    let n = c.round.new in
    let r = subst (λ (o : Option Stand). Rounded o l.hand l.chunk (left l.input) n.hand n.chunk (left n.input)) c.in-Ok-Some.field-0-is c.in-Ok-Some.ensures.ok in
    round_spends (Some c.in-Ok-Some.stand) c.args.hand.now l.hand n.hand c.args.chunk.now l.chunk n.chunk (left c.args.input.now) (left l.input) (left n.input) l.invariant.2 r c.in-Ok-Some.ensures.taken
