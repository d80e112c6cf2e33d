use Rattle.m2v_encode.proofs.Pieces.{is_slice, no_plan_there}
use Rattle.m2v_encode.proofs.done.DoneGroup.slice.Goals as goal

pub unreachable-requires : goal.unreachable-requires
unreachable-requires c =
    let lt = rw (← c.self.view_is) at c.requires.picture in
    let small = rw (← c.self.view_is) at c.requires.row in
    no_plan_there c.self.inside.done c.args.p c.args.r c.self.inside.facts.rows c.piece.result.now c.in-Plan.plan c.in-Plan.ledger lt small c.self.invariant.lines c.piece.ensures c.in-Plan.is

pub returns : goal.returns
returns c =
    let lt = rw (← c.self.view_is) at c.requires.picture in
    let small = rw (← c.self.view_is) at c.requires.row in
    rw (← c.self.view_is) (record {
      value = is_slice c.self.inside.done c.args.p c.args.r c.self.inside.facts.rows c.piece.result.now c.in-Slice.out lt small c.self.invariant.lines c.piece.ensures c.in-Slice.is;
    })
