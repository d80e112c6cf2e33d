use Rattle.std.proofs.Common.{◌∙◌, ◌-◌, ◌*◌, ◌+◌, ℕ, ap}
use Rattle.m2v_slice.specs.Jobs.{value_of}
use Rattle.m2v_encode.proofs.Pieces.{is_ledger, no_slice_there}
use Rattle.m2v_encode.proofs.done.DoneGroup.planned.Goals as goal

pub unreachable-requires : goal.unreachable-requires
unreachable-requires c =
    let b = c.self.inside.done in
    let last = ap (λ (n : ℕ). value_of b ((n - 1) * (c.self.inside.facts.rows + 1))) (rw (← c.self.view_is) at c.pictures-last.ensures.value) in
    no_slice_there b c.self.invariant.book c.self.inside.facts.rows c.piece.result.now c.in-Slice.out c.self.invariant.lines (c.piece.ensures ∙ last) c.in-Slice.is

pub returns : goal.returns
returns c =
    let b = c.self.inside.done in
    let last = ap (λ (n : ℕ). value_of b ((n - 1) * (c.self.inside.facts.rows + 1))) (rw (← c.self.view_is) at c.pictures-last.ensures.value) in
    rw (← c.self.view_is) (record {
      value = is_ledger b c.self.invariant.book c.self.inside.facts.rows c.piece.result.now c.in-Plan.plan c.in-Plan.ledger c.self.invariant.lines (c.piece.ensures ∙ last) c.in-Plan.is;
    })
