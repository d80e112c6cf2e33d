use Rattle.std.proofs.Common.{◌∙◌, ◌<◌, ◌^◌, ℕ, sym, subst, ap, List, get_or, arith}
use Rattle.m2v_slice.proofs.Ledgers.{times_count}
use Rattle.m2v_encode.proofs.Pieces.{time_small, get_or_same}
use Rattle.m2v_encode.proofs.done.DoneGroup.time.Goals as goal

pub returns-clause-small : goal.returns-clause-small
returns-clause-small c =
    let b = c.self.inside.done in
    let h = c.self.invariant.book in
    let lt = rw (← c.self.view_is) at c.requires.picture in
    let is = c.index.ensures ∙ ap (λ (xs : List ℕ). get_or xs c.args.p c.index.result.now) c.self.invariant.times ∙ get_or_same b.ledger.intervals c.args.p c.index.result.now 0 (omega (arith, lt, times_count b h)) in
    subst (λ (n : ℕ). n < 2 ^ 20) (sym is) (time_small b h c.args.p lt)
