use Rattle.std.proofs.Common.{List, ℕ, ◌≤◌, length, take, sym, subst, arith}
use Rattle.m2v_dec_piece.specs.Cutting.{TookAll}
use Rattle.m2v_dec_piece.specs.Stepping.{Reaches}
use Rattle.m2v_dec_piece.proofs.AtOnce.{took_reaches}
use Rattle.m2v_dec_piece.proofs.cutter.skim.Goals as goal

pub returns-clause-some : goal.returns-clause-some
returns-clause-some c taken =
    let h = c.args.hand.now in
    let chunk = c.args.chunk.now in
    let took = subst (λ (x : List ℕ). TookAll h (take c.in_ok-n.n x) c.run.new.self) c.bytes.ensures c.in_ok-n.ensures.took in
    subst (Reaches h chunk c.run.new.self) (sym c.pass.ensures)
    (took_reaches h c.run.new.self chunk c.in_ok-n.n (omega (arith, c.if-n-eq0.false)) (subst (λ (x : List ℕ). c.in_ok-n.n ≤ length x) c.bytes.ensures c.in_ok-n.ensures.within) took c.ahead-held.ensures.bound)
