use Rattle.std.proofs.Common.{arith}
use Rattle.m2v_test_trials.proofs.Chain.{chain_works, chain_small}
use Rattle.m2v_test_trials.proofs.books.ChainJobBook.work.Goals as goal

pub overflow_add-out : goal.overflow_add-out
overflow_add-out c =
    let is = chain_works c.args.j _ _ c.requires.learned.2 (omega (arith, c.if-j-eq0.false)) in
    let small = chain_small c.args.j c.requires.job in
    omega arith

pub returns-else-j-eq0-clause-value : goal.returns-else-j-eq0-clause-value
returns-else-j-eq0-clause-value c = chain_works c.args.j _ _ c.requires.learned.2 (omega (arith, c.if-j-eq0.false))
