use Rattle.std.proofs.Common.{length, sym, ◌∙◌, rules}
use Rattle.std.proofs.lemmas.Result.{err_from_is_err_and}
use Rattle.m2v_head.proofs.ElementLaws.{pairs_err, pairs_more, pairs_last, pairs_less}
use Rattle.m2v_head.proofs.reading.pairs.Goals as goal

pub returns-in_err-pair-clause-exact : goal.returns-in_err-pair-clause-exact
returns-in_err-pair-clause-exact c = let p = err_from_is_err_and c.from_residual.result c.from_residual.ensures.1 in rw (p.1, p.2) (sym c.loop.invariant.exact ∙ pairs_err c.loop.input.rest (c.in_err-pair.field-0.0, length c.pair.new.input.rest) c.in_err-pair.ensures.exact)

pub loop-smaller : goal.loop-smaller
loop-smaller c = pairs_less c.in_ok-pair.field-0 c.loop.input.rest c.pair.new.input.rest c.in_ok-pair.ensures.exact

pub loop-preserved : goal.loop-preserved
loop-preserved c = record {
  exact = sym (pairs_more c.in_ok-pair.field-0 c.loop.input.rest c.pair.new.input.rest c.in_ok-pair.ensures.exact c.if-branch.true) ∙ c.loop.invariant.exact;
  text = search rules;
}

pub returns-clause-exact : goal.returns-clause-exact
returns-clause-exact c = sym c.loop.invariant.exact ∙ pairs_last c.in_ok-pair.field-0 c.loop.input.rest c.pair.new.input.rest c.in_ok-pair.ensures.exact c.if-branch.false
