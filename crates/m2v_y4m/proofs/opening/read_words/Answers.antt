use Rattle.std.proofs.Common.{arith, sym, ◌∙◌}
use Rattle.m2v_y4m.proofs.WordLaws.{words_broken, words_on, words_end}
use Rattle.m2v_y4m.proofs.opening.read_words.Goals as goal

pub returns-in-Err-clause-value : goal.returns-in-Err-clause-value
returns-in-Err-clause-value c =
    sym (c.loop-at.invariant.rest ∙ words_broken c.loop-at.seen c.args.line.now c.loop-at.at c.word_end-end.result (omega arith) c.word_end-end.ensures.value
    c.in-Err.kind (sym c.with_word.ensures.value ∙ c.in-Err.is))

pub loop-at-preserved : goal.loop-at-preserved
loop-at-preserved c = record {
  rest = c.loop-at.invariant.rest ∙ words_on c.loop-at.seen c.args.line.now c.loop-at.at c.word_end-end.result (omega arith) c.word_end-end.ensures.value
      c.in-Ok.more c.word_end-end.ensures.most (sym c.with_word.ensures.value ∙ c.in-Ok.is);
  seen = c.in-Ok.ensures.seen;
}

pub returns-clause-value : goal.returns-clause-value
returns-clause-value c = sym (c.loop-at.invariant.rest ∙ words_end c.loop-at.seen c.args.line.now c.loop-at.at (omega arith))
