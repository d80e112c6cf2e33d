use Rattle.std.proofs.Common.{rules, refl}
use Rattle.m2v_tool.specs.Y4mCoding.{Y4mComes}
use Rattle.m2v_tool.proofs.Y4mCodingLaws.{text_answer}
use Rattle.m2v_tool.proofs.beside.encoded_text.Goals as goal

pub returns-in-Err-clause-comes : goal.returns-in-Err-clause-comes
unfolding Y4mComes
returns-in-Err-clause-comes g c = (c.in-Err.ensures.err, refl, refl)

pub returns-clause-comes : goal.returns-clause-comes
returns-clause-comes g c =
    let read = c.in-Ok.ensures in
    text_answer g.S.Source.left g.S.Source.faults c.args.input.now c.open.new.input c.coded_behind-outcome.new.source.inner.now _
    c.in-Ok.text.at c.coded_behind-outcome.new.source.text.at _ _ _ _ _ _ c.coded_behind-outcome.result
    (search rules) c.header.ensures.value c.with_header-meant.ensures read.header read.opened read.faults
    c.coded_behind-outcome.ensures.header c.coded_behind-outcome.ensures.ahead c.coded_behind-outcome.ensures.comes
