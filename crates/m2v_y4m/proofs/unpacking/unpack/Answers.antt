use Rattle.m2v_port.proofs.Runs.{tells}
use Rattle.m2v_port.specs.Ends.{change}
use Rattle.m2v_y4m.specs.Answers.{IsAnswered}
use Rattle.m2v_y4m.proofs.Answering.{answered}
use Rattle.m2v_y4m.proofs.unpacking.unpack.Goals as goal

pub returns-clause-told : goal.returns-clause-told
returns-clause-told g c =
    let left = change g.S.Source.left g.S.Source.faults c.args.input.now c.unpack_text.new.input in
    let held = change g.K.Sink.held g.K.Sink.faults c.args.output.now c.unpack_text.new.output in
    tells left (IsAnswered left held c.unpack_text.result) (λ text is. answered left held text is c.unpack_text.result c.unpack_text.ensures.ok c.unpack_text.ensures.err)
