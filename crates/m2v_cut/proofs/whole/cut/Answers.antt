use Rattle.std.proofs.Common.{Err, refl}
use Rattle.std.proofs.lemmas.Result.{err_from_is_err_and}
use Rattle.m2v_port.specs.Ends.{change}
use Rattle.m2v_port.proofs.Runs.{tells}
use Rattle.m2v_law_group.specs.Chosen.{CutDecodes}
use Rattle.m2v_law_group.proofs.Decodes.{cut_law}
use Rattle.m2v_cut.specs.declared.answer.CutError.TheVariants as errors
use Rattle.m2v_cut.proofs.Finals.{answered, find_told, memory_told}
use Rattle.m2v_cut.proofs.whole.cut.Goals as goal

pub returns-in_default-clause-err : goal.returns-in_default-clause-err
returns-in_default-clause-err g c =
    (memory_told c.args.from c.args.count (change g.S.Source.left g.S.Source.faults c.args.input.now c.args.input.now) (change g.K.Sink.held g.K.Sink.faults c.args.output.now c.args.output.now) refl refl)

pub returns-in_default-clause-answer : goal.returns-in_default-clause-answer
returns-in_default-clause-answer g c =
    answered (change g.S.Source.left g.S.Source.faults c.args.input.now c.args.input.now) (change g.K.Sink.held g.K.Sink.faults c.args.output.now c.args.output.now) c.args.from c.args.count (Err errors.Memory) tt
    (memory_told c.args.from c.args.count (change g.S.Source.left g.S.Source.faults c.args.input.now c.args.input.now) (change g.K.Sink.held g.K.Sink.faults c.args.output.now c.args.output.now) refl refl)

pub returns-in_default-clause-decodes : goal.returns-in_default-clause-decodes
returns-in_default-clause-decodes g c =
    tells (change g.S.Source.left g.S.Source.faults c.args.input.now c.args.input.now) (λ text. CutDecodes text c.args.from c.args.count) (λ text told. cut_law text c.args.from c.args.count)

pub returns-in_err-found-clause-err : goal.returns-in_err-found-clause-err
returns-in_err-found-clause-err g c =
    let p = err_from_is_err_and c.from_residual.result c.from_residual.ensures.1 in
    rw (p.1, p.2)
    (find_told c.args.from c.args.count (change g.S.Source.left g.S.Source.faults c.args.input.now c.find.new.input) (change g.K.Sink.held g.K.Sink.faults c.args.output.now c.args.output.now) c.in_err-found.field-0.0 refl c.in_err-found.ensures.err)

pub returns-in_err-found-clause-answer : goal.returns-in_err-found-clause-answer
returns-in_err-found-clause-answer g c =
    let p = err_from_is_err_and c.from_residual.result c.from_residual.ensures.1 in
    rw (p.1, p.2)
    (answered (change g.S.Source.left g.S.Source.faults c.args.input.now c.find.new.input) (change g.K.Sink.held g.K.Sink.faults c.args.output.now c.args.output.now) c.args.from c.args.count (Err c.in_err-found.field-0.0) tt
    (find_told c.args.from c.args.count (change g.S.Source.left g.S.Source.faults c.args.input.now c.find.new.input) (change g.K.Sink.held g.K.Sink.faults c.args.output.now c.args.output.now) c.in_err-found.field-0.0 refl c.in_err-found.ensures.err))

pub returns-in_err-found-clause-decodes : goal.returns-in_err-found-clause-decodes
returns-in_err-found-clause-decodes g c =
    tells (change g.S.Source.left g.S.Source.faults c.args.input.now c.find.new.input) (λ text. CutDecodes text c.args.from c.args.count) (λ text told. cut_law text c.args.from c.args.count)

pub returns-clause-answer : goal.returns-clause-answer
returns-clause-answer g c =
    answered (change g.S.Source.left g.S.Source.faults c.args.input.now c.cut_from.new.input) (change g.K.Sink.held g.K.Sink.faults c.args.output.now c.cut_from.new.output) c.args.from c.args.count c.cut_from.result
    (c.cut_from.ensures.ok c.args.from c.args.input.now c.in_ok-found.ensures.ok) (c.cut_from.ensures.err c.args.from c.args.input.now c.find.ensures.input c.in_ok-found.ensures.ok)

pub returns-clause-decodes : goal.returns-clause-decodes
returns-clause-decodes g c =
    tells (change g.S.Source.left g.S.Source.faults c.args.input.now c.cut_from.new.input) (λ text. CutDecodes text c.args.from c.args.count) (λ text told. cut_law text c.args.from c.args.count)
