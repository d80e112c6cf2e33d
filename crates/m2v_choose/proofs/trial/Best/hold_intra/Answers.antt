use Rattle.std.proofs.Common.{◌∙◌}
use Rattle.m2v_recon.specs.Steps.{levels_of}
use Rattle.m2v_choose.proofs.Holding.{held_writable, held_is, held_predicts}
use Rattle.m2v_choose.proofs.trial.Best.hold_intra.Goals as goal

pub hold_written-requires-clause-writable : goal.hold_written-requires-clause-writable
hold_written-requires-clause-writable c =
    held_writable c.args.task.now c.intra_syntax-syntax.result (levels_of c.held_levels-levels.result) c.requires.task c.intra_syntax-syntax.ensures.value c.held_levels-levels.ensures.value

pub returns-clause-candidate : goal.returns-clause-candidate
returns-clause-candidate c = λ r.
    c.hold_written.ensures.candidate
    ∙ held_is c.args.task.now c.intra_syntax-syntax.result (levels_of c.held_levels-levels.result) c.requires.task c.intra_syntax-syntax.ensures.value c.held_levels-levels.ensures.value r c.requires.kind

pub returns-clause-rated : goal.returns-clause-rated
returns-clause-rated c = λ r.
    c.hold_written.ensures.rated r
    (held_predicts c.args.task.now c.intra_syntax-syntax.result (levels_of c.held_levels-levels.result) c.requires.task c.intra_syntax-syntax.ensures.value c.held_levels-levels.ensures.value r c.no_prediction.result.now.at c.no_prediction.ensures)

pub returns-clause-score : goal.returns-clause-score
returns-clause-score c = λ r.
    c.hold_written.ensures.score r
    (held_predicts c.args.task.now c.intra_syntax-syntax.result (levels_of c.held_levels-levels.result) c.requires.task c.intra_syntax-syntax.ensures.value c.held_levels-levels.ensures.value r c.no_prediction.result.now.at c.no_prediction.ensures)
