use Rattle.std.proofs.Common.{ap}
use Rattle.std.proofs.lemmas.Result.{err_from_is_err_and}
use Rattle.m2v_port.proofs.Runs.{grows_by_none}
use Rattle.m2v_encode.specs.declared.answer.Summary.{Summary}
use Rattle.m2v_make.specs.Making.{stream_of, MakeStops}
use Rattle.m2v_make.proofs.MadeLaws.{made_decodes, made_lawful, made_safe}
use Rattle.m2v_make.proofs.whole.make.Goals as goal

pub returns-in_err-summary-clause-err : goal.returns-in_err-summary-clause-err
unfolding MakeStops
returns-in_err-summary-clause-err g c =
    let p = err_from_is_err_and c.from_residual.result c.from_residual.ensures.1 in
    rw (p.1, p.2) (grows_by_none (stream_of c.args.seed))

pub returns-in_err-decoded-clause-err : goal.returns-in_err-decoded-clause-err
unfolding MakeStops
returns-in_err-decoded-clause-err g c =
    let p = err_from_is_err_and c.from_residual-in_err-decoded.result c.from_residual-in_err-decoded.ensures.1 in
    rw (p.1, p.2) (grows_by_none (stream_of c.args.seed))

pub returns-in_err-figures-clause-err : goal.returns-in_err-figures-clause-err
unfolding MakeStops
returns-in_err-figures-clause-err g c =
    let p = err_from_is_err_and c.from_residual-in_err-figures.result c.from_residual-in_err-figures.ensures.1 in
    rw (p.1, p.2) (grows_by_none (stream_of c.args.seed))

pub returns-clause-ok : goal.returns-clause-ok
returns-clause-ok g c = record {
  grown = c.in_ok-put_stream.ensures.ok;
  bytes = ap (λ (n : Summary). n.bytes) c.in_ok-summary.ensures.numbers;
  stuffing = ap (λ (n : Summary). n.stuffing) c.in_ok-summary.ensures.numbers;
  figures = c.in_ok-figures.ensures;
  decodes = made_decodes c.args.seed;
  lawful = made_lawful c.args.seed;
  safe = made_safe c.args.seed;
}
