use Rattle.std.proofs.Common.{Vec, ap, subst, ◌∙◌}
use Rattle.m2v_port.proofs.Runs.{on_err}
use Rattle.m2v_model.specs.declared.state.State.{State}
use Rattle.m2v_pardec.specs.declared.taking.Stop.{Stop}
use Rattle.m2v_pardec.specs.Ahead.{later_of}
use Rattle.m2v_pardec.specs.Taken.{pieces_of, ReadOn}
use Rattle.m2v_pardec.proofs.AheadLaws.{ahead_unmade}
use Rattle.m2v_pardec.proofs.ChainLaws.{stops_taking}
use Rattle.m2v_pardec.proofs.chain.work_first.Goals as goal

pub returns-in_err-staffed-clause-err : goal.returns-in_err-staffed-clause-err
returns-in_err-staffed-clause-err g c =
    on_err c.from_residual.result (λ bl b held d so. ahead_unmade ⊥ (later_of c.args.taken.stop c.args.cutter.now) bl (g.S.Source.left c.args.input.now) b held (pieces_of c.args.taken) d so)

pub returns-in_err-taken-clause-err : goal.returns-in_err-taken-clause-err
returns-in_err-taken-clause-err g c =
    on_err c.from_residual-in_err-taken.result
    (stops_taking c.args.taken c.into_book-book.result.2 c.args.cutter.now (g.S.Source.left c.args.input.now) (g.S.Source.left c.run_and_take-done.new.input) c.into_book-book.ensures.rest (rw c.in_err-taken.was at c.run_and_take-done.ensures.takes).err)

pub returns-clause-ok : goal.returns-clause-ok
returns-clause-ok g c =
    let book = c.into_book-book.ensures in
    let takes = rw c.in_ok-taken.was at c.run_and_take-done.ensures.takes in
    record {
      done = c.run_and_take-done.ensures.rows ∙ c.in_ok-staffed.ensures.book;
      book = book.book;
      batch = book.batch;
      after = ap (λ (v : Vec State _). v.items) book.after;
      rest = c.into_book-book.result.2;
      is_rest = book.rest;
      more = takes.ok;
      behind = takes.told;
    }

pub returns-clause-read : goal.returns-clause-read
returns-clause-read g c =
    subst (λ (s : Stop). ReadOn s c.in_ok-taken.field-0.stop (g.S.Source.faults c.args.input.now) (g.S.Source.faults c.run_and_take-done.new.input)) (c.into_book-book.ensures.rest).stop (rw c.in_ok-taken.was at c.run_and_take-done.ensures.takes).read
