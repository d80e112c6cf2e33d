use Rattle.std.proofs.Common.{Vec, ◌++◌, ◌∙◌, map, ap, subst}
use Rattle.std.proofs.lemmas.Result.{err_from_is_err_and}
use Rattle.m2v_pardec.specs.Ahead.{later_of}
use Rattle.m2v_model.specs.declared.state.State.{State}
use Rattle.m2v_pardec.specs.declared.taking.Stop.{Stop}
use Rattle.m2v_pardec.specs.Taken.{piece_of, pieces_of, ReadOn}
use Rattle.m2v_pardec.proofs.AheadLaws.{ahead_unmade}
use Rattle.m2v_pardec.proofs.ChainLaws.{frames_there, frames_sized, can_put, stops_under, works_next}
use Rattle.m2v_pardec.proofs.chain.work_next.Goals as goal

pub returns-in_err-frames-clause-err : goal.returns-in_err-frames-clause-err
returns-in_err-frames-clause-err g c =
    let p = err_from_is_err_and c.from_residual.result c.from_residual.ensures.1 in
    rw (p.1, p.2) (λ bl b so. ahead_unmade _ (later_of c.args.next.stop c.args.stream.now.cutter) bl (g.S.Source.left c.args.input.now) b (g.K.Sink.held c.args.output.now) (map piece_of c.args.worked.now.book.pictures ++ pieces_of c.args.next) c.args.stream.now.decoder so)

pub into_book-book-requires-clause-there : goal.into_book-book-requires-clause-there
into_book-book-requires-clause-there g c =
    let f = c.in_ok-frames.ensures in
    frames_there c.args.worked.now.book c.args.worked.now.after.items c.args.next c.args.stream.now.cutter c.args.stream.now.decoder c.in_ok-frames.frames c.requires.under f.older f.newer f.none

pub into_book-book-requires-clause-sizes : goal.into_book-book-requires-clause-sizes
into_book-book-requires-clause-sizes g c =
    let f = c.in_ok-frames.ensures in
    frames_sized c.args.worked.now.book c.args.worked.now.after.items c.args.next c.args.stream.now.cutter c.args.stream.now.decoder c.in_ok-frames.frames c.requires.under f.older f.newer f.none

pub run_and_put-done-requires-clause-can : goal.run_and_put-done-requires-clause-can
run_and_put-done-requires-clause-can g c κs within = can_put c.args.worked.now c.args.next c.into_book-book.result.2 c.args.stream.now c.requires.done c.requires.under c.requires.rebuilt c.into_book-book.ensures.rest

pub returns-in_err-staffed-clause-err : goal.returns-in_err-staffed-clause-err
returns-in_err-staffed-clause-err g c =
    let p = err_from_is_err_and c.from_residual-in_err-staffed.result c.from_residual-in_err-staffed.ensures.1 in
    rw (p.1, p.2) (λ bl b so. ahead_unmade _ (later_of c.args.next.stop c.args.stream.now.cutter) bl (g.S.Source.left c.args.input.now) b (g.K.Sink.held c.args.output.now) (map piece_of c.args.worked.now.book.pictures ++ pieces_of c.args.next) c.args.stream.now.decoder so)

pub returns-in_err-taken-clause-err : goal.returns-in_err-taken-clause-err
returns-in_err-taken-clause-err g c =
    let p = err_from_is_err_and c.from_residual-in_err-taken.result c.from_residual-in_err-taken.ensures.1 in
    rw (p.1, p.2)
    (stops_under _ c.args.worked.now.book c.args.next c.into_book-book.result.2 c.args.stream.now.cutter (g.S.Source.left c.args.input.now) (g.K.Sink.held c.args.output.now) c.args.stream.now.decoder (g.S.Source.left c.run_and_put-done.new.input) (g.K.Sink.held c.run_and_put-done.new.output) c.in_err-taken.field-0.0
    c.into_book-book.ensures.rest (rw c.in_err-taken.was at c.run_and_put-done.ensures.puts).err)

pub returns-clause-ok : goal.returns-clause-ok
returns-clause-ok g c =
    let f = c.in_ok-frames.ensures in
    let book = c.into_book-book.ensures in
    let did = (rw c.in_ok-taken.was at c.run_and_put-done.ensures.puts).ok in
    works_next c.args.worked.now.book c.args.worked.now.after.items c.args.next c.in_ok-frames.frames c.args.stream.now.cutter (g.S.Source.left c.args.input.now) (g.K.Sink.held c.args.output.now) c.args.stream.now.decoder c.run_and_put-done.new.stream.cutter (g.S.Source.left c.run_and_put-done.new.input) (g.K.Sink.held c.run_and_put-done.new.output) c.run_and_put-done.new.stream.decoder _ c.in_ok-taken.field-0
    c.requires.under f.older f.newer f.none did.put did.told did.tracks
    (record {
      done = c.run_and_put-done.ensures.rows ∙ c.in_ok-staffed.ensures.book;
      book = book.book;
      batch = book.batch;
      after = ap (λ (v : Vec State _). v.items) book.after;
      rest = c.into_book-book.result.2;
      is_rest = book.rest;
      more = did.taken;
      behind = did.behind;
    })

pub returns-clause-read : goal.returns-clause-read
returns-clause-read g c =
    subst (λ (s : Stop). ReadOn s c.in_ok-taken.field-0.stop (g.S.Source.faults c.args.input.now) (g.S.Source.faults c.run_and_put-done.new.input)) (c.into_book-book.ensures.rest).stop (rw c.in_ok-taken.was at c.run_and_put-done.ensures.puts).read
