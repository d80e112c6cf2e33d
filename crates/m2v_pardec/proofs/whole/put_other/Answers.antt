use Rattle.std.proofs.Common.{rules, [], ◌∷◌}
use Rattle.std.proofs.lemmas.Result.{err_from_is_err_and}
use Rattle.m2v_pardec.specs.declared.taking.Stop.TheVariants.{More}
use Rattle.m2v_pardec.proofs.GoesLaws.{takes_one, stands_one, goes_taken, wrong_taken, goes_end, goes_error}
use Rattle.m2v_pardec.proofs.whole.put_other.Goals as goal

pub returns-in_err-put_piece-in-Ok-Some-clause-goes : goal.returns-in_err-put_piece-in-Ok-Some-clause-goes
returns-in_err-put_piece-in-Ok-Some-clause-goes g c =
    let x = rw c.in-Ok-Some.field-0-is at c.in-Ok-Some.ensures.ok in
    let begun = rw c.in-Ok-Some.field-0-is at c.in-Ok-Some.ensures.begun in
    let p = err_from_is_err_and c.from_residual.result c.from_residual.ensures.1 in
    record {
      ok = rw p.1 tt;
      err = rw (p.1, p.2)
          (wrong_taken _ c.args.stream.now.cutter (g.S.Source.left c.args.input.now) (c.in-Ok-Some.piece ∷ []) More c.next_piece.new.self (g.S.Source.left c.next_piece.new.input) _ _ c.args.stream.now.decoder c.in_err-put_piece-in-Ok-Some.field-0.0
          (takes_one _ _ c.in-Ok-Some.piece _ _ x begun c.in-Ok-Some.ensures.taken c.in-Ok-Some.ensures.going) c.in_err-put_piece-in-Ok-Some.ensures.err);
      read = rw p.1 tt;
    }

pub returns-in-Err-clause-goes : goal.returns-in-Err-clause-goes
returns-in-Err-clause-goes g c =
    record {
      ok = goes_error _ _ _ _ _ c.args.stream.now.decoder c.in-Err.e c.in-Err.ensures.err c.in-Err.ensures.kind (c.requires.can).going (c.requires.can).before;
      err = tt;
      read = search rules;
    }

pub returns-in-Ok-None-clause-goes : goal.returns-in-Ok-None-clause-goes
returns-in-Ok-None-clause-goes g c =
    let x = rw c.in-Ok-None.field-0-is at c.in-Ok-None.ensures.ok in
    let over = rw c.in-Ok-None.field-0-is at c.in-Ok-None.ensures.over in
    let onward = rw c.in-Ok-None.field-0-is at c.in-Ok-None.ensures.onward in
    record {
      ok = goes_end _ _ _ _ _ c.args.stream.now.decoder x over onward.1 (c.requires.can).going (c.requires.can).before;
      err = tt;
      read = tt;
    }

pub returns-in_ok-put_piece-in-Ok-Some-clause-goes : goal.returns-in_ok-put_piece-in-Ok-Some-clause-goes
returns-in_ok-put_piece-in-Ok-Some-clause-goes g c =
    let x = rw c.in-Ok-Some.field-0-is at c.in-Ok-Some.ensures.ok in
    let begun = rw c.in-Ok-Some.field-0-is at c.in-Ok-Some.ensures.begun in
    let sound = rw c.in-Ok-Some.field-0-is at c.in-Ok-Some.ensures.sound in
    let onward = rw c.in-Ok-Some.field-0-is at c.in-Ok-Some.ensures.onward in
    let put = c.in_ok-put_piece-in-Ok-Some.ensures in
    record {
      ok = goes_taken c.args.stream.now.cutter (g.S.Source.left c.args.input.now) (c.in-Ok-Some.piece ∷ []) More c.next_piece.new.self (g.S.Source.left c.next_piece.new.input) _ _ c.args.stream.now.decoder c.put_piece.new.decoder
          (takes_one _ _ c.in-Ok-Some.piece _ _ x begun c.in-Ok-Some.ensures.taken c.in-Ok-Some.ensures.going) put.ok
          (stands_one c.args.stream.now.cutter c.next_piece.new.self c.in-Ok-Some.piece c.args.stream.now.decoder c.put_piece.new.decoder onward sound c.in-Ok-Some.ensures.going (c.requires.can).counted put.counted) put.going put.before;
      err = tt;
      read = tt;
    }
