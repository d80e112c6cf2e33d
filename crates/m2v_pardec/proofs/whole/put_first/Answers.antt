use Rattle.std.proofs.Common.{rules, ◌+◌, ◌<◌, ◌≤◌, [], ◌∷◌, sym, ap, subst, ◌∙◌, arith}
use Rattle.std.proofs.lemmas.Result.{err_from_is_err_and, IfErr-weaker, IfOk-weaker}
use Rattle.m2v_port.specs.Port.{Rose}
use Rattle.m2v_dec_piece.specs.declared.answer.Piece.{Piece}
use Rattle.m2v_dec_piece.specs.declared.answer.DecodeError.TheVariants as errors
use Rattle.m2v_dec_batch.specs.m2v_dec_picture.Frames.{store_of}
use Rattle.m2v_decode.specs.Decoding.{Decoding}
use Rattle.m2v_pardec.specs.declared.taking.Stop.{Stop}
use Rattle.m2v_pardec.specs.declared.taking.Stop.TheVariants.{More}
use Rattle.m2v_pardec.specs.Taken.{ReadFailed, ReadOn}
use Rattle.m2v_pardec.specs.Put.{PutsAll, StopsBy, GoesOn, GoesWrong}
use Rattle.m2v_pardec.specs.Chain.{GoesFrom, WrongFrom}
use Rattle.m2v_pardec.proofs.PutLaws.{unmade}
use Rattle.m2v_pardec.proofs.GoesLaws.{takes_one, order_one, stands_one, goes_taken, wrong_taken, goes_end, goes_error}
use Rattle.m2v_pardec.proofs.StartLaws.{taken_waits, taken_tracks, first_there, first_sized, first_takes, first_order, first_read, chain_goes, chain_wrong, read_behind}
use Rattle.m2v_pardec.proofs.whole.put_first.Goals as goal

pub returns-in_err-taken-in-Ok-Some-clause-goes : goal.returns-in_err-taken-in-Ok-Some-clause-goes
returns-in_err-taken-in-Ok-Some-clause-goes g c =
    let x = rw c.in-Ok-Some.field-0-is at c.in-Ok-Some.ensures.ok in
    let begun = rw c.in-Ok-Some.field-0-is at c.in-Ok-Some.ensures.begun in
    let p = err_from_is_err_and c.from_residual.result c.from_residual.ensures.1 in
    let held = g.K.Sink.held c.args.output.now in
    let failed = Rose (g.K.Sink.faults c.args.output.now) (g.K.Sink.faults c.args.output.now) in
    record {
      ok = rw p.1 tt;
      err = rw (p.1, p.2)
          (wrong_taken failed c.args.stream.now.cutter (g.S.Source.left c.args.input.now) (c.in-Ok-Some.piece ∷ []) More c.next_piece.new.self (g.S.Source.left c.next_piece.new.input) held held c.args.stream.now.decoder errors.Memory
          (takes_one c.args.stream.now.cutter _ c.in-Ok-Some.piece c.next_piece.new.self _ x begun c.in-Ok-Some.ensures.taken c.in-Ok-Some.ensures.going) (unmade failed (c.in-Ok-Some.piece ∷ []) c.args.stream.now.decoder held));
      read = rw p.1 tt;
    }

pub put_chain-requires-clause-waiting : goal.put_chain-requires-clause-waiting
put_chain-requires-clause-waiting g c κs within =
    let x = rw c.in-Ok-Some.field-0-is at c.in-Ok-Some.ensures.ok in
    let begun = rw c.in-Ok-Some.field-0-is at c.in-Ok-Some.ensures.begun in
    let sound = rw c.in-Ok-Some.field-0-is at c.in-Ok-Some.ensures.sound in
    let onward = rw c.in-Ok-Some.field-0-is at c.in-Ok-Some.ensures.onward in
    let t = rw c.in-Ok.is at c.in_ok-taken-in-Ok-Some.ensures in
    let h = t.2 in
    let old = c.args.stream.now.cutter in
    let new = c.next_piece.new.self in
    let p = c.in-Ok-Some.piece in
    taken_waits h.0 c.in-Ok.taken old new (g.S.Source.left c.args.input.now) (g.S.Source.left c.next_piece.new.input) c.args.stream.now.decoder h.3 (h.1 ∙ sym (ap (λ (d : Decoding). d.state) c.requires.start)) (c.requires.can).going (c.requires.can).before (c.requires.can).counted
    (first_takes old new _ _ p c.in-Ok.taken (takes_one old _ p new _ x begun c.in-Ok-Some.ensures.taken c.in-Ok-Some.ensures.going) t.0 t.1)
    (first_order old new p c.in-Ok.taken (order_one old new p old.place onward sound (omega arith)) t.0 t.1) (omega (arith, onward.1, sound.end))

pub put_chain-requires-clause-there : goal.put_chain-requires-clause-there
put_chain-requires-clause-there g c κs within =
    let t = rw c.in-Ok.is at c.in_ok-taken-in-Ok-Some.ensures in
    let f = c.no_frames.ensures in
    first_there (t.2).0 c.in-Ok.taken c.no_frames.result (t.2).3 (t.2).2 f.older f.newer f.waiting

pub put_chain-requires-clause-sizes : goal.put_chain-requires-clause-sizes
put_chain-requires-clause-sizes g c κs within =
    let f = c.no_frames.ensures in
    first_sized c.in-Ok.taken.pictures.dims c.no_frames.result f.older f.newer f.waiting

pub put_chain-requires-clause-tracks : goal.put_chain-requires-clause-tracks
put_chain-requires-clause-tracks g c κs within =
    let f = c.no_frames.ensures in
    taken_tracks c.in-Ok.taken c.no_frames.result (store_of c.args.stream.now.decoder.frames)
    (ap (λ (d : Decoding). d.frames.older) c.requires.start ∙ sym f.older)
    (ap (λ (d : Decoding). d.frames.newer) c.requires.start ∙ sym f.newer)
    (ap (λ (d : Decoding). d.frames.current) c.requires.start ∙ sym f.waiting)

pub returns-in_err-put_piece-in-Err-2-clause-goes : goal.returns-in_err-put_piece-in-Err-2-clause-goes
returns-in_err-put_piece-in-Err-2-clause-goes g c =
    let x = rw c.in-Ok-Some.field-0-is at c.in-Ok-Some.ensures.ok in
    let begun = rw c.in-Ok-Some.field-0-is at c.in-Ok-Some.ensures.begun in
    let same = rw c.in-Err-2.is at c.in_ok-taken-in-Ok-Some.ensures in
    let p = err_from_is_err_and c.from_residual-in_err-put_piece-in-Err-2.result c.from_residual-in_err-put_piece-in-Err-2.ensures.1 in
    let held = g.K.Sink.held c.args.output.now in
    let held' = g.K.Sink.held c.put_piece.new.output in
    let failed = Rose (g.K.Sink.faults c.args.output.now) (g.K.Sink.faults c.put_piece.new.output) in
    let e = c.in_err-put_piece-in-Err-2.field-0.0 in
    record {
      ok = rw p.1 tt;
      err = rw (p.1, p.2)
          (wrong_taken failed c.args.stream.now.cutter (g.S.Source.left c.args.input.now) (c.in-Ok-Some.piece ∷ []) More c.next_piece.new.self (g.S.Source.left c.next_piece.new.input) held held' c.args.stream.now.decoder e
          (takes_one c.args.stream.now.cutter _ c.in-Ok-Some.piece c.next_piece.new.self _ x begun c.in-Ok-Some.ensures.taken c.in-Ok-Some.ensures.going)
          (subst (λ (q : Piece). StopsBy failed (q ∷ []) c.args.stream.now.decoder held held' e) same c.in_err-put_piece-in-Err-2.ensures.err));
      read = rw p.1 tt;
    }

pub returns-in-Err-clause-goes : goal.returns-in-Err-clause-goes
returns-in-Err-clause-goes g c =
    record {
      ok = goes_error _ _ _ _ _ c.args.stream.now.decoder c.in-Err.e c.in-Err.ensures.err c.in-Err.ensures.kind (c.requires.can).going (c.requires.can).before;
      err = tt;
      read = search rules;
    }

pub returns-in-Ok-None-clause-goes : goal.returns-in-Ok-None-clause-goes
returns-in-Ok-None-clause-goes g c =
    let x = rw c.in-Ok-None.field-0-is at c.in-Ok-None.ensures.ok in
    let over = rw c.in-Ok-None.field-0-is at c.in-Ok-None.ensures.over in
    let onward = rw c.in-Ok-None.field-0-is at c.in-Ok-None.ensures.onward in
    record {
      ok = goes_end _ _ _ _ _ c.args.stream.now.decoder x over onward.1 (c.requires.can).going (c.requires.can).before;
      err = tt;
      read = tt;
    }

pub returns-in-Ok-clause-goes : goal.returns-in-Ok-clause-goes
returns-in-Ok-clause-goes g c =
    let x = rw c.in-Ok-Some.field-0-is at c.in-Ok-Some.ensures.ok in
    let begun = rw c.in-Ok-Some.field-0-is at c.in-Ok-Some.ensures.begun in
    let sound = rw c.in-Ok-Some.field-0-is at c.in-Ok-Some.ensures.sound in
    let onward = rw c.in-Ok-Some.field-0-is at c.in-Ok-Some.ensures.onward in
    let t = rw c.in-Ok.is at c.in_ok-taken-in-Ok-Some.ensures in
    let p = c.in-Ok-Some.piece in
    let old = c.args.stream.now.cutter in
    let new = c.next_piece.new.self in
    let last = c.put_chain.new.stream.cutter in
    let left = g.S.Source.left c.args.input.now in
    let left' = g.S.Source.left c.next_piece.new.input in
    let left'' = g.S.Source.left c.put_chain.new.input in
    let held = g.K.Sink.held c.args.output.now in
    let held' = g.K.Sink.held c.put_chain.new.output in
    let d = c.args.stream.now.decoder in
    let n = c.put_chain.new.stream.decoder in
    let rises : old.place < new.place = omega (arith, onward.0, onward.1, sound.some) in
    let failed = Rose (g.K.Sink.faults c.args.output.now) (g.K.Sink.faults c.put_chain.new.output) in
    let first = g.S.Source.faults c.args.input.now in
    let mid = g.S.Source.faults c.next_piece.new.input in
    let now = g.S.Source.faults c.put_chain.new.input in
    record {
      ok = IfOk-weaker c.put_chain.result (λ (stop : Stop). GoesFrom c.in-Ok.taken new left' held d stop last left'' held' n) (λ (stop : Stop). GoesOn old left held d stop last left'' held' n)
          (λ stop goes. chain_goes old new last left left' left'' held held' d n c.in-Ok.taken stop (first_takes old new left left' p c.in-Ok.taken (takes_one old left p new left' x begun c.in-Ok-Some.ensures.taken c.in-Ok-Some.ensures.going) t.0 t.1) (λ more. rises) goes)
          c.put_chain.ensures.ok;
      err = IfErr-weaker c.put_chain.result (WrongFrom failed c.in-Ok.taken new left' held d left'' held') (GoesWrong failed old left held d left'' held')
          (λ e wrong. chain_wrong failed old new left left' left'' held held' d c.in-Ok.taken e (first_takes old new left left' p c.in-Ok.taken (takes_one old left p new left' x begun c.in-Ok-Some.ensures.taken c.in-Ok-Some.ensures.going) t.0 t.1) wrong)
          c.put_chain.ensures.err;
      read = IfOk-weaker c.put_chain.result (λ (stop : Stop). ReadOn c.in-Ok.taken.stop stop mid now) (λ (stop : Stop). ReadFailed stop (Rose first now))
          (λ stop on. read_behind c.in-Ok.taken.stop stop first mid now c.next_piece.ensures.faults (first_read c.in-Ok.taken.stop first mid t.1) on) c.put_chain.ensures.read;
    }

pub returns-in_ok-put_piece-in-Err-2-clause-goes : goal.returns-in_ok-put_piece-in-Err-2-clause-goes
returns-in_ok-put_piece-in-Err-2-clause-goes g c =
    let x = rw c.in-Ok-Some.field-0-is at c.in-Ok-Some.ensures.ok in
    let begun = rw c.in-Ok-Some.field-0-is at c.in-Ok-Some.ensures.begun in
    let sound = rw c.in-Ok-Some.field-0-is at c.in-Ok-Some.ensures.sound in
    let onward = rw c.in-Ok-Some.field-0-is at c.in-Ok-Some.ensures.onward in
    let same = rw c.in-Err-2.is at c.in_ok-taken-in-Ok-Some.ensures in
    let put = c.in_ok-put_piece-in-Err-2.ensures in
    let held = g.K.Sink.held c.args.output.now in
    let held' = g.K.Sink.held c.put_piece.new.output in
    let d = c.args.stream.now.decoder in
    let n = c.put_piece.new.decoder in
    record {
      ok = goes_taken c.args.stream.now.cutter (g.S.Source.left c.args.input.now) (c.in-Ok-Some.piece ∷ []) More c.next_piece.new.self (g.S.Source.left c.next_piece.new.input) held held' d n
          (takes_one c.args.stream.now.cutter _ c.in-Ok-Some.piece c.next_piece.new.self _ x begun c.in-Ok-Some.ensures.taken c.in-Ok-Some.ensures.going)
          (subst (λ (q : Piece). PutsAll (q ∷ []) d held n held') same put.ok)
          (stands_one c.args.stream.now.cutter c.next_piece.new.self c.in-Ok-Some.piece d n onward sound c.in-Ok-Some.ensures.going (c.requires.can).counted (subst (λ (q : Piece). n.pictures ≤ d.pictures + q.length) same put.counted)) put.going put.before;
      err = tt;
      read = tt;
    }
