use Rattle.std.proofs.Common.{[], sym, subst}
use Rattle.std.proofs.lemmas.Result.{err_from_is_err_and, IfErr-weaker, IfOk-weaker}
use Rattle.m2v_port.specs.Port.{Rose}
use Rattle.m2v_dec_batch.specs.m2v_dec_picture.Frames.{store_of}
use Rattle.m2v_decode.specs.Decoding.{Decoding}
use Rattle.m2v_pardec.specs.Behind.{Tracks}
use Rattle.m2v_dec_batch.specs.Filled.{with_frames}
use Rattle.m2v_pardec.specs.declared.taking.Stop.{Stop}
use Rattle.m2v_pardec.specs.declared.taking.Before.{Before}
use Rattle.m2v_pardec.specs.Ahead.{behind}
use Rattle.m2v_pardec.specs.Taken.{pieces_of, ReadFailed, ReadOn}
use Rattle.m2v_pardec.specs.Put.{GoesOn, GoesWrong}
use Rattle.m2v_pardec.specs.Chain.{AreWaiting, GoesFrom, WrongFrom}
use Rattle.m2v_pardec.proofs.AheadLaws.{ahead_unmade, ahead_all}
use Rattle.m2v_pardec.proofs.RestLaws.{place_rises}
use Rattle.m2v_pardec.proofs.StartLaws.{taken_waits, taken_there, taken_sized, taken_tracks, chain_goes, chain_wrong, read_behind}
use Rattle.m2v_pardec.proofs.whole.put_next.Goals as goal

pub returns-in_err-hand-clause-goes : goal.returns-in_err-hand-clause-goes
returns-in_err-hand-clause-goes g c =
    let p = err_from_is_err_and c.from_residual.result c.from_residual.ensures.1 in
    let held = g.K.Sink.held c.args.output.now in
    let left = g.S.Source.left c.args.input.now in
    record {
      ok = rw p.1 tt;
      err = rw (p.1, p.2)
          (λ bl b so. ahead_unmade (Rose (g.K.Sink.faults c.args.output.now) (g.K.Sink.faults c.args.output.now)) (behind c.args.stream.now.cutter) bl left b held [] c.args.stream.now.decoder so);
      read = rw p.1 tt;
    }

pub returns-in_err-taken-in-Some-clause-goes : goal.returns-in_err-taken-in-Some-clause-goes
returns-in_err-taken-in-Some-clause-goes g c =
    let p = err_from_is_err_and c.from_residual-in_err-taken-in-Some.result c.from_residual-in_err-taken-in-Some.ensures.1 in
    let held = g.K.Sink.held c.args.output.now in
    let left = g.S.Source.left c.args.input.now in
    let left' = g.S.Source.left c.take.new.input in
    let were = c.in_err-taken-in-Some.ensures.err in
    record {
      ok = rw p.1 tt;
      err = rw (p.1, p.2)
          (λ bl b so. ahead_unmade (Rose (g.K.Sink.faults c.args.output.now) (g.K.Sink.faults c.args.output.now)) (behind c.take.new.cutter) bl left' b held were.0 c.args.stream.now.decoder
          (ahead_all bl left b held c.args.stream.now.cutter c.args.stream.now.decoder [] were.0 c.take.new.cutter left' so were.1));
      read = rw p.1 tt;
    }

pub put_chain-requires-clause-waiting : goal.put_chain-requires-clause-waiting
put_chain-requires-clause-waiting g c κs within =
    let t = c.in_ok-taken-in-Some.taken in
    let x = c.in_ok-taken-in-Some.ensures in
    let at = rw c.in-Some.is at c.in_ok-hand.ensures.hand in
    let h : Before = record { state = c.in-Some.hand.state; dims = c.in-Some.hand.dims; there = c.there_of.result } in
    let new = c.take.new.cutter in
    subst (AreWaiting t new) (sym c.at_hand.ensures.same)
    (taken_waits h t c.args.stream.now.cutter new (g.S.Source.left c.args.input.now) (g.S.Source.left c.take.new.input) c.args.stream.now.decoder x.told at.state (c.requires.can).going (c.requires.can).before (c.requires.can).counted x.taken x.order x.most)

pub put_chain-requires-clause-there : goal.put_chain-requires-clause-there
put_chain-requires-clause-there g c κs within =
    let h : Before = record { state = c.in-Some.hand.state; dims = c.in-Some.hand.dims; there = c.there_of.result } in
    let there = c.there_of.ensures in
    taken_there h c.in_ok-taken-in-Some.taken c.in-Some.hand.frames c.in_ok-taken-in-Some.ensures.told there.older there.newer there.first

pub put_chain-requires-clause-sizes : goal.put_chain-requires-clause-sizes
put_chain-requires-clause-sizes g c κs within =
    let h : Before = record { state = c.in-Some.hand.state; dims = c.in-Some.hand.dims; there = c.there_of.result } in
    let at = rw c.in-Some.is at c.in_ok-hand.ensures.hand in
    taken_sized h c.in_ok-taken-in-Some.taken c.in-Some.hand.frames c.in_ok-taken-in-Some.ensures.told at.older_size at.newer_size at.waiting_size

pub put_chain-requires-clause-tracks : goal.put_chain-requires-clause-tracks
put_chain-requires-clause-tracks g c κs within =
    let t = c.in_ok-taken-in-Some.taken in
    let at = rw c.in-Some.is at c.in_ok-hand.ensures.hand in
    subst (λ (d : Decoding). Tracks (with_frames t.pictures c.in-Some.hand.frames) 0 (store_of d.frames)) (sym c.at_hand.ensures.same)
    (taken_tracks t c.in-Some.hand.frames (store_of c.args.stream.now.decoder.frames) (sym at.older) (sym at.newer) (sym at.waiting))

pub returns-in_ok-taken-in-Some-clause-goes : goal.returns-in_ok-taken-in-Some-clause-goes
returns-in_ok-taken-in-Some-clause-goes g c =
    let t = c.in_ok-taken-in-Some.taken in
    let x = c.in_ok-taken-in-Some.ensures in
    let old = c.args.stream.now.cutter in
    let new = c.take.new.cutter in
    let last = c.put_chain.new.stream.cutter in
    let left = g.S.Source.left c.args.input.now in
    let left' = g.S.Source.left c.take.new.input in
    let left'' = g.S.Source.left c.put_chain.new.input in
    let held = g.K.Sink.held c.args.output.now in
    let held' = g.K.Sink.held c.put_chain.new.output in
    let n = c.put_chain.new.stream.decoder in
    let failed = Rose (g.K.Sink.faults c.args.output.now) (g.K.Sink.faults c.put_chain.new.output) in
    let first = g.S.Source.faults c.args.input.now in
    let mid = g.S.Source.faults c.take.new.input in
    let now = g.S.Source.faults c.put_chain.new.input in
    record {
      ok = IfOk-weaker c.put_chain.result (λ (stop : Stop). GoesFrom t new left' held c.at_hand.new.self stop last left'' held' n) (λ (stop : Stop). GoesOn old left held c.args.stream.now.decoder stop last left'' held' n)
          (λ stop goes. chain_goes old new last left left' left'' held held' c.args.stream.now.decoder n t stop x.taken (place_rises t.stop (pieces_of t) old.place new.place x.some x.order) (subst (λ (d : Decoding). GoesFrom t new left' held d stop last left'' held' n) c.at_hand.ensures.same goes))
          c.put_chain.ensures.ok;
      err = IfErr-weaker c.put_chain.result (WrongFrom failed t new left' held c.at_hand.new.self left'' held') (GoesWrong failed old left held c.args.stream.now.decoder left'' held')
          (λ e wrong. chain_wrong failed old new left left' left'' held held' c.args.stream.now.decoder t e c.in_ok-taken-in-Some.ensures.taken (subst (λ (d : Decoding). WrongFrom failed t new left' held d left'' held' e) c.at_hand.ensures.same wrong))
          c.put_chain.ensures.err;
      read = IfOk-weaker c.put_chain.result (λ (stop : Stop). ReadOn t.stop stop mid now) (λ (stop : Stop). ReadFailed stop (Rose first now))
          (λ stop on. read_behind t.stop stop first mid now c.take.ensures.faults c.in_ok-taken-in-Some.ensures.read on) c.put_chain.ensures.read;
    }
