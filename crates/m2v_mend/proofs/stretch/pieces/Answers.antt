use Rattle.std.proofs.Common.{Err, ap, arith}
use Rattle.m2v_port.proofs.Runs.{rose_since, stays_on}
use Rattle.std.proofs.lemmas.Result.{err_from_is_err_and}
use Rattle.m2v_mend.proofs.Coming.{feed_fell, fell_any, feed_past, none_past, has_next, takes_next, not_taken, feed_stops, all_read}
use Rattle.m2v_mend.proofs.Ended.{fell_since}
use Rattle.m2v_mend.proofs.stretch.pieces.Goals as goal

pub returns-in-Err-clause-stops : goal.returns-in-Err-clause-stops
returns-in-Err-clause-stops g c =
    let inv = c.loop-e.invariant in
    record {
      fell = feed_fell _ _ c.in-Err.e c.answered.result c.answered.ensures (λ is. rose_since inv.input (c.in-Err.ensures.failed (ap Err is)));
      cut = λ first start h. feed_stops c.loop-e.feed c.loop-e.folding first _ _ start _ c.in-Err.e c.in-Err.ensures.err (inv.told first start h);
      past = λ first start h. feed_past c.loop-e.feed c.loop-e.folding first _ _ start _ c.in-Err.e c.answered.result c.answered.ensures c.next_piece.ensures.most c.in-Err.ensures.err (inv.told first start h);
    }

pub returns-in-Ok-None-clause-told : goal.returns-in-Ok-None-clause-told
returns-in-Ok-None-clause-told g c = λ first start h.
    let fed = rw c.in-Ok-None.field-0-is at c.in-Ok-None.ensures.ok in
    all_read c.loop-e.some c.loop-e.feed c.next_piece.new.self c.loop-e.folding first _ _ start _ fed c.loop-e.invariant.none (c.loop-e.invariant.told first start h)

pub returns-in_err-take-in-Ok-Some-clause-stops : goal.returns-in_err-take-in-Ok-Some-clause-stops
returns-in_err-take-in-Ok-Some-clause-stops g c =
    let p = err_from_is_err_and c.from_residual.result c.from_residual.ensures.1 in
    let inv = c.loop-e.invariant in
    let fed = rw c.in-Ok-Some.field-0-is at c.in-Ok-Some.ensures.ok in
    let own = rw c.in-Ok-Some.field-0-is at c.in-Ok-Some.ensures.own in
    let onward = rw c.in-Ok-Some.field-0-is at c.in-Ok-Some.ensures.onward in
    let e = c.in_err-take-in-Ok-Some.field-0.0 in
    let fell = c.in_err-take-in-Ok-Some.ensures.fell in
    rw (p.1, p.2) (record {
      fell = fell_any _ _ e (fell_since _ _ _ _ _ _ e inv.output.counts inv.list.counts fell);
      cut = λ first start h.
          not_taken c.next_piece.new.self c.loop-e.folding c.in-Ok-Some.piece first _ start _ _ c.in_err-take-in-Ok-Some.ensures.err
          (has_next c.loop-e.feed c.next_piece.new.self c.loop-e.folding c.in-Ok-Some.piece first _ _ start _ fed own onward (inv.told first start h));
      past = λ first start h. none_past _ e first _ fell;
    })

pub loop-e-preserved : goal.loop-e-preserved
loop-e-preserved g c =
    let inv = c.loop-e.invariant in
    let fed = rw c.in-Ok-Some.field-0-is at c.in-Ok-Some.ensures.ok in
    let own = rw c.in-Ok-Some.field-0-is at c.in-Ok-Some.ensures.own in
    let onward = rw c.in-Ok-Some.field-0-is at c.in-Ok-Some.ensures.onward in
    record {
      told = λ first start h.
          takes_next c.next_piece.new.self c.loop-e.folding c.take.new.folding c.in-Ok-Some.piece first _ start _ _ c.in_ok-take-in-Ok-Some.ensures.told
          (has_next c.loop-e.feed c.next_piece.new.self c.loop-e.folding c.in-Ok-Some.piece first _ _ start _ fed own onward (inv.told first start h));
      going = c.in-Ok-Some.ensures.going;
      ready = c.in_ok-take-in-Ok-Some.ensures.ready;
      none = λ off. absurd cc;
      most = omega (arith, inv.most, onward.0);
      onward = λ on. omega (arith, inv.most, onward.0);
      output = stays_on inv.output c.take.ensures.output;
      list = stays_on inv.list c.take.ensures.list;
      input = omega (arith, inv.input, c.next_piece.ensures.faults);
    }
