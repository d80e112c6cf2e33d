use Rattle.std.proofs.lemmas.Result.{err_from_is_err_and}
use Rattle.m2v_mend.proofs.Coming.{none_past, fell_any, begins, ends, not_ended}
use Rattle.m2v_mend.proofs.Ended.{fell_since}
use Rattle.m2v_mend.proofs.stretch.stretch.Goals as goal

pub returns-in_err-some-clause-stops : goal.returns-in_err-some-clause-stops
returns-in_err-some-clause-stops g c =
    let p = err_from_is_err_and c.from_residual.result c.from_residual.ensures.1 in
    let s = c.in_err-some.ensures.stops in
    rw (p.1, p.2) (record {
      fell = s.fell;
      cut = λ first start h. s.cut first start (begins c.args.feed.now c.args.folding.now first _ start _ c.requires.begun c.requires.still h);
      past = λ first start h. s.past first start (begins c.args.feed.now c.args.folding.now first _ start _ c.requires.begun c.requires.still h);
    })

pub returns-in_err-end-clause-stops : goal.returns-in_err-end-clause-stops
returns-in_err-end-clause-stops g c =
    let p = err_from_is_err_and c.from_residual-in_err-end.result c.from_residual-in_err-end.ensures.1 in
    let e = c.in_err-end.field-0.0 in
    let fell = c.in_err-end.ensures.fell in
    rw (p.1, p.2) (record {
      fell = fell_any _ _ e (fell_since _ _ _ _ _ _ e c.pieces.ensures.output.counts c.pieces.ensures.list.counts fell);
      cut = λ first start h.
          not_ended c.in_ok-some.some c.pieces.new.feed c.pieces.new.folding first _ start _ _ c.in_err-end.ensures.err
          (c.in_ok-some.ensures.told first start (begins c.args.feed.now c.args.folding.now first _ start _ c.requires.begun c.requires.still h));
      past = λ first start h. none_past _ e first _ fell;
    })

pub returns-clause-told : goal.returns-clause-told
returns-clause-told g c = λ first start h.
    ends c.in_ok-some.some c.pieces.new.feed c.pieces.new.folding c.end.new.folding first _ start _ _ c.in_ok-end.ensures.told
    (c.in_ok-some.ensures.told first start (begins c.args.feed.now c.args.folding.now first _ start _ c.requires.begun c.requires.still h))
