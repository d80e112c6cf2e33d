use Rattle.std.proofs.Common.{refl, ap, arith}
use Rattle.std.proofs.lemmas.Result.{err_from_is_err_and}
use Rattle.m2v_port.proofs.Runs.{stays_here, stays_on}
use Rattle.m2v_dec_piece.specs.Cutting.{Cutting}
use Rattle.m2v_audit.proofs.AllTexts.{texts_none, texts_more, texts_far, texts_end, texts_stop, smaller}
use Rattle.m2v_audit.proofs.FeedLaws.{cutter_is}
use Rattle.m2v_audit.proofs.texts.tell_texts.Goals as goal

pub loop-feed-init : goal.loop-feed-init
loop-feed-init g c = rw (cutter_is c.args.feed.now c.requires.again, c.requires.cutter, c.requires.again, c.requires.so_far) (record {
  so_far = texts_none g.S.Source.left g.S.Source.faults g.K.Sink.held g.K.Sink.faults _ _ _;
  begun = refl;
  still = refl;
  going = refl;
  waits = tt;
  output = stays_here c.requires.output;
  input = omega arith;
})

pub returns-in_err-tell_text-clause-err : goal.returns-in_err-tell_text-clause-err
returns-in_err-tell_text-clause-err g c =
    let inv = c.loop-feed.invariant in
    let p = err_from_is_err_and c.from_residual.result c.from_residual.ensures.1 in
    rw (p.1, p.2) (texts_stop g.S.Source.left g.S.Source.faults g.K.Sink.held g.K.Sink.faults _ _ _ _ _ _ _ _ _ _ _ c.in_err-tell_text.field-0.0 inv.input inv.output.counts inv.so_far c.in_err-tell_text.ensures.err)

pub returns-then-not-branch-clause-ok : goal.returns-then-not-branch-clause-ok
returns-then-not-branch-clause-ok g c =
    let inv = c.loop-feed.invariant in
    let told = rw c.if-not-branch.true at c.in_ok-tell_text.ensures.ok in
    texts_end g.S.Source.left g.S.Source.faults g.K.Sink.held g.K.Sink.faults _ _ _ _ _ _ _ _ _ _ _ _ inv.so_far told

pub loop-feed-preserved : goal.loop-feed-preserved
loop-feed-preserved g c =
    let inv = c.loop-feed.invariant in
    let told = rw c.if-not-branch.false at c.in_ok-tell_text.ensures.ok in
    let far = texts_far g.S.Source.left g.S.Source.faults g.K.Sink.held g.K.Sink.faults _ _ _ _ _ _ _ _ _ _ _ _ _ _ inv.so_far told in
    let waits = c.go_on.ensures.waits _ c.tell_text.ensures.waits in
    rw c.go_on.ensures.value (record {
      so_far = texts_more g.S.Source.left g.S.Source.faults g.K.Sink.held g.K.Sink.faults _ _ _ _ _ _ _ _ _ _ _ _ _ _ inv.so_far told;
      begun = refl;
      still = refl;
      going = far.1;
      waits = waits;
      output = stays_on inv.output c.tell_text.ensures.output;
      input = omega (arith, inv.input, c.tell_text.ensures.input);
    })

pub loop-feed-smaller : goal.loop-feed-smaller
loop-feed-smaller g c =
    let inv = c.loop-feed.invariant in
    let told = rw c.if-not-branch.false at c.in_ok-tell_text.ensures.ok in
    let far = texts_far g.S.Source.left g.S.Source.faults g.K.Sink.held g.K.Sink.faults _ _ _ _ _ _ _ _ _ _ _ _ _ _ inv.so_far told in
    let there = ap (λ (x : Cutting). x.place) c.go_on.ensures.value in
    smaller c.loop-feed.later _ _ _ far.0 there c.tell_text.ensures.most
