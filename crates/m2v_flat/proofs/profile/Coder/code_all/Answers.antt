use Rattle.std.proofs.Common.{arith, refl, ap, Ok, ◌≡◌, ◌≤◌, ◌∙◌}
use Rattle.std.proofs.lemmas.Result.{err_from_is_err_and, IfErr-weaker}
use Rattle.m2v_port.specs.Ends.{change}
use Rattle.m2v_port.proofs.Runs.{stays_here, stays_on}
use Rattle.m2v_flat.specs.Answers.{FlatStops}
use Rattle.m2v_flat.specs.Steps.{EndStops, NextNone}
use Rattle.m2v_flat.proofs.Progress.{so_far_none, so_far_more, stopped, ended, end_stopped, went_on, look_stopped, join_ok}
use Rattle.m2v_flat.proofs.profile.Coder.code_all.Given
use Rattle.m2v_flat.proofs.profile.Coder.code_all.Goals as goal

pub loop-number-init : goal.loop-number-init
loop-number-init g c = record {
  ready = c.requires.ready;
  settings = refl;
  so_far = so_far_none g.S.Source.left g.S.Source.faults g.K.Sink.held g.K.Sink.faults c.args.self.now.settings c.args.input.now c.args.output.now;
  few = omega arith;
  output = stays_here c.requires.output;
  input = omega arith;
}

pub returns-in_err-more-clause-err : goal.returns-in_err-more-clause-err
returns-in_err-more-clause-err g c =
    let p = err_from_is_err_and c.from_residual.result c.from_residual.ensures.1 in
    let inv = c.loop-number.invariant in
    let stops = rw inv.settings at c.in_err-more.ensures.err in
    rw (p.1, p.2) (stopped g.S.Source.left g.S.Source.faults g.K.Sink.held g.K.Sink.faults _ _ _ _ _ _ _ _ _ _ c.requires.ready.passed.size (omega arith) inv.input inv.output.counts inv.so_far stops)

pub returns-in-None-clause-ok : goal.returns-in-None-clause-ok
returns-in-None-clause-ok g c =
    let inv = c.loop-number.invariant in
    let none = rw c.in-None.is at c.in_ok-more.ensures.coded in
    join_ok _ _ _ c.finish.ensures.some c.finish.ensures.grown c.finish.ensures.numbers
    (λ s some grown is. ended g.S.Source.left g.S.Source.faults g.K.Sink.held g.K.Sink.faults _ _ _ _ _ _ _ _ _ _ s (omega arith) inv.so_far none some grown is)

pub returns-in-None-clause-err : goal.returns-in-None-clause-err
returns-in-None-clause-err g c =
    let inv = c.loop-number.invariant in
    let none = rw c.in-None.is at c.in_ok-more.ensures.coded in
    let since : g.K.Sink.faults c.args.output.now ≤ g.K.Sink.faults c.next.new.output = omega (arith, inv.output.counts, c.next.ensures.output.counts) in
    IfErr-weaker c.finish.result
    (EndStops c.loop-number.number (change g.K.Sink.held g.K.Sink.faults c.next.new.output c.finish.new.output))
    (FlatStops c.args.self.now.settings (change g.S.Source.left g.S.Source.faults c.args.input.now c.next.new.input) (change g.K.Sink.held g.K.Sink.faults c.args.output.now c.finish.new.output))
    (λ e stops. end_stopped g.S.Source.left g.S.Source.faults g.K.Sink.held g.K.Sink.faults _ _ _ _ _ _ _ _ _ _ e c.requires.ready.passed.size (omega arith) since inv.so_far none stops)
    c.finish.ensures.err

pub loop-number-preserved : goal.loop-number-preserved
loop-number-preserved g c =
    let inv = c.loop-number.invariant in
    let coded = rw (c.in-Some.is, inv.settings) at c.in_ok-more.ensures.coded in
    let most = rw c.in-Some.is at c.in_ok-more.ensures.most in
    record {
      ready = c.next.ensures.ready;
      settings = c.next.ensures.settings ∙ inv.settings;
      so_far = so_far_more g.S.Source.left g.S.Source.faults g.K.Sink.held g.K.Sink.faults _ _ _ _ _ _ _ _ _ _ inv.so_far coded;
      few = omega (arith, inv.few, most);
      output = stays_on inv.output c.next.ensures.output;
      input = omega (arith, inv.input, c.next.ensures.input);
    }

pub returns-in_err-goes_on-clause-err : goal.returns-in_err-goes_on-clause-err
returns-in_err-goes_on-clause-err g c =
    let p = err_from_is_err_and c.from_residual-in_err-goes_on.result c.from_residual-in_err-goes_on.ensures.1 in
    let inv = c.loop-number.invariant in
    rw (p.1, p.2) (look_stopped g.S.Source.left g.S.Source.faults g.K.Sink.held g.K.Sink.faults _ _ _ _ _ _ _ _ _ c.requires.ready.passed.size (omega arith) inv.input inv.so_far c.in_err-goes_on.ensures.err)

pub returns-then-branch-clause-err : goal.returns-then-branch-clause-err
returns-then-branch-clause-err g c =
    let inv = c.loop-number.invariant in
    let more = c.in_ok-goes_on.ensures.more (ap Ok c.if-branch.true) in
    went_on g.S.Source.left g.S.Source.faults g.K.Sink.held g.K.Sink.faults _ _ _ more.0 _ _ _ _ _ (omega arith) inv.so_far more.1

-- the input had the most frames and ended behind them
abbrev ended_there : (g : Given.Over) (c : goal.After-finish-2 g) → NextNone (change g.S.Source.left g.S.Source.faults c.loop-number.input c.goes_on.new.input) (change g.K.Sink.held g.K.Sink.faults c.loop-number.output c.loop-number.output)
ended_there g c =
    let none = c.in_ok-goes_on.ensures.none (ap Ok c.if-branch.false) in
    record { moved = none.0; end = none.1; unwritten = record { same = refl; stays = refl } }

pub returns-clause-ok : goal.returns-clause-ok
returns-clause-ok g c =
    let all : c.loop-number.number ≡ 999999 = omega arith in
    let so_far = rw all at c.loop-number.invariant.so_far in
    join_ok _ _ _ c.finish-2.ensures.some c.finish-2.ensures.grown c.finish-2.ensures.numbers
    (λ s some grown is. ended g.S.Source.left g.S.Source.faults g.K.Sink.held g.K.Sink.faults _ _ _ _ _ _ _ _ _ _ s (omega arith) so_far (ended_there g c) some grown is)

pub returns-clause-err : goal.returns-clause-err
returns-clause-err g c =
    let inv = c.loop-number.invariant in
    let all : c.loop-number.number ≡ 999999 = omega arith in
    let so_far = rw all at inv.so_far in
    IfErr-weaker c.finish-2.result
    (EndStops 999999 (change g.K.Sink.held g.K.Sink.faults c.loop-number.output c.finish-2.new.output))
    (FlatStops c.args.self.now.settings (change g.S.Source.left g.S.Source.faults c.args.input.now c.goes_on.new.input) (change g.K.Sink.held g.K.Sink.faults c.args.output.now c.finish-2.new.output))
    (λ e stops. end_stopped g.S.Source.left g.S.Source.faults g.K.Sink.held g.K.Sink.faults _ _ _ _ _ _ _ _ _ _ e c.requires.ready.passed.size (omega arith) inv.output.counts so_far (ended_there g c) stops)
    c.finish-2.ensures.err
