use Rattle.std.proofs.Common.{◌≡◌, Err, refl, sym, ap, subst, arith}
use Rattle.std.proofs.lemmas.Result.{err_from_is_err_and}
use Rattle.m2v_port.specs.Ends.{change}
use Rattle.m2v_cut.specs.Progress.{RestFails, RestPut}
use Rattle.m2v_cut.specs.Behind.{BehindFails, BehindPut}
use Rattle.m2v_cut.specs.Starts.{piece_list}
use Rattle.m2v_cut.proofs.Firsts.{second_room}
use Rattle.m2v_cut.proofs.Behinds.{on_ok_weaker, if_err_weaker, behind_put, behind_none, second_failed, rest_failed}
use Rattle.m2v_cut.proofs.behind.put_behind.Goals as goal

pub returns-in_err-put_second-clause-err : goal.returns-in_err-put_second-clause-err
returns-in_err-put_second-clause-err g c =
    let p = err_from_is_err_and c.from_residual.result c.from_residual.ensures.1 in
    rw (p.1, p.2)
    (second_failed g.S.Source.left g.S.Source.faults g.K.Sink.held g.K.Sink.faults c.args.input.now _ _ (piece_list c.args.second.now) c.args.most c.args.copied.now.groups c.args.cutter.now c.in_err-put_second.field-0.0 c.requires.begun c.in_err-put_second.ensures.err)

pub returns-then-not-branch-clause-put : goal.returns-then-not-branch-clause-put
returns-then-not-branch-clause-put g c =
    let put = rw c.if-not-branch.true at c.in_ok-put_second.ensures.put in
    behind_none g.S.Source.left g.S.Source.faults g.K.Sink.held g.K.Sink.faults c.args.input.now _ _ c.args.second.now c.args.most c.args.copied.now c.put_second.new.copied _ c.args.cutter.now c.requires.begun c.requires.few put refl

pub put_rest-requires-clause-room : goal.put_rest-requires-clause-room
put_rest-requires-clause-room g c =
    second_room c.args.second.now c.in_ok-put_second.field-0 c.args.most c.args.copied.now c.put_second.new.copied _ c.args.copied.now.bytes c.args.cutter.now.place c.in_ok-put_second.ensures.put (omega arith) c.requires.room c.requires.second c.requires.sound

pub returns-clause-put : goal.returns-clause-put
returns-clause-put g c =
    let put = rw c.if-not-branch.false at c.in_ok-put_second.ensures.put in
    on_ok_weaker c.put_rest.result (behind_put g.S.Source.left g.S.Source.faults g.K.Sink.held g.K.Sink.faults c.args.input.now c.put_rest.new.input c.args.output.now c.put_second.new.output c.put_rest.new.output c.args.second.now c.args.most c.args.copied.now c.put_second.new.copied c.put_rest.new.copied c.args.cutter.now c.put_rest.new.cutter put) c.put_rest.ensures.put

pub returns-clause-err : goal.returns-clause-err
returns-clause-err g c =
    let put = rw c.if-not-branch.false at c.in_ok-put_second.ensures.put in
    if_err_weaker c.put_rest.result (λ e. rest_failed g.S.Source.left g.S.Source.faults g.K.Sink.held g.K.Sink.faults c.args.input.now c.put_rest.new.input c.args.output.now c.put_second.new.output c.put_rest.new.output c.args.second.now c.args.most c.args.copied.now c.put_second.new.copied c.args.cutter.now e c.put_second.ensures.output.counts put) c.put_rest.ensures.err
