use Rattle.std.proofs.Common.{sym, arith}
use Rattle.m2v_choose.specs.Choice.{bits_taken}
use Rattle.m2v_choose.specs.Decisions.{no_levels}
use Rattle.m2v_choose.proofs.Headers.{is_bare, bare_length, text_alone}
use Rattle.m2v_choose.proofs.predictions.count_alone.Goals as goal

pub returns-clause-some : goal.returns-clause-some
returns-clause-some c = sym c.if-not-uncoded.false

pub returns-clause-alone : goal.returns-clause-alone
unfolding bits_taken
returns-clause-alone c =
    let t = c.args.task.now in
    let m = c.args.bare.now in
    let fits = c.requires.stands c.if-not-uncoded.false in
    let own = c.requires.task.asked.own.kind in
    let bare = is_bare t.context.now t.first m fits c.requires.code.other c.requires.pattern own.0 own.1 in
    record {
      macro = λ e. fits;
      bits = λ r. omega (
        arith,
        c.requires.value,
        c.requires.kinds.bare,
        text_alone t.context.now t.state.now (record { syntax = m; levels = no_levels }) c.requires.pattern,
        bare_length t.context.now t.state.now m bare,
      );
    }
