use Rattle.std.proofs.Common.{sym, subst}
use Rattle.m2v_macro.specs.declared.values.SliceState.{SliceState}
use Rattle.m2v_macro.specs.Conditions.{IsReady}
use Rattle.m2v_macro.proofs.Ready.{ready_after}
use Rattle.m2v_macro.proofs.read.read_macro_into.Goals as goal

pub returns-clause-ready : goal.returns-clause-ready
returns-clause-ready c =
    let ctx = c.args.context.now in
    subst (λ (st : SliceState). IsReady ctx st) (sym c.go_on.ensures) (ready_after ctx c.args.state.now c.macroblock.new.m c.requires.state c.in_ok-macroblock.ensures.fits)
