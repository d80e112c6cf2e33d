use Rattle.std.proofs.Common.{refl, sym, subst}
use Rattle.m2v_macro.specs.declared.values.SliceState.{SliceState}
use Rattle.m2v_macro.specs.Conditions.{IsReady}
use Rattle.m2v_macro.proofs.Ready.{ready_after}
use Rattle.m2v_macro.proofs.MacroSpellings.{macro_spells}
use Rattle.m2v_macro.proofs.write.write_macro.Goals as goal

pub returns-clause-written : goal.returns-clause-written
returns-clause-written c = c.put_macro.ensures.taken c.args.out.now.written refl

pub returns-clause-room : goal.returns-clause-room
returns-clause-room c = c.put_macro.ensures.less

pub returns-clause-spells : goal.returns-clause-spells
returns-clause-spells c = macro_spells c.args.context.now c.args.state.now c.args.m.now c.requires.context c.requires.state c.requires.fits

pub returns-clause-ready : goal.returns-clause-ready
returns-clause-ready c =
    let ctx = c.args.context.now in
    subst (λ (st : SliceState). IsReady ctx st) (sym c.after.ensures) (ready_after ctx c.args.state.now c.args.m.now c.requires.state c.requires.fits)
