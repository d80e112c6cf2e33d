use Rattle.std.proofs.Common.{refl, sym, ap, subst, ◌∙◌}
use Rattle.m2v_bits.proofs.Outputs.{gains_on}
use Rattle.m2v_macro.specs.declared.values.SliceState.{SliceState}
use Rattle.m2v_macro.specs.Conditions.{IsReady}
use Rattle.m2v_macro.proofs.Ready.{ready_after}
use Rattle.m2v_recon.specs.Steps.{levels_of}
use Rattle.m2v_macroblock.specs.Macroblocks.{macroblock_of, dc_after}
use Rattle.m2v_macroblock.specs.Texts.{macroblock_text}
use Rattle.m2v_macroblock.specs.Conditions.{AreDc, AreWritable}
use Rattle.m2v_macroblock.proofs.DcLaws.{writable, dc_written}
use Rattle.m2v_macroblock.proofs.write.write_macroblock.Goals as goal

pub put_blocks-requires-clause-blocks : goal.put_blocks-requires-clause-blocks
put_blocks-requires-clause-blocks c =
    let x = macroblock_of c.args.x.now c.args.levels.now in
    let ready = ready_after c.args.context.now c.args.state.now c.args.x.now c.requires.state c.requires.fits in
    subst (λ (s : SliceState). AreWritable c.args.context.now s x) (sym c.after-next.ensures) (writable c.args.context.now c.args.state.now x ready c.requires.dc c.requires.fits c.requires.blocks)

pub returns-clause-written : goal.returns-clause-written
unfolding macroblock_text
returns-clause-written c =
    let written = (gains_on c.put_macro.ensures c.put_blocks.ensures).taken c.args.out.now.written refl in
    rw c.after-next.ensures at written

pub returns-clause-room : goal.returns-clause-room
unfolding macroblock_text
returns-clause-room c =
    let less = (gains_on c.put_macro.ensures c.put_blocks.ensures).less in
    rw c.after-next.ensures at less

pub returns-clause-dc : goal.returns-clause-dc
returns-clause-dc c =
    let m = c.args.x.now in
    let same = c.dc_after-state.ensures ∙ ap (λ (s : SliceState). dc_after m.kind.intra (levels_of c.args.levels.now) s.dc) c.after-next.ensures in
    subst (AreDc c.args.context.now.extension.dc_precision) (sym same) (dc_written c.args.context.now c.args.state.now m c.args.levels.now c.requires.dc c.requires.fits c.requires.blocks)

pub returns-clause-ready : goal.returns-clause-ready
returns-clause-ready c =
    let ctx = c.args.context.now in
    let ready = subst (λ (s : SliceState). IsReady ctx s) (sym c.after-next.ensures) (ready_after ctx c.args.state.now c.args.x.now c.requires.state c.requires.fits) in
    record { forward = ready.forward; backward = ready.backward; quantiser = ready.quantiser }
