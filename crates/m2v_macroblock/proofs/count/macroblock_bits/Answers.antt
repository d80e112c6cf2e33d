use Rattle.std.proofs.Common.{arith}
use Rattle.std.proofs.lemmas.List.{length-append}
use Rattle.m2v_macro.specs.States.{after}
use Rattle.m2v_macro.specs.Texts.{macro_text}
use Rattle.m2v_macro.proofs.Ready.{ready_after}
use Rattle.m2v_macroblock.specs.Macroblocks.{macroblock_of}
use Rattle.m2v_macroblock.specs.Texts.{blocks_text, macroblock_text}
use Rattle.m2v_macroblock.proofs.DcLaws.{writable}
use Rattle.m2v_macroblock.proofs.count.macroblock_bits.Goals as goal

pub blocks_bits-requires-clause-blocks : goal.blocks_bits-requires-clause-blocks
blocks_bits-requires-clause-blocks c =
    let ready = ready_after c.args.context.now c.args.state.now c.args.x.now c.requires.state c.requires.fits in
    writable c.args.context.now c.args.state.now (macroblock_of c.args.x.now c.args.levels.now) ready c.requires.dc c.requires.fits c.requires.blocks

pub returns-clause-value : goal.returns-clause-value
unfolding macroblock_text
returns-clause-value c =
    let x = macroblock_of c.args.x.now c.args.levels.now in
    omega (arith, c.macro_bits.ensures.value, c.blocks_bits.ensures.value, length-append (macro_text c.args.context.now c.args.state.now c.args.x.now) (blocks_text c.args.context.now (after c.args.context.now c.args.state.now c.args.x.now) x 0 6))
