use Rattle.std.proofs.Common.{arith, ◌+◌, ◌-◌, List, Bool, sym, subst}
use Rattle.std.specs.List.{range_with_len, flat_map}
use Rattle.m2v_bits.specs.Outputs.{Gains}
use Rattle.m2v_bits.proofs.Outputs.{gains_none, gains_but_all, gains_but_less, gains_but_none, room_for_next}
use Rattle.m2v_bits.proofs.Texts.{left_more, left_none}
use Rattle.m2v_macroblock.specs.Macroblocks.{macroblock_of}
use Rattle.m2v_macroblock.specs.Texts.{block_in_text}
use Rattle.m2v_macroblock.proofs.write.put_blocks.Goals as goal

pub loop-block-init : goal.loop-block-init
loop-block-init g c = gains_but_all

pub put_one-requires-clause-room : goal.put_one-requires-clause-room
put_one-requires-clause-room g c =
    let text = block_in_text c.args.context.now c.args.state.now (macroblock_of c.args.x.now c.args.levels.now) in
    room_for_next (text c.loop-block.block) (flat_map text (range_with_len (c.loop-block.block + 1) (6 - (c.loop-block.block + 1)))) c.loop-block.invariant (left_more text 6 c.loop-block.block (omega arith)) c.requires.room

pub loop-block-preserved : goal.loop-block-preserved
loop-block-preserved g c =
    let text = block_in_text c.args.context.now c.args.state.now (macroblock_of c.args.x.now c.args.levels.now) in
    gains_but_less c.loop-block.invariant (left_more text 6 c.loop-block.block (omega arith)) c.put_one.ensures

pub returns : goal.returns
returns g c =
    let text = block_in_text c.args.context.now c.args.state.now (macroblock_of c.args.x.now c.args.levels.now) in
    gains_but_none c.loop-block.invariant
    (subst (λ (t : List Bool). Gains g.O.BitOutput.took g.O.BitOutput.space c.loop-block.out t c.loop-block.out) (sym (left_none text 6 c.loop-block.block (omega arith))) gains_none)
