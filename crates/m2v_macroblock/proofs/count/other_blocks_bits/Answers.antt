use Rattle.std.proofs.Common.{arith, ap, length}
use Rattle.m2v_bits.proofs.Texts.{left_length, left_none}
use Rattle.m2v_macro.specs.States.{after}
use Rattle.m2v_macroblock.specs.Macroblocks.{macroblock_of}
use Rattle.m2v_macroblock.specs.Texts.{block_in_text}
use Rattle.m2v_macroblock.proofs.Counted.{no_blocks}
use Rattle.m2v_macroblock.proofs.count.other_blocks_bits.Goals as goal

pub loop-block-preserved : goal.loop-block-preserved
loop-block-preserved c =
    let text = block_in_text c.args.context.now (after c.args.context.now c.args.state.now c.args.x.now) (macroblock_of c.args.x.now c.args.levels.now) in
    record {
      bits = omega (arith, c.loop-block.invariant.bits, c.other_one_bits-bits.ensures.value, left_length text 6 c.loop-block.block (omega arith));
      most = omega (arith, c.loop-block.invariant.most, c.other_one_bits-bits.ensures.most);
    }

pub returns-clause-value : goal.returns-clause-value
returns-clause-value c =
    let text = block_in_text c.args.context.now (after c.args.context.now c.args.state.now c.args.x.now) (macroblock_of c.args.x.now c.args.levels.now) in
    omega (arith, c.loop-block.invariant.bits, ap length (left_none text 6 c.loop-block.block (omega arith)))

pub returns-then-pattern-eq0-clause-value : goal.returns-then-pattern-eq0-clause-value
returns-then-pattern-eq0-clause-value c =
    no_blocks c.args.context.now (after c.args.context.now c.args.state.now c.args.x.now) (macroblock_of c.args.x.now c.args.levels.now) c.if-pattern-eq0.true
