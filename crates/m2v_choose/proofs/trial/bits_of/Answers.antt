use Rattle.std.proofs.Common.{length, ap, sym, ◌∙◌}
use Rattle.m2v_macro.specs.declared.values.SliceState.{SliceState}
use Rattle.m2v_macroblock.specs.Macroblocks.{macroblock_of}
use Rattle.m2v_macroblock.specs.Texts.{macroblock_text}
use Rattle.m2v_choose.specs.Choice.{bits_taken}
use Rattle.m2v_choose.specs.Trials.{as_first}
use Rattle.m2v_choose.proofs.Tried.{own_picture, first_ready, first_address, first_dc, same_text}
use Rattle.m2v_choose.proofs.trial.bits_of.Goals as goal

pub macroblock_bits-requires-clause-picture : goal.macroblock_bits-requires-clause-picture
macroblock_bits-requires-clause-picture c = own_picture c.args.task.now.context.now c.requires.task.asked.own

pub macroblock_bits-requires-clause-state : goal.macroblock_bits-requires-clause-state
macroblock_bits-requires-clause-state c = first_ready c.args.task.now c.requires.task

pub macroblock_bits-requires-clause-address : goal.macroblock_bits-requires-clause-address
macroblock_bits-requires-clause-address c = first_address c.args.task.now c.requires.task

pub macroblock_bits-requires-clause-dc : goal.macroblock_bits-requires-clause-dc
macroblock_bits-requires-clause-dc c = first_dc c.args.task.now c.requires.task

pub returns-clause-value : goal.returns-clause-value
unfolding bits_taken
returns-clause-value c = λ r.
    let t = c.args.task.now in
    let x = macroblock_of c.args.syntax.now c.args.levels.now in
    let first = c.requires.task.first ∙ ap (as_first t.context.now t.state.now) (sym c.requires.increment) in
    c.macroblock_bits.ensures.value ∙ ap (λ (st : SliceState). length (macroblock_text t.context.now st x)) first ∙ ap length (same_text t.context.now t.state.now x)
