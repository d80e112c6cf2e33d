use Rattle.std.proofs.Common.{ℕ, sym, subst}
use Rattle.m2v_macroblock.specs.Conditions.{AreDc}
use Rattle.m2v_choose.proofs.OwnReady.{own_ready}
use Rattle.m2v_choose.proofs.Tried.{own_picture}
use Rattle.m2v_slice.proofs.macroblocks.write_chosen.Goals as goal

pub write_macroblock-requires-clause-picture : goal.write_macroblock-requires-clause-picture
write_macroblock-requires-clause-picture c = own_picture c.args.context.now c.requires.own

pub write_macroblock-requires-clause-state : goal.write_macroblock-requires-clause-state
write_macroblock-requires-clause-state c = own_ready c.args.context.now c.args.state.now c.requires.own c.requires.state

pub write_macroblock-requires-clause-dc : goal.write_macroblock-requires-clause-dc
write_macroblock-requires-clause-dc c = subst (λ (p : ℕ). AreDc p c.args.state.now.dc) (sym c.requires.own.precision) c.requires.dc
