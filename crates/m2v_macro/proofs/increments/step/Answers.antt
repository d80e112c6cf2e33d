use Rattle.std.proofs.Common.{sym, ap, ◌∙◌, length, subst, ℕ, List, Bool, Result}
use Rattle.m2v_bits.specs.Syntax.{Gives}
use Rattle.m2v_bits.specs.Bits.{Unread}
use Rattle.m2v_macro.specs.declared.fault.MacroFault.{MacroFault}
use Rattle.m2v_macro.specs.Macros.{allowed_at}
use Rattle.m2v_macro.proofs.Steps.{step_is, allowed_kept}
use Rattle.m2v_macro.proofs.increments.step.Goals as goal

pub returns-clause-exact : goal.returns-clause-exact
returns-clause-exact c =
    let n = c.in_ok-increment.ensures.exact in
    let ctx = c.args.context.now in
    let st = c.args.state.now in
    let mid = c.increment.new.input.rest in
    let start = ap (λ (r : Unread). length r.rest) c.fork-start.ensures in
    let same = allowed_kept ctx st (length c.fork-start.result.rest) n.0 c.in_ok-increment.increment mid n.1 c.requires.context.columns.1 c.requires.address.0 c.requires.next in
    let all = step_is ctx st n.0 c.args.input.now.rest mid n.2 in
    subst (λ (r : Result (ℕ × List Bool) (MacroFault × ℕ)). Gives c.allowed.result c.allowed.new.input.rest r)
    (same ∙ ap (λ (x : ℕ). (allowed_at ctx st x n.0).read mid) start ∙ sym all) c.allowed.ensures.exact
