use Rattle.std.proofs.Common.{arith, ◌+◌, ap, sym, ◌∙◌, ◌==◌}
use Rattle.std.specs.List.{list_any}
use Rattle.m2v_port.specs.Memory.{after_call}
use Rattle.m2v_port.proofs.Numbers.{fewer, after_failing, after_passing}
use Rattle.m2v_port.proofs.calls.CallList.next_fails.Goals as goal

pub invariant_of-self : goal.invariant_of-self
invariant_of-self c =
    let made = c.self.inside.made in
    let stands = c.stands-fails.ensures in
    let fails = ap (list_any (λ number. number == made + 1)) (sym c.deref.ensures.value) ∙ sym stands.value ∙ c.if-fails.true in
    after_failing c.self.inside.fail.items made c.self.inside.failed c.saturating_add-self-inside.result _ c.saturating_add-self-inside.ensures (stands.fits c.if-fails.true) fails c.self.invariant

pub invariant_of-self-else-fails : goal.invariant_of-self-else-fails
invariant_of-self-else-fails c =
    omega (arith, c.self.invariant, c.saturating_add-self-inside.ensures, fewer c.self.inside.made c.saturating_add-self-inside.result c.self.inside.fail.items (omega arith))

pub returns-else-fails-clause-after : goal.returns-else-fails-clause-after
returns-else-fails-clause-after c =
    let made = c.self.inside.made in
    let passes = ap (list_any (λ number. number == made + 1)) (sym c.deref.ensures.value) ∙ sym c.stands-fails.ensures.value ∙ c.if-fails.false in
    after_passing c.self.inside.fail.items made c.self.inside.failed c.saturating_add-self-inside.result c.saturating_add-self-inside.ensures passes ∙ ap after_call c.self.view_is
