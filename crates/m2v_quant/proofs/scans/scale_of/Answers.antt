use Rattle.std.proofs.Common.{◌∙◌, ap, ◌*◌, ℕ}
use Rattle.m2v_quant.proofs.Tables.{scale_nonlinear, scale_linear, scale_range}
use Rattle.m2v_quant.proofs.scans.scale_of.Goals as goal

pub returns-then-kind-clause-value : goal.returns-then-kind-clause-value
returns-then-kind-clause-value c = c.from.ensures ∙ scale_nonlinear c.args.kind c.args.code c.entry.result c.if-kind.true c.entry.ensures

pub returns-then-kind-clause-least : goal.returns-then-kind-clause-least
returns-then-kind-clause-least c = rw c.from.ensures (scale_range c.args.code c.entry.result c.requires.0 c.requires.1 c.entry.ensures).0

pub returns-then-kind-clause-most : goal.returns-then-kind-clause-most
returns-then-kind-clause-most c = rw c.from.ensures (scale_range c.args.code c.entry.result c.requires.0 c.requires.1 c.entry.ensures).1

pub returns-else-kind-clause-value : goal.returns-else-kind-clause-value
returns-else-kind-clause-value c = ap (λ (x : ℕ). 2 * x) c.from-else-kind.ensures ∙ scale_linear c.args.kind c.args.code c.if-kind.false
