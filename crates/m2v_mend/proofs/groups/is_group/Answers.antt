use Rattle.std.proofs.Common.{Bool, sym, ap, ◌∙◌}
use Rattle.std.specs.Prelude.{nat_lt, ◌&&◌}
use Rattle.m2v_mend.proofs.FoldLaws.{group_is}
use Rattle.m2v_mend.proofs.groups.is_group.Goals as goal

pub returns-then-parts : goal.returns-then-parts
returns-then-parts c s is = sym (ap (λ (b : Bool). b && nat_lt 0 c.args.parts.now.pictures) c.if-parts.true) ∙ group_is s c.args.parts.now is
