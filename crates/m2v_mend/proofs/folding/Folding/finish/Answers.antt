use Rattle.std.proofs.Common.{ℕ, ap, ◌∙◌, arith}
use Rattle.m2v_law_seam.specs.Mending.{groups_behind}
use Rattle.m2v_mend.proofs.folding.Folding.finish.Goals as goal

pub returns-clause-told : goal.returns-clause-told
returns-clause-told c written listed t s told span of can = record {
  made = c.in_ok-span.ensures.told written listed t.made s told.made span of can;
  groups = c.in_ok-groups.ensures s span ∙ ap (λ (n : ℕ). groups_behind n s) told.groups;
  pictures = omega (arith, c.in_ok-pictures.ensures, told.pictures, span.pictures);
}
