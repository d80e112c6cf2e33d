use Rattle.std.proofs.Common.{ℕ, ◌+◌, ◌%◌, ◌<◌, sym, subst}
use Rattle.m2v_pred.specs.declared.patch.Patch.{Patch}
use Rattle.m2v_pred.specs.Patches.{IsPatch, PatchedFrom}
use Rattle.m2v_pred.proofs.Lines.{all_placed}
use Rattle.m2v_pred.proofs.patch.by_case_whole.Goals as goal

pub all_lines-requires-clause-first : goal.all_lines-requires-clause-first
all_lines-requires-clause-first g c = (all_placed g.row.SIDE c.args.patch.now c.requires.some c.requires.patch c.requires.all).0

pub all_lines-requires-clause-apart : goal.all_lines-requires-clause-apart
all_lines-requires-clause-apart g c = (all_placed g.row.SIDE c.args.patch.now c.requires.some c.requires.patch c.requires.all).1

pub by_case-requires-clause-patch : goal.by_case-requires-clause-patch
by_case-requires-clause-patch g c = subst (λ (p : Patch). IsPatch g.row.SIDE p) (sym c.all_lines.ensures.value) c.requires.patch

pub by_case-requires-clause-held : goal.by_case-requires-clause-held
by_case-requires-clause-held g c =
    subst (λ (p : Patch). (k : ℕ) → k < p.height + p.y % 2 → g.L.PatchLines.Holds c.args.lines.now k (g.row.SIDE + p.x % 2))
    (sym c.all_lines.ensures.value) c.requires.held

pub returns : goal.returns
returns g c = record {
  value = subst (λ (p : Patch). PatchedFrom g.row.SIDE p (g.L.PatchLines.at c.args.lines.now) c.args.out.now c.by_case.new.out)
      c.all_lines.ensures.value c.by_case.ensures.value;
}
