use Rattle.std.proofs.Common.{◌∙◌, ap, sym, length}
use Rattle.std.proofs.lemmas.Int.{to_z-of_z}
use Rattle.m2v_quant.specs.declared.kind.Levels.{Levels}
use Rattle.m2v_quant.proofs.Kept.{length_spread, set_first}
use Rattle.m2v_quant.proofs.sparse.SparseLevels.put.Goals as goal

pub returns-then-position-eq0-clause-value : goal.returns-then-position-eq0-clause-value
returns-then-position-eq0-clause-value c =
    let s = c.self.inside in
    let fits = c.ranges.level in
    let len = ap (λ (v : Levels). length v.at) (sym c.self.view_is) ∙ length_spread s.first s.later s.count in
    simp to_z-of_z at c.open.ensures.value ∙ set_first c.args.self.now.at c.args.position c.args.level len c.if-position-eq0.true c.requires.clear
