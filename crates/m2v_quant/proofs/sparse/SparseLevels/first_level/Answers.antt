use Rattle.std.proofs.Common.{◌∙◌, ap, sym, get_or, pos, w32}
use Rattle.std.proofs.lemmas.Int.{to_z-of_z}
use Rattle.m2v_quant.specs.declared.kind.Levels.{Levels}
use Rattle.m2v_quant.proofs.Kept.{first_stays, level_fits}
use Rattle.m2v_quant.proofs.sparse.SparseLevels.first_level.Goals as goal

pub returns : goal.returns
returns c =
    let s = c.self.inside in
    record {
      value = to_z-of_z w32 s.first (level_fits s.first c.self.invariant.first_is) ∙ sym (first_stays s.first s.later s.count c.self.invariant.each)
          ∙ ap (λ (v : Levels). get_or v.at 0 (pos 0)) c.self.view_is;
    }
