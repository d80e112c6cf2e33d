use Rattle.std.proofs.Common.{length, ap, sym, ◌∙◌}
use Rattle.m2v_slice.proofs.KeptLines.{kept_count}
use Rattle.m2v_slice.proofs.kept.KeptRows.count.Goals as goal

pub returns-clause-value : goal.returns-clause-value
returns-clause-value c =
    let s = c.self.inside in
    sym (ap length (sym c.self.view_is) ∙ kept_count s.dims s.luma.items s.cb.items s.cr.items)
