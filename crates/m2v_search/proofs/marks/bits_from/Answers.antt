use Rattle.std.proofs.Common.{ℕ, refl, get_or}
use Rattle.m2v_search.proofs.Marking.{told_from}
use Rattle.m2v_search.proofs.marks.bits_from.Goals as goal

pub returns : goal.returns
returns c = told_from (λ (i : ℕ). get_or c.args.bounds.now i 0) c.args.limit c.args.at c.bits_below.result _ c.requires.at refl c.bits_below.ensures
