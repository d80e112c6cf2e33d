use Rattle.std.proofs.Common.{ℕ, nat_eq, ap, ◌∙◌, arith}
use Rattle.m2v_mend.proofs.InfoLaws.{begins_alone, begins_first}
use Rattle.m2v_mend.proofs.info.PieceInfo.is_intra.Goals as goal

pub returns-clause-alone : goal.returns-clause-alone
returns-clause-alone c p i = ap (λ (n : ℕ). nat_eq n 1) i.kind ∙ begins_alone 1 p (omega arith)

pub returns-clause-first : goal.returns-clause-first
returns-clause-first c p ps i some = ap (λ (n : ℕ). nat_eq n 1) i.kind ∙ begins_first 1 p ps (omega arith) (omega (arith, some, i.pictures))
