use Rattle.std.proofs.Common.{arith}
use Rattle.m2v_make.proofs.SourceLaws.{draws_none}
use Rattle.m2v_make.proofs.generated.Generated.new.Goals as goal

pub invariant_of-result : goal.invariant_of-result
invariant_of-result c = (omega arith, draws_none c.args.seed)
