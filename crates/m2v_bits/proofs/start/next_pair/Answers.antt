use Rattle.std.proofs.Common.{subst}
use Rattle.std.proofs.lemmas.List.{take_rest}
use Rattle.m2v_bits.specs.Bits.{HasNoPair}
use Rattle.m2v_bits.proofs.PairLaws.{pair_first}
use Rattle.m2v_bits.proofs.start.next_pair.Goals as goal

pub returns-clause-none : goal.returns-clause-none
returns-clause-none c =
    let bytes = c.args.bytes.now in
    pair_first bytes c.args.from c.before_pair.result (subst (HasNoPair c.before_pair.result) (take_rest bytes c.args.from) c.before_pair.ensures.none)
