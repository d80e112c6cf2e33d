use Rattle.std.proofs.Common.{◌≡◌, Bool, sym, subst}
use Rattle.m2v_block.specs.declared.lengths.TheConstants.{ZERO_LENGTHS, ONE_LENGTHS}
use Rattle.m2v_block.specs.Lengths.{pair_lengths}
use Rattle.m2v_block.proofs.PairLengths.{zero_lengths, one_lengths}
use Rattle.m2v_block.proofs.count.lengths_of.Goals as goal

pub returns-then-one : goal.returns-then-one
returns-then-one c = subst (λ (b : Bool). ONE_LENGTHS ≡ pair_lengths b) (sym c.if-one.true) one_lengths

pub returns : goal.returns
returns c = subst (λ (b : Bool). ZERO_LENGTHS ≡ pair_lengths b) (sym c.if-one.false) zero_lengths
