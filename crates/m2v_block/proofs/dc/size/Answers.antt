use Rattle.std.proofs.Common.{refl}
use Rattle.m2v_block.proofs.Numbers.{size_by_zeros}
use Rattle.m2v_block.proofs.dc.size.Goals as goal

pub returns-clause-value : goal.returns-clause-value
returns-clause-value c = (size_by_zeros c.args.magnitude _ _ c.requires refl refl).value

pub returns-clause-most : goal.returns-clause-most
returns-clause-most c = (size_by_zeros c.args.magnitude _ _ c.requires refl refl).most

pub returns-clause-fits : goal.returns-clause-fits
returns-clause-fits c = (size_by_zeros c.args.magnitude _ _ c.requires refl refl).fits
