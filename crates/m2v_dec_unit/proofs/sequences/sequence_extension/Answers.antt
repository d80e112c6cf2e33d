use Rattle.m2v_dec_unit.proofs.Judged.{sequence_is}
use Rattle.m2v_dec_unit.proofs.sequences.sequence_extension.Goals as goal

pub returns-clause-fits : goal.returns-clause-fits
returns-clause-fits c = sequence_is c.args.info.now c.in_ok-extension.extension c.args.input.now.rest c.extension_in.new.input.rest c.in_ok-extension.ensures.exact c.in_ok-extension.ensures.fits
