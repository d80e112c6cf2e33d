use Rattle.m2v_law_seam.proofs.Reading.{reads_on}
use Rattle.m2v_law_seam.proofs.laws.law_reads_on.Goals as goal

pub returns : goal.returns
returns c = reads_on
