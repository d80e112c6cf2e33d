use Rattle.m2v_law_shown.proofs.Sequences.{sequences_none}
use Rattle.m2v_law_shown.proofs.Pictures.{picture_keeps}
use Rattle.m2v_law_shown.proofs.laws.law_lawful_headers.Goals as goal

pub returns : goal.returns
returns c = record { sequences = sequences_none; pictures = picture_keeps }
