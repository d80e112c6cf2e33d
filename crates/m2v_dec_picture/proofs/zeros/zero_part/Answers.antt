use Rattle.std.proofs.lemmas.List.{take-replicate}
use Rattle.m2v_dec_picture.proofs.zeros.zero_part.Goals as goal

pub returns : goal.returns
returns c = take-replicate c.args.len 1920 0 c.requires
