use Rattle.m2v_dec_rows.proofs.OnePictureLaws.{one_picture}
use Rattle.m2v_dec_rows.proofs.laws.law_one_picture.Goals as goal

pub returns : goal.returns
returns c text = one_picture text
