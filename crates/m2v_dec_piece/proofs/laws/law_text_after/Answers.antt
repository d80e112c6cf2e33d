use Rattle.m2v_dec_piece.proofs.TextLaws.{text_whole}
use Rattle.m2v_dec_piece.proofs.laws.law_text_after.Goals as goal

pub returns : goal.returns
returns c = text_whole
