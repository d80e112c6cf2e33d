use Rattle.m2v_dec_piece.proofs.TextLaws.{comes_to_next}
use Rattle.m2v_dec_piece.proofs.laws.law_next_text.Goals as goal

pub returns : goal.returns
returns c = comes_to_next
