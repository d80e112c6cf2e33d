use Rattle.m2v_audit.proofs.Placed.{all_placed, pieces_begin}
use Rattle.m2v_audit.proofs.front_laws.law_front_placed.Goals as goal

pub returns : goal.returns
returns c = record { placed = all_placed; begins = pieces_begin }
