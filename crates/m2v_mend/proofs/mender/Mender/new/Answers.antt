use Rattle.std.proofs.Common.{List, [], map, refl, sym, ap}
use Rattle.m2v_model.specs.Units.{joined}
use Rattle.m2v_decode.specs.m2v_dec_piece.declared.answer.Piece.{Piece}
use Rattle.m2v_law_seam.specs.Mending.{frames_shown}
use Rattle.m2v_law_seam.specs.Told.{left_pictures}
use Rattle.m2v_mend.specs.declared.gap.Gap.{Gap}
use Rattle.m2v_mend.specs.Strand.{StrandState, wholes_of}
use Rattle.m2v_mend.specs.Making.{gap_told}
use Rattle.m2v_mend.proofs.mender.Mender.new.Goals as goal

pub returns-clause-made : goal.returns-clause-made
unfolding frames_shown left_pictures
returns-clause-made c = record {
  strand = ([], refl, c.opening.ensures.is, ap (λ (z : StrandState). z.opening) c.opening.ensures.value, (refl, refl));
  first = refl;
  low = refl;
  groups = refl;
  frames = refl;
  bytes = refl;
  out = sym (ap (λ (l : List Piece). joined (wholes_of l)) c.new.ensures.items);
  gaps = sym (ap (λ (l : List Gap). map gap_told l) c.new-2.ensures.items);
  last = λ e. refl;
  left = refl;
  fault = λ bits. refl;
}
