use Rattle.m2v_law_seam.proofs.Kept.{spans_kept_pictures, steps_kept_pictures}
use Rattle.m2v_law_seam.proofs.laws.law_pictures_kept.Goals as goal

pub returns : goal.returns
returns c = λ text. (spans_kept_pictures text, steps_kept_pictures text)
