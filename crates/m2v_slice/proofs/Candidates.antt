-- What a candidate adds to a slice, by whether it is skipped.
use Rattle.std.proofs.Common.{◌≡◌, Bool, true, false, List, [], length, refl}
use Rattle.std.specs.Prelude.{if◌then◌else◌}
use Rattle.m2v_pred.specs.Predicted.{predicted}
use Rattle.m2v_macroblock.specs.Modes.{skipped_mode}
use Rattle.m2v_macroblock.specs.Predictions.{prediction_of, sample_at}
use Rattle.m2v_macroblock.specs.Texts.{macroblock_text}
use Rattle.m2v_choose.specs.Decisions.{Decision, Candidate, place_of}
use Rattle.m2v_choose.specs.Choice.{bits_taken, candidate_at}
use Rattle.m2v_slice.specs.Steps.{text_of}

pub written_bits : (d : Decision) (x : Candidate) → x.skip ≡ false → bits_taken d x ≡ length (macroblock_text d.context d.state x.macroblock)
unfolding bits_taken
written_bits d x e = rw e refl

pub skipped_bits : (d : Decision) (x : Candidate) → x.skip ≡ true → bits_taken d x ≡ 0
unfolding bits_taken
skipped_bits d x e = rw e refl

-- its bits are those of what it adds to the text
pub bits_are : (d : Decision) (x : Candidate) → length (text_of d x) ≡ bits_taken d x
unfolding bits_taken
bits_are d x = cases x.skip (macroblock_text d.context d.state x.macroblock)
  where
    cases : (b : Bool) (xs : List Bool) → length (if b then [] else xs) ≡ (if b then 0 else length xs)
    cases true xs = refl
    cases false xs = refl

pub skipped_samples : (d : Decision) (x : Candidate) → x.skip ≡ true → predicted d.forward d.backward (skipped_mode d.context d.state) (place_of d) ≡ candidate_at d x
unfolding candidate_at
skipped_samples d x e = rw e refl

pub written_samples : (d : Decision) (x : Candidate) → x.skip ≡ false
    → sample_at d.context d.state (prediction_of d.forward d.backward d.context (place_of d) x.macroblock.syntax) x.macroblock ≡ candidate_at d x
unfolding candidate_at
written_samples d x e = rw e refl
