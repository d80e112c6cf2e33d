-- The choice of a macroblock: of the candidates that are short enough, the first of least score.
use Rattle.std.specs.Prelude.{ℕ, ◌+◌, ◌*◌, ◌^◌, Bool, ◌&&◌, nat_le, if◌then◌else◌, List, ◌∷◌, filter, length, slice_index, sum_by}
use Rattle.std.specs.List.{range_with_len}
use Rattle.m2v_plane.specs.declared.planes.Plane.{Plane}
use Rattle.m2v_kernel.specs.Sums.{apart}
use Rattle.m2v_macro.specs.declared.values.SliceState.{SliceState}
use Rattle.m2v_pred.specs.Predicted.{predicted, block_by}
use Rattle.m2v_macroblock.specs.Macroblocks.{after_macroblock}
use Rattle.m2v_macroblock.specs.Modes.{skipped_mode}
use Rattle.m2v_macroblock.specs.Predictions.{prediction_of, sample_at}
use Rattle.m2v_macroblock.specs.Texts.{macroblock_text}
use Rattle.m2v_search.specs.Least.{least}
use Rattle.m2v_choose.specs.Decisions.{Decision, Candidate, place_of}
use Rattle.m2v_choose.specs.Candidates.{hold, others}

-- the bits of the whole macroblock, from its address increment to the end of its last block; a skipped one takes none
unfoldable pub bits_taken : Decision → Candidate → ℕ
bits_taken d x = if x.skip then 0 else length (macroblock_text d.context d.state x.macroblock)

-- a sample as it is rebuilt, by plane, line and column (clauses 7.6.6 and 7.6.8)
unfoldable pub candidate_at : Decision → Candidate → Plane → ℕ → ℕ → ℕ
candidate_at d x =
    if x.skip then predicted d.forward d.backward (skipped_mode d.context d.state) (place_of d)
    else sample_at d.context d.state (prediction_of d.forward d.backward d.context (place_of d) x.macroblock.syntax) x.macroblock

abbrev pub samples_of : Decision → Candidate → List ℕ
samples_of d x = block_by (candidate_at d x)

-- the square of a sample's difference
abbrev pub square_at : List ℕ → List ℕ → ℕ → ℕ
square_at source samples k = apart (slice_index source k) (slice_index samples k) ^ 2

-- the squares of a plane's lines
unfoldable pub plane_squared : List ℕ → List ℕ → ℕ → ℕ → ℕ
plane_squared source samples side from =
    sum_by (λ line. sum_by (λ c. square_at source samples (from + (side * line + c))) (range_with_len 0 side)) (range_with_len 0 side)

-- the squares of all 384 samples
unfoldable pub squared : List ℕ → List ℕ → ℕ
squared source samples = plane_squared source samples 16 0 + plane_squared source samples 8 256 + plane_squared source samples 8 320

-- a bit costs as much as the square of twice the plan's quantiser, a sample's difference eight times its square
unfoldable pub score : Decision → Candidate → ℕ
score d x = 8 * squared d.source (samples_of d x) + (2 * d.limits.q) ^ 2 * bits_taken d x

-- so many bits any number of macroblocks of a row may have in 4:2:0
abbrev pub most_bits : ℕ
most_bits = 4608

-- short enough for any macroblock, and for the room that is left in the slice
unfoldable pub fits : Decision → Candidate → Bool
fits d x = nat_le (bits_taken d x) most_bits && nat_le (bits_taken d x) d.limits.room

-- all candidates, in order
abbrev pub candidates : Decision → List Candidate
candidates d = hold d ∷ others d

-- the choice: hold, or the first of least score among those that fit
unfoldable pub choice_of : Decision → Candidate
choice_of d = least (score d) (hold d) (filter (fits d) (others d))

-- the state behind a candidate: a skipped macroblock changes none
abbrev pub state_behind : Decision → Candidate → SliceState
state_behind d x = if x.skip then d.state else after_macroblock d.context d.state x.macroblock
