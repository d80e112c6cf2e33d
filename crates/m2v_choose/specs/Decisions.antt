-- What a macroblock is decided by, what may be decided of it, and how that is written: its blocks and its syntax (clauses
-- 6.2.5 and 6.3.17).
use Rattle.std.specs.Prelude.{ℕ, ◌+◌, ◌-◌, ◌*◌, ◌/◌, ◌%◌, ◌^◌, Bool, true, false, not, ◌&&◌, nat_eq, nat_lt, cond, if◌then◌else◌, List, [], map, replicate, slice_index, slice_index_or, sum_by, ℤ, pos, ◌-ℤ◌, nat_abs, unsigned_abs}
use Rattle.std.specs.List.{range_with_len, list_all}
use Rattle.m2v_plane.specs.declared.dims.Dims.{Dims}
use Rattle.m2v_quant.specs.Quantiser.{levels_of}
use Rattle.m2v_idct.specs.Forward.{forward_of}
use Rattle.m2v_macro.specs.declared.values.MacroSyntax.{MacroSyntax}
use Rattle.m2v_macro.specs.declared.values.SliceState.{SliceState}
use Rattle.m2v_macro.specs.declared.values.PictureContext.{PictureContext}
use Rattle.m2v_macro.specs.declared.values.Direction.{Direction}
use Rattle.m2v_macro.specs.States.{is_field}
use Rattle.m2v_macro.specs.Macros.{macro_of, no_vectors, no_form, blank}
use Rattle.m2v_pred.specs.declared.mode.MbPlace.{MbPlace}
use Rattle.m2v_recon.specs.Steps.{luma_place}
use Rattle.m2v_macroblock.specs.Macroblocks.{Macroblock, kind_for}
use Rattle.m2v_macroblock.specs.Predictions.{View}
use Rattle.m2v_choose.specs.declared.values.Limits.{Limits}

-- ---- what is decided

-- a macroblock's decision: by the size of the frame, the 384 samples of its source, the references as they were rebuilt,
-- what the headers say, what the slice so far leaves, and its limits
pub record Decision : Type 0 where
  pub dims : Dims
  pub source : List ℕ
  pub forward : View
  pub backward : View
  pub context : PictureContext
  pub state : SliceState
  pub limits : Limits

abbrev pub place_of : Decision → MbPlace
place_of d = record { row = d.limits.row; column = d.limits.column; structure = d.context.extension.structure }

-- its address less the one before: it counts the macroblocks that are skipped before this one too (clause 6.3.17)
unfoldable pub increment_of : Decision → ℕ
increment_of d = nat_abs (pos (d.limits.row * d.context.columns + d.limits.column) -ℤ d.state.address)

abbrev pub is_frame : Decision → Bool
is_frame d = not (is_field d.context)

-- dct_type stands in the picture, and field prediction beside frame prediction (clauses 6.3.10 and 6.3.17.1)
abbrev pub has_dct_type : Decision → Bool
has_dct_type d = is_frame d && not d.context.extension.frame_pred_frame_dct

-- ---- candidates

-- a macroblock that is skipped, or one that is written
pub record Candidate : Type 0 where
  pub skip : Bool
  pub macroblock : Macroblock

abbrev pub no_levels : List (List ℤ)
no_levels = replicate 6 (replicate 64 (pos 0))

abbrev pub written : MacroSyntax → List (List ℤ) → Candidate
written syntax levels = record { skip = false; macroblock = record { syntax = syntax; levels = levels } }

abbrev pub skipped : Candidate
skipped = record { skip = true; macroblock = record { syntax = blank; levels = no_levels } }

-- how a macroblock is predicted: the motion type, the directions of its type with their vectors, and whether it may go
-- without coded blocks
pub record Prediction : Type 0 where
  pub form : ℕ
  pub has_forward : Bool
  pub has_backward : Bool
  pub forward : Direction
  pub backward : Direction
  pub uncoded : Bool

-- how blocks are coded: the quantiser code, and dct_type
pub record Coding : Type 0 where
  pub q : ℕ
  pub dct_field : Bool

-- ---- blocks

-- where sample k of a block stands among the 384 of its macroblock
unfoldable pub block_place : Bool → ℕ → ℕ → ℕ
block_place dct_field block k =
    if nat_lt block 4 then luma_place dct_field block (k / 8) + k % 8 else 256 + (64 * (block - 4) + k)

-- what is transformed: the source less its prediction
unfoldable pub differences : List ℕ → List ℕ → Bool → ℕ → List ℤ
differences source prediction dct_field block =
    map (λ k. pos (slice_index source (block_place dct_field block k)) -ℤ pos (slice_index prediction (block_place dct_field block k)))
    (range_with_len 0 64)

-- the levels of the six blocks, behind a prediction
unfoldable pub levels_by : Decision → List ℕ → Bool → Coding → List (List ℤ)
levels_by d prediction intra coding =
    map (λ block. levels_of (forward_of (differences d.source prediction coding.dct_field block)) (kind_for d.context intra (nat_lt block 4) coding.q))
    (range_with_len 0 6)

-- the coded block pattern: the bits of the blocks that have a level other than 0 (clause 6.3.17.4)
unfoldable pub pattern_of : List (List ℤ) → ℕ
pattern_of levels =
    sum_by (λ block. cond (list_all (λ level. nat_eq (unsigned_abs level) 0) (slice_index_or levels block [])) 0 (2 ^ (5 - block)))
    (range_with_len 0 6)

-- ---- syntax

-- the quantiser is sent exactly where it isn't the last one that was sent
abbrev pub sends : Decision → ℕ → Bool
sends d q = not (nat_eq q d.state.quantiser)

unfoldable pub intra_syntax : Decision → Coding → MacroSyntax
intra_syntax d coding =
    macro_of (increment_of d) (record { quant = sends d coding.q; forward = false; backward = false; pattern = false; intra = true })
    (no_form d.context) coding.dct_field (cond (sends d coding.q) coding.q 0) no_vectors no_vectors 63

unfoldable pub uncoded_syntax : Decision → Prediction → MacroSyntax
uncoded_syntax d p =
    macro_of (increment_of d) (record { quant = false; forward = p.has_forward; backward = p.has_backward; pattern = false; intra = false })
    p.form false 0 p.forward p.backward 0

unfoldable pub coded_syntax : Decision → Prediction → Coding → ℕ → MacroSyntax
coded_syntax d p coding pattern =
    macro_of (increment_of d) (record { quant = sends d coding.q; forward = p.has_forward; backward = p.has_backward; pattern = true; intra = false })
    p.form coding.dct_field (cond (sends d coding.q) coding.q 0) p.forward p.backward pattern
