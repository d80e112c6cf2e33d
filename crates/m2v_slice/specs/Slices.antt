-- A slice: the choices of a macroblock row from left to right, its text and its samples (clause 6.2.4).
use Rattle.std.specs.Prelude.{ℕ, zero, suc, ◌+◌, ◌-◌, ◌*◌, ◌/◌, Bool, ◌||◌, nat_eq, if◌then◌else◌, List, [], ◌∷◌, ◌++◌, length, sum, take, drop, None}
use Rattle.m2v_bits.specs.Bits.{◌⧺◌, unit}
use Rattle.m2v_head.specs.declared.slice.SliceInfo.{SliceInfo}
use Rattle.m2v_head.specs.Texts.{slice_text}
use Rattle.m2v_plane.specs.Sizes.{side}
use Rattle.m2v_plane.specs.Samples.{Samples, sample_in, blank}
use Rattle.m2v_rate.specs.declared.raising.SliceSoFar.{SliceSoFar}
use Rattle.m2v_rate.specs.Sharing.{raised}
use Rattle.m2v_pred.specs.Motion.{own_lines}
use Rattle.m2v_pred.specs.Predicted.{block_by}
use Rattle.m2v_macroblock.specs.m2v_macro.declared.values.SliceState.{SliceState}
use Rattle.m2v_macroblock.specs.m2v_macro.declared.values.PictureContext.{PictureContext}
use Rattle.m2v_macroblock.specs.m2v_macro.States.{at_start}
use Rattle.m2v_macroblock.specs.m2v_recon.Macro.{with_macroblock}
use Rattle.m2v_macroblock.specs.Macroblocks.{Macroblock}
use Rattle.m2v_macroblock.specs.Predictions.{View}
use Rattle.m2v_macroblock.specs.Texts.{macroblock_text}
use Rattle.m2v_choose.specs.Decisions.{Decision, Candidate}
use Rattle.m2v_choose.specs.Choice.{bits_taken, candidate_at, choice_of, state_behind}

-- ---- what a slice is coded of

-- the source frame and the references, what the headers say, the macroblock row, the quantiser code, the most bits that the
-- slice may have, how far vectors are searched, and the activities of the row's macroblocks, where the plan goes by these
pub record SliceTask : Type 0 where
  pub source : Samples
  pub forward : View
  pub backward : View
  pub context : PictureContext
  pub row : ℕ
  pub q : ℕ
  pub cap : ℕ
  pub search : ℕ
  pub activities : List ℕ

-- the samples of a macroblock of the source, of a field picture those of its field
unfoldable pub source_block : Samples → ℕ → ℕ → ℕ → List ℕ
source_block source structure row column =
    block_by (λ plane line c. sample_in source plane (own_lines structure) (side plane * row + line) (side plane * column + c))

-- ---- macroblock by macroblock

-- the macroblocks of a slice so far: the state behind them, their text, the row with their samples, and their work; and those
-- that were written, a skipped one being none
pub record Begun : Type 0 where
  pub state : SliceState
  pub text : List Bool
  pub row : Samples
  pub work : ℕ
  pub macroblocks : List Macroblock

abbrev pub before_first : SliceTask → Samples → Begun
before_first t row = record {
  state = at_start t.context t.row t.q (t.row * t.context.columns);
  text = [];
  row = row;
  work = 0;
  macroblocks = [];
}

-- the bits of a start code and a slice header, and those that a held macroblock takes at most
abbrev pub slice_header_bits : ℕ
slice_header_bits = 38

abbrev pub held_bits : ℕ
held_bits = 31

-- the room of a macroblock: what is left of the cap, so that each later macroblock can still be held
unfoldable pub room : SliceTask → Begun → ℕ → ℕ
room t s column = t.cap - (slice_header_bits + length s.text) - held_bits * (t.context.columns - 1 - column)

-- the slice up to a macroblock, by what was taken and what is left beside the bits that hold the macroblocks from it on
abbrev pub so_far : SliceTask → Begun → ℕ → SliceSoFar
so_far t s column = record {
  work = s.work;
  before = sum (take column t.activities);
  ahead = sum (drop column t.activities);
  left = room t s column - held_bits;
}

-- the quantiser of a macroblock: that of the slice; where there are activities, behind the first one a coarser one, if the
-- macroblocks before it took more than their part
unfoldable pub quantiser_at : SliceTask → Begun → ℕ → ℕ
quantiser_at t s column =
    if nat_eq column 0 || nat_eq (length t.activities) 0 then t.q else raised t.q (so_far t s column)

-- what the macroblock of a column is decided by
unfoldable pub decision : SliceTask → Begun → ℕ → Decision
decision t s column = record {
  dims = t.source.dims;
  source = source_block t.source t.context.extension.structure t.row column;
  forward = t.forward;
  backward = t.backward;
  context = t.context;
  state = s.state;
  limits = record {
    q = quantiser_at t s column;
    search = t.search;
    room = room t s column;
    first = nat_eq column 0;
    last = nat_eq (column + 1) t.context.columns;
    column = column;
    row = t.row;
  };
}

-- behind a candidate; its work is its bits, each as often as its quantiser says
unfoldable pub with_candidate : Decision → Begun → Candidate → Begun
with_candidate d s x = record {
  state = state_behind d x;
  text = if x.skip then s.text else s.text ++ macroblock_text d.context s.state x.macroblock;
  row = with_macroblock 1 0 d.limits.column (candidate_at d x) s.row;
  work = s.work + d.limits.q * bits_taken d x;
  macroblocks = if x.skip then s.macroblocks else s.macroblocks ++ x.macroblock ∷ [];
}

-- the first n macroblocks, each the choice
unfoldable pub begun : SliceTask → Samples → ℕ → Begun
begun t row zero = before_first t row
begun t row (suc n) =
    let s = begun t row n in
    let d = decision t s n in
    with_candidate d s (choice_of d)

-- ---- the slice

abbrev pub slice_info : ℕ → SliceInfo
slice_info q = record { quantiser = q; intra_slice = None; reserved = 0 }

-- the text of a slice with its start code and the zero bits up to the byte's edge, its samples, and its work
pub record CodedSlice : Type 0 where
  pub text : List Bool
  pub row : Samples
  pub work : ℕ

unfoldable pub slice_of : SliceTask → CodedSlice
slice_of t =
    let s = begun t (blank t.source.dims 1) t.context.columns in
    record { text = unit (t.row + 1) (slice_text (slice_info t.q) ⧺ s.text); row = s.row; work = s.work }

-- the room of a slice's buffer: no slice passes it, whatever its cap is
abbrev pub most_bits_of : ℕ → ℕ
most_bits_of columns = 8 * ((slice_header_bits + 4608 * columns + 7) / 8)
