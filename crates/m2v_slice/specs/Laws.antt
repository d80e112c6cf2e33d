-- What a slice is coded of, and what holds behind each of its macroblocks.
use Rattle.std.specs.Prelude.{ℕ, ◌≡◌, ◌+◌, ◌-◌, ◌*◌, ◌%◌, ◌<◌, ◌≤◌, ◌⊎◌, true, false, nat_eq, List, [], All, length, pos, ◌-ℤ◌}
use Rattle.m2v_plane.specs.declared.planes.Plane.TheVariants.{Y}
use Rattle.m2v_plane.specs.Sizes.{IsSize, lines_of}
use Rattle.m2v_plane.specs.Samples.{Samples, HasRows}
use Rattle.m2v_set.specs.Numbers.{slice_least}
use Rattle.m2v_enc_activity.specs.Activity.{IsActivity}
use Rattle.m2v_pred.specs.Motion.{own_lines}
use Rattle.m2v_macroblock.specs.Conditions.{AreDc}
use Rattle.m2v_choose.specs.Decisions.{Decision, increment_of}
use Rattle.m2v_choose.specs.Choice.{choice_of}
use Rattle.m2v_choose.specs.Own.{IsOwn, IsOwnState, IsCode}
use Rattle.m2v_choose.specs.Laws.{Fits, IsWritable, StaysInside}
use Rattle.m2v_slice.specs.Slices.{SliceTask, Begun, decision, slice_of, slice_header_bits, held_bits, most_bits_of}

-- the activities of a row, one for each of its macroblocks
pub record AreActivities (columns : ℕ) (activities : List ℕ) : Type 0 where
  pub count : length activities ≡ columns
  pub range : All IsActivity activities

-- those of a slice: none, or those of its row
abbrev pub AreSliceActivities : ℕ → List ℕ → Type 0
AreSliceActivities columns activities = (activities ≡ []) ⊎ AreActivities columns activities

-- a slice of a picture of this encoder, whose macroblocks can all be held within its cap
pub record IsSlice (t : SliceTask) : Type 0 where
  pub own : IsOwn t.context
  pub size : IsSize t.source.dims
  pub columns : t.context.columns ≡ t.source.dims.mb_width
  pub row : 16 * t.row + 16 ≤ lines_of t.source.dims Y (own_lines t.context.extension.structure)
  pub q : IsCode t.q
  pub search : t.search ≤ 15
  pub least : slice_least t.context.columns ≤ t.cap
  pub edge : t.cap % 8 ≡ 0

-- how many macroblocks are skipped right before the one of a column
abbrev pub skipped_before : SliceTask → Begun → ℕ → ℕ
skipped_before t s column = increment_of (decision t s column) - 1

-- what holds behind the first n macroblocks, the last `skipped` of which are skipped
pub record Keeps (t : SliceTask) (n skipped : ℕ) (s : Begun) : Type 0 where
  pub state : IsOwnState s.state
  pub dc : AreDc 0 s.state.dc
  pub first : s.state.first ≡ nat_eq n 0
  pub next : s.state.next ≡ t.row * t.context.columns
  -- the address is that of the last macroblock that was written, or, before the first one, of the end of the row above
  pub address : s.state.address ≡ pos (t.row * t.context.columns + n) -ℤ pos (skipped + 1)
  pub within : skipped < n ⊎ ((n ≡ 0) × (skipped ≡ 0))
  -- no picture but P skips, and B behind a macroblock that isn't intra
  pub skips : 0 < skipped → (t.context.kind ≡ 2) ⊎ ((t.context.kind ≡ 3) × (s.state.intra ≡ false))
  -- a macroblock of a B picture has a direction or is intra
  pub direction : t.context.kind ≡ 3 → 0 < n → (s.state.forward ≡ true) ⊎ ((s.state.backward ≡ true) ⊎ (s.state.intra ≡ true))
  -- each macroblock to come can be held, and those that were skipped right before
  pub room : slice_header_bits + length s.text + held_bits * (t.context.columns - n + skipped) ≤ t.cap
  pub most : length s.text ≤ 4608 * n
  pub work : s.work ≤ 31 * length s.text
  -- the last macroblock of the row is written, so that the slice covers the row
  pub covers : n ≡ t.context.columns → skipped ≡ 0

-- what holds of the choice of a macroblock
pub record IsChosen (d : Decision) : Type 0 where
  pub fits : Fits d (choice_of d)
  pub writable : (choice_of d).skip ≡ false → IsWritable d.context d.state (choice_of d).macroblock
  pub inside : StaysInside d (choice_of d)

-- a slice is within its cap and within the room of any slice, and ends at a byte's edge; its work is at most 31 times its bits
pub record SliceFits (t : SliceTask) : Type 0 where
  pub cap : length (slice_of t).text ≤ t.cap
  pub most : length (slice_of t).text ≤ most_bits_of t.context.columns
  pub edge : length (slice_of t).text % 8 ≡ 0
  pub work : (slice_of t).work ≤ 31 * length (slice_of t).text

-- a row for frames of the task's size
pub record IsRow (t : SliceTask) (row : Samples) : Type 0 where
  pub dims : row.dims ≡ t.source.dims
  pub rows : HasRows row 1
