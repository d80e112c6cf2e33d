-- Words of the code of a slice: the references that it reads, and what is known of a macroblock's decision.
use Rattle.std.specs.Prelude.{ℕ, ◌≡◌, ◌≢◌, ◌≤◌, ◌<◌, ◌⊎◌, Bool, true, false, List, [], if◌then◌else◌}
use Rattle.m2v_plane.specs.Samples.{Samples}
use Rattle.m2v_macroblock.specs.m2v_macro.declared.values.SliceState.{SliceState}
use Rattle.m2v_macroblock.specs.Conditions.{AreDc}
use Rattle.m2v_macroblock.specs.Modes.{mode_of, skipped_mode}
use Rattle.m2v_macroblock.specs.Predictions.{View}
use Rattle.m2v_macroblock.specs.Texts.{macroblock_text}
use Rattle.m2v_choose.specs.declared.values.Limits.{Limits}
use Rattle.m2v_choose.specs.Decisions.{Decision, Candidate, place_of}
use Rattle.m2v_choose.specs.Candidates.{hold}
use Rattle.m2v_choose.specs.Choice.{bits_taken, choice_of}
use Rattle.m2v_choose.specs.Own.{IsOwn, IsOwnState, AreLimits}
use Rattle.m2v_choose.specs.Laws.{Fits, IsWritable}
use Rattle.m2v_slice.specs.declared.row.RowPlan.{RowPlan}
use Rattle.m2v_slice.specs.Slices.{SliceTask, source_block}
use Rattle.m2v_plane.specs.declared.dims.Dims.{Dims}
use Rattle.m2v_plane.specs.declared.planes.Plane.{Plane}
use Rattle.m2v_plane.specs.declared.planes.Lines.{Lines}
use Rattle.m2v_macroblock.specs.m2v_macro.declared.values.PictureContext.{PictureContext}
use Rattle.m2v_pred.specs.declared.mode.Mode.{Mode}
use Rattle.m2v_pred.specs.declared.mode.MbPlace.{MbPlace}
use Rattle.m2v_pred.specs.Vectors.{IsPlace, IsInside, HoldsRead}
use Rattle.m2v_choose.specs.Trials.{IsRead, IsBefore, HasDirection}

-- where a row begins
abbrev pub row_place : PictureContext → ℕ → MbPlace
row_place c row = record { row = row; column = 0; structure = c.extension.structure }

-- the references that a picture of this type has are of the frame's size, and hold what this macroblock's row reads
pub record HasReferences (kind : ℕ) (d : Dims) (place : MbPlace) (f b : Dims) (ahead behind : Plane → Lines → ℕ → Type 0) : Type 0 where
  pub forward : kind ≢ 1 → IsRead f ahead place
  pub forward_size : kind ≢ 1 → f ≡ d
  pub backward : kind ≡ 3 → IsRead b behind place
  pub backward_size : kind ≡ 3 → b ≡ d

-- a macroblock can be predicted so: its motion stays inside the references, which hold what it reads
pub record CanPredict (d : Dims) (place : MbPlace) (f b : Dims) (ahead behind : Plane → Lines → ℕ → Type 0) (mode : Mode) : Type 0 where
  pub some : (mode.forward ≡ true) ⊎ (mode.backward ≡ true)
  pub lies : IsPlace place d
  pub inside : IsInside mode place d
  pub forward : mode.forward ≡ true → HoldsRead ahead mode 0 place
  pub forward_size : mode.forward ≡ true → f ≡ d
  pub backward : mode.backward ≡ true → HoldsRead behind mode 1 place
  pub backward_size : mode.backward ≡ true → b ≡ d

-- the slice that is coded of these
abbrev pub task_by : Samples → View → View → PictureContext → RowPlan → SliceTask
task_by source forward backward c plan = record {
  source = source;
  forward = forward;
  backward = backward;
  context = c;
  row = plan.row;
  q = plan.q;
  cap = plan.cap;
  search = plan.search;
  activities = plan.activities.now;
}

-- ---- a macroblock's decision

-- by the source frame, the references, the headers, the state so far and its limits
abbrev pub decision_at : Samples → View → View → PictureContext → SliceState → Limits → Decision
decision_at source forward backward c st limits = record {
  dims = source.dims;
  source = source_block source c.extension.structure limits.row limits.column;
  forward = forward;
  backward = backward;
  context = c;
  state = st;
  limits = limits;
}

-- what a candidate adds to the text: a skipped one nothing
abbrev pub text_of : Decision → Candidate → List Bool
text_of d x = if x.skip then [] else macroblock_text d.context d.state x.macroblock

-- a macroblock can be chosen, written and predicted
pub record CanCode (d : Decision) (f b : Dims) (ahead behind : Plane → Lines → ℕ → Type 0) : Type 0 where
  pub own : IsOwn d.context
  pub state : IsOwnState d.state
  pub dc : AreDc 0 d.state.dc
  pub direction : HasDirection d.context d.state d.limits
  pub address : IsBefore d.context d.state d.limits
  pub limits : AreLimits d.limits
  pub row : d.limits.row < 72
  pub column : d.limits.column < d.context.columns
  pub place : IsPlace (place_of d) d.dims
  pub references : HasReferences d.context.kind d.dims (place_of d) f b ahead behind
  pub held : bits_taken d (hold d) ≤ d.limits.room
  pub fits : Fits d (choice_of d)
  pub writable : (choice_of d).skip ≡ false → IsWritable d.context d.state (choice_of d).macroblock
  pub skipped : (choice_of d).skip ≡ true → CanPredict d.dims (place_of d) f b ahead behind (skipped_mode d.context d.state)
  pub written : (choice_of d).skip ≡ false → (choice_of d).macroblock.syntax.kind.intra ≡ false
      → CanPredict d.dims (place_of d) f b ahead behind (mode_of d.context (choice_of d).macroblock.syntax)
