-- What searches look at around a macroblock.
use Rattle.std.specs.Prelude.{ℕ, ◌≡◌, ◌+◌, ◌-◌, List, true, slice_index}
use Rattle.m2v_plane.specs.declared.dims.Dims.{Dims}
use Rattle.m2v_plane.specs.declared.planes.Lines.{Lines}
use Rattle.m2v_pred.specs.declared.mode.MbPlace.{MbPlace}
use Rattle.m2v_search.specs.declared.form.BlockLines.{BlockLines}
use Rattle.m2v_search.specs.declared.form.SearchForm.{SearchForm}
use Rattle.m2v_search.specs.declared.scratch.Surroundings.{Surroundings}
use Rattle.m2v_search.specs.declared.spot.Span.{Span}
use Rattle.m2v_search.specs.declared.vector.Found.{Found}
use Rattle.m2v_search.specs.Bounds.{AreSumsFor}
use Rattle.m2v_search.specs.Near.{Reaches}
use Rattle.m2v_search.specs.Search.{block_lines, vector_of, vector_sad, vector_inside}
use Rattle.m2v_search.specs.Spots.{IsWindow, area_in, span_of}

-- the lines of places within reach
abbrev pub lines_near : Dims → BlockLines → ℕ → ℕ → Span
lines_near d b column down = span_of b.count down (area_in d b column).top (area_in d b column).bottom b.count

-- the samples around the lines of a macroblock in a reference, and the sums over parts at the places within reach
pub record IsSurvey (d : Dims) (at : Lines → ℕ → ℕ → ℕ) (b : BlockLines) (column down : ℕ) (s : Surroundings) : Type 0 where
  pub window : IsWindow at b column (area_in d b column) s.window
  pub sums : AreSumsFor b.count (slice_index s.window) (lines_near d b column down).first ((lines_near d b column down).end + b.count - 8) (slice_index s.sums)

-- the best vector of a form of search, and the sum of differences by it
pub record IsBestOf (d : Dims) (at : Lines → ℕ → ℕ → ℕ) (source : List ℕ) (place : MbPlace) (form : SearchForm) (search : ℕ) (f : Found) : Type 0 where
  pub value : record { x = f.x; y = f.y } ≡ vector_of d at source place.row place.column form search
  pub sad : f.sad ≡ vector_sad at source (block_lines form place.row) place.column (record { x = f.x; y = f.y })
  pub inside : vector_inside d (block_lines form place.row) place.column (record { x = f.x; y = f.y }) ≡ true
  pub within : Reaches form search f.x f.y
