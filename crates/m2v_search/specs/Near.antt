-- What a search is promised, and what it promises.
use Rattle.std.specs.Prelude.{ℕ, ◌≡◌, ◌≢◌, ◌+◌, ◌*◌, ◌/◌, ◌≤◌, ◌<◌, Bool, true, false, nat_eq, if◌then◌else◌, IsTrue, ℤ, unsigned_abs}
use Rattle.m2v_plane.specs.declared.dims.Dims.{Dims}
use Rattle.m2v_plane.specs.declared.planes.Plane.{Plane}
use Rattle.m2v_plane.specs.declared.planes.Lines.{Lines}
use Rattle.m2v_plane.specs.declared.planes.Lines.TheVariants as lines
use Rattle.m2v_plane.specs.Sizes.{side, lines_of}
use Rattle.m2v_pred.specs.declared.mode.MbPlace.{MbPlace}
use Rattle.m2v_search.specs.declared.form.SearchForm.{SearchForm}
use Rattle.m2v_search.specs.declared.form.SearchForm.TheVariants.{Whole, FieldLines, FieldPicture}
use Rattle.m2v_search.specs.Search.{reach}

abbrev pub is_field : Lines → Bool
is_field lines.Whole = false
is_field lines.Top = true
is_field lines.Bottom = true

-- a form that pictures of this structure have: a frame is searched as a whole or by its fields, a field by a field
abbrev pub IsFormIn : ℕ → SearchForm → Type 0
IsFormIn structure Whole = structure ≡ 3
IsFormIn structure (FieldLines target reference) = (structure ≡ 3) × IsTrue (is_field reference)
IsFormIn structure (FieldPicture reference) = (structure ≢ 3) × IsTrue (is_field reference)

-- how many of these lines a macroblock row of the picture has: a row of a frame has half of its lines in each field
abbrev pub row_lines : ℕ → Plane → Lines → ℕ
row_lines structure plane lines.Whole = side plane
row_lines structure plane lines.Top = if nat_eq structure 3 then side plane / 2 else side plane
row_lines structure plane lines.Bottom = if nat_eq structure 3 then side plane / 2 else side plane

-- a view holds, of this reference frame or field, the macroblock rows before, at and after this one, as far as they exist
pub record HasNear (holds : Plane → Lines → ℕ → Type 0) (d : Dims) (place : MbPlace) (lines : Lines) : Type 0 where
  pub rows : (plane : Plane) (line : ℕ) → line < lines_of d plane lines
      → row_lines place.structure plane lines * place.row ≤ line + row_lines place.structure plane lines
      → line < row_lines place.structure plane lines * place.row + 2 * row_lines place.structure plane lines
      → holds plane lines line

-- a vector lies within reach, and half a sample
pub record Reaches (form : SearchForm) (search : ℕ) (x y : ℤ) : Type 0 where
  pub across : unsigned_abs x ≤ 2 * search + 1
  pub down : unsigned_abs y ≤ 2 * reach form search + 1
