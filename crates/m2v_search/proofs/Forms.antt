-- The lines of a macroblock that a form compares lie in the picture, and those around them are held.
use Rattle.std.proofs.Common.{◌≡◌, ◌≢◌, ℕ, ◌+◌, ◌-◌, ◌*◌, ◌/◌, ◌<◌, ◌≤◌, ◌⊎◌, Bool, true, false, nat_eq, if◌then◌else◌, IsTrue, refl, ap, sym, subst, arith, inl, inr}
use Rattle.std.proofs.lemmas.Bool.{eqb-true, true≢false}
use Rattle.m2v_plane.specs.declared.dims.Dims.{Dims}
use Rattle.m2v_plane.specs.declared.planes.Plane.TheVariants.{Y}
use Rattle.m2v_plane.specs.declared.planes.Lines.{Lines}
use Rattle.m2v_plane.specs.declared.planes.Lines.TheVariants as lines
use Rattle.m2v_plane.specs.Sizes.{IsSize, lines_of}
use Rattle.m2v_pred.specs.declared.mode.MbPlace.{MbPlace}
use Rattle.m2v_pred.specs.Motion.{own_lines, field_lines}
use Rattle.m2v_pred.specs.Vectors.{IsPlace}
use Rattle.m2v_search.specs.declared.form.BlockLines.{BlockLines}
use Rattle.m2v_search.specs.declared.form.SearchForm.{SearchForm}
use Rattle.m2v_search.specs.declared.form.SearchForm.TheVariants.{Whole, FieldLines, FieldPicture}
use Rattle.m2v_search.specs.Search.{block_lines, reach, parity}
use Rattle.m2v_search.specs.Near.{IsFormIn, is_field}

pub record IsSized (d : Dims) (b : BlockLines) : Type 0 where
  pub count : (b.count ≡ 8) ⊎ (b.count ≡ 16)
  pub apart : b.apart ≤ 2
  pub within : b.first + b.apart * (b.count - 1) < 16
  pub number : b.number ≤ 1152
  pub lines : b.number + b.count ≤ lines_of d Y b.lines

-- a macroblock row of the picture, in lines
frame_row : (d : Dims) (place : MbPlace) → place.structure ≡ 3 → IsPlace place d → 16 * place.row + 16 ≤ 16 * d.mb_rows
frame_row d place whole is =
    let e : own_lines place.structure ≡ lines.Whole = ap own_lines whole in
    subst (λ (l : Lines). 16 * place.row + 16 ≤ lines_of d Y l) e is.row

field_known : (d : Dims) (n : ℕ) (bottom : Bool) → n ≤ lines_of d Y (field_lines bottom) → n ≤ 16 * d.mb_rows / 2
field_known d n true h = h
field_known d n false h = h

not_three : (s : ℕ) → s ≢ 3 → (b : Bool) → nat_eq s 3 ≡ b → nat_eq s 3 ≡ false
not_three s other true e = absurd (other (eqb-true s 3 e))
not_three s other false e = e

field_row : (d : Dims) (place : MbPlace) → place.structure ≢ 3 → IsPlace place d → 16 * place.row + 16 ≤ 16 * d.mb_rows / 2
field_row d place other is =
    let no_frame = not_three place.structure other (nat_eq place.structure 3) refl in
    let e : own_lines place.structure ≡ field_lines (nat_eq place.structure 2) =
    ap (λ b. if b then lines.Whole else field_lines (nat_eq place.structure 2)) no_frame in
    field_known d (16 * place.row + 16) (nat_eq place.structure 2)
    (subst (λ (l : Lines). 16 * place.row + 16 ≤ lines_of d Y l) e is.row)

field_lines_of : (d : Dims) (l : Lines) → IsTrue (is_field l) → lines_of d Y l ≡ 16 * d.mb_rows / 2
field_lines_of d lines.Whole field = absurd (true≢false (sym field))
field_lines_of d lines.Top field = refl
field_lines_of d lines.Bottom field = refl

parity_most : (l : Lines) → parity l ≤ 1
parity_most lines.Whole = omega arith
parity_most lines.Top = omega arith
parity_most lines.Bottom = omega arith

pub sized : (d : Dims) (place : MbPlace) (form : SearchForm) → IsSize d → IsPlace place d → IsFormIn place.structure form
    → IsSized d (block_lines form place.row)
sized d place Whole size is here =
    let row = frame_row d place here is in
    record { count = inr refl; apart = omega arith; within = omega arith; number = omega (arith, size.mb_rows, row); lines = row }
sized d place (FieldLines target reference) size is here =
    let row = frame_row d place here.0 is in
    let all = field_lines_of d reference here.1 in
    record { count = inl refl; apart = omega arith; within = omega (arith, parity_most target); number = omega (arith, size.mb_rows, row); lines = omega (arith, row, all) }
sized d place (FieldPicture reference) size is here =
    let row = field_row d place here.0 is in
    let all = field_lines_of d reference here.1 in
    record { count = inr refl; apart = omega arith; within = omega arith; number = omega (arith, size.mb_rows, row); lines = omega (arith, row, all) }

pub reach_fits : (form : SearchForm) (row search : ℕ) → search ≤ 15 → reach form search + 1 ≤ (block_lines form row).count
reach_fits Whole row search few = omega arith
reach_fits (FieldLines target reference) row search few = omega arith
reach_fits (FieldPicture reference) row search few = omega arith
