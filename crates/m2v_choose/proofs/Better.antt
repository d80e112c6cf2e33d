-- The better one of the vectors of two fields.
use Rattle.std.proofs.Common.{◌≡◌, Bool, true, false, not, [], ◌∷◌, refl, ap, sym, ◌∙◌}
use Rattle.std.specs.Prelude.{nat_lt, if◌then◌else◌}
use Rattle.m2v_plane.specs.declared.dims.Dims.{Dims}
use Rattle.m2v_plane.specs.declared.planes.Plane.TheVariants.{Y}
use Rattle.m2v_plane.specs.declared.planes.Lines.{Lines}
use Rattle.m2v_plane.specs.declared.planes.Lines.TheVariants as lines
use Rattle.m2v_pred.specs.declared.mode.MbPlace.{MbPlace}
use Rattle.m2v_pred.specs.Motion.{field_lines}
use Rattle.m2v_macroblock.specs.Predictions.{View}
use Rattle.m2v_search.specs.declared.form.SearchForm.{SearchForm}
use Rattle.m2v_search.specs.declared.vector.Found.{Found}
use Rattle.m2v_search.specs.Search.{block_lines, vector_of, vector_sad}
use Rattle.m2v_search.specs.Surveys.{IsBestOf}
use Rattle.m2v_choose.specs.declared.task.Task.{Task}
use Rattle.m2v_choose.specs.declared.vectors.FieldVector.{FieldVector}
use Rattle.m2v_choose.specs.Decisions.{Decision}
use Rattle.m2v_choose.specs.Candidates.{selected, vector_for, sad_for, from_field}
use Rattle.m2v_choose.specs.Trials.{References, decided, place_for, selected_by}

pushed : (b : Bool) (x y : FieldVector) → selected_by (if b then x else y) ≡ (if b then selected_by x else selected_by y)
pushed true x y = refl
pushed false x y = refl

-- of the field of the same parity, and of the other one
pub better_is : (d : Decision) (view : View) (form : Lines → SearchForm) (bottom : Bool) (same other : Found) (result : FieldVector)
    → record { x = same.x; y = same.y } ≡ vector_for d view (form (field_lines bottom)) → same.sad ≡ sad_for d view (form (field_lines bottom))
    → record { x = other.x; y = other.y } ≡ vector_for d view (form (field_lines (not bottom))) → other.sad ≡ sad_for d view (form (field_lines (not bottom)))
    → result ≡ (if nat_lt other.sad same.sad then record { bottom = not bottom; vector = other.x ∷ other.y ∷ [] } else record { bottom = bottom; vector = same.x ∷ same.y ∷ [] })
    → selected_by result ≡ from_field d view form (field_lines bottom)
unfolding from_field
better_is d view form true same other result vs ss vo so e =
    ap selected_by e ∙ pushed (nat_lt other.sad same.sad) (record { bottom = false; vector = other.x ∷ other.y ∷ [] }) (record { bottom = true; vector = same.x ∷ same.y ∷ [] })
    ∙ (λ i. if nat_lt (so i) (ss i) then selected lines.Top (vo i) else selected lines.Bottom (vs i))
better_is d view form false same other result vs ss vo so e =
    ap selected_by e ∙ pushed (nat_lt other.sad same.sad) (record { bottom = true; vector = other.x ∷ other.y ∷ [] }) (record { bottom = false; vector = same.x ∷ same.y ∷ [] })
    ∙ (λ i. if nat_lt (so i) (ss i) then selected lines.Bottom (vo i) else selected lines.Top (vs i))

-- the best vector of a form is that of the choice, and so is the sum of differences by it
module _ (r : References) (t : Task) (view : View) (size : Dims) (place : MbPlace) (form : SearchForm) (f : Found)
    (e : r.dims ≡ size) (p : place ≡ place_for t) (h : IsBestOf size (view Y) t.source.now.at place form t.limits.now.search f) where
  found_vector : record { x = f.x; y = f.y } ≡ vector_of r.dims (view Y) t.source.now.at t.limits.now.row t.limits.now.column form t.limits.now.search
  found_vector = h.value ∙ (λ i. vector_of (sym e i) (view Y) t.source.now.at (p i).row (p i).column form t.limits.now.search)

  pub vector_is : record { x = f.x; y = f.y } ≡ vector_for (decided r t) view form
  unfolding vector_for
  vector_is = found_vector

  pub sad_is : f.sad ≡ sad_for (decided r t) view form
  unfolding vector_for sad_for
  sad_is = h.sad ∙ (λ i. vector_sad (view Y) t.source.now.at (block_lines form (p i).row) (p i).column (found_vector i))
