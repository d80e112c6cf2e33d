-- The syntax of vectors (clauses 6.2.5.2 and 6.3.17.2).
use Rattle.std.specs.Prelude.{ℕ, ◌-◌, ◌*◌, Bool, false, cond, ◌&&◌, ◌||◌, not, nat_eq, List, [], ◌∷◌, slice_index, slice_index_or, ℤ, pos, neg_ℤ, int_lt, int_le, unsigned_abs}
use Rattle.m2v_bits.specs.Syntax.{done, rule, choose, ◌>>=◌}
use Rattle.m2v_vlc.specs.Tables.{motion, dmv}
use Rattle.m2v_vector.specs.declared.predictors.Pmv.{Pmv}
use Rattle.m2v_vector.specs.Vectors.{scale, half, joined}
use Rattle.m2v_vector.specs.Predictors.{pair_of, zeros, has_two, is_halved}
use Rattle.m2v_macro.specs.declared.fault.MacroFault.{MacroFault}
use Rattle.m2v_macro.specs.declared.fault.MacroFault.TheVariants.{VectorRange}
use Rattle.m2v_macro.specs.declared.values.Shape.{Shape}
use Rattle.m2v_macro.specs.declared.values.Selected.{Selected}
use Rattle.m2v_macro.specs.declared.values.Direction.{Direction}
use Rattle.m2v_bits.specs.Leaves.{bits_at}
use Rattle.m2v_bits.specs.Elements.{BitSyntax, left_at}
use Rattle.m2v_macro.specs.Faults.{cut, flag_at, coded}

-- ---- motion types (tables 6-17 and 6-18)

-- the vectors of a motion type, in a field picture or a frame picture. Field prediction is 1, dual prime 3; 2 is 16x8
-- in a field picture and frame prediction in a frame picture; concealment vectors in a field picture have no type, 0.
unfoldable pub shape_of : Bool → ℕ → Shape
shape_of field_picture form = record {
  bit = (field_picture || nat_eq form 1) && not (nat_eq form 3);
  halved = is_halved field_picture form;
  dual = nat_eq form 3;
  two = has_two field_picture form;
}

-- ---- vectors

-- motion_residual stands where f_code is not 1 and motion_code not 0
unfoldable pub has_residual : ℕ → ℤ → Bool
has_residual f_code code = not (nat_eq f_code 1) && not (nat_eq (unsigned_abs code) 0)

-- motion_code and motion_residual: a component behind its predictor
unfoldable pub component_at : ℕ → ℤ → BitSyntax MacroFault ℤ
component_at f_code predictor = do
  code ← coded motion
  residual ← choose (has_residual f_code code) (bits_at cut (f_code - 1)) (done 0)
  done (joined (scale f_code) predictor code residual)

-- dmvector, in dual prime
unfoldable pub dm_at : Bool → BitSyntax MacroFault ℤ
dm_at dual = choose dual (coded dmv) (done (pos 0))

-- the vertical range of a field vector in a frame picture: -8 f to 8 f - 1
unfoldable pub is_half_vector : ℕ → ℤ → Bool
is_half_vector f v = int_le (neg_ℤ (pos (8 * f))) v && int_lt v (pos (8 * f))

-- the vertical component; that of a field vector in a frame picture goes by half the predictor
unfoldable pub vertical_at : Bool → ℕ → ℤ → BitSyntax MacroFault ℤ
vertical_at halved f_code predictor = do
  start ← left_at
  v ← component_at f_code (cond halved (half predictor) predictor)
  fits ← rule (not halved || is_half_vector (scale f_code) v) VectorRange start
  done v

-- motion_vector (clause 6.2.5.2.1), behind its reference field bit
unfoldable pub vector_at : Shape → List ℕ → List ℤ → Bool → BitSyntax MacroFault Selected
vector_at shape f_code predictor bottom = do
  x ← component_at (slice_index f_code 0) (slice_index_or predictor 0 (pos 0))
  dm_x ← dm_at shape.dual
  y ← vertical_at shape.halved (slice_index f_code 1) (slice_index_or predictor 1 (pos 0))
  dm_y ← dm_at shape.dual
  done (record { bottom = bottom; vector = x ∷ y ∷ []; dmvector = dm_x ∷ dm_y ∷ [] })

-- motion_vertical_field_select, where there is one, and motion_vector
unfoldable pub selected_at : Shape → List ℕ → List ℤ → BitSyntax MacroFault Selected
selected_at shape f_code predictor = do
  bottom ← choose shape.bit flag_at (done false)
  vector_at shape f_code predictor bottom

-- what stands for a vector that there is not
abbrev pub no_vector : Selected
no_vector = record { bottom = false; vector = zeros; dmvector = zeros }

-- motion_vectors (clause 6.2.5.2): the first vector goes by entry 0 of the predictors, the second by entry 1
unfoldable pub vectors_at : Shape → List ℕ → Pmv → ℕ → BitSyntax MacroFault Direction
vectors_at shape f_code pmv direction = do
  first ← selected_at shape f_code (pair_of pmv.at 0 direction)
  second ← choose shape.two (selected_at shape f_code (pair_of pmv.at 1 direction)) (done no_vector)
  done (record { first = first; second = second })

-- the vectors of a direction that is told
unfoldable pub direction_at : Bool → Shape → List ℕ → Pmv → ℕ → BitSyntax MacroFault Direction
direction_at told shape f_code pmv direction =
    choose told (vectors_at shape f_code pmv direction) (done (record { first = no_vector; second = no_vector }))
