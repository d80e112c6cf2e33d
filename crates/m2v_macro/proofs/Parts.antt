-- A component of a vector and its dmvector, and the vectors of both directions.
use Rattle.std.proofs.Common.{◌≡◌, ℕ, zero, suc, ◌<◌, ◌≤◌, Bool, true, false, cond, List, ◌++◌, ℤ, pos, sym, ap, ◌∙◌, arith}
use Rattle.std.specs.Prelude.{◌||◌, slice_index, slice_index_or}
use Rattle.m2v_vector.specs.Vectors.{scale, IsVector, half}
use Rattle.m2v_macro.specs.declared.values.Shape.{Shape}
use Rattle.m2v_vector.specs.declared.predictors.Pmv.{Pmv}
use Rattle.m2v_macro.specs.declared.values.Selected.{Selected}
use Rattle.m2v_macro.specs.declared.values.Direction.{Direction}
use Rattle.m2v_macro.specs.declared.values.MacroSyntax.{MacroSyntax}
use Rattle.m2v_macro.specs.declared.values.PictureContext.{PictureContext}
use Rattle.m2v_macro.specs.States.{is_field}
use Rattle.m2v_macro.specs.Vectors.{shape_of}
use Rattle.m2v_macro.specs.Macros.{is_concealed, f_codes_of}
use Rattle.m2v_macro.specs.Texts.{component_text, dm_text, predictor_at, part_text, direction_text, marker_text, directions_text}
use Rattle.m2v_macro.specs.Conditions.{AreScales, IsPair, IsSelected, IsDm, forward_of, backward_of}
use Rattle.m2v_macro.proofs.Components.{half_within}

-- what is known of a component
pub record PartFacts (shape : Shape) (f_code : List ℕ) (predictor : List ℤ) (s : Selected) (k : ℕ) : Type 0 where
  pub least : 1 ≤ slice_index f_code k
  pub most : slice_index f_code k ≤ 9
  pub before : IsVector (scale (slice_index f_code k)) (predictor_at shape predictor k)
  pub vector : IsVector (scale (slice_index f_code k)) (slice_index_or s.vector k (pos 0))
  pub dm : shape.dual ≡ true → IsDm (slice_index_or s.dmvector k (pos 0))

-- what a component is predicted from lies in its range
pub predictor_within : (shape : Shape) (f_code : List ℕ) (predictor : List ℤ) (k : ℕ) → k < 2 → IsPair f_code predictor → IsVector (scale (slice_index f_code k)) (predictor_at shape predictor k)
unfolding predictor_at
predictor_within shape f_code predictor zero lt p = p.horizontal
predictor_within shape f_code predictor (suc zero) lt p = by shape.halved
  where
    by : (b : Bool) → IsVector (scale (slice_index f_code 1)) (cond b (half (slice_index_or predictor 1 (pos 0))) (slice_index_or predictor 1 (pos 0)))
    by true = half_within _ _ p.vertical
    by false = p.vertical
predictor_within shape f_code predictor (suc (suc n)) lt p = absurd (omega arith)

pub part_facts : (shape : Shape) (f_code : List ℕ) (predictor : List ℤ) (s : Selected) (k : ℕ) → k < 2 → AreScales f_code → IsPair f_code predictor → IsSelected shape f_code s → PartFacts shape f_code predictor s k
part_facts shape f_code predictor s zero lt a p h = record {
  least = a.horizontal.0;
  most = a.horizontal.1;
  before = predictor_within shape f_code predictor 0 lt p;
  vector = h.vector.horizontal;
  dm = λ e. (h.dm e).0;
}
part_facts shape f_code predictor s (suc zero) lt a p h = record {
  least = a.vertical.0;
  most = a.vertical.1;
  before = predictor_within shape f_code predictor 1 lt p;
  vector = h.vector.vertical;
  dm = λ e. (h.dm e).1;
}
part_facts shape f_code predictor s (suc (suc n)) lt a p h = absurd (omega arith)

-- the text, by the numbers that are passed on
pub part_is : (shape : Shape) (f_code : List ℕ) (predictor : List ℤ) (s : Selected) (k : ℕ) (x v d : ℤ) → x ≡ predictor_at shape predictor k → v ≡ slice_index_or s.vector k (pos 0) → d ≡ slice_index_or s.dmvector k (pos 0)
    → part_text shape f_code predictor s k ≡ component_text (slice_index f_code k) x v ++ dm_text shape.dual d
unfolding part_text
part_is shape f_code predictor s k x v d e f g = sym (λ i. component_text (slice_index f_code k) (e i) (f i) ++ dm_text shape.dual (g i))

pub directions_is : (c : PictureContext) (pmv : Pmv) (m : MacroSyntax) (told field : Bool) (shape : Shape) (forward backward : Direction) → told ≡ (m.kind.forward || is_concealed c m.kind) → field ≡ is_field c → shape ≡ shape_of field m.form
    → forward ≡ forward_of m → backward ≡ backward_of m
    → direction_text told shape (f_codes_of c 0) pmv 0 forward ++ (direction_text m.kind.backward shape (f_codes_of c 1) pmv 1 backward ++ marker_text c m.kind) ≡ directions_text c pmv m
unfolding directions_text
directions_is c pmv m told field shape forward backward t f s d e =
    let same : shape ≡ shape_of (is_field c) m.form = s ∙ ap (λ (b : Bool). shape_of b m.form) f in
    λ i. direction_text (t i) (same i) (f_codes_of c 0) pmv 0 (d i) ++ (direction_text m.kind.backward (same i) (f_codes_of c 1) pmv 1 (e i) ++ marker_text c m.kind)
