-- What is known of contexts, states and macroblocks.
use Rattle.std.specs.Prelude.{◌≡◌, ℕ, ◌*◌, ◌^◌, ◌<◌, ◌≤◌, Bool, true, false, ◌||◌, not, nat_eq, List, [], ◌∷◌, slice_index, slice_index_or, if◌then◌else◌, ℤ, pos, neg_ℤ, ◌≤ℤ◌, ◌<ℤ◌}
use Rattle.m2v_vlc.specs.declared.values.MbType.{MbType}
use Rattle.m2v_vlc.specs.Values.{has_type_i, has_type_p, has_type_b}
use Rattle.m2v_vector.specs.declared.predictors.Pmv.{Pmv}
use Rattle.m2v_vector.specs.Vectors.{scale, IsVector}
use Rattle.m2v_vector.specs.Predictors.{pair_of, zeros}
use Rattle.m2v_macro.specs.declared.values.MacroSyntax.{MacroSyntax}
use Rattle.m2v_macro.specs.declared.values.SliceState.{SliceState}
use Rattle.m2v_macro.specs.declared.values.PictureContext.{PictureContext}
use Rattle.m2v_macro.specs.declared.values.Shape.{Shape}
use Rattle.m2v_macro.specs.declared.values.Selected.{Selected}
use Rattle.m2v_macro.specs.declared.values.Direction.{Direction}
use Rattle.m2v_macro.specs.States.{is_field, not_past, in_order, may_skip}
use Rattle.m2v_macro.specs.Vectors.{shape_of, no_vector}
use Rattle.m2v_macro.specs.Macros.{has_form, is_form, no_form, has_dct, is_concealed, f_codes_of, macro_of}

-- ---- contexts and states

-- the vectors of a direction can occur in the picture: forward ones in P and B pictures and where there are concealment
-- vectors, backward ones in B pictures
unfoldable pub is_used : PictureContext → ℕ → Bool
is_used c direction = if nat_eq direction 0 then not (nat_eq c.kind 1) || c.extension.concealment else nat_eq c.kind 3

-- f_codes of vectors, horizontal and vertical (clause 6.3.10)
pub record AreScales (f_code : List ℕ) : Type 0 where
  pub horizontal : (1 ≤ slice_index f_code 0) × (slice_index f_code 0 ≤ 9)
  pub vertical : (1 ≤ slice_index f_code 1) × (slice_index f_code 1 ≤ 9)

-- a vector, or a predictor, that its f_codes allow
pub record IsPair (f_code : List ℕ) (v : List ℤ) : Type 0 where
  pub horizontal : IsVector (scale (slice_index f_code 0)) (slice_index_or v 0 (pos 0))
  pub vertical : IsVector (scale (slice_index f_code 1)) (slice_index_or v 1 (pos 0))

-- the predictors of a direction, of both entries
pub record ArePredictors (f_code : List ℕ) (pmv : Pmv) (direction : ℕ) : Type 0 where
  pub first : IsPair f_code (pair_of pmv.at 0 direction)
  pub second : IsPair f_code (pair_of pmv.at 1 direction)

-- what the headers say can be: the f_codes that are used are f_codes of vectors
pub record IsContext (c : PictureContext) : Type 0 where
  pub kind : (1 ≤ c.kind) × (c.kind ≤ 3)
  pub structure : (1 ≤ c.extension.structure) × (c.extension.structure ≤ 3)
  pub columns : (1 ≤ c.columns) × (c.columns ≤ 120)
  pub precision : c.extension.dc_precision ≤ 3
  pub forward : is_used c 0 ≡ true → AreScales (f_codes_of c 0)
  pub backward : is_used c 1 ≡ true → AreScales (f_codes_of c 1)

-- the predictors that are used and the quantiser of a state, as each macroblock leaves them
pub record IsReady (c : PictureContext) (st : SliceState) : Type 0 where
  pub forward : is_used c 0 ≡ true → ArePredictors (f_codes_of c 0) st.pmv 0
  pub backward : is_used c 1 ≡ true → ArePredictors (f_codes_of c 1) st.pmv 1
  pub quantiser : (1 ≤ st.quantiser) × (st.quantiser ≤ 31)

-- an address before a macroblock
abbrev pub IsAddress : ℤ → Type 0
IsAddress a = (neg_ℤ (pos 1) ≤ℤ a) × (a ≤ℤ pos (2 ^ 16))

-- a slice of the picture that is begun, or is to begin past so many macroblocks: what an increment is read by
pub record IsBegun (c : PictureContext) (st : SliceState) : Type 0 where
  pub context : IsContext c
  pub address : IsAddress st.address
  pub next : st.next ≤ 2 ^ 16

-- ---- macroblocks

-- a type that tables B.2, B.3 and B.4 have, by the picture's type
unfoldable pub has_type : ℕ → MbType → Bool
has_type kind v = if nat_eq kind 1 then has_type_i v else if nat_eq kind 2 then has_type_p v else has_type_b v

-- an increment that may stand here
pub record IsStep (c : PictureContext) (st : SliceState) (increment : ℕ) : Type 0 where
  pub some : 1 ≤ increment
  pub near : not_past st increment ≡ true
  pub order : in_order c st increment ≡ true
  pub skip : may_skip c st increment ≡ true

-- a vertical component of a field vector in a frame picture
abbrev pub IsHalf : ℕ → ℤ → Type 0
IsHalf f v = (neg_ℤ (pos (8 * f)) ≤ℤ v) × (v <ℤ pos (8 * f))

abbrev pub IsDm : ℤ → Type 0
IsDm d = (neg_ℤ (pos 1) ≤ℤ d) × (d ≤ℤ pos 1)

-- a vector of the shape: its field bit is false where it has none, its dmvector 0
pub record IsSelected (shape : Shape) (f_code : List ℕ) (s : Selected) : Type 0 where
  pub vector : IsPair f_code s.vector
  pub half : shape.halved ≡ true → IsHalf (scale (slice_index f_code 1)) (slice_index_or s.vector 1 (pos 0))
  pub dm : shape.dual ≡ true → IsDm (slice_index_or s.dmvector 0 (pos 0)) × IsDm (slice_index_or s.dmvector 1 (pos 0))
  pub no_dm : shape.dual ≡ false → s.dmvector ≡ zeros
  pub no_bit : shape.bit ≡ false → s.bottom ≡ false
  pub numbers : s.vector ≡ slice_index_or s.vector 0 (pos 0) ∷ slice_index_or s.vector 1 (pos 0) ∷ []
  pub dm_numbers : s.dmvector ≡ slice_index_or s.dmvector 0 (pos 0) ∷ slice_index_or s.dmvector 1 (pos 0) ∷ []

-- the vectors of a direction, where it is told
pub record IsDirection (told : Bool) (shape : Shape) (f_code : List ℕ) (d : Direction) : Type 0 where
  pub first : told ≡ true → IsSelected shape f_code d.first
  pub second : told ≡ true → shape.two ≡ true → IsSelected shape f_code d.second
  pub one : told ≡ true → shape.two ≡ false → d.second ≡ no_vector
  pub none : told ≡ false → (d.first ≡ no_vector) × (d.second ≡ no_vector)

abbrev pub bottom_of : List (List Bool) → ℕ → ℕ → Bool
bottom_of bottom number direction = slice_index_or (slice_index_or bottom number []) direction false

-- the forward vectors of a macroblock, and its backward ones; a dmvector stands at the first forward vector alone
abbrev pub forward_of : MacroSyntax → Direction
forward_of m = record {
  first = record { bottom = bottom_of m.bottom 0 0; vector = pair_of m.vectors 0 0; dmvector = m.dmvector };
  second = record { bottom = bottom_of m.bottom 1 0; vector = pair_of m.vectors 1 0; dmvector = zeros };
}

abbrev pub backward_of : MacroSyntax → Direction
backward_of m = record {
  first = record { bottom = bottom_of m.bottom 0 1; vector = pair_of m.vectors 0 1; dmvector = zeros };
  second = record { bottom = bottom_of m.bottom 1 1; vector = pair_of m.vectors 1 1; dmvector = zeros };
}

-- a macroblock that can stand here; what it doesn't have is 0 or false
pub record IsMacro (c : PictureContext) (st : SliceState) (m : MacroSyntax) : Type 0 where
  pub step : IsStep c st m.increment
  pub kind : has_type c.kind m.kind ≡ true
  pub form : has_form c m.kind ≡ true → (is_form c.kind m.form ≡ true) × (m.form < 4)
  pub no_form : has_form c m.kind ≡ false → m.form ≡ no_form c
  pub no_dct : has_dct c m.kind ≡ false → m.dct_field ≡ false
  pub quantiser : m.kind.quant ≡ true → (1 ≤ m.quantiser) × (m.quantiser ≤ 31)
  pub no_quantiser : m.kind.quant ≡ false → m.quantiser ≡ 0
  pub forward : IsDirection (m.kind.forward || is_concealed c m.kind) (shape_of (is_field c) m.form) (f_codes_of c 0) (forward_of m)
  pub backward : IsDirection m.kind.backward (shape_of (is_field c) m.form) (f_codes_of c 1) (backward_of m)
  pub intra : m.kind.intra ≡ true → m.pattern ≡ 63
  pub pattern : m.kind.intra ≡ false → m.kind.pattern ≡ true → (0 < m.pattern) × (m.pattern < 64)
  pub no_pattern : m.kind.intra ≡ false → m.kind.pattern ≡ false → m.pattern ≡ 0
  -- the vectors and field bits are two by two
  pub arranged : m ≡ macro_of m.increment m.kind m.form m.dct_field m.quantiser (forward_of m) (backward_of m) m.pattern
