-- The text of a macroblock up to its blocks, as it is written: of two spellings of a vector that whose difference lies
-- from -16 f to 16 f - 1.
use Rattle.std.specs.Prelude.{ℕ, zero, suc, ◌+◌, ◌-◌, ◌/◌, ◌%◌, Bool, true, cond, ◌||◌, nat_eq, List, [], ◌∷◌, slice_index, slice_index_or, if◌then◌else◌, ℤ, pos}
use Rattle.m2v_bits.specs.Bits.{bits_of, ◌⧺◌}
use Rattle.m2v_vlc.specs.declared.values.Increment.TheVariants.{Step, Escape}
use Rattle.m2v_vlc.specs.declared.values.MbType.{MbType}
use Rattle.m2v_vlc.specs.Tables.{increment_code, type_i_code, type_p_code, type_b_code, pattern_code, motion_code, dmv_code}
use Rattle.m2v_vector.specs.declared.predictors.Pmv.{Pmv}
use Rattle.m2v_vector.specs.Vectors.{scale, half, between, code_of, residual_of}
use Rattle.m2v_vector.specs.Predictors.{pair_of}
use Rattle.m2v_macro.specs.declared.values.MacroSyntax.{MacroSyntax}
use Rattle.m2v_macro.specs.declared.values.SliceState.{SliceState}
use Rattle.m2v_macro.specs.declared.values.PictureContext.{PictureContext}
use Rattle.m2v_macro.specs.declared.values.Shape.{Shape}
use Rattle.m2v_macro.specs.declared.values.Selected.{Selected}
use Rattle.m2v_macro.specs.declared.values.Direction.{Direction}
use Rattle.m2v_macro.specs.States.{is_field, pmv_before}
use Rattle.m2v_macro.specs.Vectors.{shape_of, has_residual}
use Rattle.m2v_macro.specs.Macros.{has_form, has_dct, is_concealed, f_codes_of}
use Rattle.m2v_macro.specs.Conditions.{forward_of, backward_of}

-- the bit of a flag
abbrev pub flag : Bool → List Bool
flag b = b ∷ []

-- ---- increments

unfoldable pub escapes_text : ℕ → List Bool
escapes_text zero = []
escapes_text (suc k) = increment_code Escape ⧺ escapes_text k

-- as few escapes as leave a step from 1 to 33
unfoldable pub increment_text : ℕ → List Bool
increment_text n = escapes_text ((n - 1) / 33) ⧺ increment_code (Step ((n - 1) % 33 + 1))

-- ---- vectors

unfoldable pub residual_text : ℕ → ℤ → ℕ → List Bool
residual_text f_code code residual = if has_residual f_code code then bits_of (f_code - 1) residual else []

unfoldable pub difference_text : ℕ → ℤ → List Bool
difference_text f_code d = motion_code (code_of (scale f_code) d) ⧺ residual_text f_code (code_of (scale f_code) d) (residual_of (scale f_code) d)

unfoldable pub component_text : ℕ → ℤ → ℤ → List Bool
component_text f_code predictor v = difference_text f_code (between (scale f_code) predictor v)

unfoldable pub dm_text : Bool → ℤ → List Bool
dm_text dual dm = if dual then dmv_code dm else []

-- what a component is predicted from
unfoldable pub predictor_at : Shape → List ℤ → ℕ → ℤ
predictor_at shape predictor k =
    if nat_eq k 0 then slice_index_or predictor 0 (pos 0)
    else cond shape.halved (half (slice_index_or predictor 1 (pos 0))) (slice_index_or predictor 1 (pos 0))

-- a component, and its dmvector in dual prime
unfoldable pub part_text : Shape → List ℕ → List ℤ → Selected → ℕ → List Bool
part_text shape f_code predictor s k =
    component_text (slice_index f_code k) (predictor_at shape predictor k) (slice_index_or s.vector k (pos 0))
    ⧺ dm_text shape.dual (slice_index_or s.dmvector k (pos 0))

unfoldable pub vector_text : Shape → List ℕ → List ℤ → Selected → List Bool
vector_text shape f_code predictor s = part_text shape f_code predictor s 0 ⧺ part_text shape f_code predictor s 1

unfoldable pub bit_text : Bool → Bool → List Bool
bit_text told b = if told then flag b else []

unfoldable pub selected_text : Shape → List ℕ → List ℤ → Selected → List Bool
selected_text shape f_code predictor s = bit_text shape.bit s.bottom ⧺ vector_text shape f_code predictor s

unfoldable pub second_text : Shape → List ℕ → List ℤ → Selected → List Bool
second_text shape f_code predictor s = if shape.two then selected_text shape f_code predictor s else []

unfoldable pub direction_text : Bool → Shape → List ℕ → Pmv → ℕ → Direction → List Bool
direction_text told shape f_code pmv direction d =
    if told then
    selected_text shape f_code (pair_of pmv.at 0 direction) d.first ⧺ second_text shape f_code (pair_of pmv.at 1 direction) d.second
    else []

-- ---- macroblocks

unfoldable pub kind_text : ℕ → MbType → List Bool
kind_text kind v = if nat_eq kind 1 then type_i_code v else if nat_eq kind 2 then type_p_code v else type_b_code v

unfoldable pub form_text : PictureContext → MbType → ℕ → List Bool
form_text c kind form = if has_form c kind then bits_of 2 form else []

unfoldable pub dct_text : PictureContext → MbType → Bool → List Bool
dct_text c kind dct_field = if has_dct c kind then flag dct_field else []

unfoldable pub quantiser_text : MbType → ℕ → List Bool
quantiser_text kind quantiser = if kind.quant then bits_of 5 quantiser else []

-- the marker behind concealment vectors
unfoldable pub marker_text : PictureContext → MbType → List Bool
marker_text c kind = if is_concealed c kind then flag true else []

unfoldable pub pattern_text : MbType → ℕ → List Bool
pattern_text kind pattern = if kind.intra then [] else if kind.pattern then pattern_code pattern else []

-- what stands before the vectors
unfoldable pub modes_text : PictureContext → MacroSyntax → List Bool
modes_text c m =
    increment_text m.increment ⧺ kind_text c.kind m.kind ⧺ form_text c m.kind m.form ⧺ dct_text c m.kind m.dct_field
    ⧺ quantiser_text m.kind m.quantiser

-- the vectors of both directions, and the marker
unfoldable pub directions_text : PictureContext → Pmv → MacroSyntax → List Bool
directions_text c pmv m =
    direction_text (m.kind.forward || is_concealed c m.kind) (shape_of (is_field c) m.form) (f_codes_of c 0) pmv 0 (forward_of m)
    ⧺ direction_text m.kind.backward (shape_of (is_field c) m.form) (f_codes_of c 1) pmv 1 (backward_of m)
    ⧺ marker_text c m.kind

unfoldable pub macro_text : PictureContext → SliceState → MacroSyntax → List Bool
macro_text c st m = modes_text c m ⧺ directions_text c (pmv_before c st m.increment) m ⧺ pattern_text m.kind m.pattern
