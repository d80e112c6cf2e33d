-- The texts of escapes, and how long texts are.
use Rattle.std.proofs.Common.{◌≡◌, ℕ, zero, suc, ◌+◌, ◌-◌, ◌*◌, ◌/◌, ◌%◌, ◌^◌, ◌<◌, ◌≤◌, Bool, true, false, List, [], ◌++◌, length, ℤ, pos, refl, ap, sym, inl, inr, arith}
use Rattle.std.specs.Prelude.{nat_eq, ◌||◌, slice_index, slice_index_or, if◌then◌else◌}
use Rattle.std.proofs.lemmas.Bool.{cases_Bool}
use Rattle.std.proofs.lemmas.List.{length-append}
use Rattle.std.proofs.Math.Nat.{mul-div-le}
use Rattle.m2v_bits.specs.Bits.{bits_of}
use Rattle.m2v_bits.proofs.Bits.{length-bits_of}
use Rattle.m2v_vlc.specs.declared.values.Increment.TheVariants.{Step, Escape}
use Rattle.m2v_vlc.specs.declared.values.MbType.{MbType}
use Rattle.m2v_vlc.specs.Codes.{code_of as row_of}
use Rattle.m2v_vlc.specs.Tables.{increment, increment_code, pattern_code, motion_code, dmv_code}
use Rattle.m2v_vlc.specs.Values.{same_increment}
use Rattle.m2v_vlc.proofs.Increments.{increment_length}
use Rattle.m2v_vlc.proofs.MbTypes.{type_i_length, type_p_length, type_b_length}
use Rattle.m2v_vlc.proofs.Motions.{motion_length, dmv_length}
use Rattle.m2v_vlc.proofs.Patterns.{pattern_length}
use Rattle.m2v_vector.specs.declared.predictors.Pmv.{Pmv}
use Rattle.m2v_vector.specs.Vectors.{scale, between, code_of, residual_of}
use Rattle.m2v_vector.specs.Predictors.{pair_of}
use Rattle.m2v_macro.specs.declared.values.MacroSyntax.{MacroSyntax}
use Rattle.m2v_macro.specs.declared.values.SliceState.{SliceState}
use Rattle.m2v_macro.specs.declared.values.PictureContext.{PictureContext}
use Rattle.m2v_macro.specs.declared.values.Shape.{Shape}
use Rattle.m2v_macro.specs.declared.values.Selected.{Selected}
use Rattle.m2v_macro.specs.declared.values.Direction.{Direction}
use Rattle.m2v_macro.specs.States.{is_field, pmv_before}
use Rattle.m2v_macro.specs.Vectors.{shape_of, has_residual}
use Rattle.m2v_macro.specs.Macros.{has_form, has_dct, is_concealed, f_codes_of}
use Rattle.m2v_macro.specs.Conditions.{IsContext, IsMacro, AreScales, forward_of, backward_of}
use Rattle.m2v_macro.specs.Texts.{flag, escapes_text, increment_text, increment_text, kind_text, form_text, dct_text, quantiser_text, marker_text, pattern_text, modes_text, directions_text, macro_text, direction_text, second_text, selected_text, bit_text, vector_text, part_text, predictor_at, component_text, difference_text, residual_text, dm_text}
use Rattle.m2v_macro.proofs.Steps.{order_small}
use Rattle.m2v_macro.proofs.Ready.{used_forward, used_backward}

pub escapes_one : (n : ℕ) → 0 < n → escapes_text n ≡ increment_code Escape ++ escapes_text (n - 1)
unfolding escapes_text
escapes_one zero some = absurd (omega arith)
escapes_one (suc n) some = let less : suc n - 1 ≡ n = omega arith in rw less refl

escape_bits : length (increment_code Escape) ≡ 11
unfolding increment row_of bits_of same_increment
escape_bits = refl

-- a small increment has no escapes
pub near_step : (n : ℕ) → 1 ≤ n → n ≤ 33 → increment_code (Step n) ≡ increment_text n
unfolding increment_text escapes_text
near_step n some most =
    let none : (n - 1) / 33 ≡ 0 = omega (arith, some, most) in
    let step : (n - 1) % 33 + 1 ≡ n = omega (arith, some, most) in
    rw (none, step) refl

pub escapes_bits : (n : ℕ) → length (escapes_text n) ≡ n * 11
unfolding escapes_text
escapes_bits zero = refl
escapes_bits (suc n) = omega (arith, length-append (increment_code Escape) (escapes_text n), escape_bits, escapes_bits n)

pub escapes_none : (n : ℕ) → n ≡ 0 → [] ≡ escapes_text n
unfolding escapes_text
escapes_none n none = sym (ap (λ (k : ℕ). escapes_text k) none)

-- ---- two texts

pub first_room : (x y : List Bool) (room : ℕ) → length (x ++ y) ≤ room → length x ≤ room
first_room x y room le = omega (arith, le, length-append x y)

pub second_room : (x y : List Bool) (room mid : ℕ) → length (x ++ y) ≤ room → mid + length x ≡ room → length y ≤ mid
second_room x y room mid le e = omega (arith, le, e, length-append x y)

-- ---- the most bits that a macroblock takes

-- a text that stands only where it is told
told_most : (told : Bool) (text : List Bool) (n : ℕ) → (told ≡ true → length text ≤ n) → length (if told then text else []) ≤ n
told_most true text n h = h refl
told_most false text n h = omega arith

increment_most : (n : ℕ) → n < 2 ^ 20 → length (increment_text n) ≤ 2 ^ 19
unfolding increment_text
increment_most n small =
    let step = Step ((n - 1) % 33 + 1) in
    omega (arith, small, length-append (escapes_text ((n - 1) / 33)) (increment_code step), escapes_bits ((n - 1) / 33), increment_length step, mul-div-le (n - 1) 33)

kind_most : (kind : ℕ) (v : MbType) → length (kind_text kind v) ≤ 6
unfolding kind_text
kind_most kind v = elim (cases_Bool (nat_eq kind 1)) [
  | inl one ↦ rw one (omega (arith, type_i_length v))
  | inr not_one ↦ elim (cases_Bool (nat_eq kind 2)) [ inl two ↦ rw (not_one, two) (type_p_length v) | inr not_two ↦ rw (not_one, not_two) (type_b_length v) ]
]

modes_most : (c : PictureContext) (m : MacroSyntax) → m.increment < 2 ^ 20 → length (modes_text c m) ≤ 2 ^ 19 + 14
unfolding modes_text form_text dct_text quantiser_text
modes_most c m small =
    let quantiser = quantiser_text m.kind m.quantiser in
    let dct = dct_text c m.kind m.dct_field in
    let form = form_text c m.kind m.form in
    let kind = kind_text c.kind m.kind in
    omega (
      arith,
      length-append (increment_text m.increment) (kind ++ (form ++ (dct ++ quantiser))),
      length-append kind (form ++ (dct ++ quantiser)),
      length-append form (dct ++ quantiser),
      length-append dct quantiser,
      increment_most m.increment small,
      kind_most c.kind m.kind,
      told_most (has_form c m.kind) (bits_of 2 m.form) 2 (λ told. omega (arith, length-bits_of 2 m.form)),
      told_most (has_dct c m.kind) (flag m.dct_field) 1 (λ told. omega arith),
      told_most m.kind.quant (bits_of 5 m.quantiser) 5 (λ told. omega (arith, length-bits_of 5 m.quantiser)),
    )

component_most : (f_code : ℕ) (predictor v : ℤ) → f_code ≤ 9 → length (component_text f_code predictor v) ≤ 19
unfolding component_text difference_text residual_text
component_most f_code predictor v most =
    let d = between (scale f_code) predictor v in
    let code = code_of (scale f_code) d in
    let residual = residual_of (scale f_code) d in
    omega (
      arith,
      length-append (motion_code code) (residual_text f_code code residual),
      motion_length code,
      told_most (has_residual f_code code) (bits_of (f_code - 1) residual) 8 (λ told. omega (arith, most, length-bits_of (f_code - 1) residual)),
    )

part_most : (shape : Shape) (f_code : List ℕ) (predictor : List ℤ) (s : Selected) (k : ℕ) → slice_index f_code k ≤ 9 → length (part_text shape f_code predictor s k) ≤ 21
unfolding part_text dm_text
part_most shape f_code predictor s k most =
    let dm = slice_index_or s.dmvector k (pos 0) in
    let component = component_text (slice_index f_code k) (predictor_at shape predictor k) (slice_index_or s.vector k (pos 0)) in
    omega (
      arith,
      length-append component (dm_text shape.dual dm),
      component_most (slice_index f_code k) (predictor_at shape predictor k) (slice_index_or s.vector k (pos 0)) most,
      told_most shape.dual (dmv_code dm) 2 (λ told. dmv_length dm),
    )

selected_most : (shape : Shape) (f_code : List ℕ) (predictor : List ℤ) (s : Selected) → AreScales f_code → length (selected_text shape f_code predictor s) ≤ 43
unfolding selected_text bit_text vector_text
selected_most shape f_code predictor s scales =
    let across = part_text shape f_code predictor s 0 in
    let down = part_text shape f_code predictor s 1 in
    omega (
      arith,
      length-append (bit_text shape.bit s.bottom) (across ++ down),
      length-append across down,
      told_most shape.bit (flag s.bottom) 1 (λ told. omega arith),
      part_most shape f_code predictor s 0 scales.horizontal.1,
      part_most shape f_code predictor s 1 scales.vertical.1,
    )

direction_most : (told : Bool) (shape : Shape) (f_code : List ℕ) (pmv : Pmv) (direction : ℕ) (d : Direction) → (told ≡ true → AreScales f_code) → length (direction_text told shape f_code pmv direction d) ≤ 86
unfolding direction_text second_text
direction_most told shape f_code pmv direction d scales =
    let first = selected_text shape f_code (pair_of pmv.at 0 direction) d.first in
    let second = second_text shape f_code (pair_of pmv.at 1 direction) d.second in
    told_most told (first ++ second) 86 (λ on. omega (
      arith,
      length-append first second,
      selected_most shape f_code (pair_of pmv.at 0 direction) d.first (scales on),
      told_most shape.two (selected_text shape f_code (pair_of pmv.at 1 direction) d.second) 43 (λ two. selected_most shape f_code (pair_of pmv.at 1 direction) d.second (scales on)),
    ))

directions_most : (c : PictureContext) (pmv : Pmv) (st : SliceState) (m : MacroSyntax) → IsContext c → IsMacro c st m → length (directions_text c pmv m) ≤ 173
unfolding directions_text marker_text
directions_most c pmv st m context fits =
    let shape = shape_of (is_field c) m.form in
    let forward = direction_text (m.kind.forward || is_concealed c m.kind) shape (f_codes_of c 0) pmv 0 (forward_of m) in
    let backward = direction_text m.kind.backward shape (f_codes_of c 1) pmv 1 (backward_of m) in
    omega (
      arith,
      length-append forward (backward ++ marker_text c m.kind),
      length-append backward (marker_text c m.kind),
      direction_most (m.kind.forward || is_concealed c m.kind) shape (f_codes_of c 0) pmv 0 (forward_of m) (λ told. context.forward (used_forward c m.kind fits.kind told)),
      direction_most m.kind.backward shape (f_codes_of c 1) pmv 1 (backward_of m) (λ told. context.backward (used_backward c m.kind context.kind.0 context.kind.1 fits.kind told)),
      told_most (is_concealed c m.kind) (flag true) 1 (λ told. omega arith),
    )

pattern_most : (kind : MbType) (pattern : ℕ) → length (pattern_text kind pattern) ≤ 9
unfolding pattern_text
pattern_most kind pattern = elim (cases_Bool kind.intra) [
  | inl on ↦ rw on (omega arith)
  | inr off ↦ rw off (told_most kind.pattern (pattern_code pattern) 9 (λ told. pattern_length pattern))
]

pub macro_most : (c : PictureContext) (st : SliceState) (m : MacroSyntax) → IsContext c → IsMacro c st m → length (macro_text c st m) ≤ 2 ^ 20
unfolding macro_text
macro_most c st m context fits =
    let pmv = pmv_before c st m.increment in
    let pattern = pattern_text m.kind m.pattern in
    omega (
      arith,
      length-append (modes_text c m) (directions_text c pmv m ++ pattern),
      length-append (directions_text c pmv m) pattern,
      modes_most c m (order_small c st m.increment context.columns.1 fits.step.order),
      directions_most c pmv st m context fits,
      pattern_most m.kind m.pattern,
    )
