-- Macroblocks whose vectors have f_codes of at most 2 have no long run of zeros.
use Rattle.std.proofs.Common.{◌≡◌, ℕ, zero, suc, ◌+◌, ◌-◌, ◌<◌, ◌≤◌, Bool, true, false, cond, List, refl, arith, ℤ, pos}
use Rattle.std.specs.Prelude.{nat_eq, not, ◌||◌, length, slice_index, slice_index_or}
use Rattle.std.specs.List.{list_all}
use Rattle.std.proofs.lemmas.Bool.{eqb-true, eqb-false}
use Rattle.m2v_bits.specs.Bits.{bits_of}
use Rattle.m2v_bits.specs.Syntax.{done}
use Rattle.m2v_bits.specs.Elements as elements
use Rattle.m2v_vlc.specs.declared.values.CodeFault.TheVariants as codes
use Rattle.m2v_vlc.specs.declared.values.Increment.{Increment}
use Rattle.m2v_vlc.specs.declared.values.Increment.TheVariants.{Step, Escape}
use Rattle.m2v_vlc.specs.declared.values.MbType.{MbType}
use Rattle.m2v_vlc.specs.Tables.{increment, type_i, type_p, type_b, block_pattern, motion, dmv}
use Rattle.m2v_vlc.specs.Values.{has_type_i, has_type_p, has_type_b}
use Rattle.m2v_vector.specs.declared.predictors.Pmv.{Pmv}
use Rattle.m2v_vector.specs.Vectors.{scale, half, joined}
use Rattle.m2v_vector.specs.Predictors.{pair_of}
use Rattle.m2v_macro.specs.declared.fault.MacroFault.TheVariants.{SliceOrder, MissingMacroblocks, SkipRule, QuantZero, PatternZero, BadMotionType, VectorRange, Marker}
use Rattle.m2v_macro.specs.declared.values.SliceState.{SliceState}
use Rattle.m2v_macro.specs.declared.values.PictureContext.{PictureContext}
use Rattle.m2v_macro.specs.declared.values.Shape.{Shape}
use Rattle.m2v_macro.specs.Faults.{of_code, cut, flag_at, look_at, ahead_at}
use Rattle.m2v_macro.specs.States.{is_field, not_past, in_order, may_skip, pmv_before}
use Rattle.m2v_macro.specs.Vectors.{shape_of, has_residual, component_at, dm_at, is_half_vector, vertical_at, vector_at, selected_at, no_vector, vectors_at, direction_at}
use Rattle.m2v_macro.specs.Macros.{added, round_at, increment_from, allowed_at, step_at, kind_at, has_form, is_form, no_form, told_form_at, form_at, has_dct, dct_at, told_quantiser_at, quantiser_at, is_concealed, f_codes_of, told_marker_at, marker_at, told_pattern_at, pattern_at, directions_at, macro_at}
use Rattle.m2v_macro.specs.Conditions.{has_type, is_used}
use Rattle.m2v_macro.proofs.Types.{in_i, in_p, in_b}
use Rattle.m2v_macro.proofs.Ready.{used_forward, used_backward}
use Rattle.m2v_enc_stream.proofs.CalmSyntax.{Calmly, Any, front_same, calmly_from, calmly_to, done_calm, here_calm, rule_calm, seq_calm, choose_calm, renamed_calm, bits_calm, number_calm, repeated_calm, is_calm, row_calm, code_calm}

-- ---- increments

abbrev any_step : Increment → Bool
any_step v = true

step_rows : list_all (row_calm 14 (λ v. 17) any_step) increment ≡ true
unfolding increment bits_of is_calm
step_rows = refl

abbrev step_leaves : Bool × ℕ → ℕ
step_leaves x = cond x.0 14 17

added_calm : (sum : ℕ) (v : Increment) → Calmly (added sum v) 17 step_leaves Any
unfolding added
added_calm sum Escape = done_calm (true, sum + 33) 17 step_leaves Any (omega arith) tt
added_calm sum (Step n) = done_calm (false, sum + n) 17 step_leaves Any (omega arith) tt

round_calm : (sum : ℕ) → Calmly (round_at sum) 14 step_leaves Any
unfolding round_at
round_calm sum =
    seq_calm _ _ 14 (λ v. 17) step_leaves (λ v. any_step v ≡ true) Any (renamed_calm of_code _ 14 (λ v. 17) (λ v. any_step v ≡ true) (code_calm codes.Truncated codes.NoCode increment 14 (λ v. 17) any_step step_rows)) (λ v x.
    added_calm sum v)

increment_calm : (sum : ℕ) → Calmly (increment_from sum) 14 (λ v. 17) Any
unfolding increment_from
increment_calm sum = repeated_calm round_at 14 17 round_calm length cut sum

step_calm : (c : PictureContext) (st : SliceState) → Calmly (step_at c st) 14 (λ v. 17) Any
unfolding step_at allowed_at
step_calm c st =
    seq_calm _ _ 14 (λ v. 14) (λ v. 17) Any Any (here_calm length 14) (λ start x.
    seq_calm _ _ 14 (λ v. 17) (λ v. 17) Any Any (increment_calm 0) (λ n y.
    seq_calm _ _ 17 (λ v. 17) (λ v. 17) (λ v. not_past st n ≡ true) Any (rule_calm (not_past st n) MissingMacroblocks start 17) (λ near e.
    seq_calm _ _ 17 (λ v. 17) (λ v. 17) (λ v. in_order c st n ≡ true) Any (rule_calm (in_order c st n) SliceOrder start 17) (λ order f.
    seq_calm _ _ 17 (λ v. 17) (λ v. 17) (λ v. may_skip c st n ≡ true) Any (rule_calm (may_skip c st n) SkipRule start 17) (λ skip g.
    done_calm n 17 (λ v. 17) Any (omega arith) tt)))))

-- ---- modes

i_rows : list_all (row_calm 17 (λ v. 21) (λ v. has_type_i v)) type_i ≡ true
unfolding type_i bits_of is_calm
i_rows = refl

p_rows : list_all (row_calm 17 (λ v. 21) (λ v. has_type_p v)) type_p ≡ true
unfolding type_p bits_of is_calm
p_rows = refl

b_rows : list_all (row_calm 17 (λ v. 21) (λ v. has_type_b v)) type_b ≡ true
unfolding type_b bits_of is_calm
b_rows = refl

kind_calm : (kind : ℕ) → Calmly (kind_at kind) 17 (λ v. 21) (λ v. has_type kind v ≡ true)
unfolding kind_at
kind_calm kind =
    let P = λ (v : MbType). has_type kind v ≡ true in
    choose_calm (nat_eq kind 1) _ _ 17 (λ v. 21) P
    (λ one. calmly_to _ 17 (λ v. 21) (λ v. 21) (λ v. has_type_i v ≡ true) P (λ v. omega arith) (λ v h. in_i kind v (eqb-true kind 1 one) h)
    (renamed_calm of_code _ 17 (λ v. 21) (λ v. has_type_i v ≡ true) (code_calm codes.Truncated codes.NoCode type_i 17 (λ v. 21) (λ v. has_type_i v) i_rows)))
    (λ other. choose_calm (nat_eq kind 2) _ _ 17 (λ v. 21) P
    (λ two. calmly_to _ 17 (λ v. 21) (λ v. 21) (λ v. has_type_p v ≡ true) P (λ v. omega arith) (λ v h. in_p kind v (eqb-true kind 2 two) h)
    (renamed_calm of_code _ 17 (λ v. 21) (λ v. has_type_p v ≡ true) (code_calm codes.Truncated codes.NoCode type_p 17 (λ v. 21) (λ v. has_type_p v) p_rows)))
    (λ neither. calmly_to _ 17 (λ v. 21) (λ v. 21) (λ v. has_type_b v ≡ true) P (λ v. omega arith) (λ v h. in_b kind v (eqb-false kind 1 other) (eqb-false kind 2 neither) h)
    (renamed_calm of_code _ 17 (λ v. 21) (λ v. has_type_b v ≡ true) (code_calm codes.Truncated codes.NoCode type_b 17 (λ v. 21) (λ v. has_type_b v) b_rows))))

form_calm : (c : PictureContext) (kind : MbType) → Calmly (form_at c kind) 21 (λ v. 19) Any
unfolding form_at told_form_at
form_calm c kind =
    choose_calm (has_form c kind) _ _ 21 (λ v. 19) Any
    (λ told. seq_calm _ _ 21 (λ v. 21) (λ v. 19) Any Any (here_calm length 21) (λ start x.
    seq_calm _ _ 21 (λ v. 19) (λ v. 19) Any Any (bits_calm cut 2 21 19 (omega arith) (omega arith)) (λ form y.
    seq_calm _ _ 19 (λ v. 19) (λ v. 19) (λ v. is_form c.kind form ≡ true) Any (rule_calm (is_form c.kind form) BadMotionType start 19) (λ known e.
    done_calm form 19 (λ v. 19) Any (omega arith) tt))))
    (λ other. done_calm (no_form c) 21 (λ v. 19) Any (omega arith) tt)

flag_calm : (k : ℕ) → k ≤ 21 → Calmly flag_at (suc k) (λ v. k) Any
unfolding elements.flag_at
flag_calm k le =
    seq_calm _ _ (suc k) (λ v. k) (λ v. k) Any Any (bits_calm cut 1 (suc k) k (omega arith) (omega (arith, le))) (λ bit x.
    done_calm (nat_eq bit 1) k (λ v. k) Any (omega arith) tt)

dct_calm : (c : PictureContext) (kind : MbType) → Calmly (dct_at c kind) 19 (λ v. 18) Any
unfolding dct_at
dct_calm c kind = choose_calm (has_dct c kind) _ _ 19 (λ v. 18) Any (λ told. flag_calm 18 (omega arith)) (λ other. done_calm false 19 (λ v. 18) Any (omega arith) tt)

not_zero : (n : ℕ) → not (nat_eq n 0) ≡ true → 0 < n
not_zero zero e = absurd cc
not_zero (suc n) e = omega arith

quantiser_calm : (kind : MbType) → Calmly (quantiser_at kind) 18 (λ v. 18) Any
unfolding quantiser_at told_quantiser_at
quantiser_calm kind =
    choose_calm kind.quant _ _ 18 (λ v. 18) Any
    (λ told. seq_calm _ _ 18 (λ v. 18) (λ v. 18) Any Any (here_calm length 18) (λ start x.
    number_calm cut 5 18 18 (λ code. not (nat_eq code 0)) QuantZero start (λ code. done code) (λ v. 18) Any (omega arith) (omega arith) not_zero (λ code. done_calm code 18 (λ v. 18) Any (omega arith) tt)))
    (λ other. done_calm 0 18 (λ v. 18) Any (omega arith) tt)

-- ---- vectors

abbrev any_number : ℤ → Bool
any_number v = true

motion_rows : list_all (row_calm 14 (λ v. 17) any_number) motion ≡ true
unfolding motion bits_of is_calm
motion_rows = refl

dm_rows : list_all (row_calm 16 (λ v. 15) any_number) dmv ≡ true
unfolding dmv bits_of is_calm
dm_rows = refl

component_calm : (f_code : ℕ) (predictor : ℤ) → f_code ≤ 2 → Calmly (component_at f_code predictor) 14 (λ v. 16) Any
unfolding component_at
component_calm f_code predictor le =
    seq_calm _ _ 14 (λ v. 17) (λ v. 16) (λ v. any_number v ≡ true) Any (renamed_calm of_code _ 14 (λ v. 17) (λ v. any_number v ≡ true) (code_calm codes.Truncated codes.NoCode motion 14 (λ v. 17) any_number motion_rows)) (λ code x.
    seq_calm _ _ 17 (λ v. 16) (λ v. 16) Any Any
    (choose_calm (has_residual f_code code) _ _ 17 (λ v. 16) Any (λ told. bits_calm cut (f_code - 1) 17 16 (omega (arith, le)) (omega (arith, le))) (λ other. done_calm 0 17 (λ v. 16) Any (omega arith) tt)) (λ residual y.
    done_calm (joined (scale f_code) predictor code residual) 16 (λ v. 16) Any (omega arith) tt))

dm_calm : (dual : Bool) → Calmly (dm_at dual) 16 (λ v. 15) Any
unfolding dm_at
dm_calm dual =
    choose_calm dual _ _ 16 (λ v. 15) Any
    (λ told. calmly_to _ 16 (λ v. 15) (λ v. 15) (λ v. any_number v ≡ true) Any (λ v. omega arith) (λ v h. tt) (renamed_calm of_code _ 16 (λ v. 15) (λ v. any_number v ≡ true) (code_calm codes.Truncated codes.NoCode dmv 16 (λ v. 15) any_number dm_rows)))
    (λ other. done_calm (pos 0) 16 (λ v. 15) Any (omega arith) tt)

vertical_calm : (halved : Bool) (f_code : ℕ) (predictor : ℤ) → f_code ≤ 2 → Calmly (vertical_at halved f_code predictor) 15 (λ v. 16) Any
unfolding vertical_at
vertical_calm halved f_code predictor le =
    seq_calm _ _ 15 (λ v. 15) (λ v. 16) Any Any (here_calm length 15) (λ start x.
    seq_calm _ _ 15 (λ v. 16) (λ v. 16) Any Any (calmly_from _ 14 15 (λ v. 16) Any (omega arith) (component_calm f_code (cond halved (half predictor) predictor) le)) (λ v y.
    seq_calm _ _ 16 (λ v. 16) (λ v. 16) (λ u. (not halved || is_half_vector (scale f_code) v) ≡ true) Any (rule_calm (not halved || is_half_vector (scale f_code) v) VectorRange start 16) (λ fits e.
    done_calm v 16 (λ v. 16) Any (omega arith) tt)))

-- f_codes of at most 2
pub record AreShort (f_code : List ℕ) : Type 0 where
  pub across : slice_index f_code 0 ≤ 2
  pub down : slice_index f_code 1 ≤ 2

vector_calm : (shape : Shape) (f_code : List ℕ) (predictor : List ℤ) (bottom : Bool) → AreShort f_code → Calmly (vector_at shape f_code predictor bottom) 14 (λ v. 15) Any
unfolding vector_at
vector_calm shape f_code predictor bottom short =
    seq_calm _ _ 14 (λ v. 16) (λ v. 15) Any Any (component_calm (slice_index f_code 0) (slice_index_or predictor 0 (pos 0)) short.across) (λ x a.
    seq_calm _ _ 16 (λ v. 15) (λ v. 15) Any Any (dm_calm shape.dual) (λ dm_x b.
    seq_calm _ _ 15 (λ v. 16) (λ v. 15) Any Any (vertical_calm shape.halved (slice_index f_code 1) (slice_index_or predictor 1 (pos 0)) short.down) (λ y d.
    seq_calm _ _ 16 (λ v. 15) (λ v. 15) Any Any (dm_calm shape.dual) (λ dm_y e.
    done_calm _ 15 (λ v. 15) Any (omega arith) tt))))

selected_calm : (shape : Shape) (f_code : List ℕ) (predictor : List ℤ) → AreShort f_code → Calmly (selected_at shape f_code predictor) 15 (λ v. 15) Any
unfolding selected_at
selected_calm shape f_code predictor short =
    seq_calm _ _ 15 (λ v. 14) (λ v. 15) Any Any (choose_calm shape.bit _ _ 15 (λ v. 14) Any (λ told. flag_calm 14 (omega arith)) (λ other. done_calm false 15 (λ v. 14) Any (omega arith) tt)) (λ bottom x.
    vector_calm shape f_code predictor bottom short)

direction_calm : (told : Bool) (shape : Shape) (f_code : List ℕ) (pmv : Pmv) (direction : ℕ) → (told ≡ true → AreShort f_code) → Calmly (direction_at told shape f_code pmv direction) 15 (λ v. 15) Any
unfolding direction_at vectors_at
direction_calm told shape f_code pmv direction short =
    choose_calm told _ _ 15 (λ v. 15) Any
    (λ e. seq_calm _ _ 15 (λ v. 15) (λ v. 15) Any Any (selected_calm shape f_code (pair_of pmv.at 0 direction) (short e)) (λ first x.
    seq_calm _ _ 15 (λ v. 15) (λ v. 15) Any Any
    (choose_calm shape.two _ _ 15 (λ v. 15) Any (λ two. selected_calm shape f_code (pair_of pmv.at 1 direction) (short e)) (λ one. done_calm no_vector 15 (λ v. 15) Any (omega arith) tt)) (λ second y.
    done_calm _ 15 (λ v. 15) Any (omega arith) tt)))
    (λ other. done_calm _ 15 (λ v. 15) Any (omega arith) tt)

marker_calm : (c : PictureContext) (kind : MbType) → Calmly (marker_at c kind) 15 (λ v. 14) Any
unfolding marker_at told_marker_at
marker_calm c kind =
    choose_calm (is_concealed c kind) _ _ 15 (λ v. 14) Any
    (λ told. seq_calm _ _ 15 (λ v. 15) (λ v. 14) Any Any (here_calm length 15) (λ start x.
    seq_calm _ _ 15 (λ v. 14) (λ v. 14) Any Any (bits_calm cut 1 15 14 (omega arith) (omega arith)) (λ bit y.
    calmly_to _ 14 (λ v. 14) (λ v. 14) (λ v. nat_eq bit 1 ≡ true) Any (λ v. omega arith) (λ v e. tt) (rule_calm (nat_eq bit 1) Marker start 14))))
    (λ other. done_calm tt 15 (λ v. 14) Any (omega arith) tt)

-- ---- macroblocks

-- where vectors can occur, their f_codes are at most 2
pub record HasShort (c : PictureContext) : Type 0 where
  pub low : 1 ≤ c.kind
  pub high : c.kind ≤ 3
  pub forward : is_used c 0 ≡ true → AreShort (f_codes_of c 0)
  pub backward : is_used c 1 ≡ true → AreShort (f_codes_of c 1)

directions_calm : (c : PictureContext) (kind : MbType) (form : ℕ) (pmv : Pmv) → HasShort c → has_type c.kind kind ≡ true → Calmly (directions_at c kind form pmv) 18 (λ v. 14) Any
unfolding directions_at
directions_calm c kind form pmv short h =
    seq_calm _ _ 18 (λ v. 15) (λ v. 14) Any Any
    (calmly_from _ 15 18 (λ v. 15) Any (omega arith) (direction_calm (kind.forward || is_concealed c kind) (shape_of (is_field c) form) (f_codes_of c 0) pmv 0 (λ told. short.forward (used_forward c kind h told)))) (λ forward x.
    seq_calm _ _ 15 (λ v. 15) (λ v. 14) Any Any
    (direction_calm kind.backward (shape_of (is_field c) form) (f_codes_of c 1) pmv 1 (λ told. short.backward (used_backward c kind short.low short.high h told))) (λ backward y.
    seq_calm _ _ 15 (λ v. 14) (λ v. 14) Any Any (marker_calm c kind) (λ marker z.
    done_calm (forward, backward) 14 (λ v. 14) Any (omega arith) tt)))

abbrev any_pattern : ℕ → Bool
any_pattern v = true

pattern_rows : list_all (row_calm 14 (λ v. 14) any_pattern) block_pattern ≡ true
unfolding block_pattern bits_of is_calm
pattern_rows = refl

look_calm : (f : List Bool → Bool) (k : ℕ) → Calmly (look_at f) k (λ v. k) Any
unfolding look_at
look_calm f k = record { stands = λ v t rest h. (tt, front_same k k t rest (omega arith) h.1) }

pattern_calm : (kind : MbType) → Calmly (pattern_at kind) 14 (λ v. 14) Any
unfolding pattern_at told_pattern_at ahead_at
pattern_calm kind =
    choose_calm kind.intra _ _ 14 (λ v. 14) Any (λ intra. done_calm 63 14 (λ v. 14) Any (omega arith) tt)
    (λ e. choose_calm kind.pattern _ _ 14 (λ v. 14) Any
    (λ told. seq_calm _ _ 14 (λ v. 14) (λ v. 14) Any Any (here_calm length 14) (λ start x.
    seq_calm _ _ 14 (λ v. 14) (λ v. 14) Any Any (look_calm _ 14) (λ none y.
    seq_calm _ _ 14 (λ v. 14) (λ v. 14) (λ v. not none ≡ true) Any (rule_calm (not none) PatternZero start 14) (λ some z.
    calmly_to _ 14 (λ v. 14) (λ v. 14) (λ v. any_pattern v ≡ true) Any (λ v. omega arith) (λ v h. tt)
    (renamed_calm of_code _ 14 (λ v. 14) (λ v. any_pattern v ≡ true) (code_calm codes.Truncated codes.NoCode block_pattern 14 (λ v. 14) any_pattern pattern_rows))))))
    (λ none. done_calm 0 14 (λ v. 14) Any (omega arith) tt))

pub macro_calm : (c : PictureContext) (st : SliceState) → HasShort c → Calmly (macro_at c st) 14 (λ v. 14) Any
unfolding macro_at
macro_calm c st short =
    seq_calm _ _ 14 (λ v. 17) (λ v. 14) Any Any (step_calm c st) (λ n x.
    seq_calm _ _ 17 (λ v. 21) (λ v. 14) (λ v. has_type c.kind v ≡ true) Any (kind_calm c.kind) (λ kind h.
    seq_calm _ _ 21 (λ v. 19) (λ v. 14) Any Any (form_calm c kind) (λ form y.
    seq_calm _ _ 19 (λ v. 18) (λ v. 14) Any Any (dct_calm c kind) (λ dct_field z.
    seq_calm _ _ 18 (λ v. 18) (λ v. 14) Any Any (quantiser_calm kind) (λ quantiser u.
    seq_calm _ _ 18 (λ v. 14) (λ v. 14) Any Any (directions_calm c kind form (pmv_before c st n) short h) (λ vectors w.
    seq_calm _ _ 14 (λ v. 14) (λ v. 14) Any Any (pattern_calm kind) (λ pattern q.
    done_calm _ 14 (λ v. 14) Any (omega arith) tt)))))))
