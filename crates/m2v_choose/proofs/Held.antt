-- How many bits hold takes.
use Rattle.std.proofs.Common.{◌≡◌, ℕ, ◌+◌, ◌-◌, ◌*◌, ◌<◌, ◌≤◌, Bool, true, false, cond, ◌&&◌, ◌||◌, not, List, [], ◌∷◌, ◌++◌, length, refl, ap, ◌∙◌, arith, inl, inr, ℤ, pos, negsuc, neg_ℤ, ◌≤ℤ◌, ◌-ℤ◌, unsigned_abs, replicate, map}
use Rattle.std.specs.Prelude.{nat_eq, if◌then◌else◌, slice_index, slice_index_or}
use Rattle.std.specs.List.{range_with_len, flat_map}
use Rattle.std.proofs.lemmas.Int.{ints}
use Rattle.std.proofs.lemmas.List.{length-append}
use Rattle.std.proofs.lemmas.Bool.{cases_lt, eq-eqb, cond-true}
use Rattle.m2v_bits.specs.Bits.{bits_of}
use Rattle.m2v_vlc.specs.declared.values.MbType.{MbType}
use Rattle.m2v_vlc.specs.Codes.{code_of}
use Rattle.m2v_vlc.specs.Values.{kind}
use Rattle.m2v_vlc.specs.Tables.{type_i, type_p, type_b, dc_luma, dc_chroma}
use Rattle.m2v_vlc.specs.Coefficients.{coefficient_zero, same_coefficient, pairs_zero, signed}
use Rattle.m2v_quant.specs.declared.kind.BlockKind.{BlockKind}
use Rattle.m2v_macroblock.specs.m2v_block.Texts.{block_text, pairs_text, level_text, run_after, code_text}
use Rattle.m2v_macroblock.specs.m2v_block.Dc.{dc_text, size_of, number_of, size_code}
use Rattle.m2v_vector.specs.declared.predictors.Pmv.{Pmv}
use Rattle.m2v_vector.specs.Predictors.{zero as none, pair_of, zeros, resets, has_vectors, has_two, is_halved, entry_after, predictors_after}
use Rattle.m2v_macro.specs.declared.values.MacroSyntax.{MacroSyntax}
use Rattle.m2v_macro.specs.declared.values.SliceState.{SliceState}
use Rattle.m2v_macro.specs.declared.values.PictureContext.{PictureContext}
use Rattle.m2v_macro.specs.declared.values.Selected.{Selected}
use Rattle.m2v_macro.specs.States.{is_field, skips, pmv_before, skipped, after}
use Rattle.m2v_macro.specs.Vectors.{shape_of}
use Rattle.m2v_macro.specs.Macros.{macro_of, no_vectors, no_form, has_form, has_dct, is_concealed, f_codes_of}
use Rattle.m2v_macro.specs.Conditions.{forward_of, backward_of}
use Rattle.m2v_macro.specs.Texts.{increment_text, kind_text, form_text, dct_text, quantiser_text, direction_text, marker_text, pattern_text, modes_text, directions_text, macro_text, selected_text, second_text, bit_text, vector_text, part_text, dm_text, predictor_at, component_text, flag}
use Rattle.m2v_macroblock.specs.Macroblocks.{Macroblock, kind_for, predictor}
use Rattle.m2v_macroblock.specs.Texts.{block_in_text, blocks_text, macroblock_text}
use Rattle.m2v_choose.specs.Decisions.{Decision, written, no_levels, increment_of, intra_syntax, uncoded_syntax}
use Rattle.m2v_choose.specs.Candidates.{plain_form, still_vector, still_prediction, held_intra, held_levels, hold}
use Rattle.m2v_choose.specs.Choice.{bits_taken, choice_of}
use Rattle.m2v_choose.specs.Laws.{Fits}
use Rattle.m2v_choose.specs.Own.{IsOwn, AreNear}
use Rattle.m2v_choose.proofs.Chosen.{either, choice_fits}
use Rattle.m2v_choose.proofs.HeldParts.{increment_bits, still_bits, nothing}

-- ---- one text behind another

-- a text that may stand
told_bits : (told : Bool) (text : List Bool) (n : ℕ) → length text ≤ n → length (if told then text else []) ≤ n
told_bits true text n le = le
told_bits false text n le = omega arith

modes_bits : (c : PictureContext) (m : MacroSyntax)
    → length (modes_text c m) ≡ length (increment_text m.increment) + (length (kind_text c.kind m.kind) + (length (form_text c m.kind m.form) + (length (dct_text c m.kind m.dct_field) + length (quantiser_text m.kind m.quantiser))))
unfolding modes_text
modes_bits c m =
    let i = increment_text m.increment in
    let k = kind_text c.kind m.kind in
    let f = form_text c m.kind m.form in
    let d = dct_text c m.kind m.dct_field in
    let q = quantiser_text m.kind m.quantiser in
    omega (arith, length-append i (k ++ (f ++ (d ++ q))), length-append k (f ++ (d ++ q)), length-append f (d ++ q), length-append d q)

abbrev forward_text : PictureContext → SliceState → MacroSyntax → List Bool
forward_text c st m =
    direction_text (m.kind.forward || is_concealed c m.kind) (shape_of (is_field c) m.form) (f_codes_of c 0) (pmv_before c st m.increment) 0 (forward_of m)

abbrev backward_text : PictureContext → SliceState → MacroSyntax → List Bool
backward_text c st m =
    direction_text m.kind.backward (shape_of (is_field c) m.form) (f_codes_of c 1) (pmv_before c st m.increment) 1 (backward_of m)

macro_bits : (c : PictureContext) (st : SliceState) (m : MacroSyntax)
    → length (macro_text c st m) ≡ length (modes_text c m) + (length (forward_text c st m) + (length (backward_text c st m) + length (marker_text c m.kind))) + length (pattern_text m.kind m.pattern)
unfolding macro_text directions_text
macro_bits c st m =
    let x = modes_text c m in
    let f = forward_text c st m in
    let b = backward_text c st m in
    let k = marker_text c m.kind in
    let p = pattern_text m.kind m.pattern in
    omega (arith, length-append x ((f ++ (b ++ k)) ++ p), length-append (f ++ (b ++ k)) p, length-append f (b ++ k), length-append b k)

macroblock_bits : (c : PictureContext) (st : SliceState) (x : Macroblock)
    → length (macroblock_text c st x) ≡ length (macro_text c st x.syntax) + length (blocks_text c (after c st x.syntax) x 0 6)
unfolding macroblock_text
macroblock_bits c st x = length-append (macro_text c st x.syntax) (blocks_text c (after c st x.syntax) x 0 6)

-- ---- vectors

-- vector zero in the picture's own lines, behind near predictors
part_bits : (field : Bool) (predictor : List ℤ) (bottom : Bool) (k : ℕ)
    → unsigned_abs (predictor_at (shape_of field (if field then 1 else 2)) predictor k) ≤ 31
    → slice_index (2 ∷ 2 ∷ []) k ≡ 2 → slice_index_or zeros k (pos 0) ≡ pos 0
    → length (part_text (shape_of field (if field then 1 else 2)) (2 ∷ 2 ∷ []) predictor (record { bottom = bottom; vector = zeros; dmvector = zeros }) k) ≤ 12
unfolding part_text dm_text shape_of has_two is_halved
part_bits true predictor bottom k near two none =
    rw (two, none) (omega (arith, length-append (component_text 2 (predictor_at (shape_of true 1) predictor k) (pos 0)) [], still_bits (predictor_at (shape_of true 1) predictor k) near))
part_bits false predictor bottom k near two none =
    rw (two, none) (omega (arith, length-append (component_text 2 (predictor_at (shape_of false 2) predictor k) (pos 0)) [], still_bits (predictor_at (shape_of false 2) predictor k) near))

predictor_near : (field : Bool) (predictor : List ℤ) (k : ℕ) → unsigned_abs (slice_index_or predictor 0 (pos 0)) ≤ 31 → unsigned_abs (slice_index_or predictor 1 (pos 0)) ≤ 31
    → unsigned_abs (predictor_at (shape_of field (if field then 1 else 2)) predictor k) ≤ 31
unfolding predictor_at shape_of is_halved
predictor_near true p k x y = either (λ (z : ℤ). unsigned_abs z ≤ 31) (nat_eq k 0) (slice_index_or p 0 (pos 0)) (slice_index_or p 1 (pos 0)) x y
predictor_near false p k x y = either (λ (z : ℤ). unsigned_abs z ≤ 31) (nat_eq k 0) (slice_index_or p 0 (pos 0)) (slice_index_or p 1 (pos 0)) x y

selected_bits : (field : Bool) (predictor : List ℤ) (bottom : Bool)
    → unsigned_abs (slice_index_or predictor 0 (pos 0)) ≤ 31 → unsigned_abs (slice_index_or predictor 1 (pos 0)) ≤ 31
    → length (selected_text (shape_of field (if field then 1 else 2)) (2 ∷ 2 ∷ []) predictor (record { bottom = bottom; vector = zeros; dmvector = zeros })) ≤ 25
unfolding selected_text bit_text vector_text
selected_bits field predictor bottom x y =
    let shape = shape_of field (if field then 1 else 2) in
    let s : Selected = record { bottom = bottom; vector = zeros; dmvector = zeros } in
    let a = part_text shape (2 ∷ 2 ∷ []) predictor s 0 in
    let b = part_text shape (2 ∷ 2 ∷ []) predictor s 1 in
    let bit = if shape.bit then flag bottom else [] in
    omega (arith, length-append bit (a ++ b), length-append a b, told_bits shape.bit (flag bottom) 1 (omega arith), part_bits field predictor bottom 0 (predictor_near field predictor 0 x y) refl refl, part_bits field predictor bottom 1 (predictor_near field predictor 1 x y) refl refl)

second_none : (field : Bool) (f_code : List ℕ) (predictor : List ℤ) (s : Selected) → second_text (shape_of field (if field then 1 else 2)) f_code predictor s ≡ []
unfolding second_text shape_of has_two
second_none true f_code predictor s = refl
second_none false f_code predictor s = refl

-- a direction's first predictor is near
abbrev IsNearIn : ℕ → Pmv → Type 0
IsNearIn direction p =
    (unsigned_abs (slice_index_or (pair_of p.at 0 direction) 0 (pos 0)) ≤ 31) × (unsigned_abs (slice_index_or (pair_of p.at 0 direction) 1 (pos 0)) ≤ 31)

-- the one vector of a direction
direction_bits : (c : PictureContext) (f_code : List ℕ) (pmv : Pmv) (direction : ℕ) → f_code ≡ 2 ∷ 2 ∷ [] → IsNearIn direction pmv
    → length (direction_text true (shape_of (is_field c) (plain_form c)) f_code pmv direction (still_vector c)) ≤ 25
unfolding direction_text plain_form
direction_bits c f_code pmv direction code near =
    let shape = shape_of (is_field c) (plain_form c) in
    let first = (still_vector c).first in
    let second = (still_vector c).second in
    rw code (rw (second_none (is_field c) (2 ∷ 2 ∷ []) (pair_of pmv.at 1 direction) second)
    (omega (arith, length-append (selected_text shape (2 ∷ 2 ∷ []) (pair_of pmv.at 0 direction) first) [], selected_bits (is_field c) (pair_of pmv.at 0 direction) first.bottom near.0 near.1)))

-- ---- predictors

up_to : (z : ℤ) → (neg_ℤ (pos 31) ≤ℤ z) × (z ≤ℤ pos 31) → unsigned_abs z ≤ 31
up_to (pos n) h = omega (arith, ints, h.0, h.1)
up_to (negsuc n) h = omega (arith, ints, h.0, h.1)

-- skipped macroblocks leave near predictors near
forward_near : (c : PictureContext) (st : SliceState) (n : ℕ) → AreNear st.pmv.at → IsNearIn 0 (pmv_before c st n)
unfolding pmv_before predictors_after entry_after has_vectors
forward_near c st n near =
    either (IsNearIn 0) (skips st n) (predictors_after (skipped c) st.pmv) st.pmv
    (either (IsNearIn 0) (resets (skipped c)) none _ (omega arith, omega arith) (up_to _ (near 0 0 0), up_to _ (near 0 0 1))) (up_to _ (near 0 0 0), up_to _ (near 0 0 1))

backward_near : (c : PictureContext) (st : SliceState) (n : ℕ) → AreNear st.pmv.at → IsNearIn 1 (pmv_before c st n)
unfolding pmv_before predictors_after entry_after has_vectors
backward_near c st n near =
    either (IsNearIn 1) (skips st n) (predictors_after (skipped c) st.pmv) st.pmv
    (either (IsNearIn 1) (resets (skipped c)) none _ (omega arith, omega arith) (up_to _ (near 0 1 0), up_to _ (near 0 1 1))) (up_to _ (near 0 1 0), up_to _ (near 0 1 1))

-- ---- elements

-- a type without blocks has no dct_type
no_dct : (a b : Bool) → (a && (b && false)) ≡ false
no_dct true true = refl
no_dct true false = refl
no_dct false b = refl

uncoded_dct : (c : PictureContext) (k : MbType) → k.intra ≡ false → k.pattern ≡ false → dct_text c k false ≡ []
unfolding dct_text has_dct
uncoded_dct c k intra pattern = rw (intra, pattern) (rw (no_dct (not (is_field c)) (not c.extension.frame_pred_frame_dct)) refl)

form_bits : (c : PictureContext) (k : MbType) (form : ℕ) → length (form_text c k form) ≤ 2
unfolding form_text bits_of
form_bits c k form = told_bits (has_form c k) (bits_of 2 form) 2 (omega arith)

-- ---- P pictures, and B pictures where the flag is true

abbrev held_as : Bool → PictureContext → ℕ → MacroSyntax
held_as false c n = macro_of n (kind 0 1 0 0 0) (plain_form c) false 0 (still_vector c) no_vectors 0
held_as true c n = macro_of n (kind 0 0 1 0 0) (plain_form c) false 0 no_vectors (still_vector c) 0

hold_as : (back : Bool) (d : Decision) → d.context.kind ≡ cond back 3 2 → hold d ≡ written (held_as back d.context (increment_of d)) no_levels
unfolding hold uncoded_syntax still_prediction
hold_as false d e = rw e refl
hold_as true d e = rw e refl

type_bits : (back : Bool) (c : PictureContext) (n : ℕ) → c.kind ≡ cond back 3 2 → length (kind_text c.kind (held_as back c n).kind) ≡ 3
unfolding kind_text type_p type_b code_of bits_of
type_bits false c n e = rw e refl
type_bits true c n e = rw e refl

codes_as : (back : Bool) (c : PictureContext) → IsOwn c → c.kind ≡ cond back 3 2 → f_codes_of c (cond back 1 0) ≡ 2 ∷ 2 ∷ []
codes_as false c own e = rw own.f_code (rw e refl)
codes_as true c own e = rw own.f_code (rw e refl)

rest_as : (back : Bool) (c : PictureContext) (st : SliceState) (n : ℕ) → (let m = held_as back c n in
    length (quantiser_text m.kind 0) + length (cond back (forward_text c st m) (backward_text c st m)) + length (marker_text c m.kind) + length (pattern_text m.kind 0) ≡ 0)
unfolding quantiser_text direction_text marker_text pattern_text
rest_as false c st n = refl
rest_as true c st n = refl

macro_as : (back : Bool) (c : PictureContext) (st : SliceState) (n : ℕ) → IsOwn c → AreNear st.pmv.at → c.kind ≡ cond back 3 2
    → length (macro_text c st (held_as back c n)) ≤ length (increment_text n) + 30
macro_as false c st n own near e =
    let m = held_as false c n in
    omega (arith, macro_bits c st m, modes_bits c m, type_bits false c n e, form_bits c m.kind m.form, ap length (uncoded_dct c m.kind refl refl), direction_bits c (f_codes_of c 0) (pmv_before c st n) 0 (codes_as false c own e) (forward_near c st n near), rest_as false c st n)
macro_as true c st n own near e =
    let m = held_as true c n in
    omega (arith, macro_bits c st m, modes_bits c m, type_bits true c n e, form_bits c m.kind m.form, ap length (uncoded_dct c m.kind refl refl), direction_bits c (f_codes_of c 1) (pmv_before c st n) 1 (codes_as true c own e) (backward_near c st n near), rest_as true c st n)

-- ---- both

-- no block is coded
blocks_none : (c : PictureContext) (st : SliceState) (x : Macroblock) → x.syntax.pattern ≡ 0 → blocks_text c st x 0 6 ≡ []
unfolding block_in_text
blocks_none c st x e = rw e refl

uncoded_fits : (d : Decision) (m : MacroSyntax) → hold d ≡ written m no_levels → m.pattern ≡ 0 → 0 < increment_of d
    → length (macro_text d.context d.state m) ≤ length (increment_text (increment_of d)) + 30
    → bits_taken d (hold d) ≤ 31 * increment_of d
unfolding bits_taken
uncoded_fits d m is none some most =
    rw is (omega (arith, most, macroblock_bits d.context d.state (record { syntax = m; levels = no_levels }), ap length (blocks_none d.context (after d.context d.state m) (record { syntax = m; levels = no_levels }) none), increment_bits (increment_of d) some))

p_fits : (d : Decision) → IsOwn d.context → AreNear d.state.pmv.at → 0 < increment_of d → d.context.kind ≡ 2 → bits_taken d (hold d) ≤ 31 * increment_of d
p_fits d own near some e = uncoded_fits d (held_as false d.context (increment_of d)) (hold_as false d e) refl some (macro_as false d.context d.state (increment_of d) own near e)

b_fits : (d : Decision) → IsOwn d.context → AreNear d.state.pmv.at → 0 < increment_of d → d.context.kind ≡ 3 → bits_taken d (hold d) ≤ 31 * increment_of d
b_fits d own near some e = uncoded_fits d (held_as true d.context (increment_of d)) (hold_as true d e) refl some (macro_as true d.context d.state (increment_of d) own near e)

-- ---- I pictures

abbrev held_i : PictureContext → ℕ → MacroSyntax
held_i c n = macro_of n (kind 0 0 0 0 1) (no_form c) false 0 no_vectors no_vectors 63

-- the last DC levels once more
abbrev levels_from : List ℤ → List (List ℤ)
levels_from dc = map (λ block. slice_index_or dc (block - 3) (pos 0) ∷ replicate 63 (pos 0)) (range_with_len 0 6)

intra_is : (d : Decision) → held_intra d ≡ held_i d.context (increment_of d)
unfolding intra_syntax
intra_is d = rw (eq-eqb d.state.quantiser d.state.quantiser refl) refl

hold_i : (d : Decision) → d.context.kind ≡ 1
    → hold d ≡ written (held_i d.context (increment_of d)) (levels_from (after d.context d.state (held_i d.context (increment_of d))).dc)
unfolding hold held_levels
hold_i d e =
    cond-true (nat_eq d.context.kind 1) (written (held_intra d) (held_levels d)) (written (uncoded_syntax d (still_prediction d.context)) no_levels) (eq-eqb d.context.kind 1 e)
    ∙ ap (λ (m : MacroSyntax). written m (levels_from (after d.context d.state m).dc)) (intra_is d)

type_i_bits : (c : PictureContext) → c.kind ≡ 1 → length (kind_text c.kind (kind 0 0 0 0 1)) ≡ 1
unfolding kind_text type_i code_of bits_of
type_i_bits c e = rw e refl

dct_bits : (c : PictureContext) (k : MbType) → length (dct_text c k false) ≤ 1
unfolding dct_text
dct_bits c k = told_bits (has_dct c k) (flag false) 1 (omega arith)

rest_i : (c : PictureContext) (st : SliceState) (n : ℕ) → c.extension.concealment ≡ false
    → length (form_text c (held_i c n).kind (no_form c)) + length (quantiser_text (held_i c n).kind 0) + length (forward_text c st (held_i c n)) + length (backward_text c st (held_i c n)) + length (marker_text c (held_i c n).kind) + length (pattern_text (held_i c n).kind 63) ≡ 0
unfolding form_text has_form quantiser_text direction_text marker_text pattern_text
rest_i c st n e = rw e refl

macro_i : (c : PictureContext) (st : SliceState) (n : ℕ) → IsOwn c → c.kind ≡ 1
    → length (macro_text c st (held_i c n)) ≤ length (increment_text n) + 2
macro_i c st n own e =
    let m = held_i c n in
    omega (arith, macro_bits c st m, modes_bits c m, type_i_bits c e, dct_bits c m.kind, rest_i c st n own.concealment)

-- ---- blocks

none_text : length (pairs_text false false 0 (replicate 63 (pos 0))) ≡ 2
unfolding pairs_text level_text run_after code_text coefficient_zero same_coefficient pairs_zero signed code_of bits_of
none_text = refl

luma_bits : (z : ℤ) → length (dc_text true (z -ℤ z)) ≡ 3
unfolding dc_text size_of number_of size_code dc_luma code_of bits_of
luma_bits z = rw (nothing z) refl

chroma_bits : (z : ℤ) → length (dc_text false (z -ℤ z)) ≡ 2
unfolding dc_text size_of number_of size_code dc_chroma code_of bits_of
chroma_bits z = rw (nothing z) refl

-- a block whose DC level is its predictor, and no other level
luma_held : (k : BlockKind) (z : ℤ) → k.intra ≡ true → k.luma ≡ true → length (block_text k false z (z ∷ replicate 63 (pos 0))) ≡ 5
unfolding block_text
luma_held k z intra luma = rw (intra, luma) (omega (arith, length-append (dc_text true (z -ℤ z)) (pairs_text false false 0 (replicate 63 (pos 0))), luma_bits z, none_text))

chroma_held : (k : BlockKind) (z : ℤ) → k.intra ≡ true → k.luma ≡ false → length (block_text k false z (z ∷ replicate 63 (pos 0))) ≡ 4
unfolding block_text
chroma_held k z intra luma = rw (intra, luma) (omega (arith, length-append (dc_text false (z -ℤ z)) (pairs_text false false 0 (replicate 63 (pos 0))), chroma_bits z, none_text))

abbrev held_blocks : PictureContext → ℕ → SliceState → Macroblock
held_blocks c n st = record { syntax = held_i c n; levels = levels_from st.dc }

abbrev dc_at : SliceState → ℕ → ℤ
dc_at st k = slice_index_or st.dc k (pos 0)

six_bits : (f : ℕ → List Bool) → length (flat_map f (range_with_len 0 6)) ≡ length (f 0) + (length (f 1) + (length (f 2) + (length (f 3) + (length (f 4) + length (f 5)))))
six_bits f =
    omega (arith, length-append (f 0) (f 1 ++ (f 2 ++ (f 3 ++ (f 4 ++ (f 5 ++ []))))), length-append (f 1) (f 2 ++ (f 3 ++ (f 4 ++ (f 5 ++ [])))), length-append (f 2) (f 3 ++ (f 4 ++ (f 5 ++ []))), length-append (f 3) (f 4 ++ (f 5 ++ [])), length-append (f 4) (f 5 ++ []), length-append (f 5) [])

-- the blocks of Y, and those of Cb and Cr
luma_blocks : (c : PictureContext) (n : ℕ) (st : SliceState) → c.extension.intra_vlc_format ≡ false
    → (length (block_in_text c st (held_blocks c n st) 0) ≡ 5) × (length (block_in_text c st (held_blocks c n st) 1) ≡ 5)
    × (length (block_in_text c st (held_blocks c n st) 2) ≡ 5) × (length (block_in_text c st (held_blocks c n st) 3) ≡ 5)
unfolding block_in_text predictor kind_for
luma_blocks c n st table =
    let h = luma_held (kind_for c true true st.quantiser) (dc_at st 0) refl refl in
    (rw table h, rw table h, rw table h, rw table h)

chroma_blocks : (c : PictureContext) (n : ℕ) (st : SliceState) → c.extension.intra_vlc_format ≡ false
    → (length (block_in_text c st (held_blocks c n st) 4) ≡ 4) × (length (block_in_text c st (held_blocks c n st) 5) ≡ 4)
unfolding block_in_text predictor kind_for
chroma_blocks c n st table =
    (rw table (chroma_held (kind_for c true false st.quantiser) (dc_at st 1) refl refl), rw table (chroma_held (kind_for c true false st.quantiser) (dc_at st 2) refl refl))

blocks_bits : (c : PictureContext) (n : ℕ) (st : SliceState) → c.extension.intra_vlc_format ≡ false → length (blocks_text c st (held_blocks c n st) 0 6) ≡ 28
blocks_bits c n st table =
    let luma = luma_blocks c n st table in
    let chroma = chroma_blocks c n st table in
    omega (arith, six_bits (block_in_text c st (held_blocks c n st)), luma.0, luma.1, luma.2, luma.3, chroma.0, chroma.1)

i_fits : (d : Decision) → IsOwn d.context → 0 < increment_of d → d.context.kind ≡ 1 → bits_taken d (hold d) ≤ 31 * increment_of d
unfolding bits_taken
i_fits d own some e =
    let n = increment_of d in
    let m = held_i d.context n in
    let st = after d.context d.state m in
    rw (hold_i d e)
    (omega (arith, macroblock_bits d.context d.state (held_blocks d.context n st), macro_i d.context d.state n own e, blocks_bits d.context n st own.table, increment_bits n some))

-- ---- all pictures

pub hold_fits : (d : Decision) → IsOwn d.context → AreNear d.state.pmv.at → 0 < increment_of d → bits_taken d (hold d) ≤ 31 * increment_of d
hold_fits d own near some =
    elim (cases_lt d.context.kind 2) [
      | inl less ↦ i_fits d own some (omega (arith, less, own.kind.0))
      | inr more ↦ elim (cases_lt d.context.kind 3) [
        | inl less ↦ p_fits d own near some (omega (arith, less, more))
        | inr three ↦ b_fits d own near some (omega (arith, three, own.kind.1))
      ]
    ]

-- so the choice fits where the room is that of hold
pub own_choice_fits : (d : Decision) → IsOwn d.context → AreNear d.state.pmv.at → 0 < increment_of d → increment_of d ≤ d.context.columns
    → 31 * increment_of d ≤ d.limits.room → Fits d (choice_of d)
own_choice_fits d own near some most room =
    let held = hold_fits d own near some in
    choice_fits d (record { most = omega (arith, held, most, own.columns.1); room = omega (arith, held, room) })
