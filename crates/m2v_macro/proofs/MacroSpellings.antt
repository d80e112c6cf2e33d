-- What is written of a direction's vectors and of a macroblock spells them.
use Rattle.std.proofs.Common.{◌≡◌, ℕ, zero, suc, ◌<◌, ◌≤◌, Bool, true, false, List, [], ◌++◌, length, ℤ, refl, sym, ap, subst, ◌∙◌, inl, inr, append_assoc, arith}
use Rattle.std.specs.Prelude.{nat_eq, not, ◌||◌}
use Rattle.std.proofs.lemmas.Bool.{cases_Bool, ne_eqb, eqb-true, eqb-false}
use Rattle.m2v_bits.specs.Bits.{bits_of}
use Rattle.m2v_bits.specs.Syntax.{done, seq, rule, choose, Spells}
use Rattle.m2v_bits.proofs.LeafLaws.{done_spells, here_spells, rule_spells, first_spells, second_spells, renamed_spells, bits_spells}
use Rattle.m2v_head.proofs.ElementLaws.{last_spells, whole_spells, same_spells}
use Rattle.m2v_vlc.specs.declared.values.CodeFault.TheVariants as codes
use Rattle.m2v_vlc.specs.declared.values.MbType.{MbType}
use Rattle.m2v_vlc.specs.Codes.{begins}
use Rattle.m2v_vlc.specs.Tables.{block_pattern, pattern_code}
use Rattle.m2v_vlc.proofs.MbTypes.{type_i_spells, type_p_spells, type_b_spells}
use Rattle.m2v_vlc.proofs.Patterns.{pattern_spells}
use Rattle.m2v_vlc.specs.Codes.{code_of}
use Rattle.m2v_vlc.proofs.ValueLaws.{below, agree}
use Rattle.m2v_vector.specs.declared.predictors.Pmv.{Pmv}
use Rattle.m2v_vector.specs.Predictors.{pair_of}
use Rattle.m2v_macro.specs.declared.fault.MacroFault.{MacroFault}
use Rattle.m2v_macro.specs.declared.fault.MacroFault.TheVariants.{Code, QuantZero, PatternZero, BadMotionType, Marker}
use Rattle.m2v_macro.specs.declared.values.MacroSyntax.{MacroSyntax}
use Rattle.m2v_macro.specs.declared.values.SliceState.{SliceState}
use Rattle.m2v_macro.specs.declared.values.PictureContext.{PictureContext}
use Rattle.m2v_macro.specs.declared.values.Shape.{Shape}
use Rattle.m2v_macro.specs.declared.values.Selected.{Selected}
use Rattle.m2v_macro.specs.declared.values.Direction.{Direction}
use Rattle.m2v_bits.specs.Elements.{BitSyntax}
use Rattle.m2v_macro.specs.Faults.{of_code, flag_at, look_at, ahead_at}
use Rattle.m2v_macro.specs.States.{is_field, pmv_before}
use Rattle.m2v_macro.specs.Vectors.{shape_of, no_vector, selected_at, vectors_at, direction_at}
use Rattle.m2v_macro.specs.Macros.{kind_at, has_form, is_form, no_form, told_form_at, form_at, has_dct, dct_at, told_quantiser_at, quantiser_at, is_concealed, f_codes_of, told_marker_at, marker_at, zero_pattern, told_pattern_at, pattern_at, macro_of, directions_at, macro_at}
use Rattle.m2v_macro.specs.Conditions.{IsContext, IsReady, IsMacro, IsPair, AreScales, ArePredictors, IsSelected, IsDirection, has_type, is_used, forward_of, backward_of}
use Rattle.m2v_macro.specs.Texts.{flag, increment_text, bit_text, selected_text, second_text, direction_text, kind_text, form_text, dct_text, quantiser_text, marker_text, pattern_text, modes_text, directions_text, macro_text}
use Rattle.m2v_macro.proofs.Types.{of_i, of_p, of_b, code_i, code_p, code_b}
use Rattle.m2v_macro.proofs.Ready.{used_forward, used_backward}
use Rattle.m2v_macro.proofs.Predicted.{forward_before, backward_before}
use Rattle.m2v_macro.proofs.Spellings.{then_spells, if_spells, flag_spells, step_spells, vector_spells}

-- ---- vectors of a direction

selected_spells : (shape : Shape) (f_code : List ℕ) (p : List ℤ) (s : Selected) → AreScales f_code → IsPair f_code p → IsSelected shape f_code s → Spells (selected_at shape f_code p) s (selected_text shape f_code p s)
unfolding selected_at selected_text bit_text
selected_spells shape f_code p s a hp h =
    then_spells _ (if_spells shape.bit flag_at false s.bottom (flag s.bottom) (λ e. flag_spells s.bottom) h.no_bit) (
    vector_spells shape f_code p s a hp h)

second_spells_of : (shape : Shape) (f_code : List ℕ) (p : List ℤ) (s : Selected) → AreScales f_code → IsPair f_code p → (shape.two ≡ true → IsSelected shape f_code s) → (shape.two ≡ false → s ≡ no_vector)
    → Spells (choose shape.two (selected_at shape f_code p) (done no_vector)) s (second_text shape f_code p s)
unfolding second_text
second_spells_of shape f_code p s a hp two one = if_spells shape.two (selected_at shape f_code p) no_vector s _ (λ e. selected_spells shape f_code p s a hp (two e)) one

vectors_spell : (shape : Shape) (f_code : List ℕ) (pmv : Pmv) (direction : ℕ) (d : Direction) → AreScales f_code → ArePredictors f_code pmv direction → IsDirection true shape f_code d
    → Spells (vectors_at shape f_code pmv direction) d (selected_text shape f_code (pair_of pmv.at 0 direction) d.first ++ second_text shape f_code (pair_of pmv.at 1 direction) d.second)
unfolding vectors_at
vectors_spell shape f_code pmv direction d a hp h =
    then_spells _ (selected_spells shape f_code _ d.first a hp.first (h.first refl)) (
    last_spells d.second (λ second. record { first = d.first; second = second }) _ (second_spells_of shape f_code _ d.second a hp.second (h.second refl) (h.one refl)))

pub direction_spells : (told : Bool) (shape : Shape) (f_code : List ℕ) (pmv : Pmv) (direction : ℕ) (d : Direction) → (told ≡ true → AreScales f_code) → (told ≡ true → ArePredictors f_code pmv direction) → IsDirection told shape f_code d
    → Spells (direction_at told shape f_code pmv direction) d (direction_text told shape f_code pmv direction d)
unfolding direction_at direction_text
direction_spells told shape f_code pmv direction d a hp h =
    if_spells told (vectors_at shape f_code pmv direction) (record { first = no_vector; second = no_vector }) d
    (selected_text shape f_code (pair_of pmv.at 0 direction) d.first ++ second_text shape f_code (pair_of pmv.at 1 direction) d.second)
    (λ e. vectors_spell shape f_code pmv direction d (a e) (hp e) (subst (λ (b : Bool). IsDirection b shape f_code d) e h))
    (λ e i. record { first = (h.none e).0 i; second = (h.none e).1 i })

-- ---- modes

kind_spells : (kind : ℕ) (v : MbType) → has_type kind v ≡ true → Spells (kind_at kind) v (kind_text kind v)
unfolding kind_at kind_text
kind_spells kind v h = elim (cases_Bool (nat_eq kind 1)) [
  | inl one ↦ rw one (first_spells true _ _ v _ refl (renamed_spells of_code _ v _ (type_i_spells codes.Truncated codes.NoCode v (code_i v (of_i kind v (eqb-true kind 1 one) h)))))
  | inr not_one ↦ elim (cases_Bool (nat_eq kind 2)) [
    | inl two ↦ rw (not_one, two) (second_spells false _ _ v _ refl (first_spells true _ _ v _ refl (renamed_spells of_code _ v _ (type_p_spells codes.Truncated codes.NoCode v (code_p v (of_p kind v (eqb-true kind 2 two) h))))))
    | inr not_two ↦ rw (not_one, not_two) (second_spells false _ _ v _ refl (second_spells false _ _ v _ refl (renamed_spells of_code _ v _ (type_b_spells codes.Truncated codes.NoCode v (code_b v (of_b kind v (eqb-false kind 1 not_one) (eqb-false kind 2 not_two) h))))))
  ]
]

told_form_spells : (kind form : ℕ) → is_form kind form ≡ true → form < 4 → Spells (told_form_at kind) form (bits_of 2 form)
unfolding told_form_at
told_form_spells kind form known below = here_spells length _ form _ (λ start. whole_spells (
    then_spells _ (bits_spells (Code codes.Truncated) 2 form below) (
    rule_spells (is_form kind form) BadMotionType start _ form [] known (
    done_spells form))))

form_spells : (c : PictureContext) (kind : MbType) (form : ℕ) → (has_form c kind ≡ true → (is_form c.kind form ≡ true) × (form < 4)) → (has_form c kind ≡ false → form ≡ no_form c) → Spells (form_at c kind) form (form_text c kind form)
unfolding form_at form_text
form_spells c kind form known none = if_spells (has_form c kind) (told_form_at c.kind) (no_form c) form (bits_of 2 form) (λ e. told_form_spells c.kind form (known e).0 (known e).1) none

dct_spells : (c : PictureContext) (kind : MbType) (dct_field : Bool) → (has_dct c kind ≡ false → dct_field ≡ false) → Spells (dct_at c kind) dct_field (dct_text c kind dct_field)
unfolding dct_at dct_text
dct_spells c kind dct_field none = if_spells (has_dct c kind) flag_at false dct_field (flag dct_field) (λ e. flag_spells dct_field) none

some_is : (v : ℕ) → 1 ≤ v → not (nat_eq v 0) ≡ true
some_is zero le = absurd (omega arith)
some_is (suc v) le = ap not (ne_eqb (suc v) 0 (λ e. omega arith))

told_quantiser_spells : (v : ℕ) → 1 ≤ v → v ≤ 31 → Spells told_quantiser_at v (bits_of 5 v)
unfolding told_quantiser_at
told_quantiser_spells v some most = here_spells length _ v _ (λ start. whole_spells (
    then_spells _ (bits_spells (Code codes.Truncated) 5 v (omega arith)) (
    rule_spells (not (nat_eq v 0)) QuantZero start _ v [] (some_is v some) (
    done_spells v))))

quantiser_spells : (kind : MbType) (v : ℕ) → (kind.quant ≡ true → (1 ≤ v) × (v ≤ 31)) → (kind.quant ≡ false → v ≡ 0) → Spells (quantiser_at kind) v (quantiser_text kind v)
unfolding quantiser_at quantiser_text
quantiser_spells kind v known none = if_spells kind.quant told_quantiser_at 0 v (bits_of 5 v) (λ e. told_quantiser_spells v (known e).0 (known e).1) none

marker_bit : bits_of 1 1 ≡ flag true
unfolding bits_of
marker_bit = refl

holding : (start : ℕ) → Spells (rule (nat_eq 1 1) Marker start) tt []
unfolding rule
holding start = record { stands = λ rest. (refl, refl) }

told_marker_spells : Spells told_marker_at tt (flag true)
unfolding told_marker_at
told_marker_spells = same_spells marker_bit (here_spells length _ tt (bits_of 1 1) (λ start. whole_spells (
    then_spells (λ bit. rule (nat_eq bit 1) Marker start) (bits_spells (Code codes.Truncated) 1 1 (omega arith)) (holding start))))

marker_spells : (c : PictureContext) (kind : MbType) → Spells (marker_at c kind) tt (marker_text c kind)
unfolding marker_at marker_text
marker_spells c kind = if_spells (is_concealed c kind) told_marker_at tt tt (flag true) (λ e. told_marker_spells) (λ e. refl)

-- ---- patterns

-- no code of a pattern begins as that of pattern 0
not_zero : (rest : List Bool) → below (λ n. begins zero_pattern (pattern_code (suc n) ++ rest)) 63 ≡ below (λ n. false) 63
unfolding below begins block_pattern code_of bits_of
not_zero rest = refl

pattern_apart : (p : ℕ) (rest : List Bool) → 0 < p → p < 64 → begins zero_pattern (pattern_code p ++ rest) ≡ false
pattern_apart zero rest some lt = absurd (omega arith)
pattern_apart (suc n) rest some lt = agree (λ n. begins zero_pattern (pattern_code (suc n) ++ rest)) (λ n. false) 63 n (not_zero rest) (omega arith)

ahead_spells : {V : Type 0} (bits : List Bool) (k : Bool → BitSyntax MacroFault V) (b : Bool) (v : V) (text : List Bool) → ((rest : List Bool) → begins bits (text ++ rest) ≡ b) → Spells (k b) v text → Spells (seq (ahead_at bits) k) v text
unfolding seq ahead_at look_at
ahead_spells bits k b v text h p = record { stands = λ rest. (b, text ++ rest, (sym (h rest), refl), p.stands rest) }

told_pattern_spells : (p : ℕ) → 0 < p → p < 64 → Spells told_pattern_at p (pattern_code p)
unfolding told_pattern_at
told_pattern_spells p some lt = here_spells length _ p _ (λ start.
    ahead_spells zero_pattern _ false p (pattern_code p) (λ rest. pattern_apart p rest some lt) (
    rule_spells true PatternZero start _ p (pattern_code p) refl (
    renamed_spells of_code _ p _ (pattern_spells codes.Truncated codes.NoCode p some lt))))

pattern_spells_of : (kind : MbType) (p : ℕ) → (kind.intra ≡ true → p ≡ 63) → (kind.intra ≡ false → kind.pattern ≡ true → (0 < p) × (p < 64)) → (kind.intra ≡ false → kind.pattern ≡ false → p ≡ 0) → Spells (pattern_at kind) p (pattern_text kind p)
unfolding pattern_at pattern_text
pattern_spells_of kind p intra known none = elim (cases_Bool kind.intra) [
  | inl e ↦ rw e (first_spells true _ _ p [] refl (subst (λ (x : ℕ). Spells {K = MacroFault} (done 63) x []) (sym (intra e)) (done_spells 63)))
  | inr e ↦ rw e (second_spells false _ _ p _ refl (if_spells kind.pattern told_pattern_at 0 p (pattern_code p) (λ t. told_pattern_spells p (known e t).0 (known e t).1) (none e)))
]

-- ---- macroblocks

directions_spells : (c : PictureContext) (st : SliceState) (m : MacroSyntax) (pmv : Pmv) → IsContext c → IsMacro c st m
    → (is_used c 0 ≡ true → ArePredictors (f_codes_of c 0) pmv 0) → (is_used c 1 ≡ true → ArePredictors (f_codes_of c 1) pmv 1)
    → Spells (directions_at c m.kind m.form pmv) (forward_of m, backward_of m) (directions_text c pmv m)
unfolding directions_at directions_text
directions_spells c st m pmv ctx h f b =
    let forward = used_forward c m.kind h.kind in
    let backward = used_backward c m.kind ctx.kind.0 ctx.kind.1 h.kind in
    then_spells _ (direction_spells (m.kind.forward || is_concealed c m.kind) (shape_of (is_field c) m.form) (f_codes_of c 0) pmv 0 (forward_of m) (λ told. ctx.forward (forward told)) (λ told. f (forward told)) h.forward) (
    then_spells _ (direction_spells m.kind.backward (shape_of (is_field c) m.form) (f_codes_of c 1) pmv 1 (backward_of m) (λ told. ctx.backward (backward told)) (λ told. b (backward told)) h.backward) (
    last_spells tt (λ marker. (forward_of m, backward_of m)) (marker_text c m.kind) (marker_spells c m.kind)))

regrouped : (a b c d e x : List Bool) → a ++ (b ++ (c ++ (d ++ (e ++ x)))) ≡ (a ++ (b ++ (c ++ (d ++ e)))) ++ x
regrouped a b c d e x = sym (
    append_assoc a (b ++ (c ++ (d ++ e))) x
    ∙ ap (λ (t : List Bool). a ++ t) (append_assoc b (c ++ (d ++ e)) x
    ∙ ap (λ (t : List Bool). b ++ t) (append_assoc c (d ++ e) x
    ∙ ap (λ (t : List Bool). c ++ t) (append_assoc d e x))))

made_spells : (c : PictureContext) (st : SliceState) (m : MacroSyntax) → IsContext c → IsReady c st → IsMacro c st m
    → Spells (macro_at c st) (macro_of m.increment m.kind m.form m.dct_field m.quantiser (forward_of m) (backward_of m) m.pattern) (macro_text c st m)
unfolding macro_at macro_text modes_text
made_spells c st m ctx ready h = same_spells (regrouped (increment_text m.increment) (kind_text c.kind m.kind) (form_text c m.kind m.form) (dct_text c m.kind m.dct_field) (quantiser_text m.kind m.quantiser) (directions_text c (pmv_before c st m.increment) m ++ pattern_text m.kind m.pattern)) (
    then_spells _ (step_spells c st m.increment h.step) (
    then_spells _ (kind_spells c.kind m.kind h.kind) (
    then_spells _ (form_spells c m.kind m.form h.form h.no_form) (
    then_spells _ (dct_spells c m.kind m.dct_field h.no_dct) (
    then_spells _ (quantiser_spells m.kind m.quantiser h.quantiser h.no_quantiser) (
    then_spells _ (directions_spells c st m (pmv_before c st m.increment) ctx h (λ used. forward_before (f_codes_of c 0) c st m.increment (ready.forward used)) (λ used. backward_before (f_codes_of c 1) c st m.increment (ready.backward used))) (
    last_spells m.pattern (λ p. macro_of m.increment m.kind m.form m.dct_field m.quantiser (forward_of m) (backward_of m) p) (pattern_text m.kind m.pattern) (pattern_spells_of m.kind m.pattern h.intra h.pattern h.no_pattern))))))))

pub macro_spells : (c : PictureContext) (st : SliceState) (m : MacroSyntax) → IsContext c → IsReady c st → IsMacro c st m → Spells (macro_at c st) m (macro_text c st m)
macro_spells c st m ctx ready h = subst (λ (x : MacroSyntax). Spells (macro_at c st) x (macro_text c st m)) (sym h.arranged) (made_spells c st m ctx ready h)
