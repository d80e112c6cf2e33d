-- What is written of a macroblock spells it.
use Rattle.std.proofs.Common.{◌≡◌, ℕ, zero, suc, ◌+◌, ◌-◌, ◌*◌, ◌/◌, ◌%◌, ◌^◌, ◌<◌, ◌≤◌, Bool, true, false, cond, List, [], ◌∷◌, ◌++◌, length, ℤ, pos, ◌+ℤ◌, ◌≤ℤ◌, ◌<ℤ◌, refl, sym, ap, subst, ◌∙◌, inl, inr, append_assoc, append-nil, arith}
use Rattle.std.specs.Prelude.{nat_eq, not, ◌||◌, slice_index, slice_index_or, int_le, int_lt, unsigned_abs}
use Rattle.std.proofs.lemmas.Int.{ints}
use Rattle.std.proofs.lemmas.Bool.{cases_Bool, and_from, eqb-true}
use Rattle.std.proofs.lemmas.Nat.{pow_pos, div-add-mod'}
use Rattle.std.proofs.Math.Nat.{mod-lt}
use Rattle.m2v_bits.specs.Bits.{bits_of}
use Rattle.m2v_bits.specs.Syntax.{Syntax, done, choose, repeated, Rounds, last, more, Spells}
use Rattle.m2v_bits.proofs.LeafLaws.{done_spells, here_spells, rule_spells, first_spells, second_spells, renamed_spells, bits_spells}
use Rattle.m2v_bits.proofs.ElementLaws.{last_spells, whole_spells, same_spells}
pub use Rattle.m2v_bits.proofs.ElementLaws.{then_spells}
use Rattle.m2v_bits.proofs.ElementLaws as elements
use Rattle.m2v_vlc.specs.declared.values.CodeFault.TheVariants as codes
use Rattle.m2v_vlc.specs.declared.values.Increment.{Increment}
use Rattle.m2v_vlc.specs.declared.values.Increment.TheVariants.{Step, Escape}
use Rattle.m2v_vlc.specs.Tables.{increment_code, dmv_code}
use Rattle.m2v_vlc.specs.Values.{IsIncrement}
use Rattle.m2v_vlc.proofs.Increments.{increment_spells}
use Rattle.m2v_vlc.proofs.Motions.{motion_spells, dmv_spells}
use Rattle.m2v_vector.specs.Vectors.{scale, IsVector, IsDifference, IsSpelling, half, difference, between, wrapped, joined, code_of, residual_of}
use Rattle.m2v_vector.specs.Predictors.{zeros}
use Rattle.m2v_vector.proofs.Wrapping.{step_back, between_within}
use Rattle.m2v_vector.proofs.Spellings.{spelling_of, difference_of}
use Rattle.m2v_macro.specs.declared.fault.MacroFault.{MacroFault}
use Rattle.m2v_macro.specs.declared.fault.MacroFault.TheVariants.{SliceOrder, MissingMacroblocks, SkipRule, VectorRange}
use Rattle.m2v_macro.specs.declared.values.SliceState.{SliceState}
use Rattle.m2v_macro.specs.declared.values.PictureContext.{PictureContext}
use Rattle.m2v_macro.specs.declared.values.Shape.{Shape}
use Rattle.m2v_macro.specs.declared.values.Selected.{Selected}
use Rattle.m2v_macro.specs.Faults.{of_code, cut, flag_at}
use Rattle.m2v_macro.specs.States.{not_past, in_order, may_skip}
use Rattle.m2v_macro.specs.Vectors.{has_residual, component_at, dm_at, is_half_vector, vertical_at, vector_at}
use Rattle.m2v_macro.specs.Macros.{added, round_at, increment_from, allowed_at, step_at}
use Rattle.m2v_macro.specs.Conditions.{IsStep, IsHalf, IsDm, IsPair, AreScales, IsSelected}
use Rattle.m2v_macro.specs.Texts.{flag, escapes_text, increment_text, residual_text, difference_text, component_text, dm_text, predictor_at, part_text, vector_text}
use Rattle.m2v_macro.proofs.Components.{half_within}

-- an element that stands where the test holds, and its value where it doesn't
pub if_spells : {K V : Type 0} (b : Bool) (s : Syntax (List Bool) K V) (none v : V) (text : List Bool) → (b ≡ true → Spells s v text) → (b ≡ false → v ≡ none) → Spells (choose b s (done none)) v (cond b text [])
if_spells true s none v text h e = first_spells true s (done none) v text refl (h refl)
if_spells {K} {V} false s none v text h e = second_spells false s (done none) v [] refl (subst (λ (x : V). Spells {K = K} (done none) x []) (sym (e refl)) (done_spells none))

pub flag_spells : (b : Bool) → Spells flag_at b (flag b)
flag_spells b = elements.flag_spells cut b

-- ---- increments

round_spells : (sum : ℕ) (code : Increment) (x : Bool × ℕ) → IsIncrement code → Spells (added sum code) x [] → Spells (round_at sum) x (increment_code code)
unfolding round_at
round_spells sum code x known behind = whole_spells (then_spells (λ c. added sum c) (renamed_spells of_code _ code _ (increment_spells codes.Truncated codes.NoCode code known)) behind)

escape_spells : (sum : ℕ) → Spells (added sum Escape) (true, sum + 33) []
unfolding added
escape_spells sum = done_spells (true, sum + 33)

one_spells : (sum n : ℕ) → Spells (added sum (Step n)) (false, sum + n) []
unfolding added
one_spells sum n = done_spells (false, sum + n)

step_alone : (sum n : ℕ) → 0 < n → n ≤ 33 → Spells (increment_from sum) (sum + n) (increment_code (Step n))
unfolding increment_from repeated
step_alone sum n some most = record { stands = λ rest. last ((round_spells sum (Step n) (false, sum + n) (some, most) (one_spells sum n)).stands rest) }

escape_then : (sum z : ℕ) (y : List Bool) → Spells (increment_from (sum + 33)) z y → Spells (increment_from sum) z (increment_code Escape ++ y)
unfolding increment_from repeated
escape_then sum z y h = record {
  stands = λ rest. subst (λ (t : List Bool). Rounds round_at sum z t rest) (sym (append_assoc (increment_code Escape) y rest)) (more ((round_spells sum Escape (true, sum + 33) tt (escape_spells sum)).stands (y ++ rest)) (h.stands rest));
}

-- escapes, and the step behind them
escapes_spell : (k sum n : ℕ) → 0 < n → n ≤ 33 → Spells (increment_from sum) (sum + k * 33 + n) (escapes_text k ++ increment_code (Step n))
unfolding escapes_text
escapes_spell zero sum n some most =
    let same : sum + n ≡ sum + 0 * 33 + n = omega arith in
    subst (λ (z : ℕ). Spells (increment_from sum) z (increment_code (Step n))) same (step_alone sum n some most)
escapes_spell (suc k) sum n some most =
    let same : sum + 33 + k * 33 + n ≡ sum + suc k * 33 + n = omega arith in
    same_spells (sym (append_assoc (increment_code Escape) (escapes_text k) (increment_code (Step n))))
    (subst (λ (z : ℕ). Spells (increment_from sum) z (increment_code Escape ++ (escapes_text k ++ increment_code (Step n)))) same
    (escape_then sum _ _ (escapes_spell k (sum + 33) n some most)))

increment_is : (n : ℕ) → 1 ≤ n → 0 + (n - 1) / 33 * 33 + ((n - 1) % 33 + 1) ≡ n
increment_is n some = omega (arith, div-add-mod' (n - 1) 33)

pub increments_spell : (n : ℕ) → 1 ≤ n → Spells (increment_from 0) n (increment_text n)
unfolding increment_text
increments_spell n some =
    let below : (n - 1) % 33 < 33 = mod-lt (n - 1) (omega arith) in
    subst (λ (z : ℕ). Spells (increment_from 0) z (escapes_text ((n - 1) / 33) ++ increment_code (Step ((n - 1) % 33 + 1)))) (increment_is n some)
    (escapes_spell ((n - 1) / 33) 0 ((n - 1) % 33 + 1) (omega arith) (omega arith))

allowed_spells : (c : PictureContext) (st : SliceState) (start n : ℕ) → IsStep c st n → Spells (allowed_at c st start n) n []
unfolding allowed_at
allowed_spells c st start n h =
    rule_spells (not_past st n) MissingMacroblocks start _ n [] h.near (
    rule_spells (in_order c st n) SliceOrder start _ n [] h.order (
    rule_spells (may_skip c st n) SkipRule start _ n [] h.skip (
    done_spells n)))

pub step_spells : (c : PictureContext) (st : SliceState) (n : ℕ) → IsStep c st n → Spells (step_at c st) n (increment_text n)
unfolding step_at
step_spells c st n h = here_spells length _ n (increment_text n) (λ start. whole_spells (
    then_spells (λ m. allowed_at c st start m) (increments_spell n h.some) (
    allowed_spells c st start n h)))

-- ---- vectors

scale_some : (f_code : ℕ) → 0 < scale f_code
scale_some f_code = pow_pos (f_code - 1)

no_residual : (f_code : ℕ) (code : ℤ) (residual : ℕ) → 1 ≤ f_code → IsSpelling (scale f_code) code residual → has_residual f_code code ≡ false → residual ≡ 0
unfolding has_residual
no_residual f_code code residual least h e = elim (cases_Bool (nat_eq f_code 1)) [
  | inl one ↦
      let is : f_code ≡ 1 = eqb-true f_code 1 one in
      let small : scale f_code ≡ 1 = ap (λ (n : ℕ). 2 ^ (n - 1)) is in
      omega (arith, h.below, small)
  | inr other ↦ elim (cases_Bool (nat_eq (unsigned_abs code) 0)) [
    | inl none ↦ h.none (nothing code (eqb-true (unsigned_abs code) 0 none))
    | inr some ↦ absurd (let g = rw (other, some) at e in cc)
  ]
]
  where
    nothing : (z : ℤ) → unsigned_abs z ≡ 0 → z ≡ pos 0
    nothing z h = omega (arith, ints, h)

-- a difference spells the vector that it leads to
pub difference_spells : (f_code : ℕ) (p d : ℤ) → 1 ≤ f_code → IsDifference (scale f_code) d → Spells (component_at f_code p) (wrapped (scale f_code) (p +ℤ d)) (difference_text f_code d)
unfolding component_at difference_text residual_text joined
difference_spells f_code p d least within =
    let f = scale f_code in
    let some = scale_some f_code in
    let s = spelling_of f d some within in
    let code = code_of f d in
    let residual = residual_of f d in
    let back : wrapped f (p +ℤ difference f code residual) ≡ wrapped f (p +ℤ d) = ap (λ (z : ℤ). wrapped f (p +ℤ z)) (difference_of f d some) in
    then_spells _ (renamed_spells of_code _ code _ (motion_spells codes.Truncated codes.NoCode code s.low s.high)) (
    whole_spells (then_spells (λ r. done (joined f p code r)) (if_spells (has_residual f_code code) _ 0 residual (bits_of (f_code - 1) residual) (λ e. bits_spells cut (f_code - 1) residual s.below) (λ e. no_residual f_code code residual least s e)) (
    subst (λ (z : ℤ). Spells {K = MacroFault} (done (wrapped f (p +ℤ difference f code residual))) z []) back (done_spells (wrapped f (p +ℤ difference f code residual))))))

pub component_spells : (f_code : ℕ) (p v : ℤ) → 1 ≤ f_code → f_code ≤ 9 → IsVector (scale f_code) p → IsVector (scale f_code) v → Spells (component_at f_code p) v (component_text f_code p v)
unfolding component_text between
component_spells f_code p v least most hp hv =
    let f = scale f_code in
    let range = between_within f p v hp hv in
    let within : IsDifference f (between f p v) = (range.0, omega (arith, ints, range.1)) in
    subst (λ (z : ℤ). Spells (component_at f_code p) z (difference_text f_code (between f p v))) (step_back f p v (scale_some f_code) hp hv)
    (difference_spells f_code p (between f p v) least within)

pub dm_spells : (dual : Bool) (d : ℤ) → (dual ≡ true → IsDm d) → (dual ≡ false → d ≡ pos 0) → Spells (dm_at dual) d (dm_text dual d)
unfolding dm_at dm_text
dm_spells dual d known none = if_spells dual _ (pos 0) d (dmv_code d) (λ e. renamed_spells of_code _ d _ (dmv_spells codes.Truncated codes.NoCode d (known e).0 (known e).1)) none

le_true : (a b : ℤ) → a ≤ℤ b → int_le a b ≡ true
le_true a b h = grind (arith, ints)

lt_true : (a b : ℤ) → a <ℤ b → int_lt a b ≡ true
lt_true a b h = grind (arith, ints)

half_fits : (halved : Bool) (f : ℕ) (v : ℤ) → (halved ≡ true → IsHalf f v) → (not halved || is_half_vector f v) ≡ true
unfolding is_half_vector
half_fits false f v h = refl
half_fits true f v h = and_from _ _ (le_true _ _ (h refl).0) (lt_true _ _ (h refl).1)

pub vertical_spells : (halved : Bool) (f_code : ℕ) (p v : ℤ) → 1 ≤ f_code → f_code ≤ 9 → IsVector (scale f_code) (cond halved (half p) p) → IsVector (scale f_code) v → (halved ≡ true → IsHalf (scale f_code) v)
    → Spells (vertical_at halved f_code p) v (component_text f_code (cond halved (half p) p) v)
unfolding vertical_at
vertical_spells halved f_code p v least most hp hv h = here_spells length _ v _ (λ start. whole_spells (
    then_spells _ (component_spells f_code (cond halved (half p) p) v least most hp hv) (
    rule_spells (not halved || is_half_vector (scale f_code) v) VectorRange start _ v [] (half_fits halved (scale f_code) v h) (
    done_spells v))))

-- the four elements of a vector are two parts
parts : (a b x y : List Bool) → a ++ (b ++ (x ++ (y ++ []))) ≡ (a ++ b) ++ (x ++ y)
parts a b x y = ap (λ (t : List Bool). a ++ (b ++ (x ++ t))) (append-nil y) ∙ sym (append_assoc a b (x ++ y))

vector_is : (s : Selected) → s.vector ≡ slice_index_or s.vector 0 (pos 0) ∷ slice_index_or s.vector 1 (pos 0) ∷ [] → s.dmvector ≡ slice_index_or s.dmvector 0 (pos 0) ∷ slice_index_or s.dmvector 1 (pos 0) ∷ []
    → record { bottom = s.bottom; vector = slice_index_or s.vector 0 (pos 0) ∷ slice_index_or s.vector 1 (pos 0) ∷ []; dmvector = slice_index_or s.dmvector 0 (pos 0) ∷ slice_index_or s.dmvector 1 (pos 0) ∷ [] } ≡ s
vector_is s v d = sym (λ i. record s { vector = v i; dmvector = d i })

pub vector_spells : (shape : Shape) (f_code : List ℕ) (p : List ℤ) (s : Selected) → AreScales f_code → IsPair f_code p → IsSelected shape f_code s → Spells (vector_at shape f_code p s.bottom) s (vector_text shape f_code p s)
unfolding vector_at vector_text part_text predictor_at
vector_spells shape f_code p s a hp h =
    let no_dm : (k : ℕ) → shape.dual ≡ false → slice_index_or s.dmvector k (pos 0) ≡ slice_index_or zeros k (pos 0) = λ k e. ap (λ (xs : List ℤ). slice_index_or xs k (pos 0)) (h.no_dm e) in
    let made : Selected = record { bottom = s.bottom; vector = slice_index_or s.vector 0 (pos 0) ∷ slice_index_or s.vector 1 (pos 0) ∷ []; dmvector = slice_index_or s.dmvector 0 (pos 0) ∷ slice_index_or s.dmvector 1 (pos 0) ∷ [] } in
    let across = component_text (slice_index f_code 0) (slice_index_or p 0 (pos 0)) (slice_index_or s.vector 0 (pos 0)) in
    let down = component_text (slice_index f_code 1) (cond shape.halved (half (slice_index_or p 1 (pos 0))) (slice_index_or p 1 (pos 0))) (slice_index_or s.vector 1 (pos 0)) in
    same_spells (parts across (dm_text shape.dual (slice_index_or s.dmvector 0 (pos 0))) down (dm_text shape.dual (slice_index_or s.dmvector 1 (pos 0)))) (
    then_spells _ (component_spells (slice_index f_code 0) (slice_index_or p 0 (pos 0)) (slice_index_or s.vector 0 (pos 0)) a.horizontal.0 a.horizontal.1 hp.horizontal h.vector.horizontal) (
    then_spells _ (dm_spells shape.dual (slice_index_or s.dmvector 0 (pos 0)) (λ e. (h.dm e).0) (no_dm 0)) (
    then_spells _ (vertical_spells shape.halved (slice_index f_code 1) (slice_index_or p 1 (pos 0)) (slice_index_or s.vector 1 (pos 0)) a.vertical.0 a.vertical.1 (above shape.halved) h.vector.vertical h.half) (
    then_spells _ (dm_spells shape.dual (slice_index_or s.dmvector 1 (pos 0)) (λ e. (h.dm e).1) (no_dm 1)) (
    subst (λ (x : Selected). Spells {K = MacroFault} (done made) x []) (vector_is s h.numbers h.dm_numbers) (done_spells made))))))
  where
    above : (b : Bool) → IsVector (scale (slice_index f_code 1)) (cond b (half (slice_index_or p 1 (pos 0))) (slice_index_or p 1 (pos 0)))
    above true = half_within _ _ hp.vertical
    above false = hp.vertical
