-- Each candidate can stand in its slice: its syntax up to the blocks.
use Rattle.std.proofs.Common.{◌≡◌, ℕ, ◌≤◌, ◌<◌, Bool, true, false, cond, ◌&&◌, ◌||◌, not, ◌⊎◌, inl, inr, All, List, [], ◌∷◌, ◌++◌, refl, ap, sym, subst, arith, ℤ, pos}
use Rattle.std.specs.Prelude.{nat_eq, nat_lt, if◌then◌else◌}
use Rattle.std.proofs.Math.Bool.{and-false}
use Rattle.std.proofs.lemmas.Bool.{cases_lt, and_parts, eqb-true, not-true}
use Rattle.std.proofs.lemmas.Int.{ints}
use Rattle.std.proofs.lemmas.List.Elements.{All-nil, All-cons, All-append}
use Rattle.m2v_plane.specs.declared.planes.Lines.{Lines}
use Rattle.m2v_plane.specs.declared.planes.Lines.TheVariants as lines
use Rattle.m2v_vector.specs.Predictors.{zeros, has_two, is_halved}
use Rattle.m2v_macro.specs.declared.values.SliceState.{SliceState}
use Rattle.m2v_macro.specs.declared.values.PictureContext.{PictureContext}
use Rattle.m2v_macro.specs.declared.values.Shape.{Shape}
use Rattle.m2v_macro.specs.declared.values.Selected.{Selected}
use Rattle.m2v_macro.specs.declared.values.Direction.{Direction}
use Rattle.m2v_macro.specs.States.{is_field}
use Rattle.m2v_macro.specs.Vectors.{shape_of, no_vector}
use Rattle.m2v_macro.specs.Macros.{has_form, is_form, no_form, has_dct, f_codes_of, no_vectors}
use Rattle.m2v_macro.specs.Conditions.{has_type, IsStep, IsPair, IsSelected, IsDirection, IsMacro}
use Rattle.m2v_pred.specs.Motion.{other_field, own_field}
use Rattle.m2v_macroblock.specs.Predictions.{View}
use Rattle.m2v_search.specs.declared.form.SearchForm.{SearchForm}
use Rattle.m2v_search.specs.declared.form.SearchForm.TheVariants.{Whole, FieldLines, FieldPicture}
use Rattle.m2v_search.specs.Search.{Vector}
use Rattle.m2v_choose.specs.Decisions.{Decision, Prediction, Coding, has_dct_type, sends, intra_syntax, uncoded_syntax, coded_syntax, increment_of}
use Rattle.m2v_choose.specs.Candidates.{is_bottom, selected, vector_for, sad_for, from_field, plain_direction, field_direction, plain_form, prediction, predictions_by, zero_prediction, predictions, still_vector, still_prediction}
use Rattle.m2v_choose.specs.Own.{IsOwn, IsCode}
use Rattle.m2v_choose.proofs.Chosen.{either}
use Rattle.m2v_search.proofs.Reached.{IsUpTo, IsWithin}
use Rattle.m2v_choose.proofs.Kept.{whole_within, half_within}

-- ---- one of two

pub first_of : {A : Type 0} (P : A → Type 0) (b : Bool) (x y : A) → b ≡ true → P x → P (if b then x else y)
first_of P true x y e p = p
first_of P false x y e p = absurd cc

pub second_of : {A : Type 0} (P : A → Type 0) (b : Bool) (x y : A) → b ≡ false → P y → P (if b then x else y)
second_of P true x y e q = absurd cc
second_of P false x y e q = q

pub two_three : (k : ℕ) → 2 ≤ k → k ≤ 3 → (k ≡ 2) ⊎ (k ≡ 3)
two_three k more most = elim (cases_lt k 3) [ inl less ↦ inl (omega (arith, less, more)) | inr last ↦ inr (omega (arith, last, most)) ]

-- ---- vectors

-- a vector that f_codes 2 spell
Stands : Shape → Selected → Type 0
Stands shape s = IsSelected shape (2 ∷ 2 ∷ []) s

-- what is asked of a component
short_pair : (x y : ℤ) → IsUpTo 31 x → IsUpTo 31 y → IsPair (2 ∷ 2 ∷ []) (x ∷ y ∷ [])
short_pair x y p q = record {
  horizontal = (omega (arith, ints, p.low, p.high), omega (arith, ints, p.low, p.high));
  vertical = (omega (arith, ints, q.low, q.high), omega (arith, ints, q.low, q.high));
}

vector_stands : (shape : Shape) (bottom : Bool) (x y : ℤ) → shape.dual ≡ false → (shape.bit ≡ false → bottom ≡ false) → IsUpTo 31 x → IsUpTo 31 y
    → (shape.halved ≡ true → IsUpTo 15 y) → Stands shape (record { bottom = bottom; vector = x ∷ y ∷ []; dmvector = zeros })
unfolding Stands
vector_stands shape bottom x y single bit p q half = record {
  vector = short_pair x y p q;
  half = λ e. let h = half e in (omega (arith, ints, h.low, h.high), omega (arith, ints, h.low, h.high));
  dm = λ e. let no : false ≡ true = cc in absurd cc;
  no_dm = λ e. refl;
  no_bit = bit;
  numbers = refl;
  dm_numbers = refl;
}

-- the vectors of a direction that is told
record DirectionStands (shape : Shape) (d : Direction) : Type 0 where
  first : Stands shape d.first
  second : shape.two ≡ true → Stands shape d.second
  one : shape.two ≡ false → d.second ≡ no_vector
  none_dual : d.second.dmvector ≡ zeros
  none_first : d.first.dmvector ≡ zeros

direction_stands : (told : Bool) (shape : Shape) (f_code : List ℕ) (d : Direction) → (told ≡ true → f_code ≡ 2 ∷ 2 ∷ []) → DirectionStands shape d
    → IsDirection told shape f_code (cond told d no_vectors)
unfolding Stands
direction_stands true shape f_code d codes h = record {
  first = λ e. subst (λ (f : List ℕ). IsSelected shape f d.first) (sym (codes refl)) h.first;
  second = λ e two. subst (λ (f : List ℕ). IsSelected shape f d.second) (sym (codes refl)) (h.second two);
  one = λ e two. h.one two;
  none = λ e. absurd cc;
}
direction_stands false shape f_code d codes h = record {
  first = λ e. absurd cc;
  second = λ e two. absurd cc;
  one = λ e two. absurd cc;
  none = λ e. (refl, refl);
}

zero_up_to : (n : ℕ) → IsUpTo n (pos 0)
zero_up_to n = record { low = omega (arith, ints); high = omega (arith, ints) }

-- of two selected vectors the one or the other
from_stands : (shape : Shape) (d : Decision) (view : View) (form : Lines → SearchForm) (own : Lines)
    → ((l : Lines) → Stands shape (selected l (vector_for d view (form l)))) → Stands shape (from_field d view form own)
unfolding from_field
from_stands shape d view form own h =
    either (Stands shape) (nat_lt (sad_for d view (form (other_field own))) (sad_for d view (form own)))
    (selected (other_field own) (vector_for d view (form (other_field own)))) (selected own (vector_for d view (form own))) (h (other_field own)) (h own)

from_single : (d : Decision) (view : View) (form : Lines → SearchForm) (own : Lines) → (from_field d view form own).dmvector ≡ zeros
unfolding from_field
from_single d view form own =
    either (λ (s : Selected). s.dmvector ≡ zeros) (nat_lt (sad_for d view (form (other_field own))) (sad_for d view (form own)))
    (selected (other_field own) (vector_for d view (form (other_field own)))) (selected own (vector_for d view (form own))) refl refl

-- one vector, of a frame or of a field
plain_first : (field : Bool) (w f : Selected) → Stands (shape_of false 2) w → Stands (shape_of true 1) f → Stands (shape_of field (if field then 1 else 2)) (if not field then w else f)
plain_first true w f p q = q
plain_first false w f p q = p

plain_one : (field : Bool) → (shape_of field (if field then 1 else 2)).two ≡ false
unfolding shape_of has_two
plain_one true = refl
plain_one false = refl

whole_stands : (v : Vector) → IsWithin 31 31 v → Stands (shape_of false 2) (selected lines.Whole v)
unfolding shape_of is_halved has_two
whole_stands v h = vector_stands (shape_of false 2) false v.x v.y refl (λ e. refl) h.x h.y (λ e. absurd cc)

in_field_stands : (l : Lines) (v : Vector) → IsWithin 31 31 v → Stands (shape_of true 1) (selected l v)
unfolding shape_of is_halved has_two
in_field_stands l v h = vector_stands (shape_of true 1) (is_bottom l) v.x v.y refl (λ e. absurd cc) h.x h.y (λ e. absurd cc)

half_stands : (l : Lines) (v : Vector) → IsWithin 31 15 v → Stands (shape_of false 1) (selected l v)
unfolding shape_of is_halved has_two
half_stands l v h =
    vector_stands (shape_of false 1) (is_bottom l) v.x v.y refl (λ e. absurd cc) h.x
    (record { low = omega (arith, ints, h.y.low); high = omega (arith, ints, h.y.high) }) (λ e. h.y)

plain_stands : (d : Decision) (view : View) → d.limits.search ≤ 15 → DirectionStands (shape_of (is_field d.context) (plain_form d.context)) (plain_direction d view)
unfolding plain_direction plain_form
plain_stands d view le =
    let field = is_field d.context in
    let whole = selected lines.Whole (vector_for d view Whole) in
    let one = from_field d view FieldPicture (own_field d.context.extension.structure 0) in
    let shape = shape_of field (if field then 1 else 2) in
    record {
      first =
          plain_first field whole one (whole_stands (vector_for d view Whole) (whole_within d view Whole le le))
          (from_stands (shape_of true 1) d view FieldPicture (own_field d.context.extension.structure 0)
          (λ l. in_field_stands l (vector_for d view (FieldPicture l)) (whole_within d view (FieldPicture l) le le)));
      second = λ e. let no : shape.two ≡ false = plain_one field in absurd cc;
      one = λ e. refl;
      none_dual = refl;
      none_first = either (λ (s : Selected). s.dmvector ≡ zeros) (not field) whole one refl (from_single d view FieldPicture (own_field d.context.extension.structure 0));
    }

field_stands : (d : Decision) (view : View) → d.limits.search ≤ 15 → DirectionStands (shape_of false 1) (field_direction d view)
unfolding field_direction shape_of has_two
field_stands d view le =
    let one = λ (target l : Lines). half_stands l (vector_for d view (FieldLines target l)) (half_within d view (FieldLines target l) (omega (arith, le)) le) in
    record {
      first = from_stands (shape_of false 1) d view (FieldLines lines.Top) lines.Top (one lines.Top);
      second = λ e. from_stands (shape_of false 1) d view (FieldLines lines.Bottom) lines.Bottom (one lines.Bottom);
      one = λ e. absurd cc;
      none_dual = from_single d view (FieldLines lines.Bottom) lines.Bottom;
      none_first = from_single d view (FieldLines lines.Top) lines.Top;
    }

still_shape : (field bottom : Bool) → (field ≡ false → bottom ≡ false) → Stands (shape_of field (if field then 1 else 2)) (record { bottom = bottom; vector = zeros; dmvector = zeros })
unfolding shape_of is_halved has_two
still_shape true bottom frame = vector_stands (shape_of true 1) bottom (pos 0) (pos 0) refl (λ e. absurd cc) (zero_up_to 31) (zero_up_to 31) (λ e. absurd cc)
still_shape false bottom frame = vector_stands (shape_of false 2) bottom (pos 0) (pos 0) refl (λ e. frame refl) (zero_up_to 31) (zero_up_to 31) (λ e. absurd cc)

frame_own : (n : ℕ) → not (nat_eq n 3) ≡ false → nat_eq n 2 ≡ false
frame_own n e = elim (cases_three n) [ inl three ↦ rw three refl | inr other ↦ let no : not (nat_eq n 3) ≡ true = rw other refl in absurd cc ]
  where
    cases_three : (m : ℕ) → (m ≡ 3) ⊎ (nat_eq m 3 ≡ false)
    cases_three m = by_test (nat_eq m 3) m refl
      where
        by_test : (b : Bool) (k : ℕ) → nat_eq k 3 ≡ b → (k ≡ 3) ⊎ (nat_eq k 3 ≡ false)
        by_test true k same = inl (eqb-true k 3 same)
        by_test false k same = inr same

still_stands : (c : PictureContext) → DirectionStands (shape_of (is_field c) (plain_form c)) (still_vector c)
unfolding plain_form
still_stands c =
    let field = is_field c in
    record {
      first = still_shape field (nat_eq c.extension.structure 2) (frame_own c.extension.structure);
      second = λ e. let no : (shape_of field (if field then 1 else 2)).two ≡ false = plain_one field in absurd cc;
      one = λ e. refl;
      none_dual = refl;
      none_first = refl;
    }

-- ---- predictions

-- a prediction that can stand in the picture: its types, its motion type and its vectors
pub record PredictionStands (c : PictureContext) (p : Prediction) : Type 0 where
  pub coded : (quant : Bool) → has_type c.kind (record { quant = quant; forward = p.has_forward; backward = p.has_backward; pattern = true; intra = false }) ≡ true
  pub uncoded : p.uncoded ≡ true → has_type c.kind (record { quant = false; forward = p.has_forward; backward = p.has_backward; pattern = false; intra = false }) ≡ true
  pub told : (p.has_forward || p.has_backward) ≡ true → (is_form c.kind p.form ≡ true) × (p.form < 4)
  pub untold : ((p.has_forward || p.has_backward) && (is_field c || not c.extension.frame_pred_frame_dct)) ≡ false → p.form ≡ no_form c
  pub forward : IsDirection p.has_forward (shape_of (is_field c) p.form) (f_codes_of c 0) p.forward
  pub backward : IsDirection p.has_backward (shape_of (is_field c) p.form) (f_codes_of c 1) p.backward
  pub forward_dual : p.forward.second.dmvector ≡ zeros
  pub backward_dual : p.backward.second.dmvector ≡ zeros
  pub backward_first : p.backward.first.dmvector ≡ zeros

-- the directions that pictures of a type have
abbrev goes : ℕ → Bool → Bool → Bool
goes kind hf hb = (nat_eq kind 2 && (hf && not hb)) || (nat_eq kind 3 && (hf || hb))

types_stand : (kind : ℕ) (hf hb quant : Bool) → ((kind ≡ 2) × ((hf ≡ true) × (hb ≡ false))) ⊎ ((kind ≡ 3) × ((hf || hb) ≡ true))
    → has_type kind (record { quant = quant; forward = hf; backward = hb; pattern = true; intra = false }) ≡ true
unfolding has_type
types_stand kind hf hb quant (inl (k, (f, b))) = rw (k, f, b) (coded_two quant)
  where
    coded_two : (q : Bool) → (not q || true) ≡ true
    coded_two true = refl
    coded_two false = refl
types_stand kind hf hb quant (inr (k, some)) = rw (k, some) (coded_three quant)
  where
    coded_three : (q : Bool) → (not q || true) ≡ true
    coded_three true = refl
    coded_three false = refl

uncoded_stand : (kind : ℕ) (hf hb : Bool) → ((kind ≡ 2) × ((hf ≡ true) × (hb ≡ false))) ⊎ ((kind ≡ 3) × ((hf || hb) ≡ true))
    → has_type kind (record { quant = false; forward = hf; backward = hb; pattern = false; intra = false }) ≡ true
unfolding has_type
uncoded_stand kind hf hb (inl (k, (f, b))) = rw (k, f, b) refl
uncoded_stand kind hf hb (inr (k, some)) = rw (k, some) refl

-- the motion types of one vector, and of none
abbrev plain_number : Bool → ℕ
plain_number field = if field then 1 else 2

abbrev none_number : Bool → ℕ
none_number field = if field then 0 else 2

not_dual : (kind : ℕ) → not (nat_eq kind 3 && false) ≡ true
not_dual kind = ap not (and-false (nat_eq kind 3))

-- where a prediction with a motion type has it, and where it has none
form_stands : (kind form : ℕ) → (form ≡ 1) ⊎ (form ≡ 2) → (is_form kind form ≡ true) × (form < 4)
unfolding is_form
form_stands kind form (inl one) = rw one (not_dual kind, omega arith)
form_stands kind form (inr two) = rw two (not_dual kind, omega arith)

plain_forms : (field : Bool) → (plain_number field ≡ 1) ⊎ (plain_number field ≡ 2)
plain_forms true = inl refl
plain_forms false = inr refl

plain_untold : (field fixed : Bool) → (field || not fixed) ≡ false → plain_number field ≡ none_number field
plain_untold true fixed e = absurd cc
plain_untold false fixed e = refl

field_told : (field fixed : Bool) → (not field && not fixed) ≡ true → (field || not fixed) ≡ false → ⊥
field_told true fixed e f = absurd cc
field_told false true e f = absurd cc
field_told false false e f = absurd cc

single_dual : (told : Bool) (d : Direction) → d.second.dmvector ≡ zeros → (cond told d no_vectors).second.dmvector ≡ zeros
single_dual told d e = either (λ (x : Direction). x.second.dmvector ≡ zeros) told d no_vectors e refl

single_first : (told : Bool) (d : Direction) → d.first.dmvector ≡ zeros → (cond told d no_vectors).first.dmvector ≡ zeros
single_first told d e = either (λ (x : Direction). x.first.dmvector ≡ zeros) told d no_vectors e refl

module _ (c : PictureContext) (own : IsOwn c) where
  codes_forward : (c.kind ≡ 2) ⊎ (c.kind ≡ 3) → f_codes_of c 0 ≡ 2 ∷ 2 ∷ []
  codes_forward (inl two) = rw own.f_code (rw two refl)
  codes_forward (inr three) = rw own.f_code (rw three refl)

  codes_backward : c.kind ≡ 3 → f_codes_of c 1 ≡ 2 ∷ 2 ∷ []
  codes_backward three = rw own.f_code (rw three refl)

  -- a prediction by a motion type and directions
  prediction_stands : (form : ℕ) (hf hb : Bool) (f b : Direction)
      → ((c.kind ≡ 2) × ((hf ≡ true) × (hb ≡ false))) ⊎ ((c.kind ≡ 3) × ((hf || hb) ≡ true))
      → (form ≡ 1) ⊎ (form ≡ 2) → ((is_field c || not c.extension.frame_pred_frame_dct) ≡ false → form ≡ no_form c)
      → DirectionStands (shape_of (is_field c) form) f → DirectionStands (shape_of (is_field c) form) b → PredictionStands c (prediction form hf hb f b)
  prediction_stands form hf hb f b kind some none p q = record {
    coded = λ quant. types_stand c.kind hf hb quant kind;
    uncoded = λ e. uncoded_stand c.kind hf hb kind;
    told = λ e. form_stands c.kind form some;
    untold = λ e. none (second_false (hf || hb) (is_field c || not c.extension.frame_pred_frame_dct) (goes_some kind) e);
    forward = direction_stands hf (shape_of (is_field c) form) (f_codes_of c 0) f (λ e. codes_forward (either_kind kind)) p;
    backward = direction_stands hb (shape_of (is_field c) form) (f_codes_of c 1) b (λ e. codes_backward (three_kind kind e)) q;
    forward_dual = single_dual hf f p.none_dual;
    backward_dual = single_dual hb b q.none_dual;
    backward_first = single_first hb b q.none_first;
  }
    where
      second_false : (x y : Bool) → x ≡ true → (x && y) ≡ false → y ≡ false
      second_false true y e g = g
      second_false false y e g = absurd cc

      goes_some : ((c.kind ≡ 2) × ((hf ≡ true) × (hb ≡ false))) ⊎ ((c.kind ≡ 3) × ((hf || hb) ≡ true)) → (hf || hb) ≡ true
      goes_some (inl (k, (f1, b1))) = rw f1 refl
      goes_some (inr (k, e)) = e

      either_kind : ((c.kind ≡ 2) × ((hf ≡ true) × (hb ≡ false))) ⊎ ((c.kind ≡ 3) × ((hf || hb) ≡ true)) → (c.kind ≡ 2) ⊎ (c.kind ≡ 3)
      either_kind (inl (k, e)) = inl k
      either_kind (inr (k, e)) = inr k

      three_kind : ((c.kind ≡ 2) × ((hf ≡ true) × (hb ≡ false))) ⊎ ((c.kind ≡ 3) × ((hf || hb) ≡ true)) → hb ≡ true → c.kind ≡ 3
      three_kind (inl (k, (f1, b1))) e = absurd cc
      three_kind (inr (k, some1)) e = k

  zero_stands : c.kind ≡ 2 → PredictionStands c (record { form = no_form c; has_forward = false; has_backward = false; forward = no_vectors; backward = no_vectors; uncoded = false })
  unfolding has_type
  zero_stands two = record {
    coded = λ quant. rw two (coded_two quant);
    uncoded = λ e. absurd cc;
    told = λ e. absurd cc;
    untold = λ e. refl;
    forward = none_stands (shape_of (is_field c) (no_form c)) (f_codes_of c 0);
    backward = none_stands (shape_of (is_field c) (no_form c)) (f_codes_of c 1);
    forward_dual = refl;
    backward_dual = refl;
    backward_first = refl;
  }
    where
      coded_two : (q : Bool) → (not q || true) ≡ true
      coded_two true = refl
      coded_two false = refl

      none_stands : (shape : Shape) (f_code : List ℕ) → IsDirection false shape f_code no_vectors
      none_stands shape f_code = record { first = λ e. absurd cc; second = λ e two1. absurd cc; one = λ e two1. absurd cc; none = λ e. (refl, refl) }

module _ (d : Decision) (own : IsOwn d.context) where
  by_stands : (form : ℕ) (f b : Direction) → (d.context.kind ≡ 2) ⊎ (d.context.kind ≡ 3) → (form ≡ 1) ⊎ (form ≡ 2)
      → ((is_field d.context || not d.context.extension.frame_pred_frame_dct) ≡ false → form ≡ no_form d.context)
      → DirectionStands (shape_of (is_field d.context) form) f → DirectionStands (shape_of (is_field d.context) form) b
      → All (PredictionStands d.context) (predictions_by d form f b)
  unfolding predictions_by
  by_stands form f b (inl two) some none p q =
      let P = PredictionStands d.context in
      let ahead = prediction form true false f b in
      let behind = prediction form false true f b in
      let both = prediction form true true f b in
      first_of (All P) (nat_eq d.context.kind 2) (ahead ∷ []) (ahead ∷ behind ∷ both ∷ []) (rw two refl)
      (All-cons P ahead [] (prediction_stands d.context own form true false f b (inl (two, (refl, refl))) some none p q) (All-nil P))
  by_stands form f b (inr three) some none p q =
      let P = PredictionStands d.context in
      let ahead = prediction form true false f b in
      let behind = prediction form false true f b in
      let both = prediction form true true f b in
      let one = λ (hf hb : Bool) (e : (hf || hb) ≡ true). prediction_stands d.context own form hf hb f b (inr (three, e)) some none p q in
      second_of (All P) (nat_eq d.context.kind 2) (ahead ∷ []) (ahead ∷ behind ∷ both ∷ []) (rw three refl)
      (All-cons P ahead (behind ∷ both ∷ []) (one true false refl) (All-cons P behind (both ∷ []) (one false true refl) (All-cons P both [] (one true true refl) (All-nil P))))

  plain_all : d.limits.search ≤ 15 → (d.context.kind ≡ 2) ⊎ (d.context.kind ≡ 3)
      → All (PredictionStands d.context) (predictions_by d (plain_form d.context) (plain_direction d d.forward) (plain_direction d d.backward))
  unfolding plain_form
  plain_all le kind =
      let field = is_field d.context in
      by_stands (if field then 1 else 2) (plain_direction d d.forward) (plain_direction d d.backward) kind (plain_forms field)
      (plain_untold field d.context.extension.frame_pred_frame_dct) (plain_stands d d.forward le) (plain_stands d d.backward le)

  fields_all : d.limits.search ≤ 15 → (d.context.kind ≡ 2) ⊎ (d.context.kind ≡ 3) → has_dct_type d ≡ true
      → All (PredictionStands d.context) (predictions_by d 1 (field_direction d d.forward) (field_direction d d.backward))
  fields_all le kind has =
      let field = is_field d.context in
      let parts = and_parts (not field) (not d.context.extension.frame_pred_frame_dct) has in
      let frame : field ≡ false = not-true field parts.0 in
      by_stands 1 (field_direction d d.forward) (field_direction d d.backward) kind (inl refl)
      (λ e. absurd (field_told field d.context.extension.frame_pred_frame_dct has e))
      (subst (λ (b : Bool). DirectionStands (shape_of b 1) (field_direction d d.forward)) (sym frame) (field_stands d d.forward le))
      (subst (λ (b : Bool). DirectionStands (shape_of b 1) (field_direction d d.backward)) (sym frame) (field_stands d d.backward le))

  -- where a test holds, its list
  where_holds : (P : Prediction → Type 0) (b : Bool) (xs : List Prediction) → (b ≡ true → All P xs) → All P (cond b xs [])
  where_holds P true xs h = h refl
  where_holds P false xs h = All-nil P

  moving_all : d.limits.search ≤ 15 → (d.context.kind ≡ 2) ⊎ (d.context.kind ≡ 3)
      → All (PredictionStands d.context)
      (cond (nat_eq d.context.kind 2) (zero_prediction d ∷ []) []
      ++ predictions_by d (plain_form d.context) (plain_direction d d.forward) (plain_direction d d.backward)
      ++ cond (has_dct_type d) (predictions_by d 1 (field_direction d d.forward) (field_direction d d.backward)) [])
  moving_all le kind =
      let P = PredictionStands d.context in
      let still = cond (nat_eq d.context.kind 2) (zero_prediction d ∷ []) [] in
      let plain = predictions_by d (plain_form d.context) (plain_direction d d.forward) (plain_direction d d.backward) in
      let fields = predictions_by d 1 (field_direction d d.forward) (field_direction d d.backward) in
      All-append P (still ++ plain) (cond (has_dct_type d) fields [])
      (All-append P still plain
      (where_holds P (nat_eq d.context.kind 2) (zero_prediction d ∷ []) (λ e. All-cons P (zero_prediction d) [] (zero_stands d.context own (eqb-true d.context.kind 2 e)) (All-nil P)))
      (plain_all le kind))
      (where_holds P (has_dct_type d) fields (λ e. fields_all le kind e))

  pub predictions_stand : d.limits.search ≤ 15 → All (PredictionStands d.context) (predictions d)
  unfolding predictions
  predictions_stand le =
      let P = PredictionStands d.context in
      let moving = cond (nat_eq d.context.kind 2) (zero_prediction d ∷ []) []
      ++ predictions_by d (plain_form d.context) (plain_direction d d.forward) (plain_direction d d.backward)
      ++ cond (has_dct_type d) (predictions_by d 1 (field_direction d d.forward) (field_direction d d.backward)) [] in
      elim (cases_lt d.context.kind 2) [
        | inl less ↦ let e : d.context.kind ≡ 1 = omega (arith, less, own.kind.0) in first_of (All P) (nat_eq d.context.kind 1) [] moving (rw e refl) (All-nil P)
        | inr more ↦
            let kind : (d.context.kind ≡ 2) ⊎ (d.context.kind ≡ 3) = two_three d.context.kind more own.kind.1 in
            some_kind P (nat_eq d.context.kind 1) moving (moving_all le kind)
      ]
    where
      some_kind : (P : Prediction → Type 0) (b : Bool) (xs : List Prediction) → All P xs → All P (cond b [] xs)
      some_kind P true xs h = All-nil P
      some_kind P false xs h = h

  -- one of them
  pub plain_told_one : d.limits.search ≤ 15 → (hf hb : Bool) → ((d.context.kind ≡ 2) × ((hf ≡ true) × (hb ≡ false))) ⊎ ((d.context.kind ≡ 3) × ((hf || hb) ≡ true))
      → PredictionStands d.context (prediction (plain_form d.context) hf hb (plain_direction d d.forward) (plain_direction d d.backward))
  unfolding plain_form
  plain_told_one le hf hb kind =
      let field = is_field d.context in
      prediction_stands d.context own (if field then 1 else 2) hf hb (plain_direction d d.forward) (plain_direction d d.backward) kind (plain_forms field)
      (plain_untold field d.context.extension.frame_pred_frame_dct) (plain_stands d d.forward le) (plain_stands d d.backward le)

  pub fields_one : d.limits.search ≤ 15 → has_dct_type d ≡ true → (hf hb : Bool) → ((d.context.kind ≡ 2) × ((hf ≡ true) × (hb ≡ false))) ⊎ ((d.context.kind ≡ 3) × ((hf || hb) ≡ true))
      → PredictionStands d.context (prediction 1 hf hb (field_direction d d.forward) (field_direction d d.backward))
  fields_one le has hf hb kind =
      let field = is_field d.context in
      let parts = and_parts (not field) (not d.context.extension.frame_pred_frame_dct) has in
      let frame : field ≡ false = not-true field parts.0 in
      prediction_stands d.context own 1 hf hb (field_direction d d.forward) (field_direction d d.backward) kind (inl refl)
      (λ e. absurd (field_told field d.context.extension.frame_pred_frame_dct has e))
      (subst (λ (b : Bool). DirectionStands (shape_of b 1) (field_direction d d.forward)) (sym frame) (field_stands d d.forward le))
      (subst (λ (b : Bool). DirectionStands (shape_of b 1) (field_direction d d.backward)) (sym frame) (field_stands d d.backward le))

  pub zero_one : d.context.kind ≡ 2 → PredictionStands d.context (zero_prediction d)
  zero_one two = zero_stands d.context own two

  pub still_prediction_stands : (d.context.kind ≡ 2) ⊎ (d.context.kind ≡ 3) → PredictionStands d.context (still_prediction d.context)
  unfolding still_prediction plain_form
  still_prediction_stands kind =
      let c = d.context in
      let field = is_field c in
      let form = if field then 1 else 2 in
      let none = plain_untold field c.extension.frame_pred_frame_dct in
      elim kind [
        | inl two ↦
            prediction_stands c own form (nat_eq c.kind 2) (nat_eq c.kind 3) (still_vector c) (still_vector c)
            (inl (two, (rw two refl, rw two refl))) (plain_forms field) none (still_stands c) (still_stands c)
        | inr three ↦
            prediction_stands c own form (nat_eq c.kind 2) (nat_eq c.kind 3) (still_vector c) (still_vector c)
            (inr (three, rw three refl)) (plain_forms field) none (still_stands c) (still_stands c)
      ]

-- ---- syntax

or_false : (b : Bool) → (b || false) ≡ b
or_false true = refl
or_false false = refl

-- a quantiser is a code where it is sent, and 0 where it isn't
sent : (send : Bool) (q : ℕ) → IsCode q → send ≡ true → IsCode (cond send q 0)
sent true q h e = h
sent false q h e = absurd cc

unsent : (send : Bool) (q : ℕ) → send ≡ false → cond send q 0 ≡ 0
unsent true q e = absurd cc
unsent false q e = refl

-- dct_type is 1 only in pictures that have it
only_dct : (b field fixed : Bool) → (b ≡ true → (not field && not fixed) ≡ true) → (not field && (not fixed && true)) ≡ false → b ≡ false
only_dct false field fixed has none = refl
only_dct true true fixed has none = let no : false ≡ true = has refl in absurd cc
only_dct true false true has none = let no : false ≡ true = has refl in absurd cc
only_dct true false false has none = absurd cc

-- the directions as a macroblock has them
forward_again : (told : Bool) (shape : Shape) (f_code : List ℕ) (d : Direction) → d.second.dmvector ≡ zeros → IsDirection told shape f_code d
    → IsDirection told shape f_code (record { first = d.first; second = record { bottom = d.second.bottom; vector = d.second.vector; dmvector = zeros } })
forward_again told shape f_code d e h =
    subst (λ (z : List ℤ). IsDirection told shape f_code (record { first = d.first; second = record { bottom = d.second.bottom; vector = d.second.vector; dmvector = z } })) e h

forward_told : (told : Bool) (shape : Shape) (f_code : List ℕ) (d : Direction) → d.second.dmvector ≡ zeros → IsDirection told shape f_code d
    → IsDirection (told || false) shape f_code (record { first = d.first; second = record { bottom = d.second.bottom; vector = d.second.vector; dmvector = zeros } })
forward_told told shape f_code d e h =
    subst (λ (b : Bool). IsDirection b shape f_code (record { first = d.first; second = record { bottom = d.second.bottom; vector = d.second.vector; dmvector = zeros } })) (sym (or_false told))
    (forward_again told shape f_code d e h)

backward_again : (told : Bool) (shape : Shape) (f_code : List ℕ) (d : Direction) → d.first.dmvector ≡ zeros → d.second.dmvector ≡ zeros → IsDirection told shape f_code d
    → IsDirection told shape f_code (record {
      first = record { bottom = d.first.bottom; vector = d.first.vector; dmvector = zeros };
      second = record { bottom = d.second.bottom; vector = d.second.vector; dmvector = zeros };
    })
backward_again told shape f_code d e g h =
    subst (λ (z : List ℤ). IsDirection told shape f_code (record { first = record { bottom = d.first.bottom; vector = d.first.vector; dmvector = z }; second = record { bottom = d.second.bottom; vector = d.second.vector; dmvector = zeros } })) e
    (forward_again told shape f_code d g h)

intra_type : (kind : ℕ) (quant : Bool) → has_type kind (record { quant = quant; forward = false; backward = false; pattern = false; intra = true }) ≡ true
unfolding has_type
intra_type kind quant =
    either (λ (b : Bool). b ≡ true) (nat_eq kind 1) true (if nat_eq kind 2 then true else true) refl
    (either (λ (b : Bool). b ≡ true) (nat_eq kind 2) true true refl refl)

module _ (d : Decision) (own : IsOwn d.context) (st : SliceState) (step : IsStep d.context st (increment_of d)) where
  pub uncoded_macro : (p : Prediction) → PredictionStands d.context p → p.uncoded ≡ true → IsMacro d.context st (uncoded_syntax d p)
  unfolding uncoded_syntax has_form has_dct
  uncoded_macro p h bare = record {
    step = step;
    kind = h.uncoded bare;
    form = λ e. h.told (and_parts (p.has_forward || p.has_backward) (is_field d.context || not d.context.extension.frame_pred_frame_dct) e).0;
    no_form = λ e. h.untold e;
    no_dct = λ e. refl;
    quantiser = λ e. absurd cc;
    no_quantiser = λ e. refl;
    forward =
        forward_told p.has_forward (shape_of (is_field d.context) p.form) (f_codes_of d.context 0) p.forward h.forward_dual h.forward;
    backward = backward_again p.has_backward (shape_of (is_field d.context) p.form) (f_codes_of d.context 1) p.backward h.backward_first h.backward_dual h.backward;
    intra = λ e. absurd cc;
    pattern = λ e g. absurd cc;
    no_pattern = λ e g. refl;
    arranged = refl;
  }

  pub coded_macro : (p : Prediction) (k : Coding) (pattern : ℕ) → PredictionStands d.context p → IsCode k.q → (k.dct_field ≡ true → has_dct_type d ≡ true)
      → 0 < pattern → pattern < 64 → IsMacro d.context st (coded_syntax d p k pattern)
  unfolding coded_syntax has_form has_dct
  coded_macro p k pattern h code dct some most = record {
    step = step;
    kind = h.coded (sends d k.q);
    form = λ e. h.told (and_parts (p.has_forward || p.has_backward) (is_field d.context || not d.context.extension.frame_pred_frame_dct) e).0;
    no_form = λ e. h.untold e;
    no_dct = only_dct k.dct_field (is_field d.context) d.context.extension.frame_pred_frame_dct dct;
    quantiser = sent (sends d k.q) k.q code;
    no_quantiser = unsent (sends d k.q) k.q;
    forward =
        forward_told p.has_forward (shape_of (is_field d.context) p.form) (f_codes_of d.context 0) p.forward h.forward_dual h.forward;
    backward = backward_again p.has_backward (shape_of (is_field d.context) p.form) (f_codes_of d.context 1) p.backward h.backward_first h.backward_dual h.backward;
    intra = λ e. absurd cc;
    pattern = λ e g. (some, most);
    no_pattern = λ e g. absurd cc;
    arranged = refl;
  }

  pub intra_macro : (k : Coding) → IsCode k.q → (k.dct_field ≡ true → has_dct_type d ≡ true) → IsMacro d.context st (intra_syntax d k)
  unfolding intra_syntax has_form has_dct has_type
  intra_macro k code dct = record {
    step = step;
    kind = intra_type d.context.kind (sends d k.q);
    form = λ e. absurd cc;
    no_form = λ e. refl;
    no_dct = only_dct k.dct_field (is_field d.context) d.context.extension.frame_pred_frame_dct dct;
    quantiser = sent (sends d k.q) k.q code;
    no_quantiser = unsent (sends d k.q) k.q;
    forward = subst (λ (b : Bool). IsDirection b (shape_of (is_field d.context) (no_form d.context)) (f_codes_of d.context 0) no_vectors) (sym own.concealment) (none_told 0);
    backward = none_told 1;
    intra = λ e. refl;
    pattern = λ e g. absurd cc;
    no_pattern = λ e g. absurd cc;
    arranged = refl;
  }
    where
      none_told : (direction : ℕ) → IsDirection false (shape_of (is_field d.context) (no_form d.context)) (f_codes_of d.context direction) no_vectors
      none_told direction = record { first = λ e. absurd cc; second = λ e two. absurd cc; one = λ e two. absurd cc; none = λ e. (refl, refl) }
