-- What a candidate leaves: near predictors of vectors, and a quantiser code.
use Rattle.std.proofs.Common.{◌≡◌, ℕ, zero, suc, ◌+◌, ◌*◌, ◌≤◌, Bool, true, false, cond, All, List, [], ◌∷◌, ◌++◌, filter, map, refl, arith, ℤ, pos, neg_ℤ, ◌≤ℤ◌, ◌*ℤ◌}
use Rattle.std.specs.Prelude.{nat_eq, nat_lt, if◌then◌else◌, slice_index_or}
use Rattle.std.specs.List.{flat_map}
use Rattle.std.proofs.lemmas.Int.{ints}
use Rattle.std.proofs.lemmas.List.Elements.{All-nil, All-cons, All-append, All-map, All-filter, All-weaker}
use Rattle.m2v_plane.specs.declared.planes.Plane.TheVariants.{Y}
use Rattle.m2v_plane.specs.declared.planes.Lines.{Lines}
use Rattle.m2v_plane.specs.declared.planes.Lines.TheVariants as lines
use Rattle.m2v_vector.specs.declared.predictors.Pmv.{Pmv}
use Rattle.m2v_vector.specs.declared.predictors.Motion.{Motion}
use Rattle.m2v_vector.specs.Predictors.{zero as none, zeros, pair_of, resets, has_two, has_vectors, is_halved, left_by, entry_after, predictors_after}
use Rattle.m2v_macro.specs.declared.values.SliceState.{SliceState}
use Rattle.m2v_macro.specs.declared.values.PictureContext.{PictureContext}
use Rattle.m2v_macro.specs.declared.values.Selected.{Selected}
use Rattle.m2v_macro.specs.declared.values.Direction.{Direction}
use Rattle.m2v_macro.specs.States.{is_field, skips, skipped as skipped_motion, motion, pmv_before, after}
use Rattle.m2v_macro.specs.Macros.{no_vectors, no_form}
use Rattle.m2v_pred.specs.Motion.{other_field, own_field}
use Rattle.m2v_macroblock.specs.Macroblocks.{after_macroblock}
use Rattle.m2v_macroblock.specs.Predictions.{View}
use Rattle.m2v_search.specs.declared.form.SearchForm.{SearchForm}
use Rattle.m2v_search.specs.declared.form.SearchForm.TheVariants.{Whole, FieldLines, FieldPicture}
use Rattle.m2v_search.specs.Search.{Vector, reach}
use Rattle.m2v_choose.specs.Decisions.{Decision, Candidate, Prediction, Coding, skipped, is_frame, has_dct_type, sends, intra_syntax, uncoded_syntax, coded_syntax, written, no_levels}
use Rattle.m2v_choose.specs.Candidates.{selected, vector_for, sad_for, from_field, plain_direction, field_direction, plain_form, prediction, predictions_by, zero_prediction, predictions, still_vector, still_prediction, held_intra, held_levels, hold, may_skip, codings_at, codings, second_q, intra_by, uncoded_by, coded_by, has_block, by_prediction, others}
use Rattle.m2v_choose.specs.Choice.{score, fits, choice_of, state_behind}
use Rattle.m2v_choose.specs.Own.{AreNear, IsCode, IsOwnState, AreLimits}
use Rattle.m2v_search.proofs.Products.{least_in}
use Rattle.m2v_choose.proofs.Chosen.{either}
use Rattle.m2v_search.proofs.Reached.{IsUpTo, IsWithin, vector_within, flat_all}

-- ---- predictors

-- the numbers of a pair are near
Near : List ℤ → Type 0
Near v = (k : ℕ) → (neg_ℤ (pos 31) ≤ℤ slice_index_or v k (pos 0)) × (slice_index_or v k (pos 0) ≤ℤ pos 31)

two_near : (x y : ℤ) → IsUpTo 31 x → IsUpTo 31 y → Near (x ∷ y ∷ [])
unfolding Near
two_near x y p q zero = (p.low, p.high)
two_near x y p q (suc zero) = (q.low, q.high)
two_near x y p q (suc (suc n)) = (omega (arith, ints), omega (arith, ints))

none_near : IsUpTo 31 (pos 0)
none_near = record { low = omega (arith, ints); high = omega (arith, ints) }

all_near : (a b c d : List ℤ) → Near a → Near b → Near c → Near d → AreNear ((a ∷ b ∷ []) ∷ (c ∷ d ∷ []) ∷ [])
unfolding Near
all_near a b c d p q r s zero zero k = p k
all_near a b c d p q r s zero (suc zero) k = q k
all_near a b c d p q r s zero (suc (suc n)) k = (omega (arith, ints), omega (arith, ints))
all_near a b c d p q r s (suc zero) zero k = r k
all_near a b c d p q r s (suc zero) (suc zero) k = s k
all_near a b c d p q r s (suc zero) (suc (suc n)) k = (omega (arith, ints), omega (arith, ints))
all_near a b c d p q r s (suc (suc m)) e k = (omega (arith, ints), omega (arith, ints))

zeros_near : Near zeros
zeros_near = two_near (pos 0) (pos 0) none_near none_near

pub zero_near : AreNear none.at
zero_near = all_near zeros zeros zeros zeros zeros_near zeros_near zeros_near zeros_near

-- what a vector leaves is near
left_zeros : (halved : Bool) → Near (left_by halved zeros)
unfolding left_by
left_zeros true = zeros_near
left_zeros false = zeros_near

left_nothing : (halved : Bool) → Near (left_by halved [])
unfolding left_by
left_nothing true = zeros_near
left_nothing false = zeros_near

twice_up_to : (y : ℤ) → IsUpTo 15 y → IsUpTo 31 (pos 2 *ℤ y)
twice_up_to y h = record { low = omega (arith, ints, h.low, h.high); high = omega (arith, ints, h.low, h.high) }

left_whole : (v : Vector) → IsWithin 31 31 v → Near (left_by false (v.x ∷ v.y ∷ []))
unfolding left_by
left_whole v h = two_near v.x v.y h.x h.y

left_half : (halved : Bool) (v : Vector) → IsWithin 31 15 v → Near (left_by halved (v.x ∷ v.y ∷ []))
unfolding left_by
left_half true v h = two_near v.x (pos 2 *ℤ v.y) h.x (twice_up_to v.y h.y)
left_half false v h = two_near v.x v.y h.x (record { low = omega (arith, ints, h.y.low); high = omega (arith, ints, h.y.high) })

-- what a macroblock's vectors leave is near
LeavesNear : Motion → Type 0
LeavesNear m = (entry direction : ℕ) → Near (left_by (is_halved m.field_picture m.form) (pair_of m.vectors entry direction))

leaves_four : (halved : Bool) (a b c d : List ℤ) → Near (left_by halved a) → Near (left_by halved b) → Near (left_by halved c) → Near (left_by halved d)
    → (entry direction : ℕ) → Near (left_by halved (pair_of ((a ∷ b ∷ []) ∷ (c ∷ d ∷ []) ∷ []) entry direction))
leaves_four halved a b c d p q r s zero zero = p
leaves_four halved a b c d p q r s zero (suc zero) = q
leaves_four halved a b c d p q r s zero (suc (suc n)) = left_nothing halved
leaves_four halved a b c d p q r s (suc zero) zero = r
leaves_four halved a b c d p q r s (suc zero) (suc zero) = s
leaves_four halved a b c d p q r s (suc zero) (suc (suc n)) = left_nothing halved
leaves_four halved a b c d p q r s (suc (suc m)) e = left_nothing halved

entry_near : (m : Motion) (p : Pmv) (entry direction : ℕ) → LeavesNear m → AreNear p.at → Near (entry_after m p entry direction)
unfolding entry_after Near LeavesNear
entry_near m p entry direction leaves near =
    either Near (has_vectors m direction) (left_by (is_halved m.field_picture m.form) (pair_of m.vectors (cond (has_two m.field_picture m.form) entry 0) direction)) (pair_of p.at entry direction)
    (leaves (cond (has_two m.field_picture m.form) entry 0) direction) (near entry direction)

after_near : (m : Motion) (p : Pmv) → LeavesNear m → AreNear p.at → AreNear (predictors_after m p).at
unfolding predictors_after
after_near m p leaves near =
    either (λ (q : Pmv). AreNear q.at) (resets m) none _ zero_near
    (all_near (entry_after m p 0 0) (entry_after m p 0 1) (entry_after m p 1 0) (entry_after m p 1 1) (entry_near m p 0 0 leaves near) (entry_near m p 0 1 leaves near) (entry_near m p 1 0 leaves near) (entry_near m p 1 1 leaves near))

pub before_near : (c : PictureContext) (st : SliceState) (n : ℕ) → AreNear st.pmv.at → AreNear (pmv_before c st n).at
unfolding pmv_before LeavesNear
before_near c st n near =
    let h = is_halved (is_field c) 0 in
    either (λ (q : Pmv). AreNear q.at) (skips st n) (predictors_after (skipped_motion c) st.pmv) st.pmv
    (after_near (skipped_motion c) st.pmv (leaves_four h zeros zeros zeros zeros (left_zeros h) (left_zeros h) (left_zeros h) (left_zeros h)) near) near

-- ---- predictions

-- what the vectors of a direction leave is near
record DirectionNear (halved : Bool) (d : Direction) : Type 0 where
  first : Near (left_by halved d.first.vector)
  second : Near (left_by halved d.second.vector)

record PredictionNear (c : PictureContext) (p : Prediction) : Type 0 where
  forward : DirectionNear (is_halved (is_field c) p.form) p.forward
  backward : DirectionNear (is_halved (is_field c) p.form) p.backward

no_vectors_near : (halved : Bool) → DirectionNear halved no_vectors
no_vectors_near halved = record { first = left_zeros halved; second = left_zeros halved }

prediction_near : (c : PictureContext) (form : ℕ) (has_forward has_backward : Bool) (f b : Direction)
    → DirectionNear (is_halved (is_field c) form) f → DirectionNear (is_halved (is_field c) form) b → PredictionNear c (prediction form has_forward has_backward f b)
prediction_near c form has_forward has_backward f b p q =
    let h = is_halved (is_field c) form in
    record { forward = either (DirectionNear h) has_forward f no_vectors p (no_vectors_near h); backward = either (DirectionNear h) has_backward b no_vectors q (no_vectors_near h) }

-- one vector of a picture isn't halved
plain_halved : (field : Bool) → is_halved field (if field then 1 else 2) ≡ false
unfolding is_halved
plain_halved true = refl
plain_halved false = refl

-- a vector lies within reach, and half a sample
within_by : (most : ℕ) (d : Decision) (view : View) (form : SearchForm) → reach form d.limits.search ≤ most → d.limits.search ≤ 15 → IsWithin 31 (2 * most + 1) (vector_for d view form)
unfolding vector_for
within_by most d view form down across =
    let h = vector_within d.dims (view Y) d.source d.limits.row d.limits.column form d.limits.search in
    record {
      x = record { low = omega (arith, ints, h.x.low, across); high = omega (arith, ints, h.x.high, across) };
      y = record { low = omega (arith, ints, h.y.low, down); high = omega (arith, ints, h.y.high, down) };
    }

pub whole_within : (d : Decision) (view : View) (form : SearchForm) → reach form d.limits.search ≤ 15 → d.limits.search ≤ 15 → IsWithin 31 31 (vector_for d view form)
whole_within = within_by 15

pub half_within : (d : Decision) (view : View) (form : SearchForm) → reach form d.limits.search ≤ 7 → d.limits.search ≤ 15 → IsWithin 31 15 (vector_for d view form)
half_within = within_by 7

-- a vector from one of two fields
from_near : (halved : Bool) (d : Decision) (view : View) (form : Lines → SearchForm) (own : Lines)
    → ((l : Lines) → Near (left_by halved ((vector_for d view (form l)).x ∷ (vector_for d view (form l)).y ∷ []))) → Near (left_by halved (from_field d view form own).vector)
unfolding from_field
from_near halved d view form own h =
    either (λ (s : Selected). Near (left_by halved s.vector)) (nat_lt (sad_for d view (form (other_field own))) (sad_for d view (form own)))
    (selected (other_field own) (vector_for d view (form (other_field own)))) (selected own (vector_for d view (form own))) (h (other_field own)) (h own)

plain_near : (d : Decision) (view : View) → d.limits.search ≤ 15 → DirectionNear (is_halved (is_field d.context) (plain_form d.context)) (plain_direction d view)
unfolding plain_direction plain_form
plain_near d view le =
    rw (plain_halved (is_field d.context)) (record {
      first =
          either (λ (s : Selected). Near (left_by false s.vector)) (is_frame d) (selected lines.Whole (vector_for d view Whole)) (from_field d view FieldPicture (own_field d.context.extension.structure 0))
          (left_whole (vector_for d view Whole) (whole_within d view Whole le le))
          (from_near false d view FieldPicture (own_field d.context.extension.structure 0) (λ l. left_whole (vector_for d view (FieldPicture l)) (whole_within d view (FieldPicture l) le le)));
      second = left_zeros false;
    })

field_near : (halved : Bool) (d : Decision) (view : View) → d.limits.search ≤ 15 → DirectionNear halved (field_direction d view)
unfolding field_direction
field_near halved d view le =
    let one = λ (target l : Lines). left_half halved (vector_for d view (FieldLines target l)) (half_within d view (FieldLines target l) (omega (arith, le)) le) in
    record { first = from_near halved d view (FieldLines lines.Top) lines.Top (one lines.Top); second = from_near halved d view (FieldLines lines.Bottom) lines.Bottom (one lines.Bottom) }

by_near : (d : Decision) (form : ℕ) (f b : Direction) → DirectionNear (is_halved (is_field d.context) form) f → DirectionNear (is_halved (is_field d.context) form) b
    → All (PredictionNear d.context) (predictions_by d form f b)
unfolding predictions_by
by_near d form f b p q =
    let P = PredictionNear d.context in
    let ahead = prediction form true false f b in
    let behind = prediction form false true f b in
    let both = prediction form true true f b in
    let one = λ (hf hb : Bool). prediction_near d.context form hf hb f b p q in
    either (All P) (nat_eq d.context.kind 2) (ahead ∷ []) (ahead ∷ behind ∷ both ∷ []) (All-cons P ahead [] (one true false) (All-nil P))
    (All-cons P ahead (behind ∷ both ∷ []) (one true false) (All-cons P behind (both ∷ []) (one false true) (All-cons P both [] (one true true) (All-nil P))))

predictions_near : (d : Decision) → d.limits.search ≤ 15 → All (PredictionNear d.context) (predictions d)
unfolding predictions
predictions_near d le =
    let P = PredictionNear d.context in
    let h = is_halved (is_field d.context) (no_form d.context) in
    let first_near : P (zero_prediction d) = record { forward = no_vectors_near h; backward = no_vectors_near h } in
    let still = cond (nat_eq d.context.kind 2) (zero_prediction d ∷ []) [] in
    let plain = predictions_by d (plain_form d.context) (plain_direction d d.forward) (plain_direction d d.backward) in
    let fields = predictions_by d 1 (field_direction d d.forward) (field_direction d d.backward) in
    let halved = is_halved (is_field d.context) 1 in
    let still_all = either (All P) (nat_eq d.context.kind 2) (zero_prediction d ∷ []) [] (All-cons P (zero_prediction d) [] first_near (All-nil P)) (All-nil P) in
    let plain_all = by_near d (plain_form d.context) (plain_direction d d.forward) (plain_direction d d.backward) (plain_near d d.forward le) (plain_near d d.backward le) in
    let fields_all = by_near d 1 (field_direction d d.forward) (field_direction d d.backward) (field_near halved d d.forward le) (field_near halved d d.backward le) in
    let last = cond (has_dct_type d) fields [] in
    either (All P) (nat_eq d.context.kind 1) [] (still ++ plain ++ last) (All-nil P)
    (All-append P (still ++ plain) last (All-append P still plain still_all plain_all) (either (All P) (has_dct_type d) fields [] fields_all (All-nil P)))

-- ---- candidates

-- a quantiser that is sent, or the one in force
sent_code : (send : Bool) (q force : ℕ) → IsCode q → IsCode force → IsCode (if send then (cond send q 0) else force)
sent_code true q force h k = h
sent_code false q force h k = k

-- what a candidate leaves
record Keeps (d : Decision) (x : Candidate) : Type 0 where
  leaves : LeavesNear (motion d.context x.macroblock.syntax)
  quantiser : IsCode (after d.context d.state x.macroblock.syntax).quantiser

skipped_keeps : (d : Decision) → IsOwnState d.state → Keeps d skipped
unfolding after LeavesNear
skipped_keeps d own =
    let h = is_halved (is_field d.context) 0 in
    record { leaves = leaves_four h zeros zeros zeros zeros (left_zeros h) (left_zeros h) (left_zeros h) (left_zeros h); quantiser = own.quantiser }

intra_keeps : (d : Decision) (k : Coding) (levels : List (List ℤ)) → IsOwnState d.state → IsCode k.q → Keeps d (written (intra_syntax d k) levels)
unfolding after LeavesNear intra_syntax
intra_keeps d k levels own code =
    let h = is_halved (is_field d.context) (no_form d.context) in
    record { leaves = leaves_four h zeros zeros zeros zeros (left_zeros h) (left_zeros h) (left_zeros h) (left_zeros h); quantiser = sent_code (sends d k.q) k.q d.state.quantiser code own.quantiser }

four_leave : (c : PictureContext) (p : Prediction) → PredictionNear c p → (entry direction : ℕ)
    → Near (left_by (is_halved (is_field c) p.form) (pair_of ((p.forward.first.vector ∷ p.backward.first.vector ∷ []) ∷ (p.forward.second.vector ∷ p.backward.second.vector ∷ []) ∷ []) entry direction))
four_leave c p h = leaves_four (is_halved (is_field c) p.form) p.forward.first.vector p.backward.first.vector p.forward.second.vector p.backward.second.vector h.forward.first h.backward.first h.forward.second h.backward.second

uncoded_keeps : (d : Decision) (p : Prediction) (levels : List (List ℤ)) → IsOwnState d.state → PredictionNear d.context p → Keeps d (written (uncoded_syntax d p) levels)
unfolding after LeavesNear uncoded_syntax
uncoded_keeps d p levels own h = record { leaves = four_leave d.context p h; quantiser = own.quantiser }

coded_keeps : (d : Decision) (p : Prediction) (k : Coding) → IsOwnState d.state → PredictionNear d.context p → IsCode k.q → Keeps d (coded_by d p k)
unfolding after LeavesNear coded_syntax coded_by
coded_keeps d p k own h code = record { leaves = four_leave d.context p h; quantiser = sent_code (sends d k.q) k.q d.state.quantiser code own.quantiser }

codings_at_all : (d : Decision) (q : ℕ) → IsCode q → All (λ k. IsCode k.q) (codings_at d q)
unfolding codings_at
codings_at_all d q h =
    let P = λ (k : Coding). IsCode k.q in
    All-cons P _ _ h (either (All P) (has_dct_type d) (record { q = q; dct_field = true } ∷ []) [] (All-cons P _ [] h (All-nil P)) (All-nil P))

codings_all : (d : Decision) → IsCode d.limits.q → All (λ k. IsCode k.q) (codings d)
unfolding codings
codings_all d h =
    let P = λ (k : Coding). IsCode k.q in
    let second : IsCode (second_q d.limits.q) = (omega (arith, h.0), omega arith) in
    All-append P _ _ (codings_at_all d d.limits.q h) (either (All P) (nat_eq (second_q d.limits.q) d.limits.q) [] (codings_at d (second_q d.limits.q)) (All-nil P) (codings_at_all d (second_q d.limits.q) second))

prediction_keeps : (d : Decision) (p : Prediction) → IsOwnState d.state → AreLimits d.limits → PredictionNear d.context p → All (Keeps d) (by_prediction d p)
unfolding by_prediction uncoded_by
prediction_keeps d p own limits h =
    let coded = All-weaker (λ (k : Coding). IsCode k.q) (λ k. Keeps d (coded_by d p k)) (λ k code. coded_keeps d p k own h code) (codings d) (codings_all d limits.q) in
    All-append (Keeps d) _ _ (either (All (Keeps d)) p.uncoded (written (uncoded_syntax d p) no_levels ∷ []) [] (All-cons (Keeps d) _ [] (uncoded_keeps d p no_levels own h) (All-nil (Keeps d))) (All-nil (Keeps d)))
    (All-filter has_block (Keeps d) (map (coded_by d p) (codings d)) (All-map (Keeps d) (coded_by d p) (codings d) coded))

others_keep : (d : Decision) → IsOwnState d.state → AreLimits d.limits → All (Keeps d) (others d)
unfolding others intra_by
others_keep d own limits =
    let intra = All-weaker (λ (k : Coding). IsCode k.q) (λ k. Keeps d (intra_by d k)) (λ k code. intra_keeps d k _ own code) (codings d) (codings_all d limits.q) in
    let skip = cond (may_skip d) (skipped ∷ []) [] in
    let skip_all = either (All (Keeps d)) (may_skip d) (skipped ∷ []) [] (All-cons (Keeps d) skipped [] (skipped_keeps d own) (All-nil (Keeps d))) (All-nil (Keeps d)) in
    let intra_all = All-map (Keeps d) (intra_by d) (codings d) intra in
    let predicted_all = flat_all (Keeps d) (PredictionNear d.context) (by_prediction d) (λ p h. prediction_keeps d p own limits h) (predictions d) (predictions_near d limits.search) in
    All-append (Keeps d) (skip ++ map (intra_by d) (codings d)) (flat_map (by_prediction d) (predictions d))
    (All-append (Keeps d) skip (map (intra_by d) (codings d)) skip_all intra_all) predicted_all

still_near : (c : PictureContext) → PredictionNear c (still_prediction c)
unfolding still_prediction
still_near c =
    let h = is_halved (is_field c) (plain_form c) in
    let still : DirectionNear h (still_vector c) = record { first = left_zeros h; second = left_zeros h } in
    prediction_near c (plain_form c) (nat_eq c.kind 2) (nat_eq c.kind 3) (still_vector c) (still_vector c) still still

hold_keeps : (d : Decision) → IsOwnState d.state → Keeps d (hold d)
unfolding hold
hold_keeps d own =
    either (Keeps d) (nat_eq d.context.kind 1) (written (held_intra d) (held_levels d)) (written (uncoded_syntax d (still_prediction d.context)) no_levels)
    (intra_keeps d _ (held_levels d) own own.quantiser) (uncoded_keeps d (still_prediction d.context) no_levels own (still_near d.context))

-- ---- the choice

choice_keeps : (d : Decision) → IsOwnState d.state → AreLimits d.limits → Keeps d (choice_of d)
unfolding choice_of
choice_keeps d own limits = least_in (Keeps d) (score d) (hold d) (filter (fits d) (others d)) (hold_keeps d own) (All-filter (fits d) (Keeps d) (others d) (others_keep d own limits))

behind_own : (d : Decision) (x : Candidate) → IsOwnState d.state → Keeps d x → IsOwnState (after_macroblock d.context d.state x.macroblock)
unfolding after_macroblock after
behind_own d x own keeps = record {
  predictors = after_near (motion d.context x.macroblock.syntax) (pmv_before d.context d.state x.macroblock.syntax.increment) keeps.leaves (before_near d.context d.state x.macroblock.syntax.increment own.predictors);
  quantiser = keeps.quantiser;
}

pub choice_leaves : (d : Decision) → IsOwnState d.state → AreLimits d.limits → IsOwnState (state_behind d (choice_of d))
choice_leaves d own limits =
    let x = choice_of d in
    either IsOwnState x.skip d.state (after_macroblock d.context d.state x.macroblock) own (behind_own d x own (choice_keeps d own limits))
