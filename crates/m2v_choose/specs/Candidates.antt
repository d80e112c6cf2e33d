-- The candidates of a macroblock, in order: hold, skip, intra, and each prediction without blocks and coded (clauses 6.2.5,
-- 6.3.17 and 7.6). Which candidates there are is the encoder's own; the standard leaves it free.
use Rattle.std.specs.Prelude.{ℕ, ◌+◌, ◌-◌, Bool, true, false, not, ◌&&◌, ◌||◌, nat_eq, nat_lt, cond, min, if◌then◌else◌, List, [], ◌∷◌, ◌++◌, map, filter, replicate, slice_index_or, ℤ, pos}
use Rattle.std.specs.List.{range_with_len, flat_map}
use Rattle.m2v_plane.specs.declared.planes.Plane.TheVariants.{Y}
use Rattle.m2v_plane.specs.declared.planes.Lines.{Lines}
use Rattle.m2v_plane.specs.declared.planes.Lines.TheVariants as lines
use Rattle.m2v_vector.specs.Predictors.{zeros}
use Rattle.m2v_macro.specs.declared.values.MacroSyntax.{MacroSyntax}
use Rattle.m2v_macro.specs.declared.values.PictureContext.{PictureContext}
use Rattle.m2v_macro.specs.declared.values.Selected.{Selected}
use Rattle.m2v_macro.specs.declared.values.Direction.{Direction}
use Rattle.m2v_macro.specs.States.{is_field, after}
use Rattle.m2v_macro.specs.Vectors.{no_vector}
use Rattle.m2v_macro.specs.Macros.{no_vectors, no_form}
use Rattle.m2v_pred.specs.Motion.{other_field, own_field}
use Rattle.m2v_pred.specs.Inside.{is_inside}
use Rattle.m2v_macroblock.specs.Modes.{skipped_mode}
use Rattle.m2v_macroblock.specs.Predictions.{View, prediction_of}
use Rattle.m2v_search.specs.declared.form.SearchForm.{SearchForm}
use Rattle.m2v_search.specs.declared.form.SearchForm.TheVariants.{Whole, FieldLines, FieldPicture}
use Rattle.m2v_search.specs.Search.{Vector, block_lines, vector_sad, vector_of}
use Rattle.m2v_choose.specs.Decisions.{Decision, place_of, skipped, is_frame, has_dct_type, written, Candidate, no_levels, Prediction, Coding, levels_by, pattern_of, intra_syntax, uncoded_syntax, coded_syntax}

-- ---- vectors

abbrev pub is_bottom : Lines → Bool
is_bottom lines.Whole = false
is_bottom lines.Top = false
is_bottom lines.Bottom = true

-- a vector and the reference field that it is searched in
abbrev pub selected : Lines → Vector → Selected
selected lines v = record { bottom = is_bottom lines; vector = v.x ∷ v.y ∷ []; dmvector = zeros }

abbrev pub one_vector : Selected → Direction
one_vector s = record { first = s; second = no_vector }

-- the vector of a form of search in a reference, and its luma difference
unfoldable pub vector_for : Decision → View → SearchForm → Vector
vector_for d view form = vector_of d.dims (view Y) d.source d.limits.row d.limits.column form d.limits.search

unfoldable pub sad_for : Decision → View → SearchForm → ℕ
sad_for d view form = vector_sad (view Y) d.source (block_lines form d.limits.row) d.limits.column (vector_for d view form)

-- of the two reference fields the one of the same parity, or the other one where its vector is better
unfoldable pub from_field : Decision → View → (Lines → SearchForm) → Lines → Selected
from_field d view form own =
    if nat_lt (sad_for d view (form (other_field own))) (sad_for d view (form own))
    then selected (other_field own) (vector_for d view (form (other_field own)))
    else selected own (vector_for d view (form own))

-- one vector: of the whole frame in a frame picture, of a reference field in a field picture
unfoldable pub plain_direction : Decision → View → Direction
plain_direction d view =
    one_vector (
    if is_frame d then selected lines.Whole (vector_for d view Whole)
    else from_field d view FieldPicture (own_field d.context.extension.structure 0))

-- two vectors in a frame picture: for the top lines, and then for the bottom lines
unfoldable pub field_direction : Decision → View → Direction
field_direction d view = record {
  first = from_field d view (FieldLines lines.Top) lines.Top;
  second = from_field d view (FieldLines lines.Bottom) lines.Bottom;
}

-- ---- predictions

-- the motion type of one vector: frame prediction in a frame picture, field prediction in a field picture (tables 6-17
-- and 6-18); that of two vectors in a frame picture is field prediction, 1
unfoldable pub plain_form : PictureContext → ℕ
plain_form c = if is_field c then 1 else 2

-- the prediction by a motion type and directions, with the vectors of these directions
abbrev pub prediction : ℕ → Bool → Bool → Direction → Direction → Prediction
prediction form has_forward has_backward forward backward = record {
  form = form;
  has_forward = has_forward;
  has_backward = has_backward;
  forward = cond has_forward forward no_vectors;
  backward = cond has_backward backward no_vectors;
  uncoded = true;
}

-- those of a motion type: forward in a P picture; forward, backward and both in a B picture
unfoldable pub predictions_by : Decision → ℕ → Direction → Direction → List Prediction
predictions_by d form forward backward =
    if nat_eq d.context.kind 2 then prediction form true false forward backward ∷ []
    else prediction form true false forward backward ∷ prediction form false true forward backward ∷ prediction form true true forward backward ∷ []

-- a type without a direction, in P pictures alone: by vector zero, and only with coded blocks
abbrev pub zero_prediction : Decision → Prediction
zero_prediction d = record {
  form = no_form d.context;
  has_forward = false;
  has_backward = false;
  forward = no_vectors;
  backward = no_vectors;
  uncoded = false;
}

-- all of them in order; field prediction in a frame picture comes last, where the picture has it
unfoldable pub predictions : Decision → List Prediction
predictions d =
    cond (nat_eq d.context.kind 1) []
    (cond (nat_eq d.context.kind 2) (zero_prediction d ∷ []) []
    ++ predictions_by d (plain_form d.context) (plain_direction d d.forward) (plain_direction d d.backward)
    ++ cond (has_dct_type d) (predictions_by d 1 (field_direction d d.forward) (field_direction d d.backward)) [])

-- ---- hold

-- vector zero; in a field picture from the field of the same parity
abbrev pub still_vector : PictureContext → Direction
still_vector c = one_vector (record { bottom = nat_eq c.extension.structure 2; vector = zeros; dmvector = zeros })

-- forward in a P picture, backward in a B picture
unfoldable pub still_prediction : PictureContext → Prediction
still_prediction c = prediction (plain_form c) (nat_eq c.kind 2) (nat_eq c.kind 3) (still_vector c) (still_vector c)

-- the quantiser stays the last one that was sent
abbrev pub held_intra : Decision → MacroSyntax
held_intra d = intra_syntax d (record { q = d.state.quantiser; dct_field = false })

-- all DC differences are 0, against the predictors behind the macroblocks that are skipped before, and there is no other
-- coefficient (clause 7.2.1)
unfoldable pub held_levels : Decision → List (List ℤ)
held_levels d =
    map (λ block. slice_index_or (after d.context d.state (held_intra d)).dc (block - 3) (pos 0) ∷ replicate 63 (pos 0)) (range_with_len 0 6)

unfoldable pub hold : Decision → Candidate
hold d =
    if nat_eq d.context.kind 1 then written (held_intra d) (held_levels d)
    else written (uncoded_syntax d (still_prediction d.context)) no_levels

-- ---- skip

-- neither the first nor the last macroblock of a slice is skipped (clause 6.3.17), none in I pictures; in a B picture none
-- behind an intra one, and only where its prediction by the predictors stays inside the references
unfoldable pub may_skip : Decision → Bool
may_skip d =
    not d.limits.first && not d.limits.last
    && (nat_eq d.context.kind 2
    || (nat_eq d.context.kind 3 && not d.state.intra && is_inside (skipped_mode d.context d.state) (place_of d) d.dims))

-- ---- the others

abbrev pub second_q : ℕ → ℕ
second_q q = min 31 (q + 8)

-- a quantiser with dct_type 0, and with dct_type 1 where the picture has it
unfoldable pub codings_at : Decision → ℕ → List Coding
codings_at d q = record { q = q; dct_field = false } ∷ cond (has_dct_type d) (record { q = q; dct_field = true } ∷ []) []

-- the plan's quantiser, and a second one where it differs
unfoldable pub codings : Decision → List Coding
codings d = codings_at d d.limits.q ++ cond (nat_eq (second_q d.limits.q) d.limits.q) [] (codings_at d (second_q d.limits.q))

unfoldable pub intra_by : Decision → Coding → Candidate
intra_by d coding = written (intra_syntax d coding) (levels_by d (replicate 384 0) true coding)

unfoldable pub uncoded_by : Decision → Prediction → Candidate
uncoded_by d p = written (uncoded_syntax d p) no_levels

-- the samples of a prediction
unfoldable pub samples_by : Decision → Prediction → List ℕ
samples_by d p = prediction_of d.forward d.backward d.context (place_of d) (uncoded_syntax d p)

unfoldable pub coded_by : Decision → Prediction → Coding → Candidate
coded_by d p coding =
    let levels = levels_by d (samples_by d p) false coding in
    written (coded_syntax d p coding (pattern_of levels)) levels

-- a coded macroblock has a coded block
abbrev pub has_block : Candidate → Bool
has_block x = nat_lt 0 x.macroblock.syntax.pattern

-- those of a prediction: uncoded where it may be, and then coded
unfoldable pub by_prediction : Decision → Prediction → List Candidate
by_prediction d p = cond p.uncoded (uncoded_by d p ∷ []) [] ++ filter has_block (map (coded_by d p) (codings d))

-- all behind hold, in order
unfoldable pub others : Decision → List Candidate
others d = cond (may_skip d) (skipped ∷ []) [] ++ map (intra_by d) (codings d) ++ flat_map (by_prediction d) (predictions d)
