-- Words of the choice's code: the blocks of a macroblock, and the best candidate so far.
use Rattle.std.specs.Prelude.{ℕ, All, replicate, min, length, ◌^◌, ◌≢◌, ◌||◌, IsTrue, false, not, cond, ◌&&◌, ◌≡◌, ◌⊎◌, ◌<◌, ◌≤◌, ◌+◌, ◌-◌, ◌*◌, Bool, true, nat_eq, nat_lt, List, [], ◌∷◌, ◌++◌, map, slice_index, slice_index_or, sum_by, if◌then◌else◌, ℤ, pos, neg_ℤ, ◌-ℤ◌, ◌≤ℤ◌, ◌<ℤ◌, Option, IfSome, is_some, unsigned_abs}
use Rattle.std.specs.List.{range_with_len}
use Rattle.m2v_plane.specs.declared.dims.Dims.{Dims}
use Rattle.m2v_plane.specs.declared.planes.Lines.{Lines}
use Rattle.m2v_plane.specs.declared.planes.Plane.{Plane}
use Rattle.m2v_quant.specs.declared.kind.BlockKind.{BlockKind}
use Rattle.m2v_quant.specs.declared.kind.Levels.{Levels}
use Rattle.m2v_quant.specs.Kinds.{IsKind, IsLevel}
use Rattle.m2v_quant.specs.Quantiser.{levels_of as quantised}
pub use Rattle.m2v_quant.specs.Quantiser.{is_empty}
use Rattle.m2v_idct.specs.Forward.{forward_of}
use Rattle.m2v_idct.specs.Ranges.{IsCoefficient}
use Rattle.m2v_idct.specs.Block.{nth}
use Rattle.m2v_recon.specs.Macro.{kind_of, kind_at, is_coded, macro_sample}
use Rattle.m2v_recon.specs.Steps.{levels_of}
use Rattle.m2v_macro.specs.declared.values.SliceState.{SliceState}
use Rattle.m2v_macro.specs.declared.values.PictureContext.{PictureContext}
use Rattle.m2v_macro.specs.States.{is_field, skips, pmv_before, dc_reset, after}
use Rattle.m2v_macro.specs.Conditions.{IsMacro}
use Rattle.m2v_macro.specs.Macros.{macro_of, no_vectors}
use Rattle.m2v_vlc.specs.declared.values.MbType.{MbType}
use Rattle.m2v_macro.specs.Texts.{macro_text, increment_text, kind_text, form_text, directions_text}
use Rattle.m2v_macroblock.specs.Modes.{mode_of, zero_motion}
use Rattle.m2v_macro.specs.declared.values.MacroSyntax.{MacroSyntax}
use Rattle.m2v_macro.specs.declared.values.Selected.{Selected}
use Rattle.m2v_macro.specs.declared.values.Direction.{Direction}
use Rattle.m2v_vector.specs.Predictors.{zeros}
use Rattle.m2v_pred.specs.declared.mode.MbPlace.{MbPlace}
use Rattle.m2v_pred.specs.Vectors.{IsPlace, IsInside, HoldsRead}
use Rattle.m2v_pred.specs.Predicted.{block_by, predicted}
use Rattle.m2v_macroblock.specs.Macroblocks.{Macroblock, macroblock_of, kind_for, block_levels}
use Rattle.m2v_macroblock.specs.Texts.{blocks_text}
use Rattle.m2v_macroblock.specs.Conditions.{AreDc}
use Rattle.m2v_macroblock.specs.Predictions.{View, prediction_of, sample_at}
use Rattle.m2v_search.specs.Near.{HasNear, is_field as is_field_line}
use Rattle.m2v_choose.specs.declared.values.Limits.{Limits}
use Rattle.m2v_choose.specs.declared.values.Choice.{Choice}
use Rattle.m2v_choose.specs.declared.trial.Best.{Best}
use Rattle.m2v_choose.specs.declared.vectors.FieldVector.{FieldVector}
use Rattle.m2v_choose.specs.declared.vectors.Vectors.{Vectors}
use Rattle.m2v_choose.specs.declared.task.Task.{Task}
use Rattle.m2v_choose.specs.declared.bits.Headers.{Headers}
use Rattle.m2v_choose.specs.declared.bits.KindBits.{KindBits}
use Rattle.m2v_choose.specs.declared.coding.Uncoded.{Uncoded}
use Rattle.m2v_choose.specs.declared.intra.Sums.{Sums}
use Rattle.m2v_choose.specs.declared.scratch.FirstTransforms.{FirstTransforms}
use Rattle.m2v_choose.specs.declared.scratch.BothTransforms.{BothTransforms}
use Rattle.m2v_choose.specs.Decisions.{Decision, Candidate, Prediction, pattern_of, has_dct_type, place_of, increment_of, block_place, differences, written, no_levels}
use Rattle.m2v_choose.specs.Candidates.{plain_form, plain_direction, field_direction, predictions_by, zero_prediction}
use Rattle.m2v_choose.specs.Choice.{bits_taken, samples_of, score, fits, square_at, squared}
use Rattle.m2v_choose.specs.Own.{IsOwn, IsCode, IsOwnState, AreLimits}
use Rattle.m2v_choose.specs.Laws.{IsWritable}

-- a difference of a block
abbrev pub difference_at : List ℕ → List ℕ → Bool → ℕ → ℕ → ℤ
difference_at source prediction dct_field block k =
    pos (slice_index source (block_place dct_field block k)) -ℤ pos (slice_index prediction (block_place dct_field block k))

-- the transforms of the six blocks, behind a prediction
unfoldable pub transforms_of : List ℕ → List ℕ → Bool → List (List ℤ)
transforms_of source prediction dct_field = map (λ block. forward_of (differences source prediction dct_field block)) (range_with_len 0 6)

-- levels of transforms, by the kinds of luma and of chroma blocks
unfoldable pub quantised_by : List (List ℤ) → BlockKind → BlockKind → List (List ℤ)
quantised_by transforms luma chroma = map (λ block. quantised (slice_index_or transforms block []) (kind_of luma chroma block)) (range_with_len 0 6)

-- so far the coefficients of six transforms lie from 0 at most
pub record AreFar (transforms : List (List ℤ)) (most : List ℕ) : Type 0 where
  pub at : (b k : ℕ) → b < 6 → k < 64 → unsigned_abs (nth (slice_index_or transforms b []) k) ≤ slice_index most b

-- no coefficient of a block lies as far from 0
abbrev pub AreBelow : ℕ → List ℤ → Type 0
AreBelow least f = (k : ℕ) → k < 64 → unsigned_abs (nth f k) < least

-- two blocks of coefficients are one, or no coefficient of either lies as far from 0: so they have the same levels, where such
-- a coefficient has none
abbrev pub IsSame : ℕ → List ℤ → List ℤ → Type 0
IsSame least f g = (f ≡ g) ⊎ (AreBelow least f × AreBelow least g)

-- the same of six blocks
pub record HaveSame (least : ℕ) (fs gs : List (List ℤ)) : Type 0 where
  pub at : (b : ℕ) → b < 6 → IsSame least (slice_index_or fs b []) (slice_index_or gs b [])

-- these coefficients stand for those of a transform, and lie so far from 0 at most
pub record StandsFor (least : ℕ) (transform f : List ℤ) (most : ℕ) : Type 0 where
  pub alike : IsSame least f transform
  pub known : All IsCoefficient f
  pub far : (k : ℕ) → k < 64 → unsigned_abs (nth f k) ≤ most

-- ---- squares of blocks

-- the squares of a block's samples
unfoldable pub block_squared : Bool → List ℕ → List ℕ → ℕ → ℕ
block_squared dct_field source samples block =
    sum_by (λ line. sum_by (λ c. square_at source samples (block_place dct_field block (8 * line) + c)) (range_with_len 0 8)) (range_with_len 0 8)

-- of the blocks that are coded, and of the others
unfoldable pub coded_squared : ℕ → (ℕ → ℕ) → ℕ
coded_squared pattern squares = sum_by (λ block. cond (is_coded pattern block) (squares block) 0) (range_with_len 0 6)

unfoldable pub uncoded_squared : ℕ → (ℕ → ℕ) → ℕ
uncoded_squared pattern squares = sum_by (λ block. cond (is_coded pattern block) 0 (squares block)) (range_with_len 0 6)

-- these are the squares of a prediction's blocks
pub record AreSquares (dct_field : Bool) (source prediction squares : List ℕ) : Type 0 where
  pub value : (b : ℕ) → b < 6 → slice_index squares b ≡ block_squared dct_field source prediction b
  pub most : (b : ℕ) → b < 6 → slice_index squares b ≤ 8323200

-- samples of a macroblock that agree in a block
pub record AreAlike (dct_field : Bool) (b : ℕ) (x y : List ℕ) : Type 0 where
  pub at : (l c : ℕ) → l < 8 → c < 8 → slice_index x (block_place dct_field b (8 * l) + c) ≡ slice_index y (block_place dct_field b (8 * l) + c)

-- the samples of a macroblock as they are rebuilt, by the kinds of its blocks
abbrev pub rebuilt_with : List ℕ → MacroSyntax → List (List ℤ) → List BlockKind → List ℕ
rebuilt_with prediction m levels kinds = block_by (macro_sample prediction levels m.pattern (kind_at kinds 0) (kind_at kinds 1) m.dct_field)

-- ---- where a macroblock stands

-- the macroblock before lies in the row before this one, or ends the row above where this one is the first of its slice
abbrev pub IsBefore : PictureContext → SliceState → Limits → Type 0
IsBefore c st limits =
    ((pos (limits.row * c.columns) ≤ℤ st.address) × (st.address <ℤ pos (limits.row * c.columns + limits.column)))
    ⊎ ((limits.first ≡ true) × (st.address ≡ pos (limits.row * c.columns) -ℤ pos 1))

-- what a choice is promised of headers, state and limits
pub record AreAsked (c : PictureContext) (st : SliceState) (limits : Limits) : Type 0 where
  pub own : IsOwn c
  pub state : IsOwnState st
  pub dc : AreDc 0 st.dc
  pub bounds : AreLimits limits
  pub row : limits.row < 72
  pub column : limits.column < c.columns
  pub address : IsBefore c st limits

-- a state in which a macroblock is the first of its slice, behind the predictors that it goes by
unfoldable pub as_first : PictureContext → SliceState → ℕ → SliceState
as_first c st increment = record {
  quantiser = st.quantiser;
  dc = if skips st increment then dc_reset c else st.dc;
  pmv = pmv_before c st increment;
  forward = st.forward;
  backward = st.backward;
  intra = st.intra;
  first = true;
  address = neg_ℤ (pos 1);
  next = increment - 1;
}

-- the references, as they were rebuilt
pub record References : Type 0 where
  pub dims : Dims
  pub forward : View
  pub backward : View

-- what is decided by references
abbrev pub decided : References → Task → Decision
decided r t = record {
  dims = r.dims;
  source = t.source.now.at;
  forward = r.forward;
  backward = r.backward;
  context = t.context.now;
  state = t.state.now;
  limits = t.limits.now;
}

-- a task whose values are as they are asked for
pub record IsTask (t : Task) : Type 0 where
  pub asked : AreAsked t.context.now t.state.now t.limits.now
  pub increment : (r : References) → t.increment ≡ increment_of (decided r t)
  pub some : 1 ≤ t.increment
  pub most : t.increment ≤ t.context.now.columns
  pub first : t.first ≡ as_first t.context.now t.state.now t.increment

-- ---- the best candidate so far

-- what was chosen as a candidate
abbrev pub candidate_of : Choice → Candidate
candidate_of x = record { skip = x.skip; macroblock = macroblock_of x.syntax x.levels }

-- the samples of a written macroblock as they are rebuilt, from those of its prediction
unfoldable pub rebuilt_by : Task → List ℕ → Macroblock → List ℕ
rebuilt_by t prediction x = block_by (sample_at t.context.now t.state.now prediction x)

-- these are the samples of the prediction of a macroblock
abbrev pub Predicts : References → Task → MacroSyntax → List ℕ → Type 0
Predicts r t m prediction = prediction ≡ prediction_of r.forward r.backward t.context.now (place_of (decided r t)) m

-- its bits and its samples are those of the definition
pub record IsRated (d : Decision) (b : Best) : Type 0 where
  pub bits : b.choice.bits ≡ bits_taken d (candidate_of b.choice)
  pub samples : b.choice.samples.at ≡ samples_of d (candidate_of b.choice)

-- the candidate that leads, and below what another one must score to lead in its place
pub record Leader : Type 0 where
  pub candidate : Candidate
  pub below : ℕ

abbrev pub leader_of : Best → Leader
leader_of b = record { candidate = candidate_of b.choice; below = b.below }

-- the one that leads behind candidates, in order
unfoldable pub led : Decision → Leader → List Candidate → Leader
led d a [] = a
led d a (x ∷ xs) = led d (if fits d x && nat_lt (score d x) a.below then record { candidate = x; below = score d x } else a) xs

-- candidates were tried
pub record Tried (d : Decision) (old new : Best) (xs : List Candidate) : Type 0 where
  pub best : leader_of new ≡ led d (leader_of old) xs
  pub rated : IsRated d new

-- the type without a direction, in a P picture, and the predictions behind it
abbrev pub zero_predictions : Decision → List Prediction
zero_predictions d = cond (nat_eq d.context.kind 2) (zero_prediction d ∷ []) []

unfoldable pub later_predictions : Decision → List Prediction
later_predictions d =
    cond (nat_eq d.context.kind 1) []
    (predictions_by d (plain_form d.context) (plain_direction d d.forward) (plain_direction d d.backward)
    ++ cond (has_dct_type d) (predictions_by d 1 (field_direction d d.forward) (field_direction d d.backward)) [])

-- ---- codings

-- dct_type stands in the picture
abbrev pub has_types : PictureContext → Bool
has_types c = not (is_field c) && not c.extension.frame_pred_frame_dct

-- a quantiser is sent
abbrev pub sends_code : SliceState → ℕ → Bool
sends_code st q = not (nat_eq q st.quantiser)

-- a macroblock that has a prediction, with coded blocks
abbrev pub with_blocks : MacroSyntax → Bool → ℕ → Bool → ℕ → MacroSyntax
with_blocks m send q dct_field pattern = record {
  increment = m.increment;
  kind = record { quant = send; forward = m.kind.forward; backward = m.kind.backward; pattern = true; intra = m.kind.intra };
  form = m.form;
  dct_field = dct_field;
  quantiser = cond send q 0;
  vectors = m.vectors;
  bottom = m.bottom;
  dmvector = m.dmvector;
  pattern = pattern;
}

-- a macroblock that has a prediction can have coded blocks
pub record CanCode (t : Task) (m : MacroSyntax) : Type 0 where
  pub increment : m.increment ≡ t.increment
  pub other : m.kind.intra ≡ false
  pub macro : (q : ℕ) (dct_field : Bool) (pattern : ℕ) → IsCode q → (dct_field ≡ true → has_types t.context.now ≡ true) → 0 < pattern → pattern < 64
      → IsMacro t.context.now t.first (with_blocks m (sends_code t.state.now q) q dct_field pattern)

-- at least so many bits stand before the blocks of a macroblock that has a prediction and coded blocks
abbrev pub IsHeader : Task → MacroSyntax → ℕ → Type 0
IsHeader t m n = (q : ℕ) (dct_field : Bool) (pattern : ℕ) → 0 < pattern → pattern < 64
    → n ≤ length (macro_text t.context.now t.state.now (with_blocks m (sends_code t.state.now q) q dct_field pattern))

-- the type of a macroblock that has a prediction, with coded blocks
abbrev pub coded_kind : MbType → Bool → MbType
coded_kind v send = record { quant = send; forward = v.forward; backward = v.backward; pattern = true; intra = v.intra }

-- so many bits the types take
pub record AreKinds (t : Task) (m : MacroSyntax) (k : KindBits) : Type 0 where
  pub bare : k.bare ≡ length (kind_text t.context.now.kind m.kind)
  pub kept : k.kept ≡ length (kind_text t.context.now.kind (coded_kind m.kind false))
  pub sent : k.sent ≡ length (kind_text t.context.now.kind (coded_kind m.kind true))
  pub most_bare : k.bare ≤ 17
  pub most_kept : k.kept ≤ 17
  pub most_sent : k.sent ≤ 17

-- so many bits it has with blocks and without: its address, its motion type and its vectors
unfoldable pub shared_length : PictureContext → SliceState → MacroSyntax → ℕ
shared_length c st m = length (increment_text m.increment) + length (form_text c m.kind m.form) + length (directions_text c (pmv_before c st m.increment) m)

-- and so many before its pattern
unfoldable pub header_length : PictureContext → SliceState → MacroSyntax → Bool → ℕ
header_length c st m send = shared_length c st m + length (kind_text c.kind (coded_kind m.kind send)) + cond (has_types c) 1 0 + cond send 5 0

-- these are counted
pub record AreHeaders (t : Task) (m : MacroSyntax) (h : Headers) : Type 0 where
  pub kept : h.kept ≡ header_length t.context.now t.state.now m false
  pub sent : h.sent ≡ header_length t.context.now t.state.now m true
  pub most_kept : h.kept ≤ 2 ^ 22
  pub most_sent : h.sent ≤ 2 ^ 22

-- four bits of a coded block, and of each one
abbrev pub four_of : ℕ → ℕ → ℕ
four_of pattern b = cond (is_coded pattern b) 4 0

unfoldable pub four_each : ℕ → ℕ
four_each pattern = sum_by (four_of pattern) (range_with_len 0 6)

-- these are the levels of a macroblock that isn't intra
pub record AreCoded (m : MacroSyntax) (levels : List Levels) : Type 0 where
  pub other : m.kind.intra ≡ false
  pub pattern : m.pattern ≡ pattern_of (levels_of levels)
  pub within : All (λ (l : Levels). All IsLevel l.at) levels
  pub long : (b : ℕ) → b < 6 → length (block_levels (levels_of levels) b) ≡ 64

-- so many bits a prediction takes without blocks, where it may be without
pub record IsAlone (t : Task) (m : MacroSyntax) (alone : Option ℕ) : Type 0 where
  pub macro : is_some alone ≡ true → IsMacro t.context.now t.first m
  pub bits : IfSome alone (λ n. (r : References) → n ≡ bits_taken (decided r t) (written m no_levels))

-- the least that a macroblock with coded blocks scores, where a bit costs so much, so many bits stand before its blocks, and
-- these are the squares of its prediction: a block that isn't coded adds eight times its squares, and a coded one has at
-- least four bits
unfoldable pub coded_least : ℕ → ℕ → (ℕ → ℕ) → ℕ
coded_least bit header squares = bit * header + sum_by (λ b. min (8 * squares b) (bit * 4)) (range_with_len 0 6)

-- so much at least a prediction scores with coded blocks, by a DCT type
pub record IsLeast (t : Task) (plain : Uncoded) (dct_field : Bool) (least : ℕ) : Type 0 where
  pub header : ℕ
  pub bits : IsHeader t plain.bare.now header
  pub value : least ≡ coded_least ((2 * t.limits.now.q) ^ 2) header (block_squared dct_field t.source.now.at plain.prediction.now.at)

-- the squares of its blocks are known, and the least that it scores with coded blocks: by DCT type 0, and by DCT type 1 where
-- the picture has it; and so many bits stand before the patterns of its codings
pub record IsMeasured (t : Task) (plain : Uncoded) : Type 0 where
  pub frame : AreSquares false t.source.now.at plain.prediction.now.at plain.frame.now
  pub field : has_types t.context.now ≡ true → AreSquares true t.source.now.at plain.prediction.now.at plain.field.now
  pub least : IsLeast t plain false plain.frame_least
  pub field_least : has_types t.context.now ≡ true → IsLeast t plain true plain.field_least
  pub headers : AreHeaders t plain.bare.now plain.headers

-- ---- intra macroblocks

-- the transforms of an intra macroblock's first blocks are made
pub record AreMade (source : List ℕ) (dct_field : Bool) (ts : FirstTransforms) : Type 0 where
  pub value : (b : ℕ) → b < 6 → b < ts.count → slice_index_or ts.at b [] ≡ forward_of (differences source (replicate 384 0) dct_field b)
  pub known : (b : ℕ) → b < 6 → b < ts.count → All IsCoefficient (slice_index_or ts.at b [])

-- those by both DCT types
pub record AreReached (source : List ℕ) (ts : BothTransforms) : Type 0 where
  pub frame : AreMade source false ts.frame
  pub field : AreMade source true ts.field

-- those by a DCT type
abbrev pub first_by : Bool → BothTransforms → FirstTransforms
first_by dct_field ts = cond dct_field ts.field ts.frame

-- an intra macroblock by its elements and the kinds of its blocks
abbrev pub intra_macroblock : Task → MacroSyntax → List BlockKind → Macroblock
intra_macroblock t m kinds = record { syntax = m; levels = quantised_by (transforms_of t.source.now.at (replicate 384 0) m.dct_field) (kind_at kinds 0) (kind_at kinds 1) }

-- such a one can be tried
pub record CanTryIntra (t : Task) (m : MacroSyntax) (kinds : List BlockKind) : Type 0 where
  pub intra : m.kind.intra ≡ true
  pub pattern : m.pattern ≡ 63
  pub known : kinds ≡ kind_for t.context.now m.kind.intra true (after t.context.now t.state.now m).quantiser ∷ kind_for t.context.now m.kind.intra false (after t.context.now t.state.now m).quantiser ∷ []
  pub each : All IsKind kinds
  pub precision : All (λ (kind : BlockKind). kind.precision ≡ 0) kinds
  pub writable : IsWritable t.context.now t.first (intra_macroblock t m kinds)

-- all of its blocks are reached: their bits, their squares, their levels and their samples are known
pub record IsIntraWhole (t : Task) (x : Macroblock) (sums : Sums) (levels : List Levels) (samples : List ℕ) : Type 0 where
  pub bits : sums.bits ≡ length (blocks_text t.context.now (after t.context.now t.first x.syntax) x 0 6)
  pub squares : sums.squares ≡ squared t.source.now.at samples
  pub own : levels_of levels ≡ x.levels
  pub rebuilt : samples ≡ rebuilt_by t (replicate 384 0) x

-- ---- references

-- reference lines that a picture reads: a frame reads frames and fields, a field reads fields
abbrev pub IsReference : ℕ → Lines → Type 0
IsReference structure l = (structure ≡ 3) ⊎ IsTrue (is_field_line l)

-- where the macroblock lies
abbrev pub place_for : Task → MbPlace
place_for t = record { row = t.limits.now.row; column = t.limits.now.column; structure = t.context.now.extension.structure }

-- these are the samples of a P picture's prediction by vector zero: that of the held macroblock, of a skipped one and of the
-- type without a direction
abbrev pub IsStill : References → Task → List ℕ → Type 0
IsStill r t samples = t.context.now.kind ≡ 2 → samples ≡ block_by (predicted r.forward r.backward (zero_motion t.context.now) (place_for t))

-- a reference of this size can be read: the macroblock lies in it, and it holds the rows that are near
pub record IsRead (d : Dims) (holds : Plane → Lines → ℕ → Type 0) (place : MbPlace) : Type 0 where
  pub lies : IsPlace place d
  pub near : (l : Lines) → IsReference place.structure l → HasNear holds d place l

-- vectors as the elements of a macroblock
abbrev pub selected_by : FieldVector → Selected
selected_by v = record { bottom = v.bottom; vector = v.vector; dmvector = zeros }

abbrev pub direction_by : Vectors → Direction
direction_by v = record { first = selected_by v.first; second = selected_by v.second }

-- references by their size and samples
abbrev pub references_of : Dims → View → View → References
references_of dims forward backward = record { dims = dims; forward = forward; backward = backward }

-- ---- predictions

-- a macroblock with a motion type and directions, without blocks
unfoldable pub moving_syntax : ℕ → ℕ → Bool → Bool → Direction → Direction → MacroSyntax
moving_syntax increment form has_forward has_backward forward backward =
    macro_of increment (record { quant = false; forward = has_forward; backward = has_backward; pattern = false; intra = false })
    form false 0 (cond has_forward forward no_vectors) (cond has_backward backward no_vectors) 0

-- a macroblock's motion stays inside the references, which hold what is read
pub record CanPredict (t : Task) (dims : Dims) (ahead behind : Plane → Lines → ℕ → Type 0) (m : MacroSyntax) : Type 0 where
  pub some : ((mode_of t.context.now m).forward ≡ true) ⊎ ((mode_of t.context.now m).backward ≡ true)
  pub lies : IsPlace (place_for t) dims
  pub inside : IsInside (mode_of t.context.now m) (place_for t) dims
  pub forward : (mode_of t.context.now m).forward ≡ true → HoldsRead ahead (mode_of t.context.now m) 0 (place_for t)
  pub backward : (mode_of t.context.now m).backward ≡ true → HoldsRead behind (mode_of t.context.now m) 1 (place_for t)
  pub told : (mode_of t.context.now m).backward ≡ true → m.kind.backward ≡ true

-- a prediction can be tried, without blocks or only with them
pub record CanTry (t : Task) (dims : Dims) (ahead behind : Plane → Lines → ℕ → Type 0) (m : MacroSyntax) (uncoded : Bool) : Type 0 where
  pub code : CanCode t m
  pub macro : uncoded ≡ true → IsMacro t.context.now t.first m
  pub pattern : m.pattern ≡ 0
  pub predict : CanPredict t dims ahead behind m

-- the directions that a picture's type has with a motion type: forward in a P picture, at least one in a B picture
abbrev pub Goes : ℕ → Bool → Bool → Type 0
Goes kind has_forward has_backward =
    ((kind ≡ 2) × ((has_forward ≡ true) × (has_backward ≡ false))) ⊎ ((kind ≡ 3) × ((has_forward || has_backward) ≡ true))

-- the references that a picture's type has can be read, and both are of one size
pub record AreReferences (kind : ℕ) (place : MbPlace) (forward_size backward_size : Dims) (ahead behind : Plane → Lines → ℕ → Type 0) : Type 0 where
  pub forward : kind ≢ 1 → IsRead forward_size ahead place
  pub backward : kind ≡ 3 → IsRead backward_size behind place
  pub sizes : kind ≡ 3 → backward_size ≡ forward_size

-- in a B picture a macroblock before has told its directions, or is intra
abbrev pub HasDirection : PictureContext → SliceState → Limits → Type 0
HasDirection c st limits = c.kind ≡ 3 → limits.first ≡ false → (st.forward ≡ true) ⊎ ((st.backward ≡ true) ⊎ (st.intra ≡ true))

-- where a macroblock of a picture lies
abbrev pub place_at : PictureContext → Limits → MbPlace
place_at c limits = record { row = limits.row; column = limits.column; structure = c.extension.structure }

-- a decision by its parts
abbrev pub decision : Dims → List ℕ → View → View → PictureContext → SliceState → Limits → Decision
decision dims source forward backward c st limits = record {
  dims = dims;
  source = source;
  forward = forward;
  backward = backward;
  context = c;
  state = st;
  limits = limits;
}
