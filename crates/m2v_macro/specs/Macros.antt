-- The syntax of a macroblock up to its blocks (clause 6.2.5): its elements in reading order, each rule where it is
-- looked at, with the place that it tells.
use Rattle.std.specs.Prelude.{ℕ, ◌+◌, Bool, true, false, ◌&&◌, ◌||◌, not, nat_eq, pos, int_le, Result, Ok, Err, List, [], ◌∷◌, length, slice_index_or, if◌then◌else◌}
use Rattle.m2v_bits.specs.Bits.{bits_of}
use Rattle.m2v_bits.specs.Syntax.{done, rule, choose, repeated, ◌>>=◌}
use Rattle.m2v_vlc.specs.declared.values.Increment.{Increment}
use Rattle.m2v_vlc.specs.declared.values.Increment.TheVariants.{Step, Escape}
use Rattle.m2v_vlc.specs.declared.values.MbType.{MbType}
use Rattle.m2v_vector.specs.declared.predictors.Pmv.{Pmv}
use Rattle.m2v_vlc.specs.Tables.{increment, type_i, type_p, type_b, block_pattern}
use Rattle.m2v_macro.specs.declared.fault.MacroFault.{MacroFault}
use Rattle.m2v_macro.specs.declared.fault.MacroFault.TheVariants.{SliceOrder, MissingMacroblocks, SkipRule, QuantZero, PatternZero, BadMotionType, Marker}
use Rattle.m2v_macro.specs.declared.values.MacroSyntax.{MacroSyntax}
use Rattle.m2v_macro.specs.declared.values.SliceState.{SliceState}
use Rattle.m2v_macro.specs.declared.values.PictureContext.{PictureContext}
use Rattle.m2v_macro.specs.declared.values.Direction.{Direction}
use Rattle.m2v_bits.specs.Leaves.{bits_at}
use Rattle.m2v_bits.specs.Elements.{BitSyntax, left_at}
use Rattle.m2v_macro.specs.Faults.{cut, flag_at, coded, look_at, ahead_at}
use Rattle.m2v_macro.specs.States.{is_field, address, not_past, in_order, may_skip, pmv_before}
use Rattle.m2v_macro.specs.Vectors.{shape_of, no_vector, direction_at}

-- ---- address increments

-- macroblock_escape adds 33, and another one or the increment follows (table B.1)
unfoldable pub added : ℕ → Increment → BitSyntax MacroFault (Bool × ℕ)
added sum Escape = done (true, sum + 33)
added sum (Step n) = done (false, sum + n)

unfoldable pub round_at : ℕ → BitSyntax MacroFault (Bool × ℕ)
round_at sum = do
  code ← coded increment
  added sum code

unfoldable pub increment_from : ℕ → BitSyntax MacroFault ℕ
increment_from sum = repeated length cut round_at sum

-- macroblock_escapes and macroblock_address_increment
abbrev pub increment_at : BitSyntax MacroFault ℕ
increment_at = increment_from 0

-- an increment that may stand here
unfoldable pub allowed_at : PictureContext → SliceState → ℕ → ℕ → BitSyntax MacroFault ℕ
allowed_at c st start increment = do
  near ← rule (not_past st increment) MissingMacroblocks start
  order ← rule (in_order c st increment) SliceOrder start
  skip ← rule (may_skip c st increment) SkipRule start
  done increment

unfoldable pub step_at : PictureContext → SliceState → BitSyntax MacroFault ℕ
step_at c st = do
  start ← left_at
  increment ← increment_at
  allowed_at c st start increment

-- the increment ahead, where there is one, begins the slice before the next uncovered macroblock
unfoldable pub begins_before : SliceState → Result (ℕ × List Bool) (MacroFault × ℕ) → Bool
begins_before st (Ok x) = not (not st.first || int_le (pos st.next) (address st x.0))
begins_before st (Err e) = false

-- a look at the first increment of a slice: a rule on it tells the slice, where those of a macroblock tell the increment
unfoldable pub before_at : SliceState → BitSyntax MacroFault Bool
before_at st = look_at (λ t. begins_before st (increment_at.read t))

-- ---- modes (clause 6.2.5.1)

-- macroblock_type, by the picture's type
unfoldable pub kind_at : ℕ → BitSyntax MacroFault MbType
kind_at kind = choose (nat_eq kind 1) (coded type_i) (choose (nat_eq kind 2) (coded type_p) (coded type_b))

-- a motion type stands in a field picture and where frame_pred_frame_dct is 0, at a macroblock with a direction
unfoldable pub has_form : PictureContext → MbType → Bool
has_form c kind = (kind.forward || kind.backward) && (is_field c || not c.extension.frame_pred_frame_dct)

-- motion type 0 is forbidden, and dual prime stands in P pictures alone
unfoldable pub is_form : ℕ → ℕ → Bool
is_form kind form = not (nat_eq form 0) && not (nat_eq kind 3 && nat_eq form 3)

-- without a motion type a frame picture has frame prediction
abbrev pub no_form : PictureContext → ℕ
no_form c = if is_field c then 0 else 2

-- frame_motion_type or field_motion_type
unfoldable pub told_form_at : ℕ → BitSyntax MacroFault ℕ
told_form_at kind = do
  start ← left_at
  form ← bits_at cut 2
  known ← rule (is_form kind form) BadMotionType start
  done form

unfoldable pub form_at : PictureContext → MbType → BitSyntax MacroFault ℕ
form_at c kind = choose (has_form c kind) (told_form_at c.kind) (done (no_form c))

-- dct_type stands in frame pictures where frame_pred_frame_dct is 0, at a macroblock with blocks
unfoldable pub has_dct : PictureContext → MbType → Bool
has_dct c kind = not (is_field c) && (not c.extension.frame_pred_frame_dct && (kind.intra || kind.pattern))

unfoldable pub dct_at : PictureContext → MbType → BitSyntax MacroFault Bool
dct_at c kind = choose (has_dct c kind) flag_at (done false)

-- ---- the macroblock

-- quantiser_scale_code, which is not 0
unfoldable pub told_quantiser_at : BitSyntax MacroFault ℕ
told_quantiser_at = do
  start ← left_at
  code ← bits_at cut 5
  some ← rule (not (nat_eq code 0)) QuantZero start
  done code

unfoldable pub quantiser_at : MbType → BitSyntax MacroFault ℕ
quantiser_at kind = choose kind.quant told_quantiser_at (done 0)

-- an intra macroblock has concealment vectors
abbrev pub is_concealed : PictureContext → MbType → Bool
is_concealed c kind = kind.intra && c.extension.concealment

-- the f_codes of a direction, horizontal and vertical
abbrev pub f_codes_of : PictureContext → ℕ → List ℕ
f_codes_of c direction = slice_index_or c.extension.f_code direction []

-- the marker behind concealment vectors
unfoldable pub told_marker_at : BitSyntax MacroFault (Unit {0})
told_marker_at = do
  start ← left_at
  bit ← bits_at cut 1
  rule (nat_eq bit 1) Marker start

unfoldable pub marker_at : PictureContext → MbType → BitSyntax MacroFault (Unit {0})
marker_at c kind = choose (is_concealed c kind) told_marker_at (done tt)

-- the code of pattern 0 in table B.9, which stands in 4:2:2 and 4:4:4 alone
abbrev pub zero_pattern : List Bool
zero_pattern = bits_of 9 1

-- coded_block_pattern_420
unfoldable pub told_pattern_at : BitSyntax MacroFault ℕ
told_pattern_at = do
  start ← left_at
  none ← ahead_at zero_pattern
  some ← rule (not none) PatternZero start
  coded block_pattern

-- all blocks of an intra macroblock are coded
unfoldable pub pattern_at : MbType → BitSyntax MacroFault ℕ
pattern_at kind = choose kind.intra (done 63) (choose kind.pattern told_pattern_at (done 0))

-- a macroblock of its elements; a dmvector has the forward direction alone
abbrev pub macro_of : ℕ → MbType → ℕ → Bool → ℕ → Direction → Direction → ℕ → MacroSyntax
macro_of increment kind form dct_field quantiser f b pattern = record {
  increment = increment;
  kind = kind;
  form = form;
  dct_field = dct_field;
  quantiser = quantiser;
  vectors = (f.first.vector ∷ b.first.vector ∷ []) ∷ (f.second.vector ∷ b.second.vector ∷ []) ∷ [];
  bottom = (f.first.bottom ∷ b.first.bottom ∷ []) ∷ (f.second.bottom ∷ b.second.bottom ∷ []) ∷ [];
  dmvector = f.first.dmvector;
  pattern = pattern;
}

-- no type and no vectors yet
abbrev pub no_kind : MbType
no_kind = record { quant = false; forward = false; backward = false; pattern = false; intra = false }

abbrev pub no_vectors : Direction
no_vectors = record { first = no_vector; second = no_vector }

-- a macroblock that has nothing
abbrev pub blank : MacroSyntax
blank = macro_of 0 no_kind 0 false 0 no_vectors no_vectors 0

-- motion_vectors (0), motion_vectors (1) and the marker; a skipped macroblock before has changed the predictors already
unfoldable pub directions_at : PictureContext → MbType → ℕ → Pmv → BitSyntax MacroFault (Direction × Direction)
directions_at c kind form pmv = do
  forward ← direction_at (kind.forward || is_concealed c kind) (shape_of (is_field c) form) (f_codes_of c 0) pmv 0
  backward ← direction_at kind.backward (shape_of (is_field c) form) (f_codes_of c 1) pmv 1
  marker ← marker_at c kind
  done (forward, backward)

-- macroblock (), up to its blocks
unfoldable pub macro_at : PictureContext → SliceState → BitSyntax MacroFault MacroSyntax
macro_at c st = do
  increment ← step_at c st
  kind ← kind_at c.kind
  form ← form_at c kind
  dct_field ← dct_at c kind
  quantiser ← quantiser_at kind
  vectors ← directions_at c kind form (pmv_before c st increment)
  pattern ← pattern_at kind
  done (macro_of increment kind form dct_field quantiser vectors.0 vectors.1 pattern)
