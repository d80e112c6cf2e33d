-- Headers in their units: the syntax of each header, the rules that look at more than one of them, each at its
-- element, and zero bits up to the unit's end.
use Rattle.std.specs.Prelude.{ℕ, ◌+◌, ◌-◌, ◌*◌, Bool, true, not, ◌&&◌, ◌||◌, nat_eq, nat_le, Option, Some, None}
use Rattle.m2v_bits.specs.Syntax.{done, rule, renamed, ◌>>=◌}
use Rattle.m2v_bits.specs.Leaves.{end_at}
use Rattle.m2v_macroblock.specs.m2v_head.declared.sequence.SequenceInfo.{SequenceInfo}
use Rattle.m2v_macroblock.specs.m2v_head.declared.sequence.SequenceExtension.{SequenceExtension}
use Rattle.m2v_macroblock.specs.m2v_head.declared.group.GroupInfo.{GroupInfo}
use Rattle.m2v_macroblock.specs.m2v_head.declared.picture.PictureInfo.{PictureInfo}
use Rattle.m2v_macroblock.specs.m2v_head.declared.picture.PictureExtension.{PictureExtension}
use Rattle.m2v_macroblock.specs.m2v_head.declared.matrix.MatrixInfo.{MatrixInfo}
use Rattle.m2v_macroblock.specs.m2v_head.Headers.{sequence_at, sequence_extension_at, group_at, picture_at, picture_extension_at, matrices_at}
use Rattle.m2v_model.specs.declared.fault.FaultKind.TheVariants.{Unsupported, Forbidden}
use Rattle.m2v_model.specs.Faults.{InUnit, bits_left, of_head}
use Rattle.m2v_model.specs.Looking.{look, passes}

-- a header, and zero bits behind its last element
unfoldable pub whole_header : {V : Type 0} → InUnit V → InUnit V
whole_header s = do
  header ← s
  end ← end_at Forbidden
  done header

-- ---- sequences

-- a size: twelve bits of the sequence header, and the two of the extension above them (clause 6.3.3)
abbrev pub size_of : ℕ → ℕ → ℕ
size_of low ext = ext * 4096 + low

-- a size is looked at where the chroma format before it is read
abbrev pub size_passes : (ℕ → Bool) → ℕ → Option ℕ → Option ℕ → Bool
size_passes test low (Some format) (Some ext) = not (nat_eq format 1) || test (size_of low ext)
size_passes test low format ext = true

-- the rules on a size, at its extension: it isn't 0, and not above a limit
unfoldable pub size_at : ℕ → ℕ → Option ℕ → Option ℕ → ℕ → InUnit (Unit {0})
size_at low most format ext at = do
  some ← rule (size_passes (λ size. not (nat_eq size 0)) low format ext) Forbidden at
  rule (size_passes (λ size. nat_le size most) low format ext) Unsupported at

-- a sequence extension (clause 6.2.2.3) behind its sequence header: chroma_format stands 13 bits on,
-- horizontal_size_extension 15, vertical_size_extension 17
unfoldable pub sequence_extension_in : SequenceInfo → InUnit SequenceExtension
sequence_extension_in info = do
  at ← bits_left
  format ← look 13 2
  horizontal ← look 15 2
  width ← size_at info.horizontal_size 1920 format horizontal (at - 15)
  vertical ← look 17 2
  height ← size_at info.vertical_size 1152 format vertical (at - 17)
  renamed of_head sequence_extension_at

-- ---- pictures

-- a picture header (clause 6.2.3)
unfoldable pub picture_in : InUnit PictureInfo
picture_in = renamed of_head picture_at

-- an f_code that is used is from 1 to 9 (table 7-7)
abbrev pub is_f_code : ℕ → Bool
is_f_code code = nat_le 1 code && nat_le code 9

-- forward vectors stand in P and B pictures, and in any picture with concealment vectors
abbrev pub uses_forward : ℕ → Option ℕ → Bool
uses_forward kind None = not (nat_eq kind 1)
uses_forward kind (Some concealment) = not (nat_eq kind 1) || nat_eq concealment 1

abbrev pub uses_backward : ℕ → Bool
uses_backward kind = nat_eq kind 3

-- the rule on an f_code that stands some bits on
unfoldable pub f_code_at : Bool → ℕ → ℕ → InUnit (Unit {0})
f_code_at used at from = do
  code ← look from 4
  rule (not used || passes is_f_code code) Forbidden (at - from)

-- the rules on the four f_codes
unfoldable pub f_codes_at : ℕ → ℕ → InUnit (Unit {0})
f_codes_at kind at = do
  concealment ← look 26 1
  forward_horizontal ← f_code_at (uses_forward kind concealment) at 4
  forward_vertical ← f_code_at (uses_forward kind concealment) at 8
  backward_horizontal ← f_code_at (uses_backward kind) at 12
  f_code_at (uses_backward kind) at 16

-- structure 0 is reserved, and progressive sequences have no field pictures (clause 6.3.10)
abbrev pub is_structure : Bool → ℕ → Bool
is_structure progressive structure = not (nat_eq structure 0) && (not progressive || nat_eq structure 3)

-- a picture coding extension (clause 6.2.3.1) behind its picture header, in a progressive sequence or not:
-- picture_structure stands 22 bits on
unfoldable pub picture_extension_in : Bool → PictureInfo → InUnit PictureExtension
picture_extension_in progressive info = do
  at ← bits_left
  codes ← f_codes_at info.kind at
  structure ← look 22 2
  allowed ← rule (passes (is_structure progressive) structure) Forbidden (at - 22)
  renamed of_head picture_extension_at

-- ---- the others

unfoldable pub sequence_in : InUnit SequenceInfo
sequence_in = renamed of_head sequence_at

unfoldable pub group_in : InUnit GroupInfo
group_in = renamed of_head group_at

unfoldable pub matrices_in : InUnit MatrixInfo
matrices_in = renamed of_head matrices_at
