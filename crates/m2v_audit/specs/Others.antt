-- What else the units of a piece say before its first slice: sequence display extensions, the extra information of its picture
-- header, and quant matrix extensions.
use Rattle.std.specs.Prelude.{ℕ, ◌+◌, ◌*◌, Bool, ◌&&◌, nat_eq, nat_le, if◌then◌else◌, List, [], ◌∷◌, ◌++◌, length, Option, Some, None, Result, Ok, Err}
use Rattle.m2v_bits.specs.Syntax.{done, rule, choose, ◌>>=◌}
use Rattle.m2v_bits.specs.Leaves.{bits_at}
use Rattle.m2v_bits.specs.Elements.{flag_at}
use Rattle.m2v_model.specs.m2v_macroblock.m2v_head.declared.matrix.MatrixInfo.{MatrixInfo}
use Rattle.m2v_model.specs.declared.fault.FaultKind.{FaultKind}
use Rattle.m2v_model.specs.declared.fault.FaultKind.TheVariants.{Truncated, NoCode, BadMarker}
use Rattle.m2v_model.specs.Faults.{InUnit, bits_left}
use Rattle.m2v_model.specs.Headers.{whole_header, matrices_in}
use Rattle.m2v_model.specs.Streams.{value_of}
use Rattle.m2v_model.specs.Units.{Units, cut, body}
use Rattle.m2v_strict.specs.declared.display.Display.{Display}
use Rattle.m2v_strict.specs.OtherRules.{matrix_remarks, extra_rule, display_rule}
use Rattle.m2v_strict.specs.Remarks.{Remarks}
use Rattle.m2v_audit.specs.declared.others.Other.{Other}
use Rattle.m2v_audit.specs.declared.others.Other.TheVariants as others
use Rattle.m2v_audit.specs.Findings.{with_remarks}
use Rattle.m2v_audit.specs.Report.{Report}

-- ---- a sequence display extension (clause 6.2.2.4)

-- what colour_description says: three numbers of eight bits
unfoldable pub colour_at : InUnit (Option ℕ)
colour_at = do
  colour ← bits_at Truncated 24
  done (Some colour)

unfoldable pub description_at : InUnit (Option ℕ)
description_at = do
  described ← flag_at Truncated
  choose described colour_at (done None)

-- the marker between two sizes, which is 1
unfoldable pub between_at : InUnit (Unit {0})
between_at = do
  at ← bits_left
  bit ← bits_at Truncated 1
  rule (nat_eq bit 1) BadMarker at

-- its id, which is 2 (table 6-2)
unfoldable pub display_id_at : InUnit (Unit {0})
display_id_at = do
  at ← bits_left
  id ← bits_at Truncated 4
  rule (nat_eq id 2) NoCode at

unfoldable pub display_at : InUnit Display
display_at = do
  id ← display_id_at
  video_format ← bits_at Truncated 3
  colour ← description_at
  width ← bits_at Truncated 14
  marker ← between_at
  height ← bits_at Truncated 14
  done (record { video_format = video_format; colour = colour; width = width; height = height })

-- ---- extra_bit_picture (clause 6.2.3)

-- it stands behind temporal_reference, picture_coding_type, vbv_delay and the vectors' elements of P and B pictures
abbrev pub vector_bits : ℕ → ℕ
vector_bits kind = if nat_eq kind 2 then 4 else if nat_eq kind 3 then 8 else 0

unfoldable pub extra_at : InUnit Bool
extra_at = do
  reference ← bits_at Truncated 10
  kind ← bits_at Truncated 3
  delay ← bits_at Truncated 16
  vectors ← bits_at Truncated (vector_bits kind)
  flag_at Truncated

-- ---- in a piece

-- what was read, where it reads
abbrev pub display_told : Result (Display × List Bool) (FaultKind × ℕ) → List Other
display_told (Ok x) = others.Display x.0 ∷ []
display_told (Err f) = []

abbrev pub extra_told : ℕ → Result (Bool × List Bool) (FaultKind × ℕ) → List Other
extra_told bit (Ok x) = others.Picture bit x.0 ∷ []
extra_told bit (Err f) = []

abbrev pub matrices_told : ℕ → Result (MatrixInfo × List Bool) (FaultKind × ℕ) → List Other
matrices_told bit (Ok x) = others.Matrices bit x.0 ∷ []
matrices_told bit (Err f) = []

unfoldable pub display_in : List ℕ → List Other
display_in u = display_told (display_at.read (body u))

unfoldable pub extra_in : ℕ → List ℕ → List Other
extra_in bit u = extra_told bit (extra_at.read (body u))

unfoldable pub matrices_of : ℕ → List ℕ → List Other
matrices_of bit u = matrices_told bit ((whole_header matrices_in).read (body u))

-- of a unit that begins at a bit: the value of its start code is 00 for a picture header and B5 for an extension
unfoldable pub other_at : ℕ → List ℕ → List Other
other_at bit u =
    if nat_eq (value_of u) 0x00 then extra_in bit u
    else if nat_eq (value_of u) 0xB5 then display_in u ++ matrices_of bit u
    else []

-- those of slices are 01 to AF
abbrev pub is_slice : ℕ → Bool
is_slice value = nat_le 1 value && nat_le value 0xAF

-- of units of which the first begins at a bit: those before the first slice
unfoldable pub others_from : ℕ → Units → List Other
others_from bit [] = []
others_from bit (u ∷ us) = if is_slice (value_of u) then [] else other_at bit u ++ others_from (bit + 8 * length u) us

-- of a piece that begins at a byte of the input, and with a unit
abbrev pub others_of : ℕ → List ℕ → List Other
others_of place piece = others_from (8 * place) (cut 0 piece).1

-- the first sequence display extension among them
unfoldable pub display_of : List Other → Option Display
display_of [] = None
display_of (others.Display d ∷ os) = Some d
display_of (others.Picture bit extra ∷ os) = display_of os
display_of (others.Matrices bit m ∷ os) = display_of os

-- ---- rules

-- what the stricter rules remark of each by itself, at the start code of its unit
unfoldable pub own_remarks : Other → Remarks
own_remarks (others.Display d) = []
own_remarks (others.Picture bit extra) = extra_rule extra
own_remarks (others.Matrices bit m) = matrix_remarks m

unfoldable pub own_bit : Other → ℕ
own_bit (others.Display d) = 0
own_bit (others.Picture bit extra) = bit
own_bit (others.Matrices bit m) = bit

-- in turn, of a picture
unfoldable pub with_own_remarks : Report → ℕ → List Other → Report
with_own_remarks r picture [] = r
with_own_remarks r picture (o ∷ os) = with_own_remarks (with_remarks r picture (own_bit o) (own_remarks o)) picture os

-- of the sequence display extension behind a sequence header, beside that of the first one; of the first one nothing
unfoldable pub display_remarks : Option (Option Display) → Option Display → Remarks
display_remarks None d = []
display_remarks (Some first) d = display_rule first d

-- in a piece with a sequence header or without
abbrev pub headed_remarks : Bool → Option (Option Display) → Option Display → Remarks
headed_remarks headed first d = if headed then display_remarks first d else []

-- that of the first one is kept
unfoldable pub first_display : Option (Option Display) → Option Display → Option Display
first_display None d = d
first_display (Some first) d = first

abbrev pub display_behind : Bool → Option (Option Display) → Option Display → Option (Option Display)
display_behind headed first d = if headed then Some (first_display first d) else first
