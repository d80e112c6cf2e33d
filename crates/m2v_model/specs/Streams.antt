-- Streams: units in order, and the rules that look at more than one of them (clause 6.1.1). Reading order is the order
-- of the lines.
use Rattle.std.specs.Prelude.{ℕ, ◌-◌, Bool, true, false, ◌&&◌, ◌||◌, nat_eq, nat_lt, nat_le, List, [], ◌∷◌, ◌++◌, Option, Some, None, slice_index, is_some, length}
use Rattle.m2v_bits.specs.Syntax.{Syntax, done, here, rule, choose, repeated, ◌>>=◌}
use Rattle.m2v_bits.specs.Leaves.{bits_at}
use Rattle.m2v_macroblock.specs.m2v_head.declared.group.GroupInfo.{GroupInfo}
use Rattle.m2v_macroblock.specs.m2v_head.declared.picture.PictureInfo.{PictureInfo}
use Rattle.m2v_macroblock.specs.m2v_head.declared.picture.PictureExtension.{PictureExtension}
use Rattle.m2v_macroblock.specs.m2v_head.declared.matrix.MatrixInfo.{MatrixInfo}
use Rattle.m2v_model.specs.declared.fault.FaultKind.{FaultKind}
use Rattle.m2v_model.specs.declared.fault.FaultKind.TheVariants.{NoSequence, NotMpeg2, Unsupported, Truncated, Forbidden, SequenceChanged, SliceOrder, MissingMacroblocks, MissingReference, FieldPair}
use Rattle.m2v_model.specs.declared.state.Sequence.{Sequence}
use Rattle.m2v_model.specs.declared.state.Open.{Open}
use Rattle.m2v_model.specs.declared.state.State.{State}
use Rattle.m2v_model.specs.Units.{Units, unit_at, unit_bits, inside}
use Rattle.m2v_model.specs.Looking.{looking, refuse}
use Rattle.m2v_model.specs.Faults.{InUnit}
use Rattle.m2v_model.specs.Headers.{whole_header, sequence_in, sequence_extension_in, group_in, picture_in, picture_extension_in, matrices_in}
use Rattle.m2v_model.specs.States.{picture_rows, at_first, after_sequence, after_group, after_picture, after_matrices, after_slice, after_unread_slice, after_end, is_complete, takes_matrices, is_same_sequence, is_progressive, none_waits, is_second_field_due, has_anchor, slice_setup}
use Rattle.m2v_model.specs.Slices.{Slice, slice_at, large_in}

-- ---- the tree

-- what stands in a unit, or in a header and the extension behind it
pub data Part : Type 0 where
  sequence : Sequence → Part
  group : GroupInfo → Part
  picture : PictureInfo → PictureExtension → Part
  matrices : MatrixInfo → Part
  -- a slice of a macroblock row
  slice : ℕ → Slice → Part
  -- a slice of a row that stays unread, in which anything may stand
  unread_slice : ℕ → List ℕ → Part
  -- a unit in which anything may stand
  skipped_unit : List ℕ → Part
  -- the sequence end code
  ending : Part
  -- the end of the text
  over : Part

-- the state behind a part
unfoldable pub after : State → Part → State
after st (sequence s) = after_sequence st s
after st (group g) = after_group st g
after st (picture info extension) = after_picture st info extension
after st (matrices m) = after_matrices st m
after st (slice row x) = after_slice st row x.covered (large_in x)
after st (unread_slice row u) = after_unread_slice st row
after st (skipped_unit u) = st
after st ending = after_end st
after st over = after_end st

-- the state, and the parts so far
pub record Sofar : Type 0 where
  pub state : State
  pub parts : List Part

-- ---- units

-- a syntax among units
abbrev pub Among : Type 0 → Type 1
Among V = Syntax Units FaultKind V

-- the value of a unit's start code
abbrev pub value_of : List ℕ → ℕ
value_of u = slice_index u 3

-- the picture that is open ends here, with each of its macroblocks read
unfoldable pub close : State → ℕ → Among (Unit {0})
close st start = rule (is_complete st.sequence st.picture) MissingMacroblocks start

-- no second field is due
unfoldable pub no_second_field_due : State → ℕ → Among (Unit {0})
no_second_field_due st start = rule (none_waits st.waiting) FieldPair start

-- the id with which an extension begins (clause 6.3.4)
unfoldable pub id_at : List ℕ → Among ℕ
id_at u = inside u (looking (bits_at Truncated 4))

-- an extension unit, which must have this id
unfoldable pub extension_in : {V : Type 0} → ℕ → List ℕ → ℕ → InUnit V → Among V
extension_in own u start s = do
  id ← id_at u
  own_id ← rule (nat_eq id own) NotMpeg2 start
  inside u s

-- the unit behind a header, which must be the extension with this id
unfoldable pub extension_behind : {V : Type 0} → ℕ → Option (List ℕ) → ℕ → InUnit V → Among V
extension_behind own None start s = refuse NotMpeg2 start
extension_behind own (Some u) start s = choose (nat_eq (value_of u) 0xB5) (extension_in own u start s) (refuse NotMpeg2 start)

-- a sequence header and its extension; changes are looked at behind both
unfoldable pub sequence_unit : State → ℕ → List ℕ → Among Part
sequence_unit st start u = do
  closed ← close st start
  paired ← no_second_field_due st start
  info ← inside u (whole_header sequence_in)
  next ← here unit_bits
  v ← unit_at
  extension ← extension_behind 1 v next (whole_header (sequence_extension_in info))
  same ← rule (is_same_sequence st.first (record { info = info; extension = extension })) SequenceChanged start
  done (sequence (record { info = info; extension = extension }))

unfoldable pub group_unit : State → ℕ → List ℕ → Among Part
group_unit st start u = do
  closed ← close st start
  paired ← no_second_field_due st start
  g ← inside u (whole_header group_in)
  done (group g)

-- a picture header and its picture coding extension; that it is the second field that is due, and that a P picture has
-- a reference, is looked at behind both
unfoldable pub picture_unit : State → ℕ → List ℕ → Among Part
picture_unit st start u = do
  closed ← close st start
  info ← inside u (whole_header picture_in)
  next ← here unit_bits
  v ← unit_at
  extension ← extension_behind 8 v next (whole_header (picture_extension_in (is_progressive st.sequence) info))
  pair ← rule (is_second_field_due st.waiting info extension) FieldPair start
  anchor ← rule (has_anchor st info) MissingReference start
  done (picture info extension)

-- a quant matrix extension, which stands before a picture's first slice alone
unfoldable pub matrix_unit : State → ℕ → List ℕ → Among Part
matrix_unit st start u = do
  allowed ← rule (takes_matrices st.picture) Forbidden start
  m ← inside u (whole_header matrices_in)
  done (matrices m)

-- an extension that doesn't follow a header at once: 1 and 8 may not, 5, 9 and 10 are those of scalable streams, and
-- those with other ids are skipped
unfoldable pub extension_unit : State → ℕ → List ℕ → Among Part
extension_unit st start u = do
  id ← id_at u
  choose (nat_eq id 1 || nat_eq id 8) (refuse Forbidden start)
      (choose (nat_eq id 3) (matrix_unit st start u)
      (choose (nat_eq id 5 || nat_eq id 9 || nat_eq id 10) (refuse Unsupported start)
      (done (skipped_unit u))))

-- the slice of a row
unfoldable pub read_slice : State → Sequence → Open → ℕ → List ℕ → Among Part
read_slice st s p row u = do
  x ← inside u (slice_at (slice_setup st s p) p.covered row)
  done (slice row x)

-- a slice of a picture: its row is neither past the last one nor above that of the slice before it
unfoldable pub slice_in : State → Sequence → Open → ℕ → ℕ → List ℕ → Among Part
slice_in st s p row start u = do
  order ← rule (nat_lt row (picture_rows s p) && nat_le p.row row) SliceOrder start
  choose p.slices_unread (done (unread_slice row u)) (read_slice st s p row u)

-- a slice; none stands outside a picture
unfoldable pub slice_unit : State → Option Sequence → Option Open → ℕ → ℕ → List ℕ → Among Part
slice_unit st (Some s) (Some p) row start u = slice_in st s p row start u
slice_unit st s p row start u = refuse SliceOrder start

-- the sequence end code
unfoldable pub end_unit : State → ℕ → Among Part
end_unit st start = do
  closed ← close st start
  paired ← no_second_field_due st start
  done ending

-- with a unit others may follow
unfoldable pub onward : Among Part → Among (Bool × Part)
onward s = do
  p ← s
  done (true, p)

-- nothing follows
unfoldable pub final : Among Part → Among (Bool × Part)
final s = do
  p ← s
  done (false, p)

-- a unit behind the first sequence header, by the value of its start code (table 6-1)
unfoldable pub later_unit : State → ℕ → ℕ → List ℕ → Among (Bool × Part)
later_unit st start value u =
    choose (nat_eq value 0x00) (onward (picture_unit st start u))
    (choose (nat_le value 0xAF) (onward (slice_unit st st.sequence st.picture (value - 1) start u))
    (choose (nat_eq value 0xB2) (onward (done (skipped_unit u)))
    (choose (nat_eq value 0xB5) (onward (extension_unit st start u))
    (choose (nat_eq value 0xB7) (final (end_unit st start))
    (choose (nat_eq value 0xB8) (onward (group_unit st start u))
    (choose (nat_le value 0xB1 || nat_eq value 0xB6) (refuse Forbidden start)
    (refuse Unsupported start)))))))

-- a unit; those before the first sequence header are skipped
unfoldable pub known_unit : State → ℕ → ℕ → List ℕ → Among (Bool × Part)
known_unit st start value u =
    choose (nat_eq value 0xB3) (onward (sequence_unit st start u))
    (choose (is_some st.sequence) (later_unit st start value u) (done (true, skipped_unit u)))

-- the end of the text
unfoldable pub text_end : State → ℕ → Among (Bool × Part)
text_end st start = do
  some ← rule (is_some st.sequence) NoSequence start
  closed ← close st start
  done (false, over)

unfoldable pub next_unit : State → ℕ → Option (List ℕ) → Among (Bool × Part)
next_unit st start None = text_end st start
next_unit st start (Some u) = known_unit st start (value_of u) u

unfoldable pub unit_round : Sofar → Among (Bool × Sofar)
unit_round s = do
  start ← here unit_bits
  u ← unit_at
  x ← next_unit s.state start u
  done (x.0, record { state = after s.state x.1; parts = s.parts ++ x.1 ∷ [] })

-- units from a state on, up to their end or the sequence end code
unfoldable pub units_from : State → Among Sofar
units_from st = repeated length Truncated unit_round (record { state = st; parts = [] })

-- a stream from a state on: at the end of the text no second field is due
unfoldable pub stream_from : State → Among Sofar
stream_from st = do
  s ← units_from st
  paired ← rule (none_waits s.state.waiting) FieldPair 0
  done s

-- a whole stream
unfoldable pub stream_at : Among Sofar
stream_at = stream_from at_first
