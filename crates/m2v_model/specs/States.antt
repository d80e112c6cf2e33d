-- What the headers in force say, and what was decoded so far.
use Rattle.std.specs.Prelude.{ℕ, ◌+◌, ◌*◌, ◌/◌, Bool, true, false, ◌&&◌, ◌||◌, not, nat_eq, nat_le, nat_lt, is_some, if◌then◌else◌, List, [], ◌∷◌, Option, Some, None}
use Rattle.std.specs.Bool.{beq}
use Rattle.m2v_order.specs.m2v_plane.declared.dims.Dims.{Dims}
use Rattle.m2v_macroblock.specs.m2v_quant.Matrices.{default_matrix}
use Rattle.m2v_macroblock.specs.m2v_head.declared.group.GroupInfo.{GroupInfo}
use Rattle.m2v_macroblock.specs.m2v_head.declared.picture.PictureInfo.{PictureInfo}
use Rattle.m2v_macroblock.specs.m2v_head.declared.picture.PictureExtension.{PictureExtension}
use Rattle.m2v_macroblock.specs.m2v_head.declared.matrix.MatrixInfo.{MatrixInfo}
use Rattle.m2v_model.specs.declared.state.Sequence.{Sequence}
use Rattle.m2v_model.specs.declared.state.Open.{Open}
use Rattle.m2v_model.specs.declared.state.FirstField.{FirstField}
use Rattle.m2v_model.specs.declared.state.State.{State}
use Rattle.m2v_model.specs.declared.setup.SliceSetup.{SliceSetup}
use Rattle.m2v_model.specs.Headers.{size_of}

-- ---- sizes

abbrev pub width_of : Sequence → ℕ
width_of s = size_of s.info.horizontal_size s.extension.horizontal_ext

abbrev pub height_of : Sequence → ℕ
height_of s = size_of s.info.vertical_size s.extension.vertical_ext

-- macroblocks in a row, and macroblock rows of a frame (clause 6.3.3): a frame that is not progressive has two fields
-- of equal size
abbrev pub columns_of : Sequence → ℕ
columns_of s = (width_of s + 15) / 16

abbrev pub rows_of : Sequence → ℕ
rows_of s = if s.extension.progressive_sequence then (height_of s + 15) / 16 else 2 * ((height_of s + 31) / 32)

-- the size of the frames of a sequence
abbrev pub dims_of : Sequence → Dims
dims_of s = record { width = width_of s; height = height_of s; mb_width = columns_of s; mb_rows = rows_of s }

-- ---- pictures

-- picture_structure (table 6-14)
abbrev pub is_frame : PictureExtension → Bool
is_frame e = nat_eq e.structure 3

-- picture_coding_type (table 6-12); I and P pictures are anchors
abbrev pub is_b : ℕ → Bool
is_b kind = nat_eq kind 3

-- macroblock rows of a picture
abbrev pub picture_rows : Sequence → Open → ℕ
picture_rows s p = if is_frame p.extension then rows_of s else rows_of s / 2

-- the picture ends its frame: a frame picture, or a second field
abbrev pub is_frame_end : Open → Bool
is_frame_end p = is_frame p.extension || p.second_field

-- a B picture is dropped where fewer than two anchors were decoded, unless one was and the group is closed
abbrev pub drops : State → ℕ → Bool
drops st kind = is_b kind && not (nat_le 2 st.anchors || (nat_eq st.anchors 1 && st.closed_gop))

-- The forward reference of a picture has a field, of structure 1 or 2 (clause 7.6.2.1). A second P field refers to the
-- first field of its own frame, and for its own parity to the anchor before; all other P pictures refer to the last
-- anchor, B pictures to the one before it.
abbrev pub has_forward : State → ℕ → ℕ → ℕ → Bool
has_forward st kind structure field =
    (nat_eq kind 2 && (nat_le 1 st.anchors || (is_some st.waiting && not (nat_eq structure field))))
    || (is_b kind && nat_le 2 st.anchors)

-- the backward reference of B pictures is the last anchor
abbrev pub has_backward : State → ℕ → Bool
has_backward st kind = is_b kind && nat_le 1 st.anchors

-- forward top, forward bottom, backward top, backward bottom
abbrev pub references_for : State → ℕ → ℕ → List Bool
references_for st kind structure =
    has_forward st kind structure 1 ∷ has_forward st kind structure 2 ∷ has_backward st kind ∷ has_backward st kind ∷ []

-- a picture that begins: whether it is a second field, is dropped, and has slices that stay unread; and its references
abbrev pub begun_open : PictureInfo → PictureExtension → Bool → Bool → Bool → List Bool → Open
begun_open info extension second_field dropped slices_unread references = record {
  info = info;
  extension = extension;
  second_field = second_field;
  dropped = dropped;
  slices_unread = slices_unread;
  references = references;
  has_slice = false;
  row = 0;
  covered = 0;
  large_macroblocks = 0;
  crowded_row = 0;
}

-- one that begins here
abbrev pub opened : State → PictureInfo → PictureExtension → Open
opened st info extension =
    begun_open info extension (is_some st.waiting) (drops st info.kind) (st.headers_only || drops st info.kind)
    (references_for st info.kind extension.structure)

-- how many large macroblocks the first row has that has more than two, or 0: a row above, or this one
abbrev pub crowded_by : Open → ℕ
crowded_by p = if nat_lt 0 p.crowded_row then p.crowded_row else if nat_lt 2 p.large_macroblocks then p.large_macroblocks else 0

-- ---- states

-- nothing was read yet
abbrev pub at_first : State
at_first = record {
  first = None;
  sequence = None;
  intra = default_matrix true;
  non_intra = default_matrix false;
  closed_gop = false;
  anchors = 0;
  waiting = None;
  headers_only = false;
  picture = None;
}

-- a matrix that is loaded, or another one
abbrev pub loaded_or : Option (List ℕ) → List ℕ → List ℕ
loaded_or (Some matrix) other = matrix
loaded_or None other = other

abbrev pub first_or : Option Sequence → Sequence → Sequence
first_or (Some first) s = first
first_or None s = s

-- behind a sequence header with its extension: both matrices are the default ones unless it loads them (clause 6.3.3)
abbrev pub after_sequence : State → Sequence → State
after_sequence st s = record st {
  first = Some (first_or st.first s);
  sequence = Some s;
  intra = loaded_or s.info.load_intra (default_matrix true);
  non_intra = loaded_or s.info.load_non_intra (default_matrix false);
  picture = None;
}

abbrev pub after_group : State → GroupInfo → State
after_group st g = record st { closed_gop = g.closed_gop; picture = None }

-- one anchor more, counted up to 2
abbrev pub one_anchor_more : ℕ → ℕ
one_anchor_more anchors = if nat_lt anchors 2 then anchors + 1 else 2

-- behind a picture header with its extension: a frame picture and a second field of an anchor make it one anchor more,
-- and a first field waits
abbrev pub after_picture : State → PictureInfo → PictureExtension → State
after_picture st info extension =
    let ends = is_frame extension || is_some st.waiting in
    record st {
      anchors = if ends && not (is_b info.kind) then one_anchor_more st.anchors else st.anchors;
      waiting = if ends then None else Some (record { kind = info.kind; structure = extension.structure });
      picture = Some (opened st info extension);
    }

-- behind a quant matrix extension (clause 6.3.11)
abbrev pub after_matrices : State → MatrixInfo → State
after_matrices st m = record st { intra = loaded_or m.intra st.intra; non_intra = loaded_or m.non_intra st.non_intra }

-- a slice of a row, with so many large macroblocks
abbrev pub with_slice : Option Open → ℕ → ℕ → ℕ → Option Open
with_slice None row covered large = None
with_slice (Some p) row covered large =
    if nat_eq row p.row
    then Some (record p { has_slice = true; covered = covered; large_macroblocks = p.large_macroblocks + large })
    else Some (record p { has_slice = true; row = row; covered = covered; large_macroblocks = large; crowded_row = crowded_by p })

-- behind a slice of a row: the next uncovered macroblock
abbrev pub after_slice : State → ℕ → ℕ → ℕ → State
after_slice st row covered large = record st { picture = with_slice st.picture row covered large }

-- a slice of a row that stays unread
abbrev pub with_unread_slice : Option Open → ℕ → Option Open
with_unread_slice None row = None
with_unread_slice (Some p) row = Some (record p { has_slice = true; row = row })

abbrev pub after_unread_slice : State → ℕ → State
after_unread_slice st row = record st { picture = with_unread_slice st.picture row }

-- no picture is open any more
abbrev pub after_end : State → State
after_end st = record st { picture = None }

-- ---- questions

-- each macroblock of the picture that is open was read, unless its slices stay unread
abbrev pub is_complete : Option Sequence → Option Open → Bool
is_complete (Some s) (Some p) = p.slices_unread || nat_eq p.covered (columns_of s * picture_rows s p)
is_complete (Some s) None = true
is_complete None p = true

-- a quant matrix extension may stand here: behind a picture coding extension and before the first slice
abbrev pub takes_matrices : Option Open → Bool
takes_matrices None = false
takes_matrices (Some p) = not p.has_slice

-- a sequence header says the size, scan and chroma format of the first (clause 6.1.1.6)
abbrev pub is_same_sequence : Option Sequence → Sequence → Bool
is_same_sequence None s = true
is_same_sequence (Some first) s =
    nat_eq (width_of first) (width_of s)
    && nat_eq (height_of first) (height_of s)
    && beq first.extension.progressive_sequence s.extension.progressive_sequence
    && nat_eq first.extension.chroma_format s.extension.chroma_format

-- the sequence header in force is that of a progressive sequence
abbrev pub is_progressive : Option Sequence → Bool
is_progressive None = false
is_progressive (Some s) = s.extension.progressive_sequence

-- no first field waits for its second
abbrev pub none_waits : Option FirstField → Bool
none_waits None = true
none_waits (Some f) = false

-- the type of a second field: I or P behind I, else that of the first field (clause 6.1.1.4.1)
abbrev pub may_follow : ℕ → ℕ → Bool
may_follow first kind = nat_eq kind first || (nat_eq first 1 && nat_eq kind 2)

-- the picture is the second field, where one is due: a field of the other parity and of a type that may follow
abbrev pub is_second_field_due : Option FirstField → PictureInfo → PictureExtension → Bool
is_second_field_due None info extension = true
is_second_field_due (Some f) info extension =
    not (is_frame extension) && (not (nat_eq extension.structure f.structure) && may_follow f.kind info.kind)

-- a P picture has an anchor, or it is a second field
abbrev pub has_anchor : State → PictureInfo → Bool
has_anchor st info = not (nat_eq info.kind 2) || (is_some st.waiting || nat_le 1 st.anchors)

-- ---- what slices are read by

unfoldable pub slice_setup : State → Sequence → Open → SliceSetup
slice_setup st s p = record {
  context = record {
    kind = p.info.kind;
    second = p.second_field;
    columns = columns_of s;
    extension = p.extension;
    intra = st.intra;
    non_intra = st.non_intra;
  };
  dims = dims_of s;
  references = p.references;
}
