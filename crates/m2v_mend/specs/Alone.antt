-- What the pieces of a span tell of a strand that would begin with it.
use Rattle.std.specs.Prelude.{◌≡◌, ℕ, ◌+◌, ◌-◌, ◌*◌, ◌/◌, ◌%◌, ◌≤◌, Bool, true, false, ◌&&◌, not, List, ◌∷◌, ◌++◌, max, Option, Some, None, Result, Ok, Err, if◌then◌else◌, slice_index}
use Rattle.m2v_model.specs.declared.fault.FaultKind.TheVariants.{NoSequence, Truncated, Unsupported, MissingReference, SequenceChanged}
use Rattle.m2v_model.specs.declared.state.Sequence.{Sequence}
use Rattle.m2v_model.specs.Units.{joined}
use Rattle.m2v_model.specs.ByPieces.{Course, at_start}
use Rattle.m2v_decode.specs.m2v_dec_piece.declared.answer.Fault.{Fault}
use Rattle.m2v_decode.specs.m2v_dec_piece.declared.answer.Piece.{Piece}
use Rattle.m2v_law_seam.specs.Spans.{units_of, units_in, picture_count, begins_kind, has_matrices, Span}
use Rattle.m2v_law_seam.specs.Seams.{leading, opened_pieces, opened}
use Rattle.m2v_law_seam.specs.Strands.{all_fit, is_short, is_strand, is_read, last_open}
use Rattle.m2v_law_seam.specs.Faults.{has_head, begins_entry, picture_place, matrices_place, fault_opened, is_other, header_of, header_place, read_at}
use Rattle.m2v_law_seam.specs.Faults as faults
use Rattle.m2v_mend.specs.declared.member.Member.{Member}
use Rattle.m2v_mend.specs.declared.refusal.Refusal.{Refusal}
use Rattle.m2v_mend.specs.declared.refusal.Refusal.TheVariants as refusals
use Rattle.m2v_mend.specs.Kept.{bodies}
use Rattle.m2v_mend.specs.Making.{fault_told}
use Rattle.m2v_mend.specs.Strand.{StrandState, wholes_of, ends_of, IsAt}

-- ---- the first piece that has something

-- no piece before it has a picture
pub record HasFirstPicture (ms : List Member) (m : Member) : Type 0 where
  pub front : List Member
  pub later : List Member
  pub are : ms ≡ front ++ m ∷ later
  pub none : picture_count (units_in (bodies front)) ≡ 0
  pub some : 1 ≤ m.info.pictures

abbrev pub PictureTold : List Member → Option Member → Type 0
PictureTold ms None = picture_count (units_in (bodies ms)) ≡ 0
PictureTold ms (Some m) = HasFirstPicture ms m

-- no piece before it has a quant matrix extension
pub record HasFirstMatrices (ms : List Member) (m : Member) : Type 0 where
  pub front : List Member
  pub later : List Member
  pub are : ms ≡ front ++ m ∷ later
  pub none : has_matrices (units_in (bodies front)) ≡ false
  pub some : m.info.matrices ≡ true

abbrev pub MatricesTold : List Member → Option Member → Type 0
MatricesTold ms None = has_matrices (units_in (bodies ms)) ≡ false
MatricesTold ms (Some m) = HasFirstMatrices ms m

-- ---- the temporal reference

-- a byte, or 0
abbrev pub byte_of : List ℕ → ℕ → ℕ
byte_of bytes at = slice_index bytes at

-- of a picture unit that begins at a byte
abbrev pub reference_from : List ℕ → ℕ → ℕ
reference_from bytes place = (4 * byte_of bytes (place + 4) + byte_of bytes (place + 5) / 64) % 1024

-- ---- faults

-- there is a header, the span is an entry, and its first picture is an I picture
abbrev pub is_able : Span → Bool
is_able s = has_head s && (begins_entry s.pieces && begins_kind 1 s.pieces)

-- it is so, or this is what is missing
abbrev pub UnableTold : Span → Option Fault → Type 0
UnableTold s None = (has_head s ≡ true) × (begins_entry s.pieces ≡ true) × (begins_kind 1 s.pieces ≡ true)
UnableTold s (Some f) = (is_able s ≡ false) × (fault_told f ≡ (if not (has_head s) then (NoSequence, 8 * s.place) else (MissingReference, picture_place s)))

-- no quant matrix extension stands in its leading pieces, or that is the fault
abbrev pub LeadingTold : Span → Option Fault → Type 0
LeadingTold s None = has_matrices (units_in (leading s.pieces)) ≡ false
LeadingTold s (Some f) = (has_matrices (units_in (leading s.pieces)) ≡ true) × (fault_told f ≡ (Unsupported, matrices_place s))

-- what else is asked of a span with which a strand begins
abbrev pub can_begin : Option Sequence → Span → Bool
can_begin first s = not (has_matrices (units_in (leading s.pieces))) && ((is_short s && all_fit (opened_pieces s)) && is_strand false first (opened s))

-- its fault, where its header agrees
abbrev pub fault_read : Span → faults.Fault
fault_read s =
    if has_matrices (units_in (leading s.pieces)) then (Unsupported, matrices_place s)
    else if not (all_fit (opened_pieces s)) then (Unsupported, 8 * s.place)
    else fault_opened s

-- a strand begins with the span, and its pieces were put behind others; or none does, and this is its fault where its header
-- agrees
abbrev pub TriedTold : Option Sequence → Span → List Piece → List Piece → Result StrandState Fault → Type 0
TriedTold first s old new (Ok z) = (can_begin first s ≡ true) × IsAt z (opened s) × (z.opening ≡ false) × (joined (wholes_of new) ≡ joined (wholes_of old) ++ opened s)
TriedTold first s old new (Err f) = (can_begin first s ≡ false) × (fault_told f ≡ fault_read s) × (new ≡ old)

-- the fault with that of a header that doesn't agree before it
abbrev pub fault_headed : Option Sequence → Span → faults.Fault → faults.Fault
fault_headed first s f = if is_other first (header_of s) then (SequenceChanged, header_place s) else f

-- ---- what is read

-- why pieces aren't a strand: they end in the prefix of a start code, or they don't, and their course has a fault, or none
abbrev pub course_at_start : List Piece → Course
course_at_start ps = read_at at_start 0 (ends_of ps) (wholes_of ps)

abbrev pub is_open : List Piece → Bool
is_open ps = last_open (units_of (joined (wholes_of ps)))

abbrev pub IsRefusal : List Piece → Refusal → Type 0
IsRefusal ps refusals.Open = is_open ps ≡ true
IsRefusal ps (refusals.Fault f) = (is_open ps ≡ false) × (course_at_start ps ≡ Err (f.kind, f.place))
IsRefusal ps (refusals.Rule place) = (is_open ps ≡ false) × (is_read (course_at_start ps) ≡ true)
IsRefusal ps refusals.Other = (is_open ps ≡ false) × (is_read (course_at_start ps) ≡ true)

-- pieces are a strand by themselves, which stands then; or they are none, and this is why, by the fault of what they read
abbrev pub ReadTold : Option Sequence → List Piece → Result StrandState Refusal → Type 0
ReadTold first ps (Ok z) = (is_strand false first (joined (wholes_of ps)) ≡ true) × IsAt z (joined (wholes_of ps)) × (z.opening ≡ false)
ReadTold first ps (Err x) = (is_strand false first (joined (wholes_of ps)) ≡ false) × IsRefusal ps x

-- the fault of a span that begins at a byte and has so many
abbrev pub FaultOf : ℕ → ℕ → Refusal → Fault → Type 0
FaultOf place bytes refusals.Open f = fault_told f ≡ (Truncated, 8 * (place + bytes) - 24)
FaultOf place bytes (refusals.Fault x) f = fault_told f ≡ (x.kind, max (8 * place) x.place)
FaultOf place bytes (refusals.Rule at) f = fault_told f ≡ (MissingReference, 8 * place)
FaultOf place bytes refusals.Other f = fault_told f ≡ (MissingReference, 8 * place)

-- the pieces are a strand and within the limits, and were put behind others; or not, and this is the fault
abbrev pub StrandTold : Option Sequence → Span → List Piece → List Piece → Result StrandState Fault → Type 0
StrandTold first s old new (Ok z) =
    (all_fit (opened_pieces s) ≡ true) × (is_strand false first (opened s) ≡ true) × IsAt z (opened s) × (z.opening ≡ false)
    × (joined (wholes_of new) ≡ joined (wholes_of old) ++ opened s)
StrandTold first s old new (Err f) =
    ((all_fit (opened_pieces s) && is_strand false first (opened s)) ≡ false)
    × (fault_told f ≡ (if not (all_fit (opened_pieces s)) then (Unsupported, 8 * s.place) else fault_opened s)) × (new ≡ old)
