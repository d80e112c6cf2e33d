-- Why a span is left out: the fault of the stream that it would make, and its place in the input, in bits from its first byte.
use Rattle.std.specs.Prelude.{ℕ, zero, suc, ◌+◌, ◌-◌, ◌*◌, Bool, true, false, ◌&&◌, ◌||◌, not, List, [], ◌∷◌, ◌++◌, take, drop, length, max, Option, Some, None, Ok, Err, if◌then◌else◌, is_some}
use Rattle.m2v_model.specs.declared.fault.FaultKind.{FaultKind}
use Rattle.m2v_model.specs.declared.fault.FaultKind.TheVariants.{NoSequence, Truncated, Unsupported, SequenceChanged, MissingReference}
use Rattle.m2v_model.specs.declared.state.Sequence.{Sequence}
use Rattle.m2v_model.specs.Units.{Units, cut, joined}
use Rattle.m2v_model.specs.Pictures.{Pictures}
use Rattle.m2v_model.specs.Pieces.{before_sequence}
use Rattle.m2v_model.specs.ByPieces.{Between, Course, at_start, piece_read, continued, end_read, text_read}
use Rattle.m2v_law_group.specs.Groups.{is_picture, has_picture, from_sequence}
use Rattle.m2v_law_group.specs.Chosen.{anchors_behind}
use Rattle.m2v_law_seam.specs.Spans.{units_in, is_entry, begins_kind, is_matrices, has_matrices, extensions_first, Span, end_of_span}
use Rattle.m2v_law_seam.specs.Seams.{text_behind, frame_pieces, leading, has_own_head, bytes_or_none, opened_pieces}
use Rattle.m2v_law_seam.specs.Strands.{read_of, pictures_of, last_open, all_fit, is_short, may_stand, agrees}

-- a kind, and the place of a fault in bits of the input
abbrev pub Fault : Type 0
Fault = FaultKind × ℕ

-- ---- places among units

-- the units before picture unit number n; all of them where there is none
unfoldable pub before_picture : ℕ → Units → Units
before_picture n [] = []
before_picture zero (u ∷ us) = if is_picture u then [] else u ∷ before_picture 0 us
before_picture (suc n) (u ∷ us) = u ∷ before_picture (if is_picture u then n else suc n) us

-- the units before the first quant matrix extension
unfoldable pub before_matrices : Units → Units
before_matrices [] = []
before_matrices (u ∷ us) = if is_matrices u then [] else u ∷ before_matrices us

-- how many pictures stand before the first that may not stand in a strand
unfoldable pub standing : ℕ → Pictures → ℕ
standing anchors [] = 0
standing anchors (p ∷ ps) = if may_stand anchors p then suc (standing (anchors_behind anchors p) ps) else 0

-- ---- a span that doesn't read behind a strand

-- a place of bytes that end where a span ends, as one of the input
abbrev pub place_behind : Span → List ℕ → ℕ → ℕ
place_behind s bytes place = 8 * end_of_span s + place - 8 * length bytes

-- the first fault, or the picture that may not stand in a strand
abbrev pub fault_by : Span → List ℕ → Course → Fault
fault_by s bytes (Err f) = (f.0, place_behind s bytes f.1)
fault_by s bytes (Ok x) = (MissingReference, place_behind s bytes (8 * length (joined (before_picture (standing 0 (pictures_of (Ok x))) (cut 0 bytes).1))))

-- a text that ends in the prefix of a start code ends inside a unit
abbrev pub fault_behind : Span → List ℕ → Fault
fault_behind s bytes =
    if last_open (cut 0 bytes).1 then (Truncated, 8 * end_of_span s - 24) else fault_by s bytes (read_of bytes)

-- ---- a span with which no strand begins

-- the ends of pieces in the input, of which the first begins at a byte
unfoldable pub ends_from : ℕ → List (List ℕ) → List ℕ
ends_from at [] = []
ends_from at (p ∷ ps) = (at + length p) ∷ ends_from (at + length p) ps

-- the ends of those pieces of a span that aren't leading ones
abbrev pub ends_kept : Span → List ℕ
ends_kept s =
    let ends = ends_from s.place s.pieces in
    take (frame_pieces s.pieces) ends ++ drop (frame_pieces s.pieces + length (leading s.pieces)) ends

-- pieces, one after another, each of which ends at a byte of the input; and then the end of the text
unfoldable pub read_at : Between → ℕ → List ℕ → List (List ℕ) → Course
read_at b end [] ps = end_read b end
read_at b end (e ∷ ends) [] = end_read b end
read_at b end (e ∷ ends) (p ∷ ps) = continued (piece_read b e p) (λ next. read_at next e ends ps)

-- its fault, in a head that is copied at the span's first unit
abbrev pub opened_by : Span → Course → Fault
opened_by s (Err f) = (f.0, max (8 * s.place) f.1)
opened_by s (Ok x) = (MissingReference, 8 * s.place)

-- the fault of what would be a strand that begins with the span
abbrev pub fault_opened : Span → Fault
fault_opened s =
    if last_open (cut 0 (joined (opened_pieces s))).1 then (Truncated, 8 * end_of_span s - 24)
    else opened_by s (read_at at_start s.place (ends_kept s) (opened_pieces s))

-- the units of a span's sequence header, in its own first piece or in its head
abbrev pub header_units : Span → Units
header_units s = if has_own_head s.pieces then from_sequence (units_in s.pieces) else (cut 0 (bytes_or_none s.head)).1

-- a sequence header with the extension units right behind it
abbrev pub only_header : Units → Units
only_header [] = []
only_header (u ∷ us) = u ∷ extensions_first us

-- what a sequence header says by itself, where it can be read
abbrev pub header_by : Course → Option Sequence
header_by (Ok x) = (x.1).state.first
header_by (Err f) = None

-- the sequence header with which a strand would begin here
abbrev pub header_of : Span → Option Sequence
header_of s = header_by (text_read (joined (only_header (header_units s))))

-- a header that can be read doesn't agree
abbrev pub is_other : Option Sequence → Option Sequence → Bool
is_other first None = false
is_other first (Some s) = not (agrees first (Some s))

-- where its sequence header stands: one that is copied, at the span's first unit
abbrev pub header_place : Span → ℕ
header_place s = if has_own_head s.pieces then 8 * (s.place + length (before_sequence (units_in s.pieces))) else 8 * s.place

-- where its first picture stands, or its first unit
abbrev pub picture_place : Span → ℕ
picture_place s =
    if has_picture (units_in s.pieces) then 8 * (s.place + length (joined (before_picture 0 (units_in s.pieces)))) else 8 * s.place

-- where the first quant matrix extension of its leading pieces stands
abbrev pub matrices_place : Span → ℕ
matrices_place s =
    8 * (s.place + length (joined (take (frame_pieces s.pieces) s.pieces)) + length (joined (before_matrices (units_in (leading s.pieces)))))

-- there is a sequence header with which it could begin
abbrev pub has_head : Span → Bool
has_head s = has_own_head s.pieces || is_some s.head

-- the span begins with a sequence or group header
abbrev pub begins_entry : List (List ℕ) → Bool
begins_entry [] = false
begins_entry (p ∷ ps) = is_entry p

-- the fault of a span where no strand is under way: what is missing of a beginning, in this order
abbrev pub fault_alone : Option Sequence → Span → Fault
fault_alone first s =
    if not (has_head s) then (NoSequence, 8 * s.place)
    else if not (begins_entry s.pieces && begins_kind 1 s.pieces) then (MissingReference, picture_place s)
    else if is_other first (header_of s) then (SequenceChanged, header_place s)
    else if has_matrices (units_in (leading s.pieces)) then (Unsupported, matrices_place s)
    else if not (all_fit (opened_pieces s)) then (Unsupported, 8 * s.place)
    else fault_opened s

-- ---- a span that is left out

-- a strand is under way; at the text's beginning one is, for a span with a sequence header
abbrev pub is_under_way : Option (List ℕ) → Span → Bool
is_under_way None s = false
is_under_way (Some []) s = has_own_head s.pieces
is_under_way (Some (b ∷ strand)) s = true

-- the bytes of the strand that is under way
abbrev pub strand_bytes : Option (List ℕ) → List ℕ
strand_bytes None = []
strand_bytes (Some strand) = strand

-- its fault, behind a strand where one is under way, and temporal references are lowered there
abbrev pub fault_of : Option (List ℕ) → ℕ → Option Sequence → Span → Fault
fault_of strand low first s =
    if not (is_short s) then (Unsupported, 8 * s.place)
    else if is_under_way strand s then fault_behind s (strand_bytes strand ++ text_behind (strand_bytes strand) low s.pieces)
    else fault_alone first s
