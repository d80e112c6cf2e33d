-- Strands: what reads, by the decoding process, and which rule a strand keeps.
use Rattle.std.specs.Prelude.{ℕ, ◌+◌, Bool, true, false, ◌&&◌, ◌||◌, not, nat_eq, nat_le, List, [], ◌∷◌, ◌++◌, map, drop, length, is_none, Option, Some, None, Ok, Err, if◌then◌else◌}
use Rattle.std.specs.Bool.{beq}
use Rattle.m2v_model.specs.declared.state.Sequence.{Sequence}
use Rattle.m2v_model.specs.Units.{Units, cut, joined}
use Rattle.m2v_model.specs.States.{is_same_sequence}
use Rattle.m2v_model.specs.Streams.{value_of}
use Rattle.m2v_model.specs.Pieces.{is_end, limit, trimmed}
use Rattle.m2v_model.specs.Pictures.{Picture, Pictures, pictures_in}
use Rattle.m2v_model.specs.Decoding.{low_delay_of, shown}
use Rattle.m2v_model.specs.ByPieces.{Course, text_read}
use Rattle.m2v_law_group.specs.Groups.{end_code}
use Rattle.m2v_law_group.specs.Chosen.{anchors_behind, is_leading}
use Rattle.m2v_law_seam.specs.Spans.{Span}
use Rattle.m2v_law_seam.specs.Seams.{has_own_head, bytes_or_none}

-- ---- what reads

-- what is read of bytes with an end code behind them
abbrev pub read_of : List ℕ → Course
read_of bytes = text_read (bytes ++ end_code)

-- no fault was met
abbrev pub is_read : Course → Bool
is_read (Ok x) = true
is_read (Err f) = false

-- the pictures that it tells
abbrev pub pictures_of : Course → Pictures
pictures_of (Ok x) = pictures_in x.0
pictures_of (Err f) = []

-- its first sequence header
abbrev pub first_in : Course → Option Sequence
first_in (Ok x) = (x.1).state.first
first_in (Err f) = None

-- how many frames it shows
abbrev pub frames_in : Course → ℕ
frames_in x = length (shown (low_delay_of (first_in x)) (pictures_of x))

-- pieces none of which passes a limit
unfoldable pub all_fit : List (List ℕ) → Bool
all_fit [] = true
all_fit (p ∷ ps) = is_none (limit 0 0 p) && all_fit ps

-- bytes begin with a sequence header
abbrev pub begins_sequence : List ℕ → Bool
begins_sequence (a ∷ b ∷ c ∷ value ∷ bytes) = nat_eq a 0 && (nat_eq b 0 && (nat_eq c 1 && nat_eq value 0xB3))
begins_sequence _ = false

-- a sequence end code is among units
unfoldable pub has_end : Units → Bool
has_end [] = false
has_end (u ∷ us) = is_end (value_of u) || has_end us

-- bytes are the prefix of a start code, or end in it
abbrev pub is_prefix : List ℕ → Bool
is_prefix (a ∷ b ∷ c ∷ []) = nat_eq a 0 && (nat_eq b 0 && nat_eq c 1)
is_prefix _ = false

-- bytes end in the prefix of a start code
unfoldable pub ends_open : List ℕ → Bool
ends_open [] = false
ends_open (b ∷ bytes) = is_prefix (b ∷ bytes) || ends_open bytes

-- the last unit ends, behind its start code, in the prefix of another one, which with the next byte would begin a unit
unfoldable pub last_open : Units → Bool
last_open [] = false
last_open (u ∷ []) = ends_open (drop 4 u)
last_open (u ∷ v ∷ us) = last_open (v ∷ us)

-- Bytes that read: they begin with a sequence header, no end code is among them, a start code can follow them, and with an
-- end code behind them they are read without a fault. So their last picture is complete, and no first field waits.
abbrev pub reads : List ℕ → Bool
reads bytes = begins_sequence bytes && (not (has_end (cut 0 bytes).1) && (not (last_open (cut 0 bytes).1) && is_read (read_of bytes)))

-- the most bytes that a span may have: its pieces as they are handed on, and the head where it has none of its own
abbrev pub most_span : ℕ
most_span = 67108864

-- how many bytes of a head that isn't its own a span may need
abbrev pub head_bytes : Span → ℕ
head_bytes s = if has_own_head s.pieces then 0 else length (bytes_or_none s.head)

-- a span is within the limits
abbrev pub is_short : Span → Bool
is_short s = all_fit s.pieces && nat_le (head_bytes s + length (joined (map trimmed s.pieces))) most_span

-- ---- the rule of a strand

-- a picture that may stand in a strand behind so many anchors: behind none an I picture, behind one no B picture
abbrev pub may_stand : ℕ → Picture → Bool
may_stand anchors p = (not (nat_eq anchors 0) || nat_eq p.info.kind 1) && not (is_leading anchors p)

-- each picture may stand where it does, behind so many anchors before the first one
unfoldable pub all_stand : ℕ → Pictures → Bool
all_stand anchors [] = true
all_stand anchors (p ∷ ps) = may_stand anchors p && all_stand (anchors_behind anchors p) ps

-- the pictures of a strand: the first frame is an I picture or two I fields, and no B picture stands before the second anchor
abbrev pub keeps_rule : Pictures → Bool
keeps_rule ps = all_stand 0 ps

-- ---- headers that agree

-- a sequence header can follow another one in one stream: size, scan and chroma format, frame rate and low_delay are the same
abbrev pub are_joint : Sequence → Sequence → Bool
are_joint a b =
    is_same_sequence (Some a) b
    && nat_eq a.info.frame_rate_code b.info.frame_rate_code
    && nat_eq a.extension.rate_n b.extension.rate_n
    && nat_eq a.extension.rate_d b.extension.rate_d
    && beq a.extension.low_delay b.extension.low_delay

-- a header agrees with the first one that was kept, where there is one
abbrev pub agrees : Option Sequence → Option Sequence → Bool
agrees None s = true
agrees (Some a) None = false
agrees (Some a) (Some b) = are_joint a b

-- ---- a strand

-- bytes are a strand, the opening one or another: they read, their first header agrees with the first one that was kept, and
-- they keep the rule of a strand, which the opening one hasn't
abbrev pub is_strand : Bool → Option Sequence → List ℕ → Bool
is_strand opening first bytes =
    reads bytes && (agrees first (first_in (read_of bytes)) && (opening || keeps_rule (pictures_of (read_of bytes))))
