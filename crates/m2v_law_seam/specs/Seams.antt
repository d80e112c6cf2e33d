-- What changes in bytes: within a strand temporal references alone; where a strand begins also what stands before its first
-- frame, and the B pictures behind it.
use Rattle.std.specs.Prelude.{ℕ, zero, suc, ◌+◌, ◌-◌, ◌*◌, ◌/◌, ◌%◌, Bool, false, ◌&&◌, nat_eq, nat_le, List, [], ◌∷◌, ◌++◌, map, take, drop, length, slice_index, Option, Some, None, if◌then◌else◌}
use Rattle.m2v_model.specs.Units.{Units, joined}
use Rattle.m2v_law_group.specs.Groups.{is_picture, is_group, has_sequence, from_sequence, broken_header, coded_pictures}
use Rattle.m2v_law_seam.specs.Spans.{units_of, units_in, has_group, is_b_piece, field_of, Span}

-- ---- temporal references

-- temporal_reference, the ten bits behind the start code of a picture unit (clause 6.2.3)
abbrev pub reference_of : List ℕ → ℕ
reference_of u = 4 * slice_index u 4 + slice_index u 5 / 64

-- picture_coding_type, the three bits behind it
abbrev pub type_of : List ℕ → ℕ
type_of u = slice_index u 5 / 8 % 8

-- a picture unit of type I, P or B
abbrev pub is_typed : List ℕ → Bool
is_typed u = is_picture u && (nat_le 6 (length u) && (nat_le 1 (type_of u) && nat_le (type_of u) 3))

-- a picture unit with another temporal reference: its type and what follows stay
abbrev pub with_reference : ℕ → List ℕ → List ℕ
with_reference n u = take 4 u ++ (n / 4) ∷ (64 * (n % 4) + slice_index u 5 % 64) ∷ drop 6 u

-- a unit with its temporal reference lowered, modulo 1024
unfoldable pub lowered_unit : ℕ → List ℕ → List ℕ
lowered_unit zero u = u
lowered_unit (suc n) u = if is_typed u then with_reference ((reference_of u % 1024 + 1024 - suc n) % 1024) u else u

-- units with their temporal references lowered
abbrev pub lowered : ℕ → Units → Units
lowered low us = map (lowered_unit low) us

-- by how much those of a span are lowered, where this was it before: they count from 0 behind each group header
abbrev pub low_behind : ℕ → List (List ℕ) → ℕ
low_behind low [] = low
low_behind low (p ∷ ps) = if has_group (units_of p) then 0 else low

-- ---- behind a strand

-- a span's bytes behind those of a strand; at the beginning they count from the first sequence header on
unfoldable pub text_behind : List ℕ → ℕ → List (List ℕ) → List ℕ
text_behind [] low ps = joined (lowered low (from_sequence (units_in ps)))
text_behind (b ∷ strand) low ps = joined (lowered low (units_in ps))

-- ---- where a strand begins

-- the group header tells that the pictures before it aren't there; a short one stays, and isn't read
unfoldable pub marked_unit : List ℕ → List ℕ
marked_unit u = if is_group u && nat_le 8 (length u) then broken_header u else u

-- the temporal reference of the first picture; 0 where it can't be told
abbrev pub reference_at : List (List ℕ × List ℕ) → ℕ
reference_at [] = 0
reference_at (p ∷ ps) = if nat_le 6 (length p.0) then reference_of p.0 % 1024 else 0

-- that of the first picture of pieces
abbrev pub first_reference : List (List ℕ) → ℕ
first_reference ps = reference_at (coded_pictures (units_in ps))

-- how many pieces the first frame has: two where its first picture is a field
abbrev pub frame_pieces : List (List ℕ) → ℕ
frame_pieces [] = 0
frame_pieces (p ∷ ps) = if nat_eq (field_of p) 0 then 1 else 2

-- the pieces with B pictures that stand first, and the pieces behind them
unfoldable pub b_first : List (List ℕ) → List (List ℕ)
b_first [] = []
b_first (p ∷ ps) = if is_b_piece p then p ∷ b_first ps else []

-- the pieces behind them
unfoldable pub behind_b : List (List ℕ) → List (List ℕ)
behind_b [] = []
behind_b (p ∷ ps) = if is_b_piece p then behind_b ps else p ∷ ps

-- the leading pieces: those with B pictures right behind the first frame
abbrev pub leading : List (List ℕ) → List (List ℕ)
leading ps = b_first (drop (frame_pieces ps) ps)

-- a span without them
abbrev pub without_leading_pieces : List (List ℕ) → List (List ℕ)
without_leading_pieces ps = take (frame_pieces ps) ps ++ behind_b (drop (frame_pieces ps) ps)

-- the first piece of a span has a sequence header
abbrev pub has_own_head : List (List ℕ) → Bool
has_own_head [] = false
has_own_head (p ∷ ps) = has_sequence (units_of p)

-- no byte where there are none
abbrev pub bytes_or_none : Option (List ℕ) → List ℕ
bytes_or_none None = []
bytes_or_none (Some bytes) = bytes

-- a strand's first piece: from its own first sequence header on, or behind the head; its group headers are marked
abbrev pub first_opened : ℕ → Option (List ℕ) → List ℕ → List ℕ
first_opened low head p =
    if has_sequence (units_of p) then joined (map marked_unit (lowered low (from_sequence (units_of p))))
    else bytes_or_none head ++ joined (map marked_unit (lowered low (units_of p)))

-- its other pieces
abbrev pub later_opened : ℕ → List (List ℕ) → List (List ℕ)
later_opened low ps = map (λ p. joined (lowered low (units_of p))) ps

-- the pieces of a strand, of which the first one has its headers
abbrev pub pieces_opened : ℕ → Option (List ℕ) → List (List ℕ) → List (List ℕ)
pieces_opened low head [] = []
pieces_opened low head (p ∷ ps) = first_opened low head p ∷ later_opened low ps

-- the pieces with which a strand begins: its temporal references are lowered by the first one
abbrev pub opened_pieces : Span → List (List ℕ)
opened_pieces s = pieces_opened (first_reference s.pieces) s.head (without_leading_pieces s.pieces)

-- the bytes with which a strand begins
abbrev pub opened : Span → List ℕ
opened s = joined (opened_pieces s)
