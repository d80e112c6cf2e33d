-- The groups of a stream, and the text of a cut: whole groups copied as they stand, behind the last sequence header
-- before them. Groups are numbered from 0 by their group headers (clause 6.1.1.7).
use Rattle.std.specs.Prelude.{ℕ, zero, suc, ◌+◌, ◌-◌, ◌*◌, ◌/◌, ◌%◌, Bool, false, ◌&&◌, ◌||◌, not, nat_eq, nat_le, List, [], ◌∷◌, ◌++◌, take, drop, length, min, slice_index, Option, Some, None, if◌then◌else◌}
use Rattle.m2v_model.specs.Units.{Units, cut, joined, body}
use Rattle.m2v_model.specs.Looking.{number_from}
use Rattle.m2v_model.specs.Streams.{value_of}
use Rattle.m2v_model.specs.Pieces.{is_end, begins_piece, before_pieces}

-- ---- units by their values

abbrev pub is_picture : List ℕ → Bool
is_picture u = nat_eq (value_of u) 0x00

abbrev pub is_sequence : List ℕ → Bool
is_sequence u = nat_eq (value_of u) 0xB3

abbrev pub is_group : List ℕ → Bool
is_group u = nat_eq (value_of u) 0xB8

unfoldable pub has_picture : Units → Bool
has_picture [] = false
has_picture (u ∷ us) = is_picture u || has_picture us

unfoldable pub has_sequence : Units → Bool
has_sequence [] = false
has_sequence (u ∷ us) = is_sequence u || has_sequence us

-- how many group headers there are
unfoldable pub group_headers : Units → ℕ
group_headers [] = 0
group_headers (u ∷ us) = (if is_group u then 1 else 0) + group_headers us

-- ---- the units of a stream

unfoldable pub from_sequence : Units → Units
from_sequence [] = []
from_sequence (u ∷ us) = if is_sequence u then u ∷ us else from_sequence us

unfoldable pub to_end : Units → Units
to_end [] = []
to_end (u ∷ us) = if is_end (value_of u) then [] else u ∷ to_end us

-- the units of a text from its first sequence header on, up to the sequence end code
abbrev pub stream_units : List ℕ → Units
stream_units bytes = to_end (from_sequence (cut 0 bytes).1)

-- how many groups a text has
abbrev pub groups_in : List ℕ → ℕ
groups_in bytes = group_headers (stream_units bytes)

-- ---- where a group stands

-- the units before the header of group n; all of them where there is none
unfoldable pub before_group : ℕ → Units → Units
before_group n [] = []
before_group zero (u ∷ us) = if is_group u then [] else u ∷ before_group 0 us
before_group (suc n) (u ∷ us) = u ∷ before_group (if is_group u then n else suc n) us

-- the units from the header of group n on; none where there is none
unfoldable pub from_group : ℕ → Units → Units
from_group n [] = []
from_group zero (u ∷ us) = if is_group u then u ∷ us else from_group 0 us
from_group (suc n) (u ∷ us) = from_group (if is_group u then n else suc n) us

-- the place of a group's header, in bits from the first byte of the text
abbrev pub group_place : List ℕ → ℕ → ℕ
group_place bytes from = 8 * (length (before_pieces bytes) + length (joined (before_group from (stream_units bytes))))

-- ---- what stands in a cut

-- the units from the last sequence header on
unfoldable pub from_last_sequence : Units → Units
from_last_sequence [] = []
from_last_sequence (u ∷ us) = if is_sequence u && not (has_sequence us) then u ∷ us else from_last_sequence us

-- the units up to the piece that holds what follows them: without the header units behind their last picture
unfoldable pub up_to_piece : Units → Units
up_to_piece [] = []
up_to_piece (u ∷ us) = if begins_piece (value_of u) && not (has_picture (u ∷ us)) then [] else u ∷ up_to_piece us

-- units before a group header, up to its piece; all of them where none follows
abbrev pub up_to_group : Units → Units → Units
up_to_group us [] = us
up_to_group us (u ∷ behind) = up_to_piece us

-- of units that begin with a group header so many groups, or all where there are fewer
abbrev pub first_groups : ℕ → Units → Units
first_groups count us = up_to_group (before_group count us) (from_group count us)

-- the last byte of a time code with the two bits behind it, in which these tell that the group isn't closed and that the
-- pictures before it aren't there: closed_gop 0 and broken_link 1
abbrev pub with_broken_link : ℕ → ℕ
with_broken_link byte = 128 * (byte / 128) + 32 + byte % 32

-- a group header that tells so; all its other bits stay (clause 6.2.2.6)
abbrev pub broken_header : List ℕ → List ℕ
broken_header u = take 7 u ++ with_broken_link (slice_index u 7) ∷ drop 8 u

-- a group behind other units: where a picture is among these, its header tells that they aren't there
abbrev pub behind_cut : Units → Units → Units
behind_cut before [] = []
behind_cut before (u ∷ us) = (if has_picture before then broken_header u else u) ∷ us

-- the units of a cut: from the last sequence header before a group's header on, and so many groups, or those that are there
unfoldable pub cut_units : ℕ → ℕ → Units → Units
cut_units from count us =
    from_last_sequence (before_group from us) ++ behind_cut (before_group from us) (first_groups count (from_group from us))

-- the sequence end code
abbrev pub end_code : List ℕ
end_code = 0x00 ∷ 0x00 ∷ 0x01 ∷ 0xB7 ∷ []

-- the text of a cut: so many groups of a text, from number `from` on
abbrev pub cut_text : List ℕ → ℕ → ℕ → List ℕ
cut_text bytes from count = joined (cut_units from count (stream_units bytes)) ++ end_code

-- how many groups are chosen by it: by their headers
abbrev pub groups_chosen : List ℕ → ℕ → ℕ → ℕ
groups_chosen bytes from count = min count (groups_in bytes - from)

-- ---- which groups stand alone

-- a number that was looked at is there, and is this one
abbrev pub is_number : ℕ → Option ℕ → Bool
is_number n None = false
is_number n (Some m) = nat_eq m n

-- picture_coding_type is I; it stands 10 bits behind the start code (clause 6.2.3)
abbrev pub is_intra : List ℕ → Bool
is_intra u = is_number 1 (number_from 10 3 (body u))

-- a picture coding extension: its id is 8 (clause 6.2.3.1)
abbrev pub is_coding_extension : List ℕ → Bool
is_coding_extension u = nat_eq (value_of u) 0xB5 && is_number 8 (number_from 0 4 (body u))

-- picture_structure, 22 bits behind the start code of that extension: 1 for a top field, 2 for a bottom field, 3 for a frame
abbrev pub structure_of : List ℕ → Option ℕ
structure_of u = number_from 22 2 (body u)

-- the unit right behind others, or no byte
abbrev pub next_unit : Units → List ℕ
next_unit [] = []
next_unit (u ∷ us) = u

-- the picture units, each with the unit right behind it
unfoldable pub coded_pictures : Units → List (List ℕ × List ℕ)
coded_pictures [] = []
coded_pictures (u ∷ us) = if is_picture u then (u, next_unit us) ∷ coded_pictures us else coded_pictures us

-- a picture of type I and of this structure, by its unit and the picture coding extension right behind it
abbrev pub is_intra_of : ℕ → List ℕ × List ℕ → Bool
is_intra_of structure p = is_intra p.0 && (is_coding_extension p.1 && is_number structure (structure_of p.1))

abbrev pub begins_with : ℕ → List (List ℕ × List ℕ) → Bool
begins_with structure [] = false
begins_with structure (p ∷ ps) = is_intra_of structure p

-- the first frame of pictures is one of type I, or two fields of type I, in either order
unfoldable pub begins_intra : List (List ℕ × List ℕ) → Bool
begins_intra [] = false
begins_intra (p ∷ ps) =
    is_intra_of 3 p || (is_intra_of 1 p && begins_with 2 ps || is_intra_of 2 p && begins_with 1 ps)

-- Whether a group that begins with these units, behind others, can be cut out: between the last picture before it and its
-- header a sequence header stands, its header has its 27 bits (four bytes behind the start code), and its first frame, up
-- to the next group header, needs no other one.
abbrev pub stands_alone : Units → Units → Bool
stands_alone before [] = false
stands_alone before (u ∷ us) =
    not (has_picture (from_last_sequence before)) && (nat_le 8 (length u) && begins_intra (coded_pictures (before_group 0 us)))

-- whether a group of a text is there and stands alone
abbrev pub is_standalone : List ℕ → ℕ → Bool
is_standalone bytes from = stands_alone (before_group from (stream_units bytes)) (from_group from (stream_units bytes))
