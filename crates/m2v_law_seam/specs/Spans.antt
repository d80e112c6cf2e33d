-- How bytes are divided: into stretches by sequence end codes, these into pieces, and these into spans, which are kept or
-- left out as one.
use Rattle.std.specs.Prelude.{ℕ, ◌+◌, Bool, false, ◌&&◌, ◌||◌, not, nat_eq, nat_le, List, [], ◌∷◌, ◌++◌, map, length, Option, Some, None, if◌then◌else◌}
use Rattle.m2v_model.specs.declared.phase.Phase.TheVariants.{Headers}
use Rattle.m2v_model.specs.Units.{Units, cut, joined, body}
use Rattle.m2v_model.specs.Looking.{number_from}
use Rattle.m2v_model.specs.Streams.{value_of}
use Rattle.m2v_model.specs.Pieces.{is_end, grouped}
use Rattle.m2v_law_group.specs.Groups.{is_picture, group_headers, has_sequence, from_last_sequence, is_number, structure_of, coded_pictures}

-- ---- pieces by their units

-- the units of a piece
abbrev pub units_of : List ℕ → Units
units_of piece = (cut 0 piece).1

-- the units of pieces, one behind another
unfoldable pub units_in : List (List ℕ) → Units
units_in [] = []
units_in (p ∷ ps) = units_of p ++ units_in ps

-- how many picture units there are
unfoldable pub picture_count : Units → ℕ
picture_count [] = 0
picture_count (u ∷ us) = (if is_picture u then 1 else 0) + picture_count us

-- a group header is among units
abbrev pub has_group : Units → Bool
has_group us = nat_le 1 (group_headers us)

-- a piece with a sequence or group header: it stands before its picture, since behind that it would begin another piece
abbrev pub is_entry : List ℕ → Bool
is_entry p = has_sequence (units_of p) || has_group (units_of p)

-- ---- the picture of a piece, by its unit and the one right behind it

-- picture_coding_type is this one (clause 6.2.3)
abbrev pub is_kind : ℕ → List ℕ → Bool
is_kind kind u = is_number kind (number_from 10 3 (body u))

-- a number, or this one where there is none
abbrev pub number_or : ℕ → Option ℕ → ℕ
number_or n None = n
number_or n (Some m) = m

-- the first of pictures passes a test; none does where there is none
abbrev pub first_is : (List ℕ × List ℕ → Bool) → List (List ℕ × List ℕ) → Bool
first_is test [] = false
first_is test (p ∷ ps) = test p

-- the first picture of pieces is of a type
abbrev pub begins_kind : ℕ → List (List ℕ) → Bool
begins_kind kind ps = first_is (λ p. is_kind kind p.0) (coded_pictures (units_in ps))

-- the picture of a piece is a B picture
abbrev pub is_b_piece : List ℕ → Bool
is_b_piece p = first_is (λ x. is_kind 3 x.0) (coded_pictures (units_of p))

-- it is an I or P picture, which others may refer to
abbrev pub is_anchor_piece : List ℕ → Bool
is_anchor_piece p = first_is (λ x. is_kind 1 x.0 || is_kind 2 x.0) (coded_pictures (units_of p))

-- an extension unit (clause 6.2.2.2)
abbrev pub is_extension : List ℕ → Bool
is_extension u = nat_eq (value_of u) 0xB5

-- picture_structure, by the extension right behind the picture unit: 1 or 2 for a field; 0 for a frame, and where it can't
-- be told
abbrev pub field_by : List ℕ → ℕ
field_by v = if is_extension v && not (is_number 3 (structure_of v)) then number_or 0 (structure_of v) else 0

-- the structure of the first of pictures
abbrev pub first_field : List (List ℕ × List ℕ) → ℕ
first_field [] = 0
first_field (p ∷ ps) = field_by p.1

-- that of the picture of a piece
abbrev pub field_of : List ℕ → ℕ
field_of p = first_field (coded_pictures (units_of p))

-- the piece is a second field, where a first field of this structure waits; 0 where none does
abbrev pub is_second : ℕ → List ℕ → Bool
is_second waiting p = not (nat_eq waiting 0) && (nat_le 1 (field_of p) && not (nat_eq (field_of p) waiting))

-- the structure of the first field that waits behind a piece
unfoldable pub waits_behind : ℕ → List ℕ → ℕ
waits_behind waiting p = if is_second waiting p then 0 else field_of p

-- ---- spans

-- how the pieces of a stretch are divided
abbrev pub Dividing : Type 0
Dividing = List (List ℕ) → List (List (List ℕ))

-- pieces that are there make a span
abbrev pub span_of : List (List ℕ) → List (List (List ℕ))
span_of [] = []
span_of (p ∷ ps) = (p ∷ ps) ∷ []

-- pieces, behind those that the span at hand has already: another one begins where the test says so
unfoldable pub divided : (ℕ → List ℕ → Bool) → ℕ → List (List ℕ) → List (List ℕ) → List (List (List ℕ))
divided begins waiting mine [] = span_of mine
divided begins waiting mine (p ∷ ps) =
    if begins waiting p then span_of mine ++ divided begins (waits_behind waiting p) (p ∷ []) ps
    else divided begins (waits_behind waiting p) (mine ++ p ∷ []) ps

-- the spans of a stretch, from its first piece and from each entry on
abbrev pub spans : Dividing
spans ps = divided (λ waiting p. is_entry p) 0 [] ps

-- its steps: one begins also at each I or P picture that isn't the second field of a frame
abbrev pub steps : Dividing
steps ps = divided (λ waiting p. is_entry p || (is_anchor_piece p && not (is_second waiting p))) 0 [] ps

-- ---- heads

-- a quant matrix extension: its id is 3 (clause 6.2.3.2)
abbrev pub is_matrices : List ℕ → Bool
is_matrices u = is_extension u && is_number 3 (number_from 0 4 (body u))

-- a quant matrix extension is among units
unfoldable pub has_matrices : Units → Bool
has_matrices [] = false
has_matrices (u ∷ us) = is_matrices u || has_matrices us

-- the extension units that stand first, and the units behind them
unfoldable pub extensions_first : Units → Units
extensions_first [] = []
extensions_first (u ∷ us) = if is_extension u then u ∷ extensions_first us else []

-- the units behind those
unfoldable pub behind_extensions : Units → Units
behind_extensions [] = []
behind_extensions (u ∷ us) = if is_extension u then behind_extensions us else u ∷ us

-- the most bytes that a head has
abbrev pub most_head : ℕ
most_head = 4096

-- the head of what follows units from the last sequence header on: that header with the extension units right behind it;
-- none where a quant matrix extension stands behind these, or where it is too long
abbrev pub head_of : Units → Option (List ℕ)
head_of [] = None
head_of (u ∷ us) =
    if has_matrices (behind_extensions us) || not (nat_le (length (joined (u ∷ extensions_first us))) most_head) then None
    else Some (joined (u ∷ extensions_first us))

-- ---- the spans of an input

-- a span of the input: the byte at which it begins, the head before it, and its pieces
pub record Span : Type 0 where
  pub place : ℕ
  pub head : Option (List ℕ)
  pub pieces : List (List ℕ)

-- the byte at which it ends
abbrev pub end_of_span : Span → ℕ
end_of_span s = s.place + length (joined s.pieces)

-- spans one behind another, of which the first begins at a byte, behind these units of the input
unfoldable pub placed : ℕ → Units → List (List (List ℕ)) → List Span
placed place before [] = []
placed place before (s ∷ ss) =
    record { place = place; head = head_of (from_last_sequence before); pieces = s }
    ∷ placed (place + length (joined s)) (before ++ units_in s) ss

-- a stretch: the byte at which it begins, the units of the input before it, and its own
pub record Stretch : Type 0 where
  pub place : ℕ
  pub before : Units
  pub units : Units

-- the stretches of units, behind units of the input, of which the last ones are those of the stretch at hand so far. The
-- unit of a sequence end code is in none.
unfoldable pub stretches_from : ℕ → Units → Units → Units → List Stretch
stretches_from place before mine [] = record { place = place; before = before; units = mine } ∷ []
stretches_from place before mine (u ∷ us) =
    if is_end (value_of u) then
    record { place = place; before = before; units = mine }
    ∷ stretches_from (place + length (joined mine) + length u) (before ++ mine) [] us
    else stretches_from place before (mine ++ u ∷ []) us

-- the stretches of a text
abbrev pub stretches : List ℕ → List Stretch
stretches text = stretches_from (length (cut 0 text).0) [] [] (cut 0 text).1

-- the pieces of a stretch, also before its first sequence header
abbrev pub stretch_pieces : Stretch → List (List ℕ)
stretch_pieces s = grouped Headers [] s.units

-- the spans of a stretch, with their places and heads
abbrev pub stretch_spans : Dividing → Stretch → List Span
stretch_spans divide s = placed s.place s.before (divide (stretch_pieces s))

-- the spans of a text, stretch by stretch
abbrev pub spans_in : Dividing → List ℕ → List (List Span)
spans_in divide text = map (stretch_spans divide) (stretches text)
