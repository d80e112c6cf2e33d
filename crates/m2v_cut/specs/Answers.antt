-- What is answered to a text, which pieces of it are read for that, and what stands on output then.
use Rattle.std.specs.Prelude.{◌≡◌, ◌⊎◌, ℕ, ◌+◌, ◌-◌, ◌<◌, ◌≤◌, Bool, false, ◌||◌, nat_eq, nat_lt, List, [], ◌∷◌, ◌++◌, length, drop, Option, Some, None, Result, Ok, Err, if◌then◌else◌}
use Rattle.m2v_port.specs.Ends.{Change}
use Rattle.m2v_port.specs.Port.{Moves, Grows, GrowsByPrefix}
use Rattle.m2v_model.specs.Units.{Units, cut, joined}
use Rattle.m2v_model.specs.Pieces.{pieces, limit, Limit, too_long, too_large, most_input}
use Rattle.m2v_decode.specs.Answers.{OfText, OfTaken, start_of}
use Rattle.m2v_law_group.specs.Groups.{is_picture, is_group, group_headers, groups_in, from_group, group_place, is_standalone, cut_units, cut_text, groups_chosen, stream_units, end_code, next_unit, is_intra, is_coding_extension, structure_of, to_end}
use Rattle.m2v_cut.specs.declared.answer.CutError.{CutError}
use Rattle.m2v_cut.specs.declared.answer.CutError.TheVariants as errors
use Rattle.m2v_cut.specs.declared.answer.CutSummary.{CutSummary}

-- ---- which pieces are read

-- the units of a piece, without the sequence end code
abbrev pub units_of : List ℕ → Units
units_of piece = to_end (cut 0 piece).1

-- how many group headers a piece has
abbrev pub groups_of : List ℕ → ℕ
groups_of piece = group_headers (units_of piece)

-- the pieces up to the one that holds the header of group n; all of them where there is none
unfoldable pub to_group : ℕ → List (List ℕ) → List (List ℕ)
to_group n [] = []
to_group n (p ∷ ps) = if nat_lt n (groups_of p) then p ∷ [] else p ∷ to_group (n - groups_of p) ps

-- the first picture unit before the next group header, with the unit right behind it
unfoldable pub first_picture : Units → Option (List ℕ × List ℕ)
first_picture [] = None
first_picture (u ∷ us) = if is_group u then None else if is_picture u then Some (u, next_unit us) else first_picture us

-- the type of a picture is I
abbrev pub has_intra : Option (List ℕ × List ℕ) → Bool
has_intra None = false
has_intra (Some p) = is_intra p.0

abbrev pub or_none : Option ℕ → ℕ
or_none None = 0
or_none (Some n) = n

-- the structure of a picture, by the picture coding extension right behind it; 0 where there is none
abbrev pub picture_structure : Option (List ℕ × List ℕ) → ℕ
picture_structure None = 0
picture_structure (Some p) = if is_coding_extension p.1 then or_none (structure_of p.1) else 0

-- a picture is one field
abbrev pub is_field : Option (List ℕ × List ℕ) → Bool
is_field p = nat_eq (picture_structure p) 1 || nat_eq (picture_structure p) 2

-- the first of some pieces, where it is looked at
abbrev pub first_if : Bool → List (List ℕ) → List (List ℕ)
first_if looked [] = []
first_if looked (p ∷ ps) = if looked then p ∷ [] else []

-- the pieces up to those of the first frame of group n: the one that holds its header, and where its picture is one field
-- the next one
unfoldable pub to_frame : ℕ → List (List ℕ) → List (List ℕ)
to_frame n [] = []
to_frame n (p ∷ ps) =
    if nat_lt n (groups_of p) then p ∷ first_if (is_field (first_picture (drop 1 (from_group n (units_of p))))) ps
    else p ∷ to_frame (n - groups_of p) ps

-- The pieces that are read: where there is no such group all of them; where it can't be cut out those up to its first
-- frame; else those up to the one that holds the header of the group behind the cut.
abbrev pub needed : List ℕ → ℕ → ℕ → List (List ℕ)
needed text from count =
    if nat_lt from (groups_in text) then
    if is_standalone text from then to_group (from + count) (pieces text) else to_frame from (pieces text)
    else pieces text

-- ---- limits

-- the limit that one of some pieces passes first, where the first of them begins at a byte
unfoldable pub limit_among : ℕ → List (List ℕ) → Option Limit
limit_among at [] = None
limit_among at (p ∷ ps) = first_of (limit at 0 p) (limit_among (at + length p) ps)
  where
    first_of : Option Limit → Option Limit → Option Limit
    first_of (Some l) other = Some l
    first_of None other = other

-- the same of the first pieces of a text, and of the bytes before them
abbrev pub limit_of : List ℕ → List (List ℕ) → Option Limit
limit_of text ps = if nat_lt most_input (start_of text) then Some too_long else limit_among (start_of text) ps

-- ---- the answer

-- the answer where no limit is passed
abbrev pub unlimited : List ℕ → ℕ → ℕ → Result CutSummary CutError
unlimited text from count =
    if nat_lt from (groups_in text) then
    if is_standalone text from then Ok (record { groups = groups_chosen text from count; bytes = length (cut_text text from count) })
    else Err (errors.NotCuttable (group_place text from))
    else Err (errors.NoGroup (groups_in text) (from + 1))

abbrev pub by_limit : Option Limit → Result CutSummary CutError → Result CutSummary CutError
by_limit None answer = answer
by_limit (Some too_long) answer = Err errors.TooLong
by_limit (Some too_large) answer = Err errors.PictureTooLarge

-- the answer to a text: the first limit that a piece passes which is read, or what is said where none does
abbrev pub answer_to : List ℕ → ℕ → ℕ → Result CutSummary CutError
answer_to text from count = by_limit (limit_of text (needed text from count)) (unlimited text from count)

-- ---- what stands on output

-- what is copied of the cut of a text without its end code: nothing before the group's first frame is known
abbrev pub copied : List ℕ → ℕ → ℕ → List ℕ
copied text from count = if is_standalone text from then joined (cut_units from count (stream_units text)) else []

-- pieces, one behind another
abbrev pub of_pieces : List (List ℕ) → List ℕ
of_pieces [] = []
of_pieces (p ∷ ps) = p ++ of_pieces ps

-- of some pieces the first ones, which pass no limit
unfoldable pub fitting : ℕ → List (List ℕ) → List (List ℕ)
fitting at [] = []
fitting at (p ∷ ps) = before (limit at 0 p) p (fitting (at + length p) ps)
  where
    before : Option Limit → List ℕ → List (List ℕ) → List (List ℕ)
    before None p ps = p ∷ ps
    before (Some l) p ps = []

-- The answer is this one, and output has grown by what is copied of the pieces before the one that passes the limit.
pub record IsOver (text : List ℕ) (from count : ℕ) (held : Change) (e : CutError) : Type 0 where
  pub answer : answer_to text from count ≡ Err e
  pub grown : Grows held.old (copied (of_pieces (fitting (start_of text) (pieces text))) from count) held.new

-- The answer is this one, and output is as it was.
pub record IsRefused (text : List ℕ) (from count : ℕ) (held : Change) (e : CutError) : Type 0 where
  pub answer : answer_to text from count ≡ Err e
  pub same : held.new ≡ held.old

-- The answer is this one, and output has grown by the text of the cut.
pub record IsCutOut (text : List ℕ) (from count : ℕ) (held : Change) (s : CutSummary) : Type 0 where
  pub answer : answer_to text from count ≡ Ok s
  pub grown : Grows held.old (cut_text text from count) held.new

-- what may be written of the pieces that were read: what is copied of them, and the end code where that is all of the cut
abbrev pub IsWhole : List ℕ → List (List ℕ) → ℕ → ℕ → List ℕ → Type 0
IsWhole text first from count whole =
    (whole ≡ copied (of_pieces first) from count)
    ⊎ ((whole ≡ copied (of_pieces first) from count ++ end_code) × (whole ≡ cut_text text from count))

-- Output has grown by a prefix of the cut's bytes, for pieces that lie whole in the first bytes of a text.
pub record IsPart (bytes text : List ℕ) (from count : ℕ) (held : Change) : Type 0 where
  pub first : List (List ℕ)
  pub others : List (List ℕ)
  pub are : pieces text ≡ first ++ others
  pub within : 0 < length first → start_of text + length (of_pieces first) ≤ length bytes
  pub whole : List ℕ
  pub is : IsWhole text first from count whole
  pub grown : GrowsByPrefix held.old whole held.new

-- When each error comes, and what stands then.
abbrev pub Fails : ℕ → ℕ → Change → Change → CutError → Type 0
Fails from count left held errors.Read = left.Failed × OfTaken left (λ bytes text. IsPart bytes text from count held)
Fails from count left held errors.Write = held.Failed × OfTaken left (λ bytes text. IsPart bytes text from count held)
Fails from count left held (errors.NoGroup have need) = OfText left (λ text. IsRefused text from count held (errors.NoGroup have need))
Fails from count left held (errors.NotCuttable place) = OfText left (λ text. IsRefused text from count held (errors.NotCuttable place))
Fails from count left held errors.TooLong = OfText left (λ text. IsOver text from count held errors.TooLong)
Fails from count left held errors.PictureTooLarge = OfText left (λ text. IsOver text from count held errors.PictureTooLarge)
Fails from count left held errors.Memory = OfTaken left (λ bytes text. IsPart bytes text from count held)

-- This is answered. In its place may come want of memory, and a failed endpoint where a count rose.
pub data Gives (left held : Change) (answer result : Result CutSummary CutError) : Type 0 where
  as_said : result ≡ answer → Gives left held answer result
  read : result ≡ Err errors.Read → left.Failed → Gives left held answer result
  write : result ≡ Err errors.Write → held.Failed → Gives left held answer result
  memory : result ≡ Err errors.Memory → Gives left held answer result
