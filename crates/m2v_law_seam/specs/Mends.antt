-- What holds of each text that is mended.
use Rattle.std.specs.Prelude.{◌≡◌, ◌⊎◌, ℕ, ◌+◌, ◌≤◌, Bool, true, false, ◌||◌, List, [], ◌∷◌, ◌++◌, length, Some, if◌then◌else◌}
use Rattle.m2v_model.specs.Units.{Units, cut, joined}
use Rattle.m2v_model.specs.Streams.{Sofar, value_of}
use Rattle.m2v_model.specs.Pieces.{is_end}
use Rattle.m2v_model.specs.Decoding.{Stream, Decodes}
use Rattle.m2v_law_group.specs.Groups.{is_sequence, is_picture, stream_units, end_code}
use Rattle.m2v_law_group.specs.Chosen.{EndClear}
use Rattle.m2v_law_seam.specs.Spans.{units_in, picture_count, Dividing, Span, spans_in}
use Rattle.m2v_law_seam.specs.Seams.{leading, without_leading_pieces}
use Rattle.m2v_law_seam.specs.Strands.{read_of, frames_in, is_short}
use Rattle.m2v_law_seam.specs.Faults.{Fault, fault_of}
use Rattle.m2v_law_seam.specs.Mending.{Gap, Mending, nothing_yet, frames_shown, groups_behind, goes_behind, begins_strand, with_span, with_spans, strand_ended, strands, gaps_in, mended, low_of_span}
use Rattle.m2v_law_seam.specs.Told.{left_pictures, Answer, all_kept, some_kept, none_kept, answer_to}

-- ---- it decodes

-- each strand, with an end code, decodes to the frames of a list, which are as many as are counted of it
abbrev pub AllDecode : List (List ℕ) → List (List (List ℕ)) → Type 0
AllDecode [] [] = Unit {0}
AllDecode [] (fs ∷ more) = ⊥
AllDecode (s ∷ ss) [] = ⊥
AllDecode (s ∷ ss) (fs ∷ more) = Decodes (s ++ end_code) fs × (frames_in (read_of s) ≡ length fs) × AllDecode ss more

-- lists of frames, one behind another
abbrev pub in_turn : List (List (List ℕ)) → List (List ℕ)
in_turn [] = []
in_turn (fs ∷ more) = fs ++ in_turn more

-- The mended text is a stream without a fault, and shows what its strands show, each decoded by itself: so nothing of what
-- stood before a seam is in a frame behind it.
abbrev pub MendDecodes : Dividing → List ℕ → Type 0
MendDecodes divide text =
    (bytes : List ℕ) → mended divide text ≡ Some bytes
    → (shown : List (List (List ℕ))) × AllDecode (strands divide text) shown × Decodes bytes (in_turn shown)

-- ---- what has no fault stays

-- before the first sequence header stands neither a picture nor a sequence end code
abbrev pub StartsClear : Units → Type 0
StartsClear [] = Unit {0}
StartsClear (u ∷ us) = (is_sequence u ≡ true) ⊎ ((is_picture u ≡ false) × (is_end (value_of u) ≡ false) × StartsClear us)

-- the first sequence end code, where there is one, is the last unit
abbrev pub EndsOnce : Units → Type 0
EndsOnce [] = Unit {0}
EndsOnce (u ∷ us) = (is_end (value_of u) ≡ true → us ≡ []) × EndsOnce us

-- each span is within the limits
abbrev pub AllShort : List Span → Type 0
AllShort [] = Unit {0}
AllShort (s ∷ ss) = (is_short s ≡ true) × AllShort ss

-- so is each span of each stretch
abbrev pub AllWithin : List (List Span) → Type 0
AllWithin [] = Unit {0}
AllWithin (ss ∷ more) = AllShort ss × AllWithin more

-- A stream without a fault, before whose first sequence header no picture stands and no end code, and no unit behind its end
-- code, whose spans are within the limits, and which doesn't end in the prefix of a start code, is kept as it is from that
-- header on, with its end code, or with one where it is missing; and nothing is told as left out.
abbrev pub MendSame : Dividing → List ℕ → Type 0
MendSame divide text =
    (tree : Sofar) → Stream text tree → StartsClear (cut 0 text).1 → EndsOnce (cut 0 text).1 → AllWithin (spans_in divide text) → EndClear text
    → (mended divide text ≡ Some (joined (stream_units text) ++ end_code)) × (gaps_in divide text ≡ [])

-- a mended text whose spans are within the limits is mended already, and nothing of it is left out
abbrev pub MendTwice : Dividing → List ℕ → Type 0
MendTwice divide text =
    (bytes : List ℕ) → mended divide text ≡ Some bytes → AllWithin (spans_in divide bytes)
    → (mended divide bytes ≡ Some bytes) × (gaps_in divide bytes ≡ [])

-- ---- nothing that reads is left out

-- spans of a text, each with what was made of those before it
abbrev pub Steps : Type 0
Steps = List (Mending × Span)

-- the spans of a stretch, each with what was made before it
unfoldable pub steps_in : Mending → List Span → Steps
steps_in m [] = []
steps_in m (s ∷ ss) = (m, s) ∷ steps_in (with_span m s) ss

-- those of stretches
unfoldable pub steps_from : Mending → List (List Span) → Steps
steps_from m [] = []
steps_from m (ss ∷ more) = steps_in m ss ++ steps_from (strand_ended (with_spans m ss)) more

-- those of a text
abbrev pub steps_of : Dividing → List ℕ → Steps
steps_of divide text = steps_from nothing_yet (spans_in divide text)

-- it is one of these
abbrev pub Among : Mending × Span → Steps → Type 0
Among x [] = ⊥
Among x (y ∷ ys) = (x ≡ y) ⊎ Among x ys

-- a span that neither reads behind the strand that was under way nor begins another one
pub record LeftSpan (steps : Steps) : Type 0 where
  pub before : Mending
  pub span : Span
  pub among : Among (before, span) steps
  pub not_behind : goes_behind before span ≡ false
  pub not_begun : begins_strand before.first span ≡ false

-- a gap begins with such a span, whose fault is the one that is told
pub record BeginsWith (steps : Steps) (g : Gap) (f : Fault) : Type 0 where
  pub left : LeftSpan steps
  pub open left use *
  pub place : g.from ≡ span.place
  pub fault : f ≡ fault_of before.strand (low_of_span before span) before.first span

-- each gap with a fault begins with a span that had to be left out
abbrev pub GapsLeft : Steps → List Gap → Type 0
GapsLeft steps [] = Unit {0}
GapsLeft steps (g ∷ gs) = ((f : Fault) → g.fault ≡ Some f → BeginsWith steps g f) × GapsLeft steps gs

-- what is left out of a text had to be, and the fault that is told is its own
abbrev pub LeftOut : Dividing → List ℕ → Type 0
LeftOut divide text = GapsLeft (steps_of divide text) (gaps_in divide text)

-- ---- all is told

-- the pieces of spans that are kept, and those that aren't
abbrev pub kept_of : Mending × Span → List (List ℕ)
kept_of x =
    if goes_behind x.0 x.1 then (x.1).pieces
    else if begins_strand (x.0).first x.1 then without_leading_pieces (x.1).pieces else []

-- the pieces of a span that are left out
abbrev pub left_of : Mending × Span → List (List ℕ)
left_of x =
    if goes_behind x.0 x.1 then []
    else if begins_strand (x.0).first x.1 then leading (x.1).pieces else (x.1).pieces

-- the pieces that are kept
unfoldable pub all_kept_pieces : Steps → List (List ℕ)
all_kept_pieces [] = []
all_kept_pieces (x ∷ xs) = kept_of x ++ all_kept_pieces xs

-- the pieces that are left out
unfoldable pub all_left_pieces : Steps → List (List ℕ)
all_left_pieces [] = []
all_left_pieces (x ∷ xs) = left_of x ++ all_left_pieces xs

-- all pieces
unfoldable pub all_pieces : Steps → List (List ℕ)
all_pieces [] = []
all_pieces (x ∷ xs) = (x.1).pieces ++ all_pieces xs

-- the third list is the other two, one in the other, each in its order
pub data AreParts : List (List ℕ) → List (List ℕ) → List (List ℕ) → Type 0 where
  neither : AreParts [] [] []
  kept : {ks ls all : List (List ℕ)} {p : List ℕ} → AreParts ks ls all → AreParts (p ∷ ks) ls (p ∷ all)
  left : {ks ls all : List (List ℕ)} {p : List ℕ} → AreParts ks ls all → AreParts ks (p ∷ ls) (p ∷ all)

-- how many bytes were left out
unfoldable pub left_bytes : List Gap → ℕ
left_bytes [] = 0
left_bytes (g ∷ gs) = g.bytes + left_bytes gs

-- units without the sequence end codes among them
unfoldable pub without_ends : Units → Units
without_ends [] = []
without_ends (u ∷ us) = if is_end (value_of u) then without_ends us else u ∷ without_ends us

-- gaps in order, the first not before a byte
abbrev pub InOrder : ℕ → List Gap → Type 0
InOrder at [] = Unit {0}
InOrder at (g ∷ gs) = (at ≤ g.from) × InOrder (g.from + g.bytes) gs

-- Each piece of the spans is kept or left out; the bytes and pictures of the gaps are those of the pieces that are left out.
pub record AllTold (divide : Dividing) (text : List ℕ) : Type 0 where
  pub parts : AreParts (all_kept_pieces (steps_of divide text)) (all_left_pieces (steps_of divide text)) (all_pieces (steps_of divide text))
  pub pictures : left_pictures (gaps_in divide text) ≡ picture_count (units_in (all_left_pieces (steps_of divide text)))
  pub bytes : left_bytes (gaps_in divide text) ≡ length (joined (all_left_pieces (steps_of divide text)))

-- The units of the spans are those of the input, end codes apart, each once and in its order; and the gaps stand in that order,
-- of which none reaches into another.
pub record AllThere (divide : Dividing) (text : List ℕ) : Type 0 where
  pub pieces : units_in (all_pieces (steps_of divide text)) ≡ without_ends (cut 0 text).1
  pub in_order : InOrder 0 (gaps_in divide text)

-- strands before a gap: as many frames as it tells are those that they show
pub record GapFrames (ss : List (List ℕ)) (g : Gap) : Type 0 where
  pub front : List (List ℕ)
  pub behind : List (List ℕ)
  pub whole : ss ≡ front ++ behind
  pub frames : g.frames ≡ frames_shown front

-- so for each gap
abbrev pub AllFrames : List (List ℕ) → List Gap → Type 0
AllFrames ss [] = Unit {0}
AllFrames ss (g ∷ gs) = GapFrames ss g × AllFrames ss gs

-- the frames that are told before each gap are those of strands at the front of the mended text
abbrev pub FramesTold : Dividing → List ℕ → Type 0
FramesTold divide text = AllFrames (strands divide text) (gaps_in divide text)

-- the pictures of the strands are those of the pieces that are kept
abbrev pub PicturesKept : Dividing → List ℕ → Type 0
PicturesKept divide text =
    picture_count (units_in (strands divide text)) ≡ picture_count (units_in (all_kept_pieces (steps_of divide text)))

-- ---- the answer

-- how many bytes the mended text has
abbrev pub SizeIs : Dividing → List ℕ → ℕ → Type 0
SizeIs divide text size = (bytes : List ℕ) → mended divide text ≡ Some bytes → size ≡ length bytes

-- a step whose span is kept
abbrev pub is_kept : Mending × Span → Bool
is_kept x = goes_behind x.0 x.1 || begins_strand (x.0).first x.1

-- how many groups there are among steps whose spans are kept
unfoldable pub kept_groups : Steps → ℕ
kept_groups [] = 0
kept_groups (x ∷ xs) = if is_kept x then groups_behind (kept_groups xs) x.1 else kept_groups xs

-- and among all steps
unfoldable pub step_groups : Steps → ℕ
step_groups [] = 0
step_groups (x ∷ xs) = groups_behind (step_groups xs) x.1

-- The numbers of an answer: so many groups were kept, of as many as there are; as many pictures as the strands have, of as many
-- as the input has; and so many bytes. Where it says that no picture was left out, all groups and all pictures were kept; and
-- where it says that nothing was kept, there is no strand.
abbrev pub IsTold : Dividing → List ℕ → Answer → Type 0
IsTold divide text (all_kept groups pictures bytes) =
    (groups ≡ kept_groups (steps_of divide text)) × (groups ≡ step_groups (steps_of divide text))
    × (pictures ≡ picture_count (units_in (strands divide text))) × (pictures ≡ picture_count (without_ends (cut 0 text).1))
    × SizeIs divide text bytes
IsTold divide text (some_kept groups of_groups pictures of_pictures bytes) =
    (groups ≡ kept_groups (steps_of divide text)) × (of_groups ≡ step_groups (steps_of divide text))
    × (pictures ≡ picture_count (units_in (strands divide text))) × (of_pictures ≡ picture_count (without_ends (cut 0 text).1))
    × SizeIs divide text bytes
IsTold divide text (none_kept fault) = strands divide text ≡ []

-- the numbers of the answer to a text are those of what was made of it
abbrev pub AnswerTells : Dividing → List ℕ → Type 0
AnswerTells divide text = IsTold divide text (answer_to divide text)
