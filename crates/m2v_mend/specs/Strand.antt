-- A strand as it is read: what contracts see of it, and what pieces do to it.
use Rattle.std.specs.Prelude.{◌≡◌, ℕ, ◌+◌, ◌-◌, ◌*◌, ◌≤◌, Bool, true, false, ◌&&◌, ◌||◌, not, nat_eq, nat_le, nat_lt, is_none, is_some, List, [], ◌∷◌, ◌++◌, length, max, Option, Some, None, Ok, Err, if◌then◌else◌}
use Rattle.m2v_model.specs.declared.fault.FaultKind.{FaultKind}
use Rattle.m2v_model.specs.declared.fault.FaultKind.TheVariants.{FieldPair, Truncated, MissingReference}
use Rattle.m2v_model.specs.declared.notes.Notes.{Notes}
use Rattle.m2v_model.specs.declared.notes.PictureNote.{PictureNote}
use Rattle.m2v_model.specs.declared.state.Sequence.{Sequence}
use Rattle.m2v_model.specs.Units.{Units, joined}
use Rattle.m2v_model.specs.States.{is_frame, is_b, one_anchor_more, none_waits}
use Rattle.m2v_model.specs.Pictures.{Events, pictures_in}
use Rattle.m2v_model.specs.ByPieces.{Between, Course, piece_read}
use Rattle.m2v_law_seam.specs.Spans.{units_of, picture_count, Span, end_of_span}
use Rattle.m2v_law_seam.specs.Strands.{all_stand, last_open, agrees, is_strand}
use Rattle.m2v_law_seam.specs.Faults.{before_picture, standing, read_at, fault_behind}
use Rattle.m2v_law_seam.specs.Reading.{CanGrow, HasRead, anchors_after}
use Rattle.m2v_decode.specs.m2v_dec_piece.declared.answer.Piece.{Piece}
use Rattle.m2v_decode.specs.m2v_dec_piece.declared.answer.Fault.{Fault}
use Rattle.m2v_decode.specs.Decoding.{Decoding, Advanced, Agrees, ShowsFrames, between, whole_of}
use Rattle.m2v_decode.specs.Reading.{Reading, Follows, nothing_read}
use Rattle.m2v_mend.specs.declared.standing.Standing.{Standing}
use Rattle.m2v_mend.specs.declared.refusal.Refusal.{Refusal}
use Rattle.m2v_mend.specs.declared.refusal.Refusal.TheVariants as refusals

-- ---- the rule of a strand, by what is noted of pictures

-- a picture may stand behind so many anchors
abbrev pub note_stands : ℕ → PictureNote → Bool
note_stands anchors n = (not (nat_eq anchors 0) || nat_eq n.info.kind 1) && not (is_b n.info.kind && not (nat_le 2 anchors))

-- it ends its frame: a frame, or a second field
abbrev pub note_ends : PictureNote → Bool
note_ends n = is_frame n.extension || not n.first

-- the anchors behind it
abbrev pub note_anchors : ℕ → PictureNote → ℕ
note_anchors anchors n = if note_ends n && not (is_b n.info.kind) then one_anchor_more anchors else anchors

-- the first picture that may not stand, with one more
abbrev pub broken_with : Option ℕ → Bool → ℕ → Option ℕ
broken_with (Some first) stands place = Some first
broken_with None true place = None
broken_with None false place = Some place

-- how pictures stand, with that of one more piece
abbrev pub standing_with : Standing → Option PictureNote → Standing
standing_with s None = s
standing_with s (Some n) = record { anchors = note_anchors s.anchors n; broken = broken_with s.broken (note_stands s.anchors n) (n.code_end - 32) }

-- ---- what contracts see

-- what the reader has read, whether it is the opening strand, how many bytes it has, and how its pictures stand
pub record StrandState : Type 0 where
  pub reading : Reading
  pub opening : Bool
  pub bytes : ℕ
  pub standing : Standing

-- without a byte
abbrev pub nothing_of : Bool → StrandState
nothing_of opening = record { reading = nothing_read; opening = opening; bytes = 0; standing = record { anchors = 0; broken = None } }

-- pieces may be read
pub record IsReady (s : StrandState) : Type 0 where
  pub going : s.reading.failed ≡ false
  pub before : s.reading.ended ≡ false
  pub few : s.reading.pictures ≤ s.bytes

-- ---- pieces

-- how many bytes they have
abbrev pub bytes_in : List Piece → ℕ
bytes_in [] = 0
bytes_in (p ∷ ps) = p.length + bytes_in ps

-- their bytes
abbrev pub wholes_of : List Piece → List (List ℕ)
wholes_of [] = []
wholes_of (p ∷ ps) = whole_of p ∷ wholes_of ps

-- where they end in the input
abbrev pub ends_of : List Piece → List ℕ
ends_of [] = []
ends_of (p ∷ ps) = (p.place + length (whole_of p)) ∷ ends_of ps

-- they follow each other in the input, the first one at a byte
abbrev pub AreInTurn : ℕ → List Piece → Type 0
AreInTurn at [] = Unit {0}
AreInTurn at (p ∷ ps) = (p.place ≡ at) × AreInTurn (at + length (whole_of p)) ps

-- where picture unit number n of them stands, in bits of the input; 0 where there is none
unfoldable pub picture_place : ℕ → List Piece → ℕ
picture_place n [] = 0
picture_place n (p ∷ ps) =
    if nat_lt n (picture_count (units_of (whole_of p))) then 8 * (p.place + length (joined (before_picture n (units_of (whole_of p)))))
    else picture_place (n - picture_count (units_of (whole_of p))) ps

-- ---- what they do to a decoder that has come as far, and to the strand

-- a piece was read
pub record Steps (d : Decoding) (s : StrandState) (p : Piece) (z : StrandState) : Type 0 where
  pub behind : Decoding
  pub notes : Notes
  pub advanced : Advanced d p.place (whole_of p) notes behind
  pub follows : Follows z.reading behind
  pub standing : z.standing ≡ standing_with s.standing notes.picture
  pub bytes : z.bytes ≡ s.bytes + p.length
  pub opening : z.opening ≡ s.opening

-- a piece was read, or its first fault is told
abbrev pub StepTold : Decoding → StrandState → Piece → Option Fault → StrandState → Type 0
StepTold d s p None z = Steps d s p z
StepTold d s p (Some f) z = piece_read (between d) (p.place + length (whole_of p)) (whole_of p) ≡ Err (f.kind, f.place)

-- pieces were read, one behind another
pub data Walks : Decoding → StrandState → List Piece → Decoding → StrandState → Type 0 where
  stop : {d : Decoding} {s : StrandState} → Walks d s [] d s
  step : {d e : Decoding} {s z y : StrandState} {p : Piece} {ps : List Piece} → (x : Steps d s p z) → Walks x.behind z ps e y → Walks d s (p ∷ ps) e y

pub record Walked (d : Decoding) (s : StrandState) (ps : List Piece) (z : StrandState) : Type 0 where
  pub behind : Decoding
  pub walks : Walks d s ps behind z
  pub follows : Follows z.reading behind

-- some of the pieces were read, and then one has a fault
pub record Halts (d : Decoding) (s : StrandState) (ps : List Piece) (f : Fault) : Type 0 where
  pub front : List Piece
  pub piece : Piece
  pub later : List Piece
  pub are : ps ≡ front ++ piece ∷ later
  pub at : Decoding
  pub state : StrandState
  pub walks : Walks d s front at state
  pub refused : piece_read (between at) (piece.place + length (whole_of piece)) (whole_of piece) ≡ Err (f.kind, f.place)

-- all pieces were read, or the first fault is told
abbrev pub WalkTold : Decoding → StrandState → List Piece → Option Fault → StrandState → Type 0
WalkTold d s ps None z = Walked d s ps z
WalkTold d s ps (Some f) z = Halts d s ps f

-- why what was read is no strand, where the text that was read ends at a byte of the input
abbrev pub broken_rule : Bool → Option ℕ → Option Refusal
broken_rule true broken = None
broken_rule false None = None
broken_rule false (Some place) = Some (refusals.Rule place)

abbrev pub refusal_by : Bool → Option Refusal → Bool → ℕ → Option Refusal
refusal_by true rule joint end = Some (refusals.Fault (record { kind = FieldPair; place = 8 * end }))
refusal_by false (Some x) joint end = Some x
refusal_by false None joint end = if joint then None else Some refusals.Other

abbrev pub refusal_of : StrandState → Option Sequence → ℕ → Option Refusal
refusal_of s first end = refusal_by (is_some s.reading.state.waiting) (broken_rule s.opening s.standing.broken) (agrees first s.reading.state.first) end

-- ---- what a strand stands for

-- these units were read, with what they tell, by a decoder that has come as far
pub record HasCome (us : Units) (events : Events) (d : Decoding) (s : StrandState) : Type 0 where
  pub has : HasRead us events (between d)
  pub anchors : s.standing.anchors ≡ anchors_after 0 (pictures_in events)
  pub stands : is_none s.standing.broken ≡ all_stand 0 (pictures_in events)
  pub shows : (low : Bool) → Agrees low d.state.first → ShowsFrames low None [] (pictures_in events) d.anchor d.ready
  pub shown : d.shown ≡ 0

-- bytes were read as a strand, or there are none
pub record IsAt (s : StrandState) (bytes : List ℕ) : Type 0 where
  pub decoder : Decoding
  pub follows : Follows s.reading decoder
  pub events : Events
  pub come : HasCome (units_of bytes) events decoder s
  pub can : CanGrow bytes
  pub paired : none_waits decoder.state.waiting ≡ true
  pub rule : (s.opening || is_none s.standing.broken) ≡ true
  pub length_is : s.bytes ≡ length bytes

-- what is read of pieces from what stands before them, each at its place in the input, and then the end of the text
abbrev pub course_of : Decoding → List Piece → Course
course_of d ps = read_at (between d) 0 (ends_of ps) (wholes_of ps)

-- a course without a fault, that keeps the rule or doesn't, behind so many anchors, and whose first header agrees or doesn't
pub record IsCourse (course : Course) (anchors : ℕ) (first : Option Sequence) (stands joint : Bool) : Type 0 where
  pub events : Events
  pub behind : Between
  pub read : course ≡ Ok (events, behind)
  pub stands_is : all_stand anchors (pictures_in events) ≡ stands
  pub joint_is : agrees first behind.state.first ≡ joint

-- the fault of each span that has these pieces, which follow each other in the input, with a text that ends with them
abbrev pub IsFaultOf : List ℕ → List Piece → (Span → FaultKind × ℕ) → Type 0
IsFaultOf text ps fault = (span : Span) (at : ℕ) → AreInTurn at ps → end_of_span span ≡ at + length (joined (wholes_of ps)) → fault_behind span text ≡ fault span

-- Why bytes with pieces behind them are no strand, by a decoder that has come as far as the bytes, and which fault the span has,
-- where the pieces are those of one. What pieces tell that don't follow each other, as a span's with which a strand begins, is
-- the fault of their course.
abbrev pub Refused : Decoding → StrandState → Option Sequence → List ℕ → List Piece → Refusal → Type 0
Refused d s first bytes ps refusals.Open =
    (last_open (units_of (bytes ++ joined (wholes_of ps))) ≡ true)
    × IsFaultOf (bytes ++ joined (wholes_of ps)) ps (λ span. (Truncated, 8 * end_of_span span - 24))
Refused d s first bytes ps (refusals.Fault f) =
    (last_open (units_of (bytes ++ joined (wholes_of ps))) ≡ false) × (course_of d ps ≡ Err (f.kind, f.place))
    × IsFaultOf (bytes ++ joined (wholes_of ps)) ps (λ span. (f.kind, max f.place (8 * end_of_span span - 8 * length (bytes ++ joined (wholes_of ps)))))
Refused d s first bytes ps (refusals.Rule place) =
    (last_open (units_of (bytes ++ joined (wholes_of ps))) ≡ false) × (s.opening ≡ false)
    × ((joint : Bool) × (c : IsCourse (course_of d ps) s.standing.anchors first false joint)
    × (place ≡ picture_place (standing s.standing.anchors (pictures_in c.events)) ps))
    × IsFaultOf (bytes ++ joined (wholes_of ps)) ps (λ span. (MissingReference, place))
Refused d s first bytes ps refusals.Other =
    (last_open (units_of (bytes ++ joined (wholes_of ps))) ≡ false)
    × ((stands : Bool) × ((s.opening || stands) ≡ true) × IsCourse (course_of d ps) s.standing.anchors first stands false)

-- bytes with pieces behind them are a strand, which stands then, or they are none
abbrev pub Told : Decoding → StrandState → Option Sequence → List ℕ → List Piece → Option Refusal → StrandState → Type 0
Told d s first bytes ps None z =
    (is_strand s.opening first (bytes ++ joined (wholes_of ps)) ≡ true) × IsAt z (bytes ++ joined (wholes_of ps))
Told d s first bytes ps (Some x) z =
    (is_strand s.opening first (bytes ++ joined (wholes_of ps)) ≡ false) × Refused d s first bytes ps x
