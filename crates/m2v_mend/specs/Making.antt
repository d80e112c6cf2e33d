-- What is made of an input, as it stands in memory: the strand that is under way, and what wasn't handed out yet.
use Rattle.std.specs.Prelude.{◌≡◌, ℕ, ◌+◌, ◌≤◌, false, All, List, [], ◌∷◌, ◌++◌, length, map, Option, Some, None}
use Rattle.std.specs.Option.{option_map}
use Rattle.m2v_model.specs.declared.fault.FaultKind.TheVariants.{NoSequence}
use Rattle.m2v_model.specs.Units.{joined, AreUnits}
use Rattle.m2v_decode.specs.m2v_dec_piece.declared.answer.Piece.{Piece}
use Rattle.m2v_decode.specs.m2v_dec_piece.declared.answer.Fault.{Fault}
use Rattle.m2v_decode.specs.Decoding.{whole_of}
use Rattle.m2v_law_group.specs.Groups.{from_last_sequence}
use Rattle.m2v_law_seam.specs.Spans.{units_of, units_in, head_of, Span}
use Rattle.m2v_law_seam.specs.Strands.{has_end}
use Rattle.m2v_law_seam.specs.Faults as faults
use Rattle.m2v_law_seam.specs.Mending as mending
use Rattle.m2v_law_seam.specs.Mending.{Mending, strands_of, frames_shown}
use Rattle.m2v_law_seam.specs.Told.{left_pictures, first_fault}
use Rattle.m2v_law_seam.specs.Reading.{IsPieceOfUnits}
use Rattle.m2v_mend.specs.declared.gap.Gap.{Gap}
use Rattle.m2v_mend.specs.declared.mender.Mender.{Mender}
use Rattle.m2v_mend.specs.declared.folding.Folding.{Folding}
use Rattle.m2v_mend.specs.declared.parts.SpanParts.{SpanParts}
use Rattle.m2v_mend.specs.Editing.{EndsInZeros, zeros_in}
use Rattle.m2v_mend.specs.Heading.{IsHeads}
use Rattle.m2v_mend.specs.Gathering.{Gathering}
use Rattle.m2v_mend.specs.Members.{IsMember, IsOneOfUnits, IsOfStretch, IsSpan}
use Rattle.m2v_mend.specs.Putting.{FirstBegins, IsUnderWay}
use Rattle.m2v_mend.specs.Strand.{StrandState, wholes_of, IsReady, IsAt}

-- ---- what is kept span by span

-- a fault as it is told
abbrev pub fault_told : Fault → faults.Fault
fault_told f = (f.kind, f.place)

-- what was left out, as it is told
abbrev pub gap_told : Gap → mending.Gap
gap_told g = record { frames = g.frames; from = g.from; bytes = g.bytes; pictures = g.pictures; fault = option_map fault_told g.fault }

-- a strand is ready to go on
abbrev pub StrandReady : Option StrandState → Type 0
StrandReady None = Unit {0}
StrandReady (Some z) = IsReady z

-- the strand that is under way
abbrev pub IsUnder : Mending → Option StrandState → Type 0
IsUnder m None = m.strand ≡ None
IsUnder m (Some z) =
    (bytes : List ℕ) × (m.strand ≡ Some bytes) × IsAt z bytes × (z.opening ≡ m.opening) × IsUnderWay m.opening m.first bytes

-- the fault of the first gap; without one there is no sequence
abbrev pub fault_first : ℕ → Option Fault → faults.Fault
fault_first bits None = (NoSequence, bits)
fault_first bits (Some f) = fault_told f

-- What is made of spans, where these bytes were handed out, and these gaps. The last gap may grow, so it stays.
pub record IsMade (written : List ℕ) (listed : List mending.Gap) (m : Mending) (x : Mender) : Type 0 where
  pub strand : IsUnder m x.strand
  pub first : x.first ≡ m.first
  pub low : x.low ≡ m.low
  pub groups : x.groups ≡ m.groups
  pub frames : x.frames ≡ frames_shown m.done
  pub bytes : x.bytes ≡ length (joined m.done)
  pub out : joined (strands_of m) ≡ written ++ joined (wholes_of x.out.items)
  pub gaps : m.gaps ≡ listed ++ map gap_told x.gaps.items
  pub last : x.gaps.items ≡ [] → listed ≡ []
  pub left : x.left ≡ left_pictures m.gaps
  pub fault : (bits : ℕ) → first_fault bits m.gaps ≡ fault_first bits x.fault

-- a span can be the next one: behind a strand that has a byte its first piece begins a piece
abbrev pub CanBeNext : Option (List ℕ) → List (List ℕ) → Type 0
CanBeNext None ps = Unit {0}
CanBeNext (Some []) ps = Unit {0}
CanBeNext (Some (b ∷ strand)) ps = FirstBegins ps

-- ---- piece by piece

-- the span at hand
abbrev pub span_of_pieces : Gathering → Span
span_of_pieces g = record { place = g.place; head = head_of (from_last_sequence g.before); pieces = g.pieces }

-- it stands in memory, where it has a piece
abbrev pub IsAtHand : Gathering → Option SpanParts → Type 0
IsAtHand g None = g.pieces ≡ []
IsAtHand g (Some x) = (1 ≤ length g.pieces) × IsSpan (span_of_pieces g) x × IsOfStretch (span_of_pieces g)

-- what is made of pieces, and the span at hand
pub record IsFolded (written : List ℕ) (listed : List mending.Gap) (g : Gathering) (x : Folding) : Type 0 where
  pub made : IsMade written listed g.tally.made x.mender
  pub groups : x.groups ≡ g.tally.groups
  pub pictures : x.pictures ≡ g.tally.pictures
  pub heads : IsHeads (g.before ++ units_in g.pieces) x.heads
  pub before : length (joined g.before) ≤ g.place
  pub are : AreUnits (g.before ++ units_in g.pieces)
  pub no_end : has_end g.before ≡ false
  pub at_hand : IsAtHand g x.parts
  pub waiting : x.waiting ≡ g.waiting
  pub next : CanBeNext g.tally.made.strand g.pieces

-- The next piece of a stretch: units behind those of the input so far, of which one at most is a picture. Behind another piece of
-- the stretch it begins a piece.
pub record IsNextPiece (g : Gathering) (p : Piece) : Type 0 where
  pub one : IsOneOfUnits (whole_of p)
  pub are : AreUnits (g.before ++ units_in g.pieces ++ units_of (whole_of p))
  pub no_end : has_end (units_of (whole_of p)) ≡ false
  pub begins : 1 ≤ length g.pieces → IsPieceOfUnits (whole_of p)
  pub place : p.place ≡ g.place + length (joined g.pieces)
  pub zeros : EndsInZeros p.bytes.items (zeros_in p)

-- the pieces at hand are units, whatever was read
abbrev pub MembersStand : Option SpanParts → Type 0
MembersStand None = Unit {0}
MembersStand (Some x) = All IsMember x.members.items

-- what a fold needs, whatever was read
pub record IsFoldReady (x : Folding) : Type 0 where
  pub strand : StrandReady x.mender.strand
  pub members : MembersStand x.parts
