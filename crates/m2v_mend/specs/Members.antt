-- The pieces of a span at hand, each with what it tells.
use Rattle.std.specs.Prelude.{◌≡◌, ℕ, ◌≤◌, false, not, All, List, [], ◌∷◌, ◌++◌, length, Option, Some, None}
use Rattle.std.specs.Option.{option_map}
use Rattle.m2v_model.specs.Units.{Units, joined, AreUnits}
use Rattle.m2v_decode.specs.m2v_dec_piece.Sound.{IsSoundPiece}
use Rattle.m2v_decode.specs.Decoding.{whole_of}
use Rattle.m2v_law_seam.specs.Spans.{units_of, units_in, picture_count, is_entry, Span}
use Rattle.m2v_law_seam.specs.Seams.{bytes_or_none}
use Rattle.m2v_law_seam.specs.Strands.{has_end, is_short}
use Rattle.m2v_law_seam.specs.Faults.{begins_entry}
use Rattle.m2v_law_seam.specs.Reading.{BeginsSequence, IsPieceOfUnits}
use Rattle.m2v_mend.specs.declared.member.Member.{Member}
use Rattle.m2v_mend.specs.declared.parts.SpanParts.{SpanParts}
use Rattle.m2v_mend.specs.Editing.{IsUnits, EndsInZeros, zeros_in}
use Rattle.m2v_mend.specs.Kept.{pieces_of}
use Rattle.m2v_mend.specs.Telling.{IsInfo}
use Rattle.m2v_mend.specs.Strand.{wholes_of, AreInTurn}

-- a piece whose bytes are units, with what these tell
pub record IsMember (m : Member) : Type 0 where
  pub sound : IsSoundPiece m.piece
  pub units : IsUnits m.piece
  pub info : IsInfo (units_of (whole_of m.piece)) m.info

-- zero bytes enough are kept of a piece that its group header can be marked
abbrev pub HasZeros : Member → Type 0
HasZeros m = EndsInZeros m.piece.bytes.items (zeros_in m.piece)

-- ---- the pieces of a span as a stretch has them

-- a piece is its units, of which there is one, and one at most is a picture
pub record IsOneOfUnits (p : List ℕ) : Type 0 where
  pub whole : joined (units_of p) ≡ p
  pub some : 1 ≤ length (units_of p)
  pub one : picture_count (units_of p) ≤ 1

-- pieces behind the first one of a span: each begins a piece, and is no entry
abbrev pub AreLater : List (List ℕ) → Type 0
AreLater [] = Unit {0}
AreLater (p ∷ ps) = IsPieceOfUnits p × (is_entry p ≡ false) × AreLater ps

-- the pieces of a span: units, one behind another, without a sequence end code
abbrev pub AreSpanPieces : List (List ℕ) → Type 0
AreSpanPieces [] = ⊥
AreSpanPieces (p ∷ ps) = IsOneOfUnits p × AreLater ps × AreUnits (units_in (p ∷ ps)) × (has_end (units_in (p ∷ ps)) ≡ false)

-- a head that can be put before units: a sequence header and what belongs to it
pub record IsHeadBefore (us : Units) (head : List ℕ) : Type 0 where
  pub whole : joined (units_of head) ≡ head
  pub begins : BeginsSequence (units_of head)
  pub are : AreUnits (units_of head ++ us)
  pub no_end : has_end (units_of head) ≡ false
  pub none : picture_count (units_of head) ≡ 0

abbrev pub HeadStands : Units → Option (List ℕ) → Type 0
HeadStands us None = Unit {0}
HeadStands us (Some head) = IsHeadBefore us head

-- a span as a stretch has it: the head stands before it in the input
pub record IsOfStretch (s : Span) : Type 0 where
  pub pieces : AreSpanPieces s.pieces
  pub head : HeadStands (units_in s.pieces) s.head
  pub before : length (bytes_or_none s.head) ≤ s.place

-- ---- the span at hand

-- what stands in memory of a span: of one within the limits its pieces, each at its place
pub record IsSpan (s : Span) (x : SpanParts) : Type 0 where
  pub place : x.place ≡ s.place
  pub head : option_map (λ v. v.items) x.head ≡ s.head
  pub bytes : x.bytes ≡ length (joined s.pieces)
  pub pictures : x.pictures ≡ picture_count (units_in s.pieces)
  pub entry : x.entry ≡ begins_entry s.pieces
  pub long : x.long ≡ not (is_short s)
  pub pieces : x.long ≡ false → wholes_of (pieces_of x.members.items) ≡ s.pieces
  pub turn : x.long ≡ false → AreInTurn s.place (pieces_of x.members.items)
  pub zeros : x.long ≡ false → All HasZeros x.members.items
