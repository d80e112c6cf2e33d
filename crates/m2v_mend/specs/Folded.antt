-- What the steps of a fold over pieces do.
use Rattle.std.specs.Prelude.{◌≡◌, ℕ, ◌≤◌, ◌++◌, ◌∷◌, List, [], length, Option, Some, None}
use Rattle.m2v_model.specs.Units.{Units}
use Rattle.m2v_decode.specs.Decoding.{whole_of}
use Rattle.m2v_law_group.specs.Groups.{from_last_sequence}
use Rattle.m2v_law_seam.specs.Spans.{units_of, head_of, end_of_span, Span}
use Rattle.m2v_law_seam.specs.Mending as mending
use Rattle.m2v_mend.specs.declared.folding.Folding.{Folding}
use Rattle.m2v_mend.specs.declared.member.Member.{Member}
use Rattle.m2v_mend.specs.declared.parts.SpanParts.{SpanParts}
use Rattle.m2v_mend.specs.Heading.{IsHeads}
use Rattle.m2v_mend.specs.Gathering.{Tally, Gathering}
use Rattle.m2v_mend.specs.Members.{HasZeros, IsSpan}
use Rattle.m2v_mend.specs.Making.{IsMade, IsFolded}

-- what is made of spans that are whole, and what they have
pub record IsTold (written : List ℕ) (listed : List mending.Gap) (t : Tally) (x : Folding) : Type 0 where
  pub made : IsMade written listed t.made x.mender
  pub groups : x.groups ≡ t.groups
  pub pictures : x.pictures ≡ t.pictures

-- the last sequence header, and the field that waits
pub record SameHeads (old new : Folding) : Type 0 where
  pub heads : new.heads ≡ old.heads
  pub waiting : new.waiting ≡ old.waiting

-- what is made of spans that are whole, and the field that waits
pub record SameTold (old new : Folding) : Type 0 where
  pub mender : new.mender ≡ old.mender
  pub groups : new.groups ≡ old.groups
  pub pictures : new.pictures ≡ old.pictures
  pub waiting : new.waiting ≡ old.waiting

-- a span at hand
abbrev pub HasSpan : Span → Option SpanParts → Type 0
HasSpan s None = ⊥
HasSpan s (Some x) = IsSpan s x

-- a span begins with a piece
pub record IsBegun (old : Folding) (m : Member) (new : Folding) : Type 0 where
  pub heads : (before : Units) → IsHeads before old.heads → IsHeads (before ++ units_of (whole_of m.piece)) new.heads
  pub span : (before : Units) → IsHeads before old.heads → HasZeros m
      → HasSpan (record { place = m.piece.place; head = head_of (from_last_sequence before); pieces = whole_of m.piece ∷ [] }) new.parts
  pub told : SameTold old new

-- a span has one piece more
pub record IsGrown (old : Folding) (x : SpanParts) (m : Member) (new : Folding) : Type 0 where
  pub heads : (before : Units) → IsHeads before old.heads → IsHeads (before ++ units_of (whole_of m.piece)) new.heads
  pub span : (s : Span) → IsSpan s x → 1 ≤ length s.pieces → HasZeros m → m.piece.place ≡ end_of_span s
      → HasSpan (record s { pieces = s.pieces ++ whole_of m.piece ∷ [] }) new.parts
  pub told : SameTold old new

-- pieces are folded, where this first field waits behind the last one
abbrev pub Waits : List ℕ → List mending.Gap → Gathering → Folding → Type 0
Waits written listed g x = IsFolded written listed g (record x { waiting = g.waiting })
