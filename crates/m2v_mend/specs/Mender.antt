-- What becomes of a span that is next.
use Rattle.std.specs.Prelude.{◌≡◌, ℕ, ◌≤◌, Bool, false, true, List, [], ◌∷◌, length, Option, Some, None}
use Rattle.m2v_model.specs.declared.state.Sequence.{Sequence}
use Rattle.m2v_decode.specs.m2v_dec_piece.declared.answer.Fault.{Fault}
use Rattle.m2v_law_seam.specs.Spans.{units_of, has_group, Span}
use Rattle.m2v_law_seam.specs.Strands.{read_of, first_in, is_short}
use Rattle.m2v_law_seam.specs.Faults.{fault_alone, fault_of}
use Rattle.m2v_law_seam.specs.Mending.{Gap, Mending, strands_of, first_kept, groups_behind, low_of_span, goes_behind, put_behind}
use Rattle.m2v_mend.specs.declared.mender.Mender.{Mender}
use Rattle.m2v_mend.specs.declared.parts.SpanParts.{SpanParts}
use Rattle.m2v_mend.specs.declared.mender.Behind.{Behind}
use Rattle.m2v_mend.specs.declared.mender.Behind.TheVariants as behinds
use Rattle.m2v_mend.specs.Making.{IsMade, fault_told}
use Rattle.m2v_mend.specs.Strand.{StrandState, IsAt}

-- the strand that was under way has ended
abbrev pub over : Mending → Mending
over m = record m { done = strands_of m; strand = None; opening = false; low = 0 }

-- the first of pieces has a group header, or none has where there is no piece
abbrev pub IsFirstGroup : List (List ℕ) → Bool → Type 0
IsFirstGroup [] group = Unit {0}
IsFirstGroup (p ∷ ps) group = has_group (units_of p) ≡ group

-- a strand is under way with a span
pub record WentOn (s : Span) (strand : StrandState) (low : ℕ) (old new : Mender) : Type 0 where
  pub own : Option Sequence
  pub own_is : (bytes : List ℕ) → IsAt strand bytes → 1 ≤ length bytes → own ≡ first_in (read_of bytes)
  pub groups : ℕ
  pub groups_is : groups ≡ groups_behind old.groups s
  pub is : new ≡ record old { strand = Some strand; first = first_kept old.first own; low = low; groups = groups }

-- a span that isn't put behind a strand is given back as it was
abbrev pub GivesBack : SpanParts → Behind → Type 0
GivesBack x behinds.Put = Unit {0}
GivesBack x (behinds.NotUnderWay y) = y ≡ x
GivesBack x (behinds.Refused f y) = y ≡ x
GivesBack x (behinds.Long f y) = y ≡ x

-- why a span isn't put behind a strand
abbrev pub IsWhyNot : Mending → Span → Option Fault → Type 0
IsWhyNot m s None = fault_of m.strand (low_of_span m s) m.first s ≡ fault_alone m.first s
IsWhyNot m s (Some f) = fault_of m.strand (low_of_span m s) m.first s ≡ fault_told f

-- no strand is under way; no piece was put out
pub record IsWithout (old new : Mender) : Type 0 where
  pub is : new ≡ record old { strand = None; out = new.out }
  pub out : new.out.items ≡ old.out.items

-- a span was put behind the strand that was under way, or it wasn't, and no strand is
abbrev pub PutOrNot : List ℕ → List Gap → Mending → Span → Behind → Mender → Mender → Type 0
PutOrNot written listed m s behinds.Put old new = (goes_behind m s ≡ true) × IsMade written listed (put_behind m s) new
PutOrNot written listed m s (behinds.NotUnderWay x) old new = (goes_behind m s ≡ false) × IsWhyNot m s None × IsWithout old new
PutOrNot written listed m s (behinds.Refused f x) old new = (goes_behind m s ≡ false) × IsWhyNot m s (Some f) × IsWithout old new
PutOrNot written listed m s (behinds.Long f x) old new = ⊥

-- the same, where the strand has ended if it wasn't put there
abbrev pub BehindTold : List ℕ → List Gap → Mending → Span → Behind → Mender → Type 0
BehindTold written listed m s behinds.Put new = (goes_behind m s ≡ true) × IsMade written listed (put_behind m s) new
BehindTold written listed m s (behinds.NotUnderWay x) new =
    (goes_behind m s ≡ false) × IsWhyNot m s None × IsMade written listed (over m) new
BehindTold written listed m s (behinds.Refused f x) new =
    (goes_behind m s ≡ false) × IsWhyNot m s (Some f) × IsMade written listed (over m) new
BehindTold written listed m s (behinds.Long f x) new =
    (is_short s ≡ false) × (goes_behind m s ≡ false) × IsWhyNot m s (Some f) × IsMade written listed (over m) new

-- it passes a limit, which no other span does that isn't put
abbrev pub IsLong : Behind → Bool → Type 0
IsLong behinds.Put long = Unit {0}
IsLong (behinds.NotUnderWay x) long = long ≡ false
IsLong (behinds.Refused f x) long = long ≡ false
IsLong (behinds.Long f x) long = long ≡ true

abbrev pub IsNotLong : Behind → Type 0
IsNotLong behinds.Put = Unit {0}
IsNotLong (behinds.NotUnderWay x) = Unit {0}
IsNotLong (behinds.Refused f x) = Unit {0}
IsNotLong (behinds.Long f x) = ⊥
