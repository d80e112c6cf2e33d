-- What the rules as they run say of a stream's events.
use Rattle.std.specs.Prelude.{◌≡◌, Bool, false, not, ◌||◌, [], ◌∷◌, Option, Some, None}
use Rattle.m2v_model.specs.declared.state.Sequence.{Sequence}
use Rattle.m2v_model.specs.States.{is_frame}
use Rattle.m2v_model.specs.Pictures.{Picture, Pictures, Events, sequence_header, group_header, coded_picture, pictures_in}
use Rattle.m2v_model.specs.PieceNotes.{note_of}
use Rattle.m2v_model.specs.Lawful.{breaches}
use Rattle.m2v_check.specs.declared.rules.Rules.{Rules}
use Rattle.m2v_check.specs.Breaking.{found}
use Rattle.m2v_check.specs.Running.{no_rules, with_sequence, with_group, with_picture, coded_next, broken_in}

-- a picture behind a sequence header is looked at
abbrev pub with_coded : Rules → Option Sequence → Picture → Rules
with_coded r None p = r
with_coded r (Some s) p = with_picture r (coded_next r s (note_of 0 p))

-- the rules behind events
unfoldable pub rules_after : Rules → Events → Rules
rules_after r [] = r
rules_after r (sequence_header s ∷ es) = rules_after (with_sequence r s) es
rules_after r (group_header g ∷ es) = rules_after (with_group r) es
rules_after r (coded_picture p ∷ es) = rules_after (with_coded r r.sequence p) es

-- A picture ends its frame where it is a frame picture or a second field, and a first field stands where no other waits.
abbrev pub Alternates : Bool → Pictures → Type 0
Alternates waits [] = Unit {0}
Alternates waits (p ∷ ps) =
    (p.ends_frame ≡ (is_frame p.extension || not p.begins_frame)) × (p.ends_frame ≡ false → waits ≡ false) × Alternates (not p.ends_frame) ps

-- low_delay of the first sequence header among events
abbrev pub first_low_delay : Events → Bool
first_low_delay [] = false
first_low_delay (sequence_header s ∷ es) = s.extension.low_delay
first_low_delay (group_header g ∷ es) = first_low_delay es
first_low_delay (coded_picture p ∷ es) = first_low_delay es

-- what is found by the rules as they run is what is broken first
abbrev pub IsFound : Events → Type 0
IsFound es = Alternates false (pictures_in es) → broken_in (rules_after no_rules es) ≡ found (breaches (first_low_delay es) es)
