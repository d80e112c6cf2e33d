-- The rule on temporal_reference as it runs (clause 6.3.9): it is the place of a frame in the display order of its group,
-- modulo 1024, of both fields of a frame. Each breach is told as soon as the frame is shown: a B frame, and with low_delay
-- any frame, is shown at once, an anchor when the next one comes or its group ends.
use Rattle.std.specs.Prelude.{ℕ, ◌+◌, ◌%◌, Bool, ◌||◌, nat_eq, if◌then◌else◌, List, [], ◌∷◌, ◌++◌, Option, Some, None}
use Rattle.m2v_audit.specs.declared.places.Waiting.{Waiting}
use Rattle.m2v_audit.specs.declared.places.WaitingFrame.{WaitingFrame}
use Rattle.m2v_audit.specs.declared.places.Misplaced.{Misplaced}
use Rattle.m2v_audit.specs.declared.places.Places.{Places}

-- ---- what is told

-- of a picture whose frame stands at a place
abbrev pub misplaced : Waiting → ℕ → Option Misplaced
misplaced p place =
    if nat_eq p.reference (place % 1024) then None
    else Some (record { number = p.number; bit = p.bit; have = p.reference; need = place % 1024 })

-- of a first field, where there is one
abbrev pub field_misplaced : Option Waiting → ℕ → Option Misplaced
field_misplaced None place = None
field_misplaced (Some p) place = misplaced p place

-- of a frame: its first field, and then its frame picture or second field
abbrev pub frame_misplaced : WaitingFrame → ℕ → List (Option Misplaced)
frame_misplaced f place = field_misplaced f.first place ∷ misplaced f.last place ∷ []

-- of an anchor, where one waits
abbrev pub anchor_misplaced : Option WaitingFrame → ℕ → List (Option Misplaced)
anchor_misplaced None place = None ∷ None ∷ []
anchor_misplaced (Some f) place = frame_misplaced f place

-- ---- the frames of a group

abbrev pub some_waits : Option WaitingFrame → ℕ
some_waits None = 0
some_waits (Some f) = 1

-- how many frames of the group wait to be shown
abbrev pub waiting_in : Places → ℕ
waiting_in o = some_waits o.anchor

-- before the first group
abbrev pub no_places : Bool → Places
no_places low_delay = record { low_delay = low_delay; shown = 0; begun = None; anchor = None }

-- a first field came
abbrev pub with_field : Places → Waiting → Places
with_field o p = record o { begun = Some p }

-- the frame that a frame picture or a second field ends
abbrev pub frame_of : Places → Waiting → WaitingFrame
frame_of o p = record { first = o.begun; last = p }

-- a frame is shown at once, or it is an anchor, which waits until the next one comes
abbrev pub is_shown : Places → Bool → Bool
is_shown o b = o.low_delay || b

abbrev pub with_frame : Places → Waiting → Bool → Places
with_frame o p b =
    if is_shown o b then record o { begun = None; shown = o.shown + 1 }
    else record o { begun = None; shown = o.shown + waiting_in o; anchor = Some (frame_of o p) }

-- what is told then: of the frame itself, or of the anchor before it
abbrev pub told_with_frame : Places → Waiting → Bool → List (Option Misplaced)
told_with_frame o p b =
    if is_shown o b then frame_misplaced (frame_of o p) o.shown else anchor_misplaced o.anchor o.shown

-- the group ends
abbrev pub group_closed : Places → Places
group_closed o = record o { shown = 0; begun = None; anchor = None }

-- what is told then: of the anchor that waits, and of a first field behind it without a second one
abbrev pub told_at_close : Places → List (Option Misplaced)
told_at_close o =
    anchor_misplaced o.anchor o.shown ++ field_misplaced o.begun (o.shown + waiting_in o) ∷ []
