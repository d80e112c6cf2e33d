-- The time from the removal of a picture to that of the next one (C.9 to C.12), picture by picture, in units of
-- 1/720,000 s, where frames are repeated in progressive sequences too.
use Rattle.std.specs.Prelude.{◌≡◌, ℕ, ◌-◌, ◌*◌, Bool, false, ◌&&◌, not, if◌then◌else◌, List, [], ◌∷◌, map}
use Rattle.m2v_set.specs.Numbers.{field_time}
use Rattle.m2v_model.specs.declared.state.Sequence.{Sequence}
use Rattle.m2v_model.specs.declared.notes.PictureNote.{PictureNote}
use Rattle.m2v_model.specs.States.{is_frame, is_b}
use Rattle.m2v_model.specs.Buffering.{intervals}
use Rattle.m2v_strict.specs.m2v_check.declared.coded.CodedPicture.{CodedPicture}
use Rattle.m2v_strict.specs.m2v_check.declared.times.Times.{Times as Checked}
use Rattle.m2v_strict.specs.m2v_check.Breaking.{numbered_of}
use Rattle.m2v_strict.specs.m2v_check.Running.{ends_frame}
use Rattle.m2v_strict.specs.m2v_check.Holding.{time_behind, repeats_behind}

-- ---- fields

-- for how many fields a frame picture is shown (clause 6.3.10, progressive_sequence, repeat_first_field and
-- top_field_first): a progressive sequence shows a frame once, twice or three times
abbrev pub frame_fields : Bool → Bool → Bool → ℕ
frame_fields progressive repeat top_first =
    if not repeat then 2 else if not progressive then 3 else if top_first then 6 else 4

-- for how many fields a picture is shown
abbrev pub fields_of : Sequence → PictureNote → ℕ
fields_of s p =
    if is_frame p.extension
    then frame_fields s.extension.progressive_sequence p.extension.repeat_first_field p.extension.top_field_first
    else 1

abbrev pub is_anchor : PictureNote → Bool
is_anchor p = not (is_b p.info.kind)

-- ---- times

-- what is kept of the pictures so far: low_delay and frame_rate_code of the first sequence header, and for how many fields
-- the last whole anchor is shown that is a frame picture; 2 where that anchor is two field pictures, or none came
pub record Times : Type 0 where
  pub low_delay : Bool
  pub code : ℕ
  pub last : ℕ

abbrev pub opened : Bool → ℕ → Times
opened low_delay code = record { low_delay = low_delay; code = code; last = 2 }

-- the fields from the removal of a picture to that of the next one: an anchor is removed as long before the next picture
-- as the anchor before it is shown, its first field a field before its second; a B frame, and with low_delay each frame,
-- as long as it is shown itself
abbrev pub fields_until_next : Times → Sequence → PictureNote → ℕ
fields_until_next t s p =
    if is_frame p.extension then (if is_anchor p && not t.low_delay then t.last else fields_of s p)
    else if is_anchor p && ends_frame p then t.last - 1 else 1

abbrev pub time_of : Times → Sequence → PictureNote → ℕ
time_of t s p = fields_until_next t s p * field_time t.code

-- for how many fields the last whole anchor is shown then
abbrev pub last_with : ℕ → Sequence → PictureNote → ℕ
last_with last s p =
    if is_anchor p && ends_frame p then (if is_frame p.extension then fields_of s p else 2) else last

abbrev pub after : Times → Sequence → PictureNote → Times
after t s p = record { low_delay = t.low_delay; code = t.code; last = last_with t.last s p }

-- the times behind pictures, each with the sequence header before it
unfoldable pub times : Times → List CodedPicture → List ℕ
times t [] = []
times t (p ∷ ps) = time_of t p.sequence p.note ∷ times (after t p.sequence p.note) ps

-- ---- beside the times of check

-- a frame that a progressive sequence repeats; at constant rate it breaks rule 13
abbrev pub is_repeated : CodedPicture → Bool
is_repeated p = p.sequence.extension.progressive_sequence && (is_frame p.note.extension && p.note.extension.repeat_first_field)

abbrev pub IsOnce : CodedPicture → Type 0
IsOnce p = is_repeated p ≡ false

-- what is kept here, where check keeps these: 3 where the last anchor repeats, and else 2
abbrev pub as_checked : Checked → Times
as_checked c = record { low_delay = c.low_delay; code = c.code; last = if c.repeats then 3 else 2 }

abbrev pub checked_after : Checked → CodedPicture → Checked
checked_after c p = record c { repeats = repeats_behind c (numbered_of p) }

-- behind such a picture stands the same time, and what is kept goes on alike
pub record IsSameStep (c : Checked) (p : CodedPicture) : Type 0 where
  pub time : time_of (as_checked c) p.sequence p.note ≡ time_behind c (numbered_of p)
  pub after : after (as_checked c) p.sequence p.note ≡ as_checked (checked_after c p)

-- all times are the intervals of the account
abbrev pub AreIntervals : Bool → ℕ → List CodedPicture → Type 0
AreIntervals low_delay code ps = times (opened low_delay code) ps ≡ intervals low_delay code false (map numbered_of ps)
