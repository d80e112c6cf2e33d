-- The times from one removal to the next beside those of `check`, where no frame is repeated in a progressive sequence.
use Rattle.std.proofs.Common.{◌≡◌, ℕ, ◌-◌, ◌*◌, Bool, true, false, List, [], ◌∷◌, refl, sym, ap, ◌∙◌, arith}
use Rattle.std.specs.Prelude.{if◌then◌else◌, ◌&&◌, not, map}
use Rattle.std.specs.List.{AllByRecursion}
use Rattle.m2v_set.specs.Numbers.{field_time}
use Rattle.m2v_model.specs.States.{is_frame}
use Rattle.m2v_model.specs.Buffering.{time_shown, intervals}
use Rattle.m2v_strict.specs.m2v_check.declared.coded.CodedPicture.{CodedPicture}
use Rattle.m2v_strict.specs.m2v_check.declared.times.Times.{Times as Checked}
use Rattle.m2v_strict.specs.m2v_check.Breaking.{numbered_of}
use Rattle.m2v_strict.specs.m2v_check.Running.{ends_frame}
use Rattle.m2v_strict.specs.m2v_check.Holding.{time_behind}
use Rattle.m2v_audit.specs.Times.{frame_fields, Times, after, times, is_anchor, IsOnce, as_checked, checked_after, IsSameStep, AreIntervals}

-- three fields or two
abbrev fields : Bool → ℕ
fields repeats = if repeats then 3 else 2

abbrev repeats_of : Bool → Bool → Bool → Bool
repeats_of frame progressive repeat = not progressive && (frame && repeat)

-- a frame that isn't repeated in a progressive sequence
frame_shown : (progressive repeat top_first : Bool) → (progressive && (true && repeat)) ≡ false
    → frame_fields progressive repeat top_first ≡ fields (repeats_of true progressive repeat)
frame_shown true true top_first once = absurd (let d : true ≡ false = once in cc)
frame_shown true false top_first once = refl
frame_shown false true top_first once = refl
frame_shown false false top_first once = refl

-- a field picture is no frame whose first field is shown again
field_shown : (progressive repeat : Bool) → repeats_of false progressive repeat ≡ false
field_shown true repeat = refl
field_shown false repeat = refl

-- the last whole anchor
last_is : (ends frame progressive repeat top_first before : Bool) → (progressive && (frame && repeat)) ≡ false
    → (if ends then (if frame then (if frame then frame_fields progressive repeat top_first else 1) else 2) else fields before)
    ≡ fields (if ends then repeats_of frame progressive repeat else before)
last_is false frame progressive repeat top_first before once = refl
last_is true true progressive repeat top_first before once = frame_shown progressive repeat top_first once
last_is true false progressive repeat top_first before once = ap fields (sym (field_shown progressive repeat))

time_is : (repeats : Bool) (code : ℕ) → fields repeats * field_time code ≡ time_shown repeats code
time_is true code = refl
time_is false code = refl

frame_time_is : (waits frame_again : Bool) (code own : ℕ) (before : Bool) → own ≡ fields frame_again
    → (if waits then fields before else own) * field_time code ≡ time_shown (if waits then before else frame_again) code
frame_time_is true frame_again code own before e = time_is before code
frame_time_is false frame_again code own before e = ap (λ n. n * field_time code) e ∙ time_is frame_again code

field_time_is : (anchor ends before : Bool) (code : ℕ)
    → (if anchor && ends then fields before - 1 else 1) * field_time code
    ≡ (if anchor && ends && before then 2 * field_time code else field_time code)
field_time_is true true true code = refl
field_time_is true true false code = omega arith
field_time_is true false before code = omega arith
field_time_is false ends before code = omega arith

-- a picture's time
picture_time_is : (frame anchor low_delay ends progressive repeat top_first before : Bool) (code : ℕ) → (progressive && (frame && repeat)) ≡ false
    → (if frame then (if anchor && not low_delay then fields before else (if frame then frame_fields progressive repeat top_first else 1))
    else if anchor && ends then fields before - 1 else 1) * field_time code
    ≡ (if frame then time_shown (if anchor && not low_delay then before else repeats_of frame progressive repeat) code
    else if anchor && ends && before then 2 * field_time code else field_time code)
picture_time_is true anchor low_delay ends progressive repeat top_first before code once =
    frame_time_is (anchor && not low_delay) (repeats_of true progressive repeat) code (frame_fields progressive repeat top_first) before (frame_shown progressive repeat top_first once)
picture_time_is false anchor low_delay ends progressive repeat top_first before code once = field_time_is anchor ends before code

pub same_step : (c : Checked) (p : CodedPicture) → IsOnce p → IsSameStep c p
same_step c p once =
    let e = p.note.extension in
    let progressive = p.sequence.extension.progressive_sequence in
    let with : ℕ → Times = λ n. record { low_delay = c.low_delay; code = c.code; last = n } in
    record {
      time = picture_time_is (is_frame e) (is_anchor p.note) c.low_delay (ends_frame p.note) progressive e.repeat_first_field e.top_field_first c.repeats c.code once;
      after = ap with (last_is (is_anchor p.note && ends_frame p.note) (is_frame e) progressive e.repeat_first_field e.top_field_first c.repeats once);
    }

-- all times from here on
times_are : (c : Checked) (ps : List CodedPicture) → AllByRecursion IsOnce ps
    → times (as_checked c) ps ≡ intervals c.low_delay c.code c.repeats (map numbered_of ps)
unfolding times intervals
times_are c [] each = refl
times_are c (p ∷ ps) each =
    let step = same_step c p each.0 in
    let head = λ (t : ℕ). t ∷ times (after (as_checked c) p.sequence p.note) ps in
    let tail = λ (t : Times). time_behind c (numbered_of p) ∷ times t ps in
    let later = times_are (checked_after c p) ps each.1 in
    ap head step.time ∙ ap tail step.after ∙ ap (λ ts. time_behind c (numbered_of p) ∷ ts) later

pub all_times : (low_delay : Bool) (code : ℕ) (ps : List CodedPicture) → AllByRecursion IsOnce ps → AreIntervals low_delay code ps
all_times low_delay code ps each = times_are (record { low_delay = low_delay; code = code; repeats = false }) ps each
