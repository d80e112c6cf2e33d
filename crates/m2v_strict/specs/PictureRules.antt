-- The stricter rules on a picture header and its coding extension, and the warnings (clauses 6.3.5, 6.3.9, 6.3.10 and 8).
use Rattle.std.specs.Prelude.{ℕ, Bool, ◌&&◌, ◌||◌, not, nat_eq, nat_le, nat_lt, if◌then◌else◌, ◌++◌}
use Rattle.m2v_model.specs.m2v_macroblock.m2v_head.declared.picture.PictureInfo.{PictureInfo}
use Rattle.m2v_model.specs.m2v_macroblock.m2v_head.declared.picture.PictureExtension.{PictureExtension}
use Rattle.m2v_model.specs.Headers.{uses_backward}
use Rattle.m2v_model.specs.States.{height_of, is_frame, is_b}
use Rattle.m2v_model.specs.Lawful.{level_in, has_forward_vectors, f_code_of}
use Rattle.m2v_check.specs.declared.coded.CodedPicture.{CodedPicture}
use Rattle.m2v_check.specs.Breaking.{noted_picture}
use Rattle.m2v_strict.specs.declared.element.Element.TheVariants as elements
use Rattle.m2v_strict.specs.Remarks.{Remarks, remark, judge, looked_at, equal, unset, same}
use Rattle.m2v_strict.specs.SequenceRules.{is_higher}

-- ---- rules on a picture header

-- 27: at low delay there is no B picture
unfoldable pub low_delay_rule : CodedPicture → Remarks
low_delay_rule p =
    looked_at p.sequence.extension.low_delay (judge (not (is_b p.note.info.kind)) (remark 27 elements.LowDelay 3 2))

-- 28: vbv_delay is 65535 in no picture of a sequence at constant rate, and in each at variable rate, as its first one says
unfoldable pub delay_rule : Bool → ℕ → Remarks
delay_rule constant delay =
    if constant then judge (not (nat_eq delay 65535)) (remark 28 elements.VbvDelay 65535 65534)
    else equal 28 elements.VbvDelay delay 65535

-- 30: an f_code that isn't used is 15: those of a direction, forward before backward
abbrev pub unused_rule : CodedPicture → ℕ → Remarks
unused_rule p direction =
    equal 30 elements.FCodeHorizontal (f_code_of (noted_picture p.note) direction 0) 15
    ++ equal 30 elements.FCodeVertical (f_code_of (noted_picture p.note) direction 1) 15

unfoldable pub f_code_rule : CodedPicture → Remarks
f_code_rule p =
    looked_at (not (has_forward_vectors (noted_picture p.note))) (unused_rule p 0)
    ++ looked_at (not (uses_backward p.note.info.kind)) (unused_rule p 1)

-- 31: what a picture header says of vectors for MPEG-1 is not used
unfoldable pub full_pel_rule : PictureInfo → Remarks
full_pel_rule i =
    looked_at (not (nat_eq i.kind 1))
    (unset 31 elements.FullPelForwardVector i.full_pel_forward ++ equal 31 elements.ForwardFCode i.forward_f_code 7)
    ++ looked_at (uses_backward i.kind)
    (unset 31 elements.FullPelBackwardVector i.full_pel_backward ++ equal 31 elements.BackwardFCode i.backward_f_code 7)

-- ---- rules on a picture coding extension

-- rule 13 looks at a repeated first field of such a picture
abbrev pub is_judged : Bool → CodedPicture → Bool
is_judged constant p =
    let e = p.note.extension in
    constant && (p.sequence.extension.progressive_sequence || not e.progressive_frame || not (is_frame e))

-- 33: in field pictures these are 0; the last of them where rule 13 doesn't look at it
unfoldable pub field_rule : Bool → CodedPicture → Remarks
field_rule constant p =
    let e = p.note.extension in
    looked_at (not (is_frame e))
    (unset 33 elements.TopFieldFirst e.top_field_first
    ++ unset 33 elements.FramePredFrameDct e.frame_pred_frame_dct
    ++ unset 33 elements.ProgressiveFrame e.progressive_frame
    ++ looked_at (not (is_judged constant p)) (unset 33 elements.RepeatFirstField e.repeat_first_field))

-- 34: a progressive frame has frame prediction; in a progressive sequence rule 14 looks at it
unfoldable pub prediction_rule : CodedPicture → Remarks
prediction_rule p =
    let e = p.note.extension in
    looked_at (is_frame e && (e.progressive_frame && not p.sequence.extension.progressive_sequence))
    (judge e.frame_pred_frame_dct (remark 34 elements.FramePredFrameDct 0 1))

-- 35: top_field_first, in a progressive sequence, is set with repeat_first_field alone
unfoldable pub top_first_rule : CodedPicture → Remarks
top_first_rule p =
    let e = p.note.extension in
    looked_at (p.sequence.extension.progressive_sequence && not e.repeat_first_field)
    (unset 35 elements.TopFieldFirst e.top_field_first)

-- 36: of an interlaced sequence no frame repeats a field that isn't progressive; where rule 13 doesn't look at it
unfoldable pub interlaced_rule : Bool → CodedPicture → Remarks
interlaced_rule constant p =
    let e = p.note.extension in
    looked_at (not p.sequence.extension.progressive_sequence && (is_frame e && (not e.progressive_frame && not (is_judged constant p))))
    (unset 36 elements.RepeatFirstField e.repeat_first_field)

-- 37: nor one at the two lowest frame rates, nor in a progressive sequence one below 59.94 Hz; where rule 13 doesn't look at it
abbrev pub never_repeats : Bool → ℕ → Bool
never_repeats progressive code = nat_le code (if progressive then 6 else 2)

unfoldable pub repeat_by_rate_rule : Bool → CodedPicture → Remarks
repeat_by_rate_rule constant p =
    let e = p.note.extension in
    looked_at (never_repeats p.sequence.extension.progressive_sequence p.sequence.info.frame_rate_code && (is_frame e && not (is_judged constant p)))
    (unset 37 elements.RepeatByRate e.repeat_first_field)

-- 38: in 4:2:0 chroma_420_type is what progressive_frame is
unfoldable pub chroma_rule : PictureExtension → Remarks
chroma_rule e = same 38 elements.Chroma420Type e.chroma_420_type e.progressive_frame

-- ---- warnings

-- 57: it isn't decoded
unfoldable pub dropped_warning : CodedPicture → Remarks
dropped_warning p = unset 57 elements.Dropped p.note.dropped

-- 59: a B picture that repeats a field, at Main level, over 480 lines or at 25 Hz
unfoldable pub b_repeat_warning : CodedPicture → Remarks
b_repeat_warning p =
    let s = p.sequence in
    looked_at (is_b p.note.info.kind && (not (is_higher (level_in s)) && (nat_lt 480 (height_of s) || nat_eq s.info.frame_rate_code 3)))
    (unset 59 elements.RepeatFirstField p.note.extension.repeat_first_field)

-- ---- the whole

-- in turn, of a picture of a sequence at constant rate or not: 27 and 28, then 30, 31 and 33 (`f_code_rule`, `full_pel_rule`,
-- `field_rule`), 34 to 38, and the warnings
abbrev pub delay_remarks : Bool → CodedPicture → Remarks
delay_remarks constant p = low_delay_rule p ++ delay_rule constant p.note.info.vbv_delay

abbrev pub frame_remarks : Bool → CodedPicture → Remarks
frame_remarks constant p =
    prediction_rule p ++ top_first_rule p ++ interlaced_rule constant p ++ repeat_by_rate_rule constant p ++ chroma_rule p.note.extension

abbrev pub picture_warnings : CodedPicture → Remarks
picture_warnings p = dropped_warning p ++ b_repeat_warning p
