-- The stricter rules on a group of pictures header, and the warning (clause 6.3.8).
use Rattle.std.specs.Prelude.{ℕ, ◌%◌, Bool, ◌&&◌, ◌||◌, not, nat_eq, nat_le, ◌++◌}
use Rattle.m2v_model.specs.m2v_macroblock.m2v_head.declared.group.GroupInfo.{GroupInfo}
use Rattle.m2v_strict.specs.declared.element.Element.TheVariants as elements
use Rattle.m2v_strict.specs.Remarks.{Remarks, remark, judge, looked_at, at_most, unset}

-- 24: the numbers of a time code (table 6-11)
unfoldable pub time_code_rule : GroupInfo → Remarks
time_code_rule g =
    at_most 24 elements.TimeCodeHours g.hours 23
    ++ at_most 24 elements.TimeCodeMinutes g.minutes 59
    ++ at_most 24 elements.TimeCodeSeconds g.seconds 59
    ++ at_most 24 elements.TimeCodePictures g.pictures 59

-- 25: numbers are passed over at 29.97 Hz alone (frame_rate_code 4)
unfoldable pub drop_rule : ℕ → GroupInfo → Remarks
drop_rule code g = looked_at (not (nat_eq code 4)) (unset 25 elements.DropFrameFlag g.drop)

-- 26: then pictures 0 and 1 are passed over as a minute begins, but for each tenth
abbrev pub passes_over : GroupInfo → Bool
passes_over g = g.drop && (nat_eq g.seconds 0 && not (nat_eq (g.minutes % 10) 0))

unfoldable pub passing_rule : GroupInfo → Remarks
passing_rule g = judge (not (passes_over g) || nat_le 2 g.pictures) (remark 26 elements.TimeCodePictures g.pictures 2)

-- 56: a warning, as editors may set it
unfoldable pub broken_link_warning : GroupInfo → Remarks
broken_link_warning g = unset 56 elements.BrokenLink g.broken_link

-- by number: the rules on a group header in a sequence of this frame_rate_code; then come the warnings, 55 (`time_warnings`) and 56
abbrev pub group_remarks : ℕ → GroupInfo → Remarks
group_remarks code g = time_code_rule g ++ drop_rule code g ++ passing_rule g
