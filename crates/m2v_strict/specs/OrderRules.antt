-- The rules on the order of headers (clauses 6.1.1, 6.1.1.11 and 6.2.2), and the warning on the end of a sequence.
use Rattle.std.specs.Prelude.{ℕ, Bool, ◌&&◌, ◌||◌, not, if◌then◌else◌, ◌++◌}
use Rattle.m2v_model.specs.States.{is_b}
use Rattle.m2v_check.specs.declared.coded.CodedPicture.{CodedPicture}
use Rattle.m2v_strict.specs.declared.element.Element.TheVariants as elements
use Rattle.m2v_strict.specs.declared.leading.Leading.{Leading}
use Rattle.m2v_strict.specs.declared.remark.Remark.{Remark}
use Rattle.m2v_strict.specs.Remarks.{Remarks, remark, judge}

-- ---- what stands before a header, behind the last picture

abbrev pub leads : Leading → Bool
leads before = before.sequence || before.group

-- 22: at most one sequence header stands there, and then at most one group header; what is told is the start code's value
abbrev pub out_of_order : ℕ → Remark
out_of_order value = remark 22 elements.HeaderOrder value 0

unfoldable pub sequence_order_rule : Leading → Remarks
sequence_order_rule before = judge (not (leads before)) (out_of_order 0xB3)

unfoldable pub group_order_rule : Leading → Remarks
group_order_rule before = judge (not before.group) (out_of_order 0xB8)

-- and no header stands without a picture behind it, of which the last one is told at the sequence's end
unfoldable pub late_header_rule : Leading → Remarks
late_header_rule before = judge (not (leads before)) (out_of_order (if before.group then 0xB8 else 0xB3))

-- 23: the first picture behind a sequence header isn't a B picture
unfoldable pub first_type_rule : Bool → CodedPicture → Remarks
first_type_rule headed p = judge (not (headed && is_b p.note.info.kind)) (remark 23 elements.PictureCodingType 3 1)

-- ---- the end

-- 53, a warning, as what is taken out of a container has none: a sequence end code ends the sequence
unfoldable pub end_code_warning : Bool → Remarks
end_code_warning closed = judge closed (remark 53 elements.SequenceEndCode 0 1)

-- at the end of a sequence, behind these headers since its last picture
abbrev pub end_remarks : Leading → Bool → Remarks
end_remarks before closed = late_header_rule before ++ end_code_warning closed
