use Rattle.std.proofs.Common.{◌≡◌, ◌-◌, length}
use Rattle.m2v_dec_unit.specs.Texts.{text_of}
use Rattle.m2v_law_seam.specs.Spans.{units_of}
use Rattle.m2v_mend.proofs.EditLaws.{EditedTo}
use Rattle.m2v_mend.proofs.edits.edit_units.Given as goal

abbrev pub invariant-loop-at : goal.invariant-loop-at
invariant-loop-at l = record {
  edited : EditedTo l.edit (units_of (text_of l.fn.bytes l.zeros)) l.zeros l.bytes l.at;
  length : length l.bytes ≡ length l.fn.bytes;
}

abbrev pub decreases-loop-at : goal.decreases-loop-at
decreases-loop-at l = length l.bytes - l.at
