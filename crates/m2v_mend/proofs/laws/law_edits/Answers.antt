use Rattle.m2v_law_seam.specs.Seams.{lowered_unit, marked_unit}
use Rattle.m2v_law_seam.proofs.Edited.{lowered_keeps, marked_keeps}
use Rattle.m2v_mend.proofs.FrontLaws.{both_edits, edited_from, trimmed_room}
use Rattle.m2v_mend.proofs.laws.law_edits.Goals as goal

pub returns-clause-both : goal.returns-clause-both
returns-clause-both c = both_edits

pub returns-clause-marked : goal.returns-clause-marked
returns-clause-marked c = edited_from marked_unit marked_keeps

pub returns-clause-lowered : goal.returns-clause-lowered
returns-clause-lowered c low = edited_from (lowered_unit low) (lowered_keeps low)

pub returns-clause-room : goal.returns-clause-room
returns-clause-room c p place whole h = trimmed_room p whole h.bytes h.length
