use Rattle.std.proofs.Common.{◌∙◌}
use Rattle.std.proofs.lemmas.Int.{to_z-of_z}
use Rattle.m2v_vlc.proofs.Checks.{entries_table, entries_code}
use Rattle.m2v_vlc.proofs.Motions.{motion_checked}
use Rattle.m2v_vlc.proofs.code.code_motion.Goals as goal

pub row_code-requires : goal.row_code-requires
row_code-requires c = entries_table motion_checked

pub returns-clause-spelled : goal.returns-clause-spelled
returns-clause-spelled c =
    let f = c.ranges.value in
    c.row_code.ensures.spelled ∙ entries_code motion_checked c.motion_row.result ∙ simp to_z-of_z at c.motion_row.ensures
