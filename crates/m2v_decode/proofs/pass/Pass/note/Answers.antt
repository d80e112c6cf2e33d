use Rattle.std.proofs.Common.{List, refl, ap, ◌∙◌}
use Rattle.m2v_head.specs.declared.sequence.SequenceInfo.{SequenceInfo}
use Rattle.m2v_head.specs.declared.sequence.SequenceExtension.{SequenceExtension}
use Rattle.m2v_model.specs.PieceNotes.{noted}
use Rattle.m2v_decode.proofs.NoteLaws.{sequence_noted, group_noted}
use Rattle.m2v_decode.proofs.PassLaws.{noted_none, noted_header}
use Rattle.m2v_decode.proofs.pass.Pass.note.Goals as goal

pub returns-in_ok-push-in-Sequence : goal.returns-in_ok-push-in-Sequence
returns-in_ok-push-in-Sequence c =
    let old = c.args.self.now in
    rw c.in-Sequence.is (noted_header _ _ _ refl refl refl refl refl refl
    (ap (λ (l : List (SequenceInfo × SequenceExtension)). record (noted old.notes) { sequences = l }) c.in_ok-push-in-Sequence.ensures.items ∙ sequence_noted old.code_end (noted old.notes) c.in-Sequence.s))

pub returns-in-Group : goal.returns-in-Group
returns-in-Group c = rw c.in-Group.is (noted_header _ _ _ refl refl refl refl refl refl (group_noted c.args.self.now.code_end (noted c.args.self.now.notes) c.in-Group.field-0))

pub returns-in-Picture : goal.returns-in-Picture
returns-in-Picture c = rw c.in-Picture.is (noted_none _ _ refl)

pub returns-in-Matrices : goal.returns-in-Matrices
returns-in-Matrices c = rw c.in-Matrices.is (noted_none _ _ refl)

pub returns-in-Skipped : goal.returns-in-Skipped
returns-in-Skipped c = rw c.in-Skipped.is (noted_none _ _ refl)

pub returns-in-Ending : goal.returns-in-Ending
returns-in-Ending c = rw c.in-Ending.is (noted_none _ _ refl)
