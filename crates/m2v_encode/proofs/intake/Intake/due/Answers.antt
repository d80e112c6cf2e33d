use Rattle.m2v_encode.proofs.Due.{early_is}
use Rattle.m2v_encode.proofs.intake.Intake.due.Goals as goal

pub measured-requires-clause-early : goal.measured-requires-clause-early
measured-requires-clause-early c =
    let h = c.in_ok-group.ensures in
    let is = c.in-Some.is in
    early_is c.args.self.now.queue c.in-Some.group.pictures.items c.in-Some.group.frames.items c.requires.sound c.requires.few (rw is at h.frames) (rw is at h.places)
