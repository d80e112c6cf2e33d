use Rattle.m2v_decode.proofs.CourseLaws.{closed_some}
use Rattle.m2v_decode.proofs.course.Course.end.Goals as goal

pub returns : goal.returns
returns c = closed_some c.args.self.now c.finish.new.self c.args.p.now c.requires.sound c.requires.open c.in_ok-finish.ensures
