use Rattle.m2v_decode.proofs.CourseLaws.{closed_none}
use Rattle.m2v_decode.proofs.course.Course.close.Goals as goal

pub returns-in-None : goal.returns-in-None
returns-in-None c = closed_none c.args.self.now c.requires.sound c.in-None.is
