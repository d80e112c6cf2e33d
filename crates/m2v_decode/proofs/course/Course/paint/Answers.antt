use Rattle.m2v_decode.proofs.StepLaws.{is_at, setup_sizes, setup_references, painted_by}
use Rattle.m2v_decode.proofs.course.Course.paint.Goals as goal

pub slice-requires-clause-frames : goal.slice-requires-clause-frames
slice-requires-clause-frames c =
    let r = c.requires in
    setup_sizes c.args.self.now c.args.s.now c.args.p.now c.slice_setup-setup.result (is_at _ _ _ r.sound r.sequence r.picture) c.slice_setup-setup.ensures.value

pub slice-requires-clause-decoded : goal.slice-requires-clause-decoded
slice-requires-clause-decoded c =
    let r = c.requires in
    setup_references c.args.self.now c.args.s.now c.args.p.now c.slice_setup-setup.result (is_at _ _ _ r.sound r.sequence r.picture) c.slice_setup-setup.ensures.value r.read

pub returns-in-Ok : goal.returns-in-Ok
returns-in-Ok c =
    let r = c.requires in
    let told = c.in-Ok.ensures in
    painted_by c.args.self.now c.args.s.now c.args.p.now c.slice_setup-setup.result c.args.row c.args.u.now c.slice.new.self c.body.result.rest c.slice.new.input.rest c.in-Ok.end c.slice_setup-setup.ensures.value
    r.sound r.sequence r.picture r.read r.row c.body.ensures.rest told.exact told.frames told.covered told.large
