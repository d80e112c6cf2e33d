use Rattle.std.proofs.Common.{refl}
use Rattle.m2v_decode.proofs.PassLaws.{slice_passed}
use Rattle.m2v_decode.proofs.pass.Pass.read_slice.Goals as goal

pub returns-in-Ok : goal.returns-in-Ok
returns-in-Ok c =
    let r = c.requires in
    let told = c.in-Ok.ensures in
    slice_passed c.args.self.now (record c.args.self.now { slices = c.slice.new.self }) c.args.s.now c.args.p.now c.slice_setup-setup.result c.args.row c.args.u.now c.body.result.rest c.slice.new.input.rest c.in-Ok.end c.slice_setup-setup.ensures.value r.sound r.sequence r.row c.body.ensures.rest told.exact told.covered told.large refl
