use Rattle.std.proofs.Common.{◌≡◌, ◌*◌, rules, arith}
use Rattle.std.specs.Int.{div_ceil}
use Rattle.m2v_vbv.proofs.Waits.{wait_most}
use Rattle.m2v_vbv.proofs.buffer.Buffer.wait.Goals as goal

pub overflow_mul-result : goal.overflow_mul-result
overflow_mul-result c =
    let most = wait_most c.self.inside.k c.self.inside.step c.args.missing (omega arith) (omega arith) in
    let e : c.steps.result ≡ div_ceil c.args.missing (c.self.inside.k * c.self.inside.step) = search rules in
    rw e (search rules)

pub returns-clause-most : goal.returns-clause-most
returns-clause-most c =
    let most = wait_most c.self.inside.k c.self.inside.step c.args.missing (omega arith) (omega arith) in
    let e : c.steps.result ≡ div_ceil c.args.missing (c.self.inside.k * c.self.inside.step) = search rules in
    rw e (omega arith)
