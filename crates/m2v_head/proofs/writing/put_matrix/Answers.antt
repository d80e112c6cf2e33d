use Rattle.std.proofs.Common.{arith, ◌∙◌, ◌≡◌}
use Rattle.m2v_head.proofs.Matrices.{matrix_step, matrix_whole}
use Rattle.m2v_head.proofs.writing.put_matrix.Goals as goal

pub loop-i-preserved : goal.loop-i-preserved
loop-i-preserved c = record {
  written = c.put.ensures.written ∙ matrix_step c.args.numbers.now c.loop-i.i c.scan.result c.args.out.now.written c.loop-i.out.written (omega arith) c.scan.ensures.value c.loop-i.invariant.written;
  room = omega arith;
}

pub returns-clause-written : goal.returns-clause-written
returns-clause-written c =
    let end : c.loop-i.i ≡ 64 = omega arith in
    matrix_whole c.args.numbers.now c.args.out.now.written c.loop-i.out.written (rw end at c.loop-i.invariant.written)
