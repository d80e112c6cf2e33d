use Rattle.std.proofs.Common.{◌∙◌, arith}
use Rattle.m2v_dec_batch.proofs.Ranges.{pushed, pushed_length}
use Rattle.m2v_dec_batch.proofs.reads.push_range.Goals as goal

pub push-requires : goal.push-requires
push-requires c = record {
  room = omega (arith, pushed_length c.args.out.now c.loop-i.out c.args.jobs.from c.loop-i.i c.loop-i.invariant, c.requires.room, c.loop-i-test.true);
}

pub loop-i-preserved : goal.loop-i-preserved
loop-i-preserved c = c.push.ensures.written ∙ pushed c.args.out.now c.loop-i.out c.args.jobs.from c.loop-i.i c.loop-i.invariant
