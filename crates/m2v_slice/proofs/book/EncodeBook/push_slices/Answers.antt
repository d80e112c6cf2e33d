use Rattle.std.proofs.Common.{◌+◌, ◌∙◌, arith}
use Rattle.m2v_slice.proofs.Lists.{one_slice_more, slices_length}
use Rattle.m2v_slice.proofs.book.EncodeBook.push_slices.Goals as goal

pub push-requires : goal.push-requires
push-requires c = record {
  room = omega (arith, slices_length c.args.self.now c.args.p c.args.from c.loop-i.i c.loop-i.out c.args.out.now c.loop-i.invariant, c.requires.room, c.loop-i-test.true);
}

pub loop-i-preserved : goal.loop-i-preserved
loop-i-preserved c =
    c.push.ensures.written
    ∙ one_slice_more c.args.self.now c.args.p c.args.from c.loop-i.i (c.plan_job.result + 1 + c.args.from + c.loop-i.i) c.loop-i.out c.args.out.now c.loop-i.invariant
    (omega (arith, c.plan_job.ensures.value))
