use Rattle.std.proofs.Common.{arith}
use Rattle.m2v_slice.proofs.TextLengths.{picture_most}
use Rattle.m2v_slice.proofs.writing.write_picture.Goals as goal

-- src/writing.rt:100:5
pub write-requires-clause-room : goal.write-requires-clause-room
write-requires-clause-room c =
    rw c.picture.ensures.value (omega (arith, picture_most c.args.job.now c.args.delay, c.write_start_code.ensures.room, c.requires.room))
