use Rattle.std.proofs.Common.{arith, ◌≡◌, ◌+◌, ◌-◌, ◌<◌, ◌∙◌, ◌++◌, length, set, take}
use Rattle.std.proofs.lemmas.List.{length-set}
use Rattle.m2v_bits.specs.Bits.{bits, bits_of}
use Rattle.m2v_bits.proofs.Cursor.{spilled}
use Rattle.m2v_bits.proofs.writer.spill_near_end.Goals as goal

pub loop-left-preserved : goal.loop-left-preserved
loop-left-preserved c =
    let room : c.loop-left.at < length c.loop-left.buf.items = omega (arith, c.requires.room, c.loop-left.invariant.place, c.loop-left.invariant.len) in
    let more : 8 + (c.loop-left.left - 8) ≡ c.loop-left.left = omega arith in
    let moved : bits (take (c.loop-left.at + 1) (set c.loop-left.buf.items c.loop-left.at c.low.result)) ++ bits_of (c.loop-left.left - 8) c.args.acc ≡ bits (take c.loop-left.at c.loop-left.buf.items) ++ bits_of c.loop-left.left c.args.acc
    = rw (c.low.ensures) (rw more at (spilled c.loop-left.buf.items c.loop-left.at (c.loop-left.left - 8) c.args.acc room)) in
    record {
      place = omega (arith, c.loop-left.invariant.place);
      same = omega (arith, c.loop-left.invariant.same);
      len = length-set c.loop-left.buf.items c.loop-left.at c.low.result ∙ c.loop-left.invariant.len;
      fewer = omega (arith, c.loop-left.invariant.fewer);
      written = moved ∙ c.loop-left.invariant.written;
    }
