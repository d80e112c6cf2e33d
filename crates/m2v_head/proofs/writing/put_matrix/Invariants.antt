use Rattle.std.proofs.Common.{◌≡◌, ◌+◌, ◌*◌, ◌++◌, map, take, get_or}
use Rattle.m2v_bits.specs.Bits.{bits}
use Rattle.m2v_quant.specs.Scans.{zigzag}
use Rattle.m2v_head.proofs.writing.put_matrix.Given as goal

abbrev pub invariant-loop-i : goal.invariant-loop-i
invariant-loop-i l = record {
  written : l.out.written ≡ l.fn.out.written ++ bits (map (λ p. get_or l.numbers p 0) (take l.i zigzag));
  room : l.out.room + 8 * l.i ≡ l.fn.out.room;
}
