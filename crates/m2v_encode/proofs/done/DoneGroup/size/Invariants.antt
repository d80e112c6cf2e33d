use Rattle.std.proofs.Common.{◌≡◌, ◌*◌, ◌+◌, ◌^◌, ◌≤◌}
use Rattle.m2v_encode.proofs.Pieces.{bits_so_far}
use Rattle.m2v_encode.proofs.done.DoneGroup.size.Given as goal

abbrev pub invariant-loop-r : goal.invariant-loop-r
invariant-loop-r l = record {
  value : l.bits ≡ bits_so_far l.self l.p l.r;
  most : l.bits ≤ 376 + 2 ^ 32 * l.r;
}
