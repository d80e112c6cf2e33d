use Rattle.std.proofs.Common.{◌≡◌, ◌-◌, ◌≤◌, All, length, get_or, pos}
use Rattle.m2v_quant.specs.Kinds.{IsLevel}
use Rattle.m2v_quant.specs.Sparse.{IsClearFrom}
use Rattle.m2v_block.specs.Blocks.{pairs_at}
use Rattle.m2v_block.proofs.quick.quick_pairs.Given as goal

abbrev pub invariant-loop-ended : goal.invariant-loop-ended
invariant-loop-ended l = record {
  read : (pairs_at l.one (record { filled = l.filled; levels = l.out.at })).read l.input.rest ≡ (pairs_at l.one (record { filled = l.from; levels = l.fn.out.at })).read l.fn.input.rest;
  text : l.input.text ≡ l.fn.input.text;
  less : length l.input.rest ≤ length l.fn.input.rest;
  above : l.from ≤ l.filled;
  within : l.filled ≤ 64;
  clear : IsClearFrom l.filled l.out.at;
  levels : All IsLevel l.out.at;
  dc : get_or l.out.at 0 (pos 0) ≡ get_or l.fn.out.at 0 (pos 0);
}

abbrev pub decreases-loop-ended : goal.decreases-loop-ended
decreases-loop-ended l = 64 - l.filled
