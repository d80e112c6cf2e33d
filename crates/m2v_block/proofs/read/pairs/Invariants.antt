use Rattle.std.proofs.Common.{◌≡◌, ◌≤◌, All, length, get_or, pos}
use Rattle.m2v_quant.specs.Kinds.{IsLevel}
use Rattle.m2v_quant.specs.Sparse.{IsClearFrom}
use Rattle.m2v_block.specs.Blocks.{pairs_at}
use Rattle.m2v_block.proofs.read.pairs.Given as goal

abbrev pub invariant-loop-input : goal.invariant-loop-input
invariant-loop-input l = record {
  read : (pairs_at l.one (record { filled = l.filled; levels = l.out.at })).read l.input.rest ≡ (pairs_at l.one (record { filled = l.from; levels = l.fn.out.at })).read l.fn.input.rest;
  text : l.input.text ≡ l.fn.input.text;
  above : l.from ≤ l.filled;
  within : l.filled ≤ 64;
  clear : IsClearFrom l.filled l.out.at;
  levels : All IsLevel l.out.at;
  dc : get_or l.out.at 0 (pos 0) ≡ get_or l.fn.out.at 0 (pos 0);
}

abbrev pub decreases-loop-input : goal.decreases-loop-input
decreases-loop-input l = length l.input.rest
