use Rattle.std.proofs.Common.{◌≡◌, ◌<◌, ℕ, [], All, length, get_or}
use Rattle.m2v_quant.specs.Kinds.{IsLevel}
use Rattle.m2v_quant.specs.Quantiser.{levels_of as quantised, is_empty}
use Rattle.m2v_recon.specs.Macro.{kind_at, kind_of}
use Rattle.m2v_recon.specs.Steps.{levels_of}
use Rattle.m2v_choose.proofs.Small.{pattern_to}
use Rattle.m2v_choose.proofs.blocks.quantise_blocks.Given as goal

abbrev pub invariant-loop-block : goal.invariant-loop-block
invariant-loop-block l = record {
  len : length l.out ≡ 6;
  value : (b : ℕ) → b < l.block → get_or (levels_of l.out) b [] ≡ quantised (get_or l.transforms b []) (kind_of (kind_at l.kinds 0) (kind_at l.kinds 1) b);
  levels : (b : ℕ) → b < l.block → All IsLevel (get_or (levels_of l.out) b []);
  pattern : l.pattern ≡ pattern_to (λ b. is_empty (quantised (get_or l.transforms b []) (kind_of (kind_at l.kinds 0) (kind_at l.kinds 1) b))) l.block;
}
