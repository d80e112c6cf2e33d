use Rattle.std.proofs.Common.{◌≡◌, ℕ, ◌<◌, ◌+◌, ◌*◌, cond, map, nat_lt}
use Rattle.m2v_pred.specs.m2v_plane.declared.planes.Plane.TheVariants.{Y}
use Rattle.m2v_recon.specs.Macro.{residual, block_of, is_alone, kind_at}
use Rattle.m2v_recon.proofs.Luma.{spot, plus}
use Rattle.m2v_recon.proofs.differences.add_luma.Given as goal

abbrev pub invariant-loop-block : goal.invariant-loop-block
invariant-loop-block g l =
    (r c : ℕ) → r < 16 → c < 16
    → spot l.samples (16 * r + c)
    ≡ cond (nat_lt (block_of l.dct_field Y r c).block l.block)
    (plus (is_alone l.pattern (kind_at l.kinds 0) (kind_at l.kinds 1) (block_of l.dct_field Y r c)) (spot l.fn.samples (16 * r + c)) (residual (map g.L.BlockLevels.list l.levels) l.pattern (kind_at l.kinds 0) (kind_at l.kinds 1) (block_of l.dct_field Y r c)))
    (spot l.fn.samples (16 * r + c))
