use Rattle.std.proofs.Common.{◌≡◌, ◌≢◌, ℕ, ◌<◌, ◌+◌, ◌*◌, not, nat_eq}
use Rattle.m2v_idct.specs.Block.{nth}
use Rattle.m2v_idct.specs.Inverse.{clip}
use Rattle.m2v_recon.specs.Steps.{luma_place}
use Rattle.m2v_recon.proofs.Luma.{spot, plus}
use Rattle.m2v_recon.proofs.differences.add_lines.Given as goal

abbrev pub invariant-loop-k : goal.invariant-loop-k
invariant-loop-k g l = record {
  lines : (k j : ℕ) → k < l.k → j < 8 → spot l.samples (luma_place (not (nat_eq g.row.FIELD 0)) l.block k + j)
      ≡ plus (not (nat_eq g.row.INTRA 0)) (spot l.fn.samples (luma_place (not (nat_eq g.row.FIELD 0)) l.block k + j)) (clip (nth l.values (8 * k + j)));
  rest : (i : ℕ) → ((k j : ℕ) → k < l.k → j < 8 → i ≢ luma_place (not (nat_eq g.row.FIELD 0)) l.block k + j) → spot l.samples i ≡ spot l.fn.samples i;
}
