use Rattle.std.proofs.Common.{not, nat_eq, ◌≡◌, ℕ, ◌<◌, ◌≤◌, ◌*◌}
use Rattle.m2v_idct.specs.Block.{nth}
use Rattle.m2v_idct.specs.Inverse.{clip}
use Rattle.m2v_recon.proofs.Luma.{spot, plus}
use Rattle.m2v_recon.proofs.differences.add_rows.Given as goal

abbrev pub invariant-loop-k : goal.invariant-loop-k
invariant-loop-k g l = record {
  done : (i : ℕ) → i < 8 * l.k → spot l.samples i ≡ plus (not (nat_eq g.row.INTRA 0)) (spot l.fn.samples i) (clip (nth l.values i));
  rest : (i : ℕ) → 8 * l.k ≤ i → spot l.samples i ≡ spot l.fn.samples i;
}
