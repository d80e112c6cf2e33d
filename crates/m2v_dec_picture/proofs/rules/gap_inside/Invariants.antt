use Rattle.std.proofs.Common.{ℕ, ◌≡◌, ◌+◌, ◌<◌, true}
use Rattle.m2v_pred.specs.Inside.{is_inside}
use Rattle.m2v_dec_picture.specs.Conditions.{place_in}
use Rattle.m2v_dec_picture.proofs.rules.gap_inside.Given as goal

abbrev pub invariant-loop-k : goal.invariant-loop-k
invariant-loop-k l = record {
  so_far : (k : ℕ) → k < l.k → is_inside l.mode (place_in l.s l.row (l.gap.column + k)) l.s.dims ≡ true;
}
