use Rattle.std.proofs.Common.{◌≡◌, ℕ, ◌<◌, ◌+◌, ◌*◌, get_or}
use Rattle.m2v_pred.specs.m2v_plane.Sizes.{side}
use Rattle.m2v_pred.specs.m2v_plane.Samples.{sample_in}
use Rattle.m2v_enc_activity.proofs.source.copy_plane.Given as goal

abbrev pub invariant-loop-line : goal.invariant-loop-line
invariant-loop-line l =
    (r c : ℕ) → r < l.line → c < side l.plane
    → get_or l.out (r * side l.plane + c) 0 ≡ sample_in l.source l.plane l.lines (side l.plane * l.row + r) (side l.plane * l.column + c)
