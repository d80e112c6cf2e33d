use Rattle.std.proofs.Common.{◌≡◌, ◌+◌, ◌-◌, ◌∙◌, ap, arith, get_or, length}
use Rattle.m2v_pred.proofs.m2v_plane.Places.{put_before, put_behind, put_within}
use Rattle.m2v_recon.proofs.differences.put_eight.Goals as goal

pub returns : goal.returns
returns c =
    let from = c.args.from in
    let old = c.args.samples.now in
    let new = c.put_all.new.out in
    let len : length new ≡ 8 = omega (arith, ap length c.put_all.ensures.value) in
    record {
      within = λ j lt. put_within from (from + 8 - from) old new j (omega arith) (omega (arith, len)) ∙ ap (λ ys. get_or ys j 0) c.put_all.ensures.value;
      before = λ i lt. put_before from (from + 8 - from) old new i (omega arith) lt;
      behind = λ i le. put_behind from (from + 8 - from) old new i (omega arith) (omega (arith, len)) (omega (arith, le));
    }
