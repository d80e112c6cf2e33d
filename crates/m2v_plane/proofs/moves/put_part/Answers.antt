use Rattle.std.proofs.Common.{◌++◌, ◌+◌, ◌-◌, length, take, drop, ap, ◌∙◌, arith}
use Rattle.std.proofs.lemmas.List.{drop-drop}
use Rattle.m2v_plane.specs.Samples.{put}
use Rattle.m2v_plane.proofs.moves.put_part.Goals as goal

pub returns : goal.returns
unfolding put
returns c =
    let out = c.args.out.now in
    let from = c.args.from in
    let n = from + length c.args.samples.now - from in
    record {
      value =
          ap (λ ys. take from out ++ (ys ++ drop n (drop from out))) c.copy_from_slice.ensures.after
          ∙ ap (λ zs. take from out ++ (c.args.samples.now ++ zs)) (drop-drop n from out ∙ ap (λ j. drop j out) (omega arith));
    }
