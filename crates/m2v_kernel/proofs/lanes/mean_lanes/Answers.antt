use Rattle.std.proofs.Common.{◌∙◌, sym, refl}
use Rattle.std.proofs.lemmas.Simd.{length-zip2}
use Rattle.m2v_kernel.specs.Sums.{mean}
use Rattle.m2v_kernel.proofs.Means.{means_are, means_small}
use Rattle.m2v_kernel.proofs.lanes.mean_lanes.Goals as goal

pub returns : goal.returns
returns c =
    let x = c.args.x in let y = c.args.y in
    rw (means_are 16 x y c.requires.x c.requires.one.small c.requires.other.small)
    (record {
      value = refl;
      len = length-zip2 mean x y (c.requires.x ∙ sym c.requires.y) ∙ c.requires.x;
      bytes = record { small = means_small x y c.requires.one.small c.requires.other.small };
    })
