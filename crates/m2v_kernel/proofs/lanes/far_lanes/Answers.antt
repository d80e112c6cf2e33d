use Rattle.std.proofs.Common.{◌∙◌, arith}
use Rattle.std.specs.List.{sum}
use Rattle.std.proofs.lemmas.List.{take_all}
use lib.Lanes.{zip2}
use Rattle.m2v_kernel.specs.Sums.{apart}
use Rattle.m2v_kernel.proofs.lanes.far_lanes.Goals as goal

pub returns : goal.returns
returns c =
    let a = c.args.a.now in let b = c.args.b.now in
    let x = c.sixteen.ensures.value ∙ take_all 16 a (omega (arith, c.requires.one)) in
    let y = c.sixteen-2.ensures.value ∙ take_all 16 b (omega (arith, c.requires.other)) in
    record {
      value = c.apart_lanes.ensures.value ∙ (λ i. zip2 apart (x i) (y i));
      len = c.apart_lanes.ensures.len;
      most = c.apart_lanes.ensures.most;
      sum = c.apart_lanes.ensures.sum ∙ (λ i. sum (zip2 apart (x i) (y i)));
    }
