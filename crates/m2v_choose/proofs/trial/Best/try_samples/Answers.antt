use Rattle.std.proofs.Common.{◌*◌, ◌^◌, sym, ◌∙◌, true, false}
use Rattle.m2v_choose.proofs.Cheapest.{least_known}
use Rattle.m2v_choose.proofs.trial.Best.try_samples.Goals as goal

pub try_predicted-requires-clause-measured : goal.try_predicted-requires-clause-measured
try_predicted-requires-clause-measured c =
    let t = c.args.task.now in
    let bit = (2 * t.limits.now.q) ^ 2 in
    let n = c.least_header-header.result in
    let s = t.source.now.at in
    let p = c.args.prediction.now.at in
    record {
      frame = c.part_squares.ensures.value;
      field = c.field_squares.ensures;
      least = record { header = n; bits = c.least_header-header.ensures; value = c.least_score.ensures.value ∙ least_known bit n false s p c.part_squares.new.out c.part_squares.ensures.value };
      field_least = λ has. record {
        header = n;
        bits = c.least_header-header.ensures;
        value = c.field_least.ensures has ∙ least_known bit n true s p c.field_squares.new.out (c.field_squares.ensures has);
      };
      headers = c.headers_of-headers.ensures;
    }

pub returns : goal.returns
returns c = record {
  tried = λ r p same bare samples rated. c.try_predicted.ensures.tried r p same (bare ∙ sym c.count_alone-alone.ensures.some) samples rated;
}
