use Rattle.std.proofs.Common.{◌≡◌, ◌-◌, ◌*◌, ◌≤◌, ap, arith}
use Rattle.std.specs.Prelude.{nat_eq}
use Rattle.m2v_order.specs.declared.jobs.PictureJob.{PictureJob}
use Rattle.m2v_slice.specs.Windows.{count_near}
use Rattle.m2v_slice.proofs.Stands.{stands_cached, among_below, place_small}
use Rattle.m2v_slice.proofs.window.stand_at.Goals as goal

pub overflow_mul-result : goal.overflow_mul-result
overflow_mul-result c =
    let few : c.min.result - c.saturating_sub.result ≤ 3 = omega (arith, c.min.ensures, c.saturating_sub.ensures) in
    record { fits = omega (arith, place_small c.args.book.now c.args.p c.args.i (c.min.result - c.saturating_sub.result) c.requires.place few) }

pub job-requires : goal.job-requires
job-requires c = record {
  picture = omega (arith, among_below c.args.book.now c.args.p c.args.i c.args.q c.requires.place c.requires.there, c.requires.picture);
}

pub returns : goal.returns
returns c =
    let count : c.min.result - c.saturating_sub.result ≡ count_near c.args.book.now c.args.r = omega (arith, c.min.ensures, c.saturating_sub.ensures, c.rows-rows.ensures.value) in
    record {
      value = stands_cached c.args.book.now c.args.p c.args.r c.args.q c.args.i (c.args.i * (c.min.result - c.saturating_sub.result)) (nat_eq c.job.result.now.structure 3)
          c.requires.place c.requires.there (ap (λ n. c.args.i * n) count) (ap (λ (j : PictureJob). nat_eq j.structure 3) c.job.ensures.value);
    }
