use Rattle.std.proofs.Common.{ℕ, ◌≡◌, ◌+◌, ◌*◌, get_or, ap, ◌∙◌, arith}
use Rattle.m2v_search.specs.Bounds.{part_sum, half_far}
use Rattle.m2v_search.proofs.Cuts.{bound_eight, bound_sixteen}
use Rattle.m2v_search.proofs.Slides.{part_most, half_known, wide_known}
use Rattle.m2v_search.proofs.far.line_bounds.Goals as goal

pub bounds_by_both-requires-clause-most : goal.bounds_by_both-requires-clause-most
bounds_by_both-requires-clause-most c = λ k lt.
    let f = λ (i : ℕ). get_or c.args._window.now i 0 in
    let most = λ (a : ℕ). part_most f (λ i. omega (arith, c.type_inv._window i)) a in
    omega (
      arith,
      c.line_of-upper.ensures.value k (omega arith),
      (c.requires.known.wide (omega arith)).value c.args.y k (omega arith) (omega arith) lt,
      most (48 * c.args.y + k),
      most (48 * c.args.y + k + 4),
    )

pub bounds_by_both-requires-clause-lower_most : goal.bounds_by_both-requires-clause-lower_most
bounds_by_both-requires-clause-lower_most c = λ k lt.
    let f = λ (i : ℕ). get_or c.args._window.now i 0 in
    let most = λ (a : ℕ). part_most f (λ i. omega (arith, c.type_inv._window i)) a in
    omega (
      arith,
      c.line_of-lower.ensures.value k (omega arith),
      (c.requires.known.wide (omega arith)).value (c.args.y + 8) k (omega arith) (omega arith) lt,
      most (48 * (c.args.y + 8) + k),
      most (48 * (c.args.y + 8) + k + 4),
    )

pub bounds_by_one-requires-clause-most : goal.bounds_by_one-requires-clause-most
bounds_by_one-requires-clause-most c = λ k lt.
    let f = λ (i : ℕ). get_or c.args._window.now i 0 in
    omega (
      arith,
      c.line_of-line.ensures.value k (omega arith),
      (c.requires.known.narrow (omega arith)).value c.args.y k (omega arith) (omega arith) lt,
      part_most f (λ i. omega (arith, c.type_inv._window i)) (48 * c.args.y + k),
    )

pub returns-then-count-eq16 : goal.returns-then-count-eq16
returns-then-count-eq16 c = record {
  least = λ k lt.
      let f = λ (i : ℕ). get_or c.args._window.now i 0 in
      let h = c.args.parts in
      let y = c.args.y in
      let below : 48 * (y + 8) + k ≡ 48 * y + k + 384 = omega arith in
      let sums = (c.requires.known.wide (omega arith)).value in
      omega (
        arith,
        c.bounds_by_both.ensures.value k lt,
        wide_known h.upper c.line_of-upper.result.now (part_sum 48 f) (48 * y) k lt
            (λ j few. c.line_of-upper.ensures.value j (omega arith) ∙ sums y j (omega arith) (omega arith) few),
        wide_known h.lower c.line_of-lower.result.now (part_sum 48 f) (48 * (y + 8)) k lt
            (λ j few. c.line_of-lower.ensures.value j (omega arith) ∙ sums (y + 8) j (omega arith) (omega arith) few),
        ap (half_far h.lower (part_sum 48 f)) below,
        bound_sixteen c.args.count f h (48 * y + k) (omega arith),
      );
  most = c.bounds_by_both.ensures.most;
}

pub returns-else-count-eq16 : goal.returns-else-count-eq16
returns-else-count-eq16 c = record {
  least = λ k lt.
      let f = λ (i : ℕ). get_or c.args._window.now i 0 in
      let h = c.args.parts in
      let y = c.args.y in
      let sums = (c.requires.known.narrow (omega arith)).value in
      omega (
        arith,
        c.bounds_by_one.ensures.value k lt,
        half_known h.upper c.line_of-line.result.now (part_sum 48 f) (48 * y) k lt
            (λ j few. c.line_of-line.ensures.value j (omega arith) ∙ sums y j (omega arith) (omega arith) few),
        bound_eight c.args.count f h (48 * y + k) (omega arith),
      );
  most = c.bounds_by_one.ensures.most;
}
