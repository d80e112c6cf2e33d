use Rattle.std.proofs.Common.{ℕ, ◌≡◌, ◌+◌, ◌*◌, get_or, ap, arith}
use Rattle.m2v_search.specs.Bounds.{column_sum}
use Rattle.m2v_search.proofs.Slides.{column_most, column_least, column_slides}
use Rattle.m2v_search.proofs.parts.next_columns.Goals as goal

pub slide-requires-clause-most : goal.slide-requires-clause-most
slide-requires-clause-most c = λ k lt.
    let f = λ (i : ℕ). get_or c.args.window.now i 0 in
    omega (arith, c.requires.known k lt, column_most f (λ i. omega (arith, c.type_inv.window i)) (48 * c.args.line + k))

pub slide-requires-clause-held : goal.slide-requires-clause-held
slide-requires-clause-held c = λ k lt.
    let f = λ (i : ℕ). get_or c.args.window.now i 0 in
    omega (arith, c.requires.known k lt, c.window_line.ensures.value k lt, column_least f (48 * c.args.line + k))

pub returns : goal.returns
returns c = record {
  value = λ k lt.
      let f = λ (i : ℕ). get_or c.args.window.now i 0 in
      let at = 48 * c.args.line + k in
      let next : 48 * (c.args.line + 1) + k ≡ at + 48 = omega arith in
      let far : 48 * (c.args.line + 8) + k ≡ at + 384 = omega arith in
      omega (
        arith,
        c.slide.ensures.value k lt,
        c.requires.known k lt,
        c.window_line.ensures.value k lt,
        c.window_line-2.ensures.value k lt,
        column_slides f at,
        ap (column_sum 48 f) next,
        ap f far,
      );
  rest = c.slide.ensures.rest;
}
