use Rattle.std.proofs.Common.{◌≡◌, ℕ, ◌<◌, ◌+◌, ◌*◌, ◌∙◌, arith, ap, get_or, below_more, subst, sym, pos}
use Rattle.m2v_idct.specs.Block.{at}
use Rattle.m2v_idct.specs.Inverse.{column}
use Rattle.m2v_idct.specs.Ranges.{Within}
use Rattle.m2v_idct.proofs.Rows.{column_same}
use Rattle.m2v_idct.proofs.inverse_dct.transform_columns.Goals as goal

pub transform_column-requires-clause-within : goal.transform_column-requires-clause-within
transform_column-requires-clause-within c k lk =
    let n = c.loop-x.x in
    subst (Within 160000) (sym (c.loop-x.invariant.rest k n lk (omega arith) (omega arith))) (c.requires (8 * k + n) (pos 0) (omega (arith, c.told-block)))

pub loop-x-preserved : goal.loop-x-preserved
loop-x-preserved c =
    let old = c.args.block.now in
    let mid = c.loop-x.block in
    let new = c.transform_column.new.block in
    let n = c.loop-x.x in
    record {
      done = λ y x ly lx.
          below_more (λ j. (k : ℕ) → k < 8 → get_or new (8 * k + j) (pos 0) ≡ get_or (column (λ i. at old i j)) k (pos 0)) n
          (λ j l k lk. c.transform_column.ensures.rest (8 * k + j) (λ i li. omega arith) ∙ c.loop-x.invariant.done k j lk l)
          (λ k lk. c.transform_column.ensures.column k lk
          ∙ ap (λ zs. get_or zs k (pos 0)) (column_same (λ i. at mid i n) (λ i. at old i n) (λ i li. c.loop-x.invariant.rest i n li (omega arith) (omega arith))))
          x lx y ly;
      rest = λ y x ly l8 lx. c.transform_column.ensures.rest (8 * y + x) (λ i li. omega arith) ∙ c.loop-x.invariant.rest y x ly (omega arith) lx;
    }
