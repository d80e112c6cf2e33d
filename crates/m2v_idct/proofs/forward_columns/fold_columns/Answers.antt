use Rattle.std.proofs.Common.{All, List, ℤ, arith}
use mir.Syntax.{w16}
use Rattle.m2v_idct.specs.Ranges.{Within}
use Rattle.m2v_idct.proofs.AllLanes.{fits_short, short_told, told_within, wider}
use Rattle.m2v_idct.proofs.ForwardColumns.{even_told, inner_told, odd_told, outer_told, s_within, t_within}
use Rattle.m2v_idct.proofs.forward_columns.fold_columns.Goals as goal

passed_on : (x : List ℤ) → All (Within 8191) x → All (Within 16383) (short_told x)
passed_on x h = wider 8191 16383 (omega arith) (short_told x) (told_within w16 32767 fits_short 8191 x (omega arith) h)

pub sums-outer-requires-clause-x : goal.sums-outer-requires-clause-x
sums-outer-requires-clause-x c = passed_on c.two_lines-a.result c.two_lines-a.ensures.within

pub sums-outer-requires-clause-y : goal.sums-outer-requires-clause-y
sums-outer-requires-clause-y c = passed_on c.two_lines-b.result c.two_lines-b.ensures.within

pub sums-inner-requires-clause-x : goal.sums-inner-requires-clause-x
sums-inner-requires-clause-x c = passed_on c.two_lines-c.result c.two_lines-c.ensures.within

pub sums-inner-requires-clause-y : goal.sums-inner-requires-clause-y
sums-inner-requires-clause-y c = passed_on c.two_lines-d.result c.two_lines-d.ensures.within

pub sums-requires-clause-x : goal.sums-requires-clause-x
sums-requires-clause-x c =
    s_within c.args.part.now c.told-part c.requires c.two_lines-a.result c.two_lines-b.result c.two_lines-c.result c.two_lines-d.result
    c.two_lines-a.ensures.value c.two_lines-b.ensures.value c.two_lines-c.ensures.value c.two_lines-d.ensures.value c.sums-outer.result c.sums-inner.result c.sums-outer.ensures c.sums-inner.ensures

pub sums-requires-clause-y : goal.sums-requires-clause-y
sums-requires-clause-y c =
    t_within c.args.part.now c.told-part c.requires c.two_lines-a.result c.two_lines-b.result c.two_lines-c.result c.two_lines-d.result
    c.two_lines-a.ensures.value c.two_lines-b.ensures.value c.two_lines-c.ensures.value c.two_lines-d.ensures.value c.sums-outer.result c.sums-inner.result c.sums-outer.ensures c.sums-inner.ensures

pub differences-requires-clause-x : goal.differences-requires-clause-x
differences-requires-clause-x c =
    s_within c.args.part.now c.told-part c.requires c.two_lines-a.result c.two_lines-b.result c.two_lines-c.result c.two_lines-d.result
    c.two_lines-a.ensures.value c.two_lines-b.ensures.value c.two_lines-c.ensures.value c.two_lines-d.ensures.value c.sums-outer.result c.sums-inner.result c.sums-outer.ensures c.sums-inner.ensures

pub differences-requires-clause-y : goal.differences-requires-clause-y
differences-requires-clause-y c =
    t_within c.args.part.now c.told-part c.requires c.two_lines-a.result c.two_lines-b.result c.two_lines-c.result c.two_lines-d.result
    c.two_lines-a.ensures.value c.two_lines-b.ensures.value c.two_lines-c.ensures.value c.two_lines-d.ensures.value c.sums-outer.result c.sums-inner.result c.sums-outer.ensures c.sums-inner.ensures

pub differences-requires-2-clause-x : goal.differences-requires-2-clause-x
differences-requires-2-clause-x c = passed_on c.two_lines-a.result c.two_lines-a.ensures.within

pub differences-requires-2-clause-y : goal.differences-requires-2-clause-y
differences-requires-2-clause-y c = passed_on c.two_lines-b.result c.two_lines-b.ensures.within

pub differences-requires-3-clause-x : goal.differences-requires-3-clause-x
differences-requires-3-clause-x c = passed_on c.two_lines-c.result c.two_lines-c.ensures.within

pub differences-requires-3-clause-y : goal.differences-requires-3-clause-y
differences-requires-3-clause-y c = passed_on c.two_lines-d.result c.two_lines-d.ensures.within

pub returns : goal.returns
returns c =
    let p = c.args.part.now in
    let a = c.two_lines-a in let b = c.two_lines-b in let d = c.two_lines-c in let e = c.two_lines-d in
    record {
      even = even_told p c.told-part c.requires a.result b.result d.result e.result a.ensures.value b.ensures.value d.ensures.value e.ensures.value
          c.sums-outer.result c.sums-inner.result c.sums-outer.ensures c.sums-inner.ensures c.sums.result c.sums.ensures;
      odd = odd_told p c.told-part c.requires a.result b.result d.result e.result a.ensures.value b.ensures.value d.ensures.value e.ensures.value
          c.sums-outer.result c.sums-inner.result c.sums-outer.ensures c.sums-inner.ensures c.differences.result c.differences.ensures;
      outer = outer_told p c.told-part c.requires a.result b.result d.result e.result a.ensures.value b.ensures.value d.ensures.value e.ensures.value c.differences-2.result c.differences-2.ensures;
      inner = inner_told p c.told-part c.requires a.result b.result d.result e.result a.ensures.value b.ensures.value d.ensures.value e.ensures.value c.differences-3.result c.differences-3.ensures;
    }
