use Rattle.std.proofs.Common.{ℕ, List, get_or, arith, refl, ℤ, pos}
use Rattle.std.proofs.lemmas.Int.{ints}
use mir.Syntax.{w32}
use Rattle.m2v_idct.proofs.AllLanes.{fits_word, told_within}
use Rattle.m2v_idct.proofs.ForwardRows.{firsts_within, folded_within, samples_of, seconds_within, sums_are, sums_within}
use Rattle.m2v_idct.proofs.forward_rows.line_sums.Goals as goal

abbrev g : List ℤ → ℕ → ℤ
g f k = get_or f k (pos 0)

pub fold_line-x-requires : goal.fold_line-x-requires
fold_line-x-requires c k d lt = let s = c.requires k d lt in (omega (arith, ints, s), omega (arith, ints, s))

pub first_pairs-requires-clause-within : goal.first_pairs-requires-clause-within
first_pairs-requires-clause-within c = folded_within (g c.args.f.now) (samples_of c.args.f.now c.told-f c.requires) c.fold_line-x.result c.fold_line-x.ensures

pub product_sums-requires-clause-y : goal.product_sums-requires-clause-y
product_sums-requires-clause-y c =
    firsts_within (g c.args.f.now) (samples_of c.args.f.now c.told-f c.requires) c.fold_line-x.result c.fold_line-x.ensures c.first_pairs.result _ c.first_pairs.ensures refl

pub second_pairs-requires-clause-within : goal.second_pairs-requires-clause-within
second_pairs-requires-clause-within c = folded_within (g c.args.f.now) (samples_of c.args.f.now c.told-f c.requires) c.fold_line-x.result c.fold_line-x.ensures

pub product_sums-requires-2-clause-y : goal.product_sums-requires-2-clause-y
product_sums-requires-2-clause-y c =
    seconds_within (g c.args.f.now) (samples_of c.args.f.now c.told-f c.requires) c.fold_line-x.result c.fold_line-x.ensures _ c.second_pairs.result refl c.second_pairs.ensures

pub added-requires-clause-x : goal.added-requires-clause-x
added-requires-clause-x c = told_within w32 2147483647 fits_word 268435456 c.product_sums.result (omega arith) c.product_sums.ensures.within

pub added-requires-clause-y : goal.added-requires-clause-y
added-requires-clause-y c = told_within w32 2147483647 fits_word 268435456 c.product_sums-2.result (omega arith) c.product_sums-2.ensures.within

pub returns : goal.returns
returns c =
    let samples = samples_of c.args.f.now c.told-f c.requires in
    let x = c.fold_line-x in let p = c.first_pairs in let q = c.second_pairs in let a = c.product_sums in let b = c.product_sums-2 in
    record {
      value = sums_are (g c.args.f.now) samples x.result x.ensures p.result q.result p.ensures q.ensures a.result b.result c.added.result a.ensures.value b.ensures.value a.ensures.within b.ensures.within c.added.ensures.value;
      within = sums_within (g c.args.f.now) samples x.result x.ensures p.result q.result p.ensures q.ensures a.result b.result c.added.result a.ensures.value b.ensures.value a.ensures.within b.ensures.within c.added.ensures.value;
    }
