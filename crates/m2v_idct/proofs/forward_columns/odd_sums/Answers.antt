use Rattle.std.proofs.Common.{◌∙◌, arith, ℤ, ◌+ℤ◌}
use Rattle.std.proofs.lemmas.Int.{to_z-of_z}
use lib.Lanes.{zip2}
use mir.Syntax.{w16, w32}
use Rattle.m2v_idct.proofs.AllLanes.{fits_short, fits_word, told_is, told_within, wider}
use Rattle.m2v_idct.proofs.ForwardColumns.{weights_told}
use Rattle.m2v_idct.proofs.forward_columns.odd_sums.Goals as goal

pub weigh-requires-clause-x : goal.weigh-requires-clause-x
weigh-requires-clause-x c = told_within w16 32767 fits_short 32767 c.args.x.outer (omega arith) c.requires.outer

pub weigh-requires-2-clause-x : goal.weigh-requires-2-clause-x
weigh-requires-2-clause-x c = told_within w16 32767 fits_short 32767 c.args.x.inner (omega arith) c.requires.inner

pub added-requires-clause-x : goal.added-requires-clause-x
added-requires-clause-x c = told_within w32 2147483647 fits_word 268435456 c.weigh.result (omega arith) c.weigh.ensures.within

pub added-requires-clause-y : goal.added-requires-clause-y
added-requires-clause-y c = told_within w32 2147483647 fits_word 268435456 c.weigh-2.result (omega arith) c.weigh-2.ensures.within

pub returns : goal.returns
returns c =
    let a = to_z-of_z w16 c.args.a c.ranges.a in let b = to_z-of_z w16 c.args.b c.ranges.b in
    let e = to_z-of_z w16 c.args.c c.ranges.c in let d = to_z-of_z w16 c.args.d c.ranges.d in
    let o = weights_told c.args.x.outer c.weigh.result c.args.a c.args.b _ _ c.requires.outer a b c.weigh.ensures.value c.weigh.ensures.within in
    let n = weights_told c.args.x.inner c.weigh-2.result c.args.d c.args.c _ _ c.requires.inner d e c.weigh-2.ensures.value c.weigh-2.ensures.within in
    let r = c.added.result in
    record {
      value = told_is w32 2147483647 fits_word r (wider 536870912 2147483647 (omega arith) r c.added.ensures.within) ∙ c.added.ensures.value ∙ (λ i. zip2 (λ (y z : ℤ). y +ℤ z) (o i) (n i));
      within = told_within w32 2147483647 fits_word 536870912 r (omega arith) c.added.ensures.within;
    }
