use Rattle.std.proofs.Common.{◌<◌, ◌∙◌, length, get_or, slice_set, sym, subst, arith}
use borrow.Author.Count.{below_more}
use Rattle.std.proofs.lemmas.List.{get_or-set_same, get_or-set_other}
use Rattle.m2v_wave.specs.Each.{WasLeft}
use Rattle.m2v_wave.proofs.each.in_turn.Goals as goal

pub at_one-requires : goal.at_one-requires
at_one-requires g c = λ p e. c.requires.each c.loop-k.k c.index-s-k.result c.loop-k-test.true p (e ∙ c.loop-k.invariant.0 c.loop-k.k c.index-s-k.result (omega arith))

pub loop-k-preserved : goal.loop-k-preserved
loop-k-preserved g c =
    let k = c.loop-k.k in let ys = c.loop-k.s in let y = c.at_one.new.it in
    let P : g.row.T.Denot → Type 0 = WasLeft g.F.Fn c.args.f.now in
    let l : k < length ys = omega arith in (
      λ j d h. get_or-set_other ys k j y d (λ e. omega arith) ∙ c.loop-k.invariant.0 j d (omega arith),
      λ j d h. below_more (λ i. P (get_or (slice_set ys k y) i d)) k
          (λ i u. subst P (sym (get_or-set_other ys k i y d (λ e. omega arith))) (c.loop-k.invariant.1 i d u))
          (subst P (sym (get_or-set_same ys k y d l)) c.at_one.ensures)
          j h,
    )

pub returns : goal.returns
returns g c = record { each = λ k d lt. c.loop-k.invariant.1 k d (omega (arith, lt, c.loop-k.auto.s, c.loop-k-test.false)) }
