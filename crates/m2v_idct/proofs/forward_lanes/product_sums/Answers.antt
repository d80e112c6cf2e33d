use Rattle.std.proofs.Common.{arith, ap, ◌∙◌, ◌*ℤ◌, ℤ}
use lib.Lanes.{zip2}
use mir.Syntax.{w16, w32}
use Rattle.m2v_idct.specs.ForwardLanes.{neighbours}
use Rattle.m2v_idct.proofs.AllLanes.{fits_short, fits_word, told_is, told_within, wider}
use Rattle.m2v_idct.proofs.forward_lanes.product_sums.Goals as goal

pub products-requires-clause-x : goal.products-requires-clause-x
products-requires-clause-x c = told_within w16 32767 fits_short 32767 c.args.x (omega arith) c.requires.x

pub products-requires-clause-y : goal.products-requires-clause-y
products-requires-clause-y c = told_within w16 32767 fits_short 4096 c.args.y (omega arith) c.requires.y

pub neighbour_sums-requires-clause-within : goal.neighbour_sums-requires-clause-within
neighbour_sums-requires-clause-within c = told_within w32 2147483647 fits_word 134217728 c.products.result (omega arith) c.products.ensures.within

pub returns : goal.returns
returns c =
    let x_is = told_is w16 32767 fits_short c.args.x c.requires.x in
    let y_is = told_is w16 32767 fits_short c.args.y (wider 4096 32767 (omega arith) c.args.y c.requires.y) in
    let p = c.products.result in
    let r = c.neighbour_sums.result in
    let p_is = told_is w32 2147483647 fits_word p (wider 134217728 2147483647 (omega arith) p c.products.ensures.within) ∙ c.products.ensures.value ∙ (λ i. zip2 (λ (a b : ℤ). a *ℤ b) (x_is i) (y_is i)) in
    record {
      value = told_is w32 2147483647 fits_word r (wider 268435456 2147483647 (omega arith) r c.neighbour_sums.ensures.within) ∙ c.neighbour_sums.ensures.value ∙ ap neighbours p_is;
      within = told_within w32 2147483647 fits_word 268435456 r (omega arith) c.neighbour_sums.ensures.within;
    }
