use Rattle.std.proofs.Common.{◌∙◌}
use Rattle.m2v_idct.specs.Inverse.{column, combine}
use Rattle.m2v_idct.proofs.inverse_dct.column_results.Goals as goal

pub returns : goal.returns
unfolding column
returns c =
    let t = c.column_terms.ensures in
    c.combine_terms.ensures ∙ (λ i. combine (t.a1 i) (t.a7 i) (t.a5 i) (t.a3 i) (t.e2 i) (t.e6 i) (t.p i) (t.m i) 14)
