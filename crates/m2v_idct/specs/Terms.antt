-- The terms that a row or a column is made of.
use Rattle.m2v_idct.specs.declared.combine.Terms.{Terms}
use Rattle.m2v_idct.specs.Ranges.{Within}

-- each is small enough that sums of them fit
pub record AreTerms (t : Terms) : Type 0 where
  pub a1 : Within 82000000 t.a1
  pub a7 : Within 82000000 t.a7
  pub a5 : Within 82000000 t.a5
  pub a3 : Within 82000000 t.a3
  pub e2 : Within 82000000 t.e2
  pub e6 : Within 82000000 t.e6
  pub p : Within 82000000 t.p
  pub m : Within 82000000 t.m
