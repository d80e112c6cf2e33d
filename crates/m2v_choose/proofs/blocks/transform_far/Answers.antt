use Rattle.std.proofs.Common.{◌*◌, ◌-◌, inl, inr, pos, arith, subst, sym, ◌∙◌, ℕ, ◌<◌}
use Rattle.std.proofs.lemmas.Bool.{ltb-true}
use Rattle.std.proofs.lemmas.Int.{ints}
use Rattle.std.proofs.lemmas.List.Elements.{All-replicate}
use Rattle.m2v_idct.specs.Ranges.{IsCoefficient}
use Rattle.m2v_choose.proofs.Near.{few_near, none_near, none_far}
use Rattle.m2v_choose.proofs.blocks.transform_far.Goals as goal

pub returns-then-is_near : goal.returns-then-is_near
returns-then-is_near c =
    let l = c.args.least in
    let few : c.args.squares < l * (l - 1) = ltb-true c.args.squares (l * (l - 1)) (sym c.is_near.ensures ∙ c.if-is_near.true) in
    record {
      alike = inr (none_near l c.requires.some, few_near c.args.dct_field c.args.source.now.at c.args.prediction.now.at c.args.block l c.requires.most (subst (λ (n : ℕ). n < l * (l - 1)) c.requires.squares few));
      known = All-replicate IsCoefficient 64 (pos 0) (omega (arith, ints), omega (arith, ints));
      far = none_far;
    }

pub returns : goal.returns
returns c = record {
  alike = inl c.transform_one.ensures.value;
  known = c.transform_one.ensures.coefficients;
  far = c.largest.ensures;
}
