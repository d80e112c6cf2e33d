use Rattle.std.proofs.Common.{not, nat_eq, ◌≡◌, ◌≢◌, ℕ, true, ◌+◌, ◌∙◌, arith, ap, length, rules, sym, ◌+ℤ◌}
use Rattle.std.proofs.lemmas.Bool.{ne_eqb}
use Rattle.m2v_idct.specs.Block.{nth}
use Rattle.m2v_idct.specs.Inverse.{clip}
use Rattle.m2v_recon.specs.Macro.{clamped}
use Rattle.m2v_recon.proofs.EightLanes.{all_passed, alone_at, passed_within, sum_at}
use Rattle.m2v_recon.proofs.Luma.{alone_kept, clip_kept, spot, plus}
use Rattle.m2v_recon.proofs.differences.eight_sums.Goals as goal

-- a constant that isn't 0 is true
is_set : (n : ℕ) → n ≢ 0 → not (nat_eq n 0) ≡ true
is_set n some = ap not (ne_eqb n 0 some)

pub nearest-requires-clause-within : goal.nearest-requires-clause-within
nearest-requires-clause-within g c = passed_within 30000 30255 c.eight_differences-differences.result (omega arith) (omega arith) c.eight_differences-differences.ensures.within

pub returns-then-this-ne0 : goal.returns-then-this-ne0
returns-then-this-ne0 g c j lt =
    let d = nth c.args.values.now (c.args.at + j) in
    alone_at c.nearest.result c.eight_differences-differences.result j (search rules) c.eight_differences-differences.ensures.within c.nearest.ensures lt
    ∙ ap clamped (c.eight_differences-differences.ensures.value j lt)
    ∙ alone_kept (spot c.args.samples.now (c.args.from + j)) d
    ∙ ap (λ b. plus b (spot c.args.samples.now (c.args.from + j)) (clip d)) (sym (is_set g.row.INTRA c.if-this-ne0.true))

pub nearest_sums-requires-clause-len : goal.nearest_sums-requires-clause-len
nearest_sums-requires-clause-len g c =
    let x = c.eight_samples-samples in
    let d = c.eight_differences-differences in
    let long : length x.result ≡ 8 = search rules in
    let len : length d.result ≡ 8 = search rules in
    (ap length (all_passed 255 x.result (omega arith) x.ensures.within) ∙ long, ap length (all_passed 30000 d.result (omega arith) d.ensures.within) ∙ len)

pub nearest_sums-requires-clause-x : goal.nearest_sums-requires-clause-x
nearest_sums-requires-clause-x g c = passed_within 255 255 c.eight_samples-samples.result (omega arith) (omega arith) c.eight_samples-samples.ensures.within

pub nearest_sums-requires-clause-y : goal.nearest_sums-requires-clause-y
nearest_sums-requires-clause-y g c = passed_within 30000 30000 c.eight_differences-differences.result (omega arith) (omega arith) c.eight_differences-differences.ensures.within

pub returns : goal.returns
returns g c j lt =
    let d = nth c.args.values.now (c.args.at + j) in
    let x = spot c.args.samples.now (c.args.from + j) in
    sum_at c.nearest_sums.result c.eight_samples-samples.result c.eight_differences-differences.result j (search rules) (search rules)
    c.eight_samples-samples.ensures.within c.eight_differences-differences.ensures.within c.nearest_sums.ensures lt
    ∙ (λ i. clamped (c.eight_samples-samples.ensures.value j lt i +ℤ c.eight_differences-differences.ensures.value j lt i))
    ∙ clip_kept x d (c.type_inv.samples (c.args.from + j)).fits
    ∙ ap (λ n. plus (not (nat_eq n 0)) x (clip d)) (sym c.if-this-ne0.false)
