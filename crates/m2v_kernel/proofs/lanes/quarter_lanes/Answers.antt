use Rattle.std.proofs.Common.{◌≡◌, replicate, ◌∙◌, sym, refl, length}
use Rattle.std.proofs.lemmas.Simd.{length-zip2}
use lib.Lanes.{zip2}
use Rattle.m2v_kernel.specs.Sums.{mean, pair, quarter}
use Rattle.m2v_kernel.proofs.Means.{SUB, AND, OR, XOR, quarters_are, quarters_small}
use Rattle.m2v_kernel.proofs.lanes.quarter_lanes.Goals as goal

pub returns : goal.returns
returns c =
    let a = c.args.a in let b = c.args.b in let e = c.args.c in let d = c.args.d in
    let upper = c.mean_lanes-upper.ensures.value in
    let lower = c.mean_lanes-lower.ensures.value in
    let odd = zip2 OR (zip2 XOR a b) (zip2 XOR e d) in
    let halves = c.mean_lanes.ensures.value ∙ (λ i. zip2 mean (upper i) (lower i)) in
    let all = (λ i. zip2 SUB (halves i) (zip2 AND (zip2 AND odd (zip2 XOR (upper i) (lower i))) (replicate 16 1)))
    ∙ quarters_are 16 a b e d c.requires.a c.requires.b c.requires.c c.requires.d c.requires.first.small c.requires.second.small c.requires.third.small c.requires.fourth.small in
    let one : length (zip2 pair a b) ≡ 16 = length-zip2 pair a b (c.requires.a ∙ sym c.requires.b) ∙ c.requires.a in
    let two : length (zip2 pair e d) ≡ 16 = length-zip2 pair e d (c.requires.c ∙ sym c.requires.d) ∙ c.requires.c in
    rw all
    (record {
      value = refl;
      len = length-zip2 quarter (zip2 pair a b) (zip2 pair e d) (one ∙ sym two) ∙ one;
      bytes = record { small = quarters_small a b e d c.requires.first.small c.requires.second.small c.requires.third.small c.requires.fourth.small };
    })
