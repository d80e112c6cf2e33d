use Rattle.std.proofs.Common.{◌≡◌, ℕ, ◌+◌, ◌*◌, ap, sym, refl, ◌∙◌, arith}
use Rattle.std.proofs.lemmas.List.{take_all}
use Rattle.m2v_kernel.specs.Sums.{sad, quarters_at}
use Rattle.m2v_kernel.proofs.Rows.{quarters_two}
use Rattle.m2v_kernel.proofs.between.sad_from_quarters.Goals as goal

pub returns-then-lines-eq8 : goal.returns-then-lines-eq8
returns-then-lines-eq8 c =
    let b = c.args.block.now in
    let eight : 8 ≡ c.args.lines = sym c.if-lines-eq8.true in record {
      value = c.total-upper.ensures ∙ c.eight_from_quarters.ensures.sum
          ∙ ap (λ xs. sad xs (quarters_at 8 c.args.window.now c.args.place c.args.stride)) (take_all 128 b (omega (arith, c.requires.whole, c.if-lines-eq8.true)))
          ∙ ap (λ (n : ℕ). sad b (quarters_at n c.args.window.now c.args.place c.args.stride)) eight;
    }

pub returns : goal.returns
returns c =
    let b = c.args.block.now in
    let sixteen : c.args.lines ≡ 16 = omega (arith, c.requires.lines) in record {
      value = (λ i. (c.total-upper.ensures ∙ c.eight_from_quarters.ensures.sum) i + (c.total-lower.ensures ∙ c.eight_from_quarters-2.ensures.sum) i)
          ∙ quarters_two 8 b c.args.window.now c.args.place c.args.stride _ _ _ (omega (arith, c.requires.whole)) (omega (arith, c.requires.within, ap (λ k. k * c.args.stride) sixteen)) (omega arith) refl refl
          ∙ ap (λ (n : ℕ). sad b (quarters_at n c.args.window.now c.args.place c.args.stride)) (sym sixteen);
    }
