use Rattle.std.proofs.Common.{◌≡◌, ◌+◌, ◌-◌, ◌*◌, get_or, ap, ◌∙◌, arith, inl, inr}
use Rattle.std.proofs.lemmas.Bool.{cases_lt}
use Rattle.m2v_search.proofs.window.put_whole.Goals as goal

pub loop-part-preserved : goal.loop-part-preserved
loop-part-preserved c =
    let n = c.loop-part.part in
    record {
      within = λ k lt. elim (cases_lt k (16 * n)) [
        | inl less ↦ c.put.ensures.before (c.args.from + k) (omega arith) ∙ c.loop-part.invariant.within k less
        | inr more ↦
            let j = k - 16 * n in
            let spot : c.args.from + k ≡ c.args.from + 16 * n + j = omega arith in
            let there : 16 * n + j ≡ k = omega arith in
            ap (λ i. get_or c.put.new.out i 0) spot ∙ c.put.ensures.within j (omega arith) ∙ c.sixteen.ensures.value j (omega arith)
            ∙ ap (λ i. get_or c.args.samples.now i 0) there
      ];
      before = λ i lt. c.put.ensures.before i (omega arith) ∙ c.loop-part.invariant.before i lt;
    }
