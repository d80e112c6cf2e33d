use Rattle.std.proofs.Common.{rules, ◌≡◌, ◌≢◌, ◌∙◌, ap, arith, get_or, get_or-set_other, length, pos}
use Rattle.std.proofs.lemmas.Int.{ints, to_z-of_z}
use Rattle.std.proofs.Math.ListN.{length-set}
use mir.Syntax.{w32}
use mir.Val.{SFits}
use Rattle.m2v_idct.specs.Inverse.{clip}
use Rattle.m2v_idct.proofs.Blocks.{write_more}
use Rattle.m2v_idct.proofs.Passed.{passed}
use Rattle.m2v_idct.proofs.inverse_dct.clip_all.Goals as goal

pub loop-k-preserved : goal.loop-k-preserved
loop-k-preserved c =
    let n = c.loop-k.k in
    let mid = c.loop-k.block in
    let old = c.args.block.now in
    let f : SFits w32 (get_or mid n (pos 0)) = search rules in
    let low = c.clamp.ensures.lower_bound in
    let high = c.clamp.ensures.upper_bound in
    let v = passed 256 c.clamp.result (omega arith) (omega (arith, ints), omega (arith, ints)) ∙ (simp to_z-of_z at c.clamp.ensures.value) in
    let len : length mid ≡ 64 = c.loop-k.invariant.len in
    record {
      len = simp length-set len;
      done = write_more mid (λ k. k) (λ k. clip (get_or old k (pos 0))) n _ (omega arith)
          (λ k l. omega arith) c.loop-k.invariant.done (v ∙ ap clip (c.loop-k.invariant.rest n (omega arith)));
      rest = λ j le. let ne : j ≢ n = omega arith in rw get_or-set_other (c.loop-k.invariant.rest j (omega arith));
    }
