use Rattle.std.proofs.Common.{rules, ◌≢◌, ◌+◌, ◌*◌, arith, get_or, get_or-set_other, pos}
use Rattle.std.proofs.lemmas.Int.{to_z-of_z}
use Rattle.std.proofs.Math.ListN.{length-set}
use mir.Syntax.{w32}
use mir.Val.{SFits}
use Rattle.m2v_idct.proofs.Blocks.{write_more}
use Rattle.m2v_idct.proofs.block.put_column.Goals as goal

pub loop-k-preserved : goal.loop-k-preserved
loop-k-preserved c =
    let n = c.loop-k.k in
    let results = c.args.results.now in
    let f : SFits w32 (get_or results n (pos 0)) = search rules in
    let len = c.loop-k.invariant.len in
    record {
      len = simp length-set len;
      column = write_more c.loop-k.block (λ k. 8 * k + c.args.x) (λ k. get_or results k (pos 0)) n _ (omega arith)
          (λ k l. omega arith) c.loop-k.invariant.column (to_z-of_z w32 (get_or results n (pos 0)) f);
      rest = λ i h. let ne : i ≢ 8 * n + c.args.x = h n c.loop-k-test.true in rw get_or-set_other (c.loop-k.invariant.rest i h);
    }
