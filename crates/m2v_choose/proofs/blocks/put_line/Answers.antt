use Rattle.std.proofs.Common.{◌≡◌, ◌+◌, ◌*◌, ◌∙◌, arith, ap, sym, pos, ◌-ℤ◌}
use Rattle.std.specs.Prelude.{slice_index}
use Rattle.std.proofs.Math.ListN.{length-set}
use Rattle.std.proofs.lemmas.Int.{to_z-of_z}
use mir.Syntax.{w32}
use mir.Val.{SFits}
use Rattle.m2v_quant.proofs.Reconstruction.{write_next}
use Rattle.m2v_idct.specs.Ranges.{IsSample}
use Rattle.m2v_choose.specs.Decisions.{block_place}
use Rattle.m2v_choose.specs.Trials.{difference_at}
use Rattle.m2v_choose.proofs.blocks.put_line.Goals as goal

pub loop-j-preserved : goal.loop-j-preserved
loop-j-preserved c =
    let n = 8 * c.args.line + c.loop-j.j in
    let s = c.args.source.now.at in
    let p = c.args.prediction.now.at in
    let f = difference_at s p c.args.dct_field c.args.block in
    let fits : SFits w32 c.difference.result = record { sfits = c.difference.type_inv } in
    let same = to_z-of_z w32 c.difference.result fits in
    let place : block_place c.args.dct_field c.args.block n ≡ c.line_place-from.result + c.loop-j.j = c.line_place-from.ensures.value c.loop-j.j (omega arith) in
    let value : c.difference.result ≡ f n = c.difference.ensures.value ∙ ap (λ i. pos (slice_index s i) -ℤ pos (slice_index p i)) (sym place) in
    let more : 8 * c.args.line + c.loop-j.j + 1 ≡ 8 * c.args.line + (c.loop-j.j + 1) = omega arith in
    record {
      len = simp length-set c.loop-j.invariant.len;
      value = λ k lt. write_next (λ i z. z ≡ f i) c.loop-j.out n _ (omega (arith, c.loop-j.invariant.len)) c.loop-j.invariant.value (same ∙ value) k (omega arith);
      samples = λ k lt. write_next (λ i z. IsSample z) c.loop-j.out n _ (omega (arith, c.loop-j.invariant.len)) c.loop-j.invariant.samples (rw same c.difference.ensures.sample) k (omega arith);
    }
