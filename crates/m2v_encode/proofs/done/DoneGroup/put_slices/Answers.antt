use Rattle.std.proofs.Common.{◌∙◌, ◌+◌, ◌-◌, ◌++◌, ℕ, List, ap, sym, arith}
use Rattle.std.proofs.lemmas.Result.{err_from_is_err_and}
use Rattle.m2v_bits.specs.Bits.{packed}
use Rattle.m2v_port.proofs.Runs.{stays_here, stays_on, grows_on, grows_by_nothing}
use Rattle.m2v_slice.specs.Slices.{CodedSlice}
use Rattle.m2v_slice.specs.Books.{rows}
use Rattle.m2v_encode.specs.Groups.{slices_text}
use Rattle.m2v_encode.proofs.Puts.{put_then, put_same, grown_by}
use Rattle.m2v_encode.proofs.PictureTexts.{slices_split, slices_more}
use Rattle.m2v_encode.proofs.done.DoneGroup.put_slices.Goals as goal

pub returns-in_err-put_text-clause-put : goal.returns-in_err-put_text-clause-put
returns-in_err-put_text-clause-put g c =
    let p = err_from_is_err_and c.from_residual.result c.from_residual.ensures.1 in
    let inv = c.loop-r.invariant in
    let b = c.args.self.now in
    let text = ap packed (c.bytes.ensures ∙ ap (λ (x : CodedSlice). x.text) c.slice.ensures.value) in
    let split = slices_split b c.args.p c.loop-r.r (rows b - (c.loop-r.r + 1)) c.requires.picture (omega (arith, c.rows-r-end.ensures.value)) in
    rw (p.1, p.2) (record {
      grown = tt;
      err = put_then g.K.Sink.held g.K.Sink.faults _ _ _ _ _ _ split.0 _ inv.output.counts split.1 inv.grown
          (put_same g.K.Sink.held g.K.Sink.faults _ _ _ _ _ (sym text) c.in_err-put_text.ensures.put.err);
    })

pub loop-r-preserved : goal.loop-r-preserved
loop-r-preserved g c =
    let inv = c.loop-r.invariant in
    let b = c.args.self.now in
    let text = ap packed (c.bytes.ensures ∙ ap (λ (x : CodedSlice). x.text) c.slice.ensures.value) in
    record {
      grown = grown_by _ _ _ _
          (ap (λ (xs : List ℕ). packed (slices_text b c.args.p c.loop-r.r) ++ xs) text ∙ sym (slices_more b c.args.p c.loop-r.r c.requires.picture (omega (arith, c.rows-r-end.ensures.value))))
          (grows_on inv.grown c.in_ok-put_text.ensures.put.grown);
      output = stays_on inv.output c.put_text.ensures.output;
    }

pub loop-r-init : goal.loop-r-init
unfolding packed
loop-r-init g c = record { grown = grows_by_nothing (g.K.Sink.held c.args.output.now); output = stays_here c.requires.output }
