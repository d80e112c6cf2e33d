use Rattle.std.proofs.Common.{◌≡◌, ◌∙◌, ◌+◌, ◌-◌, ℕ, replicate, ap, arith}
use Rattle.std.proofs.lemmas.List.{replicate-append-replicate}
use Rattle.std.proofs.lemmas.Result.{err_from_is_err_and}
use Rattle.m2v_port.proofs.Runs.{stays_on, grows_on}
use Rattle.m2v_encode.proofs.Puts.{put_then, grown_by}
use Rattle.m2v_encode.proofs.PictureTexts.{zeros_split}
use Rattle.m2v_encode.proofs.pictures.put_zeros.Goals as goal

pub returns-in_err-put_some_zeros-clause-put : goal.returns-in_err-put_some_zeros-clause-put
returns-in_err-put_some_zeros-clause-put g c =
    let p = err_from_is_err_and c.from_residual.result c.from_residual.ensures.1 in
    let inv = c.loop-left.invariant in
    rw (p.1, p.2) (record {
      grown = tt;
      err = put_then g.K.Sink.held g.K.Sink.faults _ _ _ _ _ _ (replicate {A = ℕ} (c.loop-left.left - c.min-n.result) 0) _ inv.output.counts
          (zeros_split c.args.count c.loop-left.left c.min-n.result inv.less (omega arith)) inv.grown c.in_err-put_some_zeros.ensures.put.err;
    })

pub loop-left-preserved : goal.loop-left-preserved
loop-left-preserved g c =
    let inv = c.loop-left.invariant in
    let more : c.args.count - c.loop-left.left + c.min-n.result ≡ c.args.count - (c.loop-left.left - c.min-n.result) = omega (arith, inv.less) in
    record {
      less = omega (arith, inv.less);
      grown = grown_by (g.K.Sink.held c.args.output.now) (g.K.Sink.held c.put_some_zeros.new.output) _ _ (replicate-append-replicate (c.args.count - c.loop-left.left) c.min-n.result 0 ∙ ap (λ (n : ℕ). replicate {A = ℕ} n 0) more)
          (grows_on inv.grown c.in_ok-put_some_zeros.ensures.put.grown);
      output = stays_on inv.output c.put_some_zeros.ensures.output;
    }
