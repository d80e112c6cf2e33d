use Rattle.std.proofs.Common.{arith, subst, List, ℕ}
use Rattle.std.proofs.lemmas.Result.{err_from_is_err_and}
use Rattle.m2v_port.specs.Port.{Grows}
use Rattle.m2v_port.specs.Ends.{change}
use Rattle.m2v_port.proofs.Runs.{stays_on}
use Rattle.m2v_dec_piece.specs.Putting.{PutStops}
use Rattle.m2v_dec_piece.proofs.PutLaws.{zeros_on, zeros_stop, of_buffer}
use Rattle.m2v_dec_piece.proofs.putting.put_buffered.Goals as goal

pub returns-in_err-put-clause-err : goal.returns-in_err-put-clause-err
returns-in_err-put-clause-err g c =
    let p = err_from_is_err_and c.from_residual.result c.from_residual.ensures.1 in
    let inv = c.loop-left.invariant in
    rw (p.1, p.2) (zeros_stop g.K.Sink.held g.K.Sink.faults _ _ _ c.args.zeros c.loop-left.left c.min-n.result _ (omega (arith, c.min-n.ensures)) inv.less inv.output.counts inv.grown
    (subst (λ (b : List ℕ). PutStops b (change g.K.Sink.held g.K.Sink.faults c.loop-left.output c.put.new.output) c.in_err-put.field-0.0) (of_buffer c.min-n.result 4096 (omega (arith, c.min-n.ensures))) c.in_err-put.ensures.err))

pub loop-left-preserved : goal.loop-left-preserved
loop-left-preserved g c =
    let inv = c.loop-left.invariant in
    record {
      less = omega (arith, inv.less);
      grown = zeros_on g.K.Sink.held g.K.Sink.faults _ _ _ c.args.zeros c.loop-left.left c.min-n.result (omega (arith, c.min-n.ensures)) inv.less inv.grown
          (subst (λ (b : List ℕ). Grows (g.K.Sink.held c.loop-left.output) b (g.K.Sink.held c.put.new.output)) (of_buffer c.min-n.result 4096 (omega (arith, c.min-n.ensures))) c.in_ok-put.ensures.grown);
      output = stays_on inv.output c.put.ensures.output;
    }
