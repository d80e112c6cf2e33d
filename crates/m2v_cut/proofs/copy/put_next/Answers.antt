use Rattle.std.proofs.Common.{List, ℕ, subst, ◌+◌, arith}
use Rattle.std.proofs.lemmas.Result.{err_from_is_err_and}
use Rattle.m2v_port.specs.Ends.{change}
use Rattle.m2v_port.specs.Port.{Grows}
use Rattle.m2v_decode.specs.Decoding.{whole_of}
use Rattle.m2v_dec_piece.specs.Putting.{PutStops}
use Rattle.m2v_cut.proofs.Lefts.{bytes_less, bytes_are, bytes_part}
use Rattle.m2v_cut.proofs.Putting.{cuts_named}
use Rattle.m2v_cut.proofs.copy.put_next.Goals as goal

pub put_part-requires-clause-within : goal.put_part-requires-clause-within
put_part-requires-clause-within g c =
    bytes_less (whole_of c.args.piece.now) c.count-counted.result.bits c.args.piece.now.length (rw c.units.ensures.value at c.count-counted.ensures.bits) (rw c.units.ensures.value at c.units.ensures.bits)

pub returns-in_err-put_part-clause-err : goal.returns-in_err-put_part-clause-err
returns-in_err-put_part-clause-err g c =
    let p = err_from_is_err_and c.from_residual.result c.from_residual.ensures.1 in
    let whole = whole_of c.args.piece.now in
    let groups = rw c.units.ensures.value at c.count-counted.ensures.groups in
    rw (p.1, p.2) (
      omega (arith, c.if-counted-most.false, c.requires.few, groups),
      cuts_named _ _ c.in_err-put_part.field-0.0 (subst (λ (b : List ℕ). PutStops b (change g.K.Sink.held g.K.Sink.faults c.args.output.now c.put_part.new.output) c.in_err-put_part.field-0.0)
          (bytes_part whole _ (bytes_are whole c.count-counted.result.bits (rw c.units.ensures.value at c.count-counted.ensures.bits))) c.in_err-put_part.ensures.err),
    )

pub returns-clause-put : goal.returns-clause-put
returns-clause-put g c =
    let whole = whole_of c.args.piece.now in
    let groups = rw c.units.ensures.value at c.count-counted.ensures.groups in
    let bytes = bytes_are whole c.count-counted.result.bits (rw c.units.ensures.value at c.count-counted.ensures.bits) in (
      (λ i. record { groups = c.args.copied.now.groups + groups i; bytes = c.args.copied.now.bytes + bytes i }),
      omega (arith, c.if-counted-most.false, c.requires.few),
      subst (λ (b : List ℕ). Grows (g.K.Sink.held c.args.output.now) b (g.K.Sink.held c.put_part.new.output)) (bytes_part whole _ bytes) c.in_ok-put_part.ensures.grown,
    )
