use Rattle.std.proofs.Common.{◌++◌, map, arith}
use Rattle.std.proofs.lemmas.Result.{err_from_is_err_and}
use Rattle.m2v_port.specs.Port.{Rose}
use Rattle.m2v_port.proofs.Runs.{rose_since, stays_here, stays_on}
use Rattle.m2v_dec_piece.specs.declared.answer.DecodeError.TheVariants as errors
use Rattle.m2v_pardec.specs.Taken.{piece_of, pieces_of}
use Rattle.m2v_pardec.proofs.AheadLaws.{fails_weaker}
use Rattle.m2v_pardec.proofs.ChainLaws.{first_tracks, under_by, works_ahead, works_rise, chain_ends, chain_stops, read_both}
use Rattle.m2v_pardec.proofs.chain.put_chain.Goals as goal

pub returns-in_err-worked-clause-err : goal.returns-in_err-worked-clause-err
returns-in_err-worked-clause-err g c =
    let p = err_from_is_err_and c.from_residual.result c.from_residual.ensures.1 in
    let held = g.K.Sink.held c.args.output.now in
    rw (p.1, p.2)
    (λ bl b so. fails_weaker ⊥ (Rose (g.K.Sink.faults c.args.output.now) (g.K.Sink.faults c.args.output.now)) bl (g.S.Source.left c.work_first.new.input) b held errors.Memory (λ f. absurd f)
    (c.in_err-worked.ensures.err bl b held c.args.stream.now.decoder so))

pub loop-worked-init : goal.loop-worked-init
loop-worked-init g c =
    let x = c.in_ok-worked.ensures.ok in
    let t = c.args.taken in
    let f = c.args.frames in
    let old = c.args.stream.now.cutter in
    let new = c.work_first.new.cutter in
    let left = g.S.Source.left c.args.input.now in
    let left' = g.S.Source.left c.work_first.new.input in
    let d = c.args.stream.now.decoder in
    record {
      done = x.done;
      ahead = λ bl bf so. works_ahead t f old left new left' c.in_ok-worked.worked c.in_ok-worked.next bl bf (g.K.Sink.held c.args.output.now) d x so;
      under = under_by t f old left new left' c.in_ok-worked.worked c.in_ok-worked.next d c.requires.waiting x c.requires.there (first_tracks t f c.in_ok-worked.worked d x.book c.requires.tracks);
      rises = works_rise t f old left new left' c.in_ok-worked.worked c.in_ok-worked.next x;
      read = c.in_ok-worked.ensures.read;
      output = stays_here c.requires.output;
      input = c.work_first.ensures.input;
    }

pub work_next-requires-clause-rebuilt : goal.work_next-requires-clause-rebuilt
work_next-requires-clause-rebuilt g c κs within = c.goes_on.ensures.rebuilt c.loop-worked-test.true

pub returns-in_err-worked-2-clause-err : goal.returns-in_err-worked-2-clause-err
returns-in_err-worked-2-clause-err g c =
    let inv = c.loop-worked.invariant in
    let p = err_from_is_err_and c.from_residual-in_err-worked-2.result c.from_residual-in_err-worked-2.ensures.1 in
    let held' = g.K.Sink.held c.work_next.new.output in
    rw (p.1, p.2)
    (λ bl b so. fails_weaker (Rose (g.K.Sink.faults c.loop-worked.output) (g.K.Sink.faults c.work_next.new.output)) (Rose (g.K.Sink.faults c.args.output.now) (g.K.Sink.faults c.work_next.new.output)) bl (g.S.Source.left c.work_next.new.input) b held' c.in_err-worked-2.field-0.0
    (λ r. rose_since inv.output.counts r) (c.in_err-worked-2.ensures.err bl b (inv.ahead bl b so)))

pub loop-worked-preserved : goal.loop-worked-preserved
loop-worked-preserved g c =
    let inv = c.loop-worked.invariant in
    let y = c.in_ok-worked-2.ensures.ok in
    record {
      done = y.done;
      ahead = λ bl bf so. y.ahead bl bf (inv.ahead bl bf so);
      under = y.under;
      rises = λ low before more. y.rises low (inv.rises low before) more;
      read = read_both _ _ _ _ _ _ inv.input inv.read c.in_ok-worked-2.ensures.read;
      output = stays_on inv.output c.work_next.ensures.output;
      input = omega (arith, inv.input, c.work_next.ensures.input);
    }

pub returns-in_err-put_last-clause-err : goal.returns-in_err-put_last-clause-err
returns-in_err-put_last-clause-err g c =
    let inv = c.loop-worked.invariant in
    let p = err_from_is_err_and c.from_residual-in_err-put_last.result c.from_residual-in_err-put_last.ensures.1 in
    rw (p.1, p.2)
    (chain_stops (Rose (g.K.Sink.faults c.loop-worked.output) (g.K.Sink.faults c.put_last.new.output)) (Rose (g.K.Sink.faults c.args.output.now) (g.K.Sink.faults c.put_last.new.output)) c.args.taken c.args.stream.now.cutter (g.S.Source.left c.args.input.now) (g.K.Sink.held c.args.output.now) c.args.stream.now.decoder
    (map piece_of c.loop-worked.worked.book.pictures ++ pieces_of c.loop-worked.next) c.loop-worked.next c.loop-worked.stream.cutter (g.S.Source.left c.loop-worked.input) (g.K.Sink.held c.loop-worked.output) (g.K.Sink.held c.put_last.new.output) c.loop-worked.stream.decoder c.in_err-put_last.field-0.0
    (λ r. rose_since inv.output.counts r) inv.ahead c.in_err-put_last.ensures.err)

pub returns-clause-ok : goal.returns-clause-ok
returns-clause-ok g c =
    let inv = c.loop-worked.invariant in
    let put = c.in_ok-put_last.ensures in
    chain_ends c.args.taken c.args.stream.now.cutter (g.S.Source.left c.args.input.now) (g.K.Sink.held c.args.output.now) c.args.stream.now.decoder c.loop-worked.worked.book c.loop-worked.worked.after.items c.loop-worked.next c.loop-worked.stream.cutter (g.S.Source.left c.loop-worked.input) (g.K.Sink.held c.loop-worked.output)
    (g.K.Sink.held c.put_last.new.output) c.loop-worked.stream.decoder c.put_last.new.decoder inv.ahead inv.under inv.rises put.ok
