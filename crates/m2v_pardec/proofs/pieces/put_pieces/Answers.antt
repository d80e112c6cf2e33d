use Rattle.std.proofs.Common.{List, map, drop, get_or, subst, ◌+◌, arith}
use Rattle.std.proofs.lemmas.Option.{slice_get-get_or}
use Rattle.std.proofs.lemmas.Result.{err_from_is_err_and}
use Rattle.m2v_port.proofs.Runs.{rose_since, stays_on}
use Rattle.m2v_dec_batch.specs.declared.picture.BatchPicture.{BatchPicture}
use Rattle.m2v_pardec.specs.Taken.{piece_of}
use Rattle.m2v_pardec.specs.Put.{PutsTo, CountsTo}
use Rattle.m2v_pardec.proofs.PutLaws.{puts_more, counts_more, stops_behind}
use Rattle.m2v_pardec.proofs.PutSteps.{puts_done, counts_done}
use Rattle.m2v_pardec.proofs.TakenLaws.{drop_at}
use Rattle.m2v_pardec.proofs.pieces.put_pieces.Goals as goal

pub returns-in_err-put_piece-clause-err : goal.returns-in_err-put_piece-clause-err
returns-in_err-put_piece-clause-err g c =
    let inv = c.loop-i.invariant in
    let xs = c.args.pictures.now in
    let x = get_or xs c.loop-i.i c.index-pictures-i.result in
    let at = drop_at xs c.loop-i.i x (slice_get-get_or xs c.loop-i.i c.index-pictures-i.result c.loop-i-test.true) in
    let p = err_from_is_err_and c.from_residual.result c.from_residual.ensures.1 in
    rw (p.1, p.2)
    (stops_behind _ _ (map piece_of xs) (map piece_of (drop (c.loop-i.i + 1) xs)) x.piece c.args.decoder.now c.loop-i.decoder (g.K.Sink.held c.args.output.now) (g.K.Sink.held c.loop-i.output) (g.K.Sink.held c.put_piece.new.output) c.in_err-put_piece.field-0.0
    (λ r. rose_since inv.output.counts r)
    (subst (λ (l : List BatchPicture). PutsTo (map piece_of xs) c.args.decoder.now (g.K.Sink.held c.args.output.now) (map piece_of l) c.loop-i.decoder (g.K.Sink.held c.loop-i.output)) at inv.puts) c.in_err-put_piece.ensures.err)

pub loop-i-preserved : goal.loop-i-preserved
loop-i-preserved g c =
    let inv = c.loop-i.invariant in
    let xs = c.args.pictures.now in
    let x = get_or xs c.loop-i.i c.index-pictures-i.result in
    let at = drop_at xs c.loop-i.i x (slice_get-get_or xs c.loop-i.i c.index-pictures-i.result c.loop-i-test.true) in
    let put = c.in_ok-put_piece.ensures in
    let ps = map piece_of xs in
    let qs = map piece_of (drop (c.loop-i.i + 1) xs) in
    record {
      puts = puts_more ps qs x.piece c.args.decoder.now c.loop-i.decoder c.put_piece.new.decoder (g.K.Sink.held c.args.output.now) (g.K.Sink.held c.loop-i.output) (g.K.Sink.held c.put_piece.new.output)
          (subst (λ (l : List BatchPicture). PutsTo ps c.args.decoder.now (g.K.Sink.held c.args.output.now) (map piece_of l) c.loop-i.decoder (g.K.Sink.held c.loop-i.output)) at inv.puts) put.ok;
      counts = counts_more ps qs x.piece c.args.decoder.now c.loop-i.decoder c.put_piece.new.decoder
          (subst (λ (l : List BatchPicture). CountsTo ps c.args.decoder.now (map piece_of l) c.loop-i.decoder) at inv.counts) put.counted;
      going = put.going;
      before = put.before;
      output = stays_on inv.output c.put_piece.ensures.output;
    }

pub returns-clause-ok : goal.returns-clause-ok
returns-clause-ok g c =
    let inv = c.loop-i.invariant in
    let xs = c.args.pictures.now in
    record {
      puts = puts_done xs c.loop-i.i (map piece_of xs) c.args.decoder.now c.loop-i.decoder (g.K.Sink.held c.args.output.now) (g.K.Sink.held c.loop-i.output) (omega (arith, c.loop-i-test.false)) inv.puts;
      counted = counts_done xs c.loop-i.i (map piece_of xs) c.args.decoder.now c.loop-i.decoder (omega (arith, c.loop-i-test.false)) inv.counts;
      going = inv.going;
      before = inv.before;
    }
