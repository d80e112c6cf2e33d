use Rattle.std.proofs.Common.{map, arith, ◌∙◌}
use Rattle.std.proofs.lemmas.Result.{err_from_is_err_and}
use Rattle.m2v_port.specs.Ends.{change}
use Rattle.m2v_port.proofs.Runs.{rose_since, stays_on}
use Rattle.m2v_dec_batch.proofs.Sizes.{count_is}
use Rattle.m2v_pardec.specs.Taken.{piece_of}
use Rattle.m2v_pardec.proofs.PutSteps.{after_there, next_sound, can_take, picture_there, puts_next, counts_next, told_next, behind_next, behind_done, tracks_on, refused_at, unwritten_at, puts_done, counts_done}
use Rattle.m2v_pardec.proofs.put.put_rows.Goals as goal

pub bounds-after-p : goal.bounds-after-p
bounds-after-p g c = after_there c.args.decoder.now.state c.args.book.now.pictures c.args.after.now c.loop-p.p c.picture.result.now (c.requires.comes).told c.picture.ensures.value

pub take_in-requires-clause-piece : goal.take_in-requires-clause-piece
take_in-requires-clause-piece g c = (next_sound c.args.book.now.pictures c.loop-p.p c.picture.result.now (map piece_of c.args.book.now.pictures) c.args.decoder.now c.loop-p.decoder c.picture.ensures.value c.loop-p.invariant.counts (c.requires.next).order).1

pub take_in-requires-clause-counted : goal.take_in-requires-clause-counted
take_in-requires-clause-counted g c =
    let next = next_sound c.args.book.now.pictures c.loop-p.p c.picture.result.now (map piece_of c.args.book.now.pictures) c.args.decoder.now c.loop-p.decoder c.picture.ensures.value c.loop-p.invariant.counts (c.requires.next).order in
    omega (arith, next.0, next.1.end)

pub take_in-requires-clause-can : goal.take_in-requires-clause-can
take_in-requires-clause-can g c =
    let inv = c.loop-p.invariant in
    can_take c.loop-p.decoder c.args.book.now c.args.done.now c.args.after.now c.loop-p.p c.first_job.result c.picture.result.now _ c.from_job-rows.result c.from_job-rows.ensures c.requires.done c.first_job.ensures.value c.pictures-p-end.ensures.batch c.picture.ensures.value
    (after_there c.args.decoder.now.state c.args.book.now.pictures c.args.after.now c.loop-p.p c.picture.result.now (c.requires.comes).told c.picture.ensures.value) inv.told inv.tracks

pub take_in-requires-clause-rows : goal.take_in-requires-clause-rows
take_in-requires-clause-rows g c =
    picture_there c.args.book.now c.args.done.now c.loop-p.p c.first_job.result c.picture.result.now _ c.from_job-rows.ensures c.requires.done c.first_job.ensures.value c.pictures-p-end.ensures.batch c.picture.ensures.value c.requires.rebuilt

pub returns-in_err-take_in-clause-err : goal.returns-in_err-take_in-clause-err
returns-in_err-take_in-clause-err g c =
    let inv = c.loop-p.invariant in
    let next = next_sound c.args.book.now.pictures c.loop-p.p c.picture.result.now (map piece_of c.args.book.now.pictures) c.args.decoder.now c.loop-p.decoder c.picture.ensures.value inv.counts (c.requires.next).order in
    let p = err_from_is_err_and c.from_residual.result c.from_residual.ensures.1 in
    rw (p.1, p.2) (refused_at _ c.args.book.now.pictures c.loop-p.p c.picture.result.now (map piece_of c.args.book.now.pictures) c.args.decoder.now c.loop-p.decoder (g.K.Sink.held c.args.output.now) (g.K.Sink.held c.loop-p.output) c.in_err-take_in.field-0.0 c.picture.ensures.value next.1 inv.puts c.in_err-take_in.ensures.err)

pub returns-in_err-put_due-clause-err : goal.returns-in_err-put_due-clause-err
returns-in_err-put_due-clause-err g c =
    let inv = c.loop-p.invariant in
    let p = err_from_is_err_and c.from_residual-in_err-put_due.result c.from_residual-in_err-put_due.ensures.1 in
    rw (p.1, p.2)
    (unwritten_at _ c.args.book.now.pictures c.loop-p.p c.picture.result.now (map piece_of c.args.book.now.pictures) c.args.decoder.now c.loop-p.decoder c.take_in.new.decoder (g.K.Sink.held c.args.output.now) (change g.K.Sink.held g.K.Sink.faults c.loop-p.output c.put_due.new.output) c.in_err-put_due.field-0.0 (λ r. rose_since inv.output.counts r) c.picture.ensures.value
    inv.puts c.in_ok-take_in.ensures.ok c.in_err-put_due.ensures.err)

pub loop-p-preserved : goal.loop-p-preserved
loop-p-preserved g c =
    let inv = c.loop-p.invariant in
    let is = c.picture.ensures.value in
    let there = after_there c.args.decoder.now.state c.args.book.now.pictures c.args.after.now c.loop-p.p c.picture.result.now (c.requires.comes).told is in
    let next = next_sound c.args.book.now.pictures c.loop-p.p c.picture.result.now (map piece_of c.args.book.now.pictures) c.args.decoder.now c.loop-p.decoder is inv.counts (c.requires.next).order in
    let onward = c.in_ok-take_in.ensures.ok in
    let put = c.in_ok-put_due.ensures.put in
    record {
      puts = puts_next c.args.book.now.pictures c.loop-p.p c.picture.result.now (map piece_of c.args.book.now.pictures) c.args.decoder.now c.loop-p.decoder c.take_in.new.decoder c.put_due.new.decoder (g.K.Sink.held c.args.output.now) (g.K.Sink.held c.loop-p.output) (g.K.Sink.held c.put_due.new.output) is inv.puts onward put c.in_ok-put_due.ensures.grown;
      counts = counts_next c.args.book.now.pictures c.loop-p.p c.picture.result.now (map piece_of c.args.book.now.pictures) c.args.decoder.now c.loop-p.decoder c.take_in.new.decoder c.put_due.new.decoder is next.1 inv.counts onward put;
      going = put.failed ∙ onward.sound;
      before = put.ended ∙ onward.going;
      told = told_next c.args.book.now.pictures c.args.after.now c.loop-p.p c.picture.result.now _ c.loop-p.decoder c.take_in.new.decoder c.put_due.new.decoder c.from_job-rows.result is there inv.told c.in_ok-take_in.ensures.rows put;
      behind = behind_next c.args.decoder.now.state c.args.book.now.pictures c.args.after.now c.loop-p.p c.picture.result.now _ c.loop-p.decoder c.take_in.new.decoder c.put_due.new.decoder c.from_job-rows.result is there inv.behind c.in_ok-take_in.ensures.rows put;
      tracks =
          tracks_on c.args.book.now c.args.done.now c.loop-p.p c.first_job.result c.picture.result.now _ c.loop-p.decoder c.take_in.new.decoder c.put_due.new.decoder c.from_job-rows.result c.from_job-rows.ensures c.requires.done c.first_job.ensures.value is inv.tracks c.in_ok-take_in.ensures.rows put;
      output = stays_on inv.output c.put_due.ensures.output;
    }

pub returns-clause-ok : goal.returns-clause-ok
returns-clause-ok g c =
    let inv = c.loop-p.invariant in
    record {
      puts = puts_done c.args.book.now.pictures c.loop-p.p (map piece_of c.args.book.now.pictures) c.args.decoder.now c.loop-p.decoder (g.K.Sink.held c.args.output.now) (g.K.Sink.held c.loop-p.output) (omega (arith, c.loop-p-test.false, c.pictures-p-end.ensures.value, count_is c.args.book.now)) inv.puts;
      counted = counts_done c.args.book.now.pictures c.loop-p.p (map piece_of c.args.book.now.pictures) c.args.decoder.now c.loop-p.decoder (omega (arith, c.loop-p-test.false, c.pictures-p-end.ensures.value, count_is c.args.book.now)) inv.counts;
      going = inv.going;
      before = inv.before;
    }

pub returns-clause-told : goal.returns-clause-told
returns-clause-told g c =
    behind_done c.args.decoder.now.state c.args.book.now.pictures c.args.after.now c.loop-p.p c.loop-p.decoder.state (c.requires.comes).told (omega (arith, c.loop-p-test.false, c.pictures-p-end.ensures.value, count_is c.args.book.now)) c.loop-p.invariant.behind
