use Rattle.std.proofs.Common.{◌∙◌, ◌+◌, ◌-◌, ◌*◌, ◌<◌, inl, length, refl, ap, sym, arith}
use Rattle.std.proofs.lemmas.Result.{err_from_is_err_and}
use Rattle.m2v_bits.specs.Bits.{packed}
use Rattle.m2v_port.proofs.Runs.{grows_on, grows_by_nothing, stays_here, stays_on}
use Rattle.m2v_law_shown.specs.m2v_enc_stream.Streams.{pictures_text, zeros_sum}
use Rattle.m2v_encode.specs.Groups.{all_coded}
use Rattle.m2v_encode.proofs.Puts.{put_then, grown_by}
use Rattle.m2v_law_shown.proofs.m2v_enc_stream.Pictures.{length_more, place_more, begun_at, begun_on}
use Rattle.m2v_encode.proofs.PictureLaws.{bytes_more, pictures_split, zeros_more}
use Rattle.m2v_encode.proofs.done.DoneGroup.put_pictures.Goals as goal

pub loop-p-init : goal.loop-p-init
unfolding packed pictures_text zeros_sum
loop-p-init g c = record {
  grown = grows_by_nothing (g.K.Sink.held c.args.output.now);
  frames = refl;
  pictures = omega arith;
  bytes = omega arith;
  stuffing = omega arith;
  place = λ goes. c.requires.place;
  begun = λ some. absurd (omega (arith, some));
  most = omega arith;
  within = omega arith;
  room = c.requires.room;
  output = stays_here c.requires.output;
}

pub put_picture-requires-clause-begun : goal.put_picture-requires-clause-begun
put_picture-requires-clause-begun g c = begun_at c.args.self.now c.pictures-count.ensures.book c.loop-p.p (8 * c.loop-p.total.bytes) c.loop-p.invariant.begun

pub put_picture-requires-clause-place : goal.put_picture-requires-clause-place
put_picture-requires-clause-place g c = c.loop-p.invariant.place (inl (omega (arith, c.pictures-count.ensures.value)))

pub returns-in_err-put_picture-clause-err : goal.returns-in_err-put_picture-clause-err
returns-in_err-put_picture-clause-err g c =
    let p = err_from_is_err_and c.from_residual.result c.from_residual.ensures.1 in
    let inv = c.loop-p.invariant in
    let b = c.args.self.now in
    let at = 8 * c.args.total.now.bytes in
    let split = pictures_split b c.pictures-count.ensures.book c.args.ledger.now c.args.ends at c.loop-p.p (length b.pictures - (c.loop-p.p + 1)) (8 * c.loop-p.total.bytes) (omega (arith, c.pictures-count.ensures.value)) inv.bytes in
    rw (p.1, p.2)
    (put_then g.K.Sink.held g.K.Sink.faults _ _ _ _ _ _ split.0 _ inv.output.counts
    (ap (λ (l : _). packed (pictures_text b (all_coded b) l c.args.ends at (length b.pictures))) (sym c.requires.ledger) ∙ split.1)
    inv.grown c.in_err-put_picture.ensures.err)

pub loop-p-preserved : goal.loop-p-preserved
loop-p-preserved g c =
    let inv = c.loop-p.invariant in
    let b = c.args.self.now in
    let h = c.pictures-count.ensures.book in
    let l = c.args.ledger.now in
    let at = 8 * c.args.total.now.bytes in
    let n = c.loop-p.p in
    let lt : n < length b.pictures = omega (arith, c.pictures-count.ensures.value) in
    let sent = c.in_ok-put_picture.ensures.sent in
    let long = length_more b h l c.args.ends at n lt in
    record {
      grown = grown_by _ _ _ _ (sym (bytes_more b h l c.args.ends at n (8 * c.loop-p.total.bytes) lt inv.bytes)) (grows_on inv.grown c.in_ok-put_picture.ensures.grown);
      frames = sent.frames ∙ inv.frames;
      pictures = omega (arith, sent.pictures, inv.pictures);
      bytes = omega (arith, sent.bytes, inv.bytes, long);
      stuffing = omega (arith, sent.stuffing, inv.stuffing, zeros_more l c.args.ends n);
      place = λ goes. place_more b h l c.args.ends n (8 * c.loop-p.total.bytes) _ lt c.requires.ledger goes (inv.place (inl lt)) sent.bytes;
      begun = λ some. begun_on b h n _ (8 * c.loop-p.total.bytes) _ sent.bytes inv.begun;
      most = omega (arith, c.in_ok-put_picture.ensures.most, inv.most);
      within = omega (arith, sent.bytes, sent.stuffing, inv.within);
      room = c.put_picture.ensures.room;
      output = stays_on inv.output c.put_picture.ensures.output;
    }
