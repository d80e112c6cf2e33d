use Rattle.std.proofs.Common.{Err, arith, refl, ap, inr, ◌∙◌, ◌≡◌, ◌<◌, ◌-◌, length, take, drop, length-drop}
use Rattle.std.proofs.lemmas.List.{length-take-le}
use Rattle.std.proofs.lemmas.Result.{err_from_is_err_and}
use Rattle.m2v_y4m.specs.Frames.{size_of}
use Rattle.m2v_y4m.specs.Packing.{FrameStops}
use Rattle.m2v_y4m.proofs.Packs.{next_lost, frame_cut}
use Rattle.m2v_y4m.proofs.packing.next.Goals as goal

pub returns-in_err-read-clause-err : goal.returns-in_err-read-clause-err
returns-in_err-read-clause-err g c =
    let p = err_from_is_err_and c.from_residual.result c.from_residual.ensures.1 in
    let size : length c.args.text.now - 6 ≡ size_of c.args.header.now = omega (arith, c.requires.text.room) in
    let stops = rw size at c.in_err-read.ensures.err in
    rw (p.1, p.2) (next_lost _ _ _ _ refl stops)

pub returns-then-read-size-clause-err : goal.returns-then-read-size-clause-err
unfolding FrameStops
returns-then-read-size-clause-err g c =
    let text = c.read_behind_line.new.text in
    let less : c.in_ok-read.read < size_of c.args.header.now = omega (arith, c.frame_size-size.ensures.value) in
    let count = length-take-le c.in_ok-read.read (drop 6 text) (omega (arith, length-drop 6 text, c.requires.text.room, c.read_behind_line.ensures.same, less)) in
    record {
      moved = record { part = take c.in_ok-read.read (drop 6 text); fewer = omega (arith, count, less); moved = c.in_ok-read.ensures.moved };
      count = count;
      some = omega arith;
      end = c.in_ok-read.ensures.end (omega (arith, less, c.requires.text.room));
      same = refl;
    }

pub returns-in-Err-Failed-clause-err : goal.returns-in-Err-Failed-clause-err
unfolding FrameStops
returns-in-Err-Failed-clause-err g c =
    let e = c.read_behind_line.ensures in
    (c.in-Err-Failed.ensures.failed (ap Err c.in-Err-Failed.field-0-is), frame_cut c.in_ok-read.read _ _ _ c.read_behind_line.new.text (e.front ∙ c.requires.text.line) (e.same ∙ c.requires.text.room) (omega (arith, c.frame_size-size.ensures.value)) c.in_ok-read.ensures.moved c.in-Err-Failed.ensures.err)

pub returns-in-Err-Memory-clause-err : goal.returns-in-Err-Memory-clause-err
unfolding FrameStops
returns-in-Err-Memory-clause-err g c =
    let e = c.read_behind_line.ensures in
    inr (frame_cut c.in_ok-read.read _ _ _ c.read_behind_line.new.text (e.front ∙ c.requires.text.line) (e.same ∙ c.requires.text.room) (omega (arith, c.frame_size-size.ensures.value)) c.in_ok-read.ensures.moved c.in-Err-Memory.ensures.err)
