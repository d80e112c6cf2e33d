use Rattle.std.proofs.Common.{Err, ap, inr, arith, refl, ◌∙◌, ◌≡◌, ◌<◌, ◌≤◌, length, take}
use Rattle.std.proofs.lemmas.List.{length-take-le}
use Rattle.std.proofs.lemmas.Result.{err_from_is_err_and}
use Rattle.m2v_y4m.specs.Frames.{size_of}
use Rattle.m2v_y4m.specs.Reading.{FrameStops}
use Rattle.m2v_y4m.proofs.Unpacks.{next_lost, frame_cut}
use Rattle.m2v_y4m.proofs.unpacking.next.Goals as goal

pub returns-in_err-read-clause-err : goal.returns-in_err-read-clause-err
returns-in_err-read-clause-err g c =
    let p = err_from_is_err_and c.from_residual.result c.from_residual.ensures.1 in
    let stops = rw c.requires.frame at c.in_err-read.ensures.err in
    rw (p.1, p.2) (next_lost _ _ _ _ _ _ refl stops)

pub returns-then-read-eq0-clause-none : goal.returns-then-read-eq0-clause-none
returns-then-read-eq0-clause-none g c = λ is.
    let none : c.in_ok-read.read ≡ 0 = omega arith in
    let some : 1 ≤ length c.args.frame.now = c.requires.some in
    record {
      read = rw none at c.in_ok-read.ensures.read;
      over = c.in_ok-read.ensures.over (omega (arith, none, some));
      same = refl;
    }

pub returns-then-read-eq0-clause-end : goal.returns-then-read-eq0-clause-end
returns-then-read-eq0-clause-end g c = λ is.
    let none : c.in_ok-read.read ≡ 0 = omega arith in
    let some : 1 ≤ length c.args.frame.now = c.requires.some in
    c.in_ok-read.ensures.end (omega (arith, none, some))

pub returns-then-read-frame-clause-err : goal.returns-then-read-frame-clause-err
unfolding FrameStops
returns-then-read-frame-clause-err g c =
    let frame = c.read_frame.new.frame in
    let less : c.in_ok-read.read < length c.args.frame.now = omega (arith, c.read_frame.ensures.same) in (
      c.in_ok-read.ensures.end less,
      record {
        part = take c.in_ok-read.read frame;
        read = c.in_ok-read.ensures.read;
        over = c.in_ok-read.ensures.over less;
        count = length-take-le c.in_ok-read.read frame (omega (arith, c.read_frame.ensures.same, less));
        some = omega arith;
        less = omega (arith, less, c.requires.frame);
        same = refl;
      },
    )

pub returns-in-Err-Failed-clause-err : goal.returns-in-Err-Failed-clause-err
unfolding FrameStops
returns-in-Err-Failed-clause-err g c =
    let frame = c.read_frame.new.frame in
    let size : length frame ≡ size_of c.args.reader.now.header = c.read_frame.ensures.same ∙ c.requires.frame in
    (c.in-Err-Failed.ensures.failed (ap Err c.in-Err-Failed.field-0-is), frame_cut c.in_ok-read.read _ _ _ _ frame size (omega arith) c.in_ok-read.ensures.read c.in-Err-Failed.ensures.err)

pub returns-in-Err-Memory-clause-err : goal.returns-in-Err-Memory-clause-err
unfolding FrameStops
returns-in-Err-Memory-clause-err g c =
    let frame = c.read_frame.new.frame in
    let size : length frame ≡ size_of c.args.reader.now.header = c.read_frame.ensures.same ∙ c.requires.frame in
    inr (frame_cut c.in_ok-read.read _ _ _ _ frame size (omega arith) c.in_ok-read.ensures.read c.in-Err-Memory.ensures.err)
