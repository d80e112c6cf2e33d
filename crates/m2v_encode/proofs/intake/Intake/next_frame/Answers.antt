use Rattle.std.proofs.Common.{arith, subst, ap, ◌∙◌, ◌≡◌, ◌<◌, ℕ, List, length, take, inr}
use Rattle.std.proofs.lemmas.List.{length-take-le, take_all}
use Rattle.std.proofs.lemmas.List.Elements.{All-take}
use Rattle.std.proofs.lemmas.Result.{err_from_is_err_and}
use Rattle.m2v_port.specs.Port.{Moves}
use Rattle.m2v_plane.specs.declared.dims.Dims.{Dims}
use Rattle.m2v_plane.specs.Raw.{frame_bytes}
use Rattle.m2v_set.specs.Numbers.{dims_of}
use Rattle.m2v_encode.specs.declared.intake.Intake.{Intake}
use Rattle.m2v_encode.specs.Steps.{FrameStops}
use Rattle.m2v_encode.proofs.Due.{frame_lost, some_bytes}
use Rattle.m2v_encode.proofs.intake.Intake.next_frame.Goals as goal

pub returns-in_err-read-clause-err : goal.returns-in_err-read-clause-err
returns-in_err-read-clause-err g c =
    let p = err_from_is_err_and c.from_residual.result c.from_residual.ensures.1 in
    rw (p.1, p.2) (frame_lost _ _ _ c.in_err-read.ensures.err)

pub returns-then-read-eq0-clause-none : goal.returns-then-read-eq0-clause-none
returns-then-read-eq0-clause-none g c = λ is.
    let none : c.in_ok-read.read ≡ 0 = omega arith in
    let some = subst (λ (d : Dims). 0 < frame_bytes d) c.dims-size.ensures.value (some_bytes c.dims-size.result c.dims-size.ensures.size) in
    record {
      moved = subst (λ (n : ℕ). Moves (g.S.Source.left c.args.input.now) (take n c.read.new.self.raw.items) (g.S.Source.left c.read.new.input)) none c.in_ok-read.ensures.moved;
      end = c.in_ok-read.ensures.end (omega (arith, none, some));
      same = ap (λ (x : Intake). x.queue) c.read.ensures.rest;
    }

pub returns-then-read-len-clause-err : goal.returns-then-read-len-clause-err
unfolding FrameStops
returns-then-read-len-clause-err g c =
    let size = c.read.ensures.raw ∙ ap (λ (x : Intake). frame_bytes (dims_of x.settings)) c.read.ensures.rest in
    let less : c.in_ok-read.read < frame_bytes (dims_of c.args.self.now.settings) = omega (arith, size, c.len.ensures) in
    record {
      part = take c.in_ok-read.read c.read.new.self.raw.items;
      bytes = All-take (λ (b : ℕ). b < 256) c.in_ok-read.read c.read.new.self.raw.items c.in_ok-read.ensures.bytes;
      moved = c.in_ok-read.ensures.moved;
      count = length-take-le c.in_ok-read.read c.read.new.self.raw.items (omega (arith, c.len.ensures));
      some = omega arith;
      less = less;
      end = c.in_ok-read.ensures.end less;
    }

pub returns-in_default-clause-err : goal.returns-in_default-clause-err
unfolding FrameStops
returns-in_default-clause-err g c =
    let items = c.read.new.self.raw.items in
    let size : length items ≡ frame_bytes (dims_of c.args.self.now.settings) = omega (arith, c.read.ensures.raw, ap (λ (x : Intake). frame_bytes (dims_of x.settings)) c.read.ensures.rest, c.read.new.self.raw.ok.0) in
    let all : take c.in_ok-read.read items ≡ items = take_all c.in_ok-read.read items (omega (arith, c.len.ensures)) in
    inr (record {
      frame = items;
      whole = size;
      moved = subst (λ (b : List ℕ). Moves (g.S.Source.left c.args.input.now) b (g.S.Source.left c.read.new.input)) all c.in_ok-read.ensures.moved;
    })
