use Rattle.std.proofs.Common.{arith, refl, subst, ap, ◌∙◌, ◌≡◌, ◌<◌, ℕ, List, length, take}
use Rattle.std.proofs.lemmas.List.{length-take-le, take_all}
use Rattle.std.proofs.lemmas.Result.{err_from_is_err_and}
use Rattle.m2v_bits.specs.Bits.{packed}
use Rattle.m2v_port.specs.Port.{Moves}
use Rattle.m2v_plane.specs.Raw.{frame_bytes}
use Rattle.m2v_flat.specs.declared.settings.FlatSettings.{FlatSettings}
use Rattle.m2v_flat.specs.Steps.{NextStops}
use Rattle.m2v_flat.specs.Flat.{FlatFrame}
use Rattle.m2v_flat.proofs.Stopping.{next_lost, next_cut}
use Rattle.m2v_flat.proofs.profile.Coder.next.Goals as goal

pub returns-in_err-read-clause-err : goal.returns-in_err-read-clause-err
returns-in_err-read-clause-err g c =
    let p = err_from_is_err_and c.from_residual.result c.from_residual.ensures.1 in
    rw (p.1, p.2) (next_lost _ _ _ _ _ (record { same = refl; stays = refl }) c.in_err-read.ensures.err)

pub returns-then-read-len-clause-err : goal.returns-then-read-len-clause-err
unfolding NextStops
returns-then-read-len-clause-err g c =
    let size = c.read.ensures.ready.raw ∙ ap (λ (s : FlatSettings). frame_bytes s.dims) c.read.ensures.settings in
    let less : c.in_ok-read.read < frame_bytes c.args.self.now.settings.dims = omega (arith, size, c.len.ensures) in
    record {
      part = take c.in_ok-read.read c.read.new.self.raw.items;
      moved = c.in_ok-read.ensures.moved;
      count = length-take-le c.in_ok-read.read c.read.new.self.raw.items (omega (arith, c.len.ensures));
      some = omega arith;
      less = less;
      end = c.in_ok-read.ensures.end less;
      unwritten = record { same = refl; stays = refl };
    }

pub returns-in_err-bytes-clause-err : goal.returns-in_err-bytes-clause-err
returns-in_err-bytes-clause-err g c =
    let p = err_from_is_err_and c.from_residual-in_err-bytes.result c.from_residual-in_err-bytes.ensures.1 in
    let items = c.read.new.self.raw.items in
    let size : length items ≡ frame_bytes c.args.self.now.settings.dims = omega (arith, c.read.ensures.ready.raw, ap (λ (s : FlatSettings). frame_bytes s.dims) c.read.ensures.settings, c.read.new.self.raw.ok.0) in
    let all : take c.in_ok-read.read items ≡ items = take_all c.in_ok-read.read items (omega (arith, c.len.ensures)) in
    rw (p.1, p.2)
    (next_cut _ _ _ _ items (packed c.code.new.self.out.written) _ size
    (subst (λ (b : List ℕ). Moves (g.S.Source.left c.args.input.now) b (g.S.Source.left c.read.new.input)) all c.in_ok-read.ensures.moved)
    (ap packed c.code.ensures.written ∙ ap (λ (s : FlatSettings). FlatFrame s c.args.number items) c.read.ensures.settings)
    c.in_err-bytes.ensures.err)
