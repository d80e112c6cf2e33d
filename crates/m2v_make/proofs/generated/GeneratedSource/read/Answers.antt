use Rattle.std.proofs.Common.{◌≡◌, ◌<◌, length, ap, ◌∙◌, arith}
use Rattle.std.proofs.lemmas.List.{length-set}
use Rattle.m2v_make.specs.Source.{Generation, all_size, left_of}
use Rattle.m2v_make.proofs.FrameLaws.{taken_more, left_none}
use Rattle.m2v_make.proofs.generated.GeneratedSource.read.Goals as goal

pub loop-at-preserved : goal.loop-at-preserved
loop-at-preserved c =
    let so_far = c.loop-at.invariant in
    let place = ap (λ (g : Generation). g.place) c.self.view_is in
    let next = ap (λ (g : Generation). g.place) c.next.ensures.after in
    let more : c.loop-at.self.place < all_size = omega (arith, place, so_far.place, c.min-n.ensures, c.loop-at-test.true) in
    let inside : c.loop-at.at < length c.loop-at.buf = omega (arith, so_far.long, c.min-n.ensures, c.loop-at-test.true) in
    record {
      place = omega (arith, next, so_far.place);
      long = length-set c.loop-at.buf c.loop-at.at c.next.result ∙ so_far.long;
      moved = rw (c.next.ensures.value, c.next.ensures.after) (taken_more (left_of c.args.self.now) c.loop-at.buf c.loop-at.at c.loop-at.self so_far.moved inside more);
    }

pub returns-clause-end : goal.returns-clause-end
returns-clause-end c e some =
    let place = ap (λ (g : Generation). g.place) c.self.view_is in
    let none : c.min-n.result ≡ 0 = cc e in
    left_none c.args.self.now (omega (arith, place, none, c.min-n.ensures, some))
