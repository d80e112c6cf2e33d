use Rattle.std.proofs.Common.{◌≡◌, ◌+◌, ◌*◌, ◌/◌, ◌%◌, ap, ◌∙◌, arith, refl}
use Rattle.m2v_kernel.specs.Sums.{sad}
use Rattle.m2v_search.specs.Spots.{spot_sad}
use Rattle.m2v_search.proofs.Wholes.{across_lines, down_lines, four_lines}
use Rattle.m2v_search.proofs.half.half_sad.Goals as goal

pub returns-then-spot-eq0 : goal.returns-then-spot-eq0
unfolding spot_sad
returns-then-spot-eq0 c =
    let s = c.args.spot in
    let odd : s.x % 2 ≡ 1 = omega (arith, c.requires.half) in record {
      value = c.sad_from_means.ensures.value
          ∙ ap (sad c.args.block.now) (across_lines c.args.window.now c.args.count (s.y / 2 * 48 + s.x / 2) s (omega arith) c.if-spot-eq0.true odd refl (omega arith));
    }

pub returns-then-spot-eq0-2 : goal.returns-then-spot-eq0-2
unfolding spot_sad
returns-then-spot-eq0-2 c =
    let s = c.args.spot in
    let odd : s.y % 2 ≡ 1 = omega arith in record {
      value = c.sad_from_means-then-spot-eq0-2.ensures.value
          ∙ ap (sad c.args.block.now) (down_lines c.args.window.now c.args.count (s.y / 2 * 48 + s.x / 2) s (omega arith) odd c.if-spot-eq0-2.true refl (omega arith));
    }

pub returns-else-spot-eq0-2 : goal.returns-else-spot-eq0-2
unfolding spot_sad
returns-else-spot-eq0-2 c =
    let s = c.args.spot in
    let high : s.y % 2 ≡ 1 = omega arith in
    let odd : s.x % 2 ≡ 1 = omega arith in record {
      value = c.sad_from_quarters.ensures.value
          ∙ ap (sad c.args.block.now) (four_lines c.args.window.now c.args.count (s.y / 2 * 48 + s.x / 2) s (omega arith) high odd refl (omega arith));
    }
