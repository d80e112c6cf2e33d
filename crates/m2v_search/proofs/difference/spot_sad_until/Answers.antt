use Rattle.std.proofs.Common.{ℕ, ◌≡◌, ◌≤◌, ◌+◌, ◌*◌, ◌/◌, ◌↔◌, IsNone, IfSome, ap, subst, arith, refl}
use Rattle.m2v_kernel.specs.Sums.{sad}
use Rattle.m2v_search.specs.Spots.{spot_sad}
use Rattle.m2v_search.proofs.Wholes.{whole_lines}
use Rattle.m2v_search.proofs.difference.spot_sad_until.Goals as goal

pub returns-then-spot-eq0 : goal.returns-then-spot-eq0
unfolding spot_sad
returns-then-spot-eq0 c =
    let s = c.args.spot in
    let e = ap (sad c.args.block.now)
    (whole_lines c.args.window.now c.args.count (s.y / 2 * 48 + s.x / 2) s (omega arith) (omega arith) (omega arith) refl (omega arith)) in
    record {
      none = subst (λ (n : ℕ). IsNone c.sad_at_until.result ↔ (c.args.limit ≤ n)) e c.sad_at_until.ensures.none;
      some = subst (λ (n : ℕ). IfSome c.sad_at_until.result (λ s. s ≡ n)) e c.sad_at_until.ensures.some;
    }
