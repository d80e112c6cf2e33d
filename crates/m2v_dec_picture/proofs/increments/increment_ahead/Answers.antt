use Rattle.std.proofs.Common.{◌≡◌, List, Bool, Ok, refl, ap, subst}
use Rattle.m2v_bits.specs.Bits.{Unread}
use Rattle.m2v_bits.specs.Syntax.{renamed}
use Rattle.m2v_macro.specs.Macros.{increment_at}
use Rattle.m2v_dec_picture.proofs.increments.increment_ahead.Goals as goal

pub returns-in-Ok-clause-exact : goal.returns-in-Ok-clause-exact
unfolding renamed
returns-in-Ok-clause-exact c =
    let g = c.in-Ok.ensures.exact in
    let rest = c.increment.new.input.rest in
    let e = subst (λ (t : List Bool). increment_at.read t ≡ Ok (g.0, rest)) (ap (λ (r : Unread). r.rest) c.fork-ahead.ensures) g.2 in
    (g.0, rest, g.1, rw e refl)
