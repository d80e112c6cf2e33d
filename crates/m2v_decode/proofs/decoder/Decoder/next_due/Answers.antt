use Rattle.std.proofs.Common.{length, option_to_list, ap, arith, sym, ◌∙◌, Option}
use Rattle.std.proofs.lemmas.Bool.Decides.{nat_tests}
use Rattle.m2v_plane.specs.Samples.{Samples}
use Rattle.m2v_decode.proofs.decoder.Decoder.next_due.Goals as goal

pub overflow_add-self : goal.overflow_add-self
overflow_add-self c =
    let going = rw (← c.self.view_is) at c.requires.going in
    let counts = (c.self.invariant.going going).0.counts in
    let fits = c.self.ranges in
    grind (arith, nat_tests)

pub overflow_add-self-in-Some : goal.overflow_add-self-in-Some
overflow_add-self-in-Some c =
    let going = rw (← c.self.view_is) at c.requires.going in
    let counts = (c.self.invariant.going going).0.counts in
    let last = ap (λ (o : Option Samples). length (option_to_list o)) (sym c.finish.ensures.shown ∙ c.in-Some.is) in
    omega (arith, counts, last)
