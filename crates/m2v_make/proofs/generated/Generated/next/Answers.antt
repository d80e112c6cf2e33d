use Rattle.std.proofs.Common.{◌<◌, ◌≤◌, ◌%◌, arith, ap, ◌∙◌}
use Rattle.std.proofs.lemmas.Bool.Decides.{nat_tests}
use Rattle.m2v_make.specs.Source.{Generation, byte_at}
use Rattle.m2v_make.proofs.SourceLaws.{state_kept, state_drawn, chroma_there, luma_there}
use Rattle.m2v_make.proofs.generated.Generated.next.Goals as goal

pub invariant_of-self : goal.invariant_of-self
invariant_of-self c =
    let le : 25344 ≤ c.self.inside.place % 38016 = grind (arith, nat_tests) in
    let more = rw (← c.self.view_is) at c.requires.more in
    (omega arith, state_kept c.self.inside.seed c.self.inside.state c.self.inside.place c.self.invariant.1 le)

pub returns-then-at-ge-LUMA-clause-value : goal.returns-then-at-ge-LUMA-clause-value
returns-then-at-ge-LUMA-clause-value c =
    let le : 25344 ≤ c.self.inside.place % 38016 = grind (arith, nat_tests) in
    c.chroma_byte.ensures.value ∙ chroma_there c.self.inside.seed c.self.inside.place le
    ∙ ap (λ (g : Generation). byte_at g.seed g.place) c.self.view_is

pub invariant_of-self-2 : goal.invariant_of-self-2
invariant_of-self-2 c =
    let lt : c.self.inside.place % 38016 < 25344 = grind (arith, nat_tests) in
    let more = rw (← c.self.view_is) at c.requires.more in
    (omega arith, state_drawn c.self.inside.seed c.self.inside.state c.self.inside.place c.drawn-self-inside.result c.self.invariant.1 c.drawn-self-inside.ensures.value lt)

pub returns-clause-value : goal.returns-clause-value
returns-clause-value c =
    let lt : c.self.inside.place % 38016 < 25344 = grind (arith, nat_tests) in
    let state = state_drawn c.self.inside.seed c.self.inside.state c.self.inside.place c.drawn-self-inside.result c.self.invariant.1 c.drawn-self-inside.ensures.value lt in
    luma_there c.self.inside.seed c.drawn-self-inside.result c.self.inside.place c.luma_byte.result state lt c.luma_byte.ensures.value
    ∙ ap (λ (g : Generation). byte_at g.seed g.place) c.self.view_is
