use Rattle.std.proofs.lemmas.List.Elements.{All-append}
use Rattle.m2v_wave.specs.Each.{WasLeft}
use Rattle.m2v_wave.proofs.each.+each.Goals as goal

pub for_each-returns-clause-each : goal.for_each-returns-clause-each
for_each-returns-clause-each g t c = record { each = All-append (WasLeft g.F.Fn c.args.f.now) c.first_beside.new.first c.first_beside.new.others c.first_beside.ensures.first.each c.first_beside.ensures.others.each }
