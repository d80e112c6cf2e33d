use Rattle.std.proofs.Common.{◌≡◌, Bool, true, false, Ok, refl, ap, sym, ◌∙◌}
use Rattle.m2v_dec_unit.specs.Among.{goes_on, part_of}
use Rattle.m2v_dec_rows.proofs.FrontLaws.{header_stops, passed_header}
use Rattle.m2v_dec_rows.proofs.skim.Skim.header.Goals as goal

pub returns-then-not-goes_on : goal.returns-then-not-goes_on
returns-then-not-goes_on c =
    let h = c.in-Ok.header in
    let u = c.args.u.now in
    let off : goes_on h ≡ false = sym c.goes_on.ensures ∙ c.if-not-goes_on.true in
    (part_of u h, c.in-Ok.ensures.exact ∙ ap (λ (b : Bool). Ok ((b, part_of u h), c.read_header.new.units)) off, header_stops c.args.self.now.state h u off, refl)

pub returns-else-not-goes_on : goal.returns-else-not-goes_on
returns-else-not-goes_on c =
    let h = c.in-Ok.header in
    let u = c.args.u.now in
    let on : goes_on h ≡ true = sym c.goes_on.ensures ∙ c.if-not-goes_on.false in
    (part_of u h, c.in-Ok.ensures.exact ∙ ap (λ (b : Bool). Ok ((b, part_of u h), c.read_header.new.units)) on, passed_header c.args.piece.now c.args.self.now c.enter.new.self h u c.read_header.new.units c.requires.sound on (c.enter.ensures u))
