use Rattle.std.proofs.Common.{Bool, Ok, ap, sym, ◌∙◌}
use Rattle.m2v_dec_rows.specs.m2v_dec_unit.Among.{part_of}
use Rattle.m2v_decode.proofs.PassLaws.{header_ends}
use Rattle.m2v_decode.proofs.pass.Pass.header.Goals as goal

pub returns : goal.returns
returns c =
    let h = c.in_ok-header.header in
    let u = c.args.u.now in
    let passes = c.in_ok-enter.ensures u in
    let more = c.goes_on.ensures in (
      part_of u h,
      c.in_ok-header.ensures.exact ∙ ap (λ (b : Bool). Ok ((b, part_of u h), c.read_header.new.units)) (sym more),
      passes,
      λ e. header_ends c.args.self.now c.enter.new.self u h (sym more ∙ e) passes,
    )
