use Rattle.std.proofs.Common.{arith, length, sym, ap, ◌∙◌}
use Rattle.m2v_dec_piece.specs.Cutting.{Held, phase_behind}
use Rattle.m2v_dec_piece.proofs.Steps.{took_unit, stops_unit, before_only, unit_full, unit_is}
use Rattle.m2v_dec_piece.proofs.TrimLaws.{length-sure}
use Rattle.m2v_dec_piece.proofs.hand.Hand.unit.Goals as goal

pub invariant_of-self : goal.invariant_of-self
invariant_of-self c =
    let known = c.self.invariant in
    let h = c.self.inside in
    let by = c.phase_of-self-inside.ensures ∙ ap (λ (x : Held). phase_behind x.phase c.args.value) c.self.view_is in (
      known.0,
      known.1,
      known.2,
      λ e. known.3 (before_only h.phase c.args.value (sym c.phase_of-self-inside.ensures ∙ e)),
      λ e.
          let full = unit_full c.args.self.now c.code.new.self c.phase_of-self-inside.result c.args.value c.in-Ok.ensures.ok by e in
          omega (arith, full, ap (λ (x : Held). length x.sure) c.self.view_is, length-sure h.bytes.items h.zeros),
      known.5,
    )

pub returns-in-Ok-clause-ok : goal.returns-in-Ok-clause-ok
returns-in-Ok-clause-ok c =
    let r = c.requires in
    let h = c.args.self.now in
    let phase = c.phase_of-self-inside.result in
    let by = c.phase_of-self-inside.ensures ∙ ap (λ (x : Held). phase_behind x.phase c.args.value) c.self.view_is in
    let is = unit_is h c.code.new.self _ phase c.args.value c.in-Ok.ensures.ok by (ap (λ (x : Held). record x { phase = phase }) c.self.view_is) in
    took_unit h _ c.args.value r.ahead r.goes_on r.fits is c.in-Ok.ensures.fits

pub returns-in-Err-clause-err : goal.returns-in-Err-clause-err
returns-in-Err-clause-err c = let r = c.requires in stops_unit c.args.self.now c.args.value c.in-Err.e r.ahead r.goes_on r.fits c.in-Err.ensures.err
