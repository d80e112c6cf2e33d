use Rattle.std.proofs.Common.{sym, subst, []}
use Rattle.m2v_model.specs.Units.{Units}
use Rattle.m2v_model.specs.ByPieces.{unit_read}
use Rattle.m2v_decode.specs.Passing.{Rounds}
use Rattle.m2v_dec_rows.proofs.UnitSteps.{unit_some, unit_none}
use Rattle.m2v_decode.proofs.pass.Pass.unit.Goals as goal

pub returns-in-Some : goal.returns-in-Some
returns-in-Some c =
    subst (λ r. Rounds c.args.self.now c.known.result c.known.new.self c.known.new.units r)
    (unit_some c.args.self.now.state c.args.units.now c.in-Some.u c.next.new.self c.left-start.result c.in-Some.ensures.next c.left-start.ensures.value) c.known.ensures

pub returns-in-None : goal.returns-in-None
returns-in-None c =
    subst (λ (us : Units). Rounds c.args.self.now c.over.result c.over.new.self us (unit_read c.args.self.now.state c.args.units.now)) (sym c.in-None.ensures.next.1)
    (subst (λ r. Rounds c.args.self.now c.over.result c.over.new.self [] r) (unit_none c.args.self.now.state c.args.units.now c.in-None.ensures.next.0) c.over.ensures)
