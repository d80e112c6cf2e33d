use Rattle.std.proofs.Common.{◌≡◌, length}
use Rattle.m2v_cut.specs.Answers.{first_picture}
use Rattle.m2v_cut.proofs.look.first.Given as goal

abbrev pub invariant-loop-unit : goal.invariant-loop-unit
invariant-loop-unit l = first_picture l.fn.units ≡ first_picture l.units

abbrev pub decreases-loop-unit : goal.decreases-loop-unit
decreases-loop-unit l = length l.units
