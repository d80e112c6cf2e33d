use Rattle.std.proofs.Common.{length}
use Rattle.m2v_dec_rows.specs.Opened.{whole_of}
use Rattle.m2v_dec_rows.specs.Skims.{IsSoundSkim, EndsWith}
use Rattle.m2v_dec_rows.proofs.FrontLaws.{Behind}
use Rattle.m2v_dec_rows.proofs.skim.Skim.units.Given as goal

abbrev pub invariant-loop-stop : goal.invariant-loop-stop
invariant-loop-stop l = record {
  sound : IsSoundSkim l.fn.piece l.self;
  ends : EndsWith (whole_of l.fn.piece) l.units;
  behind : Behind l.fn.piece l.fn.self l.fn.units l.self l.units;
}

abbrev pub decreases-loop-stop : goal.decreases-loop-stop
decreases-loop-stop l = length l.units
