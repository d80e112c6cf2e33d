use Rattle.std.proofs.Common.{◌-◌, length}
use Rattle.m2v_dec_unit.specs.Texts.{text_of}
use Rattle.m2v_law_seam.specs.Spans.{units_of}
use Rattle.m2v_mend.proofs.HeadLaws.{WalkedTo}
use Rattle.m2v_mend.proofs.head.Heads.take_all.Given as goal

abbrev pub invariant-loop-at : goal.invariant-loop-at
invariant-loop-at l = WalkedTo (units_of (text_of l.bytes l.zeros)) l.zeros l.bytes l.at l.met l.fn.self l.self

abbrev pub decreases-loop-at : goal.decreases-loop-at
decreases-loop-at l = length l.bytes - l.at
