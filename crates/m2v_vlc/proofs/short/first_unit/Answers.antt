use Rattle.m2v_vlc.proofs.Shorts.{plus_stands, minus_stands}
use Rattle.m2v_vlc.proofs.short.first_unit.Goals as goal

pub returns-then-nine-lt384 : goal.returns-then-nine-lt384
returns-then-nine-lt384 c = record { stands = plus_stands c.args.nine c.requires.from c.if-nine-lt384.true }

pub returns-else-nine-lt384 : goal.returns-else-nine-lt384
returns-else-nine-lt384 c = record { stands = minus_stands c.args.nine c.if-nine-lt384.false c.requires.below }
