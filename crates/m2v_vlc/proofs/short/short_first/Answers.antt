use Rattle.m2v_vlc.proofs.Coefficients.{zero_pointed}
use Rattle.m2v_vlc.proofs.Shorts.{stands, first_stands, zero_entries}
use Rattle.m2v_vlc.proofs.short.short_first.Goals as goal

pub returns-then-nine-lt256 : goal.returns-then-nine-lt256
returns-then-nine-lt256 c = record { stands = λ run. first_stands c.args.nine c.entry_at.result.now c.if-nine-lt256.true (stands zero_pointed c.args.nine c.requires zero_entries c.entry_at.result.now c.entry_at.ensures run) }
