-- Where a picture stands in the stream.
use Rattle.std.specs.Prelude.{ℕ, ◌≡◌, ◌+◌, ◌*◌}
use Rattle.m2v_set.specs.declared.settings.Settings.{Settings}
use Rattle.m2v_set.specs.Numbers.{delay_of}
use Rattle.m2v_vbv.specs.Account.{State}
use Rattle.m2v_rate.specs.Plans.{start_of}

-- so many bits were sent before a picture that is removed at this account: what arrived by then, of the bits up to and with
-- the first picture start code, of the first delay and of the time since, is what is held and what was sent
pub record IsPlace (s : Settings) (a : State) (at : ℕ) : Type 0 where
  pub start : a.start ≡ start_of s
  pub sent : a.held + 1800 * at ≡ 489600 + 8 * s.bits * delay_of s + s.bits * a.time
