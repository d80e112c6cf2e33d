-- What holds of a ledger whatever is told to it, for settings that pass.
use Rattle.std.specs.Prelude.{ℕ, ◌≡◌, ◌+◌, ◌-◌, ◌*◌, ◌%◌, ◌≤◌, ◌<◌, ◌^◌, true, All, IfSome, length, slice_index}
use Rattle.m2v_set.specs.Numbers.{buffer_bits, least_of, IsInterval}
use Rattle.m2v_set.specs.declared.settings.Settings.{Settings}
use Rattle.m2v_set.specs.Rules.{Passes, is_even}
use Rattle.m2v_rate.specs.declared.values.Plan.{Plan}
use Rattle.m2v_rate.specs.declared.values.Known.{Known}
use Rattle.m2v_rate.specs.Sharing.{IsMeasured, IsPictureActivity}
use Rattle.m2v_rate.specs.Plans.{Entries, low_behind, mean_behind, Low}

-- the type of a picture: 1 for I, 2 for P, 3 for B
abbrev pub IsKind : ℕ → Type 0
IsKind kind = (1 ≤ kind) × (kind ≤ 3)

-- what the safety of the buffer asks of a plan, where so much is held at least, in units of 1/1800 bit: its quantiser is a
-- code, and its cap is whole bytes, leaves room for an emergency picture, and is held
pub record IsPlan (s : Settings) (low : ℕ) (x : Plan) : Type 0 where
  pub code : (1 ≤ x.q) × (x.q ≤ 31)
  pub bytes : x.cap % 8 ≡ 0
  pub least : least_of s ≤ x.cap
  pub held : 1800 * x.cap ≤ low

-- the account at the first picture of the group is one of these settings, with an emergency picture held at least, and no
-- more than the buffer takes
pub record IsBegun (l : Entries) : Type 0 where
  pub passes : Passes l.settings
  pub rate : l.account.start.k ≡ l.settings.bits
  pub buffer : l.account.start.buffer_bits ≡ buffer_bits l.settings
  pub least : 1800 * least_of l.settings ≤ l.account.held
  pub most : l.account.held ≤ 1800 * buffer_bits l.settings
  pub timed : length l.intervals ≡ length l.kinds
  pub times : All (IsInterval l.settings) l.intervals

-- a picture is known once it is planned, and planned once the one four before it is known; each size is within its cap,
-- and each cap within what is held at least
pub record IsSteady (l : Entries) : Type 0 where
  pub begun : IsBegun l
  pub planned : length l.caps ≤ length l.kinds
  pub targeted : length l.targets ≡ length l.caps
  pub quantised : length l.quantisers ≡ length l.caps
  pub known : length l.sizes ≤ length l.caps
  pub ahead : length l.caps ≤ length l.sizes + 4
  pub sizes : (j : ℕ) → j < length l.sizes → slice_index l.sizes j ≤ slice_index l.caps j
  pub caps : (j : ℕ) → j < length l.caps → 1800 * slice_index l.caps j ≤ Low l j

-- the work of a picture that is known, where one is
abbrev pub IsKnown : Known → Type 0
IsKnown k = IsMeasured k.measured

-- what was measured: with the plan by the source each picture of the group has an activity, and each that is known a work
pub record AreMeasured (l : Entries) : Type 0 where
  pub active : length l.activities ≡ length l.kinds
  pub activities : is_even l.settings.planning ≡ true → All IsPictureActivity l.activities
  pub worked : length l.works ≡ length l.sizes
  pub works : All (λ w. w < 2 ^ 29) l.works
  pub last_i : IfSome l.last_i IsKnown
  pub last_p : IfSome l.last_p IsKnown
  pub last_b : IfSome l.last_b IsKnown

-- what holds of each ledger: besides, it has room for its group, and the account can go on
pub record IsLedger (l : Entries) : Type 0 where
  pub few : length l.kinds ≤ 126
  pub removals : l.account.removals < 2 ^ 39
  pub steady : IsSteady l
  pub measured : AreMeasured l

-- a cap is held where the sizes of the pictures up to one are known, also if each picture behind them has its target: so the
-- differences of 'Low' and 'Mean' are never cut off at 0
pub record IsHeld (l : Entries) (f j : ℕ) : Type 0 where
  pub low : 1800 * slice_index l.caps j ≤ low_behind l f (j - f)
  pub mean : 1800 * slice_index l.caps j ≤ mean_behind l f (j - f)
