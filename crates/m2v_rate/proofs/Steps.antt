-- What the code's steps over a ledger need and give.
use Rattle.std.proofs.Common.{◌≡◌, ℕ, zero, suc, ◌+◌, ◌-◌, ◌*◌, ◌≤◌, ◌<◌, ◌^◌, inl, inr, min, length, get_or, refl, arith, add-one, Bool, true, false, nat_eq, if◌then◌else◌, Some}
use Rattle.m2v_set.specs.declared.settings.Settings.{Settings}
use Rattle.m2v_set.specs.declared.settings.Scan.{Scan}
use Rattle.m2v_set.specs.declared.settings.Scan.TheVariants.{Progressive, Frames, Fields}
use Rattle.m2v_set.specs.Numbers.{buffer_bits, field_units, field_time, film_time, picture_time, interval_of, longest_interval_of, IsInterval}
use Rattle.m2v_vbv.specs.Account.{State}
use Rattle.m2v_rate.specs.Plans.{Entries, income, removed, account_at, low_behind, mean_behind, known_at, last_of, last_known}
use Rattle.m2v_rate.specs.Steady.{IsSteady, IsLedger}
use Rattle.m2v_rate.proofs.Lows.{removals_at, rate_at, buffer_at, gain_high, held_most, size_whole}
use Rattle.m2v_rate.proofs.Targets.{buffer_small}

field_small : (code : ℕ) → field_time code ≤ 15015
unfolding field_time field_units
field_small zero = omega arith
field_small (suc zero) = omega arith
field_small (suc (suc zero)) = omega arith
field_small (suc (suc (suc zero))) = omega arith
field_small (suc (suc (suc (suc zero)))) = omega arith
field_small (suc (suc (suc (suc (suc zero))))) = omega arith
field_small (suc (suc (suc (suc (suc (suc zero)))))) = omega arith
field_small (suc (suc (suc (suc (suc (suc (suc zero))))))) = omega arith
field_small (suc (suc (suc (suc (suc (suc (suc (suc zero)))))))) = omega arith
field_small (suc (suc (suc (suc (suc (suc (suc (suc (suc code))))))))) = omega arith

picture_small : (scan : Scan) (code : ℕ) → picture_time scan code ≤ 30030
unfolding picture_time
picture_small Progressive code = omega (arith, field_small code)
picture_small Frames code = omega (arith, field_small code)
picture_small Fields code = omega (arith, field_small code)

longest_small : (s : Settings) → longest_interval_of s < 2 ^ 20
unfolding longest_interval_of
longest_small s = by_film s.pulldown
  where
    by_film : (film : Bool) → (if film then film_time s.rate_code else interval_of s) < 2 ^ 20
    by_film true = omega (arith, field_small s.rate_code)
    by_film false = omega (arith, picture_small s.scan s.rate_code)

pub interval_small : (s : Settings) (u : ℕ) → IsInterval s u → u < 2 ^ 20
interval_small s u (inl e) = omega (arith, e, picture_small s.scan s.rate_code)
interval_small s u (inr e) = omega (arith, e, longest_small s)

-- ---- the account

-- a picture of so many bits may be removed from an account, so many units before the next
pub record MayGo (a : State) (bits time : ℕ) : Type 0 where
  pub units : time < 2 ^ 20
  pub few : a.removals < 2 ^ 40
  pub whole : 1800 * bits ≤ a.held
  pub taken : a.held ≤ 1800 * a.start.buffer_bits
  pub room : a.start.k * time + 14400 ≤ 1800 * a.start.buffer_bits

may_go : (l : Entries) (j : ℕ) → IsLedger l → j < length l.sizes → MayGo (account_at l j) (get_or l.sizes j 0) (get_or l.intervals j 0)
may_go l j ledger lt =
    let h = ledger.steady in
    let picture : j < length l.kinds = omega (arith, h.known, h.planned) in
    record {
      units = interval_small l.settings _ (h.begun.times j 0 (omega (arith, h.begun.timed)));
      few = omega (arith, removals_at l j, ledger.removals, ledger.few, picture);
      whole = size_whole l j h lt;
      taken = rw (buffer_at l j h.begun) (held_most l j h.begun (omega arith));
      room = rw (buffer_at l j h.begun, rate_at l j h.begun) (gain_high l j h.begun picture);
    }

pub may_go_by : (l : Entries) (j : ℕ) (a : State) (bits units : ℕ) → IsLedger l → j < length l.sizes
    → a ≡ account_at l j → bits ≡ get_or l.sizes j 0 → units ≡ get_or l.intervals j 0 → MayGo a bits units
may_go_by l j a bits units h lt e f g = rw (e, f, g) (may_go l j h lt)

pub next_is : (l : Entries) (j : ℕ) (a b : State) (bits units : ℕ)
    → a ≡ account_at l j → bits ≡ get_or l.sizes j 0 → units ≡ get_or l.intervals j 0 → b ≡ removed a bits units → b ≡ account_at l (j + 1)
unfolding account_at
next_is l j a b bits units e f g is = rw (add-one, is, e, f, g) refl

pub account_none : (l : Entries) (a : State) → a ≡ l.account → a ≡ account_at l 0
unfolding account_at
account_none l a e = e

pub held_small : (l : Entries) (j : ℕ) → IsSteady l → j ≤ length l.sizes → (account_at l j).held < 2 ^ 35
held_small l j h le = omega (arith, held_most l j h.begun (omega (arith, h.known, h.planned)), buffer_small l h.begun)

pub income_small : (l : Entries) (j k u : ℕ) → IsSteady l → j < length l.kinds → k ≡ l.settings.bits → u ≡ get_or l.intervals j 0 → k * u < 2 ^ 35
income_small l j k u h lt e f = rw (e, f) (omega (arith, gain_high l j h.begun lt, buffer_small l h.begun))

-- ---- what is held at least, and by targets

pub low_none : (l : Entries) (f : ℕ) → low_behind l f 0 ≡ (account_at l f).held
unfolding low_behind
low_none l f = refl

pub low_more : (l : Entries) (f n : ℕ) → low_behind l f (n + 1)
    ≡ min (low_behind l f n - 1800 * get_or l.caps (f + n) 0 + income l (f + n)) (1800 * (buffer_bits l.settings - 8))
unfolding low_behind
low_more l f n = rw add-one refl

pub mean_none : (l : Entries) (f : ℕ) → mean_behind l f 0 ≡ (account_at l f).held
unfolding mean_behind
mean_none l f = refl

pub mean_more : (l : Entries) (f n : ℕ) → mean_behind l f (n + 1)
    ≡ min (mean_behind l f n - 1800 * min (get_or l.targets (f + n) 0) (get_or l.caps (f + n) 0) + income l (f + n)) (1800 * buffer_bits l.settings)
unfolding mean_behind
mean_more l f n = rw add-one refl

-- ---- the last picture of a type

pub last_none : (l : Entries) (kind : ℕ) → last_known l kind 0 ≡ last_of l kind
unfolding last_known
last_none l kind = refl

pub last_more : (l : Entries) (kind n : ℕ) → last_known l kind (n + 1)
    ≡ (if nat_eq (get_or l.kinds n 0) kind then Some (known_at l n) else last_known l kind n)
unfolding last_known
last_more l kind n = rw add-one refl
