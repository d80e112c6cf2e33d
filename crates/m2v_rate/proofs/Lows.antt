-- What is held at a picture, at least and at most.
use Rattle.std.proofs.Common.{◌≡◌, ℕ, zero, suc, ◌+◌, ◌-◌, ◌*◌, ◌/◌, ◌≤◌, ◌<◌, inl, inr, true, false, Bool, if◌then◌else◌, min, length, get_or, refl, ap, subst, ◌∙◌, arith}
use Rattle.std.proofs.Math.Nat.{mul-le-mul_left}
use Rattle.m2v_set.specs.declared.settings.Settings.{Settings}
use Rattle.m2v_set.specs.declared.settings.Scan.{Scan}
use Rattle.m2v_set.specs.declared.settings.Scan.TheVariants.{Frames}
use Rattle.m2v_set.specs.Numbers.{buffer_bits, least_of, interval_of, field_time, film_time, picture_time, arrival_of, longest_interval_of, longest_of, IsInterval}
use Rattle.m2v_set.specs.Bounds.{Bounds}
use Rattle.m2v_set.proofs.Facts.{bounds}
use Rattle.m2v_vbv.specs.Annex.{Start}
use Rattle.m2v_vbv.specs.Account.{stuffing_of}
use Rattle.m2v_rate.specs.Plans.{Entries, income, account_at, first_open, low_behind, mean_behind, Low}
use Rattle.m2v_rate.specs.Steady.{IsBegun, IsSteady, IsHeld}

-- ---- one removal, in numbers: what is held, what arrives, the picture's size, its cap, the buffer

-- the fewest zero bytes
abbrev pub zeros : ℕ → ℕ → ℕ → ℕ → ℕ
zeros held gain size buffer = 8 * ((held + gain - 1800 * (buffer + size) + 14399) / 14400)

abbrev pub left : ℕ → ℕ → ℕ → ℕ → ℕ
left held gain size buffer = held - 1800 * (size + zeros held gain size buffer) + gain

-- zero bytes leave no less than a byte less than the buffer takes, so that no less is held than by the cap
left_low : (held gain size cap buffer : ℕ) → size ≤ cap → gain + 14400 ≤ 1800 * buffer
    → min (held - 1800 * cap + gain) (1800 * (buffer - 8)) ≤ left held gain size buffer
left_low held gain size cap buffer within room = omega arith

left_most : (held gain size buffer : ℕ) → gain + 14400 ≤ 1800 * buffer → left held gain size buffer ≤ 1800 * buffer
left_most held gain size buffer room = omega arith

pub left_whole : (held gain size buffer : ℕ) → 1800 * size ≤ held → gain + 14400 ≤ 1800 * buffer
    → 1800 * (size + zeros held gain size buffer) ≤ held
left_whole held gain size buffer whole room = omega arith

-- zero bytes leave more than a byte less than the buffer takes
left_tight : (held gain size buffer : ℕ) → gain + 14400 ≤ 1800 * buffer → 0 < zeros held gain size buffer
    → 1800 * (buffer - 8) < left held gain size buffer
left_tight held gain size buffer room some = omega arith

-- ---- what arrives behind a picture

two_fields : (s : Settings) → s.scan ≡ Frames → interval_of s ≡ 2 * field_time s.rate_code
unfolding picture_time
two_fields s scan = ap (λ (x : Scan). picture_time x s.rate_code) scan

longest_long : (s : Settings) → Bounds s → interval_of s ≤ longest_interval_of s
unfolding longest_interval_of
longest_long s b = by_film s.pulldown refl
  where
    by_film : (film : Bool) → s.pulldown ≡ film → interval_of s ≤ (if film then film_time s.rate_code else interval_of s)
    by_film true on = omega (arith, two_fields s (b.pulldown.scan on))
    by_film false off = omega arith

longest_arrives : (s : Settings) → longest_of s ≡ s.bits * longest_interval_of s
unfolding longest_of
longest_arrives s = refl

interval_low : (s : Settings) (u : ℕ) → Bounds s → IsInterval s u → interval_of s ≤ u
interval_low s u b (inl e) = omega (arith, e)
interval_low s u b (inr e) = omega (arith, e, longest_long s b)

interval_high : (s : Settings) (u : ℕ) → Bounds s → IsInterval s u → s.bits * u ≤ longest_of s
interval_high s u b (inl e) = rw (longest_arrives s, e) (mul-le-mul_left s.bits (longest_long s b))
interval_high s u b (inr e) = rw (longest_arrives s, e) (omega arith)

pub income_low : (s : Settings) (u : ℕ) → Bounds s → IsInterval s u → 1800 * least_of s ≤ s.bits * u
unfolding arrival_of
income_low s u b i = omega (arith, b.time.arrives, mul-le-mul_left s.bits (interval_low s u b i))

pub income_high : (s : Settings) (u : ℕ) → Bounds s → IsInterval s u → s.bits * u + 14400 ≤ 1800 * buffer_bits s
income_high s u b i = omega (arith, b.time.takes, interval_high s u b i)

-- ---- the account of a group

start_at : (l : Entries) (j : ℕ) → (account_at l j).start ≡ l.account.start
unfolding account_at
start_at l zero = refl
start_at l (suc j) = start_at l j

pub removals_at : (l : Entries) (j : ℕ) → (account_at l j).removals ≡ l.account.removals + j
unfolding account_at
removals_at l zero = omega arith
removals_at l (suc j) = omega (arith, removals_at l j)

pub rate_at : (l : Entries) (j : ℕ) → IsBegun l → (account_at l j).start.k ≡ l.settings.bits
rate_at l j h = ap (λ (s : Start). s.k) (start_at l j) ∙ h.rate

pub buffer_at : (l : Entries) (j : ℕ) → IsBegun l → (account_at l j).start.buffer_bits ≡ buffer_bits l.settings
buffer_at l j h = ap (λ (s : Start). s.buffer_bits) (start_at l j) ∙ h.buffer

-- one picture further
next_held : (l : Entries) (j : ℕ) → IsBegun l
    → (account_at l (suc j)).held ≡ left (account_at l j).held (income l j) (get_or l.sizes j 0) (buffer_bits l.settings)
unfolding account_at stuffing_of
next_held l j h =
    let same : (k k' b b' a u size : ℕ) → k ≡ k' → b ≡ b'
    → a - 1800 * (size + 8 * ((a + k * u - 1800 * (b + size) + 14399) / 14400)) + k * u ≡ left a (k' * u) size b'
    = λ k k' b b' a u size e f. rw (e, f) refl in
    same _ _ _ _ (account_at l j).held (get_or l.intervals j 0) (get_or l.sizes j 0) (rate_at l j h) (buffer_at l j h)

pub gain_low : (l : Entries) (j : ℕ) → IsBegun l → j < length l.kinds → 1800 * least_of l.settings ≤ income l j
gain_low l j h lt = income_low l.settings (get_or l.intervals j 0) (bounds l.settings h.passes) (h.times j 0 (omega (arith, h.timed)))

pub gain_high : (l : Entries) (j : ℕ) → IsBegun l → j < length l.kinds → income l j + 14400 ≤ 1800 * buffer_bits l.settings
gain_high l j h lt = income_high l.settings (get_or l.intervals j 0) (bounds l.settings h.passes) (h.times j 0 (omega (arith, h.timed)))

-- an emergency picture is held at each picture, whatever the sizes are
pub held_least : (l : Entries) (j : ℕ) → IsBegun l → j ≤ length l.kinds → 1800 * least_of l.settings ≤ (account_at l j).held
unfolding account_at
held_least l zero h le = h.least
held_least l (suc j) h le = omega (arith, gain_low l j h (omega arith), rate_at l j h, next_held l j h)

-- the buffer takes what is held
pub held_most : (l : Entries) (j : ℕ) → IsBegun l → j ≤ length l.kinds → (account_at l j).held ≤ 1800 * buffer_bits l.settings
unfolding account_at
held_most l zero h le = h.most
held_most l (suc j) h le =
    let e = next_held l j h in
    let m = left_most (account_at l j).held (income l j) (get_or l.sizes j 0) (buffer_bits l.settings) (gain_high l j h (omega arith)) in
    rw e m

zeros_at : (l : Entries) (j : ℕ) → IsBegun l
    → stuffing_of (account_at l j) (get_or l.sizes j 0) (get_or l.intervals j 0) ≡ zeros (account_at l j).held (income l j) (get_or l.sizes j 0) (buffer_bits l.settings)
unfolding stuffing_of
zeros_at l j h = rw (rate_at l j h, buffer_at l j h) refl

-- where zero bytes are sent, one byte less would be too few
pub held_tight : (l : Entries) (j : ℕ) → IsBegun l → j < length l.kinds → 0 < stuffing_of (account_at l j) (get_or l.sizes j 0) (get_or l.intervals j 0)
    → 1800 * (buffer_bits l.settings - 8) < (account_at l (suc j)).held
held_tight l j h lt some =
    let same = zeros_at l j h in
    let tight = left_tight (account_at l j).held (income l j) (get_or l.sizes j 0) (buffer_bits l.settings) (gain_high l j h lt) (omega (arith, same)) in
    rw (next_held l j h) tight

-- ---- what is held at least

-- an emergency picture is held at least, whatever the caps are
pub low_least : (l : Entries) (f n : ℕ) → IsBegun l → f + n ≤ length l.kinds → 1800 * least_of l.settings ≤ low_behind l f n
unfolding low_behind
low_least l f zero h le = held_least l f h (omega arith)
low_least l f (suc n) h le =
    omega (arith, gain_low l (f + n) h (omega arith), (bounds l.settings h.passes).time.holds)

-- each of these pictures is within its cap
abbrev pub AreWithin : Entries → ℕ → Type 0
AreWithin l n = (j : ℕ) → j < n → get_or l.sizes j 0 ≤ get_or l.caps j 0

-- what is held at a picture is no less than what is known of it
low_held : (l : Entries) (f n : ℕ) → IsBegun l → f + n ≤ length l.kinds → AreWithin l (f + n) → low_behind l f n ≤ (account_at l (f + n)).held
unfolding low_behind
low_held l f zero h le within = let e : account_at l (f + 0) ≡ account_at l f = ap (account_at l) (omega arith) in rw e (omega arith)
low_held l f (suc n) h le within =
    let e : account_at l (f + suc n) ≡ account_at l (suc (f + n)) = ap (account_at l) (omega arith) in
    let rec = low_held l f n h (omega arith) (λ j lt. within j (omega arith)) in
    let low = left_low (account_at l (f + n)).held (income l (f + n)) (get_or l.sizes (f + n) 0) (get_or l.caps (f + n) 0) (buffer_bits l.settings) (within (f + n) (omega arith)) (gain_high l (f + n) h (omega arith)) in
    rw (e, next_held l (f + n) h) (omega (arith, rec, low))

pub low_below : (l : Entries) (p : ℕ) → IsBegun l → p ≤ length l.kinds → AreWithin l p → Low l p ≤ (account_at l p).held
low_below l p h le within =
    let e : first_open p + (p - first_open p) ≡ p = omega arith in
    subst (λ (n : ℕ). Low l p ≤ (account_at l n).held) e
    (low_held l (first_open p) (p - first_open p) h (omega arith) (λ j lt. within j (omega arith)))

-- where more sizes are known, no less is held at least
low_later : (l : Entries) (f n m : ℕ) → IsBegun l → f + n + m ≤ length l.kinds → AreWithin l (f + n) → low_behind l f (n + m) ≤ low_behind l (f + n) m
unfolding low_behind
low_later l f n zero h le within =
    let none : n + 0 ≡ n = omega arith in
    let e : low_behind l f (n + 0) ≡ low_behind l f n = ap (low_behind l f) none in
    rw e (low_held l f n h (omega arith) within)
low_later l f n (suc m) h le within =
    let more : n + suc m ≡ suc (n + m) = omega arith in
    let e : low_behind l f (n + suc m) ≡ low_behind l f (suc (n + m)) = ap (low_behind l f) more in
    let here : f + (n + m) ≡ f + n + m = omega arith in
    let cap : get_or l.caps (f + (n + m)) 0 ≡ get_or l.caps (f + n + m) 0 = ap (λ (k : ℕ). get_or l.caps k 0) here in
    let gain : income l (f + (n + m)) ≡ income l (f + n + m) = ap (λ (k : ℕ). income l k) here in
    let rec = low_later l f n m h (omega arith) within in
    rw e (omega (arith, rec, cap, gain))

-- if each picture has its target, no less is held than at least
mean_low : (l : Entries) (f n : ℕ) → low_behind l f n ≤ mean_behind l f n
unfolding low_behind mean_behind
mean_low l f zero = omega arith
mean_low l f (suc n) = omega (arith, mean_low l f n)

-- a cap is held however many sizes are known, up to those that a plan sees
pub caps_held : (l : Entries) (p j : ℕ) → IsSteady l → p ≤ length l.caps → p ≤ length l.sizes + 3 → first_open p ≤ j → j < p → IsHeld l (first_open p) j
caps_held l p j h planned known from to =
    let f = first_open p in
    let first = first_open j in
    let far : j - first ≡ f - first + (j - f) = omega arith in
    let near : first + (f - first) ≡ f = omega arith in
    let e : low_behind l first (j - first) ≡ low_behind l first (f - first + (j - f)) = ap (low_behind l first) far in
    let here : low_behind l (first + (f - first)) (j - f) ≡ low_behind l f (j - f) = ap (λ (n : ℕ). low_behind l n (j - f)) near in
    let later = low_later l first (f - first) (j - f) h.begun (omega (arith, h.planned)) (λ i lt. h.sizes i (omega arith)) in
    let cap = h.caps j (omega arith) in
    record {
      low = omega (arith, cap, e, later, here);
      mean = omega (arith, cap, e, later, here, mean_low l f (j - f));
    }

-- no more than the buffer takes is held at least
pub low_most : (l : Entries) (f n : ℕ) → IsBegun l → f + n ≤ length l.kinds → low_behind l f n ≤ 1800 * buffer_bits l.settings
unfolding low_behind
low_most l f zero h le = held_most l f h (omega arith)
low_most l f (suc n) h le = omega arith

pub mean_most : (l : Entries) (f n : ℕ) → IsBegun l → f + n ≤ length l.kinds → mean_behind l f n ≤ 1800 * buffer_bits l.settings
unfolding mean_behind
mean_most l f zero h le = held_most l f h (omega arith)
mean_most l f (suc n) h le = omega arith

-- a cap is held when the picture is due
pub cap_held : (l : Entries) (j : ℕ) → IsSteady l → j < length l.caps → j ≤ length l.sizes → 1800 * get_or l.caps j 0 ≤ (account_at l j).held
cap_held l j h lt le =
    let low = low_below l j h.begun (omega (arith, h.known, h.planned)) (λ i less. h.sizes i (omega arith)) in
    omega (arith, low, h.caps j lt)

-- a known picture is whole in the buffer
pub size_whole : (l : Entries) (j : ℕ) → IsSteady l → j < length l.sizes → 1800 * get_or l.sizes j 0 ≤ (account_at l j).held
size_whole l j h lt = omega (arith, cap_held l j h (omega (arith, h.known)) (omega arith), h.sizes j lt)
