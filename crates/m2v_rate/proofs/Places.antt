-- From the place of a picture in the stream to that of the next one, and what arrives until it is removed.
use Rattle.std.proofs.Common.{◌≡◌, ℕ, suc, ◌+◌, ◌-◌, ◌*◌, ◌<◌, ◌≤◌, get_or, length, refl, ap, subst, ◌∙◌, arith}
use Rattle.m2v_set.specs.declared.settings.Settings.{Settings}
use Rattle.m2v_set.specs.Numbers.{delay_of, buffer_bits}
use Rattle.m2v_vbv.specs.Annex.{Start}
use Rattle.m2v_vbv.specs.Account.{State, after, arriving, stuffing_of}
use Rattle.m2v_rate.specs.Plans.{Entries, account_at, income, fresh}
use Rattle.m2v_rate.specs.Steady.{IsSteady}
use Rattle.m2v_rate.proofs.Lows.{left_whole, rate_at, buffer_at, gain_high, size_whole}
use Rattle.m2v_rate.specs.Places.{IsPlace}

-- what arrives until a picture is removed, from a place within its own bits on, is what is held, but for these bits
pub arriving_is : (s : Settings) (a : State) (at code : ℕ) → IsPlace s a at → 272 ≤ at + code → arriving a (at + code) ≡ a.held - 1800 * code
arriving_is s a at code place le =
    ap (λ (st : Start). 8 * st.k * st.delay + st.k * a.time - 1800 * (at + code - st.s)) place.start
    ∙ (let e : 8 * s.bits * delay_of s + s.bits * a.time - 1800 * (at + code - 272) ≡ a.held - 1800 * code = omega (arith, place.sent, le) in e)

-- a picture is whole with its zero bytes
pub gone_whole : (l : Entries) (j : ℕ) → IsSteady l → j < length l.sizes
    → 1800 * (get_or l.sizes j 0 + stuffing_of (account_at l j) (get_or l.sizes j 0) (get_or l.intervals j 0)) ≤ (account_at l j).held
unfolding stuffing_of
gone_whole l j h lt =
    let picture : j < length l.kinds = omega (arith, h.known, h.planned, lt) in
    let whole = left_whole (account_at l j).held (income l j) (get_or l.sizes j 0) (buffer_bits l.settings) (size_whole l j h lt) (gain_high l j h.begun picture) in
    rw (rate_at l j h.begun, buffer_at l j h.begun) whole

after_place : (s : Settings) (a : State) (at bits units : ℕ) → IsPlace s a at → 1800 * bits ≤ a.held → IsPlace s (after a bits units) (at + bits)
after_place s a at bits units place whole =
    let rate : a.start.k ≡ s.bits = ap (λ (st : Start). st.k) place.start in
    let grow : s.bits * (a.time + units) ≡ s.bits * a.time + s.bits * units = omega arith in
    let sent : a.held - 1800 * bits + s.bits * units + 1800 * (at + bits) ≡ 489600 + 8 * s.bits * delay_of s + s.bits * (a.time + units) = omega (arith, place.sent, whole, grow) in
    record {
      start = place.start;
      sent = ap (λ (k : ℕ). a.held - 1800 * bits + k * units + 1800 * (at + bits)) rate ∙ sent;
    }

-- the place of the next picture
pub next_place : (s : Settings) (l : Entries) (j at : ℕ) → IsSteady l → j < length l.sizes → IsPlace s (account_at l j) at
    → IsPlace s (account_at l (j + 1)) (at + (get_or l.sizes j 0 + stuffing_of (account_at l j) (get_or l.sizes j 0) (get_or l.intervals j 0)))
unfolding account_at
next_place s l j at h lt place =
    let e : suc j ≡ j + 1 = omega arith in
    let bits = get_or l.sizes j 0 + stuffing_of (account_at l j) (get_or l.sizes j 0) (get_or l.intervals j 0) in
    subst (λ (n : ℕ). IsPlace s (account_at l n) (at + bits)) e
    (after_place s (account_at l j) at bits (get_or l.intervals j 0) place (gone_whole l j h lt))

-- the first picture of all
pub fresh_place : (s : Settings) → IsPlace s (account_at (fresh s) 0) 0
unfolding account_at
fresh_place s = record { start = refl; sent = omega arith }
