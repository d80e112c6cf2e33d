-- Between the start codes of two pictures with exact delays stand fewer bits than rule 29 allows: each delay is rounded down by less
-- than a tick.
use Rattle.std.proofs.Common.{◌≡◌, ℕ, ◌+◌, ◌-◌, ◌*◌, ◌/◌, ◌<◌, ◌≤◌, Bool, true, false, List, [], ◌∷◌, ◌++◌, inl, inr, Some, refl, sym, ap, subst, ◌∙◌, arith}
use Rattle.std.specs.Prelude.{nat_le}
use Rattle.std.proofs.Math.Nat.{mul-add, mul_assoc, mul_comm, mul-le-mul_left, mul-div-le, lt-mul-div-succ}
use Rattle.std.proofs.lemmas.Bool.{cases_Bool, leb-true, leb-false, lt-ltb}
use Rattle.std.proofs.lemmas.List.Sums.{sum_by_push}
use Rattle.m2v_vbv.specs.Annex.{Start, Removal, removed, time_of}
use Rattle.m2v_vbv.specs.Account.{arriving, account_of}
use Rattle.m2v_model.specs.Buffering.{exact_delay}
use Rattle.m2v_audit.specs.m2v_check.declared.coded.CodedPicture.{CodedPicture}
use Rattle.m2v_audit.specs.m2v_strict.declared.preceding.Arrival.{Arrival}
use Rattle.m2v_audit.specs.m2v_strict.declared.remark.Remark.{Remark}
use Rattle.m2v_audit.specs.m2v_strict.Remarks.{judge, looked_at}
use Rattle.m2v_audit.specs.m2v_strict.ArrivalRules.{arrival_rule}

-- ---- products

scaled : (k x : ℕ) → 8 * k * x ≡ k * (8 * x)
scaled k x = ap (λ (n : ℕ). n * x) (mul_comm 8 k) ∙ mul_assoc k 8 x

less : (k x y : ℕ) → k * x < k * y → x ≤ y
less k x y lt = elim (cases_Bool (nat_le x y)) [
  | inl on ↦ leb-true x y on
  | inr off ↦ let under = leb-false x y off in let le = mul-le-mul_left k (let l : y ≤ x = omega (arith, under) in l) in absurd (omega (arith, le, lt))
]

below : (k x y have : ℕ) → k * x + have < k * y → have < k * ((y + 8) - x)
below k x y have lt =
    let le = less k x y (omega (arith, lt)) in
    let more = y - x in
    let whole : y ≡ x + more = omega (arith, le) in
    let left : (y + 8) - x ≡ more + 8 = omega (arith, le) in
    let parts : k * y ≡ k * x + k * more = ap (λ (n : ℕ). k * n) whole ∙ mul-add k x more in
    let need : k * ((y + 8) - x) ≡ k * more + k * 8 = ap (λ (n : ℕ). k * n) left ∙ mul-add k more 8 in
    omega (arith, lt, parts, need)

-- ---- the picture before

-- What is known behind these removals of the one before, in a stream that begins at a bit of the input: its start code stands behind
-- the first one, and before what wasn't removed yet; and the time from its arrival to the picture's removal is less than a tick longer
-- than the delay.
pub record IsKnown (start : Start) (base : ℕ) (before : List Removal) (d : Arrival) : Type 0 where
  pub begun : base + start.s ≤ d.code_end
  pub within : d.code_end ≤ base + removed before
  pub exact :
      8 * start.k * start.delay + start.k * time_of before
      < start.k * d.units + 8 * start.k * (d.delay + 1) + 1800 * (d.code_end - (base + start.s))

-- the first picture, whose delay says when the account begins
pub known_first : (start : Start) (base : ℕ) (r : Removal) → 0 < start.k → start.s ≤ r.bits
    → IsKnown start base (r ∷ []) (record { code_end = base + start.s; units = r.units; delay = start.delay })
known_first start base r some fits =
    let bits : removed (r ∷ []) ≡ 0 + r.bits = sum_by_push (λ (x : Removal). x.bits) [] r in
    let time : start.k * time_of (r ∷ []) ≡ start.k * r.units =
    ap (λ (n : ℕ). start.k * n) (sum_by_push (λ (x : Removal). x.units) [] r ∙ (let e : 0 + r.units ≡ r.units = omega arith in e)) in
    let tick : 8 * start.k * (start.delay + 1) ≡ 8 * start.k * start.delay + 8 * start.k * 1 = mul-add (8 * start.k) start.delay 1 in
    record {
      begun = omega arith;
      within = omega (arith, bits, fits);
      exact = omega (arith, time, tick, some);
    }

-- another one, whose delay is exact
pub known_next : (start : Start) (base : ℕ) (before : List Removal) (r : Removal) (code delay : ℕ) → 0 < start.k → start.s ≤ removed before
    → code ≤ r.bits → delay ≡ exact_delay start before (removed before + code)
    → IsKnown start base (before ++ r ∷ []) (record { code_end = base + removed before + code; units = r.units; delay = delay })
unfolding account_of
known_next start base before r code delay some behind fits is =
    let bits : removed (before ++ r ∷ []) ≡ removed before + r.bits = sum_by_push (λ (x : Removal). x.bits) before r in
    let time : start.k * time_of (before ++ r ∷ []) ≡ start.k * time_of before + start.k * r.units =
    ap (λ (n : ℕ). start.k * n) (sum_by_push (λ (x : Removal). x.units) before r) ∙ mul-add start.k (time_of before) r.units in
    let left = arriving (account_of start before) (removed before + code) in
    let wide : 0 < 8 * start.k = omega (arith, some) in
    let rounded : left < 8 * start.k * (left / (8 * start.k) + 1) = lt-mul-div-succ left wide in
    let ticks : left < 8 * start.k * (delay + 1) = subst (λ (n : ℕ). left < 8 * start.k * (n + 1)) (sym is) rounded in
    record {
      begun = omega (arith, behind);
      within = omega (arith, bits, fits);
      exact = omega (arith, time, ticks, behind);
    }

-- ---- the rule

looked_none : (b holds : Bool) (m : Remark) → holds ≡ true → looked_at b (judge holds m) ≡ []
looked_none true true m e = refl
looked_none true false m e = absurd cc
looked_none false holds m e = refl

-- where the bits up to its start code come before its removal, those between the start codes are fewer than arrive
in_time : (start : Start) (base : ℕ) (before : List Removal) (d : Arrival) (pos delay : ℕ) → IsKnown start base before d
    → removed before ≤ pos → 1800 * (pos - start.s) ≤ 8 * start.k * start.delay + start.k * time_of before
    → delay ≡ exact_delay start before pos
    → 1800 * (base + pos - d.code_end) < start.k * ((d.units + 8 * d.delay + 16) - 8 * delay)
unfolding account_of
in_time start base before d pos delay known behind whole is =
    let k = start.k in
    let left = arriving (account_of start before) pos in
    let rounded : 8 * k * (left / (8 * k)) ≤ left = mul-div-le left (8 * k) in
    let ticks : 8 * k * delay ≤ left = subst (λ (n : ℕ). 8 * k * n ≤ left) (sym is) rounded in
    let have = 1800 * (base + pos - d.code_end) in
    let mine : 8 * k * delay ≡ k * (8 * delay) = scaled k delay in
    let its : 8 * k * (d.delay + 1) ≡ k * (8 * (d.delay + 1)) = scaled k (d.delay + 1) in
    let all : k * (d.units + 8 * (d.delay + 1)) ≡ k * d.units + k * (8 * (d.delay + 1)) = mul-add k d.units (8 * (d.delay + 1)) in
    let lt : k * (8 * delay) + have < k * (d.units + 8 * (d.delay + 1)) =
    omega (arith, ticks, whole, mine, its, all, known.begun, known.within, known.exact, behind) in
    let granted : (d.units + 8 * (d.delay + 1) + 8) - 8 * delay ≡ (d.units + 8 * d.delay + 16) - 8 * delay = omega arith in
    subst (λ (n : ℕ). have < k * n) granted (below k (8 * delay) (d.units + 8 * (d.delay + 1)) have lt)

pub keeps_arrival : (start : Start) (base : ℕ) (before : List Removal) (d : Arrival) (pos : ℕ) (p : CodedPicture)
    → IsKnown start base before d → removed before ≤ pos → 1800 * (pos - start.s) ≤ 8 * start.k * start.delay + start.k * time_of before
    → p.note.info.vbv_delay ≡ exact_delay start before pos → p.note.code_end ≡ base + pos
    → arrival_rule start.k (Some d) p ≡ []
unfolding arrival_rule
keeps_arrival start base before d pos p known behind whole is place =
    let lt = in_time start base before d pos p.note.info.vbv_delay known behind whole is in
    looked_none _ _ _ (lt-ltb _ _ (subst (λ (n : ℕ). 1800 * (n - d.code_end) < start.k * ((d.units + 8 * d.delay + 16) - 8 * p.note.info.vbv_delay)) (sym place) lt))
