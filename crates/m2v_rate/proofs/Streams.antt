-- A stream that is coded by its plans is safe.
use Rattle.std.proofs.Common.{◌≡◌, ℕ, zero, suc, ◌+◌, ◌-◌, ◌*◌, ◌≤◌, ◌<◌, ◌^◌, List, [], ◌∷◌, ◌++◌, map, length, get_or, refl, sym, ap, subst, ◌∙◌, arith, append_assoc, add-one}
use Rattle.std.specs.List.{range_with_len}
use Rattle.std.proofs.lemmas.List.{append-nil, get_or-map, length-map}
use Rattle.std.proofs.lemmas.List.Elements.{All-nil, All-map}
use Rattle.std.proofs.lemmas.List.FromFn.{map-range_with_len_more}
use Rattle.std.proofs.lemmas.List.Sums.{sum_by-append, sum_by-cons}
use Rattle.m2v_set.specs.declared.settings.Settings.{Settings}
use Rattle.m2v_set.specs.Numbers.{buffer_bits, least_of, IsInterval}
use Rattle.m2v_set.specs.Rules.{Passes}
use Rattle.m2v_set.proofs.Facts.{bounds}
use Rattle.m2v_vbv.specs.Annex.{Start, Removal, removed, held_endless, Safe}
use Rattle.m2v_vbv.specs.Account.{State, after, stuffing_of, arriving, account_of}
use Rattle.m2v_vbv.proofs.Sums.{AllAt, at_split, Exact, account_push, exact_push, exact_none, opening_is}
use Rattle.m2v_rate.specs.declared.values.Plan.{Plan}
use Rattle.m2v_rate.specs.Sharing.{IsPictureActivity}
use Rattle.m2v_rate.specs.Plans.{Entries, income, account_at, first_open, Low, plan_of, fresh}
use Rattle.m2v_rate.specs.Steady.{IsPlan, IsBegun, IsSteady, IsLedger}
use Rattle.m2v_rate.specs.Safety.{Picture, closed, IsCoded, AreCoded, removal_at, ending_at, group_removals, removals, after_groups, sent, Keeps}
use Rattle.m2v_rate.proofs.Lows.{rate_at, buffer_at, gain_high, held_least, held_most, held_tight, left_whole, low_least, low_below, cap_held, size_whole}
use Rattle.m2v_rate.proofs.BothPlans.{plan_is}

-- ---- a group

pub closed_begun : (l : Entries) (g : List Picture) → IsBegun l → IsCoded l g → IsBegun (closed l g)
closed_begun l g h coded = record {
  passes = h.passes;
  rate = rate_at l (length l.kinds) h;
  buffer = buffer_at l (length l.kinds) h;
  least = held_least l (length l.kinds) h (omega arith);
  most = held_most l (length l.kinds) h (omega arith);
  timed = length-map g (λ (x : Picture). x.interval) ∙ sym (length-map g (λ (x : Picture). x.kind));
  times = All-map (IsInterval l.settings) (λ (x : Picture). x.interval) g coded.times;
}

none : Picture
none = record { kind = 0; interval = 0; activity = 0; size = 0; work = 0; plan = record { q = 0; cap = 0; target = 0 } }

-- each size leaves room for an end code
size_room : (l : Entries) (g : List Picture) (j : ℕ) → IsCoded l g → j < length g → get_or (closed l g).sizes j 0 + 32 ≤ get_or (closed l g).caps j 0
size_room l g j coded lt =
    omega (arith, get_or-map (λ (x : Picture). x.size) g j none 0 lt, get_or-map (λ (x : Picture). x.plan.cap) g j none 0 lt, coded.sizes j none lt)

-- each plan is one with which the buffer is safe
plan_at : (l : Entries) (g : List Picture) (j : ℕ) → IsBegun l → IsCoded l g → j < length g → IsPlan l.settings (Low (closed l g) j) (plan_of (closed l g) j)
plan_at l g j h coded lt =
    plan_is (closed l g) j (closed_begun l g h coded) (omega (arith, lt, length-map g (λ (x : Picture). x.kind)))

cap_at : (l : Entries) (g : List Picture) (j : ℕ) → IsCoded l g → j < length g → get_or (closed l g).caps j 0 ≡ (plan_of (closed l g) j).cap
cap_at l g j coded lt =
    get_or-map (λ (x : Picture). x.plan.cap) g j none 0 lt ∙ ap (λ (x : Plan). x.cap) (coded.plans j none lt)

cap_low : (l : Entries) (g : List Picture) (j : ℕ) → IsBegun l → IsCoded l g → j < length g → 1800 * get_or (closed l g).caps j 0 ≤ Low (closed l g) j
cap_low l g j h coded lt = omega (arith, cap_at l g j coded lt, (plan_at l g j h coded lt).held)

pub closed_steady : (l : Entries) (g : List Picture) → IsBegun l → IsCoded l g → IsSteady (closed l g)
closed_steady l g h coded =
    let kinds = length-map g (λ (x : Picture). x.kind) in
    let sizes = length-map g (λ (x : Picture). x.size) in
    let caps = length-map g (λ (x : Picture). x.plan.cap) in
    let targets = length-map g (λ (x : Picture). x.plan.target) in
    let quantisers = length-map g (λ (x : Picture). x.plan.q) in
    record {
      begun = closed_begun l g h coded;
      planned = omega (arith, caps, kinds);
      targeted = targets ∙ sym caps;
      quantised = quantisers ∙ sym caps;
      known = omega (arith, sizes, caps);
      ahead = omega (arith, sizes, caps);
      sizes = λ j lt. omega (arith, size_room l g j coded (omega (arith, sizes)));
      caps = λ j lt. cap_low l g j h coded (omega (arith, caps));
    }

-- a cap leaves room for an emergency picture
cap_room : (l : Entries) (g : List Picture) (j : ℕ) → IsBegun l → IsCoded l g → j < length g → least_of l.settings ≤ get_or (closed l g).caps j 0
cap_room l g j h coded lt = omega (arith, cap_at l g j coded lt, (plan_at l g j h coded lt).least)

-- a picture is whole with its zero bytes
gone_whole : (c : Entries) (j : ℕ) → IsSteady c → j < length c.sizes → 1800 * (removal_at c j).bits ≤ (account_at c j).held
unfolding stuffing_of
gone_whole c j h lt =
    let picture : j < length c.kinds = omega (arith, h.known, h.planned) in
    let whole = left_whole (account_at c j).held (income c j) (get_or c.sizes j 0) (buffer_bits c.settings) (size_whole c j h lt) (gain_high c j h.begun picture) in
    rw (rate_at c j h.begun, buffer_at c j h.begun) whole

-- ---- lists of removals

-- a picture is whole when it is removed behind these, and the buffer takes what is held
abbrev IsHeld : Start → List Removal → Removal → Type 0
IsHeld start before r = (1800 * r.bits ≤ held_endless start before) × (held_endless start before ≤ 1800 * start.buffer_bits)

held_by : (c : Entries) (j : ℕ) (start : Start) (before : List Removal) (r : Removal) → IsSteady c → j ≤ length c.kinds
    → account_at c j ≡ account_of start before → 1800 * r.bits ≤ (account_at c j).held → IsHeld start before r
unfolding account_of
held_by c j start before r h le e whole =
    let held : (account_at c j).held ≡ held_endless start before = ap (λ (a : State). a.held) e in
    let buffer : (account_at c j).start.buffer_bits ≡ start.buffer_bits = ap (λ (a : State). a.start.buffer_bits) e in
    (omega (arith, held, whole), omega (arith, held, buffer, buffer_at c j h.begun, held_most c j h.begun le))

at_same : (c : Entries) (i j : ℕ) → i ≡ j → account_at c i ≡ account_at c j
at_same c i j e = ap (account_at c) e

group_all : (c : Entries) (start : Start) (n j : ℕ) (before rest : List Removal) → IsSteady c → j + n ≤ length c.sizes
    → account_at c j ≡ account_of start before → Exact start before
    → ((more : List Removal) → account_at c (j + n) ≡ account_of start more → Exact start more → AllAt (IsHeld start) more rest)
    → AllAt (IsHeld start) before (map (removal_at c) (range_with_len j n) ++ rest)
unfolding account_at
group_all c start zero j before rest h le e exact go =
    go before (at_same c (j + 0) j (omega arith) ∙ e) exact
group_all c start (suc n) j before rest h le e exact go =
    let r = removal_at c j in
    let held = held_by c j start before r h (omega (arith, h.known, h.planned)) e (gone_whole c j h (omega arith)) in
    let next : account_at c (j + 1) ≡ account_of start (before ++ r ∷ []) =
    ap (account_at c) (add-one j) ∙ ap (λ (a : State). after a r.bits r.units) e ∙ account_push start before r exact held.0 in (
      held,
      group_all c start n (j + 1) (before ++ r ∷ []) rest h (omega arith) next (exact_push start before r exact held.0)
          (λ more f ex. go more (at_same c (j + suc n) (j + 1 + n) (omega arith) ∙ f) ex),
    )

-- the last picture of all
last_all : (l : Entries) (g : List Picture) (start : Start) (before : List Removal) → IsBegun l → IsCoded l g
    → account_at (closed l g) (length g - 1) ≡ account_of start before → IsHeld start before (ending_at (closed l g) (length g - 1))
last_all l g start before h coded e =
    let steady = closed_steady l g h coded in
    let kinds = length-map g (λ (x : Picture). x.kind) in
    let sizes = length-map g (λ (x : Picture). x.size) in
    let caps = length-map g (λ (x : Picture). x.plan.cap) in
    let room = size_room l g (length g - 1) coded (omega (arith, coded.some)) in
    let held = cap_held (closed l g) (length g - 1) steady (omega (arith, caps, coded.some)) (omega (arith, sizes)) in
    held_by (closed l g) (length g - 1) start before (ending_at (closed l g) (length g - 1)) steady (omega (arith, kinds)) e (omega (arith, room, held))

stream_all : (gs : List (List Picture)) (l : Entries) (start : Start) (before : List Removal) → IsBegun l → AreCoded l gs
    → account_at l (length l.kinds) ≡ account_of start before → Exact start before → AllAt (IsHeld start) before (removals l gs)
unfolding removals account_at
stream_all [] l start before h coded e exact = tt
stream_all (g ∷ []) l start before h coded e exact =
    let c = closed l g in
    let sizes = length-map g (λ (x : Picture). x.size) in
    group_all c start (length g - 1) 0 before (ending_at c (length g - 1) ∷ []) (closed_steady l g h coded.0) (omega (arith, sizes)) e exact
    (λ more f ex. (last_all l g start more h coded.0 (at_same c (length g - 1) (0 + (length g - 1)) (omega arith) ∙ f), tt))
stream_all (g ∷ (k ∷ gs)) l start before h coded e exact =
    let c = closed l g in
    let sizes = length-map g (λ (x : Picture). x.size) in
    let kinds = length-map g (λ (x : Picture). x.kind) in
    group_all c start (length g) 0 before (removals c (k ∷ gs)) (closed_steady l g h coded.0) (omega (arith, sizes)) e exact
    (λ more f ex. stream_all (k ∷ gs) c start more (closed_begun l g h coded.0) coded.1 (at_same c (length c.kinds) (0 + length g) (omega (arith, kinds)) ∙ f) ex)

-- ---- whole streams

-- where no picture is planned, the ledger is steady
pub steady_none : (l : Entries) → IsBegun l → length l.caps ≡ 0 → length l.targets ≡ 0 → length l.quantisers ≡ 0 → length l.sizes ≡ 0 → IsSteady l
steady_none l begun caps targets quantisers sizes = record {
  begun = begun;
  planned = omega (arith, caps);
  targeted = targets ∙ sym caps;
  quantised = quantisers ∙ sym caps;
  known = omega (arith, caps, sizes);
  ahead = omega (arith, caps, sizes);
  sizes = λ j lt. absurd (omega (arith, lt, sizes));
  caps = λ j lt. absurd (omega (arith, lt, caps));
}

pub fresh_begun : (s : Settings) → Passes s → IsBegun (fresh s)
fresh_begun s passes =
    let b = bounds s passes in
    record {
      passes = passes;
      rate = refl;
      buffer = refl;
      least = omega (arith, b.time.starts);
      most = omega (arith, b.time.waits);
      timed = refl;
      times = λ k d lt. absurd (omega arith);
    }

-- the ledger before the first group
pub fresh_ledger : (s : Settings) → Passes s → IsLedger (fresh s)
fresh_ledger s passes = record {
  few = omega arith;
  removals = omega arith;
  steady = steady_none (fresh s) (fresh_begun s passes) refl refl refl refl;
  measured = record {
    active = refl;
    activities = λ even. All-nil IsPictureActivity;
    worked = refl;
    works = All-nil (λ (w : ℕ). w < 2 ^ 29);
    last_i = tt;
    last_p = tt;
    last_b = tt;
  };
}

removed_split : (before : List Removal) (r : Removal) (later : List Removal) → removed (before ++ r ∷ later) ≡ removed before + (r.bits + removed later)
removed_split before r later =
    sum_by-append (λ (x : Removal). x.bits) before (r ∷ later) ∙ ap (λ (n : ℕ). removed before + n) (sum_by-cons (λ (x : Removal). x.bits) r later)

pub stream_safe : (s : Settings) (gs : List (List Picture)) → Passes s → AreCoded (fresh s) gs → Safe (fresh s).account.start (removals (fresh s) gs)
unfolding account_at
stream_safe s gs passes coded =
    let start = (fresh s).account.start in
    let all = stream_all gs (fresh s) start [] (fresh_begun s passes) coded (opening_is start) (exact_none start) in
    λ before r later e.
    let held = at_split (IsHeld start) (removals (fresh s) gs) [] all before r later e in
    let sum : removed (removals (fresh s) gs) ≡ removed before + (r.bits + removed later) = ap removed e ∙ removed_split before r later in
    (omega (arith, held.0, sum), omega (arith, held.1))

-- ---- the account on the way

group_more : (c : Entries) (before : List Removal) (n : ℕ) → (before ++ group_removals c n) ++ removal_at c n ∷ [] ≡ before ++ group_removals c (suc n)
group_more c before n =
    let z : 0 + n ≡ n = omega arith in
    let k : n + 1 ≡ suc n = omega arith in
    append_assoc before (group_removals c n) (removal_at c n ∷ [])
    ∙ ap (λ (rs : List Removal). before ++ rs) (sym (map-range_with_len_more (removal_at c) 0 n n z) ∙ ap (group_removals c) k)

group_account : (c : Entries) (start : Start) (n : ℕ) (before : List Removal) → IsSteady c → n ≤ length c.sizes
    → account_at c 0 ≡ account_of start before → Exact start before
    → (account_at c n ≡ account_of start (before ++ group_removals c n)) × Exact start (before ++ group_removals c n)
unfolding account_at
group_account c start zero before h le e exact = (rw (append-nil before) e, rw (append-nil before) exact)
group_account c start (suc n) before h le e exact =
    let rec = group_account c start n before h (omega arith) e exact in
    let r = removal_at c n in
    let rs = before ++ group_removals c n in
    let held = held_by c n start rs r h (omega (arith, h.known, h.planned)) rec.0 (gone_whole c n h (omega arith)) in (
      ap (λ (a : State). after a r.bits r.units) rec.0 ∙ account_push start rs r rec.1 held.0 ∙ ap (account_of start) (group_more c before n),
      subst (Exact start) (group_more c before n) (exact_push start rs r rec.1 held.0),
    )

-- where groups end
pub record Goes (start : Start) (before : List Removal) (l : Entries) : Type 0 where
  pub begun : IsBegun l
  pub account : account_at l (length l.kinds) ≡ account_of start before
  pub exact : Exact start before

goes_on : (gs : List (List Picture)) (l : Entries) (start : Start) (before : List Removal) → Goes start before l → AreCoded l gs
    → Goes start (before ++ sent l gs) (after_groups l gs)
unfolding sent after_groups account_at
goes_on [] l start before w coded = rw (append-nil before) w
goes_on (g ∷ gs) l start before w coded =
    let c = closed l g in
    let sizes = length-map g (λ (x : Picture). x.size) in
    let kinds = length-map g (λ (x : Picture). x.kind) in
    let all = group_account c start (length g) before (closed_steady l g w.begun coded.0) (omega (arith, sizes)) w.account w.exact in
    subst (λ (rs : List Removal). Goes start rs (after_groups c gs)) (append_assoc before (group_removals c (length g)) (sent c gs))
    (goes_on gs c start (before ++ group_removals c (length g))
    (record { begun = closed_begun l g w.begun coded.0; account = at_same c (length c.kinds) (length g) kinds ∙ all.0; exact = all.1 }) coded.1)

fresh_goes : (s : Settings) → Passes s → Goes (fresh s).account.start [] (fresh s)
unfolding account_at
fresh_goes s passes = record { begun = fresh_begun s passes; account = opening_is (fresh s).account.start; exact = exact_none (fresh s).account.start }

goes_after : (s : Settings) (gs : List (List Picture)) → Passes s → AreCoded (fresh s) gs → Goes (fresh s).account.start (sent (fresh s) gs) (after_groups (fresh s) gs)
goes_after s gs passes coded = goes_on gs (fresh s) (fresh s).account.start [] (fresh_goes s passes) coded

pub account_is : (s : Settings) (gs : List (List Picture)) (g : List Picture) (p : ℕ) → Passes s → AreCoded (fresh s) gs
    → (let l = after_groups (fresh s) gs in IsCoded l g → p ≤ length g → account_at (closed l g) p ≡ account_of (fresh s).account.start (sent (fresh s) gs ++ group_removals (closed l g) p))
unfolding account_at
account_is s gs g p passes coded this le =
    let l = after_groups (fresh s) gs in
    let w = goes_after s gs passes coded in
    let sizes = length-map g (λ (x : Picture). x.size) in
    (group_account (closed l g) (fresh s).account.start p (sent (fresh s) gs) (closed_steady l g w.begun this) (omega (arith, sizes)) w.account w.exact).0

keeps : (l : Entries) (g : List Picture) (p : ℕ) → IsBegun l → IsCoded l g → p < length g → Keeps (closed l g) p
keeps l g p h coded lt =
    let c = closed l g in
    let steady = closed_steady l g h coded in
    let kinds = length-map g (λ (x : Picture). x.kind) in
    let sizes = length-map g (λ (x : Picture). x.size) in
    let f = first_open p in
    let next : account_at c (p + 1) ≡ account_at c (suc p) = ap (account_at c) (add-one p) in
    record {
      least = low_least c f (p - f) steady.begun (omega (arith, kinds));
      low = low_below c p steady.begun (omega (arith, kinds)) (λ j less. steady.sizes j (omega (arith, sizes)));
      cap = cap_low l g p h coded lt;
      room = cap_room l g p h coded lt;
      size = size_room l g p coded lt;
      whole = gone_whole c p steady (omega (arith, sizes));
      most = held_most c p steady.begun (omega (arith, kinds));
      next = held_most c (p + 1) steady.begun (omega (arith, kinds));
      zeros = λ some. rw next (held_tight c p steady.begun (omega (arith, kinds)) some);
    }

pub keeps_after : (s : Settings) (gs : List (List Picture)) (g : List Picture) (p : ℕ) → Passes s → AreCoded (fresh s) gs
    → (let l = after_groups (fresh s) gs in IsCoded l g → p < length g → Keeps (closed l g) p)
keeps_after s gs g p passes coded this lt = keeps (after_groups (fresh s) gs) g p (goes_after s gs passes coded).begun this lt

pub delay_is : (start : Start) (before : List Removal) (bits : ℕ) → start.s ≤ removed before + bits
    → arriving (account_of start before) (removed before + bits) ≡ held_endless start before - 1800 * bits
unfolding account_of
delay_is start before bits le = omega arith
