-- The account as it runs, picture by picture.
use Rattle.std.proofs.Common.{◌≡◌, ℕ, suc, ◌+◌, ◌-◌, ◌*◌, ◌/◌, ◌<◌, ◌≤◌, Bool, true, false, List, [], ◌∷◌, ◌++◌, length, map, Option, Some, None, refl, sym, ap, subst, ◌∙◌, append_assoc, arith, inl, inr}
use Rattle.std.specs.Prelude.{if◌then◌else◌, nat_eq, nat_le, nat_lt, max, min}
use Rattle.std.proofs.lemmas.Bool.{cases_Bool, leb-true, le-leb, lt-ltb, ltb-true, cases_lt, eqb-true}
use Rattle.std.proofs.lemmas.List.{append-nil, length-append, map-append}
use Rattle.std.proofs.lemmas.List.Sums.{sum_by_push}
use Rattle.m2v_vbv.specs.Annex.{Start, Removal, removed, arrived, held_endless, Held}
use Rattle.m2v_vbv.specs.Account.{State, after, account_of, arriving}
use Rattle.m2v_vbv.specs.declared.fault.AccountFault.{AccountFault}
use Rattle.m2v_vbv.specs.declared.fault.AccountFault.TheVariants.{Under, Over}
use Rattle.m2v_vbv.proofs.Sums.{Exact, exact_push, account_push}
use Rattle.m2v_model.specs.Buffering.{StreamAccount, unsafe_at, unsafe_from, amounts_from, greatest, exact_delay}
use Rattle.m2v_check.specs.declared.course.Next.{Next}
use Rattle.m2v_check.specs.declared.course.Full.{Full}
use Rattle.m2v_check.specs.declared.course.Course.{Course}
use Rattle.m2v_check.specs.Breaking.{first_some}
use Rattle.m2v_check.specs.Holding.{exact_at, is_whole, delays_with, full_with, course_under, over_by, cut_at}
use Rattle.m2v_check.specs.Accounts.{removal_of, removals_of, stream_of, first_fault, fault_of, most_of, others_from, others_of, IsFull, Ran, RunsOn}

-- ---- lists that grow

removed_push : (rs : List Removal) (r : Removal) → removed (rs ++ r ∷ []) ≡ removed rs + r.bits
removed_push rs r = sum_by_push (λ (x : Removal). x.bits) rs r

removals_push : (ts : List Next) (n : Next) → removals_of (ts ++ n ∷ []) ≡ removals_of ts ++ removal_of n ∷ []
removals_push ts n = map-append removal_of ts (n ∷ [])

unsafe_push : (a : StreamAccount) (before rs : List Removal) (r : Removal) → unsafe_from a before (rs ++ r ∷ []) ≡ unsafe_from a before rs ++ unsafe_at a (before ++ rs) r
unfolding unsafe_from
unsafe_push a before [] r = append-nil (unsafe_at a before r) ∙ ap (λ (l : List Removal). unsafe_at a l r) (sym (append-nil before))
unsafe_push a before (x ∷ rs) r =
    ap (λ (l : List AccountFault). unsafe_at a before x ++ l) (unsafe_push a (before ++ x ∷ []) rs r ∙ ap (λ (l : List Removal). unsafe_from a (before ++ x ∷ []) rs ++ unsafe_at a l r) (append_assoc before (x ∷ []) rs))
    ∙ sym (append_assoc (unsafe_at a before x) (unsafe_from a (before ++ x ∷ []) rs) (unsafe_at a (before ++ x ∷ rs) r))

unsafe-append : (a : StreamAccount) (before rs more : List Removal) → unsafe_from a before (rs ++ more) ≡ unsafe_from a before rs ++ unsafe_from a (before ++ rs) more
unfolding unsafe_from
unsafe-append a before [] more = ap (λ (l : List Removal). unsafe_from a l more) (sym (append-nil before))
unsafe-append a before (x ∷ rs) more =
    ap (λ (l : List AccountFault). unsafe_at a before x ++ l) (unsafe-append a (before ++ x ∷ []) rs more ∙ ap (λ (l : List Removal). unsafe_from a (before ++ x ∷ []) rs ++ unsafe_from a l more) (append_assoc before (x ∷ []) rs))
    ∙ sym (append_assoc (unsafe_at a before x) (unsafe_from a (before ++ x ∷ []) rs) (unsafe_from a (before ++ x ∷ rs) more))

amounts_push : (a : StreamAccount) (before rs : List Removal) (r : Removal) → amounts_from a before (rs ++ r ∷ []) ≡ amounts_from a before rs ++ (Held a.start a.total (before ++ rs), 1800 * r.bits) ∷ []
unfolding amounts_from
amounts_push a before [] r = ap (λ (l : List Removal). (Held a.start a.total l, 1800 * r.bits) ∷ []) (sym (append-nil before))
amounts_push a before (x ∷ rs) r =
    ap (λ (l : List (ℕ × ℕ)). (Held a.start a.total before, 1800 * x.bits) ∷ l)
    (amounts_push a (before ++ x ∷ []) rs r ∙ ap (λ (l : List Removal). amounts_from a (before ++ x ∷ []) rs ++ (Held a.start a.total l, 1800 * r.bits) ∷ []) (append_assoc before (x ∷ []) rs))

greatest_push : (xs : List ℕ) (y : ℕ) → greatest (xs ++ y ∷ []) ≡ max (greatest xs) y
unfolding greatest
greatest_push [] y = omega arith
greatest_push (x ∷ xs) y = let h = greatest_push xs y in omega arith

fault-append : (xs ys : List AccountFault) → first_fault (xs ++ ys) ≡ first_some (first_fault xs) (first_fault ys)
fault-append [] ys = refl
fault-append (x ∷ xs) ys = refl

-- ---- one removal

-- what is held in a stream that has the removal's bits
held_cut : (held arrivals gone t : ℕ) → held ≡ arrivals - 1800 * gone → gone ≤ t → min arrivals (1800 * t) - 1800 * gone ≡ min held (1800 * (t - gone))
held_cut held arrivals gone t e le = omega arith

below_false : (a b : ℕ) → nat_le a b ≡ false → b < a
below_false a b e = elim (cases_lt b a) [
  | inl l ↦ l
  | inr m ↦ let t : nat_le a b ≡ true = le-leb a b m in absurd (let d : true ≡ false = sym t ∙ e in cc)
]

at_most_false : (a b : ℕ) → nat_lt a b ≡ false → b ≤ a
at_most_false a b e = elim (cases_lt a b) [
  | inl l ↦ let t : nat_lt a b ≡ true = lt-ltb a b l in absurd (let d : true ≡ false = sym t ∙ e in cc)
  | inr m ↦ m
]

le_false : (a b : ℕ) → b < a → nat_le a b ≡ false
le_false a b l = elim (cases_Bool (nat_le a b)) [
  | inl t ↦ let m = leb-true a b t in absurd (omega arith)
  | inr f ↦ f
]

lt_false : (a b : ℕ) → b ≤ a → nat_lt a b ≡ false
lt_false a b l = elim (cases_Bool (nat_lt a b)) [
  | inl t ↦ let m = ltb-true a b t in absurd (omega arith)
  | inr f ↦ f
]

-- how a whole picture is over
abbrev over_here : ℕ → ℕ → ℕ → Option AccountFault
over_here n held size = if nat_lt size held then Some (Over n held size) else None

fault_whole : (a : StreamAccount) (before : List Removal) (r : Removal) → 1800 * r.bits ≤ Held a.start a.total before
    → first_fault (unsafe_at a before r) ≡ over_here (length before) (Held a.start a.total before) (1800 * a.start.buffer_bits)
unfolding unsafe_at
fault_whole a before r le = rw (le-leb (1800 * r.bits) (Held a.start a.total before) le) (by_size (Held a.start a.total before) (1800 * a.start.buffer_bits))
  where
    by_size : (h s : ℕ) → first_fault (if nat_le h s then [] else Over (length before) h s ∷ []) ≡ over_here (length before) h s
    by_size h s = elim (cases_lt s h) [
      | inl l ↦ let p = le_false h s l in let q = lt-ltb s h l in rw (p, q) refl
      | inr m ↦ let p = le-leb h s m in let q = lt_false s h m in rw (p, q) refl
    ]

fault_under : (a : StreamAccount) (before : List Removal) (r : Removal) → Held a.start a.total before < 1800 * r.bits
    → first_fault (unsafe_at a before r) ≡ Some (Under (length before) (Held a.start a.total before) (1800 * r.bits))
unfolding unsafe_at
fault_under a before r lt = rw (le_false (1800 * r.bits) (Held a.start a.total before) lt) refl

-- the first account above the buffer, and what comes behind it
over_kept : (f : Full) (n size held rest t : ℕ) → size ≡ 1800 * f.account.start.buffer_bits → size < f.account.held → held ≤ 1800 * rest → rest ≤ t - f.removed
    → first_some (over_by (Some f) t) (over_here n held size) ≡ over_by (Some f) t
over_kept f n size held rest t es full le more = elim (cases_lt (1800 * f.account.start.buffer_bits) (min f.account.held (1800 * (t - f.removed)))) [
  | inl l ↦ rw (lt-ltb _ _ l) refl
  | inr m ↦ rw (lt_false _ _ m, lt_false size held (omega arith)) refl
]

over_new : (a : State) (size h t gone : ℕ) → size ≡ 1800 * a.start.buffer_bits → h ≡ min a.held (1800 * (t - gone))
    → over_here a.removals h size ≡ over_by (if nat_lt size a.held then Some (record { account = a; removed = gone }) else None) t
over_new a size h t gone es eh = elim (cases_lt size a.held) [
  | inl l ↦ rw (lt-ltb size a.held l, eh, es) refl
  | inr m ↦ rw (lt_false size a.held m, lt_false size h (omega arith)) refl
]

-- ---- one picture more

held_in : (start : Start) (t : ℕ) (rs : List Removal) → removed rs ≤ t → Held start t rs ≡ min (held_endless start rs) (1800 * (t - removed rs))
held_in start t rs le = held_cut (held_endless start rs) (arrived start rs) (removed rs) t refl le

module _ (start : Start) (ts : List Next) (c : Course) (j : Ran start ts c) where
  abbrev rs : List Removal
  rs = removals_of ts

  abbrev r : Removal
  r = removal_of c.next

  held_is : c.account.held ≡ held_endless start rs
  unfolding account_of
  held_is = ap (λ (a : State). a.held) j.account

  removals_is : c.account.removals ≡ length rs
  unfolding account_of
  removals_is = ap (λ (a : State). a.removals) j.account

  start_is : c.account.start ≡ start
  unfolding account_of
  start_is = ap (λ (a : State). a.start) j.account

  removed_more : removed (removals_of (ts ++ c.next ∷ [])) ≡ removed rs + c.next.bits
  removed_more = ap removed (removals_push ts c.next) ∙ removed_push rs r

  cut_is : (t : ℕ) → removed rs ≤ t → Held start t rs ≡ min c.account.held (1800 * (t - c.removed))
  cut_is t le = held_in start t rs le ∙ (λ i. min (sym held_is i) (1800 * (t - sym j.removed_is i)))

  most_more : (t : ℕ) → removed rs + c.next.bits ≤ t → (most : ℕ) → most ≡ most_of start t ts → most_of start t (ts ++ c.next ∷ []) ≡ max most (cut_at t (record { held = c.account.held; removed = c.removed }))
  most_more t le most e =
      let a = stream_of start t in
      ap (λ (l : List Removal). greatest (map (λ (x : ℕ × ℕ). x.0) (amounts_from a [] l))) (removals_push ts c.next)
      ∙ ap (λ (l : List (ℕ × ℕ)). greatest (map (λ (x : ℕ × ℕ). x.0) l)) (amounts_push a [] rs r)
      ∙ ap greatest (map-append (λ (x : ℕ × ℕ). x.0) (amounts_from a [] rs) ((Held start t rs, 1800 * c.next.bits) ∷ []))
      ∙ greatest_push (map (λ (x : ℕ × ℕ). x.0) (amounts_from a [] rs)) (Held start t rs)
      ∙ (λ i. max (sym e i) (cut_is t (omega arith) i))

  -- ---- it is whole

  whole_held : is_whole c ≡ true → 1800 * c.next.bits ≤ held_endless start rs
  whole_held w = let l : 1800 * c.next.bits ≤ c.account.held = leb-true _ _ w in omega (arith, held_is, l)

  full_one : (b : Bool) → nat_lt c.size c.account.held ≡ b → IsFull start (removals_of (ts ++ c.next ∷ [])) (if b then Some (record { account = c.account; removed = c.removed }) else None)
  full_one true e =
      let l = ltb-true c.size c.account.held e in
      (start_is, omega (arith, l, j.size), omega (arith, removed_more, j.removed_is))
  full_one false e = tt

  full_more : (o : Option Full) → IsFull start rs o → IsFull start (removals_of (ts ++ c.next ∷ [])) (first_some o (if nat_lt c.size c.account.held then Some (record { account = c.account; removed = c.removed }) else None))
  full_more None f = full_one (nat_lt c.size c.account.held) refl
  full_more (Some x) f = (f.0, f.1, omega (arith, f.2, removed_more))

  size_at : c.size ≡ 1800 * c.account.start.buffer_bits
  size_at = j.size ∙ ap (λ (s : Start). 1800 * s.buffer_bits) (sym start_is)

  over_more : (t : ℕ) → removed rs + c.next.bits ≤ t → (o : Option Full) → IsFull start rs o
      → first_some (over_by o t) (over_here c.account.removals (Held start t rs) c.size) ≡ over_by (first_some o (if nat_lt c.size c.account.held then Some (record { account = c.account; removed = c.removed }) else None)) t
  over_more t le None f = over_new c.account c.size (Held start t rs) t c.removed size_at (cut_is t (omega arith))
  over_more t le (Some x) f =
      let size : c.size ≡ 1800 * x.account.start.buffer_bits = j.size ∙ ap (λ (s : Start). 1800 * s.buffer_bits) (sym f.0) in
      let cut = cut_is t (omega arith) in
      let above = f.1 in
      let gone = f.2 in
      let is = j.removed_is in
      let most : Held start t rs ≤ 1800 * (t - c.removed) = omega (arith, cut) in
      let less : t - c.removed ≤ t - x.removed = omega (arith, gone, is) in
      over_kept x c.account.removals c.size (Held start t rs) (t - c.removed) t size (omega (arith, above, j.size)) most less

  fault_more : is_whole c ≡ true → (t : ℕ) → removed (removals_of (ts ++ c.next ∷ [])) ≤ t → fault_of start t (ts ++ c.next ∷ []) ≡ over_by (full_with c) t
  fault_more w t le =
      let a = stream_of start t in
      let most : removed rs + c.next.bits ≤ t = omega (arith, removed_more, le) in
      let cut = cut_is t (omega arith) in
      let whole : 1800 * c.next.bits ≤ Held start t rs = let h : 1800 * c.next.bits ≤ c.account.held = leb-true _ _ w in let is = j.removed_is in omega (arith, cut, h, is, most) in
      ap (λ (l : List Removal). first_fault (unsafe_from a [] l)) (removals_push ts c.next)
      ∙ ap first_fault (unsafe_push a [] rs r) ∙ fault-append (unsafe_from a [] rs) (unsafe_at a rs r)
      ∙ (λ i. first_some (j.fault t (omega arith) i) (fault_whole a rs r whole i))
      ∙ (λ i. first_some (over_by c.full t) (over_here (sym removals_is i) (Held start t rs) (sym j.size i)))
      ∙ over_more t most c.full j.full

  -- ---- delays

  exact_is : exact_at c.account c.removed c.next.code ≡ exact_delay start rs (removed rs + c.next.code)
  unfolding account_of
  exact_is = λ i. arriving (j.account i) (j.removed_is i + c.next.code) / (8 * (j.account i).start.k)

  -- ---- it isn't whole

  under_is : is_whole c ≡ false → (t : ℕ) → removed rs + c.next.bits ≤ t → Held start t rs ≡ c.account.held
  under_is w t le = let lt : c.account.held < 1800 * c.next.bits = below_false _ _ w in let cut = cut_is t (omega arith) in let is = j.removed_is in omega (arith, cut, lt, is, le)

  some_stays : (x : Option AccountFault) (f : AccountFault) (y : Option AccountFault) → first_some (first_some x (Some f)) y ≡ first_some x (Some f)
  some_stays None f y = refl
  some_stays (Some x) f y = refl

  under_more : is_whole c ≡ false → (t : ℕ) → removed rs + c.next.bits ≤ t → (more : List Next) → fault_of start t ((ts ++ c.next ∷ []) ++ more) ≡ first_some (over_by c.full t) (course_under c).under
  under_more w t le more =
      let a = stream_of start t in
      let is = under_is w t le in
      let lt : c.account.held < 1800 * c.next.bits = below_false _ _ w in
      let under : first_fault (unsafe_at a rs r) ≡ (course_under c).under =
      fault_under a rs r (omega (arith, is, lt)) ∙ (λ i. Some (Under (sym removals_is i) (is i) (1800 * c.next.bits))) in
      ap (λ (l : List Removal). first_fault (unsafe_from a [] l)) (map-append removal_of (ts ++ c.next ∷ []) more)
      ∙ ap first_fault (unsafe-append a [] (removals_of (ts ++ c.next ∷ [])) (removals_of more))
      ∙ fault-append (unsafe_from a [] (removals_of (ts ++ c.next ∷ []))) (unsafe_from a (removals_of (ts ++ c.next ∷ [])) (removals_of more))
      ∙ ap (λ (x : Option AccountFault). first_some x (first_fault (unsafe_from a (removals_of (ts ++ c.next ∷ [])) (removals_of more))))
      (ap (λ (l : List Removal). first_fault (unsafe_from a [] l)) (removals_push ts c.next)
      ∙ ap first_fault (unsafe_push a [] rs r) ∙ fault-append (unsafe_from a [] rs) (unsafe_at a rs r)
      ∙ (λ i. first_some (j.fault t (omega arith) i) (under i)))
      ∙ some_stays (over_by c.full t) (Under c.account.removals c.account.held (1800 * c.next.bits)) (first_fault (unsafe_from a (removals_of (ts ++ c.next ∷ [])) (removals_of more)))

-- ---- delays of all

one_other : (b : Bool) (k : ℕ) → k + (if b then 0 else 1) ≡ (if b then k else k + 1)
one_other true k = omega arith
one_other false k = omega arith

others_push : (start : Start) (before : List Removal) (ts : List Next) (n : Next)
    → others_from start before (ts ++ n ∷ []) ≡ others_from start before ts + (if nat_eq n.delay (exact_delay start (before ++ removals_of ts) (removed (before ++ removals_of ts) + n.code)) then 0 else 1)
others_push start before [] n =
    let e : before ++ [] ≡ before = append-nil before in
    let k : ℕ = if nat_eq n.delay (exact_delay start before (removed before + n.code)) then 0 else 1 in
    let z : k + 0 ≡ 0 + k = omega arith in
    z ∙ ap (λ (l : List Removal). 0 + (if nat_eq n.delay (exact_delay start l (removed l + n.code)) then 0 else 1)) (sym e)
others_push start before (m ∷ ts) n =
    let k : ℕ = if nat_eq m.delay (exact_delay start before (removed before + m.code)) then 0 else 1 in
    let next = before ++ removal_of m ∷ [] in
    let last = λ (l : List Removal). if nat_eq n.delay (exact_delay start l (removed l + n.code)) then 0 else 1 in
    let h = others_push start next ts n in
    let e : next ++ removals_of ts ≡ before ++ removals_of (m ∷ ts) = append_assoc before (removal_of m ∷ []) (removals_of ts) in
    let add : k + (others_from start next ts + last (next ++ removals_of ts)) ≡ (k + others_from start next ts) + last (next ++ removals_of ts) = omega arith in
    ap (λ (x : ℕ). k + x) h ∙ add ∙ ap (λ (l : List Removal). (k + others_from start next ts) + last l) e

delays_more : (start : Start) (ts : List Next) (c : Course) → Ran start ts c → delays_with c ≡ others_of start (ts ++ c.next ∷ [])
delays_more start [] c j = rw (j.pictures) (j.delays)
delays_more start (m ∷ ts) c j =
    let some : nat_eq c.pictures 0 ≡ false = ap (λ (x : ℕ). nat_eq x 0) j.pictures ∙ not_zero (length ts) in
    let push = others_push start (removal_of m ∷ []) ts c.next in
    rw some (ap (λ (x : ℕ). if nat_eq c.next.delay x then c.delays else c.delays + 1) (exact_is start (m ∷ ts) c j)
    ∙ ap (λ (k : ℕ). if nat_eq c.next.delay (exact_delay start (removals_of (m ∷ ts)) (removed (removals_of (m ∷ ts)) + c.next.code)) then k else k + 1) j.delays
    ∙ sym (push ∙ one_other (nat_eq c.next.delay (exact_delay start (removals_of (m ∷ ts)) (removed (removals_of (m ∷ ts)) + c.next.code))) (others_from start (removal_of m ∷ []) ts)))
  where
    not_zero : (n : ℕ) → nat_eq (suc n) 0 ≡ false
    not_zero n = elim (cases_Bool (nat_eq (suc n) 0)) [
      | inl t ↦ let e = eqb-true (suc n) 0 t in absurd (omega arith)
      | inr f ↦ f
    ]

pub runs_on : (start : Start) (ts : List Next) (c : Course) → Ran start ts c → RunsOn start ts c
runs_on start ts c j = record {
  whole = λ w.
      let rs = removals_of ts in
      let r = removal_of c.next in
      let held = whole_held start ts c j w in
      let push = removals_push ts c.next in
      record {
        account = ap (λ (a : State). after a c.next.bits c.next.units) j.account ∙ account_push start rs r j.exactly held ∙ ap (account_of start) (sym push);
        exactly = subst (Exact start) (sym push) (exact_push start rs r j.exactly held);
        pictures = ap (λ (k : ℕ). k + 1) j.pictures ∙ sym (length-append ts (c.next ∷ []));
        removed_is = ap (λ (k : ℕ). k + c.next.bits) j.removed_is ∙ sym (removed_more start ts c j);
        size = j.size;
        full = full_more start ts c j c.full j.full;
        fault = λ t le. fault_more start ts c j w t le;
        delays = delays_more start ts c j;
      };
  most = λ t le most e. most_more start ts c j t le most e;
  under = λ w t le more. under_more start ts c j w t le more;
}
