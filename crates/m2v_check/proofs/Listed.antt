-- The account of a stream by its pieces and pictures, as lists: what is removed, and what is said of it.
use Rattle.std.proofs.Common.{◌≡◌, ℕ, ◌+◌, ◌-◌, ◌*◌, ◌/◌, ◌<◌, ◌≤◌, List, [], ◌∷◌, ◌++◌, length, map, refl, sym, ap, ◌∙◌, arith}
use Rattle.std.specs.Prelude.{sum, min, drop, nat_eq, if◌then◌else◌}
use Rattle.std.proofs.lemmas.List.{map-append}
use Rattle.std.proofs.lemmas.List.Sums.{sum_by_push, sum_by-cons}
use Rattle.m2v_vbv.specs.Annex.{Start, Removal, removed, Held}
use Rattle.m2v_vbv.specs.declared.fault.AccountFault.{AccountFault}
use Rattle.m2v_model.specs.Lawful.{Numbered}
use Rattle.m2v_model.specs.Buffering.{StreamAccount, bits_of_piece, code_bits, codes, sizes, intervals, joined_removals, unsafe_at, unsafe_from, amounts_from, least, low_of, exact_delay, exact_delays_from, other_delays}
use Rattle.m2v_check.specs.declared.course.Next.{Next}
use Rattle.m2v_check.specs.declared.times.Times.{Times}
use Rattle.m2v_check.specs.Holding.{time_behind, repeats_behind}
use Rattle.m2v_check.specs.Accounts.{removal_of, removals_of, others_from, others_of}

-- ---- pictures that are removed

-- the times behind pictures
abbrev pub times_behind : Times → List Numbered → Times
times_behind t [] = t
times_behind t (n ∷ ns) = times_behind (record t { repeats = repeats_behind t n }) ns

abbrev pub next_by : Times → Numbered → ℕ → ℕ → Next
next_by t n bits code = record { bits = bits; code = code; units = time_behind t n; delay = n.picture.info.vbv_delay }

-- the bits of pieces
abbrev pub all_bits : List (List ℕ) → ℕ
all_bits ps = sum (map bits_of_piece ps)

-- the pictures of pieces: piece i has picture i, and the last picture has all that stands behind it
abbrev pub nexts : Times → List (List ℕ) → List Numbered → List Next
nexts t ps [] = []
nexts t [] (n ∷ ns) = []
nexts t (p ∷ ps) (n ∷ []) = next_by t n (all_bits (p ∷ ps)) (code_bits p) ∷ []
nexts t (p ∷ ps) (n ∷ m ∷ ns) = next_by t n (bits_of_piece p) (code_bits p) ∷ nexts (record t { repeats = repeats_behind t n }) ps (m ∷ ns)

bits_one : (p : List ℕ) → all_bits (p ∷ []) ≡ bits_of_piece p
bits_one p = sum_by-cons (λ (x : ℕ). x) (bits_of_piece p) [] ∙ omega arith

pub bits_push : (ps : List (List ℕ)) (p : List ℕ) → all_bits (ps ++ p ∷ []) ≡ all_bits ps + bits_of_piece p
bits_push ps p = ap sum (map-append bits_of_piece ps (p ∷ [])) ∙ sum_by_push (λ (x : ℕ). x) (map bits_of_piece ps) (bits_of_piece p)

-- ---- one piece more

-- with a picture
pub nexts_push : (t : Times) (ps : List (List ℕ)) (ns : List Numbered) (p : List ℕ) (n : Numbered) → length ns ≡ length ps
    → nexts t (ps ++ p ∷ []) (ns ++ n ∷ []) ≡ nexts t ps ns ++ next_by (times_behind t ns) n (bits_of_piece p) (code_bits p) ∷ []
nexts_push t [] [] p n e = ap (λ (b : ℕ). next_by t n b (code_bits p) ∷ []) (bits_one p)
nexts_push t (q ∷ ps) [] p n e = absurd (omega (arith, e))
nexts_push t [] (m ∷ ns) p n e = absurd (omega (arith, e))
nexts_push t (q ∷ []) (m ∷ []) p n e =
    let then_times : Times = record t { repeats = repeats_behind t m } in
    λ i. next_by t m (sym (bits_one q) i) (code_bits q) ∷ next_by then_times n (bits_one p i) (code_bits p) ∷ []
nexts_push t (q ∷ r ∷ ps) (m ∷ []) p n e = absurd (omega (arith, e))
nexts_push t (q ∷ []) (m ∷ k ∷ ns) p n e = absurd (omega (arith, e))
nexts_push t (q ∷ r ∷ ps) (m ∷ k ∷ ns) p n e =
    ap (λ (l : List Next). next_by t m (bits_of_piece q) (code_bits q) ∷ l) (nexts_push (record t { repeats = repeats_behind t m }) (r ∷ ps) (k ∷ ns) p n (omega (arith, e)))

-- without one: the last picture has more bits
abbrev with_last : List Next → ℕ → List Next
with_last [] b = []
with_last (x ∷ []) b = record x { bits = x.bits + b } ∷ []
with_last (x ∷ y ∷ xs) b = x ∷ with_last (y ∷ xs) b

last_push : (us : List Next) (x : Next) (b : ℕ) → with_last (us ++ x ∷ []) b ≡ us ++ record x { bits = x.bits + b } ∷ []
last_push [] x b = refl
last_push (u ∷ []) x b = refl
last_push (u ∷ v ∷ us) x b = ap (λ (l : List Next). u ∷ l) (last_push (v ∷ us) x b)

nexts_with : (t : Times) (ps : List (List ℕ)) (ns : List Numbered) (p : List ℕ) → length ns ≤ length ps → nexts t (ps ++ p ∷ []) ns ≡ with_last (nexts t ps ns) (bits_of_piece p)
nexts_with t ps [] p le = refl
nexts_with t [] (n ∷ ns) p le = absurd (omega (arith, le))
nexts_with t (q ∷ ps) (n ∷ []) p le = ap (λ (b : ℕ). next_by t n b (code_bits q) ∷ []) (bits_push (q ∷ ps) p)
nexts_with t (q ∷ []) (n ∷ m ∷ ns) p le = absurd (omega (arith, le))
nexts_with t (q ∷ r ∷ ps) (n ∷ m ∷ []) p le = ap (λ (l : List Next). next_by t n (bits_of_piece q) (code_bits q) ∷ l) (nexts_with (record t { repeats = repeats_behind t n }) (r ∷ ps) (m ∷ []) p (omega (arith, le)))
nexts_with t (q ∷ r ∷ ps) (n ∷ m ∷ k ∷ ns) p le = ap (λ (l : List Next). next_by t n (bits_of_piece q) (code_bits q) ∷ l) (nexts_with (record t { repeats = repeats_behind t n }) (r ∷ ps) (m ∷ k ∷ ns) p (omega (arith, le)))

pub nexts_more : (t : Times) (ps : List (List ℕ)) (ns : List Numbered) (p : List ℕ) (us : List Next) (x : Next) → length ns ≤ length ps → nexts t ps ns ≡ us ++ x ∷ []
    → nexts t (ps ++ p ∷ []) ns ≡ us ++ record x { bits = x.bits + bits_of_piece p } ∷ []
nexts_more t ps ns p us x le e = nexts_with t ps ns p le ∙ ap (λ (l : List Next). with_last l (bits_of_piece p)) e ∙ last_push us x (bits_of_piece p)

pub times_push : (t : Times) (ns : List Numbered) (n : Numbered) → times_behind t (ns ++ n ∷ []) ≡ record (times_behind t ns) { repeats = repeats_behind (times_behind t ns) n }
times_push t [] n = refl
times_push t (m ∷ ns) n = times_push (record t { repeats = repeats_behind t m }) ns n

-- all bits are those of some picture
pub nexts_bits : (t : Times) (p : List ℕ) (ps : List (List ℕ)) (n : Numbered) (ns : List Numbered) → length (n ∷ ns) ≤ length (p ∷ ps) → removed (removals_of (nexts t (p ∷ ps) (n ∷ ns))) ≡ all_bits (p ∷ ps)
nexts_bits t p ps n [] le = sum_by-cons (λ (x : Removal). x.bits) (removal_of (next_by t n (all_bits (p ∷ ps)) (code_bits p))) [] ∙ omega arith
nexts_bits t p [] n (m ∷ ns) le = absurd (omega (arith, le))
nexts_bits t p (q ∷ ps) n (m ∷ ns) le =
    let t2 : Times = record t { repeats = repeats_behind t n } in
    let ih = nexts_bits t2 q ps m ns (omega (arith, le)) in
    sum_by-cons (λ (x : Removal). x.bits) (removal_of (next_by t n (bits_of_piece p) (code_bits p))) (removals_of (nexts t2 (q ∷ ps) (m ∷ ns)))
    ∙ ap (λ (x : ℕ). bits_of_piece p + x) ih ∙ sym (sum_by-cons (λ (x : ℕ). x) (bits_of_piece p) (map bits_of_piece (q ∷ ps)))

-- ---- removals

pub removals_are : (t : Times) (ps : List (List ℕ)) (ns : List Numbered) → length ns ≤ length ps
    → removals_of (nexts t ps ns) ≡ joined_removals (sizes (length ns) (map bits_of_piece ps)) (intervals t.low_delay t.code t.repeats ns)
unfolding joined_removals sizes intervals
removals_are t ps [] le = refl
removals_are t [] (n ∷ ns) le = absurd (omega (arith, le))
removals_are t (p ∷ ps) (n ∷ []) le = refl
removals_are t (p ∷ ps) (n ∷ m ∷ ns) le =
    ap (λ (l : List Removal). removal_of (next_by t n (bits_of_piece p) (code_bits p)) ∷ l) (removals_are (record t { repeats = repeats_behind t n }) ps (m ∷ ns) (omega (arith, le)))

-- ---- delays

others_are : (start : Start) (before : List Removal) (at : ℕ) (t : Times) (ps : List (List ℕ)) (ns : List Numbered) → removed before ≡ at → length ns ≤ length ps
    → others_from start before (nexts t ps ns) ≡ other_delays ns (exact_delays_from start before (codes at ps) (removals_of (nexts t ps ns)))
unfolding other_delays exact_delays_from codes
others_are start before at t ps [] e le = refl
others_are start before at t [] (n ∷ ns) e le = absurd (omega (arith, le))
others_are start before at t (p ∷ ps) (n ∷ []) e le =
    ap (λ (x : ℕ). (if nat_eq n.picture.info.vbv_delay (exact_delay start before (x + code_bits p)) then 0 else 1) + 0) e
others_are start before at t (p ∷ ps) (n ∷ m ∷ ns) e le =
    let r = removal_of (next_by t n (bits_of_piece p) (code_bits p)) in
    let more : removed (before ++ r ∷ []) ≡ at + bits_of_piece p = sum_by_push (λ (x : Removal). x.bits) before r ∙ ap (λ (x : ℕ). x + bits_of_piece p) e in
    let ih = others_are start (before ++ r ∷ []) (at + bits_of_piece p) (record t { repeats = repeats_behind t n }) ps (m ∷ ns) more (omega (arith, le)) in
    λ i. (if nat_eq n.picture.info.vbv_delay (exact_delay start before (e i + code_bits p)) then 0 else 1) + ih i

pub delays_are : (start : Start) (t : Times) (ps : List (List ℕ)) (ns : List Numbered) → length ns ≤ length ps
    → others_of start (nexts t ps ns) ≡ other_delays (drop 1 ns) (drop 1 (exact_delays_from start [] (codes 0 ps) (removals_of (nexts t ps ns))))
unfolding other_delays exact_delays_from codes
delays_are start t ps [] le = refl
delays_are start t [] (n ∷ ns) le = absurd (omega (arith, le))
delays_are start t (p ∷ ps) (n ∷ []) le = refl
delays_are start t (p ∷ ps) (n ∷ m ∷ ns) le =
    let r = removal_of (next_by t n (bits_of_piece p) (code_bits p)) in
    others_are start (r ∷ []) (0 + bits_of_piece p) (record t { repeats = repeats_behind t n }) ps (m ∷ ns) (sum_by_push (λ (x : Removal). x.bits) [] r) (omega (arith, le))

-- ---- the least that is left

last_left : (start : Start) (total : ℕ) (before : List Removal) (bits : ℕ) → total ≤ removed before + bits → Held start total before - 1800 * bits ≡ 0
last_left start total before bits le = omega (arith, le)

low_from : (a : StreamAccount) (before : List Removal) (r : Removal) (rs : List Removal) → a.total ≡ removed before + removed (r ∷ rs)
    → least (map (λ (x : ℕ × ℕ). x.0 - x.1) (amounts_from a before (r ∷ rs))) ≡ 0
unfolding least amounts_from
low_from a before r [] e = last_left a.start a.total before r.bits (omega (arith, e, sum_by-cons (λ (x : Removal). x.bits) r []))
low_from a before r (s ∷ rs) e =
    let push = sum_by_push (λ (x : Removal). x.bits) before r in
    let cons = sum_by-cons (λ (x : Removal). x.bits) r (s ∷ rs) in
    let ih = low_from a (before ++ r ∷ []) s rs (omega (arith, e, push, cons)) in
    ap (min (Held a.start a.total before - 1800 * r.bits)) ih ∙ omega arith

pub low_is : (a : StreamAccount) → (0 < length a.removals) → a.total ≡ removed a.removals → low_of a ≡ 0
low_is a some e = by_list a a.removals some e
  where
    by_list : (b : StreamAccount) (rs : List Removal) → 0 < length rs → b.total ≡ removed rs → least (map (λ (x : ℕ × ℕ). x.0 - x.1) (amounts_from b [] rs)) / 1800 ≡ 0
    by_list b [] some e = absurd (omega arith)
    by_list b (r ∷ rs) some e = ap (λ (x : ℕ). x / 1800) (low_from b [] r rs (e ∙ omega arith))

-- ---- the same account, whatever it lists

pub unsafe_same : (start : Start) (total : ℕ) (xs ys before rs : List Removal)
    → unsafe_from (record { start = start; total = total; removals = xs }) before rs ≡ unsafe_from (record { start = start; total = total; removals = ys }) before rs
unfolding unsafe_from unsafe_at
unsafe_same start total xs ys before [] = refl
unsafe_same start total xs ys before (r ∷ rs) =
    ap (λ (l : List AccountFault). unsafe_at (record { start = start; total = total; removals = xs }) before r ++ l) (unsafe_same start total xs ys (before ++ r ∷ []) rs)

pub amounts_same : (start : Start) (total : ℕ) (xs ys before rs : List Removal)
    → amounts_from (record { start = start; total = total; removals = xs }) before rs ≡ amounts_from (record { start = start; total = total; removals = ys }) before rs
unfolding amounts_from
amounts_same start total xs ys before [] = refl
amounts_same start total xs ys before (r ∷ rs) =
    ap (λ (l : List (ℕ × ℕ)). (Held start total before, 1800 * r.bits) ∷ l) (amounts_same start total xs ys (before ++ r ∷ []) rs)
