-- What is kept of the removals of a stream at constant rate, where none fails: the figures of the verifier's account.
use Rattle.std.proofs.Common.{◌≡◌, ℕ, suc, ◌+◌, ◌-◌, ◌/◌, ◌≤◌, ◌<◌, ◌^◌, max, Bool, true, false, not, List, [], ◌∷◌, ◌++◌, length, map, Option, Some, None, refl, sym, ap, subst, ◌∙◌, arith}
use Rattle.std.specs.Prelude.{◌&&◌, nat_eq, drop, if◌then◌else◌}
use Rattle.std.specs.Option.{unwrap_or}
use Rattle.std.proofs.lemmas.Bool.{ne_eqb}
use Rattle.std.proofs.lemmas.List.Sums.{sum_by_push}
use Rattle.m2v_vbv.specs.Annex.{Start, Removal, removed, Held}
use Rattle.m2v_vbv.specs.Buffer.{Picture, Buffer, constant_start, told, next, removal_of, removals, left, run, tells, fails}
use Rattle.m2v_vbv.specs.Deliveries.{NoneFails}
use Rattle.m2v_vbv.proofs.Fine.{left_cons}
use Rattle.m2v_vbv.proofs.Constant.{delay_is}
use Rattle.m2v_model.specs.Lawful.{Numbered}
use Rattle.m2v_model.specs.Buffering.{StreamAccount, bits_of_piece, code_bits, codes, amounts_from, least, greatest, low_of, high_of, exact_delay, exact_delays_from, other_delays}
use Rattle.m2v_audit.specs.declared.account.Due.{Due}
use Rattle.m2v_audit.specs.Account.{Told, picture_of, pictures, all_told}
use Rattle.m2v_audit.specs.Report.{one_more, after_of}
use Rattle.m2v_audit.specs.Report.{least as least_kept}
use Rattle.m2v_audit.specs.Times.{Times, after}
use Rattle.m2v_audit.proofs.m2v_check.Listed.{low_is}
use Rattle.m2v_law_audit.specs.Accounts.{coded_at, due_at, dues_from}
use Rattle.m2v_law_audit.specs.Parts.{more_by}
use Rattle.m2v_law_audit.proofs.AccountFirst.{AreNumbered, Behind, one_behind, held_behind}
use Rattle.m2v_law_audit.proofs.FigureCounts.{few_counted}
use Rattle.m2v_law_audit.proofs.FigureTallies.{Levels, with_one, with_all}

-- ---- removals by Annex C

-- what is held at each, and the delay that it implies, behind removals
abbrev AreExact : StreamAccount → List Removal → List Told → Type 0
AreExact a before [] = Unit {0}
AreExact a before (t ∷ ts) =
    (t.1.have ≡ Held a.start a.total before)
    × (t.1.delay ≡ exact_delay a.start before (removed before + t.0.code_bits))
    × AreExact a (before ++ removal_of (picture_of t.0) ∷ []) ts

-- the start codes stand behind so many bits, as do the pictures' ends
abbrev pub StandBehind : ℕ → ℕ → List Due → Type 0
StandBehind s at [] = Unit {0}
StandBehind s at (d ∷ ds) = (s ≤ at + d.code_bits) × (s ≤ at + d.bits)

stand_on : (s at to : ℕ) (d : Due) (ds : List Due) → to ≡ at + d.bits → StandBehind s at (d ∷ ds) → StandBehind s to ds
stand_on s at to d [] e h = tt
stand_on s at to d (c ∷ ds) e h = (omega (arith, e, h.1), omega (arith, e, h.1))

delay_at : (a : StreamAccount) (step : ℕ) (before : List Picture) (rs : List Removal) (b : Buffer) (p : Picture) (rest : ℕ) → Behind a step before rs b rest → fails (told b p rest) ≡ false → a.start.s ≤ removed rs + p.code_bits
    → (told b p rest).delay ≡ exact_delay a.start rs (removed rs + p.code_bits)
delay_at a step before rs b p rest h fine le =
    let here : fails (told (run (constant_start a.start step) before rest) p rest) ≡ false = ap (λ (c : Buffer). fails (told c p rest)) h.buffer ∙ fine in
    let stands : a.start.s ≤ removed (removals before) + p.code_bits = subst (λ (l : List Removal). a.start.s ≤ removed l + p.code_bits) (sym h.are) le in
    ap (λ (c : Buffer). (told c p rest).delay) (sym h.buffer)
    ∙ delay_is a.start step rest before p h.none here stands
    ∙ ap (λ (l : List Removal). exact_delay a.start l (removed l + p.code_bits)) h.are

exact_from : (a : StreamAccount) (step : ℕ) (before : List Picture) (rs : List Removal) (b : Buffer) (ds : List Due) → Behind a step before rs b (left (pictures ds) 0) → NoneFails (tells b (pictures ds) 0) → StandBehind a.start.s (removed rs) ds
    → AreExact a rs (all_told b ds)
unfolding tells
exact_from a step before rs b [] h none stand = tt
exact_from a step before rs b (d ∷ ds) h none stand =
    let p : Picture = picture_of d in
    let rest : ℕ = left (pictures (d ∷ ds)) 0 in
    let more : List Removal = rs ++ removal_of p ∷ [] in
    let bits : removed more ≡ removed rs + d.bits = sum_by_push (λ (r : Removal). r.bits) rs (removal_of p) in (
      held_behind a step before rs b p rest h,
      delay_at a step before rs b p rest h none.0 stand.0,
      exact_from a step (before ++ p ∷ []) more (next b p rest) ds (one_behind a step before rs b p (pictures ds) h none.0) none.1 (stand_on a.start.s (removed rs) (removed more) d ds bits stand),
    )

-- ---- the most that is held

abbrev dues_of : List Told → List Due
dues_of ts = map (λ (t : Told). t.0) ts

dues_told : (b : Buffer) (ds : List Due) → dues_of (all_told b ds) ≡ ds
unfolding tells
dues_told b [] = refl
dues_told b (d ∷ ds) = ap (λ (l : List Due). d ∷ l) (dues_told (next b (picture_of d) (left (pictures (d ∷ ds)) 0)) ds)

abbrev most_held : StreamAccount → List Removal → List Removal → ℕ
most_held a before rs = greatest (map (λ (x : ℕ × ℕ). x.0) (amounts_from a before rs))

one_high : (high have held later : ℕ) → have ≡ held → max (max high (have / 1800)) (later / 1800) ≡ max high (max held later / 1800)
one_high high have held later e = omega (arith, e)

high_from : (a : StreamAccount) (before : List Removal) (constant : Bool) (x : Levels) (ts : List Told) → AreExact a before ts → (with_all constant x ts).1 ≡ max x.1 (most_held a before (removals (pictures (dues_of ts))) / 1800)
unfolding greatest amounts_from
high_from a before constant x [] exact = omega arith
high_from a before constant x (t ∷ ts) exact =
    let rs = removals (pictures (dues_of ts)) in
    high_from a (before ++ removal_of (picture_of t.0) ∷ []) constant (with_one constant x t) ts exact.2
    ∙ one_high x.1 t.1.have (Held a.start a.total before) (most_held a (before ++ removal_of (picture_of t.0) ∷ []) rs) exact.0

-- ---- the least that is left

least_zero : (low : Option ℕ) (n : ℕ) → n ≡ 0 → least_kept low n ≡ 0
least_zero None n e = e
least_zero (Some low) n e = omega (arith, e)

-- of the last picture nothing is left
none_left : (b : Buffer) (p : Picture) → after_of (told b p (left (p ∷ []) 0)) ≡ 0
unfolding told
none_left b p = let bits = left_cons p [] 0 in omega (arith, bits)

low_from : (constant : Bool) (x : Levels) (b : Buffer) (d : Due) (ds : List Due) → (with_all constant x (all_told b (d ∷ ds))).0 ≡ Some 0
unfolding tells
low_from constant x b d [] = ap (λ (n : ℕ). Some n) (least_zero x.0 _ (none_left b (picture_of d)))
low_from constant x b d (c ∷ ds) =
    let p : Picture = picture_of d in
    let rest : ℕ = left (pictures (d ∷ c ∷ ds)) 0 in
    low_from constant (with_one constant x (d, told b p rest)) (next b p rest) c ds

-- ---- delays

-- how many of these pictures, behind others, have another delay than the exact one
abbrev pub off_from : Start → List Removal → List Due → ℕ
off_from start before [] = 0
off_from start before (d ∷ ds) =
    (if nat_eq d.delay (exact_delay start before (removed before + d.code_bits)) then 0 else 1) + off_from start (before ++ removal_of (picture_of d) ∷ []) ds

abbrev pub off_of : Start → List Due → ℕ
off_of start [] = 0
off_of start (d ∷ ds) = off_from start (removal_of (picture_of d) ∷ []) ds

-- one delay, which is exact or isn't
one_off : (w : Bool) (n m : ℕ) → more_by (if not w then one_more n else n) m ≡ more_by n ((if w then 0 else 1) + m)
one_off true n m = omega arith
one_off false n m = omega arith

off_kept : (number delay exact least n m : ℕ) → number ≡ suc least → more_by (if true && not (nat_eq number 0) && not (nat_eq delay exact) then one_more n else n) m ≡ more_by n ((if nat_eq delay exact then 0 else 1) + m)
off_kept number delay exact k n m e =
    let later : nat_eq number 0 ≡ false = ne_eqb number 0 (λ z. omega (arith, e, z)) in
    rw later (one_off (nat_eq delay exact) n m)

off_told : (a : StreamAccount) (before : List Removal) (k : ℕ) (x : Levels) (ts : List Told) → AreExact a before ts → AreNumbered (k + 1) (dues_of ts) → x.2 ≤ 2 ^ 64 - 1 → (with_all true x ts).2 ≡ more_by x.2 (off_from a.start before (dues_of ts))
off_told a before k x [] exact numbers le = omega (arith, le)
off_told a before k x (t ∷ ts) exact numbers le =
    let behind = before ++ removal_of (picture_of t.0) ∷ [] in
    let later : ℕ = off_from a.start behind (dues_of ts) in
    let delay : ℕ = exact_delay a.start before (removed before + t.0.code_bits) in
    off_told a behind (k + 1) (with_one true x t) ts exact.2 numbers.1 (few_counted _ x.2 le)
    ∙ ap (λ (e : ℕ). more_by (if true && not (nat_eq t.0.number 0) && not (nat_eq t.0.delay e) then one_more x.2 else x.2) later) exact.1
    ∙ off_kept t.0.number t.0.delay delay k x.2 later (numbers.0 ∙ omega arith)

-- the first picture's delay says when the account begins
first_kept : (number delay exact n : ℕ) → number ≡ 0 → (if true && not (nat_eq number 0) && not (nat_eq delay exact) then one_more n else n) ≡ n
first_kept number delay exact n e = rw e refl

off_all : (a : StreamAccount) (x : Levels) (ts : List Told) → AreExact a [] ts → AreNumbered 0 (dues_of ts) → x.2 ≤ 2 ^ 64 - 1 → (with_all true x ts).2 ≡ more_by x.2 (off_of a.start (dues_of ts))
off_all a x [] exact numbers le = omega (arith, le)
off_all a x (t ∷ ts) exact numbers le =
    let first = first_kept t.0.number t.0.delay t.1.delay x.2 numbers.0 in
    off_told a (removal_of (picture_of t.0) ∷ []) 0 (with_one true x t) ts exact.2 numbers.1 (few_counted _ x.2 le)
    ∙ ap (λ (n : ℕ). more_by n (off_from a.start (removal_of (picture_of t.0) ∷ []) (dues_of ts))) first

-- they are those of the verifier
off_are : (start : Start) (before : List Removal) (at : ℕ) (t : Times) (place : ℕ) (ps : List (List ℕ)) (ns : List Numbered) → removed before ≡ at → length ns ≤ length ps
    → off_from start before (dues_from t place ps ns) ≡ other_delays ns (exact_delays_from start before (codes at ps) (removals (pictures (dues_from t place ps ns))))
unfolding dues_from other_delays exact_delays_from codes
off_are start before at t place ps [] e le = refl
off_are start before at t place [] (n ∷ ns) e le = absurd (omega (arith, le))
off_are start before at t place (p ∷ ps) (n ∷ []) e le =
    ap (λ (x : ℕ). (if nat_eq n.picture.info.vbv_delay (exact_delay start before (x + code_bits p)) then 0 else 1) + 0) e
off_are start before at t place (p ∷ ps) (n ∷ m ∷ ns) e le =
    let c = coded_at place p n in
    let r : Removal = removal_of (picture_of (due_at t place (bits_of_piece p) p n)) in
    let more : removed (before ++ r ∷ []) ≡ at + bits_of_piece p = sum_by_push (λ (x : Removal). x.bits) before r ∙ ap (λ (x : ℕ). x + bits_of_piece p) e in
    let later = off_are start (before ++ r ∷ []) (at + bits_of_piece p) (after t c.sequence c.note) (place + length p) ps (m ∷ ns) more (omega (arith, le)) in
    λ i. (if nat_eq n.picture.info.vbv_delay (exact_delay start before (e i + code_bits p)) then 0 else 1) + later i

pub delays_are : (start : Start) (t : Times) (place : ℕ) (ps : List (List ℕ)) (ns : List Numbered) → length ns ≤ length ps
    → off_of start (dues_from t place ps ns) ≡ other_delays (drop 1 ns) (drop 1 (exact_delays_from start [] (codes 0 ps) (removals (pictures (dues_from t place ps ns)))))
unfolding dues_from other_delays exact_delays_from codes
delays_are start t place ps [] le = refl
delays_are start t place [] (n ∷ ns) le = absurd (omega (arith, le))
delays_are start t place (p ∷ ps) (n ∷ []) le = refl
delays_are start t place (p ∷ ps) (n ∷ m ∷ ns) le =
    let c = coded_at place p n in
    let r : Removal = removal_of (picture_of (due_at t place (bits_of_piece p) p n)) in
    off_are start (r ∷ []) (0 + bits_of_piece p) (after t c.sequence c.note) (place + length p) ps (m ∷ ns) (sum_by_push (λ (x : Removal). x.bits) [] r) (omega (arith, le))

-- ---- the whole

-- what is kept of all removals
pub record KeepsFigures (a : StreamAccount) (x : Levels) (delays : ℕ) : Type 0 where
  pub low : unwrap_or x.0 0 ≡ low_of a
  pub high : x.1 ≡ high_of a
  pub delays_kept : x.2 ≡ more_by 0 delays

low_all : (a : StreamAccount) (b : Buffer) (ds : List Due) → removals (pictures ds) ≡ a.removals → left (pictures ds) 0 ≡ a.total → unwrap_or (with_all true (None, 0, 0) (all_told b ds)).0 0 ≡ low_of a
unfolding tells least amounts_from
low_all a b [] are total = ap (λ (rs : List Removal). least (map (λ (x : ℕ × ℕ). x.0 - x.1) (amounts_from a [] rs)) / 1800) are
low_all a b (d ∷ ds) are total =
    let some : 0 < length a.removals = omega (arith, ap length are) in
    let all : a.total ≡ removed a.removals = omega (arith, total, ap removed are) in
    ap (λ (o : Option ℕ). unwrap_or o 0) (low_from true (None, 0, 0) b d ds) ∙ sym (low_is a some all)

pub keeps_figures : (a : StreamAccount) (step : ℕ) (ds : List Due) → AreNumbered 0 ds → left (pictures ds) 0 ≡ a.total → removals (pictures ds) ≡ a.removals → StandBehind a.start.s 0 ds
    → NoneFails (tells (constant_start a.start step) (pictures ds) 0) → KeepsFigures a (with_all true (None, 0, 0) (all_told (constant_start a.start step) ds)) (off_of a.start ds)
unfolding run tells
keeps_figures a step ds numbers total are stand none =
    let b : Buffer = constant_start a.start step in
    let ts : List Told = all_told b ds in
    let same : dues_of ts ≡ ds = dues_told b ds in
    let exact : AreExact a [] ts = exact_from a step [] [] b ds (record { are = refl; none = tt; buffer = refl; all = omega (arith, total) }) none stand in
    record {
      low = low_all a b ds are total;
      high =
          high_from a [] true (None, 0, 0) ts exact
          ∙ ap (λ (l : List Due). max 0 (most_held a [] (removals (pictures l)) / 1800)) same
          ∙ ap (λ (rs : List Removal). max 0 (most_held a [] rs / 1800)) are
          ∙ omega arith;
      delays_kept =
          off_all a (None, 0, 0) ts exact (subst (AreNumbered 0) (sym same) numbers) (omega arith)
          ∙ ap (λ (l : List Due). more_by 0 (off_of a.start l)) same;
    }
