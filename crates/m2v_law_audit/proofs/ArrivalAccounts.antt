-- Of a stream whose account is safe, with delays that are all exact, the bits of each picture arrive in time (rule 29).
use Rattle.std.proofs.Common.{◌≡◌, ℕ, ◌+◌, ◌-◌, ◌*◌, ◌<◌, ◌≤◌, Bool, true, false, List, [], ◌∷◌, ◌++◌, length, map, inl, inr, Some, refl, sym, ap, subst, ◌∙◌, append_assoc, arith}
use Rattle.std.specs.Prelude.{nat_eq, sum, drop, if◌then◌else◌}
use Rattle.std.specs.List.{AllByRecursion}
use Rattle.std.proofs.lemmas.Bool.{eqb-true}
use Rattle.std.proofs.lemmas.List.Sums.{sum_by-cons, sum_by_push}
use Rattle.m2v_vbv.specs.Annex.{Removal, removed, time_of}
use Rattle.m2v_vbv.specs.Buffer.{removal_of, removals}
use Rattle.m2v_model.specs.declared.state.Sequence.{Sequence}
use Rattle.m2v_model.specs.Pictures.{Events, pictures_in}
use Rattle.m2v_model.specs.ByPieces.{Between}
use Rattle.m2v_model.specs.Lawful.{Numbered, rate_of}
use Rattle.m2v_model.specs.Buffering.{StreamAccount, bits_of_piece, code_bits, account_from, exact_delay, exact_delays, exact_delays_from, codes, other_delays, IsSafe}
use Rattle.m2v_model.proofs.EventLaws.{pictures_in-append}
use Rattle.m2v_audit.specs.m2v_strict.declared.preceding.Arrival.{Arrival}
use Rattle.m2v_audit.specs.m2v_strict.ArrivalRules.{arrival_rule}
use Rattle.m2v_audit.specs.Account.{picture_of, pictures}
use Rattle.m2v_audit.specs.Times.{Times, opened, time_of as time_behind, after}
use Rattle.m2v_audit.proofs.m2v_check.Ordered.{code_within}
use Rattle.m2v_audit.proofs.m2v_check.Onward.{none_or_one}
use Rattle.m2v_law_audit.specs.Accounts.{coded_at, due_at, dues_from, IsOnceAmong}
use Rattle.m2v_law_audit.proofs.AccountDues.{removals_are, EndsSo}
use Rattle.m2v_law_audit.proofs.AccountReading.{Turns}
use Rattle.m2v_law_audit.proofs.RemovalEvents.{none_left}
use Rattle.m2v_law_audit.proofs.FigureLevels.{off_from, off_of, delays_are}
use Rattle.m2v_law_audit.proofs.ArrivalNumbers.{IsKnown, known_first, known_next, keeps_arrival}

-- ---- what is asked

-- a picture, as the arrival of the next one's bits asks for it
abbrev pub arrived_at : Times → ℕ → List ℕ → Numbered → Arrival
arrived_at t at p n =
    let c = coded_at at p n in
    record { code_end = 8 * at + code_bits p; units = time_behind t c.sequence c.note; delay = n.picture.info.vbv_delay }

-- the bits of pictures arrive in time behind this one, where piece i has picture i
abbrev pub AllArrive : ℕ → Arrival → Times → ℕ → List (List ℕ) → List Numbered → Type 0
AllArrive rate d t at ps [] = Unit {0}
AllArrive rate d t at [] (n ∷ ns) = Unit {0}
AllArrive rate d t at (p ∷ ps) (n ∷ ns) =
    let c = coded_at at p n in
    (arrival_rule rate (Some d) c ≡ []) × AllArrive rate (arrived_at t at p n) (after t c.sequence c.note) (at + length p) ps ns

-- the start codes of pictures end in their pieces
abbrev pub AllFit : List (List ℕ) → List Numbered → Type 0
AllFit [] ns = Unit {0}
AllFit (p ∷ ps) [] = Unit {0}
AllFit (p ∷ ps) (n ∷ ns) = (code_bits p ≤ bits_of_piece p) × AllFit ps ns

pub all_fit : (ps : List (List ℕ)) (b : Between) (es : Events) (ns : List Numbered) → Turns b ps es → length ns ≤ length (pictures_in es)
    → AllFit ps ns
all_fit [] b es ns turns few = tt
all_fit (p ∷ ps) b es [] turns few = tt
all_fit (p ∷ ps) b es (n ∷ ns) turns few =
    let u = turns.0 in
    let all : pictures_in es ≡ pictures_in u.own ++ pictures_in u.rest = ap pictures_in u.are ∙ pictures_in-append u.own u.rest in
    elim (none_or_one u.own u.last) [
      | inl none ↦
          let rest = (none_left (length (pictures_in u.own)) u.next ps u.rest (ap length none) u.one turns.1).1 in
          let no : pictures_in es ≡ [] = all ∙ (λ i. none i ++ pictures_in (rest i)) in
          absurd (omega (arith, few, ap length no))
      | inr one ↦
          let count : length (pictures_in es) ≡ 1 + length (pictures_in u.rest) =
          ap length (all ∙ ap (λ (l : _). l ++ pictures_in u.rest) one.1) ∙ omega arith in (
            code_within b p u.own u.next u.read u.shut (λ none. let d = sym one.1 ∙ none in absurd cc),
            all_fit ps u.next u.rest ns turns.1 (omega (arith, few, count)),
          )
    ]

-- ---- one picture behind others

-- a delay that isn't counted is exact
exact_where : (b : Bool) (n : ℕ) → (if b then 0 else 1) + n ≡ 0 → (b ≡ true) × (n ≡ 0)
exact_where true n e = (refl, omega (arith, e))
exact_where false n e = absurd (omega (arith, e))

module _ (a : StreamAccount) (base : ℕ) (some : 0 < a.start.k) (safe : IsSafe a) where
  record Arrives (before : List Removal) (t : Times) (at : ℕ) (p : List ℕ) (n : Numbered) (bits : ℕ) (d : Arrival) : Type 0 where
    keeps : arrival_rule a.start.k (Some d) (coded_at at p n) ≡ []
    known : IsKnown a.start base (before ++ removal_of (picture_of (due_at t at bits p n)) ∷ []) (arrived_at t at p n)

  one_arrives : (before : List Removal) (t : Times) (at : ℕ) (p : List ℕ) (n : Numbered) (bits : ℕ) (later : List Removal) (d : Arrival)
      → base + removed before ≡ 8 * at → IsKnown a.start base before d → code_bits p ≤ bits
      → a.removals ≡ before ++ removal_of (picture_of (due_at t at bits p n)) ∷ later
      → n.picture.info.vbv_delay ≡ exact_delay a.start before (removed before + code_bits p)
      → Arrives before t at p n bits d
  one_arrives before t at p n bits later d place known fits are exact =
      let r = removal_of (picture_of (due_at t at bits p n)) in
      let held = (safe before r later are).0 in
      let behind : a.start.s ≤ removed before = omega (arith, known.begun, known.within) in
      let whole : 1800 * (removed before + code_bits p - a.start.s) ≤ 8 * a.start.k * a.start.delay + a.start.k * time_of before =
      omega (arith, held, fits, behind) in
      let ends : base + removed before + code_bits p ≡ 8 * at + code_bits p = omega (arith, place) in
      let here : 8 * at + code_bits p ≡ base + (removed before + code_bits p) = omega (arith, place) in
      record {
        keeps = keeps_arrival a.start base before d (removed before + code_bits p) (coded_at at p n) known (omega arith) whole exact here;
        known =
            subst
            (λ (c : ℕ). IsKnown a.start base (before ++ r ∷ []) (record { code_end = c; units = r.units; delay = n.picture.info.vbv_delay }))
            ends (known_next a.start base before r (code_bits p) n.picture.info.vbv_delay some behind fits exact);
      }

  -- ---- one after another

  all_arrive : (ns : List Numbered) (ps : List (List ℕ)) (before : List Removal) (t : Times) (at : ℕ) (d : Arrival)
      → base + removed before ≡ 8 * at → IsKnown a.start base before d → length ns ≤ length ps → AllFit ps ns
      → a.removals ≡ before ++ removals (pictures (dues_from t at ps ns)) → off_from a.start before (dues_from t at ps ns) ≡ 0
      → AllArrive a.start.k d t at ps ns
  unfolding dues_from
  all_arrive [] ps before t at d place known le fit are off = tt
  all_arrive (n ∷ ns) [] before t at d place known le fit are off = tt
  all_arrive (n ∷ []) (p ∷ ps) before t at d place known le fit are off =
      let bits = sum (map bits_of_piece (p ∷ ps)) in
      let all : bits ≡ bits_of_piece p + sum (map bits_of_piece ps) = sum_by-cons (λ (x : ℕ). x) (bits_of_piece p) (map bits_of_piece ps) in
      let exact = exact_where (nat_eq n.picture.info.vbv_delay (exact_delay a.start before (removed before + code_bits p))) 0 off in
      let one = one_arrives before t at p n bits [] d place known (omega (arith, all, fit.0)) are (eqb-true _ _ exact.0) in
      (one.keeps, tt)
  all_arrive (n ∷ m ∷ ns) (p ∷ ps) before t at d place known le fit are off =
      let c = coded_at at p n in
      let r = removal_of (picture_of (due_at t at (bits_of_piece p) p n)) in
      let next = after t c.sequence c.note in
      let rest = removals (pictures (dues_from next (at + length p) ps (m ∷ ns))) in
      let exact = exact_where (nat_eq n.picture.info.vbv_delay (exact_delay a.start before (removed before + code_bits p))) _ off in
      let one = one_arrives before t at p n (bits_of_piece p) rest d place known fit.0 are (eqb-true _ _ exact.0) in
      let more : removed (before ++ r ∷ []) ≡ removed before + bits_of_piece p = sum_by_push (λ (x : Removal). x.bits) before r in
      let end : base + removed (before ++ r ∷ []) ≡ 8 * (at + length p) = omega (arith, more, place) in (
        one.keeps,
        all_arrive (m ∷ ns) ps (before ++ r ∷ []) next (at + length p) (arrived_at t at p n) end one.known (omega (arith, le)) fit.1
            (are ∙ sym (append_assoc before (r ∷ []) rest)) exact.1,
      )

-- ---- the first picture, and those behind it

-- by the first sequence header, where no delay behind the first one is another than the exact one
pub arrive_behind_first : (at : ℕ) (s : Sequence) (p : List ℕ) (ps : List (List ℕ)) (n : Numbered) (ns : List Numbered)
    → 0 < rate_of s → AllByRecursion IsOnceAmong (n ∷ ns) → AllByRecursion EndsSo (n ∷ ns) → length (n ∷ ns) ≤ length (p ∷ ps)
    → AllFit (p ∷ ps) (n ∷ ns) →
    let a = account_from s.extension.low_delay s n (p ∷ ps) (n ∷ ns) in
    let t = opened s.extension.low_delay s.info.frame_rate_code in
    let c = coded_at at p n in
    IsSafe a → other_delays ns (drop 1 (exact_delays (p ∷ ps) a)) ≡ 0
    → AllArrive (rate_of s) (arrived_at t at p n) (after t c.sequence c.note) (at + length p) ps ns
unfolding dues_from
arrive_behind_first at s p ps n [] some once ends le fit safe off = tt
arrive_behind_first at s p ps n (m ∷ ns) some once ends le fit safe off =
    let a = account_from s.extension.low_delay s n (p ∷ ps) (n ∷ m ∷ ns) in
    let t = opened s.extension.low_delay s.info.frame_rate_code in
    let c = coded_at at p n in
    let r = removal_of (picture_of (due_at t at (bits_of_piece p) p n)) in
    let are : removals (pictures (dues_from t at (p ∷ ps) (n ∷ m ∷ ns))) ≡ a.removals =
    removals_are s.extension.low_delay s.info.frame_rate_code at (p ∷ ps) (n ∷ m ∷ ns) le once ends in
    let none : off_of a.start (dues_from t at (p ∷ ps) (n ∷ m ∷ ns)) ≡ 0 =
    delays_are a.start t at (p ∷ ps) (n ∷ m ∷ ns) le
    ∙ ap (λ (rs : List Removal). other_delays (m ∷ ns) (drop 1 (exact_delays_from a.start [] (codes 0 (p ∷ ps)) rs))) are ∙ off in
    let more : removed (r ∷ []) ≡ 0 + bits_of_piece p = sum_by_push (λ (x : Removal). x.bits) [] r in
    all_arrive a (8 * at) some safe (m ∷ ns) ps (r ∷ []) (after t c.sequence c.note) (at + length p) (arrived_at t at p n) (omega (arith, more))
    (known_first a.start (8 * at) r some fit.0) (omega (arith, le)) fit.1 (sym are) none
