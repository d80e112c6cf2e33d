-- At constant rate the first failure that is told of a stream's buffer is the first of the verifier's account.
use Rattle.std.proofs.Common.{◌≡◌, ℕ, ◌+◌, ◌*◌, ◌<◌, ◌↔◌, Bool, true, false, ◌||◌, not, List, [], ◌∷◌, ◌++◌, length, Some, inl, inr, refl, sym, ap, subst, ◌∙◌, arith}
use Rattle.std.specs.Prelude.{nat_le, if◌then◌else◌}
use Rattle.std.specs.List.{flat_map}
use Rattle.std.proofs.lemmas.Bool.{cases_Bool, leb-true, leb-false}
use Rattle.std.proofs.lemmas.List.{map-append, length-append}
use Rattle.std.proofs.lemmas.List.Sums.{sum_by_push}
use Rattle.m2v_vbv.specs.Annex.{Removal, removed, Held}
use Rattle.m2v_vbv.specs.Buffer.{Picture, Buffer, constant_start, told, next, removal_of, removals, left, run, tells, fails}
use Rattle.m2v_vbv.specs.Deliveries.{NoneFails}
use Rattle.m2v_vbv.specs.declared.removed.Removed.{Removed}
use Rattle.m2v_vbv.specs.declared.fault.AccountFault.{AccountFault}
use Rattle.m2v_vbv.specs.declared.fault.AccountFault.TheVariants.{Under, Over}
use Rattle.m2v_vbv.proofs.Fine.{left_cons}
use Rattle.m2v_vbv.proofs.Steps.{run_append, tells_append}
use Rattle.m2v_vbv.proofs.Constant.{held_is, under_is, over_is}
use Rattle.m2v_model.specs.Buffering.{StreamAccount, unsafe_at, unsafe_from, unsafe_in}
use Rattle.m2v_audit.specs.declared.account.Due.{Due}
use Rattle.m2v_audit.specs.declared.records.FailureRecord.{FailureRecord}
use Rattle.m2v_audit.specs.declared.report.Rate.{Rate}
use Rattle.m2v_audit.specs.declared.words.FailureKind.TheVariants as kinds
use Rattle.m2v_audit.specs.Account.{picture_of, pictures, all_told}
use Rattle.m2v_audit.specs.Report.{under_of, over_of}
use Rattle.m2v_law_audit.specs.Found.{failures_of}
use Rattle.m2v_law_audit.specs.Accounts.{Agrees, FirstAgree}

-- ---- one removal

-- a test that holds where one number is below another, as the verifier asks it
flag_is : (u : Bool) (have need : ℕ) → (u ≡ true) ↔ (have < need) → u ≡ not (nat_le need have)
flag_is true have need h = elim (cases_Bool (nat_le need have)) [
  | inl on ↦ let le = leb-true need have on in let lt = h.0 refl in absurd (omega (arith, le, lt))
  | inr off ↦ ap not (sym off)
]
flag_is false have need h = elim (cases_Bool (nat_le need have)) [
  | inl on ↦ ap not (sym on)
  | inr off ↦ let d : false ≡ true = h.1 (leb-false need have off) in absurd cc
]

-- what is told of a removal, and what the verifier says of it: under before over
first_by : (v w : Bool) (under over : FailureRecord) (f g : AccountFault) (later : List FailureRecord) (unsafe : List AccountFault) → Agrees under f → Agrees over g → ((not v || not w) ≡ false → FirstAgree later unsafe)
    → FirstAgree (((if not v then under ∷ [] else []) ++ (if not w then over ∷ [] else [])) ++ later) (((if v then [] else f ∷ []) ++ (if w then [] else g ∷ [])) ++ unsafe)
first_by false w under over f g later unsafe a b h = a
first_by true false under over f g later unsafe a b h = b
first_by true true under over f g later unsafe a b h = h refl

first_at : (u o v w : Bool) (under over : FailureRecord) (f g : AccountFault) (later : List FailureRecord) (unsafe : List AccountFault) → u ≡ not v → o ≡ not w → Agrees under f → Agrees over g → ((u || o) ≡ false → FirstAgree later unsafe)
    → FirstAgree (((if u then under ∷ [] else []) ++ (if o then over ∷ [] else [])) ++ later) (((if v then [] else f ∷ []) ++ (if w then [] else g ∷ [])) ++ unsafe)
first_at u o v w under over f g later unsafe eu eo a b h =
    subst (λ (x : Bool × Bool). FirstAgree (((if x.0 then under ∷ [] else []) ++ (if x.1 then over ∷ [] else [])) ++ later) (((if v then [] else f ∷ []) ++ (if w then [] else g ∷ [])) ++ unsafe)) (λ i. (sym eu i, sym eo i))
    (first_by v w under over f g later unsafe a b (λ e. h ((λ i. eu i || eo i) ∙ e)))

not_over : (low_delay : Bool) → (if low_delay then kinds.Big else kinds.Under) ≡ kinds.Over → ⊥
not_over true e = absurd cc
not_over false e = absurd cc

one_agrees : (number : ℕ) (rate : Rate) (d : Due) (t : Removed) (count held need size : ℕ) (later : List FailureRecord) (unsafe : List AccountFault) → d.number ≡ count → t.have ≡ held → t.need ≡ need → rate.size ≡ size
    → (t.is_under ≡ true) ↔ (held < need) → (t.is_over ≡ true) ↔ (size < held) → (fails t ≡ false → FirstAgree later unsafe)
    → FirstAgree (failures_of number rate (d, t) ++ later) (((if nat_le need held then [] else Under count held need ∷ []) ++ (if nat_le held size then [] else Over count held size ∷ [])) ++ unsafe)
one_agrees number rate d t count held need size later unsafe en eh ee es under over h =
    first_at t.is_under t.is_over (nat_le need held) (nat_le held size) (under_of number rate d t) (over_of number rate d t) (Under count held need) (Over count held size) later unsafe
    (flag_is t.is_under held need under) (flag_is t.is_over size held over) (en, eh, ee, not_over rate.low_delay) (en, eh, es, refl) h

-- ---- one after another

none_both : (xs ys : List Removed) → NoneFails xs → NoneFails ys → NoneFails (xs ++ ys)
none_both [] ys x y = y
none_both (t ∷ xs) ys x y = (x.0, none_both xs ys x.1 y)

-- they have these numbers, one after another
abbrev pub AreNumbered : ℕ → List Due → Type 0
AreNumbered k [] = Unit {0}
AreNumbered k (d ∷ ds) = (d.number ≡ k) × AreNumbered (k + 1) ds

-- the removals so far, none of which fails, and the buffer behind them
pub record Behind (a : StreamAccount) (step : ℕ) (before : List Picture) (rs : List Removal) (b : Buffer) (rest : ℕ) : Type 0 where
  pub are : removals before ≡ rs
  pub none : NoneFails (tells (constant_start a.start step) before rest)
  pub buffer : run (constant_start a.start step) before rest ≡ b
  pub all : removed rs + rest ≡ a.total

left_one : (p : Picture) (ps : List Picture) → left (p ∷ []) (left ps 0) ≡ left (p ∷ ps) 0
left_one p ps = omega (arith, left_cons p [] (left ps 0), left_cons p ps 0)

pub one_behind : (a : StreamAccount) (step : ℕ) (before : List Picture) (rs : List Removal) (b : Buffer) (p : Picture) (ps : List Picture) → Behind a step before rs b (left (p ∷ ps) 0) → fails (told b p (left (p ∷ ps) 0)) ≡ false
    → Behind a step (before ++ p ∷ []) (rs ++ removal_of p ∷ []) (next b p (left (p ∷ ps) 0)) (left ps 0)
unfolding run tells
one_behind a step before rs b p ps h fine =
    let start : Buffer = constant_start a.start step in
    let rest : ℕ = left (p ∷ ps) 0 in
    let after : ℕ = left ps 0 in
    let same : left (p ∷ []) after ≡ rest = left_one p ps in
    let here : fails (told (run start before rest) p rest) ≡ false = ap (λ (c : Buffer). fails (told c p rest)) h.buffer ∙ fine in
    let told_is : tells start (before ++ p ∷ []) after ≡ tells start before rest ++ told (run start before rest) p rest ∷ [] =
    tells_append start before (p ∷ []) after ∙ ap (λ (n : ℕ). tells start before n ++ told (run start before n) p n ∷ []) same in
    let run_is : run start (before ++ p ∷ []) after ≡ next (run start before rest) p rest =
    run_append start before (p ∷ []) after ∙ ap (λ (n : ℕ). next (run start before n) p n) same in
    record {
      are = map-append removal_of before (p ∷ []) ∙ ap (λ (l : List Removal). l ++ removal_of p ∷ []) h.are;
      none = subst NoneFails (sym told_is) (none_both (tells start before rest) (told (run start before rest) p rest ∷ []) h.none (here, tt));
      buffer = run_is ∙ ap (λ (c : Buffer). next c p rest) h.buffer;
      all = omega (arith, h.all, left_cons p ps 0, sum_by_push (λ (r : Removal). r.bits) rs (removal_of p));
    }

-- what is held then, by Annex C
held_by_all : (a : StreamAccount) (step : ℕ) (before : List Picture) (rs : List Removal) (b : Buffer) (rest : ℕ) → Behind a step before rs b rest → Held a.start (removed (removals before) + rest) (removals before) ≡ Held a.start a.total rs
held_by_all a step before rs b rest h =
    ap (λ (l : List Removal). Held a.start (removed l + rest) l) h.are ∙ ap (λ (n : ℕ). Held a.start n rs) h.all

pub held_behind : (a : StreamAccount) (step : ℕ) (before : List Picture) (rs : List Removal) (b : Buffer) (p : Picture) (rest : ℕ) → Behind a step before rs b rest → (told b p rest).have ≡ Held a.start a.total rs
unfolding told
held_behind a step before rs b p rest h =
    ap (λ (c : Buffer). (told c p rest).have) (sym h.buffer) ∙ held_is a.start step rest before h.none ∙ held_by_all a step before rs b rest h

agrees_from : (number : ℕ) (rate : Rate) (a : StreamAccount) (step : ℕ) (before : List Picture) (rs : List Removal) (b : Buffer) (ds : List Due) → rate.size ≡ 1800 * a.start.buffer_bits → AreNumbered (length rs) ds
    → Behind a step before rs b (left (pictures ds) 0) → FirstAgree (flat_map (failures_of number rate) (all_told b ds)) (unsafe_from a rs (removals (pictures ds)))
unfolding tells told unsafe_from unsafe_at
agrees_from number rate a step before rs b [] size numbers h = tt
agrees_from number rate a step before rs b (d ∷ ds) size numbers h =
    let p : Picture = picture_of d in
    let rest : ℕ = left (pictures (d ∷ ds)) 0 in
    let t : Removed = told b p rest in
    let held : ℕ = Held a.start a.total rs in
    let held_then : Held a.start (removed (removals before) + rest) (removals before) ≡ held = held_by_all a step before rs b rest h in
    let have : t.have ≡ held = held_behind a step before rs b p rest h in
    let under : (t.is_under ≡ true) ↔ (held < 1800 * d.bits) =
    subst (λ (c : Buffer). ((told c p rest).is_under ≡ true) ↔ (held < 1800 * d.bits)) h.buffer
    (subst (λ (n : ℕ). ((told (run (constant_start a.start step) before rest) p rest).is_under ≡ true) ↔ (n < 1800 * d.bits)) held_then (under_is a.start step rest before p h.none)) in
    let over : (t.is_over ≡ true) ↔ (1800 * a.start.buffer_bits < held) =
    subst (λ (c : Buffer). ((told c p rest).is_over ≡ true) ↔ (1800 * a.start.buffer_bits < held)) h.buffer
    (subst (λ (n : ℕ). ((told (run (constant_start a.start step) before rest) p rest).is_over ≡ true) ↔ (1800 * a.start.buffer_bits < n)) held_then (over_is a.start step rest before p h.none)) in
    one_agrees number rate d t (length rs) held (1800 * d.bits) (1800 * a.start.buffer_bits) (flat_map (failures_of number rate) (all_told (next b p rest) ds)) (unsafe_from a (rs ++ removal_of p ∷ []) (removals (pictures ds)))
    numbers.0 have refl size under over
    (λ fine. agrees_from number rate a step (before ++ p ∷ []) (rs ++ removal_of p ∷ []) (next b p rest) ds size
    (subst (λ (k : ℕ). AreNumbered k ds) (sym (length-append rs (removal_of p ∷ []))) numbers.1)
    (one_behind a step before rs b p (pictures ds) h fine))

-- where the pictures are those of an account, the first failure that is told is the account's first
pub agrees_all : (number : ℕ) (rate : Rate) (a : StreamAccount) (step : ℕ) (ds : List Due) → rate.size ≡ 1800 * a.start.buffer_bits → AreNumbered 0 ds → left (pictures ds) 0 ≡ a.total → removals (pictures ds) ≡ a.removals
    → FirstAgree (flat_map (failures_of number rate) (all_told (constant_start a.start step) ds)) (unsafe_in (Some a))
unfolding run tells
agrees_all number rate a step ds size numbers total are =
    subst (λ (rs : List Removal). FirstAgree (flat_map (failures_of number rate) (all_told (constant_start a.start step) ds)) (unsafe_from a [] rs)) are
    (agrees_from number rate a step [] [] (constant_start a.start step) ds size numbers (record { are = refl; none = tt; buffer = refl; all = omega (arith, total) }))
