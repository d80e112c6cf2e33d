-- Lines that come one after another: what they tell, and what is counted of it.
use Rattle.std.proofs.Common.{◌≡◌, ℕ, suc, ◌+◌, ◌-◌, ◌^◌, ◌≤◌, Bool, true, false, List, [], ◌∷◌, ◌++◌, length, refl, sym, ap, subst, ◌∙◌, append_assoc, arith, length-append}
use Rattle.std.specs.Prelude.{nat_eq, not, ◌&&◌, take, if◌then◌else◌}
use Rattle.std.proofs.ByRecursion.{All-append}
use Rattle.std.proofs.lemmas.List.{append-nil}
use Rattle.std.proofs.lemmas.Grind.{flat_map-append}
use Rattle.m2v_audit.specs.declared.records.Finding.{Finding}
use Rattle.m2v_audit.specs.declared.records.FailureRecord.{FailureRecord}
use Rattle.m2v_audit.specs.declared.report.Broken.{Broken}
use Rattle.m2v_audit.specs.declared.tally.Tally.{Tally}
use Rattle.m2v_audit.specs.Report.{Report, with_text, finding_of, with_breach, with_failure}
use Rattle.m2v_law_audit.specs.Parts.{Part, breach, failure, other, text_of, IsLine, IsPart, breaches_in, failures_in, Tells, more_by, Adds}

-- ---- two texts

breaches_both : (ps qs : List Part) → breaches_in (ps ++ qs) ≡ breaches_in ps ++ breaches_in qs
breaches_both [] qs = refl
breaches_both (breach f ∷ ps) qs = ap (λ (l : List Finding). f ∷ l) (breaches_both ps qs)
breaches_both (failure f ∷ ps) qs = breaches_both ps qs
breaches_both (other line ∷ ps) qs = breaches_both ps qs

failures_both : (ps qs : List Part) → failures_in (ps ++ qs) ≡ failures_in ps ++ failures_in qs
failures_both [] qs = refl
failures_both (breach f ∷ ps) qs = failures_both ps qs
failures_both (failure f ∷ ps) qs = ap (λ (l : List FailureRecord). f ∷ l) (failures_both ps qs)
failures_both (other line ∷ ps) qs = failures_both ps qs

pub none_told : Tells [] [] []
none_told = record { parts = []; lines = refl; each = tt; are_breaches = refl; are_failures = refl }

-- a text and another one behind it
pub both_tell : {x y : List ℕ} {bs cs : List Finding} {fs gs : List FailureRecord} → Tells x bs fs → Tells y cs gs → Tells (x ++ y) (bs ++ cs) (fs ++ gs)
both_tell {x} {y} {bs} {cs} {fs} {gs} t u = record {
  parts = t.parts ++ u.parts;
  lines = rw (t.lines, u.lines) (sym (flat_map-append text_of t.parts u.parts));
  each = All-append IsPart t.parts u.parts t.each u.each;
  are_breaches = breaches_both t.parts u.parts ∙ rw (t.are_breaches, u.are_breaches) refl;
  are_failures = failures_both t.parts u.parts ∙ rw (t.are_failures, u.are_failures) refl;
}

-- ---- what is counted

-- a report of the sequence of this number, of which no more was counted than 64 bits can count
pub record IsOf (sequence : ℕ) (r : Report) : Type 0 where
  pub is : r.sequence ≡ sequence
  pub breaches : r.tally.breaches ≤ 2 ^ 64 - 1
  pub failures : r.tally.failures ≤ 2 ^ 64 - 1

pub none_more : (n : ℕ) → n ≤ 2 ^ 64 - 1 → n ≡ more_by n 0
none_more n most = omega (arith, most)

more_within : (n more : ℕ) → more_by n more ≤ 2 ^ 64 - 1
more_within n more = omega arith

-- so many more, and then so many
pub more_on : (n m k : ℕ) → more_by (more_by n m) k ≡ more_by n (m + k)
more_on n m k = omega arith

pub counted_on : {V : Type 0} (a b c : ℕ) (xs ys : List V) → b ≡ more_by a (length xs) → c ≡ more_by b (length ys) → c ≡ more_by a (length (xs ++ ys))
counted_on a b c xs ys e f = f ∙ ap (λ (n : ℕ). more_by n (length ys)) e ∙ more_on a (length xs) (length ys) ∙ ap (more_by a) (sym (length-append xs ys))

-- ---- reports

-- lines came behind lines
pub adds_on : {a b c : Report} {xs ys : List Finding} {fs gs : List FailureRecord} → Adds a b xs fs → Adds b c ys gs → Adds a c (xs ++ ys) (fs ++ gs)
adds_on {a} {b} {c} {xs} {ys} {fs} {gs} h k = record {
  text = h.text ++ k.text;
  grown = k.grown ∙ ap (λ (t : List ℕ). t ++ k.text) h.grown ∙ append_assoc a.text h.text k.text;
  tells = both_tell h.tells k.tells;
  breached = counted_on a.tally.breaches b.tally.breaches c.tally.breaches xs ys h.breached k.breached;
  failed = counted_on a.tally.failures b.tally.failures c.tally.failures fs gs h.failed k.failed;
  sequence = k.sequence ∙ h.sequence;
  pictures = k.pictures ∙ h.pictures;
}

-- breaches, and then failures
pub failures_on : {a b c : Report} {xs : List Finding} {fs : List FailureRecord} → Adds a b xs [] → Adds b c [] fs → Adds a c xs fs
failures_on {a} {b} {c} {xs} {fs} h k = subst (λ (l : List Finding). Adds a c l fs) (append-nil xs) (adds_on h k)

pub of_then : {n : ℕ} {a b : Report} {xs : List Finding} {fs : List FailureRecord} → IsOf n a → Adds a b xs fs → IsOf n b
of_then {n} {a} {b} {xs} {fs} is h = record {
  is = h.sequence ∙ is.is;
  breaches = rw h.breached (more_within a.tally.breaches (length xs));
  failures = rw h.failed (more_within a.tally.failures (length fs));
}

-- by its own number
pub of_own : {n : ℕ} {r : Report} → IsOf n r → IsOf r.sequence r
of_own is = record { is = refl; breaches = is.breaches; failures = is.failures }

-- no line came
pub adds_none : {n : ℕ} (r : Report) → IsOf n r → Adds r r [] []
adds_none r is = record {
  text = [];
  grown = sym (append-nil r.text);
  tells = none_told;
  breached = none_more r.tally.breaches is.breaches;
  failed = none_more r.tally.failures is.failures;
  sequence = refl;
  pictures = refl;
}

-- other things may be counted then
pub adds_counted : {a b : Report} {xs : List Finding} {fs : List FailureRecord} (t : Tally) → Adds a b xs fs → t.breaches ≡ b.tally.breaches → t.failures ≡ b.tally.failures
    → Adds a (record b { tally = t }) xs fs
adds_counted t h e f = record {
  text = h.text;
  grown = h.grown;
  tells = h.tells;
  breached = e ∙ h.breached;
  failed = f ∙ h.failed;
  sequence = h.sequence;
  pictures = h.pictures;
}

-- a text of no lines came
pub empty_adds : {n : ℕ} (r : Report) → IsOf n r → Adds r (with_text r []) [] []
empty_adds r is = record {
  text = [];
  grown = refl;
  tells = none_told;
  breached = none_more r.tally.breaches is.breaches;
  failed = none_more r.tally.failures is.failures;
  sequence = refl;
  pictures = refl;
}

-- ---- one line

one_told : (p : Part) → IsPart p → Tells (text_of p) (breaches_in (p ∷ [])) (failures_in (p ∷ []))
one_told p is = record { parts = p ∷ []; lines = sym (append-nil (text_of p)); each = (is, tt); are_breaches = refl; are_failures = refl }

abbrev pub first_letter : List ℕ → ℕ
first_letter [] = 0
first_letter (c ∷ cs) = c

taken : (n : ℕ) (line : List ℕ) → first_letter (take (suc n) line) ≡ first_letter line
taken n [] = refl
taken n (c ∷ cs) = refl

-- neither `b` nor `f`
abbrev pub is_another : ℕ → Bool
is_another c = not (nat_eq c 98) && not (nat_eq c 102)

is_other : (line : List ℕ) → is_another (first_letter line) ≡ true → IsLine line → IsPart (other line)
is_other line e is = (
  is,
  λ breach.
      let b : first_letter line ≡ 98 = sym (taken 6 line) ∙ ap first_letter breach in
      let same : false ≡ true = ap is_another (sym b) ∙ e in absurd cc,
  λ failure.
      let f : first_letter line ≡ 102 = sym (taken 7 line) ∙ ap first_letter failure in
      let same : false ≡ true = ap is_another (sym f) ∙ e in absurd cc,
)

-- a line that tells neither a breach nor a failure
pub line_adds : {n : ℕ} (r : Report) (line : List ℕ) → IsOf n r → is_another (first_letter line) ≡ true → IsLine line → Adds r (with_text r line) [] []
line_adds r line of is one = record {
  text = line;
  grown = refl;
  tells = one_told (other line) (is_other line is one);
  breached = none_more r.tally.breaches of.breaches;
  failed = none_more r.tally.failures of.failures;
  sequence = refl;
  pictures = refl;
}

-- the same where there is one
pub maybe_adds : {n : ℕ} (b : Bool) (r : Report) (line : List ℕ) → IsOf n r → is_another (first_letter line) ≡ true → IsLine line → Adds r (if b then with_text r line else r) [] []
maybe_adds true r line of is one = line_adds r line of is one
maybe_adds false r line of is one = adds_none r of

pub breach_adds : {n : ℕ} (r : Report) (b : Broken) → IsOf n r → Adds r (with_breach r b) (finding_of n b ∷ []) []
breach_adds {n} r b of = subst (λ (k : ℕ). Adds r (with_breach r b) (finding_of k b ∷ []) []) of.is (record {
  text = text_of (breach (finding_of r.sequence b));
  grown = refl;
  tells = one_told (breach (finding_of r.sequence b)) tt;
  breached = refl;
  failed = none_more r.tally.failures of.failures;
  sequence = refl;
  pictures = refl;
})

pub failure_adds : {n : ℕ} (r : Report) (f : FailureRecord) → IsOf n r → Adds r (with_failure r f) [] (f ∷ [])
failure_adds r f of = record {
  text = text_of (failure f);
  grown = refl;
  tells = one_told (failure f) tt;
  breached = none_more r.tally.breaches of.breaches;
  failed = refl;
  sequence = refl;
  pictures = refl;
}
