-- A text of parts, line by line.
use Rattle.std.proofs.Common.{◌≡◌, inl, inr, ℕ, Bool, true, false, List, [], ◌∷◌, ◌++◌, map, length, refl, sym, ap, ◌∙◌, append_assoc}
use Rattle.std.specs.Prelude.{nat_eq, codes, take, if◌then◌else◌}
use Rattle.std.specs.List.{flat_map, filter, list_all, AllByRecursion}
use Rattle.std.proofs.lemmas.Bool.{cases_Bool, and_parts, eqb-true, not-true}
use Rattle.m2v_audit.specs.declared.records.Finding.{Finding}
use Rattle.m2v_audit.specs.declared.records.FailureRecord.{FailureRecord}
use Rattle.m2v_audit.specs.Lines.{breach_line, failure_line}
use Rattle.m2v_law_audit.specs.Parts.{Part, breach, failure, other, text_of, is_within, IsLine, IsPart, breaches_in, failures_in, Tells}
use Rattle.m2v_law_audit.specs.ByLines.{before_lines, lines_of, begins, TellsByLines}
use Rattle.m2v_law_audit.proofs.PartsLines.{breach_is, failure_is}

-- ---- a line, and what follows it

front_cut : (front rest : List ℕ) → list_all is_within front ≡ true → lines_of (front ++ (10 ∷ rest)) ≡ (front ++ (10 ∷ [])) ∷ lines_of rest
front_cut [] rest e = refl
front_cut (c ∷ front) rest e =
    let both = and_parts (is_within c) (list_all is_within front) e in
    let tail = front ++ (10 ∷ rest) in
    ap (λ (b : Bool). if b then (c ∷ []) ∷ lines_of tail else before_lines c (lines_of tail)) (not-true (nat_eq c 10) both.0)
    ∙ ap (before_lines c) (front_cut front rest both.1)

line_cut : (line rest : List ℕ) → IsLine line → lines_of (line ++ rest) ≡ line ∷ lines_of rest
line_cut line rest is =
    ap (λ (l : List ℕ). lines_of (l ++ rest)) is.whole
    ∙ ap lines_of (append_assoc is.front (codes "\n") rest)
    ∙ front_cut is.front rest is.within
    ∙ ap (λ (l : List ℕ). l ∷ lines_of rest) (sym is.whole)

-- ---- parts

one_line : (p : Part) → IsPart p → IsLine (text_of p)
one_line (breach f) is = breach_is f
one_line (failure f) is = failure_is f
one_line (other line) is = is.0

parts_cut : (ps : List Part) → AllByRecursion IsPart ps → lines_of (flat_map text_of ps) ≡ map text_of ps
parts_cut [] all = refl
parts_cut (p ∷ ps) all =
    line_cut (text_of p) (flat_map text_of ps) (one_line p all.0)
    ∙ ap (λ (ls : List (List ℕ)). text_of p ∷ ls) (parts_cut ps all.1)

-- what begins with bytes has them at its front
front_is : (word line : List ℕ) → begins word line ≡ true → take (length word) line ≡ word
front_is [] line e = refl
front_is (k ∷ ks) [] e = absurd cc
front_is (k ∷ ks) (c ∷ cs) e =
    let both = and_parts (nat_eq k c) (begins ks cs) e in
    ap (λ (x : ℕ). x ∷ take (length ks) cs) (sym (eqb-true k c both.0)) ∙ ap (λ (l : List ℕ). k ∷ l) (front_is ks cs both.1)

other_begins : (word line : List ℕ) → (take (length word) line ≡ word → ⊥) → begins word line ≡ false
other_begins word line off = elim (cases_Bool (begins word line)) [ inl e ↦ absurd (off (front_is word line e)) | inr e ↦ e ]

kept : (b : Bool) (line : List ℕ) (ls ms : List (List ℕ)) → b ≡ true → ls ≡ ms → (if b then line ∷ ls else ls) ≡ line ∷ ms
kept true line ls ms e f = ap (λ (l : List (List ℕ)). line ∷ l) f
kept false line ls ms e f = absurd cc

left_out : (b : Bool) (line : List ℕ) (ls ms : List (List ℕ)) → b ≡ false → ls ≡ ms → (if b then line ∷ ls else ls) ≡ ms
left_out true line ls ms e f = absurd cc
left_out false line ls ms e f = f

breaches_kept : (ps : List Part) → AllByRecursion IsPart ps → filter (begins (codes "breach\t")) (map text_of ps) ≡ map breach_line (breaches_in ps)
breaches_kept [] all = refl
breaches_kept (breach f ∷ ps) all = kept (begins (codes "breach\t") (breach_line f)) (breach_line f) _ _ refl (breaches_kept ps all.1)
breaches_kept (failure f ∷ ps) all = left_out (begins (codes "breach\t") (failure_line f)) (failure_line f) _ _ refl (breaches_kept ps all.1)
breaches_kept (other line ∷ ps) all = left_out (begins (codes "breach\t") line) line _ _ (other_begins (codes "breach\t") line all.0.1) (breaches_kept ps all.1)

failures_kept : (ps : List Part) → AllByRecursion IsPart ps → filter (begins (codes "failure\t")) (map text_of ps) ≡ map failure_line (failures_in ps)
failures_kept [] all = refl
failures_kept (breach f ∷ ps) all = left_out (begins (codes "failure\t") (breach_line f)) (breach_line f) _ _ refl (failures_kept ps all.1)
failures_kept (failure f ∷ ps) all = kept (begins (codes "failure\t") (failure_line f)) (failure_line f) _ _ refl (failures_kept ps all.1)
failures_kept (other line ∷ ps) all = left_out (begins (codes "failure\t") line) line _ _ (other_begins (codes "failure\t") line all.0.2) (failures_kept ps all.1)

pub by_lines : (text : List ℕ) (bs : List Finding) (fs : List FailureRecord) → Tells text bs fs → TellsByLines text bs fs
by_lines text bs fs t =
    let cut : lines_of text ≡ map text_of t.parts = ap lines_of t.lines ∙ parts_cut t.parts t.each in
    record {
      breaches_are = ap (filter (begins (codes "breach\t"))) cut ∙ breaches_kept t.parts t.each ∙ ap (map breach_line) t.are_breaches;
      failures_are = ap (filter (begins (codes "failure\t"))) cut ∙ failures_kept t.parts t.each ∙ ap (map failure_line) t.are_failures;
    }
