-- What a text tells line by line: it is cut behind each newline, and the kind of a line is the word with which it begins.
use Rattle.std.specs.Prelude.{◌≡◌, ℕ, Bool, true, false, ◌&&◌, nat_eq, if◌then◌else◌, List, [], ◌∷◌, map, codes}
use Rattle.std.specs.List.{filter}
use Rattle.m2v_audit.specs.declared.records.Finding.{Finding}
use Rattle.m2v_audit.specs.declared.records.FailureRecord.{FailureRecord}
use Rattle.m2v_audit.specs.Lines.{breach_line, failure_line}

-- a byte before lines: it begins the first of them
abbrev pub before_lines : ℕ → List (List ℕ) → List (List ℕ)
before_lines c [] = (c ∷ []) ∷ []
before_lines c (l ∷ ls) = (c ∷ l) ∷ ls

-- a text cut behind each newline
abbrev pub lines_of : List ℕ → List (List ℕ)
lines_of [] = []
lines_of (c ∷ cs) = if nat_eq c 10 then (c ∷ []) ∷ lines_of cs else before_lines c (lines_of cs)

-- a line begins with these bytes
abbrev pub begins : List ℕ → List ℕ → Bool
begins [] line = true
begins (k ∷ ks) [] = false
begins (k ∷ ks) (c ∷ cs) = nat_eq k c && begins ks cs

-- the lines of a text that begin so
abbrev pub lines_with : List ℕ → List ℕ → List (List ℕ)
lines_with word text = filter (begins word) (lines_of text)

-- those lines of a text that tell a breach tell these, in turn, and those that tell a failure these
pub record TellsByLines (text : List ℕ) (breaches : List Finding) (failures : List FailureRecord) : Type 0 where
  pub breaches_are : lines_with (codes "breach\t") text ≡ map breach_line breaches
  pub failures_are : lines_with (codes "failure\t") text ≡ map failure_line failures
