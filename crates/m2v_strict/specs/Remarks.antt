-- What a rule remarks of a header: the words in which the rules are written.
use Rattle.std.specs.Prelude.{ℕ, Bool, ◌&&◌, ◌||◌, nat_eq, nat_le, if◌then◌else◌, List, [], ◌∷◌, ◌++◌, Option, Some, None}
use Rattle.m2v_model.specs.Bounds.{told_unless, told_above, told_outside}
use Rattle.m2v_strict.specs.declared.element.Element.{Element}
use Rattle.m2v_strict.specs.declared.remark.Remark.{Remark}

abbrev pub Remarks : Type 0
Remarks = List Remark

abbrev pub remark : ℕ → Element → ℕ → ℕ → Remark
remark rule element have need = record { rule = rule; element = element; have = have; need = need }

-- the numbers of warnings; others are those of rules
abbrev pub lies : ℕ → ℕ → ℕ → Bool
lies low high n = nat_le low n && nat_le n high

abbrev pub is_warning : ℕ → Bool
is_warning rule = lies 50 59 rule || (lies 66 71 rule || (lies 83 85 rule || nat_eq rule 95))

-- a rule that holds, or what it remarks
abbrev pub judge : Bool → Remark → Remarks
judge holds r = told_unless holds r

-- a rule that is looked at in some headers alone
abbrev pub looked_at : Bool → Remarks → Remarks
looked_at looked rs = if looked then rs else []

-- what is there is what is needed, or at most that
abbrev pub equal : ℕ → Element → ℕ → ℕ → Remarks
equal rule element have need = judge (nat_eq have need) (remark rule element have need)

abbrev pub at_most : ℕ → Element → ℕ → ℕ → Remarks
at_most rule element have need = told_above (remark rule element) have need

-- from one bound to another: the nearer bound is needed
abbrev pub within : ℕ → Element → ℕ → ℕ → ℕ → Remarks
within rule element have low high = told_outside (remark rule element) have low high

-- a flag counts as 0 or 1
abbrev pub number_of : Bool → ℕ
number_of flag = if flag then 1 else 0

-- a flag is 0, or what another flag is
abbrev pub unset : ℕ → Element → Bool → Remarks
unset rule element flag = equal rule element (number_of flag) 0

abbrev pub same : ℕ → Element → Bool → Bool → Remarks
same rule element have need = equal rule element (number_of have) (number_of need)

-- what is remarked at one place where a rule is looked at, and at several in turn
abbrev pub told_at : Option Remark → Remarks
told_at None = []
told_at (Some r) = r ∷ []

abbrev pub told_by : List (Option Remark) → Remarks
told_by [] = []
told_by (o ∷ os) = told_at o ++ told_by os
