-- Several findings that the report tells one after another.
use Rattle.std.specs.Prelude.{ℕ, List, [], ◌∷◌, Option, Some, None}
use Rattle.m2v_model.specs.Lawful.{Breach, Breaches}
use Rattle.m2v_strict.specs.declared.remark.Remark.{Remark}
use Rattle.m2v_strict.specs.Remarks.{Remarks}
use Rattle.m2v_audit.specs.declared.places.Misplaced.{Misplaced}
use Rattle.m2v_audit.specs.declared.report.Broken.{Broken}
use Rattle.m2v_audit.specs.declared.report.Rate.{Rate}
use Rattle.m2v_audit.specs.Account.{Told}
use Rattle.m2v_audit.specs.Report.{Report, with_breach, with_finding, with_removal}

-- ---- breaches

-- a breach that stands at a bit of the input and is told of a picture
abbrev pub broken_at : ℕ → ℕ → Breach → Broken
broken_at picture bit b = record { picture = picture; bit = bit; rule = b.rule; element = None; have = b.have; need = b.need }

-- breaches, in turn
unfoldable pub with_breaches : Report → ℕ → ℕ → Breaches → Report
with_breaches r picture bit [] = r
with_breaches r picture bit (b ∷ bs) = with_breaches (with_breach r (broken_at picture bit b)) picture bit bs

-- ---- what the stricter rules remark

-- of a header that stands at a bit of the input and is told of a picture
abbrev pub remarked_at : ℕ → ℕ → Remark → Broken
remarked_at picture bit m = record {
  picture = picture;
  bit = bit;
  rule = m.rule;
  element = Some m.element;
  have = m.have;
  need = m.need;
}

-- breaches and warnings, in turn
unfoldable pub with_remarks : Report → ℕ → ℕ → Remarks → Report
with_remarks r picture bit [] = r
with_remarks r picture bit (m ∷ ms) = with_remarks (with_finding r (remarked_at picture bit m)) picture bit ms

-- ---- frames that stand at another place than they say (rule 11)

abbrev pub misplaced_at : Misplaced → Broken
misplaced_at m = record { picture = m.number; bit = m.bit; rule = 11; element = None; have = m.have; need = m.need }

-- those that are told, in turn
unfoldable pub with_misplaced : Report → List (Option Misplaced) → Report
with_misplaced r [] = r
with_misplaced r (None ∷ ms) = with_misplaced r ms
with_misplaced r (Some m ∷ ms) = with_misplaced (with_breach r (misplaced_at m)) ms

-- ---- removals, in turn

unfoldable pub with_removals : Report → Rate → List Told → Report
with_removals r rate [] = r
with_removals r rate (t ∷ ts) = with_removals (with_removal r rate t.0 t.1) rate ts
