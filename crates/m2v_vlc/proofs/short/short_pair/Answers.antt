use Rattle.std.proofs.Common.{inl, inr}
use Rattle.std.proofs.lemmas.Bool.{cases_Bool}
use Rattle.m2v_vlc.proofs.Coefficients.{zero_pointed, one_pointed}
use Rattle.m2v_vlc.proofs.Shorts.{stands, ends, zero_entries, one_entries}
use Rattle.m2v_vlc.proofs.short.short_pair.Goals as goal

pub returns-clause-stands : goal.returns-clause-stands
returns-clause-stands c = λ run. elim (cases_Bool c.args.one) [
  | inl one ↦ let at = rw (c.by_table.ensures.yes one) at c.entry_at.ensures in rw one (stands one_pointed c.args.nine c.requires one_entries c.entry_at.result.now at run)
  | inr zero ↦ let at = rw (c.by_table.ensures.no zero) at c.entry_at.ensures in rw zero (stands zero_pointed c.args.nine c.requires zero_entries c.entry_at.result.now at run)
]

pub returns-clause-ends : goal.returns-clause-ends
returns-clause-ends c = λ run. elim (cases_Bool c.args.one) [
  | inl one ↦ let at = rw (c.by_table.ensures.yes one) at c.entry_at.ensures in rw one (ends one_pointed c.args.nine c.requires one_entries c.entry_at.result.now at run)
  | inr zero ↦ let at = rw (c.by_table.ensures.no zero) at c.entry_at.ensures in rw zero (ends zero_pointed c.args.nine c.requires zero_entries c.entry_at.result.now at run)
]
