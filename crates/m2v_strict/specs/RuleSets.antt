-- The sets of rules of discs and of broadcasts.
use Rattle.std.specs.Prelude.{ℕ, List, codes}
use Rattle.m2v_strict.specs.declared.rule_set.RuleSet.{RuleSet}
use Rattle.m2v_strict.specs.declared.rule_set.RuleSet.TheVariants as sets

-- the name of a set
unfoldable pub name_of : RuleSet → List ℕ
name_of sets.Main = codes "main"
name_of sets.Dvd = codes "dvd"
name_of sets.Dvb = codes "dvb"
name_of sets.Atsc = codes "atsc"
