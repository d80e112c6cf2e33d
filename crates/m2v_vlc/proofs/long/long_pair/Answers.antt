use Rattle.std.proofs.Common.{inl, inr}
use Rattle.std.proofs.lemmas.Bool.{cases_Bool}
use Rattle.m2v_vlc.proofs.Coefficients.{zero_pointed, one_pointed}
use Rattle.m2v_vlc.proofs.Shorts.{zero_entries, one_entries}
use Rattle.m2v_vlc.proofs.Longs.{long_stands}
use Rattle.m2v_vlc.proofs.long.long_pair.Goals as goal

pub returns : goal.returns
returns c = record {
  stands = λ run. elim (cases_Bool c.args.one) [
    | inl one ↦ let far = rw (c.by_table.ensures.yes one) at c.long_at.ensures.far in rw one (long_stands one_pointed c.args.seventeen c.long_at.result.now one_entries c.requires far c.long_at.ensures.near run)
    | inr zero ↦ let far = rw (c.by_table.ensures.no zero) at c.long_at.ensures.far in rw zero (long_stands zero_pointed c.args.seventeen c.long_at.result.now zero_entries c.requires far c.long_at.ensures.near run)
  ];
}
