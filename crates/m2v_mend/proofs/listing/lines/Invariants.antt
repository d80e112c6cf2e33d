use Rattle.std.proofs.Common.{◌≡◌, map, take}
use Rattle.m2v_mend.specs.Listing.{lines_of}
use Rattle.m2v_mend.specs.Making.{gap_told}
use Rattle.m2v_mend.proofs.listing.lines.Given as goal

abbrev pub invariant-loop-gap : goal.invariant-loop-gap
invariant-loop-gap l = l.lines.items ≡ lines_of (map gap_told (take l.gap-index l.gaps))
