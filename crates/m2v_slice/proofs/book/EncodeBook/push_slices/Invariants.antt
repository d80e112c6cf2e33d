use Rattle.std.proofs.Common.{◌≡◌, ◌++◌, map}
use Rattle.std.specs.List.{range_with_len}
use Rattle.m2v_slice.specs.Books.{slice_job}
use Rattle.m2v_slice.proofs.book.EncodeBook.push_slices.Given as goal

abbrev pub invariant-loop-i : goal.invariant-loop-i
invariant-loop-i l = l.out ≡ l.initial.out ++ map (slice_job l.self l.p) (range_with_len l.from l.i)
