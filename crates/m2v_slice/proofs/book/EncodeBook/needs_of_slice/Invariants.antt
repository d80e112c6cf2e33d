use Rattle.std.proofs.Common.{◌≡◌, ◌∷◌, map, take}
use Rattle.std.specs.List.{flat_map}
use Rattle.m2v_slice.specs.Books.{plan_job, slice_job, near_rows}
use Rattle.m2v_slice.proofs.book.EncodeBook.needs_of_slice.Given as goal

abbrev pub invariant-loop-i : goal.invariant-loop-i
invariant-loop-i l = l.out ≡ plan_job l.self l.p ∷ flat_map (λ k. map (slice_job l.self k) (near_rows l.self l.r)) (take l.i l.pictures)
