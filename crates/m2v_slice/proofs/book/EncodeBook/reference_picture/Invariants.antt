use Rattle.std.proofs.Common.{◌≡◌, ◌≤◌}
use Rattle.m2v_slice.specs.Books.{anchors_before, nth}
use Rattle.m2v_slice.proofs.book.EncodeBook.reference_picture.Given as goal

abbrev pub invariant-loop-q : goal.invariant-loop-q
invariant-loop-q l = record {
  low : l.q ≤ l.p;
  same : nth l.n (anchors_before l.self l.lines l.p) ≡ nth l.left (anchors_before l.self l.lines l.q);
}

abbrev pub decreases-loop-q : goal.decreases-loop-q
decreases-loop-q l = l.q
