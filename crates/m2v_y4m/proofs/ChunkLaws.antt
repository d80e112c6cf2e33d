-- What a chunk holds after it read on.
use Rattle.std.proofs.Common.{◌≡◌, ℕ, ◌+◌, ◌≤◌, List, ◌++◌, length, take, drop, ◌∙◌, ap, arith, Option, length-drop}
use Rattle.std.proofs.lemmas.List.{take-append-le, length-take-le}
use Rattle.std.proofs.Math.Seq.{take-add, take-length}
use Rattle.m2v_port.specs.Port.{Moves}
use Rattle.m2v_y4m.specs.Reading.{Refilled}

pub refilled : (held n : ℕ) (bytes rest old : List ℕ) (left left_then : Option (List ℕ)) → held + n ≤ length bytes
    → take held bytes ≡ old → Moves left (take n (drop held bytes)) left_then
    → Refilled n old left (take (held + n) (take (length bytes) (bytes ++ rest))) left_then
refilled held n bytes rest old left left_then fits front moved =
    let fits_then : n ≤ length (drop held bytes) = omega (arith, length-drop held bytes) in
    record {
      bytes = take n (drop held bytes);
      count = length-take-le n (drop held bytes) fits_then;
      moved = moved;
      grown = ap (take (held + n)) (take-append-le (length bytes) bytes rest (omega arith) ∙ take-length bytes) ∙ take-add held n bytes ∙ ap (λ l. l ++ take n (drop held bytes)) front;
    }
