-- What a verifier numbers of the flat stream: its pictures, and the frames of its one group.
use Rattle.std.specs.Prelude.{ℕ, ◌+◌, false, List, [], ◌∷◌}
use Rattle.m2v_flat.specs.declared.settings.FlatSettings.{FlatSettings}
use Rattle.m2v_flat.specs.Tree.{sequence_of}
use Rattle.m2v_flat.specs.Told.{decoded}
use Rattle.m2v_model.specs.Lawful.{Numbered}

-- such a picture among the others: no group header stands before it, and its frame has its number
abbrev pub counted : FlatSettings → ℕ → List ℕ → Numbered
counted s number raw = record {
  number = number;
  sequence = sequence_of s;
  group = 0;
  first_in_group = false;
  frame = number;
  picture = decoded s number raw;
}

unfoldable pub counted_from : FlatSettings → ℕ → List (List ℕ) → List Numbered
counted_from s number [] = []
counted_from s number (raw ∷ frames) = counted s number raw ∷ counted_from s (number + 1) frames

-- the frames of I pictures, by number from one on, with their type
unfoldable pub intra_from : ℕ → List (List ℕ) → List (ℕ × ℕ)
intra_from number [] = []
intra_from number (raw ∷ frames) = (number, 1) ∷ intra_from (number + 1) frames
