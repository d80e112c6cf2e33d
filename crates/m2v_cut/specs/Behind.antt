-- The pieces behind a group's first one: the second of its first frame, which may have been read before, and the others.
use Rattle.std.specs.Prelude.{◌≡◌, ℕ, ◌+◌, ◌≤◌, List, [], ◌∷◌, ◌++◌, Option, Some, None}
use Rattle.m2v_port.specs.Ends.{Change}
use Rattle.m2v_port.specs.Port.{Grows, GrowsByPrefix}
use Rattle.m2v_decode.specs.m2v_dec_piece.declared.answer.DecodeError.{DecodeError}
use Rattle.m2v_decode.specs.m2v_dec_piece.declared.answer.DecodeError.TheVariants as reading
use Rattle.m2v_decode.specs.m2v_dec_piece.Cutting.{Cutting, PieceStops, left_of, start_of as start_of_rest}
use Rattle.m2v_cut.specs.declared.answer.CutError.{CutError}
use Rattle.m2v_cut.specs.declared.answer.CutError.TheVariants as errors
use Rattle.m2v_cut.specs.declared.copy.Copied.{Copied}
use Rattle.m2v_cut.specs.Progress.{Onward, ReadOn, PutEnds, all_bytes, all_groups, all_lengths}

-- they were written up to the one that holds the header of the group behind the cut; some of them had been read before
pub record BehindPut (before : List (List ℕ)) (most : ℕ) (old new : Copied) (left held : Change) (c c' : Cutting) : Type 0 where
  pub read : List (List ℕ)
  pub mids : List (List ℕ)
  pub last : List (List ℕ)
  pub are : before ++ read ≡ mids ++ last
  pub onward : Onward left.old left.new c c' read
  pub grown : Grows held.old (all_bytes mids) held.new
  pub bytes : new.bytes ≡ old.bytes + all_lengths mids
  pub ends : PutEnds last most (old.groups + all_groups mids) new.groups (left_of c') left.new

-- of pieces that were read only a prefix was written
pub record BehindCut (before : List (List ℕ)) (most groups : ℕ) (left held : Change) (c : Cutting) : Type 0 where
  pub read : List (List ℕ)
  pub few : groups + all_groups (before ++ read) ≤ most
  pub on : ReadOn left.old left.new c read
  pub grown : GrowsByPrefix held.old (all_bytes (before ++ read)) held.new

-- a limit is passed behind pieces that were written
pub record BehindStops (before : List (List ℕ)) (most groups : ℕ) (left held : Change) (c : Cutting) (e : DecodeError) : Type 0 where
  pub read : List (List ℕ)
  pub few : groups + all_groups (before ++ read) ≤ most
  pub on : ReadOn left.old left.new c read
  pub grown : Grows held.old (all_bytes (before ++ read)) held.new
  pub over : (rest : List ℕ) → left.new ≡ Some rest → PieceStops (start_of_rest on.then_is (on.bytes ++ rest)) (left_of on.then_is (on.bytes ++ rest)) e

-- why they weren't written
abbrev pub BehindFails : List (List ℕ) → ℕ → ℕ → Change → Change → Cutting → CutError → Type 0
BehindFails before most groups left held c errors.Read = left.Failed × BehindCut before most groups left held c
BehindFails before most groups left held c errors.Write = held.Failed × BehindCut before most groups left held c
BehindFails before most groups left held c (errors.NoGroup have need) = ⊥
BehindFails before most groups left held c (errors.NotCuttable place) = ⊥
BehindFails before most groups left held c errors.TooLong = BehindStops before most groups left held c reading.TooLong
BehindFails before most groups left held c errors.PictureTooLarge = BehindStops before most groups left held c reading.PictureTooLarge
BehindFails before most groups left held c errors.Memory = BehindCut before most groups left held c
