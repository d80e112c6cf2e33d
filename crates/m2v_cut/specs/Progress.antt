-- Cutting under way: the pieces that were read, and what was written of them.
use Rattle.std.specs.Prelude.{◌≡◌, ℕ, ◌+◌, ◌-◌, ◌<◌, ◌≤◌, Bool, true, false, List, [], ◌∷◌, ◌++◌, length, take, drop, slice_index, Option, Some, None, if◌then◌else◌}
use Rattle.m2v_port.specs.Ends.{Change}
use Rattle.m2v_port.specs.Port.{Moves, Grows, GrowsByPrefix}
use Rattle.m2v_model.specs.Units.{joined}
use Rattle.m2v_model.specs.Pieces.{pieces, most_input}
use Rattle.m2v_model.specs.ByPieces.{end_of}
use Rattle.m2v_decode.specs.m2v_dec_piece.declared.answer.DecodeError.{DecodeError}
use Rattle.m2v_decode.specs.m2v_dec_piece.declared.answer.DecodeError.TheVariants as reading
use Rattle.m2v_decode.specs.m2v_dec_piece.Cutting.{Cutting, PieceStops, left_of, start_of as start_of_rest}
use Rattle.m2v_decode.specs.m2v_dec_piece.Sound.{IsSoundPiece}
use Rattle.m2v_decode.specs.m2v_dec_piece.Stepping.{Keeps}
use Rattle.m2v_decode.specs.Decoding.{whole_of}
use Rattle.m2v_decode.specs.Answers.{OfText, OfTaken, AllFit, start_of}
use Rattle.m2v_law_group.specs.Groups.{groups_in, with_broken_link}
use Rattle.m2v_cut.specs.declared.answer.CutError.{CutError}
use Rattle.m2v_cut.specs.declared.answer.CutError.TheVariants as errors
use Rattle.m2v_cut.specs.declared.find.Found.{Found}
use Rattle.m2v_cut.specs.declared.copy.Copied.{Copied}
use Rattle.m2v_cut.specs.Answers.{groups_of, units_of}

-- ---- what is written

-- why bytes weren't written whole: output failed or memory ran out, and a prefix of them stands
abbrev pub Cuts : List ℕ → Change → CutError → Type 0
Cuts bytes held errors.Read = ⊥
Cuts bytes held errors.Write = held.Failed × GrowsByPrefix held.old bytes held.new
Cuts bytes held (errors.NoGroup have need) = ⊥
Cuts bytes held (errors.NotCuttable place) = ⊥
Cuts bytes held errors.TooLong = ⊥
Cuts bytes held errors.PictureTooLarge = ⊥
Cuts bytes held errors.Memory = GrowsByPrefix held.old bytes held.new

-- the bytes from one place up to another
abbrev pub part : ℕ → ℕ → List ℕ → List ℕ
part from to bytes = take (to - from) (drop from bytes)

-- a piece from its last sequence header on, with a broken link in its group header where pictures stand before it
abbrev pub head_of : List ℕ → ℕ → ℕ → Bool → List ℕ
head_of whole sequence header behind =
    if behind then part sequence (header + 7) whole ++ with_broken_link (slice_index whole (header + 7)) ∷ drop (header + 8) whole
    else drop sequence whole

-- a piece without the sequence end code
abbrev pub bytes_of : List ℕ → List ℕ
bytes_of piece = take (length (joined (units_of piece))) piece

abbrev pub all_bytes : List (List ℕ) → List ℕ
all_bytes [] = []
all_bytes (p ∷ ps) = bytes_of p ++ all_bytes ps

-- how many group headers pieces have
abbrev pub all_groups : List (List ℕ) → ℕ
all_groups [] = 0
all_groups (p ∷ ps) = groups_of p + all_groups ps

-- ---- what was read

-- the first pieces of a text, which lie in its first bytes and pass no limit
pub record Reached (taken : ℕ) (text : List ℕ) (start : ℕ) (others first : List (List ℕ)) : Type 0 where
  pub are : pieces text ≡ first ++ others
  pub fit : AllFit (start_of text) first
  pub place : start ≡ end_of (start_of text) first
  pub within : 0 < length first → start ≤ taken

-- a cutter handed these pieces out
pub record Progress (left : Change) (c : Cutting) (first : List (List ℕ)) : Type 0 where
  pub bytes : List ℕ
  pub moved : Moves left.old bytes left.new
  pub taken : (rest : List ℕ) → left.new ≡ Some rest → c.place + length c.unread ≤ length bytes
  pub told : (rest : List ℕ) → left.new ≡ Some rest → Reached (length bytes) (bytes ++ rest) (start_of_rest c rest) (left_of c rest) first

-- some pieces are there
abbrev pub are_some : List (List ℕ) → Bool
are_some [] = false
are_some (p ∷ ps) = true

-- a piece holds the header of a group, behind these
pub record HasGroup (from : ℕ) (f : Found) : Type 0 where
  pub first : List (List ℕ)
  pub few : all_groups first ≤ from
  pub number : f.number ≡ from - all_groups first
  pub here : f.number < groups_of (whole_of f.piece)
  pub behind : f.behind ≡ are_some first

-- the piece that holds the header of a group was read
pub record IsFound (from : ℕ) (left : Change) (c : Cutting) (f : Found) : Type 0 where
  pub group : HasGroup from f
  pub open group use *
  pub sound : IsSoundPiece f.piece
  pub progress : Progress left c (first ++ whole_of f.piece ∷ [])
  pub place : c.place ≡ f.piece.place + f.piece.length
  pub most : c.place ≤ most_input
  pub going : c.failed ≡ false
  pub begun : c.begun ≡ true

-- the pieces that were read pass no limit, and the next one does, or the bytes before the first one
pub record Stops (text : List ℕ) (first : List (List ℕ)) (e : DecodeError) : Type 0 where
  pub others : List (List ℕ)
  pub are : pieces text ≡ first ++ others
  pub fit : AllFit (start_of text) first
  pub over : PieceStops (end_of (start_of text) first) others e

-- no group has the number, and no piece passes a limit
pub record HasFew (from have need : ℕ) (text : List ℕ) : Type 0 where
  pub have_is : have ≡ all_groups (pieces text)
  pub need_is : need ≡ from + 1
  pub few : have ≤ from
  pub start : start_of text ≤ most_input
  pub fit : AllFit (start_of text) (pieces text)

-- a limit is passed before a piece holds the header of a group
pub record StopsBefore (from : ℕ) (text : List ℕ) (e : DecodeError) : Type 0 where
  pub first : List (List ℕ)
  pub few : all_groups first ≤ from
  pub stops : Stops text first e

-- a cutter's error
abbrev pub reading_error : DecodeError → CutError
reading_error reading.Read = errors.Read
reading_error reading.Write = errors.Write
reading_error (reading.Stream f) = errors.Memory
reading_error reading.TooLong = errors.TooLong
reading_error reading.PictureTooLarge = errors.PictureTooLarge
reading_error reading.Memory = errors.Memory

-- why the header of a group wasn't found
abbrev pub FindFails : ℕ → Change → CutError → Type 0
FindFails from left errors.Read = left.Failed × OfTaken left (λ bytes text. Unit {0})
FindFails from left errors.Write = ⊥
FindFails from left (errors.NoGroup have need) = OfText left (HasFew from have need)
FindFails from left (errors.NotCuttable place) = ⊥
FindFails from left errors.TooLong = OfText left (λ text. StopsBefore from text reading.TooLong)
FindFails from left errors.PictureTooLarge = OfText left (λ text. StopsBefore from text reading.PictureTooLarge)
FindFails from left errors.Memory = OfTaken left (λ bytes text. Unit {0})

-- ---- what is copied

-- A piece was written behind others that have so many groups, unless it holds the header of the group behind the cut.
abbrev pub HasPut : Bool → List ℕ → ℕ → Copied → Copied → Change → Type 0
HasPut true whole most old new held =
    (new ≡ record { groups = old.groups + groups_of whole; bytes = old.bytes + length (joined (units_of whole)) }) × (new.groups ≤ most) × Grows held.old (bytes_of whole) held.new
HasPut false whole most old new held = (new ≡ old) × (most < old.groups + groups_of whole) × (held.new ≡ held.old)

-- how many bytes of pieces are copied
abbrev pub all_lengths : List (List ℕ) → ℕ
all_lengths [] = 0
all_lengths (p ∷ ps) = length (joined (units_of p)) + all_lengths ps

-- pieces that lead from one place to another pass no limit
pub record Led (start : ℕ) (pieces read : List (List ℕ)) (end : ℕ) (others : List (List ℕ)) : Type 0 where
  pub are : pieces ≡ read ++ others
  pub fit : AllFit start read
  pub place : end ≡ end_of start read

-- a cutter handed these pieces out, from one state on
pub record Onward (old new : Option (List ℕ)) (c c' : Cutting) (read : List (List ℕ)) : Type 0 where
  pub bytes : List ℕ
  pub moved : Moves old bytes new
  pub keeps : Keeps c old c' new
  pub told : (rest : List ℕ) → new ≡ Some rest → Led (start_of_rest c (bytes ++ rest)) (left_of c (bytes ++ rest)) read (start_of_rest c' rest) (left_of c' rest)
  pub at : (rest : List ℕ) → new ≡ Some rest → start_of_rest c' rest ≡ c'.place

-- why the pieces of a cut end
abbrev pub PutEnds : List (List ℕ) → ℕ → ℕ → ℕ → (List ℕ → List (List ℕ)) → Option (List ℕ) → Type 0
-- none is left
PutEnds [] most groups chosen others new = (groups ≤ most) × (chosen ≡ groups) × ((rest : List ℕ) → new ≡ Some rest → others rest ≡ [])
-- the next one holds the header of the group behind the cut
PutEnds (q ∷ qs) most groups chosen others new = (qs ≡ []) × (groups ≤ most) × (most < groups + groups_of q) × (chosen ≡ most)

-- the pieces that were left of a cut were written
pub record RestPut (most : ℕ) (old new : Copied) (left held : Change) (c c' : Cutting) : Type 0 where
  pub mids : List (List ℕ)
  pub last : List (List ℕ)
  pub onward : Onward left.old left.new c c' (mids ++ last)
  pub grown : Grows held.old (all_bytes mids) held.new
  pub bytes : new.bytes ≡ old.bytes + all_lengths mids
  pub ends : PutEnds last most (old.groups + all_groups mids) new.groups (left_of c') left.new

-- these were read, and then bytes of which nothing came
pub record ReadOn (old new : Option (List ℕ)) (c : Cutting) (read : List (List ℕ)) : Type 0 where
  pub between : Option (List ℕ)
  pub then_is : Cutting
  pub onward : Onward old between c then_is read
  pub bytes : List ℕ
  pub moved : Moves between bytes new

-- the source failed or memory ran out behind pieces that were written
pub record RestRead (most groups : ℕ) (left held : Change) (c : Cutting) : Type 0 where
  pub mids : List (List ℕ)
  pub few : groups + all_groups mids ≤ most
  pub read : ReadOn left.old left.new c mids
  pub grown : Grows held.old (all_bytes mids) held.new

-- of pieces that were read only a prefix was written
pub record RestCut (most groups : ℕ) (left held : Change) (c : Cutting) : Type 0 where
  pub mids : List (List ℕ)
  pub few : groups + all_groups mids ≤ most
  pub read : ReadOn left.old left.new c mids
  pub grown : GrowsByPrefix held.old (all_bytes mids) held.new

-- a limit is passed behind pieces that were written
pub record RestStops (most groups : ℕ) (left held : Change) (c : Cutting) (e : DecodeError) : Type 0 where
  pub mids : List (List ℕ)
  pub few : groups + all_groups mids ≤ most
  pub read : ReadOn left.old left.new c mids
  pub grown : Grows held.old (all_bytes mids) held.new
  pub over : (rest : List ℕ) → left.new ≡ Some rest → PieceStops (start_of_rest read.then_is (read.bytes ++ rest)) (left_of read.then_is (read.bytes ++ rest)) e

-- why the rest of a cut wasn't written
abbrev pub RestFails : ℕ → ℕ → Change → Change → Cutting → CutError → Type 0
RestFails most groups left held c errors.Read = left.Failed × RestRead most groups left held c
RestFails most groups left held c errors.Write = held.Failed × RestCut most groups left held c
RestFails most groups left held c (errors.NoGroup have need) = ⊥
RestFails most groups left held c (errors.NotCuttable place) = ⊥
RestFails most groups left held c errors.TooLong = RestStops most groups left held c reading.TooLong
RestFails most groups left held c errors.PictureTooLarge = RestStops most groups left held c reading.PictureTooLarge
RestFails most groups left held c errors.Memory = RestCut most groups left held c

-- a piece that may be there was written, unless it holds the header of the group behind the cut
abbrev pub SecondPut : Bool → List (List ℕ) → ℕ → Copied → Copied → Change → Type 0
SecondPut written [] most old new held = (written ≡ true) × (new ≡ old) × (held.new ≡ held.old)
SecondPut written (w ∷ ws) most old new held = HasPut written w most old new held
