-- Pieces taken ahead, and what their headers say.
use Rattle.std.specs.Prelude.{◌≡◌, ℕ, ◌+◌, ◌-◌, ◌*◌, ◌^◌, ◌<◌, ◌≤◌, Bool, true, false, nat_eq, if◌then◌else◌, List, [], ◌∷◌, ◌++◌, length, map, Option, Some, None, is_some, option_to_list, Result, Ok, Err}
use Rattle.m2v_port.specs.Port.{Rose}
use Rattle.m2v_plane.specs.Sizes.{IsSize}
use Rattle.m2v_model.specs.declared.state.State.{State}
use Rattle.m2v_model.specs.Units.{cut}
use Rattle.m2v_model.specs.Pieces.{most_input}
use Rattle.m2v_model.specs.States.{at_first}
use Rattle.m2v_dec_piece.specs.declared.answer.Piece.{Piece}
use Rattle.m2v_dec_piece.specs.declared.answer.DecodeError.TheVariants as errors
use Rattle.m2v_dec_piece.specs.Cutting.{Cutting, IsReading}
use Rattle.m2v_dec_batch.specs.m2v_dec_rows.declared.opened.Opened.{Opened}
use Rattle.m2v_dec_batch.specs.m2v_dec_rows.Opened.{IsOpened, whole_of}
use Rattle.m2v_dec_batch.specs.m2v_dec_rows.Headers.{IsBetween, TellsHeaders}
use Rattle.m2v_dec_batch.specs.m2v_dec_rows.OnePicture.{HasOnePicture}
use Rattle.m2v_dec_batch.specs.declared.picture.BatchPicture.{BatchPicture}
use Rattle.m2v_dec_batch.specs.Jobs.{older_before, newer_before}
use Rattle.m2v_dec_batch.specs.Batches.{Batch, headers, IsBatch}
use Rattle.m2v_dec_batch.specs.declared.at_hand.FramesThere.{FramesThere}
use Rattle.m2v_dec_batch.specs.Filled.{with_picture, is_there}
use Rattle.m2v_decode.specs.Decoding.{Decoding}
use Rattle.m2v_pardec.specs.Ahead.{AreInOrder, IsAhead, later_of}
use Rattle.m2v_pardec.specs.declared.taking.Stop.{Stop}
use Rattle.m2v_pardec.specs.declared.taking.Stop.TheVariants.{More, End, Error}
use Rattle.m2v_pardec.specs.declared.taking.Before.{Before}
use Rattle.m2v_pardec.specs.declared.taking.Taken.{Taken}
use Rattle.m2v_pardec.specs.declared.taking.Rest.{Rest}

-- ---- pieces

abbrev pub piece_of : BatchPicture → Piece
piece_of x = x.piece

-- all pieces that were taken, in order
abbrev pub pieces_of : Taken → List Piece
pieces_of t = map piece_of t.pictures.pictures ++ option_to_list t.other

-- ---- headers

-- what is known between two pieces
pub record IsKnown (h : Before) : Type 0 where
  pub between : IsBetween h.state
  pub size : IsSize h.dims

-- what the headers of a picture's piece say, which is the only one in its piece: it isn't dropped, they have no fault, and this is
-- the state behind it
pub record IsTold (st : State) (x : BatchPicture) (after : State) : Type 0 where
  pub told : TellsHeaders st x.piece (Ok (Some x.opened)) after
  pub opened : IsOpened x.piece x.opened
  pub one : HasOnePicture (cut 0 (whole_of x.piece)).1
  pub read : x.opened.note.dropped ≡ false
  pub whole : x.opened.fault ≡ None

-- the same of pictures one behind another, with the state behind each
abbrev pub AreTold : State → List BatchPicture → List State → Type 0
AreTold st [] [] = Unit {0}
AreTold st [] (a ∷ ss) = ⊥
AreTold st (x ∷ xs) [] = ⊥
AreTold st (x ∷ xs) (a ∷ ss) = IsTold st x a × AreTold a xs ss

-- a picture may be the next one of a batch
pub record MayBeNext (b : Batch) (st : State) (p : Piece) (o : Opened) (after : State) : Type 0 where
  pub told : IsTold st (record { piece = p; opened = o }) after
  pub between : IsBetween after
  pub batch : IsBatch (with_picture b p o)

-- ---- taking

-- a piece was taken: as the next picture, or as the one behind them
abbrev pub AddedTo : Taken → Piece → Bool → Taken → Type 0
AddedTo old p true new =
    (o : Opened) × MayBeNext old.pictures old.state p o new.state × (new.pictures ≡ with_picture old.pictures p o)
    × (new.after.items ≡ old.after.items ++ new.state ∷ []) × (new.other ≡ old.other) × (new.stop ≡ old.stop)
AddedTo old p false new = (new.pictures ≡ old.pictures) × (new.after.items ≡ old.after.items) × (new.state ≡ old.state) × (new.other ≡ Some p) × (new.stop ≡ old.stop)

-- what the headers say of pictures that come behind is told of them and of these
abbrev pub TellsOn : State → List BatchPicture → List State → State → Type 0
TellsOn st xs ss last = (ys : List BatchPicture) (zs : List State) → AreTold last ys zs → AreTold st (xs ++ ys) (ss ++ zs)

-- pictures were taken behind what is known
pub record TakenBehind (h : Before) (t : Taken) : Type 0 where
  pub batch : IsBatch t.pictures
  pub dims : t.pictures.dims ≡ h.dims
  pub older : is_some t.pictures.older ≡ h.there.older
  pub newer : is_some t.pictures.newer ≡ h.there.newer
  pub waiting : is_some t.pictures.waiting ≡ h.there.first
  pub told : TellsOn h.state t.pictures.pictures t.after.items t.state
  pub between : IsBetween t.state

-- no frame is at hand
abbrev pub IsNothing : FramesThere → Type 0
IsNothing f = (f.older ≡ false) × (f.newer ≡ false) × (f.first ≡ false)

-- the first piece was taken, behind nothing; or it is given back
abbrev pub TakesFirst : Piece → Result Taken Piece → Type 0
TakesFirst p (Ok t) = (pieces_of t ≡ p ∷ []) × (t.stop ≡ More) × ((h : Before) × (h.state ≡ at_first) × IsNothing h.there × TakenBehind h t)
TakesFirst p (Err q) = q ≡ p

-- where the pieces that were taken end at the latest: behind an error only the limit of an input is known
abbrev pub end_by : Stop → ℕ → ℕ
end_by More place = place
end_by End place = place
end_by (Error e) place = most_input

-- the source failed, where a read did
abbrev pub ReadFailed : Stop → Type 0 → Type 0
ReadFailed More failed = Unit {0}
ReadFailed End failed = Unit {0}
ReadFailed (Error e) failed = e ≡ errors.Read → failed

-- it failed now, where a read did now
pub record ReadOn (old new : Stop) (before now : ℕ) : Type 0 where
  pub since : (start : ℕ) → start ≤ before → ReadFailed old (Rose start before) → ReadFailed new (Rose start now)

-- ---- what is left

-- which frames are there behind the pictures: the last two anchors
pub record IsRest (t : Taken) (r : Rest) : Type 0 where
  pub state : r.behind.state ≡ t.state
  pub dims : r.behind.dims ≡ t.pictures.dims
  pub older : r.behind.there.older ≡ is_there t.pictures (older_before (headers t.pictures) (length t.pictures.pictures))
  pub newer : r.behind.there.newer ≡ is_there t.pictures (newer_before (headers t.pictures) (length t.pictures.pictures))
  pub first : r.behind.there.first ≡ false
  pub other : r.other ≡ t.other
  pub stop : r.stop ≡ t.stop

-- a cutter stands where no more pieces were taken
abbrev pub IsSet : Stop → Cutting → Type 0
IsSet More c = c.failed ≡ false
IsSet End c = c.ended ≡ true
IsSet (Error e) c = IsReading e

-- pieces can be taken behind what is left
pub record CanTakeMore (r : Rest) (c : Cutting) : Type 0 where
  pub known : IsKnown r.behind
  pub set : IsSet r.stop c
  pub most : c.place ≤ 2 ^ 36

-- a number that falls with each batch that is taken
abbrev pub batches_left : Stop → Cutting → ℕ
batches_left More c = 2 ^ 36 + 1 - c.place
batches_left End c = 0
batches_left (Error e) c = 0

-- with those whose rows are decoded then
abbrev pub works_left : Taken → Cutting → ℕ
works_left t c = 2 * batches_left t.stop c + (if nat_eq (length t.pictures.pictures) 0 then 0 else 1)

-- the pieces behind what was taken were taken, or there are none
pub record TakesMore (r : Rest) (c : Cutting) (left : Option (List ℕ)) (c' : Cutting) (left' : Option (List ℕ)) (t : Taken) : Type 0 where
  pub ahead : (l h h' : Option (List ℕ)) (ps : List Piece) (d : Decoding) → IsAhead (later_of r.stop c) l left h h' (ps ++ option_to_list r.other) d → IsAhead (later_of t.stop c') l left' h h' (ps ++ pieces_of t) d
  pub order : (low : ℕ) (ps : List Piece) → AreInOrder low (ps ++ option_to_list r.other) (end_by r.stop c.place) → AreInOrder low (ps ++ pieces_of t) (end_by t.stop c'.place)
  pub set : IsSet t.stop c'
  pub most : c'.place ≤ most_input
  pub rises : (low : ℕ) → (r.stop ≡ More → low < c.place) → t.stop ≡ More → low < c'.place
  pub falls : works_left t c' < 2 * batches_left r.stop c + 1
