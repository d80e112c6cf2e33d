-- Pictures of a batch that was decoded, taken into the decoder one after another.
use Rattle.std.specs.Prelude.{◌≡◌, ℕ, ◌+◌, ◌<◌, ◌≤◌, ◌^◌, true, false, List, [], ◌++◌, slice_get, Option, Some, Result, IfOk, IfErr}
use Rattle.m2v_port.specs.Ends.{Change}
use Rattle.m2v_model.specs.declared.state.State.{State}
use Rattle.m2v_dec_piece.specs.declared.answer.Piece.{Piece}
use Rattle.m2v_dec_piece.specs.declared.answer.DecodeError.{DecodeError}
use Rattle.m2v_model.specs.Pieces.{most_input}
use Rattle.m2v_dec_piece.specs.Cutting.{Cutting, IsReading}
use Rattle.m2v_dec_batch.specs.m2v_dec_picture.Frames.{store_of}
use Rattle.m2v_dec_batch.specs.declared.picture.BatchPicture.{BatchPicture}
use Rattle.m2v_dec_batch.specs.Jobs.{first_job, jobs_of}
use Rattle.m2v_dec_batch.specs.Batches.{Batch, headers, IsBatch}
use Rattle.m2v_pardec.specs.Behind.{Tracks}
use Rattle.m2v_decode.specs.Decoding.{Decoding}
use Rattle.m2v_pardec.specs.Ahead.{Later, behind, later_of, AreInOrder, IsAhead, FailsBy}
use Rattle.m2v_pardec.specs.declared.taking.Stop.{Stop}
use Rattle.m2v_pardec.specs.declared.taking.Stop.TheVariants.{More, End, Error}
use Rattle.m2v_pardec.specs.Taken.{IsTold, AreTold, ReadFailed}
use Rattle.m2v_pardec.specs.declared.stream.Stream.{Stream}
use Rattle.m2v_pardec.specs.Rows.{RowsFrom, AreThere}

-- picture p of a batch can be taken in by its rows: its headers follow the decoder's state, and the frames at hand are those
-- of the batch
pub record CanTakeIn (d : Decoding) (x : BatchPicture) (after : State) (rows : RowsFrom) : Type 0 where
  pub p : ℕ
  pub batch : IsBatch rows.batch
  pub is : slice_get rows.batch.pictures p ≡ Some x
  pub first : rows.first ≡ first_job (headers rows.batch) p
  pub told : IsTold d.state x after
  pub tracks : Tracks rows.batch p (store_of d.frames)

-- it was taken in by its rows, and the frames at hand are those of the batch behind it
pub record TookIn (old : Decoding) (x : BatchPicture) (after : State) (rows : RowsFrom) (new : Decoding) : Type 0 where
  pub state : new.state ≡ record after { headers_only = false }
  pub tracks : (p : ℕ) → slice_get rows.batch.pictures p ≡ Some x → rows.first ≡ first_job (headers rows.batch) p → Tracks rows.batch p (store_of old.frames) → Tracks rows.batch (p + 1) (store_of new.frames)

-- of pieces that were taken ahead all but the last were decoded, and the frames due then written
abbrev pub PutsTo : List Piece → Decoding → Option (List ℕ) → List Piece → Decoding → Option (List ℕ) → Type 0
PutsTo ps old held last new held_then =
    (later : Later) (left left_then before : Option (List ℕ)) (others : List Piece) → IsAhead later left left_then before held (ps ++ others) old → IsAhead later left left_then before held_then (last ++ others) new

-- all of them were
abbrev pub PutsAll : List Piece → Decoding → Option (List ℕ) → Decoding → Option (List ℕ) → Type 0
PutsAll ps old held new held_then = PutsTo ps old held [] new held_then

-- why not, where output failed or it didn't
abbrev pub StopsBy : Type 0 → List Piece → Decoding → Option (List ℕ) → Option (List ℕ) → DecodeError → Type 0
StopsBy failed ps old held held_then e =
    (later : Later) (left left_then before : Option (List ℕ)) (others : List Piece) → IsAhead later left left_then before held (ps ++ others) old → FailsBy failed left left_then before held_then e

-- as many pictures were decoded as bytes were read, or fewer
abbrev pub CountsTo : List Piece → Decoding → List Piece → Decoding → Type 0
CountsTo ps old last new = (high : ℕ) → AreInOrder old.pictures ps high → AreInOrder new.pictures last high

abbrev pub CountsOn : List Piece → Decoding → Decoding → Type 0
CountsOn ps old new = CountsTo ps old [] new

-- pieces come next, in the order of the input, and the decoder is at work
pub record AreNext (ps : List Piece) (d : Decoding) : Type 0 where
  pub going : d.failed ≡ false
  pub before : d.ended ≡ false
  pub order : (high : ℕ) × (high ≤ 2 ^ 36) × AreInOrder d.pictures ps high

-- they were decoded and the frames due then written, and the decoder is at work still
pub record WerePut (ps : List Piece) (old : Decoding) (held : Option (List ℕ)) (new : Decoding) (held_then : Option (List ℕ)) : Type 0 where
  pub puts : PutsAll ps old held new held_then
  pub counted : CountsOn ps old new
  pub going : new.failed ≡ false
  pub before : new.ended ≡ false

-- a batch comes next: its headers follow the decoder's state, and the frames at hand are those before its first picture
pub record ComesNext (b : Batch) (ss : List State) (d : Decoding) : Type 0 where
  pub told : AreTold d.state b.pictures ss
  pub tracks : Tracks b 0 (store_of d.frames)

-- all rows of a batch are rebuilt
abbrev pub AreAllThere : Batch → Type 0
AreAllThere b = AreThere (record { batch = b; first = 0 }) (jobs_of (headers b))

-- what the headers say of pictures behind those that were taken in, behind the state of then and of now
abbrev pub TellsBehind : State → List BatchPicture → List State → State → Type 0
TellsBehind old xs ss new = (ys : List BatchPicture) (zs : List State) → AreTold old (xs ++ ys) (ss ++ zs) → AreTold new ys zs

-- ---- batch after batch

-- what comes behind pieces of which nothing more is decoded, by the place of the next one
abbrev pub StandsBy : Stop → Cutting → Cutting → Decoding → Type 0
StandsBy More old new d = (new.failed ≡ false) × (old.place < new.place) × (new.place ≤ most_input) × (d.pictures ≤ new.place)
StandsBy End old new d = (new.ended ≡ true) × (new.place ≤ most_input)
StandsBy (Error e) old new d = IsReading e

-- a batch was taken and decoded, and the frames due then written
pub record GoesOn (c : Cutting) (left held : Option (List ℕ)) (d : Decoding) (stop : Stop) (c' : Cutting) (left' held' : Option (List ℕ)) (d' : Decoding) : Type 0 where
  pub ahead : (before_left before : Option (List ℕ)) → IsAhead (behind c) before_left left before held [] d → IsAhead (later_of stop c') before_left left' before held' [] d'
  pub stands : StandsBy stop c c' d'
  pub going : d'.failed ≡ false
  pub before : d'.ended ≡ false

-- why not, where output failed or it didn't
abbrev pub GoesWrong : Type 0 → Cutting → Option (List ℕ) → Option (List ℕ) → Decoding → Option (List ℕ) → Option (List ℕ) → DecodeError → Type 0
GoesWrong failed c left held d left' held' e =
    (before_left before : Option (List ℕ)) → IsAhead (behind c) before_left left before held [] d → FailsBy failed before_left left' before held' e

-- a stream can go on: its cutter hands out pieces, its decoder takes them, and no more pictures were decoded than bytes cut
pub record CanGoOn (s : Stream) : Type 0 where
  pub cutter : s.cutter.failed ≡ false
  pub going : s.decoder.failed ≡ false
  pub before : s.decoder.ended ≡ false
  pub counted : s.decoder.pictures ≤ s.cutter.place

-- it went on by a batch, or why not
pub record Goes (input output : Change) (s s' : Stream) (result : Result Stop DecodeError) : Type 0 where
  pub ok : IfOk result (λ stop. GoesOn s.cutter input.old output.old s.decoder stop s'.cutter input.new output.new s'.decoder)
  pub err : IfErr result (GoesWrong output.Failed s.cutter input.old output.old s.decoder input.new output.new)
  pub read : IfOk result (λ stop. ReadFailed stop input.Failed)
