-- A batch whose rows are decoded while the one before it is taken in and the next one taken ahead.
use Rattle.std.specs.Prelude.{◌≡◌, ℕ, ◌<◌, ◌≤◌, false, List, [], ◌++◌, length, map, Option, is_some, option_to_list, Result, IfOk, IfErr, OnErr}
use Rattle.m2v_port.specs.Ends.{Change}
use Rattle.m2v_model.specs.declared.state.State.{State}
use Rattle.m2v_model.specs.Pieces.{most_input}
use Rattle.m2v_dec_piece.specs.declared.answer.Piece.{Piece}
use Rattle.m2v_dec_piece.specs.declared.answer.DecodeError.{DecodeError}
use Rattle.m2v_dec_piece.specs.declared.answer.DecodeError.TheVariants as errors
use Rattle.m2v_dec_piece.specs.Cutting.{Cutting}
use Rattle.m2v_dec_batch.specs.m2v_dec_picture.declared.gallery.FramesAtHand.{FramesAtHand}
use Rattle.m2v_dec_batch.specs.m2v_dec_picture.Frames.{store_of}
use Rattle.m2v_dec_batch.specs.declared.picture.BatchPicture.{BatchPicture}
use Rattle.m2v_dec_batch.specs.Jobs.{older_before, newer_before}
use Rattle.m2v_dec_batch.specs.Batches.{Batch, headers, IsBatch}
use Rattle.m2v_dec_batch.specs.Filled.{is_there, with_frames}
use Rattle.m2v_pardec.specs.Behind.{Tracks}
use Rattle.m2v_dec_batch.specs.m2v_dec_rows.Headers.{IsBetween}
use Rattle.m2v_decode.specs.Decoding.{Decoding}
use Rattle.m2v_pardec.specs.declared.taking.Stop.{Stop}
use Rattle.m2v_pardec.specs.declared.taking.Stop.TheVariants.{More}
use Rattle.m2v_pardec.specs.declared.taking.Taken.{Taken}
use Rattle.m2v_pardec.specs.declared.taking.Rest.{Rest}
use Rattle.m2v_pardec.specs.Ahead.{AreInOrder, IsAhead, later_of, FailsBy}
use Rattle.m2v_pardec.specs.declared.put.Worked.{Worked}
use Rattle.m2v_pardec.specs.declared.stream.Stream.{Stream}
use Rattle.m2v_pardec.specs.Put.{AreNext, WerePut, ComesNext, AreAllThere, TellsBehind}
use Rattle.m2v_pardec.specs.Taken.{piece_of, pieces_of, end_by, IsSet, AreTold, TellsOn, IsRest, CanTakeMore, TakesMore, TakenBehind, works_left, ReadOn}

-- pieces were taken and wait for a decoder that is at work
pub record AreWaiting (t : Taken) (c : Cutting) (d : Decoding) : Type 0 where
  pub going : d.failed ≡ false
  pub before : d.ended ≡ false
  pub order : AreInOrder d.pictures (pieces_of t) (end_by t.stop c.place)
  pub most : c.place ≤ most_input
  pub set : IsSet t.stop c
  pub told : TellsOn d.state t.pictures.pictures t.after.items t.state
  pub between : IsBetween t.state

-- the rows of a batch are decoded, and pieces were taken behind it
pub record IsUnderWay (b : Batch) (ss : List State) (t : Taken) (c : Cutting) (d : Decoding) : Type 0 where
  pub batch : IsBatch b
  pub going : d.failed ≡ false
  pub before : d.ended ≡ false
  pub order : AreInOrder d.pictures (map piece_of b.pictures ++ pieces_of t) (end_by t.stop c.place)
  pub most : c.place ≤ most_input
  pub set : IsSet t.stop c
  pub here : AreTold d.state b.pictures ss
  pub told : (xs : List BatchPicture) (ys : List State) → AreTold t.state xs ys → AreTold d.state (b.pictures ++ (t.pictures.pictures ++ xs)) (ss ++ (t.after.items ++ ys))
  pub between : IsBetween t.state
  pub tracks : Tracks b 0 (store_of d.frames)
  pub dims : t.pictures.dims ≡ b.dims
  pub older : is_some t.pictures.older ≡ is_there b (older_before (headers b) (length b.pictures))
  pub newer : is_some t.pictures.newer ≡ is_there b (newer_before (headers b) (length b.pictures))
  pub waiting : is_some t.pictures.waiting ≡ false

-- a batch whose rows are all rebuilt can be taken in, and pieces taken behind the next one
pub record CanPut (w : Worked) (r : Rest) (s : Stream) : Type 0 where
  pub done : w.done ≡ w.book
  pub rebuilt : AreAllThere w.book
  pub next : AreNext (map piece_of w.book.pictures) s.decoder
  pub comes : ComesNext w.book w.after.items s.decoder
  pub more : CanTakeMore r s.cutter

-- that was done
pub record DidPut (w : Worked) (r : Rest) (s : Stream) (left held : Option (List ℕ)) (s' : Stream) (left' held' : Option (List ℕ)) (t : Taken) : Type 0 where
  pub put : WerePut (map piece_of w.book.pictures) s.decoder held s'.decoder held'
  pub told : TellsBehind s.decoder.state w.book.pictures w.after.items s'.decoder.state
  pub tracks : Tracks w.book (length w.book.pictures) (store_of s'.decoder.frames)
  pub taken : TakesMore r s.cutter left s'.cutter left' t
  pub behind : TakenBehind r.behind t

-- what stands behind pieces that were taken and decoded, with those that were taken then
pub record GoesFrom (t : Taken) (c : Cutting) (left held : Option (List ℕ)) (d : Decoding) (stop : Stop) (c' : Cutting) (left' held' : Option (List ℕ)) (d' : Decoding) : Type 0 where
  pub ahead : (before_left before : Option (List ℕ)) → IsAhead (later_of t.stop c) before_left left before held (pieces_of t) d → IsAhead (later_of stop c') before_left left' before held' [] d'
  pub few : d'.pictures ≤ end_by stop c'.place
  pub most : c'.place ≤ most_input
  pub set : IsSet stop c'
  pub rises : (low : ℕ) → (t.stop ≡ More → low < c.place) → stop ≡ More → low < c'.place
  pub going : d'.failed ≡ false
  pub before : d'.ended ≡ false

-- why decoding stops behind pieces that were taken, where output failed or it didn't
abbrev pub WrongFrom : Type 0 → Taken → Cutting → Option (List ℕ) → Option (List ℕ) → Decoding → Option (List ℕ) → Option (List ℕ) → DecodeError → Type 0
WrongFrom failed t c left held d left' held' e =
    (before_left before : Option (List ℕ)) → IsAhead (later_of t.stop c) before_left left before held (pieces_of t) d → FailsBy failed before_left left' before held' e

-- memory ran out while pieces were taken
pub record TakingFails (r : Rest) (c : Cutting) (left left' : Option (List ℕ)) : Type 0 where
  pub fails : (before_left before held : Option (List ℕ)) (ps : List Piece) (d : Decoding) → IsAhead (later_of r.stop c) before_left left before held (ps ++ option_to_list r.other) d → FailsBy ⊥ before_left left' before held errors.Memory

-- decoding stops while a batch is taken in and pieces are taken
abbrev pub PuttingFails : Type 0 → List Piece → Rest → Cutting → Option (List ℕ) → Option (List ℕ) → Decoding → Option (List ℕ) → Option (List ℕ) → DecodeError → Type 0
PuttingFails failed ps r c left held d left' held' e =
    (before_left before : Option (List ℕ)) (others : List Piece) → IsAhead (later_of r.stop c) before_left left before held (ps ++ (others ++ option_to_list r.other)) d → FailsBy failed before_left left' before held' e

-- pieces were taken behind what is left, or memory ran out meanwhile
pub record TakesOn {S E : Type 0} (left : S → Option (List ℕ)) (faults : S → ℕ) (old new : S) (r : Rest) (c c' : Cutting) (result : Result Taken E) : Type 0 where
  pub ok : IfOk result (TakesMore r c (left old) c' (left new))
  pub told : IfOk result (TakenBehind r.behind)
  pub err : OnErr result (TakingFails r c (left old) (left new))
  pub read : IfOk result (λ t. ReadOn r.stop t.stop (faults old) (faults new))
  pub rises : faults old ≤ faults new

-- a batch was taken in and pieces taken behind the next one, or why not
pub record PutsOn {S : Type 0} (left : S → Option (List ℕ)) (faults : S → ℕ) (old new : S) (output : Change) (w : Worked) (r : Rest) (s s' : Stream) (result : Result Taken DecodeError) : Type 0 where
  pub ok : IfOk result (DidPut w r s (left old) output.old s' (left new) output.new)
  pub err : IfErr result (PuttingFails output.Failed (map piece_of w.book.pictures) r s.cutter (left old) output.old s.decoder (left new) output.new)
  pub read : IfOk result (λ t. ReadOn r.stop t.stop (faults old) (faults new))
  pub rises : faults old ≤ faults new

-- ---- batches

-- why not, while the first batch is decoded
abbrev pub StopsTaking : Taken → Cutting → Option (List ℕ) → Option (List ℕ) → Type 0
StopsTaking t c left left' =
    (before_left before held : Option (List ℕ)) (d : Decoding) → IsAhead (later_of t.stop c) before_left left before held (pieces_of t) d → FailsBy ⊥ before_left left' before held errors.Memory

-- the rows of what was taken are decoded, with these frames before it, and pieces were taken behind it
pub record WorksOn (t : Taken) (f : FramesAtHand) (c : Cutting) (left : Option (List ℕ)) (c' : Cutting) (left' : Option (List ℕ)) (w : Worked) (next : Taken) : Type 0 where
  pub done : w.done ≡ w.book
  pub book : w.book ≡ with_frames t.pictures f
  pub batch : IsBatch w.book
  pub after : w.after.items ≡ t.after.items
  pub rest : Rest
  pub is_rest : IsRest t rest
  pub more : TakesMore rest c left c' left' next
  pub behind : TakenBehind rest.behind next

-- a batch was taken in, the rows of the next one are decoded, and pieces were taken behind that
pub record WorksNext (b : Batch) (t : Taken) (c : Cutting) (left held : Option (List ℕ)) (d : Decoding) (c' : Cutting) (left' held' : Option (List ℕ)) (d' : Decoding) (w : Worked) (next : Taken) : Type 0 where
  pub done : w.done ≡ w.book
  pub ahead : (before_left before : Option (List ℕ)) → IsAhead (later_of t.stop c) before_left left before held (map piece_of b.pictures ++ pieces_of t) d
      → IsAhead (later_of next.stop c') before_left left' before held' (map piece_of w.book.pictures ++ pieces_of next) d'
  pub under : IsUnderWay w.book w.after.items next c' d'
  pub rises : (low : ℕ) → (t.stop ≡ More → low < c.place) → next.stop ≡ More → low < c'.place
  pub falls : 0 < length t.pictures.pictures → works_left next c' < works_left t c

-- why not, where output failed or it didn't
abbrev pub StopsUnder : Type 0 → Batch → Taken → Cutting → Option (List ℕ) → Option (List ℕ) → Decoding → Option (List ℕ) → Option (List ℕ) → DecodeError → Type 0
StopsUnder failed b t c left held d left' held' e =
    (before_left before : Option (List ℕ)) → IsAhead (later_of t.stop c) before_left left before held (map piece_of b.pictures ++ pieces_of t) d → FailsBy failed before_left left' before held' e
