-- What decoding a stream answers, and what stands then in input and output.
use Rattle.std.specs.Prelude.{◌≡◌, ℕ, ◌+◌, ◌<◌, ◌≤◌, List, [], ◌∷◌, ◌++◌, length, Some, None, Ok, Err}
use Rattle.m2v_port.specs.Ends.{Change}
use Rattle.m2v_port.specs.Port.{Moves, Grows, GrowsByPrefix}
use Rattle.m2v_plane.specs.Raw.{raw}
use Rattle.m2v_model.specs.declared.fault.FaultKind.{FaultKind}
use Rattle.m2v_model.specs.Pictures.{Pictures, Events, pictures_in}
use Rattle.m2v_model.specs.Pieces.{pieces, before_pieces, limit, most_input}
use Rattle.m2v_model.specs.Decoding.{Decodes, FaultAt, shown, due, low_delay_of}
use Rattle.m2v_model.specs.ByPieces.{Between, at_start, piece_read, pieces_read, end_read, end_of, IsRead}
use Rattle.m2v_dec_piece.specs.declared.answer.Fault.{Fault}
use Rattle.m2v_dec_piece.specs.declared.answer.DecodeError.{DecodeError}
use Rattle.m2v_dec_piece.specs.declared.answer.DecodeError.TheVariants as errors
use Rattle.m2v_dec_piece.specs.Cutting.{PieceStops}
use Rattle.m2v_decode.specs.Decoding.{dropped_in}
use Rattle.m2v_decode.specs.declared.answer.Decoded.{Decoded}

-- where the first piece of a text begins
abbrev pub start_of : List ℕ → ℕ
start_of text = length (before_pieces text)

-- pieces of which none passes a limit, the first from a byte on
abbrev pub AllFit : ℕ → List (List ℕ) → Type 0
AllFit at [] = Unit {0}
AllFit at (p ∷ ps) = (limit at 0 p ≡ None) × AllFit (at + length p) ps

-- the first pieces of a text: none of them passes a limit, and they stand; with what they tell and what stands behind them
pub record PiecesRead (text : List ℕ) (es : Events) (b : Between) (others : List (List ℕ)) : Type 0 where
  pub first : List (List ℕ)
  pub are : pieces text ≡ first ++ others
  pub fit : AllFit (start_of text) first
  pub read : pieces_read at_start (start_of text) first ≡ Ok (es, b)

-- the place behind them
abbrev pub place_behind : {text : List ℕ} {es : Events} {b : Between} {others : List (List ℕ)} → PiecesRead text es b others → ℕ
place_behind {text} r = end_of (start_of text) r.first

-- the next piece has the first fault; behind the last one the end of the text, which an input may have there
abbrev pub HasFault : Between → ℕ → List (List ℕ) → FaultKind → ℕ → Type 0
HasFault b at [] kind place = (at ≤ most_input) × (end_read b at ≡ Err (kind, place))
HasFault b at (p ∷ ps) kind place = (limit at 0 p ≡ None) × (piece_read b (at + length p) p ≡ Err (kind, place))

-- the frames that the pictures of the pieces before show before the end
abbrev pub due_before : Between → Events → List (List ℕ)
due_before b es = due (low_delay_of b.state.first) (pictures_in es)

-- all frames that they show
abbrev pub shown_by : Between → Events → List (List ℕ)
shown_by b es = shown (low_delay_of b.state.first) (pictures_in es)

-- the frames that they show as far as is read: before the end those that are due, and all once no piece follows
abbrev pub shown_so_far : List (List ℕ) → Between → Events → List (List ℕ)
shown_so_far [] b es = shown_by b es
shown_so_far (p ∷ ps) b es = due_before b es

-- the numbers of a stream: frames shown, pictures, and how many of these are dropped
abbrev pub numbers_of : ℕ → Pictures → Decoded
numbers_of frames ps = record { frames = frames; pictures = length ps; dropped = dropped_in ps }

-- The text is a stream without a fault, no piece of it passes a limit, and output has grown by the frames that it shows.
pub record IsDecoded (text : List ℕ) (held : Change) (d : Decoded) : Type 0 where
  pub frames : List (List ℕ)
  pub decodes : Decodes text frames
  pub events : Events
  pub between : Between
  pub read : IsRead text events between
  pub start : start_of text ≤ most_input
  pub fit : AllFit (start_of text) (pieces text)
  pub grown : Grows held.old (raw frames) held.new
  pub numbers : d ≡ numbers_of (length frames) (pictures_in events)

-- The text has this first fault, and output has grown by the frames that are due from the pieces before the one in which
-- it is looked at; where that is at the end, from all pieces.
pub record IsFaulty (text : List ℕ) (held : Change) (f : Fault) : Type 0 where
  pub fault : FaultAt text f.place f.kind
  pub start : start_of text ≤ most_input
  pub events : Events
  pub between : Between
  pub others : List (List ℕ)
  pub begun : PiecesRead text events between others
  pub here : HasFault between (place_behind begun) others f.kind f.place
  pub grown : Grows held.old (raw (due_before between events)) held.new

-- The next piece passes a limit, or the bytes before the first one do, and output has grown by the frames that are due
-- from the pieces before.
pub record IsOver (text : List ℕ) (held : Change) (e : DecodeError) : Type 0 where
  pub events : Events
  pub between : Between
  pub others : List (List ℕ)
  pub begun : PiecesRead text events between others
  pub over : PieceStops (place_behind begun) others e
  pub grown : Grows held.old (raw (due_before between events)) held.new

-- Output has grown by a prefix of the frames that the whole pictures in the first bytes of a text show: where pieces follow
-- them, of those that are due before the end.
pub record IsCut (bytes text : List ℕ) (held : Change) : Type 0 where
  pub events : Events
  pub between : Between
  pub others : List (List ℕ)
  pub begun : PiecesRead text events between others
  pub within : 0 < length begun.first → place_behind begun ≤ length bytes
  pub grown : GrowsByPrefix held.old (raw (shown_so_far others between events)) held.new

-- Some bytes of the input were read, and where the input tells its bytes, this holds of them and what is left.
pub record OfText (left : Change) (Holds : List ℕ → Type 0) : Type 0 where
  pub bytes : List ℕ
  pub moved : Moves left.old bytes left.new
  pub told : (rest : List ℕ) → left.new ≡ Some rest → Holds (bytes ++ rest)

-- the same of the bytes that were read and of the text that they begin
pub record OfTaken (left : Change) (Holds : List ℕ → List ℕ → Type 0) : Type 0 where
  pub bytes : List ℕ
  pub moved : Moves left.old bytes left.new
  pub told : (rest : List ℕ) → left.new ≡ Some rest → Holds bytes (bytes ++ rest)

-- The text that was read is such a stream.
abbrev pub HasDecoded : Change → Change → Decoded → Type 0
HasDecoded left held d = OfText left (λ text. IsDecoded text held d)

-- When each error comes, and what stands then.
abbrev pub Fails : Change → Change → DecodeError → Type 0
Fails left held errors.Read = left.Failed × OfTaken left (λ bytes text. IsCut bytes text held)
Fails left held errors.Write = held.Failed × OfTaken left (λ bytes text. IsCut bytes text held)
Fails left held (errors.Stream f) = OfText left (λ text. IsFaulty text held f)
Fails left held errors.TooLong = OfText left (λ text. IsOver text held errors.TooLong)
Fails left held errors.PictureTooLarge = OfText left (λ text. IsOver text held errors.PictureTooLarge)
Fails left held errors.Memory = OfTaken left (λ bytes text. IsCut bytes text held)
