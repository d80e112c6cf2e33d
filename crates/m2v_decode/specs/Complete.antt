-- What is answered to a text, and that no other answer comes: by its decoding, its first fault, or the limit that a piece
-- passes first.
use Rattle.std.specs.Prelude.{◌≡◌, ℕ, ◌<◌, ◌≤◌, List, length, Result, Ok, Err}
use Rattle.m2v_port.specs.Ends.{Change}
use Rattle.m2v_model.specs.Pictures.{Events}
use Rattle.m2v_model.specs.ByPieces.{Between}
use Rattle.m2v_model.specs.Pieces.{pieces, most_input, Limit, too_long, too_large}
use Rattle.m2v_model.specs.Decoding.{Decodes, FaultAt, pictures}
use Rattle.m2v_dec_piece.specs.declared.answer.Fault.{Fault}
use Rattle.m2v_dec_piece.specs.declared.answer.DecodeError.{DecodeError}
use Rattle.m2v_dec_piece.specs.declared.answer.DecodeError.TheVariants as errors
use Rattle.m2v_dec_piece.specs.Cutting.{Passes}
use Rattle.m2v_decode.specs.declared.answer.Decoded.{Decoded}
use Rattle.m2v_decode.specs.Answers.{AllFit, start_of, PiecesRead, place_behind, HasFault, numbers_of}

-- no piece of a text passes a limit, nor do the bytes before the first one
pub record IsUnderLimits (text : List ℕ) : Type 0 where
  pub start : start_of text ≤ most_input
  pub pieces : AllFit (start_of text) (pieces text)

-- a text of more bytes than an input may have, with no sequence header before the last of these
abbrev pub IsLate : List ℕ → Type 0
IsLate text = most_input < start_of text

-- a piece of a text passes this limit, and those before it pass none and have no fault
pub record IsPast (text : List ℕ) (l : Limit) : Type 0 where
  pub events : Events
  pub between : Between
  pub others : List (List ℕ)
  pub begun : PiecesRead text events between others
  pub passes : Passes (place_behind begun) l others

-- The piece with this fault, and those before it, pass no limit; the first one begins where an input may have bytes.
pub record IsReached (text : List ℕ) (f : Fault) : Type 0 where
  pub start : start_of text ≤ most_input
  pub events : Events
  pub between : Between
  pub others : List (List ℕ)
  pub begun : PiecesRead text events between others
  pub here : HasFault between (place_behind begun) others f.kind f.place

-- the numbers of a text that decodes
abbrev pub counted : {text : List ℕ} {frames : List (List ℕ)} → Decodes text frames → Decoded
counted {text} {frames} d = numbers_of (length frames) (pictures d.tree)

-- the error of a limit
abbrev pub error_of : Limit → DecodeError
error_of too_long = errors.TooLong
error_of too_large = errors.PictureTooLarge

-- This is answered. In its place may come want of memory, and a failed endpoint where a count rose.
pub data Gives (left held : Change) (answer result : Result Decoded DecodeError) : Type 0 where
  as_said : result ≡ answer → Gives left held answer result
  read : result ≡ Err errors.Read → left.Failed → Gives left held answer result
  write : result ≡ Err errors.Write → held.Failed → Gives left held answer result
  memory : result ≡ Err errors.Memory → Gives left held answer result

-- What is answered to a text: where it decodes under the limits its numbers; where its first fault comes before a limit that
-- fault; where a limit is passed before a fault that limit; and too long where no sequence header begins within the limit.
pub record IsAnswered (left held : Change) (result : Result Decoded DecodeError) (text : List ℕ) : Type 0 where
  pub decodes : (frames : List (List ℕ)) (d : Decodes text frames) → IsUnderLimits text → Gives left held (Ok (counted d)) result
  pub faulty : (f : Fault) → FaultAt text f.place f.kind → IsReached text f → Gives left held (Err (errors.Stream f)) result
  pub over : (l : Limit) → IsPast text l → Gives left held (Err (error_of l)) result
  pub late : IsLate text → Gives left held (Err errors.TooLong) result
