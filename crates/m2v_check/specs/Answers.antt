-- What checking a stream answers: its verdict, or why there is none.
use Rattle.std.specs.Prelude.{◌≡◌, ℕ, List, Result, Ok, Err}
use Rattle.m2v_port.specs.Ends.{Change}
use Rattle.m2v_model.specs.Pictures.{Events}
use Rattle.m2v_model.specs.ByPieces.{Between}
use Rattle.m2v_model.specs.Pieces.{Limit}
use Rattle.m2v_model.specs.Decoding.{FaultAt}
use Rattle.m2v_dec_piece.specs.declared.answer.Fault.{Fault}
use Rattle.m2v_dec_piece.specs.declared.answer.DecodeError.{DecodeError}
use Rattle.m2v_dec_piece.specs.declared.answer.DecodeError.TheVariants as errors
use Rattle.m2v_dec_piece.specs.Cutting.{PieceStops}
use Rattle.m2v_decode.specs.Answers.{PiecesRead, place_behind, OfText}
use Rattle.m2v_decode.specs.Complete.{IsUnderLimits, IsReached, IsPast, IsLate, error_of}
use Rattle.m2v_check.specs.declared.verdict.Verdict.{Verdict}
use Rattle.m2v_check.specs.Meaning.{Means}

-- the text is a stream with this verdict, and no piece of it passes a limit
pub record IsJudged (text : List ℕ) (v : Verdict) : Type 0 where
  pub means : Means text v
  pub limits : IsUnderLimits text

-- the text has this first fault, and no limit is passed before it
pub record IsFaulty (text : List ℕ) (f : Fault) : Type 0 where
  pub fault : FaultAt text f.place f.kind
  pub reached : IsReached text f

-- the next piece passes a limit, or the bytes before the first one do; the pieces before it pass none and have no fault
pub record IsOver (text : List ℕ) (e : DecodeError) : Type 0 where
  pub events : Events
  pub between : Between
  pub others : List (List ℕ)
  pub begun : PiecesRead text events between others
  pub over : PieceStops (place_behind begun) others e

-- when each error comes
abbrev pub Fails : Change → DecodeError → Type 0
Fails left errors.Read = left.Failed
Fails left errors.Write = ⊥
Fails left (errors.Stream f) = OfText left (λ text. IsFaulty text f)
Fails left errors.TooLong = OfText left (λ text. IsOver text errors.TooLong)
Fails left errors.PictureTooLarge = OfText left (λ text. IsOver text errors.PictureTooLarge)
Fails left errors.Memory = Unit {0}

-- This is answered. In its place may come want of memory, and a failed input where its count rose.
pub data Gives (left : Change) (answer result : Result Verdict DecodeError) : Type 0 where
  as_said : result ≡ answer → Gives left answer result
  read : result ≡ Err errors.Read → left.Failed → Gives left answer result
  memory : result ≡ Err errors.Memory → Gives left answer result

-- What is answered to a text: where it is a stream under the limits its verdict; where its first fault comes before a limit
-- that fault; where a limit is passed before a fault that limit; and too long where no sequence header begins within it.
pub record IsAnswered (left : Change) (result : Result Verdict DecodeError) (text : List ℕ) : Type 0 where
  pub judged : (v : Verdict) → Means text v → IsUnderLimits text → Gives left (Ok v) result
  pub faulty : (f : Fault) → FaultAt text f.place f.kind → IsReached text f → Gives left (Err (errors.Stream f)) result
  pub over : (l : Limit) → IsPast text l → Gives left (Err (error_of l)) result
  pub late : IsLate text → Gives left (Err errors.TooLong) result
