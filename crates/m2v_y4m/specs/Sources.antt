-- A YUV4MPEG2 text as a source of the raw bytes of its frames.
use Rattle.std.specs.Prelude.{ℕ, ◌≡◌, ◌+◌, ◌*◌, ◌<◌, ◌≤◌, ◌==◌, List, [], ◌∷◌, ◌++◌, length, take, drop, Option, Some, None, option_map, is_some, IfSome, IsTrue, Result, Ok, Err, IfOk, OnOk, OnErr, if◌then◌else◌}
use Rattle.m2v_port.specs.Port.{Moves, IsAtEnd}
use Rattle.m2v_port.specs.declared.error.PortError.{PortError}
use Rattle.m2v_port.specs.declared.error.PortError.TheVariants.{Failed}
use Rattle.m2v_y4m.specs.declared.answer.Y4mFault.{Y4mFault}
use Rattle.m2v_y4m.specs.declared.answer.Y4mKind.{Y4mKind}
use Rattle.m2v_y4m.specs.declared.answer.Y4mKind.TheVariants.{Magic, Line, Field, Size, Rate, Interlace, Chroma, Frame}
use Rattle.m2v_y4m.specs.declared.header.Y4mHeader.{Y4mHeader}
use Rattle.m2v_y4m.specs.Texts.{onward}
use Rattle.m2v_y4m.specs.Frames.{Coming, broken, with_front, in_frame, frames_from, size_of, Begins}

-- What is known of the text behind its header line: the header; the bytes that were read and not given yet, and the place
-- of the first; how many bytes of the frame at hand are still to come, 0 before a frame line, and the place of its line;
-- and the fault, once a frame line broke the text.
pub record Standing : Type 0 where
  pub header : Y4mHeader
  pub unread : List ℕ
  pub place : ℕ
  pub rest : ℕ
  pub line : ℕ
  pub fault : Option Y4mFault

abbrev pub standing : Y4mHeader → List ℕ → ℕ → ℕ → ℕ → Option Y4mFault → Standing
standing header unread place rest line fault = record { header = header; unread = unread; place = place; rest = rest; line = line; fault = fault }

-- what comes of the bytes that weren't given yet, where no fault was found so far
unfoldable pub coming_at : ℕ → ℕ → ℕ → ℕ → List ℕ → Coming
coming_at size line rest place text =
    if rest == 0 then frames_from size place text
    else in_frame size line rest text (frames_from size (onward place rest) (drop rest text))

-- what comes, where this text follows what was read
abbrev pub unless_broken : Option Y4mFault → Coming → Coming
unless_broken None coming = coming
unless_broken (Some fault) coming = broken fault

unfoldable pub coming : Standing → List ℕ → Coming
coming s text = unless_broken s.fault (coming_at (size_of s.header) s.line s.rest s.place (s.unread ++ text))

-- a kind by number
abbrev pub kind_number : Y4mKind → ℕ
kind_number Magic = 0
kind_number Line = 1
kind_number Field = 2
kind_number Size = 3
kind_number Rate = 4
kind_number Interlace = 5
kind_number Chroma = 6
kind_number Frame = 7

-- A fault as one number that is no byte, another one for each fault.
unfoldable pub mark : Y4mFault → ℕ
mark fault = 256 + (8 * fault.place + kind_number fault.kind)

-- What is left of a source: the raw bytes that come, and behind them, where the text is broken, the mark of its fault, which
-- no read moves. So a source of a broken text is never at its end, and whoever reads to the end has read a whole text.
abbrev pub marked : Option Y4mFault → List ℕ
marked None = []
marked (Some fault) = mark fault ∷ []

unfoldable pub left_of : Coming → List ℕ
left_of c = c.raw ++ marked c.fault

-- the same where the source behind it tells its bytes
abbrev pub comes_of : Standing → Option (List ℕ) → Option Coming
comes_of s left = option_map (λ text. coming s text) left

abbrev pub fault_to_come : Standing → Option (List ℕ) → Option (Option Y4mFault)
fault_to_come s left = option_map (λ c. c.fault) (comes_of s left)

abbrev pub told_left : Standing → Option (List ℕ) → Option (List ℕ)
told_left s left = option_map left_of (comes_of s left)

-- what was read of a text: where it stands, and how many reads a fault has failed
pub record Reading : Type 0 where
  pub at : Standing
  pub failed : ℕ

-- how many bytes are read ahead at most
abbrev pub most_ahead : ℕ
most_ahead = 4096

-- Bytes went from the front of what was left, no more than are read ahead.
pub record Took (old new : Option (List ℕ)) : Type 0 where
  pub bytes : List ℕ
  pub few : length bytes ≤ most_ahead
  pub moved : Moves old bytes new

-- where reading stands, and what its source still tells
pub record Spot : Type 0 where
  pub at : Standing
  pub left : Option (List ℕ)

abbrev pub spot : Standing → Option (List ℕ) → Spot
spot s left = record { at = s; left = left }

-- From one spot to another these raw bytes were given: so much went from the front of what was left, and was used, or was
-- read ahead and stands there still. Whatever text follows, these bytes come of it first, and then what comes there.
pub record ReadOn (old : Spot) (bytes : List ℕ) (new : Spot) : Type 0 where
  pub taken : List ℕ
  pub used : List ℕ
  pub moved : Moves old.left taken new.left
  pub split : old.at.unread ++ taken ≡ used ++ new.at.unread
  pub place : (n : ℕ) → old.at.place ≡ onward 0 n → new.at.place ≡ onward 0 (n + length used)
  pub header : new.at.header ≡ old.at.header
  pub unbroken : new.at.fault ≡ None
  pub comes : (rest : List ℕ) → coming old.at (taken ++ rest) ≡ with_front bytes (coming new.at rest)

-- What a read does to a text, beside what it does as every source's: no read changes what fault comes, or the header; it
-- answers 0 for a buffer that isn't empty only at the end of a text that no frame line broke; and each read fails once a
-- fault was found. What it gives, and that it gives nothing after an error but a fault's, holds whatever text follows.
pub record TextRead (old : Spot) (room : List ℕ) (result : Result ℕ PortError) (buf : List ℕ) (new : Spot) : Type 0 where
  pub fault : fault_to_come new.at new.left ≡ fault_to_come old.at old.left
  pub header : new.at.header ≡ old.at.header
  pub zero : result ≡ Ok 0 → 0 < length room → IsAtEnd new.left × (new.at.unread ≡ [])
  pub unbroken : OnOk result (new.at.fault ≡ None)
  pub broken : IsTrue (is_some old.at.fault) → result ≡ Err Failed
  pub read : IfOk result (λ n. ReadOn old (take n buf) new)
  pub stood : OnErr result (new.at.fault ≡ None → ReadOn old [] new)

-- What was taken of a text, when these raw bytes were given of it: the text up to the place where reading stands, and what
-- was read ahead. Whatever text follows, it begins with the header line, and these bytes come of it first, and then what
-- comes there.
pub record Taken (taken bytes : List ℕ) (s : Standing) : Type 0 where
  pub used : List ℕ
  pub split : taken ≡ used ++ s.unread
  pub place : s.place ≡ onward 0 (length used)
  pub ahead : length s.unread ≤ most_ahead
  pub unbroken : s.fault ≡ None
  pub begins : (rest : List ℕ) → Begins (taken ++ rest) s.header (with_front bytes (coming s rest))

-- This was taken of a source.
pub record TookText (old : Option (List ℕ)) (bytes : List ℕ) (s : Standing) (new : Option (List ℕ)) : Type 0 where
  pub taken : List ℕ
  pub moved : Moves old taken new
  pub is : Taken taken bytes s

-- this text begins with the header line that was read, and what comes behind it is what comes of the source now
pub record OpensWith (s : Standing) (left : Option (List ℕ)) (text : List ℕ) : Type 0 where
  pub coming : Coming
  pub begins : Begins text s.header coming
  pub comes : comes_of s left ≡ Some coming

-- the header line was read, and no raw byte was given yet
pub record IsOpen (old : Option (List ℕ)) (s : Standing) (new : Option (List ℕ)) : Type 0 where
  pub unbroken : s.fault ≡ None
  pub opens : IfSome old (OpensWith s new)
  pub took : TookText old [] s new
