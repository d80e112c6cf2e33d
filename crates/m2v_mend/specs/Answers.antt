-- What is answered to a text that is mended, and what stands on output then.
use Rattle.std.specs.Prelude.{◌≡◌, ◌⊎◌, ℕ, zero, suc, ◌+◌, true, List, [], ◌∷◌, length, Option, Some, None}
use Rattle.m2v_port.specs.Ends.{Change}
use Rattle.m2v_port.specs.Port.{Grows, GrowsByPrefix}
use Rattle.m2v_model.specs.declared.phase.Phase.TheVariants.{Headers}
use Rattle.m2v_model.specs.Units.{cut}
use Rattle.m2v_model.specs.Pieces.{grouped, limit, Limit, too_long, too_large}
use Rattle.m2v_model.specs.ByPieces.{end_of}
use Rattle.m2v_decode.specs.m2v_dec_piece.Following.{following_in}
use Rattle.m2v_decode.specs.Answers.{OfText}
use Rattle.m2v_law_seam.specs.Spans.{steps}
use Rattle.m2v_law_seam.specs.Seams.{bytes_or_none}
use Rattle.m2v_law_seam.specs.Mending.{mended}
use Rattle.m2v_law_seam.specs.Told as told
use Rattle.m2v_law_seam.specs.Told.{all_kept, some_kept, none_kept, answer_to}
use Rattle.m2v_mend.specs.declared.answer.Answer.{Answer}
use Rattle.m2v_mend.specs.declared.answer.Answer.TheVariants as answers
use Rattle.m2v_mend.specs.declared.answer.MendError.{MendError}
use Rattle.m2v_mend.specs.declared.answer.MendError.TheVariants as errors
use Rattle.m2v_mend.specs.Making.{fault_told}
use Rattle.m2v_mend.specs.Listing.{list_of}

-- ---- limits

-- the pieces of what is left of an input, up to a sequence end code, as they are read: the first one with what stands before its
-- first unit, the last one with the end code
abbrev pub pieces_ahead : List ℕ → List (List ℕ)
pieces_ahead text = grouped Headers (cut 0 text).0 (cut 0 text).1

-- the first of two limits that may be passed
abbrev pub first_limit : Option Limit → Option Limit → Option Limit
first_limit None later = later
first_limit (Some l) later = Some l

-- the first limit that one of some pieces passes, of which the first begins at a byte
unfoldable pub limit_among : ℕ → List (List ℕ) → Option Limit
limit_among at [] = None
limit_among at (p ∷ ps) = first_limit (limit at 0 p) (limit_among (at + length p) ps)

-- the first limit that what is left of an input passes from a byte on, up to so many sequence end codes
unfoldable pub limit_from : ℕ → ℕ → List ℕ → Option Limit
limit_from zero at text = None
limit_from (suc n) at text = first_limit (limit_among at (pieces_ahead text)) (limit_from n (end_of at (pieces_ahead text)) (following_in true text))

-- the first limit that a text passes: it has fewer end codes than bytes
abbrev pub mend_limit : List ℕ → Option Limit
mend_limit text = limit_from (suc (length text)) 0 text

-- ---- the answer

-- an answer, as it is told
abbrev pub answer_told : Answer → told.Answer
answer_told (answers.AllKept groups pictures bytes) = all_kept groups pictures bytes
answer_told (answers.SomeKept groups of_groups pictures of_pictures bytes) = some_kept groups of_groups pictures of_pictures bytes
answer_told (answers.NoneKept fault) = none_kept (fault_told fault)

-- the bytes of the mended text; none where there is no strand
abbrev pub mended_bytes : List ℕ → List ℕ
mended_bytes text = bytes_or_none (mended steps text)

-- The text was mended: it passes no limit, this is its answer, output has grown by the mended text, and the list by a line for
-- each gap.
pub record IsMended (text : List ℕ) (held list : Change) (a : Answer) : Type 0 where
  pub fits : mend_limit text ≡ None
  pub answer : answer_told a ≡ answer_to steps text
  pub grown : Grows held.old (mended_bytes text) held.new
  pub listed : Grows list.old (list_of text) list.new

-- Of the mended text a prefix was written, and one of the list.
pub record IsPart (text : List ℕ) (held list : Change) : Type 0 where
  pub grown : GrowsByPrefix held.old (mended_bytes text) held.new
  pub listed : GrowsByPrefix list.old (list_of text) list.new

-- The text passes this limit, and of the mended text and of the list a prefix was written.
pub record IsOver (text : List ℕ) (held list : Change) (l : Limit) : Type 0 where
  pub passes : mend_limit text ≡ Some l
  pub part : IsPart text held list

-- When each error comes, and what stands then.
abbrev pub Fails : Change → Change → Change → MendError → Type 0
Fails left held list errors.Read = left.Failed × OfText left (λ text. IsPart text held list)
Fails left held list errors.Write = (held.Failed ⊎ list.Failed) × OfText left (λ text. IsPart text held list)
Fails left held list errors.TooLong = OfText left (λ text. IsOver text held list too_long)
Fails left held list errors.PictureTooLarge = OfText left (λ text. IsOver text held list too_large)
Fails left held list errors.Memory = OfText left (λ text. IsPart text held list)
