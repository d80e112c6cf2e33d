-- The texts of an input, one behind another.
use Rattle.std.specs.Prelude.{◌≡◌, ℕ, ◌+◌, ◌≤◌, true, false, List, ◌++◌, length, drop}
use Rattle.m2v_model.specs.Units.{joined}
use Rattle.m2v_model.specs.Pieces.{before_pieces, pieces}
use Rattle.m2v_dec_piece.specs.Following.{text_after}
use Rattle.m2v_dec_piece.specs.Cutting.{Cutting, follows_of}

-- each byte of a text stands before its pieces, in one of them, or in the text that follows
abbrev pub IsAllOf : List ℕ → Type 0
IsAllOf text = text ≡ before_pieces text ++ (joined (pieces text) ++ text_after text)

-- with this left of an input, a cutter stands before a text: it is the input from the cutter's place on
pub record IsAtText (input : List ℕ) (c : Cutting) (left : List ℕ) : Type 0 where
  pub begun : c.begun ≡ false
  pub ended : c.ended ≡ false
  pub text : c.unread ++ left ≡ drop c.place input
  pub within : c.place ≤ length input

-- bytes were read, and with this left the text that follows is the same as before
pub record ReadsOn (old : Cutting) (bytes : List ℕ) (new : Cutting) (rest : List ℕ) : Type 0 where
  pub behind : follows_of old (bytes ++ rest) ≡ follows_of new rest
  pub place : new.place + length new.unread ≡ (old.place + length old.unread) + length bytes

-- where a cutter goes on
abbrev pub anew : Cutting → Cutting
anew c = record c { begun = false; ended = false }

-- A cutter that stood before a text, and has come to its end, has left the text that follows, and stands before that
-- where it goes on.
abbrev pub ComesToNext : List ℕ → Cutting → List ℕ → Cutting → List ℕ → Type 0
ComesToNext input old bytes new rest =
    IsAtText input old (bytes ++ rest) → ReadsOn old bytes new rest → new.ended ≡ true → (new.unread ++ rest ≡ text_after (old.unread ++ (bytes ++ rest))) × IsAtText input (anew new) rest
