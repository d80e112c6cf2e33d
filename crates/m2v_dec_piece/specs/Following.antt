-- The text that follows the sequence of a text: what stands behind the four bytes of the sequence end code (value B7)
-- that ends the sequence, and nothing where no end code does.
use Rattle.std.specs.Prelude.{ℕ, Bool, true, false, nat_eq, List, [], ◌∷◌, ◌++◌, drop, slice_index, if◌then◌else◌}
use Rattle.m2v_model.specs.Units.{Units, cut, joined}
use Rattle.m2v_model.specs.Pieces.{is_end}

-- The text that follows units, by whether their sequence has begun. It begins with the first sequence header (value
-- B3): an end code before that counts for nothing. From then on the first end code ends it.
unfoldable pub following : Bool → Units → List ℕ
following false [] = []
following true [] = []
following false (u ∷ us) = following (nat_eq (slice_index u 3) 0xB3) us
following true (u ∷ us) = if is_end (slice_index u 3) then drop 4 u ++ joined us else following true us

-- the text that follows another, whose sequence has begun or not
abbrev pub following_in : Bool → List ℕ → List ℕ
following_in begun text = following begun (cut 0 text).1

-- the text that follows a text's sequence
abbrev pub text_after : List ℕ → List ℕ
text_after text = following_in false text
