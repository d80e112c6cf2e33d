-- The words of a YUV4MPEG2 text: lines, words and numbers.
use Rattle.std.specs.Prelude.{ℕ, ◌+◌, ◌-◌, ◌*◌, ◌^◌, ◌==◌, Bool, ◌&&◌, ◌||◌, nat_le, List, [], ◌∷◌, length, take, fold, min, position, slice_index_or, Option, Some, None, if◌then◌else◌}
use Rattle.std.specs.List.{starts_with, list_all}

-- how many bytes a line has before its newline; None where its first 1,024 bytes hold no newline
unfoldable pub line_length : List ℕ → Option ℕ
line_length text = position (λ b. b == 10) (take 1024 text)

-- a text begins with this word, and then comes a space or a newline
unfoldable pub begins : List ℕ → List ℕ → Bool
begins word text =
    starts_with (λ a b. a == b) text word
    && (slice_index_or text (length word) 0 == 32 || slice_index_or text (length word) 0 == 10)

-- the words of a line without its newline: what stands before, between and behind its spaces
abbrev pub with_byte : ℕ → List (List ℕ) → List (List ℕ)
with_byte b [] = []
with_byte b (word ∷ others) = if b == 32 then [] ∷ word ∷ others else (b ∷ word) ∷ others

unfoldable pub words : List ℕ → List (List ℕ)
words [] = [] ∷ []
words (b ∷ text) = with_byte b (words text)

-- a number of 1 to so many decimal digits
abbrev pub is_digit : ℕ → Bool
is_digit b = nat_le 48 b && nat_le b 57

abbrev pub value_of : List ℕ → ℕ
value_of digits = fold (λ n b. 10 * n + (b - 48)) 0 digits

unfoldable pub number_of : ℕ → List ℕ → Option ℕ
number_of most text =
    if nat_le 1 (length text) && nat_le (length text) most && list_all is_digit text then Some (value_of text) else None

-- the place so many bytes further on; places are counted up to 2 ^ 64 - 1
abbrev pub onward : ℕ → ℕ → ℕ
onward place n = min (place + n) (2 ^ 64 - 1)
