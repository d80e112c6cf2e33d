-- The header line of a YUV4MPEG2 text: its magic and its parameters, or its first fault.
use Rattle.std.specs.Prelude.{ℕ, ◌+◌, ◌*◌, ◌==◌, Bool, true, false, ◌&&◌, ◌||◌, nat_le, List, [], ◌∷◌, length, take, drop, position, Option, Some, None, option_map, Result, Ok, Err, codes, slice_index, if◌then◌else◌}
use Rattle.std.specs.List.{range_with_len}
use Rattle.std.specs.Cmp.Lexicographic.{pointwise}
use Rattle.m2v_y4m.specs.declared.answer.Y4mFault.{Y4mFault}
use Rattle.m2v_y4m.specs.declared.answer.Y4mKind.{Y4mKind}
use Rattle.m2v_y4m.specs.declared.answer.Y4mKind.TheVariants.{Magic, Line, Field, Size, Rate, Interlace, Chroma}
use Rattle.m2v_y4m.specs.declared.header.Y4mHeader.{Y4mHeader}
use Rattle.m2v_y4m.specs.declared.words.Seen.{Seen}
use Rattle.m2v_y4m.specs.declared.opening.Opening.{Opening}
use Rattle.m2v_y4m.specs.Texts.{line_length, begins, words, number_of}

-- the rates of the codes 1 to 8 in lowest terms, frames in seconds (table 6-4)
unfoldable pub rate_frames : List ℕ
rate_frames = 24000 ∷ 24 ∷ 25 ∷ 30000 ∷ 30 ∷ 50 ∷ 60000 ∷ 60 ∷ []

unfoldable pub rate_seconds : List ℕ
rate_seconds = 1001 ∷ 1 ∷ 1 ∷ 1001 ∷ 1 ∷ 1 ∷ 1001 ∷ 1 ∷ []

-- whether n frames in d seconds are the rate at this place of the tables
abbrev pub is_rate : ℕ → ℕ → ℕ → Bool
is_rate n d i = n * slice_index rate_seconds i == slice_index rate_frames i * d

-- the code of the rate that n frames in d seconds are
unfoldable pub code_of : ℕ → ℕ → Option ℕ
code_of n d = option_map (λ i. i + 1) (position (is_rate n d) (range_with_len 0 8))

-- no parameter was read yet
abbrev pub none_seen : Seen
none_seen = record { width = None; height = None; rate = None; top = None; chroma = None }

-- the same text
abbrev pub is_text : List ℕ → List ℕ → Bool
is_text text word = pointwise (λ a b. a == b) text word

-- a size, at most so much
abbrev pub size_of : ℕ → Option ℕ → Result ℕ Y4mKind
size_of most None = Err Field
size_of most (Some n) = if nat_le 1 n && nat_le n most then Ok n else Err Size

-- a rate from its two numbers
abbrev pub or_rate : Option ℕ → Result ℕ Y4mKind
or_rate None = Err Rate
or_rate (Some code) = Ok code

abbrev pub rate_by : Option ℕ → Option ℕ → Result ℕ Y4mKind
rate_by None d = Err Field
rate_by (Some n) None = Err Field
rate_by (Some n) (Some d) = if d == 0 then Err Rate else or_rate (code_of n d)

-- the two numbers stand before and behind the first colon
abbrev pub rate_at : List ℕ → Option ℕ → Result ℕ Y4mKind
rate_at value None = Err Field
rate_at value (Some k) = rate_by (number_of 10 (take k value)) (number_of 10 (drop (k + 1) value))

unfoldable pub rate_of : List ℕ → Result ℕ Y4mKind
rate_of value = rate_at value (position (λ b. b == 58) value)

-- whether the top field is said to come first
unfoldable pub top_of : List ℕ → Result Bool Y4mKind
top_of value =
    if is_text value (codes "t") then Ok true
    else if is_text value (codes "p") || is_text value (codes "?") then Ok false
    else Err Interlace

-- a sampling of 8 bits and 4:2:0
unfoldable pub chroma_of : List ℕ → Result Bool Y4mKind
chroma_of value =
    if is_text value (codes "420") || is_text value (codes "420jpeg") || is_text value (codes "420mpeg2") || is_text value (codes "420paldv")
    then Ok true else Err Chroma

-- a parameter that may come once: one that comes again is a fault, whatever its value
abbrev pub once : {T : Type 0} → Option T → Result T Y4mKind → Result T Y4mKind
once (Some before) value = Err Field
once None value = value

abbrev pub then_see : {T : Type 0} → Result T Y4mKind → (T → Seen) → Result Seen Y4mKind
then_see (Ok value) see = Ok (see value)
then_see (Err kind) see = Err kind

-- what the next word adds: W, H, F, I and C are known by their first letter, and other words are skipped
unfoldable pub parameter : Seen → ℕ → List ℕ → Result Seen Y4mKind
parameter seen letter value =
    if letter == 87 then then_see (once seen.width (size_of 1920 (number_of 4 value))) (λ n. record seen { width = Some n })
    else if letter == 72 then then_see (once seen.height (size_of 1152 (number_of 4 value))) (λ n. record seen { height = Some n })
    else if letter == 70 then then_see (once seen.rate (rate_of value)) (λ code. record seen { rate = Some code })
    else if letter == 73 then then_see (once seen.top (top_of value)) (λ top. record seen { top = Some top })
    else if letter == 67 then then_see (once seen.chroma (chroma_of value)) (λ is. record seen { chroma = Some is })
    else Ok seen

unfoldable pub with_word : Seen → List ℕ → Result Seen Y4mKind
with_word seen [] = Err Field
with_word seen (letter ∷ value) = parameter seen letter value

-- a fault of this kind at this place
abbrev pub fault_at : Y4mKind → ℕ → Y4mFault
fault_at kind place = record { kind = kind; place = place }

abbrev pub go_on : Result Seen Y4mKind → ℕ → (Seen → Result Seen Y4mFault) → Result Seen Y4mFault
go_on (Ok seen) place next = next seen
go_on (Err kind) place next = Err (fault_at kind place)

-- word by word from a place on, each behind one space; the first word that isn't as said is the fault
unfoldable pub with_words : Seen → ℕ → List (List ℕ) → Result Seen Y4mFault
with_words seen place [] = Ok seen
with_words seen place (word ∷ others) =
    go_on (with_word seen word) place (λ more. with_words more (place + length word + 1) others)

-- W, H and F were there; else it is a fault of the newline
abbrev pub is_top : Option Bool → Bool
is_top None = false
is_top (Some top) = top

abbrev pub header_by : Option ℕ → Option ℕ → Option ℕ → Bool → Option Y4mHeader
header_by None height rate top = None
header_by (Some width) None rate top = None
header_by (Some width) (Some height) None top = None
header_by (Some width) (Some height) (Some code) top =
    Some (record { width = width; height = height; rate_code = code; top = top })

unfoldable pub header_of : Seen → Option Y4mHeader
header_of seen = header_by seen.width seen.height seen.rate (is_top seen.top)

abbrev pub opening_by : ℕ → Option Y4mHeader → Result Opening Y4mFault
opening_by n None = Err (fault_at Field n)
opening_by n (Some header) = Ok (record { header = header; length = n + 1 })

abbrev pub opening_with : ℕ → Result Seen Y4mFault → Result Opening Y4mFault
opening_with n (Err fault) = Err fault
opening_with n (Ok seen) = opening_by n (header_of seen)

abbrev pub magic : List ℕ
magic = codes "YUV4MPEG2"

-- the words from a place on; there is none where the line ends before it
abbrev pub words_from : ℕ → List ℕ → List (List ℕ)
words_from at line = if nat_le at (length line) then words (drop at line) else []

-- the header line, of which so many bytes stand before the newline
abbrev pub opening_at : List ℕ → Option ℕ → Result Opening Y4mFault
opening_at text None = Err (fault_at Line 0)
opening_at text (Some n) = opening_with n (with_words none_seen 10 (words_from 10 (take n text)))

-- The header line of a text, or its first fault: no magic; no newline; a word that isn't as said; or W, H or F missing.
unfoldable pub opening : List ℕ → Result Opening Y4mFault
opening text = if begins magic text then opening_at text (line_length text) else Err (fault_at Magic 0)
