-- A text of bits, the first bit first; `true` is 1 (clause 4.6 of ISO/IEC 13818-2: bits stand in bytes the highest first).
use Rattle.std.specs.Prelude.{◌≡◌, ℕ, zero, suc, ◌+◌, ◌/◌, ◌%◌, ◌-◌, ◌^◌, ◌<◌, Bool, true, false, ◌==◌, cond, List, [], ◌∷◌, ◌++◌, length, drop, get_or, replicate, slice_index}
use Rattle.std.specs.List.{flat_map}

-- the n lowest bits of v, the highest of them first
unfoldable pub bits_of : ℕ → ℕ → List Bool
bits_of zero v = []
bits_of (suc n) v = (v / 2 ^ n % 2 == 1) ∷ bits_of n v

-- the number that the bits spell, the highest first
unfoldable pub number : List Bool → ℕ
number [] = 0
number (b ∷ bs) = cond b (2 ^ length bs) 0 + number bs

-- the bits of bytes, the highest of each byte first
abbrev pub bits : List ℕ → List Bool
bits bytes = flat_map (bits_of 8) bytes

-- the bytes that the bits fill; bits behind the last whole byte are left out
unfoldable pub packed : List Bool → List ℕ
packed (a ∷ b ∷ c ∷ d ∷ e ∷ f ∷ g ∷ h ∷ rest) = number (a ∷ b ∷ c ∷ d ∷ e ∷ f ∷ g ∷ h ∷ []) ∷ packed rest
packed _ = []

-- one text, and then another: `++`, grouped to the right as fields stand in a syntax table
infixr 10 ◌⧺◌
abbrev pub ◌⧺◌ : List Bool → List Bool → List Bool
a ⧺ b = a ++ b

-- a start code: the prefix 0000 0000 0000 0000 0000 0001, and its value (clause 6.2.1)
abbrev pub start_code : ℕ → List Bool
start_code v = bits_of 24 1 ++ bits_of 8 v

-- whether each bit is 0
unfoldable pub all_zero : List Bool → Bool
all_zero [] = true
all_zero (b ∷ bs) = cond b false (all_zero bs)

-- how many bits are left from the first 1 on
unfoldable pub first_one : List Bool → ℕ
first_one [] = 0
first_one (b ∷ bs) = cond b (suc (length bs)) (first_one bs)

-- the next n bits, zeros past the end
unfoldable pub ahead : ℕ → List Bool → List Bool
ahead zero bs = []
ahead (suc n) [] = false ∷ ahead n []
ahead (suc n) (b ∷ bs) = b ∷ ahead n bs

-- a text behind which so many zero bits stand
unfoldable pub padded : List Bool → ℕ → List Bool
padded t n = t ++ replicate n false

-- how many bits stand between n and the edge of a byte
abbrev pub to_edge : ℕ → ℕ
to_edge n = (8 - n % 8) % 8

-- zero bits up to the edge of a byte, as they stand before each start code (clause 5.2.3)
abbrev pub aligned : List Bool → List Bool
aligned t = t ++ replicate (to_edge (length t)) false

-- a unit: a start code, what follows it, and zero bits up to the edge of a byte (clause 5.2.3)
abbrev pub unit : ℕ → List Bool → List Bool
unit value t = aligned (start_code value ++ t)

-- the text ends at the edge of a byte
abbrev pub IsEdge : List Bool → Type 0
IsEdge t = length t % 8 ≡ 0

-- how a writer is seen: the bits written, and how many more there is room for
pub record Written : Type 0 where
  pub written : List Bool
  pub room : ℕ

-- how a reader is seen: the whole text, the place of the next bit in it, and the bits from there on
pub record Unread : Type 0 where
  pub text : List Bool
  pub place : ℕ
  pub rest : List Bool

-- the reader n bits on
abbrev pub past : ℕ → Unread → Unread
past n r = record { text = r.text; place = r.place + n; rest = drop n r.rest }

-- what holds of each reader: the rest is the text from the place on
pub record IsSound (r : Unread) : Type 0 where
  pub suffix : r.rest ≡ drop r.place r.text
  pub sum : r.place + length r.rest ≡ length r.text

-- the prefix of a start code, 00 00 01, stands at byte i (clause 5.2.3)
abbrev pub IsStartCode : List ℕ → ℕ → Type 0
IsStartCode bytes i = (i + 2 < length bytes) × (slice_index bytes i ≡ 0) × (slice_index bytes (i + 1) ≡ 0) × (slice_index bytes (i + 2) ≡ 1)

-- of the first bytes, so many, none begins a pair of zeros; behind the last byte stands 0
abbrev pub HasNoPair : ℕ → List ℕ → Type 0
HasNoPair n bytes = (k : ℕ) → k < n → 0 < get_or bytes k 0 + get_or bytes (k + 1) 0
