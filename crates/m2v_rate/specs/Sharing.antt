-- The plan of a picture by the source: what the pictures of a group want, how the bits that they may take are shared, and
-- the quantiser, the target and the most bits that follow. Amounts are in bits.
use Rattle.std.specs.Prelude.{ℕ, ◌≡◌, ◌+◌, ◌-◌, ◌*◌, ◌/◌, ◌^◌, ◌<◌, ◌≤◌, nat_eq, nat_lt, min, max, if◌then◌else◌, All, List, length, slice_index, sum_by, Option, Some, None, IfSome}
use Rattle.std.specs.List.{range_with_len}
use Rattle.m2v_rate.specs.declared.outlook.Measured.{Measured}
use Rattle.m2v_rate.specs.declared.even.EvenPlan.{EvenPlan}
use Rattle.m2v_rate.specs.declared.raising.SliceSoFar.{SliceSoFar}

-- what a plan is made of: of the pictures of the group in coding order their types (1 is I, 2 is P, 3 is B), their activities
-- and the bits that arrive behind each; the last coded picture of each type that is known; what is held when the picture is
-- due, if each before it has its target, and at least; and what is held where a stream begins
pub record Outlook : Type 0 where
  pub kinds : List ℕ
  pub activities : List ℕ
  pub incomes : List ℕ
  pub last_i : Option Measured
  pub last_p : Option Measured
  pub last_b : Option Measured
  pub mean : ℕ
  pub low : ℕ
  pub start : ℕ

-- ---- what a picture wants

-- the work that a picture is likely to take: that of the last one of its type, as the activity grew or fell
unfoldable pub complexity : Option Measured → ℕ → ℕ
complexity None activity = activity / 4
complexity (Some n) activity =
    if nat_lt n.activity activity then n.work + (activity - n.activity) / 4
    else n.work * activity / n.activity

-- P pictures are coded more coarsely than I pictures, and B pictures more than these
unfoldable pub coarseness : ℕ → ℕ
coarseness kind = if nat_eq kind 1 then 13 else if nat_eq kind 2 then 16 else 20

abbrev pub last_of : Outlook → ℕ → Option Measured
last_of o kind = if nat_eq kind 1 then o.last_i else if nat_eq kind 2 then o.last_p else o.last_b

abbrev pub kind_at : Outlook → ℕ → ℕ
kind_at o j = slice_index o.kinds j

unfoldable pub complexity_at : Outlook → ℕ → ℕ
complexity_at o j = complexity (last_of o (kind_at o j)) (slice_index o.activities j)

unfoldable pub need : Outlook → ℕ → ℕ
need o j = 16 * complexity_at o j / coarseness (kind_at o j)

-- ---- what there is

-- a sum over the pictures from p on
unfoldable pub from_on : Outlook → (ℕ → ℕ) → ℕ → ℕ
from_on o f p = sum_by f (range_with_len p (length o.kinds - p))

-- of what is left of the group, and of a whole group like it
abbrev pub ahead : Outlook → (ℕ → ℕ) → ℕ → ℕ
ahead o f p = from_on o f p + from_on o f 0

abbrev pub income : Outlook → ℕ → ℕ
income o j = slice_index o.incomes j

unfoldable pub needs : Outlook → ℕ → ℕ
needs o p = max 1 (ahead o (need o) p)

-- what these pictures may take: what arrives, and what is held above what is held where a stream begins; a fourth of what
-- arrives at least
unfoldable pub pool : Outlook → ℕ → ℕ
pool o p = max (ahead o (income o) p / 4) (ahead o (income o) p + o.mean - o.start)

-- the share of picture j in it
unfoldable pub share : Outlook → ℕ → ℕ → ℕ
share o p j = need o j * pool o p / needs o p

-- ---- the plan of picture p

-- the quantiser by which what all these pictures want is what they may take
unfoldable pub quantiser : Outlook → ℕ → ℕ
quantiser o p =
    min 31 (max 1 ((coarseness (kind_at o p) * needs o p + 8 * pool o p) / (16 * pool o p)))

unfoldable pub target : Outlook → ℕ → ℕ
target o p = complexity_at o p / quantiser o p

-- what picture j may want beyond what arrives right before it
unfoldable pub lack : Outlook → ℕ → ℕ → ℕ
lack o p j = 5 * share o p j / 4 - income o (j - 1)

-- what is left to the next three pictures
unfoldable pub reserve : Outlook → ℕ → ℕ
reserve o p = sum_by (lack o p) (range_with_len (p + 1) (min 3 (length o.kinds - (p + 1))))

-- the most bits: three shares, and no more than is held beside the reserve, but a share and a quarter in any case
unfoldable pub most : Outlook → ℕ → ℕ
most o p = min (3 * share o p p) (max (5 * share o p p / 4) (o.low - reserve o p))

abbrev pub even_plan : Outlook → ℕ → EvenPlan
even_plan o p = record { q = quantiser o p; target = target o p; most = most o p }

-- ---- conditions

-- the work of a coded picture
pub record IsMeasured (n : Measured) : Type 0 where
  pub work : n.work < 2 ^ 29

-- the activity of a picture of a group
pub record IsPictureActivity (a : ℕ) : Type 0 where
  pub some : 1 ≤ a
  pub most : a < 2 ^ 30

pub record IsIncome (bits : ℕ) : Type 0 where
  pub some : 4 ≤ bits
  pub most : bits < 2 ^ 24

-- the numbers of a group are as many as its pictures, and within the bounds of all levels
pub record IsOutlook (o : Outlook) : Type 0 where
  pub few : length o.kinds ≤ 126
  pub active : length o.activities ≡ length o.kinds
  pub timed : length o.incomes ≡ length o.kinds
  pub activities : All IsPictureActivity o.activities
  pub incomes : All IsIncome o.incomes
  pub last_i : IfSome o.last_i IsMeasured
  pub last_p : IfSome o.last_p IsMeasured
  pub last_b : IfSome o.last_b IsMeasured
  pub mean : o.mean < 2 ^ 24
  pub low : o.low < 2 ^ 24
  pub start : o.start < 2 ^ 40

-- ---- in a slice

-- the quantiser of a macroblock behind the first: at least that of the slice, and such that the macroblocks from this one on,
-- at so much work for their activity as those before took, fit what is left of the slice's bits; rounded up
unfoldable pub raised : ℕ → SliceSoFar → ℕ
raised q s =
    let room = s.before * max 1 s.left in
    min 31 (max q ((s.work * s.ahead + room - 1) / room))

-- the bounds of all levels; some macroblock stands before
pub record IsSliceSoFar (s : SliceSoFar) : Type 0 where
  pub work : s.work < 2 ^ 25
  pub ahead : s.ahead < 2 ^ 23
  pub some : 1 ≤ s.before
  pub before : s.before < 2 ^ 23
  pub left : s.left < 2 ^ 24
