-- The plan of a picture: what it may take of the buffer, seen from the last account that is known, and how the bits of its
-- group are shared, by weights or by the source. Amounts that are held are in units of 1/1800 bit.
use Rattle.std.specs.Prelude.{ℕ, zero, suc, ◌+◌, ◌-◌, ◌*◌, ◌/◌, ◌%◌, nat_eq, nat_lt, min, max, if◌then◌else◌, List, [], ◌∷◌, ◌++◌, map, length, slice_index, sum_by, Option, Some, None, option_map}
use Rattle.std.specs.List.{range_with_len}
use Rattle.m2v_set.specs.declared.settings.Settings.{Settings}
use Rattle.m2v_set.specs.Rules.{is_even}
use Rattle.m2v_set.specs.Numbers.{buffer_bits, least_of, delay_of, rows_by, slice_least, mb_width_of}
use Rattle.m2v_vbv.specs.Annex.{Start}
use Rattle.m2v_vbv.specs.Account.{State, opening, after, stuffing_of}
use Rattle.m2v_rate.specs.declared.values.Plan.{Plan}
use Rattle.m2v_rate.specs.declared.values.Known.{Known}
use Rattle.m2v_rate.specs.declared.outlook.Measured.{Measured}
use Rattle.m2v_rate.specs.Sharing.{Outlook, even_plan}

-- what contracts see of a ledger: the account at the first picture of the group, the types of the group's pictures, the
-- times behind them and their activities, the sizes and works of the first of them, the plans of the first of them
-- (quantiser, cap and target), and the last picture of each type in the groups before
pub record Entries : Type 0 where
  pub settings : Settings
  pub account : State
  pub kinds : List ℕ
  pub intervals : List ℕ
  pub activities : List ℕ
  pub sizes : List ℕ
  pub works : List ℕ
  pub quantisers : List ℕ
  pub caps : List ℕ
  pub targets : List ℕ
  pub last_i : Option Known
  pub last_p : Option Known
  pub last_b : Option Known

-- ---- the account

-- what arrives behind a picture until the next is due
abbrev pub income : Entries → ℕ → ℕ
income l j = l.settings.bits * slice_index l.intervals j

-- a picture removed with the fewest zero bytes
abbrev pub removed : State → ℕ → ℕ → State
removed a bits units = after a (bits + stuffing_of a bits units) units

-- the account at a picture of the group, those before it being known
unfoldable pub account_at : Entries → ℕ → State
account_at l zero = l.account
account_at l (suc j) = removed (account_at l j) (slice_index l.sizes j) (slice_index l.intervals j)

-- the first picture whose size isn't known to the plan of picture p
abbrev pub first_open : ℕ → ℕ
first_open p = p - 3

-- the least that can be held so many pictures behind one whose account is known, whatever sizes within their caps; in a
-- ledger a cap is always held, so that neither difference here nor the next is cut off at 0
unfoldable pub low_behind : Entries → ℕ → ℕ → ℕ
low_behind l f zero = (account_at l f).held
low_behind l f (suc n) =
    min (low_behind l f n - 1800 * slice_index l.caps (f + n) + income l (f + n)) (1800 * (buffer_bits l.settings - 8))

-- what is held there if each picture has its target
unfoldable pub mean_behind : Entries → ℕ → ℕ → ℕ
mean_behind l f zero = (account_at l f).held
mean_behind l f (suc n) =
    min (mean_behind l f n - 1800 * min (slice_index l.targets (f + n)) (slice_index l.caps (f + n)) + income l (f + n))
    (1800 * buffer_bits l.settings)

abbrev pub Low : Entries → ℕ → ℕ
Low l p = low_behind l (first_open p) (p - first_open p)

abbrev pub Mean : Entries → ℕ → ℕ
Mean l p = mean_behind l (first_open p) (p - first_open p)

-- the bits that are held where a stream begins
abbrev pub held_first : Settings → ℕ
held_first s = (489600 + 8 * s.bits * delay_of s) / 1800

-- the cap of a picture that is to have so many bits at most, of what is held at least
abbrev pub cap_within : Settings → ℕ → ℕ → ℕ
cap_within s low most = 8 * (min (low / 1800) (max (least_of s) most) / 8)

-- ---- what is known of pictures before

abbrev pub known_at : Entries → ℕ → Known
known_at l j = record {
  bits = slice_index l.sizes j;
  q = slice_index l.quantisers j;
  measured = record { work = slice_index l.works j; activity = slice_index l.activities j };
}

abbrev pub last_of : Entries → ℕ → Option Known
last_of l kind = if nat_eq kind 1 then l.last_i else if nat_eq kind 2 then l.last_p else l.last_b

-- the last picture of a type among the first n of the group and the groups before
unfoldable pub last_known : Entries → ℕ → ℕ → Option Known
last_known l kind zero = last_of l kind
last_known l kind (suc n) =
    if nat_eq (slice_index l.kinds n) kind then Some (known_at l n) else last_known l kind n

-- ---- the plan by weights

-- I pictures take more than P pictures, and these more than B pictures
unfoldable pub weight : ℕ → ℕ
weight kind = if nat_eq kind 1 then 8 else if nat_eq kind 2 then 4 else 2

-- the weights of so many pictures, from picture p on
unfoldable pub weights : Entries → ℕ → ℕ → ℕ
weights l p n = sum_by (λ j. weight (slice_index l.kinds j)) (range_with_len p n)

-- the bits that arrive behind so many pictures, from picture p on
unfoldable pub incomes : Entries → ℕ → ℕ → ℕ
incomes l p n = sum_by (λ j. income l j / 1800) (range_with_len p n)

-- what the pictures of the group from p on may take
unfoldable pub pool : Entries → ℕ → ℕ
pool l p =
    incomes l p (length l.kinds - p) + Mean l p / 1800 - held_first l.settings

unfoldable pub target_of : Entries → ℕ → ℕ
target_of l p = pool l p * weight (slice_index l.kinds p) / weights l p (length l.kinds - p)

-- the quantiser that would have given the target
unfoldable pub quantiser_by : Option Known → ℕ → ℕ
quantiser_by None target = 8
quantiser_by (Some k) target = min 31 (max 1 ((k.bits * k.q + max 1 target - 1) / max 1 target))

-- a picture may have twice its target
unfoldable pub plan_by_weights : Entries → ℕ → Plan
plan_by_weights l p = record {
  q = quantiser_by (last_known l (slice_index l.kinds p) (first_open p)) (target_of l p);
  cap = cap_within l.settings (Low l p) (2 * target_of l p);
  target = target_of l p;
}

-- ---- the plan by the source

-- the bits that arrive behind each picture of the group
abbrev pub incomes_of : Entries → List ℕ
incomes_of l = map (λ units. l.settings.bits * units / 1800) l.intervals

abbrev pub last_measured : Entries → ℕ → ℕ → Option Measured
last_measured l kind p = option_map (λ (k : Known). k.measured) (last_known l kind (first_open p))

-- what it is made of
abbrev pub outlook_of : Entries → ℕ → Outlook
outlook_of l p = record {
  kinds = l.kinds;
  activities = l.activities;
  incomes = incomes_of l;
  last_i = last_measured l 1 p;
  last_p = last_measured l 2 p;
  last_b = last_measured l 3 p;
  mean = Mean l p / 1800;
  low = Low l p / 1800;
  start = held_first l.settings;
}

unfoldable pub plan_by_source : Entries → ℕ → Plan
plan_by_source l p =
    let e = even_plan (outlook_of l p) p in
    record { q = e.q; cap = cap_within l.settings (Low l p) e.most; target = e.target }

-- ---- the plan of a picture, as the settings say

unfoldable pub plan_of : Entries → ℕ → Plan
plan_of l p = if is_even l.settings.planning then plan_by_source l p else plan_by_weights l p

-- ---- slices

-- what is left of a cap beside the headers, an end code and emergency slices
abbrev pub spare : Settings → ℕ → ℕ
spare s cap = cap - least_of s

-- the cap of a slice: an emergency slice and its share of the rest, in whole bytes, what is left of them going to the
-- first slices
unfoldable pub slice_cap_of : Settings → ℕ → ℕ → ℕ
slice_cap_of s cap row =
    let rows = rows_by s.scan s.height in
    slice_least (mb_width_of s) + 8 * (spare s cap / (8 * rows)) + (if nat_lt row (spare s cap / 8 % rows) then 8 else 0)

-- ---- calls of a ledger

-- where the account of a stream with these settings begins
abbrev pub start_of : Settings → Start
start_of s = record { k = s.bits; buffer_bits = buffer_bits s; s = 272; delay = delay_of s }

-- nothing is known, and there is no group
abbrev pub fresh : Settings → Entries
fresh s = record {
  settings = s;
  account = opening (start_of s);
  kinds = [];
  intervals = [];
  activities = [];
  sizes = [];
  works = [];
  quantisers = [];
  caps = [];
  targets = [];
  last_i = None;
  last_p = None;
  last_b = None;
}

-- the next group begins, with these types, times and activities
abbrev pub begun : Entries → List ℕ → List ℕ → List ℕ → Entries
begun l kinds intervals activities = record {
  settings = l.settings;
  account = account_at l (length l.kinds);
  kinds = kinds;
  intervals = intervals;
  activities = activities;
  sizes = [];
  works = [];
  quantisers = [];
  caps = [];
  targets = [];
  last_i = last_known l 1 (length l.kinds);
  last_p = last_known l 2 (length l.kinds);
  last_b = last_known l 3 (length l.kinds);
}

-- the next picture gets its plan
abbrev pub with_plan : Entries → Plan → Entries
with_plan l x = record l {
  quantisers = l.quantisers ++ x.q ∷ [];
  caps = l.caps ++ x.cap ∷ [];
  targets = l.targets ++ x.target ∷ [];
}

-- the size and the work of the next picture are known
abbrev pub with_size : Entries → ℕ → ℕ → Entries
with_size l bits work = record l { sizes = l.sizes ++ bits ∷ []; works = l.works ++ work ∷ [] }
