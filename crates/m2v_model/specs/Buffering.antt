-- The buffer's account of a stream (Annex C): what each picture takes, and when; and whether the buffer bears it.
use Rattle.std.specs.Prelude.{◌≡◌, ℕ, zero, suc, ◌+◌, ◌-◌, ◌*◌, ◌/◌, ◌≤◌, ◌↔◌, ◌⊎◌, min, max, Bool, false, ◌&&◌, not, nat_eq, nat_le, if◌then◌else◌, List, [], ◌∷◌, ◌++◌, length, map, sum, drop, slice_index, slice_get, Option, Some, None}
use Rattle.m2v_order.specs.m2v_set.Numbers.{field_time, frame_time, film_time}
use Rattle.m2v_vbv.specs.Annex.{Start, Removal, Held}
use Rattle.m2v_vbv.specs.Account.{account_of, arriving}
use Rattle.m2v_vbv.specs.declared.fault.AccountFault.{AccountFault}
use Rattle.m2v_vbv.specs.declared.fault.AccountFault.TheVariants.{Under, Over}
use Rattle.m2v_model.specs.declared.state.Sequence.{Sequence}
use Rattle.m2v_model.specs.States.{is_frame, is_b}
use Rattle.m2v_model.specs.Units.{Units, cut}
use Rattle.m2v_model.specs.Streams.{Sofar}
use Rattle.m2v_model.specs.Pieces.{pieces}
use Rattle.m2v_model.specs.Decoding.{Stream, events, low_delay_of}
use Rattle.m2v_model.specs.Lawful.{Breach, Lawful, Broken, Numbered, rate_of, buffer_of, all_numbered}

-- ---- times (clauses C.9 to C.12), in units of 1/720,000 s

-- a frame picture whose first field is shown again
abbrev pub repeats : Numbered → Bool
repeats n = not n.sequence.extension.progressive_sequence && (is_frame n.picture.extension && n.picture.extension.repeat_first_field)

-- the time of a frame, or of three fields, by frame_rate_code
abbrev pub time_shown : Bool → ℕ → ℕ
time_shown repeated code = if repeated then film_time code else frame_time code

-- The time from the removal of each picture to that of the next one; `before` tells whether the last anchor repeats. An
-- anchor is removed as long before the next picture as the anchor before it is shown; a B frame, and with low_delay each
-- frame, as long as it is shown itself.
unfoldable pub intervals : Bool → ℕ → Bool → List Numbered → List ℕ
intervals low_delay code before [] = []
intervals low_delay code before (n ∷ ns) =
    let anchor = not (is_b n.picture.info.kind) in
    let after = if anchor && n.picture.ends_frame then repeats n else before in
    (if is_frame n.picture.extension then time_shown (if anchor && not low_delay then before else repeats n) code
    else if anchor && n.picture.ends_frame && before then frame_time code else field_time code)
    ∷ intervals low_delay code after ns

-- ---- sizes, in bits

-- The sizes of so many pictures, from those of the pieces: piece i has picture i, but a last piece may have none
-- (`TellsPictures`). The last picture has all that stands behind it.
unfoldable pub sizes : ℕ → List ℕ → List ℕ
sizes zero ls = []
sizes (suc zero) ls = sum ls ∷ []
sizes (suc n) [] = []
sizes (suc n) (l ∷ ls) = l ∷ sizes n ls

-- the bytes before the first picture unit
unfoldable pub before_picture : Units → ℕ
before_picture [] = 0
before_picture (u ∷ us) = if nat_eq (slice_index u 3) 0x00 then 0 else length u + before_picture us

abbrev pub bits_of_piece : List ℕ → ℕ
bits_of_piece p = 8 * length p

-- the bits of a piece up to the end of its picture start code
abbrev pub code_bits : List ℕ → ℕ
code_bits p = 8 * before_picture (cut 0 p).1 + 32

-- where the picture start codes of pieces end, behind so many bits: that of piece i is that of picture i, as above
unfoldable pub codes : ℕ → List (List ℕ) → List ℕ
codes at [] = []
codes at (p ∷ ps) = (at + code_bits p) ∷ codes (at + bits_of_piece p) ps

-- the bits up to the end of the first picture start code
abbrev pub first_code : List (List ℕ) → ℕ
first_code [] = 0
first_code (p ∷ ps) = code_bits p

-- ---- the account

unfoldable pub joined_removals : List ℕ → List ℕ → List Removal
joined_removals [] us = []
joined_removals (b ∷ bs) [] = []
joined_removals (b ∷ bs) (u ∷ us) = record { bits = b; units = u } ∷ joined_removals bs us

-- the removals of a stream: the bits of each picture, and the time to the next one
abbrev pub removals : Bool → ℕ → List ℕ → List Numbered → List Removal
removals low_delay code ls ns = joined_removals (sizes (length ns) ls) (intervals low_delay code false ns)

-- all that a stream's buffer is judged by: its starting numbers, its bits from the first sequence header on, and its
-- removals
pub record StreamAccount : Type 0 where
  pub start : Start
  pub total : ℕ
  pub removals : List Removal

-- the account of a stream whose first sequence header and first picture are these
abbrev pub account_from : Bool → Sequence → Numbered → List (List ℕ) → List Numbered → StreamAccount
account_from low_delay s first ps ns = record {
  start = record { k = rate_of s; buffer_bits = 16384 * buffer_of s; s = first_code ps; delay = first.picture.info.vbv_delay };
  total = sum (map bits_of_piece ps);
  removals = removals low_delay s.info.frame_rate_code (map bits_of_piece ps) ns;
}

-- the account of pieces and pictures: its rate, its buffer and its frame rate are those of the first sequence header; a
-- stream without a picture has none
abbrev pub account_by : Bool → Option Sequence → List (List ℕ) → List Numbered → Option StreamAccount
account_by low_delay (Some s) ps (n ∷ ns) = Some (account_from low_delay s n ps (n ∷ ns))
account_by low_delay (Some s) ps [] = None
account_by low_delay None ps ns = None

-- the account of a stream in its text, by the low_delay of its first sequence extension
abbrev pub account_in : List ℕ → Sofar → Option StreamAccount
account_in text tree = account_by (low_delay_of tree.state.first) tree.state.first (pieces text) (all_numbered (events tree))

-- ---- safety

-- a picture that isn't whole in the buffer when it is removed, and then a buffer that doesn't take what is held then
unfoldable pub unsafe_at : StreamAccount → List Removal → Removal → List AccountFault
unsafe_at a before r =
    let held = Held a.start a.total before in
    (if nat_le (1800 * r.bits) held then [] else Under (length before) held (1800 * r.bits) ∷ [])
    ++ (if nat_le held (1800 * a.start.buffer_bits) then [] else Over (length before) held (1800 * a.start.buffer_bits) ∷ [])

unfoldable pub unsafe_from : StreamAccount → List Removal → List Removal → List AccountFault
unsafe_from a before [] = []
unsafe_from a before (r ∷ rs) = unsafe_at a before r ++ unsafe_from a (before ++ r ∷ []) rs

-- all that is unsafe, picture by picture
abbrev pub unsafe_in : Option StreamAccount → List AccountFault
unsafe_in None = []
unsafe_in (Some a) = unsafe_from a [] a.removals

-- each picture is whole in the buffer when it is removed, and the buffer takes what is held then
abbrev pub IsSafe : StreamAccount → Type 0
IsSafe a =
    (before : List Removal) (r : Removal) (later : List Removal) → a.removals ≡ before ++ r ∷ later
    → (1800 * r.bits ≤ Held a.start a.total before) × (Held a.start a.total before ≤ 1800 * a.start.buffer_bits)

-- nothing is unsafe exactly where each picture is safe
abbrev pub IsJudgedByAll : StreamAccount → Type 0
IsJudgedByAll a = (unsafe_in (Some a) ≡ []) ↔ IsSafe a

-- ---- figures

-- what is held when each picture is removed, and what it takes, in units of 1/1800 bit
unfoldable pub amounts_from : StreamAccount → List Removal → List Removal → List (ℕ × ℕ)
amounts_from a before [] = []
amounts_from a before (r ∷ rs) = (Held a.start a.total before, 1800 * r.bits) ∷ amounts_from a (before ++ r ∷ []) rs

abbrev pub amounts : StreamAccount → List (ℕ × ℕ)
amounts a = amounts_from a [] a.removals

-- 0 where there is none
unfoldable pub least : List ℕ → ℕ
least [] = 0
least (x ∷ []) = x
least (x ∷ xs) = min x (least xs)

unfoldable pub greatest : List ℕ → ℕ
greatest [] = 0
greatest (x ∷ xs) = max x (greatest xs)

-- the least that a picture leaves, and the most that is held, in bits, rounded down
abbrev pub low_of : StreamAccount → ℕ
low_of a = least (map (λ (x : ℕ × ℕ). x.0 - x.1) (amounts a)) / 1800

abbrev pub high_of : StreamAccount → ℕ
high_of a = greatest (map (λ (x : ℕ × ℕ). x.0) (amounts a)) / 1800

-- The exact delay of a picture whose start code ends at a bit, behind these removals: the time from there to its removal,
-- in ticks of 1/90,000 s, rounded down. No bit of a safe stream comes after the removal of its picture, so there the
-- difference in it is never cut at 0.
abbrev pub exact_delay : Start → List Removal → ℕ → ℕ
exact_delay start before code = arriving (account_of start before) code / (8 * start.k)

unfoldable pub exact_delays_from : Start → List Removal → List ℕ → List Removal → List ℕ
exact_delays_from start before [] rs = []
exact_delays_from start before (c ∷ cs) [] = []
exact_delays_from start before (c ∷ cs) (r ∷ rs) = exact_delay start before c ∷ exact_delays_from start (before ++ r ∷ []) cs rs

-- those of all pictures
abbrev pub exact_delays : List (List ℕ) → StreamAccount → List ℕ
exact_delays ps a = exact_delays_from a.start [] (codes 0 ps) a.removals

-- how many pictures have another vbv_delay
unfoldable pub other_delays : List Numbered → List ℕ → ℕ
other_delays [] ds = 0
other_delays (n ∷ ns) [] = 0
other_delays (n ∷ ns) (d ∷ ds) = (if nat_eq n.picture.info.vbv_delay d then 0 else 1) + other_delays ns ds

-- the figures of an account: the delays are those behind the first picture that aren't exact
pub record BufferFigures : Type 0 where
  pub low : ℕ
  pub high : ℕ
  pub delays : ℕ

unfoldable pub figures_of : List (List ℕ) → List Numbered → Option StreamAccount → BufferFigures
figures_of ps ns None = record { low = 0; high = 0; delays = 0 }
figures_of ps ns (Some a) = record {
  low = low_of a;
  high = high_of a;
  delays = other_delays (drop 1 ns) (drop 1 (exact_delays ps a));
}

abbrev pub figures_in : List ℕ → Sofar → BufferFigures
figures_in text tree = figures_of (pieces text) (all_numbered (events tree)) (account_in text tree)

-- ---- texts

-- the text is a stream without a fault, and each of its pictures is whole in the buffer when it is removed, and the buffer
-- takes what is held then
pub record Safe (text : List ℕ) : Type 0 where
  pub tree : Sofar
  pub stream : Stream text tree
  pub safe : unsafe_in (account_in text tree) ≡ []

-- the text is a stream without a fault, and so its account fails first: at the least picture, by what it takes before by
-- what is held
pub record FirstUnsafe (text : List ℕ) (f : AccountFault) : Type 0 where
  pub tree : Sofar
  pub stream : Stream text tree
  pub others : List AccountFault
  pub unsafe : unsafe_in (account_in text tree) ≡ f ∷ others

-- the text is a stream without a fault, with these figures
pub record HasFigures (text : List ℕ) (f : BufferFigures) : Type 0 where
  pub tree : Sofar
  pub stream : Stream text tree
  pub figures : f ≡ figures_in text tree

-- the text is a stream without a fault, and this is the exact delay of the picture of a number
pub record HasExactDelay (text : List ℕ) (number delay : ℕ) : Type 0 where
  pub tree : Sofar
  pub stream : Stream text tree
  pub account : StreamAccount
  pub told : account_in text tree ≡ Some account
  pub delay_is : slice_get (exact_delays (pieces text) account) number ≡ Some delay

-- Of a stream exactly one holds: no rule is broken, or one is broken first; and exactly one: it is safe, or its account
-- fails first. Each has one value, and so have the figures.
pub record OneVerdict (text : List ℕ) : Type 0 where
  pub rules : Lawful text ⊎ ((b : Breach) × Broken text b)
  pub not_lawful : (b : Breach) → Lawful text → Broken text b → ⊥
  pub one_breach : (b c : Breach) → Broken text b → Broken text c → b ≡ c
  pub buffer : Safe text ⊎ ((f : AccountFault) × FirstUnsafe text f)
  pub not_safe : (f : AccountFault) → Safe text → FirstUnsafe text f → ⊥
  pub one_failure : (f g : AccountFault) → FirstUnsafe text f → FirstUnsafe text g → f ≡ g
  pub some_figures : (f : BufferFigures) × HasFigures text f
  pub one_figures : (f g : BufferFigures) → HasFigures text f → HasFigures text g → f ≡ g
