-- The account of a sequence's buffer as it is told, picture by picture, while the sequence is read (Annex C): the removal of
-- a picture is told as soon as no bit that follows can change what is told of it. Amounts are in units of 1/1800 bit.
use Rattle.std.specs.Prelude.{ℕ, ◌+◌, ◌*◌, ◌<◌, ◌≤◌, ◌≡◌, ◌^◌, nat_le, Bool, if◌then◌else◌, List, [], ◌∷◌, ◌++◌, map, Option, Some, None, IfSome}
use Rattle.std.specs.List.{zip, AllByRecursion}
use Rattle.std.specs.Option.{option_map, option_to_list}
use Rattle.m2v_vbv.specs.declared.removed.Removed.{Removed}
use Rattle.m2v_vbv.specs.Buffer.{Picture, Buffer, reach, told, next, left, tells}
use Rattle.m2v_audit.specs.declared.account.Due.{Due}

-- a picture as the buffer sees it
abbrev pub picture_of : Due → Picture
picture_of d = record { bits = d.bits; code_bits = d.code_bits; units = d.units }

abbrev pub pictures : List Due → List Picture
pictures ds = map picture_of ds

-- what is known of each picture: its start code has 32 bits, and stands within its bits
pub record IsPicture (d : Due) : Type 0 where
  pub least : 32 ≤ d.code_bits
  pub code : d.code_bits ≤ d.bits
  pub units : d.units < 2 ^ 20

-- what is told of a picture
abbrev pub Told : Type 0
Told = Due × Removed

-- what is told of the removals of these pictures, which no bits follow: each picture beside what the buffer tells of it
abbrev pub all_told : Buffer → List Due → List Told
all_told b ds = zip ds (tells b (pictures ds) 0)

-- the account: the buffer behind the removals that were told; the whole pictures whose removal wasn't told yet; the picture
-- of which more bits may follow, until its removal is told; and the bits of all pictures so far
pub record Account : Type 0 where
  pub buffer : Buffer
  pub waiting : List Due
  pub last : Option Due
  pub total : ℕ

-- the account when the first bits of the first picture were read
abbrev pub opened : Buffer → Due → Account
opened b d = record { buffer = b; waiting = []; last = Some d; total = d.bits }

-- ---- bits that come

-- the first bits of another picture: the one before it is whole, and waits
abbrev pub with_picture : Account → Due → Account
with_picture a d = record {
  buffer = a.buffer;
  waiting = a.waiting ++ option_to_list a.last;
  last = Some d;
  total = a.total + d.bits;
}

abbrev pub longer : ℕ → Due → Due
longer n d = record d { bits = d.bits + n }

-- more bits of the last picture
abbrev pub with_more : Account → ℕ → Account
with_more a n = record a { last = option_map (longer n) a.last; total = a.total + n }

-- ---- removals

-- the pictures whose removal wasn't told
abbrev pub untold : Account → List Due
untold a = a.waiting ++ option_to_list a.last

abbrev pub last_bits : Option Due → ℕ
last_bits None = 0
last_bits (Some d) = d.bits

-- their bits, as far as they were read
abbrev pub known : Account → ℕ
known a = left (pictures (untold a)) 0

-- so many bits that weren't taken are as many as could be held: more of them change nothing
abbrev pub settles : Buffer → ℕ → Bool
settles b bits = nat_le (reach b) (1800 * bits)

-- what is told of a removal, and the account behind it
abbrev pub Step : Type 0
Step = Option (Told × Account)

-- the picture is removed, and these are left
abbrev pub removing : Account → Due → List Due → Option Due → Told × Account
removing a d waiting last = (
  (d, told a.buffer (picture_of d) (known a)),
  record {
    buffer = next a.buffer (picture_of d) (known a);
    waiting = waiting;
    last = last;
    total = a.total;
  },
)

-- the picture that waits first
unfoldable pub first_of : List Due → Account → Step
first_of [] a = None
first_of (d ∷ ds) a = Some (removing a d ds a.last)

-- the same, if its removal is settled
abbrev pub first_settled : Account → Step
first_settled a = if settles a.buffer (known a) then first_of a.waiting a else None

-- at the sequence's end, the last picture too
unfoldable pub first_left : List Due → Option Due → Account → Step
first_left (d ∷ ds) last a = Some (removing a d ds last)
first_left [] (Some d) a = Some (removing a d [] None)
first_left [] None a = None

abbrev pub first_ended : Account → Step
first_ended a = first_left a.waiting a.last a

-- what is told, and what stands behind it; where nothing is told, the account stays
abbrev pub Tells : Step → Account → Option Told → Account → Type 0
Tells step old None new = (step ≡ None) × (new ≡ old)
Tells step old (Some t) new = step ≡ Some (t, new)

-- ---- what an account keeps

-- the pictures that wait have so many bits, and those of all removals so far and of what is left are within the total
pub record IsSound (buffer : Buffer) (waiting : List Due) (whole : ℕ) (last : Option Due) (total : ℕ) : Type 0 where
  pub each : AllByRecursion IsPicture waiting
  pub end : IfSome last IsPicture
  pub sum : whole ≡ left (pictures waiting) 0
  pub counted : 32 * buffer.removals + (whole + last_bits last) ≤ total
  pub most : total ≤ 2 ^ 40

-- ---- all that is told at once

-- of pictures that wait, so many bits being read behind them: what is told as far as it is settled
unfoldable pub settled_of : Buffer → List Due → ℕ → List Told
settled_of b [] n = []
settled_of b (d ∷ ds) n =
    let bits = left (pictures (d ∷ ds)) n in
    if settles b bits
    then (d, told b (picture_of d) bits) ∷ settled_of (next b (picture_of d) bits) ds n
    else []

-- the buffer behind them, and the pictures that wait then
unfoldable pub behind_settled : Buffer → List Due → ℕ → Buffer × List Due
behind_settled b [] n = (b, [])
behind_settled b (d ∷ ds) n =
    let bits = left (pictures (d ∷ ds)) n in
    if settles b bits then behind_settled (next b (picture_of d) bits) ds n else (b, d ∷ ds)

-- all removals that are settled by now, and the account behind them
abbrev pub settled : Account → List Told
settled a = settled_of a.buffer a.waiting (last_bits a.last)

abbrev pub after_settled : Account → Account
after_settled a =
    let behind = behind_settled a.buffer a.waiting (last_bits a.last) in
    record a { buffer = behind.0; waiting = behind.1 }

-- at the sequence's end: of all that are left, the last picture too
abbrev pub ended : Account → List Told
ended a = all_told a.buffer (untold a)

-- ---- a whole sequence

-- how bits come
pub data Event : Type 0 where
  picture : Due → Event
  more : ℕ → Event

abbrev pub after : Account → Event → Account
after a (picture d) = with_picture a d
after a (more n) = with_more a n

-- what is told while these bits come and at their end, the settled removals as soon as they are
unfoldable pub reported : Account → List Event → List Told
reported a [] = ended a
reported a (e ∷ es) = settled (after a e) ++ reported (after_settled (after a e)) es

-- the pictures that these bits are, with the bits that they have at the end
unfoldable pub read : Option Due → List Event → List Due
read last [] = option_to_list last
read last (picture d ∷ es) = option_to_list last ++ read (Some d) es
read last (more n ∷ es) = read (option_map (longer n) last) es
