-- The pictures of the encoder's stream as they are sent, by what their texts tell.
use Rattle.std.specs.Prelude.{ℕ, ◌≡◌, ◌+◌, ◌-◌, ◌*◌, ◌/◌, ◌≤◌, Bool, true, false, List, [], ◌∷◌, ◌++◌, map, length, slice_index}
use Rattle.std.specs.List.{range_with_len}
use Rattle.m2v_plane.specs.Samples.{Samples}
use Rattle.m2v_set.specs.declared.settings.Settings.{Settings}
use Rattle.m2v_set.specs.Numbers.{delay_of}
use Rattle.m2v_vbv.specs.Annex.{Start, Removal, removed}
use Rattle.m2v_vbv.specs.Account.{arriving, account_of}
use Rattle.m2v_order.specs.Groups.{Group}
use Rattle.m2v_slice.specs.Headers.{bits_to_code}
use Rattle.m2v_slice.specs.Books.{Book, job_at}
use Rattle.m2v_enc_stream.specs.Streams.{Progress, at_start, book_of, group_coded, delay_at, picture_text, pictures_text}
use Rattle.m2v_enc_stream.specs.Removals.{coded_of, ledger_of, groups_of, job_of, delay_told, removed_before}

-- a picture: its bits, from its headers up to those of the next one, which of these go up to and with its picture start
-- code, the time behind it, and its vbv_delay
pub record SentPicture : Type 0 where
  pub bits : ℕ
  pub code : ℕ
  pub units : ℕ
  pub delay : ℕ

abbrev pub removal_of : SentPicture → Removal
removal_of x = record { bits = x.bits; units = x.units }

-- the bit at which picture p begins, in a group that begins at a bit
abbrev pub place_at : Book → Bool → ℕ → ℕ → ℕ
place_at b ends at p = at + length (pictures_text b (coded_of b) (ledger_of b) ends at p)

-- that picture, with so many bits behind its text
abbrev pub sent_at : Book → Bool → ℕ → ℕ → ℕ → SentPicture
sent_at b ends at more p = record {
  bits = length (picture_text b (coded_of b) (ledger_of b) ends (place_at b ends at p) p) + more;
  code = bits_to_code (job_at b p);
  units = slice_index b.ledger.intervals p;
  delay = delay_at (ledger_of b) (job_at b p) p (place_at b ends at p);
}

-- the first n pictures of a group
abbrev pub group_sent : Book → Bool → ℕ → ℕ → List SentPicture
group_sent b ends at n = map (sent_at b ends at 0) (range_with_len 0 n)

-- the pictures of groups behind what is coded so far; the last of all has the end code
unfoldable pub groups_sent : Settings → Progress → List (Group Samples) → List SentPicture
groups_sent s x [] = []
groups_sent s x (g ∷ []) =
    let b = book_of s x g in
    let last = length g.pictures - 1 in
    group_sent b true (length x.text) last ++ sent_at b true (length x.text) 32 last ∷ []
groups_sent s x (g ∷ (h ∷ later)) =
    group_sent (book_of s x g) false (length x.text) (length g.pictures)
    ++ groups_sent s (group_coded s x g false) (h ∷ later)

-- the pictures of the stream of raw frames
abbrev pub Sent : Settings → List (List ℕ) → List SentPicture
Sent s frames = groups_sent s (at_start s) (groups_of s frames)

-- where picture p of a group that stands behind earlier ones is sent: behind these pictures, which are those that are
-- removed before it
pub record StandsAt (s : Settings) (frames : List (List ℕ)) (earlier : List (Group Samples)) (g : Group Samples) (p : ℕ)
    : Type 0 where
  pub before : List SentPicture
  pub picture : SentPicture
  pub later : List SentPicture
  pub sent : Sent s frames ≡ before ++ picture ∷ later
  pub removals : map removal_of before ≡ removed_before s earlier g p
  pub code : picture.code ≡ bits_to_code (job_of s earlier g p)
  pub delay : (ends : Bool) → picture.delay ≡ delay_told s earlier g ends p

-- the first picture of all: its start code ends behind 272 bits, and it has the delay of the settings
pub record Begins (s : Settings) (x : SentPicture) : Type 0 where
  pub code : x.code ≡ 272
  pub delay : x.delay ≡ delay_of s

-- a picture behind these removals has the exact delay, in 16 bits that aren't all set
abbrev pub IsExact : Start → List Removal → SentPicture → Type 0
IsExact start before x =
    (x.delay ≡ arriving (account_of start before) (removed before + x.code) / (8 * start.k)) × (x.delay ≤ 65534)

-- and so each of these pictures
abbrev pub AreExact : Start → List Removal → List SentPicture → Type 0
AreExact start before [] = Unit {0}
AreExact start before (x ∷ xs) = IsExact start before x × AreExact start (before ++ removal_of x ∷ []) xs
