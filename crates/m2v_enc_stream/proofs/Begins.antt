-- The first picture that is sent.
use Rattle.std.proofs.Common.{◌≡◌, ℕ, zero, suc, ◌+◌, ◌-◌, ◌<◌, ◌≤◌, Bool, true, false, List, [], ◌∷◌, ◌++◌, length, map, refl, ap, ◌∙◌, arith}
use Rattle.std.specs.List.{range_with_len}
use Rattle.m2v_plane.specs.Samples.{Samples}
use Rattle.m2v_set.specs.declared.settings.Settings.{Settings}
use Rattle.m2v_set.specs.Rules.{Passes}
use Rattle.m2v_order.specs.Groups.{Group, group_of, after_group}
use Rattle.m2v_slice.specs.Books.{Book}
use Rattle.m2v_slice.specs.Conditions.{IsBook}
use Rattle.m2v_enc_stream.specs.Streams.{at_start, book_of, group_coded, groups_begun, groups_from, waiting}
use Rattle.m2v_enc_stream.specs.Sent.{SentPicture, sent_at, group_sent, groups_sent, Sent, Begins}
use Rattle.m2v_slice.proofs.Firsts.{first_code}
use Rattle.m2v_enc_stream.proofs.Queues.{first_group}
use Rattle.m2v_enc_stream.proofs.Delays.{IsPlaced, placed}
use Rattle.m2v_enc_stream.proofs.Bounds.{delay_first}

-- a list begins with a group's first picture
record IsHead (b : Book) (at : ℕ) (xs : List SentPicture) : Type 0 where
  ends : Bool
  more : ℕ
  later : List SentPicture
  is : xs ≡ sent_at b ends at more 0 ∷ later

head_last : (b : Book) (at n : ℕ) → IsHead b at (group_sent b true at n ++ sent_at b true at 32 n ∷ [])
head_last b at zero = record { ends = true; more = 32; later = []; is = refl }
head_last b at (suc n) = record { ends = true; more = 0; later = map (sent_at b true at 0) (range_with_len (0 + 1) n) ++ sent_at b true at 32 (suc n) ∷ []; is = refl }

head_whole : (b : Book) (at n : ℕ) (rest : List SentPicture) → 0 < n → IsHead b at (group_sent b false at n ++ rest)
head_whole b at zero rest some = absurd (omega (arith, some))
head_whole b at (suc n) rest some = record { ends = false; more = 0; later = map (sent_at b false at 0) (range_with_len (0 + 1) n) ++ rest; is = refl }

head_is : (s : Settings) (g : Group Samples) (later : List (Group Samples)) → IsBook (book_of s (at_start s) g) → IsHead (book_of s (at_start s) g) 0 (groups_sent s (at_start s) (g ∷ later))
unfolding groups_sent
head_is s g [] h = head_last (book_of s (at_start s) g) 0 (length g.pictures - 1)
head_is s g (k ∷ later) h = head_whole (book_of s (at_start s) g) 0 (length g.pictures) (groups_sent s (group_coded s (at_start s) g false) (k ∷ later)) (omega (arith, h.group.picture))

first_is : (s : Settings) (g : Group Samples) (ends : Bool) (more : ℕ) → Passes s → IsPlaced s [] g
    → (let x = sent_at (book_of s (at_start s) g) ends 0 more 0 in Begins s x)
unfolding groups_begun
first_is s g ends more passes h = record {
  code = (first_code (book_of s (at_start s) g) h.here.book).0;
  delay = delay_first s g ends passes h;
}

book_first : (s : Settings) (g : Group Samples) → IsPlaced s [] g → IsBook (book_of s (at_start s) g)
unfolding groups_begun
book_first s g h = h.here.book

pub stream_begins : (s : Settings) (frames : List (List ℕ)) → Passes s → 1 ≤ length frames → length frames ≤ 999999
    → (x : SentPicture) × (later : List SentPicture) × (Sent s frames ≡ x ∷ later) × Begins s x
stream_begins s frames passes some few =
    let q = waiting s frames true in
    let n = length frames - 1 in
    let is = first_group s frames some in
    let g = group_of q in
    let later = groups_from n (after_group q) in
    let h = placed s frames [] g later passes few is in
    let head = head_is s g later (book_first s g h) in (
      sent_at (book_of s (at_start s) g) head.ends 0 head.more 0,
      head.later,
      ap (groups_sent s (at_start s)) is ∙ head.is,
      first_is s g head.ends head.more passes h,
    )
