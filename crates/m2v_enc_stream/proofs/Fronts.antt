-- The pictures in front of one are those that are removed before it.
use Rattle.std.proofs.Common.{◌≡◌, ℕ, suc, ◌+◌, ◌-◌, ◌<◌, ◌≤◌, inl, inr, Bool, true, false, List, [], ◌∷◌, ◌++◌, length, map, refl, sym, ap, ◌∙◌, arith, append_assoc}
use Rattle.std.specs.List.{range_with_len}
use Rattle.std.proofs.lemmas.Bool.{cases_lt}
use Rattle.std.proofs.lemmas.List.{map-append}
use Rattle.m2v_plane.specs.Samples.{Samples}
use Rattle.m2v_set.specs.declared.settings.Settings.{Settings}
use Rattle.m2v_set.specs.Rules.{Passes}
use Rattle.m2v_vbv.specs.Annex.{Removal}
use Rattle.m2v_order.specs.Groups.{Group}
use Rattle.m2v_order.proofs.Orders.{range_append}
use Rattle.m2v_rate.specs.Plans.{Entries}
use Rattle.m2v_rate.specs.Safety.{closed, group_removals, sent}
use Rattle.m2v_slice.specs.Books.{Book}
use Rattle.m2v_enc_stream.specs.Streams.{Progress, at_start, book_of, group_coded, groups_begun}
use Rattle.m2v_enc_stream.specs.Removals.{seen_of, groups_seen, begun_by, IsIn}
use Rattle.m2v_enc_stream.specs.Sent.{SentPicture, removal_of, sent_at, group_sent, groups_sent, StandsAt}
use Rattle.m2v_enc_stream.proofs.Stands.{HaveBooks}
use Rattle.m2v_enc_stream.proofs.Groups.{behind}
use Rattle.m2v_enc_stream.proofs.Delays.{placed, delay_exact}
use Rattle.m2v_enc_stream.proofs.Flat.{whole_group}
use Rattle.m2v_enc_stream.proofs.Exact.{before_is}

-- ---- a group

-- the pictures in front of one, and those behind it
group_split : (b : Book) (ends : Bool) (at n p : ℕ) → p < n
    → (later : List SentPicture) × (group_sent b ends at n ≡ group_sent b ends at p ++ sent_at b ends at 0 p ∷ later)
group_split b ends at n p lt =
    let f = sent_at b ends at 0 in
    let k = n - p - 1 in
    let e : n ≡ p + suc k = omega (arith, lt) in
    let z : 0 + p ≡ p = omega arith in (
      map f (range_with_len (p + 1) k),
      ap (λ (m : ℕ). map f (range_with_len 0 m)) e
          ∙ ap (map f) (range_append 0 p (suc k))
          ∙ map-append f (range_with_len 0 p) (range_with_len (0 + p) (suc k))
          ∙ ap (λ (a : ℕ). map f (range_with_len 0 p) ++ map f (range_with_len a (suc k))) z,
    )

-- a list begins with these pictures and the one behind them
record Fronts (b : Book) (at p : ℕ) (xs : List SentPicture) : Type 0 where
  ends : Bool
  more : ℕ
  later : List SentPicture
  is : xs ≡ group_sent b ends at p ++ sent_at b ends at more p ∷ later

fronts_by : (b : Book) (ends : Bool) (at n p : ℕ) (rest : List SentPicture) → p < n → Fronts b at p (group_sent b ends at n ++ rest)
fronts_by b ends at n p rest lt =
    let split = group_split b ends at n p lt in
    record {
      ends = ends;
      more = 0;
      later = split.0 ++ rest;
      is = ap (λ (xs : List SentPicture). xs ++ rest) split.1 ∙ append_assoc (group_sent b ends at p) (sent_at b ends at 0 p ∷ split.0) rest;
    }

fronts_last : (b : Book) (at last p : ℕ) → p ≤ last → Fronts b at p (group_sent b true at last ++ sent_at b true at 32 last ∷ [])
fronts_last b at last p le = elim (cases_lt p last) [
  | inl lt ↦ fronts_by b true at last p (sent_at b true at 32 last ∷ []) lt
  | inr past ↦
      let e : last ≡ p = omega (arith, le, past) in
      record {
        ends = true;
        more = 32;
        later = [];
        is = ap (λ (n : ℕ). group_sent b true at n ++ sent_at b true at 32 n ∷ []) e;
      }
]

fronts_is : (s : Settings) (x : Progress) (g : Group Samples) (later : List (Group Samples)) (p : ℕ) → p < length g.pictures
    → Fronts (book_of s x g) (length x.text) p (groups_sent s x (g ∷ later))
unfolding groups_sent
fronts_is s x g [] p lt = fronts_last (book_of s x g) (length x.text) (length g.pictures - 1) p (omega (arith, lt))
fronts_is s x g (k ∷ later) p lt = fronts_by (book_of s x g) false (length x.text) (length g.pictures) p (groups_sent s (group_coded s x g false) (k ∷ later)) lt

-- ---- groups in front

record Splits (s : Settings) (x : Progress) (gs : List (Group Samples)) (g : Group Samples) (later : List (Group Samples)) : Type 0 where
  before : List SentPicture
  is : groups_sent s x (gs ++ g ∷ later) ≡ before ++ groups_sent s (groups_begun s x gs) (g ∷ later)
  removals : map removal_of before ≡ sent x.ledger (groups_seen s x gs)

-- a group in front of others
in_front : (s : Settings) (x : Progress) (k : Group Samples) (gs : List (Group Samples)) (g : Group Samples) (later : List (Group Samples))
    → groups_sent s x (k ∷ (gs ++ g ∷ later)) ≡ group_sent (book_of s x k) false (length x.text) (length k.pictures) ++ groups_sent s (group_coded s x k false) (gs ++ g ∷ later)
unfolding groups_sent
in_front s x k [] g later = refl
in_front s x k (h ∷ gs) g later = refl

splits : (s : Settings) (gs : List (Group Samples)) (g : Group Samples) (later : List (Group Samples)) (x : Progress) → HaveBooks s x gs → Splits s x gs g later
unfolding groups_begun groups_seen sent
splits s [] g later x h = record { before = []; is = refl; removals = refl }
splits s (k ∷ gs) g later x h =
    let y = group_coded s x k false in
    let b = book_of s x k in
    let c = closed x.ledger (seen_of b) in
    let front = group_sent b false (length x.text) (length k.pictures) in
    let rec = splits s gs g later y h.1 in
    record {
      before = front ++ rec.before;
      is = in_front s x k gs g later
          ∙ ap (λ (xs : List SentPicture). front ++ xs) rec.is
          ∙ sym (append_assoc front rec.before (groups_sent s (groups_begun s y gs) (g ∷ later)));
      removals = map-append removal_of front rec.before
          ∙ ap (λ (rs : List Removal). rs ++ map removal_of rec.before) (whole_group s x k h.0)
          ∙ ap (λ (rs : List Removal). group_removals c (length (seen_of b)) ++ rs) rec.removals
          ∙ ap (λ (l : Entries). group_removals c (length (seen_of b)) ++ sent l (groups_seen s y gs)) (sym (behind s x k h.0));
    }

-- ---- the stream

pub stream_at : (s : Settings) (frames : List (List ℕ)) (earlier : List (Group Samples)) (g : Group Samples) (p : ℕ) → Passes s → length frames ≤ 999999
    → IsIn s frames earlier g p → StandsAt s frames earlier g p
stream_at s frames earlier g p passes few is =
    let h = placed s frames earlier g is.later passes few is.groups in
    let lt = is.picture in
    let x = begun_by s earlier in
    let b = book_of s x g in
    let split = splits s earlier g is.later (at_start s) h.front in
    let front = fronts_is s x g is.later p lt in
    let here = group_sent b front.ends (length x.text) p in
    let this = sent_at b front.ends (length x.text) front.more p in
    record {
      before = split.before ++ here;
      picture = this;
      later = front.later;
      sent = ap (groups_sent s (at_start s)) is.groups
          ∙ split.is
          ∙ ap (λ (xs : List SentPicture). split.before ++ xs) front.is
          ∙ sym (append_assoc split.before here (this ∷ front.later));
      removals = map-append removal_of split.before here
          ∙ ap (λ (rs : List Removal). rs ++ map removal_of here) split.removals
          ∙ sym (before_is s earlier g front.ends p (omega (arith, lt)) (inl lt) h);
      code = refl;
      delay = λ ends. delay_exact s earlier g front.ends p passes lt h ∙ sym (delay_exact s earlier g ends p passes lt h);
    }
