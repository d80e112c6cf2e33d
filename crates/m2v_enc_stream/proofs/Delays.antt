-- Where each picture begins, and that its delay is the exact one.
use Rattle.std.proofs.Common.{◌≡◌, ℕ, ◌+◌, ◌*◌, ◌/◌, ◌<◌, ◌≤◌, inl, Bool, false, List, [], ◌∷◌, ◌++◌, length, sym, ap, subst, ◌∙◌, arith}
use Rattle.m2v_plane.specs.Samples.{Samples}
use Rattle.m2v_set.specs.declared.settings.Settings.{Settings}
use Rattle.m2v_set.specs.Rules.{Passes}
use Rattle.m2v_vbv.specs.Annex.{removed}
use Rattle.m2v_vbv.specs.Account.{State, arriving, account_of}
use Rattle.m2v_order.specs.Groups.{Group}
use Rattle.m2v_rate.specs.Plans.{Entries, account_at, fresh, start_of}
use Rattle.m2v_rate.specs.Safety.{closed, IsCoded, AreCoded, group_removals, after_groups, sent}
use Rattle.m2v_rate.proofs.Streams.{account_is}
use Rattle.m2v_slice.specs.Headers.{bits_to_code}
use Rattle.m2v_slice.specs.Books.{job_at}
use Rattle.m2v_enc_stream.specs.Streams.{Progress, at_start, book_of, group_coded, groups_begun, delay_at}
use Rattle.m2v_enc_stream.specs.Removals.{ledger_of, seen_of, groups_seen, groups_of, begun_by, begins_at, removed_before}
use Rattle.m2v_slice.proofs.Ledgers.{whole_settings}
use Rattle.m2v_enc_stream.proofs.Closed.{seen_length}
use Rattle.m2v_enc_stream.proofs.Stands.{HasBook, HaveBooks, have_books}
use Rattle.m2v_enc_stream.proofs.Groups.{group_coded_is, group_closed, are_coded}
use Rattle.m2v_enc_stream.proofs.Texts.{pictures_bits, removed_both, behind_groups}

-- ---- a group of the stream

front_books : (s : Settings) (earlier : List (Group Samples)) (g : Group Samples) (later : List (Group Samples)) (x : Progress)
    → HaveBooks s x (earlier ++ g ∷ later) → HaveBooks s x earlier × HasBook s (groups_begun s x earlier) g
unfolding groups_begun
front_books s [] g later x h = (tt, h.0)
front_books s (k ∷ earlier) g later x h =
    let rec = front_books s earlier g later (group_coded s x k false) h.1 in
    ((h.0, rec.0), rec.1)

-- the groups before it are coded by their plans, and so is it, with the ledger behind those
pub record IsPlaced (s : Settings) (earlier : List (Group Samples)) (g : Group Samples) : Type 0 where
  pub front : HaveBooks s (at_start s) earlier
  pub here : HasBook s (begun_by s earlier) g
  pub ledger : (begun_by s earlier).ledger ≡ after_groups (fresh s) (groups_seen s (at_start s) earlier)
  pub bits : length (begun_by s earlier).text ≡ removed (sent (fresh s) (groups_seen s (at_start s) earlier))
  pub coded : AreCoded (fresh s) (groups_seen s (at_start s) earlier)
  pub this : IsCoded (after_groups (fresh s) (groups_seen s (at_start s) earlier)) (seen_of (book_of s (begun_by s earlier) g))
  pub closes : closed (after_groups (fresh s) (groups_seen s (at_start s) earlier)) (seen_of (book_of s (begun_by s earlier) g)) ≡ ledger_of (book_of s (begun_by s earlier) g)

pub placed : (s : Settings) (frames : List (List ℕ)) (earlier : List (Group Samples)) (g : Group Samples) (later : List (Group Samples))
    → Passes s → length frames ≤ 999999 → groups_of s frames ≡ earlier ++ g ∷ later → IsPlaced s earlier g
placed s frames earlier g later passes few is =
    let all = subst (HaveBooks s (at_start s)) is (have_books s frames passes few) in
    let both = front_books s earlier g later (at_start s) all in
    let behind = behind_groups s earlier (at_start s) both.0 in
    let b = book_of s (begun_by s earlier) g in
    record {
      front = both.0;
      here = both.1;
      ledger = behind.ledger;
      bits = behind.bits ∙ (let e : 0 + removed (sent (fresh s) (groups_seen s (at_start s) earlier)) ≡ removed (sent (fresh s) (groups_seen s (at_start s) earlier)) = omega arith in e);
      coded = are_coded s earlier (at_start s) both.0;
      this = subst (λ (l : Entries). IsCoded l (seen_of b)) behind.ledger (group_coded_is s (begun_by s earlier) g both.1);
      closes = ap (λ (l : Entries). closed l (seen_of b)) (sym behind.ledger) ∙ group_closed s (begun_by s earlier) g both.1;
    }

-- ---- places

-- the headers of a picture begin where those before it were removed
pub place_is : (s : Settings) (earlier : List (Group Samples)) (g : Group Samples) (ends : Bool) (p : ℕ) → p < length g.pictures → IsPlaced s earlier g
    → begins_at s earlier g ends p ≡ removed (removed_before s earlier g p)
place_is s earlier g ends p lt h =
    let x = begun_by s earlier in
    let b = book_of s x g in
    let before = groups_seen s (at_start s) earlier in
    let c = closed (after_groups (fresh s) before) (seen_of b) in
    omega (
      arith,
      h.bits,
      pictures_bits b h.here.book ends (length x.text) p (omega (arith, lt)) (inl lt),
      ap (λ (l : Entries). removed (group_removals l p)) h.closes,
      removed_both (sent (fresh s) before) (group_removals c p),
    )

-- ---- delays

-- the account at a picture
account_here : (s : Settings) (earlier : List (Group Samples)) (g : Group Samples) (p : ℕ) → Passes s → p < length g.pictures → IsPlaced s earlier g
    → account_at (ledger_of (book_of s (begun_by s earlier) g)) p ≡ account_of (start_of s) (removed_before s earlier g p)
account_here s earlier g p passes lt h =
    let b = book_of s (begun_by s earlier) g in
    let before = groups_seen s (at_start s) earlier in
    ap (λ (l : Entries). account_at l p) (sym h.closes)
    ∙ account_is s before (seen_of b) p passes h.coded h.this (omega (arith, lt, seen_length b))

pub delay_exact : (s : Settings) (earlier : List (Group Samples)) (g : Group Samples) (ends : Bool) (p : ℕ) → Passes s → p < length g.pictures → IsPlaced s earlier g
    → (let b = book_of s (begun_by s earlier) g in
    let before = removed_before s earlier g p in
    delay_at (ledger_of b) (job_at b p) p (begins_at s earlier g ends p) ≡ arriving (account_of (start_of s) before) (removed before + bits_to_code (job_at b p)) / (8 * s.bits))
delay_exact s earlier g ends p passes lt h =
    let b = book_of s (begun_by s earlier) g in
    let before = removed_before s earlier g p in
    let code = bits_to_code (job_at b p) in
    ap (λ (a : State). arriving a (begins_at s earlier g ends p + code) / (8 * (ledger_of b).settings.bits)) (account_here s earlier g p passes lt h)
    ∙ ap (λ (n : ℕ). arriving (account_of (start_of s) before) (n + code) / (8 * (ledger_of b).settings.bits)) (place_is s earlier g ends p lt h)
    ∙ ap (λ (t : Settings). arriving (account_of (start_of s) before) (removed before + code) / (8 * t.bits)) (whole_settings b h.here.book)
