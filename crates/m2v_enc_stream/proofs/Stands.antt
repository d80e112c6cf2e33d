-- What stands before each group of a stream, and that the groups have books.
use Rattle.std.proofs.Common.{◌≡◌, ℕ, zero, suc, ◌+◌, ◌*◌, ◌^◌, ◌<◌, ◌≤◌, Bool, true, false, inl, inr, List, [], ◌∷◌, length, Option, refl, sym, ap, subst, ◌∙◌, arith, ◌++◌}
use Rattle.std.specs.Prelude.{All, is_some, IfSome}
use Rattle.std.proofs.lemmas.Bool.{cases_Bool}
use Rattle.std.proofs.lemmas.List.{length-append}
use Rattle.std.proofs.lemmas.List.Elements.{All-take, All-drop, All-map}
use Rattle.m2v_plane.specs.Raw.{pad}
use Rattle.m2v_plane.specs.Samples.{Samples}
use Rattle.m2v_set.specs.declared.settings.Settings.{Settings}
use Rattle.m2v_set.specs.Numbers.{dims_of}
use Rattle.m2v_set.specs.Rules.{Passes}
use Rattle.m2v_order.specs.Groups.{Queue, Group, first_of, anchor_before, is_due, group_size, group_of, after_group, IsSoundQueue}
use Rattle.m2v_order.specs.Whole.{IsGroupOf}
use Rattle.m2v_order.proofs.Queues.{grouped, due_is, turn_is, sound_next}
use Rattle.m2v_order.proofs.Wholes.{group_is}
use Rattle.m2v_rate.specs.Plans.{Entries, account_at}
use Rattle.m2v_rate.specs.Places.{IsPlace}
use Rattle.m2v_rate.proofs.Places.{fresh_place}
use Rattle.m2v_rate.specs.Steady.{IsBegun}
use Rattle.m2v_rate.proofs.Lows.{removals_at}
use Rattle.m2v_rate.proofs.Streams.{fresh_begun}
use Rattle.m2v_slice.specs.Books.{ledger_with, all_coded, whole_ledger}
use Rattle.m2v_slice.specs.Conditions.{IsBook}
use Rattle.m2v_slice.proofs.Begun.{begun_ledger}
use Rattle.m2v_slice.proofs.Ledgers.{whole_ledger_is, whole_settings, whole_kinds, removals_kept}
use Rattle.m2v_enc_stream.specs.Streams.{Progress, at_start, book_of, group_coded, groups_from, waiting, groups_of, anchor_behind, pictures_text}
use Rattle.m2v_enc_stream.proofs.Queues.{from_due, from_none, before_none, before_some, first_is, sound_waiting}
use Rattle.m2v_enc_stream.proofs.Anchors.{anchor_some, anchor_size}
use Rattle.m2v_enc_stream.proofs.Places.{place_at, place_behind}

-- ---- what stands

-- what is coded so far, and the queue of at most so many groups behind it
pub record Stands (s : Settings) (x : Progress) (q : Queue Samples) (n : ℕ) : Type 0 where
  pub settings : q.settings ≡ s
  pub sound : IsSoundQueue q
  pub sizes : All (λ (f : Samples). f.dims ≡ dims_of s) q.frames
  pub same : x.ledger.settings ≡ s
  pub begun : IsBegun x.ledger
  pub removals : x.ledger.account.removals + length x.ledger.kinds + 126 * n < 2 ^ 39
  pub before : is_some x.before ≡ is_some (anchor_before (first_of q))
  pub size : IfSome x.before (λ (f : Samples). f.dims ≡ dims_of s)
  pub place : IsPlace s (account_at x.ledger (length x.ledger.kinds)) (length x.text)

-- a group has a book, whose ledger goes on from the one before, and stands at its place
pub record HasBook (s : Settings) (x : Progress) (g : Group Samples) : Type 0 where
  pub book : IsBook (book_of s x g)
  pub from : book.ledger.from ≡ x.ledger
  pub place : IsPlace s (account_at (whole_ledger (book_of s x g)) 0) (length x.text)

first_place : (s : Settings) (x : Progress) (g : Group Samples) → IsPlace s (account_at x.ledger (length x.ledger.kinds)) (length x.text)
    → IsPlace s (account_at (whole_ledger (book_of s x g)) 0) (length x.text)
unfolding account_at ledger_with
first_place s x g place = place

book_by : (s : Settings) (x : Progress) (q : Queue Samples) (n : ℕ) → Passes s → Stands s x q (suc n) → is_due q ≡ true → HasBook s x (group_of q)
unfolding group_of
book_by s x q n passes h is =
    let pass : Passes q.settings = subst Passes (sym h.settings) passes in
    let group : IsGroupOf s (group_of q) = subst (λ (t : Settings). IsGroupOf t (group_of q)) h.settings (group_is q pass h.sound is) in
    record {
      book = record {
        last = (group_of q).before;
        group = group;
        sizes = All-take (λ (f : Samples). f.dims ≡ dims_of s) (group_size q) q.frames h.sizes;
        before = h.before;
        size = h.size;
        ledger = record {
          from = x.ledger;
          settings = h.same;
          begun = refl;
          ledger = begun_ledger s (group_of q) x.ledger h.same h.begun (omega (arith, h.removals)) group.pictures;
        };
      };
      from = refl;
      place = first_place s x (group_of q) h.place;
    }

-- ---- from group to group

coded_is : (s : Settings) (x : Progress) (g : Group Samples) (ends : Bool)
    → ((group_coded s x g ends).ledger ≡ whole_ledger (book_of s x g)) × ((group_coded s x g ends).before ≡ anchor_behind (book_of s x g))
unfolding group_coded
coded_is s x g ends = (refl, refl)

pub group_text_is : (s : Settings) (x : Progress) (g : Group Samples) (ends : Bool)
    → (let b = book_of s x g in (group_coded s x g ends).text ≡ x.text ++ pictures_text b (all_coded b) (whole_ledger b) ends (length x.text) (length b.pictures))
unfolding group_coded
group_text_is s x g ends = refl

pub ledger_next : (s : Settings) (x : Progress) (g : Group Samples) (ends : Bool) → (group_coded s x g ends).ledger ≡ whole_ledger (book_of s x g)
ledger_next s x g ends = (coded_is s x g ends).0

removals_next : (s : Settings) (x : Progress) (g : Group Samples) → (whole_ledger (book_of s x g)).account.removals ≡ x.ledger.account.removals + length x.ledger.kinds
removals_next s x g = removals_kept (book_of s x g) ∙ removals_at x.ledger (length x.ledger.kinds)

stands_next : (s : Settings) (x : Progress) (q : Queue Samples) (n : ℕ) (y : Progress) → Passes s → Stands s x q (suc n) → is_due q ≡ true
    → IsBook (book_of s x (group_of q))
    → y.ledger ≡ whole_ledger (book_of s x (group_of q)) → y.before ≡ anchor_behind (book_of s x (group_of q))
    → length y.text ≡ place_at (book_of s x (group_of q)) false (length x.text) (length (group_of q).pictures) → Stands s y (after_group q) n
stands_next s x q n y passes h is book ledger before text =
    let b = book_of s x (group_of q) in
    let pass : Passes q.settings = subst Passes (sym h.settings) passes in
    let ok = grouped q.settings pass in
    let due = due_is q is in
    let turn = turn_is q ok h.sound due in
    let few : length (whole_ledger b).kinds ≤ 126 = omega (arith, whole_kinds b book, book.group.pictures) in
    let past : 0 < first_of (after_group q) = omega (arith, turn.after, turn.past) in
    let w = whole_ledger b in
    let here : IsPlace s (account_at w (length w.kinds)) (length y.text) =
    subst (λ (k : ℕ). IsPlace s (account_at w k) (length y.text)) (sym (whole_kinds b book))
    (subst (IsPlace s (account_at w (length b.pictures))) (sym text) (place_behind b book (length x.text) (first_place s x (group_of q) h.place))) in
    record {
      settings = h.settings;
      sound = sound_next q ok due turn;
      sizes = All-drop (λ (f : Samples). f.dims ≡ dims_of s) (group_size q) q.frames h.sizes;
      same = ap (λ (l : Entries). l.settings) ledger ∙ whole_settings b book;
      begun = subst IsBegun (sym ledger) (whole_ledger_is b book).steady.begun;
      removals = omega (arith, h.removals, few, removals_next s x (group_of q), ap (λ (l : Entries). l.account.removals) ledger, ap (λ (l : Entries). length l.kinds) ledger);
      before = ap (λ (o : Option Samples). is_some o) before ∙ anchor_some b book ∙ sym (before_some (first_of (after_group q)) past);
      size = subst (λ (o : Option Samples). IfSome o (λ (f : Samples). f.dims ≡ dims_of s)) (sym before) (anchor_size b book);
      place = subst (λ (l : Entries). IsPlace s (account_at l (length l.kinds)) (length y.text)) (sym ledger) here;
    }

-- ---- all groups

-- each group has its book
abbrev pub HaveBooks : Settings → Progress → List (Group Samples) → Type 0
HaveBooks s x [] = Unit {0}
HaveBooks s x (g ∷ more) = HasBook s x g × HaveBooks s (group_coded s x g false) more

books : (n : ℕ) (s : Settings) (x : Progress) (q : Queue Samples) → Passes s → Stands s x q n → HaveBooks s x (groups_from n q)
unfolding groups_from
books zero s x q passes h = tt
books (suc n) s x q passes h = elim (cases_Bool (is_due q)) [
  | inl is ↦
      let g = group_of q in
      let y = group_coded s x g false in
      let book = book_by s x q n passes h is in
      let is_next = coded_is s x g false in
      let b = book_of s x g in
      let text : length y.text ≡ place_at b false (length x.text) (length b.pictures) =
      ap length (group_text_is s x g false) ∙ length-append x.text (pictures_text b (all_coded b) (whole_ledger b) false (length x.text) (length b.pictures)) in
      subst (HaveBooks s x) (sym (from_due n q is))
      (book, books n s y (after_group q) passes (stands_next s x q n y passes h is book.book is_next.0 is_next.1 text))
  | inr none ↦ subst (HaveBooks s x) (sym (from_none (suc n) q none)) tt
]

-- ---- the first group

stands_first : (s : Settings) (frames : List (List ℕ)) → Passes s → length frames ≤ 999999 → Stands s (at_start s) (waiting s frames true) (length frames)
stands_first s frames passes few =
    record {
      settings = refl;
      sound = sound_waiting s frames passes;
      sizes = All-map (λ (f : Samples). f.dims ≡ dims_of s) (pad (dims_of s)) frames (λ k d lt. refl);
      same = refl;
      begun = fresh_begun s passes;
      removals = omega (arith, few);
      before = sym (ap (λ (n : ℕ). is_some (anchor_before n)) (first_is s frames) ∙ before_none);
      size = tt;
      place = fresh_place s;
    }

-- the groups of a stream have their books
pub have_books : (s : Settings) (frames : List (List ℕ)) → Passes s → length frames ≤ 999999 → HaveBooks s (at_start s) (groups_of s frames)
have_books s frames passes few = books (length frames) s (at_start s) (waiting s frames true) passes (stands_first s frames passes few)
