-- The bits of the whole stream are those that are removed.
use Rattle.std.proofs.Common.{◌≡◌, ℕ, suc, ◌+◌, ◌-◌, ◌<◌, ◌≤◌, inl, true, false, List, [], ◌∷◌, ◌++◌, length, refl, sym, ap, ◌∙◌, arith}
use Rattle.std.specs.Prelude.{nat_eq}
use Rattle.std.proofs.lemmas.Bool.{cond-true, eq-eqb}
use Rattle.std.proofs.lemmas.List.{length-append}
use Rattle.m2v_bits.specs.Bits.{start_code, ◌⧺◌}
use Rattle.m2v_bits.proofs.Units.{start_length}
use Rattle.m2v_plane.specs.Samples.{Samples}
use Rattle.m2v_set.specs.declared.settings.Settings.{Settings}
use Rattle.m2v_set.specs.Rules.{Passes}
use Rattle.m2v_vbv.specs.Annex.{Removal, removed}
use Rattle.m2v_order.specs.Groups.{Group}
use Rattle.m2v_rate.specs.Plans.{Entries, fresh}
use Rattle.m2v_rate.specs.Safety.{closed, ending_at, group_removals, removals}
use Rattle.m2v_slice.specs.Books.{Book}
use Rattle.m2v_slice.specs.Conditions.{IsBook}
use Rattle.m2v_enc_stream.specs.Streams.{Progress, at_start, book_of, group_coded, groups_coded, coded_all, zeros_of, picture_text, pictures_text}
use Rattle.m2v_enc_stream.specs.Removals.{coded_of, ledger_of, seen_of, groups_seen, groups_of, Seen}
use Rattle.m2v_slice.proofs.Ledgers.{whole_kinds, size_at}
use Rattle.m2v_enc_stream.proofs.Pictures.{picture_length}
use Rattle.m2v_enc_stream.proofs.Queues.{stream_some}
use Rattle.m2v_enc_stream.proofs.Stands.{HasBook, HaveBooks, have_books, group_text_is}
use Rattle.m2v_enc_stream.proofs.Closed.{seen_length}
use Rattle.m2v_enc_stream.proofs.Groups.{group_closed, behind}
use Rattle.m2v_enc_stream.proofs.Texts.{pictures_bits, group_bits, removed_both}

-- ---- the last group

pub zeros_none : (l : Entries) (p : ℕ) → p + 1 ≡ length l.kinds → zeros_of l true p ≡ 0
zeros_none l p e = cond-true (nat_eq (p + 1) (length l.kinds)) _ _ (eq-eqb (p + 1) (length l.kinds) e)

last_bits : (b : Book) → IsBook b → (at p : ℕ) → p + 1 ≡ length b.pictures
    → length (pictures_text b (coded_of b) (ledger_of b) true at (suc p)) + 32 ≡ removed (group_removals (ledger_of b) p) + (ending_at (ledger_of b) p).bits
unfolding pictures_text
last_bits b h at p e =
    let l = ledger_of b in
    let t = pictures_text b (coded_of b) l true at p in
    let lt : p < length b.pictures = omega (arith, e) in
    omega (
      arith,
      length-append t (picture_text b (coded_of b) l true (at + length t) p),
      pictures_bits b h true at p (omega (arith, lt)) (inl lt),
      picture_length b h l true (at + length t) p lt,
      zeros_none l p (e ∙ sym (whole_kinds b h)),
      size_at b p lt,
    )

-- the removals of the last group
abbrev ending : Entries → ℕ → List Removal
ending c n = group_removals c (n - 1) ++ ending_at c (n - 1) ∷ []

ending_bits : (c : Entries) (n : ℕ) → removed (ending c n) ≡ removed (group_removals c (n - 1)) + (ending_at c (n - 1)).bits
ending_bits c n =
    let one : removed (ending_at c (n - 1) ∷ []) ≡ 0 + (ending_at c (n - 1)).bits = refl in
    omega (arith, removed_both (group_removals c (n - 1)) (ending_at c (n - 1) ∷ []), one)

last_group : (s : Settings) (x : Progress) (g : Group Samples) → HasBook s x g
    → (let b = book_of s x g in
    length (group_coded s x g true).text + 32 ≡ length x.text + removed (ending (closed x.ledger (seen_of b)) (length (seen_of b))))
last_group s x g h =
    let b = book_of s x g in
    let n = length b.pictures in
    let p = n - 1 in
    let some = h.book.group.picture in
    let all : suc p ≡ n = omega (arith, some) in
    let t = pictures_text b (coded_of b) (ledger_of b) true (length x.text) n in
    let c = closed x.ledger (seen_of b) in
    omega (
      arith,
      ap length (group_text_is s x g true),
      length-append x.text t,
      ap (λ (k : ℕ). length (pictures_text b (coded_of b) (ledger_of b) true (length x.text) k)) all,
      last_bits b h.book (length x.text) p (omega (arith, some)),
      ap (λ (l : Entries). removed (group_removals l p) + (ending_at l p).bits) (group_closed s x g h),
      ap (λ (k : ℕ). removed (ending c k)) (seen_length b),
      ending_bits c n,
    )

-- ---- all groups

all_bits : (s : Settings) (gs : List (Group Samples)) (x : Progress) → 0 < length gs → HaveBooks s x gs
    → length (groups_coded s x gs).text + 32 ≡ length x.text + removed (removals x.ledger (groups_seen s x gs))
unfolding groups_coded groups_seen removals
all_bits s [] x some h = absurd (omega (arith, some))
all_bits s (g ∷ []) x some h =
    let b = book_of s x g in
    let is : removed (removals x.ledger (groups_seen s x (g ∷ []))) ≡ removed (ending (closed x.ledger (seen_of b)) (length (seen_of b))) = refl in
    let text : length (groups_coded s x (g ∷ [])).text ≡ length (group_coded s x g true).text = refl in
    omega (arith, last_group s x g h.0, is, text)
all_bits s (g ∷ k ∷ more) x some h =
    let y = group_coded s x g false in
    let b = book_of s x g in
    let c = closed x.ledger (seen_of b) in
    let gs = groups_seen s y (k ∷ more) in
    let is : removed (removals x.ledger (groups_seen s x (g ∷ k ∷ more))) ≡ removed (group_removals c (length (seen_of b)) ++ removals c gs) = refl in
    let text : length (groups_coded s x (g ∷ k ∷ more)).text ≡ length (groups_coded s y (k ∷ more)).text = refl in
    omega (
      arith,
      is,
      text,
      all_bits s (k ∷ more) y (omega arith) h.1,
      group_bits s x g h.0,
      removed_both (group_removals c (length (seen_of b))) (removals c gs),
      ap (λ (n : ℕ). removed (group_removals c n)) (seen_length b),
      ap (λ (l : Entries). removed (removals l gs)) (behind s x g h.0),
    )

-- ---- the stream

pub stream_bits : (s : Settings) (frames : List (List ℕ)) → Passes s → 1 ≤ length frames → length frames ≤ 999999
    → length ((coded_all s frames).text ⧺ start_code 0xB7) ≡ removed (removals (fresh s) (Seen s frames))
unfolding coded_all
stream_bits s frames passes some few =
    let bits = all_bits s (groups_of s frames) (at_start s) (stream_some s frames some) (have_books s frames passes few) in
    let text = (groups_coded s (at_start s) (groups_of s frames)).text in
    let is : length ((coded_all s frames).text ⧺ start_code 0xB7) ≡ length (text ++ start_code 0xB7) = refl in
    omega (arith, is, bits, length-append text (start_code 0xB7), start_length 0xB7)
