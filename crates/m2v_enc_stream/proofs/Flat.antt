-- The pictures as they are sent are those that are removed, and each has the exact delay.
use Rattle.std.proofs.Common.{◌≡◌, ℕ, zero, suc, ◌+◌, ◌-◌, ◌<◌, ◌≤◌, ◌⊎◌, inl, inr, Bool, true, false, List, [], ◌∷◌, ◌++◌, length, map, refl, sym, ap, subst, ◌∙◌, arith}
use Rattle.std.specs.Prelude.{slice_index}
use Rattle.std.proofs.lemmas.List.{map-append}
use Rattle.std.proofs.lemmas.List.FromFn.{map-range_with_len_more}
use Rattle.m2v_plane.specs.Samples.{Samples}
use Rattle.m2v_set.specs.declared.settings.Settings.{Settings}
use Rattle.m2v_set.specs.Rules.{Passes}
use Rattle.m2v_vbv.specs.Annex.{Removal}
use Rattle.m2v_order.specs.Groups.{Group}
use Rattle.m2v_rate.specs.Plans.{Entries, fresh}
use Rattle.m2v_rate.specs.Safety.{closed, removal_at, ending_at, group_removals, removals}
use Rattle.m2v_slice.specs.Books.{Book, ledger_with}
use Rattle.m2v_slice.specs.Conditions.{IsBook}
use Rattle.m2v_enc_stream.specs.Streams.{Progress, at_start, book_of, group_coded}
use Rattle.m2v_enc_stream.specs.Removals.{ledger_of, seen_of, groups_seen, groups_of, Seen}
use Rattle.m2v_enc_stream.specs.Sent.{removal_of, place_at, sent_at, group_sent, groups_sent, Sent}
use Rattle.m2v_slice.proofs.Ledgers.{whole_kinds, size_at}
use Rattle.m2v_enc_stream.proofs.Closed.{seen_length}
use Rattle.m2v_enc_stream.proofs.Stands.{HasBook, HaveBooks, have_books}
use Rattle.m2v_enc_stream.proofs.Groups.{group_closed, behind}
use Rattle.m2v_enc_stream.proofs.Pictures.{picture_length}
use Rattle.m2v_enc_stream.proofs.Texts.{picture_bits}
use Rattle.m2v_enc_stream.proofs.Streams.{zeros_none}

-- ---- removals

same_removal : (a b c d : ℕ) → a ≡ b → c ≡ d → (let r : Removal = record { bits = a; units = c } in let t : Removal = record { bits = b; units = d } in r ≡ t)
same_removal a b c d e f = rw (e, f) refl

units_kept : (b : Book) → (ledger_of b).intervals ≡ b.ledger.intervals
unfolding ledger_with
units_kept b = refl

-- a picture that isn't the last of all
sent_is : (b : Book) → IsBook b → (ends : Bool) (at p : ℕ) → p < length b.pictures → (p + 1 < length b.pictures) ⊎ (ends ≡ false)
    → removal_of (sent_at b ends at 0 p) ≡ removal_at (ledger_of b) p
sent_is b h ends at p lt goes =
    same_removal _ _ _ _ (omega (arith, picture_bits b h ends (place_at b ends at p) p lt goes))
    (ap (λ (xs : List ℕ). slice_index xs p) (sym (units_kept b)))

-- the last of all
last_is : (b : Book) → IsBook b → (at p : ℕ) → p + 1 ≡ length b.pictures → removal_of (sent_at b true at 32 p) ≡ ending_at (ledger_of b) p
last_is b h at p e =
    let lt : p < length b.pictures = omega (arith, e) in
    same_removal _ _ _ _
    (omega (arith, picture_length b h (ledger_of b) true (place_at b true at p) p lt, zeros_none (ledger_of b) p (e ∙ sym (whole_kinds b h)), size_at b p lt))
    (ap (λ (xs : List ℕ). slice_index xs p) (sym (units_kept b)))

pub group_more : (b : Book) (ends : Bool) (at n : ℕ) → group_sent b ends at (n + 1) ≡ group_sent b ends at n ++ sent_at b ends at 0 n ∷ []
group_more b ends at n = map-range_with_len_more (sent_at b ends at 0) 0 n n (omega arith)

removals_more : (c : Entries) (n : ℕ) → group_removals c (n + 1) ≡ group_removals c n ++ removal_at c n ∷ []
removals_more c n = map-range_with_len_more (removal_at c) 0 n n (omega arith)

-- the first pictures of a group
pub group_is : (b : Book) → IsBook b → (ends : Bool) (at n : ℕ) → n ≤ length b.pictures → (n < length b.pictures) ⊎ (ends ≡ false)
    → map removal_of (group_sent b ends at n) ≡ group_removals (ledger_of b) n
group_is b h ends at zero le goes = refl
group_is b h ends at (suc n) le goes =
    let e : n + 1 ≡ suc n = omega arith in
    subst (λ (k : ℕ). map removal_of (group_sent b ends at k) ≡ group_removals (ledger_of b) k) e
    (ap (map removal_of) (group_more b ends at n)
    ∙ map-append removal_of (group_sent b ends at n) (sent_at b ends at 0 n ∷ [])
    ∙ ap (λ (rs : List Removal). rs ++ removal_of (sent_at b ends at 0 n) ∷ []) (group_is b h ends at n (omega (arith, le)) (inl (omega (arith, le))))
    ∙ ap (λ (r : Removal). group_removals (ledger_of b) n ++ r ∷ []) (sent_is b h ends at n (omega (arith, le)) (more goes))
    ∙ sym (removals_more (ledger_of b) n))
  where
    more : (suc n < length b.pictures) ⊎ (ends ≡ false) → (n + 1 < length b.pictures) ⊎ (ends ≡ false)
    more (inl less) = inl (omega (arith, less))
    more (inr e) = inr e

-- the last group
ending_is : (b : Book) → IsBook b → (at p : ℕ) → p + 1 ≡ length b.pictures
    → map removal_of (group_sent b true at p ++ sent_at b true at 32 p ∷ []) ≡ group_removals (ledger_of b) p ++ ending_at (ledger_of b) p ∷ []
ending_is b h at p e =
    map-append removal_of (group_sent b true at p) (sent_at b true at 32 p ∷ [])
    ∙ ap (λ (rs : List Removal). rs ++ removal_of (sent_at b true at 32 p) ∷ []) (group_is b h true at p (omega (arith, e)) (inl (omega (arith, e))))
    ∙ ap (λ (r : Removal). group_removals (ledger_of b) p ++ r ∷ []) (last_is b h at p e)

last_group : (s : Settings) (x : Progress) (g : Group Samples) → HasBook s x g
    → (let b = book_of s x g in
    let last = length g.pictures - 1 in
    map removal_of (group_sent b true (length x.text) last ++ sent_at b true (length x.text) 32 last ∷ [])
    ≡ group_removals (closed x.ledger (seen_of b)) (length (seen_of b) - 1) ++ ending_at (closed x.ledger (seen_of b)) (length (seen_of b) - 1) ∷ [])
last_group s x g h =
    let b = book_of s x g in
    let last = length g.pictures - 1 in
    let some = h.book.group.picture in
    ending_is b h.book (length x.text) last (omega (arith, some))
    ∙ ap (λ (c : Entries). group_removals c last ++ ending_at c last ∷ []) (sym (group_closed s x g h))
    ∙ ap (λ (n : ℕ). group_removals (closed x.ledger (seen_of b)) (n - 1) ++ ending_at (closed x.ledger (seen_of b)) (n - 1) ∷ []) (sym (seen_length b))

-- a group that isn't the last one
pub whole_group : (s : Settings) (x : Progress) (g : Group Samples) → HasBook s x g
    → (let b = book_of s x g in
    map removal_of (group_sent b false (length x.text) (length g.pictures)) ≡ group_removals (closed x.ledger (seen_of b)) (length (seen_of b)))
whole_group s x g h =
    let b = book_of s x g in
    group_is b h.book false (length x.text) (length g.pictures) (omega arith) (inr refl)
    ∙ ap (λ (c : Entries). group_removals c (length g.pictures)) (sym (group_closed s x g h))
    ∙ ap (λ (n : ℕ). group_removals (closed x.ledger (seen_of b)) n) (sym (seen_length b))

all_sent : (s : Settings) (gs : List (Group Samples)) (x : Progress) → HaveBooks s x gs → removals x.ledger (groups_seen s x gs) ≡ map removal_of (groups_sent s x gs)
unfolding groups_seen groups_sent removals
all_sent s [] x h = refl
all_sent s (g ∷ []) x h = sym (last_group s x g h.0)
all_sent s (g ∷ (k ∷ later)) x h =
    let y = group_coded s x g false in
    let b = book_of s x g in
    let c = closed x.ledger (seen_of b) in
    let front = group_sent b false (length x.text) (length g.pictures) in
    ap (λ (l : Entries). group_removals c (length (seen_of b)) ++ removals l (groups_seen s y (k ∷ later))) (behind s x g h.0)
    ∙ ap (λ (rs : List Removal). group_removals c (length (seen_of b)) ++ rs) (all_sent s (k ∷ later) y h.1)
    ∙ ap (λ (rs : List Removal). rs ++ map removal_of (groups_sent s y (k ∷ later))) (sym (whole_group s x g h.0))
    ∙ sym (map-append removal_of front (groups_sent s y (k ∷ later)))

pub stream_sent : (s : Settings) (frames : List (List ℕ)) → Passes s → length frames ≤ 999999 → removals (fresh s) (Seen s frames) ≡ map removal_of (Sent s frames)
stream_sent s frames passes few = all_sent s (groups_of s frames) (at_start s) (have_books s frames passes few)
