-- The times behind the pictures that are sent.
use Rattle.std.proofs.Common.{◌≡◌, ℕ, ◌+◌, ◌-◌, ◌≤◌, Bool, true, false, List, [], ◌∷◌, ◌++◌, length, map, get_or, refl, sym, ap, ◌∙◌, arith}
use Rattle.std.specs.List.{flat_map}
use Rattle.std.proofs.lemmas.List.{append-nil, map-append, length-map, get_or-map}
use Rattle.std.proofs.lemmas.List.FromFn.{fill_by_all, get_or-map-range_with_len, length-map-range_with_len}
use Rattle.m2v_plane.specs.Samples.{Samples}
use Rattle.m2v_set.specs.declared.settings.Settings.{Settings}
use Rattle.m2v_set.specs.Rules.{Passes}
use Rattle.m2v_order.specs.Groups.{Group}
use Rattle.m2v_order.specs.Times.{intervals_of}
use Rattle.m2v_slice.specs.Books.{Book}
use Rattle.m2v_slice.specs.Conditions.{IsBook}
use Rattle.m2v_enc_stream.specs.Streams.{Progress, at_start, book_of, group_coded}
use Rattle.m2v_enc_stream.specs.Removals.{groups_of}
use Rattle.m2v_enc_stream.specs.Sent.{SentPicture, sent_at, group_sent, groups_sent, Sent}
use Rattle.m2v_slice.proofs.Ledgers.{times_count}
use Rattle.m2v_enc_stream.proofs.Stands.{HaveBooks, have_books}
use Rattle.m2v_enc_stream.proofs.Flat.{group_more}

abbrev units_of : List SentPicture → List ℕ
units_of xs = map (λ (x : SentPicture). x.units) xs

group_units : (b : Book) → IsBook b → (ends : Bool) (at : ℕ) → units_of (group_sent b ends at (length b.pictures)) ≡ b.ledger.intervals
group_units b h ends at =
    let n = length b.pictures in
    let f = λ (p : ℕ). get_or b.ledger.intervals p 0 in
    let units = λ (x : SentPicture). x.units in
    let xs = group_sent b ends at n in
    let long : length xs ≡ n = length-map-range_with_len (sent_at b ends at 0) 0 n in
    fill_by_all f (units_of xs) n 0 (length-map xs units ∙ long)
    (λ p lt. get_or-map units xs p (sent_at b ends at 0 p) 0 (omega (arith, lt, long))
    ∙ ap units (get_or-map-range_with_len (sent_at b ends at 0) 0 n p p (sent_at b ends at 0 p) lt (omega arith)))
    ∙ sym (fill_by_all f b.ledger.intervals n 0 (times_count b h) (λ p lt. refl))

last_units : (b : Book) → IsBook b → (at p : ℕ) → p + 1 ≡ length b.pictures → units_of (group_sent b true at p ++ sent_at b true at 32 p ∷ []) ≡ b.ledger.intervals
last_units b h at p e =
    map-append (λ (x : SentPicture). x.units) (group_sent b true at p) (sent_at b true at 32 p ∷ [])
    ∙ sym (map-append (λ (x : SentPicture). x.units) (group_sent b true at p) (sent_at b true at 0 p ∷ []))
    ∙ ap units_of (sym (group_more b true at p))
    ∙ ap (λ (n : ℕ). units_of (group_sent b true at n)) e
    ∙ group_units b h true at

abbrev group_times : Settings → Group Samples → List ℕ
group_times s g = intervals_of s g.before g.pictures

all_units : (s : Settings) (gs : List (Group Samples)) (x : Progress) → HaveBooks s x gs → units_of (groups_sent s x gs) ≡ flat_map (group_times s) gs
unfolding groups_sent
all_units s [] x h = refl
all_units s (g ∷ []) x h =
    let b = book_of s x g in
    let some = h.0.book.group.picture in
    last_units b h.0.book (length x.text) (length g.pictures - 1) (omega (arith, some)) ∙ sym (append-nil (group_times s g))
all_units s (g ∷ (k ∷ later)) x h =
    let y = group_coded s x g false in
    let b = book_of s x g in
    map-append (λ (z : SentPicture). z.units) (group_sent b false (length x.text) (length g.pictures)) (groups_sent s y (k ∷ later))
    ∙ ap (λ (us : List ℕ). us ++ units_of (groups_sent s y (k ∷ later))) (group_units b h.0.book false (length x.text))
    ∙ ap (λ (us : List ℕ). group_times s g ++ us) (all_units s (k ∷ later) y h.1)

pub stream_units : (s : Settings) (frames : List (List ℕ)) → Passes s → length frames ≤ 999999
    → map (λ (x : SentPicture). x.units) (Sent s frames) ≡ flat_map (λ (g : Group Samples). intervals_of s g.before g.pictures) (groups_of s frames)
stream_units s frames passes few = all_units s (groups_of s frames) (at_start s) (have_books s frames passes few)
