-- The pictures as they are sent take what the pieces take, and have the same start codes.
use Rattle.std.proofs.Common.{◌≡◌, ℕ, suc, ◌+◌, ◌-◌, ◌<◌, ◌≤◌, Bool, true, false, List, [], ◌∷◌, ◌++◌, length, map, refl, sym, ap, ◌∙◌, arith}
use Rattle.std.specs.List.{range_with_len}
use Rattle.std.proofs.lemmas.List.{map-append}
use Rattle.m2v_plane.specs.Samples.{Samples}
use Rattle.m2v_set.specs.declared.settings.Settings.{Settings}
use Rattle.m2v_order.specs.Groups.{Group}
use Rattle.m2v_slice.specs.Headers.{bits_to_code}
use Rattle.m2v_slice.specs.Books.{Book, job_at}
use Rattle.m2v_slice.specs.Conditions.{IsBook}
use Rattle.m2v_enc_stream.specs.Streams.{Progress, group_coded, book_of}
use Rattle.m2v_enc_stream.specs.Removals.{coded_of, ledger_of}
use Rattle.m2v_enc_stream.specs.Sent.{SentPicture, place_at, sent_at, group_sent, groups_sent}
use Rattle.m2v_enc_stream.proofs.TreeGroups.{MayFollow, AllFollow}
use Rattle.m2v_law_shown.specs.Texts.{in_group, in_groups, bits_at, code_at}
use Rattle.m2v_law_shown.proofs.Ends.{with_end, end_append, groups_some}
use Rattle.m2v_law_shown.proofs.Runs.{range_more}
use Rattle.m2v_law_shown.proofs.Told.{maps_range}
use Rattle.m2v_enc_stream.proofs.Pictures.{picture_length}

-- ---- numbers of the pictures that are sent

abbrev pub bits_of_sent : List SentPicture → List ℕ
bits_of_sent xs = map (λ (x : SentPicture). x.bits) xs

abbrev pub codes_of_sent : List SentPicture → List ℕ
codes_of_sent xs = map (λ (x : SentPicture). x.code) xs

-- the same, by the pictures of a book
abbrev bits_by : Book → Bool → ℕ → ℕ → ℕ
bits_by b ends at p = bits_at b (coded_of b) (ledger_of b) ends (place_at b ends at p) p

abbrev codes_by : Book → ℕ → ℕ
codes_by b p = bits_to_code (job_at b p)

-- ---- the last of all

end_one : (xs : List ℕ) (n : ℕ) → with_end (xs ++ n ∷ []) ≡ xs ++ (n + 32) ∷ []
unfolding with_end
end_one xs n = end_append xs (n ∷ []) (let e : 0 < length (n ∷ []) = omega arith in e)

-- ---- a group

group_bits : (b : Book) → IsBook b → (ends : Bool) (at n : ℕ) → n ≤ length b.pictures
    → bits_of_sent (group_sent b ends at n) ≡ map (bits_by b ends at) (range_with_len 0 n)
group_bits b h ends at n le =
    maps_range (λ (x : SentPicture). x.bits) (sent_at b ends at 0) (bits_by b ends at) 0 n
    (λ p lt. let small : p < length b.pictures = omega (arith, lt, le) in omega (arith, picture_length b h (ledger_of b) ends (place_at b ends at p) p small))

group_codes : (b : Book) (ends : Bool) (at n : ℕ) → codes_of_sent (group_sent b ends at n) ≡ map (codes_by b) (range_with_len 0 n)
group_codes b ends at n = maps_range (λ (x : SentPicture). x.code) (sent_at b ends at 0) (codes_by b) 0 n (λ p lt. refl)

last_bits : (b : Book) → IsBook b → (at p : ℕ) → p + 1 ≡ length b.pictures
    → bits_of_sent (group_sent b true at p ++ sent_at b true at 32 p ∷ []) ≡ with_end (map (bits_by b true at) (range_with_len 0 (suc p)))
last_bits b h at p is =
    let small : p < length b.pictures = omega (arith, is) in
    let f = bits_by b true at in
    map-append (λ (x : SentPicture). x.bits) (group_sent b true at p) (sent_at b true at 32 p ∷ [])
    ∙ ap (λ (ns : List ℕ). ns ++ (sent_at b true at 32 p).bits ∷ []) (group_bits b h true at p (omega (arith, small)))
    ∙ ap (λ (n : ℕ). map f (range_with_len 0 p) ++ (n + 32) ∷ []) (picture_length b h (ledger_of b) true (place_at b true at p) p small)
    ∙ sym (end_one (map f (range_with_len 0 p)) (f p))
    ∙ ap with_end (sym (range_more f p))

last_codes : (b : Book) (at p : ℕ) → codes_of_sent (group_sent b true at p ++ sent_at b true at 32 p ∷ []) ≡ map (codes_by b) (range_with_len 0 (suc p))
last_codes b at p =
    map-append (λ (x : SentPicture). x.code) (group_sent b true at p) (sent_at b true at 32 p ∷ [])
    ∙ ap (λ (ns : List ℕ). ns ++ codes_by b p ∷ []) (group_codes b true at p)
    ∙ sym (range_more (codes_by b) p)

-- ---- all groups

whole_group : (s : Settings) (x : Progress) (g : Group Samples) → MayFollow s x g false
    → bits_of_sent (group_sent (book_of s x g) false (length x.text) (length g.pictures)) ≡ in_group bits_at s x g false
unfolding in_group
whole_group s x g may = group_bits (book_of s x g) may.book false (length x.text) (length g.pictures) (omega arith)

-- a group has a last picture
last_is : (s : Settings) (x : Progress) (g : Group Samples) → MayFollow s x g true → suc (length g.pictures - 1) ≡ length g.pictures
last_is s x g may = let some = may.book.group.picture in omega (arith, some)

last_group : (s : Settings) (x : Progress) (g : Group Samples) → MayFollow s x g true
    → (let b = book_of s x g in
    let last = length g.pictures - 1 in
    bits_of_sent (group_sent b true (length x.text) last ++ sent_at b true (length x.text) 32 last ∷ []) ≡ with_end (in_group bits_at s x g true))
unfolding in_group
last_group s x g may =
    let is = last_is s x g may in
    last_bits (book_of s x g) may.book (length x.text) (length g.pictures - 1) (omega (arith, is))
    ∙ ap (λ (n : ℕ). with_end (map (bits_by (book_of s x g) true (length x.text)) (range_with_len 0 n))) is

pub groups_take : (s : Settings) (groups : List (Group Samples)) (x : Progress) → AllFollow s x groups
    → bits_of_sent (groups_sent s x groups) ≡ with_end (in_groups bits_at s x groups)
unfolding groups_sent in_groups with_end AllFollow
groups_take s [] x all = refl
groups_take s (g ∷ []) x all = last_group s x g all
groups_take s (g ∷ h ∷ more) x all =
    let y = group_coded s x g false in
    map-append (λ (z : SentPicture). z.bits) (group_sent (book_of s x g) false (length x.text) (length g.pictures)) (groups_sent s y (h ∷ more))
    ∙ ap (λ (ns : List ℕ). ns ++ bits_of_sent (groups_sent s y (h ∷ more))) (whole_group s x g all.0)
    ∙ ap (λ (ns : List ℕ). in_group bits_at s x g false ++ ns) (groups_take s (h ∷ more) y all.1)
    ∙ sym (end_append (in_group bits_at s x g false) (in_groups bits_at s y (h ∷ more)) (groups_some s h more y all.1))

whole_codes : (s : Settings) (x : Progress) (g : Group Samples) → codes_of_sent (group_sent (book_of s x g) false (length x.text) (length g.pictures)) ≡ in_group code_at s x g false
unfolding in_group
whole_codes s x g = group_codes (book_of s x g) false (length x.text) (length g.pictures)

end_codes : (s : Settings) (x : Progress) (g : Group Samples) → MayFollow s x g true
    → (let b = book_of s x g in
    let last = length g.pictures - 1 in
    codes_of_sent (group_sent b true (length x.text) last ++ sent_at b true (length x.text) 32 last ∷ []) ≡ in_group code_at s x g true)
unfolding in_group
end_codes s x g may =
    last_codes (book_of s x g) (length x.text) (length g.pictures - 1) ∙ ap (λ (n : ℕ). map (codes_by (book_of s x g)) (range_with_len 0 n)) (last_is s x g may)

pub groups_begin : (s : Settings) (groups : List (Group Samples)) (x : Progress) → AllFollow s x groups
    → codes_of_sent (groups_sent s x groups) ≡ in_groups code_at s x groups
unfolding groups_sent in_groups AllFollow
groups_begin s [] x all = refl
groups_begin s (g ∷ []) x all = end_codes s x g all
groups_begin s (g ∷ h ∷ more) x all =
    let y = group_coded s x g false in
    map-append (λ (z : SentPicture). z.code) (group_sent (book_of s x g) false (length x.text) (length g.pictures)) (groups_sent s y (h ∷ more))
    ∙ ap (λ (ns : List ℕ). ns ++ codes_of_sent (groups_sent s y (h ∷ more))) (whole_codes s x g)
    ∙ ap (λ (ns : List ℕ). in_group code_at s x g false ++ ns) (groups_begin s (h ∷ more) y all.1)
