-- Where the start codes of the pictures end in the stream.
use Rattle.std.proofs.Common.{◌≡◌, ℕ, zero, suc, ◌+◌, ◌<◌, ◌≤◌, Bool, true, false, List, [], ◌∷◌, ◌++◌, length, map, refl, sym, ap, ◌∙◌, arith}
use Rattle.std.specs.List.{range_with_len}
use Rattle.std.proofs.lemmas.List.{length-append}
use Rattle.m2v_bits.specs.Bits.{packed}
use Rattle.m2v_plane.specs.Samples.{Samples}
use Rattle.m2v_set.specs.declared.settings.Settings.{Settings}
use Rattle.m2v_order.specs.Groups.{Group}
use Rattle.m2v_rate.specs.Plans.{Entries}
use Rattle.m2v_slice.specs.Headers.{bits_to_code}
use Rattle.m2v_slice.specs.Books.{Book, job_at, coded}
use Rattle.m2v_slice.specs.Conditions.{IsBook}
use Rattle.m2v_enc_stream.specs.Streams.{Progress, group_coded, groups_coded, picture_text, pictures_text, book_of}
use Rattle.m2v_model.specs.Buffering.{bits_of_piece, code_bits, codes}
use Rattle.m2v_enc_stream.proofs.SliceUnits.{Spelled}
use Rattle.m2v_enc_stream.proofs.PictureChains.{picture_text_holds}
use Rattle.m2v_enc_stream.proofs.Stands.{group_text_is}
use Rattle.m2v_enc_stream.proofs.TreeGroups.{MayFollow, AllFollow, done_of, ledger_of}
use Rattle.m2v_law_shown.specs.Texts.{in_group, in_groups, place_at}
use Rattle.m2v_law_shown.proofs.Runs.{range_more}
use Rattle.m2v_law_shown.proofs.StreamPieces.{bytes_at}
use Rattle.m2v_law_shown.proofs.Lengths.{bytes_by, piece_code}

-- ---- bits of pieces in a row

unfoldable pub bits_of_all : List (List ℕ) → ℕ
bits_of_all [] = 0
bits_of_all (p ∷ ps) = bits_of_piece p + bits_of_all ps

pub bits_append : (ps qs : List (List ℕ)) → bits_of_all (ps ++ qs) ≡ bits_of_all ps + bits_of_all qs
unfolding bits_of_all
bits_append [] qs = let e : bits_of_all qs ≡ 0 + bits_of_all qs = omega arith in e
bits_append (p ∷ ps) qs = omega (arith, bits_append ps qs)

pub bits_one : (p : List ℕ) → bits_of_all (p ∷ []) ≡ bits_of_piece p
unfolding bits_of_all
bits_one p = omega arith

pub codes_append : (ps qs : List (List ℕ)) (at : ℕ) → codes at (ps ++ qs) ≡ codes at ps ++ codes (at + bits_of_all ps) qs
unfolding codes bits_of_all
codes_append [] qs at = ap (λ (n : ℕ). codes n qs) (let e : at ≡ at + 0 = omega arith in e)
codes_append (p ∷ ps) qs at =
    let e : at + bits_of_piece p + bits_of_all ps ≡ at + (bits_of_piece p + bits_of_all ps) = omega arith in
    ap (λ (cs : List ℕ). (at + code_bits p) ∷ cs)
    (codes_append ps qs (at + bits_of_piece p) ∙ ap (λ (n : ℕ). codes (at + bits_of_piece p) ps ++ codes n qs) e)

pub codes_one : (p : List ℕ) (at : ℕ) → codes at (p ∷ []) ≡ (at + code_bits p) ∷ []
unfolding codes
codes_one p at = refl

-- ---- pictures

-- the first n pictures of a group as bytes
abbrev bytes_of_first : Book → Entries → Bool → ℕ → ℕ → List (List ℕ)
bytes_of_first b l ends at n =
    let done = coded b (length b.pictures) in
    map (λ p. bytes_at b done l ends (at + length (pictures_text b done l ends at p)) p) (range_with_len 0 n)

abbrev places_of_first : Book → Entries → Bool → ℕ → ℕ → List ℕ
places_of_first b l ends at n =
    let done = coded b (length b.pictures) in
    map (λ p. place_at b done l ends (at + length (pictures_text b done l ends at p)) p) (range_with_len 0 n)

module _ (law : Spelled) (b : Book) (h : IsBook b) (l : Entries) (ends : Bool) (at : ℕ) where
  -- where picture n begins, and its text
  abbrev place_of : ℕ → ℕ
  place_of n = at + length (pictures_text b (coded b (length b.pictures)) l ends at n)

  abbrev text_of : ℕ → List Bool
  text_of n = picture_text b (coded b (length b.pictures)) l ends (place_of n) n

  first_bits : (n : ℕ) → n ≤ length b.pictures → bits_of_all (bytes_of_first b l ends at n) ≡ length (pictures_text b (coded b (length b.pictures)) l ends at n)
  unfolding pictures_text bits_of_all
  first_bits zero le = refl
  first_bits (suc n) le =
      let lt : n < length b.pictures = omega (arith, le) in
      let rec = first_bits n (omega (arith, le)) in
      let one = bytes_by (text_of n) (picture_text_holds law b h l ends (length b.pictures) n (place_of n) lt lt).edge in
      ap bits_of_all (range_more (λ p. bytes_at b (coded b (length b.pictures)) l ends (place_of p) p) n)
      ∙ bits_append (bytes_of_first b l ends at n) (packed (text_of n) ∷ [])
      ∙ omega (arith, bits_one (packed (text_of n)), rec, one, length-append (pictures_text b (coded b (length b.pictures)) l ends at n) (text_of n))

  first_codes : (n : ℕ) → n ≤ length b.pictures → codes at (bytes_of_first b l ends at n) ≡ places_of_first b l ends at n
  unfolding codes
  first_codes zero le = refl
  first_codes (suc n) le =
      let few : n ≤ length b.pictures = omega (arith, le) in
      let bytes = packed (text_of n) in
      let place : at + bits_of_all (bytes_of_first b l ends at n) + code_bits bytes ≡ place_of n + bits_to_code (job_at b n) =
      omega (arith, first_bits n few, piece_code law b h l ends (place_of n) n (omega (arith, le))) in
      ap (codes at) (range_more (λ p. bytes_at b (coded b (length b.pictures)) l ends (place_of p) p) n)
      ∙ codes_append (bytes_of_first b l ends at n) (bytes ∷ []) at
      ∙ ap (λ (cs : List ℕ). cs ++ codes (at + bits_of_all (bytes_of_first b l ends at n)) (bytes ∷ [])) (first_codes n few)
      ∙ ap (λ (c : ℕ). places_of_first b l ends at n ++ c ∷ []) place
      ∙ sym (range_more (λ p. place_at b (coded b (length b.pictures)) l ends (place_of p) p) n)

-- ---- groups

group_bits : (law : Spelled) (s : Settings) (x : Progress) (g : Group Samples) (ends : Bool) → MayFollow s x g ends
    → length x.text + bits_of_all (in_group bytes_at s x g ends) ≡ length (group_coded s x g ends).text
unfolding in_group
group_bits law s x g ends may =
    let t = pictures_text (book_of s x g) (done_of s x g) (ledger_of s x g) ends (length x.text) (length g.pictures) in
    let bits = first_bits law (book_of s x g) may.book (ledger_of s x g) ends (length x.text) (length g.pictures) (omega arith) in
    omega (arith, bits, length-append x.text t, ap length (group_text_is s x g ends))

group_codes : (law : Spelled) (s : Settings) (x : Progress) (g : Group Samples) (ends : Bool) → MayFollow s x g ends
    → codes (length x.text) (in_group bytes_at s x g ends) ≡ in_group place_at s x g ends
unfolding in_group
group_codes law s x g ends may = first_codes law (book_of s x g) may.book (ledger_of s x g) ends (length x.text) (length g.pictures) (omega arith)

pub groups_bits : (law : Spelled) (s : Settings) (groups : List (Group Samples)) (x : Progress) → AllFollow s x groups
    → length x.text + bits_of_all (in_groups bytes_at s x groups) ≡ length (groups_coded s x groups).text
unfolding in_groups groups_coded bits_of_all AllFollow
groups_bits law s [] x all = omega arith
groups_bits law s (g ∷ []) x all = group_bits law s x g true all
groups_bits law s (g ∷ h ∷ more) x all =
    let y = group_coded s x g false in
    omega (
      arith,
      bits_append (in_group bytes_at s x g false) (in_groups bytes_at s y (h ∷ more)),
      group_bits law s x g false all.0,
      groups_bits law s (h ∷ more) y all.1,
    )

pub groups_codes : (law : Spelled) (s : Settings) (groups : List (Group Samples)) (x : Progress) → AllFollow s x groups
    → codes (length x.text) (in_groups bytes_at s x groups) ≡ in_groups place_at s x groups
unfolding in_groups codes AllFollow
groups_codes law s [] x all = refl
groups_codes law s (g ∷ []) x all = group_codes law s x g true all
groups_codes law s (g ∷ h ∷ more) x all =
    let y = group_coded s x g false in
    codes_append (in_group bytes_at s x g false) (in_groups bytes_at s y (h ∷ more)) (length x.text)
    ∙ ap (λ (n : ℕ). codes (length x.text) (in_group bytes_at s x g false) ++ codes n (in_groups bytes_at s y (h ∷ more))) (group_bits law s x g false all.0)
    ∙ ap (λ (cs : List ℕ). cs ++ codes (length y.text) (in_groups bytes_at s y (h ∷ more))) (group_codes law s x g false all.0)
    ∙ ap (λ (cs : List ℕ). in_group place_at s x g false ++ cs) (groups_codes law s (h ∷ more) y all.1)
