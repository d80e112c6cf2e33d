-- What the pieces of the stream take, and where their start codes end.
use Rattle.std.proofs.Common.{◌≡◌, ℕ, zero, suc, ◌+◌, ◌<◌, ◌≤◌, Bool, true, false, List, [], ◌∷◌, ◌++◌, length, map, sum, refl, sym, ap, subst, ◌∙◌, arith}
use Rattle.std.specs.List.{range_with_len}
use Rattle.std.proofs.lemmas.Bool.{cond-true}
use Rattle.std.proofs.lemmas.List.{map-append, length-append}
use Rattle.std.proofs.lemmas.List.FromFn.{length-map-range_with_len}
use Rattle.std.proofs.lemmas.List.Sums.{sum_by-cons}
use Rattle.m2v_bits.specs.Bits.{bits_of, number, packed, start_code}
use Rattle.m2v_plane.specs.Samples.{Samples}
use Rattle.m2v_set.specs.declared.settings.Settings.{Settings}
use Rattle.m2v_set.specs.Rules.{Passes}
use Rattle.m2v_order.specs.declared.jobs.PictureJob.{PictureJob}
use Rattle.m2v_order.specs.Groups.{Group}
use Rattle.m2v_slice.specs.Headers.{begins_group, bits_to_code}
use Rattle.m2v_slice.specs.Books.{job_at}
use Rattle.m2v_enc_stream.specs.Streams.{Progress, at_start, group_coded, groups_coded, coded_all, Coded, book_of, picture_text}
use Rattle.m2v_model.specs.Units.{cut}
use Rattle.m2v_model.specs.Pieces.{pieces}
use Rattle.m2v_model.specs.Buffering.{sizes, before_picture, bits_of_piece, code_bits, codes, first_code}
use Rattle.m2v_enc_stream.specs.Trees.{groups_of}
use Rattle.m2v_slice.proofs.Firsts.{first_begins}
use Rattle.m2v_enc_stream.proofs.SliceUnits.{Spelled}
use Rattle.m2v_enc_stream.proofs.Queues.{coded_is, stream_some}
use Rattle.m2v_enc_stream.proofs.Follows.{stream_follows}
use Rattle.m2v_enc_stream.proofs.TreeGroups.{MayFollow, AllFollow}
use Rattle.m2v_law_shown.specs.Texts.{in_group, in_groups, bits_at, code_at, picture_texts, picture_bits, picture_codes, code_places, Taken, ends_of}
use Rattle.m2v_law_shown.proofs.Told.{groups_give}
use Rattle.m2v_law_shown.proofs.StreamPieces.{bytes_at, packed_are, pieces_are}
use Rattle.m2v_enc_stream.proofs.Pictures.{picture_length}
use Rattle.m2v_law_shown.proofs.Lengths.{piece_bits, piece_code}
use Rattle.m2v_law_shown.proofs.Ends.{sizes_are, groups_end}
use Rattle.m2v_law_shown.proofs.Codes.{bits_of_all, bits_append, bits_one, codes_append, codes_one, groups_bits, groups_codes}

-- ---- the last piece

abbrev end_piece : List ℕ
end_piece = packed (start_code 0xB7)

end_bits : bits_of_piece end_piece ≡ 32
unfolding packed bits_of
end_bits = refl

-- it has no picture: that is looked for up to its end
end_code : code_bits end_piece ≡ 64
unfolding packed bits_of number cut before_picture
end_code = refl

-- ---- lists

abbrev IsHead : List ℕ → Type 0
IsHead [] = ⊥
IsHead (c ∷ cs) = c ≡ 272

head_append : (xs ys : List ℕ) → IsHead xs → IsHead (xs ++ ys)
head_append [] ys h = absurd h
head_append (x ∷ xs) ys h = h

first_head : (ps : List (List ℕ)) (e : List ℕ) → IsHead (map code_bits ps) → first_code (ps ++ e ∷ []) ≡ 272
first_head [] e h = absurd h
first_head (p ∷ ps) e h = h

-- start codes by the bits of pieces, and where it ends in each
codes_by : (ps : List (List ℕ)) (at : ℕ) → codes at ps ≡ ends_of at (map bits_of_piece ps) (map code_bits ps)
unfolding codes ends_of
codes_by [] at = refl
codes_by (p ∷ ps) at = ap (λ (cs : List ℕ). (at + code_bits p) ∷ cs) (codes_by ps (at + bits_of_piece p))

-- the bits of pieces are their sum
sum_is : (ps : List (List ℕ)) → sum (map bits_of_piece ps) ≡ bits_of_all ps
unfolding bits_of_all
sum_is [] = refl
sum_is (p ∷ ps) = sum_by-cons (λ (n : ℕ). n) (bits_of_piece p) (map bits_of_piece ps) ∙ ap (λ (n : ℕ). bits_of_piece p + n) (sum_is ps)

-- ---- how many pictures there are

group_count : (s : Settings) (x : Progress) (g : Group Samples) (ends : Bool) → x.pictures + length (in_group bits_at s x g ends) ≡ (group_coded s x g ends).pictures
unfolding in_group group_coded
group_count s x g ends = ap (λ (n : ℕ). x.pictures + n) (length-map-range_with_len _ 0 (length g.pictures))

groups_count : (s : Settings) (groups : List (Group Samples)) (x : Progress) → x.pictures + length (in_groups bits_at s x groups) ≡ (groups_coded s x groups).pictures
unfolding in_groups groups_coded
groups_count s [] x = omega arith
groups_count s (g ∷ []) x = group_count s x g true
groups_count s (g ∷ h ∷ more) x =
    let y = group_coded s x g false in
    omega (
      arith,
      length-append (in_group bits_at s x g false) (in_groups bits_at s y (h ∷ more)),
      group_count s x g false,
      groups_count s (h ∷ more) y,
    )

pub pictures_counted : (s : Settings) (frames : List (List ℕ)) → length (picture_bits s frames) ≡ (coded_all s frames).pictures
pictures_counted s frames =
    let counted = groups_count s (groups_of s frames) (at_start s) in
    let is = ap (λ (y : Progress). y.pictures) (coded_is s frames) in
    omega (arith, counted, is)

-- ---- the first start code

code_first : (job : PictureJob) → begins_group job ≡ true → bits_to_code job ≡ 272
unfolding bits_to_code
code_first job e = cond-true (begins_group job) _ _ e

group_head : (s : Settings) (x : Progress) (g : Group Samples) (ends : Bool) → MayFollow s x g ends → IsHead (in_group code_at s x g ends)
unfolding in_group
group_head s x g ends may = by_count (length g.pictures) may.book.group.picture
  where
    by_count : (n : ℕ) → 1 ≤ n → IsHead (map (λ p. bits_to_code (job_at (book_of s x g) p)) (range_with_len 0 n))
    by_count zero some = absurd (omega (arith, some))
    by_count (suc n) some = code_first (job_at (book_of s x g) 0) (first_begins (book_of s x g) may.book)

groups_head : (s : Settings) (groups : List (Group Samples)) (x : Progress) → 0 < length groups → AllFollow s x groups → IsHead (in_groups code_at s x groups)
unfolding in_groups AllFollow
groups_head s [] x some all = absurd (omega (arith, some))
groups_head s (g ∷ []) x some all = group_head s x g true all
groups_head s (g ∷ h ∷ more) x some all = head_append (in_group code_at s x g false) (in_groups code_at s (group_coded s x g false) (h ∷ more)) (group_head s x g false all.0)

-- ---- all pictures

module _ (law : Spelled) (s : Settings) (frames : List (List ℕ)) (passes : Passes s) (some : 1 ≤ length frames) (few : length frames ≤ 999999) where
  follow : AllFollow s (at_start s) (groups_of s frames)
  follow = stream_follows s frames passes few

  are : pieces (Coded s frames) ≡ map packed (picture_texts s frames) ++ end_piece ∷ []
  are = pieces_are law s frames passes some few

  bytes : map packed (picture_texts s frames) ≡ in_groups bytes_at s (at_start s) (groups_of s frames)
  bytes = packed_are s (groups_of s frames) (at_start s) follow

  -- a number of each piece, by those of the pictures and of the end
  numbers : (f : List ℕ → ℕ) (ns : List ℕ) (n : ℕ) → map f (in_groups bytes_at s (at_start s) (groups_of s frames)) ≡ ns → f end_piece ≡ n
      → map f (pieces (Coded s frames)) ≡ ns ++ n ∷ []
  numbers f ns n e last =
      ap (map f) are
      ∙ map-append f (map packed (picture_texts s frames)) (end_piece ∷ [])
      ∙ ap (λ (ps : List (List ℕ)). map f ps ++ f end_piece ∷ []) bytes
      ∙ ap (λ (ms : List ℕ). ms ++ f end_piece ∷ []) e
      ∙ ap (λ (m : ℕ). ns ++ m ∷ []) last

  codes_here : map code_bits (in_groups bytes_at s (at_start s) (groups_of s frames)) ≡ picture_codes s frames
  codes_here = groups_give code_bits bytes_at code_at (λ b h l ends at p lt. piece_code law b h l ends at p lt) s (groups_of s frames) (at_start s) follow

  bits_here : map bits_of_piece (in_groups bytes_at s (at_start s) (groups_of s frames)) ≡ picture_bits s frames
  bits_here = groups_give bits_of_piece bytes_at bits_at (λ b h l ends at p lt. piece_bits law b h l ends at p lt) s (groups_of s frames) (at_start s) follow

  pub bits_are : map bits_of_piece (pieces (Coded s frames)) ≡ picture_bits s frames ++ 32 ∷ []
  bits_are = numbers bits_of_piece (picture_bits s frames) 32 bits_here end_bits

  pub taken_is : sizes (coded_all s frames).pictures (map bits_of_piece (pieces (Coded s frames))) ≡ Taken s frames
  taken_is =
      ap (λ (n : ℕ). sizes n (map bits_of_piece (pieces (Coded s frames)))) (sym (pictures_counted s frames))
      ∙ ap (sizes (length (picture_bits s frames))) bits_are
      ∙ sizes_are (picture_bits s frames)
      ∙ groups_end s (groups_of s frames) (at_start s) follow

  pub lengths_are : map length (picture_texts s frames) ≡ picture_bits s frames
  lengths_are = groups_give length picture_text bits_at (λ b h l ends at p lt. picture_length b h l ends at p lt) s (groups_of s frames) (at_start s) follow

  pub total_is : sum (map bits_of_piece (pieces (Coded s frames))) ≡ length (coded_all s frames).text + 32
  total_is =
      let x = at_start s in
      let ps = in_groups bytes_at s x (groups_of s frames) in
      let bits : bits_of_all ps ≡ length (coded_all s frames).text =
      omega (arith, groups_bits law s (groups_of s frames) x follow, ap (λ (y : Progress). length y.text) (coded_is s frames)) in
      ap (λ (qs : List (List ℕ)). sum (map bits_of_piece qs)) (are ∙ ap (λ (qs : List (List ℕ)). qs ++ end_piece ∷ []) bytes)
      ∙ sum_is (ps ++ end_piece ∷ [])
      ∙ bits_append ps (end_piece ∷ [])
      ∙ ap (λ (n : ℕ). n + bits_of_all (end_piece ∷ [])) bits
      ∙ ap (λ (n : ℕ). length (coded_all s frames).text + n) (bits_one end_piece ∙ end_bits)

  pub codes_are : map code_bits (pieces (Coded s frames)) ≡ picture_codes s frames ++ 64 ∷ []
  codes_are = numbers code_bits (picture_codes s frames) 64 codes_here end_code

  -- each start code ends behind the bits of the pictures before it, and its own
  pub sums_are : code_places s frames ≡ ends_of 0 (picture_bits s frames) (picture_codes s frames)
  sums_are =
      let ps = in_groups bytes_at s (at_start s) (groups_of s frames) in
      sym (groups_codes law s (groups_of s frames) (at_start s) follow)
      ∙ codes_by ps 0
      ∙ ap (λ (bs : List ℕ). ends_of 0 bs (map code_bits ps)) bits_here
      ∙ ap (ends_of 0 (picture_bits s frames)) codes_here

  pub first_is : first_code (pieces (Coded s frames)) ≡ 272
  first_is =
      let heads = groups_head s (groups_of s frames) (at_start s) (stream_some s frames some) follow in
      ap first_code (are ∙ ap (λ (ps : List (List ℕ)). ps ++ end_piece ∷ []) bytes)
      ∙ first_head (in_groups bytes_at s (at_start s) (groups_of s frames)) end_piece (subst IsHead (sym codes_here) heads)

  pub places_are : codes 0 (pieces (Coded s frames)) ≡ code_places s frames ++ (length (coded_all s frames).text + 64) ∷ []
  places_are =
      let x = at_start s in
      let ps = in_groups bytes_at s x (groups_of s frames) in
      let text : 0 + bits_of_all ps + code_bits end_piece ≡ length (coded_all s frames).text + 64 =
      omega (arith, end_code, groups_bits law s (groups_of s frames) x follow, ap (λ (y : Progress). length y.text) (coded_is s frames)) in
      ap (codes 0) (are ∙ ap (λ (qs : List (List ℕ)). qs ++ end_piece ∷ []) bytes)
      ∙ codes_append ps (end_piece ∷ []) 0
      ∙ ap (λ (cs : List ℕ). codes 0 ps ++ cs) (codes_one end_piece (0 + bits_of_all ps))
      ∙ ap (λ (cs : List ℕ). cs ++ (0 + bits_of_all ps + code_bits end_piece) ∷ []) (groups_codes law s (groups_of s frames) x follow)
      ∙ ap (λ (n : ℕ). code_places s frames ++ n ∷ []) text
