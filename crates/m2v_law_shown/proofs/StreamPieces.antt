-- The pieces of the stream are the pictures of its groups, and the sequence end code.
use Rattle.std.proofs.Common.{◌≡◌, ℕ, zero, suc, ◌+◌, ◌<◌, ◌≤◌, Bool, true, false, List, [], ◌∷◌, ◌++◌, length, map, take, refl, sym, ap, subst, ◌∙◌, arith}
use Rattle.std.specs.Prelude.{slice_index}
use Rattle.std.specs.List.{range_with_len}
use Rattle.m2v_bits.specs.Bits.{bits_of, number, packed, start_code}
use Rattle.m2v_plane.specs.Samples.{Samples}
use Rattle.m2v_set.specs.declared.settings.Settings.{Settings}
use Rattle.m2v_set.specs.Rules.{Passes}
use Rattle.m2v_order.specs.Groups.{Group}
use Rattle.m2v_enc_stream.specs.Streams.{Progress, at_start, group_coded, coded_all, Coded, picture_text, pictures_text, book_of}
use Rattle.m2v_model.specs.declared.phase.Phase.TheVariants.{Before}
use Rattle.m2v_model.specs.Units.{Units, Cuts, joined}
use Rattle.m2v_model.specs.Pieces.{grouped, is_end, pieces}
use Rattle.m2v_model.proofs.CutLaws.{cuts_is}
use Rattle.m2v_model.proofs.Ends.{end_bytes, end_packs}
use Rattle.m2v_enc_stream.specs.Trees.{groups_of}
use Rattle.m2v_enc_stream.proofs.Zeros.{padded_cuts}
use Rattle.m2v_enc_stream.proofs.SliceUnits.{Spelled}
use Rattle.m2v_enc_stream.proofs.PictureChains.{picture_units_of, picture_text_holds}
use Rattle.m2v_enc_stream.proofs.Queues.{coded_is, stream_some}
use Rattle.m2v_enc_stream.proofs.Follows.{stream_follows}
use Rattle.m2v_enc_stream.proofs.TreeGroups.{MayFollow, AllFollow, done_of, ledger_of, groups_units, groups_add}
use Rattle.m2v_law_shown.specs.Texts.{in_group, in_groups, picture_texts}
use Rattle.m2v_law_shown.proofs.Groupings.{IsPiece, Starts, starts_append, pieces_all}
use Rattle.m2v_law_shown.proofs.PictureUnits.{picture_piece, picture_first}
use Rattle.m2v_law_shown.proofs.Told.{Told, groups_give, groups_hold, units_at, groups_all}

-- ---- the end

pub ends_here : is_end (slice_index end_bytes 3) ≡ true
unfolding is_end
ends_here = refl

pub end_piece : take 4 end_bytes ≡ packed (start_code 0xB7)
unfolding bits_of number packed
end_piece = refl

-- ---- where the first piece begins

group_starts : (s : Settings) (x : Progress) (g : Group Samples) (ends : Bool) → MayFollow s x g ends → Starts (in_group units_at s x g ends)
unfolding in_group
group_starts s x g ends may = by_count (length g.pictures) may.book.group.picture
  where
    by_count : (n : ℕ) → 1 ≤ n → Starts (map (λ p. picture_units_of (book_of s x g) (ledger_of s x g) ends (length x.text + length (pictures_text (book_of s x g) (done_of s x g) (ledger_of s x g) ends (length x.text) p)) p) (range_with_len 0 n))
    by_count zero some = absurd (omega (arith, some))
    by_count (suc n) some = picture_first (book_of s x g) may.book (ledger_of s x g) ends _

groups_start : (s : Settings) (groups : List (Group Samples)) (x : Progress) → 0 < length groups → AllFollow s x groups → Starts (in_groups units_at s x groups)
unfolding in_groups AllFollow
groups_start s [] x some all = absurd (omega (arith, some))
groups_start s (g ∷ []) x some all = group_starts s x g true all
groups_start s (g ∷ h ∷ more) x some all = starts_append (in_group units_at s x g false) (in_groups units_at s (group_coded s x g false) (h ∷ more)) (group_starts s x g false all.0)

-- ---- the bytes of pictures

abbrev pub bytes_at : Told (List ℕ)
bytes_at b done l ends at p = packed (picture_text b done l ends at p)

pub packed_are : (s : Settings) (groups : List (Group Samples)) (x : Progress) → AllFollow s x groups → map packed (in_groups picture_text s x groups) ≡ in_groups bytes_at s x groups
packed_are s groups x all = groups_give packed picture_text bytes_at (λ b h l ends at p lt. refl) s groups x all

bytes_are : (law : Spelled) (s : Settings) (groups : List (Group Samples)) (x : Progress) → AllFollow s x groups
    → map packed (in_groups picture_text s x groups) ≡ map joined (in_groups units_at s x groups)
bytes_are law s groups x all =
    packed_are s groups x all
    ∙ sym (groups_give joined units_at bytes_at (λ b h l ends at p lt. sym (picture_text_holds law b h l ends (length b.pictures) p at lt lt).bytes) s groups x all)

-- ---- the stream

stream_cuts : (law : Spelled) (s : Settings) (frames : List (List ℕ)) → AllFollow s (at_start s) (groups_of s frames)
    → Cuts (Coded s frames) [] (groups_units s (at_start s) (groups_of s frames) ++ end_bytes ∷ [])
stream_cuts law s frames all =
    let x = at_start s in
    let adds = groups_add law s (groups_of s frames) x all in
    let text : (coded_all s frames).text ≡ adds.bits = ap (λ (y : Progress). y.text) (coded_is s frames) ∙ adds.is in
    let us = groups_units s x (groups_of s frames) in
    subst (λ (t : List Bool). Cuts (packed (t ++ start_code 0xB7)) [] (us ++ end_bytes ∷ [])) (sym text)
    (padded_cuts adds.bits (start_code 0xB7) us end_bytes adds.holds end_packs)

pieces_by : (law : Spelled) (s : Settings) (frames : List (List ℕ)) → 0 < length (groups_of s frames) → AllFollow s (at_start s) (groups_of s frames)
    → pieces (Coded s frames) ≡ map packed (picture_texts s frames) ++ packed (start_code 0xB7) ∷ []
pieces_by law s frames some all =
    let x = at_start s in
    let groups = groups_of s frames in
    let us = groups_units s x groups in
    let vs = in_groups units_at s x groups in
    ap (λ (c : List ℕ × List (List ℕ)). grouped Before [] c.1) (cuts_is (Coded s frames) [] (us ++ end_bytes ∷ []) (stream_cuts law s frames all))
    ∙ ap (λ (t : Units). grouped Before [] (t ++ end_bytes ∷ [])) (sym (groups_all s groups x))
    ∙ pieces_all vs end_bytes (groups_start s groups x some all) (groups_hold IsPiece units_at (λ b h l ends at p lt. picture_piece b h l ends at p) s groups x all) ends_here
    ∙ ap (λ (t : List (List ℕ)). t ++ take 4 end_bytes ∷ []) (sym (bytes_are law s groups x all))
    ∙ ap (λ (e : List ℕ). map packed (picture_texts s frames) ++ e ∷ []) end_piece

pub pieces_are : (law : Spelled) (s : Settings) (frames : List (List ℕ)) → Passes s → 1 ≤ length frames → length frames ≤ 999999
    → pieces (Coded s frames) ≡ map packed (picture_texts s frames) ++ packed (start_code 0xB7) ∷ []
pieces_are law s frames passes some few = pieces_by law s frames (stream_some s frames some) (stream_follows s frames passes few)
