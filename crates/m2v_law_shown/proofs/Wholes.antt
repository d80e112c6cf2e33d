-- The texts of the pictures one behind another are what is coded.
use Rattle.std.proofs.Common.{◌≡◌, ℕ, zero, suc, ◌+◌, Bool, true, false, List, [], ◌∷◌, ◌++◌, length, map, refl, sym, ap, ◌∙◌, append_assoc}
use Rattle.std.specs.List.{range_with_len, flat_map}
use Rattle.std.proofs.lemmas.List.{append-nil}
use Rattle.std.proofs.lemmas.List.Concat.{flat_map-append}
use Rattle.m2v_plane.specs.Samples.{Samples}
use Rattle.m2v_set.specs.declared.settings.Settings.{Settings}
use Rattle.m2v_order.specs.Groups.{Group}
use Rattle.m2v_rate.specs.Plans.{Entries}
use Rattle.m2v_slice.specs.Books.{Book, CodedPicture}
use Rattle.m2v_enc_stream.specs.Streams.{Progress, at_start, group_coded, groups_coded, coded_all, picture_text, pictures_text, book_of}
use Rattle.m2v_enc_stream.specs.Trees.{groups_of}
use Rattle.m2v_enc_stream.proofs.Stands.{group_text_is}
use Rattle.m2v_enc_stream.proofs.TreeGroups.{done_of, ledger_of}
use Rattle.m2v_law_shown.specs.Texts.{in_group, in_groups, picture_texts}
use Rattle.m2v_law_shown.proofs.Runs.{range_more}
use Rattle.m2v_enc_stream.proofs.Queues.{coded_is}

abbrev whole : List (List Bool) → List Bool
whole ts = flat_map (λ (t : List Bool). t) ts

pictures_whole : (b : Book) (done : List CodedPicture) (l : Entries) (ends : Bool) (at n : ℕ)
    → whole (map (λ p. picture_text b done l ends (at + length (pictures_text b done l ends at p)) p) (range_with_len 0 n)) ≡ pictures_text b done l ends at n
unfolding pictures_text
pictures_whole b done l ends at zero = refl
pictures_whole b done l ends at (suc n) =
    let f : ℕ → List Bool = λ p. picture_text b done l ends (at + length (pictures_text b done l ends at p)) p in
    ap whole (range_more f n)
    ∙ flat_map-append (λ (t : List Bool). t) (map f (range_with_len 0 n)) (f n ∷ [])
    ∙ ap (λ (t : List Bool). whole (map f (range_with_len 0 n)) ++ t) (append-nil (f n))
    ∙ ap (λ (t : List Bool). t ++ f n) (pictures_whole b done l ends at n)

group_whole : (s : Settings) (x : Progress) (g : Group Samples) (ends : Bool) → x.text ++ whole (in_group picture_text s x g ends) ≡ (group_coded s x g ends).text
unfolding in_group
group_whole s x g ends =
    ap (λ (t : List Bool). x.text ++ t) (pictures_whole (book_of s x g) (done_of s x g) (ledger_of s x g) ends (length x.text) (length g.pictures))
    ∙ sym (group_text_is s x g ends)

groups_whole : (s : Settings) (groups : List (Group Samples)) (x : Progress) → x.text ++ whole (in_groups picture_text s x groups) ≡ (groups_coded s x groups).text
unfolding in_groups groups_coded
groups_whole s [] x = append-nil x.text
groups_whole s (g ∷ []) x = group_whole s x g true
groups_whole s (g ∷ h ∷ more) x =
    let y = group_coded s x g false in
    let rest = in_groups picture_text s y (h ∷ more) in
    ap (λ (t : List Bool). x.text ++ t) (flat_map-append (λ (t : List Bool). t) (in_group picture_text s x g false) rest)
    ∙ sym (append_assoc x.text (whole (in_group picture_text s x g false)) (whole rest))
    ∙ ap (λ (t : List Bool). t ++ whole rest) (group_whole s x g false)
    ∙ groups_whole s (h ∷ more) y

pub whole_is : (s : Settings) (frames : List (List ℕ)) → flat_map (λ (t : List Bool). t) (picture_texts s frames) ≡ (coded_all s frames).text
whole_is s frames = groups_whole s (groups_of s frames) (at_start s) ∙ sym (ap (λ (y : Progress). y.text) (coded_is s frames))
