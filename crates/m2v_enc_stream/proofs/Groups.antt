-- All groups of a stream are coded by their plans.
use Rattle.std.proofs.Common.{◌≡◌, ℕ, ◌≤◌, false, List, [], ◌∷◌, length, sym, ap, subst, ◌∙◌}
use Rattle.m2v_plane.specs.Samples.{Samples}
use Rattle.m2v_set.specs.declared.settings.Settings.{Settings}
use Rattle.m2v_set.specs.Rules.{Passes}
use Rattle.m2v_order.specs.Groups.{Group}
use Rattle.m2v_rate.specs.Plans.{Entries, fresh}
use Rattle.m2v_rate.specs.Safety.{closed, IsCoded, AreCoded}
use Rattle.m2v_enc_stream.specs.Streams.{Progress, at_start, book_of, group_coded}
use Rattle.m2v_enc_stream.specs.Removals.{ledger_of, seen_of, groups_seen, Seen}
use Rattle.m2v_enc_stream.proofs.Closed.{is_coded, closed_is}
use Rattle.m2v_enc_stream.proofs.Stands.{HasBook, HaveBooks, have_books, ledger_next}

pub group_coded_is : (s : Settings) (x : Progress) (g : Group Samples) → HasBook s x g → IsCoded x.ledger (seen_of (book_of s x g))
group_coded_is s x g h = subst (λ (l : Entries). IsCoded l (seen_of (book_of s x g))) h.from (is_coded (book_of s x g) h.book)

pub group_closed : (s : Settings) (x : Progress) (g : Group Samples) → HasBook s x g → closed x.ledger (seen_of (book_of s x g)) ≡ ledger_of (book_of s x g)
group_closed s x g h = ap (λ (l : Entries). closed l (seen_of (book_of s x g))) (sym h.from) ∙ closed_is (book_of s x g) h.book

-- the ledger behind a group
pub behind : (s : Settings) (x : Progress) (g : Group Samples) → HasBook s x g → closed x.ledger (seen_of (book_of s x g)) ≡ (group_coded s x g false).ledger
behind s x g h = group_closed s x g h ∙ sym (ledger_next s x g false)

pub are_coded : (s : Settings) (gs : List (Group Samples)) (x : Progress) → HaveBooks s x gs → AreCoded x.ledger (groups_seen s x gs)
unfolding groups_seen
are_coded s [] x h = tt
are_coded s (g ∷ more) x h =
    let y = group_coded s x g false in
    (group_coded_is s x g h.0, subst (λ (l : Entries). AreCoded l (groups_seen s y more)) (sym (behind s x g h.0)) (are_coded s more y h.1))

pub all_coded : (s : Settings) (frames : List (List ℕ)) → Passes s → length frames ≤ 999999 → AreCoded (fresh s) (Seen s frames)
all_coded s frames passes few = are_coded s _ (at_start s) (have_books s frames passes few)
