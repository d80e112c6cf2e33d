-- The groups of a stream follow one another: each has a book, and delays that fit their 16 bits.
use Rattle.std.proofs.Common.{ℕ, ◌≤◌, Bool, true, false, List, [], ◌∷◌, length, arith}
use Rattle.m2v_plane.specs.Samples.{Samples}
use Rattle.m2v_set.specs.declared.settings.Settings.{Settings}
use Rattle.m2v_set.specs.Rules.{Passes}
use Rattle.m2v_order.specs.Groups.{Group}
use Rattle.m2v_enc_stream.specs.Streams.{Progress, at_start, book_of, group_coded, groups_of}
use Rattle.m2v_enc_stream.proofs.Places.{delay_small}
use Rattle.m2v_enc_stream.proofs.Stands.{HasBook, HaveBooks, have_books}
use Rattle.m2v_enc_stream.proofs.TreeGroups.{MayFollow, AllFollow}

follows_is : (s : Settings) (x : Progress) (g : Group Samples) (ends : Bool) → HasBook s x g → MayFollow s x g ends
follows_is s x g ends h = record {
  book = h.book;
  small = λ p lt. let few = delay_small (book_of s x g) h.book ends (length x.text) p lt h.place in omega (arith, few);
}

all_follow : (s : Settings) (gs : List (Group Samples)) (x : Progress) → HaveBooks s x gs → AllFollow s x gs
unfolding AllFollow
all_follow s [] x h = tt
all_follow s (g ∷ []) x h = follows_is s x g true h.0
all_follow s (g ∷ k ∷ more) x h = (follows_is s x g false h.0, all_follow s (k ∷ more) (group_coded s x g false) h.1)

pub stream_follows : (s : Settings) (frames : List (List ℕ)) → Passes s → length frames ≤ 999999 → AllFollow s (at_start s) (groups_of s frames)
stream_follows s frames passes few = all_follow s (groups_of s frames) (at_start s) (have_books s frames passes few)
