-- The activities with which the ledger of a group begins are as many as its pictures.
use Rattle.std.proofs.Common.{◌≡◌, ℕ, List, length, ap, ◌∙◌}
use Rattle.std.proofs.lemmas.Bool.{cond_both}
use Rattle.std.proofs.lemmas.List.{length-replicate}
use Rattle.m2v_plane.specs.Samples.{Samples}
use Rattle.m2v_set.specs.declared.settings.Settings.{Settings}
use Rattle.m2v_set.specs.Numbers.{dims_of}
use Rattle.m2v_set.specs.Rules.{is_even}
use Rattle.m2v_order.specs.declared.jobs.PictureJob.{PictureJob}
use Rattle.m2v_enc_activity.proofs.Places.{length-group_activities}
use Rattle.m2v_rate.specs.Plans.{Entries}
use Rattle.m2v_slice.specs.Books.{Book, picture_activities}
use Rattle.m2v_slice.specs.Conditions.{IsBook}

pub length-picture_activities : (s : Settings) (frames : List Samples) (pictures : List PictureJob) → length (picture_activities s frames pictures) ≡ length pictures
unfolding picture_activities
length-picture_activities s frames pictures =
    cond_both (is_even s.planning) _ _ (λ (xs : List ℕ). length xs ≡ length pictures)
    (λ e. length-group_activities (dims_of s) frames pictures) (λ e. length-replicate (length pictures) 0)

pub activities_count : (b : Book) → IsBook b → length b.ledger.activities ≡ length b.pictures
activities_count b h = ap (λ (l : Entries). length l.activities) h.ledger.begun ∙ length-picture_activities b.settings b.frames b.pictures
