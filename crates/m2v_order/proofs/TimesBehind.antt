-- The times behind pictures, one after another.
use Rattle.std.proofs.Common.{◌≡◌, ℕ, suc, ◌+◌, ◌<◌, List, [], ◌∷◌, ◌++◌, drop, length, get_or, Option, refl, sym, ap, ◌∙◌, arith, append_assoc}
use Rattle.std.proofs.Math.Seq.{drop-cons, drop-length}
use Rattle.std.proofs.lemmas.List.{append-nil}
use Rattle.m2v_set.specs.declared.settings.Settings.{Settings}
use Rattle.m2v_order.specs.declared.jobs.PictureJob.{PictureJob}
use Rattle.m2v_order.specs.Times.{interval_behind, anchor_after, intervals_of}

intervals_cons : (s : Settings) (last : Option ℕ) (job : PictureJob) (more : List PictureJob)
    → intervals_of s last (job ∷ more) ≡ interval_behind s last job ∷ intervals_of s (anchor_after last job) more
unfolding intervals_of
intervals_cons s last job more = refl

intervals_nil : (s : Settings) (last : Option ℕ) → intervals_of s last [] ≡ []
unfolding intervals_of
intervals_nil s last = refl

-- one picture further
pub intervals_more : (s : Settings) (last next : Option ℕ) (jobs : List PictureJob) (i : ℕ) (d : PictureJob) (times all : List ℕ) (time : ℕ)
    → i < length jobs → time ≡ interval_behind s last (get_or jobs i d) → next ≡ anchor_after last (get_or jobs i d)
    → times ++ intervals_of s last (drop i jobs) ≡ all
    → (times ++ time ∷ []) ++ intervals_of s next (drop (i + 1) jobs) ≡ all
intervals_more s last next jobs i d times all time lt e f before =
    let one : i + 1 ≡ suc i = omega arith in
    append_assoc times (time ∷ []) (intervals_of s next (drop (i + 1) jobs))
    ∙ rw (one, e, f) (ap (λ (xs : List ℕ). times ++ xs) (sym (ap (intervals_of s last) (drop-cons jobs i d lt) ∙ intervals_cons s last (get_or jobs i d) (drop (suc i) jobs))) ∙ before)

-- the last picture
pub intervals_all : (s : Settings) (last : Option ℕ) (jobs : List PictureJob) (times all : List ℕ)
    → times ++ intervals_of s last (drop (length jobs) jobs) ≡ all → times ≡ all
intervals_all s last jobs times all e =
    sym (append-nil times)
    ∙ ap (λ (xs : List ℕ). times ++ xs) (sym (ap (intervals_of s last) (drop-length jobs) ∙ intervals_nil s last))
    ∙ e
