-- Groups of the encoder, as numbered pictures, break no rule.
use Rattle.std.proofs.Common.{◌≡◌, ℕ, ◌<◌, Bool, true, false, cond, List, [], ◌∷◌, ◌++◌, refl, ap, ◌∙◌, arith}
use Rattle.std.specs.Prelude.{All, ◌&&◌, nat_eq}
use Rattle.std.proofs.lemmas.Bool.{eq-eqb}
use Rattle.std.proofs.lemmas.List.{append-nil}
use Rattle.std.proofs.lemmas.List.Elements.{All-nil, All-cons, All-head, All-tail}
use Rattle.std.proofs.Math.Nat.{mod-eq_of_lt}
use Rattle.m2v_set.specs.declared.settings.Settings.{Settings}
use Rattle.m2v_set.specs.Rules.{Passes}
use Rattle.m2v_order.specs.declared.jobs.PictureJob.{PictureJob}
use Rattle.m2v_order.specs.Display.{Order}
use Rattle.m2v_order.specs.Groups.{Group}
use Rattle.m2v_order.specs.Whole.{IsGroupOf}
use Rattle.m2v_slice.specs.Headers.{picture_of}
use Rattle.m2v_model.specs.Lawful.{Numbered, frames_of_group, display_place, place_in_group, reference_rule, picture_breaches}
use Rattle.m2v_law_shown.specs.Own.{ends, IsOwnPicture}
use Rattle.m2v_law_shown.specs.Places.{behind, frames_from, HavePlaces, AreOwn}
use Rattle.m2v_model.proofs.Judging.{judge_none}
use Rattle.m2v_law_shown.proofs.Pictures.{picture_keeps, picture_none}
use Rattle.m2v_law_shown.proofs.Places.{group_shown}
use Rattle.m2v_law_shown.proofs.Jobs.{IsFit, group_fits}

-- ---- the frames of a group among numbered pictures

own_step : (group frame : ℕ) (job : PictureJob) (n : Numbered) (ns : List Numbered) (fs : List (ℕ × ℕ)) → nat_eq n.group group ≡ true
    → n.picture.ends_frame ≡ ends job → n.frame ≡ frame → n.picture.info.kind ≡ job.kind → frames_of_group group ns ≡ fs
    → frames_of_group group (n ∷ ns) ≡ cond (ends job) ((frame, job.kind) ∷ fs) fs
unfolding frames_of_group
own_step group frame job n ns fs here last number kind rest = rw (here, last, number, kind, rest) refl

kind_is : (s : Settings) (job : PictureJob) (n : Numbered) → IsOwnPicture s job n → n.picture.info.kind ≡ job.kind
unfolding picture_of
kind_is s job n own = ap (λ i. i.kind) own.picture.info

own_frames : (s : Settings) (group frame : ℕ) (jobs : List PictureJob) (ns : List Numbered) → AreOwn s group frame jobs ns
    → frames_of_group group ns ≡ frames_from frame jobs
unfolding AreOwn frames_from frames_of_group
own_frames s group frame [] [] own = refl
own_frames s group frame [] (n ∷ ns) own = absurd own
own_frames s group frame (job ∷ jobs) [] own = absurd own
own_frames s group frame (job ∷ jobs) (n ∷ ns) own =
    own_step group frame job n ns (frames_from (behind frame job) jobs) (eq-eqb n.group group own.0.1.0) own.0.0.picture.ends_frame own.0.1.1
    (kind_is s job n own.0.0) (own_frames s group (behind frame job) jobs ns own.1)

abbrev IsOther : ℕ → Numbered → Type 0
IsOther group n = nat_eq n.group group ≡ false

other_frames : (group : ℕ) (ns : List Numbered) → All (IsOther group) ns → frames_of_group group ns ≡ []
unfolding frames_of_group
other_frames group [] all = refl
other_frames group (n ∷ ns) all =
    rw (All-head (IsOther group) n ns all) (other_frames group ns (All-tail (IsOther group) n ns all))

append_step : (b : Bool) (x : ℕ × ℕ) (xs ys zs : List (ℕ × ℕ)) → xs ≡ ys ++ zs → cond b (x ∷ xs) xs ≡ cond b (x ∷ ys) ys ++ zs
append_step true x xs ys zs e = ap (λ ws. x ∷ ws) e
append_step false x xs ys zs e = e

frames_append : (group : ℕ) (ns ms : List Numbered) → frames_of_group group (ns ++ ms) ≡ frames_of_group group ns ++ frames_of_group group ms
unfolding frames_of_group
frames_append group [] ms = refl
frames_append group (n ∷ ns) ms =
    append_step (nat_eq n.group group && n.picture.ends_frame) (n.frame, n.picture.info.kind) (frames_of_group group (ns ++ ms))
    (frames_of_group group ns) (frames_of_group group ms) (frames_append group ns ms)

frames_among : (s : Settings) (group frame : ℕ) (jobs : List PictureJob) (before ns later : List Numbered) → AreOwn s group frame jobs ns
    → All (IsOther group) before → All (IsOther group) later → frames_of_group group (before ++ (ns ++ later)) ≡ frames_from frame jobs
frames_among s group frame jobs before ns later own first last =
    frames_append group before (ns ++ later)
    ∙ ap (λ xs. xs ++ frames_of_group group (ns ++ later)) (other_frames group before first)
    ∙ frames_append group ns later
    ∙ ap (λ xs. frames_of_group group ns ++ xs) (other_frames group later last)
    ∙ append-nil (frames_of_group group ns)
    ∙ own_frames s group frame jobs ns own

-- ---- the pictures of a group

place_own : (all : List Numbered) (n : Numbered) (group frame place : ℕ) (fs : List (ℕ × ℕ)) → n.group ≡ group → n.frame ≡ frame
    → frames_of_group group all ≡ fs → display_place frame (Order false fs) ≡ place → place_in_group false all n ≡ place
unfolding place_in_group
place_own all n group frame place fs here number frames is = rw (here, number, frames) is

reference_own : (s : Settings) (job : PictureJob) (all : List Numbered) (n : Numbered) → IsOwnPicture s job n → job.frame < 63
    → place_in_group false all n ≡ job.frame → reference_rule false all n ≡ []
unfolding reference_rule picture_of
reference_own s job all n own few place =
    let below : job.frame < 1024 = omega (arith, few) in
    rw (place, mod-eq_of_lt below, own.picture.info) (judge_none _ _ (eq-eqb job.frame job.frame refl))

module _ (s : Settings) (constant : Bool) (passes : Passes s) (all : List Numbered) where
  abbrev Lawful : Numbered → Type 0
  Lawful n = picture_breaches false constant all n ≡ []

  pictures_none : (group frame : ℕ) (fs : List (ℕ × ℕ)) (jobs : List PictureJob) (ns : List Numbered) → AreOwn s group frame jobs ns
      → frames_of_group group all ≡ fs → HavePlaces (λ f. display_place f (Order false fs)) frame jobs → All (IsFit s) jobs → All Lawful ns
  unfolding AreOwn HavePlaces
  pictures_none group frame fs [] [] own frames places fit = All-nil Lawful
  pictures_none group frame fs [] (n ∷ ns) own frames places fit = absurd own
  pictures_none group frame fs (job ∷ jobs) [] own frames places fit = absurd own
  pictures_none group frame fs (job ∷ jobs) (n ∷ ns) own frames places fit =
      let is = All-head (IsFit s) job jobs fit in
      All-cons Lawful n ns
      (picture_none false constant all n (picture_keeps s job n constant passes is.is is.fits own.0.0)
      (reference_own s job all n own.0.0 is.is.frame (place_own all n group frame job.frame fs own.0.1.0 own.0.1.1 frames places.0)))
      (pictures_none group (behind frame job) fs jobs ns own.1 frames places.1 (All-tail (IsFit s) job jobs fit))

pub group_none : {F : Type 0} (s : Settings) (constant : Bool) (g : Group F) (group frame : ℕ) (before ns later : List Numbered) → Passes s → IsGroupOf s g
    → AreOwn s group frame g.pictures ns → All (λ (n : Numbered). nat_eq n.group group ≡ false) before → All (λ (n : Numbered). nat_eq n.group group ≡ false) later
    → All (λ (n : Numbered). picture_breaches false constant (before ++ (ns ++ later)) n ≡ []) ns
group_none s constant g group frame before ns later passes is own first last =
    pictures_none s constant passes (before ++ (ns ++ later)) group frame (frames_from frame g.pictures) g.pictures ns own
    (frames_among s group frame g.pictures before ns later own first last) (group_shown s g frame passes is) (group_fits s g passes is)
