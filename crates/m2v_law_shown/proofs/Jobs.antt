-- The pictures of a group keep to what the rules ask of jobs.
use Rattle.std.proofs.Common.{◌≡◌, ℕ, ◌+◌, ◌<◌, ◌≤◌, List, [], ◌∷◌, length, refl, sym, subst, arith}
use Rattle.std.specs.Prelude.{All}
use Rattle.std.specs.List.{flat_map}
use Rattle.std.proofs.lemmas.List.Elements.{All-nil, All-cons, All-append, All-head, All-tail}
use Rattle.m2v_set.specs.declared.settings.Settings.{Settings}
use Rattle.m2v_set.specs.declared.settings.Scan.{Scan}
use Rattle.m2v_set.specs.declared.settings.Scan.TheVariants.{Progressive, Frames, Fields}
use Rattle.m2v_set.specs.Rules.{Passes}
use Rattle.m2v_order.specs.declared.jobs.PictureJob.{PictureJob}
use Rattle.m2v_order.specs.Coding.{structures}
use Rattle.m2v_order.specs.Groups.{Group, first_of}
use Rattle.m2v_order.specs.Whole.{IsKind, fields_of, IsGroupOf}
use Rattle.m2v_order.proofs.Queues.{grouped, due_is, turn_is, group_places}
use Rattle.m2v_slice.specs.Headers.{IsJob}
use Rattle.m2v_law_shown.specs.Own.{FitsScan}

-- a picture of one of the structures that the scan has
record IsField (scan : Scan) (job : PictureJob) : Type 0 where
  pub structure : (1 ≤ job.structure) × (job.structure ≤ 3)
  pub fits : FitsScan scan job

fields_are : (scan : Scan) (head : PictureJob) → All (IsField scan) (fields_of scan head)
unfolding structures
fields_are Progressive head =
    let P = IsField Progressive in
    All-cons P (record head { structure = 3 }) [] (record { structure = (omega arith, omega arith); fits = refl }) (All-nil P)
fields_are Frames head =
    let P = IsField Frames in
    All-cons P (record head { structure = 3 }) [] (record { structure = (omega arith, omega arith); fits = refl }) (All-nil P)
fields_are Fields head =
    let P = IsField Fields in
    All-cons P (record head { structure = 1 }) (record head { structure = 2 } ∷ []) (record { structure = (omega arith, omega arith); fits = refl })
    (All-cons P (record head { structure = 2 }) [] (record { structure = (omega arith, omega arith); fits = refl }) (All-nil P))

all_fields : (scan : Scan) (heads : List PictureJob) → All (IsField scan) (flat_map (fields_of scan) heads)
all_fields scan [] = All-nil (IsField scan)
all_fields scan (h ∷ heads) =
    All-append (IsField scan) (fields_of scan h) (flat_map (fields_of scan) heads) (fields_are scan h) (all_fields scan heads)

-- what the rules ask of a job
pub record IsFit (s : Settings) (job : PictureJob) : Type 0 where
  pub is : IsJob job
  pub fits : FitsScan s.scan job

abbrev IsPlaced : ℕ → ℕ → PictureJob → Type 0
IsPlaced first size job = (job.display ≡ first + job.frame) × (job.frame < size)

fit_all : (s : Settings) (first size : ℕ) (jobs : List PictureJob) → size ≤ 63 → All IsKind jobs → All (IsField s.scan) jobs → All (IsPlaced first size) jobs
    → All (IsFit s) jobs
fit_all s first size [] few kinds fields places = All-nil (IsFit s)
fit_all s first size (job ∷ jobs) few kinds fields places =
    let kind = All-head IsKind job jobs kinds in
    let field = All-head (IsField s.scan) job jobs fields in
    let place = All-head (IsPlaced first size) job jobs places in
    All-cons (IsFit s) job jobs
    (record {
      is = record { kind = kind; structure = field.structure; frame = omega (arith, place.1, few); display = omega (arith, place.0) };
      fits = field.fits;
    })
    (fit_all s first size jobs few (All-tail IsKind job jobs kinds) (All-tail (IsField s.scan) job jobs fields) (All-tail (IsPlaced first size) job jobs places))

module _ {F : Type 0} where
  pub group_fits : (s : Settings) (g : Group F) → Passes s → IsGroupOf s g → All (IsFit s) g.pictures
  group_fits s g passes is =
      let q = is.queue in
      let ok = grouped q.settings (subst Passes (sym is.settings) passes) in
      let places : All (IsPlaced (first_of q) (length g.frames)) g.pictures =
      subst (λ (x : Group F). All (IsPlaced (first_of q) (length x.frames)) x.pictures) (sym is.is)
      (group_places q is.sound (turn_is q ok is.sound (due_is q is.due))) in
      fit_all s (first_of q) (length g.frames) g.pictures is.frames is.kinds
      (subst (All (IsField s.scan)) (sym is.fields) (all_fields s.scan is.heads)) places
