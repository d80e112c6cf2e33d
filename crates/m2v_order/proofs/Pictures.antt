-- The pictures of frames in coding order.
use Rattle.std.proofs.Common.{◌≡◌, ℕ, ◌-◌, true, false, cond, List, [], ◌∷◌, ◌++◌, map, Option, Some, refl, ap, ◌∙◌}
use Rattle.std.specs.Prelude.{All, ◌==◌, ◌↔◌, slice_index_or}
use Rattle.std.specs.List.{flat_map}
use Rattle.std.proofs.lemmas.List.{map-append}
use Rattle.std.proofs.lemmas.List.Elements.{All-nil, All-append, All-head, All-tail, All-map}
use Rattle.m2v_set.specs.declared.settings.Settings.{Settings}
use Rattle.m2v_set.specs.declared.settings.Scan.{Scan}
use Rattle.m2v_set.specs.declared.settings.Scan.TheVariants.{Progressive, Frames, Fields}
use Rattle.m2v_order.specs.declared.jobs.PictureJob.{PictureJob}
use Rattle.m2v_order.specs.Coding.{kind_of, structures, pictures_of}
use Rattle.m2v_order.specs.Groups.{jobs_of}
use Rattle.m2v_order.specs.Calls.{picture_of, last_anchor, IsFromIntra}

map_map : {A B C : Type 0} (f : B → C) (g : A → B) (xs : List A) → map f (map g xs) ≡ map (λ x. f (g x)) xs
map_map f g [] = refl
map_map f g (x ∷ xs) = ap (λ ys. f (g x) ∷ ys) (map_map f g xs)

pictures_are : (s : Settings) (count first i : ℕ) → map picture_of (jobs_of s count first i) ≡ pictures_of s count i
pictures_are s count first i =
    map_map picture_of (λ (structure : ℕ). record { frame = i - first; display = i; kind = kind_of s count i; structure = structure }) (structures s.scan)

pub pictures_all : (s : Settings) (count first : ℕ) (xs : List ℕ) → map picture_of (flat_map (jobs_of s count first) xs) ≡ flat_map (pictures_of s count) xs
pictures_all s count first [] = refl
pictures_all s count first (x ∷ xs) =
    map-append picture_of (jobs_of s count first x) (flat_map (jobs_of s count first) xs)
    ∙ rw (pictures_are s count first x, pictures_all s count first xs) refl

pub last_none : (o : Option ℕ) → last_anchor o [] ≡ o
unfolding last_anchor
last_none o = refl

pub last_more : (o : Option ℕ) (xs ys : List PictureJob) → last_anchor o (xs ++ ys) ≡ last_anchor (last_anchor o xs) ys
unfolding last_anchor
last_more o [] ys = refl
last_more o (x ∷ xs) ys = last_more (cond (x.kind == 3) o (Some x.display)) xs ys

-- a picture of a frame, by its structure
abbrev pub job_by : ℕ → ℕ → ℕ → ℕ → PictureJob
job_by frame display kind structure = record { frame = frame; display = display; kind = kind; structure = structure }

by_anchor : (scan : Scan) (o : Option ℕ) (frame display kind : ℕ) → (kind == 3) ≡ false
    → last_anchor o (map (job_by frame display kind) (structures scan)) ≡ Some display
unfolding last_anchor structures
by_anchor Progressive o frame display kind e = rw e refl
by_anchor Frames o frame display kind e = rw e refl
by_anchor Fields o frame display kind e = rw e refl

by_other : (scan : Scan) (o : Option ℕ) (frame display kind : ℕ) → (kind == 3) ≡ true
    → last_anchor o (map (job_by frame display kind) (structures scan)) ≡ o
unfolding last_anchor structures
by_other Progressive o frame display kind e = rw e refl
by_other Frames o frame display kind e = rw e refl
by_other Fields o frame display kind e = rw e refl

pub last_jobs : (s : Settings) (count first i : ℕ) (o : Option ℕ) → (kind_of s count i == 3) ≡ false → last_anchor o (jobs_of s count first i) ≡ Some i
last_jobs s count first i o e = by_anchor s.scan o (i - first) i (kind_of s count i) e

pub last_others : (s : Settings) (count first i : ℕ) (o : Option ℕ) → (kind_of s count i == 3) ≡ true → last_anchor o (jobs_of s count first i) ≡ o
last_others s count first i o e = by_other s.scan o (i - first) i (kind_of s count i) e

pub all_flat : (P : ℕ → Type 0) (Q : PictureJob → Type 0) (f : ℕ → List PictureJob) (xs : List ℕ) → All P xs → ((i : ℕ) → P i → All Q (f i)) → All Q (flat_map f xs)
all_flat P Q f [] each some = All-nil Q
all_flat P Q f (x ∷ xs) each some =
    All-append Q (f x) (flat_map f xs) (some x (All-head P x xs each)) (all_flat P Q f xs (All-tail P x xs each) some)

pub all_jobs : (Q : PictureJob → Type 0) (s : Settings) (count first i : ℕ) → ((structure : ℕ) → Q (job_by (i - first) i (kind_of s count i) structure)) → All Q (jobs_of s count first i)
all_jobs Q s count first i each =
    All-map Q (job_by (i - first) i (kind_of s count i)) (structures s.scan) (λ k d h. each (slice_index_or (structures s.scan) k d))

by_scan : (scan : Scan) (frame display kind : ℕ) (more : List PictureJob) → kind ≡ 1
    → All (λ (j : PictureJob). (j.kind ≡ 1) ↔ (j.display ≡ display)) (map (job_by frame display kind) (structures scan) ++ more)
    → IsFromIntra (map (job_by frame display kind) (structures scan) ++ more)
unfolding structures
by_scan Progressive frame display kind more e each = (e, All-tail (λ (j : PictureJob). (j.kind ≡ 1) ↔ (j.display ≡ display)) (job_by frame display kind 3) more each)
by_scan Frames frame display kind more e each = (e, All-tail (λ (j : PictureJob). (j.kind ≡ 1) ↔ (j.display ≡ display)) (job_by frame display kind 3) more each)
by_scan Fields frame display kind more e each = (e, All-tail (λ (j : PictureJob). (j.kind ≡ 1) ↔ (j.display ≡ display)) (job_by frame display kind 1) (job_by frame display kind 2 ∷ more) each)

pub from_intra : (s : Settings) (count first i : ℕ) (more : List PictureJob) → kind_of s count i ≡ 1
    → All (λ (j : PictureJob). (j.kind ≡ 1) ↔ (j.display ≡ i)) (jobs_of s count first i ++ more) → IsFromIntra (jobs_of s count first i ++ more)
from_intra s count first i more e each = by_scan s.scan (i - first) i (kind_of s count i) more e each
