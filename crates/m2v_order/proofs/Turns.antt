-- One group handed out, in the numbers of frames.
use Rattle.std.proofs.Common.{◌≡◌, ℕ, ◌+◌, ◌-◌, ◌<◌, ◌≤◌, true, List, [], ◌∷◌, ◌++◌, map, Option, Some, refl, subst, arith, ⊎_elim}
use Rattle.std.specs.Prelude.{filter, All, ◌↔◌}
use Rattle.std.specs.List.{flat_map}
use Rattle.std.proofs.lemmas.Bool.{cases_eq}
use Rattle.std.proofs.lemmas.Grind.{flat_map-append}
use Rattle.m2v_set.specs.declared.settings.Settings.{Settings}
use Rattle.m2v_order.specs.declared.jobs.PictureJob.{PictureJob}
use Rattle.m2v_order.specs.Coding.{Picture, is_anchor, kind_of, frames_between, anchors_between, in_order, pictures_of}
use Rattle.m2v_order.specs.Groups.{intra_from, past_last, jobs_of}
use Rattle.m2v_order.specs.Calls.{picture_of, last_anchor, IsFromIntra}
use Rattle.m2v_order.proofs.Anchors.{Between, past_last_is, past, within, last_is, split_order, first_anchor, filter_same, flat_map_same}
use Rattle.m2v_order.proofs.Intra.{IsGrouped, intra_low, intra_is, intra_only, intra_anchor, last_anchor_is, kind_intra, kind_other, kind_anchor, kind_b}
use Rattle.m2v_order.proofs.Pictures.{pictures_all, last_none, last_more, last_jobs, last_others, all_flat, all_jobs, from_intra}

-- the pictures of the frames from one on, in coding order
abbrev pub rest_of : Settings → ℕ → ℕ → List Picture
rest_of s count first = flat_map (pictures_of s count) (in_order first (anchors_between s count first count))

-- the frame behind the last anchor below a frame
abbrev pub next_first : Settings → ℕ → ℕ → ℕ → ℕ
next_first s pushed first m = past_last first (anchors_between s pushed first m)

-- the pictures up to that anchor
abbrev pub turn_jobs : Settings → ℕ → ℕ → ℕ → List PictureJob
turn_jobs s pushed first m = flat_map (jobs_of s pushed first) (in_order first (anchors_between s pushed first m))

there : (first m : ℕ) → first ≤ m → first + (m - first) ≡ m
there first m low = omega arith

pub turn_low : (s : Settings) (pushed first m : ℕ) → first ≤ next_first s pushed first m
turn_low s pushed first m = (past_last_is (is_anchor s pushed) first (m - first)).low

pub turn_high : (s : Settings) (pushed first m : ℕ) → first ≤ m → next_first s pushed first m ≤ m
turn_high s pushed first m low =
    let h = (past_last_is (is_anchor s pushed) first (m - first)).high in omega (arith, h)

pub turn_clear : (s : Settings) (pushed first m : ℕ) → first ≤ m → filter (is_anchor s pushed) (frames_between (next_first s pushed first m) m) ≡ []
turn_clear s pushed first m low =
    subst (λ x. filter (is_anchor s pushed) (frames_between (next_first s pushed first m) x) ≡ []) (there first m low)
    (past_last_is (is_anchor s pushed) first (m - first)).clear

-- the I frame belongs to the group
pub turn_past : (s : Settings) (pushed first m : ℕ) → IsGrouped s → intra_from s first < m → intra_from s first < next_first s pushed first m
turn_past s pushed first m ok near =
    let low = intra_low s first ok in
    past (is_anchor s pushed) first (m - first) (intra_from s first) low (omega arith)
    (intra_anchor s pushed (intra_from s first) ok (intra_is s first))

-- the last group takes all frames
pub turn_all : (s : Settings) (pushed first : ℕ) → IsGrouped s → first < pushed → next_first s pushed first pushed ≡ pushed
turn_all s pushed first ok near =
    let one : pushed - 1 + 1 ≡ pushed = omega arith in
    let last : is_anchor s pushed (pushed - 1) ≡ true = subst (λ n. is_anchor s n (pushed - 1) ≡ true) one (last_anchor_is s (pushed - 1)) in
    let h = past (is_anchor s pushed) first (pushed - first) (pushed - 1) (omega arith) (omega arith) last in
    let t = turn_high s pushed first pushed (omega arith) in
    omega (arith, h, t)

-- the frames up to the group's last anchor don't depend on how many frames follow
abbrev pub Agree : Settings → ℕ → ℕ → ℕ → ℕ → Type 0
Agree s count pushed first m = (i : ℕ) → first ≤ i → i < m → is_anchor s count i ≡ is_anchor s pushed i

same_pictures : (s : Settings) (count pushed i : ℕ) → is_anchor s count i ≡ is_anchor s pushed i → pictures_of s count i ≡ pictures_of s pushed i
same_pictures s count pushed i e = rw e refl

pub rest_split : (s : Settings) (count pushed first m : ℕ) → first ≤ m → m ≤ count → Agree s count pushed first m
    → rest_of s count first ≡ map picture_of (turn_jobs s pushed first m) ++ rest_of s count (next_first s pushed first m)
rest_split s count pushed first m low high agree =
    let anchors = anchors_between s pushed first m in
    let b = next_first s pushed first m in
    let same : anchors_between s count first m ≡ anchors =
    filter_same (is_anchor s count) (is_anchor s pushed) first (m - first) (λ i l h. agree i l (omega arith)) in
    let pictures : flat_map (pictures_of s count) (in_order first anchors) ≡ flat_map (pictures_of s pushed) (in_order first anchors) =
    flat_map_same (pictures_of s count) (pictures_of s pushed) (Between first b) (in_order first anchors) (within (is_anchor s pushed) first (m - first))
    (λ i h. same_pictures s count pushed i (agree i h.0 (let t = turn_high s pushed first m low in omega (arith, h.1, t)))) in
    rw (
      split_order (is_anchor s count) first m count low high,
      same,
      flat_map-append (pictures_of s count) (in_order first anchors) (in_order b (anchors_between s count b count)),
      pictures,
      pictures_all s pushed first (in_order first anchors),
    )
    refl

-- the last anchor of the group
pub turn_last : (s : Settings) (pushed first m : ℕ) (o : Option ℕ) → IsGrouped s → first < next_first s pushed first m
    → last_anchor o (turn_jobs s pushed first m) ≡ Some (next_first s pushed first m - 1)
turn_last s pushed first m o ok some =
    last_is (is_anchor s pushed) first (jobs_of s pushed first) last_anchor last_none last_more
    (λ before i is. last_jobs s pushed first i before (kind_anchor s pushed i is))
    (λ before i is. last_others s pushed first i before (kind_b s pushed i ok is))
    (m - first) o some

-- each picture of the group has its frame among the group's
pub turn_places : (s : Settings) (pushed first m : ℕ)
    → All (λ (j : PictureJob). (j.display ≡ first + j.frame) × (j.frame < next_first s pushed first m - first)) (turn_jobs s pushed first m)
turn_places s pushed first m =
    let b = next_first s pushed first m in
    let Q : PictureJob → Type 0 = λ (j : PictureJob). (j.display ≡ first + j.frame) × (j.frame < b - first) in
    all_flat (Between first b) Q (jobs_of s pushed first) (in_order first (anchors_between s pushed first m)) (within (is_anchor s pushed) first (m - first))
    (λ i h. all_jobs Q s pushed first i (λ structure. (omega (arith, h.0), omega (arith, h.0, h.1))))

only_intra : (s : Settings) (pushed first i : ℕ) → IsGrouped s → first ≤ i → i < intra_from s first + s.group → kind_of s pushed i ≡ 1 → i ≡ intra_from s first
only_intra s pushed first i ok low high e =
    ⊎_elim (λ same. same) (λ other. absurd (kind_other s pushed i (intra_only s first i ok low high other) e)) (cases_eq i (intra_from s first))

-- the group begins with its I frame, and has no other
pub turn_intra : (s : Settings) (pushed first m : ℕ) → IsGrouped s → intra_from s first < m → m ≤ intra_from s first + s.group
    → filter (is_anchor s pushed) (frames_between first (intra_from s first)) ≡ [] → IsFromIntra (turn_jobs s pushed first m)
unfolding in_order
turn_intra s pushed first m ok near high clear =
    let p = is_anchor s pushed in
    let intra = intra_from s first in
    let b = next_first s pushed first m in
    let low = intra_low s first ok in
    let top = turn_high s pushed first m (omega (arith, low)) in
    let Q : PictureJob → Type 0 = λ (j : PictureJob). (j.kind ≡ 1) ↔ (j.display ≡ intra) in
    let each : All Q (turn_jobs s pushed first m) =
    all_flat (Between first b) Q (jobs_of s pushed first) (in_order first (anchors_between s pushed first m)) (within p first (m - first))
    (λ i h. all_jobs Q s pushed first i
    (λ structure. (
      λ e. only_intra s pushed first i ok h.0 (omega (arith, h.1, top)) e,
      λ e. rw e (kind_intra s pushed intra (intra_is s first)),
    ))) in
    let later = anchors_between s pushed (intra + 1) m in
    let found : anchors_between s pushed first m ≡ intra ∷ later =
    first_anchor p first intra m low near (intra_anchor s pushed intra ok (intra_is s first)) clear in
    let jobs : turn_jobs s pushed first m ≡ jobs_of s pushed first intra ++ flat_map (jobs_of s pushed first) (frames_between first intra ++ in_order (intra + 1) later) =
    rw found refl in
    rw jobs
    (from_intra s pushed first intra (flat_map (jobs_of s pushed first) (frames_between first intra ++ in_order (intra + 1) later))
    (kind_intra s pushed intra (intra_is s first)) (rw jobs at each))
