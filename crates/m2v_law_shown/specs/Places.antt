-- The pictures of a group with the numbers of their frames.
use Rattle.std.specs.Prelude.{ℕ, ◌≡◌, ◌+◌, cond, List, [], ◌∷◌, ◌++◌}
use Rattle.m2v_set.specs.declared.settings.Settings.{Settings}
use Rattle.m2v_order.specs.declared.jobs.PictureJob.{PictureJob}
use Rattle.m2v_order.specs.Groups.{Group}
use Rattle.m2v_model.specs.Lawful.{Numbered}
use Rattle.m2v_law_shown.specs.Own.{ends, IsOwnPicture}

-- the number of the frame behind a picture, whose own has this number
abbrev pub behind : ℕ → PictureJob → ℕ
behind frame job = cond (ends job) (frame + 1) frame

-- the frames of pictures with their types, by number in coding order from one on
unfoldable pub frames_from : ℕ → List PictureJob → List (ℕ × ℕ)
frames_from frame [] = []
frames_from frame (job ∷ jobs) =
    cond (ends job) ((frame, job.kind) ∷ frames_from (behind frame job) jobs) (frames_from (behind frame job) jobs)

-- each picture whose frame has its place in a list of places
unfoldable pub HavePlaces : (ℕ → ℕ) → ℕ → List PictureJob → Type 0
HavePlaces place frame [] = Unit {0}
HavePlaces place frame (job ∷ jobs) = (place frame ≡ job.frame) × HavePlaces place (behind frame job) jobs

-- pictures, numbered, are those of jobs, in one group, with frames from a number on
unfoldable pub AreOwn : Settings → ℕ → ℕ → List PictureJob → List Numbered → Type 0
AreOwn s group frame [] [] = Unit {0}
AreOwn s group frame [] (n ∷ ns) = ⊥
AreOwn s group frame (job ∷ jobs) [] = ⊥
AreOwn s group frame (job ∷ jobs) (n ∷ ns) =
    (IsOwnPicture s job n × ((n.group ≡ group) × (n.frame ≡ frame))) × AreOwn s group (behind frame job) jobs ns

-- the number of the frame behind pictures, the first of which belongs to a frame of this number
unfoldable pub behind_all : ℕ → List PictureJob → ℕ
behind_all frame [] = frame
behind_all frame (job ∷ jobs) = behind_all (behind frame job) jobs

-- numbered pictures are those of groups one behind another, the first of which has these numbers of its group and of its
-- first frame
unfoldable pub AreOwnGroups : {F : Type 0} → Settings → ℕ → ℕ → List (Group F) → List Numbered → Type 0
AreOwnGroups s group frame [] ns = ns ≡ []
AreOwnGroups s group frame (g ∷ gs) ns =
    (own : List Numbered) × ((rest : List Numbered) × ((ns ≡ own ++ rest)
    × (AreOwn s group frame g.pictures own × AreOwnGroups s (group + 1) (behind_all frame g.pictures) gs rest)))
