-- What every group has that is handed out.
use Rattle.std.specs.Prelude.{ℕ, ◌≡◌, ◌≤◌, ◌==◌, true, not, ◌&&◌, List, ◌∷◌, ◌++◌, length, map, count_by, All, Option, None}
use Rattle.std.specs.List.{flat_map}
use Rattle.m2v_set.specs.declared.settings.Settings.{Settings}
use Rattle.m2v_set.specs.declared.settings.Scan.{Scan}
use Rattle.m2v_set.specs.m2v_plane.Samples.{Samples}
use Rattle.m2v_order.specs.declared.jobs.PictureJob.{PictureJob}
use Rattle.m2v_order.specs.declared.jobs.GroupJobs.{GroupJobs}
use Rattle.m2v_order.specs.Coding.{structures}
use Rattle.m2v_order.specs.Groups.{Queue, is_due, Group, group_of, IsSoundQueue}

-- a picture is I, P or B
abbrev pub IsKind : PictureJob → Type 0
IsKind job = (1 ≤ job.kind) × (job.kind ≤ 3)

-- a frame's pictures: one frame picture, or its two field pictures, the top field first
abbrev pub fields_of : Scan → PictureJob → List PictureJob
fields_of scan job = map (λ structure. record job { structure = structure }) (structures scan)

-- how many I and P pictures there are, without those of one field: 1 the top field, 2 the bottom field
abbrev pub anchors_without : ℕ → List PictureJob → ℕ
anchors_without field jobs = count_by (λ (j : PictureJob). not (j.kind == 3) && not (j.structure == field)) jobs

-- before a picture stand two anchors that have top field lines, and two that have bottom field lines
abbrev pub FollowsTwo : List PictureJob → Type 0
FollowsTwo earlier = (2 ≤ anchors_without 2 earlier) × (2 ≤ anchors_without 1 earlier)

-- where no anchor was coded before, each B picture follows two
abbrev pub AreFollowing : Option ℕ → List PictureJob → Type 0
AreFollowing before jobs =
    before ≡ None → (earlier : List PictureJob) (b : PictureJob) (later : List PictureJob) → jobs ≡ earlier ++ b ∷ later
    → b.kind ≡ 3 → FollowsTwo earlier

-- a group that was handed out: a sound queue's that was due; with its frames and pictures, of which there are so many
pub record IsGroupOf {F : Type 0} (s : Settings) (g : Group F) : Type 0 where
  pub queue : Queue F
  pub settings : queue.settings ≡ s
  pub sound : IsSoundQueue queue
  pub due : is_due queue ≡ true
  pub is : g ≡ group_of queue
  pub frame : 1 ≤ length g.frames
  pub frames : length g.frames ≤ 63
  pub picture : 1 ≤ length g.pictures
  pub pictures : length g.pictures ≤ 126
  pub kinds : All IsKind g.pictures
  pub heads : List PictureJob
  pub fields : g.pictures ≡ flat_map (fields_of s.scan) heads
  pub each : length heads ≡ length g.frames
  pub following : AreFollowing g.before g.pictures

-- a group of frames as it is handed out
abbrev pub handed : GroupJobs → Group Samples
handed g = record { frames = g.frames.items; pictures = g.pictures.items; before = g.before }
