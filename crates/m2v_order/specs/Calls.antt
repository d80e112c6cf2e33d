-- Calls of a reorder, one after another, and what they hand out.
use Rattle.std.specs.Prelude.{ℕ, ◌≡◌, ◌+◌, ◌<◌, ◌==◌, ◌↔◌, if◌then◌else◌, List, [], ◌∷◌, ◌++◌, length, All, Option, Some, None}
use Rattle.std.specs.List.{flat_map}
use Rattle.m2v_set.specs.declared.settings.Settings.{Settings}
use Rattle.m2v_order.specs.declared.jobs.PictureJob.{PictureJob}
use Rattle.m2v_order.specs.Coding.{Picture}
use Rattle.m2v_order.specs.Groups.{Queue, opening, is_due, Group, group_of, after_push, after_end, after_group}

pub data Call (F : Type 0) : Type 0 where
  Push : F → Call F
  End : Call F
  Next : Call F

-- a reorder, with all frames that were pushed and all groups that were handed out
pub record Run (F : Type 0) : Type 0 where
  pub now : Queue F
  pub pushed : List F
  pub groups : List (Group F)

abbrev pub begun : {F : Type 0} → Settings → Run F
begun s = record { now = opening s; pushed = []; groups = [] }

-- one call; no frame is pushed after the end, and a group is handed out where one is due
unfoldable pub call : {F : Type 0} → Run F → Call F → Run F
call r (Push f) =
    if r.now.ended then r else record { now = after_push r.now f; pushed = r.pushed ++ f ∷ []; groups = r.groups }
call r End = record { now = after_end r.now; pushed = r.pushed; groups = r.groups }
call r Next =
    if is_due r.now
    then record { now = after_group r.now; pushed = r.pushed; groups = r.groups ++ group_of r.now ∷ [] }
    else r

unfoldable pub calls : {F : Type 0} → Run F → List (Call F) → Run F
calls r [] = r
calls r (c ∷ more) = calls (call r c) more

-- the frames of groups
abbrev pub frames_in : {F : Type 0} → List (Group F) → List F
frames_in groups = flat_map (λ g. g.frames) groups

-- the pictures of groups
abbrev pub jobs_in : {F : Type 0} → List (Group F) → List PictureJob
jobs_in groups = flat_map (λ g. g.pictures) groups

-- a picture by itself, without its frame's place in the group
abbrev pub picture_of : PictureJob → Picture
picture_of job = record { display = job.display; kind = job.kind; structure = job.structure }

-- the display number of the last anchor among pictures in coding order, or else what is given
unfoldable pub last_anchor : Option ℕ → List PictureJob → Option ℕ
last_anchor before [] = before
last_anchor before (job ∷ more) = last_anchor (if job.kind == 3 then before else Some job.display) more

-- pictures begin with one of an I frame, and those of no other frame are I
abbrev pub IsFromIntra : List PictureJob → Type 0
IsFromIntra [] = ⊥
IsFromIntra (job ∷ more) = (job.kind ≡ 1) × All (λ (j : PictureJob). (j.kind ≡ 1) ↔ (j.display ≡ job.display)) more

-- a group as it follows earlier ones
pub record IsGroup {F : Type 0} (earlier : List (Group F)) (g : Group F) : Type 0 where
  pub intra : IsFromIntra g.pictures
  pub places : All (λ (j : PictureJob). (j.display ≡ length (frames_in earlier) + j.frame) × (j.frame < length g.frames)) g.pictures
  pub before : g.before ≡ last_anchor None (jobs_in earlier)
