-- The state of a reorder, and the group that it hands out next: the frames from one I frame up to the next in coding
-- order.
use Rattle.std.specs.Prelude.{ℕ, ◌≡◌, ◌<◌, ◌≤◌, ◌+◌, ◌-◌, ◌*◌, ◌/◌, ◌==◌, nat_lt, min, Bool, true, false, ◌&&◌, ◌||◌, if◌then◌else◌, List, [], ◌∷◌, ◌++◌, length, take, drop, map, Option, Some, None}
use Rattle.std.specs.List.{flat_map}
use Rattle.m2v_set.specs.declared.settings.Settings.{Settings}
use Rattle.m2v_order.specs.declared.jobs.PictureJob.{PictureJob}
use Rattle.m2v_order.specs.Coding.{kind_of, anchors_between, in_order, structures}

-- what contracts see of a reorder: its settings, how many frames were pushed, those that aren't handed out, and whether
-- the end has come
pub record Queue (F : Type 0) : Type 0 where
  pub settings : Settings
  pub pushed : ℕ
  pub frames : List F
  pub ended : Bool

abbrev pub opening : {F : Type 0} → Settings → Queue F
opening s = record { settings = s; pushed = 0; frames = []; ended = false }

-- the display number of the first frame that isn't handed out
abbrev pub first_of : {F : Type 0} → Queue F → ℕ
first_of q = q.pushed - length q.frames

-- the first I frame at a frame or after it
unfoldable pub intra_from : Settings → ℕ → ℕ
intra_from s i = (i + (s.group - 1)) / s.group * s.group

-- the next I frame after the one of the next group
abbrev pub next_intra : {F : Type 0} → Queue F → ℕ
next_intra q = intra_from q.settings (first_of q) + q.settings.group

-- a group can be handed out: frames are left, and the next I frame or the end has come
unfoldable pub is_due : {F : Type 0} → Queue F → Bool
is_due q = nat_lt 0 (length q.frames) && (q.ended || nat_lt (next_intra q) q.pushed)

-- the group's anchors: those up to the next I frame
abbrev pub group_anchors : {F : Type 0} → Queue F → List ℕ
group_anchors q = anchors_between q.settings q.pushed (first_of q) (min (next_intra q) q.pushed)

-- the frame past the last of some anchors, or a frame where there are none
unfoldable pub past_last : ℕ → List ℕ → ℕ
past_last from [] = from
past_last from (a ∷ more) = past_last (a + 1) more

-- the frames of the group: those up to its last anchor
abbrev pub group_size : {F : Type 0} → Queue F → ℕ
group_size q = past_last (first_of q) (group_anchors q) - first_of q

-- a group: its frames in display order, its pictures in coding order, and the display number of the anchor that was
-- coded before it
pub record Group (F : Type 0) : Type 0 where
  pub frames : List F
  pub pictures : List PictureJob
  pub before : Option ℕ

-- the pictures of a frame, of so many, in a group that begins with a frame in display order
abbrev pub jobs_of : Settings → ℕ → ℕ → ℕ → List PictureJob
jobs_of s count first i =
    map (λ structure. record { frame = i - first; display = i; kind = kind_of s count i; structure = structure })
    (structures s.scan)

-- the anchor before a group is the frame before its first one in display order
unfoldable pub anchor_before : ℕ → Option ℕ
anchor_before first = if first == 0 then None else Some (first - 1)

unfoldable pub group_of : {F : Type 0} → Queue F → Group F
group_of q = record {
  frames = take (group_size q) q.frames;
  pictures = flat_map (jobs_of q.settings q.pushed (first_of q)) (in_order (first_of q) (group_anchors q));
  before = anchor_before (first_of q);
}

-- a frame more
abbrev pub after_push : {F : Type 0} → Queue F → F → Queue F
after_push q f = record q { pushed = q.pushed + 1; frames = q.frames ++ f ∷ [] }

-- no frame follows
abbrev pub after_end : {F : Type 0} → Queue F → Queue F
after_end q = record q { ended = true }

-- the group's frames are handed out
abbrev pub after_group : {F : Type 0} → Queue F → Queue F
after_group q = record q { frames = drop (group_size q) q.frames }

-- frames follow, and perhaps the end
abbrev pub followed : {F : Type 0} → Queue F → List F → Bool → Queue F
followed q more ended = record q { pushed = q.pushed + length more; frames = q.frames ++ more; ended = ended }

-- what a reorder keeps: it holds no more frames than were pushed; where it holds some, the I frame of the next group is
-- among them, and no anchor before it; and it holds none only before the first frame or after the end
pub record IsSoundQueue {F : Type 0} (q : Queue F) : Type 0 where
  pub room : length q.frames ≤ q.pushed
  pub near : 0 < length q.frames → intra_from q.settings (first_of q) < q.pushed
  pub clear : 0 < length q.frames → anchors_between q.settings q.pushed (first_of q) (intra_from q.settings (first_of q)) ≡ []
  pub none : length q.frames ≡ 0 → q.ended ≡ false → q.pushed ≡ 0
