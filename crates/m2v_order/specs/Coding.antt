-- The types of frames and their order in the stream (clause 6.1.1.11). The frames are numbered from 0 in display order.
use Rattle.std.specs.Prelude.{ℕ, ◌+◌, ◌-◌, ◌%◌, ◌==◌, Bool, ◌&&◌, ◌||◌, if◌then◌else◌, List, [], ◌∷◌, ◌++◌, map, filter}
use Rattle.std.specs.List.{range_with_len, flat_map}
use Rattle.m2v_set.specs.declared.settings.Scan.{Scan}
use Rattle.m2v_set.specs.declared.settings.Scan.TheVariants.{Progressive, Frames, Fields}
use Rattle.m2v_set.specs.declared.settings.Settings.{Settings}

-- a frame is I where a group begins
unfoldable pub is_intra : Settings → ℕ → Bool
is_intra s i = i % s.group == 0

-- of so many frames, those at every step are anchors, and the last one, and with closed groups the last of each group
unfoldable pub is_anchor : Settings → ℕ → ℕ → Bool
is_anchor s count i = (i % s.step == 0) || ((i + 1 == count) || (s.closed && ((i + 1) % s.group == 0)))

-- an anchor that isn't I is P, every other frame is B (picture_coding_type, table 6-12)
abbrev pub kind_of : Settings → ℕ → ℕ → ℕ
kind_of s count i = if is_intra s i then 1 else (if is_anchor s count i then 2 else 3)

-- the frames from one on below another
abbrev pub frames_between : ℕ → ℕ → List ℕ
frames_between from to = range_with_len from (to - from)

-- the anchors among them
abbrev pub anchors_between : Settings → ℕ → ℕ → ℕ → List ℕ
anchors_between s count from to = filter (is_anchor s count) (frames_between from to)

-- each anchor, followed by the frames that stand between the anchor before it and itself; the first number is that of
-- the frame behind the anchor before
unfoldable pub in_order : ℕ → List ℕ → List ℕ
in_order from [] = []
in_order from (a ∷ more) = a ∷ (frames_between from a ++ in_order (a + 1) more)

-- so many frames in coding order
abbrev pub coding_order : Settings → ℕ → List ℕ
coding_order s count = in_order 0 (anchors_between s count 0 count)

-- a picture: its frame's display number and type, and its structure (picture_structure, table 6-14)
pub record Picture : Type 0 where
  pub display : ℕ
  pub kind : ℕ
  pub structure : ℕ

-- a frame is one frame picture, or two field pictures, the top field first
unfoldable pub structures : Scan → List ℕ
structures Progressive = 3 ∷ []
structures Frames = 3 ∷ []
structures Fields = 1 ∷ 2 ∷ []

abbrev pub pictures_of : Settings → ℕ → ℕ → List Picture
pictures_of s count i =
    map (λ structure. record { display = i; kind = kind_of s count i; structure = structure }) (structures s.scan)

-- the pictures of so many frames in coding order
abbrev pub Coding : Settings → ℕ → List Picture
Coding s count = flat_map (pictures_of s count) (coding_order s count)
