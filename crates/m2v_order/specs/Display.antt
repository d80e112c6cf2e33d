-- Display order (clause 6.1.1.11), over a list of frames in decoding order, each with its picture_coding_type (table
-- 6-12; 3 is B, the others are anchors). A first field whose second field isn't decoded makes no frame, and stands in no
-- list.
use Rattle.std.specs.Prelude.{ℕ, zero, suc, ◌==◌, Bool, not, ◌&&◌, ◌||◌, if◌then◌else◌, List, [], ◌∷◌, ◌++◌, map, filter, Option, Some, None, option_to_list}
use Rattle.std.specs.List.{list_any}

abbrev pub is_b : {F : Type 0} → F × ℕ → Bool
is_b p = p.1 == 3

abbrev pub is_reference : {F : Type 0} → F × ℕ → Bool
is_reference p = not (is_b p)

-- the anchors, in decoding order
abbrev pub anchors : {F : Type 0} → List (F × ℕ) → List (F × ℕ)
anchors ps = filter is_reference ps

-- the B frames decoded after exactly k anchors, in decoding order
unfoldable pub b_after : {F : Type 0} → ℕ → List (F × ℕ) → List (F × ℕ)
b_after k [] = []
b_after zero (p ∷ ps) = if is_b p then p ∷ b_after zero ps else []
b_after (suc k) (p ∷ ps) = if is_b p then b_after (suc k) ps else b_after k ps

-- anchors from number k on, before each the B frames that were decoded after exactly so many anchors
unfoldable pub from_anchor : {F : Type 0} → ℕ → List (F × ℕ) → List (F × ℕ) → List (F × ℕ)
from_anchor k [] ps = []
from_anchor k (a ∷ more) ps = b_after k ps ++ a ∷ from_anchor (suc k) more ps

-- display order: the anchors, numbered from 1, in decoding order; a B frame decoded after exactly k anchors stands before
-- anchor k, before the first where k is 0; with low_delay decoding order
unfoldable pub Order : {F : Type 0} → Bool → List (F × ℕ) → List (F × ℕ)
Order low_delay ps = if low_delay then ps else b_after 0 ps ++ from_anchor 1 (anchors ps) ps

-- a frame is dropped where the test says so of a B frame
abbrev pub is_kept : {F : Type 0} → (F → Bool) → F × ℕ → Bool
is_kept dropped p = not (is_b p && dropped p.0)

-- the frames that are shown: display order without the dropped frames
abbrev pub Shown : {F : Type 0} → (F → Bool) → Bool → List (F × ℕ) → List (F × ℕ)
Shown dropped low_delay ps = filter (is_kept dropped) (Order low_delay ps)

unfoldable pub without_last_anchor : {F : Type 0} → List (F × ℕ) → List (F × ℕ)
without_last_anchor [] = []
without_last_anchor (p ∷ ps) =
    if is_reference p && not (list_any is_reference ps) then ps else p ∷ without_last_anchor ps

-- the frames that are shown before the end: all but the last anchor, with low_delay all
abbrev pub Due : {F : Type 0} → (F → Bool) → Bool → List (F × ℕ) → List (F × ℕ)
Due dropped low_delay ps =
    if low_delay then Shown dropped low_delay ps else without_last_anchor (Shown dropped low_delay ps)

-- what contracts see of a display queue: low_delay, and the anchor that is held
pub record Holder (F : Type 0) : Type 0 where
  pub low_delay : Bool
  pub anchor : Option F

abbrev pub opening : {F : Type 0} → Bool → Holder F
opening low_delay = record { low_delay = low_delay; anchor = None }

-- what is shown when a frame was decoded: an anchor when the next one is decoded, a B frame at once; with low_delay every
-- frame at once
unfoldable pub shown : {F : Type 0} → Holder F → F → ℕ → Option F
shown q f kind = if q.low_delay || (kind == 3) then Some f else q.anchor

unfoldable pub held : {F : Type 0} → Holder F → F → ℕ → Holder F
held q f kind = if q.low_delay || (kind == 3) then q else record q { anchor = Some f }

-- the last anchor is shown at the end
abbrev pub emptied : {F : Type 0} → Holder F → Holder F
emptied q = record q { anchor = None }

-- what the steps over a list of frames hand out
unfoldable pub handed : {F : Type 0} → Holder F → List (F × ℕ) → List F
handed q [] = []
handed q (p ∷ ps) = option_to_list (shown q p.0 p.1) ++ handed (held q p.0 p.1) ps

-- and what is held after them
unfoldable pub held_after : {F : Type 0} → Holder F → List (F × ℕ) → Holder F
held_after q [] = q
held_after q (p ∷ ps) = held_after (held q p.0 p.1) ps

-- a list of frames by themselves
abbrev pub frames_of : {F : Type 0} → List (F × ℕ) → List F
frames_of ps = map (λ p. p.0) ps
