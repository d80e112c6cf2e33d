-- What is shown of frames in coding order.
use Rattle.std.specs.Prelude.{ℕ, ◌≡◌, ◌≤◌, ◌+◌, true, false, List, [], ◌∷◌, ◌++◌, All, Option, option_to_list}
use Rattle.m2v_order.specs.Coding.{frames_between}
use Rattle.m2v_order.specs.Display.{is_b, Holder, handed, held_after}

-- a display queue without low_delay that holds an anchor, or none
abbrev pub holding : {F : Type 0} → Option F → Holder F
holding anchor = record { low_delay = false; anchor = anchor }

-- behind an anchor that is held, frames with their types show it and these frames, of which the last one is held in its
-- place
pub record ShowAll {F : Type 0} (before : Option F) (ps : List (F × ℕ)) (out : List F) : Type 0 where
  pub behind : Option F
  pub shown : handed (holding before) ps ++ option_to_list behind ≡ option_to_list before ++ out
  pub held : held_after (holding before) ps ≡ holding behind

-- of frames with their types, one is an anchor, and those from another one on before it are B frames
pub record IsAnchorFrom {F : Type 0} (f : ℕ → F × ℕ) (from a : ℕ) : Type 0 where
  pub low : from ≤ a
  pub anchor : is_b (f a) ≡ false
  pub others : All (λ i. is_b (f i) ≡ true) (frames_between from a)

-- these are anchors, one behind another, and all frames between are B frames
unfoldable pub AreAnchors : {F : Type 0} → (ℕ → F × ℕ) → ℕ → List ℕ → Type 0
AreAnchors f from [] = Unit {0}
AreAnchors f from (a ∷ more) = IsAnchorFrom f from a × AreAnchors f (a + 1) more
