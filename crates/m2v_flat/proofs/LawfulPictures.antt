-- The pictures of the flat stream, numbered, break no rule.
use Rattle.std.proofs.Common.{◌≡◌, ℕ, ◌+◌, ◌-◌, ◌%◌, ◌<◌, ◌≤◌, Bool, true, false, List, [], ◌∷◌, length, map, Some, refl, ap, ◌∙◌, arith, ⊎_elim}
use Rattle.std.specs.Prelude.{All}
use Rattle.std.specs.List.{flat_map}
use Rattle.std.proofs.lemmas.Bool.{eq-eqb, ne_eqb, cases_eq}
use Rattle.std.proofs.lemmas.List.Elements.{All-nil, All-cons}
use Rattle.m2v_flat.specs.declared.settings.FlatSettings.{FlatSettings}
use Rattle.m2v_flat.specs.Tree.{sequence_of}
use Rattle.m2v_order.specs.Display.{Order}
use Rattle.m2v_flat.proofs.Orders.{IsAnchor, in_order}
use Rattle.m2v_model.specs.Pictures.{coded_picture}
use Rattle.m2v_model.specs.Lawful.{Numbered, numbered, horizontal_rule, vertical_rule, intra_rule, frames_of_group, display_place, place_in_group, reference_rule, crowd_rule, repeat_rule, progressive_rule, precision_rule, picture_breaches}
use Rattle.m2v_flat.specs.Told.{decoded_from}
use Rattle.m2v_flat.specs.Numbered.{counted, counted_from, intra_from}
use Rattle.m2v_model.proofs.Judging.{judge_none, most_none}

-- ---- the pictures, numbered

pub counted_are : (s : FlatSettings) (number : ℕ) (frames : List (List ℕ))
    → numbered (Some (sequence_of s)) 0 false number number (map coded_picture (decoded_from s number frames)) ≡ counted_from s number frames
unfolding numbered decoded_from counted_from
counted_are s number [] = refl
counted_are s number (raw ∷ frames) = ap (λ (ns : List Numbered). counted s number raw ∷ ns) (counted_are s (number + 1) frames)

-- ---- display order

frames_are : (s : FlatSettings) (number : ℕ) (frames : List (List ℕ)) → frames_of_group 0 (counted_from s number frames) ≡ intra_from number frames
unfolding frames_of_group counted_from intra_from
frames_are s number [] = refl
frames_are s number (raw ∷ frames) = ap (λ (fs : List (ℕ × ℕ)). (number, 1) ∷ fs) (frames_are s (number + 1) frames)

all_intra : (number : ℕ) (frames : List (List ℕ)) → All IsAnchor (intra_from number frames)
unfolding intra_from
all_intra number [] = All-nil IsAnchor
all_intra number (raw ∷ frames) = All-cons IsAnchor (number, 1) (intra_from (number + 1) frames) refl (all_intra (number + 1) frames)

-- the place of a frame in its group: it has as many frames before it as its number is above the first one's
place_from : (number m : ℕ) (frames : List (List ℕ)) → number ≤ m → m < number + length frames → display_place m (intra_from number frames) ≡ m - number
unfolding display_place intra_from
place_from number m [] low high = absurd (omega (arith, low, high))
place_from number m (raw ∷ frames) low high =
    ⊎_elim
    (λ (same : number ≡ m). rw (eq-eqb number m same) (omega (arith, same)))
    (λ (other : number ≡ m → ⊥).
    let rest = place_from (number + 1) m frames (omega (arith, other, low)) (omega (arith, high)) in
    rw (ne_eqb number m other) (omega (arith, rest, other, low)))
    (cases_eq number m)

place_is : (s : FlatSettings) (low_delay : Bool) (frames : List (List ℕ)) (number : ℕ) (raw : List ℕ) → number < length frames
    → place_in_group low_delay (counted_from s 0 frames) (counted s number raw) ≡ number
unfolding place_in_group
place_is s low_delay frames number raw below =
    ap (λ (fs : List (ℕ × ℕ)). display_place number (Order low_delay fs)) (frames_are s 0 frames)
    ∙ ap (display_place number) (in_order low_delay (intra_from 0 frames) (all_intra 0 frames))
    ∙ place_from 0 number frames (omega arith) (omega (arith, below))
    ∙ omega arith

-- ---- rule by rule; I pictures have no vectors

reference_none : (s : FlatSettings) (low_delay : Bool) (frames : List (List ℕ)) (number : ℕ) (raw : List ℕ) → number < length frames
    → reference_rule low_delay (counted_from s 0 frames) (counted s number raw) ≡ []
unfolding reference_rule
reference_none s low_delay frames number raw below =
    rw (place_is s low_delay frames number raw below) (judge_none _ _ (eq-eqb (number % 1024) (number % 1024) refl))

module _ (s : FlatSettings) (number : ℕ) (raw : List ℕ) where
  crowd_none : crowd_rule (counted s number raw) ≡ []
  unfolding crowd_rule
  crowd_none = most_none 12 number 0 2 (omega arith)

  repeat_none : (constant : Bool) → repeat_rule constant (counted s number raw) ≡ []
  unfolding repeat_rule
  repeat_none true = refl
  repeat_none false = refl

  precision_none : precision_rule (counted s number raw) ≡ []
  unfolding precision_rule
  precision_none = most_none 15 number 0 2 (omega arith)

picture_none : (s : FlatSettings) (low_delay constant : Bool) (frames : List (List ℕ)) (number : ℕ) (raw : List ℕ) → number < length frames
    → picture_breaches low_delay constant (counted_from s 0 frames) (counted s number raw) ≡ []
unfolding picture_breaches horizontal_rule vertical_rule intra_rule progressive_rule
picture_none s low_delay constant frames number raw below =
    rw (reference_none s low_delay frames number raw below, crowd_none s number raw, repeat_none s number raw constant, precision_none s number raw)
    refl

-- ---- the pictures of a stream

module _ (s : FlatSettings) (low_delay constant : Bool) (all : List (List ℕ)) where
  -- those from one on
  later_none : (number : ℕ) (frames : List (List ℕ)) → number + length frames ≡ length all
      → flat_map (picture_breaches low_delay constant (counted_from s 0 all)) (counted_from s number frames) ≡ []
  unfolding counted_from
  later_none number [] count = refl
  later_none number (raw ∷ frames) count =
      rw (picture_none s low_delay constant all number raw (omega (arith, count)), later_none (number + 1) frames (omega (arith, count))) refl

pub pictures_none : (s : FlatSettings) (low_delay constant : Bool) (frames : List (List ℕ))
    → flat_map (picture_breaches low_delay constant (counted_from s 0 frames)) (counted_from s 0 frames) ≡ []
pictures_none s low_delay constant frames = later_none s low_delay constant frames 0 frames (omega arith)
