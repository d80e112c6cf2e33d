-- The first of some breaches, part by part.
use Rattle.std.proofs.Common.{◌≡◌, List, [], ◌∷◌, ◌++◌, Option, Some, None, refl, sym, ap, ◌∙◌}
use Rattle.std.specs.List.{flat_map}
use Rattle.std.proofs.lemmas.List.{append-nil}
use Rattle.m2v_model.specs.declared.state.Sequence.{Sequence}
use Rattle.m2v_model.specs.Lawful.{Breaches, level_rule, width_rule, height_rule, frame_rate_rule, luma_rule, rate_rule, buffer_rule, sequence_breaches}
use Rattle.m2v_check.specs.declared.broken.BrokenRule.{BrokenRule}
use Rattle.m2v_check.specs.Breaking.{first_some, found}

pub found_more : (xs ys : Breaches) → found (xs ++ ys) ≡ first_some (found xs) (found ys)
found_more [] ys = refl
found_more (x ∷ xs) ys = refl

pub first_twice : {A : Type 0} (a b c : Option A) → first_some (first_some a b) c ≡ first_some a (first_some b c)
first_twice None b c = refl
first_twice (Some x) b c = refl

pub first_none : {A : Type 0} (a : Option A) → first_some a None ≡ a
first_none None = refl
first_none (Some x) = refl

-- what one list gives
pub of_one : {A B : Type 0} (f : A → List B) (a : A) → flat_map f (a ∷ []) ≡ f a
of_one f a = append-nil (f a)

pub seven_found : (s : Sequence) → found (sequence_breaches (s ∷ []))
    ≡ first_some (first_some (found (level_rule s)) (first_some (found (width_rule s)) (found (height_rule s))))
    (first_some (first_some (found (frame_rate_rule s)) (found (luma_rule s))) (first_some (found (rate_rule s)) (found (buffer_rule s))))
seven_found s = simp (of_one, found_more, first_twice)
