-- What is found of what else stands before the first slice of a piece is none of the verifier's.
use Rattle.std.proofs.Common.{◌≡◌, ℕ, Bool, true, false, List, [], ◌∷◌, Option, Some, None, refl}
use Rattle.m2v_audit.specs.m2v_strict.declared.display.Display.{Display}
use Rattle.m2v_audit.specs.m2v_strict.OtherRules.{chroma_number_rule, chroma_rule, extra_rule, display_rule}
use Rattle.m2v_audit.specs.declared.others.Other.{Other}
use Rattle.m2v_audit.specs.declared.others.Other.TheVariants as others
use Rattle.m2v_audit.specs.Others.{own_remarks, own_bit, display_remarks, headed_remarks}
use Rattle.m2v_law_audit.specs.Found.{remarks_found, others_found, judged_in}
use Rattle.m2v_law_audit.proofs.BreachStricter.{AreStricter, none, both, judged, first_number_is, NoneJudged, none_of, none_both}

chroma_number_is : (matrix : Option (List ℕ)) → AreStricter (chroma_number_rule matrix)
unfolding chroma_number_rule
chroma_number_is None = none
chroma_number_is (Some numbers) = judged _ _ refl

own_are : (o : Other) → AreStricter (own_remarks o)
unfolding own_remarks extra_rule chroma_rule
own_are (others.Display d) = none
own_are (others.Picture bit extra) = judged _ _ refl
own_are (others.Matrices bit m) =
    both (both (first_number_is m.intra) (chroma_number_is m.chroma_intra)) (both (judged _ _ refl) (judged _ _ refl))

of_others : (n picture : ℕ) (os : List Other) → NoneJudged (others_found n picture os)
of_others n picture [] = record { is = refl }
of_others n picture (o ∷ os) = none_both (none_of n picture (own_bit o) (own_are o)) (of_others n picture os)

pub others_stricter : (n picture : ℕ) (os : List Other) → judged_in (others_found n picture os) ≡ []
others_stricter n picture os = (of_others n picture os).is

display_is : (first : Option (Option Display)) (d : Option Display) → AreStricter (display_remarks first d)
unfolding display_remarks display_rule
display_is None d = none
display_is (Some first) d = judged _ _ refl

headed_is : (headed : Bool) (first : Option (Option Display)) (d : Option Display) → AreStricter (headed_remarks headed first d)
headed_is true first d = display_is first d
headed_is false first d = none

pub display_stricter : (n picture bit : ℕ) (headed : Bool) (first : Option (Option Display)) (d : Option Display)
    → judged_in (remarks_found n picture bit (headed_remarks headed first d)) ≡ []
display_stricter n picture bit headed first d = (none_of n picture bit (headed_is headed first d)).is
