-- The rules on sequence headers, header by header.
use Rattle.std.proofs.Common.{◌≡◌, ℕ, ◌+◌, ◌*◌, ◌≤◌, Bool, true, false, List, [], ◌∷◌, ◌++◌, map, Option, Some, None, refl, sym, ap, ◌∙◌, inl, inr, arith}
use Rattle.std.specs.Prelude.{if◌then◌else◌, nat_lt, nat_le}
use Rattle.std.specs.List.{flat_map}
use Rattle.std.proofs.lemmas.Bool.{cases_Bool, lt-ltb, ltb-true}
use Rattle.std.proofs.lemmas.List.Concat.{flat_map-append}
use Rattle.m2v_model.specs.declared.state.Sequence.{Sequence}
use Rattle.m2v_model.specs.Lawful.{Breach, Breaches, breach, judge, at_most, within, limits_in, level_rule, width_rule, height_rule, frame_rate_rule, luma_rule, rate_rule, buffer_rule, sequence_breaches}
use Rattle.m2v_check.specs.declared.broken.BrokenRule.{BrokenRule}
use Rattle.m2v_check.specs.Breaking.{first_some, found}
use Rattle.m2v_check.specs.Running.{lesser}
use Rattle.m2v_check.proofs.Firsts.{found_more, first_twice, first_none, of_one}

abbrev Found : Type 0
Found = Option BrokenRule

-- the breach, if there is one, is of a rule
abbrev Ruled : ℕ → Found → Type 0
Ruled k None = Unit {0}
Ruled k (Some b) = b.rule ≡ k

-- of a rule or a later one
abbrev From : ℕ → Found → Type 0
From k None = Unit {0}
From k (Some b) = k ≤ b.rule

ruled_first : (k : ℕ) (a b : Found) → Ruled k a → Ruled k b → Ruled k (first_some a b)
ruled_first k None b p q = q
ruled_first k (Some a) b p q = p

ruled_judge : (b : Bool) (x : Breach) → Ruled x.rule (found (judge b x))
ruled_judge true x = tt
ruled_judge false x = refl

ruled_within : (a b : Bool) (k p h l m : ℕ) → Ruled k (found (if a then breach k p h l ∷ [] else judge b (breach k p h m)))
ruled_within true b k p h l m = refl
ruled_within false b k p h l m = ruled_judge b (breach k p h m)

abbrev IsOfRule : ℕ → (Sequence → Breaches) → Type 0
IsOfRule k f = (s : Sequence) → Ruled k (found (f s))

ruled_all : (k : ℕ) (f : Sequence → Breaches) → IsOfRule k f → (ss : List Sequence) → Ruled k (found (flat_map f ss))
ruled_all k f h [] = tt
ruled_all k f h (s ∷ ss) = rw (found_more (f s) (flat_map f ss)) (ruled_first k (found (f s)) (found (flat_map f ss)) (h s) (ruled_all k f h ss))

is_level : IsOfRule 1 level_rule
unfolding level_rule
is_level s = ruled_judge _ _

is_width : IsOfRule 2 width_rule
unfolding width_rule
is_width s = ruled_judge _ _

is_height : IsOfRule 3 height_rule
unfolding height_rule
is_height s = ruled_judge _ _

is_frame_rate : IsOfRule 4 frame_rate_rule
unfolding frame_rate_rule
is_frame_rate s =
    let limit = (limits_in s).codes in
    let change = 32 * s.extension.rate_n + s.extension.rate_d in
    let code = s.info.frame_rate_code in
    rw (found_more (within 4 0 code 1 limit) (at_most 4 0 change 0))
    (ruled_first 4 (found (within 4 0 code 1 limit)) (found (at_most 4 0 change 0)) (ruled_within (nat_lt code 1) (nat_le code limit) 4 0 code 1 limit) (ruled_judge (nat_le change 0) (breach 4 0 change 0)))

is_luma : IsOfRule 5 luma_rule
unfolding luma_rule
is_luma s = ruled_judge _ _

is_rate : IsOfRule 6 rate_rule
unfolding rate_rule
is_rate s = ruled_within _ _ 6 0 _ _ _

is_buffer : IsOfRule 7 buffer_rule
unfolding buffer_rule
is_buffer s = ruled_within _ _ 7 0 _ _ _

-- ---- two lists of what is found, rule by rule

abbrev firsts : List Found → Found
firsts [] = None
firsts (a ∷ more) = first_some a (firsts more)

abbrev Pairs : Type 0
Pairs = List (Found × Found)

abbrev joint : Found × Found → Found
joint p = first_some p.0 p.1

abbrev left_part : Found × Found → Found
left_part p = p.0

abbrev right_part : Found × Found → Found
right_part p = p.1

-- the rules of the pairs go up by one from a number on
abbrev Ascend : ℕ → Pairs → Type 0
Ascend k [] = Unit {0}
Ascend k (p ∷ ps) = Ruled k p.0 × Ruled k p.1 × Ascend (k + 1) ps

from_ruled : (k : ℕ) (a b : Found) → Ruled k a → From (k + 1) b → From k (first_some a b)
from_ruled k None None p q = tt
from_ruled k None (Some y) p q = omega arith
from_ruled k (Some x) b p q = omega arith

from_left : (k : ℕ) (ps : Pairs) → Ascend k ps → From k (firsts (map left_part ps))
from_left k [] h = tt
from_left k (p ∷ ps) h = from_ruled k p.0 (firsts (map left_part ps)) h.0 (from_left (k + 1) ps h.2)

from_right : (k : ℕ) (ps : Pairs) → Ascend k ps → From k (firsts (map right_part ps))
from_right k [] h = tt
from_right k (p ∷ ps) h = from_ruled k p.1 (firsts (map right_part ps)) h.1 (from_right (k + 1) ps h.2)

not_less : (a b : ℕ) → a ≤ b → nat_lt b a ≡ false
not_less a b le = elim (cases_Bool (nat_lt b a)) [
  | inl t ↦ let l = ltb-true b a t in absurd (omega arith)
  | inr f ↦ f
]

lesser_stays : (k : ℕ) (x : BrokenRule) (b : Found) → x.rule ≡ k → From k b → lesser (Some x) b ≡ Some x
lesser_stays k x None e f = refl
lesser_stays k x (Some y) e f = rw (not_less x.rule y.rule (omega arith)) refl

lesser_goes : (k : ℕ) (a : Found) (y : BrokenRule) → y.rule ≡ k → From (k + 1) a → lesser a (Some y) ≡ Some y
lesser_goes k None y e f = refl
lesser_goes k (Some x) y e f = rw (lt-ltb y.rule x.rule (omega arith)) refl

merged : (k : ℕ) (ps : Pairs) → Ascend k ps → firsts (map joint ps) ≡ lesser (firsts (map left_part ps)) (firsts (map right_part ps))
merged k [] h = refl
merged k ((None, None) ∷ ps) h = merged (k + 1) ps h.2
merged k ((None, Some y) ∷ ps) h = sym (lesser_goes k (firsts (map left_part ps)) y h.1 (from_left (k + 1) ps h.2))
merged k ((Some x, None) ∷ ps) h = sym (lesser_stays k x (firsts (map right_part ps)) h.0 (let f = from_right (k + 1) ps h.2 in from_ruled k None (firsts (map right_part ps)) tt f))
merged k ((Some x, Some y) ∷ ps) h = sym (lesser_stays k x (Some y) h.0 (let e = h.1 in omega arith))

-- ---- one header more

abbrev pair_of : (Sequence → Breaches) → List Sequence → Sequence → Found × Found
pair_of f ss s = (found (flat_map f ss), found (f s))

abbrev pairs_of : List Sequence → Sequence → Pairs
pairs_of ss s =
    pair_of level_rule ss s ∷ pair_of width_rule ss s ∷ pair_of height_rule ss s ∷ pair_of frame_rate_rule ss s
    ∷ pair_of luma_rule ss s ∷ pair_of rate_rule ss s ∷ pair_of buffer_rule ss s ∷ []

ascends : (ss : List Sequence) (s : Sequence) → Ascend 1 (pairs_of ss s)
ascends ss s = (
  ruled_all 1 level_rule is_level ss,
  is_level s,
  (
    ruled_all 2 width_rule is_width ss,
    is_width s,
    (
      ruled_all 3 height_rule is_height ss,
      is_height s,
      (
        ruled_all 4 frame_rate_rule is_frame_rate ss,
        is_frame_rate s,
        (
          ruled_all 5 luma_rule is_luma ss,
          is_luma s,
          (
            ruled_all 6 rate_rule is_rate ss,
            is_rate s,
            (ruled_all 7 buffer_rule is_buffer ss, is_buffer s, tt),
          ),
        ),
      ),
    ),
  ),
)

with_one : (f : Sequence → Breaches) (ss : List Sequence) (s : Sequence) → found (flat_map f (ss ++ s ∷ [])) ≡ first_some (found (flat_map f ss)) (found (f s))
with_one f ss s = ap found (flat_map-append f ss (s ∷ []) ∙ ap (λ (l : Breaches). flat_map f ss ++ l) (of_one f s)) ∙ found_more (flat_map f ss) (f s)

all_found : (ss : List Sequence) → found (sequence_breaches ss)
    ≡ firsts (found (flat_map level_rule ss) ∷ found (flat_map width_rule ss) ∷ found (flat_map height_rule ss) ∷ found (flat_map frame_rate_rule ss)
    ∷ found (flat_map luma_rule ss) ∷ found (flat_map rate_rule ss) ∷ found (flat_map buffer_rule ss) ∷ [])
all_found ss = simp (found_more, first_twice, first_none)

pub header_more : (ss : List Sequence) (s : Sequence) → found (sequence_breaches (ss ++ s ∷ [])) ≡ lesser (found (sequence_breaches ss)) (found (sequence_breaches (s ∷ [])))
header_more ss s =
    all_found (ss ++ s ∷ [])
    ∙ (λ i. firsts (with_one level_rule ss s i ∷ with_one width_rule ss s i ∷ with_one height_rule ss s i ∷ with_one frame_rate_rule ss s i
    ∷ with_one luma_rule ss s i ∷ with_one rate_rule ss s i ∷ with_one buffer_rule ss s i ∷ []))
    ∙ merged 1 (pairs_of ss s) (ascends ss s)
    ∙ (λ i. lesser (sym (all_found ss) i) (firsts (map right_part (pairs_of ss s))))
    ∙ ap (lesser (found (sequence_breaches ss))) (sym (all_found (s ∷ [])
    ∙ (λ i. firsts (found (of_one level_rule s i) ∷ found (of_one width_rule s i) ∷ found (of_one height_rule s i) ∷ found (of_one frame_rate_rule s i)
    ∷ found (of_one luma_rule s i) ∷ found (of_one rate_rule s i) ∷ found (of_one buffer_rule s i) ∷ []))))
