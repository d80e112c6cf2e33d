-- Units that were passed, and what they leave of a search.
use Rattle.std.proofs.Common.{◌≡◌, ℕ, zero, suc, ◌+◌, ◌*◌, ◌≤◌, Bool, true, false, List, [], ◌∷◌, ◌++◌, length, Option, Some, None, inl, inr, refl, sym, ap, subst, ◌∙◌, append_assoc, arith}
use Rattle.std.specs.Prelude.{nat_eq, not, ◌&&◌, ◌||◌, if◌then◌else◌}
use Rattle.std.proofs.lemmas.Bool.{cases_Bool}
use Rattle.std.proofs.Math.Bool.{or-false}
use Rattle.std.proofs.lemmas.List.{append-nil}
use Rattle.m2v_model.specs.Units.{Units, unit_bits}
use Rattle.m2v_model.specs.Streams.{value_of}
use Rattle.m2v_law_group.specs.Groups.{is_sequence, is_group, has_sequence, from_last_sequence, before_group, from_group}
use Rattle.m2v_cut.specs.Looks.{IsLastSequence, IsNumberBehind, last_behind}
use Rattle.m2v_cut.proofs.Fulls.{sequence-append, last_later, last_behind_all}

-- units passed before the header of group n among those that were there, of which some are left
pub record Passed (n : ℕ) (all : Units) (m : ℕ) (left : Units) (found : Option ℕ) : Type 0 where
  pub passed : Units
  pub before : before_group n all ≡ passed ++ before_group m left
  pub behind : from_group n all ≡ from_group m left
  pub last : IsLastSequence found passed left

pub passed_none : (n : ℕ) (all : Units) → Passed n all n all None
unfolding has_sequence
passed_none n all = record { passed = []; before = refl; behind = refl; last = refl }

has_more : (us : Units) (u : List ℕ) → has_sequence (us ++ u ∷ []) ≡ (has_sequence us || is_sequence u)
unfolding has_sequence
has_more us u = sequence-append us (u ∷ []) ∙ ap (λ (b : Bool). has_sequence us || b) (or-false (is_sequence u))

-- another unit, which is no sequence header, behind a last one
last_more : (us : Units) (u : List ℕ) → is_sequence u ≡ false → has_sequence us ≡ true → from_last_sequence (us ++ u ∷ []) ≡ from_last_sequence us ++ u ∷ []
unfolding has_sequence
last_more us u off on = last_later us (u ∷ []) (rw off refl) on

last_here : (us : Units) (u : List ℕ) → is_sequence u ≡ true → from_last_sequence (us ++ u ∷ []) ≡ u ∷ []
unfolding has_sequence from_last_sequence
last_here us u on = last_behind_all us (u ∷ []) (rw on refl) ∙ rw on refl

last_on : (passed : Units) (u : List ℕ) (us : Units) (found : Option ℕ) → is_sequence u ≡ false → IsLastSequence found passed (u ∷ us) → IsLastSequence found (passed ++ u ∷ []) us
last_on passed u us None off h = has_more passed u ∙ (λ i. h i || off i)
last_on passed u us (Some left) off h =
    (has_more passed u ∙ (λ i. (h.0 i) || off i), h.1 ∙ ap unit_bits (sym (ap (λ (x : Units). x ++ us) (last_more passed u off h.0) ∙ append_assoc (from_last_sequence passed) (u ∷ []) us)))

last_new : (passed : Units) (u : List ℕ) (us : Units) → is_sequence u ≡ true → IsLastSequence (Some (unit_bits (u ∷ us))) (passed ++ u ∷ []) us
last_new passed u us on =
    (has_more passed u ∙ ap (λ (b : Bool). has_sequence passed || b) on ∙ by_case (has_sequence passed), ap unit_bits (sym (ap (λ (x : Units). x ++ us) (last_here passed u on))))
  where
    by_case : (b : Bool) → (b || true) ≡ true
    by_case true = refl
    by_case false = refl

-- the header is there
pub passed_all : (n : ℕ) (all : Units) (u : List ℕ) (us : Units) (found : Option ℕ) (m : ℕ) → IsNumberBehind None m u → Passed n all m (u ∷ us) found → IsLastSequence found (before_group n all) (from_group n all)
unfolding before_group from_group
passed_all n all u us found m here p =
    let on : is_group u ≡ true = here.1 in
    let zero : m ≡ 0 = here.0 in
    let before : before_group n all ≡ p.passed = p.before ∙ ap (λ (x : Units). p.passed ++ x) (rw (zero, on) refl) ∙ append-nil p.passed in
    let behind : from_group n all ≡ u ∷ us = p.behind ∙ rw (zero, on) refl in
    rw (before, behind) p.last

-- there is none
pub passed_end : (n : ℕ) (all : Units) (m : ℕ) (found : Option ℕ) → Passed n all m [] found → IsLastSequence found (before_group n all) (from_group n all)
unfolding before_group from_group
passed_end n all m found p =
    let before : before_group n all ≡ p.passed = p.before ∙ append-nil p.passed in
    rw (before, p.behind) p.last

-- one unit more that isn't the header
pub passed_more : (n : ℕ) (all : Units) (m : ℕ) (u : List ℕ) (us : Units) (found : Option ℕ) (k left : ℕ) (now : Option ℕ) → Passed n all m (u ∷ us) found → IsNumberBehind (Some k) m u
    → left ≡ unit_bits (u ∷ us) → now ≡ last_behind u left found → Passed n all k us now
passed_more n all m u us found k left now p b e is = record {
  passed = p.passed ++ u ∷ [];
  before = p.before ∙ ap (λ (x : Units). p.passed ++ x) (b us).0 ∙ sym (append_assoc p.passed (u ∷ []) (before_group k us));
  behind = p.behind ∙ (b us).1;
  last = elim (cases_Bool (is_sequence u)) [
    | inl on ↦
        let to : now ≡ Some (unit_bits (u ∷ us)) = is ∙ rw (on, e) refl in
        subst (λ (f : Option ℕ). IsLastSequence f (p.passed ++ u ∷ []) us) (sym to) (last_new p.passed u us on)
    | inr off ↦
        let to : now ≡ found = is ∙ rw off refl in
        subst (λ (f : Option ℕ). IsLastSequence f (p.passed ++ u ∷ []) us) (sym to) (last_on p.passed u us found off p.last)
  ];
}
