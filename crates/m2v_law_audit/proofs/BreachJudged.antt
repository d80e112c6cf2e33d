-- A finding as the verifier has it: a rule on a picture tells of that picture, and one on a sequence header of picture 0; each rule
-- is one from 1 to 15.
use Rattle.std.proofs.Common.{◌≡◌, ℕ, ◌+◌, ◌*◌, Bool, true, false, List, [], ◌∷◌, ◌++◌, map, Option, Some, None, refl, ap, ◌∙◌}
use Rattle.std.specs.Prelude.{nat_le, nat_lt, if◌then◌else◌}
use Rattle.std.specs.List.{flat_map, AllByRecursion}
use Rattle.std.proofs.ByRecursion.{All-append}
use Rattle.std.proofs.lemmas.List.{map-append}
use Rattle.std.proofs.lemmas.List.Elements.{filter-append}
use Rattle.m2v_model.specs.declared.state.Sequence.{Sequence}
use Rattle.m2v_model.specs.Headers.{uses_backward}
use Rattle.m2v_model.specs.States.{is_frame}
use Rattle.m2v_model.specs.Lawful.{Breach, Breaches, breach, judge, at_most, within, limits_in, level_in, most_horizontal, rate_of, buffer_of, has_forward_vectors, f_code_of, Numbered, level_rule, width_rule, height_rule, frame_rate_rule, luma_rule, rate_rule, buffer_rule, sequence_breaches, f_code_rule, horizontal_rule, vertical_rule, intra_rule, crowd_rule, repeat_rule, progressive_rule, precision_rule}
use Rattle.m2v_audit.specs.declared.places.Misplaced.{Misplaced}
use Rattle.m2v_audit.specs.declared.records.Finding.{Finding}
use Rattle.m2v_law_audit.specs.Breaches.{as_judged}
use Rattle.m2v_law_audit.specs.Found.{found_at, found_misplaced, judged_in}
use Rattle.m2v_law_audit.proofs.BreachCounts.{place_breaches, other_rules}

-- ---- findings as the verifier has them

-- those of the rules that the verifier looks at
abbrev pub judged : List Finding → Breaches
judged fs = map as_judged (judged_in fs)

pub judged-append : (xs ys : List Finding) → judged (xs ++ ys) ≡ judged xs ++ judged ys
judged-append xs ys = ap (map as_judged) (filter-append _ xs ys) ∙ map-append as_judged (judged_in xs) (judged_in ys)

-- what is told of a picture is the breach itself: sequence headers count as picture 0; and it is of such a rule
abbrev IsOf : ℕ → Breach → Type 0
IsOf picture b = ((if nat_le b.rule 7 then 0 else picture) ≡ b.picture) × (nat_le b.rule 15 ≡ true)

abbrev pub AreOf : ℕ → Breaches → Type 0
AreOf picture bs = AllByRecursion (IsOf picture) bs

pub judged_as : (sequence picture bit : ℕ) (bs : Breaches) → AreOf picture bs → judged (found_at sequence picture bit bs) ≡ bs
judged_as sequence picture bit [] h = refl
judged_as sequence picture bit (b ∷ bs) h = rw h.0.1 (λ i. breach b.rule (h.0.0 i) b.have b.need ∷ judged_as sequence picture bit bs h.1 i)

pub judged_places : (sequence : ℕ) (ms : List (Option Misplaced)) → judged (found_misplaced sequence ms) ≡ place_breaches ms
unfolding place_breaches
judged_places sequence [] = refl
judged_places sequence (None ∷ ms) = judged_places sequence ms
judged_places sequence (Some m ∷ ms) = ap (λ (bs : Breaches). breach 11 m.number m.have m.need ∷ bs) (judged_places sequence ms)

-- ---- of which picture the rules tell

both : (picture : ℕ) (xs ys : Breaches) → AreOf picture xs → AreOf picture ys → AreOf picture (xs ++ ys)
both picture = All-append (IsOf picture)

one_judged : (picture : ℕ) (holds : Bool) (b : Breach) → IsOf picture b → AreOf picture (judge holds b)
one_judged picture true b h = tt
one_judged picture false b h = (h, tt)

one_within : (picture : ℕ) (low : Bool) (b : Breach) (bs : Breaches) → IsOf picture b → AreOf picture bs → AreOf picture (if low then b ∷ [] else bs)
one_within picture true b bs h k = (h, tt)
one_within picture false b bs h k = k

one_used : (picture : ℕ) (used : Bool) (bs : Breaches) → AreOf picture bs → AreOf picture (if used then bs else [])
one_used picture true bs h = h
one_used picture false bs h = tt

of_first : (picture : ℕ) (f : Sequence → Breaches) (s : Sequence) → AreOf picture (f s) → AreOf picture (flat_map f (s ∷ []))
of_first picture f s h = both picture (f s) [] h tt

-- a number of a header that lies between two others
bounded : (picture rule have low high : ℕ) → nat_le rule 7 ≡ true → nat_le rule 15 ≡ true → AreOf picture (within rule 0 have low high)
bounded picture rule have low high early looked =
    let own : (if nat_le rule 7 then 0 else picture) ≡ 0 = rw early refl in
    one_within picture (nat_lt have low) (breach rule 0 have low) (at_most rule 0 have high) (own, looked) (one_judged picture _ _ (own, looked))

frame_rate_of : (picture : ℕ) (s : Sequence) → AreOf picture (frame_rate_rule s)
unfolding frame_rate_rule
frame_rate_of picture s =
    let code = s.info.frame_rate_code in
    let change = 32 * s.extension.rate_n + s.extension.rate_d in
    both picture (within 4 0 code 1 (limits_in s).codes) (at_most 4 0 change 0) (bounded picture 4 code 1 (limits_in s).codes refl refl)
    (one_judged picture (nat_le change 0) (breach 4 0 change 0) (refl, refl))

pub header_of : (picture : ℕ) (s : Sequence) → AreOf picture (sequence_breaches (s ∷ []))
unfolding level_rule width_rule height_rule luma_rule rate_rule buffer_rule
header_of picture s =
    let ss : List Sequence = s ∷ [] in
    let a : Breaches = flat_map level_rule ss in
    let b : Breaches = flat_map width_rule ss in
    let c : Breaches = flat_map height_rule ss in
    let d : Breaches = flat_map frame_rate_rule ss in
    let e : Breaches = flat_map luma_rule ss in
    let f : Breaches = flat_map rate_rule ss in
    let g : Breaches = flat_map buffer_rule ss in
    both picture (a ++ b ++ c ++ d ++ e ++ f) g
    (both picture (a ++ b ++ c ++ d ++ e) f
    (both picture (a ++ b ++ c ++ d) e
    (both picture (a ++ b ++ c) d
    (both picture (a ++ b) c (both picture a b (of_first picture level_rule s (one_judged picture _ _ (refl, refl))) (of_first picture width_rule s (one_judged picture _ _ (refl, refl)))) (of_first picture height_rule s (one_judged picture _ _ (refl, refl))))
    (of_first picture frame_rate_rule s (frame_rate_of picture s)))
    (of_first picture luma_rule s (one_judged picture _ _ (refl, refl))))
    (of_first picture rate_rule s (bounded picture 6 (rate_of s) 1 (limits_in s).bits refl refl)))
    (of_first picture buffer_rule s (bounded picture 7 (buffer_of s) 1 (limits_in s).buffer refl refl))

codes_of : (rule component : ℕ) (limit : Numbered → ℕ) (n : Numbered) → nat_le rule 7 ≡ false → nat_le rule 15 ≡ true
    → AreOf n.number (f_code_rule rule component limit n)
codes_of rule component limit n late most =
    let forward = at_most rule n.number (f_code_of n.picture 0 component) (limit n) in
    let backward = at_most rule n.number (f_code_of n.picture 1 component) (limit n) in
    let is_forward = has_forward_vectors n.picture in
    let is_backward = uses_backward n.picture.info.kind in
    let own : (if nat_le rule 7 then 0 else n.number) ≡ n.number = rw late refl in
    both n.number (if is_forward then forward else []) (if is_backward then backward else [])
    (one_used n.number is_forward forward (one_judged n.number _ _ (own, most)))
    (one_used n.number is_backward backward (one_judged n.number _ _ (own, most)))

horizontal_of : (n : Numbered) → AreOf n.number (horizontal_rule n)
unfolding horizontal_rule
horizontal_of n = codes_of 8 0 (λ m. most_horizontal (level_in m.sequence)) n refl refl

vertical_of : (n : Numbered) → AreOf n.number (vertical_rule n)
unfolding vertical_rule
vertical_of n = codes_of 9 1 (λ m. if is_frame m.picture.extension then 5 else 4) n refl refl

pub others_of : (c : Bool) (n : Numbered) → AreOf n.number (other_rules c n)
unfolding other_rules intra_rule crowd_rule repeat_rule progressive_rule precision_rule
others_of c n =
    both n.number (horizontal_rule n ++ vertical_rule n ++ intra_rule n) (crowd_rule n ++ repeat_rule c n ++ progressive_rule n ++ precision_rule n)
    (both n.number (horizontal_rule n ++ vertical_rule n) (intra_rule n) (both n.number (horizontal_rule n) (vertical_rule n) (horizontal_of n) (vertical_of n)) (one_judged n.number _ _ (refl, refl)))
    (both n.number (crowd_rule n ++ repeat_rule c n ++ progressive_rule n) (precision_rule n)
    (both n.number (crowd_rule n ++ repeat_rule c n) (progressive_rule n) (both n.number (crowd_rule n) (repeat_rule c n) (one_judged n.number _ _ (refl, refl)) (one_judged n.number _ _ (refl, refl))) (one_judged n.number _ _ (refl, refl)))
    (one_judged n.number _ _ (refl, refl)))
