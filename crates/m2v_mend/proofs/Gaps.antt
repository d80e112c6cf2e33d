-- Gaps with one more behind them.
use Rattle.std.proofs.Common.{◌≡◌, ℕ, ◌+◌, Bool, true, false, List, [], ◌∷◌, ◌++◌, map, inl, inr, refl, sym, ap, ◌∙◌, append_assoc, append-nil, length, arith}
use Rattle.std.specs.Prelude.{if◌then◌else◌}
use Rattle.std.proofs.lemmas.Bool.{cases_Bool}
use Rattle.std.proofs.lemmas.List.{map-append, nil_from_length}
use Rattle.m2v_law_seam.specs.Mending.{Gap, joins, both_gaps, with_gap}
use Rattle.m2v_law_seam.specs.Told.{left_pictures, first_fault}
use Rattle.m2v_mend.specs.declared.gap.Gap.{Gap as Kept}
use Rattle.m2v_mend.specs.Making.{gap_told}
use Rattle.m2v_mend.specs.Stretching.{AreSettled}

-- it joins or follows the last of those that weren't handed out
pub gap_behind : (front gs : List Gap) (h : Gap) → (gs ≡ [] → front ≡ []) → with_gap (front ++ gs) h ≡ front ++ with_gap gs h
unfolding with_gap
gap_behind [] gs h none = refl
gap_behind (f ∷ front) [] h none = let wrong : f ∷ front ≡ [] = none refl in absurd cc
gap_behind (f ∷ []) (g ∷ gs) h none = refl
gap_behind (f ∷ e ∷ front) (g ∷ gs) h none = ap (λ (l : List Gap). f ∷ l) (gap_behind (e ∷ front) (g ∷ gs) h (λ e. absurd cc))

pub gap_last : (gs : List Gap) (g h : Gap) → with_gap (gs ++ g ∷ []) h ≡ gs ++ (if joins g h then both_gaps g h ∷ [] else g ∷ h ∷ [])
unfolding with_gap
gap_last gs g h = gap_behind gs (g ∷ []) h (λ e. absurd cc)

pub some_gap : (gs : List Gap) (h : Gap) → with_gap gs h ≡ [] → ⊥
unfolding with_gap
some_gap [] h e = absurd cc
some_gap (g ∷ []) h e = elim (cases_Bool (joins g h)) [ inl on ↦ let wrong : both_gaps g h ∷ [] ≡ [] = rw on at e in absurd cc | inr off ↦ let wrong : g ∷ h ∷ [] ≡ [] = rw off at e in absurd cc ]
some_gap (g ∷ k ∷ gs) h e = absurd cc

-- settled gaps stay as they are
pub settled_with : (settled gs : List Gap) (h : Gap) → AreSettled settled gs → AreSettled settled (with_gap gs h)
settled_with settled gs h s = record {
  more = with_gap s.more h;
  is = ap (λ (l : List Gap). with_gap l h) s.is ∙ gap_behind settled s.more h s.last;
  last = λ none. absurd (some_gap s.more h none);
}

-- how many pictures were left out with it
pub left_more : (gs : List Gap) (h : Gap) → left_pictures (with_gap gs h) ≡ left_pictures gs + h.pictures
unfolding with_gap left_pictures
left_more [] h = omega (arith)
left_more (g ∷ []) h = elim (cases_Bool (joins g h)) [ inl on ↦ rw on (omega arith) | inr off ↦ rw off (omega arith) ]
left_more (g ∷ k ∷ gs) h = let i = left_more (k ∷ gs) h in omega (arith, i)

-- the first gap keeps its fault
first_stays : (bits : ℕ) (g : Gap) (gs : List Gap) (h : Gap) → first_fault bits (with_gap (g ∷ gs) h) ≡ first_fault bits (g ∷ gs)
unfolding with_gap
first_stays bits g [] h = elim (cases_Bool (joins g h)) [ inl on ↦ rw on refl | inr off ↦ rw off refl ]
first_stays bits g (k ∷ gs) h = refl

pub fault_stays : (bits : ℕ) (gs : List Gap) (h : Gap) → (gs ≡ [] → ⊥) → first_fault bits (with_gap gs h) ≡ first_fault bits gs
fault_stays bits [] h some = absurd (some refl)
fault_stays bits (g ∷ gs) h some = first_stays bits g gs h

pub first_gap : (bits : ℕ) (h : Gap) → first_fault bits (with_gap [] h) ≡ first_fault bits (h ∷ [])
unfolding with_gap
first_gap bits h = refl

-- ---- as they stand in memory

pub gap_first : (olds mid news : List Kept) (h : Kept) → length olds ≡ 0 → olds ≡ mid ++ [] → news ≡ mid ++ h ∷ [] → map gap_told news ≡ with_gap (map gap_told olds) (gap_told h)
unfolding with_gap
gap_first olds mid news h none is new =
    let empty : olds ≡ [] = nil_from_length olds none in
    let front : mid ≡ [] = sym (append-nil mid) ∙ sym is ∙ empty in
    ap (map gap_told) (new ∙ ap (λ (l : List Kept). l ++ h ∷ []) front) ∙ ap (λ (l : List Kept). with_gap (map gap_told l) (gap_told h)) (sym empty)

behind_last : (olds front : List Kept) (g h : Kept) → olds ≡ front ++ g ∷ []
    → with_gap (map gap_told olds) (gap_told h) ≡ map gap_told front ++ (if joins (gap_told g) (gap_told h) then both_gaps (gap_told g) (gap_told h) ∷ [] else gap_told g ∷ gap_told h ∷ [])
behind_last olds front g h is =
    ap (λ (l : List Gap). with_gap l (gap_told h)) (ap (map gap_told) is ∙ map-append gap_told front (g ∷ [])) ∙ gap_last (map gap_told front) (gap_told g) (gap_told h)

pub gap_joins : (olds front news : List Kept) (g h both : Kept) → olds ≡ front ++ g ∷ [] → joins (gap_told g) (gap_told h) ≡ true → gap_told both ≡ both_gaps (gap_told g) (gap_told h) → news ≡ front ++ both ∷ []
    → map gap_told news ≡ with_gap (map gap_told olds) (gap_told h)
gap_joins olds front news g h both is on e new =
    ap (map gap_told) new ∙ map-append gap_told front (both ∷ []) ∙ ap (λ (x : Gap). map gap_told front ++ x ∷ []) e
    ∙ sym (behind_last olds front g h is ∙ ap (λ (b : Bool). map gap_told front ++ (if b then both_gaps (gap_told g) (gap_told h) ∷ [] else gap_told g ∷ gap_told h ∷ [])) on)

pub gap_follows : (olds front mid news : List Kept) (g h : Kept) → olds ≡ front ++ g ∷ [] → joins (gap_told g) (gap_told h) ≡ false → mid ≡ front ++ g ∷ [] → news ≡ mid ++ h ∷ []
    → map gap_told news ≡ with_gap (map gap_told olds) (gap_told h)
gap_follows olds front mid news g h is off m new =
    ap (map gap_told) (new ∙ ap (λ (l : List Kept). l ++ h ∷ []) m ∙ append_assoc front (g ∷ []) (h ∷ [])) ∙ map-append gap_told front (g ∷ h ∷ [])
    ∙ sym (behind_last olds front g h is ∙ ap (λ (b : Bool). map gap_told front ++ (if b then both_gaps (gap_told g) (gap_told h) ∷ [] else gap_told g ∷ gap_told h ∷ [])) off)
