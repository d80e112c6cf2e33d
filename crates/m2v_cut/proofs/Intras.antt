-- A group's first frame, by the pieces that are looked at.
use Rattle.std.proofs.Common.{◌≡◌, ◌⊎◌, ℕ, zero, suc, ◌+◌, ◌<◌, ◌≤◌, Bool, true, false, List, [], ◌∷◌, ◌++◌, length, Option, Some, None, inl, inr, refl, sym, ap, subst, ◌∙◌, append_assoc, arith}
use Rattle.std.specs.Prelude.{nat_eq, nat_le, not, ◌&&◌, ◌||◌, if◌then◌else◌}
use Rattle.std.proofs.lemmas.Bool.{cases_Bool, eqb-true, or_parts}
use Rattle.std.proofs.lemmas.List.{append-nil}
use Rattle.m2v_model.specs.Units.{Units}
use Rattle.m2v_model.specs.Streams.{value_of}
use Rattle.m2v_model.specs.Pieces.{begins_piece, is_end}
use Rattle.m2v_model.proofs.ShiftLaws.{BeginsPiece}
use Rattle.m2v_law_group.specs.Groups.{is_picture, is_group, has_picture, group_headers, before_group, coded_pictures, next_unit, is_intra_of, is_intra, is_coding_extension, is_number, structure_of, begins_with, begins_intra}
use Rattle.m2v_cut.specs.Answers.{first_picture, has_intra, picture_structure, or_none}
use Rattle.m2v_cut.proofs.Shapes.{IsPictured, AreEnds, has_begin}
use Rattle.m2v_cut.proofs.Fulls.{none_begin}
use Rattle.m2v_cut.proofs.Places.{headers_one, headers_other, is_first, first_behind, first_none, first_coded, next_same}

-- ---- numbers

zero_suc : (n : ℕ) → nat_eq 0 (suc n) ≡ false
zero_suc n = elim (cases_Bool (nat_eq 0 (suc n))) [
  | inl on ↦ let e = eqb-true 0 (suc n) on in absurd (omega (arith, e))
  | inr off ↦ off
]

-- the first picture is of type I and of a structure, by the numbers that are looked at
pub first_numbers : (structure : ℕ) (p : Option (List ℕ × List ℕ)) → is_first (suc structure) p ≡ (has_intra p && nat_eq (picture_structure p) (suc structure))
first_numbers structure None = refl
first_numbers structure (Some p) = by_case (is_intra p.0) (is_coding_extension p.1) (structure_of p.1)
  where
    by_case : (a b : Bool) (n : Option ℕ) → (a && (b && is_number (suc structure) n)) ≡ (a && nat_eq (if b then or_none n else 0) (suc structure))
    by_case false b n = refl
    by_case true false n = sym (zero_suc structure)
    by_case true true None = sym (zero_suc structure)
    by_case true true (Some n) = refl

-- ---- the unit behind a picture

-- no extension begins a piece
no_extension : (value : ℕ) → begins_piece value ≡ true → nat_eq value 0xB5 ≡ false
unfolding begins_piece
no_extension value on = elim (cases_Bool (nat_eq value 0xB5)) [
  | inl here ↦ let e = eqb-true value 0xB5 here in let t : begins_piece 0xB5 ≡ true = subst (λ (v : ℕ). begins_piece v ≡ true) e on in absurd cc
  | inr off ↦ off
]

-- a piece's last unit, and whatever piece follows
pub next_piece_same : (structure : ℕ) (u : List ℕ) (ss rest : Units) → BeginsPiece rest → is_intra_of structure (u, next_unit (ss ++ rest)) ≡ is_intra_of structure (u, next_unit ss)
next_piece_same structure u (s ∷ ss) rest b = refl
next_piece_same structure u [] [] b = refl
next_piece_same structure u [] (r ∷ rest) b = rw (no_extension (value_of r) b) refl

-- ---- one piece

pub ends_none : (ends : Units) → AreEnds ends → first_picture ends ≡ None
unfolding first_picture is_end
ends_none [] e = refl
ends_none (u ∷ us) e =
    let v = eqb-true (value_of u) 0xB7 e.0 in
    rw (v, e.1) refl

pub some_or_none : (n : ℕ) → (n ≡ 0 → ⊥) → 0 < n
some_or_none zero f = absurd (f refl)
some_or_none (suc n) f = omega arith

-- the first picture behind headers: of a piece, and of the pieces from it on
pub first_same : (structure : ℕ) (heads tail rest ends : Units) → has_picture heads ≡ false → IsPictured tail → (tail ≡ [] → rest ≡ []) → ((tail ≡ [] → ⊥) → ends ≡ []) → AreEnds ends → BeginsPiece rest
    → is_first structure (first_picture (heads ++ (tail ++ rest))) ≡ is_first structure (first_picture (heads ++ (tail ++ ends)))
unfolding first_picture
first_same structure heads [] rest ends none p last apart e b =
    let r : rest ≡ [] = last refl in
    one heads rest ends r e none
  where
    one : (xs rest ends : Units) → rest ≡ [] → AreEnds ends → has_picture xs ≡ false → is_first structure (first_picture (xs ++ rest)) ≡ is_first structure (first_picture (xs ++ ends))
    one xs rest ends r e none = elim (cases_Bool (nat_eq (group_headers xs) 0)) [
      | inl few ↦
          let z = eqb-true (group_headers xs) 0 few in
          ap (is_first structure) (first_behind xs rest none z ∙ ap first_picture r ∙ sym (ends_none ends e) ∙ sym (first_behind xs ends none z))
      | inr some ↦
          let less : 0 < group_headers xs = some_or_none (group_headers xs) (λ z. let t : nat_eq (group_headers xs) 0 ≡ true = rw z refl in absurd cc) in
          ap (is_first structure) (first_none xs rest none less ∙ sym (first_none xs ends none less))
    ]
first_same structure heads (u ∷ ss) rest ends none p last apart e b =
    let z : ends ≡ [] = apart (λ x. absurd cc) in
    let off : is_group u ≡ false = no_group u p.0 in
    elim (cases_Bool (nat_eq (group_headers heads) 0)) [
      | inl few ↦
          let n = eqb-true (group_headers heads) 0 few in
          ap (is_first structure) (first_behind heads (u ∷ (ss ++ rest)) none n)
          ∙ rw (off, p.0) (next_piece_same structure u ss rest b ∙ sym (next_piece_same structure u ss ends (subst BeginsPiece (sym z) tt)))
          ∙ ap (is_first structure) (sym (first_behind heads (u ∷ (ss ++ ends)) none n))
      | inr some ↦
          let less : 0 < group_headers heads = some_or_none (group_headers heads) (λ n. let t : nat_eq (group_headers heads) 0 ≡ true = rw n refl in absurd cc) in
          ap (is_first structure) (first_none heads (u ∷ (ss ++ rest)) none less ∙ sym (first_none heads (u ∷ (ss ++ ends)) none less))
    ]
  where
    no_group : (u : List ℕ) → is_picture u ≡ true → is_group u ≡ false
    no_group u on = let e = eqb-true (value_of u) 0x00 on in rw e refl

-- ---- the first frame

-- without a picture before the next group header
pub intra_none : (us : Units) → first_picture us ≡ None → begins_intra (coded_pictures (before_group 0 us)) ≡ false
unfolding before_group coded_pictures first_picture begins_intra
intra_none [] e = refl
intra_none (u ∷ us) e = elim (cases_Bool (is_group u)) [
  | inl on ↦ rw on refl
  | inr off ↦ elim (cases_Bool (is_picture u)) [
    | inl picture ↦
        let h : first_picture (u ∷ us) ≡ Some (u, next_unit us) = rw (off, picture) refl in
        let x : Some (u, next_unit us) ≡ None = sym h ∙ e in
        absurd cc
    | inr other ↦
        let h : first_picture (u ∷ us) ≡ first_picture us = rw (off, other) refl in
        rw (off, other) (intra_none us (sym h ∙ e))
  ]
]

no_group : (u : List ℕ) → is_picture u ≡ true → is_group u ≡ false
no_group u on = let e = eqb-true (value_of u) 0x00 on in rw e refl

-- behind headers without a group header a picture, and then others
pub intra_some : (heads : Units) (u : List ℕ) (us : Units) → has_picture heads ≡ false → group_headers heads ≡ 0 → is_picture u ≡ true
    → begins_intra (coded_pictures (before_group 0 (heads ++ u ∷ us)))
    ≡ (is_intra_of 3 (u, next_unit us) || (is_intra_of 1 (u, next_unit us) && is_first 2 (first_picture us) || is_intra_of 2 (u, next_unit us) && is_first 1 (first_picture us)))
unfolding before_group coded_pictures begins_intra has_picture
intra_some [] u us none few on =
    rw (no_group u on, on) (λ i. next_same 3 u us i || (next_same 1 u us i && first_coded 2 us i || next_same 2 u us i && first_coded 1 us i))
intra_some (h ∷ heads) u us none few on =
    let p = or_parts (is_picture h) (has_picture heads) none in
    elim (cases_Bool (is_group h)) [
      | inl group ↦ absurd (omega (arith, headers_one h heads group, few))
      | inr off ↦ rw (off, p.0) (intra_some heads u us p.1 (sym (headers_other h heads off) ∙ few) on)
    ]

-- the first frame, by its first picture and by that of the pieces behind
abbrev pub frame_of : (ℕ → Bool) → (ℕ → Bool) → Bool
frame_of one next = one 3 || (one 1 && next 2 || one 2 && next 1)

frame_none : (next : ℕ → Bool) (one : ℕ → Bool) → ((s : ℕ) → one s ≡ false) → false ≡ frame_of one next
frame_none next one off = λ i. sym (off 3) i || ((sym (off 1) i) && next 2 || (sym (off 2) i) && next 1)

-- of a piece's units from behind a group header on, and the pieces behind
pub intra_is : (heads tail z : Units) → has_picture heads ≡ false → IsPictured tail → (tail ≡ [] → z ≡ [])
    → begins_intra (coded_pictures (before_group 0 (heads ++ (tail ++ z)))) ≡ frame_of (λ s. is_first s (first_picture (heads ++ (tail ++ z)))) (λ s. is_first s (first_picture z))
unfolding first_picture
intra_is heads [] z none p last =
    let e : z ≡ [] = last refl in
    let off : first_picture (heads ++ z) ≡ None = ap (λ (l : Units). first_picture (heads ++ l)) e ∙ headers_none heads none in
    intra_none (heads ++ z) off ∙ frame_none (λ s. is_first s (first_picture z)) (λ s. is_first s (first_picture (heads ++ z))) (λ s. ap (is_first s) off)
  where
    headers_none : (xs : Units) → has_picture xs ≡ false → first_picture (xs ++ []) ≡ None
    headers_none xs none = elim (cases_Bool (nat_eq (group_headers xs) 0)) [
      | inl few ↦ first_behind xs [] none (eqb-true (group_headers xs) 0 few)
      | inr some ↦ first_none xs [] none (some_or_none (group_headers xs) (λ n. let t : nat_eq (group_headers xs) 0 ≡ true = rw n refl in absurd cc))
    ]
intra_is heads (u ∷ ss) z none p last = elim (cases_Bool (nat_eq (group_headers heads) 0)) [
  | inl few ↦
      let n = eqb-true (group_headers heads) 0 few in
      let here : first_picture (heads ++ u ∷ (ss ++ z)) ≡ Some (u, next_unit (ss ++ z)) = first_behind heads (u ∷ (ss ++ z)) none n ∙ rw (no_group u p.0, p.0) refl in
      let q = none_begin ss p.1 in
      let later : first_picture (ss ++ z) ≡ first_picture z = first_behind ss z q.0 q.1.1 in
      intra_some heads u (ss ++ z) none n p.0
      ∙ (λ i. frame_of (λ s. is_first s (sym here i)) (λ s. is_first s (later i)))
  | inr some ↦
      let less : 0 < group_headers heads = some_or_none (group_headers heads) (λ n. let t : nat_eq (group_headers heads) 0 ≡ true = rw n refl in absurd cc) in
      let off : first_picture (heads ++ u ∷ (ss ++ z)) ≡ None = first_none heads (u ∷ (ss ++ z)) none less in
      intra_none (heads ++ u ∷ (ss ++ z)) off ∙ frame_none (λ s. is_first s (first_picture z)) (λ s. is_first s (first_picture (heads ++ u ∷ (ss ++ z)))) (λ s. ap (is_first s) off)
]

-- ---- by the numbers that are looked at

-- where no second piece was read: the picture is no field, or nothing stands behind
pub frame_alone : (intra : Bool) (structure : ℕ) (next : ℕ → Bool) → (((nat_eq structure 1 || nat_eq structure 2) ≡ false) ⊎ ((s : ℕ) → next s ≡ false))
    → frame_of (λ s. intra && nat_eq structure s) next ≡ (intra && nat_eq structure 3)
frame_alone intra structure next (inl off) =
    let p = or_parts (nat_eq structure 1) (nat_eq structure 2) off in
    (λ i. (intra && nat_eq structure 3) || ((intra && p.0 i) && next 2 || (intra && p.1 i) && next 1)) ∙ by_case intra (nat_eq structure 3) (next 1) (next 2)
  where
    by_case : (a b c d : Bool) → ((a && b) || ((a && false) && d || (a && false) && c)) ≡ (a && b)
    by_case true true c d = refl
    by_case true false c d = refl
    by_case false b c d = refl
frame_alone intra structure next (inr none) =
    (λ i. (intra && nat_eq structure 3) || ((intra && nat_eq structure 1) && none 2 i || (intra && nat_eq structure 2) && none 1 i)) ∙ by_case intra (nat_eq structure 3) (nat_eq structure 1) (nat_eq structure 2)
  where
    by_case : (a b c d : Bool) → ((a && b) || ((a && c) && false || (a && d) && false)) ≡ (a && b)
    by_case true true c d = refl
    by_case true false true true = refl
    by_case true false true false = refl
    by_case true false false true = refl
    by_case true false false false = refl
    by_case false b c d = refl

-- behind a field the other one
pub frame_second : (intra : Bool) (structure : ℕ) (intra2 : Bool) (structure2 : ℕ) → (nat_eq structure 1 || nat_eq structure 2) ≡ true
    → frame_of (λ s. intra && nat_eq structure s) (λ s. intra2 && nat_eq structure2 s) ≡ (intra && (intra2 && ((nat_eq structure2 1 || nat_eq structure2 2) && not (nat_eq structure2 structure))))
frame_second intra structure intra2 structure2 field = elim (cases_Bool (nat_eq structure 1)) [
  | inl one ↦
      let e = eqb-true structure 1 one in
      subst (λ (s : ℕ). frame_of (λ k. intra && nat_eq s k) (λ k. intra2 && nat_eq structure2 k) ≡ (intra && (intra2 && ((nat_eq structure2 1 || nat_eq structure2 2) && not (nat_eq structure2 s))))) (sym e)
      (first intra intra2 (nat_eq structure2 1) (nat_eq structure2 2) (apart structure2))
  | inr off ↦
      let e = eqb-true structure 2 (second (nat_eq structure 1) (nat_eq structure 2) off field) in
      subst (λ (s : ℕ). frame_of (λ k. intra && nat_eq s k) (λ k. intra2 && nat_eq structure2 k) ≡ (intra && (intra2 && ((nat_eq structure2 1 || nat_eq structure2 2) && not (nat_eq structure2 s))))) (sym e)
      (other intra intra2 (nat_eq structure2 1) (nat_eq structure2 2) (apart structure2))
]
  where
    second : (a b : Bool) → a ≡ false → (a || b) ≡ true → b ≡ true
    second true b off on = absurd cc
    second false b off on = on

    apart : (n : ℕ) → nat_eq n 1 ≡ true → nat_eq n 2 ≡ false
    apart n on = ap (λ (x : ℕ). nat_eq x 2) (eqb-true n 1 on)

    first : (a b c d : Bool) → (c ≡ true → d ≡ false) → ((a && false) || ((a && true) && (b && d) || (a && false) && (b && c))) ≡ (a && (b && ((c || d) && not c)))
    first true true true true x = x refl
    first true true false true x = refl
    first _ _ _ _ x = refl

    other : (a b c d : Bool) → (c ≡ true → d ≡ false) → ((a && false) || ((a && false) && (b && d) || (a && true) && (b && c))) ≡ (a && (b && ((c || d) && not d)))
    other true true true true x = x refl
    other true true false true x = refl
    other _ _ _ _ x = refl
