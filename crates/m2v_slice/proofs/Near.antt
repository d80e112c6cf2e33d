-- What a slice reads of its references is held.
use Rattle.std.proofs.Common.{◌≡◌, ℕ, zero, suc, ◌+◌, ◌*◌, ◌/◌, ◌<◌, ◌≤◌, ◌⊎◌, true, false, cond, List, [], ◌∷◌, ◌++◌, length, Option, Some, None, refl, sym, ap, subst, ◌∙◌, arith, inl, inr}
use Rattle.std.specs.Prelude.{nat_eq, IsTrue}
use Rattle.std.specs.List.{flat_map}
use Rattle.std.proofs.lemmas.Bool.{cases_eq, cond-true, cond-false, eq-eqb, ne_eqb}
use Rattle.std.proofs.lemmas.List.{length-append, get_or_append_left, get_or-append-add}
use Rattle.std.proofs.lemmas.Grind.{flat_map-append}
use Rattle.m2v_plane.specs.declared.planes.Plane.{Plane}
use Rattle.m2v_plane.specs.declared.planes.Plane.TheVariants.{Y, Cb, Cr}
use Rattle.m2v_plane.specs.declared.planes.Lines.{Lines}
use Rattle.m2v_plane.specs.declared.planes.Lines.TheVariants.{Whole, Top, Bottom}
use Rattle.m2v_plane.specs.Sizes.{side, frame_line, lines_of, part_of}
use Rattle.m2v_set.specs.declared.settings.Scan.{Scan}
use Rattle.m2v_set.specs.declared.settings.Scan.TheVariants.{Progressive, Frames, Fields}
use Rattle.m2v_set.specs.Numbers.{dims_of, rows_by, frame_rows_by}
use Rattle.m2v_set.proofs.Facts.{bounds}
use Rattle.m2v_pred.specs.declared.mode.MbPlace.{MbPlace}
use Rattle.m2v_pred.specs.Vectors.{IsPlace}
use Rattle.m2v_choose.specs.m2v_search.Near.{row_lines, is_field}
use Rattle.m2v_choose.specs.Trials.{IsReference, IsRead}
use Rattle.m2v_slice.specs.Books.{Book, rows, job_at, has_lines, anchors_before, nth, line_in, in_group, reference_picture, reference_pictures}
use Rattle.m2v_slice.specs.Conditions.{IsBook}
use Rattle.m2v_slice.specs.Windows.{references_of, needed, IsAmong, IsNear, HoldsOf, HoldsLine}
use Rattle.m2v_slice.specs.Needs.{needed_below}
use Rattle.m2v_slice.proofs.Groups.{HasStructure, picture_is_one, structure_low, row_within, passes_of}
use Rattle.m2v_slice.proofs.Existing.{reference_exists}

-- ---- pictures that are needed

among_left : (q : ℕ) (xs ys : List ℕ) → IsAmong q xs → IsAmong q (xs ++ ys)
among_left q xs ys h = record {
  place = h.place;
  below = omega (arith, h.below, length-append xs ys);
  there = get_or_append_left xs ys 0 h.place h.below ∙ h.there;
}

among_right : (q : ℕ) (xs ys : List ℕ) → IsAmong q ys → IsAmong q (xs ++ ys)
among_right q xs ys h = record {
  place = length xs + h.place;
  below = omega (arith, h.below, length-append xs ys);
  there = get_or-append-add xs ys h.place 0 ∙ h.there;
}

among_one : (q : ℕ) (o : Option ℕ) → o ≡ Some q → IsAmong q (in_group o)
among_one q o e = subst (λ (x : Option ℕ). IsAmong q (in_group x)) (sym e) (record { place = 0; below = omega arith; there = refl })

-- in a frame picture reference n stands in one picture, in a field picture in that of each parity
among_whole : (b : Book) (p n q : ℕ) → (job_at b p).structure ≡ 3 → reference_picture b p n Whole ≡ Some q → IsAmong q (flat_map in_group (references_of b p n))
among_whole b p n q is e =
    let t = cond-true (nat_eq (job_at b p).structure 3) (reference_picture b p n Whole ∷ []) (reference_picture b p n Top ∷ reference_picture b p n Bottom ∷ []) (eq-eqb (job_at b p).structure 3 is) in
    subst (λ (xs : List (Option ℕ)). IsAmong q (flat_map in_group xs)) (sym t)
    (among_left q (in_group (reference_picture b p n Whole)) [] (among_one q (reference_picture b p n Whole) e))

among_fields : (b : Book) (p n q : ℕ) (lines : Lines) → ((job_at b p).structure ≡ 3 → ⊥) → IsTrue (is_field lines) → reference_picture b p n lines ≡ Some q
    → IsAmong q (flat_map in_group (references_of b p n))
among_fields b p n q Whole other field e = absurd (let t : false ≡ true = field in cc)
among_fields b p n q Top other field e =
    let t = cond-false (nat_eq (job_at b p).structure 3) (reference_picture b p n Whole ∷ []) (reference_picture b p n Top ∷ reference_picture b p n Bottom ∷ []) (ne_eqb (job_at b p).structure 3 other) in
    subst (λ (xs : List (Option ℕ)). IsAmong q (flat_map in_group xs)) (sym t)
    (among_left q (in_group (reference_picture b p n Top)) (in_group (reference_picture b p n Bottom) ++ []) (among_one q (reference_picture b p n Top) e))
among_fields b p n q Bottom other field e =
    let t = cond-false (nat_eq (job_at b p).structure 3) (reference_picture b p n Whole ∷ []) (reference_picture b p n Top ∷ reference_picture b p n Bottom ∷ []) (ne_eqb (job_at b p).structure 3 other) in
    subst (λ (xs : List (Option ℕ)). IsAmong q (flat_map in_group xs)) (sym t)
    (among_right q (in_group (reference_picture b p n Top)) (in_group (reference_picture b p n Bottom) ++ [])
    (among_left q (in_group (reference_picture b p n Bottom)) [] (among_one q (reference_picture b p n Bottom) e)))

-- a number that the picture's type refers to
abbrev pub Refers : ℕ → ℕ → Type 0
Refers kind n = (n ≡ 0) ⊎ ((n ≡ 1) × (kind ≡ 3))

one_more : (b : Book) (p : ℕ) (xs ys : List (Option ℕ)) → flat_map in_group (xs ++ ys) ≡ flat_map in_group xs ++ flat_map in_group ys
one_more b p xs ys = flat_map-append in_group xs ys

among_numbers : (b : Book) (p n q : ℕ) → Refers (job_at b p).kind n → IsAmong q (flat_map in_group (references_of b p n))
    → IsAmong q (flat_map in_group (flat_map (references_of b p) (cond (nat_eq (job_at b p).kind 2) (0 ∷ []) (1 ∷ 0 ∷ []))))
among_numbers b p n q refers h = elim (cases_eq (job_at b p).kind 2) [
  | inl two ↦
      let t = cond-true {A = List ℕ} (nat_eq (job_at b p).kind 2) (0 ∷ []) (1 ∷ 0 ∷ []) (eq-eqb (job_at b p).kind 2 two) in
      let zero_is : n ≡ 0 = of_p n (job_at b p).kind refers two in
      subst (λ (ns : List ℕ). IsAmong q (flat_map in_group (flat_map (references_of b p) ns))) (sym t)
      (subst (IsAmong q) (sym (flat_map-append in_group (references_of b p 0) []))
      (among_left q (flat_map in_group (references_of b p 0)) [] (subst (λ (m : ℕ). IsAmong q (flat_map in_group (references_of b p m))) zero_is h)))
  | inr other ↦
      let t = cond-false {A = List ℕ} (nat_eq (job_at b p).kind 2) (0 ∷ []) (1 ∷ 0 ∷ []) (ne_eqb (job_at b p).kind 2 other) in
      subst (λ (ns : List ℕ). IsAmong q (flat_map in_group (flat_map (references_of b p) ns))) (sym t)
      (subst (IsAmong q) (sym (flat_map-append in_group (references_of b p 1) (references_of b p 0 ++ []) ∙ ap (λ (xs : List ℕ). flat_map in_group (references_of b p 1) ++ xs) (flat_map-append in_group (references_of b p 0) [])))
      (of_b n refers h))
]
  where
    of_p : (n kind : ℕ) → Refers kind n → kind ≡ 2 → n ≡ 0
    of_p n kind (inl e) two = e
    of_p n kind (inr e) two = absurd (omega (arith, e.1, two))

    of_b : (n : ℕ) → Refers (job_at b p).kind n → IsAmong q (flat_map in_group (references_of b p n))
        → IsAmong q (flat_map in_group (references_of b p 1) ++ (flat_map in_group (references_of b p 0) ++ []))
    of_b n (inl e) h = among_right q (flat_map in_group (references_of b p 1)) (flat_map in_group (references_of b p 0) ++ [])
        (among_left q (flat_map in_group (references_of b p 0)) [] (subst (λ (m : ℕ). IsAmong q (flat_map in_group (references_of b p m))) e h))
    of_b n (inr e) h = among_left q (flat_map in_group (references_of b p 1)) (flat_map in_group (references_of b p 0) ++ [])
        (subst (λ (m : ℕ). IsAmong q (flat_map in_group (references_of b p m))) e.0 h)

among_needed : (b : Book) (p n q : ℕ) → ((job_at b p).kind ≡ 1 → ⊥) → Refers (job_at b p).kind n → IsAmong q (flat_map in_group (references_of b p n)) → IsAmong q (needed b p)
unfolding reference_pictures
among_needed b p n q other refers h =
    let t = cond-false (nat_eq (job_at b p).kind 1) [] (flat_map (references_of b p) (cond (nat_eq (job_at b p).kind 2) (0 ∷ []) (1 ∷ 0 ∷ []))) (ne_eqb (job_at b p).kind 1 other) in
    subst (λ (xs : List (Option ℕ)). IsAmong q (flat_map in_group xs)) (sym t) (among_numbers b p n q refers h)

-- ---- frame pictures alone

all_frames : (scan : Scan) (n m : ℕ) → HasStructure scan n → n ≡ 3 → HasStructure scan m → m ≡ 3
all_frames Progressive n m s e t = t
all_frames Frames n m s e t = t
all_frames Fields n m (inl s) e t = absurd (omega (arith, s, e))
all_frames Fields n m (inr s) e t = absurd (omega (arith, s, e))

whole_lines : (structure : ℕ) (lines : Lines) → structure ≡ 3 → has_lines structure lines ≡ has_lines structure Whole
unfolding has_lines
whole_lines structure Whole e = refl
whole_lines structure Top e = rw e refl
whole_lines structure Bottom e = rw e refl

same_anchors : (b : Book) (lines : Lines) (p : ℕ) → ((k : ℕ) → k < p → (job_at b k).structure ≡ 3) → anchors_before b lines p ≡ anchors_before b Whole p
unfolding anchors_before
same_anchors b lines zero each = refl
same_anchors b lines (suc p) each =
    rw (whole_lines (job_at b p).structure lines (each p (omega arith)), same_anchors b lines p (λ k lt. each k (omega arith))) refl

same_picture : (b : Book) → IsBook b → (p n : ℕ) (lines : Lines) → p < length b.pictures → (job_at b p).structure ≡ 3
    → reference_picture b p n lines ≡ reference_picture b p n Whole
same_picture b h p n lines lt is =
    let own = (picture_is_one b h p lt).structure in
    ap (nth n) (same_anchors b lines p (λ k small. all_frames b.settings.scan (job_at b p).structure (job_at b k).structure own is (picture_is_one b h k (omega arith)).structure))

-- a picture that a slice reads is needed
pub is_needed : (b : Book) → IsBook b → (p n q : ℕ) (lines : Lines) → p < length b.pictures → ((job_at b p).kind ≡ 1 → ⊥) → Refers (job_at b p).kind n
    → IsReference (job_at b p).structure lines → reference_picture b p n lines ≡ Some q → IsAmong q (needed b p)
is_needed b h p n q lines lt other refers is e = elim (cases_eq (job_at b p).structure 3) [
  | inl frame ↦ among_needed b p n q other refers (among_whole b p n q frame (sym (same_picture b h p n lines lt frame) ∙ e))
  | inr field ↦ among_needed b p n q other refers (among_fields b p n q lines field (of_field (job_at b p).structure is field) e)
]
  where
    of_field : (structure : ℕ) → IsReference structure lines → (structure ≡ 3 → ⊥) → IsTrue (is_field lines)
    of_field structure (inl e) n = absurd (n e)
    of_field structure (inr f) n = f

-- ---- rows that are near

near_by : (b : Book) (r row : ℕ) → r < rows b → row < rows b → r ≤ row + 1 → row < r + 2 → IsNear b r row
near_by b r row small within low high = record { least = omega arith; most = omega arith }

-- the row of a line, of a frame's pictures
row_of_frame : (plane : Plane) (lines : Lines) (line r total : ℕ) → line < part_of lines (side plane * total)
    → row_lines 3 plane lines * r ≤ line + row_lines 3 plane lines → line < row_lines 3 plane lines * r + 2 * row_lines 3 plane lines
    → (frame_line lines line / side plane < total) × (r ≤ frame_line lines line / side plane + 1) × (frame_line lines line / side plane < r + 2)
row_of_frame Y Whole line r total lt low high = (omega arith, omega arith, omega arith)
row_of_frame Y Top line r total lt low high = (omega arith, omega arith, omega arith)
row_of_frame Y Bottom line r total lt low high = (omega arith, omega arith, omega arith)
row_of_frame Cb Whole line r total lt low high = (omega arith, omega arith, omega arith)
row_of_frame Cb Top line r total lt low high = (omega arith, omega arith, omega arith)
row_of_frame Cb Bottom line r total lt low high = (omega arith, omega arith, omega arith)
row_of_frame Cr Whole line r total lt low high = (omega arith, omega arith, omega arith)
row_of_frame Cr Top line r total lt low high = (omega arith, omega arith, omega arith)
row_of_frame Cr Bottom line r total lt low high = (omega arith, omega arith, omega arith)

-- and of a field's
field_rows : (structure : ℕ) (plane : Plane) (lines : Lines) → (structure ≡ 3 → ⊥) → IsTrue (is_field lines) → row_lines structure plane lines ≡ side plane
field_rows structure plane Whole other field = absurd (let t : false ≡ true = field in cc)
field_rows structure plane Top other field = cond-false (nat_eq structure 3) (side plane / 2) (side plane) (ne_eqb structure 3 other)
field_rows structure plane Bottom other field = cond-false (nat_eq structure 3) (side plane / 2) (side plane) (ne_eqb structure 3 other)

half : (lines : Lines) (n : ℕ) → IsTrue (is_field lines) → part_of lines (2 * n) ≡ n
half Whole n field = absurd (let t : false ≡ true = field in cc)
half Top n field = omega arith
half Bottom n field = omega arith

row_by : (plane : Plane) (line r total : ℕ) → line < side plane * total → side plane * r ≤ line + side plane → line < side plane * r + 2 * side plane
    → (line / side plane < total) × (r ≤ line / side plane + 1) × (line / side plane < r + 2)
row_by Y line r total lt low high = (omega arith, omega arith, omega arith)
row_by Cb line r total lt low high = (omega arith, omega arith, omega arith)
row_by Cr line r total lt low high = (omega arith, omega arith, omega arith)

row_of_field : (structure : ℕ) (plane : Plane) (lines : Lines) (line r total : ℕ) → (structure ≡ 3 → ⊥) → IsTrue (is_field lines) → line < part_of lines (side plane * (2 * total))
    → row_lines structure plane lines * r ≤ line + row_lines structure plane lines → line < row_lines structure plane lines * r + 2 * row_lines structure plane lines
    → (line / side plane < total) × (r ≤ line / side plane + 1) × (line / side plane < r + 2)
row_of_field structure plane lines line r total other field lt low high =
    let e = field_rows structure plane lines other field in
    let f : side plane * (2 * total) ≡ 2 * (side plane * total) = omega arith in
    let g = ap (part_of lines) f ∙ half lines (side plane * total) field in
    row_by plane line r total
    (subst (λ (n : ℕ). line < n) g lt)
    (subst (λ (n : ℕ). n * r ≤ line + n) e low)
    (subst (λ (n : ℕ). line < n * r + 2 * n) e high)

pub rows_frames : (scan : Scan) (height n : ℕ) → HasStructure scan n → n ≡ 3 → frame_rows_by scan height ≡ rows_by scan height
unfolding rows_by frame_rows_by
rows_frames Progressive height n s e = refl
rows_frames Frames height n s e = refl
rows_frames Fields height n (inl s) e = absurd (omega (arith, s, e))
rows_frames Fields height n (inr s) e = absurd (omega (arith, s, e))

pub rows_fields : (scan : Scan) (height n : ℕ) → HasStructure scan n → (n ≡ 3 → ⊥) → frame_rows_by scan height ≡ 2 * rows_by scan height
unfolding rows_by frame_rows_by
rows_fields Progressive height n s other = absurd (other s)
rows_fields Frames height n s other = absurd (other s)
rows_fields Fields height n s other = refl

other_fields : (scan : Scan) (n m : ℕ) → HasStructure scan n → (n ≡ 3 → ⊥) → HasStructure scan m → m ≡ 3 → ⊥
other_fields scan n m s other t e = other (all_frames scan m n t e s)

-- which line of a frame's, or of a field's picture it is
line_of_frame : (structure : ℕ) (lines : Lines) (line : ℕ) → structure ≡ 3 → line_in structure lines line ≡ frame_line lines line
line_of_frame structure lines line e = cond-true (nat_eq structure 3) (frame_line lines line) line (eq-eqb structure 3 e)

line_of_field : (structure : ℕ) (lines : Lines) (line : ℕ) → (structure ≡ 3 → ⊥) → line_in structure lines line ≡ line
line_of_field structure lines line n = cond-false (nat_eq structure 3) (frame_line lines line) line (ne_eqb structure 3 n)

rows_of : (b : Book) (plane : Plane) (lines : Lines) → lines_of (dims_of b.settings) plane lines ≡ part_of lines (side plane * frame_rows_by b.settings.scan b.settings.height)
unfolding dims_of
rows_of b plane lines = refl

pub is_near : (b : Book) → IsBook b → (p q r line : ℕ) (plane : Plane) (lines : Lines) → p < length b.pictures → q < p → r < rows b
    → IsReference (job_at b p).structure lines → line < lines_of (dims_of b.settings) plane lines
    → row_lines (job_at b p).structure plane lines * r ≤ line + row_lines (job_at b p).structure plane lines
    → line < row_lines (job_at b p).structure plane lines * r + 2 * row_lines (job_at b p).structure plane lines
    → IsNear b r (line_in (job_at b q).structure lines line / side plane)
is_near b h p q r line plane lines lt before small is within low high =
    let scan = b.settings.scan in
    let height = b.settings.height in
    let s = (job_at b p).structure in
    let own = (picture_is_one b h p lt).structure in
    let there = (picture_is_one b h q (omega arith)).structure in
    let inside : line < part_of lines (side plane * frame_rows_by scan height) = subst (λ (n : ℕ). line < n) (rows_of b plane lines) within in
    elim (cases_eq s 3) [
      | inl frame ↦
          let total = rows_frames scan height s own frame in
          let row = row_of_frame plane lines line r (rows b)
          (subst (λ (n : ℕ). line < part_of lines (side plane * n)) total inside)
          (subst (λ (n : ℕ). row_lines n plane lines * r ≤ line + row_lines n plane lines) frame low)
          (subst (λ (n : ℕ). line < row_lines n plane lines * r + 2 * row_lines n plane lines) frame high) in
          subst (λ (l : ℕ). IsNear b r (l / side plane)) (sym (line_of_frame (job_at b q).structure lines line (all_frames scan s (job_at b q).structure own frame there)))
          (near_by b r (frame_line lines line / side plane) small row.0 row.1 row.2)
      | inr field ↦
          let total = rows_fields scan height s own field in
          let row = row_of_field s plane lines line r (rows b) field (of_field s is field)
          (subst (λ (n : ℕ). line < part_of lines (side plane * n)) total inside) low high in
          subst (λ (l : ℕ). IsNear b r (l / side plane)) (sym (line_of_field (job_at b q).structure lines line (other_fields scan s (job_at b q).structure own field there)))
          (near_by b r (line / side plane) small row.0 row.1 row.2)
    ]
  where
    of_field : (structure : ℕ) → IsReference structure lines → (structure ≡ 3 → ⊥) → IsTrue (is_field lines)
    of_field structure (inl e) n = absurd (n e)
    of_field structure (inr f) n = f

-- ---- all that is read is held

holds_of : (b : Book) → IsBook b → (p n r line : ℕ) (plane : Plane) (lines : Lines) (o : Option ℕ) → p < length b.pictures → r < rows b → ((job_at b p).kind ≡ 1 → ⊥) → Refers (job_at b p).kind n
    → IsReference (job_at b p).structure lines → line < lines_of (dims_of b.settings) plane lines
    → row_lines (job_at b p).structure plane lines * r ≤ line + row_lines (job_at b p).structure plane lines
    → line < row_lines (job_at b p).structure plane lines * r + 2 * row_lines (job_at b p).structure plane lines
    → reference_picture b p n lines ≡ o → HoldsOf b p r o plane lines line
unfolding HoldsOf
holds_of b h p n r line plane lines None lt small other refers is within low high e = reference_exists b h p n lines lt other refers e
holds_of b h p n r line plane lines (Some q) lt small other refers is within low high e =
    let among = is_needed b h p n q lines lt other refers is e in
    let before : q < p = subst (λ (x : ℕ). x < p) among.there (needed_below b p among.place 0 among.below) in
    (among, is_near b h p q r line plane lines lt before small is within low high)

-- where a slice begins
abbrev pub slice_place : Book → ℕ → ℕ → MbPlace
slice_place b p r = record { row = r; column = 0; structure = (job_at b p).structure }

place_lies : (b : Book) → IsBook b → (p r : ℕ) → p < length b.pictures → r < rows b → IsPlace (slice_place b p r) (dims_of b.settings)
unfolding dims_of
place_lies b h p r lt small =
    let picture = picture_is_one b h p lt in
    let structure = structure_low b.settings.scan (job_at b p).structure picture.structure in
    record {
      least = structure.0;
      most = structure.1;
      row = row_within b.settings.scan b.settings.height (job_at b p).structure r picture.structure small;
      column = omega (arith, (bounds b.settings (passes_of b h)).size.wide);
    }

pub is_read : (b : Book) → IsBook b → (p n r : ℕ) → p < length b.pictures → r < rows b → ((job_at b p).kind ≡ 1 → ⊥) → Refers (job_at b p).kind n
    → IsRead (dims_of b.settings) (HoldsLine b p n r) (slice_place b p r)
is_read b h p n r lt small other refers = record {
  lies = place_lies b h p r lt small;
  near = λ lines is. record {
    rows = λ plane line within low high.
        (within, holds_of b h p n r line plane lines (reference_picture b p n lines) lt small other refers is within low high refl);
  };
}
