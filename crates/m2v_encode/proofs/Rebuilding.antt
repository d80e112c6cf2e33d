-- A frame made of the rows of its pictures is the frame that a decoder rebuilds.
use Rattle.std.proofs.Common.{◌≡◌, ℕ, zero, suc, ◌+◌, ◌*◌, ◌/◌, ◌%◌, ◌<◌, ◌≤◌, ◌⊎◌, inl, inr, Bool, true, false, cond, List, length, replicate, get_or, Option, Some, None, refl, sym, ap, subst, ◌∙◌, arith, eq-eqb}
use Rattle.std.specs.Prelude.{nat_eq, nat_lt, ◌&&◌}
use Rattle.std.proofs.lemmas.Bool.{cond-true, cond-false, cases_Bool, cases_eq, cases_lt, lt-ltb, le-ltb, ne_eqb, eqb-true}
use Rattle.std.proofs.lemmas.List.{length-replicate}
use Rattle.m2v_plane.specs.declared.dims.Dims.{Dims}
use Rattle.m2v_plane.specs.declared.planes.Plane.{Plane}
use Rattle.m2v_plane.specs.declared.planes.Plane.TheVariants.{Y, Cb, Cr}
use Rattle.m2v_plane.specs.declared.planes.Lines.{Lines}
use Rattle.m2v_plane.specs.declared.planes.Lines.TheVariants.{Top, Bottom}
use Rattle.m2v_plane.specs.Sizes.{side, columns_of}
use Rattle.m2v_plane.specs.Samples.{Samples, plane_by, sample_of, blank, is_among, number_among, with_row, plane_with_row}
use Rattle.m2v_plane.proofs.Places.{plane_is}
use Rattle.m2v_plane.proofs.RawVideo.{plane_at}
use Rattle.m2v_set.specs.declared.settings.Scan.{Scan}
use Rattle.m2v_set.specs.declared.settings.Scan.TheVariants.{Progressive, Frames, Fields}
use Rattle.m2v_set.specs.Numbers.{dims_of, rows_by, frame_rows_by}
use Rattle.m2v_pred.specs.Motion.{own_lines}
use Rattle.m2v_slice.specs.Books.{Book, rows, job_at, slice_at, has_lines, line_in, picture_sample}
use Rattle.m2v_slice.specs.Conditions.{IsBook}
use Rattle.m2v_slice.proofs.Coded.{count}
use Rattle.m2v_slice.proofs.Groups.{HasStructure, picture_is_one}
use Rattle.m2v_slice.proofs.Fitting.{slice_size}
use Rattle.m2v_law_shown.specs.m2v_enc_stream.Streams.{frame_by, picture_with, frame_of}
use Rattle.m2v_encode.specs.Groups.{all_coded}
use Rattle.m2v_encode.specs.Rebuilt.{rows_in, with_rows, rebuilt_by}
use Rattle.m2v_encode.proofs.Covering.{covered}
use Rattle.m2v_law_shown.proofs.Reading.{plane_same}
use Rattle.m2v_law_shown.proofs.Frames.{even_line, odd_line}
use Rattle.m2v_law_shown.proofs.Only.{lines_by}

-- ---- frames by their samples

planes_same : (d : Dims) (a x b y c z : List ℕ) → a ≡ x → b ≡ y → c ≡ z
    → (let s : Samples = record { dims = d; luma = a; cb = b; cr = c } in let t : Samples = record { dims = d; luma = x; cb = y; cr = z } in s ≡ t)
planes_same d a x b y c z e f g = rw (e, f, g) refl

-- a sample of a plane by line and column
abbrev View : Type 0
View = Plane → ℕ → ℕ → ℕ

pub frame_same : (d : Dims) (f g : View) → ((plane : Plane) (r c : ℕ) → r < side plane * d.mb_rows → c < side plane * d.mb_width → f plane r c ≡ g plane r c) → frame_by d f ≡ frame_by d g
frame_same d f g each =
    planes_same d _ _ _ _ _ _
    (plane_same (16 * d.mb_rows) (16 * d.mb_width) (f Y) (g Y) (each Y))
    (plane_same (8 * d.mb_rows) (8 * d.mb_width) (f Cb) (g Cb) (each Cb))
    (plane_same (8 * d.mb_rows) (8 * d.mb_width) (f Cr) (g Cr) (each Cr))

by_test : (t : Bool) (a b x y : ℕ) → a ≡ b → x ≡ y → cond t a x ≡ cond t b y
by_test true a b x y e f = e
by_test false a b x y e f = f

blank_plane : (lines columns : ℕ) → replicate {A = ℕ} (lines * columns) 0 ≡ plane_by lines columns (λ r c. 0)
blank_plane lines columns =
    plane_is (replicate {A = ℕ} (lines * columns) 0) lines columns (λ r c. 0) (length-replicate {A = ℕ} (lines * columns) 0) (λ r c lt small. default_zero (lines * columns) (r * columns + c))
  where
    default_zero : (n i : ℕ) → get_or (replicate {A = ℕ} n 0) i 0 ≡ 0
    default_zero zero i = refl
    default_zero (suc n) zero = refl
    default_zero (suc n) (suc i) = default_zero n i

blank_is : (d : Dims) → blank d d.mb_rows ≡ frame_by d (λ plane r c. 0)
blank_is d =
    planes_same d _ _ _ _ _ _ (blank_plane (16 * d.mb_rows) (16 * d.mb_width)) (blank_plane (8 * d.mb_rows) (8 * d.mb_width)) (blank_plane (8 * d.mb_rows) (8 * d.mb_width))

-- ---- rows of one picture

abbrev row_sample : Lines → Samples → View
row_sample which row plane line column = sample_of row plane (number_among which line % side plane) column

plane_row : (lines columns height row : ℕ) (which : Lines) (f g : ℕ → ℕ → ℕ) (new : List ℕ)
    → ((r c : ℕ) → get_or new (number_among which r % height * columns + c) 0 ≡ g r c)
    → plane_with_row lines columns height which row (plane_by lines columns f) new
    ≡ plane_by lines columns (λ r c. cond (is_among which r && nat_eq (number_among which r / height) row) (g r c) (f r c))
unfolding plane_with_row
plane_row lines columns height row which f g new each =
    plane_same lines columns _ _
    (λ r c lt small. by_test (is_among which r && nat_eq (number_among which r / height) row) _ _ _ _ (each r c) (plane_at lines columns f r c lt small))

with_row_is : (d : Dims) (f : View) (which : Lines) (n : ℕ) (row : Samples) → row.dims ≡ d
    → with_row (frame_by d f) which n row
    ≡ frame_by d (λ plane r c. cond (is_among which r && nat_eq (number_among which r / side plane) n) (row_sample which row plane r c) (f plane r c))
with_row_is d f which n row size =
    let wide : (plane : Plane) → columns_of row.dims plane ≡ columns_of d plane = λ plane. ap (λ (x : Dims). columns_of x plane) size in
    planes_same d _ _ _ _ _ _
    (plane_row (16 * d.mb_rows) (16 * d.mb_width) 16 n which (f Y) (row_sample which row Y) row.luma (λ r c. ap (λ (w : ℕ). get_or row.luma (number_among which r % 16 * w + c) 0) (sym (wide Y))))
    (plane_row (8 * d.mb_rows) (8 * d.mb_width) 8 n which (f Cb) (row_sample which row Cb) row.cb (λ r c. ap (λ (w : ℕ). get_or row.cb (number_among which r % 8 * w + c) 0) (sym (wide Cb))))
    (plane_row (8 * d.mb_rows) (8 * d.mb_width) 8 n which (f Cr) (row_sample which row Cr) row.cr (λ r c. ap (λ (w : ℕ). get_or row.cr (number_among which r % 8 * w + c) 0) (sym (wide Cr))))

-- the lines of a picture's own, with the sample that it has there
abbrev own : Book → ℕ → Lines
own b p = own_lines (job_at b p).structure

abbrev of_rows : Book → ℕ → View
of_rows b p plane line column =
    sample_of (slice_at (all_coded b) p (number_among (own b p) line / side plane)).row plane (number_among (own b p) line % side plane) column

-- the first n rows in place
abbrev upto : Book → ℕ → ℕ → View → View
upto b p n f plane line column =
    cond (is_among (own b p) line && nat_lt (number_among (own b p) line / side plane) n) (of_rows b p plane line column) (f plane line column)

by_place : (a : Bool) (q n : ℕ) (x : ℕ → ℕ) (y : ℕ) → cond (a && nat_eq q n) (x n) (cond (a && nat_lt q n) (x q) y) ≡ cond (a && nat_lt q (suc n)) (x q) y
by_place false q n x y = refl
by_place true q n x y = elim (cases_eq q n) [
  | inl e ↦ cond-true (nat_eq q n) _ _ (eq-eqb q n e) ∙ ap x (sym e) ∙ sym (cond-true (nat_lt q (suc n)) _ _ (lt-ltb q (suc n) (omega (arith, e))))
  | inr other ↦ cond-false (nat_eq q n) _ _ (ne_eqb q n other) ∙ elim (cases_lt q n) [
    | inl lt ↦ cond-true (nat_lt q n) _ _ (lt-ltb q n lt) ∙ sym (cond-true (nat_lt q (suc n)) _ _ (lt-ltb q (suc n) (omega (arith, lt))))
    | inr le ↦
        let past : suc n ≤ q = above q n le other in
        cond-false (nat_lt q n) _ _ (le-ltb q n le) ∙ sym (cond-false (nat_lt q (suc n)) _ _ (le-ltb q (suc n) past))
  ]
]
  where
    above : (q n : ℕ) → n ≤ q → (q ≡ n → ⊥) → suc n ≤ q
    above q n le other = elim (cases_lt n q) [
      | inl lt ↦ omega (arith, lt)
      | inr back ↦ absurd (other (omega (arith, le, back)))
    ]

none_yet : (a : Bool) (q x y : ℕ) → cond (a && nat_lt q 0) x y ≡ y
none_yet false q x y = refl
none_yet true q x y = cond-false (nat_lt q 0) _ _ (le-ltb q 0 (omega arith))

rows_upto : (b : Book) → IsBook b → (p : ℕ) (f : View) (n : ℕ) → p < length b.pictures → n ≤ rows b
    → rows_in b p n (frame_by (dims_of b.settings) f) ≡ frame_by (dims_of b.settings) (upto b p n f)
unfolding rows_in
rows_upto b h p f zero lt le =
    frame_same (dims_of b.settings) f (upto b p zero f)
    (λ plane r c small less. sym (none_yet (is_among (own b p) r) (number_among (own b p) r / side plane) (of_rows b p plane r c) (f plane r c)))
rows_upto b h p f (suc n) lt le =
    let d = dims_of b.settings in
    let row = (slice_at (all_coded b) p n).row in
    ap (λ (x : Samples). with_row x (own b p) n row) (rows_upto b h p f n lt (omega (arith, le)))
    ∙ with_row_is d (upto b p n f) (own b p) n row (slice_size b h (length b.pictures) p n lt lt (omega (arith, le)))
    ∙ frame_same d _ (upto b p (suc n) f)
    (λ plane r c small less.
    by_place (is_among (own b p) r) (number_among (own b p) r / side plane) n
    (λ i. sample_of (slice_at (all_coded b) p i).row plane (number_among (own b p) r % side plane) c) (f plane r c))

-- all of a picture's lines are in its rows
side_some : (plane : Plane) (q n : ℕ) → q < side plane * n → q / side plane < n
side_some Y q n lt = omega (arith, lt)
side_some Cb q n lt = omega (arith, lt)
side_some Cr q n lt = omega (arith, lt)

half_some : (plane : Plane) (q n : ℕ) → q < side plane * (2 * n) → q / 2 / side plane < n
half_some Y q n lt = omega (arith, lt)
half_some Cb q n lt = omega (arith, lt)
half_some Cr q n lt = omega (arith, lt)

whole_rows : (structure n m : ℕ) (plane : Plane) (r : ℕ) → structure ≡ 3 → m ≡ n → r < side plane * m → number_among (own_lines structure) r / side plane < n
whole_rows structure n m plane r e same lt = rw e (side_some plane r n (subst (λ (x : ℕ). r < side plane * x) same lt))

half_rows : (structure n : ℕ) (plane : Plane) (r : ℕ) → (structure ≡ 1) ⊎ (structure ≡ 2) → r < side plane * (2 * n) → number_among (own_lines structure) r / side plane < n
half_rows structure n plane r (inl e) lt = rw e (half_some plane r n lt)
half_rows structure n plane r (inr e) lt = rw e (half_some plane r n lt)

in_rows : (scan : Scan) (height structure : ℕ) (plane : Plane) (r : ℕ) → HasStructure scan structure → r < side plane * frame_rows_by scan height
    → number_among (own_lines structure) r / side plane < rows_by scan height
unfolding rows_by frame_rows_by
in_rows Progressive height structure plane r is lt = whole_rows structure ((height + 15) / 16) ((height + 15) / 16) plane r is refl lt
in_rows Frames height structure plane r is lt = whole_rows structure (2 * ((height + 31) / 32)) (2 * ((height + 31) / 32)) plane r is refl lt
in_rows Fields height structure plane r is lt = half_rows structure ((height + 31) / 32) plane r is lt

-- a frame with all rows of a picture
abbrev with_picture : Book → ℕ → View → View
with_picture b p f plane line column = cond (is_among (own b p) line) (of_rows b p plane line column) (f plane line column)

all_there : (a t : Bool) (x y : ℕ) → t ≡ true → cond (a && t) x y ≡ cond a x y
all_there true t x y e = cond-true t x y e
all_there false t x y e = refl

rows_all : (b : Book) → IsBook b → (p : ℕ) (f : View) → p < length b.pictures
    → with_rows b p (frame_by (dims_of b.settings) f) ≡ frame_by (dims_of b.settings) (with_picture b p f)
unfolding dims_of
rows_all b h p f lt =
    rows_upto b h p f (rows b) lt (omega arith)
    ∙ frame_same (dims_of b.settings) (upto b p (rows b) f) (with_picture b p f)
    (λ plane r c small less.
    all_there (is_among (own b p) r) (nat_lt (number_among (own b p) r / side plane) (rows b)) _ _
    (lt-ltb (number_among (own b p) r / side plane) (rows b)
    (in_rows b.settings.scan b.settings.height (job_at b p).structure plane r (picture_is_one b h p lt).structure small)))

-- ---- picture by picture

-- a sample of a picture, if there is one
abbrev sample_from : Book → Option ℕ → Plane → Lines → ℕ → ℕ → ℕ
sample_from b None plane lines line column = 0
sample_from b (Some p) plane lines line column = picture_sample b (all_coded b) (Some p) plane lines line column

abbrev so_far : Book → ℕ → ℕ → View
so_far b k n plane line column =
    cond (nat_eq (line % 2) 0)
    (sample_from b (picture_with b k Top n) plane Top (line / 2) column)
    (sample_from b (picture_with b k Bottom n) plane Bottom (line / 2) column)

zero_both : (t : Bool) → ◌≡◌ {A = ℕ} (cond t 0 0) 0
zero_both true = refl
zero_both false = refl

-- the picture's own sample of a line
own_sample : (b : Book) (p : ℕ) (plane : Plane) (lines : Lines) (l line column : ℕ) → line_in (job_at b p).structure lines l ≡ number_among (own b p) line
    → of_rows b p plane line column ≡ sample_from b (Some p) plane lines l column
unfolding picture_sample
own_sample b p plane lines l line column e = ap (λ (q : ℕ). sample_of (slice_at (all_coded b) p (q / side plane)).row plane (q % side plane) column) (sym e)

with_next : (b : Book) (k : ℕ) (lines : Lines) (n : ℕ) (t : Bool) → nat_eq (job_at b n).frame k ≡ true → has_lines (job_at b n).structure lines ≡ t
    → picture_with b k lines (suc n) ≡ cond t (Some n) (picture_with b k lines n)
unfolding picture_with
with_next b k lines n t frame has =
    ap (λ (x : Bool). cond (x && has_lines (job_at b n).structure lines) (Some n) (picture_with b k lines n)) frame
    ∙ ap (λ (x : Bool). cond x (Some n) (picture_with b k lines n)) has

-- a line that the picture has
hit : (b : Book) (k n : ℕ) (plane : Plane) (lines : Lines) (line column : ℕ) (f : View) → nat_eq (job_at b n).frame k ≡ true
    → has_lines (job_at b n).structure lines ≡ true → is_among (own b n) line ≡ true → line_in (job_at b n).structure lines (line / 2) ≡ number_among (own b n) line
    → with_picture b n f plane line column ≡ sample_from b (picture_with b k lines (suc n)) plane lines (line / 2) column
hit b k n plane lines line column f frame has among place =
    cond-true (is_among (own b n) line) _ _ among
    ∙ own_sample b n plane lines (line / 2) line column place
    ∙ ap (λ (o : Option ℕ). sample_from b o plane lines (line / 2) column) (sym (with_next b k lines n true frame has))

-- a line that it doesn't have
miss : (b : Book) (k n : ℕ) (plane : Plane) (lines : Lines) (line column : ℕ) (f : View) → nat_eq (job_at b n).frame k ≡ true
    → has_lines (job_at b n).structure lines ≡ false → is_among (own b n) line ≡ false
    → f plane line column ≡ sample_from b (picture_with b k lines n) plane lines (line / 2) column
    → with_picture b n f plane line column ≡ sample_from b (picture_with b k lines (suc n)) plane lines (line / 2) column
miss b k n plane lines line column f frame has among before =
    cond-false (is_among (own b n) line) _ _ among
    ∙ before
    ∙ ap (λ (o : Option ℕ). sample_from b o plane lines (line / 2) column) (sym (with_next b k lines n false frame has))

abbrev even : ℕ → Bool
even line = nat_eq (line % 2) 0

-- a line by its parity
by_parity : (b : Book) (k n : ℕ) (plane : Plane) (line column : ℕ) (top : Bool) → even line ≡ top
    → so_far b k n plane line column ≡ sample_from b (picture_with b k (lines_by top) n) plane (lines_by top) (line / 2) column
by_parity b k n plane line column true e = cond-true (even line) _ _ e
by_parity b k n plane line column false e = cond-false (even line) _ _ e

odd_among : (line : ℕ) → even line ≡ false → nat_eq (line % 2) 1 ≡ true
odd_among line e = eq-eqb (line % 2) 1 (odd_line line e).1

even_among : (line : ℕ) → even line ≡ true → nat_eq (line % 2) 1 ≡ false
even_among line e = ne_eqb (line % 2) 1 (λ f. let g = eqb-true (line % 2) 0 e in omega (arith, f, g))

-- of a picture of this structure, which has the line
has_line : (b : Book) (k n : ℕ) (plane : Plane) (line column s : ℕ) (top : Bool) → nat_eq (job_at b n).frame k ≡ true → (job_at b n).structure ≡ s → even line ≡ top
    → has_lines s (lines_by top) ≡ true → is_among (own_lines s) line ≡ true → line_in s (lines_by top) (line / 2) ≡ number_among (own_lines s) line
    → with_picture b n (so_far b k n) plane line column ≡ so_far b k (suc n) plane line column
has_line b k n plane line column s top frame e parity has among place =
    hit b k n plane (lines_by top) line column (so_far b k n) frame (ap (λ (x : ℕ). has_lines x (lines_by top)) e ∙ has) (ap (λ (x : ℕ). is_among (own_lines x) line) e ∙ among)
    (ap (λ (x : ℕ). line_in x (lines_by top) (line / 2)) e ∙ place ∙ sym (ap (λ (x : ℕ). number_among (own_lines x) line) e))
    ∙ sym (by_parity b k (suc n) plane line column top parity)

-- which doesn't have it
lacks_line : (b : Book) (k n : ℕ) (plane : Plane) (line column s : ℕ) (top : Bool) → nat_eq (job_at b n).frame k ≡ true → (job_at b n).structure ≡ s → even line ≡ top
    → has_lines s (lines_by top) ≡ false → is_among (own_lines s) line ≡ false
    → with_picture b n (so_far b k n) plane line column ≡ so_far b k (suc n) plane line column
lacks_line b k n plane line column s top frame e parity has among =
    miss b k n plane (lines_by top) line column (so_far b k n) frame (ap (λ (x : ℕ). has_lines x (lines_by top)) e ∙ has) (ap (λ (x : ℕ). is_among (own_lines x) line) e ∙ among)
    (by_parity b k n plane line column top parity)
    ∙ sym (by_parity b k (suc n) plane line column top parity)

-- a frame picture
of_frame : (b : Book) (k n : ℕ) (plane : Plane) (line column : ℕ) → nat_eq (job_at b n).frame k ≡ true → (job_at b n).structure ≡ 3
    → with_picture b n (so_far b k n) plane line column ≡ so_far b k (suc n) plane line column
unfolding has_lines
of_frame b k n plane line column frame e = elim (cases_Bool (even line)) [
  | inl yes_even ↦ has_line b k n plane line column 3 true frame e yes_even refl refl (even_line line yes_even)
  | inr not_even ↦ has_line b k n plane line column 3 false frame e not_even refl refl (odd_line line not_even).0
]

-- a top field
of_top : (b : Book) (k n : ℕ) (plane : Plane) (line column : ℕ) → nat_eq (job_at b n).frame k ≡ true → (job_at b n).structure ≡ 1
    → with_picture b n (so_far b k n) plane line column ≡ so_far b k (suc n) plane line column
unfolding has_lines
of_top b k n plane line column frame e = elim (cases_Bool (even line)) [
  | inl yes_even ↦ has_line b k n plane line column 1 true frame e yes_even refl yes_even refl
  | inr not_even ↦ lacks_line b k n plane line column 1 false frame e not_even refl not_even
]

-- a bottom field
of_bottom : (b : Book) (k n : ℕ) (plane : Plane) (line column : ℕ) → nat_eq (job_at b n).frame k ≡ true → (job_at b n).structure ≡ 2
    → with_picture b n (so_far b k n) plane line column ≡ so_far b k (suc n) plane line column
unfolding has_lines
of_bottom b k n plane line column frame e = elim (cases_Bool (even line)) [
  | inl yes_even ↦ lacks_line b k n plane line column 2 true frame e yes_even refl (even_among line yes_even)
  | inr not_even ↦ has_line b k n plane line column 2 false frame e not_even refl (odd_among line not_even) refl
]

by_structure : (scan : Scan) (n : ℕ) → HasStructure scan n → (n ≡ 3) ⊎ ((n ≡ 1) ⊎ (n ≡ 2))
by_structure Progressive n e = inl e
by_structure Frames n e = inl e
by_structure Fields n e = inr e

one_more : (b : Book) → IsBook b → (k n : ℕ) (plane : Plane) (line column : ℕ) → n < length b.pictures → nat_eq (job_at b n).frame k ≡ true
    → with_picture b n (so_far b k n) plane line column ≡ so_far b k (suc n) plane line column
one_more b h k n plane line column lt frame = elim (by_structure b.settings.scan (job_at b n).structure (picture_is_one b h n lt).structure) [
  | inl e ↦ of_frame b k n plane line column frame e
  | inr (inl e) ↦ of_top b k n plane line column frame e
  | inr (inr e) ↦ of_bottom b k n plane line column frame e
]

-- a picture of another frame
passed : (b : Book) (k n : ℕ) (lines : Lines) → nat_eq (job_at b n).frame k ≡ false → picture_with b k lines (suc n) ≡ picture_with b k lines n
unfolding picture_with
passed b k n lines other = ap (λ (x : Bool). cond (x && has_lines (job_at b n).structure lines) (Some n) (picture_with b k lines n)) other

other_more : (b : Book) (k n : ℕ) (plane : Plane) (line column : ℕ) → nat_eq (job_at b n).frame k ≡ false → so_far b k n plane line column ≡ so_far b k (suc n) plane line column
other_more b k n plane line column other =
    by_test (even line) _ _ _ _
    (ap (λ (o : Option ℕ). sample_from b o plane Top (line / 2) column) (sym (passed b k n Top other)))
    (ap (λ (o : Option ℕ). sample_from b o plane Bottom (line / 2) column) (sym (passed b k n Bottom other)))

-- ---- the whole

dims_kept : (b : Book) (p n : ℕ) (f : Samples) → (rows_in b p n f).dims ≡ f.dims
unfolding rows_in
dims_kept b p zero f = refl
dims_kept b p (suc n) f = dims_kept b p n f

pub rows_size : (b : Book) (p n : ℕ) (f g : Samples) → g ≡ rows_in b p n f → g.dims ≡ f.dims
rows_size b p n f g is = ap (λ (x : Samples). x.dims) is ∙ dims_kept b p n f

pub rows_more : (b : Book) (p n : ℕ) (f g h : Samples) → g ≡ rows_in b p n f → h ≡ with_row g (own_lines (job_at b p).structure) n (slice_at (all_coded b) p n).row → h ≡ rows_in b p (n + 1) f
unfolding rows_in
rows_more b p n f g h is new =
    new ∙ ap (λ (x : Samples). with_row x (own_lines (job_at b p).structure) n (slice_at (all_coded b) p n).row) is
    ∙ ap (λ (m : ℕ). rows_in b p m f) (let e : suc n ≡ n + 1 = omega arith in e)

rebuilt_is : (b : Book) → IsBook b → (k n : ℕ) → n ≤ length b.pictures → rebuilt_by b k n ≡ frame_by (dims_of b.settings) (so_far b k n)
unfolding rebuilt_by picture_with
rebuilt_is b h k zero le =
    blank_is (dims_of b.settings)
    ∙ frame_same (dims_of b.settings) (λ plane r c. 0) (so_far b k zero) (λ plane r c small less. sym (zero_both (even r)))
rebuilt_is b h k (suc n) le =
    let d = dims_of b.settings in
    let rec = rebuilt_is b h k n (omega (arith, le)) in
    elim (cases_Bool (nat_eq (job_at b n).frame k)) [
      | inl here ↦
          cond-true (nat_eq (job_at b n).frame k) _ _ here
          ∙ ap (with_rows b n) rec
          ∙ rows_all b h n (so_far b k n) (omega (arith, le))
          ∙ frame_same d (with_picture b n (so_far b k n)) (so_far b k (suc n)) (λ plane r c small less. one_more b h k n plane r c (omega (arith, le)) here)
      | inr other ↦
          cond-false (nat_eq (job_at b n).frame k) _ _ other
          ∙ rec
          ∙ frame_same d (so_far b k n) (so_far b k (suc n)) (λ plane r c small less. other_more b k n plane r c other)
    ]

pub rebuilt_size : (b : Book) → IsBook b → (k n : ℕ) → n ≤ length b.pictures → (rebuilt_by b k n).dims ≡ dims_of b.settings
rebuilt_size b h k n le = ap (λ (x : Samples). x.dims) (rebuilt_is b h k n le)

pub taken_more : (b : Book) (k n : ℕ) (f g : Samples) → f ≡ rebuilt_by b k n → g ≡ with_rows b n f → nat_eq (job_at b n).frame k ≡ true → g ≡ rebuilt_by b k (n + 1)
unfolding rebuilt_by
taken_more b k n f g is new here =
    new ∙ ap (with_rows b n) is ∙ sym (cond-true (nat_eq (job_at b n).frame k) _ _ here) ∙ ap (rebuilt_by b k) (let e : suc n ≡ n + 1 = omega arith in e)

pub passed_more : (b : Book) (k n : ℕ) (f : Samples) → f ≡ rebuilt_by b k n → nat_eq (job_at b n).frame k ≡ false → f ≡ rebuilt_by b k (n + 1)
unfolding rebuilt_by
passed_more b k n f is other =
    is ∙ sym (cond-false (nat_eq (job_at b n).frame k) _ _ other) ∙ ap (rebuilt_by b k) (let e : suc n ≡ n + 1 = omega arith in e)

some_sample : (b : Book) (o : Option ℕ) (q : ℕ) (plane : Plane) (lines : Lines) (l column : ℕ) → o ≡ Some q
    → sample_from b o plane lines l column ≡ picture_sample b (all_coded b) o plane lines l column
unfolding picture_sample
some_sample b o q plane lines l column e =
    ap (λ (x : Option ℕ). sample_from b x plane lines l column) e ∙ sym (ap (λ (x : Option ℕ). picture_sample b (all_coded b) x plane lines l column) e)

pub frame_is : (b : Book) → IsBook b → (k n : ℕ) → k < length b.frames → n ≡ length b.pictures → rebuilt_by b k n ≡ frame_of b (all_coded b) k
unfolding frame_of
frame_is b h k n lt all =
    let d = dims_of b.settings in
    let top = covered b h k Top true lt in
    let bottom = covered b h k Bottom false lt in
    let m = length (all_coded b) in
    let e : n ≡ m = all ∙ sym (count b (length b.pictures)) in
    let g : (lines : Lines) → picture_with b k lines n ≡ picture_with b k lines m = λ lines. ap (picture_with b k lines) e in
    rebuilt_is b h k n (omega (arith, all))
    ∙ frame_same d (so_far b k n) _
    (λ plane r c small less. by_test (even r) _ _ _ _
    (some_sample b (picture_with b k Top n) top.0 plane Top (r / 2) c (ap (picture_with b k Top) all ∙ top.1) ∙ ap (λ (o : Option ℕ). picture_sample b (all_coded b) o plane Top (r / 2) c) (g Top))
    (some_sample b (picture_with b k Bottom n) bottom.0 plane Bottom (r / 2) c (ap (picture_with b k Bottom) all ∙ bottom.1) ∙ ap (λ (o : Option ℕ). picture_sample b (all_coded b) o plane Bottom (r / 2) c) (g Bottom)))
