-- Planes as lines of columns.
use Rattle.std.proofs.Common.{◌≡◌, ℕ, zero, suc, ◌+◌, ◌-◌, ◌*◌, ◌/◌, ◌%◌, ◌<◌, ◌≤◌, Bool, true, false, List, ◌++◌, length, get_or, take, drop, map, refl, ap, sym, ◌∙◌, subst, arith, nat_lt, nat_eq, ◌&&◌, if◌then◌else◌, mul-zero, ◌≢◌, inl, inr, cond, eq-eqb}
use borrow.Rule.Slice.PartMut.{put_mid, post_of}
use Rattle.std.proofs.lemmas.Bool.{cases_lt, cases_eq, eqb-true}
use Rattle.std.proofs.Math.Nat.{mul-le-mul_right, div-add-mod, div-lt_iff_lt-mul, mul_comm}
use Rattle.std.proofs.lemmas.Nat.{div-mul-add, mod-mul-add, mod_below}
use Rattle.std.specs.List.{range_with_len}
use Rattle.std.proofs.lemmas.List.{ext_get_or, get_or-take, get_or-drop, length-take-le, length-drop, get_or-append_right, get_or_append_left}
use Rattle.std.proofs.lemmas.List.FromFn.{get_or-map-range_with_len, length-map-range_with_len}
use Rattle.m2v_plane.specs.declared.dims.Dims.{Dims}
use Rattle.m2v_plane.specs.declared.planes.Plane.{Plane}
use Rattle.m2v_plane.specs.declared.planes.Plane.TheVariants.{Y, Cb, Cr}
use Rattle.m2v_plane.specs.declared.planes.Lines.{Lines}
use Rattle.std.proofs.lemmas.Bool.Decides.{nat_tests}
use Rattle.m2v_plane.specs.declared.planes.Lines.TheVariants.{Whole, Top, Bottom}
use Rattle.m2v_plane.specs.Sizes.{frame_line, part_of, columns_of, IsSize}
use Rattle.m2v_plane.specs.Samples.{line_part, plane_by, is_among, number_among}

-- a part of a line lies within the whole
pub line_fits : (line height width end : ℕ) → line < height → end ≤ width → line * width + end ≤ height * width
line_fits line height width end lt le =
    let h : suc line ≤ height = omega arith in
    omega (arith, mul-le-mul_right width h)

-- what is at line r and column c once the first n lines of a row are in place
abbrev pub mixed : ℕ → ℕ → Lines → ℕ → ℕ → List ℕ → (ℕ → ℕ → ℕ) → ℕ → ℕ → ℕ
mixed columns height which row n old new r c =
    if is_among which r && nat_eq (number_among which r / height) row && nat_lt (number_among which r % height) n
    then new (number_among which r % height) c
    else get_or old (r * columns + c) 0

columns_some : (i lines columns : ℕ) → i < lines * columns → 0 < columns
columns_some i lines zero lt = absurd (omega (arith, mul-zero lines))
columns_some i lines (suc n) lt = omega arith

-- samples that stand at each line and column are the plane
pub plane_is : (xs : List ℕ) (lines columns : ℕ) (at : ℕ → ℕ → ℕ) → length xs ≡ lines * columns
    → ((r c : ℕ) → r < lines → c < columns → get_or xs (r * columns + c) 0 ≡ at r c) → xs ≡ plane_by lines columns at
unfolding plane_by
plane_is xs lines columns at len each =
    let f = λ (k : ℕ). at (k / columns) (k % columns) in
    ext_get_or 0 xs (map f (range_with_len 0 (lines * columns))) (len ∙ sym (length-map-range_with_len f 0 (lines * columns)))
    (λ i lt.
    let small : i < lines * columns = omega (arith, len, lt) in
    let some = columns_some i lines columns small in
    let split : i ≡ i / columns * columns + i % columns = omega (arith, div-add-mod i columns, mul_comm columns (i / columns)) in
    let r : i / columns < lines = (div-lt_iff_lt-mul some).1 small in
    let c : i % columns < columns = mod_below i columns some in
    ap (λ k. get_or xs k 0) split ∙ each (i / columns) (i % columns) r c
    ∙ sym (get_or-map-range_with_len f 0 (lines * columns) i i 0 small (omega arith)))

-- where n samples are put in place of n others from a on
pub put_before : (a n : ℕ) (xs ys : List ℕ) (i : ℕ) → a ≤ length xs → i < a
    → get_or (put_mid a n xs ys) i 0 ≡ get_or xs i 0
put_before a n xs ys i fits lt =
    let len = length-take-le a xs fits in
    get_or_append_left (take a xs) (ys ++ post_of a n xs) 0 i (omega (arith, len)) ∙ get_or-take a xs i 0 lt

pub put_within : (a n : ℕ) (xs ys : List ℕ) (i : ℕ) → a ≤ length xs → i < length ys
    → get_or (put_mid a n xs ys) (a + i) 0 ≡ get_or ys i 0
put_within a n xs ys i fits lt =
    let len = length-take-le a xs fits in
    get_or-append_right (take a xs) (ys ++ post_of a n xs) a (a + i) 0 len (omega arith)
    ∙ ap (λ k. get_or (ys ++ post_of a n xs) k 0) (omega arith)
    ∙ get_or_append_left ys (post_of a n xs) 0 i lt

pub put_behind : (a n : ℕ) (xs ys : List ℕ) (i : ℕ) → a ≤ length xs → length ys ≡ n → a + n ≤ i
    → get_or (put_mid a n xs ys) i 0 ≡ get_or xs i 0
put_behind a n xs ys i fits same le =
    let len = length-take-le a xs fits in
    get_or-append_right (take a xs) (ys ++ post_of a n xs) a i 0 len (omega arith)
    ∙ get_or-append_right ys (post_of a n xs) n (i - a) 0 same (omega arith)
    ∙ get_or-drop n (drop a xs) (i - a - n) 0 ∙ get_or-drop a xs (n + (i - a - n)) 0
    ∙ ap (λ k. get_or xs k 0) (omega arith)

-- a line that is put in its place
pub line_put : (n w k : ℕ) (xs ys : List ℕ) (c : ℕ) → n * w ≤ length xs → length ys ≡ w → c < w
    → get_or (put_mid (n * w) k xs ys) (n * w + c) 0 ≡ get_or ys c 0
line_put n w k xs ys c fits same lt = put_within (n * w) k xs ys c fits (omega arith)

-- any other line stays
pub line_kept : (n w k : ℕ) (xs ys : List ℕ) (r c : ℕ) → k ≡ w → n * w ≤ length xs → length ys ≡ w → r ≢ n → c < w
    → get_or (put_mid (n * w) k xs ys) (r * w + c) 0 ≡ get_or xs (r * w + c) 0
line_kept n w k xs ys r c is fits same other lt =
    elim (cases_lt r n) [
      | inl below ↦
          let before = line_fits r n w (c + 1) below (omega arith) in
          put_before (n * w) k xs ys (r * w + c) fits (omega arith)
      | inr above ↦
          let behind = line_fits n r w w (omega arith) (omega arith) in
          put_behind (n * w) k xs ys (r * w + c) fits (omega arith) (omega arith)
    ]

-- a line put in its place, where all others are as they are to be
pub line_set : (f g : ℕ → ℕ → ℕ) (t n w k : ℕ) (xs ys : List ℕ) → k ≡ w → n * w ≤ length xs → length ys ≡ w
    → ((r c : ℕ) → r < t → c < w → get_or xs (r * w + c) 0 ≡ f r c)
    → ((r c : ℕ) → r < t → c < w → r ≢ n → f r c ≡ g r c)
    → ((c : ℕ) → c < w → get_or ys c 0 ≡ g n c)
    → (r c : ℕ) → r < t → c < w → get_or (put_mid (n * w) k xs ys) (r * w + c) 0 ≡ g r c
line_set f g t n w k xs ys is fits same old stay new r c lt small =
    elim (cases_eq r n) [
      | inl here ↦
          subst (λ (m : ℕ). get_or (put_mid (n * w) k xs ys) (m * w + c) 0 ≡ g m c) (sym here)
          (line_put n w k xs ys c fits same small ∙ new c small)
      | inr other ↦
          line_kept n w k xs ys r c is fits same other small ∙ old r c lt small ∙ stay r c lt small other
    ]

-- one line more
pub line_more : (f : ℕ → ℕ → ℕ) (n w k : ℕ) (xs ys : List ℕ) → k ≡ w → n * w ≤ length xs → length ys ≡ w
    → ((r c : ℕ) → r < n → c < w → get_or xs (r * w + c) 0 ≡ f r c)
    → ((c : ℕ) → c < w → get_or ys c 0 ≡ f n c)
    → (r c : ℕ) → r < n + 1 → c < w → get_or (put_mid (n * w) k xs ys) (r * w + c) 0 ≡ f r c
line_more f n w k xs ys is fits same old new r c lt small =
    elim (cases_lt r n) [
      | inl below ↦
          line_kept n w k xs ys r c is fits same (omega arith) small ∙ old r c below small
      | inr above ↦
          let here : r ≡ n = omega arith in
          subst (λ (m : ℕ). get_or (put_mid (n * w) k xs ys) (m * w + c) 0 ≡ f m c) (sym here)
          (line_put n w k xs ys c fits same small ∙ new c small)
    ]

-- a sample of a part of a list
pub part_at : (xs : List ℕ) (a n c : ℕ) → c < n → get_or (take n (drop a xs)) c 0 ≡ get_or xs (a + c) 0
part_at xs a n c lt = get_or-take n (drop a xs) c 0 lt ∙ get_or-drop a xs c 0

pub part_len : (xs : List ℕ) (a n : ℕ) → a + n ≤ length xs → length (take n (drop a xs)) ≡ n
part_len xs a n fits = length-take-le n (drop a xs) (omega (arith, length-drop a xs))

-- which of the lines a line of the frame is, and back
pub placed : (which : Lines) (r : ℕ) → is_among which r ≡ true → frame_line which (number_among which r) ≡ r
placed Whole r e = refl
placed Top r e = let even = eqb-true (r % 2) 0 e in omega arith
placed Bottom r e = let odd = eqb-true (r % 2) 1 e in omega arith

pub among : (which : Lines) (m : ℕ) → is_among which (frame_line which m) ≡ true
among Whole m = refl
among Top m = eq-eqb (2 * m % 2) 0 (omega arith)
among Bottom m = eq-eqb ((2 * m + 1) % 2) 1 (omega arith)

pub numbered : (which : Lines) (m : ℕ) → number_among which (frame_line which m) ≡ m
numbered Whole m = refl
numbered Top m = omega arith
numbered Bottom m = omega arith

pub row_number : (q h row n : ℕ) → 0 < h → q / h ≡ row → q % h ≡ n → q ≡ row * h + n
row_number q h row n some e f = omega (arith, div-add-mod q h, mul_comm h (q / h), ap (λ k. k * h) e)

-- at the start all lines are as they were
pub mixed_none : (columns height : ℕ) (which : Lines) (row : ℕ) (old : List ℕ) (new : ℕ → ℕ → ℕ) (r c : ℕ)
    → get_or old (r * columns + c) 0 ≡ mixed columns height which row 0 old new r c
mixed_none columns height which row old new r c =
    by_case (is_among which r) (nat_eq (number_among which r / height) row) (nat_lt (number_among which r % height) 0) (below_zero (number_among which r % height))
  where
    below_zero : (k : ℕ) → nat_lt k 0 ≡ false
    below_zero k = grind (arith, nat_tests)

    by_case : (a b d : Bool) → d ≡ false → get_or old (r * columns + c) 0
        ≡ cond (a && b && d) (new (number_among which r % height) c) (get_or old (r * columns + c) 0)
    by_case false b d e = refl
    by_case true false d e = refl
    by_case true true d e = rw e

-- at the end the whole row is in place
pub mixed_all : (columns height : ℕ) (which : Lines) (row : ℕ) (old : List ℕ) (new : ℕ → ℕ → ℕ) (r c : ℕ) → 0 < height
    → mixed columns height which row height old new r c
    ≡ cond (is_among which r && nat_eq (number_among which r / height) row) (new (number_among which r % height) c) (get_or old (r * columns + c) 0)
mixed_all columns height which row old new r c some =
    by_case (is_among which r) (nat_eq (number_among which r / height) row) (nat_lt (number_among which r % height) height)
    (below (number_among which r % height) (mod_below (number_among which r) height some))
  where
    below : (k : ℕ) → k < height → nat_lt k height ≡ true
    below k lt = grind (arith, nat_tests)

    by_case : (a b d : Bool) → d ≡ true
        → cond (a && b && d) (new (number_among which r % height) c) (get_or old (r * columns + c) 0)
        ≡ cond (a && b) (new (number_among which r % height) c) (get_or old (r * columns + c) 0)
    by_case false b d e = refl
    by_case true false d e = refl
    by_case true true d e = rw e

-- a line that isn't the next one of the row stays
pub mixed_same : (columns height : ℕ) (which : Lines) (row n : ℕ) (old : List ℕ) (new : ℕ → ℕ → ℕ) (r c : ℕ) → 0 < height
    → r ≢ frame_line which (row * height + n)
    → mixed columns height which row n old new r c ≡ mixed columns height which row (n + 1) old new r c
mixed_same columns height which row n old new r c some other =
    by_case (is_among which r) (nat_eq (number_among which r / height) row) (nat_lt (number_among which r % height) n) (nat_lt (number_among which r % height) (n + 1))
    (λ a b.
    let q = number_among which r in
    let apart = λ (e : q % height ≡ n). other (sym (placed which r a) ∙ ap (frame_line which) (row_number q height row n some (eqb-true (q / height) row b) e)) in
    one_more (q % height) apart)
  where
    one_more : (k : ℕ) → k ≢ n → nat_lt k n ≡ nat_lt k (n + 1)
    one_more k ne = grind (arith, nat_tests)

    by_case : (a b d e : Bool) → (a ≡ true → b ≡ true → d ≡ e)
        → cond (a && b && d) (new (number_among which r % height) c) (get_or old (r * columns + c) 0)
        ≡ cond (a && b && e) (new (number_among which r % height) c) (get_or old (r * columns + c) 0)
    by_case false b d e same = refl
    by_case true false d e same = refl
    by_case true true d e same = rw (same refl refl)

-- the next line of the row
pub mixed_new : (columns height : ℕ) (which : Lines) (row n : ℕ) (old : List ℕ) (new : ℕ → ℕ → ℕ) (c : ℕ) → n < height
    → new n c ≡ mixed columns height which row (n + 1) old new (frame_line which (row * height + n)) c
mixed_new columns height which row n old new c lt =
    let m = row * height + n in
    let number = numbered which m in
    let e1 : nat_eq (number_among which (frame_line which m) / height) row ≡ true = eq-eqb _ row (ap (λ k. k / height) number ∙ div-mul-add row height n lt) in
    let e2 : number_among which (frame_line which m) % height ≡ n = ap (λ k. k % height) number ∙ mod-mul-add row height n lt in
    rw (among which m, e1, e2) (by_case (nat_lt n (n + 1)) (grind (arith, nat_tests)))
  where
    by_case : (d : Bool) → d ≡ true → new n c
        ≡ cond d (new n c) (get_or old (frame_line which (row * height + n) * columns + c) 0)
    by_case true e = refl
    by_case false e = cc

-- the next line of the row is as it was
pub mixed_still : (columns height : ℕ) (which : Lines) (row n : ℕ) (old : List ℕ) (new : ℕ → ℕ → ℕ) (c : ℕ) → n < height
    → mixed columns height which row n old new (frame_line which (row * height + n)) c ≡ get_or old (frame_line which (row * height + n) * columns + c) 0
mixed_still columns height which row n old new c lt =
    let m = row * height + n in
    let number = numbered which m in
    let e1 : nat_eq (number_among which (frame_line which m) / height) row ≡ true = eq-eqb _ row (ap (λ k. k / height) number ∙ div-mul-add row height n lt) in
    let e2 : number_among which (frame_line which m) % height ≡ n = ap (λ k. k % height) number ∙ mod-mul-add row height n lt in
    rw (among which m, e1, e2) (by_case (nat_lt n n) (grind (arith, nat_tests)))
  where
    by_case : (d : Bool) → d ≡ false → cond d (new n c) (get_or old (frame_line which (row * height + n) * columns + c) 0)
        ≡ get_or old (frame_line which (row * height + n) * columns + c) 0
    by_case true e = cc
    by_case false e = refl

pub frame_line-below : (which : Lines) (line total : ℕ) → line < part_of which total → frame_line which line < total
frame_line-below Whole line total lt = lt
frame_line-below Top line total lt = omega arith
frame_line-below Bottom line total lt = omega arith

pub part_of-le : (which : Lines) (total : ℕ) → part_of which total ≤ total
part_of-le Whole total = omega arith
part_of-le Top total = omega arith
part_of-le Bottom total = omega arith

-- samples that stand one after another are a part of a line
pub line_is : (xs : List ℕ) (at : ℕ → ℕ) (column n : ℕ) → length xs ≡ n
    → ((k : ℕ) → k < n → get_or xs k 0 ≡ at (column + k)) → xs ≡ line_part at column n
line_is xs at column n len each =
    let f = λ (k : ℕ). at (column + k) in
    ext_get_or 0 xs (line_part at column n) (len ∙ sym (length-map-range_with_len f 0 n))
    (λ i lt.
    let small : i < n = omega (arith, len, lt) in
    each i small ∙ sym (get_or-map-range_with_len f 0 n i i 0 small (omega arith)))

pub length-line_part : (at : ℕ → ℕ) (column n : ℕ) → length (line_part at column n) ≡ n
length-line_part at column n = length-map-range_with_len (λ (k : ℕ). at (column + k)) 0 n

-- a line has at most 1920 samples
pub columns-most : (d : Dims) (plane : Plane) → IsSize d → columns_of d plane ≤ 1920
columns-most d Y is = omega (arith, is.width, is.mb_width)
columns-most d Cb is = omega (arith, is.width, is.mb_width)
columns-most d Cr is = omega (arith, is.width, is.mb_width)
