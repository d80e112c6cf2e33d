-- Squares of planes, and lines of one plane in another.
use Rattle.std.proofs.Common.{◌≡◌, ℕ, ◌+◌, ◌-◌, ◌*◌, ◌/◌, ◌%◌, ◌<◌, ◌≤◌, Bool, true, false, List, length, get_or, refl, ap, sym, ◌∙◌, subst, arith, nat_eq, ◌&&◌, ◌≢◌, inl, inr, cond, eq-eqb}
use Rattle.std.specs.Prelude.{◌⊎◌}
use borrow.Rule.Slice.PartMut.{put_mid}
use Rattle.std.proofs.lemmas.Bool.{cases_lt, cases_eq, eqb-true}
use Rattle.std.proofs.lemmas.Bool.Decides.{nat_tests}
use Rattle.std.proofs.lemmas.Nat.{div-mul-add, mod-mul-add, mod_below}
use Rattle.std.proofs.Math.Nat.{div-add-mod, mul_comm, div-eq_of_lt, mod-eq_of_lt}
use Rattle.m2v_plane.specs.declared.planes.Lines.{Lines}
use Rattle.m2v_plane.specs.declared.planes.Lines.TheVariants.{Whole, Top, Bottom}
use Rattle.m2v_plane.specs.Sizes.{frame_line, part_of}
use Rattle.m2v_plane.specs.Samples.{plane_by, is_among, number_among, plane_with_square}
use Rattle.m2v_plane.proofs.Places.{line_fits, put_before, put_within, put_behind, mixed, mixed_all, placed, row_number, plane_is}
use Rattle.m2v_plane.proofs.RawVideo.{plane_at, length-plane_by}

-- a part of a line put in its place, where all else is as it is to be
pub part_set : (f g : ℕ → ℕ → ℕ) (t n w from m k : ℕ) (xs ys : List ℕ) → k ≡ m → from + m ≤ w → n * w + w ≤ length xs → length ys ≡ m
    → ((r c : ℕ) → r < t → c < w → get_or xs (r * w + c) 0 ≡ f r c)
    → ((r c : ℕ) → r < t → c < w → r ≢ n → f r c ≡ g r c)
    → ((c : ℕ) → c < w → (c < from) ⊎ (from + m ≤ c) → f n c ≡ g n c)
    → ((j : ℕ) → j < m → get_or ys j 0 ≡ g n (from + j))
    → (r c : ℕ) → r < t → c < w → get_or (put_mid (n * w + from) k xs ys) (r * w + c) 0 ≡ g r c
part_set f g t n w from m k xs ys is inside fits same old stay beside new r c lt small =
    elim (cases_eq r n) [
      | inl here ↦
          subst (λ (l : ℕ). get_or (put_mid (n * w + from) k xs ys) (l * w + c) 0 ≡ g l c) (sym here) (this_line (omega (arith, here, lt)))
      | inr other ↦
          elim (cases_lt r n) [
            | inl below ↦
                let before = line_fits r n w w below (omega arith) in
                put_before (n * w + from) k xs ys (r * w + c) (omega arith) (omega arith) ∙ old r c lt small ∙ stay r c lt small other
            | inr above ↦
                let behind = line_fits n r w w (omega arith) (omega arith) in
                put_behind (n * w + from) k xs ys (r * w + c) (omega arith) (omega arith) (omega arith) ∙ old r c lt small ∙ stay r c lt small other
          ]
    ]
  where
    this_line : n < t → get_or (put_mid (n * w + from) k xs ys) (n * w + c) 0 ≡ g n c
    this_line one =
        elim (cases_lt c from) [
          | inl left ↦
              put_before (n * w + from) k xs ys (n * w + c) (omega arith) (omega arith) ∙ old n c one small ∙ beside c small (inl left)
          | inr right ↦
              elim (cases_lt c (from + m)) [
                | inl within ↦
                    let j = c - from in
                    let place : n * w + c ≡ n * w + from + j = omega arith in
                    let column : from + j ≡ c = omega arith in
                    ap (λ i. get_or (put_mid (n * w + from) k xs ys) i 0) place
                    ∙ put_within (n * w + from) k xs ys j (omega arith) (omega arith) ∙ new j (omega arith) ∙ ap (g n) column
                | inr behind ↦
                    put_behind (n * w + from) k xs ys (n * w + c) (omega arith) (omega arith) (omega arith)
                    ∙ old n c one small ∙ beside c small (inr behind)
              ]
        ]

-- a line of a row of macroblocks in which one square is new
abbrev pub square_line : ℕ → ℕ → ℕ → Lines → ℕ → List ℕ → (ℕ → ℕ → ℕ) → ℕ → ℕ → ℕ
square_line columns side column which row old new k c =
    cond (nat_eq (c / side) column) (new k (c % side)) (get_or old (frame_line which (row * side + k) * columns + c) 0)

-- beside the square
is_other : (k n : ℕ) → k ≢ n → nat_eq k n ≡ false
is_other k n ne = grind (arith, nat_tests)

before_square : (c side column : ℕ) → c < side * column → c / side ≢ column
before_square c side column lt e = absurd (omega (arith, div-add-mod c side, ap (λ m. side * m) e))

behind_square : (c side column : ℕ) → 0 < side → side * column + side ≤ c → c / side ≢ column
behind_square c side column some le e = absurd (omega (arith, div-add-mod c side, ap (λ m. side * m) e, mod_below c side some))

not_square : (c side column : ℕ) → 0 < side → (c < side * column) ⊎ (side * column + side ≤ c) → nat_eq (c / side) column ≡ false
not_square c side column some (inl lt) = is_other (c / side) column (before_square c side column lt)
not_square c side column some (inr le) = is_other (c / side) column (behind_square c side column some le)

pub square_beside : (columns side column : ℕ) (which : Lines) (row : ℕ) (old : List ℕ) (new : ℕ → ℕ → ℕ) (k c : ℕ) → 0 < side
    → (c < side * column) ⊎ (side * column + side ≤ c)
    → get_or old (frame_line which (row * side + k) * columns + c) 0 ≡ square_line columns side column which row old new k c
square_beside columns side column which row old new k c some out = sym (rw (not_square c side column some out) refl)

pub square_within : (columns side column : ℕ) (which : Lines) (row : ℕ) (old : List ℕ) (new : ℕ → ℕ → ℕ) (k j : ℕ) → j < side
    → new k j ≡ square_line columns side column which row old new k (side * column + j)
square_within columns side column which row old new k j lt =
    let split : side * column + j ≡ column * side + j = omega (arith, mul_comm side column) in
    let is : (side * column + j) / side ≡ column = ap (λ m. m / side) split ∙ div-mul-add column side j lt in
    let rest : (side * column + j) % side ≡ j = ap (λ m. m % side) split ∙ mod-mul-add column side j lt in
    sym (rw (eq-eqb ((side * column + j) / side) column is, rest) refl)

-- once all lines are in place
pub square_all : (columns side column : ℕ) (which : Lines) (row : ℕ) (old : List ℕ) (new : ℕ → ℕ → ℕ) (r c : ℕ) → 0 < side
    → mixed columns side which row side old (square_line columns side column which row old new) r c
    ≡ cond (is_among which r && (nat_eq (number_among which r / side) row && nat_eq (c / side) column))
    (new (number_among which r % side) (c % side)) (get_or old (r * columns + c) 0)
square_all columns side column which row old new r c some =
    let q = number_among which r in
    mixed_all columns side which row old (square_line columns side column which row old new) r c some
    ∙ by_case (is_among which r) (nat_eq (q / side) row) (nat_eq (c / side) column) _ _ _
    (λ a b. ap (λ l. get_or old (l * columns + c) 0) (ap (frame_line which) (sym (row_number q side row (q % side) some (eqb-true (q / side) row b) refl)) ∙ placed which r a))
  where
    by_case : (a b e : Bool) (x y z : ℕ) → (a ≡ true → b ≡ true → z ≡ y) → cond (a && b) (cond e x z) y ≡ cond (a && (b && e)) x y
    by_case true true true x y z h = refl
    by_case true true false x y z h = h refl refl
    by_case true false e x y z h = refl
    by_case false b e x y z h = refl

-- squares that agree
pub square_same : (lines columns side : ℕ) (which : Lines) (row column : ℕ) (f g : ℕ → ℕ → ℕ) (old : List ℕ) → 0 < side
    → ((r c : ℕ) → r < side → c < side → f r c ≡ g r c)
    → plane_with_square lines columns side which row column f old ≡ plane_with_square lines columns side which row column g old
unfolding plane_with_square
square_same lines columns side which row column f g old some same =
    let at = λ (h : ℕ → ℕ → ℕ) (r c : ℕ).
    cond (is_among which r && (nat_eq (number_among which r / side) row && nat_eq (c / side) column)) (h (number_among which r % side) (c % side)) (get_or old (r * columns + c) 0) in
    plane_is (plane_by lines columns (at f)) lines columns (at g) (length-plane_by lines columns (at f))
    (λ r c lt small.
    plane_at lines columns (at f) r c lt small
    ∙ ap (λ v. cond (is_among which r && (nat_eq (number_among which r / side) row && nat_eq (c / side) column)) v (get_or old (r * columns + c) 0))
    (same (number_among which r % side) (c % side) (mod_below (number_among which r) side some) (mod_below c side some)))

-- a line of an even number of lines is among half as many
number-below : (which : Lines) (r total : ℕ) → total % 2 ≡ 0 → r < total → number_among which r < part_of which total
number-below Whole r total even lt = lt
number-below Top r total even lt = omega arith
number-below Bottom r total even lt = omega arith

-- once all lines of a field are those of another plane
pub lines_all : (columns total : ℕ) (which : Lines) (old new : List ℕ) (r c : ℕ) → total % 2 ≡ 0 → r < total
    → mixed columns (part_of which total) which 0 (part_of which total) old (λ k x. get_or new (frame_line which k * columns + x) 0) r c
    ≡ cond (is_among which r) (get_or new (r * columns + c) 0) (get_or old (r * columns + c) 0)
lines_all columns total which old new r c even lt =
    let q = number_among which r in
    let n = part_of which total in
    let below = number-below which r total even lt in
    mixed_all columns n which 0 old (λ k x. get_or new (frame_line which k * columns + x) 0) r c (omega arith)
    ∙ by_case (is_among which r) (nat_eq (q / n) 0) _ _ _ (eq-eqb (q / n) 0 (div-eq_of_lt below))
    (λ a. ap (λ l. get_or new (l * columns + c) 0) (ap (frame_line which) (mod-eq_of_lt below) ∙ placed which r a))
  where
    by_case : (a b : Bool) (x y z : ℕ) → b ≡ true → (a ≡ true → x ≡ z) → cond (a && b) x y ≡ cond a z y
    by_case true true x y z e h = h refl
    by_case true false x y z e h = absurd cc
    by_case false b x y z e h = refl
