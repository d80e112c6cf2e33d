-- A row painted by itself, and the same macroblocks painted into a frame.
use Rattle.std.proofs.Common.{◌≡◌, ℕ, ◌+◌, ◌*◌, ◌/◌, ◌%◌, ◌<◌, true, false, List, length, get_or, ap, sym, refl, ◌∙◌, arith, inl, inr}
use Rattle.std.specs.Prelude.{Bool, nat_eq, ◌&&◌, cond}
use Rattle.std.proofs.Math.Nat.{mod-lt, mod-eq_of_lt, div-eq_of_lt}
use Rattle.std.proofs.lemmas.Bool.{eq-eqb, eqb-true}
use Rattle.std.proofs.lemmas.Bool.Decides.{eqb_tells}
use Rattle.m2v_plane.specs.declared.planes.Lines.{Lines}
use Rattle.m2v_plane.specs.declared.planes.Lines.TheVariants.{Whole}
use Rattle.m2v_plane.specs.Samples.{is_among, number_among, plane_with_row, plane_with_square}
use Rattle.m2v_plane.proofs.Places.{plane_is}
use Rattle.m2v_plane.proofs.RawVideo.{length-plane_by, plane_at}
use Rattle.m2v_model.proofs.Painting.{in_columns}

-- A row of a plane and the plane of a frame, where so many macroblocks of the row were painted in both: there they are
-- alike, and in its other rows the frame is as it was.
pub record Both (which : Lines) (side rows columns row n : ℕ) (old x f : List ℕ) : Type 0 where
  pub row_long : length x ≡ side * 1 * (side * columns)
  pub long : length f ≡ side * rows * (side * columns)
  pub alike : (r c : ℕ) → r < side * rows → c < side * columns → is_among which r ≡ true → number_among which r / side ≡ row → c / side < n
      → get_or f (r * (side * columns) + c) 0 ≡ get_or x (number_among which r % side * (side * columns) + c) 0
  pub rest : (r c : ℕ) → r < side * rows → c < side * columns → (is_among which r && nat_eq (number_among which r / side) row) ≡ false
      → get_or f (r * (side * columns) + c) 0 ≡ get_or old (r * (side * columns) + c) 0

-- before the first macroblock
pub both_first : (which : Lines) (side rows columns row : ℕ) (old x : List ℕ) → length x ≡ side * 1 * (side * columns) → length old ≡ side * rows * (side * columns)
    → Both which side rows columns row 0 old x old
both_first which side rows columns row old x lx lo = record { row_long = lx; long = lo; alike = λ r c lr lc among at below. absurd (omega (arith, below)); rest = λ r c lr lc other. refl }

and_false : (a b c : Bool) → (a && b) ≡ false → (a && (b && c)) ≡ false
and_false true true c e = absurd (cc e)
and_false true false c e = refl
and_false false b c e = refl

-- what stands there of a macroblock that is painted in both, and what stood there before
same_part : (a b d e : Bool) (new_f new_x old_f old_x : ℕ) → a ≡ true → b ≡ true → e ≡ true → (d ≡ true → new_f ≡ new_x) → (d ≡ false → old_f ≡ old_x)
    → cond (a && (b && d)) new_f old_f ≡ cond (true && (e && d)) new_x old_x
same_part a b true e new_f new_x old_f old_x ea eb ee h g = rw (ea, eb, ee) (h refl)
same_part a b false e new_f new_x old_f old_x ea eb ee h g = rw (ea, eb, ee) (g refl)

-- one macroblock more
pub both_more : (which : Lines) (side rows columns row n : ℕ) (new : ℕ → ℕ → ℕ) (old x f : List ℕ) → 0 < side → Both which side rows columns row n old x f
    → Both which side rows columns row (n + 1) old (plane_with_square (side * 1) (side * columns) side Whole 0 n new x) (plane_with_square (side * rows) (side * columns) side which row n new f)
unfolding plane_with_square
both_more which side rows columns row n new old x f some h =
    let at_row = λ (line c : ℕ). cond (true && (nat_eq (line / side) 0 && nat_eq (c / side) n)) (new (line % side) (c % side)) (get_or x (line * (side * columns) + c) 0) in
    let at_frame = λ (line c : ℕ). cond (is_among which line && (nat_eq (number_among which line / side) row && nat_eq (c / side) n)) (new (number_among which line % side) (c % side)) (get_or f (line * (side * columns) + c) 0) in
    record {
      row_long = length-plane_by (side * 1) (side * columns) at_row;
      long = length-plane_by (side * rows) (side * columns) at_frame;
      alike = λ r c lr lc among at below.
          let m = number_among which r in
          let l = m % side in
          let small : l < side = mod-lt m some in
          let fits : l < side * 1 = omega (arith, small) in
          plane_at (side * rows) (side * columns) at_frame r c lr lc
          ∙ same_part (is_among which r) (nat_eq (m / side) row) (nat_eq (c / side) n) (nat_eq (l / side) 0) _ _ _ _ among (eq-eqb (m / side) row at) (eq-eqb (l / side) 0 (div-eq_of_lt small))
          (λ here. ap (λ (k : ℕ). new k (c % side)) (sym (mod-eq_of_lt small)))
          (λ other. h.alike r c lr lc among at (before (c / side) below other))
          ∙ sym (plane_at (side * 1) (side * columns) at_row l c fits lc);
      rest = λ r c lr lc other.
          plane_at (side * rows) (side * columns) at_frame r c lr lc
          ∙ ap (λ (b : Bool). cond b (new (number_among which r % side) (c % side)) (get_or f (r * (side * columns) + c) 0)) (and_false (is_among which r) (nat_eq (number_among which r / side) row) (nat_eq (c / side) n) other)
          ∙ h.rest r c lr lc other;
    }
  where
    before : (k : ℕ) → k < n + 1 → nat_eq k n ≡ false → k < n
    before k below other = elim (eqb_tells k n) [ inl t ↦ absurd (cc (sym t.0 ∙ other)) | inr t ↦ omega (arith, below, t.1) ]

-- once all are painted, the frame is the one before with the row set
pub both_all : (which : Lines) (side rows columns row : ℕ) (old x f : List ℕ) → 0 < side → Both which side rows columns row columns old x f
    → plane_with_row (side * rows) (side * columns) side which row old x ≡ f
unfolding plane_with_row
both_all which side rows columns row old x f some h =
    sym (plane_is f (side * rows) (side * columns)
    (λ line c. cond (is_among which line && nat_eq (number_among which line / side) row) (get_or x (number_among which line % side * (side * columns) + c) 0) (get_or old (line * (side * columns) + c) 0))
    h.long
    (λ r c lr lc. whole r c (is_among which r) (nat_eq (number_among which r / side) row) refl refl lr lc))
  where
    whole : (r c : ℕ) (a b : Bool) → is_among which r ≡ a → nat_eq (number_among which r / side) row ≡ b → r < side * rows → c < side * columns
        → get_or f (r * (side * columns) + c) 0
        ≡ cond (is_among which r && nat_eq (number_among which r / side) row) (get_or x (number_among which r % side * (side * columns) + c) 0) (get_or old (r * (side * columns) + c) 0)
    whole r c true true ea eb lr lc = rw (ea, eb) (h.alike r c lr lc ea (eqb-true (number_among which r / side) row eb) (in_columns side columns c some lc))
    whole r c true false ea eb lr lc = rw (ea, eb) (h.rest r c lr lc (rw (ea, eb) refl))
    whole r c false b ea eb lr lc = rw ea (h.rest r c lr lc (rw ea refl))
