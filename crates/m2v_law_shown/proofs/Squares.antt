-- The row of a slice has, at each column, the samples of the macroblock that was chosen there.
use Rattle.std.proofs.Common.{◌≡◌, ℕ, zero, suc, ◌+◌, ◌*◌, ◌/◌, ◌%◌, ◌<◌, Bool, true, false, ◌&&◌, cond, inl, inr, List, get_or, refl, sym, ap, subst, ◌∙◌, arith, mul_comm}
use Rattle.std.specs.Prelude.{nat_eq}
use Rattle.std.proofs.lemmas.Bool.{cases_eq, and_from, eq-eqb, ne_eqb}
use Rattle.std.proofs.lemmas.Nat.{div-mul-add, mod-mul-add, mod_below}
use Rattle.std.proofs.Math.Nat.{div-lt_iff_lt-mul, div-eq_of_lt, mod-eq_of_lt}
use Rattle.m2v_plane.specs.declared.dims.Dims.{Dims}
use Rattle.m2v_plane.specs.declared.planes.Plane.{Plane}
use Rattle.m2v_plane.specs.declared.planes.Plane.TheVariants.{Y, Cb, Cr}
use Rattle.m2v_plane.specs.Sizes.{side, columns_of}
use Rattle.m2v_plane.specs.Samples.{Samples, plane_of, sample_of, number_among, blank}
use Rattle.m2v_plane.proofs.RawVideo.{plane_at}
use Rattle.m2v_slice.specs.m2v_recon.Macro.{plane_with, with_macroblock}
use Rattle.m2v_slice.specs.m2v_choose.Choice.{candidate_at, choice_of}
use Rattle.m2v_slice.specs.m2v_choose.Decisions.{Decision}
use Rattle.m2v_slice.specs.Slices.{SliceTask, Begun, decision, with_candidate, begun, slice_of}
use Rattle.m2v_slice.specs.Laws.{IsSlice}
use Rattle.m2v_slice.proofs.Columns.{row_dims}
use Rattle.m2v_model.specs.Painting.{lines_in, LiesIn}
use Rattle.m2v_law_shown.specs.Views.{HasRowOf}

-- ---- one square of a row

and_no : (a b : Bool) → b ≡ false → (a && b) ≡ false
and_no true b e = e
and_no false b e = refl

square_set : (side columns n : ℕ) (new : ℕ → ℕ → ℕ) (xs : List ℕ) (r c : ℕ) → r < side → c < side * columns → c / side ≡ n
    → get_or (plane_with (side * 1) (side * columns) side 0 n new xs) (r * (side * columns) + c) 0 ≡ new (r % side) (c % side)
unfolding plane_with
square_set side columns n new xs r c low small here =
    let at = λ (line k : ℕ). cond (nat_eq (line / side) 0 && nat_eq (k / side) n) (new (line % side) (k % side)) (get_or xs (line * (side * columns) + k) 0) in
    let top : r / side ≡ 0 = div-eq_of_lt low in
    let on : (nat_eq (r / side) 0 && nat_eq (c / side) n) ≡ true = and_from (nat_eq (r / side) 0) (nat_eq (c / side) n) (eq-eqb (r / side) 0 top) (eq-eqb (c / side) n here) in
    plane_at (side * 1) (side * columns) at r c (omega (arith, low)) small
    ∙ ap (λ (b : Bool). cond b (new (r % side) (c % side)) (get_or xs (r * (side * columns) + c) 0)) on

square_kept : (side columns n : ℕ) (new : ℕ → ℕ → ℕ) (xs : List ℕ) (r c : ℕ) → r < side → c < side * columns → (c / side ≡ n → ⊥)
    → get_or (plane_with (side * 1) (side * columns) side 0 n new xs) (r * (side * columns) + c) 0 ≡ get_or xs (r * (side * columns) + c) 0
unfolding plane_with
square_kept side columns n new xs r c low small other =
    let at = λ (line k : ℕ). cond (nat_eq (line / side) 0 && nat_eq (k / side) n) (new (line % side) (k % side)) (get_or xs (line * (side * columns) + k) 0) in
    let off = and_no (nat_eq (r / side) 0) (nat_eq (c / side) n) (ne_eqb (c / side) n other) in
    plane_at (side * 1) (side * columns) at r c (omega (arith, low)) small
    ∙ ap (λ (b : Bool). cond b (new (r % side) (c % side)) (get_or xs (r * (side * columns) + c) 0)) off

-- a sample of a row with one more macroblock
sample_more : (s : Samples) (n : ℕ) (new : Plane → ℕ → ℕ → ℕ) (plane : Plane) (line column : ℕ)
    → sample_of (with_macroblock 1 0 n new s) plane line column
    ≡ get_or (plane_with (side plane * 1) (side plane * s.dims.mb_width) (side plane) 0 n (new plane) (plane_of s plane)) (line * (side plane * s.dims.mb_width) + column) 0
sample_more s n new Y line column = refl
sample_more s n new Cb line column = refl
sample_more s n new Cr line column = refl

module _ (s : Samples) (d : Dims) (same : s.dims ≡ d) (n : ℕ) (new : Plane → ℕ → ℕ → ℕ) (plane : Plane) (line column : ℕ) (low : line < side plane) (small : column < columns_of d plane) where
  small_here : column < side plane * s.dims.mb_width
  small_here = subst (λ (e : Dims). column < side plane * e.mb_width) (sym same) small

  sample_set : column / side plane ≡ n → sample_of (with_macroblock 1 0 n new s) plane line column ≡ new plane line (column % side plane)
  sample_set here =
      sample_more s n new plane line column
      ∙ square_set (side plane) s.dims.mb_width n (new plane) (plane_of s plane) line column low small_here here
      ∙ ap (λ (k : ℕ). new plane k (column % side plane)) (mod-eq_of_lt low)

  sample_kept : (column / side plane ≡ n → ⊥) → sample_of (with_macroblock 1 0 n new s) plane line column ≡ sample_of s plane line column
  sample_kept other =
      sample_more s n new plane line column
      ∙ square_kept (side plane) s.dims.mb_width n (new plane) (plane_of s plane) line column low small_here other

-- ---- the row of a slice

-- the first n macroblocks of a slice, in a row of its own, and the decision of the next one
abbrev pub so_far : SliceTask → ℕ → Begun
so_far t n = begun t (blank t.source.dims 1) n

abbrev pub decided : SliceTask → ℕ → Decision
decided t n = decision t (so_far t n) n

row_suc : (t : SliceTask) (n : ℕ) → (so_far t (suc n)).row ≡ with_macroblock 1 0 n (candidate_at (decided t n) (choice_of (decided t n))) (so_far t n).row
unfolding begun with_candidate decision
row_suc t n = refl

-- a column has the macroblock that was chosen there, whatever follows
pub chosen_there : (t : SliceTask) (m n : ℕ) (plane : Plane) (line column : ℕ) → n < m → line < side plane → column < columns_of t.source.dims plane → column / side plane ≡ n
    → sample_of (so_far t m).row plane line column ≡ candidate_at (decided t n) (choice_of (decided t n)) plane line (column % side plane)
chosen_there t zero n plane line column lt low small here = absurd (omega (arith, lt))
chosen_there t (suc m) n plane line column lt low small here =
    let new = λ (k : ℕ). candidate_at (decided t k) (choice_of (decided t k)) in
    let size = row_dims t (blank t.source.dims 1) m in
    ap (λ (s : Samples). sample_of s plane line column) (row_suc t m) ∙ elim (cases_eq n m) [
      | inl is ↦
          sample_set (so_far t m).row t.source.dims size m (new m) plane line column low small (here ∙ is)
          ∙ ap (λ (k : ℕ). new k plane line (column % side plane)) (sym is)
      | inr other ↦
          sample_kept (so_far t m).row t.source.dims size m (new m) plane line column low small (λ e. other (sym here ∙ e))
          ∙ chosen_there t m n plane line column (below n m lt other) low small here
    ]
  where
    below : (i k : ℕ) → i < suc k → (i ≡ k → ⊥) → i < k
    below i k le ne = omega (arith, le, ne)

row_is : (t : SliceTask) → (slice_of t).row ≡ (so_far t t.context.columns).row
unfolding slice_of
row_is t = refl

pub some_side : (plane : Plane) → 0 < side plane
some_side Y = omega arith
some_side Cb = omega arith
some_side Cr = omega arith

-- samples that are those of the macroblock chosen for a column lie there in the frame
pub lies_at : (t : SliceTask) (at : Plane → ℕ → ℕ → ℕ) → IsSlice t → HasRowOf t at → (n : ℕ) → n < t.context.columns → (new : Plane → ℕ → ℕ → ℕ)
    → ((plane : Plane) (line column : ℕ) → line < side plane → column < side plane → new plane line column ≡ candidate_at (decided t n) (choice_of (decided t n)) plane line column)
    → LiesIn t.context (t.row * t.context.columns + n) new at
lies_at t at slice has n small new same plane line column among down across =
    let width = t.context.columns in
    let number = number_among (lines_in t.context) line in
    let row : number / side plane ≡ t.row = down ∙ div-mul-add t.row width n small in
    let here : column / side plane ≡ n = across ∙ mod-mul-add t.row width n small in
    let low : number % side plane < side plane = mod_below number (side plane) (some_side plane) in
    let within : column < t.source.dims.mb_width * side plane = (div-lt_iff_lt-mul (some_side plane)).0 (omega (arith, here, small, slice.columns)) in
    let inside : column < columns_of t.source.dims plane = omega (arith, within, mul_comm t.source.dims.mb_width (side plane)) in
    same plane (number % side plane) (column % side plane) low (mod_below column (side plane) (some_side plane))
    ∙ sym (chosen_there t width n plane (number % side plane) column small low inside here)
    ∙ sym (ap (λ (s : Samples). sample_of s plane (number % side plane) column) (row_is t))
    ∙ has.same plane line column among row inside
