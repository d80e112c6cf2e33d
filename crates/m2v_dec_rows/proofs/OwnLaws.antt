-- Slices read and painted one behind another, and those of a row among the slices of a piece.
use Rattle.std.proofs.Common.{◌≡◌, ℕ, ◌+◌, ◌*◌, ◌/◌, ◌^◌, ◌<◌, ◌≤◌, true, false, List, [], ◌∷◌, ◌++◌, length, take, drop, map, get_or, ap, sym, refl, ◌∙◌, arith}
use Rattle.std.specs.Prelude.{Bool, Option, Result, Ok, Err, nat_eq, cond}
use Rattle.std.specs.Result.{result_err}
use Rattle.std.specs.List.{filter}
use Rattle.std.proofs.Math.Nat.{mul-le-mul}
use Rattle.std.proofs.lemmas.Bool.{eq-eqb, eqb-true, lt-ltb, false_from_ne_true}
use Rattle.std.proofs.lemmas.List.{take_more, take-append-drop, map-append, append-nil}
use Rattle.std.proofs.lemmas.List.Elements.{filter-append}
use Rattle.m2v_plane.specs.Samples.{Samples}
use Rattle.m2v_model.specs.declared.setup.SliceSetup.{SliceSetup}
use Rattle.m2v_model.specs.Samples.{References, Put}
use Rattle.m2v_model.specs.Slices.{Slice}
use Rattle.m2v_dec_picture.specs.Conditions.{IsSetup, rows_in}
use Rattle.m2v_dec_piece.specs.declared.answer.Fault.{Fault}
use Rattle.m2v_dec_rows.specs.Reads.{TellsUnread, as_placed}
use Rattle.m2v_dec_rows.specs.declared.opened.SliceUnit.{SliceUnit}
use Rattle.m2v_dec_rows.specs.Rows.{Unread, Slices, Placed, Begun, Read, and_slice, slice_read, then_slice, slices_read, own, below, is_of, is_below, fault_in, missing, begun_painted, slices_painted}

-- one slice more is read, and painted
pub slices_snoc : (s : SliceSetup) (now : Read) (us : Slices) (u : Unread) → slices_read s now (us ++ u ∷ []) ≡ then_slice s (slices_read s now us) u
unfolding slices_read
slices_snoc s now [] u = refl
slices_snoc s now (v ∷ us) u = slices_snoc s (then_slice s now v) us u

pub painted_snoc : (put : Put) (s : SliceSetup) (refs : References) (now : Samples) (xs : List Begun) (x : Begun)
    → slices_painted put s refs now (xs ++ x ∷ []) ≡ begun_painted put s refs (slices_painted put s refs now xs) x
unfolding slices_painted
painted_snoc put s refs now [] x = refl
painted_snoc put s refs now (y ∷ xs) x = painted_snoc put s refs (begun_painted put s refs now y) xs x

-- those that pass a test among one more
filter_one : (p : Unread → Bool) (u : Unread) (b : Bool) → p u ≡ b → filter p (u ∷ []) ≡ cond b (u ∷ []) []
filter_one p u true e = rw e refl
filter_one p u false e = rw e refl

pub taken_more : (p : Unread → Bool) (f : SliceUnit → Unread) (items : List SliceUnit) (i : ℕ) (d : SliceUnit) (b : Bool) → i < length items → p (f (get_or items i d)) ≡ b
    → filter p (map f (take (i + 1) items)) ≡ filter p (map f (take i items)) ++ cond b (f (get_or items i d) ∷ []) []
taken_more p f items i d b lt e =
    ap (λ (l : List SliceUnit). filter p (map f l)) (take_more items i d lt)
    ∙ ap (filter p) (map-append f (take i items) (get_or items i d ∷ []))
    ∙ filter-append p (map f (take i items)) (f (get_or items i d) ∷ [])
    ∙ ap (λ (l : List Unread). filter p (map f (take i items)) ++ l) (filter_one p (f (get_or items i d)) b e)

pub taken_same : (p : Unread → Bool) (f : SliceUnit → Unread) (items : List SliceUnit) (i : ℕ) (d : SliceUnit) → i < length items → p (f (get_or items i d)) ≡ false
    → filter p (map f (take (i + 1) items)) ≡ filter p (map f (take i items))
taken_same p f items i d lt e = taken_more p f items i d false lt e ∙ append-nil (filter p (map f (take i items)))

-- the addresses of a picture are small
rows_most : (s : SliceSetup) (b : Bool) → s.dims.mb_rows ≤ 72 → cond b s.dims.mb_rows (s.dims.mb_rows / 2) ≤ 72
rows_most s true le = le
rows_most s false le = omega (arith, le)

pub row_end : (s : SliceSetup) (row : ℕ) → IsSetup s → row < rows_in s → (row + 1) * s.context.columns ≤ 2 ^ 16
row_end s row is lt =
    let rows : row + 1 ≤ 72 = omega (arith, lt, rows_most s (nat_eq s.context.extension.structure 3) is.size.mb_rows) in
    let wide : s.context.columns ≤ 120 = omega (arith, is.columns, is.size.mb_width, is.size.width) in
    omega (arith, mul-le-mul rows wide)

-- ---- reading a row's slices

pub slices_append : (s : SliceSetup) (now : Read) (us vs : Slices) → slices_read s now (us ++ vs) ≡ slices_read s (slices_read s now us) vs
unfolding slices_read
slices_append s now [] vs = refl
slices_append s now (u ∷ us) vs = slices_append s (then_slice s now u) us vs

-- nothing is read behind a fault
pub slices_stopped : (s : SliceSetup) (f : Placed) (us : Slices) → slices_read s (Err f) us ≡ Err f
unfolding slices_read
slices_stopped s f [] = refl
slices_stopped s f (u ∷ us) = slices_stopped s f us

-- a slice of the row is read behind those before it
own_next : (s : SliceSetup) (now : Read) (row : ℕ) (f : SliceUnit → Unread) (items : List SliceUnit) (i : ℕ) (d : SliceUnit) (x : List Begun × ℕ)
    → i < length items → is_of row (f (get_or items i d)) ≡ true → slices_read s now (own row (map f (take i items))) ≡ Ok x
    → slices_read s now (own row (map f (take (i + 1) items))) ≡ then_slice s (Ok x) (f (get_or items i d))
own_next s now row f items i d x lt e before =
    ap (slices_read s now) (taken_more (is_of row) f items i d true lt e)
    ∙ slices_snoc s now (own row (map f (take i items))) (f (get_or items i d))
    ∙ ap (λ (r : Read). then_slice s r (f (get_or items i d))) before

pub own_more : (s : SliceSetup) (now : Read) (row : ℕ) (f : SliceUnit → Unread) (items : List SliceUnit) (i : ℕ) (d : SliceUnit) (xs : List Begun) (covered : ℕ) (x : Slice)
    → i < length items → (f (get_or items i d)).row ≡ row → slices_read s now (own row (map f (take i items))) ≡ Ok (xs, covered) → slice_read s covered (f (get_or items i d)) ≡ Ok x
    → slices_read s now (own row (map f (take (i + 1) items))) ≡ Ok (xs ++ record { row = (f (get_or items i d)).row; before = covered; slice = x } ∷ [], x.covered)
own_more s now row f items i d xs covered x lt e before read =
    own_next s now row f items i d (xs, covered) lt (eq-eqb (f (get_or items i d)).row row e) before
    ∙ ap (and_slice xs (f (get_or items i d)).row covered) read

-- a slice of another row changes nothing
pub taken_read : (s : SliceSetup) (now : Read) (row : ℕ) (f : SliceUnit → Unread) (items : List SliceUnit) (i : ℕ) (d : SliceUnit)
    → i < length items → ((f (get_or items i d)).row ≡ row → ⊥) → slices_read s now (own row (map f (take (i + 1) items))) ≡ slices_read s now (own row (map f (take i items)))
taken_read s now row f items i d lt ne =
    ap (slices_read s now) (taken_same (is_of row) f items i d lt (false_from_ne_true (is_of row (f (get_or items i d))) (λ t. ne (eqb-true (f (get_or items i d)).row row t))))

pub own_fails : (s : SliceSetup) (now : Read) (row : ℕ) (f : SliceUnit → Unread) (items : List SliceUnit) (i : ℕ) (d : SliceUnit) (xs : List Begun) (covered : ℕ) (g : Placed)
    → i < length items → (f (get_or items i d)).row ≡ row → slices_read s now (own row (map f (take i items))) ≡ Ok (xs, covered) → slice_read s covered (f (get_or items i d)) ≡ Err g
    → slices_read s now (own row (map f items)) ≡ Err g
own_fails s now row f items i d xs covered g lt e before read =
    let front = map f (take (i + 1) items) in
    let back = map f (drop (i + 1) items) in
    let stopped = own_next s now row f items i d (xs, covered) lt (eq-eqb (f (get_or items i d)).row row e) before
    ∙ ap (and_slice xs (f (get_or items i d)).row covered) read in
    ap (λ (l : List SliceUnit). slices_read s now (own row (map f l))) (sym (take-append-drop (i + 1) items))
    ∙ ap (λ (l : List Unread). slices_read s now (own row l)) (map-append f (take (i + 1) items) (drop (i + 1) items))
    ∙ ap (slices_read s now) (filter-append (is_of row) front back)
    ∙ slices_append s now (own row front) (own row back)
    ∙ ap (λ (r : Read). slices_read s r (own row back)) stopped
    ∙ slices_stopped s g (own row back)

-- ---- slices below a row

-- the first slice below a row is found behind those that aren't
pub below_found : (row : ℕ) (f : SliceUnit → Unread) (items : List SliceUnit) (i : ℕ) (d : SliceUnit) → i < length items → row < (f (get_or items i d)).row
    → below row (map f (take i items)) ≡ [] → below row (map f items) ≡ f (get_or items i d) ∷ below row (map f (drop (i + 1) items))
below_found row f items i d lt e none =
    let front = map f (take (i + 1) items) in
    let back = map f (drop (i + 1) items) in
    ap (λ (l : List SliceUnit). below row (map f l)) (sym (take-append-drop (i + 1) items))
    ∙ ap (below row) (map-append f (take (i + 1) items) (drop (i + 1) items))
    ∙ filter-append (is_below row) front back
    ∙ ap (λ (l : List Unread). l ++ below row back) (taken_more (is_below row) f items i d true lt (lt-ltb row (f (get_or items i d)).row e))
    ∙ ap (λ (l : List Unread). (l ++ f (get_or items i d) ∷ []) ++ below row back) none

-- what the next slice says of macroblocks that are missing
pub error_told : (s : SliceSetup) (refs : References) (covered : ℕ) (u : Unread) (us : Slices) (end : Option ℕ) (old now : Samples) (r : Result ℕ Fault) {e : Option Fault}
    → TellsUnread s refs covered u old r now → e ≡ result_err r → as_placed e ≡ missing s covered (u ∷ us) end
error_told s refs covered u us end old now (Ok n) t e = ap as_placed e ∙ sym (ap fault_in t.1)
error_told s refs covered u us end old now (Err f) t e = ap as_placed e ∙ sym (ap fault_in t)
