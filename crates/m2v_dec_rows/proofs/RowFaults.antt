-- Faults of rows where a fault of headers stands behind the slices: nothing is said then of macroblocks that are missing
-- at the picture's end.
use Rattle.std.proofs.Common.{◌≡◌, ℕ, zero, suc, ◌+◌, ◌/◌, ◌^◌, ◌<◌, ◌≤◌, Bool, true, false, List, [], ◌∷◌, Option, Some, None, Ok, Err, ◌⊎◌, inl, inr, refl, sym, ap, subst, ◌∙◌, arith}
use Rattle.std.specs.Prelude.{nat_eq, if◌then◌else◌}
use Rattle.std.proofs.Math.Nat.{mul-le-mul}
use Rattle.std.proofs.lemmas.Bool.{cases_Bool, cases_lt, lt-ltb, le-ltb, ne_eqb, eqb-true}
use Rattle.m2v_plane.specs.Sizes.{IsSize}
use Rattle.m2v_model.specs.declared.fault.FaultKind.TheVariants.{MissingMacroblocks}
use Rattle.m2v_model.specs.declared.setup.SliceSetup.{SliceSetup}
use Rattle.m2v_dec_picture.specs.Conditions.{rows_in}
use Rattle.m2v_dec_rows.specs.Rows.{Slices, Placed, Begun, Read, slices_read, first_of, own, below, row_read, missing, covering, row_fault}
use Rattle.m2v_dec_rows.specs.ByRows.{picture_read, closed_by, picture_fault, ByRows}
use Rattle.m2v_dec_rows.specs.Halves.{NoneAbove}

-- ---- one row, with the picture's end and without

-- without a fault before the end, a row has none, or it isn't covered at the end
missing_end : (s : SliceSetup) (c end : ℕ) (later : Slices) → missing s c later None ≡ None → (missing s c later (Some end) ≡ None) ⊎ ((missing s c later (Some end) ≡ Some (MissingMacroblocks, end)) × (later ≡ []))
missing_end s c end [] e = inr (refl, refl)
missing_end s c end (u ∷ later) e = inl e

covering_end : (s : SliceSetup) (row end : ℕ) (later : Slices) (x : Read) → covering s row later None x ≡ None → (covering s row later (Some end) x ≡ None) ⊎ ((covering s row later (Some end) x ≡ Some (MissingMacroblocks, end)) × (later ≡ []))
covering_end s row end later (Err f) e = absurd (cc e)
covering_end s row end later (Ok x) e = elim (cases_Bool (nat_eq x.1 (first_of s (row + 1)))) [
  | inl on ↦ inl (rw on refl)
  | inr off ↦ rw off (missing_end s x.1 end later (rw off at e))
]

fault_end : (s : SliceSetup) (row end : ℕ) (us : Slices) → row_fault s row us None ≡ None → (row_fault s row us (Some end) ≡ None) ⊎ ((row_fault s row us (Some end) ≡ Some (MissingMacroblocks, end)) × (below row us ≡ []))
unfolding row_fault
fault_end s row end us e = covering_end s row end (below row us) (row_read s row us) e

-- a fault before the end is one with it
missing_same : (s : SliceSetup) (c end : ℕ) (later : Slices) (f : Placed) → missing s c later None ≡ Some f → missing s c later (Some end) ≡ Some f
missing_same s c end [] f e = absurd (cc e)
missing_same s c end (u ∷ later) f e = e

covering_same : (s : SliceSetup) (row end : ℕ) (later : Slices) (x : Read) (f : Placed) → covering s row later None x ≡ Some f → covering s row later (Some end) x ≡ Some f
covering_same s row end later (Err g) f e = e
covering_same s row end later (Ok x) f e = elim (cases_Bool (nat_eq x.1 (first_of s (row + 1)))) [
  | inl on ↦ absurd (cc (rw on at e))
  | inr off ↦ rw off (missing_same s x.1 end later f (rw off at e))
]

fault_same : (s : SliceSetup) (row end : ℕ) (us : Slices) (f : Placed) → row_fault s row us None ≡ Some f → row_fault s row us (Some end) ≡ Some f
unfolding row_fault
fault_same s row end us f e = covering_same s row end (below row us) (row_read s row us) f e

-- ---- the first row with a fault

abbrev Faulty : SliceSetup → Slices → ℕ → ℕ → Type 0
Faulty s us end n = (r : ℕ) × (f : Placed) × (r < n) × NoneAbove s us (Some end) r × (row_fault s r us (Some end) ≡ Some f)

one_more : (s : SliceSetup) (us : Slices) (end n : ℕ) (x : Option Placed) → row_fault s n us (Some end) ≡ x → NoneAbove s us (Some end) n → NoneAbove s us (Some end) (suc n) ⊎ Faulty s us end (suc n)
one_more s us end n None e none = inl (λ r lt. elim (cases_lt r n) [ inl less ↦ none r less | inr not_less ↦ subst (λ (k : ℕ). row_fault s k us (Some end) ≡ None) (omega (arith, lt, not_less)) e ])
one_more s us end n (Some f) e none = inr (n, f, omega arith, none, e)

first_row : (s : SliceSetup) (us : Slices) (end n : ℕ) → NoneAbove s us (Some end) n ⊎ Faulty s us end n
first_row s us end zero = inl (λ r lt. absurd (omega (arith, lt)))
first_row s us end (suc n) = elim (first_row s us end n) [
  | inl none ↦ one_more s us end n (row_fault s n us (Some end)) refl none
  | inr f ↦ let lt = f.2 in inr (f.0, f.1, omega (arith, lt), f.3, f.4)
]

-- ---- pictures

-- their slices were read
abbrev pub IsReadAll : SliceSetup → Slices → Type 0
IsReadAll s us = (x : List Begun × ℕ) × (picture_read s us ≡ Ok x)

apart : (P : Type 0) (f : Placed) → f ≡ (MissingMacroblocks, 0) → f ≡ (MissingMacroblocks, 1) → P
apart P f a b = absurd (omega (arith, ap (λ (x : Placed). x.1) (sym a ∙ b)))

pub some_is : (f g : Placed) → Some f ≡ Some g → f ≡ g
some_is f g e = cc

abbrev failed : Placed → Read
failed y = Err y

-- a fault that is told at each end is one of the slices
told_twice : (s : SliceSetup) (rows : ℕ) (f : Placed) (x : Read) → closed_by s rows 0 x ≡ Some f → closed_by s rows 1 x ≡ Some f → x ≡ Err f
told_twice s rows f (Err g) a b = ap failed (some_is g f a)
told_twice s rows f (Ok x) a b = elim (cases_Bool (nat_eq x.1 (first_of s rows))) [
  | inl on ↦ absurd (cc (rw on at a))
  | inr off ↦ apart _ f (sym (some_is _ f (rw off at a))) (sym (some_is _ f (rw off at b)))
]

-- behind a row below which no slice stands, rows have no slices
none_of : (q r : ℕ) (us : Slices) → q < r → below q us ≡ [] → (own r us ≡ []) × (below r us ≡ [])
none_of q r [] lt e = (refl, refl)
none_of q r (u ∷ us) lt e = elim (cases_lt q u.row) [
  | inl more ↦ absurd (cc (rw (lt-ltb q u.row more) at e))
  | inr less ↦
      let rest = none_of q r us lt (rw (le-ltb q u.row less) at e) in
      (rw (ne_eqb u.row r (λ same. absurd (omega (arith, less, lt, same)))) rest.0, rw (le-ltb r u.row (omega (arith, less, lt))) rest.1)
]

abbrev no_fault : Option Placed
no_fault = None

either_none : (b : Bool) → (if b then no_fault else no_fault) ≡ no_fault
either_none true = refl
either_none false = refl

bare_none : (s : SliceSetup) (row : ℕ) (us vs : Slices) → us ≡ [] → vs ≡ [] → covering s row vs None (slices_read s (Ok ([], first_of s row)) us) ≡ None
unfolding slices_read
bare_none s row us vs bare none = rw (bare, none) (either_none (nat_eq (first_of s row) (first_of s (row + 1))))

above_end : (s : SliceSetup) (us : Slices) (end r : ℕ) (f : Placed) → row_fault s r us None ≡ Some f → NoneAbove s us None r → NoneAbove s us (Some end) r
unfolding row_fault
above_end s us end r f e none q lt = elim (fault_end s q end us (none q lt)) [
  | inl is ↦ is
  | inr is ↦
      let bare = none_of q r us lt is.1 in
      absurd (cc (sym (bare_none s r (own r us) (below r us) bare.0 bare.1) ∙ e))
]

-- the fault of the first row with one is that of the slices
pub first_fault : (s : SliceSetup) (rows r : ℕ) (us : Slices) (f : Placed) → ((end : ℕ) → ByRows s rows us end) → r < rows → NoneAbove s us None r → row_fault s r us None ≡ Some f → picture_read s us ≡ Err f
unfolding picture_fault
first_fault s rows r us f h lt none e =
    told_twice s rows f (picture_read s us)
    ((h 0).first r f lt (above_end s us 0 r f e none) (fault_same s r 0 us f e))
    ((h 1).first r f lt (above_end s us 1 r f e none) (fault_same s r 1 us f e))

-- without one they were read, and cover the picture where its end is reached
pub closed_none : (s : SliceSetup) (rows end : ℕ) (x : Read) → closed_by s rows end x ≡ None → (y : List Begun × ℕ) × (x ≡ Ok y) × (y.1 ≡ first_of s rows)
closed_none s rows end (Err g) e = absurd (cc e)
closed_none s rows end (Ok y) e = elim (cases_Bool (nat_eq y.1 (first_of s rows))) [
  | inl on ↦ (y, refl, eqb-true y.1 (first_of s rows) on)
  | inr off ↦ absurd (cc (rw off at e))
]

closed_some : (s : SliceSetup) (rows end : ℕ) (f : Placed) (x : Read) → closed_by s rows end x ≡ Some f → ((y : List Begun × ℕ) × (x ≡ Ok y)) ⊎ (x ≡ Err f)
closed_some s rows end f (Err g) e = inr (ap failed (some_is g f e))
closed_some s rows end f (Ok y) e = inl (y, refl)

end_read : (s : SliceSetup) (rows end : ℕ) (us : Slices) → ByRows s rows us end → NoneAbove s us None rows → IsReadAll s us ⊎ (picture_read s us ≡ Err (MissingMacroblocks, end))
unfolding picture_fault
end_read s rows end us h none = elim (first_row s us end rows) [
  | inl all ↦ let c = closed_none s rows end (picture_read s us) (h.whole all) in inl (c.0, c.1)
  | inr f ↦ elim (fault_end s f.0 end us (none f.0 f.2)) [
    | inl is ↦ absurd (cc (sym is ∙ f.4))
    | inr is ↦ subst (λ (g : Placed). IsReadAll s us ⊎ (picture_read s us ≡ Err g)) (some_is f.1 (MissingMacroblocks, end) (sym f.4 ∙ is.0)) (closed_some s rows end f.1 (picture_read s us) (h.first f.0 f.1 f.2 f.3 f.4))
  ]
]

pub all_read : (s : SliceSetup) (rows : ℕ) (us : Slices) → ((end : ℕ) → ByRows s rows us end) → NoneAbove s us None rows → IsReadAll s us
all_read s rows us h none = elim (end_read s rows 0 us (h 0) none) [
  | inl is ↦ is
  | inr a ↦ elim (end_read s rows 1 us (h 1) none) [
    | inl is ↦ is
    | inr b ↦ let same : 0 ≡ 1 = ap place_of (sym a ∙ b) in absurd (omega (arith, same))
  ]
]
  where
    place_of : Read → ℕ
    place_of (Ok x) = 0
    place_of (Err f) = f.1

-- ---- the addresses of a picture

rows_few : (n : ℕ) (b : Bool) → n ≤ 72 → (if b then n else n / 2) ≤ 72
rows_few n true le = le
rows_few n false le = omega (arith, le)

-- addresses are small
pub addresses : (s : SliceSetup) (r : ℕ) → IsSize s.dims → s.dims.mb_width ≡ s.context.columns → r < rows_in s → first_of s (r + 1) ≤ 2 ^ 16
addresses s r size columns lt =
    let rows : r + 1 ≤ 72 = omega (arith, lt, rows_few s.dims.mb_rows (nat_eq s.context.extension.structure 3) size.mb_rows) in
    let wide : s.context.columns ≤ 120 = omega (arith, columns, size.mb_width, size.width) in
    omega (arith, mul-le-mul rows wide)
