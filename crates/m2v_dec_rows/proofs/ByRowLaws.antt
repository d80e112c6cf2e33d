-- A picture read row by row, and one read slice by slice.
use Rattle.std.proofs.Common.{◌≡◌, ℕ, zero, suc, ◌+◌, ◌^◌, ◌<◌, ◌≤◌, false, List, [], ◌∷◌, ◌++◌, ap, sym, refl, ◌∙◌, subst, arith, append_assoc, inl, inr}
use Rattle.std.specs.Prelude.{Bool, Some, None, Result, Ok, Err, nat_eq, nat_lt, if◌then◌else◌}
use Rattle.std.specs.List.{filter}
use Rattle.std.proofs.Math.Nat.{mul-le-mul, le_refl}
use Rattle.std.proofs.lemmas.Bool.{cases_lt, eq-eqb, eqb-true, lt-ltb, false_from_ne_true, ltb-true}
use Rattle.std.proofs.lemmas.Bool.Decides.{eqb_tells}
use Rattle.std.proofs.lemmas.List.{append-nil}
use Rattle.m2v_model.specs.declared.fault.FaultKind.TheVariants.{MissingMacroblocks}
use Rattle.m2v_model.specs.declared.setup.SliceSetup.{SliceSetup}
use Rattle.m2v_model.specs.Slices.{Slice}
use Rattle.m2v_dec_rows.specs.Rows.{Unread, Slices, Placed, Begun, Read, and_slice, slice_read, slices_read, first_of, own, below, row_read, fault_in, missing, covering, row_fault}
use Rattle.m2v_dec_rows.specs.ByRows.{AreOrdered, closed_by, picture_fault, ByRows}
use Rattle.m2v_dec_rows.proofs.OwnLaws.{slices_append, slices_stopped}
use Rattle.m2v_dec_rows.proofs.Starts.{begins, ends}

-- ---- the slices above a row, of it, and below it

abbrev pub is_above : ℕ → Unread → Bool
is_above row u = nat_lt u.row row

abbrev pub above : ℕ → Slices → Slices
above row us = filter (is_above row) us

not_lt : (a b : ℕ) → b ≤ a → nat_lt a b ≡ false
not_lt a b le = false_from_ne_true (nat_lt a b) (λ t. absurd (omega (arith, le, ltb-true a b t)))

not_eq : (a b : ℕ) → (a ≡ b → ⊥) → nat_eq a b ≡ false
not_eq a b ne = false_from_ne_true (nat_eq a b) (λ t. ne (eqb-true a b t))

none_above : (low rows r : ℕ) (us : Slices) → AreOrdered low rows us → r ≤ low → above r us ≡ []
none_above low rows r [] o le = refl
none_above low rows r (u ∷ us) o le = rw (not_lt u.row r (omega (arith, le, o.0))) (none_above u.row rows r us o.2 (omega (arith, le, o.0)))

none_own : (low rows r : ℕ) (us : Slices) → AreOrdered low rows us → r < low → own r us ≡ []
none_own low rows r [] o lt = refl
none_own low rows r (u ∷ us) o lt = rw (not_eq u.row r (λ e. absurd (omega (arith, lt, o.0, e)))) (none_own u.row rows r us o.2 (omega (arith, lt, o.0)))

all_below : (low rows r : ℕ) (us : Slices) → AreOrdered low rows us → r < low → below r us ≡ us
all_below low rows r [] o lt = refl
all_below low rows r (u ∷ us) o lt = rw (lt-ltb r u.row (omega (arith, lt, o.0))) (ap (λ l. u ∷ l) (all_below u.row rows r us o.2 (omega (arith, lt, o.0))))

pub all_above : (low rows : ℕ) (us : Slices) → AreOrdered low rows us → above rows us ≡ us
all_above low rows [] o = refl
all_above low rows (u ∷ us) o = rw (lt-ltb u.row rows o.1) (ap (λ l. u ∷ l) (all_above u.row rows us o.2))

-- those above a row, and then its own
pub above_next : (low rows r : ℕ) (us : Slices) → AreOrdered low rows us → above (r + 1) us ≡ above r us ++ own r us
above_next low rows r [] o = refl
above_next low rows r (u ∷ us) o = elim (cases_lt u.row r) [
  | inl less ↦
      rw (lt-ltb u.row (r + 1) (omega (arith, less)), lt-ltb u.row r less, not_eq u.row r (λ e. absurd (omega (arith, less, e)))) (ap (λ l. u ∷ l) (above_next u.row rows r us o.2))
  | inr more ↦ elim (cases_lt r u.row) [
    | inl past ↦
        let rest = above_next u.row rows r us o.2 in
        rw (not_lt u.row (r + 1) (omega (arith, past)), not_lt u.row r more, not_eq u.row r (λ e. absurd (omega (arith, past, e)))) rest
    | inr same ↦
        let is : u.row ≡ r = omega (arith, more, same) in
        let none = none_above u.row rows r us o.2 more in
        rw (lt-ltb u.row (r + 1) (omega (arith, is)), not_lt u.row r more, eq-eqb u.row r is, none)
        (ap (λ l. u ∷ l) (above_next u.row rows r us o.2 ∙ ap (λ (l : Slices). l ++ own r us) none))
  ]
]

-- those above a row, its own, and those below it
split_at : (low rows r : ℕ) (us : Slices) → AreOrdered low rows us → us ≡ above r us ++ (own r us ++ below r us)
split_at low rows r [] o = refl
split_at low rows r (u ∷ us) o = elim (cases_lt u.row r) [
  | inl less ↦
      rw (lt-ltb u.row r less, not_eq u.row r (λ e. absurd (omega (arith, less, e))), not_lt r u.row (omega (arith, less))) (ap (λ l. u ∷ l) (split_at u.row rows r us o.2))
  | inr more ↦ elim (cases_lt r u.row) [
    | inl past ↦
        let none = none_above u.row rows r us o.2 more in
        let own_none = none_own u.row rows r us o.2 past in
        rw (not_lt u.row r more, not_eq u.row r (λ e. absurd (omega (arith, past, e))), lt-ltb r u.row past, none, own_none) (ap (λ l. u ∷ l) (sym (all_below u.row rows r us o.2 past)))
    | inr same ↦
        let is : u.row ≡ r = omega (arith, more, same) in
        let none = none_above u.row rows r us o.2 more in
        rw (not_lt u.row r more, eq-eqb u.row r is, not_lt r u.row same, none)
        (ap (λ l. u ∷ l) (split_at u.row rows r us o.2 ∙ ap (λ (l : Slices). l ++ (own r us ++ below r us)) none))
  ]
]

-- ---- reading behind slices that were read

unfoldable pub with_front : List Begun → Read → Read
with_front xs (Ok x) = Ok (xs ++ x.0, x.1)
with_front xs (Err f) = Err f

front_step : (s : SliceSetup) (xs zs : List Begun) (row covered : ℕ) (us : Slices) (r : Result Slice Placed)
    → ((ys : List Begun) (n : ℕ) → slices_read s (Ok (xs ++ ys, n)) us ≡ with_front xs (slices_read s (Ok (ys, n)) us))
    → slices_read s (and_slice (xs ++ zs) row covered r) us ≡ with_front xs (slices_read s (and_slice zs row covered r) us)
unfolding with_front
front_step s xs zs row covered us (Ok x) before =
    let b : Begun = record { row = row; before = covered; slice = x } in
    ap (λ (l : List Begun). slices_read s (Ok (l, x.covered)) us) (append_assoc xs zs (b ∷ [])) ∙ before (zs ++ b ∷ []) x.covered
front_step s xs zs row covered us (Err f) before = slices_stopped s f us ∙ sym (ap (with_front xs) (slices_stopped s f us))

pub prefixed : (s : SliceSetup) (xs zs : List Begun) (covered : ℕ) (us : Slices) → slices_read s (Ok (xs ++ zs, covered)) us ≡ with_front xs (slices_read s (Ok (zs, covered)) us)
unfolding slices_read with_front
prefixed s xs zs covered [] = refl
prefixed s xs zs covered (u ∷ us) = front_step s xs zs u.row covered us (slice_read s covered u) (λ ys n. prefixed s xs ys n us)

-- ---- how far a row's slices reach

unfoldable pub IsOwn : ℕ → Slices → Type 0
IsOwn row [] = Unit {0}
IsOwn row (u ∷ us) = (u.row ≡ row) × IsOwn row us

pub own_is : (row : ℕ) (us : Slices) → IsOwn row (own row us)
unfolding IsOwn
own_is row [] = tt
own_is row (u ∷ us) = elim (eqb_tells u.row row) [
  | inl h ↦ rw h.0 (h.1, own_is row us)
  | inr h ↦ rw h.0 (own_is row us)
]

AreBelow : ℕ → Slices → Type 0
AreBelow row [] = Unit {0}
AreBelow row (u ∷ us) = (row < u.row) × AreBelow row us

below_is : (row : ℕ) (us : Slices) → AreBelow row (below row us)
unfolding AreBelow
below_is row [] = tt
below_is row (u ∷ us) = elim (cases_lt row u.row) [
  | inl less ↦ rw (lt-ltb row u.row less) (less, below_is row us)
  | inr more ↦ rw (not_lt row u.row more) (below_is row us)
]

covered_or : Read → ℕ
covered_or (Ok x) = x.1
covered_or (Err f) = 0

ok_covered : (xs ys : List Begun) (m n : ℕ) (r : Read) → r ≡ Ok (xs, m) → r ≡ Ok (ys, n) → m ≡ n
unfolding covered_or
ok_covered xs ys m n r e f = ap covered_or (sym e ∙ f)

most_step : (s : SliceSetup) (row c c0 : ℕ) (u : Unread) (us : Slices) (xs ys : List Begun) (r : Result Slice Placed) → first_of s (row + 1) ≤ 2 ^ 16 → u.row ≡ row → slice_read s c0 u ≡ r
    → ((zs : List Begun) (n : ℕ) → n ≤ first_of s (row + 1) → slices_read s (Ok (zs, n)) us ≡ Ok (ys, c) → c ≤ first_of s (row + 1))
    → slices_read s (and_slice xs u.row c0 r) us ≡ Ok (ys, c) → c ≤ first_of s (row + 1)
most_step s row c c0 u us xs ys (Ok x) small own read later e =
    later (xs ++ record { row = u.row; before = c0; slice = x } ∷ []) x.covered
    (subst (λ (k : ℕ). x.covered ≤ first_of s (k + 1)) own (ends s u c0 x (subst (λ (k : ℕ). first_of s (k + 1) ≤ 2 ^ 16) (sym own) small) read)) e
most_step s row c c0 u us xs ys (Err f) small own read later e = absurd (cc (sym (slices_stopped s f us) ∙ e))

own_most : (s : SliceSetup) (row c0 c : ℕ) (us : Slices) (xs ys : List Begun) → first_of s (row + 1) ≤ 2 ^ 16 → IsOwn row us → c0 ≤ first_of s (row + 1)
    → slices_read s (Ok (xs, c0)) us ≡ Ok (ys, c) → c ≤ first_of s (row + 1)
unfolding slices_read IsOwn
own_most s row c0 c [] xs ys small own le e = omega (arith, le, ok_covered xs ys c0 c (Ok (xs, c0)) refl e)
own_most s row c0 c (u ∷ us) xs ys small own le e =
    most_step s row c c0 u us xs ys (slice_read s c0 u) small own.0 refl (λ zs n few read. own_most s row n c us zs ys small own.1 few read) e

-- ---- rows without a fault

-- macroblocks that are missing are told
next_told : (s : SliceSetup) (row c : ℕ) (u : Unread) (r : Result Slice Placed) → slice_read s c u ≡ r → c < first_of s (row + 1) → row < u.row → fault_in r ≡ None → ⊥
next_told s row c u (Ok x) read few later e =
    let start = begins s u c x read in
    let far = mul-le-mul later (le_refl s.context.columns) in
    absurd (omega (arith, start, few, far))
next_told s row c u (Err f) read few later e = absurd (cc e)

missing_told : (s : SliceSetup) (row c : ℕ) (later : Slices) (end : ℕ) → c < first_of s (row + 1) → AreBelow row later → missing s c later (Some end) ≡ None → ⊥
unfolding AreBelow
missing_told s row c [] end few are e = absurd (cc e)
missing_told s row c (u ∷ later) end few are e = next_told s row c u (slice_read s c u) refl few are.0 e

row_first : (s : SliceSetup) (row : ℕ) → first_of s row ≤ first_of s (row + 1)
row_first s row = mul-le-mul (omega (arith)) (le_refl s.context.columns)

-- the slices of a row without a fault cover it
pub row_whole : (s : SliceSetup) (row : ℕ) (us : Slices) (end : ℕ) (r : Read) → first_of s (row + 1) ≤ 2 ^ 16 → row_read s row us ≡ r → covering s row (below row us) (Some end) r ≡ None
    → (ys : List Begun) × (row_read s row us ≡ Ok (ys, first_of s (row + 1)))
row_whole s row us end (Ok x) small read e = elim (eqb_tells x.1 (first_of s (row + 1))) [
  | inl h ↦ (x.0, read ∙ ap (λ (n : ℕ). Ok (x.0, n)) h.1)
  | inr h ↦
      let le = own_most s row (first_of s row) x.1 (own row us) [] x.0 small (own_is row us) (row_first s row) read in
      let told : missing s x.1 (below row us) (Some end) ≡ None = rw h.0 at e in
      absurd (missing_told s row x.1 (below row us) end (less_than x.1 (first_of s (row + 1)) le h.1) (below_is row us) told)
]
  where
    less_than : (a b : ℕ) → a ≤ b → (a ≡ b → ⊥) → a < b
    less_than a b le ne = omega (arith, le, ne)
row_whole s row us end (Err f) small read e = absurd (cc e)

-- ---- the picture

abbrev pub Reach : SliceSetup → Slices → ℕ → Type 0
Reach s us r = (xs : List Begun) × (slices_read s (Ok ([], 0)) (above r us) ≡ Ok (xs, first_of s r))

-- behind the rows above, a row's slices are read as it says
pub reached : (s : SliceSetup) (r : ℕ) (us : Slices) (vs : Slices) (h : Reach s us r) → slices_read s (Ok ([], 0)) (above r us ++ vs) ≡ with_front h.0 (slices_read s (Ok ([], first_of s r)) vs)
reached s r us vs h =
    slices_append s (Ok ([], 0)) (above r us) vs
    ∙ ap (λ (x : Read). slices_read s x vs) (h.1 ∙ ap (λ (l : List Begun). Ok (l, first_of s r)) (sym (append-nil h.0)))
    ∙ prefixed s h.0 [] (first_of s r) vs

pub none_first : (us : Slices) → above 0 us ≡ []
none_first [] = refl
none_first (u ∷ us) = rw (not_lt u.row 0 (omega arith)) (none_first us)

reach_first : (s : SliceSetup) (us : Slices) → Reach s us 0
unfolding slices_read
reach_first s us =
    let none : 0 ≡ first_of s 0 = omega arith in
    ([], ap (slices_read s (Ok ([], 0))) (none_first us) ∙ ap (λ (n : ℕ). Ok ([], n)) none)

reach_next : (s : SliceSetup) (rows r : ℕ) (us : Slices) (end : ℕ) → first_of s (r + 1) ≤ 2 ^ 16 → AreOrdered 0 rows us → Reach s us r → row_fault s r us (Some end) ≡ None → Reach s us (r + 1)
unfolding row_fault with_front
reach_next s rows r us end small o h none =
    let whole = row_whole s r us end (row_read s r us) small refl none in
    (h.0 ++ whole.0, ap (slices_read s (Ok ([], 0))) (above_next 0 rows r us o) ∙ reached s r us (own r us) h ∙ ap (with_front h.0) whole.1)

reach : (s : SliceSetup) (rows r : ℕ) (us : Slices) (end : ℕ) → ((q : ℕ) → q < r → first_of s (q + 1) ≤ 2 ^ 16) → AreOrdered 0 rows us → ((q : ℕ) → q < r → row_fault s q us (Some end) ≡ None) → Reach s us r
reach s rows zero us end small o none = reach_first s us
reach s rows (suc r) us end small o none =
    subst (Reach s us) (omega arith)
    (reach_next s rows r us end (small r (omega arith)) o (reach s rows r us end (λ q lt. small q (omega (arith, lt))) o (λ q lt. none q (omega (arith, lt)))) (none r (omega arith)))

-- the slices of the rows above a row and of that row, where they cover it
pub row_more : (s : SliceSetup) (rows r : ℕ) (us : Slices) (xs ys : List Begun) → AreOrdered 0 rows us → slices_read s (Ok ([], 0)) (above r us) ≡ Ok (xs, first_of s r) → row_read s r us ≡ Ok (ys, first_of s (r + 1))
    → slices_read s (Ok ([], 0)) (above (r + 1) us) ≡ Ok (xs ++ ys, first_of s (r + 1))
unfolding with_front
row_more s rows r us xs ys o before own_read =
    ap (slices_read s (Ok ([], 0))) (above_next 0 rows r us o) ∙ reached s r us (own r us) (xs, before) ∙ ap (with_front xs) own_read

pub none_more : (s : SliceSetup) (us : Slices) → slices_read s (Ok ([], 0)) (above 0 us) ≡ Ok ([], first_of s 0)
unfolding slices_read
none_more s us = let none : 0 ≡ first_of s 0 = omega arith in ap (slices_read s (Ok ([], 0))) (none_first us) ∙ ap (λ (n : ℕ). Ok ([], n)) none

-- macroblocks that are missing, by what the next slice says
next_stops : (s : SliceSetup) (rows end row : ℕ) (x : List Begun × ℕ) (f : Placed) (xs : List Begun) (later : Slices) (r : Result Slice Placed)
    → fault_in r ≡ Some f → closed_by s rows end (with_front xs (slices_read s (and_slice x.0 row x.1 r) later)) ≡ Some f
unfolding with_front
next_stops s rows end row x f xs later (Ok y) e = absurd (cc e)
next_stops s rows end row x f xs later (Err g) e = ap (λ (y : Read). closed_by s rows end (with_front xs y)) (slices_stopped s g later) ∙ e

below_told : (s : SliceSetup) (rows r end : ℕ) (x : List Begun × ℕ) (f : Placed) (xs : List Begun) (later : Slices) → x.1 < first_of s (r + 1) → r < rows
    → missing s x.1 later (Some end) ≡ Some f → closed_by s rows end (with_front xs (slices_read s (Ok x) later)) ≡ Some f
unfolding slices_read with_front
below_told s rows r end x f xs [] few lt e =
    let far = mul-le-mul lt (le_refl s.context.columns) in
    ap (λ (b : Bool). if b then None else Some (MissingMacroblocks, end)) (not_eq x.1 (first_of s rows) (λ same. absurd (omega (arith, few, far, same)))) ∙ e
below_told s rows r end x f xs (u ∷ later) few lt e = next_stops s rows end u.row x f xs later (slice_read s x.1 u) e

-- a row's first fault is the picture's
fault_told : (s : SliceSetup) (rows r : ℕ) (us : Slices) (end : ℕ) (x : Read) (f : Placed) (xs : List Begun) → first_of s (r + 1) ≤ 2 ^ 16 → r < rows
    → row_read s r us ≡ x → covering s r (below r us) (Some end) x ≡ Some f → closed_by s rows end (with_front xs (slices_read s x (below r us))) ≡ Some f
unfolding with_front
fault_told s rows r us end (Err g) f xs small lt read e = ap (λ (y : Read). closed_by s rows end (with_front xs y)) (slices_stopped s g (below r us)) ∙ e
fault_told s rows r us end (Ok x) f xs small lt read e = elim (eqb_tells x.1 (first_of s (r + 1))) [
  | inl t ↦ absurd (cc (rw t.0 at e))
  | inr t ↦
      let le = own_most s r (first_of s r) x.1 (own r us) [] x.0 small (own_is r us) (row_first s r) read in
      below_told s rows r end x f xs (below r us) (omega (arith, le, t.1)) lt (rw t.0 at e)
]

pub by_rows : (s : SliceSetup) (rows : ℕ) (us : Slices) (end : ℕ) → ((r : ℕ) → r < rows → first_of s (r + 1) ≤ 2 ^ 16) → AreOrdered 0 rows us → ByRows s rows us end
unfolding picture_fault row_fault
by_rows s rows us end small o = record {
  whole = λ none.
      let h = reach s rows rows us end small o none in
      let all = ap (slices_read s (Ok ([], 0))) (sym (all_above 0 rows us o)) ∙ h.1 in
      ap (closed_by s rows end) all ∙ ap (λ (b : Bool). if b then None else Some (MissingMacroblocks, end)) (eq-eqb (first_of s rows) (first_of s rows) refl);
  first = λ r f lt none e.
      let h = reach s rows r us end (λ q less. small q (omega (arith, lt, less))) o none in
      let read = ap (slices_read s (Ok ([], 0))) (split_at 0 rows r us o) ∙ reached s r us (own r us ++ below r us) h
      ∙ ap (with_front h.0) (slices_append s (Ok ([], first_of s r)) (own r us) (below r us)) in
      ap (closed_by s rows end) read ∙ fault_told s rows r us end (row_read s r us) f h.0 (small r lt) lt refl e;
}
