-- Macroblocks of a row, one after another: their samples, their addresses and their states.
use Rattle.std.proofs.Common.{◌≡◌, ℕ, ◌+◌, ◌-◌, ◌*◌, ◌/◌, ◌%◌, ◌<◌, ◌≤◌, Bool, true, false, List, [], ◌∷◌, ◌++◌, length, refl, sym, ap, ◌∙◌, arith, append_assoc, inl, inr, ◌^◌, ℤ, pos, ◌+ℤ◌, ◌≤ℤ◌, mul-le-mul, add-mul, nat_eq, cond, length-append}
use Rattle.std.specs.Prelude.{nat_abs, unsigned_abs, not, ◌||◌, nat_lt, int_le, filter, if◌then◌else◌}
use Rattle.std.proofs.lemmas.Int.{ints}
use Rattle.std.proofs.lemmas.List.{append-nil}
use Rattle.std.proofs.lemmas.List.Elements.{filter-append}
use Rattle.std.proofs.lemmas.Nat.{mod-mul-add, div-mul-add}
use Rattle.std.proofs.lemmas.Bool.{cases_Bool, and_parts, ltb-true}
use Rattle.m2v_plane.specs.Samples.{Samples}
use Rattle.m2v_macro.specs.declared.values.SliceState.{SliceState}
use Rattle.m2v_macro.specs.declared.values.PictureContext.{PictureContext}
use Rattle.m2v_macro.specs.declared.values.MacroSyntax.{MacroSyntax}
use Rattle.m2v_macro.specs.States.{address, column, in_order, skips, after, at_start}
use Rattle.m2v_vlc.specs.declared.values.MbType.{MbType}
use Rattle.m2v_vlc.specs.Values.{has_type_b}
use Rattle.m2v_macro.specs.Conditions.{IsStep, IsReady, IsMacro, has_type}
use Rattle.m2v_macroblock.specs.Macroblocks.{Macroblock, after_macroblock}
use Rattle.m2v_macroblock.specs.Modes.{place_of}
use Rattle.m2v_macroblock.proofs.DcLaws.{dc_start, dc_behind-is}
use Rattle.m2v_model.specs.declared.setup.SliceSetup.{SliceSetup}
use Rattle.m2v_model.specs.Slices.{slice_start, begins_late, is_large}
use Rattle.m2v_model.specs.Samples.{References, Put, painted, all_painted}
use Rattle.m2v_dec_picture.specs.Conditions.{LiesInRow, IsBefore, IsState, AreDc, IsColumn, IsGap, IsSetup, rows_in, place_in, GoesOn, AreFew}

-- the macroblocks so far: whatever follows them is painted on what they left
abbrev pub Left : Put → SliceSetup → References → SliceState → Samples → List Macroblock → SliceState → Samples → Type 0
Left put s refs start before xs st now = (rest : List Macroblock) → all_painted put s refs start (xs ++ rest) before ≡ all_painted put s refs st rest now

pub left_first : (put : Put) (s : SliceSetup) (refs : References) (start : SliceState) (before : Samples) → Left put s refs start before [] start before
left_first put s refs start before = λ rest. refl

pub left_more : (put : Put) (s : SliceSetup) (refs : References) (start : SliceState) (before : Samples) (xs : List Macroblock) (st z : SliceState) (now painted_now : Samples) (x : Macroblock)
    → Left put s refs start before xs st now → z ≡ after_macroblock s.context st x → painted_now ≡ painted put s refs st x now
    → Left put s refs start before (xs ++ x ∷ []) z painted_now
unfolding all_painted
left_more put s refs start before xs st z now painted_now x h is told =
    λ rest. ap (λ (l : List Macroblock). all_painted put s refs start l before) (append_assoc xs (x ∷ []) rest) ∙ h (x ∷ rest) ∙ rw (is, told) refl

pub left_samples : (put : Put) (s : SliceSetup) (refs : References) (start : SliceState) (before : Samples) (xs : List Macroblock) (st : SliceState) (now : Samples)
    → Left put s refs start before xs st now → now ≡ all_painted put s refs start xs before
unfolding all_painted
left_samples put s refs start before xs st now h = sym (ap (λ (l : List Macroblock). all_painted put s refs start l before) (sym (append-nil xs)) ∙ h [])

false-true : false ≡ true → ⊥
false-true e = cc

-- ---- addresses

-- a macroblock in order lies in the row
pub inside_after : (c : PictureContext) (row : ℕ) (st : SliceState) (increment : ℕ) → IsBefore c row st → 1 ≤ increment → in_order c st increment ≡ true → LiesInRow c row (address st increment)
unfolding in_order column
inside_after c row st increment h some order =
    let below = ltb-true (column c st increment) c.columns (and_parts (nat_lt (column c st increment) c.columns) (not st.first || int_le (pos st.next) (address st increment)) order).0 in
    elim (cases_Bool st.first) [
      | inl e ↦
          let a = h.first e in
          let b : increment - 1 < c.columns = rw e at below in
          (increment - 1, b, omega (arith, ints, a, some))
      | inr e ↦
          let i = h.later e in
          let m = mod-mul-add row c.columns i.0 i.1 in
          let b : unsigned_abs st.address % c.columns + increment < c.columns = rw e at below in
          let d : (row * c.columns + i.0) % c.columns + increment < c.columns = rw i.2 at b in
          (i.0 + increment, omega (arith, m, d), omega (arith, ints, i.2))
    ]

-- where it stands
pub in_row_size : (c : PictureContext) (row : ℕ) (address : ℤ) → LiesInRow c row address
    → (row * c.columns ≤ nat_abs address) × (address ≡ pos (row * c.columns + (nat_abs address - row * c.columns))) × (nat_abs address - row * c.columns < c.columns)
in_row_size c row address i = rw i.2 (omega arith, ap pos (omega arith), omega (arith, i.1))

-- an address is a place of the row
pub place_is : (s : SliceSetup) (row column : ℕ) → column < s.context.columns → place_of s.context (row * s.context.columns + column) ≡ place_in s row column
place_is s row column lt =
    let d = div-mul-add row s.context.columns column lt in
    let m = mod-mul-add row s.context.columns column lt in
    λ i. record { row = d i; column = m i; structure = s.context.extension.structure }

-- ---- states

pub place_after : (c : PictureContext) (row : ℕ) (st : SliceState) (m : MacroSyntax) → IsBefore c row st → IsStep c st m.increment → LiesInRow c row (after c st m).address
unfolding after
place_after c row st m h step = inside_after c row st m.increment h step.some step.order

pub with_dc : (c : PictureContext) (row : ℕ) (st : SliceState) (dc : List ℤ) → IsState c row st → AreDc c.extension.dc_precision dc → IsState c row (record st { dc = dc })
with_dc c row st dc h d = record {
  ready = record { forward = h.ready.forward; backward = h.ready.backward; quantiser = h.ready.quantiser };
  dc = d;
  place = record { first = h.place.first; later = h.place.later; end = h.place.end };
  next = h.next;
  direction = h.direction;
}

-- how many of the macroblocks so far are large
one_large : (b : ℕ) (large : Bool) → is_large b ≡ large → length (filter is_large (b ∷ [])) ≡ cond large 1 0
one_large b true e = rw e refl
one_large b false e = rw e refl

pub large_more : (bits : List ℕ) (b : ℕ) (large : Bool) → is_large b ≡ large → length (filter is_large (bits ++ b ∷ [])) ≡ length (filter is_large bits) + cond large 1 0
large_more bits b large e =
    ap length (filter-append is_large bits (b ∷ [])) ∙ length-append (filter is_large bits) (filter is_large (b ∷ [])) ∙ ap (λ k. length (filter is_large bits) + k) (one_large b large e)

pub late_is : (columns row n covered : ℕ) (late : Bool) → late ≡ begins_late (row * columns) n covered → begins_late (row * columns) n covered ≡ late
late_is columns row n covered late h = sym h

-- ---- skipped macroblocks

-- none are skipped at a slice's start, and none by an increment of 1
pub gap_none : (c : PictureContext) (row : ℕ) (st : SliceState) (m : MacroSyntax) → skips st m.increment ≡ false → IsGap c row st m (record { column = 0; count = 0 })
gap_none c row st m e = record {
  count = rw e refl;
  first = λ some. absurd (omega (arith, some));
  within = λ some. absurd (omega (arith, some));
}

-- those between the macroblock before and this one
pub gap_is : (c : PictureContext) (row : ℕ) (st : SliceState) (m : MacroSyntax) (before : ℕ) → st.first ≡ false → skips st m.increment ≡ true → st.address ≡ pos (row * c.columns + before)
    → before < c.columns → in_order c st m.increment ≡ true → IsGap c row st m (record { column = before + 1; count = m.increment - 1 })
unfolding in_order column
gap_is c row st m before first e at lt order =
    let below = ltb-true (column c st m.increment) c.columns (and_parts (nat_lt (column c st m.increment) c.columns) (not st.first || int_le (pos st.next) (address st m.increment)) order).0 in
    let m2 = mod-mul-add row c.columns before lt in
    let b : unsigned_abs st.address % c.columns + m.increment < c.columns = rw first at below in
    let d : (row * c.columns + before) % c.columns + m.increment < c.columns = rw at at b in
    record {
      count = rw e refl;
      first = λ some. rw at (omega (arith, ints));
      within = λ some. omega (arith, m2, d, some);
    }

-- the column of the macroblock that was read
pub column_is : (c : PictureContext) (row : ℕ) (st : SliceState) (m : MacroSyntax) (z : SliceState) (column : ℕ) → z ≡ after c st m → z.address ≡ pos (row * c.columns + column) → column < c.columns
    → IsColumn c row st m column
unfolding after
column_is c row st m z column is at lt = record { address = ap (λ (s : SliceState). nat_abs s.address) (sym is) ∙ ap nat_abs at; below = lt }

-- ---- states behind a macroblock

-- a macroblock of a B picture that isn't intra has a direction (table B.4)
directed : (kind : MbType) → has_type_b kind ≡ true → kind.intra ≡ false → (kind.forward || kind.backward) ≡ true
directed kind has e = (and_parts (kind.forward || kind.backward) (not kind.quant || kind.pattern) (rw e at has)).0

pub state_after : (c : PictureContext) (row : ℕ) (st : SliceState) (m : MacroSyntax) → IsState c row st → IsMacro c st m → IsReady c (after c st m) → IsState c row (after c st m)
unfolding after has_type
state_after c row st m h fits ready = record {
  ready = ready;
  dc = dc_behind-is c st m h.dc;
  place = record { first = λ e. absurd (false-true e); later = λ e. inside_after c row st m.increment h.place fits.step.some fits.step.order; end = h.place.end };
  next = h.next;
  direction = λ kind first intra. directed m.kind (rw kind at fits.kind) intra;
}

le_tested : (a b : ℤ) → int_le a b ≡ true → a ≤ℤ b
le_tested a b e = grind (arith, ints)

-- an increment goes on, and a slice doesn't begin before the next uncovered macroblock
pub goes_on : (c : PictureContext) (st : SliceState) (m : MacroSyntax) (z : SliceState) → z ≡ after c st m → IsStep c st m.increment → GoesOn st z
unfolding after in_order
goes_on c st m z is step =
    let some = step.some in
    let late = (and_parts (nat_lt (column c st m.increment) c.columns) (not st.first || int_le (pos st.next) (address st m.increment)) step.order).1 in
    record {
      further = rw is (omega (arith, ints, some));
      first = ap (λ (s : SliceState). s.first) is;
      next = ap (λ (s : SliceState). s.next) is;
      begins = λ e. rw is (le_tested (pos st.next) (address st m.increment) (let l = rw e at late in l));
    }

-- no more macroblocks are large than were read, and these are at most those of the row
pub large_few : (c : PictureContext) (row next : ℕ) (st : SliceState) (large : ℕ) → IsBefore c row st → AreFew next st large → large ≤ 2 ^ 16
large_few c row next st large h few = elim (cases_Bool st.first) [
  | inl e ↦ let none = few.none e in omega (arith, none)
  | inr e ↦ let i = h.later e in let end = h.end in let some = few.some e in omega (arith, ints, i.2, i.1, some, end)
]

pub few_first : (st : SliceState) → st.first ≡ true → AreFew st.next st 0
few_first st e = record { none = λ f. refl; some = λ f. absurd (false-true (sym f ∙ e)); next = refl }

-- one macroblock more
pub few_more : (next : ℕ) (st z : SliceState) (large more : ℕ) → AreFew next st large → GoesOn st z → more ≤ large + 1 → AreFew next z more
few_more next st z large more few on le = record {
  none = λ e. absurd (false-true (sym on.first ∙ e));
  some = λ f. elim (cases_Bool st.first) [
    | inl e ↦
        let none = few.none e in
        let begins = on.begins e in
        let same = few.next in
        omega (arith, ints, none, begins, same, le)
    | inr e ↦
        let some = few.some e in
        let further = on.further in
        omega (arith, ints, some, further, le)
  ];
  next = on.next ∙ few.next;
}

-- the macroblocks of a slice that are large lie between the next uncovered macroblock and the slice's end
pub few_covered : (next large covered : ℕ) (st : SliceState) → AreFew next st large → st.first ≡ false → covered ≡ nat_abs (st.address +ℤ pos 1) → next + large ≤ covered
few_covered next large covered st few e is =
    let some = few.some e in
    omega (arith, ints, some, is)

pub large_then : (bits : List ℕ) (b large : ℕ) → large ≡ length (filter is_large bits) → is_large b ≡ true → large + 1 ≡ length (filter is_large (bits ++ b ∷ []))
large_then bits b large is e = ap (λ n. n + 1) is ∙ sym (large_more bits b true e)

pub large_else : (bits : List ℕ) (b large : ℕ) → large ≡ length (filter is_large bits) → is_large b ≡ false → large ≡ length (filter is_large (bits ++ b ∷ []))
large_else bits b large is e = let z : large ≡ large + 0 = omega arith in z ∙ ap (λ n. n + 0) is ∙ sym (large_more bits b false e)

pub one_more : (more large : ℕ) → more ≡ large + 1 → more ≤ large + 1
one_more more large e = omega (arith, e)

pub none_more : (more large : ℕ) → more ≡ large → more ≤ large + 1
none_more more large e = omega (arith, e)

pub not_more : (b : Bool) → not b ≡ true → b ≡ false
not_more true e = absurd cc
not_more false e = refl

pub still_more : (b : Bool) → not b ≡ false → b ≡ true
still_more true e = refl
still_more false e = absurd cc

-- ---- where a slice begins and ends

pub row_ends : (s : SliceSetup) (row : ℕ) → IsSetup s → row < rows_in s → row * s.context.columns + s.context.columns ≤ 2 ^ 16
row_ends s row h below =
    let few : row + 1 ≤ 72 = by_rows (nat_eq s.context.extension.structure 3) below in
    let most = mul-le-mul few h.picture.context.columns.1 in
    let e = add-mul row 1 s.context.columns in
    omega (arith, most, e)
  where
    by_rows : (whole : Bool) → row < (if whole then s.dims.mb_rows else s.dims.mb_rows / 2) → row + 1 ≤ 72
    by_rows true lt = omega (arith, lt, h.size.mb_rows)
    by_rows false lt = omega (arith, lt, h.size.mb_rows)

pub starts_in : (s : SliceSetup) (covered row quantiser : ℕ) → IsSetup s → row < rows_in s → covered ≤ 2 ^ 16 → IsReady s.context (slice_start s.context row covered quantiser)
    → IsState s.context row (slice_start s.context row covered quantiser)
unfolding slice_start at_start
starts_in s covered row quantiser h below most ready = record {
  ready = ready;
  dc = dc_start s.context row quantiser covered;
  place = record { first = λ e. refl; later = λ e. absurd (false-true (sym e)); end = row_ends s row h below };
  next = most;
  direction = λ kind first intra. absurd (false-true (sym first));
}

pub start_first : (c : PictureContext) (covered row quantiser : ℕ) → (slice_start c row covered quantiser).first ≡ true
unfolding slice_start at_start
start_first c covered row quantiser = refl

pub start_next : (c : PictureContext) (covered row quantiser : ℕ) → (slice_start c row covered quantiser).next ≡ covered
unfolding slice_start at_start
start_next c covered row quantiser = refl

-- what is behind an address of the row is not past the row's end
pub covered_most : (c : PictureContext) (row covered : ℕ) (address : ℤ) → LiesInRow c row address → covered ≡ nat_abs (address +ℤ pos 1) → covered ≤ (row + 1) * c.columns
covered_most c row covered address i is =
    let e = add-mul row 1 c.columns in
    let a : covered ≡ nat_abs (pos (row * c.columns + i.0) +ℤ pos 1) = rw i.2 at is in
    omega (arith, ints, e, a, i.1)

-- an address of the row is small
pub in_row_small : (c : PictureContext) (row : ℕ) (address : ℤ) → row * c.columns + c.columns ≤ 2 ^ 16 → LiesInRow c row address → (n : ℕ) × (n < 2 ^ 16) × (address ≡ pos n)
in_row_small c row address end i = (row * c.columns + i.0, omega (arith, end, i.1), i.2)

pub first_is : (c : PictureContext) (covered row quantiser : ℕ) (first : SliceState) → first ≡ at_start c row quantiser covered → first ≡ slice_start c row covered quantiser
unfolding slice_start
first_is c covered row quantiser first e = e
