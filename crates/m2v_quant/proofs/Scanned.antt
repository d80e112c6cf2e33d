-- Coefficients of the first levels alone: one level more, a level that is 0, eight of them.
use Rattle.std.proofs.Common.{◌≡◌, ◌≢◌, ℕ, zero, suc, ◌+◌, ◌-◌, ◌*◌, ◌/◌, ◌%◌, ◌^◌, ◌<◌, ◌≤◌, Bool, true, false, refl, ap, sym, subst, ◌∙◌, arith, List, length, map, take, get_or, set, replicate, get_or-set_other, get_or-set_same, ℤ, pos, ◌+ℤ◌, inl, inr, w32}
use Rattle.std.specs.Prelude.{unsigned_abs, nat_eq, ◌&&◌, slice_index, if◌then◌else◌, ◌*ℤ◌, neg_ℤ, All}
use Rattle.std.specs.Int.{int_max, int_min}
use Rattle.std.specs.Int.RustNames.{int_div}
use Rattle.std.specs.List.{range_with_len}
use Rattle.std.specs.Int.Bits.{bit_or}
use Rattle.std.proofs.lemmas.Nat.{le_or_l, le_or_r}
use Rattle.std.proofs.lemmas.Int.{ints, clamps}
use Rattle.std.proofs.lemmas.Bool.{cases_eq, cases_lt, ne_eqb}
use Rattle.std.proofs.lemmas.List.{get_or-take, get_or_past, length-take-le, get_or-replicate, take_all}
use Rattle.std.proofs.lemmas.List.Elements.{All-from_get_or}
use Rattle.std.proofs.lemmas.List.FromFn.{fill_by_all, get_or-map-range_with_len}
use Rattle.std.specs.Int.{bit_at}
use Rattle.std.proofs.lemmas.Nat.Bits.{bit_at_or, bit_at_set_same}
use Rattle.m2v_quant.specs.declared.inverse.Told.{Told}
use Rattle.m2v_quant.specs.declared.kind.BlockKind.{BlockKind}
use Rattle.m2v_quant.specs.Kinds.{IsCoefficient}
use Rattle.m2v_quant.specs.Scans.{zigzag, alternate, scan_order}
use Rattle.m2v_quant.specs.Coefficients.{position, ac_coefficient, dc_coefficient, saturated, saturated_of, saturated_at, coefficient_sum}
use Rattle.m2v_quant.specs.Prefix.{AreInRows, AreSaturated, IsUpTo}
use Rattle.m2v_quant.proofs.Reconstruction.{parity_more}
use Rattle.m2v_quant.proofs.Zeros.{zeros_at}

-- the level at p, 0 behind the first n
abbrev first : List ℤ → ℕ → ℕ → ℤ
first levels n p = get_or (take n levels) p (pos 0)

first_before : (levels : List ℤ) (n p : ℕ) → p < n → first levels n p ≡ get_or levels p (pos 0)
first_before levels n p lt = get_or-take n levels p (pos 0) lt

first_behind : (levels : List ℤ) (n p : ℕ) → n ≤ length levels → n ≤ p → first levels n p ≡ pos 0
first_behind levels n p len le = get_or_past (take n levels) p (pos 0) (let e : length (take n levels) ≡ n = length-take-le n levels len in omega arith)

-- positions and places
places_zigzag : map (λ i. position false (slice_index (scan_order false) i)) (range_with_len 0 64) ≡ map (λ i. i) (range_with_len 0 64)
unfolding position scan_order zigzag
places_zigzag = refl

places_alternate : map (λ i. position true (slice_index (scan_order true) i)) (range_with_len 0 64) ≡ map (λ i. i) (range_with_len 0 64)
unfolding position scan_order alternate
places_alternate = refl

positions_zigzag : map (λ k. slice_index (scan_order false) (position false k)) (range_with_len 0 64) ≡ map (λ i. i) (range_with_len 0 64)
unfolding position scan_order zigzag
positions_zigzag = refl

positions_alternate : map (λ k. slice_index (scan_order true) (position true k)) (range_with_len 0 64) ≡ map (λ i. i) (range_with_len 0 64)
unfolding position scan_order alternate
positions_alternate = refl

agree : (f g : ℕ → ℕ) (i : ℕ) → map f (range_with_len 0 64) ≡ map g (range_with_len 0 64) → i < 64 → f i ≡ g i
agree f g i e lt =
    sym (get_or-map-range_with_len f 0 64 i i 0 lt (omega arith))
    ∙ ap (λ (xs : List ℕ). get_or xs i 0) e
    ∙ get_or-map-range_with_len g 0 64 i i 0 lt (omega arith)

pub position_scan : (b : Bool) (i : ℕ) → i < 64 → position b (slice_index (scan_order b) i) ≡ i
position_scan false i lt = agree (λ j. position false (slice_index (scan_order false) j)) (λ j. j) i places_zigzag lt
position_scan true i lt = agree (λ j. position true (slice_index (scan_order true) j)) (λ j. j) i places_alternate lt

pub scan_position : (b : Bool) (k : ℕ) → k < 64 → slice_index (scan_order b) (position b k) ≡ k
scan_position false k lt = agree (λ j. slice_index (scan_order false) (position false j)) (λ j. j) k positions_zigzag lt
scan_position true k lt = agree (λ j. slice_index (scan_order true) (position true j)) (λ j. j) k positions_alternate lt

-- a level that is 0 gives a coefficient that is 0
picked : (b : Bool) (x y : ℤ) → x ≡ pos 0 → y ≡ pos 0 → saturated (if b then x else y) ≡ pos 0
unfolding saturated
picked true x y ex ey = ap saturated ex
picked false x y ex ey = ap saturated ey

dc_zero : (precision : ℕ) → dc_coefficient precision (pos 0) ≡ pos 0
unfolding dc_coefficient
dc_zero precision = let e : (8 / 2 ^ precision) * 0 ≡ 0 = omega arith in ap pos e

none : (step : ℕ) → int_div (pos 0 *ℤ pos step) (pos 32) ≡ pos 0
none step = let e : 0 * step ≡ 0 = omega arith in ap (λ (n : ℕ). int_div (pos n) (pos 32)) e

ac_zero : (intra : Bool) (step : ℕ) → ac_coefficient intra step (pos 0) ≡ pos 0
unfolding ac_coefficient
ac_zero true step = none step
ac_zero false step = none step

saturated_zero : (kind : BlockKind) (place : ℕ) → saturated_of kind place (pos 0) ≡ pos 0
unfolding saturated_of
saturated_zero kind place = picked _ _ _ (dc_zero kind.precision) (ac_zero kind.intra _)

at_level : (levels : List ℤ) (kind : BlockKind) (k : ℕ) (z : ℤ) → get_or levels (position kind.alternate k) (pos 0) ≡ z → saturated_at levels kind k ≡ saturated_of kind k z
unfolding saturated_at
at_level levels kind k z e = ap (saturated_of kind k) e

at_same : (levels : List ℤ) (kind : BlockKind) (n m k : ℕ) → first levels n (position kind.alternate k) ≡ first levels m (position kind.alternate k)
    → saturated_at (take n levels) kind k ≡ saturated_at (take m levels) kind k
at_same levels kind n m k e = at_level (take n levels) kind k _ e ∙ sym (at_level (take m levels) kind k _ refl)

-- sums
sum_same : (n : ℕ) (g h : ℕ → ℤ) → ((k : ℕ) → k < n → g k ≡ h k) → coefficient_sum n g ≡ coefficient_sum n h
unfolding coefficient_sum
sum_same zero g h e = refl
sum_same (suc n) g h e = (λ i. sum_same n g h (λ k lt. e k (omega arith)) i +ℤ e n (omega arith) i)

swapped : (a b c : ℤ) → (a +ℤ b) +ℤ c ≡ (a +ℤ c) +ℤ b
swapped a b c = omega (arith, ints)

nothing : (a : ℤ) → a +ℤ pos 0 ≡ a
nothing a = omega (arith, ints)

-- a 0 is replaced
sum_put : (n p : ℕ) (g h : ℕ → ℤ) → p < n → g p ≡ pos 0 → ((k : ℕ) → k < n → (k ≡ p → ⊥) → h k ≡ g k) → coefficient_sum n h ≡ coefficient_sum n g +ℤ h p
unfolding coefficient_sum
sum_put zero p g h lt none other = absurd (omega arith)
sum_put (suc n) p g h lt none other =
    elim (cases_eq n p) [
      | inl same ↦
          let rest = sum_same n h g (λ k l. other k (omega arith) (λ e. absurd (omega arith))) in
          let last : g n ≡ pos 0 = ap g same ∙ none in
          (λ i. rest i +ℤ h (same i)) ∙ ap (λ z. z +ℤ h p) (sym (ap (λ z. coefficient_sum n g +ℤ z) last ∙ nothing (coefficient_sum n g)))
      | inr ne ↦
          let rest = sum_put n p g h (omega arith) none (λ k l e. other k (omega arith) e) in
          (λ i. rest i +ℤ other n (omega arith) ne i) ∙ swapped (coefficient_sum n g) (h p) (g n)
    ]

-- what is known of the levels read so far holds of more of them where these are 0
pub same_up_to : (levels : List ℤ) (kind : BlockKind) (n m : ℕ) (out : List ℤ) (told : Told)
    → ((p : ℕ) → first levels n p ≡ first levels m p) → IsUpTo levels kind n out told → IsUpTo levels kind m out told
same_up_to levels kind n m out told e h = record {
  value = λ k lt. h.value k lt ∙ at_same levels kind n m k (e (position kind.alternate k));
  parity_is = h.parity_is ∙ ap (λ z. unsigned_abs z % 2) (sum_same 64 _ _ (λ k lt. at_same levels kind n m k (e (position kind.alternate k))));
  rows = h.rows;
}

pub more_zeros : (levels : List ℤ) (n d p : ℕ) → n + d ≤ length levels → ((j : ℕ) → j < d → get_or levels (n + j) (pos 0) ≡ pos 0) → first levels n p ≡ first levels (n + d) p
more_zeros levels n d p len zeros =
    elim (cases_lt p n) [
      | inl before ↦ first_before levels n p before ∙ sym (first_before levels (n + d) p (omega arith))
      | inr behind ↦
          first_behind levels n p (omega arith) behind
          ∙ elim (cases_lt p (n + d)) [
            | inl inside ↦
                let e : n + (p - n) ≡ p = omega arith in
                sym (zeros (p - n) (omega arith)) ∙ ap (λ q. get_or levels q (pos 0)) e ∙ sym (first_before levels (n + d) p inside)
            | inr far ↦ sym (first_behind levels (n + d) p len far)
          ]
    ]

pub skipped : (levels : List ℤ) (kind : BlockKind) (n d : ℕ) (out : List ℤ) (told : Told)
    → n + d ≤ length levels → ((j : ℕ) → j < d → get_or levels (n + j) (pos 0) ≡ pos 0)
    → IsUpTo levels kind n out told → IsUpTo levels kind (n + d) out told
skipped levels kind n d out told len zeros h = same_up_to levels kind n (n + d) out told (λ p. more_zeros levels n d p len zeros) h

one_other : (levels : List ℤ) (n p : ℕ) → n < length levels → (p ≡ n → ⊥) → first levels (n + 1) p ≡ first levels n p
one_other levels n p len ne =
    elim (cases_lt p n) [
      | inl before ↦ first_before levels (n + 1) p (omega arith) ∙ sym (first_before levels n p before)
      | inr behind ↦ first_behind levels (n + 1) p (omega arith) (omega arith) ∙ sym (first_behind levels n p (omega arith) behind)
    ]

-- a place of another position
elsewhere : (b : Bool) (n k : ℕ) → k < 64 → (k ≡ slice_index (scan_order b) n → ⊥) → position b k ≡ n → ⊥
elsewhere b n k lt ne e = ne (sym (scan_position b k lt) ∙ ap (slice_index (scan_order b)) e)

-- one place more is written, where a 0 counted
changed : (g h : ℕ → ℤ) (out : List ℤ) (parity place : ℕ) (c : ℤ) (more : ℕ) → length out ≡ 64 → place < 64
    → g place ≡ pos 0 → h place ≡ c → ((k : ℕ) → k < 64 → (k ≡ place → ⊥) → h k ≡ g k) → more ≡ (parity + unsigned_abs c) % 2
    → ((k : ℕ) → k < 64 → get_or out k (pos 0) ≡ g k) → parity ≡ unsigned_abs (coefficient_sum 64 g) % 2
    → ((k : ℕ) → k < 64 → get_or (set out place c) k (pos 0) ≡ h k) × (more ≡ unsigned_abs (coefficient_sum 64 h) % 2)
changed g h out parity place c more out_len inside was here other after value parity_is = (
  λ k l.
      elim (cases_eq k place) [
        | inl same ↦ let room : place < length out = omega arith in rw same (rw get_or-set_same (sym here))
        | inr ne ↦ let apart : k ≢ place = ne in rw get_or-set_other (value k l ∙ sym (other k l ne))
      ],
  after ∙ parity_more parity (coefficient_sum 64 g) c parity_is
      ∙ ap (λ z. unsigned_abs z % 2) (ap (λ z. coefficient_sum 64 g +ℤ z) (sym here) ∙ sym (sum_put 64 place g h inside was other)),
)

-- behind the first position stand other places than the first
pub first_position : (b : Bool) → position b 0 ≡ 0
unfolding position scan_order zigzag alternate
first_position false = refl
first_position true = refl

pub later_place : (b : Bool) (i : ℕ) → 1 ≤ i → i < 64 → 1 ≤ slice_index (scan_order b) i
later_place b i some lt = elim (cases_eq (slice_index (scan_order b) i) 0) [
  | inl none ↦ absurd (omega (arith, some, sym (position_scan b i lt) ∙ ap (position b) none ∙ first_position b))
  | inr other ↦ omega (arith, other)
]

-- where no DC coefficient stands
second : (b t : Bool) (x y : ℤ) → t ≡ false → (if b && t then x else y) ≡ y
second true t x y e = rw e refl
second false t x y e = refl

pub later_is : (kind : BlockKind) (place : ℕ) (level : ℤ) → 1 ≤ place
    → saturated (ac_coefficient kind.intra (slice_index kind.matrix place * kind.scale) level) ≡ saturated_of kind place level
unfolding saturated_of
later_is kind place level some =
    sym (ap saturated (second kind.intra (nat_eq place 0) _ _ (ne_eqb place 0 (λ e. absurd (omega (arith, e, some))))))

-- one row more is marked
pub mark_here : (rows k : ℕ) → k < 32 → bit_at (bit_or rows (1 * 2 ^ k % 2 ^ 32)) k ≡ 1
mark_here rows k lt = bit_at_set_same w32 rows k lt

pub marked_before : (rows b y : ℕ) → bit_at (bit_or rows b) y ≡ 0 → bit_at rows y ≡ 0
marked_before rows b y e = let both = bit_at_or rows b y in omega (arith, e, both)

-- one place more is written in a row that is marked
pub rows_put : (before after place : ℕ) (c : ℤ) (out : List ℤ) → bit_at after (place / 8) ≡ 1 → ((y : ℕ) → bit_at after y ≡ 0 → bit_at before y ≡ 0)
    → AreInRows before out → AreInRows after (set out place c)
rows_put before after place c out here others h k lt none = elim (cases_eq k place) [
  | inl same ↦ absurd (omega (arith, sym (ap (λ (j : ℕ). bit_at after (j / 8)) same) ∙ none, here))
  | inr ne ↦ let apart : k ≢ place = ne in rw get_or-set_other (h k lt (others (k / 8) none))
]

-- one level more
pub one_put : (levels : List ℤ) (kind : BlockKind) (n : ℕ) (out : List ℤ) (told : Told) (place : ℕ) (c : ℤ) (more : Told)
    → length levels ≡ 64 → length out ≡ 64 → n < 64 → place < 64 → place ≡ slice_index (scan_order kind.alternate) n
    → c ≡ saturated_of kind place (get_or levels n (pos 0)) → more.parity % 2 ≡ (told.parity + unsigned_abs c) % 2
    → bit_at more.rows (place / 8) ≡ 1 → ((y : ℕ) → bit_at more.rows y ≡ 0 → bit_at told.rows y ≡ 0)
    → IsUpTo levels kind n out told → IsUpTo levels kind (n + 1) (set out place c) more
one_put levels kind n out told place c more len out_len lt inside at value after row rows h =
    let old = saturated_at (take n levels) kind in
    let new = saturated_at (take (n + 1) levels) kind in
    let turn : position kind.alternate place ≡ n = ap (position kind.alternate) at ∙ position_scan kind.alternate n lt in
    let was : old place ≡ pos 0 =
    at_level (take n levels) kind place (pos 0) (ap (λ p. first levels n p) turn ∙ first_behind levels n n (omega arith) (omega arith)) ∙ saturated_zero kind place in
    let here : new place ≡ c =
    at_level (take (n + 1) levels) kind place (get_or levels n (pos 0)) (ap (λ p. first levels (n + 1) p) turn ∙ first_before levels (n + 1) n (omega arith)) ∙ sym value in
    let other : (k : ℕ) → k < 64 → (k ≡ place → ⊥) → new k ≡ old k =
    λ k l ne. at_same levels kind (n + 1) n k
    (one_other levels n (position kind.alternate k) (omega arith) (elsewhere kind.alternate n k l (λ e. ne (e ∙ sym at)))) in
    let both = changed old new out (told.parity % 2) place c (more.parity % 2) out_len inside was here other (omega (arith, after)) h.value h.parity_is in
    record { value = both.0; parity_is = both.1; rows = rows_put told.rows more.rows place c out row rows h.rows }

-- a level is set where a 0 stood
pub level_set : (levels : List ℤ) (kind : BlockKind) (n : ℕ) (v : ℤ) (out : List ℤ) (told : Told) (place : ℕ) (c : ℤ) (more : Told)
    → length levels ≡ 64 → length out ≡ 64 → n < 64 → place < 64 → place ≡ slice_index (scan_order kind.alternate) n
    → get_or levels n (pos 0) ≡ pos 0 → c ≡ saturated_of kind place v → more.parity % 2 ≡ (told.parity + unsigned_abs c) % 2
    → bit_at more.rows (place / 8) ≡ 1 → ((y : ℕ) → bit_at more.rows y ≡ 0 → bit_at told.rows y ≡ 0)
    → AreSaturated levels kind out told → AreSaturated (set levels n v) kind (set out place c) more
unfolding saturated_at
level_set levels kind n v out told place c more len out_len lt inside at free value after row rows h =
    let old = saturated_at levels kind in
    let new = saturated_at (set levels n v) kind in
    let room : n < length levels = omega arith in
    let turn : position kind.alternate place ≡ n = ap (position kind.alternate) at ∙ position_scan kind.alternate n lt in
    let was : old place ≡ pos 0 = at_level levels kind place (pos 0) (ap (λ p. get_or levels p (pos 0)) turn ∙ free) ∙ saturated_zero kind place in
    let here : new place ≡ c =
    at_level (set levels n v) kind place v (ap (λ p. get_or (set levels n v) p (pos 0)) turn ∙ rw get_or-set_same refl) ∙ sym value in
    let other : (k : ℕ) → k < 64 → (k ≡ place → ⊥) → new k ≡ old k =
    λ k l ne.
    let apart : position kind.alternate k ≢ n = elsewhere kind.alternate n k l (λ e. ne (e ∙ sym at)) in
    at_level (set levels n v) kind k (get_or levels (position kind.alternate k) (pos 0)) (rw get_or-set_other refl) in
    let both = changed old new out (told.parity % 2) place c (more.parity % 2) out_len inside was here other (omega (arith, after)) h.value h.parity_is in
    record { value = both.0; parity_is = both.1; rows = rows_put told.rows more.rows place c out row rows h.rows }

-- nothing is read yet
pub nothing_yet : (levels : List ℤ) (kind : BlockKind) → IsUpTo levels kind 0 (replicate 64 (pos 0)) (record { parity = 0; rows = 0 })
unfolding coefficient_sum
nothing_yet levels kind =
    let zero_at : (k : ℕ) → saturated_at (take 0 levels) kind k ≡ pos 0 =
    λ k. at_level (take 0 levels) kind k (pos 0) (get_or_past (take 0 levels) (position kind.alternate k) (pos 0) (omega arith)) ∙ saturated_zero kind k in
    record {
      value = λ k lt. get_or-replicate 64 k (pos 0) (pos 0) lt ∙ sym (zero_at k);
      parity_is = ap (λ z. unsigned_abs z % 2) (sym (sum_same 64 (saturated_at (take 0 levels) kind) (λ _. pos 0) (λ k lt. zero_at k)));
      rows = λ k lt _. get_or-replicate 64 k (pos 0) (pos 0) lt;
    }

clamped : (z : ℤ) → IsCoefficient (int_max (int_min z (pos 2047)) (neg_ℤ (pos 2048)))
clamped z = (omega (arith, ints, clamps), omega (arith, ints, clamps))

within : (z : ℤ) → IsCoefficient (saturated z)
unfolding saturated
within z = clamped z

within_of : (kind : BlockKind) (k : ℕ) (z : ℤ) → IsCoefficient (saturated_of kind k z)
unfolding saturated_of
within_of kind k z = within _

within_at : (levels : List ℤ) (kind : BlockKind) (k : ℕ) → IsCoefficient (saturated_at levels kind k)
unfolding saturated_at
within_at levels kind k = within_of kind k _

-- all levels are 0
pub none_saturated : (kind : BlockKind) → AreSaturated (replicate 64 (pos 0)) kind (replicate 64 (pos 0)) (record { parity = 0; rows = 0 })
unfolding coefficient_sum
none_saturated kind =
    let zero_at : (k : ℕ) → saturated_at (replicate 64 (pos 0)) kind k ≡ pos 0 =
    λ k. at_level (replicate 64 (pos 0)) kind k (pos 0) (zeros_at 64 (position kind.alternate k)) ∙ saturated_zero kind k in
    record {
      value = λ k lt. get_or-replicate 64 k (pos 0) (pos 0) lt ∙ sym (zero_at k);
      parity_is = ap (λ z. unsigned_abs z % 2) (sym (sum_same 64 (saturated_at (replicate 64 (pos 0)) kind) (λ _. pos 0) (λ k lt. zero_at k)));
      rows = λ k lt _. get_or-replicate 64 k (pos 0) (pos 0) lt;
    }

-- the whole block
pub all_saturated : (levels : List ℤ) (kind : BlockKind) (out : List ℤ) (told : Told) → length out ≡ 64 → AreSaturated levels kind out told
    → (out ≡ map (saturated_at levels kind) (range_with_len 0 64)) × (told.parity % 2 ≡ unsigned_abs (coefficient_sum 64 (saturated_at levels kind)) % 2) × All IsCoefficient out
all_saturated levels kind out told out_len h = (
  fill_by_all (saturated_at levels kind) out 64 (pos 0) out_len h.value,
  h.parity_is,
  All-from_get_or IsCoefficient out (pos 0) (λ i l. rw (h.value i (omega arith)) (within_at levels kind i)),
)

-- all are read
pub all_read : (levels : List ℤ) (kind : BlockKind) (out : List ℤ) (told : Told) → length levels ≡ 64 → length out ≡ 64 → IsUpTo levels kind 64 out told
    → (out ≡ map (saturated_at levels kind) (range_with_len 0 64)) × (told.parity % 2 ≡ unsigned_abs (coefficient_sum 64 (saturated_at levels kind)) % 2) × All IsCoefficient out
all_read levels kind out told len out_len h =
    let e : take 64 levels ≡ levels = take_all 64 levels (omega arith) in
    all_saturated levels kind out told out_len (subst (λ (ls : List ℤ). AreSaturated ls kind out told) e (record { value = h.value; parity_is = h.parity_is; rows = h.rows }))

-- no bit is set in a number joined with another
pub joined_zero : (a b : ℕ) → bit_or a b ≡ 0 → (a ≡ 0) × (b ≡ 0)
joined_zero a b e = (omega (arith, e, le_or_l a b), omega (arith, e, le_or_r a b))
