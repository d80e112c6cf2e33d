-- A matrix is read as it is written: what stands in zigzag order is the value in raster order.
use Rattle.std.proofs.Common.{◌≡◌, ℕ, zero, suc, ◌+◌, ◌<◌, ◌≤◌, ◌^◌, Bool, true, false, List, [], ◌∷◌, ◌++◌, length, map, take, set, get_or, Option, Some, None, Result, Ok, Err, inl, inr, refl, sym, ap, subst, ◌∙◌, arith, append_assoc}
use Rattle.std.specs.Prelude.{slice_index, nat_eq, nat_lt, not, ◌&&◌, All}
use Rattle.std.specs.List.{range_with_len, list_all}
use Rattle.std.proofs.lemmas.Bool.{ltb-true, eqb-true, and_parts, cases_Bool, both_ways}
use Rattle.std.proofs.lemmas.List.{length-map, length-take, append-nil, map-append, take_more, take_all, get_or-map, get_or-take, get_or-set_same, get_or-set_other, same_lists}
use Rattle.std.proofs.lemmas.List.Elements.{All-cons, All-head, All-tail, All-nil, All-map, All-get_or, All-from_get_or}
use Rattle.std.proofs.lemmas.List.Folds.{list_all_at}
use Rattle.std.proofs.lemmas.List.FromFn.{get_or-range_with_len, length-map-range_with_len, length-range_with_len, fill_by_all}
use Rattle.m2v_bits.specs.Bits.{bits, bits_of}
use Rattle.m2v_bits.specs.Syntax.{bind, done, seq, here, rule, choose, Spells}
use Rattle.m2v_bits.specs.Leaves.{bits_at}
use Rattle.m2v_bits.proofs.SyntaxLaws.{Lawful, Strict, good, bad, done_lawful, seq_lawful, seq_strict, choose_lawful}
use Rattle.m2v_bits.proofs.LeafLaws.{done_spells, seq_spells, first_spells, second_spells}
use Rattle.m2v_quant.specs.Scans.{zigzag}
use Rattle.m2v_head.specs.declared.fault.HeadFault.{HeadFault}
use Rattle.m2v_head.specs.Texts.{flag, matrix_text, loaded_text}
use Rattle.m2v_head.specs.Fits.{IsLoaded}
use Rattle.m2v_head.specs.Elements.{some_at, numbers_at, first_index, raster, matrix_at, loaded_at}
use Rattle.m2v_head.proofs.ElementLaws.{flag_strict, some_strict, flag_spells, some_of, some_spells, last_spells, whole_spells, same_spells}

-- ---- the syntax is lawful

numbers_lawful : (field n : ℕ) → Lawful length (numbers_at field n)
unfolding numbers_at
numbers_lawful field zero = done_lawful length []
numbers_lawful field (suc n) =
    seq_lawful (some_strict field 8 (omega arith)).lawful (λ first.
    seq_lawful (numbers_lawful field n) (λ rest.
    done_lawful length _))

pub matrix_lawful : (field : ℕ) → Lawful length (matrix_at field)
unfolding matrix_at
matrix_lawful field = seq_lawful (numbers_lawful field 64) (λ numbers. done_lawful length _)

pub loaded_strict : (field : ℕ) → Strict length (loaded_at field)
unfolding loaded_at
loaded_strict field = seq_strict flag_strict (λ load. choose_lawful load (matrix_lawful field) (done_lawful length None))

-- ---- the scan goes through each place once

passes : (p : ℕ → Bool) (xs : List ℕ) (i : ℕ) → list_all p xs ≡ true → i < length xs → p (get_or xs i 0) ≡ true
passes p xs i all lt = elim (cases_Bool (p (get_or xs i 0))) [ inl is ↦ is | inr not ↦ absurd (both_ways _ (list_all_at p xs i 0 lt not) all) ]

below_passes : (p : ℕ → Bool) (n i : ℕ) → list_all p (range_with_len 0 n) ≡ true → i < n → p i ≡ true
below_passes p n i all lt =
    let at : get_or (range_with_len 0 n) i 0 ≡ i = get_or-range_with_len 0 n i 0 lt ∙ omega arith in
    rw at at (passes p (range_with_len 0 n) i all (omega (arith, length-range_with_len 0 n)))

abbrev has_place : ℕ → Bool
has_place p = nat_lt (first_index p zigzag) 64 && nat_eq (get_or zigzag (first_index p zigzag) 0) p

each_has_place : list_all has_place (range_with_len 0 64) ≡ true
unfolding zigzag first_index
each_has_place = refl

abbrev has_order : ℕ → Bool
has_order k = nat_lt (get_or zigzag k 0) 64 && nat_eq (first_index (get_or zigzag k 0) zigzag) k

each_has_order : list_all has_order (range_with_len 0 64) ≡ true
unfolding zigzag first_index
each_has_order = refl

zigzag_length : length zigzag ≡ 64
unfolding zigzag
zigzag_length = refl

-- the place of p in the scan, and what stands there
pub at_first_index : (p : ℕ) → p < 64 → (first_index p zigzag < 64) × (get_or zigzag (first_index p zigzag) 0 ≡ p)
at_first_index p lt =
    let both = and_parts (nat_lt (first_index p zigzag) 64) (nat_eq (get_or zigzag (first_index p zigzag) 0) p) (below_passes has_place 64 p each_has_place lt) in
    (ltb-true _ _ both.0, eqb-true _ _ both.1)

-- what stands at a place in the scan, and its place
pub scanned_at : (k : ℕ) → k < 64 → (get_or zigzag k 0 < 64) × (first_index (get_or zigzag k 0) zigzag ≡ k)
scanned_at k lt =
    let both = and_parts (nat_lt (get_or zigzag k 0) 64) (nat_eq (first_index (get_or zigzag k 0) zigzag) k) (below_passes has_order 64 k each_has_order lt) in
    (ltb-true _ _ both.0, eqb-true _ _ both.1)

-- a matrix in zigzag order
abbrev pub scanned : List ℕ → ℕ → List ℕ
scanned m n = map (λ p. slice_index m p) (take n zigzag)

scanned_whole : (m : List ℕ) → scanned m 64 ≡ map (λ p. slice_index m p) zigzag
scanned_whole m = ap (map (λ (p : ℕ). slice_index m p)) (take_all 64 zigzag (omega (arith, zigzag_length)))

scanned_length : (m : List ℕ) (n : ℕ) → n ≤ 64 → length (scanned m n) ≡ n
scanned_length m n le = length-map (take n zigzag) (λ (p : ℕ). slice_index m p) ∙ omega (arith, length-take n zigzag, zigzag_length)

scanned_get : (m : List ℕ) (n k d : ℕ) → k < n → n ≤ 64 → get_or (scanned m n) k d ≡ get_or m (get_or zigzag k 0) 0
scanned_get m n k d lt le =
    get_or-map (λ (p : ℕ). slice_index m p) (take n zigzag) k 0 d (omega (arith, length-take n zigzag, zigzag_length)) ∙ ap (λ (p : ℕ). get_or m p 0) (get_or-take n zigzag k 0 lt)

-- raster order is zigzag order undone
pub raster_scanned : (m : List ℕ) → length m ≡ 64 → raster (scanned m 64) ≡ m
unfolding raster
raster_scanned m len = sym (fill_by_all (λ p. slice_index (scanned m 64) (first_index p zigzag)) m 64 0 len (λ p lt.
    let at = at_first_index p lt in
    sym (scanned_get m 64 (first_index p zigzag) 0 at.0 (omega arith) ∙ ap (λ (q : ℕ). get_or m q 0) at.1)))

-- a number is set at its place
scanned_set : (m : List ℕ) (i v k : ℕ) → i < 64 → k < i → get_or (set m (get_or zigzag i 0) v) (get_or zigzag k 0) 0 ≡ get_or m (get_or zigzag k 0) 0
scanned_set m i v k lt less = get_or-set_other m (get_or zigzag i 0) (get_or zigzag k 0) v 0 (λ same. let e : k ≡ i = sym (scanned_at k (omega arith)).1 ∙ ap (λ (p : ℕ). first_index p zigzag) same ∙ (scanned_at i lt).1 in omega arith)

scanned_front : (m : List ℕ) (i v : ℕ) → i < 64 → scanned (set m (get_or zigzag i 0) v) i ≡ scanned m i
scanned_front m i v lt = same_lists (scanned (set m (get_or zigzag i 0) v) i) (scanned m i) (scanned_length (set m (get_or zigzag i 0) v) i (omega arith) ∙ sym (scanned_length m i (omega arith))) (λ k d less.
    let below : k < i = omega (arith, scanned_length (set m (get_or zigzag i 0) v) i (omega arith)) in
    scanned_get (set m (get_or zigzag i 0) v) i k d below (omega arith) ∙ scanned_set m i v k lt below ∙ sym (scanned_get m i k d below (omega arith)))

pub scanned_more : (m : List ℕ) (i p v : ℕ) → length m ≡ 64 → i < 64 → p ≡ get_or zigzag i 0 → scanned (set m p v) (i + 1) ≡ scanned m i ++ v ∷ []
scanned_more m i p v len lt is =
    let last : get_or (set m (get_or zigzag i 0) v) (get_or zigzag i 0) 0 ≡ v = get_or-set_same m (get_or zigzag i 0) v 0 (omega (arith, (scanned_at i lt).0)) in
    rw (is, take_more zigzag i 0 (omega (arith, zigzag_length)), map-append, scanned_front m i v lt, last) refl

-- ---- what the loop over a matrix goes by

-- numbers behind those that are read
unfoldable pub in_front : List ℕ → Result (List ℕ × List Bool) (HeadFault × ℕ) → Result (List ℕ × List Bool) (HeadFault × ℕ)
in_front before (Ok x) = Ok (before ++ x.0, x.1)
in_front before (Err f) = Err f

pub none_behind : (r : Result (List ℕ × List Bool) (HeadFault × ℕ)) → in_front [] r ≡ r
unfolding in_front
none_behind (Ok x) = refl
none_behind (Err f) = refl

pub numbers_err : (field m n : ℕ) (before : List ℕ) (t : List Bool) (f : HeadFault × ℕ) → m ≡ suc n → (some_at field 8).read t ≡ bad f → in_front before ((numbers_at field m).read t) ≡ bad f
unfolding in_front numbers_at seq bind
numbers_err field m n before t f is e = rw (is, e) refl

one_behind : (before : List ℕ) (v : ℕ) (r : Result (List ℕ × List Bool) (HeadFault × ℕ)) → in_front before (bind r (λ xs rest. good (v ∷ xs, rest))) ≡ in_front (before ++ v ∷ []) r
unfolding in_front bind
one_behind before v (Ok x) = rw (append_assoc before (v ∷ []) x.0) refl
one_behind before v (Err f) = refl

pub numbers_more : (field m n v : ℕ) (before : List ℕ) (t mid : List Bool) → m ≡ suc n → (some_at field 8).read t ≡ good (v, mid) → in_front before ((numbers_at field m).read t) ≡ in_front (before ++ v ∷ []) ((numbers_at field n).read mid)
unfolding numbers_at seq bind done
numbers_more field m n v before t mid is e = rw (is, e) (one_behind before v ((numbers_at field n).read mid))

-- the matrix is read
pub matrix_read : (field : ℕ) (m : List ℕ) (t rest : List Bool) → length m ≡ 64 → in_front (scanned m 64) ((numbers_at field 0).read rest) ≡ (numbers_at field 64).read t → (matrix_at field).read t ≡ good (Some m, rest)
unfolding in_front matrix_at numbers_at seq bind done
matrix_read field m t rest len e = rw (← e, append-nil (scanned m 64), raster_scanned m len) refl

-- a fault in a matrix
pub matrix_err : (field : ℕ) (t : List Bool) (f : HeadFault × ℕ) → (numbers_at field 64).read t ≡ bad f → (matrix_at field).read t ≡ bad f
unfolding matrix_at seq bind
matrix_err field t f e = rw e refl

-- ---- what stands there can be written

abbrev pub IsNumber : ℕ → Type 0
IsNumber x = (1 ≤ x) × (x < 2 ^ 8)

not_zero : (v : ℕ) → not (nat_eq v 0) ≡ true → 1 ≤ v
not_zero zero e = absurd cc
not_zero (suc v) e = omega arith

some_fits : (field v : ℕ) (t rest : List Bool) → (some_at field 8).Stands v t rest → IsNumber v
unfolding some_at seq here rule bits_at done
some_fits field v t rest st =
    let raw = st.3 in
    let same : v ≡ raw.0 = raw.3.3.0 in
    rw same (not_zero raw.0 raw.3.2.0, raw.2.0)

numbers_fit : (field n : ℕ) (xs : List ℕ) (t rest : List Bool) → (numbers_at field n).Stands xs t rest → (length xs ≡ n) × All IsNumber xs
unfolding numbers_at seq done
numbers_fit field zero xs t rest st = rw (st.0) (refl, All-nil IsNumber)
numbers_fit field (suc n) xs t rest st =
    let ih = numbers_fit field n st.3.0 st.1 st.3.1 st.3.2 in
    let more : length (st.0 ∷ st.3.0) ≡ suc n = omega (arith, ih.0) in
    rw (st.3.3.0) (more, All-cons IsNumber st.0 st.3.0 (some_fits field st.0 t st.1 st.2) ih.1)

raster_fits : (xs : List ℕ) → length xs ≡ 64 → All IsNumber xs → IsLoaded (Some (raster xs))
unfolding raster
raster_fits xs len all = (
  length-map-range_with_len (λ p. slice_index xs (first_index p zigzag)) 0 64,
  All-map IsNumber (λ p. slice_index xs (first_index p zigzag)) (range_with_len 0 64) (All-from_get_or (λ p. IsNumber (slice_index xs (first_index p zigzag))) (range_with_len 0 64) 0 (λ i lt.
      let below : i < 64 = omega (arith, length-range_with_len 0 64) in
      let at : get_or (range_with_len 0 64) i 0 ≡ i = get_or-range_with_len 0 64 i 0 below ∙ omega arith in
      rw at (All-get_or IsNumber xs (first_index i zigzag) 0 (omega (arith, (at_first_index i below).0)) all))),
)

pub matrix_fits : (field : ℕ) (m : Option (List ℕ)) (t rest : List Bool) → (matrix_at field).read t ≡ good (m, rest) → IsLoaded m
unfolding matrix_at seq done
matrix_fits field m t rest e =
    let st = (matrix_lawful field).found m t rest e in
    let fit = numbers_fit field 64 st.0 t st.1 st.2 in
    rw (st.3.0) (raster_fits st.0 fit.0 fit.1)

-- ---- what spells a matrix

numbers_spells : (field n : ℕ) (xs : List ℕ) → length xs ≡ n → All IsNumber xs → Spells (numbers_at field n) xs (bits xs)
unfolding numbers_at
numbers_spells field zero [] len all = done_spells []
numbers_spells field zero (x ∷ xs) len all = absurd (omega arith)
numbers_spells field (suc n) [] len all = absurd (omega arith)
numbers_spells field (suc n) (x ∷ xs) len all =
    let head = All-head IsNumber x xs all in
    seq_spells (λ first. seq (numbers_at field n) (λ rest. done (first ∷ rest))) x (x ∷ xs) (bits_of 8 x) (bits xs) (some_spells field 8 x head.1 (some_of x head.0))
    (last_spells xs (λ rest. x ∷ rest) (bits xs) (numbers_spells field n xs (omega arith) (All-tail IsNumber x xs all)))

scanned_fits : (m : List ℕ) → length m ≡ 64 → All IsNumber m → All IsNumber (scanned m 64)
scanned_fits m len all = All-from_get_or IsNumber (scanned m 64) 0 (λ k lt.
    let below : k < 64 = omega (arith, scanned_length m 64 (omega arith)) in
    rw (scanned_get m 64 k 0 below (omega arith)) (All-get_or IsNumber m (get_or zigzag k 0) 0 (omega (arith, (scanned_at k below).0)) all))

pub matrix_spells : (field : ℕ) (m : List ℕ) → length m ≡ 64 → All IsNumber m → Spells (matrix_at field) (Some m) (matrix_text m)
unfolding matrix_at matrix_text
matrix_spells field m len all =
    let spelled = last_spells (scanned m 64) (λ numbers. Some (raster numbers)) (bits (scanned m 64)) (numbers_spells field 64 (scanned m 64) (scanned_length m 64 (omega arith)) (scanned_fits m len all)) in
    same_spells (ap bits (scanned_whole m)) (subst (λ (v : List ℕ). Spells (matrix_at field) (Some v) (bits (scanned m 64))) (raster_scanned m len) spelled)

pub loaded_spells : (field : ℕ) (m : Option (List ℕ)) → IsLoaded m → Spells (loaded_at field) m (loaded_text m)
unfolding loaded_at loaded_text
loaded_spells field None fits =
    whole_spells (seq_spells (λ load. choose load (matrix_at field) (done None)) false None (flag false) [] (flag_spells false) (second_spells false (matrix_at field) (done None) None [] refl (done_spells None)))
loaded_spells field (Some m) fits =
    seq_spells (λ load. choose load (matrix_at field) (done None)) true (Some m) (flag true) (matrix_text m) (flag_spells true) (first_spells true (matrix_at field) (done None) (Some m) (matrix_text m) refl (matrix_spells field m fits.0 fits.1))
