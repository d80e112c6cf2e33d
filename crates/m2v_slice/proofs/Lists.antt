-- Needs one behind another.
use Rattle.std.proofs.Common.{◌≡◌, ℕ, suc, ◌+◌, ◌-◌, ◌<◌, ◌≤◌, List, [], ◌∷◌, ◌++◌, length, map, take, min, refl, sym, ap, subst, ◌∙◌, arith, append_assoc}
use Rattle.std.specs.Prelude.{slice_index}
use Rattle.std.specs.List.{range_with_len, flat_map}
use Rattle.std.proofs.lemmas.List.{length-append, length-take}
use Rattle.std.proofs.lemmas.List.FromFn.{length-map-range_with_len, map-range_with_len_more}
use Rattle.m2v_slice.specs.Books.{Book, rows, slice_job, near_rows}
use Rattle.m2v_slice.specs.Needs.{flat_few, needed_below}
use Rattle.m2v_slice.specs.Windows.{needed}

pub one_slice_more : (b : Book) (p from i j : ℕ) (out old : List ℕ) → out ≡ old ++ map (slice_job b p) (range_with_len from i)
    → j ≡ slice_job b p (from + i) → out ++ j ∷ [] ≡ old ++ map (slice_job b p) (range_with_len from (i + 1))
one_slice_more b p from i j out old e f =
    let xs = map (slice_job b p) (range_with_len from i) in
    ap (λ (ys : List ℕ). ys ++ j ∷ []) e
    ∙ append_assoc old xs (j ∷ [])
    ∙ ap (λ (k : ℕ). old ++ (xs ++ k ∷ [])) f
    ∙ ap (λ (ys : List ℕ). old ++ ys) (sym (map-range_with_len_more (slice_job b p) from i (from + i) refl))

pub slices_length : (b : Book) (p from i : ℕ) (out old : List ℕ) → out ≡ old ++ map (slice_job b p) (range_with_len from i)
    → length out ≡ length old + i
slices_length b p from i out old e =
    ap length e ∙ length-append old (map (slice_job b p) (range_with_len from i))
    ∙ ap (λ (n : ℕ). length old + n) (length-map-range_with_len (slice_job b p) from i)

near_few : (b : Book) (r k : ℕ) → length (map (slice_job b k) (near_rows b r)) ≤ 3
near_few b r k = omega (arith, length-map-range_with_len (slice_job b k) (r - 1) (min (r + 2) (rows b) - (r - 1)))

-- a slice's needs, those of the first pictures, leave room for one picture's more
pub needs_room : (b : Book) (r i n : ℕ) (out pictures : List ℕ) (job : ℕ) → length pictures ≤ 4 → i < length pictures → n ≤ 3
    → out ≡ job ∷ flat_map (λ k. map (slice_job b k) (near_rows b r)) (take i pictures) → length out + n ≤ 160
needs_room b r i n out pictures job few lt small e =
    let f = λ (k : ℕ). map (slice_job b k) (near_rows b r) in
    let shorter : length (take i pictures) ≤ 4 = omega (arith, length-take i pictures, few) in
    let rest = flat_few f (take i pictures) 3 4 (near_few b r) shorter in
    let all : length out ≡ suc (length (flat_map f (take i pictures))) = ap length e in
    omega (arith, rest, all, small)

-- a needed picture comes before
pub needed_before : (b : Book) (p i : ℕ) (pictures : List ℕ) → pictures ≡ needed b p → i < length pictures → slice_index pictures i < p
needed_before b p i pictures e lt =
    subst (λ (xs : List ℕ). i < length xs → slice_index xs i < p) (sym e) (λ small. needed_below b p i 0 small) lt
