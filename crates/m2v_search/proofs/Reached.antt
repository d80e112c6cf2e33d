-- How far the vectors of a search reach.
use Rattle.std.proofs.Common.{ℕ, zero, suc, ◌+◌, ◌*◌, ◌<◌, ◌≤◌, All, List, [], ◌∷◌, filter, map, arith, ℤ, pos, neg_ℤ, ◌+ℤ◌, ◌-ℤ◌, ◌≤ℤ◌}
use Rattle.std.specs.List.{range_with_len, flat_map}
use Rattle.std.proofs.lemmas.Int.{ints}
use Rattle.std.proofs.lemmas.List.Elements.{All-nil, All-cons, All-head, All-tail, All-append, All-map, All-weaker, All-filter}
use Rattle.m2v_plane.specs.declared.dims.Dims.{Dims}
use Rattle.m2v_plane.specs.declared.planes.Lines.{Lines}
use Rattle.m2v_search.specs.declared.form.SearchForm.{SearchForm}
use Rattle.m2v_search.specs.declared.form.BlockLines.{BlockLines}
use Rattle.m2v_search.specs.Search.{Vector, zero_vector, block_lines, reach, vector_sad, vector_inside, around, vectors, vectors_around, best_around, whole_vector, vector_of}
use Rattle.m2v_search.proofs.Products.{least_in}

-- ---- lists

pub range_all : (P : ℕ → Type 0) (a n : ℕ) → ((i : ℕ) → i < a + n → P i) → All P (range_with_len a n)
range_all P a zero h = All-nil P
range_all P a (suc n) h = All-cons P a (range_with_len (a + 1) n) (h a (omega arith)) (range_all P (a + 1) n (λ i lt. h i (omega (arith, lt))))

pub flat_all : {X Y : Type 0} (P : X → Type 0) (Q : Y → Type 0) (f : Y → List X) → ((y : Y) → Q y → All P (f y)) → (ys : List Y) → All Q ys → All P (flat_map f ys)
flat_all P Q f h [] all = All-nil P
flat_all P Q f h (y ∷ ys) all = All-append P (f y) (flat_map f ys) (h y (All-head Q y ys all)) (flat_all P Q f h ys (All-tail Q y ys all))

-- ---- vectors

-- a number of at most this size
pub record IsUpTo (n : ℕ) (z : ℤ) : Type 0 where
  pub low : neg_ℤ (pos n) ≤ℤ z
  pub high : z ≤ℤ pos n

pub record IsWithin (across down : ℕ) (v : Vector) : Type 0 where
  pub x : IsUpTo across v.x
  pub y : IsUpTo down v.y

step_up_to : (a b : ℕ) → a ≤ b + b → IsUpTo b (pos a -ℤ pos b)
step_up_to a b le = record { low = omega (arith, ints, le); high = omega (arith, ints, le) }

both_up_to : (m n : ℕ) (y z : ℤ) → IsUpTo m y → IsUpTo n z → IsUpTo (m + n) (y +ℤ z)
both_up_to m n y z g h = record { low = omega (arith, ints, g.low, h.low); high = omega (arith, ints, g.high, h.high) }

around_all : (step n : ℕ) → ((i : ℕ) → i < 2 * n + 1 → step * i ≤ step * n + step * n) → All (IsUpTo (step * n)) (around step n)
around_all step n h =
    All-map (IsUpTo (step * n)) (λ i. pos (step * i) -ℤ pos (step * n)) (range_with_len 0 (2 * n + 1))
    (range_all (λ i. IsUpTo (step * n) (pos (step * i) -ℤ pos (step * n))) 0 (2 * n + 1) (λ i lt. step_up_to (step * i) (step * n) (h i (omega (arith, lt)))))

shifted_all : (m n : ℕ) (z : ℤ) (zs : List ℤ) → IsUpTo m z → All (IsUpTo n) zs → All (IsUpTo (m + n)) (map (λ dz. z +ℤ dz) zs)
shifted_all m n z zs h all = All-map (IsUpTo (m + n)) (λ dz. z +ℤ dz) zs (All-weaker (IsUpTo n) (λ dz. IsUpTo (m + n) (z +ℤ dz)) (λ dz k. both_up_to m n z dz h k) zs all)

vectors_all : (across down : ℕ) (ys xs : List ℤ) → All (IsUpTo down) ys → All (IsUpTo across) xs → All (IsWithin across down) (vectors ys xs)
vectors_all across down ys xs hy hx =
    flat_all (IsWithin across down) (IsUpTo down) (λ y. map (λ x. record { x = x; y = y }) xs)
    (λ y k. All-map (IsWithin across down) (λ x. record { x = x; y = y }) xs (All-weaker (IsUpTo across) (λ x. IsWithin across down (record { x = x; y = y })) (λ x l. record { x = l; y = k }) xs hx))
    ys hy

wider : (m n : ℕ) (z : ℤ) → IsUpTo m z → IsUpTo (m + n) z
wider m n z h = record { low = omega (arith, ints, h.low); high = omega (arith, ints, h.high) }

module _ (d : Dims) (at : Lines → ℕ → ℕ → ℕ) (source : List ℕ) (b : BlockLines) (column : ℕ) where
  best_within : (v : Vector) (a e step across down : ℕ) → IsWithin a e v
      → ((n i : ℕ) → i < 2 * n + 1 → step * i ≤ step * n + step * n)
      → IsWithin (a + step * across) (e + step * down) (best_around d at source b column v step across down)
  unfolding best_around
  best_within v a e step across down h le =
      let here : IsWithin (a + step * across) (e + step * down) v = record { x = wider a (step * across) v.x h.x; y = wider e (step * down) v.y h.y } in
      let rest = vectors_all (a + step * across) (e + step * down) (map (λ dy. v.y +ℤ dy) (around step down)) (map (λ dx. v.x +ℤ dx) (around step across))
      (shifted_all e (step * down) v.y (around step down) h.y (around_all step down (le down)))
      (shifted_all a (step * across) v.x (around step across) h.x (around_all step across (le across))) in
      least_in (IsWithin (a + step * across) (e + step * down)) (vector_sad at source b column) v (filter (vector_inside d b column) (vectors_around v step across down)) here
      (All-filter (vector_inside d b column) (IsWithin (a + step * across) (e + step * down)) (vectors_around v step across down) (All-cons (IsWithin (a + step * across) (e + step * down)) v _ here rest))

zero_within : IsWithin 0 0 zero_vector
zero_within = record { x = record { low = omega (arith, ints); high = omega (arith, ints) }; y = record { low = omega (arith, ints); high = omega (arith, ints) } }

-- a vector lies within reach, and half a sample
pub vector_within : (d : Dims) (at : Lines → ℕ → ℕ → ℕ) (source : List ℕ) (row column : ℕ) (form : SearchForm) (search : ℕ)
    → IsWithin (0 + 2 * search + 1 * 1) (0 + 2 * reach form search + 1 * 1) (vector_of d at source row column form search)
unfolding vector_of whole_vector
vector_within d at source row column form search =
    let b = block_lines form row in
    let whole = best_within d at source b column zero_vector 0 0 2 search (reach form search) zero_within (λ n i lt. omega (arith, lt)) in
    best_within d at source b column (best_around d at source b column zero_vector 2 search (reach form search)) (0 + 2 * search) (0 + 2 * reach form search) 1 1 1 whole (λ n i lt. omega (arith, lt))
