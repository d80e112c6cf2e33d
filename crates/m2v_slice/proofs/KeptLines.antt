-- Rows of reference pictures that are kept one behind another.
use Rattle.std.proofs.Common.{◌≡◌, ◌≢◌, ℕ, ◌+◌, ◌*◌, ◌/◌, ◌%◌, ◌<◌, ◌≤◌, List, length, get_or, take, drop, ap, refl, sym, subst, ◌∙◌, arith, inl, inr}
use borrow.Rule.Slice.PartMut.{put_mid}
use Rattle.std.specs.Prelude.{slice_set}
use Rattle.std.proofs.lemmas.Bool.{cases_lt, cases_eq}
use Rattle.std.proofs.lemmas.List.{ext_get_or, get_or-drop, length-drop, length-set, get_or-set_same, get_or-set_other}
use Rattle.std.proofs.lemmas.List.FromFn.{get_or-map-range_with_len, length-map-range_with_len}
use Rattle.m2v_plane.specs.declared.dims.Dims.{Dims}
use Rattle.m2v_plane.specs.declared.planes.Plane.{Plane}
use Rattle.m2v_plane.specs.declared.planes.Plane.TheVariants.{Y, Cb, Cr}
use Rattle.m2v_plane.specs.Sizes.{IsSize, side, columns_of}
use Rattle.m2v_plane.specs.Samples.{Samples, HasRows, plane_by, plane_of, sample_of, line_part}
use Rattle.m2v_plane.specs.Fields.{no_samples}
use Rattle.m2v_plane.proofs.Places.{line_fits, line_is, line_kept, line_put, part_at, part_len, plane_is}
use Rattle.m2v_plane.proofs.RawVideo.{plane_at, length-plane_by}
use Rattle.m2v_slice.specs.Kept.{plane_of_row, kept_row, kept_rows, kept_at, AreLines}

-- ---- lines counted through all rows

pub line_below : (plane : Plane) (n : ℕ) → n / side plane < 12 → n < 12 * side plane
line_below Y n lt = omega (arith, lt)
line_below Cb n lt = omega (arith, lt)
line_below Cr n lt = omega (arith, lt)

line_within : (plane : Plane) (n : ℕ) → n % side plane < side plane
line_within Y n = omega arith
line_within Cb n = omega arith
line_within Cr n = omega arith

line_split : (plane : Plane) (n : ℕ) → side plane * (n / side plane) + n % side plane ≡ n
line_split Y n = omega arith
line_split Cb n = omega arith
line_split Cr n = omega arith

pub row_fits : (plane : Plane) (k line : ℕ) → k < 12 → line < side plane → side plane * k + line < 12 * side plane
row_fits Y k line lt small = omega (arith, lt, small)
row_fits Cb k line lt small = omega (arith, lt, small)
row_fits Cr k line lt small = omega (arith, lt, small)

pub rows_apart : (plane : Plane) (k other line n : ℕ) → other ≢ k → line < side plane → n < side plane
    → side plane * other + line ≢ side plane * k + n
rows_apart plane k other line n apart small below e = elim (cases_lt other k) [
  | inl less ↦ before plane k other line n less small e
  | inr more ↦
      let behind : k < other = elim (cases_eq other k) [
        | inl same ↦ absurd (apart same)
        | inr differs ↦ strictly k other more differs
      ] in before plane other k n line behind below (sym e)
]
  where
    strictly : (a b : ℕ) → a ≤ b → b ≢ a → a < b
    strictly a b le ne = elim (cases_lt a b) [
      | inl lt ↦ lt
      | inr ge ↦ absurd (ne (omega (arith, le, ge)))
    ]

    before : (plane : Plane) (k other line n : ℕ) → other < k → line < side plane → side plane * other + line ≡ side plane * k + n → ⊥
    before Y k other line n less small e = omega (arith, less, small, e)
    before Cb k other line n less small e = omega (arith, less, small, e)
    before Cr k other line n less small e = omega (arith, less, small, e)

-- ---- a row put in its place

-- the lines up to n stand in their row's place
pub lines_there : (plane : Plane) (k n w m spot : ℕ) (at : ℕ → ℕ → ℕ) (old line : List ℕ) → spot ≡ side plane * k + n → m ≡ w
    → spot * w ≤ length old → length line ≡ w
    → ((l c : ℕ) → l < n → c < w → get_or old ((side plane * k + l) * w + c) 0 ≡ at l c)
    → ((c : ℕ) → c < w → get_or line c 0 ≡ at n c)
    → (l c : ℕ) → l < n + 1 → c < w → get_or (put_mid (spot * w) m old line) ((side plane * k + l) * w + c) 0 ≡ at l c
lines_there plane k n w m spot at old line here is fits len so new l c lt small = elim (cases_lt l n) [
  | inl below ↦
      let apart : side plane * k + l ≢ spot = λ e. (let f : l ≡ n = omega (arith, e, here) in omega (arith, f, below)) in
      line_kept spot w m old line (side plane * k + l) c is fits len apart small ∙ so l c below small
  | inr above ↦
      let last : l ≡ n = omega (arith, lt, above) in
      let there : side plane * k + l ≡ spot = omega (arith, last, here) in
      ap (λ (i : ℕ). get_or (put_mid (spot * w) m old line) (i * w + c) 0) there
      ∙ line_put spot w m old line c fits len small ∙ new c small ∙ ap (λ (j : ℕ). at j c) (sym last)
]

-- and the lines of other rows stay
pub lines_others : (plane : Plane) (k n w m spot : ℕ) (old line : List ℕ) → spot ≡ side plane * k + n → m ≡ w
    → spot * w ≤ length old → length line ≡ w → n < side plane
    → (other l c : ℕ) → other ≢ k → l < side plane → c < w
    → get_or (put_mid (spot * w) m old line) ((side plane * other + l) * w + c) 0 ≡ get_or old ((side plane * other + l) * w + c) 0
lines_others plane k n w m spot old line here is fits len below other l c apart small lt =
    line_kept spot w m old line (side plane * other + l) c is fits len (λ e. rows_apart plane k other l n apart small below (e ∙ here)) lt

-- ---- the rows

pub kept_count : (d : Dims) (luma cb cr : List ℕ) → length (kept_rows d luma cb cr) ≡ 12
unfolding kept_rows
kept_count d luma cb cr = length-map-range_with_len (kept_row d luma cb cr) 0 12

pub kept_is : (d : Dims) (luma cb cr : List ℕ) (k : ℕ) (x : Samples) → k < 12 → get_or (kept_rows d luma cb cr) k x ≡ kept_row d luma cb cr k
unfolding kept_rows
kept_is d luma cb cr k x lt = get_or-map-range_with_len (kept_row d luma cb cr) 0 12 k k x lt (omega arith)

pub kept_dims : (d : Dims) (luma cb cr : List ℕ) (k : ℕ) (x : Samples) → k < length (kept_rows d luma cb cr) → (get_or (kept_rows d luma cb cr) k x).dims ≡ d
kept_dims d luma cb cr k x lt = ap (λ (s : Samples). s.dims) (kept_is d luma cb cr k x (omega (arith, lt, kept_count d luma cb cr)))

-- the lines of each plane are theirs
plane_lines : (rows : List Samples) (plane : Plane) (d : Dims) (xs : List ℕ) (w : ℕ) → IsSize d → length rows ≡ 12 → w ≡ columns_of d plane
    → length xs ≡ 12 * side plane * w
    → ((k : ℕ) → k < 12 → (get_or rows k no_samples).dims ≡ d)
    → ((k : ℕ) → k < 12 → plane_of (get_or rows k no_samples) plane ≡ plane_of_row (side plane) (columns_of d plane) xs k)
    → AreLines rows plane xs w
plane_lines rows plane d xs w size count wide len dims is = record {
  count = count;
  most = most plane wide;
  len = len;
  wide = λ k lt. ap (λ (x : Dims). columns_of x plane) (dims k lt) ∙ sym wide;
  sample = λ k line column lt small inside.
      let at = λ (l c : ℕ). get_or xs ((side plane * k + l) * columns_of d plane + c) 0 in
      ap (λ (n : ℕ). get_or xs ((side plane * k + line) * n + column) 0) wide
      ∙ sym (plane_at (side plane) (columns_of d plane) at line column small (subst (λ (n : ℕ). column < n) wide inside))
      ∙ ap (λ (ys : List ℕ). get_or ys (line * columns_of d plane + column) 0) (sym (is k lt))
      ∙ ap (λ (x : Dims). get_or (plane_of (get_or rows k no_samples) plane) (line * columns_of x plane + column) 0) (sym (dims k lt));
}
  where
    most : (p : Plane) → w ≡ columns_of d p → w ≤ 1920
    most Y e = omega (arith, e, size.width, size.mb_width)
    most Cb e = omega (arith, e, size.width, size.mb_width)
    most Cr e = omega (arith, e, size.width, size.mb_width)

kept_lines : (rows : List Samples) (plane : Plane) (d : Dims) (luma cb cr xs : List ℕ) (w : ℕ) → kept_rows d luma cb cr ≡ rows → IsSize d → w ≡ columns_of d plane
    → length xs ≡ 12 * side plane * w
    → ((k : ℕ) → plane_of (kept_row d luma cb cr k) plane ≡ plane_of_row (side plane) (columns_of d plane) xs k) → AreLines rows plane xs w
kept_lines rows plane d luma cb cr xs w e size wide len is =
    subst (λ (r : List Samples). AreLines r plane xs w) e
    (plane_lines (kept_rows d luma cb cr) plane d xs w size (kept_count d luma cb cr) wide len
    (λ k lt. ap (λ (s : Samples). s.dims) (kept_is d luma cb cr k no_samples lt)) (λ k lt. ap (λ (s : Samples). plane_of s plane) (kept_is d luma cb cr k no_samples lt) ∙ is k))

pub luma_lines : (rows : List Samples) (d : Dims) (luma cb cr : List ℕ) → kept_rows d luma cb cr ≡ rows → IsSize d → length luma ≡ 192 * (16 * d.mb_width)
    → AreLines rows Y luma (16 * d.mb_width)
luma_lines rows d luma cb cr e size len = kept_lines rows Y d luma cb cr luma (16 * d.mb_width) e size (omega arith) (omega (arith, len)) (λ k. refl)

pub cb_lines : (rows : List Samples) (d : Dims) (luma cb cr : List ℕ) → kept_rows d luma cb cr ≡ rows → IsSize d → length cb ≡ 96 * (8 * d.mb_width)
    → AreLines rows Cb cb (8 * d.mb_width)
cb_lines rows d luma cb cr e size len = kept_lines rows Cb d luma cb cr cb (8 * d.mb_width) e size (omega arith) (omega (arith, len)) (λ k. refl)

pub cr_lines : (rows : List Samples) (d : Dims) (luma cb cr : List ℕ) → kept_rows d luma cb cr ≡ rows → IsSize d → length cr ≡ 96 * (8 * d.mb_width)
    → AreLines rows Cr cr (8 * d.mb_width)
cr_lines rows d luma cb cr e size len = kept_lines rows Cr d luma cb cr cr (8 * d.mb_width) e size (omega arith) (omega (arith, len)) (λ k. refl)

-- a row for frames of the size of those that are kept
pub same_dims : (rows : List Samples) (d x : Dims) (luma cb cr : List ℕ) (k : ℕ) → kept_rows d luma cb cr ≡ rows → k < length rows
    → x ≡ (get_or rows k no_samples).dims → (x ≡ d) × (k < 12)
same_dims rows d x luma cb cr k e lt is =
    let small : k < 12 = omega (arith, lt, ap length (sym e), kept_count d luma cb cr) in
    (is ∙ ap (λ (r : List Samples). (get_or r k no_samples).dims) (sym e) ∙ ap (λ (s : Samples). s.dims) (kept_is d luma cb cr k no_samples small), small)

-- ---- reading

-- a part of a line ends within the plane
pub kept_fits : (rows : List Samples) (plane : Plane) (xs : List ℕ) (w line k step column len : ℕ) → AreLines rows plane xs w
    → (line + k * step) / side plane < 12 → column + len ≤ w
    → line * w + column + (k * (step * w) + len) ≤ length xs
kept_fits rows plane xs w line k step column len h lt le =
    let n = line + k * step in
    let fits = line_fits n (12 * side plane) w (column + len) (line_below plane n lt) le in
    let e : n * w ≡ line * w + k * (step * w) = omega arith in
    omega (arith, fits, e, h.len)

-- and is the part of that line
pub kept_part : (rows : List Samples) (plane : Plane) (xs : List ℕ) (w line k step column len from : ℕ) → AreLines rows plane xs w
    → (line + k * step) / side plane < 12 → column + len ≤ w → from ≡ line * w + column
    → take len (drop (k * (step * w)) (drop from xs)) ≡ line_part (kept_at rows plane (line + k * step)) column len
kept_part rows plane xs w line k step column len from h lt le starts =
    let n = line + k * step in
    let fits = kept_fits rows plane xs w line k step column len h lt le in
    let e : n * w ≡ line * w + k * (step * w) = omega arith in
    line_is _ (kept_at rows plane n) column len
    (part_len (drop from xs) (k * (step * w)) len (omega (arith, fits, starts, length-drop from xs)))
    (λ j small.
    let there : from + (k * (step * w) + j) ≡ n * w + (column + j) = omega (arith, starts, e) in
    part_at (drop from xs) (k * (step * w)) len j small
    ∙ get_or-drop from xs (k * (step * w) + j) 0
    ∙ ap (λ i. get_or xs i 0) there
    ∙ ap (λ i. get_or xs (i * w + (column + j)) 0) (sym (line_split plane n))
    ∙ h.sample (n / side plane) (n % side plane) (column + j) lt (line_within plane n) (omega (arith, small, le)))

-- ---- a row more

-- a plane of a row, of which each sample is known
pub plane_known : (height columns : ℕ) (xs ys : List ℕ) (k : ℕ) → length ys ≡ height * columns
    → ((l c : ℕ) → l < height → c < columns → get_or xs ((height * k + l) * columns + c) 0 ≡ get_or ys (l * columns + c) 0)
    → plane_of_row height columns xs k ≡ ys
plane_known height columns xs ys k len same =
    let at = λ (l c : ℕ). get_or xs ((height * k + l) * columns + c) 0 in
    sym (plane_is ys height columns at len (λ l c lt small. sym (same l c lt small)))

-- a plane of a row that stays
pub plane_stays : (height columns : ℕ) (xs ys : List ℕ) (k : ℕ)
    → ((l c : ℕ) → l < height → c < columns → get_or xs ((height * k + l) * columns + c) 0 ≡ get_or ys ((height * k + l) * columns + c) 0)
    → plane_of_row height columns xs k ≡ plane_of_row height columns ys k
plane_stays height columns xs ys k same =
    let at = λ (l c : ℕ). get_or ys ((height * k + l) * columns + c) 0 in
    plane_known height columns xs (plane_by height columns at) k (length-plane_by height columns at)
    (λ l c lt small. same l c lt small ∙ sym (plane_at height columns at l c lt small))

-- what one plane becomes by a row in place k
pub record IsPut (plane : Plane) (k columns : ℕ) (row : Samples) (old new : List ℕ) : Type 0 where
  pub there : (line column : ℕ) → line < side plane → column < columns
      → get_or new ((side plane * k + line) * columns + column) 0 ≡ sample_of row plane line column
  pub others : (other line column : ℕ) → other ≢ k → other < 12 → line < side plane → column < columns
      → get_or new ((side plane * other + line) * columns + column) 0 ≡ get_or old ((side plane * other + line) * columns + column) 0

module _ (d : Dims) (l b r nl nb nr : List ℕ) (k : ℕ) (row : Samples) (is : row.dims ≡ d) (whole : HasRows row 1)
    (luma : IsPut Y k (16 * d.mb_width) row l nl) (cb : IsPut Cb k (8 * d.mb_width) row b nb) (cr : IsPut Cr k (8 * d.mb_width) row r nr) where
  abbrev new_row : ℕ → Samples
  new_row = kept_row d nl nb nr

  here : new_row k ≡ row
  here =
      let w : row.dims.mb_width ≡ d.mb_width = ap (λ (x : Dims). x.mb_width) is in
      let el = plane_known 16 (16 * d.mb_width) nl row.luma k (omega (arith, whole.luma, w))
      (λ line c lt small. luma.there line c lt small ∙ ap (λ (x : Dims). get_or row.luma (line * columns_of x Y + c) 0) is) in
      let eb = plane_known 8 (8 * d.mb_width) nb row.cb k (omega (arith, whole.cb, w))
      (λ line c lt small. cb.there line c lt small ∙ ap (λ (x : Dims). get_or row.cb (line * columns_of x Cb + c) 0) is) in
      let er = plane_known 8 (8 * d.mb_width) nr row.cr k (omega (arith, whole.cr, w))
      (λ line c lt small. cr.there line c lt small ∙ ap (λ (x : Dims). get_or row.cr (line * columns_of x Cr + c) 0) is) in
      λ i. record { dims = sym is i; luma = el i; cb = eb i; cr = er i }

  there : (n : ℕ) → n < 12 → n ≢ k → new_row n ≡ kept_row d l b r n
  there n lt apart =
      let el = plane_stays 16 (16 * d.mb_width) nl l n (λ line c under small. luma.others n line c apart lt under small) in
      let eb = plane_stays 8 (8 * d.mb_width) nb b n (λ line c under small. cb.others n line c apart lt under small) in
      let er = plane_stays 8 (8 * d.mb_width) nr r n (λ line c under small. cr.others n line c apart lt under small) in
      λ i. record { dims = d; luma = el i; cb = eb i; cr = er i }

  pub row_kept : k < 12 → kept_rows d nl nb nr ≡ slice_set (kept_rows d l b r) k row
  row_kept lt =
      ext_get_or no_samples (kept_rows d nl nb nr) (slice_set (kept_rows d l b r) k row)
      (kept_count d nl nb nr ∙ sym (length-set (kept_rows d l b r) k row ∙ kept_count d l b r))
      (λ n below.
      let small : n < 12 = omega (arith, below, kept_count d nl nb nr) in
      elim (cases_eq n k) [
        | inl same ↦
            kept_is d nl nb nr n no_samples small ∙ ap new_row same ∙ here
            ∙ sym (ap (λ (j : ℕ). get_or (slice_set (kept_rows d l b r) k row) j no_samples) same
            ∙ get_or-set_same (kept_rows d l b r) k row no_samples (omega (arith, lt, kept_count d l b r)))
        | inr differs ↦
            kept_is d nl nb nr n no_samples small ∙ there n small differs
            ∙ sym (get_or-set_other (kept_rows d l b r) k n row no_samples differs ∙ kept_is d l b r n no_samples small)
      ])
