-- Where the lines of a reference stand, and that they are the reference's there.
use Rattle.std.proofs.Common.{◌≡◌, ℕ, suc, ◌+◌, ◌-◌, ◌*◌, ◌/◌, ◌%◌, ◌<◌, ◌≤◌, Bool, cond, List, length, get_or, Option, Some, None, refl, sym, ap, subst, ◌∙◌, arith}
use Rattle.std.specs.Prelude.{nat_eq, slice_index, IsSome, IfSome}
use Rattle.m2v_plane.specs.declared.dims.Dims.{Dims}
use Rattle.m2v_plane.specs.declared.planes.Plane.{Plane}
use Rattle.m2v_plane.specs.declared.planes.Plane.TheVariants.{Y, Cb, Cr}
use Rattle.m2v_plane.specs.declared.planes.Lines.{Lines}
use Rattle.m2v_plane.specs.Sizes.{IsSize, side, frame_line, lines_of, columns_of}
use Rattle.m2v_plane.specs.Samples.{Samples, sample_of, sample_in, line_part}
use Rattle.m2v_plane.specs.Fields.{no_samples, or_none}
use Rattle.m2v_plane.proofs.Places.{part_of-le}
use Rattle.m2v_set.specs.Numbers.{dims_of}
use Rattle.m2v_slice.specs.declared.window.Stand.TheVariants.{Before, Cached, Absent}
use Rattle.m2v_slice.specs.Books.{Book, job_at, line_in, coded, slice_at, reference_picture, picture_sample, reference}
use Rattle.m2v_slice.specs.Kept.{kept_at}
use Rattle.m2v_slice.specs.Cached as cached
use Rattle.m2v_slice.specs.Conditions.{IsBook}
use Rattle.m2v_slice.specs.Jobs.{FitsCache}
use Rattle.m2v_slice.specs.Needs.{needed_below, needed_few}
use Rattle.m2v_slice.specs.Windows.{needed, first_near, count_near, IsAmong, IsNear, AreNearRows, HoldsOf}
use Rattle.m2v_slice.specs.Stands.{StandsAt, StandsFor, IsHeldLine}

-- ---- making a stand

pub stands_before : (b : Book) (p r : ℕ) → StandsFor b p r None Before
unfolding StandsFor
stands_before b p r = tt

pub stands_absent : (b : Book) (p r q : ℕ) (pictures : List ℕ) → pictures ≡ needed b p
    → ((i : ℕ) → i < length pictures → slice_index pictures i ≡ q → ⊥) → StandsFor b p r (Some q) Absent
unfolding StandsFor
stands_absent b p r q pictures e others =
    let f = subst (λ (xs : List ℕ). (i : ℕ) → i < length xs → slice_index xs i ≡ q → ⊥) e others in
    λ (h : IsAmong q (needed b p)). f h.place h.below h.there

pub stands_cached : (b : Book) (p r q i place : ℕ) (whole : Bool) → i < length (needed b p) → slice_index (needed b p) i ≡ q
    → place ≡ i * count_near b r → whole ≡ nat_eq (job_at b q).structure 3 → StandsFor b p r (Some q) (Cached place whole)
unfolding StandsFor
stands_cached b p r q i place whole lt is e f = record { number = i; below = lt; there = is; place_is = e; whole_is = f }

pub among_below : (b : Book) (p i q : ℕ) → i < length (needed b p) → slice_index (needed b p) i ≡ q → q < p
among_below b p i q lt is = subst (λ (n : ℕ). n < p) is (needed_below b p i 0 lt)

pub place_small : (b : Book) (p i n : ℕ) → i < length (needed b p) → n ≤ 3 → i * n ≤ 12
place_small b p i n lt few =
    let four = needed_few b p in
    let e : 3 ≡ n + (3 - n) = omega arith in
    let f : i * 3 ≡ i * n + i * (3 - n) = ap (λ (k : ℕ). i * k) e ∙ (let g : i * (n + (3 - n)) ≡ i * n + i * (3 - n) = omega arith in g) in
    omega (arith, f, four, lt)

-- ---- reading by a stand

-- lines in the anchor before the group
pub record InBefore (b : Book) (o : Option ℕ) : Type 0 where
  pub none : o ≡ None
  pub some : IsSome b.before

pub in_before : (b : Book) (p r : ℕ) (o : Option ℕ) (plane : Plane) (lines : Lines) (line : ℕ) → StandsFor b p r o Before
    → HoldsOf b p r o plane lines line → InBefore b o
unfolding StandsFor HoldsOf
in_before b p r None plane lines line s h = record { none = refl; some = h }
in_before b p r (Some q) plane lines line s h = absurd s

-- lines in a cache
pub record InCache (b : Book) (p r : ℕ) (o : Option ℕ) (place : ℕ) (whole : Bool) (plane : Plane) (lines : Lines) (line : ℕ) : Type 0 where
  pub picture : ℕ
  pub found : o ≡ Some picture
  pub stands : StandsAt b p r picture place whole
  pub near : IsNear b r (line_in (job_at b picture).structure lines line / side plane)

pub in_cache : (b : Book) (p r : ℕ) (o : Option ℕ) (place : ℕ) (whole : Bool) (plane : Plane) (lines : Lines) (line : ℕ)
    → StandsFor b p r o (Cached place whole) → HoldsOf b p r o plane lines line → InCache b p r o place whole plane lines line
unfolding StandsFor HoldsOf
in_cache b p r None place whole plane lines line s h = absurd s
in_cache b p r (Some q) place whole plane lines line s h = record { picture = q; found = refl; stands = s; near = h.1 }

pub not_absent : (b : Book) (p r : ℕ) (o : Option ℕ) (plane : Plane) (lines : Lines) (line : ℕ) → StandsFor b p r o Absent → HoldsOf b p r o plane lines line → ⊥
unfolding StandsFor HoldsOf
not_absent b p r None plane lines line s h = s
not_absent b p r (Some q) plane lines line s h = s h.0

-- ---- lines of the anchor before

if_some_line : (o : Option Samples) (d : Dims) (plane : Plane) (lines : Lines) (line : ℕ) → IfSome o (λ f. f.dims ≡ d) → line < lines_of d plane lines
    → IfSome o (λ f. line < lines_of f.dims plane lines)
if_some_line None d plane lines line h lt = tt
if_some_line (Some f) d plane lines line h lt = subst (λ (x : Dims). line < lines_of x plane lines) (sym h) lt

if_some_column : (o : Option Samples) (d : Dims) (plane : Plane) (end : ℕ) → IfSome o (λ f. f.dims ≡ d) → end ≤ columns_of d plane
    → IfSome o (λ f. end ≤ columns_of f.dims plane)
if_some_column None d plane end h lt = tt
if_some_column (Some f) d plane end h lt = subst (λ (x : Dims). end ≤ columns_of x plane) (sym h) lt

pub before_line : (b : Book) → IsBook b → (o : Option Samples) (plane : Plane) (lines : Lines) (line : ℕ) → o ≡ b.before → line < lines_of (dims_of b.settings) plane lines
    → IfSome o (λ f. line < lines_of f.dims plane lines)
before_line b h o plane lines line e lt =
    subst (λ (x : Option Samples). IfSome x (λ f. line < lines_of f.dims plane lines)) (sym e) (if_some_line b.before (dims_of b.settings) plane lines line h.size lt)

pub before_column : (b : Book) → IsBook b → (o : Option Samples) (plane : Plane) (end : ℕ) → o ≡ b.before → end ≤ columns_of (dims_of b.settings) plane
    → IfSome o (λ f. end ≤ columns_of f.dims plane)
before_column b h o plane end e le =
    subst (λ (x : Option Samples). IfSome x (λ f. end ≤ columns_of f.dims plane)) (sym e) (if_some_column b.before (dims_of b.settings) plane end h.size le)

pub before_value : (b : Book) (p n : ℕ) (o : Option Samples) (plane : Plane) (lines : Lines) (line column len : ℕ) → reference_picture b p n lines ≡ None → o ≡ b.before
    → line_part (sample_in (or_none o) plane lines line) column len ≡ line_part (reference b (coded b p) p n plane lines line) column len
unfolding reference picture_sample
before_value b p n o plane lines line column len e f =
    ap (λ (x : Option Samples). line_part (sample_in (or_none x) plane lines line) column len) f
    ∙ sym (ap (λ (x : Option ℕ). line_part (picture_sample b (coded b p) x plane lines line) column len) e)

-- ---- lines of a cache

side_some : (plane : Plane) → (8 ≤ side plane) × (side plane ≤ 16)
side_some Y = (omega arith, omega arith)
side_some Cb = (omega arith, omega arith)
side_some Cr = (omega arith, omega arith)

pub line_small : (d : Dims) (plane : Plane) (lines : Lines) (line : ℕ) → IsSize d → line < lines_of d plane lines → line ≤ 1152
line_small d Y lines line h lt = omega (arith, lt, part_of-le lines (16 * d.mb_rows), h.mb_rows)
line_small d Cb lines line h lt = omega (arith, lt, part_of-le lines (8 * d.mb_rows), h.mb_rows)
line_small d Cr lines line h lt = omega (arith, lt, part_of-le lines (8 * d.mb_rows), h.mb_rows)

-- a line among those of all rows, by its place in a picture
kept_row_is : (plane : Plane) (place first there at : ℕ) → at + side plane * first ≡ there + side plane * place → first ≤ there / side plane
    → at / side plane ≡ place + (there / side plane - first)
kept_row_is Y place first there at e le = omega (arith, e, le)
kept_row_is Cb place first there at e le = omega (arith, e, le)
kept_row_is Cr place first there at e le = omega (arith, e, le)

kept_line_is : (plane : Plane) (place first there at : ℕ) → at + side plane * first ≡ there + side plane * place → first ≤ there / side plane
    → at % side plane ≡ there % side plane
kept_line_is Y place first there at e le = omega (arith, e, le)
kept_line_is Cb place first there at e le = omega (arith, e, le)
kept_line_is Cr place first there at e le = omega (arith, e, le)

module _ (b : Book) (p r : ℕ) (c : cached.Cached) (near : AreNearRows b p r c.rows) (fits : FitsCache b c)
    (o : Option ℕ) (place : ℕ) (whole : Bool) (plane : Plane) (lines : Lines) (line : ℕ) (h : InCache b p r o place whole plane lines line) where
  abbrev line_there : ℕ
  line_there = cond whole (frame_line lines line) line

  line_there_is : line_there ≡ line_in (job_at b h.picture).structure lines line
  line_there_is = ap (λ (t : Bool). cond t (frame_line lines line) line) h.stands.whole_is

  abbrev row_there : ℕ
  row_there = line_there / side plane

  row_there_is : row_there ≡ line_in (job_at b h.picture).structure lines line / side plane
  row_there_is = ap (λ (l : ℕ). l / side plane) line_there_is

  slot_within : place + (row_there - first_near r) < length c.rows
  slot_within =
      let n = count_near b r in
      let s = h.stands in
      let k = length (needed b p) - suc s.number in
      let e : length (needed b p) ≡ s.number + 1 + k = omega (arith, s.below) in
      let f : length (needed b p) * n ≡ (s.number + 1 + k) * n = ap (λ (m : ℕ). m * n) e in
      let g : (s.number + 1 + k) * n ≡ s.number * n + n + k * n = omega arith in
      omega (arith, f, g, near.room, s.place_is, row_there_is, h.near.least, h.near.most)

  pub held_line : (first there : ℕ) → first ≡ first_near r → there ≡ line_there → IsHeldLine c place first plane there
  held_line first there e f =
      let rows = ap (λ (l : ℕ). l / side plane) f in
      record {
        least = omega (arith, e, rows, row_there_is, h.near.least);
        most = omega (arith, e, rows, slot_within);
        few = omega (arith, fits.room);
      }

  pub held_column : (first there end : ℕ) → first ≡ first_near r → there ≡ line_there → end ≤ columns_of (dims_of b.settings) plane
      → end ≤ columns_of (get_or c.rows (place + (there / side plane - first)) no_samples).dims plane
  held_column first there end e f le =
      let rows = ap (λ (l : ℕ). l / side plane) f in
      let below : place + (there / side plane - first) < length c.rows = omega (arith, e, rows, slot_within) in
      subst (λ (d : Dims). end ≤ columns_of d plane) (sym (fits.size (place + (there / side plane - first)) no_samples below)) le

  row_held : (get_or c.rows (place + (row_there - first_near r)) no_samples) ≡ (slice_at (coded b p) h.picture row_there).row
  row_held =
      let s = h.stands in
      let x = row_there - first_near r in
      let small : x < count_near b r = omega (arith, row_there_is, h.near.least, h.near.most) in
      let far : first_near r + x ≡ row_there = omega (arith, row_there_is, h.near.least) in
      ap (λ (k : ℕ). get_or c.rows (k + x) no_samples) s.place_is
      ∙ near.row s.number x no_samples s.below small
      ∙ ap (λ (q : ℕ). (slice_at (coded b p) q (first_near r + x)).row) s.there
      ∙ ap (λ (k : ℕ). (slice_at (coded b p) h.picture k).row) far

  pub held_value : (n first there column len : ℕ) → first ≡ first_near r → there ≡ line_there → reference_picture b p n lines ≡ o
      → line_part (sample_of (get_or c.rows (place + (there / side plane - first)) no_samples) plane (there % side plane)) column len
      ≡ line_part (reference b (coded b p) p n plane lines line) column len
  unfolding reference picture_sample
  held_value n first there column len e f is =
      ap (λ (k : ℕ). line_part (sample_of (get_or c.rows (place + (there / side plane - k)) no_samples) plane (there % side plane)) column len) e
      ∙ ap (λ (l : ℕ). line_part (sample_of (get_or c.rows (place + (l / side plane - first_near r)) no_samples) plane (l % side plane)) column len) f
      ∙ ap (λ (s : Samples). line_part (sample_of s plane (line_there % side plane)) column len) row_held
      ∙ ap (λ (l : ℕ). line_part (sample_of (slice_at (coded b p) h.picture (l / side plane)).row plane (l % side plane)) column len) line_there_is
      ∙ sym (ap (λ (x : Option ℕ). line_part (picture_sample b (coded b p) x plane lines line) column len) (is ∙ h.found))

  -- ---- among the lines of all rows

  pub kept_below : (first there at : ℕ) → first ≡ first_near r → there ≡ line_there → at + side plane * first ≡ there + side plane * place
      → at / side plane < length c.rows
  kept_below first there at e f g =
      let held = held_line first there e f in
      omega (arith, held.most, kept_row_is plane place first there at g held.least)

  pub kept_value : (n first there at column len : ℕ) → first ≡ first_near r → there ≡ line_there → at + side plane * first ≡ there + side plane * place
      → reference_picture b p n lines ≡ o
      → line_part (kept_at c.rows plane at) column len ≡ line_part (reference b (coded b p) p n plane lines line) column len
  kept_value n first there at column len e f g is =
      let held = held_line first there e f in
      ap (λ (k : ℕ). line_part (sample_of (get_or c.rows k no_samples) plane (at % side plane)) column len) (kept_row_is plane place first there at g held.least)
      ∙ ap (λ (l : ℕ). line_part (sample_of (get_or c.rows (place + (there / side plane - first)) no_samples) plane l) column len)
      (kept_line_is plane place first there at g held.least)
      ∙ held_value n first there column len e f is
