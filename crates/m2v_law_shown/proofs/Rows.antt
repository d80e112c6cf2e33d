-- All slices of a picture, or of the two fields of a frame, give the frame.
use Rattle.std.proofs.Common.{◌≡◌, ℕ, zero, suc, ◌*◌, ◌<◌, Bool, true, false, List, sym, ap, subst, ◌∙◌, arith}
use Rattle.std.specs.Prelude.{◌%◌}
use Rattle.std.proofs.lemmas.Bool.{eqb-true, ne_eqb}
use Rattle.m2v_plane.specs.declared.dims.Dims.{Dims}
use Rattle.m2v_plane.specs.declared.planes.Plane.{Plane}
use Rattle.m2v_plane.specs.declared.planes.Plane.TheVariants.{Y, Cb, Cr}
use Rattle.m2v_plane.specs.declared.planes.Lines.{Lines}
use Rattle.m2v_plane.specs.declared.planes.Lines.TheVariants.{Whole, Top, Bottom}
use Rattle.m2v_plane.specs.Samples.{Samples, blank, is_among}
use Rattle.m2v_slice.specs.Slices.{SliceTask}
use Rattle.m2v_model.specs.Slices.{slice_start}
use Rattle.m2v_model.specs.Samples.{References}
use Rattle.m2v_model.specs.Painting.{IsPainted, frame_by, lines_in}
use Rattle.m2v_model.proofs.Painting.{part_none, blank_painted, frame_all, frame_fields, all_kept}
use Rattle.m2v_enc_stream.specs.Slices.{setup_of, slice_read}
use Rattle.m2v_law_shown.specs.Views.{slice_in}
use Rattle.m2v_law_shown.specs.Rows.{rows_in, IsRowOf}
use Rattle.m2v_law_shown.proofs.Painted.{row_painted}

moved : (v w : Lines) (d e : Dims) (n m : ℕ) (at : Plane → ℕ → ℕ → ℕ) (x : Samples) → v ≡ w → d ≡ e → n ≡ m → IsPainted v d n at x → IsPainted w e m at x
moved v w d e n m at x p q r h =
    subst (λ (k : ℕ). IsPainted w e k at x) r (subst (λ (z : Dims). IsPainted w z n at x) q (subst (λ (z : Lines). IsPainted z d n at x) p h))

-- one slice more
one_row : (t : SliceTask) (r : ℕ) (which : Lines) (d : Dims) (references : List Bool) (refs : References) (at : Plane → ℕ → ℕ → ℕ) (now : Samples) → IsRowOf t r which d refs at
    → IsPainted which d (r * d.mb_width) at now → IsPainted which d (suc r * d.mb_width) at (slice_in t references refs now)
one_row t r which d references refs at now h painted =
    let columns : t.context.columns ≡ d.mb_width = h.slice.columns ∙ ap (λ (e : Dims). e.mb_width) h.dims in
    let count : t.row * t.context.columns ≡ r * d.mb_width = λ i. h.place i * columns i in
    let next : suc t.row * t.context.columns ≡ suc r * d.mb_width = λ i. suc (h.place i) * columns i in
    moved (lines_in t.context) which t.source.dims d (suc t.row * t.context.columns) (suc r * d.mb_width) at (slice_in t references refs now) h.lines h.dims next
    (row_painted t references refs at h.slice h.references h.has now
    (moved which (lines_in t.context) d t.source.dims (r * d.mb_width) (t.row * t.context.columns) at now (sym h.lines) (sym h.dims) (sym count) painted))

-- the first n slices
pub rows_painted : (tasks : ℕ → SliceTask) (which : Lines) (d : Dims) (references : List Bool) (refs : References) (at : Plane → ℕ → ℕ → ℕ) (now : Samples) (n : ℕ)
    → ((r : ℕ) → r < n → IsRowOf (tasks r) r which d refs at)
    → IsPainted which d 0 at now → IsPainted which d (n * d.mb_width) at (rows_in tasks references refs n now)
unfolding rows_in
rows_painted tasks which d references refs at now zero each painted =
    let none : 0 ≡ 0 * d.mb_width = omega arith in subst (λ (k : ℕ). IsPainted which d k at now) none painted
rows_painted tasks which d references refs at now (suc n) each painted =
    one_row (tasks n) n which d references refs at (rows_in tasks references refs n now) (each n (omega arith))
    (rows_painted tasks which d references refs at now n (λ r lt. each r (omega (arith, lt))) painted)

-- slices of other lines change nothing of these
pub rows_kept : (tasks : ℕ → SliceTask) (which others : Lines) (d e : Dims) (count : ℕ) (references : List Bool) (refs : References) (at own : Plane → ℕ → ℕ → ℕ) (now : Samples) (n : ℕ)
    → ((r : ℕ) → is_among which r ≡ true → is_among others r ≡ false)
    → ((r : ℕ) → r < n → IsRowOf (tasks r) r others e refs own)
    → IsPainted which d count at now → IsPainted which d count at (rows_in tasks references refs n now)
unfolding rows_in
rows_kept tasks which others d e count references refs at own now zero apart each painted = painted
rows_kept tasks which others d e count references refs at own now (suc n) apart each painted =
    let t = tasks n in
    let h = each n (omega arith) in
    all_kept which d count (setup_of t references) refs (slice_start t.context t.row (t.row * t.context.columns) t.q) (slice_read t).macroblocks at (rows_in tasks references refs n now)
    (λ r among. ap (λ (l : Lines). is_among l r) h.lines ∙ apart r among)
    (rows_kept tasks which others d e count references refs at own now n apart (λ r lt. each r (omega (arith, lt))) painted)

-- a frame picture
pub frame_painted : (tasks : ℕ → SliceTask) (d : Dims) (references : List Bool) (refs : References) (at : Plane → ℕ → ℕ → ℕ)
    → ((r : ℕ) → r < d.mb_rows → IsRowOf (tasks r) r Whole d refs at)
    → rows_in tasks references refs d.mb_rows (blank d d.mb_rows) ≡ frame_by d at
frame_painted tasks d references refs at each =
    frame_all d at (rows_in tasks references refs d.mb_rows (blank d d.mb_rows))
    (rows_painted tasks Whole d references refs at (blank d d.mb_rows) d.mb_rows each (blank_painted Whole d at))

top_apart : (r : ℕ) → is_among Top r ≡ true → is_among Bottom r ≡ false
top_apart r e = ne_eqb (r % 2) 1 (λ one. let even = eqb-true (r % 2) 0 e in omega (arith, one, even))

-- a first field leaves the lines of the second one as they may be
none_painted : (which others : Lines) (d : Dims) (count : ℕ) (at : Plane → ℕ → ℕ → ℕ) (now : Samples) → IsPainted which d count at now → IsPainted others d 0 at now
none_painted which others d count at now h = record {
  dims = h.dims;
  luma = part_none others 16 d.mb_rows d.mb_width (at Y) now.luma h.luma.len;
  cb = part_none others 8 d.mb_rows d.mb_width (at Cb) now.cb h.cb.len;
  cr = part_none others 8 d.mb_rows d.mb_width (at Cr) now.cr h.cr.len;
}

-- the first field of a frame
pub field_painted : (tasks : ℕ → SliceTask) (d : Dims) (half : ℕ) (references : List Bool) (refs : References) (at : Plane → ℕ → ℕ → ℕ)
    → ((r : ℕ) → r < half → IsRowOf (tasks r) r Top d refs at)
    → IsPainted Top d (half * d.mb_width) at (rows_in tasks references refs half (blank d d.mb_rows))
field_painted tasks d half references refs at each =
    rows_painted tasks Top d references refs at (blank d d.mb_rows) half each (blank_painted Top d at)

-- both fields of a frame, the top one first
pub fields_painted : (tasks : ℕ → SliceTask) (d : Dims) (half : ℕ) (references : List Bool) (refs : References) (at : Plane → ℕ → ℕ → ℕ) (now : Samples) → d.mb_rows ≡ 2 * half
    → IsPainted Top d (half * d.mb_width) at now
    → ((r : ℕ) → r < half → IsRowOf (tasks r) r Bottom d refs at)
    → rows_in tasks references refs half now ≡ frame_by d at
fields_painted tasks d half references refs at now two top each =
    let count = half * d.mb_width in
    frame_fields d half at (rows_in tasks references refs half now) two
    (rows_kept tasks Top Bottom d d count references refs at at now half top_apart each top)
    (rows_painted tasks Bottom d references refs at now half each (none_painted Top Bottom d count at now top))
