-- The rows of a frame picture replace all samples of the frame over which they are set.
use Rattle.std.proofs.Common.{◌≡◌, ℕ, zero, suc, ◌+◌, ◌*◌, ◌/◌, ◌%◌, ◌<◌, Bool, true, false, cond, List, get_or, Option, Some, None, refl, sym, ap, subst, ◌∙◌, arith}
use Rattle.std.specs.Prelude.{nat_eq, IsSome}
use Rattle.std.proofs.lemmas.Bool.{eqb-false}
use Rattle.std.proofs.Math.Nat.{div-lt_iff_lt-mul, mul_comm}
use Rattle.m2v_plane.specs.declared.dims.Dims.{Dims}
use Rattle.m2v_plane.specs.declared.planes.Lines.{Lines}
use Rattle.m2v_plane.specs.declared.planes.Lines.TheVariants.{Whole}
use Rattle.m2v_plane.specs.Samples.{Samples, plane_with_row, with_row}
use Rattle.m2v_plane.proofs.RawVideo.{plane_at}
use Rattle.m2v_pred.specs.Motion.{own_lines}
use Rattle.m2v_dec_batch.specs.declared.picture.Header.{Header}
use Rattle.m2v_dec_batch.specs.Batches.{Rows, with_own, rows_set}
use Rattle.m2v_dec_batch.proofs.Setting.{planes_same, none_set, one_set}

-- ---- a plane

-- two planes are the same on the lines of the first n rows
abbrev AgreeAbove : ℕ → ℕ → ℕ → ℕ → List ℕ → List ℕ → Type 0
AgreeAbove lines columns height n xs ys = (r c : ℕ) → r < lines → c < columns → r / height < n → get_or xs (r * columns + c) 0 ≡ get_or ys (r * columns + c) 0

-- what a row leaves at a place: its own sample, or the one that stood there
left_at : (own : Bool) (new x y : ℕ) → (own ≡ false → x ≡ y) → cond own new x ≡ cond own new y
left_at true new x y same = refl
left_at false new x y same = same refl

row_above : (k n : ℕ) → k < suc n → (k ≡ n → ⊥) → k < n
row_above k n lt other = omega (arith, lt, other)

row_at : (columns height n : ℕ) (xs ys new : List ℕ) (r c : ℕ) → (r / height < n → get_or xs (r * columns + c) 0 ≡ get_or ys (r * columns + c) 0) → r / height < suc n
    → cond (nat_eq (r / height) n) (get_or new (r % height * columns + c) 0) (get_or xs (r * columns + c) 0)
    ≡ cond (nat_eq (r / height) n) (get_or new (r % height * columns + c) 0) (get_or ys (r * columns + c) 0)
row_at columns height n xs ys new r c same lt =
    left_at (nat_eq (r / height) n) (get_or new (r % height * columns + c) 0) (get_or xs (r * columns + c) 0) (get_or ys (r * columns + c) 0)
    (λ e. same (row_above (r / height) n lt (eqb-false (r / height) n e)))

-- one row more
plane_more : (lines columns height n : ℕ) (xs ys new : List ℕ) → AgreeAbove lines columns height n xs ys
    → AgreeAbove lines columns height (suc n) (plane_with_row lines columns height Whole n xs new) (plane_with_row lines columns height Whole n ys new)
unfolding plane_with_row
plane_more lines columns height n xs ys new same r c lr lc below =
    let f = λ (zs : List ℕ) (line column : ℕ). cond (nat_eq (line / height) n) (get_or new (line % height * columns + column) 0) (get_or zs (line * columns + column) 0) in
    plane_at lines columns (f xs) r c lr lc
    ∙ row_at columns height n xs ys new r c (same r c lr lc) below
    ∙ sym (plane_at lines columns (f ys) r c lr lc)

row_within : (r height n : ℕ) → 0 < height → r < height * suc n → r / height < suc n
row_within r height n some lt = (div-lt_iff_lt-mul some).1 (omega (arith, lt, mul_comm height (suc n)))

-- the last row
plane_covered : (lines columns height n : ℕ) (xs ys new : List ℕ) → 0 < height → lines ≡ height * suc n → AgreeAbove lines columns height n xs ys
    → plane_with_row lines columns height Whole n xs new ≡ plane_with_row lines columns height Whole n ys new
unfolding plane_with_row
plane_covered lines columns height n xs ys new some whole same =
    let f = λ (zs : List ℕ) (line column : ℕ). cond (nat_eq (line / height) n) (get_or new (line % height * columns + column) 0) (get_or zs (line * columns + column) 0) in
    planes_same lines columns (f xs) (f ys)
    (λ r c lr lc. row_at columns height n xs ys new r c (same r c lr lc) (row_within r height n some (subst (λ (k : ℕ). r < k) whole lr)))

-- ---- a frame

-- a plane of a frame's size with a row set
abbrev row_in : Dims → ℕ → ℕ → List ℕ → List ℕ → List ℕ
row_in d height n old new = plane_with_row (height * d.mb_rows) (height * d.mb_width) height Whole n old new

abbrev PlanesAgree : Dims → ℕ → ℕ → List ℕ → List ℕ → Type 0
PlanesAgree d height n xs ys = AgreeAbove (height * d.mb_rows) (height * d.mb_width) height n xs ys

-- two frames of a size are the same in the first n rows
record FramesAgree (d : Dims) (n : ℕ) (f g : Samples) : Type 0 where
  one : f.dims ≡ d
  other : g.dims ≡ d
  luma : PlanesAgree d 16 n f.luma g.luma
  cb : PlanesAgree d 8 n f.cb g.cb
  cr : PlanesAgree d 8 n f.cr g.cr

agree_none : (d : Dims) (f g : Samples) → f.dims ≡ d → g.dims ≡ d → FramesAgree d 0 f g
agree_none d f g ef eg = record {
  one = ef;
  other = eg;
  luma = λ r c lr lc below. absurd (omega (arith, below));
  cb = λ r c lr lc below. absurd (omega (arith, below));
  cr = λ r c lr lc below. absurd (omega (arith, below));
}

sized_more : (d x y : Dims) (height n : ℕ) (xs ys new : List ℕ) → x ≡ d → y ≡ d → PlanesAgree d height n xs ys → PlanesAgree d height (suc n) (row_in x height n xs new) (row_in y height n ys new)
sized_more d x y height n xs ys new ex ey same r c lr lc below =
    ap (λ (e : Dims). get_or (row_in e height n xs new) (r * (height * d.mb_width) + c) 0) ex
    ∙ plane_more (height * d.mb_rows) (height * d.mb_width) height n xs ys new same r c lr lc below
    ∙ sym (ap (λ (e : Dims). get_or (row_in e height n ys new) (r * (height * d.mb_width) + c) 0) ey)

agree_more : (d : Dims) (n : ℕ) (f g new : Samples) → FramesAgree d n f g → FramesAgree d (suc n) (with_row f Whole n new) (with_row g Whole n new)
agree_more d n f g new a = record {
  one = a.one;
  other = a.other;
  luma = sized_more d f.dims g.dims 16 n f.luma g.luma new.luma a.one a.other a.luma;
  cb = sized_more d f.dims g.dims 8 n f.cb g.cb new.cb a.one a.other a.cb;
  cr = sized_more d f.dims g.dims 8 n f.cr g.cr new.cr a.one a.other a.cr;
}

sized_covered : (d x y : Dims) (height n : ℕ) (xs ys new : List ℕ) → 0 < height → suc n ≡ d.mb_rows → x ≡ d → y ≡ d → PlanesAgree d height n xs ys → row_in x height n xs new ≡ row_in y height n ys new
sized_covered d x y height n xs ys new some rows ex ey same =
    ap (λ (e : Dims). row_in e height n xs new) ex
    ∙ plane_covered (height * d.mb_rows) (height * d.mb_width) height n xs ys new some (ap (λ (k : ℕ). height * k) (sym rows)) same
    ∙ sym (ap (λ (e : Dims). row_in e height n ys new) ey)

frame_covered : (d : Dims) (n : ℕ) (f g new : Samples) → suc n ≡ d.mb_rows → FramesAgree d n f g → with_row f Whole n new ≡ with_row g Whole n new
frame_covered d n f g new rows a =
    let size = a.one ∙ sym a.other in
    let luma = sized_covered d f.dims g.dims 16 n f.luma g.luma new.luma (omega arith) rows a.one a.other a.luma in
    let cb = sized_covered d f.dims g.dims 8 n f.cb g.cb new.cb (omega arith) rows a.one a.other a.cb in
    let cr = sized_covered d f.dims g.dims 8 n f.cr g.cr new.cr (omega arith) rows a.one a.other a.cr in
    λ i. record { dims = size i; luma = luma i; cb = cb i; cr = cr i }

-- ---- the rows of a picture

whole_lines : (structure : ℕ) → structure ≡ 3 → own_lines structure ≡ Whole
whole_lines structure e = ap own_lines e

own_agree : (h : Header) (d : Dims) (n : ℕ) (row : Option Samples) (f g : Samples) → h.structure ≡ 3 → IsSome row → FramesAgree d n f g → FramesAgree d (suc n) (with_own h n row f) (with_own h n row g)
own_agree h d n None f g e some a = absurd (cc some)
own_agree h d n (Some xs) f g e some a =
    subst (λ (w : Lines). FramesAgree d (suc n) (with_row f w n xs) (with_row g w n xs)) (sym (whole_lines h.structure e)) (agree_more d n f g xs a)

own_covered : (h : Header) (d : Dims) (n : ℕ) (row : Option Samples) (f g : Samples) → h.structure ≡ 3 → IsSome row → suc n ≡ d.mb_rows → FramesAgree d n f g → with_own h n row f ≡ with_own h n row g
own_covered h d n None f g e some rows a = absurd (cc some)
own_covered h d n (Some xs) f g e some rows a =
    subst (λ (w : Lines). with_row f w n xs ≡ with_row g w n xs) (sym (whole_lines h.structure e)) (frame_covered d n f g xs rows a)

rows_agree : (h : Header) (at : Rows) (from n : ℕ) (f g : Samples) → h.structure ≡ 3 → f.dims ≡ g.dims → ((k : ℕ) → k < n → IsSome (at (from + k)))
    → FramesAgree g.dims n (rows_set h at from n f) (rows_set h at from n g)
rows_agree h at from zero f g e size some =
    subst (λ (x : Samples). FramesAgree g.dims 0 x (rows_set h at from 0 g)) (sym (none_set h at from f))
    (subst (λ (x : Samples). FramesAgree g.dims 0 f x) (sym (none_set h at from g)) (agree_none g.dims f g size refl))
rows_agree h at from (suc n) f g e size some =
    subst (λ (x : Samples). FramesAgree g.dims (suc n) x (rows_set h at from (suc n) g)) (sym (one_set h at from n f))
    (subst (λ (x : Samples). FramesAgree g.dims (suc n) (with_own h n (at (from + n)) (rows_set h at from n f)) x) (sym (one_set h at from n g))
    (own_agree h g.dims n (at (from + n)) (rows_set h at from n f) (rows_set h at from n g) e (some n (omega arith))
    (rows_agree h at from n f g e size (λ k lt. some k (omega (arith, lt))))))

-- all rows of a frame picture make the same frame, over whatever frame of the size they are set
pub covered : (h : Header) (at : Rows) (from n : ℕ) (f g : Samples) → h.structure ≡ 3 → f.dims ≡ g.dims → n ≡ f.dims.mb_rows → 0 < n → ((k : ℕ) → k < n → IsSome (at (from + k)))
    → rows_set h at from n f ≡ rows_set h at from n g
covered h at from zero f g e size rows positive some = absurd (omega (arith, positive))
covered h at from (suc n) f g e size rows positive some =
    one_set h at from n f
    ∙ own_covered h g.dims n (at (from + n)) (rows_set h at from n f) (rows_set h at from n g) e (some n (omega arith)) (rows ∙ ap (λ (d : Dims). d.mb_rows) size)
    (rows_agree h at from n f g e size (λ k lt. some k (omega (arith, lt))))
    ∙ sym (one_set h at from n g)
