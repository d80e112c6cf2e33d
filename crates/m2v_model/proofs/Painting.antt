-- One macroblock more of a plane and of a frame, and all of them.
use Rattle.std.proofs.Common.{◌≡◌, ℕ, zero, suc, ◌+◌, ◌*◌, ◌/◌, ◌%◌, ◌<◌, Bool, true, false, cond, List, [], ◌∷◌, length, get_or, inl, inr, refl, sym, ap, subst, ◌∙◌, arith, mul_comm}
use Rattle.std.specs.Prelude.{nat_eq, nat_abs, ◌&&◌}
use Rattle.std.proofs.lemmas.Int.{ints}
use Rattle.std.proofs.lemmas.Bool.{cases_eq, and_parts, and_from, eqb-true, eq-eqb}
use Rattle.std.proofs.lemmas.List.{length-replicate}
use Rattle.std.proofs.lemmas.Nat.{div-mul-add, mod-mul-add, mod_below}
use Rattle.std.proofs.Math.Nat.{div-lt_iff_lt-mul, div-add-mod}
use Rattle.m2v_plane.specs.declared.dims.Dims.{Dims}
use Rattle.m2v_plane.specs.declared.planes.Plane.{Plane}
use Rattle.m2v_plane.specs.declared.planes.Plane.TheVariants.{Y, Cb, Cr}
use Rattle.m2v_plane.specs.declared.planes.Lines.{Lines}
use Rattle.m2v_plane.specs.declared.planes.Lines.TheVariants.{Whole, Top, Bottom}
use Rattle.m2v_plane.specs.Sizes.{side}
use Rattle.m2v_plane.specs.Samples.{Samples, plane_by, is_among, number_among, plane_with_square, blank}
use Rattle.m2v_plane.proofs.Places.{plane_is, line_fits}
use Rattle.m2v_plane.proofs.RawVideo.{length-plane_by, plane_at}
use Rattle.m2v_macroblock.specs.m2v_pred.declared.mode.MbPlace.{MbPlace}
use Rattle.m2v_macroblock.specs.m2v_pred.Motion.{own_lines}
use Rattle.m2v_macroblock.specs.m2v_macro.declared.values.SliceState.{SliceState}
use Rattle.m2v_macroblock.specs.m2v_macro.declared.values.PictureContext.{PictureContext}
use Rattle.m2v_macroblock.specs.m2v_macro.States.{after}
use Rattle.m2v_macroblock.specs.Macroblocks.{Macroblock, after_macroblock}
use Rattle.m2v_macroblock.specs.Modes.{place_of, address_of, skipped_before, first_skipped}
use Rattle.m2v_model.specs.declared.setup.SliceSetup.{SliceSetup}
use Rattle.m2v_model.specs.Samples.{References, with_squares, put_in_frame, skipped_painted, own_painted, painted, all_painted}
use Rattle.m2v_model.specs.Painting.{HasPart, IsPainted, frame_by, lines_in, LiesIn, skipped_sample, own_sample, IsPartOf, ArePartsOf, after_macroblocks}

-- ---- planes

pub in_columns : (side columns c : ℕ) → 0 < side → c < side * columns → c / side < columns
in_columns side columns c some lt = (div-lt_iff_lt-mul some).1 (omega (arith, mul_comm side columns))

-- what is true of both ways of a test is true of what it picks
picked : (a b : Bool) (x y z : ℕ) → a ≡ true → (b ≡ true → x ≡ z) → (b ≡ false → y ≡ z) → cond (a && b) x y ≡ z
picked true true x y z e h g = h refl
picked true false x y z e h g = g refl
picked false b x y z e h g = absurd cc

-- what doesn't lie on these lines stays
passed : (a b : Bool) (x y z : ℕ) → a ≡ false → y ≡ z → cond (a && b) x y ≡ z
passed true b x y z e h = absurd cc
passed false b x y z e h = h

-- what stands in a plane with a square of these lines put there
abbrev squared : Lines → ℕ → ℕ → ℕ → ℕ → (ℕ → ℕ → ℕ) → List ℕ → ℕ → ℕ → ℕ
squared which side columns row column new xs line c =
    let n = number_among which line in
    cond (is_among which line && (nat_eq (n / side) row && nat_eq (c / side) column)) (new (n % side) (c % side)) (get_or xs (line * (side * columns) + c) 0)

-- one macroblock more
pub part_more : (which : Lines) (side rows columns row column : ℕ) (f new : ℕ → ℕ → ℕ) (xs : List ℕ) → 0 < side → column < columns → HasPart which side rows columns (row * columns + column) f xs
    → ((r c : ℕ) → is_among which r ≡ true → number_among which r / side ≡ row → c / side ≡ column → new (number_among which r % side) (c % side) ≡ f r c)
    → HasPart which side rows columns (row * columns + suc column) f (plane_with_square (side * rows) (side * columns) side which row column new xs)
unfolding plane_with_square
part_more which side rows columns row column f new xs some small h same =
    let at = squared which side columns row column new xs in
    record {
      len = length-plane_by (side * rows) (side * columns) at;
      part = λ r c lr lc among below.
          let n = number_among which r / side in
          plane_at (side * rows) (side * columns) at r c lr lc ∙ picked (is_among which r) (nat_eq n row && nat_eq (c / side) column) _ _ _ among
          (λ here. let p = and_parts (nat_eq n row) (nat_eq (c / side) column) here in same r c among (eqb-true n row p.0) (eqb-true (c / side) column p.1))
          (λ other. h.part r c lr lc among (before n (c / side) (in_columns side columns c some lc) below other));
    }
  where
    -- another macroblock is one before
    before : (a b : ℕ) → b < columns → a * columns + b < row * columns + suc column → (nat_eq a row && nat_eq b column) ≡ false → a * columns + b < row * columns + column
    before a b lt below other = elim (cases_eq (a * columns + b) (row * columns + column)) [
      | inl e ↦
          let down : a ≡ row = sym (div-mul-add a columns b lt) ∙ ap (λ (n : ℕ). n / columns) e ∙ div-mul-add row columns column small in
          let across : b ≡ column = sym (mod-mul-add a columns b lt) ∙ ap (λ (n : ℕ). n % columns) e ∙ mod-mul-add row columns column small in
          let on : (nat_eq a row && nat_eq b column) ≡ true = and_from (nat_eq a row) (nat_eq b column) (eq-eqb a row down) (eq-eqb b column across) in
          absurd cc
      | inr other_one ↦ omega arith
    ]

-- a macroblock of other lines changes nothing of these
pub part_kept : (which others : Lines) (side rows columns count row column : ℕ) (f new : ℕ → ℕ → ℕ) (xs : List ℕ) → HasPart which side rows columns count f xs
    → ((r : ℕ) → is_among which r ≡ true → is_among others r ≡ false)
    → HasPart which side rows columns count f (plane_with_square (side * rows) (side * columns) side others row column new xs)
unfolding plane_with_square
part_kept which others side rows columns count row column f new xs h apart =
    let at = squared others side columns row column new xs in
    record {
      len = length-plane_by (side * rows) (side * columns) at;
      part = λ r c lr lc among below. plane_at (side * rows) (side * columns) at r c lr lc ∙ passed (is_among others r) _ _ _ _ (apart r among) (h.part r c lr lc among below);
    }

-- all macroblocks
pub part_all : (side rows columns : ℕ) (f : ℕ → ℕ → ℕ) (xs : List ℕ) → 0 < side → HasPart Whole side rows columns (rows * columns) f xs → xs ≡ plane_by (side * rows) (side * columns) f
part_all side rows columns f xs some h =
    plane_is xs (side * rows) (side * columns) f h.len (λ r c lr lc.
    let down : r / side < rows = in_columns side rows r some lr in
    let across : c / side < columns = in_columns side columns c some lc in
    h.part r c lr lc refl (omega (arith, line_fits (r / side) rows columns (c / side + 1) down (omega arith))))

-- the macroblocks of both fields, each of half as many rows
pub fields_all : (side half columns : ℕ) (f : ℕ → ℕ → ℕ) (xs : List ℕ) → 0 < side
    → HasPart Top side (2 * half) columns (half * columns) f xs → HasPart Bottom side (2 * half) columns (half * columns) f xs → xs ≡ plane_by (side * (2 * half)) (side * columns) f
fields_all side half columns f xs some top bottom =
    let twice : side * (2 * half) ≡ 2 * (side * half) = omega arith in
    plane_is xs (side * (2 * half)) (side * columns) f top.len (λ r c lr lc.
    let down : r / 2 / side < half = in_columns side half (r / 2) some (omega (arith, twice)) in
    let across : c / side < columns = in_columns side columns c some lc in
    let below = line_fits (r / 2 / side) half columns (c / side + 1) down (omega arith) in
    elim (cases_eq (r % 2) 0) [
      | inl even ↦ top.part r c lr lc (eq-eqb (r % 2) 0 even) (omega (arith, below))
      | inr odd ↦ bottom.part r c lr lc (eq-eqb (r % 2) 1 (omega arith)) (omega (arith, below))
    ])

pub part_none : (which : Lines) (side rows columns : ℕ) (f : ℕ → ℕ → ℕ) (xs : List ℕ) → length xs ≡ (side * rows) * (side * columns) → HasPart which side rows columns 0 f xs
part_none which side rows columns f xs len = record { len = len; part = λ r c lr lc among below. absurd (omega arith) }

-- ---- frames

-- before the first macroblock
pub blank_painted : (which : Lines) (d : Dims) (at : Plane → ℕ → ℕ → ℕ) → IsPainted which d 0 at (blank d d.mb_rows)
blank_painted which d at = record {
  dims = refl;
  luma = part_none which 16 d.mb_rows d.mb_width (at Y) _ (length-replicate (16 * d.mb_rows * (16 * d.mb_width)) 0);
  cb = part_none which 8 d.mb_rows d.mb_width (at Cb) _ (length-replicate (8 * d.mb_rows * (8 * d.mb_width)) 0);
  cr = part_none which 8 d.mb_rows d.mb_width (at Cr) _ (length-replicate (8 * d.mb_rows * (8 * d.mb_width)) 0);
}

squares_more : (which : Lines) (d : Dims) (row column : ℕ) (at new : Plane → ℕ → ℕ → ℕ) (now : Samples) → column < d.mb_width → IsPainted which d (row * d.mb_width + column) at now
    → ((plane : Plane) (r c : ℕ) → is_among which r ≡ true → number_among which r / side plane ≡ row → c / side plane ≡ column → new plane (number_among which r % side plane) (c % side plane) ≡ at plane r c)
    → IsPainted which d (row * d.mb_width + suc column) at (with_squares now.dims.mb_rows which row column new now)
squares_more which d row column at new now lt h same =
    let count = row * d.mb_width + suc column in
    record {
      dims = h.dims;
      luma = subst (λ (e : Dims). HasPart which 16 d.mb_rows d.mb_width count (at Y) (plane_with_square (16 * e.mb_rows) (16 * e.mb_width) 16 which row column (new Y) now.luma)) (sym h.dims)
          (part_more which 16 d.mb_rows d.mb_width row column (at Y) (new Y) now.luma (omega arith) lt h.luma (same Y));
      cb = subst (λ (e : Dims). HasPart which 8 d.mb_rows d.mb_width count (at Cb) (plane_with_square (8 * e.mb_rows) (8 * e.mb_width) 8 which row column (new Cb) now.cb)) (sym h.dims)
          (part_more which 8 d.mb_rows d.mb_width row column (at Cb) (new Cb) now.cb (omega arith) lt h.cb (same Cb));
      cr = subst (λ (e : Dims). HasPart which 8 d.mb_rows d.mb_width count (at Cr) (plane_with_square (8 * e.mb_rows) (8 * e.mb_width) 8 which row column (new Cr) now.cr)) (sym h.dims)
          (part_more which 8 d.mb_rows d.mb_width row column (at Cr) (new Cr) now.cr (omega arith) lt h.cr (same Cr));
    }

-- a frame with the macroblock at an address, behind all those before it
pub put_more : (c : PictureContext) (d : Dims) (address : ℕ) (at new : Plane → ℕ → ℕ → ℕ) (now : Samples) → 0 < d.mb_width → c.columns ≡ d.mb_width → IsPainted (lines_in c) d address at now → LiesIn c address new at
    → IsPainted (lines_in c) d (suc address) at (put_in_frame (place_of c address) new now)
put_more c d address at new now some same h lies =
    let row = address / c.columns in
    let column = address % c.columns in
    let below : column < c.columns = mod_below address c.columns (omega (arith, same)) in
    let place : row * d.mb_width + column ≡ address = ap (λ (n : ℕ). row * n + column) (sym same) ∙ omega (arith, mul_comm row c.columns, div-add-mod address c.columns) in
    let next : row * d.mb_width + suc column ≡ suc address = omega (arith, place) in
    subst (λ (k : ℕ). IsPainted (lines_in c) d k at (put_in_frame (place_of c address) new now)) next
    (squares_more (lines_in c) d row column at new now (omega (arith, same)) (subst (λ (k : ℕ). IsPainted (lines_in c) d k at now) (sym place) h) lies)

-- a macroblock of other lines changes nothing of these
pub put_kept : (which : Lines) (d : Dims) (count : ℕ) (place : MbPlace) (at new : Plane → ℕ → ℕ → ℕ) (now : Samples) → IsPainted which d count at now
    → ((r : ℕ) → is_among which r ≡ true → is_among (own_lines place.structure) r ≡ false)
    → IsPainted which d count at (put_in_frame place new now)
put_kept which d count place at new now h apart =
    let others = own_lines place.structure in
    record {
      dims = h.dims;
      luma = subst (λ (e : Dims). HasPart which 16 d.mb_rows d.mb_width count (at Y) (plane_with_square (16 * e.mb_rows) (16 * e.mb_width) 16 others place.row place.column (new Y) now.luma)) (sym h.dims)
          (part_kept which others 16 d.mb_rows d.mb_width count place.row place.column (at Y) (new Y) now.luma h.luma apart);
      cb = subst (λ (e : Dims). HasPart which 8 d.mb_rows d.mb_width count (at Cb) (plane_with_square (8 * e.mb_rows) (8 * e.mb_width) 8 others place.row place.column (new Cb) now.cb)) (sym h.dims)
          (part_kept which others 8 d.mb_rows d.mb_width count place.row place.column (at Cb) (new Cb) now.cb h.cb apart);
      cr = subst (λ (e : Dims). HasPart which 8 d.mb_rows d.mb_width count (at Cr) (plane_with_square (8 * e.mb_rows) (8 * e.mb_width) 8 others place.row place.column (new Cr) now.cr)) (sym h.dims)
          (part_kept which others 8 d.mb_rows d.mb_width count place.row place.column (at Cr) (new Cr) now.cr h.cr apart);
    }

abbrev samples_of : Dims → List ℕ → List ℕ → List ℕ → Samples
samples_of d luma cb cr = record { dims = d; luma = luma; cb = cb; cr = cr }

samples_same : (d e : Dims) (a b c p q r : List ℕ) → d ≡ e → a ≡ p → b ≡ q → c ≡ r → samples_of d a b c ≡ samples_of e p q r
samples_same d e a b c p q r x y z w = λ i. samples_of (x i) (y i) (z i) (w i)

-- a frame that has them all
pub frame_all : (d : Dims) (at : Plane → ℕ → ℕ → ℕ) (now : Samples) → IsPainted Whole d (d.mb_rows * d.mb_width) at now → now ≡ frame_by d at
frame_all d at now h =
    samples_same now.dims d now.luma now.cb now.cr _ _ _ h.dims
    (part_all 16 d.mb_rows d.mb_width (at Y) now.luma (omega arith) h.luma)
    (part_all 8 d.mb_rows d.mb_width (at Cb) now.cb (omega arith) h.cb)
    (part_all 8 d.mb_rows d.mb_width (at Cr) now.cr (omega arith) h.cr)

-- a frame both of whose fields have them all
pub frame_fields : (d : Dims) (half : ℕ) (at : Plane → ℕ → ℕ → ℕ) (now : Samples) → d.mb_rows ≡ 2 * half → IsPainted Top d (half * d.mb_width) at now → IsPainted Bottom d (half * d.mb_width) at now → now ≡ frame_by d at
frame_fields d half at now two top bottom =
    let count = half * d.mb_width in
    let plane : (side : ℕ) (f : ℕ → ℕ → ℕ) (xs : List ℕ) → 0 < side → HasPart Top side d.mb_rows d.mb_width count f xs → HasPart Bottom side d.mb_rows d.mb_width count f xs → xs ≡ plane_by (side * d.mb_rows) (side * d.mb_width) f =
    λ side f xs some t b.
    fields_all side half d.mb_width f xs some (subst (λ (n : ℕ). HasPart Top side n d.mb_width count f xs) two t) (subst (λ (n : ℕ). HasPart Bottom side n d.mb_width count f xs) two b)
    ∙ ap (λ (n : ℕ). plane_by (side * n) (side * d.mb_width) f) (sym two) in
    samples_same now.dims d now.luma now.cb now.cr _ _ _ top.dims
    (plane 16 (at Y) now.luma (omega arith) top.luma bottom.luma)
    (plane 8 (at Cb) now.cb (omega arith) top.cb bottom.cb)
    (plane 8 (at Cr) now.cr (omega arith) top.cr bottom.cr)

-- ---- macroblocks

skipped_more : (s : SliceSetup) (refs : References) (st : SliceState) (d : Dims) (at : Plane → ℕ → ℕ → ℕ) (n address : ℕ) (now : Samples) → 0 < d.mb_width → s.context.columns ≡ d.mb_width
    → ((k : ℕ) → k < n → LiesIn s.context (address + k) (skipped_sample s refs st (address + k)) at)
    → IsPainted (lines_in s.context) d address at now
    → IsPainted (lines_in s.context) d (address + n) at (skipped_painted put_in_frame s refs st address n now)
unfolding skipped_painted
skipped_more s refs st d at zero address now some same lie h =
    let here : address ≡ address + 0 = omega arith in
    subst (λ (k : ℕ). IsPainted (lines_in s.context) d k at now) here h
skipped_more s refs st d at (suc n) address now some same lie h =
    let new = skipped_sample s refs st in
    let then = put_in_frame (place_of s.context address) (new address) now in
    let here : address + 0 ≡ address = omega arith in
    let next : suc address ≡ address + 1 = omega arith in
    let end : address + 1 + n ≡ address + suc n = omega arith in
    let one = put_more s.context d address at (new address) now some same h (subst (λ (a : ℕ). LiesIn s.context a (new a) at) here (lie 0 (omega arith))) in
    subst (λ (k : ℕ). IsPainted (lines_in s.context) d k at (skipped_painted put_in_frame s refs st (address + 1) n then)) end
    (skipped_more s refs st d at n (address + 1) then some same
    (λ k lt.
    let on : address + suc k ≡ address + 1 + k = omega arith in
    subst (λ (a : ℕ). LiesIn s.context a (new a) at) on (lie (suc k) (omega arith)))
    (subst (λ (k : ℕ). IsPainted (lines_in s.context) d k at then) next one))

-- a macroblock, and those skipped before it
painted_more : (s : SliceSetup) (refs : References) (st : SliceState) (x : Macroblock) (d : Dims) (at : Plane → ℕ → ℕ → ℕ) (now : Samples) → 0 < d.mb_width → s.context.columns ≡ d.mb_width → IsPartOf s refs st x at
    → IsPainted (lines_in s.context) d (first_skipped st) at now
    → IsPainted (lines_in s.context) d (suc (address_of st x.syntax)) at (painted put_in_frame s refs st x now)
unfolding painted own_painted
painted_more s refs st x d at now some same paints h =
    let before = skipped_painted put_in_frame s refs st (first_skipped st) (skipped_before st x.syntax) now in
    let own : first_skipped st + skipped_before st x.syntax ≡ address_of st x.syntax = sym (ap nat_abs paints.follows) in
    let then = skipped_more s refs st d at (skipped_before st x.syntax) (first_skipped st) now some same paints.skipped h in
    put_more s.context d (address_of st x.syntax) at (own_sample s refs st x) before some same (subst (λ (k : ℕ). IsPainted (lines_in s.context) d k at before) own then) paints.own

behind_one : (s : SliceSetup) (refs : References) (st : SliceState) (x : Macroblock) (at : Plane → ℕ → ℕ → ℕ) → IsPartOf s refs st x at → suc (address_of st x.syntax) ≡ first_skipped (after_macroblock s.context st x)
unfolding after_macroblock after
behind_one s refs st x at paints = omega (arith, ints, paints.follows)

-- macroblocks, one behind another
pub all_more : (s : SliceSetup) (refs : References) (st : SliceState) (xs : List Macroblock) (d : Dims) (at : Plane → ℕ → ℕ → ℕ) (now : Samples) → 0 < d.mb_width → s.context.columns ≡ d.mb_width → ArePartsOf s refs st xs at
    → IsPainted (lines_in s.context) d (first_skipped st) at now
    → IsPainted (lines_in s.context) d (first_skipped (after_macroblocks s.context st xs)) at (all_painted put_in_frame s refs st xs now)
unfolding ArePartsOf after_macroblocks all_painted
all_more s refs st [] d at now some same paint h = h
all_more s refs st (x ∷ xs) d at now some same paint h =
    let then = painted put_in_frame s refs st x now in
    all_more s refs (after_macroblock s.context st x) xs d at then some same paint.1
    (subst (λ (k : ℕ). IsPainted (lines_in s.context) d k at then) (behind_one s refs st x at paint.0) (painted_more s refs st x d at now some same paint.0 h))

-- macroblocks of other lines change nothing of these
skipped_kept : (which : Lines) (d : Dims) (count : ℕ) (s : SliceSetup) (refs : References) (st : SliceState) (at : Plane → ℕ → ℕ → ℕ) (n address : ℕ) (now : Samples)
    → ((r : ℕ) → is_among which r ≡ true → is_among (lines_in s.context) r ≡ false)
    → IsPainted which d count at now → IsPainted which d count at (skipped_painted put_in_frame s refs st address n now)
unfolding skipped_painted
skipped_kept which d count s refs st at zero address now apart h = h
skipped_kept which d count s refs st at (suc n) address now apart h =
    let new = skipped_sample s refs st address in
    skipped_kept which d count s refs st at n (address + 1) (put_in_frame (place_of s.context address) new now) apart (put_kept which d count (place_of s.context address) at new now h apart)

pub all_kept : (which : Lines) (d : Dims) (count : ℕ) (s : SliceSetup) (refs : References) (st : SliceState) (xs : List Macroblock) (at : Plane → ℕ → ℕ → ℕ) (now : Samples)
    → ((r : ℕ) → is_among which r ≡ true → is_among (lines_in s.context) r ≡ false)
    → IsPainted which d count at now → IsPainted which d count at (all_painted put_in_frame s refs st xs now)
unfolding all_painted painted own_painted
all_kept which d count s refs st [] at now apart h = h
all_kept which d count s refs st (x ∷ xs) at now apart h =
    let before = skipped_painted put_in_frame s refs st (first_skipped st) (skipped_before st x.syntax) now in
    all_kept which d count s refs (after_macroblock s.context st x) xs at (painted put_in_frame s refs st x now) apart
    (put_kept which d count (place_of s.context (address_of st x.syntax)) at (own_sample s refs st x) before
    (skipped_kept which d count s refs st at (skipped_before st x.syntax) (first_skipped st) now apart h) apart)
