-- Where the samples lie that a vector reads.
use Rattle.std.proofs.Common.{◌≡◌, ℕ, ◌+◌, ◌-◌, ◌*◌, ◌/◌, ◌<◌, ◌≤◌, Bool, true, false, ◌&&◌, ◌||◌, not, refl, ap, sym, ◌∙◌, subst, arith, ℤ, pos, negsuc, ◌≤ℤ◌}
use Rattle.std.specs.Prelude.{nat_lt, int_le, unsigned_abs}
use Rattle.std.specs.Int.RustNames.{int_div}
use Rattle.std.proofs.lemmas.Int.{ints}
use Rattle.std.proofs.lemmas.Bool.{and_parts, le-leb, lt-ltb, ltb-true}
use Rattle.m2v_plane.specs.declared.dims.Dims.{Dims}
use Rattle.m2v_plane.specs.declared.planes.Plane.{Plane}
use Rattle.m2v_plane.specs.declared.planes.Plane.TheVariants.{Y, Cb, Cr}
use Rattle.m2v_plane.specs.declared.planes.Lines.{Lines}
use Rattle.m2v_plane.specs.Sizes.{side, lines_of, columns_of}
use Rattle.m2v_pred.specs.declared.mode.MbPlace.{MbPlace}
use Rattle.m2v_pred.specs.declared.mode.Mode.{Mode}
use Rattle.m2v_pred.specs.declared.source.Parts.{Parts}
use Rattle.m2v_pred.specs.declared.source.Parts.TheVariants.{One, Fields, Halves}
use Rattle.m2v_pred.specs.declared.source.Source.{Source}
use Rattle.m2v_pred.specs.Motion.{parts_of, part_of_line, line_number, own_source, source_of, is_dual}
use Rattle.m2v_pred.specs.Vectors.{Reading, reading, parts, moved, in_plane, source_at, down_at, ReadsInside, DirectionInside, IsInside, HoldsLines, HoldsRead}
use Rattle.m2v_pred.specs.Patches.{part_count, part_height, part_number, source_of_part, PartInside}
use Rattle.m2v_pred.specs.Inside.{spans, part_inside, all_parts_inside, direction_inside, is_inside}
use Rattle.m2v_pred.proofs.Places.{moved_more, lie_all}
use Rattle.m2v_pred.proofs.Parts.{part_known}
use Rattle.m2v_pred.proofs.Areas.{one_part, two_parts}
use Rattle.m2v_pred.proofs.Planes.{plane_inside}
use Rattle.m2v_search.specs.Search.{Vector, span_inside, vector_inside}
use Rattle.m2v_search.specs.declared.form.BlockLines.{BlockLines}
use Rattle.m2v_search.specs.Near.{HasNear, row_lines}

-- ---- spans

not_negative : (z : ℤ) → int_le (pos 0) z ≡ true → pos 0 ≤ℤ z
not_negative (pos n) e = omega (arith, ints)
not_negative (negsuc n) e = absurd cc

least_zero : (z : ℤ) → pos 0 ≤ℤ z → int_le (pos 0) z ≡ true
least_zero (pos n) le = le-leb 0 n (omega arith)
least_zero (negsuc n) le = absurd (omega (arith, ints, le))

span_stays : (n from count : ℕ) (v : ℤ) → 1 ≤ count → span_inside n from count v ≡ true → (pos 0 ≤ℤ moved from v) × (unsigned_abs (moved from v) + 2 * count ≤ 2 * n)
unfolding span_inside
span_stays n from count v some e =
    let h = and_parts (int_le (pos 0) (moved from v)) (nat_lt ((unsigned_abs (moved (from + count - 1) v) + 1) / 2) n) e in
    let low = not_negative (moved from v) h.0 in
    let last = ltb-true ((unsigned_abs (moved (from + count - 1) v) + 1) / 2) n h.1 in
    let same : from + count - 1 ≡ from + (count - 1) = omega (arith, some) in
    let more = ap (λ (m : ℕ). unsigned_abs (moved m v)) same ∙ moved_more from (count - 1) v low in
    (low, omega (arith, last, more, some))

spans_true : (n count : ℕ) (z : ℤ) → pos 0 ≤ℤ z → unsigned_abs z + 2 * count ≤ 2 * n → spans n z count ≡ true
unfolding spans
spans_true n count z low high = rw (least_zero z low, le-leb (unsigned_abs z + 2 * count) (2 * n) high) refl

-- a span that isn't moved
pub still_span : (n from count : ℕ) → 1 ≤ count → from + count ≤ n → span_inside n from count (pos 0) ≡ true
unfolding span_inside
still_span n from count some le =
    let first : moved from (pos 0) ≡ pos (2 * from) = omega (arith, ints) in
    let last : unsigned_abs (moved (from + count - 1) (pos 0)) ≡ 2 * (from + count - 1) = omega (arith, ints) in
    let below : (2 * (from + count - 1) + 1) / 2 < n = omega (arith, some, le) in
    ap (λ z. int_le (pos 0) z && nat_lt ((unsigned_abs (moved (from + count - 1) (pos 0)) + 1) / 2) n) first
    ∙ ap (λ b. b && nat_lt ((unsigned_abs (moved (from + count - 1) (pos 0)) + 1) / 2) n) (le-leb 0 (2 * from) (omega arith))
    ∙ ap (λ m. nat_lt ((m + 1) / 2) n) last ∙ lt-ltb ((2 * (from + count - 1) + 1) / 2) n below

-- ---- parts

-- a part of a macroblock stays inside, by what it goes by
pub record SourceStays (d : Dims) (place : MbPlace) (q : Parts) (part : ℕ) (s : Source) : Type 0 where
  pub low_down : pos 0 ≤ℤ moved (part_number q Y place.row part) s.down
  pub high_down : unsigned_abs (moved (part_number q Y place.row part) s.down) + 2 * part_height q Y ≤ 2 * lines_of d Y s.lines
  pub low_across : pos 0 ≤ℤ moved (16 * place.column) s.across
  pub high_across : unsigned_abs (moved (16 * place.column) s.across) + 2 * 16 ≤ 2 * columns_of d Y

pub vector_stays : (d : Dims) (place : MbPlace) (b : BlockLines) (q : Parts) (part : ℕ) (v : Vector) → b.number ≡ part_number q Y place.row part → b.count ≡ part_height q Y → 1 ≤ b.count
    → vector_inside d b place.column v ≡ true → SourceStays d place q part (record { lines = b.lines; across = v.x; down = v.y })
unfolding vector_inside
vector_stays d place b q part v number count some e =
    let h = and_parts (span_inside (lines_of d Y b.lines) b.number b.count v.y) (span_inside (columns_of d Y) (16 * place.column) 16 v.x) e in
    let down = span_stays (lines_of d Y b.lines) b.number b.count v.y some h.0 in
    let across = span_stays (columns_of d Y) (16 * place.column) 16 v.x (omega arith) h.1 in
    record {
      low_down = subst (λ (n : ℕ). pos 0 ≤ℤ moved n v.y) number down.0;
      high_down = let same = ap (λ (n : ℕ). unsigned_abs (moved n v.y)) number in omega (arith, down.1, same, count);
      low_across = across.0;
      high_across = across.1;
    }

part_in : (d : Dims) (r : Reading) (part : ℕ) → SourceStays d r.place (parts r) part (source_of_part r part) → PartInside d r part
part_in d r part h =
    let s = source_of_part r part in
    record {
      lines = lie_all (part_number (parts r) Y r.place.row part) (part_height (parts r) Y) (lines_of d Y s.lines) s.down h.low_down h.high_down;
      columns = lie_all (16 * r.place.column) 16 (columns_of d Y) s.across h.low_across h.high_across;
    }

part_true : (d : Dims) (r : Reading) (part : ℕ) → SourceStays d r.place (parts r) part (source_of_part r part) → part_inside d r part ≡ true
unfolding part_inside
part_true d r part h =
    let s = source_of_part r part in
    rw (
      spans_true (lines_of d Y s.lines) (part_height (parts r) Y) (moved (part_number (parts r) Y r.place.row part) s.down) h.low_down h.high_down,
      spans_true (columns_of d Y) 16 (moved (16 * r.place.column) s.across) h.low_across h.high_across,
    ) refl

-- all parts of what is read in a direction
pub record PartsStay (d : Dims) (place : MbPlace) (q : Parts) (source : ℕ → Source) : Type 0 where
  pub first : SourceStays d place q 0 (source 0)
  pub second : q ≡ Fields → SourceStays d place q 1 (source 1)

module _ (d : Dims) (r : Reading) where
  reads_in : (q : Parts) → parts r ≡ q → (q ≡ Halves → ⊥) → PartsStay d r.place q (source_of_part r) → ReadsInside d r Y
  reads_in One e other h = one_part d r e (part_in d r 0 (subst (λ (q : Parts). SourceStays d r.place q 0 (source_of_part r 0)) (sym e) h.first))
  reads_in Fields e other h =
      two_parts d r (part_in d r 0 (subst (λ (q : Parts). SourceStays d r.place q 0 (source_of_part r 0)) (sym e) h.first))
      (part_in d r 1 (subst (λ (q : Parts). SourceStays d r.place q 1 (source_of_part r 1)) (sym e) (h.second refl)))
  reads_in Halves e other h = absurd (other refl)

  reads_true : (q : Parts) → parts r ≡ q → (q ≡ Halves → ⊥) → PartsStay d r.place q (source_of_part r) → all_parts_inside (parts r) d r ≡ true
  unfolding all_parts_inside
  reads_true One e other h =
      ap (λ (q : Parts). all_parts_inside q d r) e ∙ part_true d r 0 (subst (λ (q : Parts). SourceStays d r.place q 0 (source_of_part r 0)) (sym e) h.first)
  reads_true Fields e other h =
      ap (λ (q : Parts). all_parts_inside q d r) e
      ∙ ap (λ (b : Bool). b && part_inside d r 1) (part_true d r 0 (subst (λ (q : Parts). SourceStays d r.place q 0 (source_of_part r 0)) (sym e) h.first))
      ∙ part_true d r 1 (subst (λ (q : Parts). SourceStays d r.place q 1 (source_of_part r 1)) (sym e) (h.second refl))
  reads_true Halves e other h = absurd (other refl)

-- ---- modes

-- the motion of a macroblock stays inside in its directions
pub record ModeStays (d : Dims) (place : MbPlace) (mode : Mode) (q : Parts) : Type 0 where
  pub parts_are : parts_of mode.form place.structure ≡ q
  pub whole : q ≡ Halves → ⊥
  pub single : is_dual mode.form ≡ false
  pub forward : mode.forward ≡ true → PartsStay d place q (own_source mode 0 place.structure)
  pub backward : mode.backward ≡ true → PartsStay d place q (own_source mode 1 place.structure)

module _ (d : Dims) (place : MbPlace) (mode : Mode) (q : Parts) (stays : ModeStays d place mode q) where
  direction_in : (direction : ℕ) → PartsStay d place q (own_source mode direction place.structure) → DirectionInside mode direction place d
  unfolding source_of
  direction_in direction h = record {
    own = reads_in d (reading mode direction false place) q stays.parts_are stays.whole h;
    opposite = λ dual. let no : false ≡ true = sym stays.single ∙ dual in absurd cc;
  }

  direction_true : (direction : ℕ) → PartsStay d place q (own_source mode direction place.structure) → direction_inside mode direction place d ≡ true
  unfolding source_of direction_inside
  direction_true direction h =
      ap (λ (b : Bool). b && (not (is_dual mode.form) || all_parts_inside (parts (reading mode direction true place)) d (reading mode direction true place)))
      (reads_true d (reading mode direction false place) q stays.parts_are stays.whole h)
      ∙ ap (λ (b : Bool). not b || all_parts_inside (parts (reading mode direction true place)) d (reading mode direction true place)) stays.single

  pub mode_inside : IsInside mode place d
  mode_inside = record { forward = λ e. direction_in 0 (stays.forward e); backward = λ e. direction_in 1 (stays.backward e) }

  either_way : (told inside : Bool) → (told ≡ true → inside ≡ true) → (not told || inside) ≡ true
  either_way true inside h = h refl
  either_way false inside h = refl

  pub mode_is_inside : is_inside mode place d ≡ true
  unfolding is_inside
  mode_is_inside =
      ap (λ (b : Bool). b && (not mode.backward || direction_inside mode 1 place d)) (either_way mode.forward (direction_inside mode 0 place d) (λ e. direction_true 0 (stays.forward e)))
      ∙ either_way mode.backward (direction_inside mode 1 place d) (λ e. direction_true 1 (stays.backward e))

-- ---- what a view holds

-- what a part goes by reads rows that are near
pub record SourceNear (holds : Plane → Lines → ℕ → Type 0) (d : Dims) (place : MbPlace) (q : Parts) (s : Source) : Type 0 where
  pub few : unsigned_abs s.down ≤ 2 * part_height q Y
  pub rows : (plane : Plane) → row_lines place.structure plane s.lines ≡ part_height q plane
  pub near : HasNear holds d place s.lines

-- a line of a macroblock lies in its row
line_in_row : (q : Parts) (plane : Plane) (row line : ℕ) → (q ≡ Halves → ⊥) → line < side plane
    → (part_height q plane * row ≤ line_number q plane row line) × (line_number q plane row line + 1 ≤ part_height q plane * row + part_height q plane)
line_in_row One Y row line other lt = (omega arith, omega (arith, lt))
line_in_row One Cb row line other lt = (omega arith, omega (arith, lt))
line_in_row One Cr row line other lt = (omega arith, omega (arith, lt))
line_in_row Fields Y row line other lt = (omega arith, omega (arith, lt))
line_in_row Fields Cb row line other lt = (omega arith, omega (arith, lt))
line_in_row Fields Cr row line other lt = (omega arith, omega (arith, lt))
line_in_row Halves plane row line other lt = absurd (other refl)

-- a vector that is short in luma is short in each plane
halved_few : (n : ℕ) (v : ℤ) → unsigned_abs v ≤ 2 * (2 * n) → unsigned_abs (int_div v (pos 2)) ≤ 2 * n
halved_few n (pos a) le = omega (arith, ints, le)
halved_few n (negsuc a) le = omega (arith, ints, le)

plane_few : (q : Parts) (plane : Plane) (v : ℤ) → (q ≡ Halves → ⊥) → unsigned_abs v ≤ 2 * part_height q Y → unsigned_abs (in_plane plane v) ≤ 2 * part_height q plane
plane_few q Y v other le = le
plane_few One Cb v other le = halved_few 8 v le
plane_few One Cr v other le = halved_few 8 v le
plane_few Fields Cb v other le = halved_few 4 v le
plane_few Fields Cr v other le = halved_few 4 v le
plane_few Halves Cb v other le = absurd (other refl)
plane_few Halves Cr v other le = absurd (other refl)

-- the lines that a place needs are near
near_line : (n h base : ℕ) (v : ℤ) → base ≤ n → n + 1 ≤ base + h → unsigned_abs v ≤ 2 * h → pos 0 ≤ℤ moved n v
    → (base ≤ unsigned_abs (moved n v) / 2 + h) × ((unsigned_abs (moved n v) + 1) / 2 < base + 2 * h)
near_line n h base (pos a) low high few first = (omega (arith, ints, low, high, few), omega (arith, ints, low, high, few))
near_line n h base (negsuc a) low high few first = (omega (arith, ints, low, high, few, first), omega (arith, ints, low, high, few, first))

module _ (holds : Plane → Lines → ℕ → Type 0) (d : Dims) (r : Reading) where
  pub held_lines : (q : Parts) → parts r ≡ q → (q ≡ Halves → ⊥) → ReadsInside d r Y
      → ((part : ℕ) → part < part_count q → SourceNear holds d r.place q (source_of_part r part)) → (plane : Plane) → HoldsLines holds r plane
  held_lines q e other inside near plane = record {
    upper = λ line lt. (both line lt).0;
    lower = λ line lt. (both line lt).1;
  }
    where
      both : (line : ℕ) → line < side plane
          → holds plane (source_at r plane line).lines (unsigned_abs (down_at r plane line) / 2) × holds plane (source_at r plane line).lines ((unsigned_abs (down_at r plane line) + 1) / 2)
      both line lt =
          let part = part_of_line (parts r) plane line in
          let s = source_of_part r part in
          let known = part_known (parts r) plane line lt in
          let count = ap part_count e in
          let h = near part (omega (arith, known, count)) in
          let place = (plane_inside d r plane inside).lines line lt in
          let n = line_number (parts r) plane r.place.row line in
          let same = ap (λ (p : Parts). line_number p plane r.place.row line) e in
          let row = line_in_row q plane r.place.row line other lt in
          let bounds = near_line n (part_height q plane) (part_height q plane * r.place.row) (in_plane plane s.down) (omega (arith, row.0, same)) (omega (arith, row.1, same))
          (plane_few q plane s.down other h.few) place.first in
          let rows = h.rows plane in
          let times = ap (λ (k : ℕ). k * r.place.row) rows in (
            h.near.rows plane (unsigned_abs (down_at r plane line) / 2) (omega (arith, place.last)) (omega (arith, bounds.0, rows, times)) (omega (arith, bounds.1, rows, times)),
            h.near.rows plane ((unsigned_abs (down_at r plane line) + 1) / 2) place.last (omega (arith, bounds.0, rows, times)) (omega (arith, bounds.1, rows, times)),
          )

pub direction_held : (holds : Plane → Lines → ℕ → Type 0) (d : Dims) (place : MbPlace) (mode : Mode) (direction : ℕ) (q : Parts) → parts_of mode.form place.structure ≡ q
    → (q ≡ Halves → ⊥) → is_dual mode.form ≡ false → DirectionInside mode direction place d
    → ((part : ℕ) → part < part_count q → SourceNear holds d place q (own_source mode direction place.structure part)) → HoldsRead holds mode direction place
unfolding source_of
direction_held holds d place mode direction q e other single inside near = record {
  own = held_lines holds d (reading mode direction false place) q e other inside.own near;
  opposite = λ dual. let no : false ≡ true = sym single ∙ dual in absurd cc;
}
