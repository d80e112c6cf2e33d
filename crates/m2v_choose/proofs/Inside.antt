-- Each candidate's prediction stays inside its references, and reads only rows that are near.
use Rattle.std.proofs.Common.{◌≡◌, ◌≢◌, ℕ, zero, suc, ◌*◌, ◌/◌, ◌<◌, ◌≤◌, Bool, true, false, ◌||◌, not, IsTrue, ◌⊎◌, inl, inr, List, [], ◌∷◌, filter, refl, ap, sym, ◌∙◌, subst, arith, ℤ, pos}
use Rattle.std.specs.Prelude.{nat_eq, nat_lt, if◌then◌else◌, slice_index_or, unsigned_abs}
use Rattle.std.proofs.lemmas.Int.{ints}
use Rattle.std.proofs.lemmas.Bool.{eqb-true, true≢false}
use Rattle.std.proofs.lemmas.List.Elements.{filter_passes}
use Rattle.m2v_plane.specs.declared.dims.Dims.{Dims}
use Rattle.m2v_plane.specs.declared.planes.Plane.{Plane}
use Rattle.m2v_plane.specs.declared.planes.Plane.TheVariants.{Y}
use Rattle.m2v_plane.specs.declared.planes.Lines.{Lines}
use Rattle.m2v_plane.specs.declared.planes.Lines.TheVariants as lines
use Rattle.m2v_plane.specs.Sizes.{side, lines_of, columns_of, IsSize}
use Rattle.m2v_vector.specs.Predictors.{number_of, zeros}
use Rattle.m2v_macro.specs.declared.values.MacroSyntax.{MacroSyntax}
use Rattle.m2v_macro.specs.declared.values.PictureContext.{PictureContext}
use Rattle.m2v_macro.specs.declared.values.Selected.{Selected}
use Rattle.m2v_macro.specs.declared.values.Direction.{Direction}
use Rattle.m2v_macro.specs.States.{is_field as is_field_picture}
use Rattle.m2v_macro.specs.Macros.{no_vectors}
use Rattle.m2v_pred.specs.declared.mode.MbPlace.{MbPlace}
use Rattle.m2v_pred.specs.declared.mode.Mode.{Mode}
use Rattle.m2v_pred.specs.declared.mode.Form.{Form}
use Rattle.m2v_pred.specs.declared.mode.Form.TheVariants.{Frame, Field}
use Rattle.m2v_pred.specs.declared.source.Parts.{Parts}
use Rattle.m2v_pred.specs.declared.source.Parts.TheVariants.{One, Fields, Halves}
use Rattle.m2v_pred.specs.declared.source.Source.{Source}
use Rattle.m2v_pred.specs.Motion.{parts_of, own_source, own_lines, own_field, field_lines, other_field, lines_read, vector_number, component, is_dual}
use Rattle.m2v_pred.specs.Vectors.{IsPlace, IsInside, HoldsRead}
use Rattle.m2v_pred.specs.Patches.{part_count, part_height}
use Rattle.m2v_pred.specs.Inside.{is_inside}
use Rattle.m2v_macroblock.specs.Modes.{form_of, told_mode, mode_of, zero_motion, without_motion_type}
use Rattle.m2v_macroblock.specs.Predictions.{View}
use Rattle.m2v_search.specs.declared.form.SearchForm.{SearchForm}
use Rattle.m2v_search.specs.declared.form.SearchForm.TheVariants.{Whole, FieldLines, FieldPicture}
use Rattle.m2v_search.specs.declared.form.BlockLines.{BlockLines}
use Rattle.m2v_search.specs.Search.{Vector, zero_vector, block_lines, vector_sad, vector_inside, vectors_around, best_around, whole_vector, vector_of, reach}
use Rattle.m2v_search.specs.Near.{IsFormIn, is_field, row_lines, HasNear}
use Rattle.m2v_search.proofs.Forms.{IsSized, sized}
use Rattle.m2v_choose.specs.Decisions.{Decision, place_of, is_frame, uncoded_syntax}
use Rattle.m2v_choose.specs.Candidates.{selected, vector_for, sad_for, from_field, plain_direction, field_direction, plain_form, prediction, zero_prediction, still_vector, still_prediction}
use Rattle.m2v_choose.specs.Trials.{IsReference}
use Rattle.m2v_choose.proofs.Chosen.{either}
use Rattle.m2v_search.proofs.Products.{least_in}
use Rattle.m2v_search.proofs.Reached.{IsUpTo}
use Rattle.m2v_choose.proofs.Kept.{whole_within, half_within}
use Rattle.m2v_choose.proofs.Stands.{first_of, second_of}
use Rattle.m2v_choose.proofs.Stays.{still_span, SourceStays, vector_stays, PartsStay, ModeStays, SourceNear, mode_inside, mode_is_inside, direction_held}

-- ---- vectors

Stays : Dims → BlockLines → ℕ → Vector → Type 0
Stays d b column v = vector_inside d b column v ≡ true

best_stays : (d : Dims) (at : Lines → ℕ → ℕ → ℕ) (source : List ℕ) (b : BlockLines) (column : ℕ) (v : Vector) (step across down : ℕ) → Stays d b column v
    → Stays d b column (best_around d at source b column v step across down)
unfolding best_around Stays
best_stays d at source b column v step across down h =
    least_in (λ u. vector_inside d b column u ≡ true) (vector_sad at source b column) v (filter (vector_inside d b column) (vectors_around v step across down)) h
    (filter_passes (vector_inside d b column) (vectors_around v step across down))

some_lines : (b : BlockLines) → (b.count ≡ 8) ⊎ (b.count ≡ 16) → 1 ≤ b.count
some_lines b (inl e) = omega (arith, e)
some_lines b (inr e) = omega (arith, e)

zero_stays : (d : Dims) (b : BlockLines) (column : ℕ) → IsSized d b → column < d.mb_width → Stays d b column zero_vector
unfolding vector_inside Stays
zero_stays d b column size lt =
    rw (still_span (lines_of d Y b.lines) b.number b.count (some_lines b size.count) size.lines, still_span (columns_of d Y) (16 * column) 16 (omega arith) (omega (arith, lt))) refl

vector_for_stays : (d : Decision) (view : View) (form : SearchForm) → IsSize d.dims → IsPlace (place_of d) d.dims → IsFormIn d.context.extension.structure form
    → vector_inside d.dims (block_lines form d.limits.row) d.limits.column (vector_for d view form) ≡ true
unfolding vector_for vector_of whole_vector Stays
vector_for_stays d view form size place in_form =
    let b = block_lines form d.limits.row in
    let zero = zero_stays d.dims b d.limits.column (sized d.dims (place_of d) form size place in_form) place.column in
    best_stays d.dims (view Y) d.source b d.limits.column (whole_vector d.dims (view Y) d.source b d.limits.column d.limits.search (reach form d.limits.search)) 1 1 1
    (best_stays d.dims (view Y) d.source b d.limits.column zero_vector 2 d.limits.search (reach form d.limits.search) zero)

-- ---- what a part goes by

-- it stays inside, and reads rows that are near, of a reference that the picture reads
pub record SourceFits (d : Dims) (place : MbPlace) (q : Parts) (part : ℕ) (s : Source) : Type 0 where
  pub stays : SourceStays d place q part s
  pub few : unsigned_abs s.down ≤ 2 * part_height q Y
  pub rows : (plane : Plane) → row_lines place.structure plane s.lines ≡ part_height q plane
  pub reference : IsReference place.structure s.lines

size_up_to : (n : ℕ) (z : ℤ) → IsUpTo n z → unsigned_abs z ≤ n
size_up_to n z h = omega (arith, ints, h.low, h.high)

frame_rows : (structure : ℕ) (plane : Plane) → structure ≡ 3 → row_lines structure plane lines.Whole ≡ side plane
frame_rows structure plane e = refl

half_rows : (structure : ℕ) (plane : Plane) (l : Lines) → structure ≡ 3 → IsTrue (is_field l) → row_lines structure plane l ≡ side plane / 2
half_rows structure plane lines.Whole e field = absurd (true≢false (sym field))
half_rows structure plane lines.Top e field = rw e refl
half_rows structure plane lines.Bottom e field = rw e refl

field_rows : (structure : ℕ) (plane : Plane) (l : Lines) → nat_eq structure 3 ≡ false → IsTrue (is_field l) → row_lines structure plane l ≡ side plane
field_rows structure plane lines.Whole e field = absurd (true≢false (sym field))
field_rows structure plane lines.Top e field = rw e refl
field_rows structure plane lines.Bottom e field = rw e refl

not_equal : (n : ℕ) → nat_eq n 3 ≡ false → n ≢ 3
not_equal n e same = let is : nat_eq n 3 ≡ true = rw same refl in let no : true ≡ false = sym is ∙ e in absurd cc

module _ (d : Decision) (size : IsSize d.dims) (place : IsPlace (place_of d) d.dims) (le : d.limits.search ≤ 15) where
  whole_fits : (view : View) → d.context.extension.structure ≡ 3
      → SourceFits d.dims (place_of d) One 0 (record { lines = lines.Whole; across = (vector_for d view Whole).x; down = (vector_for d view Whole).y })
  whole_fits view e =
      let v = vector_for d view Whole in
      record {
        stays = vector_stays d.dims (place_of d) (block_lines Whole d.limits.row) One 0 v refl refl (omega arith) (vector_for_stays d view Whole size place e);
        few = omega (arith, size_up_to 31 v.y (whole_within d view Whole le le).y);
        rows = λ plane. refl;
        reference = inl e;
      }

  field_fits : (view : View) (l : Lines) → nat_eq d.context.extension.structure 3 ≡ false → IsTrue (is_field l)
      → SourceFits d.dims (place_of d) One 0 (record { lines = l; across = (vector_for d view (FieldPicture l)).x; down = (vector_for d view (FieldPicture l)).y })
  field_fits view l e field =
      let v = vector_for d view (FieldPicture l) in
      record {
        stays = vector_stays d.dims (place_of d) (block_lines (FieldPicture l) d.limits.row) One 0 v refl refl (omega arith)
            (vector_for_stays d view (FieldPicture l) size place (not_equal d.context.extension.structure e, field));
        few = omega (arith, size_up_to 31 v.y (whole_within d view (FieldPicture l) le le).y);
        rows = λ plane. field_rows d.context.extension.structure plane l e field;
        reference = inr field;
      }

  half_fits : (view : View) (target l : Lines) (part : ℕ) → d.context.extension.structure ≡ 3 → IsTrue (is_field l)
      → SourceFits d.dims (place_of d) Fields part (record { lines = l; across = (vector_for d view (FieldLines target l)).x; down = (vector_for d view (FieldLines target l)).y })
  half_fits view target l part e field =
      let v = vector_for d view (FieldLines target l) in
      record {
        stays = vector_stays d.dims (place_of d) (block_lines (FieldLines target l) d.limits.row) Fields part v refl refl (omega arith)
            (vector_for_stays d view (FieldLines target l) size place (e, field));
        few = omega (arith, size_up_to 15 v.y (half_within d view (FieldLines target l) (omega (arith, le)) le).y);
        rows = λ plane. half_rows d.context.extension.structure plane l e field;
        reference = inr field;
      }

  -- a vector from a field
  FieldFits : Parts → ℕ → Selected → Type 0
  FieldFits q part s = SourceFits d.dims (place_of d) q part (record { lines = field_lines s.bottom; across = slice_index_or s.vector 0 (pos 0); down = slice_index_or s.vector 1 (pos 0) })

  selected_fits : (q : Parts) (part : ℕ) (l : Lines) (v : Vector) → IsTrue (is_field l) → SourceFits d.dims (place_of d) q part (record { lines = l; across = v.x; down = v.y }) → FieldFits q part (selected l v)
  unfolding FieldFits
  selected_fits q part lines.Whole v field h = absurd (true≢false (sym field))
  selected_fits q part lines.Top v field h = h
  selected_fits q part lines.Bottom v field h = h

  other_is_field : (l : Lines) → IsTrue (is_field l) → IsTrue (is_field (other_field l))
  other_is_field lines.Whole field = field
  other_is_field lines.Top field = field
  other_is_field lines.Bottom field = field

  from_fits : (q : Parts) (part : ℕ) (view : View) (form : Lines → SearchForm) (own : Lines) → IsTrue (is_field own)
      → ((l : Lines) → IsTrue (is_field l) → SourceFits d.dims (place_of d) q part (record { lines = l; across = (vector_for d view (form l)).x; down = (vector_for d view (form l)).y }))
      → FieldFits q part (from_field d view form own)
  unfolding from_field
  from_fits q part view form own field h =
      let other = other_field own in
      either (FieldFits q part) (nat_lt (sad_for d view (form other)) (sad_for d view (form own))) (selected other (vector_for d view (form other))) (selected own (vector_for d view (form own)))
      (selected_fits q part other (vector_for d view (form other)) (other_is_field own field) (h other (other_is_field own field)))
      (selected_fits q part own (vector_for d view (form own)) field (h own field))

-- ---- modes

-- a macroblock's motion, in its directions
pub record ModeFits (d : Dims) (place : MbPlace) (mode : Mode) (q : Parts) : Type 0 where
  pub parts_are : parts_of mode.form place.structure ≡ q
  pub whole : q ≡ Halves → ⊥
  pub single : is_dual mode.form ≡ false
  pub forward : mode.forward ≡ true → (part : ℕ) → part < part_count q → SourceFits d place q part (own_source mode 0 place.structure part)
  pub backward : mode.backward ≡ true → (part : ℕ) → part < part_count q → SourceFits d place q part (own_source mode 1 place.structure part)

parts_stay : (d : Dims) (place : MbPlace) (q : Parts) (source : ℕ → Source) → (q ≡ Halves → ⊥) → ((part : ℕ) → part < part_count q → SourceFits d place q part (source part)) → PartsStay d place q source
parts_stay d place One source other h = record { first = (h 0 (omega arith)).stays; second = λ e. absurd cc }
parts_stay d place Fields source other h = record { first = (h 0 (omega arith)).stays; second = λ e. (h 1 (omega arith)).stays }
parts_stay d place Halves source other h = absurd (other refl)

mode_stays : (d : Dims) (place : MbPlace) (mode : Mode) (q : Parts) → ModeFits d place mode q → ModeStays d place mode q
mode_stays d place mode q h = record {
  parts_are = h.parts_are;
  whole = h.whole;
  single = h.single;
  forward = λ e. parts_stay d place q (own_source mode 0 place.structure) h.whole (h.forward e);
  backward = λ e. parts_stay d place q (own_source mode 1 place.structure) h.whole (h.backward e);
}

pub fits_inside : (d : Dims) (place : MbPlace) (mode : Mode) (q : Parts) → ModeFits d place mode q → IsInside mode place d
fits_inside d place mode q h = mode_inside d place mode q (mode_stays d place mode q h)

pub fits_is_inside : (d : Dims) (place : MbPlace) (mode : Mode) (q : Parts) → ModeFits d place mode q → is_inside mode place d ≡ true
fits_is_inside d place mode q h = mode_is_inside d place mode q (mode_stays d place mode q h)

-- rows that a view holds
module _ (holds : Plane → Lines → ℕ → Type 0) (d : Dims) (place : MbPlace) (near : (l : Lines) → IsReference place.structure l → HasNear holds d place l) where
  source_near : (q : Parts) (part : ℕ) (s : Source) → SourceFits d place q part s → SourceNear holds d place q s
  source_near q part s h = record { few = h.few; rows = h.rows; near = near s.lines h.reference }

  pub fits_forward : (mode : Mode) (q : Parts) → ModeFits d place mode q → mode.forward ≡ true → HoldsRead holds mode 0 place
  fits_forward mode q h e =
      direction_held holds d place mode 0 q h.parts_are h.whole h.single ((fits_inside d place mode q h).forward e)
      (λ part lt. source_near q part (own_source mode 0 place.structure part) (h.forward e part lt))

  pub fits_backward : (mode : Mode) (q : Parts) → ModeFits d place mode q → mode.backward ≡ true → HoldsRead holds mode 1 place
  fits_backward mode q h e =
      direction_held holds d place mode 1 q h.parts_are h.whole h.single ((fits_inside d place mode q h).backward e)
      (λ part lt. source_near q part (own_source mode 1 place.structure part) (h.backward e part lt))

-- ---- without motion

field_of : (bottom : Bool) → IsTrue (is_field (field_lines bottom))
field_of true = refl
field_of false = refl

own_in_frame : (structure : ℕ) → nat_eq structure 3 ≡ true → own_lines structure ≡ lines.Whole
own_in_frame structure e = rw e refl

own_in_field : (structure : ℕ) → nat_eq structure 3 ≡ false → own_lines structure ≡ field_lines (nat_eq structure 2)
own_in_field structure e = rw e refl

own_rows : (structure : ℕ) (plane : Plane) (b : Bool) → nat_eq structure 3 ≡ b → row_lines structure plane (own_lines structure) ≡ side plane
own_rows structure plane true e = subst (λ (l : Lines). row_lines structure plane l ≡ side plane) (sym (own_in_frame structure e)) refl
own_rows structure plane false e =
    subst (λ (l : Lines). row_lines structure plane l ≡ side plane) (sym (own_in_field structure e)) (field_rows structure plane (field_lines (nat_eq structure 2)) e (field_of (nat_eq structure 2)))

own_reference : (structure : ℕ) (b : Bool) → nat_eq structure 3 ≡ b → IsReference structure (own_lines structure)
own_reference structure true e = inl (eqb-true structure 3 e)
own_reference structure false e = inr (subst (λ (l : Lines). IsTrue (is_field l)) (sym (own_in_field structure e)) (field_of (nat_eq structure 2)))

-- a vector of one part, from the picture's own lines
pub own_near : (structure : ℕ) (v : ℤ) → unsigned_abs v ≤ 32 → (unsigned_abs v ≤ 2 * part_height One Y) × (((plane : Plane) → row_lines structure plane (own_lines structure) ≡ part_height One plane) × IsReference structure (own_lines structure))
own_near structure v few = (few, ((λ plane. own_rows structure plane (nat_eq structure 3) refl), own_reference structure (nat_eq structure 3) refl))

still_fits : (d : Dims) (place : MbPlace) → IsPlace place d → SourceFits d place One 0 (record { lines = own_lines place.structure; across = pos 0; down = pos 0 })
still_fits d place is =
    let near = own_near place.structure (pos 0) (omega arith) in
    record {
      stays = record {
        low_down = omega (arith, ints);
        high_down = omega (arith, ints, is.row);
        low_across = omega (arith, ints);
        high_across = omega (arith, ints, is.column);
      };
      few = near.0;
      rows = near.1.0;
      reference = near.1.1;
    }

-- what the one part of a prediction without motion type goes by
plain_by : (structure : ℕ) (hf hb : Bool) (at : List (List (List ℤ))) (b : Bool) → nat_eq structure 3 ≡ b → (direction : ℕ) → direction < 2
    → own_source (record {
      form = if not b then Field else Frame;
      forward = hf;
      backward = hb;
      vectors = at;
      bottom = (nat_eq structure 2 ∷ nat_eq structure 2 ∷ []) ∷ (nat_eq structure 2 ∷ nat_eq structure 2 ∷ []) ∷ [];
      opposite = zeros ∷ zeros ∷ [];
    }) direction structure 0
    ≡ record { lines = own_lines structure; across = number_of at 0 direction 0; down = number_of at 0 direction 1 }
unfolding own_source
plain_by structure hf hb at true e direction lt = refl
plain_by structure hf hb at false e zero lt = ap (λ (l : Lines). record { lines = l; across = number_of at 0 0 0; down = number_of at 0 0 1 }) (sym (own_in_field structure e))
plain_by structure hf hb at false e (suc zero) lt = ap (λ (l : Lines). record { lines = l; across = number_of at 0 1 0; down = number_of at 0 1 1 }) (sym (own_in_field structure e))
plain_by structure hf hb at false e (suc (suc n)) lt = absurd (omega (arith, lt))

pub plain_source : (c : PictureContext) (hf hb : Bool) (at : List (List (List ℤ))) (direction : ℕ) → direction < 2
    → own_source (without_motion_type c hf hb at) direction c.extension.structure 0
    ≡ record { lines = own_lines c.extension.structure; across = number_of at 0 direction 0; down = number_of at 0 direction 1 }
unfolding without_motion_type
plain_source c hf hb at direction lt = plain_by c.extension.structure hf hb at (nat_eq c.extension.structure 3) refl direction lt

plain_parts_by : (structure : ℕ) (b : Bool) → nat_eq structure 3 ≡ b → parts_of (if not b then Field else Frame) structure ≡ One
plain_parts_by structure true e = refl
plain_parts_by structure false e = rw e refl

pub plain_parts : (c : PictureContext) (hf hb : Bool) (at : List (List (List ℤ))) → parts_of (without_motion_type c hf hb at).form c.extension.structure ≡ One
unfolding without_motion_type
plain_parts c hf hb at = plain_parts_by c.extension.structure (nat_eq c.extension.structure 3) refl

plain_single_by : (b : Bool) → is_dual (if not b then Field else Frame) ≡ false
plain_single_by true = refl
plain_single_by false = refl

pub plain_single : (c : PictureContext) (hf hb : Bool) (at : List (List (List ℤ))) → is_dual (without_motion_type c hf hb at).form ≡ false
unfolding without_motion_type
plain_single c hf hb at = plain_single_by (nat_eq c.extension.structure 3)

pub only_part : (part : ℕ) → part < part_count One → 0 ≡ part
only_part part lt = omega (arith, lt)

-- forward, by vector 0
pub zero_fits : (d : Decision) → IsPlace (place_of d) d.dims → ModeFits d.dims (place_of d) (zero_motion d.context) One
unfolding without_motion_type
zero_fits d place = record {
  parts_are = plain_parts_by d.context.extension.structure (nat_eq d.context.extension.structure 3) refl;
  whole = λ e. absurd cc;
  single = plain_single_by (nat_eq d.context.extension.structure 3);
  forward = λ e part lt.
      subst (λ (k : ℕ). SourceFits d.dims (place_of d) One k (own_source (zero_motion d.context) 0 d.context.extension.structure k)) (only_part part lt)
      (subst (SourceFits d.dims (place_of d) One 0) (sym (plain_source d.context true false ((zeros ∷ zeros ∷ []) ∷ (zeros ∷ zeros ∷ []) ∷ []) 0 (omega arith))) (still_fits d.dims (place_of d) place));
  backward = λ e. absurd cc;
}

-- ---- with motion

moving : (c : PictureContext) (m : MacroSyntax) → m.kind.intra ≡ false → (m.kind.forward || m.kind.backward) ≡ true → told_mode c m ≡ mode_of c m
unfolding mode_of
moving c m other some = rw (other, some) refl

module _ (d : Dims) (place : MbPlace) (c : PictureContext) (m : MacroSyntax) (same : place.structure ≡ c.extension.structure) where
  OneFits : ℕ → Type 0
  OneFits direction = SourceFits d place One 0 (record { lines = own_lines place.structure; across = number_of m.vectors 0 direction 0; down = number_of m.vectors 0 direction 1 })

  frame_source : form_of (is_field_picture c) m.form ≡ Frame → (direction : ℕ)
      → own_source (told_mode c m) direction place.structure 0 ≡ record { lines = own_lines place.structure; across = number_of m.vectors 0 direction 0; down = number_of m.vectors 0 direction 1 }
  unfolding own_source told_mode
  frame_source e direction =
      ap (λ (f : Form). record {
        lines = lines_read f (told_mode c m) direction place.structure 0;
        across = component (told_mode c m) (vector_number f 0) direction 0;
        down = component (told_mode c m) (vector_number f 0) direction 1;
      }) e

  frame_fits : form_of (is_field_picture c) m.form ≡ Frame → (m.kind.forward ≡ true → OneFits 0) → (m.kind.backward ≡ true → OneFits 1) → ModeFits d place (told_mode c m) One
  unfolding told_mode OneFits
  frame_fits e f b = record {
    parts_are = ap (λ (x : Form). parts_of x place.structure) e;
    whole = λ no. absurd cc;
    single = ap is_dual e;
    forward = λ told part lt.
        subst (λ (k : ℕ). SourceFits d place One k (own_source (told_mode c m) 0 place.structure k)) (only_part part lt) (subst (SourceFits d place One 0) (sym (frame_source e 0)) (f told));
    backward = λ told part lt.
        subst (λ (k : ℕ). SourceFits d place One k (own_source (told_mode c m) 1 place.structure k)) (only_part part lt) (subst (SourceFits d place One 0) (sym (frame_source e 1)) (b told));
  }

  PartFits : Parts → ℕ → ℕ → Type 0
  PartFits q direction part =
      SourceFits d place q part (record {
        lines = field_lines (slice_index_or (slice_index_or m.bottom part []) direction false);
        across = number_of m.vectors part direction 0;
        down = number_of m.vectors part direction 1;
      })

  field_source : form_of (is_field_picture c) m.form ≡ Field → (direction part : ℕ)
      → own_source (told_mode c m) direction place.structure part
      ≡ record {
        lines = field_lines (slice_index_or (slice_index_or m.bottom part []) direction false);
        across = number_of m.vectors part direction 0;
        down = number_of m.vectors part direction 1;
      }
  unfolding own_source told_mode
  field_source e direction part =
      ap (λ (f : Form). record {
        lines = lines_read f (told_mode c m) direction place.structure part;
        across = component (told_mode c m) (vector_number f part) direction 0;
        down = component (told_mode c m) (vector_number f part) direction 1;
      }) e

  field_mode_fits : (q : Parts) → parts_of Field place.structure ≡ q → (q ≡ Halves → ⊥) → form_of (is_field_picture c) m.form ≡ Field
      → (m.kind.forward ≡ true → (part : ℕ) → part < part_count q → PartFits q 0 part) → (m.kind.backward ≡ true → (part : ℕ) → part < part_count q → PartFits q 1 part)
      → ModeFits d place (told_mode c m) q
  unfolding told_mode PartFits
  field_mode_fits q parts other e f b = record {
    parts_are = ap (λ (x : Form). parts_of x place.structure) e ∙ parts;
    whole = other;
    single = ap is_dual e;
    forward = λ told part lt. subst (SourceFits d place q part) (sym (field_source e 0 part)) (f told part lt);
    backward = λ told part lt. subst (SourceFits d place q part) (sym (field_source e 1 part)) (b told part lt);
  }

plain_frame : (field : Bool) → field ≡ false → form_of field (if field then 1 else 2) ≡ Frame
unfolding form_of
plain_frame true e = absurd cc
plain_frame false e = refl

plain_in_field : (field : Bool) → field ≡ true → form_of field (if field then 1 else 2) ≡ Field
unfolding form_of
plain_in_field true e = refl
plain_in_field false e = absurd cc

halves_form : (field : Bool) → field ≡ false → form_of field 1 ≡ Field
unfolding form_of
halves_form true e = absurd cc
halves_form false e = refl

own_field_is : (structure : ℕ) → nat_eq structure 3 ≡ false → IsTrue (is_field (own_field structure 0))
own_field_is structure e = rw e (field_of (nat_eq structure 2))

module _ (d : Decision) (size : IsSize d.dims) (place : IsPlace (place_of d) d.dims) (le : d.limits.search ≤ 15) where
  -- a vector of a frame
  frame_first : (view : View) → nat_eq d.context.extension.structure 3 ≡ true
      → SourceFits d.dims (place_of d) One 0 (record {
        lines = own_lines d.context.extension.structure;
        across = slice_index_or (plain_direction d view).first.vector 0 (pos 0);
        down = slice_index_or (plain_direction d view).first.vector 1 (pos 0);
      })
  unfolding plain_direction
  frame_first view e =
      let s = d.context.extension.structure in
      let v = vector_for d view Whole in
      let P = λ (x : Selected). SourceFits d.dims (place_of d) One 0 (record { lines = own_lines s; across = slice_index_or x.vector 0 (pos 0); down = slice_index_or x.vector 1 (pos 0) }) in
      first_of P (is_frame d) (selected lines.Whole v) (from_field d view FieldPicture (own_field s 0)) (rw e refl)
      (subst (λ (l : Lines). SourceFits d.dims (place_of d) One 0 (record { lines = l; across = v.x; down = v.y })) (sym (own_in_frame s e)) (whole_fits d size place le view (eqb-true s 3 e)))

  -- a vector of a field
  field_first : (view : View) → nat_eq d.context.extension.structure 3 ≡ false → FieldFits d size place le One 0 (plain_direction d view).first
  unfolding plain_direction
  field_first view e =
      let s = d.context.extension.structure in
      second_of (FieldFits d size place le One 0) (is_frame d) (selected lines.Whole (vector_for d view Whole)) (from_field d view FieldPicture (own_field s 0)) (rw e refl)
      (from_fits d size place le One 0 view FieldPicture (own_field s 0) (own_field_is s e) (λ l field. field_fits d size place le view l e field))

  -- vectors of both fields of a frame
  both_fields : (view : View) (part : ℕ) → d.context.extension.structure ≡ 3 → FieldFits d size place le Fields part (if nat_eq part 0 then (field_direction d view).first else (field_direction d view).second)
  unfolding field_direction
  both_fields view part e =
      either (FieldFits d size place le Fields part) (nat_eq part 0) (from_field d view (FieldLines lines.Top) lines.Top) (from_field d view (FieldLines lines.Bottom) lines.Bottom)
      (from_fits d size place le Fields part view (FieldLines lines.Top) lines.Top refl (λ l field. half_fits d size place le view lines.Top l part e field))
      (from_fits d size place le Fields part view (FieldLines lines.Bottom) lines.Bottom refl (λ l field. half_fits d size place le view lines.Bottom l part e field))

  -- one vector for each direction
  plain_told : (hf hb : Bool) (b : Bool) → nat_eq d.context.extension.structure 3 ≡ b
      → ModeFits d.dims (place_of d) (told_mode d.context (uncoded_syntax d (prediction (plain_form d.context) hf hb (plain_direction d d.forward) (plain_direction d d.backward)))) One
  unfolding uncoded_syntax OneFits PartFits FieldFits plain_form
  plain_told hf hb true e =
      let s = d.context.extension.structure in
      let P = λ (x : Direction). SourceFits d.dims (place_of d) One 0 (record { lines = own_lines s; across = slice_index_or x.first.vector 0 (pos 0); down = slice_index_or x.first.vector 1 (pos 0) }) in
      let f = plain_direction d d.forward in
      let b = plain_direction d d.backward in
      let m = uncoded_syntax d (prediction (plain_form d.context) hf hb f b) in
      frame_fits d.dims (place_of d) d.context m refl (plain_frame (is_field_picture d.context) (rw e refl))
      (λ told. first_of P hf f no_vectors told (frame_first d.forward e))
      (λ told. first_of P hb b no_vectors told (frame_first d.backward e))
  plain_told hf hb false e =
      let s = d.context.extension.structure in
      let P = λ (x : Direction). FieldFits d size place le One 0 x.first in
      let f = plain_direction d d.forward in
      let b = plain_direction d d.backward in
      let m = uncoded_syntax d (prediction (plain_form d.context) hf hb f b) in
      field_mode_fits d.dims (place_of d) d.context m refl One (rw e refl) (λ no. absurd cc) (plain_in_field (is_field_picture d.context) (rw e refl))
      (λ told part lt. subst (λ (k : ℕ). PartFits d.dims (place_of d) d.context m refl One 0 k) (only_part part lt) (first_of P hf f no_vectors told (field_first d.forward e)))
      (λ told part lt. subst (λ (k : ℕ). PartFits d.dims (place_of d) d.context m refl One 1 k) (only_part part lt) (first_of P hb b no_vectors told (field_first d.backward e)))

  fields_told : (hf hb : Bool) → d.context.extension.structure ≡ 3
      → ModeFits d.dims (place_of d) (told_mode d.context (uncoded_syntax d (prediction 1 hf hb (field_direction d d.forward) (field_direction d d.backward)))) Fields
  unfolding uncoded_syntax PartFits FieldFits
  fields_told hf hb e =
      let f = field_direction d d.forward in
      let b = field_direction d d.backward in
      let m = uncoded_syntax d (prediction 1 hf hb f b) in
      field_mode_fits d.dims (place_of d) d.context m refl Fields (rw e refl) (λ no. absurd cc) (halves_form (is_field_picture d.context) (rw e refl))
      (λ told part lt. by_part (λ k. PartFits d.dims (place_of d) d.context m refl Fields 0 k)
      (first_of (λ (x : Direction). FieldFits d size place le Fields 0 x.first) hf f no_vectors told (both_fields d.forward 0 e))
      (first_of (λ (x : Direction). FieldFits d size place le Fields 1 x.second) hf f no_vectors told (both_fields d.forward 1 e)) part lt)
      (λ told part lt. by_part (λ k. PartFits d.dims (place_of d) d.context m refl Fields 1 k)
      (first_of (λ (x : Direction). FieldFits d size place le Fields 0 x.first) hb b no_vectors told (both_fields d.backward 0 e))
      (first_of (λ (x : Direction). FieldFits d size place le Fields 1 x.second) hb b no_vectors told (both_fields d.backward 1 e)) part lt)
    where
      by_part : (P : ℕ → Type 0) → P 0 → P 1 → (part : ℕ) → part < 2 → P part
      by_part P p q zero lt = p
      by_part P p q (suc zero) lt = q
      by_part P p q (suc (suc n)) lt = absurd (omega (arith, lt))

  pub plain_fits : (hf hb : Bool) → (hf || hb) ≡ true
      → ModeFits d.dims (place_of d) (mode_of d.context (uncoded_syntax d (prediction (plain_form d.context) hf hb (plain_direction d d.forward) (plain_direction d d.backward)))) One
  unfolding uncoded_syntax
  plain_fits hf hb some =
      let m = uncoded_syntax d (prediction (plain_form d.context) hf hb (plain_direction d d.forward) (plain_direction d d.backward)) in
      subst (λ (x : Mode). ModeFits d.dims (place_of d) x One) (moving d.context m refl some) (plain_told hf hb (nat_eq d.context.extension.structure 3) refl)

  pub fields_fit : (hf hb : Bool) → (hf || hb) ≡ true → d.context.extension.structure ≡ 3
      → ModeFits d.dims (place_of d) (mode_of d.context (uncoded_syntax d (prediction 1 hf hb (field_direction d d.forward) (field_direction d d.backward)))) Fields
  unfolding uncoded_syntax
  fields_fit hf hb some e =
      let m = uncoded_syntax d (prediction 1 hf hb (field_direction d d.forward) (field_direction d d.backward)) in
      subst (λ (x : Mode). ModeFits d.dims (place_of d) x Fields) (moving d.context m refl some) (fields_told hf hb e)

-- a type without a direction
pub zero_prediction_fits : (d : Decision) → IsPlace (place_of d) d.dims → ModeFits d.dims (place_of d) (mode_of d.context (uncoded_syntax d (zero_prediction d))) One
unfolding mode_of uncoded_syntax
zero_prediction_fits d place = zero_fits d place

-- vector zero, held
still_told : (d : Decision) (hf hb : Bool) → IsPlace (place_of d) d.dims → (b : Bool) → nat_eq d.context.extension.structure 3 ≡ b
    → ModeFits d.dims (place_of d) (told_mode d.context (uncoded_syntax d (prediction (plain_form d.context) hf hb (still_vector d.context) (still_vector d.context)))) One
unfolding uncoded_syntax OneFits PartFits plain_form
still_told d hf hb place true e =
    let s = d.context.extension.structure in
    let P = λ (x : Direction). SourceFits d.dims (place_of d) One 0 (record { lines = own_lines s; across = slice_index_or x.first.vector 0 (pos 0); down = slice_index_or x.first.vector 1 (pos 0) }) in
    let f = still_vector d.context in
    let m = uncoded_syntax d (prediction (plain_form d.context) hf hb f f) in
    frame_fits d.dims (place_of d) d.context m refl (plain_frame (is_field_picture d.context) (rw e refl))
    (λ told. first_of P hf f no_vectors told (still_fits d.dims (place_of d) place))
    (λ told. first_of P hb f no_vectors told (still_fits d.dims (place_of d) place))
still_told d hf hb place false e =
    let s = d.context.extension.structure in
    let P = λ (x : Direction). SourceFits d.dims (place_of d) One 0 (record { lines = field_lines x.first.bottom; across = slice_index_or x.first.vector 0 (pos 0); down = slice_index_or x.first.vector 1 (pos 0) }) in
    let f = still_vector d.context in
    let m = uncoded_syntax d (prediction (plain_form d.context) hf hb f f) in
    let here : P f = subst (λ (l : Lines). SourceFits d.dims (place_of d) One 0 (record { lines = l; across = pos 0; down = pos 0 })) (own_in_field s e) (still_fits d.dims (place_of d) place) in
    field_mode_fits d.dims (place_of d) d.context m refl One (rw e refl) (λ no. absurd cc) (plain_in_field (is_field_picture d.context) (rw e refl))
    (λ told part lt. subst (λ (k : ℕ). PartFits d.dims (place_of d) d.context m refl One 0 k) (only_part part lt) (first_of P hf f no_vectors told here))
    (λ told part lt. subst (λ (k : ℕ). PartFits d.dims (place_of d) d.context m refl One 1 k) (only_part part lt) (first_of P hb f no_vectors told here))

pub still_prediction_fits : (d : Decision) → IsPlace (place_of d) d.dims → (d.context.kind ≡ 2) ⊎ (d.context.kind ≡ 3)
    → ModeFits d.dims (place_of d) (mode_of d.context (uncoded_syntax d (still_prediction d.context))) One
unfolding uncoded_syntax still_prediction
still_prediction_fits d place kind =
    let m = uncoded_syntax d (still_prediction d.context) in
    subst (λ (x : Mode). ModeFits d.dims (place_of d) x One) (moving d.context m refl (some kind))
    (still_told d (nat_eq d.context.kind 2) (nat_eq d.context.kind 3) place (nat_eq d.context.extension.structure 3) refl)
  where
    some : (d.context.kind ≡ 2) ⊎ (d.context.kind ≡ 3) → (nat_eq d.context.kind 2 || nat_eq d.context.kind 3) ≡ true
    some (inl e) = rw e refl
    some (inr e) = rw e refl
