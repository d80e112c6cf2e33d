-- The units of the flat stream are its parts, one behind another.
use Rattle.std.proofs.Common.{◌≡◌, ℕ, zero, suc, ◌+◌, ◌-◌, ◌*◌, ◌/◌, ◌<◌, ◌≤◌, true, false, List, [], ◌∷◌, ◌++◌, length, map, Option, Some, inl, inr, refl, sym, ap, subst, ◌∙◌, arith}
use Rattle.std.specs.Prelude.{nat_eq, nat_le, nat_lt}
use Rattle.std.specs.List.{range_with_len}
use Rattle.std.proofs.lemmas.Bool.{ne_eqb, eq-eqb, le-leb, lt-ltb, and_from}
use Rattle.std.proofs.Math.Nat.{mul_comm}
use Rattle.m2v_bits.specs.Bits.{to_edge}
use Rattle.m2v_bits.specs.Syntax.{seq, done, rule, choose}
use Rattle.m2v_head.specs.Texts.{sequence_text, sequence_extension_text, picture_text, picture_extension_text, slice_text}
use Rattle.m2v_plane.specs.declared.dims.Dims.{Dims}
use Rattle.m2v_plane.specs.Samples.{Samples}
use Rattle.m2v_plane.specs.Raw.{pad}
use Rattle.m2v_flat.specs.declared.settings.FlatSettings.{FlatSettings}
use Rattle.m2v_flat.specs.Answers.{HasPassed}
use Rattle.m2v_flat.specs.Flat.{flat_sequence, flat_sequence_extension, flat_picture, flat_picture_extension, flat_slice, row_text}
use Rattle.m2v_flat.proofs.Passing.{is_small}
use Rattle.m2v_model.specs.declared.state.Open.{Open}
use Rattle.m2v_model.specs.declared.state.State.{State}
use Rattle.m2v_model.specs.Units.{Units}
use Rattle.m2v_model.specs.States.{at_first, one_anchor_more, with_slice, is_complete, columns_of, rows_of, picture_rows, dims_of, slice_setup}
use Rattle.m2v_model.specs.Slices.{slice_at, large_in}
use Rattle.m2v_model.specs.Streams.{sequence, picture, slice, after, read_slice, slice_in, slice_unit, onward, later_unit, known_unit}
use Rattle.m2v_flat.specs.Tree.{flat_setup, flat_row, flat_rows, sequence_of, flat_open, open_picture, state_with, state_in, pictures_parts}
use Rattle.m2v_model.specs.Texts.{ended, unit_bytes}
use Rattle.m2v_flat.proofs.Slices.{slice_stands, none_large}
use Rattle.m2v_model.proofs.Headers.{behind, inside_stands}
use Rattle.m2v_model.proofs.HeaderUnits as reading
use Rattle.m2v_flat.proofs.Headers.{sequence_fits, sequence_stands, extension_stands, picture_stands, coding_stands, sequence_id, picture_id}
use Rattle.m2v_model.specs.Chains.{Reads, Chain, nothing, link}
use Rattle.m2v_model.proofs.Chains.{chain_then}

-- ---- the units

abbrev pub sequence_bytes : FlatSettings → List ℕ
sequence_bytes s = unit_bytes 0xB3 (sequence_text (flat_sequence s))

abbrev pub extension_bytes : List ℕ
extension_bytes = unit_bytes 0xB5 (sequence_extension_text flat_sequence_extension)

abbrev pub picture_bytes : ℕ → List ℕ
picture_bytes number = unit_bytes 0x00 (picture_text (flat_picture number))

abbrev pub coding_bytes : List ℕ
coding_bytes = unit_bytes 0xB5 (picture_extension_text flat_picture_extension)

abbrev pub slice_bytes : ℕ → Samples → ℕ → List ℕ
slice_bytes quantiser frame row = unit_bytes (row + 1) (slice_text (flat_slice quantiser) ++ row_text frame row)

abbrev pub rows_bytes : ℕ → Samples → ℕ → ℕ → Units
rows_bytes quantiser frame from n = map (slice_bytes quantiser frame) (range_with_len from n)

unfoldable pub pictures_bytes : FlatSettings → ℕ → List (List ℕ) → Units
pictures_bytes s number [] = []
pictures_bytes s number (raw ∷ frames) =
    picture_bytes number ∷ coding_bytes ∷ (rows_bytes s.quantiser (pad s.dims raw) 0 s.dims.mb_rows ++ pictures_bytes s (number + 1) frames)

-- ---- the settings

-- the settings as the stream's headers say them
pub record IsFlat (s : FlatSettings) : Type 0 where
  pub quantiser : (1 ≤ s.quantiser) × (s.quantiser ≤ 31)
  pub columns : (1 ≤ s.dims.mb_width) × (s.dims.mb_width ≤ 45)
  pub rows : (1 ≤ s.dims.mb_rows) × (s.dims.mb_rows ≤ 36)
  pub width : (1 ≤ s.dims.width) × (s.dims.width ≤ 720)
  pub height : (1 ≤ s.dims.height) × (s.dims.height ≤ 576)
  pub code : s.rate_code ≤ 5
  pub columns_are : columns_of (sequence_of s) ≡ s.dims.mb_width
  pub rows_are : rows_of (sequence_of s) ≡ s.dims.mb_rows

pub is_flat : (s : FlatSettings) → HasPassed s → IsFlat s
is_flat s h =
    let small = is_small s h in
    let bounds = small.bounds in
    let columns : s.dims.mb_width ≡ (s.dims.width + 15) / 16 = ap (λ (d : Dims). d.mb_width) h.dims in
    let rows : s.dims.mb_rows ≡ (s.dims.height + 15) / 16 = ap (λ (d : Dims). d.mb_rows) h.dims in
    record {
      quantiser = (bounds.quantiser_least, bounds.quantiser_most);
      columns = (omega (arith, columns, bounds.width_least), small.columns);
      rows = (omega (arith, rows, bounds.height_least), small.rows);
      width = (omega (arith, bounds.width_least), bounds.width_most);
      height = (omega (arith, bounds.height_least), bounds.height_most);
      code = bounds.code_most;
      columns_are = omega (arith, columns);
      rows_are = omega (arith, rows);
    }

-- ---- headers

pub sequence_reads : (s : FlatSettings) → IsFlat s → Reads at_first (sequence (sequence_of s)) (sequence_bytes s) (extension_bytes ∷ [])
sequence_reads s h =
    reading.sequence_reads at_first (flat_sequence s) flat_sequence_extension (sequence_text (flat_sequence s)) (sequence_extension_text flat_sequence_extension)
    (sequence_stands s (sequence_fits s (omega (arith, h.width.1)) (omega (arith, h.height.1)) h.code))
    (extension_stands s h.width.0 (omega (arith, h.width.1)) h.height.0 (omega (arith, h.height.1))) sequence_id refl refl refl

-- each macroblock of the picture that is open was read
abbrev pub IsWhole : FlatSettings → Option Open → Type 0
IsWhole s open_one = is_complete (Some (sequence_of s)) open_one ≡ true

pub picture_reads : (s : FlatSettings) (anchors : ℕ) (open_one : Option Open) (number : ℕ) → IsWhole s open_one → Reads (state_with s anchors open_one) (picture (flat_picture number) flat_picture_extension) (picture_bytes number) (coding_bytes ∷ [])
picture_reads s anchors open_one number whole_one =
    reading.picture_reads (state_with s anchors open_one) (flat_picture number) flat_picture_extension (picture_text (flat_picture number)) (picture_extension_text flat_picture_extension)
    refl (picture_stands number) (coding_stands number) picture_id whole_one refl refl

-- ---- slices

row_before : (columns number row : ℕ) → (open_picture columns number row).row ≤ row
unfolding open_picture
row_before columns number zero = omega arith
row_before columns number (suc row) = omega arith

pub covered_before : (columns number row : ℕ) → (open_picture columns number row).covered ≡ row * columns
unfolding open_picture
covered_before columns number zero = omega arith
covered_before columns number (suc row) = omega arith

pub dims_are : (s : FlatSettings) → IsFlat s → dims_of (sequence_of s) ≡ s.dims
dims_are s h =
    let width : (dims_of (sequence_of s)).width ≡ s.dims.width = omega arith in
    let height : (dims_of (sequence_of s)).height ≡ s.dims.height = omega arith in
    λ i. record { width = width i; height = height i; mb_width = h.columns_are i; mb_rows = h.rows_are i }

pub setup_is : (s : FlatSettings) (anchors number row : ℕ) → IsFlat s
    → flat_setup s.dims.mb_width s.dims ≡ slice_setup (state_in s anchors number row) (sequence_of s) (open_picture s.dims.mb_width number row)
unfolding slice_setup open_picture
setup_is s anchors number zero h = ap (λ (n : ℕ). flat_setup n s.dims) (sym h.columns_are) ∙ ap (flat_setup (columns_of (sequence_of s))) (sym (dims_are s h))
setup_is s anchors number (suc row) h = ap (λ (n : ℕ). flat_setup n s.dims) (sym h.columns_are) ∙ ap (flat_setup (columns_of (sequence_of s))) (sym (dims_are s h))

-- its slices are read, and it is a frame
is_read : (columns number row : ℕ) → (open_picture columns number row).slices_unread ≡ false
unfolding open_picture
is_read columns number zero = refl
is_read columns number (suc row) = refl

rows_in : (s : FlatSettings) (number row : ℕ) → picture_rows (sequence_of s) (open_picture s.dims.mb_width number row) ≡ rows_of (sequence_of s)
unfolding open_picture
rows_in s number zero = refl
rows_in s number (suc row) = refl

slice_in_stands : (s : FlatSettings) (anchors number row start : ℕ) (frame : Samples) (us : Units) → IsFlat s → frame.dims ≡ s.dims → row < s.dims.mb_rows
    → (slice_in (state_in s anchors number row) (sequence_of s) (open_picture s.dims.mb_width number row) row start (slice_bytes s.quantiser frame row)).Stands (slice row (flat_row s.quantiser s.dims.mb_width frame row)) us us
unfolding slice_in read_slice rule choose seq done ended
slice_in_stands s anchors number row start frame us h same lt =
    let st = state_in s anchors number row in
    let p = open_picture s.dims.mb_width number row in
    let x = flat_row s.quantiser s.dims.mb_width frame row in
    let t = slice_text (flat_slice s.quantiser) ++ row_text frame row in
    let setup = slice_setup st (sequence_of s) p in
    let below : row < picture_rows (sequence_of s) p = omega (arith, rows_in s number row, h.rows_are) in
    let order = and_from (nat_lt row (picture_rows (sequence_of s) p)) (nat_le p.row row) (lt-ltb row (picture_rows (sequence_of s) p) below) (le-leb p.row row (row_before s.dims.mb_width number row)) in
    let stands = slice_stands setup s.quantiser s.dims.mb_width s.dims frame row p.covered (to_edge (32 + length t)) h.quantiser.0 h.quantiser.1 h.columns.0 (omega (arith, h.columns.1))
    (ap (λ (d : Dims). d.mb_width) (sym same)) (setup_is s anchors number row h) (covered_before s.dims.mb_width number row) in (
      tt,
      us,
      (order, refl),
      inr (
        is_read s.dims.mb_width number row,
        (
          x,
          us,
          inside_stands (slice_at setup p.covered row) (row + 1) t x us (behind t) stands,
          (refl, refl),
        ),
      ),
    )

pub slice_reads : (s : FlatSettings) (anchors number row : ℕ) (frame : Samples) → IsFlat s → frame.dims ≡ s.dims → row < s.dims.mb_rows
    → Reads (state_in s anchors number row) (slice row (flat_row s.quantiser s.dims.mb_width frame row)) (slice_bytes s.quantiser frame row) []
unfolding known_unit later_unit onward slice_unit choose seq done
slice_reads s anchors number row frame h same lt = record {
  stands = λ start us.
      let x = flat_row s.quantiser s.dims.mb_width frame row in
      let st = state_in s anchors number row in
      let p = open_picture s.dims.mb_width number row in
      let back : row ≡ row + 1 - 1 = omega arith in
      let stands = subst (λ (r : ℕ). (slice_in st (sequence_of s) p r start (slice_bytes s.quantiser frame row)).Stands (slice row x) us us) back (slice_in_stands s anchors number row start frame us h same lt) in
      inr (
        ne_eqb (row + 1) 0xB3 (λ e. omega (arith, h.rows.1)),
        inl (
          refl,
          inr (
            ne_eqb (row + 1) 0x00 (λ e. omega arith),
            inl (le-leb (row + 1) 0xAF (omega (arith, h.rows.1)), (slice row x, us, stands, (refl, refl))),
          ),
        ),
      );
}

-- ---- pictures

-- a slice below the last one, none of whose macroblocks is large
first_row : (number covered large : ℕ) → large ≡ 0 → with_slice (Some (flat_open number false 0 0)) 0 covered large ≡ Some (flat_open number true 0 covered)
first_row number covered large none = rw none refl

next_row : (number row before covered large : ℕ) → large ≡ 0 → with_slice (Some (flat_open number true row before)) (suc row) covered large ≡ Some (flat_open number true (suc row) covered)
next_row number row before covered large none =
    let below : nat_eq (suc row) row ≡ false = ne_eqb (suc row) row (λ e. omega arith) in
    rw (below, none) refl

pub after_row : (s : FlatSettings) (anchors number row : ℕ) (frame : Samples) → after (state_in s anchors number row) (slice row (flat_row s.quantiser s.dims.mb_width frame row)) ≡ state_in s anchors number (suc row)
unfolding after open_picture flat_row
after_row s anchors number zero frame =
    ap (λ (o : Option Open). state_with s anchors o) (first_row number (0 * s.dims.mb_width + s.dims.mb_width) (large_in (flat_row s.quantiser s.dims.mb_width frame 0)) (none_large s.quantiser s.dims.mb_width frame 0))
after_row s anchors number (suc row) frame =
    ap (λ (o : Option Open). state_with s anchors o)
    (next_row number row (row * s.dims.mb_width + s.dims.mb_width) (suc row * s.dims.mb_width + s.dims.mb_width) (large_in (flat_row s.quantiser s.dims.mb_width frame (suc row))) (none_large s.quantiser s.dims.mb_width frame (suc row)))

rows_chain : (s : FlatSettings) (anchors number n row end : ℕ) (frame : Samples) → IsFlat s → frame.dims ≡ s.dims → row + n ≡ end → end ≤ s.dims.mb_rows
    → Chain (state_in s anchors number row) (flat_rows s.quantiser s.dims.mb_width frame row n) (rows_bytes s.quantiser frame row n) (state_in s anchors number end)
rows_chain s anchors number zero row end frame h same is le = let here : row ≡ end = omega arith in subst (λ (k : ℕ). Chain (state_in s anchors number row) [] [] (state_in s anchors number k)) here nothing
rows_chain s anchors number (suc n) row end frame h same is le =
    let next : state_in s anchors number (suc row) ≡ state_in s anchors number (row + 1) = ap (state_in s anchors number) (omega arith) in
    let rest = rows_chain s anchors number n (row + 1) end frame h same (omega arith) le in
    link (slice_reads s anchors number row frame h same (omega arith))
    (subst (λ (st : State). Chain st (flat_rows s.quantiser s.dims.mb_width frame (row + 1) n) (rows_bytes s.quantiser frame (row + 1) n) (state_in s anchors number end)) (sym (after_row s anchors number row frame ∙ next)) rest)

all_covered : (s : FlatSettings) (row : ℕ) → IsFlat s → row ≡ s.dims.mb_rows → row * s.dims.mb_width ≡ columns_of (sequence_of s) * rows_of (sequence_of s)
all_covered s row h is =
    ap (λ (n : ℕ). n * s.dims.mb_width) is ∙ mul_comm s.dims.mb_rows s.dims.mb_width
    ∙ sym (ap (λ (n : ℕ). n * rows_of (sequence_of s)) h.columns_are ∙ ap (λ (n : ℕ). s.dims.mb_width * n) h.rows_are)

none_yet : (columns : ℕ) → 0 ≡ 0 * columns
none_yet columns = omega arith

one_row : (row columns : ℕ) → row * columns + columns ≡ suc row * columns
one_row row columns = omega arith

whole_at : (s : FlatSettings) (number row : ℕ) → IsFlat s → row ≡ s.dims.mb_rows → IsWhole s (Some (open_picture s.dims.mb_width number row))
unfolding open_picture
whole_at s number zero h is = eq-eqb _ _ (none_yet s.dims.mb_width ∙ all_covered s 0 h is)
whole_at s number (suc row) h is = eq-eqb _ _ (one_row row s.dims.mb_width ∙ all_covered s (suc row) h is)

picture_whole : (s : FlatSettings) (number : ℕ) → IsFlat s → IsWhole s (Some (open_picture s.dims.mb_width number s.dims.mb_rows))
picture_whole s number h = whole_at s number s.dims.mb_rows h refl

pub after_header : (s : FlatSettings) (anchors : ℕ) (open_one : Option Open) (number : ℕ) → after (state_with s anchors open_one) (picture (flat_picture number) flat_picture_extension) ≡ state_in s (one_anchor_more anchors) number 0
unfolding after open_picture
after_header s anchors open_one number = refl

-- pictures one behind another, the last of them whole
pub record Ends (s : FlatSettings) (anchors number : ℕ) (frames : List (List ℕ)) (open_one : Option Open) : Type 0 where
  pub counted : ℕ
  pub end : Option Open
  pub whole : IsWhole s end
  pub chain : Chain (state_with s anchors open_one) (pictures_parts s number frames) (pictures_bytes s number frames) (state_with s counted end)

pub pictures_chain : (s : FlatSettings) (frames : List (List ℕ)) (anchors number : ℕ) (open_one : Option Open) → IsFlat s → IsWhole s open_one → Ends s anchors number frames open_one
unfolding pictures_parts pictures_bytes
pictures_chain s [] anchors number open_one h whole_one = record { counted = anchors; end = open_one; whole = whole_one; chain = nothing }
pictures_chain s (raw ∷ frames) anchors number open_one h whole_one =
    let frame = pad s.dims raw in
    let next = one_anchor_more anchors in
    let rest = pictures_chain s frames next (number + 1) (Some (open_picture s.dims.mb_width number s.dims.mb_rows)) h (picture_whole s number h) in
    let rows = rows_chain s next number s.dims.mb_rows 0 s.dims.mb_rows frame h refl (omega arith) (omega arith) in
    record {
      counted = rest.counted;
      end = rest.end;
      whole = rest.whole;
      chain = link (picture_reads s anchors open_one number whole_one)
          (subst (λ (st : State). Chain st (flat_rows s.quantiser s.dims.mb_width frame 0 s.dims.mb_rows ++ pictures_parts s (number + 1) frames) (rows_bytes s.quantiser frame 0 s.dims.mb_rows ++ pictures_bytes s (number + 1) frames) (state_with s rest.counted rest.end)) (sym (after_header s anchors open_one number))
          (chain_then rows rest.chain));
    }
