-- Texts that end at the edge of a byte, and the bytes of one behind another.
use Rattle.std.proofs.Common.{◌≡◌, ℕ, suc, ◌+◌, ◌<◌, zero-add, Bool, List, [], ◌∷◌, ◌++◌, length, refl, sym, ap, ◌∙◌, arith, append_assoc}
use Rattle.std.proofs.lemmas.List.{append-nil}
use Rattle.std.proofs.lemmas.Bool.{ne_eqb}
use Rattle.m2v_bits.specs.Bits.{packed, start_code, unit, IsEdge}
use Rattle.m2v_bits.proofs.Units.{unit_edge, edge-append, packed-append}
use Rattle.m2v_head.specs.Texts.{sequence_text, sequence_extension_text, picture_text, picture_extension_text, slice_text}
use Rattle.m2v_plane.specs.Samples.{Samples}
use Rattle.m2v_plane.specs.Raw.{pad}
use Rattle.m2v_flat.specs.declared.settings.FlatSettings.{FlatSettings}
use Rattle.m2v_flat.specs.Flat.{flat_sequence, flat_sequence_extension, flat_picture, flat_picture_extension, flat_slice, row_text, slice_unit, slices_units, sequence_units, picture_units, pictures_from, begun_text, flat_text, frame_units, Flat, FlatBegun, FlatFrame}
use Rattle.m2v_model.proofs.Edges.{texts_edge, packed_none}

-- ---- the edge of a byte

slice_edge : (quantiser : ℕ) (frame : Samples) (row : ℕ) → IsEdge (slice_unit quantiser frame row)
unfolding slice_unit
slice_edge quantiser frame row = unit_edge (row + 1) (slice_text (flat_slice quantiser) ++ row_text frame row)

slices_edge : (quantiser : ℕ) (frame : Samples) → IsEdge (slices_units quantiser frame)
unfolding slices_units
slices_edge quantiser frame = texts_edge (slice_unit quantiser frame) (slice_edge quantiser frame) frame.dims.mb_rows

sequence_edge : (s : FlatSettings) → IsEdge (sequence_units s)
unfolding sequence_units
sequence_edge s = edge-append (unit 0xB3 (sequence_text (flat_sequence s))) (unit 0xB5 (sequence_extension_text flat_sequence_extension)) (unit_edge 0xB3 (sequence_text (flat_sequence s))) (unit_edge 0xB5 (sequence_extension_text flat_sequence_extension))

picture_edge : (s : FlatSettings) (n : ℕ) (frame : Samples) → IsEdge (picture_units s n frame)
unfolding picture_units
picture_edge s n frame =
    let header = unit 0x00 (picture_text (flat_picture n)) in
    let extension = unit 0xB5 (picture_extension_text flat_picture_extension) in
    edge-append header (extension ++ slices_units s.quantiser frame) (unit_edge 0x00 (picture_text (flat_picture n)))
    (edge-append extension (slices_units s.quantiser frame) (unit_edge 0xB5 (picture_extension_text flat_picture_extension)) (slices_edge s.quantiser frame))

pictures_edge : (s : FlatSettings) (n : ℕ) (frames : List (List ℕ)) → IsEdge (pictures_from s n frames)
unfolding pictures_from
pictures_edge s n [] = refl
pictures_edge s n (f ∷ frames) = edge-append (picture_units s n (pad s.dims f)) (pictures_from s (n + 1) frames) (picture_edge s n (pad s.dims f)) (pictures_edge s (n + 1) frames)

pub begun_edge : (s : FlatSettings) (frames : List (List ℕ)) → IsEdge (begun_text s frames)
unfolding begun_text
begun_edge s [] = refl
begun_edge s (f ∷ frames) = edge-append (sequence_units s) (pictures_from s 0 (f ∷ frames)) (sequence_edge s) (pictures_edge s 0 (f ∷ frames))

-- ---- frames

pictures_more : (s : FlatSettings) (n : ℕ) (frames : List (List ℕ)) (f : List ℕ)
    → pictures_from s n (frames ++ f ∷ []) ≡ pictures_from s n frames ++ picture_units s (n + length frames) (pad s.dims f)
unfolding pictures_from
pictures_more s n [] f =
    let here : n ≡ n + 0 = omega arith in
    append-nil (picture_units s n (pad s.dims f)) ∙ ap (λ (k : ℕ). picture_units s k (pad s.dims f)) here
pictures_more s n (g ∷ frames) f =
    let here : n + 1 + length frames ≡ n + suc (length frames) = omega arith in
    let first = picture_units s n (pad s.dims g) in
    ap (λ (t : List Bool). first ++ t)
    (pictures_more s (n + 1) frames f ∙ ap (λ (k : ℕ). pictures_from s (n + 1) frames ++ picture_units s k (pad s.dims f)) here)
    ∙ sym (append_assoc first (pictures_from s (n + 1) frames) (picture_units s (n + suc (length frames)) (pad s.dims f)))

-- a later frame brings no headers of the sequence
later_units : (s : FlatSettings) (n : ℕ) (frame : Samples) → 0 < n → picture_units s n frame ≡ frame_units s n frame
unfolding frame_units
later_units s n frame some = rw (ne_eqb n 0 (λ none. omega arith)) refl

begun_more : (s : FlatSettings) (frames : List (List ℕ)) (f : List ℕ)
    → begun_text s (frames ++ f ∷ []) ≡ begun_text s frames ++ frame_units s (length frames) (pad s.dims f)
unfolding begun_text frame_units pictures_from
begun_more s [] f = ap (λ (t : List Bool). sequence_units s ++ t) (append-nil (picture_units s 0 (pad s.dims f)))
begun_more s (g ∷ frames) f =
    ap (λ (t : List Bool). sequence_units s ++ t) (pictures_more s 0 (g ∷ frames) f)
    ∙ sym (append_assoc (sequence_units s) (pictures_from s 0 (g ∷ frames)) (picture_units s (0 + length (g ∷ frames)) (pad s.dims f)))
    ∙ ap (λ (t : List Bool). (sequence_units s ++ pictures_from s 0 (g ∷ frames)) ++ t)
    (ap (λ (k : ℕ). picture_units s k (pad s.dims f)) (zero-add (length (g ∷ frames))) ∙ later_units s (length (g ∷ frames)) (pad s.dims f) (omega arith))

-- the bytes of one frame more
pub bytes_more : (s : FlatSettings) (frames : List (List ℕ)) (f : List ℕ) → FlatBegun s (frames ++ f ∷ []) ≡ FlatBegun s frames ++ FlatFrame s (length frames) f
bytes_more s frames f =
    ap packed (begun_more s frames f) ∙ packed-append (begun_text s frames) (frame_units s (length frames) (pad s.dims f)) (begun_edge s frames)

-- the bytes of the end
pub bytes_end : (s : FlatSettings) (f : List ℕ) (frames : List (List ℕ)) → Flat s (f ∷ frames) ≡ FlatBegun s (f ∷ frames) ++ packed (start_code 0xB7)
unfolding flat_text begun_text
bytes_end s f frames =
    ap packed (sym (append_assoc (sequence_units s) (pictures_from s 0 (f ∷ frames)) (start_code 0xB7)))
    ∙ packed-append (sequence_units s ++ pictures_from s 0 (f ∷ frames)) (start_code 0xB7) (begun_edge s (f ∷ frames))

pub begun_none : (s : FlatSettings) → FlatBegun s [] ≡ []
unfolding begun_text
begun_none s = packed_none

pub flat_none : (s : FlatSettings) → Flat s [] ≡ []
unfolding flat_text
flat_none s = packed_none
