-- The pieces of the flat profile's stream are its pictures, the first one with the headers of the sequence, and the sequence end code;
-- and none of them has more bits than a buffer bears.
use Rattle.std.proofs.Common.{◌≡◌, ℕ, suc, ◌+◌, ◌*◌, ◌<◌, ◌≤◌, Bool, List, [], ◌∷◌, ◌++◌, length, map, take, refl, sym, ap, ◌∙◌, arith, append_assoc}
use Rattle.std.specs.Prelude.{All}
use Rattle.std.specs.List.{AllByRecursion}
use Rattle.std.proofs.lemmas.List.{length-append}
use Rattle.std.proofs.lemmas.List.Elements.{All-nil, All-cons}
use Rattle.m2v_flat.specs.declared.settings.FlatSettings.{FlatSettings}
use Rattle.m2v_flat.specs.Flat.{Flat, flat_text, sequence_units, picture_units}
use Rattle.m2v_order.specs.m2v_plane.Raw.{pad}
use Rattle.m2v_order.specs.m2v_plane.Samples.{Samples}
use Rattle.m2v_flat.proofs.Pictures.{IsFlat, sequence_bytes, extension_bytes, picture_bytes, coding_bytes, slice_bytes, rows_bytes, pictures_bytes}
use Rattle.m2v_flat.proofs.Streams.{stream_bytes, sequence_packs, picture_packs, stream_packs}
use Rattle.m2v_flat.proofs.UnitLaws.{sequence_most, picture_most}
use Rattle.m2v_model.specs.declared.phase.Phase.TheVariants.{Before, Picture}
use Rattle.m2v_model.specs.Units.{Units, joined}
use Rattle.m2v_model.specs.Pieces.{grouped, phase_after, begins_piece, is_end, pieces}
use Rattle.m2v_model.specs.Texts.{Packs}
use Rattle.m2v_model.specs.Buffering.{bits_of_piece}
use Rattle.m2v_model.proofs.CutLaws.{cuts_is}
use Rattle.m2v_model.proofs.Ends.{end_bytes}
use Rattle.m2v_model.proofs.Units.{packs_append, cuts_of}
use Rattle.m2v_law_shown.proofs.Groupings.{IsInner, IsPiece, IsFirst, by_value, inner_on, plain_piece, all_of, pieces_all}
use Rattle.m2v_law_shown.proofs.Lengths.{bytes_by}
use Rattle.m2v_law_shown.proofs.PictureUnits.{slice_goes, slice_inner, inner_map}
use Rattle.m2v_law_shown.proofs.StreamPieces.{ends_here}

-- ---- slices

inner_row : (quantiser : ℕ) (frame : Samples) (row : ℕ) → row < 36 → IsInner (slice_bytes quantiser frame row)
inner_row quantiser frame row few = record {
  goes = slice_goes (row + 1) (omega arith) (omega (arith, few));
  inner = slice_inner (row + 1) (omega arith) (omega (arith, few));
}

all_rows : (s : FlatSettings) (raw : List ℕ) → IsFlat s → All IsInner (rows_bytes s.quantiser (pad s.dims raw) 0 s.dims.mb_rows)
all_rows s raw h =
    let frame = pad s.dims raw in
    inner_map (slice_bytes s.quantiser frame) 0 s.dims.mb_rows (λ row lt. inner_row s.quantiser frame row (omega (arith, lt, h.rows.1)))

-- ---- pictures

-- a picture, and the first one with the headers before it
abbrev pub picture_of : FlatSettings → ℕ → List ℕ → Units
picture_of s number raw = picture_bytes number ∷ coding_bytes ∷ rows_bytes s.quantiser (pad s.dims raw) 0 s.dims.mb_rows

abbrev pub first_of : FlatSettings → List ℕ → Units
first_of s raw = sequence_bytes s ∷ extension_bytes ∷ picture_of s 0 raw

unfoldable pub pictures_of : FlatSettings → ℕ → List (List ℕ) → List Units
pictures_of s number [] = []
pictures_of s number (raw ∷ frames) = picture_of s number raw ∷ pictures_of s (number + 1) frames

are_pieces : (s : FlatSettings) (number : ℕ) (frames : List (List ℕ)) → IsFlat s → All IsPiece (pictures_of s number frames)
unfolding pictures_of
are_pieces s number [] h = All-nil IsPiece
are_pieces s number (raw ∷ frames) h =
    All-cons IsPiece (picture_of s number raw) (pictures_of s (number + 1) frames)
    (plain_piece _ _ _ (all_rows s raw h)) (are_pieces s (number + 1) frames h)

four : (a b c d e : List ℕ) → (((a ++ b) ++ c) ++ d) ++ e ≡ a ++ (b ++ (c ++ (d ++ e)))
four a b c d e = append_assoc ((a ++ b) ++ c) d e ∙ append_assoc (a ++ b) c (d ++ e) ∙ append_assoc a b (c ++ (d ++ e))

-- the headers of the sequence, and those of a picture
abbrev headed : List ℕ → List ℕ → List ℕ → List ℕ → Units → Units
headed s e p c slices = by_value 0xB3 s ∷ by_value 0xB5 e ∷ by_value 0x00 p ∷ by_value 0xB5 c ∷ slices

headed_on : (s e p c : List ℕ) (slices rest : Units) → All IsInner slices
    → grouped Picture (((by_value 0xB3 s ++ by_value 0xB5 e) ++ by_value 0x00 p) ++ by_value 0xB5 c) (slices ++ rest) ≡ grouped Picture (joined (headed s e p c slices)) rest
headed_on s e p c slices rest h =
    inner_on slices (((by_value 0xB3 s ++ by_value 0xB5 e) ++ by_value 0x00 p) ++ by_value 0xB5 c) rest h
    ∙ ap (λ (b : List ℕ). grouped Picture b rest) (four (by_value 0xB3 s) (by_value 0xB5 e) (by_value 0x00 p) (by_value 0xB5 c) (joined slices))

headed_piece : (s e p c : List ℕ) (slices : Units) → All IsInner slices → IsPiece (headed s e p c slices)
unfolding grouped phase_after begins_piece is_end
headed_piece s e p c slices h = record { begins = λ bytes rest. ap (λ (x : List (List ℕ)). bytes ∷ x) (headed_on s e p c slices rest h) }

headed_first : (s e p c : List ℕ) (slices : Units) → All IsInner slices → IsFirst (headed s e p c slices)
unfolding grouped phase_after begins_piece is_end
headed_first s e p c slices h = record { begins = λ rest. headed_on s e p c slices rest h }

units_are : (s : FlatSettings) (number : ℕ) (frames : List (List ℕ)) → pictures_bytes s number frames ≡ all_of (pictures_of s number frames)
unfolding pictures_of pictures_bytes all_of
units_are s number [] = refl
units_are s number (raw ∷ frames) = ap (λ (us : Units). picture_of s number raw ++ us) (units_are s (number + 1) frames)

-- ---- the stream

-- the pieces of frames, but for the end code
abbrev pub pieces_of : FlatSettings → List ℕ → List (List ℕ) → List (List ℕ)
pieces_of s raw frames = map joined (first_of s raw ∷ pictures_of s 1 frames)

pub pieces_are : (s : FlatSettings) (raw : List ℕ) (frames : List (List ℕ)) → IsFlat s
    → pieces (Flat s (raw ∷ frames)) ≡ pieces_of s raw frames ++ take 4 end_bytes ∷ []
unfolding pictures_bytes all_of
pieces_are s raw frames h =
    let us = stream_bytes s (raw ∷ frames) in
    let vs = first_of s raw ∷ pictures_of s 1 frames in
    ap (λ (c : List ℕ × List (List ℕ)). grouped Before [] c.1)
    (cuts_is (Flat s (raw ∷ frames)) [] us (cuts_of (flat_text s (raw ∷ frames)) us (stream_packs s raw frames h)))
    ∙ ap (λ (t : Units). grouped Before [] ((first_of s raw ++ t) ++ end_bytes ∷ [])) (units_are s 1 frames)
    ∙ pieces_all vs end_bytes (headed_first _ _ _ _ _ (all_rows s raw h))
    (All-cons IsPiece (first_of s raw) (pictures_of s 1 frames) (headed_piece _ _ _ _ _ (all_rows s raw h)) (are_pieces s 1 frames h)) ends_here

-- ---- how many bits

-- no more than a picture of the most macroblocks has with its headers
abbrev pub IsSmall : List ℕ → Type 0
IsSmall p = bits_of_piece p ≤ 262016

bits_by : (text : List Bool) (us : Units) → Packs text us → bits_of_piece (joined us) ≡ length text
bits_by text us p = ap (λ (b : List ℕ). 8 * length b) (sym p.bytes) ∙ bytes_by text p.edge

picture_bits : (s : FlatSettings) (number : ℕ) (raw : List ℕ) → IsFlat s → bits_of_piece (joined (picture_of s number raw)) ≤ 261760
picture_bits s number raw h =
    let frame = pad s.dims raw in
    let bits = bits_by (picture_units s number frame) (picture_of s number raw) (picture_packs s number frame h.rows.1) in
    omega (arith, bits, picture_most s number frame h.rows.1 h.columns.1)

first_bits : (s : FlatSettings) (raw : List ℕ) → IsFlat s → IsSmall (joined (first_of s raw))
first_bits s raw h =
    let frame = pad s.dims raw in
    let headers = sequence_bytes s ∷ extension_bytes ∷ [] in
    let text = picture_units s 0 frame in
    let packs = packs_append (sequence_units s) text headers (picture_of s 0 raw) (sequence_packs s h) (picture_packs s 0 frame h.rows.1) in
    let bits = bits_by (sequence_units s ++ text) (first_of s raw) packs in
    omega (arith, bits, length-append (sequence_units s) text, sequence_most s, picture_most s 0 frame h.rows.1 h.columns.1)

later_small : (s : FlatSettings) (number : ℕ) (frames : List (List ℕ)) → IsFlat s → AllByRecursion IsSmall (map joined (pictures_of s number frames))
unfolding pictures_of
later_small s number [] h = tt
later_small s number (raw ∷ frames) h = (omega (arith, picture_bits s number raw h), later_small s (number + 1) frames h)

pub all_small : (s : FlatSettings) (raw : List ℕ) (frames : List (List ℕ)) → IsFlat s → AllByRecursion IsSmall (pieces_of s raw frames)
all_small s raw frames h = (first_bits s raw h, later_small s 1 frames h)

later_many : (s : FlatSettings) (number : ℕ) (frames : List (List ℕ)) → length (map joined (pictures_of s number frames)) ≡ length frames
unfolding pictures_of
later_many s number [] = refl
later_many s number (raw ∷ frames) = ap suc (later_many s (number + 1) frames)

pub as_many : (s : FlatSettings) (raw : List ℕ) (frames : List (List ℕ)) → length (pieces_of s raw frames) ≡ length (raw ∷ frames)
as_many s raw frames = ap suc (later_many s 1 frames)

pub end_small : bits_of_piece (take 4 end_bytes) ≡ 32
end_small = refl
