-- The units of the flat profile's stream say nothing else before the first slice of a picture.
use Rattle.std.proofs.Common.{◌≡◌, ℕ, ◌+◌, ◌<◌, List, [], ◌∷◌, refl, sym, ap, subst, arith}
use Rattle.std.proofs.ByRecursion.{All-append}
use Rattle.std.proofs.lemmas.Bool.{ne_eqb}
use Rattle.m2v_bits.specs.Bits.{bits_of}
use Rattle.m2v_flat.specs.declared.settings.FlatSettings.{FlatSettings}
use Rattle.m2v_flat.specs.Flat.{Flat, flat_text, flat_picture}
use Rattle.m2v_flat.proofs.Pictures.{IsFlat, sequence_bytes, extension_bytes, picture_bytes, coding_bytes, slice_bytes, rows_bytes, pictures_bytes}
use Rattle.m2v_flat.proofs.Streams.{stream_bytes, stream_packs}
use Rattle.m2v_order.specs.m2v_plane.Raw.{pad}
use Rattle.m2v_order.specs.m2v_plane.Samples.{Samples}
use Rattle.m2v_model.specs.m2v_macroblock.m2v_head.Texts.{sequence_extension_text, directions_text, picture_extension_text}
use Rattle.m2v_model.specs.Units.{Units, cut}
use Rattle.m2v_model.specs.Pieces.{pieces}
use Rattle.m2v_model.specs.ByPieces.{at_start}
use Rattle.m2v_model.proofs.CutLaws.{cuts_is}
use Rattle.m2v_model.proofs.Ends.{end_bytes}
use Rattle.m2v_model.proofs.Units.{cuts_of}
use Rattle.m2v_audit.specs.declared.asked.Asked.{Asked}
use Rattle.m2v_audit.specs.Auditing.{nothing}
use Rattle.m2v_law_audit.specs.Sequences.{first_byte}
use Rattle.m2v_law_audit.proofs.CleanOthers.{all_others}
use Rattle.m2v_law_audit.proofs.OthersUnits.{IsSilent, silent_plain, all_silent}
use Rattle.m2v_law_audit.proofs.OthersPieces.{in_pieces_of}
use Rattle.m2v_law_audit.proofs.EncodedOthers.{Each, silent_code, silent_extension, silent_picture, map_silent}

-- ---- headers

extension_silent : IsSilent extension_bytes
unfolding sequence_extension_text
extension_silent = silent_extension _ _ 1 refl (omega arith) refl refl

coding_silent : IsSilent coding_bytes
unfolding picture_extension_text
coding_silent = silent_extension _ _ 8 refl (omega arith) refl refl

picture_silent : (number : ℕ) → IsSilent (picture_bytes number)
unfolding directions_text bits_of
picture_silent number = silent_picture (flat_picture number) 0 (omega arith) (omega arith) (omega arith) (omega arith) refl

-- ---- pictures

row_silent : (quantiser : ℕ) (frame : Samples) (row : ℕ) → row < 36 → IsSilent (slice_bytes quantiser frame row)
row_silent quantiser frame row few =
    silent_plain (slice_bytes quantiser frame row) (ne_eqb (row + 1) 0x00 (λ e. absurd (omega (arith, e))))
    (ne_eqb (row + 1) 0xB5 (λ e. absurd (omega (arith, e, few))))

pictures_silent : (s : FlatSettings) (number : ℕ) (frames : List (List ℕ)) → IsFlat s → Each (pictures_bytes s number frames)
unfolding pictures_bytes
pictures_silent s number [] h = tt
pictures_silent s number (raw ∷ frames) h =
    let frame = pad s.dims raw in
    let rows = map_silent (slice_bytes s.quantiser frame) 0 s.dims.mb_rows (λ row lt. row_silent s.quantiser frame row (omega (arith, lt, h.rows.1))) in (
      picture_silent number,
      (
        coding_silent,
        All-append IsSilent (rows_bytes s.quantiser frame 0 s.dims.mb_rows) (pictures_bytes s (number + 1) frames) rows
            (pictures_silent s (number + 1) frames h),
      ),
    )

-- ---- the stream

flat_silent : (s : FlatSettings) (raw : List ℕ) (frames : List (List ℕ)) → IsFlat s → Each (cut 0 (Flat s (raw ∷ frames))).1
flat_silent s raw frames h =
    let all = raw ∷ frames in
    let us = stream_bytes s all in
    subst Each (sym (ap (λ (c : List ℕ × Units). c.1) (cuts_is (Flat s all) [] us (cuts_of (flat_text s all) us (stream_packs s raw frames h))))) (
      silent_plain (sequence_bytes s) refl refl,
      (
        extension_silent,
        All-append IsSilent (pictures_bytes s 0 all) (end_bytes ∷ []) (pictures_silent s 0 all h) (silent_plain end_bytes refl refl, tt),
      ),
    )

pub no_others : (s : FlatSettings) (raw : List ℕ) (frames : List (List ℕ)) → IsFlat s → (asked : Asked) (number start : ℕ) →
    let text = Flat s (raw ∷ frames) in
    all_others (nothing number asked start) at_start (first_byte start text) (pieces text) ≡ []
no_others s raw frames h asked number start =
    let text = Flat s (raw ∷ frames) in
    all_silent (pieces text) (first_byte start text) (in_pieces_of IsSilent silent_code text (flat_silent s raw frames h))
    (nothing number asked start) at_start tt
