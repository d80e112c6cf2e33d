-- The bits of each piece, and where the start code of its picture ends in it.
use Rattle.std.proofs.Common.{◌≡◌, ℕ, ◌+◌, ◌-◌, ◌*◌, ◌/◌, ◌<◌, Bool, true, false, cond, List, [], ◌∷◌, ◌++◌, length, replicate, refl, ap, ◌∙◌, arith}
use Rattle.std.proofs.lemmas.List.{length-append, length-replicate}
use Rattle.m2v_bits.specs.Bits.{packed, start_code, to_edge, IsEdge}
use Rattle.m2v_head.specs.Texts.{sequence_text, sequence_extension_text, group_text}
use Rattle.m2v_set.specs.declared.settings.Settings.{Settings}
use Rattle.m2v_order.specs.declared.jobs.PictureJob.{PictureJob}
use Rattle.m2v_rate.specs.Plans.{Entries}
use Rattle.m2v_slice.specs.Headers.{sequence_of, sequence_extension_of, group_from, bits_to_code, begins_group}
use Rattle.m2v_slice.proofs.TextLengths.{sequence_length, sequence_extension_length, group_length}
use Rattle.m2v_slice.specs.Books.{Book, job_at, coded}
use Rattle.m2v_slice.specs.Conditions.{IsBook}
use Rattle.m2v_enc_stream.specs.Streams.{zeros_of, delay_at, picture_text}
use Rattle.m2v_model.specs.Units.{Units, cut}
use Rattle.m2v_model.specs.Buffering.{before_picture, bits_of_piece, code_bits}
use Rattle.m2v_model.proofs.CutLaws.{are_before, cut_units}
use Rattle.m2v_model.specs.Texts.{ended, unit_bytes}
use Rattle.m2v_enc_stream.proofs.Pictures.{picture_length}
use Rattle.m2v_model.proofs.Ends.{end_bytes, end_packs}
use Rattle.m2v_enc_stream.proofs.Zeros.{padded_cuts}
use Rattle.m2v_enc_stream.proofs.SliceUnits.{Spelled}
use Rattle.m2v_enc_stream.proofs.TreePictures.{sequence_bytes, extension_bytes, group_bytes, picture_bytes, coding_bytes}
use Rattle.m2v_enc_stream.proofs.PictureChains.{header_bytes, slices_bytes, picture_units_of, picture_text_holds}
use Rattle.m2v_law_shown.specs.Texts.{bits_at}

-- ---- bytes of texts

pub bytes_by : (t : List Bool) → IsEdge t → 8 * length (packed t) ≡ length t
unfolding packed
bytes_by (x1 ∷ x2 ∷ x3 ∷ x4 ∷ x5 ∷ x6 ∷ x7 ∷ x8 ∷ t) e = omega (arith, bytes_by t (omega (arith, e)))
bytes_by [] e = refl
bytes_by (x1 ∷ []) e = absurd (omega (arith, e))
bytes_by (x1 ∷ x2 ∷ []) e = absurd (omega (arith, e))
bytes_by (x1 ∷ x2 ∷ x3 ∷ []) e = absurd (omega (arith, e))
bytes_by (x1 ∷ x2 ∷ x3 ∷ x4 ∷ []) e = absurd (omega (arith, e))
bytes_by (x1 ∷ x2 ∷ x3 ∷ x4 ∷ x5 ∷ []) e = absurd (omega (arith, e))
bytes_by (x1 ∷ x2 ∷ x3 ∷ x4 ∷ x5 ∷ x6 ∷ []) e = absurd (omega (arith, e))
bytes_by (x1 ∷ x2 ∷ x3 ∷ x4 ∷ x5 ∷ x6 ∷ x7 ∷ []) e = absurd (omega (arith, e))

ended_length : (t : List Bool) → length (ended t) ≡ length t + to_edge (32 + length t)
unfolding ended
ended_length t = omega (arith, length-append t (replicate (to_edge (32 + length t)) false), length-replicate (to_edge (32 + length t)) false)

-- the bits of a unit
unit_size : (value : ℕ) (t : List Bool) → 8 * length (unit_bytes value t) ≡ 32 + length t + to_edge (32 + length t)
unit_size value t =
    let len = ended_length t in
    let bytes = bytes_by (ended t) (omega (arith, len)) in
    omega (arith, len, bytes)

-- ---- the bits of a picture

pub piece_bits : (law : Spelled) (b : Book) → IsBook b → (l : Entries) (ends : Bool) (at p : ℕ) → p < length b.pictures
    → bits_of_piece (packed (picture_text b (coded b (length b.pictures)) l ends at p)) ≡ bits_at b (coded b (length b.pictures)) l ends at p
piece_bits law b h l ends at p lt =
    bytes_by (picture_text b (coded b (length b.pictures)) l ends at p) (picture_text_holds law b h l ends (length b.pictures) p at lt lt).edge
    ∙ picture_length b h l ends at p lt

-- ---- the start code of a picture

headers_code : (s : Settings) (job : PictureJob) (delay : ℕ) (slices : Units) → 8 * before_picture (header_bytes s job delay ++ slices) + 32 ≡ bits_to_code job
unfolding before_picture bits_to_code
headers_code s job delay slices = by_begin (begins_group job)
  where
    first : ℕ
    first = job.display - job.frame

    by_begin : (x : Bool)
        → 8 * before_picture ((cond x (sequence_bytes s ∷ extension_bytes s ∷ group_bytes s first ∷ []) [] ++ picture_bytes job delay ∷ coding_bytes s job ∷ []) ++ slices) + 32 ≡ cond x 272 32
    by_begin true = omega (
      arith,
      unit_size 0xB3 (sequence_text (sequence_of s)),
      unit_size 0xB5 (sequence_extension_text (sequence_extension_of s)),
      unit_size 0xB8 (group_text (group_from s first)),
      sequence_length s,
      sequence_extension_length s,
      group_length s first,
    )
    by_begin false = refl

pub piece_code : (law : Spelled) (b : Book) → IsBook b → (l : Entries) (ends : Bool) (at p : ℕ) → p < length b.pictures
    → code_bits (packed (picture_text b (coded b (length b.pictures)) l ends at p)) ≡ bits_to_code (job_at b p)
piece_code law b h l ends at p lt =
    let text = picture_text b (coded b (length b.pictures)) l ends at p in
    let us = picture_units_of b l ends at p in
    let holds = picture_text_holds law b h l ends (length b.pictures) p at lt lt in
    let are = are_before us (end_bytes ∷ []) (padded_cuts text (start_code 0xB7) us end_bytes holds end_packs).are_units in
    ap (λ (bytes : List ℕ). 8 * before_picture (cut 0 bytes).1 + 32) holds.bytes
    ∙ ap (λ (vs : Units). 8 * before_picture vs + 32) (cut_units us are)
    ∙ headers_code b.settings (job_at b p) (delay_at l (job_at b p) p at) (slices_bytes b p (zeros_of l ends p / 8))
