-- The flat stream stands in its bytes, and decodes to the frames that it stands for.
use Rattle.std.proofs.Common.{◌≡◌, ℕ, ◌+◌, ◌≤◌, true, List, [], ◌∷◌, ◌++◌, length, Option, None, refl, sym, ap, subst, ◌∙◌, arith}
use Rattle.m2v_head.specs.Texts.{sequence_text, sequence_extension_text, picture_text, picture_extension_text, slice_text}
use Rattle.m2v_plane.specs.Samples.{Samples}
use Rattle.m2v_plane.specs.Raw.{pad}
use Rattle.m2v_flat.specs.declared.settings.FlatSettings.{FlatSettings}
use Rattle.m2v_flat.specs.Answers.{HasPassed}
use Rattle.m2v_flat.specs.Flat.{flat_sequence, flat_sequence_extension, flat_picture, flat_picture_extension, flat_slice, row_text, slice_unit, slices_units, sequence_units, picture_units, pictures_from, flat_text, Flat}
use Rattle.m2v_flat.specs.Recon.{FlatRecon}
use Rattle.m2v_model.specs.declared.state.Open.{Open}
use Rattle.m2v_model.specs.declared.state.State.{State}
use Rattle.m2v_model.specs.Units.{Units}
use Rattle.m2v_model.specs.States.{at_first, none_waits}
use Rattle.m2v_model.specs.Streams.{Part, Sofar, sequence, ending, after, stream_at}
use Rattle.m2v_model.specs.Pictures.{no_frames, events_from, pictures_in}
use Rattle.m2v_model.specs.Decoding.{Stream, Decodes, low_delay_of, shown}
use Rattle.m2v_flat.specs.Tree.{sequence_of, state_with, pictures_parts, stream_parts}
use Rattle.m2v_model.specs.Texts.{Packs}
use Rattle.m2v_model.proofs.Units.{packs_none, packs_unit, packs_append, packs_map, cuts_of}
use Rattle.m2v_model.proofs.Ends.{end_bytes, end_packs, end_stands}
use Rattle.m2v_flat.proofs.CalmTexts.{sequence_calm, sequence_extension_calm, picture_calm, picture_extension_calm, slice_calm}
use Rattle.m2v_model.specs.Chains.{Chain, link}
use Rattle.m2v_model.proofs.Chains.{rounds_of, stream_of}
use Rattle.m2v_flat.proofs.Pictures.{IsFlat, is_flat, IsWhole, sequence_bytes, extension_bytes, picture_bytes, coding_bytes, slice_bytes, rows_bytes, pictures_bytes, sequence_reads, pictures_chain}
use Rattle.m2v_flat.proofs.Frames.{parts_show, first_state}

-- ---- the stream is cut into its units

abbrev pub stream_bytes : FlatSettings → List (List ℕ) → Units
stream_bytes s frames = sequence_bytes s ∷ extension_bytes ∷ (pictures_bytes s 0 frames ++ end_bytes ∷ [])

pub sequence_packs : (s : FlatSettings) → IsFlat s → Packs (sequence_units s) (sequence_bytes s ∷ extension_bytes ∷ [])
unfolding sequence_units
sequence_packs s h =
    packs_append _ _ (sequence_bytes s ∷ []) (extension_bytes ∷ [])
    (packs_unit 0xB3 (sequence_text (flat_sequence s)) (omega arith) (sequence_calm s h.width.0 (omega (arith, h.width.1)) h.height.0 (omega (arith, h.height.1))))
    (packs_unit 0xB5 (sequence_extension_text flat_sequence_extension) (omega arith) sequence_extension_calm)

rows_pack : (quantiser : ℕ) (frame : Samples) → frame.dims.mb_rows ≤ 36 → Packs (slices_units quantiser frame) (rows_bytes quantiser frame 0 frame.dims.mb_rows)
unfolding slices_units slice_unit
rows_pack quantiser frame few =
    packs_map (slice_unit quantiser frame) (slice_bytes quantiser frame) 0 frame.dims.mb_rows
    (λ row lt. packs_unit (row + 1) (slice_text (flat_slice quantiser) ++ row_text frame row) (omega arith) (slice_calm quantiser frame row))

pub picture_packs : (s : FlatSettings) (number : ℕ) (frame : Samples) → frame.dims.mb_rows ≤ 36
    → Packs (picture_units s number frame) (picture_bytes number ∷ coding_bytes ∷ rows_bytes s.quantiser frame 0 frame.dims.mb_rows)
unfolding picture_units
picture_packs s number frame few =
    let rows = rows_bytes s.quantiser frame 0 frame.dims.mb_rows in
    packs_append _ _ (picture_bytes number ∷ []) (coding_bytes ∷ rows)
    (packs_unit 0x00 (picture_text (flat_picture number)) (omega arith) (picture_calm number))
    (packs_append _ _ (coding_bytes ∷ []) rows
    (packs_unit 0xB5 (picture_extension_text flat_picture_extension) (omega arith) picture_extension_calm)
    (rows_pack s.quantiser frame few))

pictures_pack : (s : FlatSettings) (frames : List (List ℕ)) (number : ℕ) → IsFlat s → Packs (pictures_from s number frames) (pictures_bytes s number frames)
unfolding pictures_from pictures_bytes
pictures_pack s [] number h = packs_none
pictures_pack s (raw ∷ frames) number h =
    let frame = pad s.dims raw in
    packs_append _ _ (picture_bytes number ∷ coding_bytes ∷ rows_bytes s.quantiser frame 0 s.dims.mb_rows) (pictures_bytes s (number + 1) frames)
    (picture_packs s number frame h.rows.1) (pictures_pack s frames (number + 1) h)

pub stream_packs : (s : FlatSettings) (raw : List ℕ) (frames : List (List ℕ)) → IsFlat s → Packs (flat_text s (raw ∷ frames)) (stream_bytes s (raw ∷ frames))
unfolding flat_text
stream_packs s raw frames h =
    packs_append _ _ (sequence_bytes s ∷ extension_bytes ∷ []) (pictures_bytes s 0 (raw ∷ frames) ++ end_bytes ∷ []) (sequence_packs s h)
    (packs_append _ _ (pictures_bytes s 0 (raw ∷ frames)) (end_bytes ∷ []) (pictures_pack s (raw ∷ frames) 0 h) end_packs)

-- ---- the stream stands in its units

abbrev tree_of : FlatSettings → ℕ → Option Open → List (List ℕ) → Sofar
tree_of s anchors open_one frames = record { state = after (state_with s anchors open_one) ending; parts = stream_parts s frames }

-- behind the end no second field is due
none_due : (s : FlatSettings) (anchors : ℕ) (open_one : Option Open) → none_waits (after (state_with s anchors open_one) ending).waiting ≡ true
unfolding after
none_due s anchors open_one = refl

parts_chain : (s : FlatSettings) (frames : List (List ℕ)) (anchors : ℕ) (open_one : Option Open) → IsFlat s → Chain (state_with s 0 None) (pictures_parts s 0 frames) (pictures_bytes s 0 frames) (state_with s anchors open_one)
    → Chain at_first (sequence (sequence_of s) ∷ pictures_parts s 0 frames) (sequence_bytes s ∷ extension_bytes ∷ pictures_bytes s 0 frames) (state_with s anchors open_one)
parts_chain s frames anchors open_one h c =
    link (sequence_reads s h) (subst (λ (st : State). Chain st (pictures_parts s 0 frames) (pictures_bytes s 0 frames) (state_with s anchors open_one)) (sym (first_state s)) c)

stream_stands : (s : FlatSettings) (frames : List (List ℕ)) (anchors : ℕ) (open_one : Option Open) → IsFlat s → IsWhole s open_one → Chain (state_with s 0 None) (pictures_parts s 0 frames) (pictures_bytes s 0 frames) (state_with s anchors open_one)
    → stream_at.Stands (tree_of s anchors open_one frames) (stream_bytes s frames) []
stream_stands s frames anchors open_one h whole_one c =
    stream_of (stream_bytes s frames) [] (tree_of s anchors open_one frames)
    (rounds_of (parts_chain s frames anchors open_one h c) [] (end_bytes ∷ []) [] (tree_of s anchors open_one frames)
    (end_stands (state_with s anchors open_one) (sequence (sequence_of s) ∷ pictures_parts s 0 frames) refl whole_one refl))
    (none_due s anchors open_one)

-- the stream of some frames, read whole: its tree stands in its bytes, and has the stream's parts
pub record FlatTree (s : FlatSettings) (frames : List (List ℕ)) : Type 0 where
  pub tree : Sofar
  pub stream : Stream (Flat s frames) tree
  pub parts : tree.parts ≡ stream_parts s frames

some_tree : (s : FlatSettings) (raw : List ℕ) (frames : List (List ℕ)) → IsFlat s → FlatTree s (raw ∷ frames)
some_tree s raw frames h =
    let ends = pictures_chain s (raw ∷ frames) 0 0 None h refl in
    record {
      tree = tree_of s ends.counted ends.end (raw ∷ frames);
      stream = record {
        front = [];
        units = stream_bytes s (raw ∷ frames);
        rest = [];
        cuts = cuts_of (flat_text s (raw ∷ frames)) (stream_bytes s (raw ∷ frames)) (stream_packs s raw frames h);
        stands = stream_stands s (raw ∷ frames) ends.counted ends.end h ends.whole ends.chain;
      };
      parts = refl;
    }

pub flat_tree : (s : FlatSettings) (frames : List (List ℕ)) → HasPassed s → 1 ≤ length frames → FlatTree s frames
flat_tree s [] passed some = absurd (omega arith)
flat_tree s (raw ∷ frames) passed some = some_tree s raw frames (is_flat s passed)

-- the stream of some frames decodes to the frames that it stands for
pub flat_decodes : (s : FlatSettings) (frames : List (List ℕ)) → HasPassed s → 1 ≤ length frames → Decodes (Flat s frames) (FlatRecon s frames)
flat_decodes s frames passed some =
    let x = flat_tree s frames passed some in
    let low = low_delay_of x.tree.state.first in
    record {
      tree = x.tree;
      stream = x.stream;
      shown = parts_show s frames low (is_flat s passed)
          ∙ ap (λ (ps : List Part). shown low (pictures_in (events_from at_first no_frames ps))) (sym x.parts);
    }
