-- The headers of the flat profile stand in their units.
use Rattle.std.proofs.Common.{ℕ, ◌<◌, ◌≤◌, true, [], length, refl, arith}
use Rattle.std.proofs.lemmas.Nat.{mod_below}
use Rattle.m2v_bits.specs.Bits.{bits_of, number}
use Rattle.m2v_bits.specs.Syntax.{renamed}
use Rattle.m2v_head.specs.Texts.{sequence_text, sequence_extension_text, rates_text, picture_text, picture_extension_text, flags_text, composite_text}
use Rattle.m2v_head.specs.Fits.{SequenceFits, PictureFits, PictureExtensionFits}
use Rattle.m2v_head.proofs.Spellings.{sequence_spells, picture_spells}
use Rattle.m2v_flat.specs.declared.settings.FlatSettings.{FlatSettings}
use Rattle.m2v_flat.specs.Flat.{flat_sequence, flat_sequence_extension, flat_picture, flat_picture_extension}
use Rattle.m2v_model.specs.Looking.{number_from}
use Rattle.m2v_model.specs.Headers.{whole_header, sequence_in, sequence_extension_in, picture_in, picture_extension_in}
use Rattle.m2v_model.specs.Texts.{ended}
use Rattle.m2v_model.proofs.Headers.{behind, whole_stands, IdStands, plain_stands, f_codes_stand, coding_stands as coding_shows}

-- ---- sequences

pub sequence_fits : (s : FlatSettings) → s.dims.width < 4096 → s.dims.height < 4096 → s.rate_code ≤ 5 → SequenceFits (flat_sequence s)
sequence_fits s wide tall code = record {
  horizontal_size = wide;
  vertical_size = tall;
  aspect = omega arith;
  frame_rate_code = omega arith;
  bit_rate = omega arith;
  vbv_buffer_size = omega arith;
  load_intra = tt;
  load_non_intra = tt;
}

pub sequence_stands : (s : FlatSettings) → SequenceFits (flat_sequence s) → (whole_header sequence_in).Stands (flat_sequence s) (ended (sequence_text (flat_sequence s))) []
unfolding sequence_in renamed ended
sequence_stands s fits = whole_stands sequence_in (sequence_text (flat_sequence s)) (flat_sequence s) ((sequence_spells (flat_sequence s) fits).stands (behind (sequence_text (flat_sequence s))))

pub extension_stands : (s : FlatSettings) → 1 ≤ s.dims.width → s.dims.width ≤ 1920 → 1 ≤ s.dims.height → s.dims.height ≤ 1152
    → (whole_header (sequence_extension_in (flat_sequence s))).Stands flat_sequence_extension (ended (sequence_extension_text flat_sequence_extension)) []
extension_stands s wide width tall height = plain_stands 72 true (flat_sequence s) (omega arith) wide width tall height

-- ---- pictures

picture_fits : (n : ℕ) → PictureFits (flat_picture n)
picture_fits n = record {
  temporal_reference = mod_below n 1024 (omega arith);
  kind = (omega arith, omega arith);
  vbv_delay = omega arith;
  forward_f_code = omega arith;
  backward_f_code = omega arith;
  forward = λ e. (refl, refl);
  backward = λ e. (refl, refl);
}

picture_looks : (n : ℕ) → picture_in.Stands (flat_picture n) (ended (picture_text (flat_picture n))) (behind (picture_text (flat_picture n)))
unfolding picture_in renamed ended
picture_looks n = (picture_spells (flat_picture n) (picture_fits n)).stands (behind (picture_text (flat_picture n)))

pub picture_stands : (n : ℕ) → (whole_header picture_in).Stands (flat_picture n) (ended (picture_text (flat_picture n))) []
picture_stands n = whole_stands picture_in (picture_text (flat_picture n)) (flat_picture n) (picture_looks n)

coding_fits : PictureExtensionFits flat_picture_extension
coding_fits = record {
  f_code = record { shape = refl; forward_horizontal = omega arith; forward_vertical = omega arith; backward_horizontal = omega arith; backward_vertical = omega arith };
  dc_precision = omega arith;
  structure = (omega arith, omega arith);
  composite = tt;
}

pub coding_stands : (n : ℕ) → (whole_header (picture_extension_in true (flat_picture n))).Stands flat_picture_extension (ended (picture_extension_text flat_picture_extension)) []
unfolding number_from ended picture_extension_text flags_text composite_text bits_of number
coding_stands n =
    let t = ended (picture_extension_text flat_picture_extension) in
    coding_shows true (flat_picture n) flat_picture_extension 3 coding_fits
    (f_codes_stand 1 (length t) t 15 15 15 15 refl refl refl refl refl refl refl refl refl) refl refl

-- ---- extensions

pub sequence_id : IdStands 1 (sequence_extension_text flat_sequence_extension)
unfolding ended sequence_extension_text rates_text bits_of
sequence_id = refl

pub picture_id : IdStands 8 (picture_extension_text flat_picture_extension)
unfolding ended picture_extension_text flags_text composite_text bits_of
picture_id = refl
