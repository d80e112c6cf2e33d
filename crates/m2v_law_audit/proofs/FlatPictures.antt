-- The sequence header and the pictures of the flat profile break none of the stricter rules, but that on whole macroblocks perhaps.
use Rattle.std.proofs.Common.{◌≡◌, ℕ, Bool, false, not, List, ap}
use Rattle.std.proofs.Math.Bool.{and-false}
use Rattle.m2v_flat.specs.declared.settings.FlatSettings.{FlatSettings}
use Rattle.m2v_flat.specs.Tree.{sequence_of}
use Rattle.m2v_flat.specs.Told.{decoded}
use Rattle.m2v_model.specs.PieceNotes.{note_of}
use Rattle.m2v_audit.specs.m2v_check.declared.coded.CodedPicture.{CodedPicture}
use Rattle.m2v_audit.specs.m2v_strict.declared.leading.Leading.{Leading}
use Rattle.m2v_audit.specs.m2v_strict.SequenceRules.{aspect_rule, constrained_rule, first_number_rule}
use Rattle.m2v_audit.specs.m2v_strict.OrderRules.{leads, sequence_order_rule, first_type_rule}
use Rattle.m2v_audit.specs.m2v_strict.PictureRules.{low_delay_rule, delay_rule, f_code_rule, full_pel_rule, field_rule, prediction_rule, top_first_rule, interlaced_rule, repeat_by_rate_rule, chroma_rule}
use Rattle.m2v_law_audit.proofs.CleanRemarks.{none, both, held, looked, sequence_warned, picture_warned, SequenceMayBe, PictureMayBe}
use Rattle.m2v_law_audit.proofs.CleanHeaders.{MayBy, luma_may, same_header, same_extension}

-- behind a picture, or at first
pub flat_header : (s : FlatSettings) (before : Leading) → leads before ≡ false
    → SequenceMayBe (MayBy (sequence_of s)) before (sequence_of s) (sequence_of s)
unfolding sequence_order_rule aspect_rule constrained_rule first_number_rule
flat_header s before bare =
    let x = sequence_of s in
    record {
      level = both (both (both (luma_may x) none) none) none;
      header = same_header (MayBy x) x;
      extension = same_extension (MayBy x) x;
      order = held _ _ (ap not bare);
      warnings = sequence_warned x;
    }

-- an I picture, whatever was counted
pub flat_coded : (s : FlatSettings) (number place end : ℕ) (raw : List ℕ) (first headed : Bool) →
    let p : CodedPicture = record {
      number = place;
      sequence = sequence_of s;
      first_in_group = first;
      note = note_of end (decoded s number raw);
    } in
    PictureMayBe (MayBy (sequence_of s)) headed false p
unfolding first_type_rule low_delay_rule delay_rule f_code_rule full_pel_rule field_rule prediction_rule top_first_rule interlaced_rule repeat_by_rate_rule chroma_rule
flat_coded s number place end raw first headed =
    record {
      first = held _ _ (ap not (and-false headed));
      delay = none;
      codes = none;
      vectors = none;
      field = none;
      frame = both (both (both (both none none) none) (looked _ _ none)) none;
      warnings = picture_warned _;
    }
