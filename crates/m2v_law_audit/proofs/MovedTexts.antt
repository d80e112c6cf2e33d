-- Text after text: the report of an input is that of its first sequence, and then those of the texts behind it.
use Rattle.std.proofs.Common.{◌≡◌, ℕ, suc, ◌+◌, true, false, List, ◌++◌, length, ap, ◌∙◌, arith}
use Rattle.m2v_model.specs.Streams.{Sofar}
use Rattle.m2v_model.specs.Pieces.{pieces}
use Rattle.m2v_model.specs.Decoding.{Stream}
use Rattle.m2v_audit.specs.m2v_check.m2v_dec_piece.Following.{text_after}
use Rattle.m2v_audit.specs.declared.records.TotalRecord.{TotalRecord}
use Rattle.m2v_audit.specs.declared.outcome.Ending.{Ending}
use Rattle.m2v_audit.specs.declared.outcome.Ending.TheVariants as endings
use Rattle.m2v_audit.specs.Audited.{Telling, asked_behind, then_comes, none_counted, counted_with, texts_told}
use Rattle.m2v_audit.specs.Lines.{audit_line, columns_lines}
use Rattle.m2v_audit.proofs.LeadLaws.{both_come}
use Rattle.m2v_audit.specs.declared.asked.Asked.{Asked}
use Rattle.m2v_audit.specs.m2v_strict.RuleSets.{name_of}
use Rattle.m2v_law_audit.specs.Sequences.{first_byte, sequence_report, PassNone}
use Rattle.m2v_law_audit.specs.Moved.{BeginsWith, GoesOnWith}
use Rattle.m2v_law_audit.proofs.ReportStands.{stands_in}

module _ (text : List ℕ) (tree : Sofar) (s : Stream text tree) (asked : Asked) where
  -- what goes along with a text, of which no more than a number follow
  abbrev telling_of : ℕ → Ending → TotalRecord → ℕ → Telling
  telling_of n so_far t start = record {
    so_far = so_far;
    totals = t;
    start = start;
    next = λ a end. texts_told n (asked_behind asked a) true so_far (counted_with t a) end (text_after text);
    onward = λ ending a at left. texts_told n (asked_behind asked a) true ending (counted_with t a) at (left ++ text_after text);
  }

  pub goes_on : (n : ℕ) (t : TotalRecord) (start : ℕ) → PassNone (first_byte start text) (pieces text) → GoesOnWith n asked t start text
  unfolding texts_told
  goes_on n t start pass so_far = stands_in text tree s asked (telling_of n so_far t start) true pass

  pub begins_with : PassNone (first_byte 0 text) (pieces text) → BeginsWith asked text
  unfolding texts_told
  begins_with pass =
      let lines = audit_line (name_of asked.rules) ++ columns_lines in
      let more : 2 + length text ≡ suc (1 + length text) = omega arith in
      ap (λ (n : ℕ). then_comes lines (texts_told n asked false endings.Whole none_counted 0 text)) more
      ∙ ap (then_comes lines) (stands_in text tree s asked (telling_of (1 + length text) endings.Whole none_counted 0) false pass)
      ∙ both_come lines (sequence_report asked 0 0 text).lines _
