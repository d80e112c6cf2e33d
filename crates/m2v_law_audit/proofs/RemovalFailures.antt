-- The failures of the removals that are told of a stream are those of the stream, at the rate that its first piece says.
use Rattle.std.proofs.Common.{◌≡◌, ℕ, ◌+◌, ◌*◌, false, List, [], ◌∷◌, length, Option, Some, None, Ok, inl, inr, refl, sym, ap, subst, ◌∙◌}
use Rattle.std.specs.List.{flat_map}
use Rattle.m2v_model.specs.m2v_macroblock.m2v_head.declared.sequence.SequenceInfo.{SequenceInfo}
use Rattle.m2v_model.specs.m2v_macroblock.m2v_head.declared.sequence.SequenceExtension.{SequenceExtension}
use Rattle.m2v_model.specs.declared.state.Sequence.{Sequence}
use Rattle.m2v_model.specs.Streams.{Sofar}
use Rattle.m2v_model.specs.Pictures.{Picture, Events, pictures_in}
use Rattle.m2v_model.specs.Pieces.{pieces}
use Rattle.m2v_model.specs.PieceNotes.{header_pair, first_note, notes_of}
use Rattle.m2v_model.specs.Decoding.{Stream, events}
use Rattle.m2v_model.specs.Lawful.{Numbered, numbered, all_numbered}
use Rattle.m2v_model.specs.Buffering.{code_bits}
use Rattle.m2v_model.specs.ByPieces.{Between, at_start, piece_read}
use Rattle.m2v_audit.specs.declared.records.FailureRecord.{FailureRecord}
use Rattle.m2v_audit.specs.declared.report.Rate.{Rate}
use Rattle.m2v_audit.specs.declared.account.Due.{Due}
use Rattle.m2v_audit.specs.Account.{all_told}
use Rattle.m2v_audit.specs.Auditing.{nothing, sequence_of}
use Rattle.m2v_audit.specs.HeaderRecords.{rate_with}
use Rattle.m2v_audit.proofs.m2v_check.Telling.{first_in, last_in}
use Rattle.m2v_audit.proofs.m2v_check.Onward.{none_or_one}
use Rattle.m2v_audit.specs.declared.asked.Asked.{Asked}
use Rattle.m2v_law_audit.specs.Found.{failures_of, all_found, all_removals}
use Rattle.m2v_law_audit.specs.Sequences.{sequence_report, first_byte}
use Rattle.m2v_law_audit.specs.Parts.{Tells, more_by}
use Rattle.m2v_law_audit.specs.Accounts.{Beginning, beginning_by, beginning_in, dues_in, numbered_in, removals_by, failures_by, failures_of_stream, TellsAllFailures}
use Rattle.m2v_law_audit.proofs.AccountFailures.{begins_so}
use Rattle.m2v_law_audit.proofs.AccountReading.{Turns, turn_read, in_pieces, first_header}
use Rattle.m2v_law_audit.proofs.EventsPieces.{BeginWith, text_begins}
use Rattle.m2v_law_audit.proofs.RemovalEvents.{note_at, none_left, none_numbered, first_so}
use Rattle.m2v_law_audit.proofs.RemovalTurns.{removals_in}
use Rattle.m2v_law_audit.proofs.ReportParts.{parts_of, begun_by_first}

-- ---- failures

failures_by_rate : (number : ℕ) (rate : Rate) (o : Option Beginning) (ds : List Due) → ((x : Beginning) → o ≡ Some x → rate ≡ x.rate) → flat_map (failures_of number rate) (removals_by o ds) ≡ failures_by number o ds
failures_by_rate number rate None ds same = refl
failures_by_rate number rate (Some x) ds same = ap (λ (r : Rate). flat_map (failures_of number r) (all_told x.buffer ds)) (same x refl)

-- the failures of the removals that are told are those of the stream, at the rate with which its account begins
pub failures_in : (text : List ℕ) (tree : Sofar) → Stream text tree → (asked : Asked) (number start : ℕ) (rate : Rate) → ((x : Beginning) → beginning_in start text tree ≡ Some x → rate ≡ x.rate)
    → flat_map (failures_of number rate) (all_removals (nothing number asked start) at_start (first_byte start text) (pieces text)) ≡ failures_of_stream number start text tree
failures_in text tree stream asked number start rate same =
    ap (flat_map (failures_of number rate)) (removals_in text tree stream asked number start) ∙ failures_by_rate number rate (beginning_in start text tree) (dues_in start text tree) same

-- ---- the rate

-- the first piece says how the account begins
pub record FirstPiece (at : ℕ) (ps : List (List ℕ)) (x : Beginning) : Type 0 where
  pub piece : List ℕ
  pub later : List (List ℕ)
  pub told : Events × Between
  pub header : SequenceInfo × SequenceExtension
  pub others : List (SequenceInfo × SequenceExtension)
  pub are : ps ≡ piece ∷ later
  pub read : piece_read at_start (at + length piece) piece ≡ Ok told
  pub noted : (notes_of at piece told.0).sequences ≡ header ∷ others
  pub rate : x.rate ≡ rate_with (sequence_of header) (notes_of at piece told.0).picture

-- no account begins without a picture
none_begins : (o : Option Sequence) (at : ℕ) (p : List ℕ) (ps : List (List ℕ)) (ns : List Numbered) (x : Beginning) → ns ≡ [] → beginning_by o at (p ∷ ps) ns ≡ Some x → ⊥
none_begins None at p ps ns x none e = absurd cc
none_begins (Some s) at p ps ns x none e = let f = ap (beginning_by (Some s) at (p ∷ ps)) (sym none) ∙ e in absurd cc

noted_first : (at : ℕ) (p : List ℕ) (own : Events) (q : Picture) (n : Numbered) → pictures_in own ≡ q ∷ [] → q ≡ n.picture → (notes_of at p own).picture ≡ Some (note_at at p n)
unfolding notes_of
noted_first at p own q n one same = ap (first_note (8 * at + code_bits p)) (one ∙ ap (λ (z : Picture). z ∷ []) same)

first_piece : (at : ℕ) (ps : List (List ℕ)) (es : Events) (x : Beginning) → BeginWith 0xB3 ps → Turns at_start ps es → beginning_by (first_in None es) at ps (all_numbered es) ≡ Some x → FirstPiece at ps x
unfolding notes_of
first_piece at [] es x begins turns e = no_piece (first_in None es) e
  where
    no_piece : (o : Option Sequence) → beginning_by o at [] (all_numbered es) ≡ Some x → FirstPiece at [] x
    no_piece None e = absurd cc
    no_piece (Some s) e = absurd cc
first_piece at (p ∷ ps) es x begins turns e =
    let u = turns.0 in
    elim (none_or_one u.own u.last) [
      | inl none ↦
          let left = none_left (length (pictures_in u.own)) u.next ps u.rest (ap length none) u.one turns.1 in
          absurd (none_begins (first_in None es) at p ps (all_numbered es) x (none_numbered None 0 false 0 0 u.own u.rest es u.are left.1 none) e)
      | inr one ↦
          let f = first_so u.own u.rest es one.0 (first_header at p u.own begins (u.fronts at)) u.are u.last u.headed one.1 in
          let s : Sequence = (f.has).header in
          let n : Numbered = (f.one).first in
          let first = f.first in
          let all = (f.one).is in
          let ns : List Numbered = numbered (last_in None u.own) (f.one).group (f.one).first_in_group 1 (f.one).frames u.rest in
          let account = begins_so s at p ps n ns x ((λ i. beginning_by (sym first i) at (p ∷ ps) (sym all i)) ∙ e) in
          record {
            piece = p;
            later = ps;
            told = (u.own, u.next);
            header = header_pair s;
            others = (f.has).others;
            are = refl;
            read = turn_read at_start p ps es u (at + length p);
            noted = (f.has).noted;
            rate = account.rate ∙ ap (rate_with s) (sym (noted_first at p u.own one.0 n one.1 (f.one).same));
          }
    ]

-- of a stream whose account begins
begins_with : (text : List ℕ) (tree : Sofar) → Stream text tree → (start : ℕ) (x : Beginning) → beginning_in start text tree ≡ Some x → FirstPiece (first_byte start text) (pieces text) x
begins_with text tree stream start x e =
    let r = in_pieces text tree stream in
    first_piece (first_byte start text) (pieces text) (events tree) x (text_begins text) r.turns (ap (λ (o : Option Sequence). beginning_by o (first_byte start text) (pieces text) (numbered_in tree)) (sym r.first) ∙ e)

-- ---- the report

-- the rate of the report is that with which the account begins
pub rate_is : (text : List ℕ) (tree : Sofar) → Stream text tree → (asked : Asked) (number start : ℕ) (x : Beginning) → beginning_in start text tree ≡ Some x → (sequence_report asked number start text).kept.rate ≡ x.rate
rate_is text tree stream asked number start x e =
    let f = begins_with text tree stream start x e in
    ap (λ (y : Option Sequence × Rate). y.1) (begun_by_first asked number start text f.piece f.later f.told f.header f.others f.are f.read f.noted) ∙ sym f.rate

-- the report of a stream tells the stream's failures, and counts them
pub tells_all_failures : (text : List ℕ) (tree : Sofar) → Stream text tree → TellsAllFailures text tree
tells_all_failures text tree stream asked number start =
    let r = sequence_report asked number start text in
    let parts = parts_of asked number start text in
    let findings = all_found (nothing number asked start) at_start (first_byte start text) (pieces text) in
    let are = failures_in text tree stream asked number start r.kept.rate (rate_is text tree stream asked number start) in
    record {
      findings = findings;
      tells = subst (Tells r.lines findings) are parts.tells;
      counted = parts.failures ∙ ap (λ (fs : List FailureRecord). more_by 0 (length fs)) are;
    }
