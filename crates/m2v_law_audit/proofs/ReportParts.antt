-- The report of a sequence tells what its pieces tell, and counts it.
use Rattle.std.proofs.Common.{◌≡◌, ℕ, ◌+◌, List, [], ◌∷◌, ◌++◌, length, Option, Some, None, Ok, Err, refl, sym, ap, subst, ◌∙◌, arith}
use Rattle.std.specs.List.{flat_map}
use Rattle.std.proofs.lemmas.Grind.{flat_map-append}
use Rattle.m2v_model.specs.m2v_macroblock.m2v_head.declared.sequence.SequenceInfo.{SequenceInfo}
use Rattle.m2v_model.specs.m2v_macroblock.m2v_head.declared.sequence.SequenceExtension.{SequenceExtension}
use Rattle.m2v_model.specs.declared.state.Sequence.{Sequence}
use Rattle.m2v_model.specs.Pictures.{Events}
use Rattle.m2v_model.specs.Pieces.{pieces}
use Rattle.m2v_model.specs.PieceNotes.{PieceNotes, notes_of}
use Rattle.m2v_model.specs.ByPieces.{Between, Course, at_start, piece_read}
use Rattle.m2v_audit.specs.declared.auditing.Auditing.{Auditing}
use Rattle.m2v_audit.specs.declared.records.Finding.{Finding}
use Rattle.m2v_audit.specs.declared.records.FailureRecord.{FailureRecord}
use Rattle.m2v_audit.specs.declared.report.Rate.{Rate}
use Rattle.m2v_audit.specs.Account.{Told}
use Rattle.m2v_audit.specs.Auditing.{nothing, sequence_of, cleared, after_piece, ended, ended_by}
use Rattle.m2v_audit.specs.HeaderRecords.{rate_with}
use Rattle.m2v_audit.specs.Report.{Report}
use Rattle.m2v_audit.specs.declared.asked.Asked.{Asked}
use Rattle.m2v_law_audit.specs.Sequences.{SequenceReport, at_end, behind, by_piece, reported, first_byte, sequence_report}
use Rattle.m2v_law_audit.specs.Parts.{Tells, more_by, Adds}
use Rattle.m2v_law_audit.specs.Found.{failures_of, piece_found, end_found_by, end_found, piece_removals, left_in, along, all_along, all_found, all_removals}
use Rattle.m2v_law_audit.proofs.PartsJoined.{IsOf, none_told, both_tell, counted_on, none_more, of_then}
use Rattle.m2v_law_audit.proofs.PartsPieces.{piece_adds, finished_adds}
use Rattle.m2v_law_audit.proofs.PartsKept.{beginning_of, stays_after, begun_with, IsBare, bare_behind, none_removed, none_left}

-- its lines were taken away, no more was counted than 64 bits can count, and without a sequence nothing waits
pub record IsReady (a : Auditing) : Type 0 where
  pub text : a.report.text ≡ []
  pub counts : IsOf a.report.sequence a.report
  pub bare : a.first ≡ None → IsBare a

abbrev pub failures_by : Auditing → SequenceReport → List Told → List FailureRecord
failures_by a r ts = flat_map (failures_of a.report.sequence r.kept.rate) ts

-- from here on these breaches are told, and of these removals the failures; and a sequence that began stays
pub record Reports (a : Auditing) (r : SequenceReport) (bs : List Finding) (ts : List Told) : Type 0 where
  pub tells : Tells r.lines bs (failures_by a r ts)
  pub breaches : r.kept.report.tally.breaches ≡ more_by a.report.tally.breaches (length bs)
  pub failures : r.kept.report.tally.failures ≡ more_by a.report.tally.failures (length (failures_by a r ts))
  pub stays : (s : Sequence) → a.first ≡ Some s → beginning_of r.kept ≡ beginning_of a

-- what came behind no lines
told_alone : {old new : Report} {bs : List Finding} {fs : List FailureRecord} → old.text ≡ [] → Adds old new bs fs → Tells new.text bs fs
told_alone {old} {new} {bs} {fs} none h =
    subst (λ (t : List ℕ). Tells t bs fs) (sym (h.grown ∙ ap (λ (t : List ℕ). t ++ h.text) none)) h.tells

-- ---- the end

abbrev pub end_by : Auditing → Option Sequence → SequenceReport
end_by a first = record { lines = (ended_by first a).report.text; kept = ended_by first a }

ends_by : (a : Auditing) (first : Option Sequence) → a.first ≡ first → IsReady a → Reports a (end_by a first) (end_found_by first a) (left_in a.account)
ends_by a None e ready =
    let bare = ready.bare e in
    let r = end_by a None in
    let nothing_told : Reports a r [] [] = record {
      tells = subst (λ (t : List ℕ). Tells t [] []) (sym ready.text) none_told;
      breaches = none_more a.report.tally.breaches ready.counts.breaches;
      failures = none_more a.report.tally.failures ready.counts.failures;
      stays = λ s f. refl;
    } in
    subst (λ (ts : List Told). Reports a r [] ts) (sym (none_left a bare)) nothing_told
ends_by a (Some first) e ready =
    let h = finished_adds a ready.counts in
    record {
      tells = told_alone ready.text h;
      breaches = h.breached;
      failures = h.failed;
      stays = λ s f. refl;
    }

ends : (a : Auditing) → IsReady a → Reports a (at_end a) (end_found a) (left_in a.account)
unfolding ended
ends a ready = ends_by a a.first refl ready

-- ---- a piece

-- where no sequence began, no removal is told; else the rate stays
same_failures : (n : ℕ) (first : Option Sequence) (rate last : Rate) (ts : List Told) → (first ≡ None → ts ≡ []) → ((s : Sequence) → first ≡ Some s → last ≡ rate)
    → flat_map (failures_of n rate) ts ≡ flat_map (failures_of n last) ts
same_failures n None rate last ts none same = ap (λ (xs : List Told). flat_map (failures_of n rate) xs) (none refl) ∙ sym (ap (λ (xs : List Told). flat_map (failures_of n last) xs) (none refl))
same_failures n (Some s) rate last ts none same = sym (ap (λ (x : Rate). flat_map (failures_of n x) ts) (same s refl))

ready_after : (a : Auditing) (place : ℕ) (piece : List ℕ) (notes : PieceNotes) → IsReady a → IsReady (cleared (after_piece a place piece notes))
ready_after a place piece notes ready =
    let h = piece_adds a place piece notes ready.counts in
    let of = of_then ready.counts h in
    record {
      text = refl;
      counts = record { is = refl; breaches = of.breaches; failures = of.failures };
      bare = bare_behind a place piece notes ready.bare;
    }

piece_reports : (a : Auditing) (place : ℕ) (piece : List ℕ) (notes : PieceNotes) (r : SequenceReport) (bs : List Finding) (ts : List Told) → IsReady a
    → Reports (cleared (after_piece a place piece notes)) r bs ts
    → Reports a (behind (after_piece a place piece notes).report.text r) (piece_found a place piece notes ++ bs) (piece_removals a place piece notes ++ ts)
piece_reports a place piece notes r bs ts ready rest =
    let b : Auditing = after_piece a place piece notes in
    let h = piece_adds a place piece notes ready.counts in
    let found = piece_found a place piece notes in
    let gone = piece_removals a place piece notes in
    let n = a.report.sequence in
    let here : flat_map (failures_of n b.rate) gone ≡ flat_map (failures_of n r.kept.rate) gone =
    same_failures n b.first b.rate r.kept.rate gone (none_removed a place piece notes ready.bare) (λ s e. ap (λ (x : Option Sequence × Rate). x.1) (rest.stays s e)) in
    let later : flat_map (failures_of b.report.sequence r.kept.rate) ts ≡ flat_map (failures_of n r.kept.rate) ts =
    ap (λ (k : ℕ). flat_map (failures_of k r.kept.rate) ts) h.sequence in
    let both : flat_map (failures_of n b.rate) gone ++ flat_map (failures_of b.report.sequence r.kept.rate) ts ≡ flat_map (failures_of n r.kept.rate) (gone ++ ts) =
    ap (λ (l : List FailureRecord). l ++ flat_map (failures_of b.report.sequence r.kept.rate) ts) here
    ∙ ap (λ (l : List FailureRecord). flat_map (failures_of n r.kept.rate) gone ++ l) later
    ∙ sym (flat_map-append (failures_of n r.kept.rate) gone ts) in
    record {
      tells = subst (λ (fs : List FailureRecord). Tells (b.report.text ++ r.lines) (found ++ bs) fs) both (both_tell (told_alone ready.text h) rest.tells);
      breaches = counted_on a.report.tally.breaches b.report.tally.breaches r.kept.report.tally.breaches found bs h.breached rest.breaches;
      failures =
          counted_on a.report.tally.failures b.report.tally.failures r.kept.report.tally.failures _ _ h.failed rest.failures
          ∙ ap (λ (fs : List FailureRecord). more_by a.report.tally.failures (length fs)) both;
      stays = λ s e.
          let stays = stays_after a place piece notes s e in
          rest.stays s (ap (λ (x : Option Sequence × Rate). x.0) stays ∙ e) ∙ stays;
    }

-- ---- pieces

-- what holds from a byte on, whatever was read and told before
abbrev Onward : ℕ → List (List ℕ) → Type 0
Onward at ps = (a : Auditing) (b : Between) → IsReady a → Reports a (reported a b at ps) (all_found a b at ps) (all_removals a b at ps)

one_more : (a : Auditing) (at : ℕ) (p : List ℕ) (ps : List (List ℕ)) (read : Course) → IsReady a → Onward (at + length p) ps
    → Reports a (by_piece a at p read (λ a' b'. reported a' b' (at + length p) ps))
    (along piece_found end_found a at p read (λ a' b'. all_found a' b' (at + length p) ps))
    (along piece_removals (λ x. left_in x.account) a at p read (λ a' b'. all_removals a' b' (at + length p) ps))
one_more a at p ps (Ok read) ready rest =
    let to = at + length p in
    let notes = notes_of at p read.0 in
    let next = cleared (after_piece a at p notes) in
    piece_reports a at p notes (reported next read.1 to ps) (all_found next read.1 to ps) (all_removals next read.1 to ps) ready
    (rest next read.1 (ready_after a at p notes ready))
one_more a at p ps (Err f) ready rest = ends a ready

pub parts_onward : (a : Auditing) (b : Between) (at : ℕ) (ps : List (List ℕ)) → IsReady a → Reports a (reported a b at ps) (all_found a b at ps) (all_removals a b at ps)
unfolding reported all_along
parts_onward a b at [] ready = ends a ready
parts_onward a b at (p ∷ ps) ready =
    one_more a at p ps (piece_read b (at + length p) p) ready (λ a' b' ready'. parts_onward a' b' (at + length p) ps ready')

-- ---- a whole sequence

begins_ready : (number start : ℕ) (asked : Asked) → IsReady (nothing number asked start)
begins_ready number start asked = record {
  text = refl;
  counts = record { is = refl; breaches = omega arith; failures = omega arith };
  bare = λ none. record { sequence = refl; anchor = refl; begun = refl; account = refl };
}

pub parts_of : (asked : Asked) (number start : ℕ) (text : List ℕ) →
    let a = nothing number asked start in
    let at = first_byte start text in
    Reports a (sequence_report asked number start text) (all_found a at_start at (pieces text)) (all_removals a at_start at (pieces text))
parts_of asked number start text = parts_onward (nothing number asked start) at_start (first_byte start text) (pieces text) (begins_ready number start asked)

-- a sequence that begins with its first piece stays as that says, by its first header and its picture
begun_first : (a : Auditing) (at : ℕ) (p : List ℕ) (ps : List (List ℕ)) (x : Events × Between) (s : SequenceInfo × SequenceExtension) (ss : List (SequenceInfo × SequenceExtension)) → IsReady a → a.first ≡ None → (notes_of at p x.0).sequences ≡ s ∷ ss
    → beginning_of (by_piece a at p (Ok x) (λ a' b'. reported a' b' (at + length p) ps)).kept ≡ (Some (sequence_of s), rate_with (sequence_of s) (notes_of at p x.0).picture)
begun_first a at p ps x s ss ready none e =
    let notes = notes_of at p x.0 in
    let told = after_piece a at p notes in
    let begins : beginning_of told ≡ (Some (sequence_of s), rate_with (sequence_of s) notes.picture) = begun_with a at p notes s ss none e in
    (parts_onward (cleared told) x.1 (at + length p) ps (ready_after a at p notes ready)).stays (sequence_of s) (ap (λ (y : Option Sequence × Rate). y.0) begins) ∙ begins

pub begun_by_first : (asked : Asked) (number start : ℕ) (text p : List ℕ) (ps : List (List ℕ)) (x : Events × Between) (s : SequenceInfo × SequenceExtension) (ss : List (SequenceInfo × SequenceExtension)) →
    let at = first_byte start text in
    pieces text ≡ p ∷ ps → piece_read at_start (at + length p) p ≡ Ok x → (notes_of at p x.0).sequences ≡ s ∷ ss
    → beginning_of (sequence_report asked number start text).kept ≡ (Some (sequence_of s), rate_with (sequence_of s) (notes_of at p x.0).picture)
unfolding reported
begun_by_first asked number start text p ps x s ss whole read e =
    let at = first_byte start text in
    let a = nothing number asked start in
    ap (λ (l : List (List ℕ)). beginning_of (reported a at_start at l).kept) whole
    ∙ ap (λ (r : Course). beginning_of (by_piece a at p r (λ a' b'. reported a' b' (at + length p) ps)).kept) read
    ∙ begun_first a at p ps x s ss (begins_ready number start asked) refl e
