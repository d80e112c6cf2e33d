-- Of a stream at constant rate a report tells no breach of the verifier's rules and no failure exactly where the verifier calls the
-- stream lawful.
use Rattle.std.proofs.Common.{◌≡◌, ℕ, ◌+◌, ◌*◌, ◌≤◌, ◌↔◌, Bool, true, false, not, List, [], ◌∷◌, length, map, sum, Option, Some, None, refl, sym, ap, subst, ◌∙◌, arith, le_trans}
use Rattle.std.specs.Prelude.{if◌then◌else◌}
use Rattle.std.proofs.lemmas.List.{nil_from_length}
use Rattle.m2v_vbv.specs.declared.fault.AccountFault.{AccountFault}
use Rattle.m2v_vbv.specs.Buffer.{Buffer}
use Rattle.m2v_model.specs.declared.state.Sequence.{Sequence}
use Rattle.m2v_model.specs.PieceNotes.{note_of}
use Rattle.m2v_model.specs.Pieces.{pieces}
use Rattle.m2v_model.specs.Streams.{Sofar}
use Rattle.m2v_model.specs.Decoding.{Stream, events, pictures, frames_of, low_delay_of}
use Rattle.m2v_model.specs.ByPieces.{at_start}
use Rattle.m2v_model.specs.Lawful.{Breaches, Numbered, is_variable, breaches_of}
use Rattle.m2v_model.specs.Buffering.{BufferFigures, code_bits, account_by, account_in, unsafe_in, figures_in}
use Rattle.m2v_model.proofs.Unique.{exactly_one}
use Rattle.m2v_audit.specs.m2v_check.declared.verdict.Figures.{Figures}
use Rattle.m2v_audit.specs.m2v_check.Meaning.{IsLawful}
use Rattle.m2v_audit.specs.declared.records.Finding.{Finding}
use Rattle.m2v_audit.specs.declared.records.FailureRecord.{FailureRecord}
use Rattle.m2v_audit.specs.declared.report.Rate.{Rate}
use Rattle.m2v_audit.specs.HeaderRecords.{rate_with}
use Rattle.m2v_audit.specs.Opening.{has_account, buffer_at_first}
use Rattle.m2v_audit.specs.declared.asked.Asked.{Asked}
use Rattle.m2v_law_audit.specs.Sequences.{first_byte, sequence_report}
use Rattle.m2v_law_audit.specs.Parts.{more_by}
use Rattle.m2v_law_audit.specs.Accounts.{Beginning, with_buffer, beginning_by, beginning_in, dues_in, numbered_in, failures_by, failures_of_stream, FirstAgree}
use Rattle.m2v_law_audit.specs.Found.{findings_of, judged_in}
use Rattle.m2v_law_audit.specs.Verdicts.{FindsNothing, FindsNothingWhereLawful, IsClean, LawfulWhereClean}
use Rattle.m2v_law_audit.proofs.AccountFailures.{begins_so}
use Rattle.m2v_law_audit.proofs.AccountDues.{few_numbered}
use Rattle.m2v_law_audit.proofs.AccountReading.{in_pieces, few_pictures}
use Rattle.m2v_law_audit.proofs.AccountChecked.{fails_as_checked}
use Rattle.m2v_law_audit.proofs.RemovalFailures.{tells_all_failures}
use Rattle.m2v_law_audit.proofs.ReportParts.{parts_of}
use Rattle.m2v_law_audit.proofs.BreachTexts.{as_many}
use Rattle.m2v_law_audit.proofs.VerdictRules.{Keeps, keeps_where}

-- ---- failures

-- where the first vbv_delay doesn't say that the rate is variable, the account begins at constant rate
constant_so : (o : Option Sequence) (at : ℕ) (ps : List (List ℕ)) (ns : List Numbered) (x : Beginning) → beginning_by o at ps ns ≡ Some x → is_variable ns ≡ false → x.rate.constant ≡ true
constant_so None at ps ns x e steady = absurd cc
constant_so (Some s) at [] ns x e steady = absurd cc
constant_so (Some s) at (p ∷ ps) [] x e steady = absurd cc
constant_so (Some s) at (p ∷ ps) (n ∷ ns) x e steady = ap (λ (r : Rate). r.constant) (begins_so s at p ps n ns x e).rate ∙ ap not steady

-- by a header that has an account one begins
some_begins : (has : Bool) (rate : Rate) (b : Buffer) → has ≡ true → with_buffer rate (if has then Some b else None) ≡ None → ⊥
some_begins true rate b h e = absurd cc
some_begins false rate b h e = absurd cc

-- where the first sequence header has an account and none begins, there is no header or no picture, and nothing is unsafe
none_unsafe : (low_delay : Bool) (o : Option Sequence) (at : ℕ) (ps : List (List ℕ)) (ns : List Numbered) → length ns ≤ length ps → ((s : Sequence) → o ≡ Some s → has_account s ≡ true) → beginning_by o at ps ns ≡ None
    → unsafe_in (account_by low_delay o ps ns) ≡ []
none_unsafe low_delay None at ps ns le has e = refl
none_unsafe low_delay (Some s) at ps [] le has e = refl
none_unsafe low_delay (Some s) at [] (n ∷ ns) le has e = absurd (omega (arith, le))
none_unsafe low_delay (Some s) at (p ∷ ps) (n ∷ ns) le has e =
    let note = note_of (8 * at + code_bits p) n.picture in
    absurd (some_begins (has_account s) (rate_with s (Some note)) (buffer_at_first s note (code_bits p)) (has s refl) e)

-- where the first ones agree, neither has one or both have
none_both : (fs : List FailureRecord) (gs : List AccountFault) → FirstAgree fs gs → (fs ≡ []) ↔ (gs ≡ [])
none_both [] [] h = (λ e. refl, λ e. refl)
none_both [] (g ∷ gs) h = absurd h
none_both (f ∷ fs) [] h = absurd h
none_both (f ∷ fs) (g ∷ gs) h = (λ e. absurd cc, λ e. absurd cc)

-- by how the account begins, if one does
none_by : (text : List ℕ) (tree : Sofar) → Stream text tree → is_variable (numbered_in tree) ≡ false → Keeps (events tree) → (number start : ℕ) (o : Option Beginning) → beginning_in start text tree ≡ o
    → (failures_of_stream number start text tree ≡ []) ↔ (unsafe_in (account_in text tree) ≡ [])
none_by text tree stream steady keeps number start None e =
    let r = in_pieces text tree stream in
    let ns = numbered_in tree in
    let few : length ns ≤ length (pieces text) = le_trans (few_numbered None 0 false 0 0 (events tree)) (few_pictures at_start (pieces text) (events tree) r.turns) in
    let safe = none_unsafe (low_delay_of tree.state.first) tree.state.first (first_byte start text) (pieces text) ns few (λ s is. keeps.account s (sym r.first ∙ is)) e in (
      λ none. safe,
      λ none. ap (λ (o : Option Beginning). failures_by number o (dues_in start text tree)) e,
    )
none_by text tree stream steady keeps number start (Some x) e =
    let constant = constant_so tree.state.first (first_byte start text) (pieces text) (numbered_in tree) x e steady in
    none_both (failures_of_stream number start text tree) (unsafe_in (account_in text tree)) (fails_as_checked text tree stream number start x e constant keeps.once)

-- no failure is told exactly where nothing is unsafe, of a stream at constant rate that keeps the rules
none_where_safe : (text : List ℕ) (tree : Sofar) → Stream text tree → is_variable (numbered_in tree) ≡ false → breaches_of tree ≡ [] → (number start : ℕ)
    → (failures_of_stream number start text tree ≡ []) ↔ (unsafe_in (account_in text tree) ≡ [])
none_where_safe text tree stream steady lawful number start =
    none_by text tree stream steady (keeps_where (low_delay_of tree.state.first) (events tree) steady lawful) number start (beginning_in start text tree) refl

-- ---- verdicts

-- where none is counted there is none
pub uncounted : (n : ℕ) → more_by 0 n ≡ 0 → n ≡ 0
uncounted n e = omega (arith, e)

lawful_where_finds : (text : List ℕ) (tree : Sofar) → Stream text tree → (asked : Asked) (number start : ℕ)
    → FindsNothing asked number start text → is_variable (numbered_in tree) ≡ false → (f : Figures) × IsLawful text f
lawful_where_finds text tree stream asked number start found steady =
    let bs : Breaches = breaches_of tree in
    let fs : List FailureRecord = failures_of_stream number start text tree in
    let lawful : bs ≡ [] =
    nil_from_length bs (sym (as_many text tree stream asked number start) ∙ ap (λ (l : List Finding). length l) found.0) in
    let none : fs ≡ [] = nil_from_length fs (uncounted (length fs) (sym (tells_all_failures text tree stream asked number start).counted ∙ found.1)) in
    let b : BufferFigures = figures_in text tree in
    let f : Figures = record {
      frames = length (frames_of tree);
      pictures = length (pictures tree);
      bytes = sum (map length (pieces text));
      low = b.low;
      high = b.high;
      delays = b.delays;
    } in (
      f,
      record {
        lawful = record { tree = tree; stream = stream; lawful = lawful };
        constant = record { tree = tree; stream = stream; rate = steady };
        safe = record { tree = tree; stream = stream; safe = (none_where_safe text tree stream steady lawful number start).0 none };
        counts = record { tree = tree; stream = stream; frames = refl; pictures = refl; bytes = refl };
        buffer = record { tree = tree; stream = stream; figures = refl };
      },
    )

finds_where_lawful : (text : List ℕ) (tree : Sofar) → Stream text tree → (asked : Asked) (number start : ℕ) (f : Figures) → IsLawful text f
    → FindsNothing asked number start text × (is_variable (numbered_in tree) ≡ false)
finds_where_lawful text tree stream asked number start f is =
    let one = λ (t : Sofar) (s : Stream text t). (exactly_one text).one_tree t tree s stream in
    let lawful : breaches_of tree ≡ [] = subst (λ (t : Sofar). breaches_of t ≡ []) (one is.lawful.tree is.lawful.stream) is.lawful.lawful in
    let steady : is_variable (numbered_in tree) ≡ false = subst (λ (t : Sofar). is_variable (numbered_in t) ≡ false) (one is.constant.tree is.constant.stream) is.constant.rate in
    let safe : unsafe_in (account_in text tree) ≡ [] = subst (λ (t : Sofar). unsafe_in (account_in text t) ≡ []) (one is.safe.tree is.safe.stream) is.safe.safe in
    let none = (none_where_safe text tree stream steady lawful number start).1 safe in
    let found : List Finding = judged_in (findings_of asked number start text) in (
      (
        nil_from_length found (as_many text tree stream asked number start ∙ ap (λ (bs : Breaches). length bs) lawful),
        (tells_all_failures text tree stream asked number start).counted ∙ ap (λ (fs : List FailureRecord). more_by 0 (length fs)) none,
      ),
      steady,
    )

-- nothing is found, and the rate isn't variable, exactly where the verifier calls the stream lawful
pub finds_nothing_where_lawful : (text : List ℕ) (tree : Sofar) → Stream text tree → FindsNothingWhereLawful text tree
finds_nothing_where_lawful text tree stream asked number start = (
  λ h. lawful_where_finds text tree stream asked number start h.0 h.1,
  λ l. finds_where_lawful text tree stream asked number start l.0 l.1,
)

-- where a report counts no breach at all it tells none of these rules
finds_where_clean : (asked : Asked) (number start : ℕ) (text : List ℕ) → IsClean (sequence_report asked number start text)
    → FindsNothing asked number start text
finds_where_clean asked number start text clean =
    let fs : List Finding = findings_of asked number start text in
    let none : fs ≡ [] = nil_from_length fs (uncounted (length fs) (sym (parts_of asked number start text).breaches ∙ clean.0)) in
    (ap (λ (l : List Finding). judged_in l) none, clean.1)

pub lawful_where_clean : (text : List ℕ) (tree : Sofar) → Stream text tree → LawfulWhereClean text tree
lawful_where_clean text tree stream asked number start clean steady =
    lawful_where_finds text tree stream asked number start (finds_where_clean asked number start text clean) steady
