-- The report of a stream counts its frames, pictures and bytes; of one that the verifier calls lawful it has the verifier's
-- figures.
use Rattle.std.proofs.Common.{◌≡◌, ℕ, ◌+◌, ◌-◌, ◌*◌, ◌^◌, ◌≤◌, ◌<◌, Bool, true, false, not, List, [], ◌∷◌, ◌++◌, length, map, Option, Some, None, inl, inr, refl, sym, ap, subst, ◌∙◌, arith, le_trans}
use Rattle.std.specs.Prelude.{drop, nat_eq, if◌then◌else◌}
use Rattle.std.specs.List.{AllByRecursion}
use Rattle.std.specs.Option.{unwrap_or}
use Rattle.std.proofs.lemmas.Bool.{not-true}
use Rattle.std.proofs.lemmas.List.{nil_from_length, append-nil}
use Rattle.std.proofs.lemmas.List.Sums.{sum_by-cons}
use Rattle.m2v_vbv.specs.Annex.{Removal, removed}
use Rattle.m2v_vbv.specs.Buffer.{Buffer, constant_start, removals, left, tells}
use Rattle.m2v_vbv.specs.Deliveries.{NoneFails}
use Rattle.m2v_model.specs.declared.state.Sequence.{Sequence}
use Rattle.m2v_model.specs.PieceNotes.{note_of}
use Rattle.m2v_model.specs.Pieces.{pieces}
use Rattle.m2v_model.specs.Streams.{Sofar}
use Rattle.m2v_model.specs.Pictures.{Events, pictures_in}
use Rattle.m2v_model.specs.Decoding.{Stream, events, frames_of, low_delay_of}
use Rattle.m2v_model.specs.Decoding.{pictures as stream_pictures}
use Rattle.m2v_model.specs.ByPieces.{at_start}
use Rattle.m2v_model.specs.Lawful.{Numbered, is_variable, breaches_of}
use Rattle.m2v_model.specs.Buffering.{BufferFigures, StreamAccount, bits_of_piece, code_bits, codes, account_from, account_by, exact_delays, exact_delays_from, other_delays, figures_of, figures_in}
use Rattle.m2v_model.proofs.Unique.{exactly_one}
use Rattle.m2v_audit.specs.m2v_check.declared.verdict.Figures.{Figures}
use Rattle.m2v_audit.specs.m2v_check.Meaning.{IsLawful, buffer_figures}
use Rattle.m2v_audit.specs.declared.account.Due.{Due}
use Rattle.m2v_audit.specs.declared.records.FailureRecord.{FailureRecord}
use Rattle.m2v_audit.specs.declared.report.Rate.{Rate}
use Rattle.m2v_audit.specs.Account.{pictures, all_told}
use Rattle.m2v_audit.specs.HeaderRecords.{rate_with}
use Rattle.m2v_audit.specs.Opening.{has_account, varies, step_of, start_of, buffer_at_first}
use Rattle.m2v_audit.specs.Times.{Times, opened}
use Rattle.m2v_audit.proofs.m2v_check.Ordered.{code_within}
use Rattle.m2v_audit.proofs.m2v_check.Onward.{none_or_one}
use Rattle.m2v_audit.specs.declared.asked.Asked.{Asked}
use Rattle.m2v_law_audit.specs.Sequences.{first_byte, sequence_report}
use Rattle.m2v_law_audit.specs.Parts.{more_by}
use Rattle.m2v_law_audit.specs.Accounts.{Beginning, with_buffer, dues_from, dues_by, dues_in, beginning_by, beginning_in, numbered_in, removals_by, failures_by, failures_of_stream, IsOnceAmong}
use Rattle.m2v_law_audit.specs.Figures.{CountsAll, TellsFigures}
use Rattle.m2v_law_audit.proofs.AccountFailures.{Begins, begins_so, none_of_all}
use Rattle.m2v_law_audit.proofs.AccountDues.{bits_are, removals_are, EndsSo, InTurn, dues_in_turn, in_turn, few_numbered, all_end}
use Rattle.m2v_law_audit.proofs.AccountReading.{Turns, in_pieces, few_pictures}
use Rattle.m2v_law_audit.proofs.RemovalEvents.{none_left}
use Rattle.m2v_law_audit.proofs.RemovalTurns.{removals_in}
use Rattle.m2v_law_audit.proofs.RemovalFailures.{rate_is, tells_all_failures}
use Rattle.m2v_law_audit.proofs.VerdictRules.{keeps_where}
use Rattle.m2v_law_audit.proofs.VerdictLaws.{uncounted, finds_nothing_where_lawful}
use Rattle.m2v_law_audit.proofs.FigureTallies.{Levels, levels_in, with_all, levels_told}
use Rattle.m2v_law_audit.proofs.FigureCounts.{Numbers, counts_of}
use Rattle.m2v_law_audit.proofs.FigureLevels.{StandBehind, off_of, delays_are, keeps_figures}
use Rattle.m2v_law_audit.proofs.FigureFrames.{frames_counted, few_pieces}

-- ---- with a first sequence header, a first piece and a first picture

-- the first picture start code stands in the first piece
abbrev FirstFits : List (List ℕ) → List Numbered → Type 0
FirstFits [] ns = Unit {0}
FirstFits (p ∷ ps) [] = Unit {0}
FirstFits (p ∷ ps) (n ∷ ns) = code_bits p ≤ bits_of_piece p

first_fits : (ps : List (List ℕ)) (es : Events) (ns : List Numbered) → Turns at_start ps es → length ns ≤ length (pictures_in es) → FirstFits ps ns
first_fits [] es ns turns few = tt
first_fits (p ∷ ps) es [] turns few = tt
first_fits (p ∷ ps) es (n ∷ ns) turns few =
    let u = turns.0 in
    elim (none_or_one u.own u.last) [
      | inl none ↦
          let rest = (none_left (length (pictures_in u.own)) u.next ps u.rest (ap length none) u.one turns.1).1 in
          let all : pictures_in es ≡ [] = ap pictures_in (u.are ∙ ap (λ (l : Events). u.own ++ l) rest ∙ append-nil u.own) ∙ none in
          absurd (omega (arith, few, ap length all))
      | inr one ↦ code_within at_start p u.own u.next u.read refl (λ none. let d = sym one.1 ∙ none in absurd cc)
    ]

stands : (t : Times) (at : ℕ) (p : List ℕ) (ps : List (List ℕ)) (n : Numbered) (ns : List Numbered) → code_bits p ≤ bits_of_piece p → StandBehind (code_bits p) 0 (dues_from t at (p ∷ ps) (n ∷ ns))
unfolding dues_from
stands t at p ps n [] le = let all = sum_by-cons (λ (x : ℕ). x) (bits_of_piece p) (map bits_of_piece ps) in (omega arith, omega (arith, le, all))
stands t at p ps n (m ∷ ns) le = (omega arith, omega (arith, le))

-- what is kept are these figures
record AreFigures (x : Levels) (f : BufferFigures) : Type 0 where
  low : unwrap_or x.0 0 ≡ f.low
  high : x.1 ≡ f.high
  delays : x.2 ≡ f.delays

few_delays : (ns : List Numbered) (ds : List ℕ) → other_delays ns ds ≤ length ns
unfolding other_delays
few_delays [] ds = omega arith
few_delays (n ∷ ns) [] = omega arith
few_delays (n ∷ ns) (d ∷ ds) = let more = few_delays ns ds in omega (arith, more, one_at_most (nat_eq n.picture.info.vbv_delay d))
  where
    one_at_most : (b : Bool) → (if b then 0 else 1) ≤ 1
    one_at_most true = omega arith
    one_at_most false = omega arith

begun_figures : (at : ℕ) (s : Sequence) (p : List ℕ) (ps : List (List ℕ)) (n : Numbered) (ns : List Numbered) (x : Beginning) → Begins s at p n x → x.rate.constant ≡ true → AllByRecursion IsOnceAmong (n ∷ ns) → AllByRecursion EndsSo (n ∷ ns)
    → length (n ∷ ns) ≤ length (p ∷ ps) → length (n ∷ ns) ≤ 2 ^ 64 - 1 → InTurn 0 (n ∷ ns) → code_bits p ≤ bits_of_piece p
    → let ds : List Due = dues_from (opened s.extension.low_delay s.info.frame_rate_code) at (p ∷ ps) (n ∷ ns) in NoneFails (tells x.buffer (pictures ds) 0)
    → AreFigures (with_all true (None, 0, 0) (all_told x.buffer ds)) (figures_of (p ∷ ps) (n ∷ ns) (Some (account_from s.extension.low_delay s n (p ∷ ps) (n ∷ ns))))
unfolding figures_of
begun_figures at s p ps n ns x h constant once ends le most turn fits none =
    let t : Times = opened s.extension.low_delay s.info.frame_rate_code in
    let ds : List Due = dues_from t at (p ∷ ps) (n ∷ ns) in
    let a : StreamAccount = account_from s.extension.low_delay s n (p ∷ ps) (n ∷ ns) in
    let note = note_of (8 * at + code_bits p) n.picture in
    let off : varies note ≡ false = not-true (varies note) (sym (ap (λ (r : Rate). r.constant) h.rate) ∙ constant) in
    let buffer : x.buffer ≡ constant_start (start_of s note (code_bits p)) (step_of s) = h.buffer ∙ rw off refl in
    let bits : removed (removals (pictures ds)) ≡ a.total = bits_are t at p ps n ns (omega (arith, le)) in
    let total : left (pictures ds) 0 ≡ a.total = omega (arith, bits) in
    let are : removals (pictures ds) ≡ a.removals = removals_are s.extension.low_delay s.info.frame_rate_code at (p ∷ ps) (n ∷ ns) le once ends in
    let k = keeps_figures a (step_of s) ds (dues_in_turn 0 t at (p ∷ ps) (n ∷ ns) turn) total are (stands t at p ps n ns fits) (subst (λ (b : Buffer). NoneFails (tells b (pictures ds) 0)) buffer none) in
    let others : off_of a.start ds ≡ other_delays ns (drop 1 (exact_delays (p ∷ ps) a)) =
    delays_are a.start t at (p ∷ ps) (n ∷ ns) le ∙ ap (λ (rs : List Removal). other_delays ns (drop 1 (exact_delays_from a.start [] (codes 0 (p ∷ ps)) rs))) are in
    let few = few_delays ns (drop 1 (exact_delays (p ∷ ps) a)) in
    let delays : more_by 0 (off_of a.start ds) ≡ other_delays ns (drop 1 (exact_delays (p ∷ ps) a)) = omega (arith, others, few, most) in
    subst (λ (b : Buffer). AreFigures (with_all true (None, 0, 0) (all_told b ds)) (figures_of (p ∷ ps) (n ∷ ns) (Some a))) (sym buffer)
    (record { low = k.low; high = k.high; delays = k.delays_kept ∙ delays })

-- ---- with those that there are

figures_by : (at : ℕ) (o : Option Sequence) (ps : List (List ℕ)) (ns : List Numbered) (constant : Bool) → length ns ≤ length ps → length ns ≤ 2 ^ 64 - 1 → ((s : Sequence) → o ≡ Some s → has_account s ≡ true) → is_variable ns ≡ false
    → AllByRecursion IsOnceAmong ns → AllByRecursion EndsSo ns → InTurn 0 ns → FirstFits ps ns
    → ((x : Beginning) → beginning_by o at ps ns ≡ Some x → (constant ≡ x.rate.constant) × NoneFails (tells x.buffer (pictures (dues_by o at ps ns)) 0))
    → AreFigures (with_all constant (None, 0, 0) (removals_by (beginning_by o at ps ns) (dues_by o at ps ns))) (figures_of ps ns (account_by (low_delay_of o) o ps ns))
unfolding figures_of
figures_by at None ps ns constant le most has steady once ends turn fits begins = record { low = refl; high = refl; delays = refl }
figures_by at (Some s) [] [] constant le most has steady once ends turn fits begins = record { low = refl; high = refl; delays = refl }
figures_by at (Some s) (p ∷ ps) [] constant le most has steady once ends turn fits begins = record { low = refl; high = refl; delays = refl }
figures_by at (Some s) [] (n ∷ ns) constant le most has steady once ends turn fits begins = absurd (omega (arith, le))
figures_by at (Some s) (p ∷ ps) (n ∷ ns) constant le most has steady once ends turn fits begins =
    let note = note_of (8 * at + code_bits p) n.picture in
    let rate : Rate = rate_with s (Some note) in
    let buffer : Buffer = buffer_at_first s note (code_bits p) in
    let x : Beginning = record { rate = rate; buffer = buffer } in
    let ds : List Due = dues_by (Some s) at (p ∷ ps) (n ∷ ns) in
    let f : BufferFigures = figures_of (p ∷ ps) (n ∷ ns) (Some (account_from s.extension.low_delay s n (p ∷ ps) (n ∷ ns))) in
    let e : beginning_by (Some s) at (p ∷ ps) (n ∷ ns) ≡ Some x = ap (λ (w : Bool). with_buffer rate (if w then Some buffer else None)) (has s refl) in
    let on : rate.constant ≡ true = ap not steady in
    let is = begins x e in
    subst (λ (o : Option Beginning). AreFigures (with_all constant (None, 0, 0) (removals_by o ds)) f) (sym e)
    (subst (λ (c : Bool). AreFigures (with_all c (None, 0, 0) (all_told buffer ds)) f) (sym (is.0 ∙ on))
    (begun_figures at s p ps n ns x (begins_so s at p ps n ns x e) on once ends le most turn fits is.1))

-- ---- the report

-- none of its removals fails
none_fails : (text : List ℕ) (tree : Sofar) (number start : ℕ) (x : Beginning) → failures_of_stream number start text tree ≡ [] → beginning_in start text tree ≡ Some x → NoneFails (tells x.buffer (pictures (dues_in start text tree)) 0)
none_fails text tree number start x none e =
    let ds = dues_in start text tree in
    (none_of_all number x.rate x.buffer ds).0 (sym (ap (λ (o : Option Beginning). failures_by number o ds) e) ∙ none)

-- what is kept of a stream that the verifier calls lawful are the figures of its account
kept_figures : (text : List ℕ) (tree : Sofar) → Stream text tree → length text < 2 ^ 64 → (f : Figures) → IsLawful text f → (asked : Asked) (number start : ℕ)
    → AreFigures (levels_in (sequence_report asked number start text).kept.report) (figures_in text tree)
kept_figures text tree stream lt f is asked number start =
    let r = in_pieces text tree stream in
    let kept = sequence_report asked number start text in
    let at = first_byte start text in
    let ns = numbered_in tree in
    let same : is.lawful.tree ≡ tree = (exactly_one text).one_tree is.lawful.tree tree is.lawful.stream stream in
    let lawful : breaches_of tree ≡ [] = subst (λ (t : Sofar). breaches_of t ≡ []) same is.lawful.lawful in
    let finds = (finds_nothing_where_lawful text tree stream asked number start).1 (f, is) in
    let keeps = keeps_where (low_delay_of tree.state.first) (events tree) finds.1 lawful in
    let fs : List FailureRecord = failures_of_stream number start text tree in
    let none : fs ≡ [] = nil_from_length fs (uncounted (length fs) (sym (tells_all_failures text tree stream asked number start).counted ∙ finds.0.1)) in
    let numbered = few_numbered None 0 false 0 0 (events tree) in
    let few : length ns ≤ length (pieces text) = le_trans numbered (few_pictures at_start (pieces text) (events tree) r.turns) in
    let removals : levels_in kept.kept.report ≡ with_all kept.kept.rate.constant (None, 0, 0) (removals_by (beginning_in start text tree) (dues_in start text tree)) =
    levels_told asked number start text ∙ ap (with_all kept.kept.rate.constant (None, 0, 0)) (removals_in text tree stream asked number start) in
    subst (λ (x : Levels). AreFigures x (figures_in text tree)) (sym removals)
    (figures_by at tree.state.first (pieces text) ns kept.kept.rate.constant few (le_trans few (few_pieces text lt)) (λ s e. keeps.account s (sym r.first ∙ e)) finds.1
    keeps.once (all_end false None 0 false 0 0 (events tree) r.alternates) (in_turn None 0 false 0 0 (events tree)) (first_fits (pieces text) (events tree) ns r.turns numbered)
    (λ x e. (ap (λ (y : Rate). y.constant) (rate_is text tree stream asked number start x e), none_fails text tree number start x none e)))

-- the report counts the stream's frames, pictures and bytes
pub counts_all : (text : List ℕ) (tree : Sofar) → Stream text tree → length text < 2 ^ 64 → CountsAll text tree
counts_all text tree stream lt asked number start =
    let r = in_pieces text tree stream in
    let counts = counts_of text tree stream asked number start in
    let few : length (stream_pictures tree) ≤ 2 ^ 64 - 1 = le_trans (few_pictures at_start (pieces text) (events tree) r.turns) (few_pieces text lt) in
    record {
      frames = ap (λ (x : Numbers). x.1) counts ∙ frames_counted text tree stream few;
      pictures = ap (λ (x : Numbers). x.0) counts;
      bytes = ap (λ (x : Numbers). x.2) counts;
    }

-- the report has the verifier's figures
pub same_figures : (text : List ℕ) (tree : Sofar) → Stream text tree → length text < 2 ^ 64 → (f : Figures) → IsLawful text f → TellsFigures text f
same_figures text tree stream lt f is asked number start =
    let counts = counts_all text tree stream lt asked number start in
    let one : is.counts.tree ≡ tree = (exactly_one text).one_tree is.counts.tree tree is.counts.stream stream in
    let same : is.buffer.tree ≡ tree = (exactly_one text).one_tree is.buffer.tree tree is.buffer.stream stream in
    let figures : figures_in text tree ≡ buffer_figures f = sym (is.buffer.figures ∙ ap (figures_in text) same) in
    let kept = kept_figures text tree stream lt f is asked number start in
    record {
      frames = counts.frames ∙ sym (is.counts.frames ∙ ap (λ (t : Sofar). length (frames_of t)) one);
      pictures = counts.pictures ∙ sym (is.counts.pictures ∙ ap (λ (t : Sofar). length (stream_pictures t)) one);
      bytes = counts.bytes ∙ sym is.counts.bytes;
      low = kept.low ∙ ap (λ (g : BufferFigures). g.low) figures;
      high = kept.high ∙ ap (λ (g : BufferFigures). g.high) figures;
      delays = kept.delays ∙ ap (λ (g : BufferFigures). g.delays) figures;
    }
