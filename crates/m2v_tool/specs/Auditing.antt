-- What `audit` does: its words, which outcome comes, and what is answered to a text by its report.
use Rattle.std.specs.Prelude.{ℕ, ◌≡◌, ◌&&◌, nat_eq, List, [], ◌∷◌, Option, Some, None, codes, option_map, option_and_then, unwrap_or, if◌then◌else◌}
use Rattle.std.specs.Str.{bytes_eq}
use Rattle.clap.specs.Walk.{Row, Text, first_of}
use Rattle.clap.specs.Simple.{App}
use Rattle.m2v_port.specs.Ends.{Change, Tells}
use Rattle.m2v_port.specs.Port.{Grows}
use Rattle.m2v_model.specs.Pieces.{too_long, too_large}
use Rattle.m2v_cut.specs.m2v_decode.Answers.{OfText}
use Rattle.m2v_audit.specs.declared.outcome.Outcome.{Outcome as Audit}
use Rattle.m2v_audit.specs.declared.outcome.Ending.{Ending as Audited}
use Rattle.m2v_audit.specs.declared.outcome.Ending.TheVariants as audits
use Rattle.m2v_audit.specs.declared.records.TotalRecord.{TotalRecord}
use Rattle.m2v_audit.specs.declared.words.LimitKind.{LimitKind}
use Rattle.m2v_audit.specs.declared.words.LimitKind.TheVariants as limits
use Rattle.m2v_audit.specs.Audited.{audit_report, audit_outcome}
use Rattle.m2v_audit.specs.Leading.{IsAudited, Fails}
use Rattle.m2v_audit.specs.m2v_strict.declared.rule_set.RuleSet.{RuleSet}
use Rattle.m2v_audit.specs.m2v_strict.declared.rule_set.RuleSet.TheVariants as sets
use Rattle.m2v_audit.specs.declared.asked.Asked.{Asked}
use Rattle.m2v_tool.specs.declared.audit.AuditOutcome.{AuditOutcome}
use Rattle.m2v_tool.specs.declared.audit.AuditOutcome.TheVariants.{Reported, Stopped}
use Rattle.m2v_tool.specs.Simple.{simple, text_option, flag_option, taken, flag}
use Rattle.m2v_tool.specs.Endings.{Ending, with_figures, Told, Success, stream_fault, ending_past}
use Rattle.m2v_tool.specs.Stops.{decoding_stopped}
use Rattle.m2v_tool.specs.Runs.{Run, Yields, NoneFailed, Succeeds}

-- ---- words

-- the options behind `audit`: the name of a rule set, and whether each picture is told
abbrev pub audit_app : App
audit_app = simple (codes "audit") (text_option (codes "for") ∷ flag_option (codes "pictures") ∷ [])

-- a rule set by its name
unfoldable pub rules_named : Text → Option RuleSet
rules_named word =
    if bytes_eq word (codes "main") then Some sets.Main
    else if bytes_eq word (codes "dvd") then Some sets.Dvd
    else if bytes_eq word (codes "dvb") then Some sets.Dvb
    else if bytes_eq word (codes "atsc") then Some sets.Atsc
    else None

-- that which was given, and else the rules of the Main profile
unfoldable pub rules_in : List Row → Option RuleSet
rules_in rows = rules_named (unwrap_or (first_of (codes "for") rows) (codes "main"))

unfoldable pub audit_of : List Row → Option Asked
audit_of rows = option_map (λ rules. record { rules = rules; pictures = flag (codes "pictures") rows; first = None }) (rules_in rows)

-- what the words behind `audit` mean, where `clap` takes them and the rule set is one
unfoldable pub audit_meant : List Text → Option Asked
audit_meant words = option_and_then audit_of (taken audit_app words)

-- ---- outcomes

-- what these words ask to be reported of a text, and what comes of that
abbrev pub report_of : Asked → List ℕ → List ℕ
report_of w text = audit_report w text

abbrev pub outcome_of : Asked → List ℕ → Audit
outcome_of w text = audit_outcome w text

-- When each outcome of `audit` comes, and what stands then: the report of the text was written, or the audit stopped.
unfoldable pub AuditComes : Asked → Change → Change → AuditOutcome → Type 0
AuditComes w left held (Reported o) = OfText left (λ text. IsAudited w text held o)
AuditComes w left held (Stopped e) = Fails w left held e

-- ---- statuses and lines

-- of an input in which nothing was found, and of one in which something was
unfoldable pub clean_ending : TotalRecord → Ending
clean_ending t = with_figures 0
    ((codes "clean sequences ", t.sequences) ∷ (codes " pictures ", t.pictures)
    ∷ (codes " bytes ", t.bytes) ∷ (codes " warnings ", t.warnings) ∷ [])

unfoldable pub found_ending : TotalRecord → Ending
found_ending t = with_figures 18
    ((codes "found sequences ", t.sequences) ∷ (codes " pictures ", t.pictures)
    ∷ (codes " bytes ", t.bytes) ∷ (codes " breaches ", t.breaches)
    ∷ (codes " failures ", t.failures) ∷ (codes " warnings ", t.warnings) ∷ [])

-- of one that was read to its end: warnings are no finding
unfoldable pub whole_ending : TotalRecord → Ending
whole_ending t = if nat_eq t.breaches 0 && nat_eq t.failures 0 then clean_ending t else found_ending t

-- the first fault of the input, or a limit that is passed before any, comes before what was found
unfoldable pub limit_ending : LimitKind → Ending
limit_ending limits.TooLong = ending_past too_long
limit_ending limits.TooLarge = ending_past too_large

unfoldable pub audited_ending : TotalRecord → Audited → Ending
audited_ending t audits.Whole = whole_ending t
audited_ending t (audits.Fault f) = stream_fault f
audited_ending t (audits.Limit l) = limit_ending l

abbrev pub reported_ending : Audit → Ending
reported_ending o = audited_ending o.totals o.ending

-- of each outcome
unfoldable pub audit_ending : AuditOutcome → Ending
audit_ending (Reported o) = reported_ending o
audit_ending (Stopped e) = decoding_stopped e

-- ---- answers

-- What `audit` answers to a text: its whole report is on output, and the status and the line are those of what came of it.
pub record AuditAnswer (r : Run) (w : Asked) (text : List ℕ) : Type 0 where
  pub report : Grows r.output.old (report_of w text) r.output.new
  pub told : Told (reported_ending (outcome_of w text)) r.status r.report

-- An input was read to its end, nothing was found in it, and its report was written.
pub record AuditDone (w : Asked) (left held : Change) (t : TotalRecord) : Type 0 where
  pub audited : OfText left (λ text. IsAudited w text held (record { totals = t; ending = audits.Whole }))
  pub breaches : t.breaches ≡ 0
  pub failures : t.failures ≡ 0

-- What is answered to `audit`: with status 0 nothing was found in all of the input; every text is answered by its report;
-- and one in which nothing is found succeeds.
pub record AuditKeeps (w : Asked) (r : Run) : Type 0 where
  pub done : r.status ≡ 0 → Success (AuditDone w r.input r.output) clean_ending r.report
  pub answer : Tells r.input (λ text. Yields r (AuditAnswer r w text))
  pub clean : Tells r.input (λ text.
      reported_ending (outcome_of w text) ≡ clean_ending (outcome_of w text).totals → NoneFailed r → Succeeds r)
