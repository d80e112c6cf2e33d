-- A stream of which no breach is told keeps to the rule on whole macroblocks by its first sequence header.
use Rattle.std.proofs.Common.{◌≡◌, ℕ, Bool, true, false, List, [], ◌∷◌, ◌++◌, map, Option, Some, None, refl, sym, ap, subst, ◌∙◌}
use Rattle.std.specs.Prelude.{not, filter, slice_get}
use Rattle.std.proofs.lemmas.List.{map-append}
use Rattle.std.proofs.lemmas.List.Elements.{filter-append}
use Rattle.m2v_model.specs.declared.state.Sequence.{Sequence}
use Rattle.m2v_model.specs.Pictures.{Events, sequence_header}
use Rattle.m2v_model.specs.Pieces.{pieces}
use Rattle.m2v_model.specs.PieceNotes.{notes_of, header_pair}
use Rattle.m2v_model.specs.Lawful.{sequences_in, sequence_breaches}
use Rattle.m2v_model.specs.Streams.{Sofar}
use Rattle.m2v_model.specs.Decoding.{Stream, events}
use Rattle.m2v_model.specs.ByPieces.{at_start}
use Rattle.m2v_audit.proofs.m2v_check.Onward.{first_stays}
use Rattle.m2v_audit.proofs.m2v_check.Telling.{first_in}
use Rattle.m2v_audit.specs.m2v_strict.declared.element.Element.{Element}
use Rattle.m2v_audit.specs.m2v_strict.declared.remark.Remark.{Remark}
use Rattle.m2v_audit.specs.m2v_strict.declared.leading.Leading.{Leading}
use Rattle.m2v_audit.specs.m2v_strict.declared.rule_set.RuleSet.{RuleSet}
use Rattle.m2v_audit.specs.m2v_strict.Remarks.{Remarks, is_warning, remark, judge, looked_at}
use Rattle.m2v_audit.specs.m2v_strict.SequenceRules.{coded_luma_rule, aspect_rule, constrained_rule, first_number_rule, level_remarks, header_rule, extension_rule, sequence_warnings}
use Rattle.m2v_audit.specs.m2v_strict.OrderRules.{sequence_order_rule}
use Rattle.m2v_audit.specs.m2v_strict.SetRules.{set_remarks}
use Rattle.m2v_audit.specs.declared.asked.Asked.{Asked}
use Rattle.m2v_audit.specs.declared.auditing.Auditing.{Auditing}
use Rattle.m2v_audit.specs.declared.headers.PieceHeader.{PieceHeader}
use Rattle.m2v_audit.specs.declared.headers.PieceHeader.TheVariants as headers
use Rattle.m2v_audit.specs.declared.records.Finding.{Finding}
use Rattle.m2v_audit.specs.Auditing.{nothing, leading}
use Rattle.m2v_audit.specs.Findings.{remarked_at}
use Rattle.m2v_audit.specs.Front.{front_of}
use Rattle.m2v_audit.specs.Report.{finding_of}
use Rattle.m2v_law_audit.specs.Encoded.{KeepsCodedLuma}
use Rattle.m2v_law_audit.specs.Sequences.{first_byte}
use Rattle.m2v_law_audit.specs.Found.{found_at, remarks_found, sequence_found, header_found, headers_found, piece_found, end_found, all_found, findings_of}
use Rattle.m2v_law_audit.proofs.EventsFront.{Pair, Fronts, begins_by_sequence}
use Rattle.m2v_law_audit.proofs.EventsPieces.{BeginWith, text_begins}
use Rattle.m2v_law_audit.proofs.AccountReading.{Turns, HasHeader, in_pieces, begun_at, one_piece, header_stays}
use Rattle.m2v_law_audit.proofs.VerdictRules.{none_before, none_behind}

module _ (n picture bit : ℕ) where
  abbrev found : Remarks → List Finding
  found ms = remarks_found n picture bit ms

  -- where of all remarks none is a breach, none of the first ones is
  found_before : (ms ns : Remarks) → found (ms ++ ns) ≡ [] → found ms ≡ []
  unfolding remarks_found
  found_before ms ns e =
      let told : Remark → Finding = λ m. finding_of n (remarked_at picture bit m) in
      let breaks : Remark → Bool = λ m. not (is_warning m.rule) in
      none_before (found ms) (found ns) (sym (ap (map told) (filter-append breaks ms ns) ∙ map-append told (filter breaks ms) (filter breaks ns)) ∙ e)

  luma_by : (looks holds : Bool) (element : Element) (have need : ℕ) →
      let ms = looked_at looks (judge holds (remark 16 element have need)) in
      found ms ≡ [] → ms ≡ []
  unfolding remarks_found
  luma_by true true element have need e = refl
  luma_by true false element have need e = absurd cc
  luma_by false holds element have need e = refl

  luma_kept : (s : Sequence) → found (coded_luma_rule s) ≡ [] → KeepsCodedLuma s
  unfolding coded_luma_rule
  luma_kept s e = luma_by _ _ _ _ _ e

  header_kept : (rules : RuleSet) (like : Option Sequence) (before : Leading) (first s : Sequence) → sequence_found n rules like before picture bit first s ≡ [] → KeepsCodedLuma s
  header_kept rules like before first s e =
      let warned = none_before _ (found (set_remarks rules like s)) e in
      let ordered = none_before _ (found (sequence_warnings rules s)) warned in
      let extended = none_before _ (found (sequence_order_rule before)) ordered in
      let headed = none_before _ (found (extension_rule first s)) extended in
      let level = none_before (found (level_remarks s)) (found (header_rule first s)) headed in
      luma_kept s
      (found_before (coded_luma_rule s) (aspect_rule s)
      (found_before (coded_luma_rule s ++ aspect_rule s) (constrained_rule s)
      (found_before (coded_luma_rule s ++ aspect_rule s ++ constrained_rule s) (first_number_rule s.info.load_intra) level)))

-- headers of which the first is a sequence header
front_kept : (hs : List PieceHeader) (s : Sequence) (later : Events) (a : Auditing) (ss : List Pair) → Fronts hs (sequence_header s ∷ later)
    → slice_get ss 0 ≡ Some (header_pair s) → headers_found a ss 0 hs ≡ [] → KeepsCodedLuma s
unfolding headers_found
front_kept [] s later a ss f get e = absurd f
front_kept (headers.Sequence bit ∷ hs) s later a ss f get e =
    let here : header_found a (headers.Sequence bit) (Some (header_pair s)) ≡ [] =
    ap (λ (o : Option Pair). header_found a (headers.Sequence bit) o) (sym get) ∙ none_before (header_found a (headers.Sequence bit) (slice_get ss 0)) _ e in
    header_kept a.report.sequence a.pictures bit a.rules a.like (leading a) _ s (none_behind (found_at a.report.sequence a.pictures bit (sequence_breaches (s ∷ []))) _ here)
front_kept (headers.Group bit g ∷ hs) s later a ss f get e = absurd f

pieces_kept : (ps : List (List ℕ)) (number start : ℕ) (asked : Asked) (at : ℕ) (es : Events) (first : Sequence) → BeginWith 0xB3 ps
    → Turns at_start ps es
    → first_in None es ≡ Some first → all_found (nothing number asked start) at_start at ps ≡ [] → KeepsCodedLuma first
unfolding notes_of
pieces_kept [] number start asked at es first begins turns e none = let d : None ≡ Some first = ap (first_in None) (sym turns) ∙ e in absurd cc
pieces_kept (p ∷ ps) number start asked at es first begins turns e none =
    let a = nothing number asked start in
    let u = turns.0 in
    let ss = map header_pair (sequences_in u.own) in
    let b = begins_by_sequence at p u.own begins (u.fronts at) in
    let h : HasHeader u.own = record {
      header = b.0;
      others = map header_pair (sequences_in b.1);
      noted = ap (λ (fs : Events). map header_pair (sequences_in fs)) b.2;
      first = ap (first_in None) b.2 ∙ first_stays b.0 b.1;
    } in
    let same : b.0 ≡ first = some_is (sym (header_stays u.own u.rest es u.are h) ∙ e) in
    let piece : piece_found a at p (notes_of at p u.own) ≡ [] = none_before _ _ (sym (one_piece piece_found end_found a at_start at p ps es u) ∙ none) in
    let front : headers_found (begun_at a at p u.own) ss 0 (front_of at p) ≡ [] = none_before _ _ (none_before _ _ (none_before _ _ piece)) in
    subst KeepsCodedLuma same
    (front_kept (front_of at p) b.0 b.1 (begun_at a at p u.own) ss (subst (Fronts (front_of at p)) b.2 (u.fronts at))
    (ap (λ (xs : List Pair). slice_get xs 0) h.noted) front)
  where
    some_is : {s t : Sequence} → Some s ≡ Some t → s ≡ t
    some_is q = cc

pub text_keeps : (text : List ℕ) (tree : Sofar) → Stream text tree → (first : Sequence) → tree.state.first ≡ Some first
    → (asked : Asked) (number start : ℕ)
    → findings_of asked number start text ≡ [] → KeepsCodedLuma first
text_keeps text tree stream first header asked number start none =
    let r = in_pieces text tree stream in
    pieces_kept (pieces text) number start asked (first_byte start text) (events tree) first (text_begins text) r.turns (sym r.first ∙ header) none
