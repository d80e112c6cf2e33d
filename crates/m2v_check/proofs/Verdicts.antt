-- The end of the text: the verdict that is told there is the text's.
use Rattle.std.proofs.Common.{◌≡◌, ℕ, ◌+◌, ◌*◌, ◌<◌, Bool, true, false, cond, List, [], ◌∷◌, ◌++◌, length, map, Option, Some, None, Result, Ok, Err, refl, sym, ap, subst, ◌∙◌, arith}
use Rattle.std.specs.Prelude.{not, nat_eq, sum, if◌then◌else◌}
use Rattle.std.proofs.lemmas.Bool.{ne_eqb}
use Rattle.std.proofs.lemmas.List.{append-nil}
use Rattle.m2v_port.specs.Ends.{change}
use Rattle.m2v_vbv.specs.declared.fault.AccountFault.{AccountFault}
use Rattle.m2v_model.specs.declared.state.Sequence.{Sequence}
use Rattle.m2v_model.specs.declared.fault.FaultKind.{FaultKind}
use Rattle.m2v_model.specs.declared.fault.FaultKind.TheVariants.{FieldPair}
use Rattle.m2v_model.specs.Pictures.{Picture, Events, sequence_header, group_header, coded_picture, pictures_in}
use Rattle.m2v_model.specs.PieceNotes.{note_of}
use Rattle.m2v_model.specs.Pieces.{pieces}
use Rattle.m2v_model.specs.Streams.{Sofar}
use Rattle.m2v_model.specs.States.{none_waits}
use Rattle.m2v_model.specs.Decoding.{Stream, events, pictures, frames_of, low_delay_of}
use Rattle.m2v_model.specs.ByPieces.{Between, Course, at_start as text_start, pieces_read, units_read, text_ended, end_read, end_of, text_read, behind, continued, IsRead}
use Rattle.m2v_model.specs.Lawful.{Breaches, breach, breaches, breaches_of, numbered, all_numbered, is_variable}
use Rattle.m2v_model.specs.Buffering.{account_by, account_in}
use Rattle.m2v_model.proofs.Unique.{exactly_one}
use Rattle.m2v_model.proofs.PieceLaws.{placed, piece_none, rest_read, rest_none, rest_read-append, text_rest, by_pieces}
use Rattle.m2v_dec_piece.specs.Cutting.{Cutting}
use Rattle.m2v_dec_piece.specs.declared.answer.DecodeError.{DecodeError}
use Rattle.m2v_dec_piece.specs.declared.answer.DecodeError.TheVariants as errors
use Rattle.m2v_check.proofs.AnswerLaws.{fails_here}
use Rattle.m2v_decode.specs.Decoding.{Decoding, between, due_of, Finished}
use Rattle.m2v_decode.specs.declared.answer.Decoded.{Decoded}
use Rattle.m2v_decode.specs.Answers.{OfText, start_of, IsDecoded}
use Rattle.m2v_decode.specs.Progress.{IsDone}
use Rattle.m2v_decode.proofs.Going.{moved_some}
use Rattle.m2v_decode.proofs.Ending.{done_ok, done_err}
use Rattle.m2v_check.specs.declared.rules.Rules.{Rules}
use Rattle.m2v_check.specs.declared.broken.BrokenRule.{BrokenRule}
use Rattle.m2v_check.specs.declared.buffer.BufferFigures.{BufferFigures as Found}
use Rattle.m2v_check.specs.declared.judge.Judge.{Judge}
use Rattle.m2v_check.specs.Breaking.{found}
use Rattle.m2v_check.specs.Running.{no_rules, with_sequence, with_group, with_picture, coded_next, broken_in}
use Rattle.m2v_check.specs.Laws.{rules_after, with_coded, first_low_delay}
use Rattle.m2v_check.specs.Judging.{judgement_of, ended_by}
use Rattle.m2v_check.proofs.RuleLaws.{is_found}
use Rattle.m2v_check.specs.declared.verdict.Verdict.{Verdict}
use Rattle.m2v_check.specs.Meaning.{HasCounts, Means}
use Rattle.m2v_check.specs.Answers.{IsJudged, Fails}
use Rattle.m2v_check.specs.Progress.{none_held, none_failed, no_output, IsSaid, IsAllJudged, IsJudgedText, verdict_of, said, Ends, EndFails}

-- ---- whether the rate is constant

not_first : (n : ℕ) → 0 < n → nat_eq n 0 ≡ false
not_first n some = ne_eqb n 0 (λ e. absurd (omega (arith, some, e)))

later_one : (r : Rules) (p : Picture) (es : Events) (o : Option Sequence) → 0 < r.pictures → ((x : Rules) → 0 < x.pictures → (rules_after x es).constant ≡ x.constant) → (rules_after (with_coded r o p) es).constant ≡ r.constant
later_one r p es None some ih = ih r some
later_one r p es (Some s) some ih = ih (with_picture r (coded_next r s (note_of 0 p))) (omega arith) ∙ rw (not_first r.pictures some) refl

later_constant : (r : Rules) (es : Events) → 0 < r.pictures → (rules_after r es).constant ≡ r.constant
unfolding rules_after
later_constant r [] some = refl
later_constant r (sequence_header s ∷ es) some = later_constant (with_sequence r s) es some
later_constant r (group_header g ∷ es) some = later_constant (with_group r) es some
later_constant r (coded_picture p ∷ es) some = later_one r p es r.sequence some (λ x more. later_constant x es more)

first_constant : (r : Rules) (es : Events) (o : Option Sequence) (group : ℕ) (first_in_group : Bool) (number frames : ℕ) → r.sequence ≡ o → r.pictures ≡ 0 → r.constant ≡ true
    → (rules_after r es).constant ≡ not (is_variable (numbered o group first_in_group number frames es))
unfolding rules_after numbered
first_constant r [] o group first_in_group number frames e none on = on
first_constant r (sequence_header s ∷ es) o group first_in_group number frames e none on = first_constant (with_sequence r s) es (Some s) group first_in_group number frames refl none on
first_constant r (group_header g ∷ es) o group first_in_group number frames e none on = first_constant (with_group r) es o (group + 1) true number frames e none on
first_constant r (coded_picture p ∷ es) None group first_in_group number frames e none on =
    ap (λ (q : Option Sequence). (rules_after (with_coded r q p) es).constant) e ∙ first_constant r es None group first_in_group number frames e none on
first_constant r (coded_picture p ∷ es) (Some s) group first_in_group number frames e none on =
    ap (λ (q : Option Sequence). (rules_after (with_coded r q p) es).constant) e
    ∙ later_constant (with_picture r (coded_next r s (note_of 0 p))) es (omega arith)
    ∙ ap (λ (n : ℕ). if nat_eq n 0 then not (nat_eq p.info.vbv_delay 65535) else r.constant) none

constant_is : (es : Events) → (rules_after no_rules es).constant ≡ not (is_variable (all_numbered es))
constant_is es = first_constant no_rules es None 0 false 0 0 refl refl refl

-- ---- what stands

abbrev whole_by : Bool → Events × Between → FaultKind × ℕ → Course
whole_by w y f = cond w (Ok y) (Err f)

whole_or : (w : Bool) (y x : Events × Between) (f g : FaultKind × ℕ) → whole_by w y f ≡ Ok x → whole_by w y g ≡ Ok x
whole_or true y x f g e = e
whole_or false y x f g e = absurd cc

end_placed : (end other : ℕ) (r : Course) (x : Events × Between) → text_ended end (placed end r) ≡ Ok x → text_ended other (placed other r) ≡ Ok x
end_placed end other (Ok y) x e = whole_or (none_waits (y.1).state.waiting) y x (FieldPair, 8 * end) (FieldPair, 8 * other) e
end_placed end other (Err f) x e = absurd cc

-- the end that is read is the same, wherever it is
end_at : (b : Between) (end other : ℕ) (x : Events × Between) → end_read b end ≡ Ok x → end_read b other ≡ Ok x
end_at b end other x e =
    ap (text_ended other) (piece_none b other) ∙ end_placed end other (units_read b []) x (sym (ap (text_ended end) (piece_none b end)) ∙ e)

whole_read : (text : List ℕ) (es : Events) (b last : Between) → pieces_read text_start (start_of text) (pieces text) ≡ Ok (es, b) → end_read b (end_of (start_of text) (pieces text)) ≡ Ok ([], last) → text_read text ≡ Ok (es, last)
unfolding continued
whole_read text es b last first read =
    text_rest text ∙ ap (rest_read text_start (start_of text)) (sym (append-nil (pieces text))) ∙ rest_read-append (pieces text) [] text_start (start_of text)
    ∙ rw first (ap (behind es) (rest_none b (end_of (start_of text) (pieces text)) ∙ read) ∙ ap (λ (t : Events). Ok (t, last)) (append-nil es))

-- what the judge knows of the text's tree
record Stands (text : List ℕ) (j : Judge) : Type 0 where
  tree : Sofar
  stream : Stream text tree
  rules : broken_in j.rules ≡ found (breaches_of tree)
  rate : j.rules.constant ≡ not (is_variable (all_numbered (events tree)))
  bytes : j.bytes ≡ sum (map length (pieces text))
  account : broken_in j.rules ≡ None → IsSaid (account_in text tree) (pieces text) (all_numbered (events tree)) (ended_by j.buffer)

stands : (text : List ℕ) (d new : Decoding) (j : Judge) (end : ℕ) → IsAllJudged text d j → Finished d end new → Stands text j
stands text d new j end a f =
    let es = a.events in
    let r : IsRead text es (between new) = (by_pieces text).stands es (between new) (whole_read text es (between d) (between new) a.read (end_at (between d) end (end_of (start_of text) (pieces text)) ([], between new) f.read)) in
    let es_is : es ≡ events r.tree = ap (λ (x : Events × Between). x.0) r.told in
    let first : d.state.first ≡ (r.tree).state.first = sym f.first ∙ ap (λ (x : Events × Between). (x.1).state.first) r.told in
    let low : first_low_delay es ≡ low_delay_of (r.tree).state.first = a.low ∙ ap low_delay_of first in
    record {
      tree = r.tree;
      stream = r.stream;
      rules = ap broken_in a.rules ∙ is_found es a.alternates ∙ (λ i. found (breaches (low i) (es_is i)));
      rate = ap (λ (x : Rules). x.constant) a.rules ∙ constant_is es ∙ ap (λ (x : Events). not (is_variable (all_numbered x))) es_is;
      bytes = a.bytes;
      account = λ none. subst (λ (x : Events × Option Sequence). IsSaid (account_by (low_delay_of x.1) x.1 (pieces text) (all_numbered x.0)) (pieces text) (all_numbered x.0) (ended_by j.buffer)) (λ i. (es_is i, first i)) (a.account none);
    }

-- ---- verdicts

found_none : (bs : Breaches) → found bs ≡ None → bs ≡ []
found_none [] e = refl
found_none (b ∷ bs) e = absurd cc

found_some : (bs : Breaches) (b : BrokenRule) → found bs ≡ Some b → (others : Breaches) × (bs ≡ breach b.rule b.picture b.have b.need ∷ others)
found_some [] b e = absurd cc
found_some (x ∷ bs) b e =
    let is : record { rule = x.rule; picture = x.picture; have = x.have; need = x.need } ≡ b = cc in
    (bs, ap (λ (y : BrokenRule). breach y.rule y.picture y.have y.need ∷ bs) is)

-- what is counted of a stream
record Counted (text : List ℕ) (frames pictures bytes : ℕ) : Type 0 where
  tree : Sofar
  stream : Stream text tree
  shown : frames ≡ length (frames_of tree)
  coded : pictures ≡ length (pictures_in (events tree))
  all : bytes ≡ sum (map length (pieces text))

counts_of : (text : List ℕ) (frames pictures bytes low high delays : ℕ) → Counted text frames pictures bytes
    → HasCounts text (record { frames = frames; pictures = pictures; bytes = bytes; low = low; high = high; delays = delays })
counts_of text frames pictures bytes low high delays c = record { tree = c.tree; stream = c.stream; frames = c.shown; pictures = c.coded; bytes = c.all }

not_false : (b : Bool) → false ≡ not b → b ≡ true
not_false true e = refl
not_false false e = absurd cc

not_true : (b : Bool) → true ≡ not b → b ≡ false
not_true true e = absurd cc
not_true false e = refl

means_by : (text : List ℕ) (j : Judge) (frames pictures bytes : ℕ) → (s : Stands text j) → Counted text frames pictures bytes
    → (o : Option BrokenRule) (c : Bool) (r : Result Found AccountFault) → broken_in j.rules ≡ o → j.rules.constant ≡ c → ended_by j.buffer ≡ r → Means text (verdict_of (judgement_of o c r) frames pictures bytes)
means_by text j frames pictures bytes s n (Some b) c r eo ec er =
    let x = found_some (breaches_of s.tree) b (sym s.rules ∙ eo) in
    record { tree = s.tree; stream = s.stream; others = x.0; broken = x.1 }
means_by text j frames pictures bytes s n None false r eo ec er = record {
  lawful = record { tree = s.tree; stream = s.stream; lawful = found_none (breaches_of s.tree) (sym s.rules ∙ eo) };
  variable = record { tree = s.tree; stream = s.stream; rate = not_false (is_variable (all_numbered (events s.tree))) (sym ec ∙ s.rate) };
  counts = counts_of text frames pictures bytes 0 0 0 n;
  none = refl;
}
means_by text j frames pictures bytes s n None true (Err f) eo ec er =
    let x = subst (IsSaid (account_in text s.tree) (pieces text) (all_numbered (events s.tree))) er (s.account eo) in
    record {
      lawful = record { tree = s.tree; stream = s.stream; lawful = found_none (breaches_of s.tree) (sym s.rules ∙ eo) };
      constant = record { tree = s.tree; stream = s.stream; rate = not_true (is_variable (all_numbered (events s.tree))) (sym ec ∙ s.rate) };
      unsafe = record { tree = s.tree; stream = s.stream; others = x.0; unsafe = x.1 };
    }
means_by text j frames pictures bytes s n None true (Ok f) eo ec er =
    let x = subst (IsSaid (account_in text s.tree) (pieces text) (all_numbered (events s.tree))) er (s.account eo) in
    record {
      lawful = record { tree = s.tree; stream = s.stream; lawful = found_none (breaches_of s.tree) (sym s.rules ∙ eo) };
      constant = record { tree = s.tree; stream = s.stream; rate = not_true (is_variable (all_numbered (events s.tree))) (sym ec ∙ s.rate) };
      safe = record { tree = s.tree; stream = s.stream; safe = x.0 };
      counts = counts_of text frames pictures bytes f.low f.high f.delays n;
      buffer = record { tree = s.tree; stream = s.stream; figures = x.1 };
    }

means : (text : List ℕ) (j : Judge) (frames pictures : ℕ) (v : Verdict) → Stands text j → Counted text frames pictures j.bytes → v ≡ verdict_of (said j) frames pictures j.bytes → Means text v
means text j frames pictures v s n e = subst (Means text) (sym e) (means_by text j frames pictures j.bytes s n (broken_in j.rules) j.rules.constant (ended_by j.buffer) refl refl refl)

-- what is decoded is counted
counted_in : (text : List ℕ) (j : Judge) (x : Decoded) → IsDecoded text no_output x → j.bytes ≡ sum (map length (pieces text)) → Counted text x.frames x.pictures j.bytes
counted_in text j x d all =
    let same : (d.read).tree ≡ (d.decodes).tree = (exactly_one text).one_tree (d.read).tree (d.decodes).tree (d.read).stream (d.decodes).stream in
    let told : d.events ≡ events (d.read).tree = ap (λ (y : Events × Between). y.0) (d.read).told in
    record {
      tree = (d.decodes).tree;
      stream = (d.decodes).stream;
      shown = ap (λ (y : Decoded). y.frames) d.numbers ∙ ap length (d.decodes).shown;
      coded = ap (λ (y : Decoded). y.pictures) d.numbers ∙ ap (λ (es : Events). length (pictures_in es)) told ∙ ap (λ (t : Sofar). length (pictures_in (events t))) same;
      all = all;
    }

-- ---- the end

module _ {S : Type 0} (left : S → Option (List ℕ)) (faults : S → ℕ) where
  pub told_ok : (i0 i1 : S) (c : Cutting) (d : Decoding) (j : Judge) (v : Verdict) → IsDone (change left faults i0 i1) no_output c d → IsJudgedText (change left faults i0 i1) d j → Ends d c.place j v
      → OfText (change left faults i0 i1) (λ text. IsJudged text v)
  told_ok i0 i1 c d j v so all e =
      let x : Decoded = record { frames = d.shown + length (due_of e.new); pictures = d.pictures; dropped = d.dropped } in
      let base = done_ok left faults none_held none_failed i0 i1 tt tt tt c d x so (record { new = e.new; finished = e.finished; grown = record { is = refl }; numbers = refl }) in
      record {
        bytes = base.bytes;
        moved = base.moved;
        told = λ rest q.
            let text = base.bytes ++ rest in
            let dec = base.told rest q in
            let a = all text rest (moved_some (left i0) (left i1) base.bytes rest base.moved q) q in
            let s = stands text d e.new j c.place a e.finished in
            record {
              means = means text j x.frames x.pictures v s (counted_in text j x dec s.bytes) e.verdict;
              limits = record { start = dec.start; pieces = dec.fit };
            };
      }

  pub told_err : (i0 i1 : S) (c : Cutting) (d : Decoding) (e : DecodeError) → IsDone (change left faults i0 i1) no_output c d → EndFails d c.place e → Fails (change left faults i0 i1) e
  told_err i0 i1 c d errors.Read so why = absurd why
  told_err i0 i1 c d errors.Write so why = absurd why
  told_err i0 i1 c d (errors.Stream f) so why = fails_here (change left faults i0 i1) (errors.Stream f) (done_err left faults none_held none_failed i0 i1 tt tt tt c d (errors.Stream f) (omega arith) so (why, refl))
  told_err i0 i1 c d errors.TooLong so why = absurd why
  told_err i0 i1 c d errors.PictureTooLarge so why = absurd why
  told_err i0 i1 c d errors.Memory so why = tt
