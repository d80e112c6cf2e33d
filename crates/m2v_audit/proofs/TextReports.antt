-- The report of a text, from where it begins to where the next one does.
use Rattle.std.proofs.Common.{◌≡◌, ◌⊎◌, inl, inr, ℕ, suc, ◌+◌, ◌-◌, ◌<◌, ◌≤◌, Bool, true, false, List, [], ◌∷◌, ◌++◌, length, Option, Some, Ok, Err, refl, sym, ap, subst, ◌∙◌, arith}
use Rattle.std.specs.Prelude.{if◌then◌else◌}
use Rattle.std.proofs.lemmas.List.{length-append}
use Rattle.m2v_port.specs.Ends.{Change, change}
use Rattle.m2v_port.specs.Port.{Grows, GrowsByPrefix}
use Rattle.m2v_port.proofs.Runs.{grows_on}
use Rattle.m2v_model.specs.declared.phase.Phase.TheVariants.{Before}
use Rattle.m2v_model.specs.Units.{Units, cut}
use Rattle.m2v_model.specs.Pieces.{pieces, before_pieces, grouped, Limit, too_long, too_large}
use Rattle.m2v_model.specs.ByPieces.{at_start}
use Rattle.m2v_dec_piece.specs.declared.answer.Fault.{Fault}
use Rattle.m2v_dec_piece.specs.declared.answer.DecodeError.{DecodeError}
use Rattle.m2v_dec_piece.specs.declared.answer.DecodeError.TheVariants as errors
use Rattle.m2v_dec_piece.specs.Following.{following_in, text_after}
use Rattle.m2v_dec_piece.specs.Cutting.{Cutting, phase_for, open_start, open_pieces, start_of}
use Rattle.m2v_strict.specs.m2v_check.m2v_decode.Progress.{Cuts}
use Rattle.m2v_audit.specs.declared.outcome.Ending.{Ending}
use Rattle.m2v_audit.specs.declared.outcome.Ending.TheVariants as endings
use Rattle.m2v_audit.specs.declared.outcome.Outcome.{Outcome}
use Rattle.m2v_audit.specs.Auditing.{Auditing, nothing, stopped, ended}
use Rattle.m2v_audit.specs.Lines.{skipped_text}
use Rattle.m2v_audit.specs.Audited.{Audited, Telling, then_comes, totalled, counted_with, asked_behind, stopping_text, first_ending, limit_kind, by_limit, pieces_told, texts_told}
use Rattle.m2v_audit.specs.Leading.{Onward, LeadsTo, IsCut, pieces_from, IsTextRead, HasFault, TextStops, as_ending, is_fault, texts_from, total_from, IsEnough, GoesOn, TextTold, Stops}
use Rattle.m2v_audit.proofs.LeadLaws.{both_come, leads_on, leads_put, stops_put, stops_on}
use Rattle.m2v_audit.specs.declared.asked.Asked.{Asked}

-- ---- where a text begins

before_bytes : (bytes : List ℕ) (us : Units) → grouped Before [] us ≡ grouped Before bytes us
unfolding grouped
before_bytes bytes [] = refl
before_bytes bytes (u ∷ us) = refl

-- what is told of a text from a cutter on that stands before it
start_by : (begun ended : Bool) (place : ℕ) (text : List ℕ) → begun ≡ false → ended ≡ false → place + length (before_pieces text) ≡ (if ended then place else open_start (phase_for begun) place text)
unfolding open_start
start_by begun ended place text b e = rw (b, e) refl

left_by : (begun ended : Bool) (text : List ℕ) → begun ≡ false → ended ≡ false → pieces text ≡ (if ended then [] else open_pieces (phase_for begun) [] text)
unfolding open_pieces
left_by begun ended text b e = rw (b, e) (before_bytes (cut 0 text).0 (cut 0 text).1)

after_by : (begun ended : Bool) (unread rest : List ℕ) → begun ≡ false → ended ≡ false → text_after (unread ++ rest) ≡ (if ended then unread ++ rest else following_in begun (unread ++ rest))
after_by begun ended unread rest b e = rw (b, e) refl

-- what goes along with the pieces of the text
abbrev along : ℕ → Asked → Outcome → ℕ → List ℕ → Telling
along k asked o start text = record {
  so_far = o.ending;
  totals = o.totals;
  start = start;
  next = λ a end. texts_told k (asked_behind asked a) true o.ending (counted_with o.totals a) end (text_after text);
  onward = λ ending a at left. texts_told k (asked_behind asked a) true ending (counted_with o.totals a) at (left ++ text_after text);
}

text_first : (n k : ℕ) (asked : Asked) (later : Bool) (o : Outcome) (c : Cutting) (rest : List ℕ) → n ≡ suc k → c.begun ≡ false → c.ended ≡ false
    → texts_told n asked later o.ending o.totals c.place (c.unread ++ rest) ≡ pieces_from later (nothing o.totals.sequences asked c.place) at_start c (along k asked o c.place (c.unread ++ rest)) rest
unfolding texts_told
text_first n k asked later o c rest is begun ended =
    let x = along k asked o c.place (c.unread ++ rest) in
    let a = nothing o.totals.sequences asked c.place in
    ap (λ (m : ℕ). texts_told m asked later o.ending o.totals c.place (c.unread ++ rest)) is
    ∙ ap (λ (at : ℕ). pieces_told x later a at_start at (pieces (c.unread ++ rest))) (start_by c.begun c.ended c.place (c.unread ++ rest) begun ended)
    ∙ ap (pieces_told x later a at_start (start_of c rest)) (left_by c.begun c.ended (c.unread ++ rest) begun ended)

-- ---- numbers

enough_for : (later : Bool) (n l : ℕ) → IsEnough later n l → l < n
enough_for true n l e = e
enough_for false n l e = omega (arith, e)

-- where a text comes next that is further on, or the one behind the first text
enough_then : (later : Bool) (n l l' place place' bytes : ℕ) → IsEnough later n l → (place < place') ⊎ ((later ≡ false) × (place ≤ place')) → place' + l' ≡ (place + l) + bytes → l' < n + bytes - 1
enough_then later n l l' place place' bytes e (inl lt) is = let room = enough_for later n l e in omega (arith, room, lt, is)
enough_then true n l l' place place' bytes e (inr first) is = let off = first.0 in absurd cc
enough_then false n l l' place place' bytes e (inr first) is = let le = first.1 in omega (arith, e, le, is)

-- ---- its end

module _ {S K : Type 0} (left : S → Option (List ℕ)) (input_faults : S → ℕ) (held : K → Option (List ℕ)) (output_faults : K → ℕ) where
  abbrev input : S → S → Change
  input = change left input_faults

  abbrev output : K → K → Change
  output = change held output_faults

  module _ (n : ℕ) (asked : Asked) (later : Bool) (o : Outcome) (c : Cutting) (room : IsEnough later n (length c.unread)) (begun : c.begun ≡ false) (ended_not : c.ended ≡ false) where
    abbrev From : Onward Telling
    From = pieces_from later (nothing o.totals.sequences asked c.place) at_start c

    abbrev Old : Onward (Unit {0})
    Old = texts_from n asked later o c

    -- a number for what is left behind some bytes
    abbrev number : List ℕ → ℕ
    number bytes = n + length bytes - 1

    abbrev text_with : List ℕ → List ℕ → List ℕ
    text_with bytes rest = c.unread ++ (bytes ++ rest)

    abbrev with_text : List ℕ → List ℕ → Telling
    with_text bytes rest = along (number bytes + length rest) asked o c.place (text_with bytes rest)

    begins : (bytes rest : List ℕ) → Old tt (bytes ++ rest) ≡ From (with_text bytes rest) (bytes ++ rest)
    begins bytes rest =
        let some = enough_for later n (length c.unread) room in
        text_first (n + length (bytes ++ rest)) (number bytes + length rest) asked later o c (bytes ++ rest) (omega (arith, some, length-append bytes rest)) begun ended_not

    -- what its pieces lead to
    text_leads : (i0 i1 : S) (o0 o1 : K) (new : Onward Telling) → (l : LeadsTo (input i0 i1) (output o0 o1) From new) → LeadsTo (input i0 i1) (output o0 o1) Old (λ u rest. new (with_text l.bytes rest) rest)
    text_leads i0 i1 o0 o1 new l = record {
      bytes = l.bytes;
      moved = l.moved;
      lines = l.lines;
      grown = l.grown;
      told = λ rest e u. begins l.bytes rest ∙ l.told rest e (with_text l.bytes rest);
    }

    text_cut : (i0 i1 : S) (o0 o1 : K) → IsCut (input i0 i1) (output o0 o1) From → IsCut (input i0 i1) (output o0 o1) Old
    text_cut i0 i1 o0 o1 k = record {
      bytes = k.bytes;
      moved = k.moved;
      told = λ rest e u. subst (λ (y : Audited). GrowsByPrefix (held o0) y.report (held o1)) (sym (begins k.bytes rest)) (k.told rest e (with_text k.bytes rest));
    }

    -- memory ran out, or an end failed
    pub fails : (i0 i1 : S) (o0 o1 : K) (a : Auditing) (c' : Cutting) (e e' : DecodeError) → as_ending e ≡ Err e' → TextStops (input i0 i1) (output o0 o1) From later c a c' e → Stops (input i0 i1) (output o0 o1) Old e'
    unfolding as_ending
    fails i0 i1 o0 o1 a c' errors.Read e' is s = let same : errors.Read ≡ e' = cc in subst (Stops (input i0 i1) (output o0 o1) Old) same (s.0, text_cut i0 i1 o0 o1 s.1)
    fails i0 i1 o0 o1 a c' errors.Write e' is s = let same : errors.Write ≡ e' = cc in subst (Stops (input i0 i1) (output o0 o1) Old) same (s.0, text_cut i0 i1 o0 o1 s.1)
    fails i0 i1 o0 o1 a c' (errors.Stream f) e' is s = absurd cc
    fails i0 i1 o0 o1 a c' errors.TooLong e' is s = absurd cc
    fails i0 i1 o0 o1 a c' errors.PictureTooLarge e' is s = absurd cc
    fails i0 i1 o0 o1 a c' errors.Memory e' is s = let same : errors.Memory ≡ e' = cc in subst (Stops (input i0 i1) (output o0 o1) Old) same (text_cut i0 i1 o0 o1 s)

    -- its last lines are put, and the audit ends
    closes : (i0 i1 : S) (o0 o1 o2 : K) (lines : List ℕ) (o' : Outcome) (new : Onward Telling) → LeadsTo (input i0 i1) (output o0 o1) From new → Grows (held o1) lines (held o2)
        → ((bytes rest : List ℕ) → new (with_text bytes rest) rest ≡ then_comes lines (totalled o'.totals o'.ending)) → LeadsTo (input i0 i1) (output o0 o2) Old (total_from o')
    closes i0 i1 o0 o1 o2 lines o' new l grown is =
        leads_on left input_faults held output_faults i0 i1 i1 o0 o1 o2 _ _ _ (text_leads i0 i1 o0 o1 new l) (leads_put left input_faults held output_faults i1 o1 o2 lines _ _ (λ u rest. is l.bytes rest) grown)

    -- or a prefix of them
    closes_cut : (i0 i1 : S) (o0 o1 o2 : K) (lines : List ℕ) (new : Onward Telling) (next : Telling → List ℕ → Audited) (e : DecodeError) → output_faults o0 ≤ output_faults o1 → input_faults i0 ≤ input_faults i1
        → LeadsTo (input i0 i1) (output o0 o1) From new → Cuts lines (output o1 o2) e → ((bytes rest : List ℕ) → new (with_text bytes rest) rest ≡ then_comes lines (next (with_text bytes rest) rest)) → Stops (input i0 i1) (output o0 o2) Old e
    closes_cut i0 i1 o0 o1 o2 lines new next e outs ins l cut is =
        stops_on left input_faults held output_faults i0 i1 i1 o0 o1 o2 _ _ e ins outs (text_leads i0 i1 o0 o1 new l)
        (stops_put left input_faults held output_faults i1 o1 o2 lines _ (λ u rest. next (with_text l.bytes rest) rest) e (λ u rest. is l.bytes rest) cut)

    -- they are put, and another text follows
    goes : (i0 i1 : S) (o0 o1 o2 : K) (lines : List ℕ) (asked' : Asked) (o' : Outcome) (c' : Cutting) (new : Onward Telling) → (l : LeadsTo (input i0 i1) (output o0 o1) From new) → Grows (held o1) lines (held o2)
        → c'.place + length c'.unread ≡ (c.place + length c.unread) + length l.bytes → (c.place < c'.place) ⊎ ((later ≡ false) × (c.place ≤ c'.place)) → c'.failed ≡ false
        → ((rest : List ℕ) → left i1 ≡ Some rest → new (with_text l.bytes rest) rest ≡ then_comes lines (texts_told (number l.bytes + length rest) asked' true o'.ending o'.totals c'.place (c'.unread ++ rest)))
        → GoesOn (input i0 i1) (output o0 o2) Old asked' later o' c c'
    goes i0 i1 o0 o1 o2 lines asked' o' c' new l grown place some going is = record {
      number = number l.bytes;
      enough = enough_then later n (length c.unread) (length c'.unread) c.place c'.place (length l.bytes) room some place;
      leads = record {
        bytes = l.bytes;
        moved = l.moved;
        lines = l.lines ++ lines;
        grown = grows_on l.grown grown;
        told = λ rest e u.
            begins l.bytes rest
            ∙ l.told rest e (with_text l.bytes rest)
            ∙ ap (then_comes l.lines) (is rest e)
            ∙ both_come l.lines lines (texts_told (number l.bytes + length rest) asked' true o'.ending o'.totals c'.place (c'.unread ++ rest));
      };
      onward = some;
      going = going;
    }

    -- ---- it stops

    abbrev stopped_with : Auditing → Ending → Outcome
    stopped_with a ending = record { totals = counted_with o.totals (stopped a); ending = first_ending o.ending ending }

    -- by a limit
    passes : (i0 i1 : S) (o0 o1 o2 : K) (a : Auditing) (l : Limit) (ending : Ending) (o' : Outcome) → endings.Limit (limit_kind l) ≡ ending → o' ≡ stopped_with a ending → LeadsTo (input i0 i1) (output o0 o1) From (λ x rest. by_limit x a l)
        → Grows (held o1) (stopping_text o.totals a ending) (held o2) → LeadsTo (input i0 i1) (output o0 o2) Old (total_from o')
    passes i0 i1 o0 o1 o2 a l ending o' by is leads grown =
        closes i0 i1 o0 o1 o2 (stopping_text o.totals a ending) o' _ leads grown
        (λ bytes rest.
        ap (λ (e : Ending). then_comes (stopping_text o.totals a e) (totalled (stopped_with a e).totals (stopped_with a e).ending)) by
        ∙ ap (λ (y : Outcome). then_comes (stopping_text o.totals a ending) (totalled y.totals y.ending)) (sym is))

    -- by a fault
    goes_on : (i0 i1 : S) (o0 o1 o2 : K) (a : Auditing) (c' : Cutting) (f : Fault) (ending : Ending) (asked' : Asked) (o' : Outcome) → endings.Fault f ≡ ending → o' ≡ stopped_with a ending → asked' ≡ asked_behind asked (stopped a) → HasFault (input i0 i1) (output o0 o1) From later c a c' f
        → Grows (held o1) (stopping_text o.totals a ending) (held o2) → GoesOn (input i0 i1) (output o0 o2) Old asked' later o' c c'
    goes_on i0 i1 o0 o1 o2 a c' f ending asked' o' by is behind s grown =
        goes i0 i1 o0 o1 o2 (stopping_text o.totals a ending) asked' o' c' _ s.leads grown s.place s.some s.going
        (λ rest e.
        let bytes = s.leads.bytes in
        let k : ℕ = number bytes + length rest in
        let lines = stopping_text o.totals a ending in
        let text : s.pieces rest ++ text_after (text_with bytes rest) ≡ c'.unread ++ rest = ap (λ (t : List ℕ). s.pieces rest ++ t) (after_by c.begun c.ended c.unread (bytes ++ rest) begun ended_not) ∙ s.text rest e in
        ap
        (λ (e : Ending). then_comes (stopping_text o.totals a e) (texts_told k (asked_behind asked (stopped a)) true (stopped_with a e).ending (stopped_with a e).totals c'.place (s.pieces rest ++ text_after (text_with bytes rest))))
        by
        ∙ ap (λ (t : List ℕ). then_comes lines (texts_told k (asked_behind asked (stopped a)) true (stopped_with a ending).ending (stopped_with a ending).totals c'.place t)) text
        ∙ ap (λ (y : Outcome). then_comes lines (texts_told k (asked_behind asked (stopped a)) true y.ending y.totals c'.place (c'.unread ++ rest))) (sym is)
        ∙ ap (λ (z : Asked). then_comes lines (texts_told k z true o'.ending o'.totals c'.place (c'.unread ++ rest))) (sym behind))

    pub stopped_text : (i0 i1 : S) (o0 o1 o2 : K) (a : Auditing) (asked' : Asked) (o' : Outcome) (c' : Cutting) (e : DecodeError) (ending : Ending) → as_ending e ≡ Ok ending → TextStops (input i0 i1) (output o0 o1) From later c a c' e
        → Grows (held o1) (stopping_text o.totals a ending) (held o2) → o' ≡ stopped_with a ending → asked' ≡ asked_behind asked (stopped a) → TextTold (input i0 i1) (output o0 o2) Old asked' later o' c c' (is_fault ending)
    unfolding as_ending limit_kind
    stopped_text i0 i1 o0 o1 o2 a asked' o' c' errors.Read ending by s grown is behind = absurd cc
    stopped_text i0 i1 o0 o1 o2 a asked' o' c' errors.Write ending by s grown is behind = absurd cc
    stopped_text i0 i1 o0 o1 o2 a asked' o' c' (errors.Stream f) ending by s grown is behind =
        let same : endings.Fault f ≡ ending = cc in
        subst (λ (z : Ending). TextTold (input i0 i1) (output o0 o2) Old asked' later o' c c' (is_fault z)) same (goes_on i0 i1 o0 o1 o2 a c' f ending asked' o' same is behind s grown)
    stopped_text i0 i1 o0 o1 o2 a asked' o' c' errors.TooLong ending by s grown is behind =
        let same : endings.Limit (limit_kind too_long) ≡ ending = cc in
        subst (λ (z : Ending). TextTold (input i0 i1) (output o0 o2) Old asked' later o' c c' (is_fault z)) same (passes i0 i1 o0 o1 o2 a too_long ending o' same is s grown)
    stopped_text i0 i1 o0 o1 o2 a asked' o' c' errors.PictureTooLarge ending by s grown is behind =
        let same : endings.Limit (limit_kind too_large) ≡ ending = cc in
        subst (λ (z : Ending). TextTold (input i0 i1) (output o0 o2) Old asked' later o' c c' (is_fault z)) same (passes i0 i1 o0 o1 o2 a too_large ending o' same is s grown)
    stopped_text i0 i1 o0 o1 o2 a asked' o' c' errors.Memory ending by s grown is behind = absurd cc

    passes_cut : (i0 i1 : S) (o0 o1 o2 : K) (a : Auditing) (l : Limit) (ending : Ending) (e : DecodeError) → output_faults o0 ≤ output_faults o1 → input_faults i0 ≤ input_faults i1 → endings.Limit (limit_kind l) ≡ ending
        → LeadsTo (input i0 i1) (output o0 o1) From (λ x rest. by_limit x a l) → Cuts (stopping_text o.totals a ending) (output o1 o2) e → Stops (input i0 i1) (output o0 o2) Old e
    passes_cut i0 i1 o0 o1 o2 a l ending e outs ins by leads cut =
        closes_cut i0 i1 o0 o1 o2 (stopping_text o.totals a ending) _ (λ x rest. totalled (stopped_with a ending).totals (stopped_with a ending).ending) e outs ins leads cut
        (λ bytes rest. ap (λ (e : Ending). then_comes (stopping_text o.totals a e) (totalled (stopped_with a e).totals (stopped_with a e).ending)) by)

    goes_cut : (i0 i1 : S) (o0 o1 o2 : K) (a : Auditing) (c' : Cutting) (f : Fault) (ending : Ending) (e : DecodeError) → output_faults o0 ≤ output_faults o1 → input_faults i0 ≤ input_faults i1 → endings.Fault f ≡ ending
        → HasFault (input i0 i1) (output o0 o1) From later c a c' f → Cuts (stopping_text o.totals a ending) (output o1 o2) e → Stops (input i0 i1) (output o0 o2) Old e
    goes_cut i0 i1 o0 o1 o2 a c' f ending e outs ins by s cut =
        closes_cut i0 i1 o0 o1 o2 (stopping_text o.totals a ending) _ (λ x rest. x.onward (stopped_with a ending).ending (stopped a) c'.place (s.pieces rest)) e outs ins s.leads cut
        (λ bytes rest. ap (λ (e : Ending). then_comes (stopping_text o.totals a e) ((with_text bytes rest).onward (stopped_with a e).ending (stopped a) c'.place (s.pieces rest))) by)

    pub stopped_cut : (i0 i1 : S) (o0 o1 o2 : K) (a : Auditing) (c' : Cutting) (e e' : DecodeError) (ending : Ending) → output_faults o0 ≤ output_faults o1 → input_faults i0 ≤ input_faults i1 → as_ending e ≡ Ok ending → TextStops (input i0 i1) (output o0 o1) From later c a c' e
        → Cuts (stopping_text o.totals a ending) (output o1 o2) e' → Stops (input i0 i1) (output o0 o2) Old e'
    unfolding as_ending limit_kind
    stopped_cut i0 i1 o0 o1 o2 a c' errors.Read e' ending outs ins by s off = absurd cc
    stopped_cut i0 i1 o0 o1 o2 a c' errors.Write e' ending outs ins by s off = absurd cc
    stopped_cut i0 i1 o0 o1 o2 a c' (errors.Stream f) e' ending outs ins by s off = let same : endings.Fault f ≡ ending = cc in goes_cut i0 i1 o0 o1 o2 a c' f ending e' outs ins same s off
    stopped_cut i0 i1 o0 o1 o2 a c' errors.TooLong e' ending outs ins by s off = let same : endings.Limit (limit_kind too_long) ≡ ending = cc in passes_cut i0 i1 o0 o1 o2 a too_long ending e' outs ins same s off
    stopped_cut i0 i1 o0 o1 o2 a c' errors.PictureTooLarge e' ending outs ins by s off = let same : endings.Limit (limit_kind too_large) ≡ ending = cc in passes_cut i0 i1 o0 o1 o2 a too_large ending e' outs ins same s off
    stopped_cut i0 i1 o0 o1 o2 a c' errors.Memory e' ending outs ins by s off = absurd cc

    -- ---- it is skipped

    pub skipped_all : (i0 i1 : S) (o0 o1 o2 : K) (a : Auditing) (c' : Cutting) → IsTextRead (input i0 i1) (output o0 o1) later (nothing o.totals.sequences asked c.place) c true a c'
        → Grows (held o1) (skipped_text o.totals.sequences c.place (c'.place - c.place)) (held o2) → LeadsTo (input i0 i1) (output o0 o2) Old (total_from o)
    skipped_all i0 i1 o0 o1 o2 a c' r grown = closes i0 i1 o0 o1 o2 (skipped_text o.totals.sequences c.place (c'.place - c.place)) o _ r.leads grown (λ bytes rest. refl)

    pub skipped_cut : (i0 i1 : S) (o0 o1 o2 : K) (a : Auditing) (c' : Cutting) (e : DecodeError) → output_faults o0 ≤ output_faults o1 → input_faults i0 ≤ input_faults i1 → IsTextRead (input i0 i1) (output o0 o1) later (nothing o.totals.sequences asked c.place) c true a c'
        → Cuts (skipped_text o.totals.sequences c.place (c'.place - c.place)) (output o1 o2) e → Stops (input i0 i1) (output o0 o2) Old e
    skipped_cut i0 i1 o0 o1 o2 a c' e outs ins r cut =
        closes_cut i0 i1 o0 o1 o2 (skipped_text o.totals.sequences c.place (c'.place - c.place)) _ (λ x rest. totalled x.totals x.so_far) e outs ins r.leads cut (λ bytes rest. refl)

    -- ---- its sequence ends

    pub ended_cut : (i0 i1 : S) (o0 o1 o2 : K) (a : Auditing) (c' : Cutting) (e : DecodeError) → output_faults o0 ≤ output_faults o1 → input_faults i0 ≤ input_faults i1 → IsTextRead (input i0 i1) (output o0 o1) later (nothing o.totals.sequences asked c.place) c false a c'
        → Cuts (ended a).report.text (output o1 o2) e → Stops (input i0 i1) (output o0 o2) Old e
    ended_cut i0 i1 o0 o1 o2 a c' e outs ins r cut = closes_cut i0 i1 o0 o1 o2 (ended a).report.text _ (λ x rest. x.next (ended a) c'.place) e outs ins r.leads cut (λ bytes rest. refl)

    pub ended_text : (i0 i1 : S) (o0 o1 o2 : K) (a : Auditing) (asked' : Asked) (o' : Outcome) (c' : Cutting) → IsTextRead (input i0 i1) (output o0 o1) later (nothing o.totals.sequences asked c.place) c false a c' → c'.failed ≡ false
        → Grows (held o1) (ended a).report.text (held o2) → o' ≡ record o { totals = counted_with o.totals (ended a) } → asked' ≡ asked_behind asked (ended a)
        → GoesOn (input i0 i1) (output o0 o2) Old asked' later o' c c'
    ended_text i0 i1 o0 o1 o2 a asked' o' c' r going grown is behind =
        goes i0 i1 o0 o1 o2 (ended a).report.text asked' o' c' _ r.leads grown r.place (inl (r.some refl)) going
        (λ rest e.
        let bytes = r.leads.bytes in
        let k : ℕ = number bytes + length rest in
        let lines = (ended a).report.text in
        let text : text_after (text_with bytes rest) ≡ c'.unread ++ rest = after_by c.begun c.ended c.unread (bytes ++ rest) begun ended_not ∙ r.text rest e in
        ap (λ (t : List ℕ). then_comes lines (texts_told k (asked_behind asked (ended a)) true o.ending (counted_with o.totals (ended a)) c'.place t)) text
        ∙ ap (λ (y : Outcome). then_comes lines (texts_told k (asked_behind asked (ended a)) true y.ending y.totals c'.place (c'.unread ++ rest))) (sym is)
        ∙ ap (λ (z : Asked). then_comes lines (texts_told k z true o'.ending o'.totals c'.place (c'.unread ++ rest))) (sym behind))
