-- The texts of an input on their way, and the whole report.
use Rattle.std.specs.Prelude.{if◌then◌else◌}
use Rattle.std.proofs.Common.{◌≡◌, ◌⊎◌, inl, inr, ℕ, ◌+◌, ◌-◌, ◌^◌, ◌<◌, ◌≤◌, Bool, false, true, List, [], ◌++◌, length, Option, refl, sym, ap, subst, arith}
use Rattle.m2v_port.specs.Ends.{Change, change}
use Rattle.m2v_port.specs.Port.{Grows}
use Rattle.m2v_port.proofs.Runs.{rose_since, moves_nothing, grows_on, prefix_on, prefix_of_more}
use Rattle.m2v_dec_piece.specs.declared.answer.DecodeError.{DecodeError}
use Rattle.m2v_dec_piece.specs.declared.answer.DecodeError.TheVariants as errors
use Rattle.m2v_dec_piece.specs.Cutting.{Cutting}
use Rattle.m2v_dec_piece.specs.Texts.{anew}
use Rattle.m2v_strict.specs.m2v_check.m2v_decode.Answers.{OfText}
use Rattle.m2v_strict.specs.m2v_check.m2v_decode.Progress.{Cuts, before_all}
use Rattle.m2v_audit.specs.declared.outcome.Outcome.{Outcome}
use Rattle.m2v_audit.specs.Lines.{audit_line, columns_lines, total_line}
use Rattle.m2v_audit.specs.Audited.{Audited, then_comes, none_told, audited}
use Rattle.m2v_audit.specs.Leading.{Onward, LeadsTo, IsCut, Stops, IsEnough, GoesOn, texts_from, total_from, IsAudited, IsBegun, Fails}
use Rattle.m2v_audit.proofs.LeadLaws.{leads_none, leads_on, cut_here, stops_on}
use Rattle.m2v_audit.specs.declared.asked.Asked.{Asked}
use Rattle.m2v_strict.specs.RuleSets.{name_of}

-- what is told of the input
abbrev pub all_from : Asked → Onward (Unit {0})
all_from asked = texts_from 2 asked false none_told before_all

-- the texts so far were told; behind them this is asked
pub record TextsSoFar (left held : Change) (asked now : Asked) (later : Bool) (o : Outcome) (c : Cutting) : Type 0 where
  pub number : ℕ
  pub enough : IsEnough later number (length c.unread)
  pub leads : LeadsTo left held (all_from asked) (texts_from number now later o c)

-- a later text that follows begins further on, the one behind the first text no less far
abbrev pub IsFurther : Bool → ℕ → ℕ → Type 0
IsFurther later place place' = place + (if later then 1 else 0) ≤ place'

further : (later : Bool) (place place' : ℕ) → (place < place') ⊎ ((later ≡ false) × (place ≤ place')) → IsFurther later place place'
further true place place' (inl lt) = omega (arith, lt)
further false place place' (inl lt) = omega (arith, lt)
further true place place' (inr first) = let off = first.0 in absurd cc
further false place place' (inr first) = let le = first.1 in omega (arith, le)

pub smaller : (later : Bool) (place place' end : ℕ) → IsFurther later place place' → end ≡ place' → place ≤ 2 ^ 36 → 2 ^ 36 + 1 - end + 0 < 2 ^ 36 + 1 - place + (if later then 0 else 1)
smaller true place place' end far is most = omega (arith, far, is, most)
smaller false place place' end far is most = omega (arith, far, is, most)

module _ {S K : Type 0} (left : S → Option (List ℕ)) (input_faults : S → ℕ) (held : K → Option (List ℕ)) (output_faults : K → ℕ) where
  abbrev input : S → S → Change
  input = change left input_faults

  abbrev output : K → K → Change
  output = change held output_faults

  pub texts_none : (i0 : S) (o0 : K) (asked : Asked) → TextsSoFar (input i0 i0) (output o0 o0) asked asked false none_told before_all
  texts_none i0 o0 asked = record { number = 2; enough = omega arith; leads = leads_none left input_faults held output_faults i0 o0 (all_from asked) }

  pub texts_more : (i0 i1 i2 : S) (o0 o1 o2 : K) (asked now now' : Asked) (later : Bool) (o o' : Outcome) (c c' : Cutting) → TextsSoFar (input i0 i1) (output o0 o1) asked now later o c
      → ((n : ℕ) → IsEnough later n (length c.unread) → GoesOn (input i1 i2) (output o1 o2) (texts_from n now later o c) now' later o' c c') → TextsSoFar (input i0 i2) (output o0 o2) asked now' true o' (anew c')
  texts_more i0 i1 i2 o0 o1 o2 asked now now' later o o' c c' so goes =
      let g = goes so.number so.enough in
      record { number = g.number; enough = g.enough; leads = leads_on left input_faults held output_faults i0 i1 i2 o0 o1 o2 _ _ _ so.leads g.leads }

  pub texts_far : (i0 i1 i2 : S) (o0 o1 o2 : K) (asked now now' : Asked) (later : Bool) (o o' : Outcome) (c c' : Cutting) → TextsSoFar (input i0 i1) (output o0 o1) asked now later o c
      → ((n : ℕ) → IsEnough later n (length c.unread) → GoesOn (input i1 i2) (output o1 o2) (texts_from n now later o c) now' later o' c c') → IsFurther later c.place c'.place × (c'.failed ≡ false)
  texts_far i0 i1 i2 o0 o1 o2 asked now now' later o o' c c' so goes = let g = goes so.number so.enough in (further later c.place c'.place g.onward, g.going)

  pub texts_end : (i0 i1 i2 : S) (o0 o1 o2 : K) (asked now : Asked) (later : Bool) (o o' : Outcome) (c : Cutting) → TextsSoFar (input i0 i1) (output o0 o1) asked now later o c
      → ((n : ℕ) → IsEnough later n (length c.unread) → LeadsTo (input i1 i2) (output o1 o2) (texts_from n now later o c) (total_from o')) → LeadsTo (input i0 i2) (output o0 o2) (all_from asked) (total_from o')
  texts_end i0 i1 i2 o0 o1 o2 asked now later o o' c so ends = leads_on left input_faults held output_faults i0 i1 i2 o0 o1 o2 _ _ _ so.leads (ends so.number so.enough)

  pub texts_stop : (i0 i1 i2 : S) (o0 o1 o2 : K) (asked now : Asked) (later : Bool) (o : Outcome) (c : Cutting) (e : DecodeError) → input_faults i0 ≤ input_faults i1 → output_faults o0 ≤ output_faults o1 → TextsSoFar (input i0 i1) (output o0 o1) asked now later o c
      → ((n : ℕ) → IsEnough later n (length c.unread) → Stops (input i1 i2) (output o1 o2) (texts_from n now later o c) e) → Stops (input i0 i2) (output o0 o2) (all_from asked) e
  texts_stop i0 i1 i2 o0 o1 o2 asked now later o c e ins outs so stops = stops_on left input_faults held output_faults i0 i1 i2 o0 o1 o2 _ _ e ins outs so.leads (stops so.number so.enough)

  -- ---- the whole

  module _ (asked : Asked) where
    abbrev head : List ℕ
    head = audit_line (name_of asked.rules) ++ columns_lines

    whole_is : (text : List ℕ) → audited asked text ≡ then_comes head (all_from asked tt text)
    whole_is text = refl

    cut_off : (i0 i1 : S) (o0 o1 o2 : K) → Grows (held o0) head (held o1) → IsCut (input i0 i1) (output o1 o2) (all_from asked) → OfText (input i0 i1) (λ text. IsBegun asked text (output o0 o2))
    cut_off i0 i1 o0 o1 o2 begun k = record {
      bytes = k.bytes;
      moved = k.moved;
      told = λ rest e. record { grown = prefix_on begun (k.told rest e tt) };
    }

    -- the first lines weren't written whole
    pub head_fails : (i0 : S) (o0 o1 : K) (e : DecodeError) → Cuts head (output o0 o1) e → Fails asked (input i0 i0) (output o0 o1) e
    head_fails i0 o0 o1 errors.Read c = absurd c
    head_fails i0 o0 o1 errors.Write c = (c.0, record { bytes = []; moved = moves_nothing (left i0); told = λ rest e. record { grown = prefix_of_more c.1 (all_from asked tt rest).report } })
    head_fails i0 o0 o1 (errors.Stream f) c = c
    head_fails i0 o0 o1 errors.TooLong c = c
    head_fails i0 o0 o1 errors.PictureTooLarge c = c
    head_fails i0 o0 o1 errors.Memory c = record { bytes = []; moved = moves_nothing (left i0); told = λ rest e. record { grown = prefix_of_more c (all_from asked tt rest).report } }

    -- the texts weren't told whole
    pub texts_fail : (i0 i1 : S) (o0 o1 o2 : K) (e : DecodeError) → output_faults o0 ≤ output_faults o1 → Grows (held o0) head (held o1) → Stops (input i0 i1) (output o1 o2) (all_from asked) e → Fails asked (input i0 i1) (output o0 o2) e
    texts_fail i0 i1 o0 o1 o2 errors.Read outs begun s = (s.0, cut_off i0 i1 o0 o1 o2 begun s.1)
    texts_fail i0 i1 o0 o1 o2 errors.Write outs begun s = (rose_since outs s.0, cut_off i0 i1 o0 o1 o2 begun s.1)
    texts_fail i0 i1 o0 o1 o2 (errors.Stream f) outs begun s = s
    texts_fail i0 i1 o0 o1 o2 errors.TooLong outs begun s = s
    texts_fail i0 i1 o0 o1 o2 errors.PictureTooLarge outs begun s = s
    texts_fail i0 i1 o0 o1 o2 errors.Memory outs begun s = cut_off i0 i1 o0 o1 o2 begun s

    -- memory ran out before the first text
    pub none_read : (i0 : S) (o0 o1 : K) → Grows (held o0) head (held o1) → Fails asked (input i0 i0) (output o0 o1) errors.Memory
    none_read i0 o0 o1 begun = cut_off i0 i0 o0 o1 o1 begun (cut_here left input_faults held output_faults i0 i0 o1 [] (all_from asked) (moves_nothing (left i0)))

    total_stops : (i1 : S) (o2 o3 : K) (o : Outcome) (e : DecodeError) → Cuts (total_line o.totals) (output o2 o3) e → Stops (input i1 i1) (output o2 o3) (total_from o) e
    total_stops i1 o2 o3 o errors.Read c = absurd c
    total_stops i1 o2 o3 o errors.Write c = (c.0, record { bytes = []; moved = moves_nothing (left i1); told = λ rest e x. c.1 })
    total_stops i1 o2 o3 o (errors.Stream f) c = c
    total_stops i1 o2 o3 o errors.TooLong c = c
    total_stops i1 o2 o3 o errors.PictureTooLarge c = c
    total_stops i1 o2 o3 o errors.Memory c = record { bytes = []; moved = moves_nothing (left i1); told = λ rest e x. c }

    -- the last line wasn't written whole
    pub total_fails : (i0 i1 : S) (o0 o1 o2 o3 : K) (o : Outcome) (e : DecodeError) → input_faults i0 ≤ input_faults i1 → output_faults o0 ≤ output_faults o1 → output_faults o1 ≤ output_faults o2 → Grows (held o0) head (held o1)
        → LeadsTo (input i0 i1) (output o1 o2) (all_from asked) (total_from o) → Cuts (total_line o.totals) (output o2 o3) e → Fails asked (input i0 i1) (output o0 o3) e
    total_fails i0 i1 o0 o1 o2 o3 o e ins outs more begun l c =
        texts_fail i0 i1 o0 o1 o3 e outs begun (stops_on left input_faults held output_faults i0 i1 i1 o1 o2 o3 _ _ e ins more l (total_stops i1 o2 o3 o e c))

    -- all was told
    pub all_told : (i0 i1 : S) (o0 o1 o2 o3 : K) (o : Outcome) → Grows (held o0) head (held o1) → LeadsTo (input i0 i1) (output o1 o2) (all_from asked) (total_from o) → Grows (held o2) (total_line o.totals) (held o3)
        → OfText (input i0 i1) (λ text. IsAudited asked text (output o0 o3) (o))
    all_told i0 i1 o0 o1 o2 o3 o begun l done = record {
      bytes = l.bytes;
      moved = l.moved;
      told = λ rest e.
          let is = l.told rest e tt in
          record {
            grown = subst (λ (y : Audited). Grows (held o0) (head ++ y.report) (held o3)) (sym is) (grows_on begun (grows_on l.grown done));
            outcome = ap (λ (y : Audited). y.outcome) (sym is);
          };
    }
