-- The report on its way: one part after another.
use Rattle.std.proofs.Common.{◌≡◌, ℕ, ◌≤◌, List, [], ◌++◌, Option, Result, Ok, Err, refl, sym, ap, subst, ◌∙◌, append_assoc}
use Rattle.std.specs.Prelude.{IfErr}
use Rattle.m2v_port.specs.Ends.{Change, change}
use Rattle.m2v_port.specs.Port.{Moves, Grows, GrowsByPrefix}
use Rattle.m2v_port.proofs.Runs.{rose_since, moves_on, moves_nothing, grows_on, grows_by_nothing, grows_by_none, prefix_on, prefix_of_more}
use Rattle.m2v_dec_piece.specs.declared.answer.DecodeError.{DecodeError}
use Rattle.m2v_dec_piece.specs.declared.answer.DecodeError.TheVariants as errors
use Rattle.m2v_strict.specs.m2v_check.m2v_decode.Progress.{Cuts}
use Rattle.m2v_strict.proofs.m2v_check.m2v_decode.Going.{moved_some}
use Rattle.m2v_audit.specs.Audited.{Audited, then_comes}
use Rattle.m2v_audit.specs.Leading.{Onward, LeadsTo, IsCut, Stops}

-- lines behind lines
pub both_come : (xs ys : List ℕ) (x : Audited) → then_comes xs (then_comes ys x) ≡ then_comes (xs ++ ys) x
both_come xs ys x = ap (λ (r : List ℕ). record { report = r; outcome = x.outcome }) (sym (append_assoc xs ys x.report))

-- the first line of a text
pub first_line : (xs none line : List ℕ) → xs ≡ none ++ line → none ≡ [] → xs ≡ line
first_line xs none line is empty = is ∙ ap (λ (t : List ℕ). t ++ line) empty

module _ {K : Type 0} (held : K → Option (List ℕ)) (output_faults : K → ℕ) where
  abbrev put : K → K → Change
  put = change held output_faults

  -- lines put behind others, or a prefix of them
  pub cuts_on : (o0 o1 o2 : K) (xs ys : List ℕ) (e : DecodeError) → output_faults o0 ≤ output_faults o1 → Grows (held o0) xs (held o1) → Cuts ys (put o1 o2) e → Cuts (xs ++ ys) (put o0 o2) e
  cuts_on o0 o1 o2 xs ys errors.Read le g c = c
  cuts_on o0 o1 o2 xs ys errors.Write le g c = (rose_since le c.0, prefix_on g c.1)
  cuts_on o0 o1 o2 xs ys (errors.Stream f) le g c = c
  cuts_on o0 o1 o2 xs ys errors.TooLong le g c = c
  cuts_on o0 o1 o2 xs ys errors.PictureTooLarge le g c = c
  cuts_on o0 o1 o2 xs ys errors.Memory le g c = prefix_on g c

  pub cuts_after : (result : Result (Unit {0}) DecodeError) (o0 o1 o2 : K) (xs ys xs' ys' : List ℕ) → output_faults o0 ≤ output_faults o1 → Grows (held o0) xs (held o1) → xs ≡ xs' → ys ≡ ys'
      → IfErr result (Cuts ys (put o1 o2)) → IfErr result (Cuts (xs' ++ ys') (put o0 o2))
  cuts_after (Ok done) o0 o1 o2 xs ys xs' ys' le grown is_xs is_ys cut = tt
  cuts_after (Err e) o0 o1 o2 xs ys xs' ys' le grown is_xs is_ys cut =
      cuts_on o0 o1 o2 xs' ys' e le (subst (λ (l : List ℕ). Grows (held o0) l (held o1)) is_xs grown) (subst (λ (l : List ℕ). Cuts l (put o1 o2) e) is_ys cut)

module _ {S K : Type 0} (left : S → Option (List ℕ)) (input_faults : S → ℕ) (held : K → Option (List ℕ)) (output_faults : K → ℕ) where
  abbrev input : S → S → Change
  input = change left input_faults

  abbrev output : K → K → Change
  output = change held output_faults

  module _ {X : Type 0} where
    unfoldable pub leads_none : (i0 : S) (o0 : K) (a : Onward X) → LeadsTo (input i0 i0) (output o0 o0) a a
    leads_none i0 o0 a = record {
      bytes = [];
      moved = moves_nothing (left i0);
      lines = [];
      grown = grows_by_nothing (held o0);
      told = λ rest e x. refl;
    }

    unfoldable pub leads_on : (i0 i1 i2 : S) (o0 o1 o2 : K) (a b c : Onward X) → LeadsTo (input i0 i1) (output o0 o1) a b → LeadsTo (input i1 i2) (output o1 o2) b c → LeadsTo (input i0 i2) (output o0 o2) a c
    leads_on i0 i1 i2 o0 o1 o2 a b c f s = record {
      bytes = f.bytes ++ s.bytes;
      moved = moves_on f.moved s.moved;
      lines = f.lines ++ s.lines;
      grown = grows_on f.grown s.grown;
      told = λ rest e x.
          ap (a x) (append_assoc f.bytes s.bytes rest)
          ∙ f.told (s.bytes ++ rest) (moved_some (left i1) (left i2) s.bytes rest s.moved e) x
          ∙ ap (then_comes f.lines) (s.told rest e x)
          ∙ both_come f.lines s.lines (c x rest);
    }

    -- a prefix of what comes behind is one of the whole
    pub leads_cut : (i0 i1 i2 : S) (o0 o1 o2 : K) (a b : Onward X) → LeadsTo (input i0 i1) (output o0 o1) a b → IsCut (input i1 i2) (output o1 o2) b → IsCut (input i0 i2) (output o0 o2) a
    leads_cut i0 i1 i2 o0 o1 o2 a b f s = record {
      bytes = f.bytes ++ s.bytes;
      moved = moves_on f.moved s.moved;
      told = λ rest e x.
          let is : a x ((f.bytes ++ s.bytes) ++ rest) ≡ then_comes f.lines (b x (s.bytes ++ rest)) =
          ap (a x) (append_assoc f.bytes s.bytes rest) ∙ f.told (s.bytes ++ rest) (moved_some (left i1) (left i2) s.bytes rest s.moved e) x in
          subst (λ (y : Audited). GrowsByPrefix (held o0) y.report (held o2)) (sym is) (prefix_on f.grown (s.told rest e x));
    }

    -- nothing was put behind some bytes
    pub cut_here : (i0 i1 : S) (o0 : K) (bytes : List ℕ) (a : Onward X) → Moves (left i0) bytes (left i1) → IsCut (input i0 i1) (output o0 o0) a
    cut_here i0 i1 o0 bytes a moved = record {
      bytes = bytes;
      moved = moved;
      told = λ rest e x. grows_by_none (a x (bytes ++ rest)).report;
    }

    -- the sink holds what it held
    pub cut_there : (i0 i1 : S) (o0 o1 : K) (bytes : List ℕ) (a : Onward X) → Moves (left i0) bytes (left i1) → held o1 ≡ held o0 → IsCut (input i0 i1) (output o0 o1) a
    cut_there i0 i1 o0 o1 bytes a moved same = record {
      bytes = bytes;
      moved = moved;
      told = λ rest e x. subst (λ (h : Option (List ℕ)). GrowsByPrefix (held o0) (a x (bytes ++ rest)).report h) (sym same) (grows_by_none (a x (bytes ++ rest)).report);
    }

    -- lines were put
    pub leads_put : (i0 : S) (o0 o1 : K) (lines : List ℕ) (a b : Onward X) → ((x : X) (rest : List ℕ) → a x rest ≡ then_comes lines (b x rest)) → Grows (held o0) lines (held o1) → LeadsTo (input i0 i0) (output o0 o1) a b
    leads_put i0 o0 o1 lines a b is grown = record {
      bytes = [];
      moved = moves_nothing (left i0);
      lines = lines;
      grown = grown;
      told = λ rest e x. is x rest;
    }

    cut_put : (i0 : S) (o0 o1 : K) (lines : List ℕ) (a b : Onward X) → ((x : X) (rest : List ℕ) → a x rest ≡ then_comes lines (b x rest)) → GrowsByPrefix (held o0) lines (held o1) → IsCut (input i0 i0) (output o0 o1) a
    cut_put i0 o0 o1 lines a b is grown = record {
      bytes = [];
      moved = moves_nothing (left i0);
      told = λ rest e x. subst (λ (y : Audited). GrowsByPrefix (held o0) y.report (held o1)) (sym (is x rest)) (prefix_of_more grown (b x rest).report);
    }

    -- or a prefix of them
    pub stops_put : (i0 : S) (o0 o1 : K) (lines : List ℕ) (a b : Onward X) (e : DecodeError) → ((x : X) (rest : List ℕ) → a x rest ≡ then_comes lines (b x rest)) → Cuts lines (output o0 o1) e → Stops (input i0 i0) (output o0 o1) a e
    stops_put i0 o0 o1 lines a b errors.Read is c = absurd c
    stops_put i0 o0 o1 lines a b errors.Write is c = (c.0, cut_put i0 o0 o1 lines a b is c.1)
    stops_put i0 o0 o1 lines a b (errors.Stream f) is c = c
    stops_put i0 o0 o1 lines a b errors.TooLong is c = c
    stops_put i0 o0 o1 lines a b errors.PictureTooLarge is c = c
    stops_put i0 o0 o1 lines a b errors.Memory is c = cut_put i0 o0 o1 lines a b is c

    pub stops_on : (i0 i1 i2 : S) (o0 o1 o2 : K) (a b : Onward X) (e : DecodeError) → input_faults i0 ≤ input_faults i1 → output_faults o0 ≤ output_faults o1 → LeadsTo (input i0 i1) (output o0 o1) a b
        → Stops (input i1 i2) (output o1 o2) b e → Stops (input i0 i2) (output o0 o2) a e
    stops_on i0 i1 i2 o0 o1 o2 a b errors.Read ins outs f s = (rose_since ins s.0, leads_cut i0 i1 i2 o0 o1 o2 a b f s.1)
    stops_on i0 i1 i2 o0 o1 o2 a b errors.Write ins outs f s = (rose_since outs s.0, leads_cut i0 i1 i2 o0 o1 o2 a b f s.1)
    stops_on i0 i1 i2 o0 o1 o2 a b (errors.Stream g) ins outs f s = s
    stops_on i0 i1 i2 o0 o1 o2 a b errors.TooLong ins outs f s = s
    stops_on i0 i1 i2 o0 o1 o2 a b errors.PictureTooLarge ins outs f s = s
    stops_on i0 i1 i2 o0 o1 o2 a b errors.Memory ins outs f s = leads_cut i0 i1 i2 o0 o1 o2 a b f s
