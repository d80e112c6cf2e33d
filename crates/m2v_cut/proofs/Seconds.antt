-- The second piece of a group's first frame that couldn't be read.
use Rattle.std.proofs.Common.{◌≡◌, ◌⊎◌, ℕ, ◌+◌, ◌-◌, ◌*◌, ◌<◌, ◌≤◌, Bool, true, false, List, [], ◌∷◌, ◌++◌, length, drop, Option, Some, None, inl, inr, refl, sym, ap, subst, ◌∙◌, append_assoc, arith}
use Rattle.std.specs.Prelude.{nat_eq, nat_lt, is_some, ◌&&◌, if◌then◌else◌}
use Rattle.std.proofs.lemmas.Bool.{cases_Bool, eqb-true}
use Rattle.std.proofs.lemmas.List.{length-append}
use Rattle.m2v_port.specs.Ends.{Change, change}
use Rattle.m2v_port.specs.Port.{Moves, Rose}
use Rattle.m2v_port.proofs.Runs.{moves_on, rose_since}
use Rattle.m2v_model.specs.Units.{Units, cut}
use Rattle.m2v_model.specs.Pieces.{pieces, limit, Limit, too_long, too_large, most_input}
use Rattle.m2v_model.specs.ByPieces.{end_of}
use Rattle.m2v_decode.specs.m2v_dec_piece.declared.answer.DecodeError.{DecodeError}
use Rattle.m2v_decode.specs.m2v_dec_piece.declared.answer.DecodeError.TheVariants as reading
use Rattle.m2v_decode.specs.m2v_dec_piece.Cutting.{Cutting, PieceStops, Passes, left_of, start_of as start_of_rest}
use Rattle.m2v_decode.specs.Decoding.{whole_of}
use Rattle.m2v_decode.specs.Answers.{start_of, AllFit, OfText, OfTaken}
use Rattle.m2v_decode.proofs.Going.{moved_some}
use Rattle.m2v_law_group.specs.Groups.{groups_in, from_group, stream_units, is_standalone}
use Rattle.m2v_cut.specs.declared.answer.CutError.{CutError}
use Rattle.m2v_cut.specs.declared.answer.CutError.TheVariants as errors
use Rattle.m2v_cut.specs.declared.find.Found.{Found}
use Rattle.m2v_cut.specs.declared.start.Start.{Start}
use Rattle.m2v_cut.specs.Answers.{groups_of, units_of, to_group, to_frame, first_picture, picture_structure, is_field, needed, copied, of_pieces, IsPart, IsOver, Fails}
use Rattle.m2v_cut.specs.Progress.{IsFound, ReadOn, all_groups}
use Rattle.m2v_cut.specs.Starts.{IsStart, is_field_number, cut_place, SecondStops, SecondFails}
use Rattle.m2v_cut.proofs.Shapes.{Splits, pieces_split, begins_sequence}
use Rattle.m2v_cut.proofs.Joins.{groups_on}
use Rattle.m2v_cut.proofs.Decided.{At, at_group, decided}
use Rattle.m2v_cut.proofs.Written.{ready}
use Rattle.m2v_cut.proofs.Limits.{lt_true, to_frame_here}
use Rattle.m2v_cut.proofs.Finals.{grows_same, part_none, groups_text, group_reads, over_piece, error_of}
use Rattle.m2v_cut.proofs.Prefixes.{first_splits}
use Rattle.m2v_cut.proofs.Outcomes.{Here, here_at, single_groups}
use Rattle.m2v_cut.proofs.Refusals.{field_is}
use Rattle.m2v_cut.proofs.Stops.{reaches_low, passes_long}

-- ---- a field alone

not_frame : (structure : ℕ) → is_field_number structure ≡ true → nat_eq structure 3 ≡ false
not_frame structure on = elim (cases_Bool (nat_eq structure 3)) [
  | inl three ↦
      let is : structure ≡ 3 = eqb-true structure 3 three in
      let off : true ≡ false = sym on ∙ ap is_field_number is in
      absurd cc
  | inr other ↦ other
]

both_off : (a b c : Bool) → c ≡ false → (a && (b && c)) ≡ false
both_off true true c e = e
both_off true false c e = refl
both_off false b c e = refl

alone_none : (start : Start) → is_field_number (start.first).structure ≡ true → cut_place start None ≡ None
alone_none start on = rw (both_off start.long (start.first).intra (nat_eq (start.first).structure 3) (not_frame (start.first).structure on)) refl

field_there : (found : Option (List ℕ × List ℕ)) (structure : ℕ) → structure ≡ picture_structure found → is_field_number structure ≡ true → found ≡ None → ⊥
field_there found structure is on none =
    let zero : structure ≡ 0 = is ∙ ap picture_structure none in
    let off : true ≡ false = sym on ∙ ap is_field_number zero in
    absurd cc

-- the second piece passes a limit, and nothing was written
pub second_over : (text : List ℕ) (from count taken : ℕ) (held : Change) (f : Found) (q : List ℕ) (qs : List (List ℕ)) (start : Start) (l : Limit) → 1 ≤ count → (h : Here from taken text f [] (q ∷ qs)) → IsStart (cut 0 (whole_of f.piece)).1 f.number start → is_field_number (start.first).structure ≡ true
    → limit (end_of (start_of text) (h.first ++ whole_of f.piece ∷ [])) 0 q ≡ Some l → held.new ≡ held.old → IsOver text from count held (error_of l)
second_over text from count taken held f q qs start l one h is field over same =
    let w : List ℕ = whole_of f.piece in
    let n : ℕ = f.number in
    let us : Units = stream_units text in
    let ps : List (List ℕ) = h.first ++ w ∷ [] in
    let all : pieces text ≡ h.first ++ w ∷ (q ∷ qs) = h.are ∙ append_assoc h.first (w ∷ []) (q ∷ qs) in
    let a : At from n us h.first w (q ∷ qs) = at_group from n us h.first w (q ∷ qs) (subst (λ (x : List (List ℕ)). Splits x us) all (pieces_split text)) h.few h.number h.here in
    let there : nat_lt from (groups_in text) ≡ true = lt_true from (groups_in text) (omega (arith, groups_text text, ap all_groups all, groups_on h.first (w ∷ (q ∷ qs)), h.few, h.number, h.here)) in
    let r = ready from n us h.first w (q ∷ qs) a (field_there (first_picture (drop 1 (from_group n (cut 0 w).1))) (start.first).structure (is.first).structure field) in
    let single : groups_of w ≡ n + 1 = single_groups n w (q ∷ qs) a.back a.rest a.split a.here r.single in
    let grouped = group_reads ps q qs (from + count) (omega (arith, groups_on h.first (w ∷ []), h.few, h.number, single, one)) in
    let framed : to_frame from (pieces text) ≡ ps ++ q ∷ [] = ap (to_frame from) all ∙ to_frame_here h.first w (q ∷ qs) from n true h.few h.number h.here (field_is from n us h.first w (q ∷ qs) start a is ∙ field) ∙ sym (append_assoc h.first (w ∷ []) (q ∷ [])) in
    let reads : (rest : List (List ℕ)) × (needed text from count ≡ ps ++ q ∷ rest) = elim (cases_Bool (is_standalone text from)) [
      | inl on ↦ (grouped.0, rw (there, on) (ap (to_group (from + count)) h.are ∙ grouped.1))
      | inr off ↦ ([], rw (there, off) framed)
    ] in
    let b : At from n (stream_units (of_pieces ps)) h.first w [] = at_group from n (stream_units (of_pieces ps)) h.first w [] (first_splits text ps (q ∷ qs) h.are) h.few h.number h.here in
    let alone : is_standalone (of_pieces ps) from ≡ false = decided from n (stream_units (of_pieces ps)) h.first w [] start None b (begins_sequence (of_pieces ps)) is (inr refl) ∙ ap is_some (alone_none start field) in
    let none : copied (of_pieces ps) from count ≡ [] = rw alone refl in
    over_piece text from count held ps q qs reads.0 l h.low h.are h.fit over reads.1 (grows_same held (copied (of_pieces ps) from count) same none)

second_passes : (text : List ℕ) (from count taken place : ℕ) (held : Change) (f : Found) (later : List (List ℕ)) (start : Start) (l : Limit) → 1 ≤ count → (h : Here from taken text f [] later) → IsStart (cut 0 (whole_of f.piece)).1 f.number start → is_field_number (start.first).structure ≡ true
    → place ≡ end_of (start_of text) (h.first ++ whole_of f.piece ∷ []) → Passes place l later → held.new ≡ held.old → IsOver text from count held (error_of l)
second_passes text from count taken place held f later start l one h is field at p same =
    second_over text from count taken held f p.whole p.others start l one
    (record { group = h.group; are = h.are ∙ ap (λ (ps : List (List ℕ)). (h.first ++ whole_of f.piece ∷ []) ++ ps) p.are; fit = h.fit; low = h.low; within = h.within; place = h.place })
    is field (ap (λ (k : ℕ). limit k 0 p.whole) (sym at) ∙ p.decides) same

-- ---- what follows for a text

module _ {S : Type 0} (left : S → Option (List ℕ)) (input_faults : S → ℕ) where
  abbrev input : S → S → Change
  input = change left input_faults

  nothing_taken : (from count : ℕ) (i0 i1 i2 : S) (held : Change) (c : Cutting) (f : Found) → IsFound from (input i0 i1) c f → ReadOn (left i1) (left i2) c [] → held.new ≡ held.old → OfTaken (input i0 i2) (λ bytes text. IsPart bytes text from count held)
  nothing_taken from count i0 i1 i2 held c f found on same =
      let bytes : List ℕ = ((found.progress).bytes ++ (on.onward).bytes) ++ on.bytes in
      record {
        bytes = bytes;
        moved = moves_on (moves_on (found.progress).moved (on.onward).moved) on.moved;
        told = λ rest e. part_none bytes (bytes ++ rest) from count held same;
      }

  limit_told : (from count : ℕ) (i0 i1 i2 : S) (held : Change) (c : Cutting) (f : Found) (start : Start) (l : Limit) (e : DecodeError) → 1 ≤ count → IsFound from (input i0 i1) c f → IsStart (cut 0 (whole_of f.piece)).1 f.number start → is_field_number (start.first).structure ≡ true → held.new ≡ held.old
      → ((place : ℕ) (later : List (List ℕ)) → place ≤ most_input → PieceStops place later e → Passes place l later) → SecondStops (input i1 i2) c e → OfText (input i0 i2) (λ text. IsOver text from count held (error_of l))
  limit_told from count i0 i1 i2 held c f start l e one found is field same passes s =
      let on = s.read in
      let bytes : List ℕ = (found.progress).bytes ++ (on.onward).bytes in
      record {
        bytes = bytes ++ on.bytes;
        moved = moves_on (moves_on (found.progress).moved (on.onward).moved) on.moved;
        told = λ rest was.
            let later : List ℕ = on.bytes ++ rest in
            let text : List ℕ = bytes ++ later in
            let x = here_at from (input i0 i1) on.between c on.then_is f [] found on.onward later (moved_some on.between (left i2) on.bytes rest on.moved was) in
            let h : Here from (length bytes) text f [] (left_of on.then_is later) = x.0 in
            let p = passes (start_of_rest on.then_is later) (left_of on.then_is later) (reaches_low from (length bytes) text f [] (start_of_rest on.then_is later) (left_of on.then_is later) x) (s.over rest was) in
            subst (λ (t : List ℕ). IsOver t from count held (error_of l)) (sym (append_assoc bytes on.bytes rest))
            (second_passes text from count (length bytes) (start_of_rest on.then_is later) held f (left_of on.then_is later) start l one h is field x.1 p same);
      }

  pub second_failed : (from count : ℕ) (i0 i1 i2 : S) (held : Change) (c : Cutting) (f : Found) (start : Start) (e : CutError) → 1 ≤ count → input_faults i0 ≤ input_faults i1 → IsFound from (input i0 i1) c f → IsStart (cut 0 (whole_of f.piece)).1 f.number start → is_field_number (start.first).structure ≡ true
      → held.new ≡ held.old → SecondFails (input i1 i2) c e → Fails from count (input i0 i2) held e
  second_failed from count i0 i1 i2 held c f start errors.Read one le found is field same s = (rose_since le s.0, nothing_taken from count i0 i1 i2 held c f found s.1 same)
  second_failed from count i0 i1 i2 held c f start errors.TooLong one le found is field same s = limit_told from count i0 i1 i2 held c f start too_long reading.TooLong one found is field same passes_long s
  second_failed from count i0 i1 i2 held c f start errors.PictureTooLarge one le found is field same s = limit_told from count i0 i1 i2 held c f start too_large reading.PictureTooLarge one found is field same (λ place later low p. p) s
  second_failed from count i0 i1 i2 held c f start errors.Memory one le found is field same s = nothing_taken from count i0 i1 i2 held c f found s same
  second_failed from count i0 i1 i2 held c f start _ one le found is field same s = absurd s
