-- The pieces behind a group's first one weren't written whole.
use Rattle.std.proofs.Common.{◌≡◌, ◌⊎◌, ℕ, ◌+◌, ◌<◌, ◌≤◌, List, [], ◌∷◌, ◌++◌, length, Option, Some, None, inl, inr, refl, sym, ap, subst, ◌∙◌, append_assoc, arith}
use Rattle.m2v_port.specs.Ends.{Change, change}
use Rattle.m2v_port.specs.Port.{Grows}
use Rattle.m2v_port.proofs.Runs.{moves_on, grows_on, rose_since}
use Rattle.m2v_model.specs.Units.{cut}
use Rattle.m2v_model.specs.Pieces.{limit, Limit, too_long, too_large, most_input}
use Rattle.m2v_model.specs.ByPieces.{end_of}
use Rattle.m2v_decode.specs.m2v_dec_piece.declared.answer.Piece.{Piece}
use Rattle.m2v_decode.specs.m2v_dec_piece.declared.answer.DecodeError.{DecodeError}
use Rattle.m2v_decode.specs.m2v_dec_piece.declared.answer.DecodeError.TheVariants as reading
use Rattle.m2v_decode.specs.m2v_dec_piece.Cutting.{Cutting, PieceStops, Passes, left_of}
use Rattle.m2v_decode.specs.m2v_dec_piece.Cutting.{start_of as start_of_rest}
use Rattle.m2v_decode.specs.Decoding.{whole_of}
use Rattle.m2v_decode.specs.Answers.{start_of, OfText}
use Rattle.m2v_decode.proofs.AnswerLaws.{ends_low}
use Rattle.m2v_decode.proofs.Going.{moved_some}
use Rattle.m2v_cut.specs.declared.answer.CutError.{CutError}
use Rattle.m2v_cut.specs.declared.answer.CutError.TheVariants as errors
use Rattle.m2v_cut.specs.declared.find.Found.{Found}
use Rattle.m2v_cut.specs.declared.start.Start.{Start}
use Rattle.m2v_cut.specs.Answers.{IsOver, Fails}
use Rattle.m2v_cut.specs.Progress.{IsFound, head_of, all_bytes, all_groups}
use Rattle.m2v_cut.specs.Starts.{IsStart, cut_place, piece_list, Second}
use Rattle.m2v_cut.specs.Behind.{BehindStops, BehindFails}
use Rattle.m2v_cut.proofs.Joins.{onward_on}
use Rattle.m2v_cut.proofs.Decided.{LooksAt}
use Rattle.m2v_cut.proofs.Finals.{error_of}
use Rattle.m2v_cut.proofs.Outcomes.{Here, here_at}
use Rattle.m2v_cut.proofs.Parts.{looks_all, looks_read, behind_part}
use Rattle.m2v_cut.proofs.Refusals.{over_here}

-- the group's piece stands in a text, and the pieces behind it end at a place
abbrev pub Reaches : ℕ → ℕ → List ℕ → Found → List (List ℕ) → ℕ → List (List ℕ) → Type 0
Reaches from taken text f read place later = (h : Here from taken text f read later) × (place ≡ end_of (start_of text) (h.first ++ whole_of f.piece ∷ read))

-- the piece at that place passes a limit
passes_at : (text : List ℕ) (from count taken place : ℕ) (held : Change) (f : Found) (read later : List (List ℕ)) (start : Start) (second : Option Piece) (sequence : ℕ) (l : Limit) → Reaches from taken text f read place later → IsStart (cut 0 (whole_of f.piece)).1 f.number start → cut_place start second ≡ Some sequence
    → LooksAt second start.first read → LooksAt second start.first (read ++ later) → 1 + all_groups read ≤ count → Grows held.old (head_of (whole_of f.piece) sequence start.header f.behind ++ all_bytes read) held.new → Passes place l later → IsOver text from count held (error_of l)
passes_at text from count taken place held f read later start second sequence l x is can near looks few grown p =
    let y : Reaches from taken text f read place (p.whole ∷ p.others) = subst (λ (ps : List (List ℕ)). Reaches from taken text f read place ps) p.are x in
    let over : limit (end_of (start_of text) ((y.0).first ++ whole_of f.piece ∷ read)) 0 p.whole ≡ Some l = ap (λ (k : ℕ). limit k 0 p.whole) (sym y.1) ∙ p.decides in
    over_here text from count taken held f read p.whole p.others start second sequence l y.0 is can near (subst (λ (ps : List (List ℕ)). LooksAt second start.first (read ++ ps)) p.are looks) over few grown

-- pieces that pass no limit end within the input's limit
pub reaches_low : (from taken : ℕ) (text : List ℕ) (f : Found) (read : List (List ℕ)) (place : ℕ) (later : List (List ℕ)) → Reaches from taken text f read place later → place ≤ most_input
reaches_low from taken text f read place later x =
    let h = x.0 in
    let low = ends_low (start_of text) (h.first ++ whole_of f.piece ∷ read) h.fit h.low in
    omega (arith, x.1, low)

-- so it isn't the bytes before the next piece that pass the input's limit
pub passes_long : (place : ℕ) (later : List (List ℕ)) → place ≤ most_input → PieceStops place later reading.TooLong → Passes place too_long later
passes_long place later low (inl high) = absurd (omega (arith, low, high))
passes_long place later low (inr p) = p

module _ {S K : Type 0} (left : S → Option (List ℕ)) (input_faults : S → ℕ) (held : K → Option (List ℕ)) (output_faults : K → ℕ) where
  abbrev input : S → S → Change
  input = change left input_faults

  abbrev output : K → K → Change
  output = change held output_faults

  behind_over : (i0 i1 i2 i3 : S) (o0 o1 o2 : K) (from count : ℕ) (c c' : Cutting) (f : Found) (start : Start) (second : Option Piece) (sequence : ℕ) (l : Limit) (why : DecodeError) → ((place : ℕ) → (later : List (List ℕ)) → place ≤ most_input → PieceStops place later why → Passes place l later) → IsFound from (input i0 i1) c f
      → Second start.first (left i1) (left i2) c c' second → IsStart (cut 0 (whole_of f.piece)).1 f.number start → cut_place start second ≡ Some sequence → Grows (held o0) (head_of (whole_of f.piece) sequence start.header f.behind) (held o1)
      → BehindStops (piece_list second) count 1 (input i2 i3) (output o1 o2) c' why → OfText (input i0 i3) (λ text. IsOver text from count (output o0 o2) (error_of l))
  behind_over i0 i1 i2 i3 o0 o1 o2 from count c c' f start second sequence l why passes found s is can head b =
      let ws : List (List ℕ) = piece_list second in
      let r = b.on in
      let on = onward_on (left i1) (left i2) r.between c c' r.then_is ws b.read s.onward r.onward in
      let got : List ℕ = (found.progress).bytes ++ on.bytes in
      record {
        bytes = got ++ r.bytes;
        moved = moves_on (moves_on (found.progress).moved on.moved) r.moved;
        told = λ rest e.
            let text : List ℕ = got ++ (r.bytes ++ rest) in
            let later : List (List ℕ) = left_of r.then_is (r.bytes ++ rest) in
            let place : ℕ = start_of_rest r.then_is (r.bytes ++ rest) in
            let mid = moved_some r.between (left i3) r.bytes rest r.moved e in
            let led = (r.onward).told (r.bytes ++ rest) mid in
            let near : LooksAt second start.first (ws ++ (b.read ++ later)) = subst (LooksAt second start.first) (ap (λ (x : List (List ℕ)). ws ++ x) led.are)
            (looks_all second start.first (left_of c') (left i2) ((r.onward).bytes ++ (r.bytes ++ rest)) s.is (moved_some (left i2) r.between (r.onward).bytes (r.bytes ++ rest) (r.onward).moved mid)) in
            let looks : LooksAt second start.first ((ws ++ b.read) ++ later) = subst (LooksAt second start.first) (sym (append_assoc ws b.read later)) near in
            let x : Reaches from (length got) text f (ws ++ b.read) place later = here_at from (input i0 i1) r.between c r.then_is f (ws ++ b.read) found on (r.bytes ++ rest) mid in
            let low = reaches_low from (length got) text f (ws ++ b.read) place later x in
            subst (λ (t : List ℕ). IsOver t from count (output o0 o2) (error_of l)) (sym (append_assoc got r.bytes rest))
            (passes_at text from count (length got) place (output o0 o2) f (ws ++ b.read) later start second sequence l x is can (looks_read second start.first b.read later near) looks b.few (grows_on head b.grown) (passes place later low (b.over rest e)));
      }

  pub behind_failed : (i0 i1 i2 i3 : S) (o0 o1 o2 : K) (from count : ℕ) (c c' : Cutting) (f : Found) (start : Start) (second : Option Piece) (sequence : ℕ) (e : CutError) → input_faults i0 ≤ input_faults i2 → output_faults o0 ≤ output_faults o1 → IsFound from (input i0 i1) c f
      → Second start.first (left i1) (left i2) c c' second → IsStart (cut 0 (whole_of f.piece)).1 f.number start → cut_place start second ≡ Some sequence → Grows (held o0) (head_of (whole_of f.piece) sequence start.header f.behind) (held o1)
      → BehindFails (piece_list second) count 1 (input i2 i3) (output o1 o2) c' e → Fails from count (input i0 i3) (output o0 o2) e
  behind_failed i0 i1 i2 i3 o0 o1 o2 from count c c' f start second sequence errors.Read more le found s is can head b = (rose_since more b.0, behind_part left input_faults held output_faults i0 i1 i2 i3 o0 o1 o2 from count c c' f start second sequence found s is can head b.1)
  behind_failed i0 i1 i2 i3 o0 o1 o2 from count c c' f start second sequence errors.Write more le found s is can head b = (rose_since le b.0, behind_part left input_faults held output_faults i0 i1 i2 i3 o0 o1 o2 from count c c' f start second sequence found s is can head b.1)
  behind_failed i0 i1 i2 i3 o0 o1 o2 from count c c' f start second sequence (errors.NoGroup have need) more le found s is can head b = absurd b
  behind_failed i0 i1 i2 i3 o0 o1 o2 from count c c' f start second sequence (errors.NotCuttable place) more le found s is can head b = absurd b
  behind_failed i0 i1 i2 i3 o0 o1 o2 from count c c' f start second sequence errors.TooLong more le found s is can head b = behind_over i0 i1 i2 i3 o0 o1 o2 from count c c' f start second sequence too_long reading.TooLong passes_long found s is can head b
  behind_failed i0 i1 i2 i3 o0 o1 o2 from count c c' f start second sequence errors.PictureTooLarge more le found s is can head b = behind_over i0 i1 i2 i3 o0 o1 o2 from count c c' f start second sequence too_large reading.PictureTooLarge (λ place later low p. p) found s is can head b
  behind_failed i0 i1 i2 i3 o0 o1 o2 from count c c' f start second sequence errors.Memory more le found s is can head b = behind_part left input_faults held output_faults i0 i1 i2 i3 o0 o1 o2 from count c c' f start second sequence found s is can head b
