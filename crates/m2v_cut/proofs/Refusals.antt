-- A group that can't be cut out.
use Rattle.std.proofs.Common.{◌≡◌, ◌⊎◌, ℕ, ◌+◌, ◌-◌, ◌*◌, ◌<◌, ◌≤◌, Bool, true, false, List, [], ◌∷◌, ◌++◌, length, drop, Option, Some, None, Result, Ok, Err, inl, inr, refl, sym, ap, subst, ◌∙◌, append_assoc, arith}
use Rattle.std.proofs.lemmas.Bool.{cases_Bool, eqb-true}
use Rattle.std.specs.Prelude.{nat_eq, nat_lt, is_some, if◌then◌else◌}
use Rattle.std.proofs.lemmas.List.{append-nil, length-append}
use Rattle.m2v_port.specs.Ends.{Change, change}
use Rattle.m2v_port.proofs.Runs.{moves_on}
use Rattle.m2v_decode.specs.m2v_dec_piece.Cutting.{Cutting, left_of}
use Rattle.m2v_model.specs.Units.{Units, cut, joined, unit_bits}
use Rattle.m2v_model.specs.Pieces.{pieces, limit, Limit}
use Rattle.m2v_model.specs.ByPieces.{end_of}
use Rattle.m2v_model.proofs.CutLaws.{joined-append, joined_bits}
use Rattle.m2v_model.proofs.ShiftLaws.{unit_bits-append}
use Rattle.m2v_decode.specs.m2v_dec_piece.declared.answer.Piece.{Piece}
use Rattle.m2v_decode.specs.Decoding.{whole_of}
use Rattle.m2v_decode.specs.Answers.{start_of, OfText}
use Rattle.m2v_law_group.specs.Groups.{has_picture, group_headers, groups_in, group_place, from_group, before_group, cut_units, stream_units, is_standalone}
use Rattle.m2v_cut.specs.declared.answer.CutError.TheVariants as errors
use Rattle.m2v_cut.specs.declared.find.Found.{Found}
use Rattle.m2v_cut.specs.declared.start.Start.{Start}
use Rattle.m2v_cut.specs.declared.look.FirstPicture.{FirstPicture}
use Rattle.m2v_cut.specs.Answers.{units_of, groups_of, to_group, copied, IsOver, first_picture, first_if, is_field, picture_structure, to_frame, needed, limit_of, unlimited, by_limit, answer_to, of_pieces, IsRefused}
use Rattle.m2v_cut.specs.Progress.{IsFound, head_of, all_bytes, all_groups}
use Rattle.m2v_cut.specs.Starts.{IsStart, is_field_number, cut_place, piece_list, Second}
use Rattle.m2v_cut.proofs.Shapes.{Shape, AreEnds, Split, Splits, pieces_split, begins_sequence}
use Rattle.m2v_cut.proofs.Fulls.{split_units, fulls_whole}
use Rattle.m2v_cut.proofs.Places.{holds, first_behind, first_none}
use Rattle.m2v_cut.proofs.Intras.{ends_none, some_or_none}
use Rattle.m2v_cut.proofs.Parts.{looks_all}
use Rattle.m2v_cut.proofs.Takings.{Stands}
use Rattle.m2v_cut.proofs.Joins.{groups_on}
use Rattle.m2v_cut.proofs.Decided.{behind_header, LooksAt, At, at_group, stands_at, decided, Opened, opened}
use Rattle.m2v_cut.proofs.Limits.{lt_true, to_frame_here, among_fit, length_on}
use Rattle.m2v_cut.proofs.Finals.{low_start, groups_text, group_reads, over_piece, error_of}
use Rattle.m2v_cut.proofs.Outcomes.{Here, here_of, copied_here}
use Rattle.m2v_port.specs.Port.{Grows}
use Rattle.m2v_cut.proofs.Prefixes.{first_splits}

-- the first picture of a piece, with its end code or without
same_first : (heads tail ends : Units) → has_picture heads ≡ false → AreEnds ends → ((tail ≡ [] → ⊥) → ends ≡ []) → first_picture (heads ++ tail) ≡ first_picture (heads ++ (tail ++ ends))
unfolding first_picture
same_first heads [] ends none at_end apart = elim (cases_Bool (nat_eq (group_headers heads) 0)) [
  | inl few ↦ let z = eqb-true (group_headers heads) 0 few in first_behind heads [] none z ∙ sym (first_behind heads ends none z ∙ ends_none ends at_end)
  | inr some ↦
      let less : 0 < group_headers heads = some_or_none (group_headers heads) (λ z. let t : nat_eq (group_headers heads) 0 ≡ true = rw z refl in absurd cc) in
      first_none heads [] none less ∙ sym (first_none heads ends none less)
]
same_first heads (u ∷ tail) ends none at_end apart =
    let z : ends ≡ [] = apart (λ x. absurd cc) in
    ap (λ (l : Units). first_picture (heads ++ l)) (sym (append-nil (u ∷ tail)) ∙ ap (λ (l : Units). (u ∷ tail) ++ l) (sym z))

-- a piece's picture is one field by its units with the end code or without
pub field_is : (from n : ℕ) (us : Units) (first : List (List ℕ)) (w : List ℕ) (later : List (List ℕ)) (start : Start) → At from n us first w later → IsStart (cut 0 w).1 n start → is_field (first_picture (drop 1 (from_group n (units_of w)))) ≡ is_field_number (start.first).structure
field_is from n us first w later start a is =
    let one : Split w later a.back a.rest = a.split in
    let s : Shape one.vs = one.shape in
    let o : Opened n one.vs s = opened n one.vs s a.here in
    let after = behind_header from n us first w later a in
    let near : drop 1 (from_group n (units_of w)) ≡ o.heads ++ s.tail = ap (λ (l : Units). drop 1 (from_group n l)) (split_units w later a.back a.rest one) ∙ ap (drop 1) o.is in
    let same = ap first_picture near ∙ same_first o.heads s.tail one.ends o.none one.at_end one.apart ∙ ap first_picture (sym after) in
    ap is_field same ∙ ap is_field_number (sym (is.first).structure)

read_second : (second : Option Piece) (f : FirstPicture) (later : List (List ℕ)) → LooksAt second f (piece_list second ++ later) → first_if (is_field_number f.structure) (piece_list second ++ later) ≡ piece_list second
read_second None f [] l = refl
read_second None f (p ∷ ps) (inl off) = rw off refl
read_second None f (p ∷ ps) (inr e) = absurd cc
read_second (Some p) f later l = rw l.0 refl

pub refused_here : (text : List ℕ) (from count taken place : ℕ) (held : Change) (f : Found) (later : List (List ℕ)) (start : Start) (second : Option Piece) → Here from taken text f (piece_list second) later → IsStart (cut 0 (whole_of f.piece)).1 f.number start → cut_place start second ≡ None
    → LooksAt second start.first (piece_list second ++ later) → place ≡ 8 * (f.piece.place + start.header) → held.new ≡ held.old → IsRefused text from count held (errors.NotCuttable place)
refused_here text from count taken place held f later start second h is can looks at same =
    let w : List ℕ = whole_of f.piece in
    let ws : List (List ℕ) = piece_list second in
    let n : ℕ = f.number in
    let us : Units = stream_units text in
    let all : pieces text ≡ h.first ++ w ∷ (ws ++ later) = h.are ∙ append_assoc h.first (w ∷ ws) later in
    let a : At from n us h.first w (ws ++ later) = at_group from n us h.first w (ws ++ later) (subst (λ (ps : List (List ℕ)). Splits ps us) all (pieces_split text)) h.few h.number h.here in
    let field = field_is from n us h.first w (ws ++ later) start a is in
    let one = a.split in
    let st : Stands from n us a.front one.vs a.rest = stands_at from n us h.first w (ws ++ later) a in
    let alone : is_standalone text from ≡ false = decided from n us h.first w (ws ++ later) start second a (begins_sequence text) is looks ∙ ap is_some can in
    let there : nat_lt from (groups_in text) ≡ true = lt_true from (groups_in text) (omega (arith, groups_text text, ap all_groups all, groups_on h.first (w ∷ (ws ++ later)), h.few, h.number, h.here)) in
    let reads : needed text from count ≡ h.first ++ w ∷ ws = rw (there, alone) (ap (to_frame from) all ∙ to_frame_here h.first w (ws ++ later) from n (is_field_number (start.first).structure) h.few h.number h.here field ∙ ap (λ (l : List (List ℕ)). h.first ++ w ∷ l) (read_second second start.first later looks)) in
    let none : limit_of text (needed text from count) ≡ None = ap (limit_of text) reads ∙ low_start text (h.first ++ w ∷ ws) h.low ∙ among_fit (h.first ++ w ∷ ws) (start_of text) h.fit in
    let said : unlimited text from count ≡ Err (errors.NotCuttable (group_place text from)) = rw (there, alone) refl in
    let b = holds n one.vs one.ends a.here in
    let wu : (cut 0 w).1 ≡ one.vs ++ one.ends = ap (λ (x : List ℕ × Units). x.1) one.units in
    let behind : from_group n (cut 0 w).1 ≡ from_group n one.vs ++ one.ends = ap (from_group n) wu ∙ b.behind in
    let parts : (cut 0 w).1 ≡ before_group n one.vs ++ from_group n (cut 0 w).1 = wu ∙ ap (λ (l : Units). l ++ one.ends) b.whole ∙ append_assoc (before_group n one.vs) (from_group n one.vs) one.ends ∙ ap (λ (l : Units). before_group n one.vs ++ l) (sym behind) in
    let header : start.header ≡ length (joined (before_group n one.vs)) = omega (arith, is.header, ap unit_bits parts, unit_bits-append (before_group n one.vs) (from_group n (cut 0 w).1), joined_bits (before_group n one.vs)) in
    let bytes : length (joined (before_group from us)) ≡ length (of_pieces h.first) + length (joined (before_group n one.vs)) =
    ap (λ (l : Units). length (joined l)) st.before ∙ ap length (joined-append a.front (before_group n one.vs)) ∙ length-append (joined a.front) (joined (before_group n one.vs)) ∙ ap (λ (l : List ℕ). length l + length (joined (before_group n one.vs))) (sym (fulls_whole h.first a.front a.fulls)) in
    let found : group_place text from ≡ place = omega (arith, at, header, bytes, h.place, length_on h.first (start_of text)) in
    record {
      answer = (λ i. by_limit (none i) (said i)) ∙ ap (λ (k : ℕ). Err (errors.NotCuttable k)) found;
      same = same;
    }

module _ {S : Type 0} (left : S → Option (List ℕ)) (input_faults : S → ℕ) where
  pub refused_told : (i0 i1 i2 : S) (from count place : ℕ) (held : Change) (c c' : Cutting) (f : Found) (start : Start) (second : Option Piece) → IsFound from (change left input_faults i0 i1) c f → Second start.first (left i1) (left i2) c c' second → IsStart (cut 0 (whole_of f.piece)).1 f.number start
      → cut_place start second ≡ None → place ≡ 8 * (f.piece.place + start.header) → held.new ≡ held.old → OfText (change left input_faults i0 i2) (λ text. IsRefused text from count held (errors.NotCuttable place))
  refused_told i0 i1 i2 from count place held c c' f start second found s is can at same =
      let got : List ℕ = (found.progress).bytes ++ (s.onward).bytes in
      record {
        bytes = got;
        moved = moves_on (found.progress).moved (s.onward).moved;
        told = λ rest e.
            refused_here (got ++ rest) from count (length got) place held f (left_of c' rest) start second (here_of from (change left input_faults i0 i1) (left i2) c c' f (piece_list second) found s.onward rest e) is can
            (looks_all second start.first (left_of c') (left i2) rest s.is e) at same;
      }

-- a limit is passed behind pieces that were written
pub over_here : (text : List ℕ) (from count taken : ℕ) (held : Change) (f : Found) (read : List (List ℕ)) (q : List ℕ) (qs : List (List ℕ)) (start : Start) (second : Option Piece) (sequence : ℕ) (l : Limit) → (h : Here from taken text f read (q ∷ qs)) → IsStart (cut 0 (whole_of f.piece)).1 f.number start → cut_place start second ≡ Some sequence
    → LooksAt second start.first read → LooksAt second start.first (read ++ q ∷ qs) → limit (end_of (start_of text) (h.first ++ whole_of f.piece ∷ read)) 0 q ≡ Some l → 1 + all_groups read ≤ count → Grows held.old (head_of (whole_of f.piece) sequence start.header f.behind ++ all_bytes read) held.new → IsOver text from count held (error_of l)
over_here text from count taken held f read q qs start second sequence l h is can near looks over few grown =
    let w : List ℕ = whole_of f.piece in
    let us : Units = stream_units text in
    let ps : List (List ℕ) = h.first ++ w ∷ read in
    let all : pieces text ≡ h.first ++ w ∷ (read ++ q ∷ qs) = h.are ∙ append_assoc h.first (w ∷ read) (q ∷ qs) in
    let a : At from f.number us h.first w (read ++ q ∷ qs) = at_group from f.number us h.first w (read ++ q ∷ qs) (subst (λ (x : List (List ℕ)). Splits x us) all (pieces_split text)) h.few h.number h.here in
    let alone : is_standalone text from ≡ true = decided from f.number us h.first w (read ++ q ∷ qs) start second a (begins_sequence text) is looks ∙ ap is_some can in
    let there : nat_lt from (groups_in text) ≡ true = lt_true from (groups_in text) (omega (arith, groups_text text, ap all_groups all, groups_on h.first (w ∷ (read ++ q ∷ qs)), h.few, h.number, h.here)) in
    let k = copied_here (of_pieces ps) from f.number count h.first w read read start second sequence (first_splits text ps (q ∷ qs) h.are) h.few h.number h.here is can near (inl (refl, few)) in
    let r = group_reads ps q qs (from + count) (omega (arith, groups_on h.first (w ∷ read), h.few, h.number, k.2, few)) in
    let reads : needed text from count ≡ ps ++ q ∷ r.0 = rw (there, alone) (ap (to_group (from + count)) h.are ∙ r.1) in
    let alone' : is_standalone (of_pieces ps) from ≡ true = k.0 in
    let same : copied (of_pieces ps) from count ≡ joined (cut_units from count (stream_units (of_pieces ps))) = rw alone' refl in
    over_piece text from count held ps q qs r.0 l h.low h.are h.fit over reads
    (subst (λ (b : List ℕ). Grows held.old b held.new) (ap (λ (x : Bool). head_of w sequence start.header x ++ all_bytes read) h.behind ∙ sym k.1 ∙ sym same) grown)
