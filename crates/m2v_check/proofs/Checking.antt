-- Piece after piece: what stands of the judge between two pieces, whatever follows.
use Rattle.std.proofs.Common.{◌≡◌, ℕ, ◌+◌, ◌*◌, ◌≤◌, Bool, true, false, List, [], ◌∷◌, ◌++◌, length, Option, Some, None, Ok, Err, ◌⊎◌, inl, inr, refl, sym, ap, subst, ◌∙◌, append_assoc, arith}
use Rattle.std.specs.Prelude.{IfSome, if◌then◌else◌}
use Rattle.std.proofs.lemmas.List.{length-append}
use Rattle.m2v_port.specs.Ends.{Change, change}
use Rattle.m2v_model.specs.declared.phase.Phase.TheVariants.{Before}
use Rattle.m2v_model.specs.declared.state.Sequence.{Sequence}
use Rattle.m2v_model.specs.declared.notes.Notes.{Notes}
use Rattle.m2v_model.specs.declared.notes.PictureNote.{PictureNote}
use Rattle.m2v_model.specs.Units.{Units, cut}
use Rattle.m2v_model.specs.States.{at_first}
use Rattle.m2v_model.specs.Pictures.{Pictures, Events, sequence_header, group_header, coded_picture, pictures_in}
use Rattle.m2v_model.specs.PieceNotes.{PieceNotes, noted, notes_of, first_note}
use Rattle.m2v_model.specs.Pieces.{pieces, grouped}
use Rattle.m2v_model.specs.Lawful.{numbered, all_numbered}
use Rattle.m2v_model.specs.Buffering.{code_bits}
use Rattle.m2v_model.specs.ByPieces.{Between, Course, at_start as text_start, piece_read, pieces_read, units_read, end_of, IsOne, TellInTurn}
use Rattle.m2v_model.proofs.PieceLaws.{placed, piece_is, end_of-append}
use Rattle.m2v_model.proofs.TurnLaws.{pictures_in_turn}
use Rattle.m2v_model.proofs.EventLaws.{pictures_in-append}
use Rattle.m2v_dec_piece.specs.declared.answer.Piece.{Piece}
use Rattle.m2v_dec_piece.specs.Cutting.{Cutting, left_of, open_pieces}
use Rattle.m2v_dec_piece.specs.Stepping.{Handed}
use Rattle.m2v_decode.specs.Decoding.{Decoding, at_start, between, Advanced, whole_of}
use Rattle.m2v_decode.specs.Answers.{start_of}
use Rattle.m2v_decode.specs.Reading.{Reading, Follows}
use Rattle.m2v_decode.specs.Progress.{before_all, HasPut, Progress}
use Rattle.m2v_decode.proofs.Going.{gave, moved_some, read_more}
use Rattle.m2v_check.specs.declared.judge.Judge.{Judge}
use Rattle.m2v_check.specs.Running.{no_rules}
use Rattle.m2v_check.specs.Progress.{no_output}
use Rattle.m2v_check.specs.Judging.{IsPlaced}
use Rattle.m2v_model.specs.declared.state.State.{State}
use Rattle.m2v_check.proofs.Telling.{Says, IsGoodPicture, AreHeaded, HaveDelays, IsGoodState, says_on, says_nothing, units_say, waits_before}
use Rattle.m2v_check.proofs.Ordered.{AreOrdered, PictureLast, pieces_ordered, units_ordered, code_within}
use Rattle.m2v_check.proofs.Onward.{JudgeSo, Onward, judge_none, judge_on, none_or_one}

-- ---- one piece, wherever it ends

placed_ok : (end : ℕ) (r : Course) (x : Events × Between) → placed end r ≡ Ok x → r ≡ Ok x
placed_ok end (Ok y) x e = e
placed_ok end (Err f) x e = absurd cc

pub units_of_piece : (b : Between) (end : ℕ) (p : List ℕ) (x : Events × Between) → piece_read b end p ≡ Ok x → units_read b (cut 0 p).1 ≡ Ok x
units_of_piece b end p x e = placed_ok end (units_read b (cut 0 p).1) x (sym (piece_is b end p) ∙ e)

read_at : (b : Between) (end other : ℕ) (p : List ℕ) (x : Events × Between) → piece_read b end p ≡ Ok x → piece_read b other p ≡ Ok x
read_at b end other p x e = piece_is b other p ∙ ap (placed other) (units_of_piece b end p x e)

end_on : (ps : List (List ℕ)) (at : ℕ) (p : List ℕ) → end_of at (ps ++ p ∷ []) ≡ end_of at ps + length p
unfolding end_of
end_on ps at p = end_of-append ps (p ∷ []) at

-- ---- the note of a piece

good_shut : (st : State) → st.picture ≡ None → IsGoodState st
good_shut st e = subst (IsGoodPicture st.sequence st.waiting) (sym e) tt

piece_says : (d : Decoding) (place : ℕ) (whole : List ℕ) (notes : Notes) (m : Decoding) → (a : Advanced d place whole notes m) → IsGoodState d.state → Says d.state a.events m.state × (m.state.picture ≡ None)
piece_says d place whole notes m a good = units_say (between d) (cut 0 whole).1 a.events (between m) (units_of_piece (between d) (place + length whole) whole (a.events, between m) a.read) good

-- no picture is open behind a piece
pub shut_behind : (d : Decoding) (place : ℕ) (whole : List ℕ) (notes : Notes) (m : Decoding) → Advanced d place whole notes m → d.state.picture ≡ None → m.state.picture ≡ None
shut_behind d place whole notes m a shut = (piece_says d place whole notes m a (good_shut d.state shut)).1

pub shut_put : (m n : Decoding) → HasPut m n → m.state.picture ≡ None → n.state.picture ≡ None
shut_put m n put shut = ap (λ (b : Between). b.state.picture) put.between_is ∙ shut

note_is : (place : ℕ) (p : List ℕ) (es : Events) (notes : Notes) → noted notes ≡ notes_of place p es → notes.picture ≡ first_note (8 * place + code_bits p) (pictures_in es)
unfolding notes_of
note_is place p es notes e = ap (λ (n : PieceNotes). n.picture) e

first_placed : (place len : ℕ) (p : List ℕ) (qs : Pictures) → len ≡ length p → ((qs ≡ [] → ⊥) → code_bits p ≤ 8 * length p) → HaveDelays qs → IfSome (first_note (8 * place + code_bits p) qs) (λ n. IsPlaced n place len)
first_placed place len p [] e code delays = tt
first_placed place len p (q ∷ qs) e code delays =
    let within = code (λ none. absurd cc) in
    record { least = omega arith; most = omega (arith, within, e); delay = delays.0 }

-- where the picture that is noted stands
pub note_placed : (d : Decoding) (place len : ℕ) (whole : List ℕ) (notes : Notes) (m : Decoding) → Advanced d place whole notes m → len ≡ length whole → d.state.picture ≡ None → IfSome notes.picture (λ n. IsPlaced n place len)
note_placed d place len whole notes m a e shut =
    let says = piece_says d place whole notes m a (good_shut d.state shut) in
    let units = units_of_piece (between d) (place + length whole) whole (a.events, between m) a.read in
    subst (λ (o : Option PictureNote). IfSome o (λ n. IsPlaced n place len)) (sym (note_is place whole a.events notes a.notes_are))
    (first_placed place len whole (pictures_in a.events) e (λ some. code_within (between d) whole a.events (between m) units shut some) says.0.delays)

-- ---- pieces of a text

numbered_count : (o : Option Sequence) (group : ℕ) (first_in_group : Bool) (number frames : ℕ) (es : Events) → AreHeaded o es → length (numbered o group first_in_group number frames es) ≡ length (pictures_in es)
unfolding numbered
numbered_count o group first_in_group number frames [] h = refl
numbered_count o group first_in_group number frames (sequence_header s ∷ es) h = numbered_count (Some s) group first_in_group number frames es h
numbered_count o group first_in_group number frames (group_header g ∷ es) h = numbered_count o (group + 1) true number frames es h
numbered_count None group first_in_group number frames (coded_picture p ∷ es) h = let none = h.0 in absurd cc
numbered_count (Some s) group first_in_group number frames (coded_picture p ∷ es) h =
    let more = numbered_count (Some s) group false (number + 1) (if p.ends_frame then frames + 1 else frames) es h.1 in
    omega (arith, more)

-- the judge knows of the first pieces of a text what the decoder read of them
pub record JudgedSoFar (text : List ℕ) (others : List (List ℕ)) (d : Decoding) (j : Judge) : Type 0 where
  pub first : List (List ℕ)
  pub are : pieces text ≡ first ++ others
  pub events : Events
  pub read : pieces_read text_start (start_of text) first ≡ Ok (events, between d)
  pub says : Says at_first events d.state
  pub shut : d.state.picture ≡ None
  pub turn : TellInTurn (between d) (end_of (start_of text) first) others
  pub ordered : AreOrdered others
  pub even : (length (all_numbered events) ≡ length first) ⊎ (others ≡ [])
  pub few : length (all_numbered events) ≤ length first
  pub judge : JudgeSo first events j

is_even : (text : List ℕ) (whole : List ℕ) (others : List (List ℕ)) (d : Decoding) (j : Judge) → (so : JudgedSoFar text (whole ∷ others) d j) → length (all_numbered so.events) ≡ length so.first
is_even text whole others d j so = elim so.even [
  | inl e ↦ e
  | inr none ↦ absurd cc
]

even_on : (others : List (List ℕ)) (n k l m : ℕ) → IsOne k others → n ≡ l → m ≡ n + k → (m ≡ l + 1) ⊎ (others ≡ [])
even_on [] n k l m one e is = inr refl
even_on (q ∷ others) n k l m one e is = inl (omega (arith, one, e, is))

one_at_most : (fs : Events) → PictureLast fs → length (pictures_in fs) ≤ 1
one_at_most fs h = elim (none_or_one fs h) [
  | inl none ↦ let e = ap length none in omega (arith, e)
  | inr one ↦ let e = ap length one.1 in omega (arith, e)
]

-- one piece more was read and judged, and its frames were handed back
judged_on : (text whole : List ℕ) (others : List (List ℕ)) (d m n : Decoding) (place len : ℕ) (notes : Notes) (j k : Judge) → JudgedSoFar text (whole ∷ others) d j → (a : Advanced d place whole notes m) → HasPut m n
    → Onward place whole len a.events notes j k → JudgedSoFar text others n k
judged_on text whole others d m n place len notes j k so a put on =
    let at = end_of (start_of text) so.first in
    let fs = a.events in
    let same : between m ≡ between n = sym put.between_is in
    let read : piece_read (between d) (at + length whole) whole ≡ Ok (fs, between n) = read_at (between d) (place + length whole) (at + length whole) whole (fs, between m) a.read ∙ ap (λ (z : Between). Ok (fs, z)) same in
    let units = units_of_piece (between d) (at + length whole) whole (fs, between n) read in
    let new = units_say (between d) (cut 0 whole).1 fs (between n) units so.says.good in
    let last = units_ordered (between d) (cut 0 whole).1 fs (between n) units so.ordered.0 so.shut in
    let says = says_on at_first d.state n.state so.events fs so.says new.0 in
    let turn = so.turn fs (between n) read in
    let end = end_on so.first (start_of text) whole in
    let even = is_even text whole others d j so in
    let count : length (all_numbered (so.events ++ fs)) ≡ length (all_numbered so.events) + length (pictures_in fs) =
    numbered_count None 0 false 0 0 (so.events ++ fs) says.headed ∙ ap length (pictures_in-append so.events fs) ∙ length-append (pictures_in so.events) (pictures_in fs)
    ∙ ap (λ (x : ℕ). x + length (pictures_in fs)) (sym (numbered_count None 0 false 0 0 so.events so.says.headed)) in
    let one = one_at_most fs last in
    let pushed : length (so.first ++ whole ∷ []) ≡ length so.first + 1 = length-append so.first (whole ∷ []) in
    record {
      first = so.first ++ whole ∷ [];
      are = so.are ∙ sym (append_assoc so.first (whole ∷ []) others);
      events = so.events ++ fs;
      read = read_more so.first (start_of text) whole text_start (between d) (between n) so.events fs so.read read;
      says = says;
      shut = new.1;
      turn = subst (λ (x : ℕ). TellInTurn (between n) x others) (sym end) turn.1;
      ordered = so.ordered.1;
      even = subst (λ (x : ℕ). (length (all_numbered (so.events ++ fs)) ≡ x) ⊎ (others ≡ [])) (sym pushed) (even_on others (length (all_numbered so.events)) (length (pictures_in fs)) (length so.first) (length (all_numbered (so.events ++ fs))) turn.0 even count);
      few = omega (arith, count, one, even, pushed);
      judge = judge_on so.first so.events place whole len fs notes j k so.judge on (waits_before d.state.waiting d.state.picture) last (subst (λ (o : Option Sequence). AreHeaded o fs) so.says.sequence new.0.headed) new.0.alternates even;
    }

-- ---- between two pieces

-- what the judge knows, where the source tells its bytes
abbrev pub Judging : Change → Cutting → Decoding → Judge → Type 0
Judging left c d j = (text rest : List ℕ) → left.old ≡ Some text → left.new ≡ Some rest → JudgedSoFar text (left_of c rest) d j

before_bytes : (bytes : List ℕ) (us : Units) → grouped Before [] us ≡ grouped Before bytes us
unfolding grouped
before_bytes bytes [] = refl
before_bytes bytes (u ∷ us) = refl

none_so : (text : List ℕ) (j : Judge) → j.rules ≡ no_rules → j.buffer ≡ None → j.bytes ≡ 0 → JudgedSoFar text (left_of before_all text) at_start j
unfolding pieces_read end_of open_pieces numbered
none_so text j rules none bytes =
    let are : pieces text ≡ left_of before_all text = before_bytes (cut 0 text).0 (cut 0 text).1 in
    record {
      first = [];
      are = are;
      events = [];
      read = refl;
      says = says_nothing at_first tt;
      shut = refl;
      turn = subst (TellInTurn text_start (start_of text)) are (pictures_in_turn text);
      ordered = subst AreOrdered are (pieces_ordered text);
      even = inl refl;
      few = omega arith;
      judge = judge_none j rules none bytes;
    }

module _ {S : Type 0} (left : S → Option (List ℕ)) (faults : S → ℕ) where
  abbrev input : S → S → Change
  input = change left faults

  pub judging_none : (i0 : S) (j : Judge) → j.rules ≡ no_rules → j.buffer ≡ None → j.bytes ≡ 0 → Judging (input i0 i0) before_all at_start j
  judging_none i0 j rules none bytes = λ text rest old new.
      let same : text ≡ rest = let e : Some text ≡ Some rest = sym old ∙ new in cc in
      subst (λ (t : List ℕ). JudgedSoFar text (left_of before_all t) at_start j) same (none_so text j rules none bytes)

  pub judging_more : (i0 i1 i2 : S) (c c' : Cutting) (d m n : Decoding) (p : Piece) (notes : Notes) (j k : Judge) → Judging (input i0 i1) c d j → Handed c (left i1) c' (left i2) (Some p) → c'.begun ≡ true
      → (a : Advanced d p.place (whole_of p) notes m) → HasPut m n → Onward p.place (whole_of p) p.length a.events notes j k → Judging (input i0 i2) c' n k
  judging_more i0 i1 i2 c c' d m n p notes j k so handed begun a put on = λ text rest old new.
      let g = gave c handed.bytes rest c' p begun (handed.next rest new) in
      let here = so text (handed.bytes ++ rest) old (moved_some (left i1) (left i2) handed.bytes rest handed.moved new) in
      judged_on text (whole_of p) (left_of c' rest) d m n p.place p.length notes j k (subst (λ (ps : List (List ℕ)). JudgedSoFar text ps d j) g.pieces here) a put on

  abbrev AllSoFar : S → S → Decoding → Judge → Type 0
  AllSoFar i0 i1 d j = (text rest : List ℕ) → left i0 ≡ Some text → left i1 ≡ Some rest → JudgedSoFar text [] d j

  pub judging_all : (i0 i1 i2 : S) (c c' : Cutting) (d : Decoding) (j : Judge) → Judging (input i0 i1) c d j → Handed c (left i1) c' (left i2) None → AllSoFar i0 i2 d j
  judging_all i0 i1 i2 c c' d j so handed = λ text rest old new.
      let next = handed.next rest new in
      let here = so text (handed.bytes ++ rest) old (moved_some (left i1) (left i2) handed.bytes rest handed.moved new) in
      subst (λ (ps : List (List ℕ)). JudgedSoFar text ps d j) next.0 here

-- the pieces so far were read by the reader as by a decoder that has come as far, and judged
pub record SoFar (left : Change) (c : Cutting) (r : Reading) (j : Judge) : Type 0 where
  pub decoder : Decoding
  pub follows : Follows r decoder
  pub progress : Progress left no_output c decoder
  pub judging : Judging left c decoder j
  pub shut : decoder.state.picture ≡ None
