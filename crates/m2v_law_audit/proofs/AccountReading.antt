-- A stream as it is read piece by piece: what each piece tells, and what stands before and behind it.
use Rattle.std.proofs.Common.{◌≡◌, ℕ, ◌+◌, ◌*◌, ◌≤◌, Bool, true, false, cond, List, [], ◌∷◌, ◌++◌, length, map, Option, Some, None, Ok, Err, refl, sym, ap, subst, ◌∙◌, arith}
use Rattle.std.specs.Prelude.{slice_get}
use Rattle.std.proofs.lemmas.List.{append-nil, length-append}
use Rattle.m2v_model.specs.m2v_macroblock.m2v_head.declared.sequence.SequenceInfo.{SequenceInfo}
use Rattle.m2v_model.specs.m2v_macroblock.m2v_head.declared.sequence.SequenceExtension.{SequenceExtension}
use Rattle.m2v_model.specs.declared.state.Sequence.{Sequence}
use Rattle.m2v_model.specs.declared.fault.FaultKind.{FaultKind}
use Rattle.m2v_model.specs.declared.fault.FaultKind.TheVariants.{FieldPair}
use Rattle.m2v_model.specs.Units.{Units, cut}
use Rattle.m2v_model.specs.States.{none_waits}
use Rattle.m2v_model.specs.Streams.{Sofar, Part, after}
use Rattle.m2v_model.specs.Pictures.{Events, pictures_in, told_by}
use Rattle.m2v_model.specs.Pieces.{pieces, before_pieces}
use Rattle.m2v_model.specs.PieceNotes.{PieceNotes, header_pair, notes_of}
use Rattle.m2v_model.specs.Lawful.{sequences_in}
use Rattle.m2v_model.specs.Decoding.{Stream, events, frames_of}
use Rattle.m2v_model.specs.ByPieces.{Between, Course, at_start, read_of, after_part, units_read, piece_read, behind, continued, pieces_read, end_of, text_ended, end_read, text_read, IsOne, TellInTurn}
use Rattle.m2v_model.proofs.EventLaws.{pictures_in-append}
use Rattle.m2v_model.proofs.PieceLaws.{placed, piece_is, by_pieces}
use Rattle.m2v_model.proofs.TurnLaws.{pictures_in_turn}
use Rattle.m2v_model.proofs.Unique.{exactly_one}
use Rattle.m2v_audit.specs.m2v_check.Laws.{Alternates}
use Rattle.m2v_audit.proofs.m2v_check.Telling.{AtLast, InFront, by_units, of_last, first_in, last_in, first-append, AreHeaded, Says, says_on, says_nothing}
use Rattle.m2v_audit.proofs.m2v_check.Ordered.{PictureLast}
use Rattle.m2v_audit.proofs.m2v_check.Onward.{first_stays}
use Rattle.m2v_audit.proofs.m2v_check.m2v_decode.m2v_dec_rows.UnitGifts.{first_value}
use Rattle.m2v_audit.proofs.m2v_check.Checking.{units_of_piece}
use Rattle.m2v_audit.specs.declared.auditing.Auditing.{Auditing}
use Rattle.m2v_audit.specs.Auditing.{longer, begun, begun_by, with_first, cleared, after_piece}
use Rattle.m2v_audit.specs.Front.{front_of}
use Rattle.m2v_law_audit.specs.Found.{along, all_along}
use Rattle.m2v_law_audit.proofs.EventsFront.{Fronts, closed_none, begins_by_sequence}
use Rattle.m2v_law_audit.proofs.EventsPieces.{AreReady, piece_says, all_ready}

-- ---- what one piece tells

-- a piece between others: what it tells, its headers first, and what is told behind it
pub record Turn (b : Between) (p : List ℕ) (later : List (List ℕ)) (es : Events) : Type 0 where
  pub own : Events
  pub next : Between
  pub rest : Events
  pub read : units_read b (cut 0 p).1 ≡ Ok (own, next)
  pub are : es ≡ own ++ rest
  pub fronts : (place : ℕ) → Fronts (front_of place p) own
  pub last : PictureLast own
  pub headed : AreHeaded b.state.sequence own
  pub sequence : next.state.sequence ≡ last_in b.state.sequence own
  pub one : IsOne (length (pictures_in own)) later
  pub shut : b.state.picture ≡ None

-- it is read so wherever it ends
pub turn_read : (b : Between) (p : List ℕ) (later : List (List ℕ)) (es : Events) (t : Turn b p later es) (end : ℕ) → piece_read b end p ≡ Ok (t.own, t.next)
turn_read b p later es t end = piece_is b end p ∙ ap (placed end) t.read

-- pieces in turn, from what stands before them
abbrev pub Turns : Between → List (List ℕ) → Events → Type 0
Turns b [] es = es ≡ []
Turns b (p ∷ ps) es = (t : Turn b p ps es) × Turns t.next ps t.rest

-- ---- one after another

record Continued (c : Course) (f : Between → Course) (es : Events) (last : Between) : Type 0 where
  own : Events
  next : Between
  rest : Events
  first : c ≡ Ok (own, next)
  later : f next ≡ Ok (rest, last)
  are : es ≡ own ++ rest

pub behind_ok : (own : Events) (r : Course) (es : Events) (last : Between) → behind own r ≡ Ok (es, last) → (rest : Events) × (r ≡ Ok (rest, last)) × (es ≡ own ++ rest)
behind_ok own (Ok x) es last e =
    let is : (own ++ x.0, x.1) ≡ (es, last) = cc in
    (x.0, ap (λ (y : Events × Between). Ok (x.0, y.1)) is, sym (ap (λ (y : Events × Between). y.0) is))
behind_ok own (Err f) es last e = absurd cc

continued_ok : (c : Course) (f : Between → Course) (es : Events) (last : Between) → continued c f ≡ Ok (es, last) → Continued c f es last
unfolding continued
continued_ok (Ok x) f es last e =
    let h = behind_ok x.0 (f x.1) es last e in
    record { own = x.0; next = x.1; rest = h.0; first = refl; later = h.1; are = h.2 }
continued_ok (Err g) f es last e = absurd cc

-- pieces that were read tell so, each in its turn
record HasTurns (b : Between) (ps : List (List ℕ)) (es : Events) (last : Between) : Type 0 where
  turns : Turns b ps es
  says : Says b.state es last.state
  shut : last.state.picture ≡ None

turns_of : (ps : List (List ℕ)) (b : Between) (at : ℕ) (es : Events) (last : Between) → pieces_read b at ps ≡ Ok (es, last) → TellInTurn b at ps → AreReady b ps → HasTurns b ps es last
unfolding pieces_read
turns_of [] b at es last e turn ready =
    let is : ([], b) ≡ (es, last) = cc in
    let none : es ≡ [] = sym (ap (λ (x : Events × Between). x.0) is) in
    let same : b ≡ last = ap (λ (x : Events × Between). x.1) is in
    record {
      turns = none;
      says = subst (λ (x : Events × Between). Says b.state x.0 x.1.state) is (says_nothing b.state ready.good);
      shut = subst (λ (x : Between). x.state.picture ≡ None) same ready.shut;
    }
turns_of (p ∷ ps) b at es last e turn ready =
    let end = at + length p in
    let h = continued_ok (piece_read b end p) (λ next. pieces_read next end ps) es last e in
    let read = units_of_piece b end p (h.own, h.next) h.first in
    let s = piece_says b p ps h.own h.next ready read in
    let one = turn h.own h.next h.first in
    let more = turns_of ps h.next end h.rest last h.later one.1 s.ready in
    let here : Turn b p ps es = record {
      own = h.own;
      next = h.next;
      rest = h.rest;
      read = read;
      are = h.are;
      fronts = s.fronts;
      last = s.last;
      headed = (s.says).headed;
      sequence = (s.says).sequence;
      one = one.0;
      shut = ready.shut;
    } in
    record {
      turns = (here, more.turns);
      says = subst (λ (x : Events). Says b.state x last.state) (sym h.are) (says_on b.state h.next.state last.state h.own h.rest s.says more.says);
      shut = more.shut;
    }

-- ---- the end of the text

-- behind a picture that ended nothing is told, and the first sequence header stays
abbrev TellsNothing : Between → Units → Events → Between → Type 0
TellsNothing b us es next = us ≡ [] → b.state.picture ≡ None → (es ≡ []) × (next.state.first ≡ b.state.first)

nothing_last : AtLast TellsNothing
unfolding after
nothing_last b us =
    of_last (λ (p : Part). TellsNothing b us (told_by b.state b.store p) (after_part b p))
    (λ none shut. (closed_none b.state.picture b.store shut, refl)) (λ none shut. (closed_none b.state.picture b.store shut, refl))

nothing_front : InFront TellsNothing
nothing_front b [] mid p es next fits onward ih = absurd onward
nothing_front b (u ∷ us) mid p es next fits onward ih = λ none shut. absurd cc

abbrev whole_or : Bool → Events × Between → FaultKind × ℕ → Course
whole_or w x f = cond w (Ok x) (Err f)

ended_by : (w : Bool) (x y : Events × Between) (f : FaultKind × ℕ) → whole_or w x f ≡ Ok y → (w ≡ true) × (x ≡ y)
ended_by true x y f e = (refl, cc)
ended_by false x y f e = absurd cc

-- a text that ends without a fault: what is read, and that no second field is due
pub ended_ok : (end : ℕ) (c : Course) (y : Events × Between) → text_ended end c ≡ Ok y → (c ≡ Ok y) × (none_waits (y.1).state.waiting ≡ true)
ended_ok end (Ok x) y e =
    let h = ended_by (none_waits (x.1).state.waiting) x y (FieldPair, 8 * end) e in
    (ap (λ (z : Events × Between). Ok z) h.1, ap (λ (z : Events × Between). none_waits (z.1).state.waiting) (sym h.1) ∙ h.0)
ended_ok end (Err f) y e = absurd cc

end_tells : (b : Between) (end : ℕ) (es : Events) (last : Between) → end_read b end ≡ Ok (es, last) → b.state.picture ≡ None → (es ≡ []) × (last.state.first ≡ b.state.first)
unfolding cut
end_tells b end es last e shut =
    let read = units_of_piece b end [] (es, last) (ended_ok end (piece_read b end []) (es, last) e).0 in
    by_units TellsNothing nothing_last nothing_front b [] es last read refl shut

-- ---- a stream

-- a stream is read without a fault, and what is read is what stands in it
pub stream_read : (text : List ℕ) (tree : Sofar) → Stream text tree → text_read text ≡ Ok (read_of at_start tree)
stream_read text tree stream = by (text_read text) refl
  where
    by : (c : Course) → text_read text ≡ c → c ≡ Ok (read_of at_start tree)
    by (Ok x) e =
        let r = (by_pieces text).stands x.0 x.1 e in
        let same : r.tree ≡ tree = (exactly_one text).one_tree r.tree tree r.stream stream in
        ap (λ (y : Events × Between). Ok y) r.told ∙ ap (λ (t : Sofar). Ok (read_of at_start t)) same
    by (Err f) e =
        absurd ((exactly_one text).not_both (frames_of tree) f.1 f.0 (record { tree = tree; stream = stream; shown = refl }) ((by_pieces text).fault f.0 f.1 e))

-- its pieces tell its headers and pictures in turn
pub record InPieces (text : List ℕ) (tree : Sofar) : Type 0 where
  pub turns : Turns at_start (pieces text) (events tree)
  pub first : tree.state.first ≡ first_in None (events tree)
  pub alternates : Alternates false (pictures_in (events tree))

pub in_pieces : (text : List ℕ) (tree : Sofar) → Stream text tree → InPieces text tree
unfolding text_read
in_pieces text tree stream =
    let at = length (before_pieces text) in
    let whole : Between = (read_of at_start tree).1 in
    let h = continued_ok (pieces_read at_start at (pieces text)) (λ last. end_read last (end_of at (pieces text))) (events tree) whole (stream_read text tree stream) in
    let all = turns_of (pieces text) at_start at h.own h.next h.first (pictures_in_turn text) (all_ready text) in
    let end = end_tells h.next (end_of at (pieces text)) h.rest whole h.later all.shut in
    let own : h.own ≡ events tree = sym (append-nil h.own) ∙ ap (λ (x : Events). h.own ++ x) (sym end.0) ∙ sym h.are in
    record {
      turns = subst (Turns at_start (pieces text)) own all.turns;
      first = end.1 ∙ all.says.first ∙ ap (first_in None) own;
      alternates = subst (λ (x : Events). Alternates false (pictures_in x)) own all.says.alternates;
    }

-- ---- what is told along pieces

-- what stands before the headers of a piece, and behind the piece
abbrev pub begun_at : Auditing → ℕ → List ℕ → Events → Auditing
begun_at a at p es = begun a.first (longer (length p) a) at (notes_of at p es)

abbrev pub behind_piece : Auditing → ℕ → List ℕ → Events → Auditing
behind_piece a at p es = cleared (after_piece a at p (notes_of at p es))

-- a list that each piece adds to: what a piece adds, and then what follows it
pub one_piece : {T : Type 0} (here : Auditing → ℕ → List ℕ → PieceNotes → List T) (last : Auditing → List T) (a : Auditing) (b : Between) (at : ℕ) (p : List ℕ) (ps : List (List ℕ)) (es : Events) → (t : Turn b p ps es)
    → all_along here last a b at (p ∷ ps) ≡ here a at p (notes_of at p t.own) ++ all_along here last (behind_piece a at p t.own) t.next (at + length p) ps
unfolding all_along
one_piece here last a b at p ps es t =
    let end = at + length p in
    ap (λ (c : Course). along here last a at p c (λ x y. all_along here last x y end ps)) (turn_read b p ps es t end)

-- ---- the first piece

-- a sequence header stands first in what is told
pub record HasHeader (own : Events) : Type 0 where
  pub header : Sequence
  pub others : List (SequenceInfo × SequenceExtension)
  pub noted : map header_pair (sequences_in own) ≡ header_pair header ∷ others
  pub first : first_in None own ≡ Some header

-- so it does in a piece whose first unit is one
pub first_header : (at : ℕ) (p : List ℕ) (own : Events) → first_value (cut 0 p).1 ≡ Some 0xB3 → Fronts (front_of at p) own → HasHeader own
first_header at p own value fronts =
    let b = begins_by_sequence at p own value fronts in
    record {
      header = b.0;
      others = map header_pair (sequences_in b.1);
      noted = ap (λ (es : Events). map header_pair (sequences_in es)) b.2;
      first = ap (first_in None) b.2 ∙ first_stays b.0 b.1;
    }

-- whatever follows, it is the first one
pub header_stays : (own rest es : Events) → es ≡ own ++ rest → (h : HasHeader own) → first_in None es ≡ Some h.header
header_stays own rest es are h =
    ap (first_in None) are ∙ first-append None own rest ∙ ap (λ (o : Option Sequence). first_in o rest) h.first ∙ first_stays h.header rest

-- the sequence begins with it
pub first_begun : (a : Auditing) (at : ℕ) (p : List ℕ) (own : Events) → a.first ≡ None → (h : HasHeader own)
    → begun_at a at p own ≡ with_first (longer (length p) a) at h.header (notes_of at p own).picture
unfolding notes_of
first_begun a at p own none h =
    let b = longer (length p) a in
    let notes = notes_of at p own in
    ap (λ (z : Option Sequence). begun z b at notes) none
    ∙ ap (λ (ss : List (SequenceInfo × SequenceExtension)). begun_by b at (slice_get ss 0) notes.picture) h.noted

-- ---- how many pictures there are

few_at : (n : ℕ) (later : List (List ℕ)) → IsOne n later → n ≤ 1
few_at n [] one = one
few_at n (p ∷ later) one = omega (arith, one)

-- no more than pieces
pub few_pictures : (b : Between) (ps : List (List ℕ)) (es : Events) → Turns b ps es → length (pictures_in es) ≤ length ps
few_pictures b [] es turns = let none = ap (λ (x : Events). length (pictures_in x)) turns in omega (arith, none)
few_pictures b (p ∷ ps) es turns =
    let t = turns.0 in
    let few = few_at (length (pictures_in t.own)) ps t.one in
    let more = few_pictures t.next ps t.rest turns.1 in
    let count : length (pictures_in es) ≡ length (pictures_in t.own) + length (pictures_in t.rest) =
    ap (λ (x : Events). length (pictures_in x)) t.are ∙ ap length (pictures_in-append t.own t.rest) ∙ length-append (pictures_in t.own) (pictures_in t.rest) in
    omega (arith, few, more, count)
