-- A front of a stream without a fault, up to where a piece begins and no second field is due, reads with an end code behind it.
use Rattle.std.proofs.Common.{◌≡◌, ℕ, suc, ◌<◌, ◌≤◌, Bool, true, false, List, [], ◌∷◌, ◌++◌, length, drop, Option, Some, None, Ok, Err, refl, sym, ap, subst, ◌∙◌, arith}
use Rattle.std.specs.Prelude.{nat_eq, ◌&&◌}
use Rattle.m2v_model.specs.declared.state.Sequence.{Sequence}
use Rattle.m2v_model.specs.declared.state.State.{State}
use Rattle.m2v_model.specs.Units.{Units, begins_code, cut, joined, Clear, AreUnits}
use Rattle.m2v_model.specs.States.{at_first, none_waits}
use Rattle.m2v_model.specs.Streams.{Part, Sofar, sequence, ending, after}
use Rattle.m2v_model.specs.Decoding.{Stream, frames_of}
use Rattle.m2v_model.specs.ByPieces.{Course, text_read}
use Rattle.m2v_model.proofs.CutLaws.{cut_units}
use Rattle.m2v_model.proofs.PieceLaws.{by_pieces}
use Rattle.m2v_model.proofs.Unique.{exactly_one}
use Rattle.m2v_model.proofs.ShiftLaws.{BeginsPiece, NoEnds}
use Rattle.m2v_law_group.specs.Groups.{is_sequence, end_code}
use Rattle.m2v_law_group.proofs.Runs.{Run, Ends, split, run_before, rounds_by, last_round}
use Rattle.m2v_law_group.proofs.Texts.{code_bytes}
use Rattle.m2v_law_group.proofs.Texts as texts
use Rattle.m2v_law_group.proofs.Tens.{first_kept, run_known}
use Rattle.m2v_law_group.proofs.Start.{sequence_start, complete_there, end_read}
use Rattle.m2v_law_group.proofs.Core.{first_read, stream_by}
use Rattle.m2v_law_seam.specs.Strands.{is_read, first_in, begins_sequence, has_end, ends_open, last_open, reads}
use Rattle.m2v_law_seam.specs.Strands as strands
use Rattle.m2v_law_seam.proofs.Strand.{code_begins, known_behind, first_behind}
use Rattle.m2v_law_seam.proofs.Chain.{reads_as}
use Rattle.m2v_law_seam.proofs.Joint.{ending_numbers}

-- ---- units before others

-- bytes before others that begin with 0, of which none begins a start code, don't end in the prefix of one
closed_by : (w rest : List ℕ) → ((i : ℕ) → i < length w → begins_code (drop i (w ++ 0x00 ∷ rest)) ≡ false) → ends_open w ≡ false
unfolding ends_open
closed_by [] rest h = refl
closed_by (x ∷ []) rest h = refl
closed_by (x ∷ y ∷ []) rest h = refl
closed_by (x ∷ y ∷ z ∷ []) rest h = rw (h 0 (omega arith)) refl
closed_by (x ∷ y ∷ z ∷ v ∷ w) rest h = closed_by (y ∷ z ∷ v ∷ w) rest (λ i lt. h (suc i) (omega (arith, lt)))

unit_closed : (u : List ℕ) (rest : List ℕ) → 4 ≤ length u → Clear 4 u (0x00 ∷ rest) → ends_open (drop 4 u) ≡ false
unit_closed (a ∷ b ∷ d ∷ e ∷ w) rest le c = closed_by w rest (λ i lt. c (suc (suc (suc (suc i)))) (omega arith) (omega (arith, lt)))
unit_closed _ rest le c = absurd (omega arith)

pub front_closed : (us : Units) (v : List ℕ) (vs : Units) → AreUnits (us ++ v ∷ vs) → last_open us ≡ false
unfolding last_open
front_closed [] v vs are = refl
front_closed (u ∷ []) v vs are =
    let b = code_bytes v are.3.1 in
    unit_closed u (0x00 ∷ 0x01 ∷ b.value ∷ (b.rest ++ joined vs)) are.0 (subst (Clear 4 u) (ap (λ (l : List ℕ). l ++ joined vs) b.is) are.2)
front_closed (u ∷ w ∷ us) v vs are = front_closed (w ∷ us) v vs are.3

-- ---- what is known of a stream

-- its units from the first sequence header on, as they were read to their end
pub record ReadOn (us : Units) : Type 0 where
  pub parts : List Part
  pub state : State
  pub rest : Units
  pub ends : Ends at_first us parts state rest
  pub paired : none_waits state.waiting ≡ true

-- the sequence header of parts that begin with one
abbrev pub first_of : List Part → Option Sequence
first_of [] = None
first_of (p ∷ ps) = header_of p
  where
    header_of : Part → Option Sequence
    header_of (sequence s) = Some s
    header_of p = None

-- a front that reads, with the first sequence header of all
pub record FrontReads (fu : Units) (first : Option Sequence) : Type 0 where
  pub read : reads (joined fu) ≡ true
  pub first_is : first_in (strands.read_of (joined fu)) ≡ first

-- behind units no second field is due
abbrev pub Rests : Units → Type 0
Rests us = (ps : List Part) (z : State) → Run at_first us ps z [] → none_waits z.waiting ≡ true

-- ---- it is a stream

-- the front's tree
record FrontStream (h : List ℕ) (pm : Units) (parts : List Part) : Type 0 where
  tree : Sofar
  stream : Stream (joined (h ∷ pm) ++ end_code) tree
  s : Sequence
  others : List Part
  begins : parts ≡ sequence s ∷ others
  first : tree.state.first ≡ Some s

front_stream : (h : List ℕ) (pm bu : Units) (r : ReadOn ((h ∷ pm) ++ bu)) → is_sequence h ≡ true → NoEnds (h ∷ pm) → BeginsPiece bu → Rests (h ∷ pm) → AreUnits ((h ∷ pm) ++ end_code ∷ []) → FrontStream h pm r.parts
front_stream h pm bu r is goes begins rests are =
    let i = split r.ends (h ∷ pm) bu refl begins goes is in
    let f = first_read at_first i.between h pm i.mine i.run in
    let q = sequence_start at_first h pm f.mid f.p is f.read in
    let run : Run (after at_first (sequence q.s)) f.mid f.later i.between [] = subst (λ (y : Part). Run (after at_first y) f.mid f.later i.between []) q.part f.run in
    let known = run_known run (known_behind at_first q.s) in
    let complete = complete_there i.later begins known in
    let paired = rests i.mine i.between i.run in
    let z = i.between in
    let code = end_code ∷ [] in
    let whole = run_before code code_begins i.run in
    let tree : Sofar = record { state = after z ending; parts = i.mine ++ ending ∷ [] } in
    let rounds = rounds_by whole [] tree [] (last_round z i.mine ending code [] (end_read z known complete paired)) in
    let mine : i.mine ≡ sequence q.s ∷ f.later = f.parts ∙ ap (λ (y : Part). y ∷ f.later) q.part in
    record {
      tree = tree;
      stream = record { front = []; units = (h ∷ pm) ++ code; rest = []; cuts = texts.cut_cuts (h ∷ pm) are; stands = stream_by tree ((h ∷ pm) ++ code) [] rounds (ap none_waits (ending_numbers z).0 ∙ paired) };
      s = q.s;
      others = f.later ++ i.others;
      begins = i.parts ∙ ap (λ (l : List Part). l ++ i.others) mine;
      first = (ending_numbers z).1 ∙ first_kept run q.s (first_behind q.s);
    }

-- ---- so it reads

read_good : (text : List ℕ) (tree : Sofar) → Stream text tree → (r : Course) → text_read text ≡ r → is_read r ≡ true
read_good text tree s (Ok x) e = refl
read_good text tree s (Err (kind, place)) e = absurd ((exactly_one text).not_both (frames_of tree) place kind (record { tree = tree; stream = s; shown = refl }) ((by_pieces text).fault kind place e))

pub stream_reads : (text : List ℕ) (tree : Sofar) → Stream text tree → is_read (text_read text) ≡ true
stream_reads text tree s = read_good text tree s (text_read text) refl

pub none_end : (us : Units) → NoEnds us → has_end us ≡ false
unfolding has_end
none_end [] n = refl
none_end (u ∷ us) n = rw (n.0) (none_end us n.1)

unit_begins : (h : List ℕ) (pm : Units) → AreUnits (h ∷ pm) → is_sequence h ≡ true → begins_sequence (joined (h ∷ pm)) ≡ true
unit_begins [] pm are is = absurd (omega (arith, are.0))
unit_begins (a ∷ []) pm are is = absurd (omega (arith, are.0))
unit_begins (a ∷ b ∷ []) pm are is = absurd (omega (arith, are.0))
unit_begins (a ∷ b ∷ c ∷ []) pm are is = absurd (omega (arith, are.0))
unit_begins (a ∷ b ∷ c ∷ d ∷ w) pm are is = four (nat_eq a 0) (nat_eq b 0) (nat_eq c 1) (nat_eq d 0xB3) are.1 is
  where
    four : (x y z v : Bool) → (x && (y && z)) ≡ true → v ≡ true → (x && (y && (z && v))) ≡ true
    four true true z v e i = rw i both_on
      where
        both_on : (z && true) ≡ true
        both_on = rw e refl
    four true false z v e i = absurd cc
    four false y z v e i = absurd cc

front_by : (h : List ℕ) (pm : Units) (parts : List Part) → AreUnits (h ∷ pm) → is_sequence h ≡ true → NoEnds (h ∷ pm) → last_open (h ∷ pm) ≡ false → FrontStream h pm parts → FrontReads (h ∷ pm) (first_of parts)
front_by h pm parts are is goes closed f =
    let us = h ∷ pm in
    let same : (cut 0 (joined us)).1 ≡ us = cut_units us are in
    let read : reads (joined us) ≡ true =
    rw (unit_begins h pm are is, ap has_end same ∙ none_end us goes, ap last_open same ∙ closed, stream_reads (joined us ++ end_code) f.tree f.stream) refl in
    let x = reads_as (joined us) read in
    let one : x.tree ≡ f.tree = (exactly_one (joined us ++ end_code)).one_tree x.tree f.tree x.stream f.stream in
    record {
      read = read;
      first_is = x.first_is ∙ sym x.first ∙ ap (λ (y : Sofar). y.state.first) one ∙ f.first ∙ sym (ap first_of f.begins);
    }

-- a front of units that were read, where a piece begins and no second field is due, or up to their end
pub front_reads : (h : List ℕ) (pm bu : Units) (r : ReadOn ((h ∷ pm) ++ bu)) → is_sequence h ≡ true → NoEnds (h ∷ pm) → BeginsPiece bu → Rests (h ∷ pm) → AreUnits (h ∷ pm) → AreUnits ((h ∷ pm) ++ end_code ∷ []) → last_open (h ∷ pm) ≡ false → FrontReads (h ∷ pm) (first_of r.parts)
front_reads h pm bu r is goes begins rests are ended closed = front_by h pm r.parts are is goes closed (front_stream h pm bu r is goes begins rests ended)
