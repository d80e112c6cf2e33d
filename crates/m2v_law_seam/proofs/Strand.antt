-- What is known of a strand that reads: its units, its parts, and the state in which its end code finds it.
use Rattle.std.proofs.Common.{◌≡◌, ℕ, zero, suc, ◌≤◌, Bool, true, false, List, [], ◌∷◌, ◌++◌, length, drop, Some, refl, sym, ap, subst, ◌∙◌, append-nil, arith}
use Rattle.std.specs.Prelude.{nat_eq, ◌&&◌, ◌||◌}
use Rattle.std.proofs.lemmas.Bool.{eqb-true}
use Rattle.m2v_bits.proofs.SyntaxLaws.{good}
use Rattle.m2v_model.specs.declared.state.Sequence.{Sequence}
use Rattle.m2v_model.specs.declared.state.State.{State}
use Rattle.m2v_model.specs.Units.{Units, begins_code, cut, joined, Clear, AreUnits, Cuts}
use Rattle.m2v_model.specs.States.{at_first, is_complete, none_waits}
use Rattle.m2v_model.specs.Streams.{Part, Sofar, sequence, after, value_of}
use Rattle.m2v_model.specs.Pictures.{Events, no_frames, pictures_in, closed, events_from, store_from}
use Rattle.m2v_model.specs.Decoding.{Stream, pictures}
use Rattle.m2v_model.specs.Pieces.{is_end, begins_piece}
use Rattle.m2v_model.specs.ByPieces.{unit_read}
use Rattle.m2v_model.proofs.CutLaws.{cut_cuts, cut_front, cuts_is, cut_units}
use Rattle.m2v_model.proofs.EventLaws.{pictures_in-append}
use Rattle.m2v_model.proofs.ShiftLaws.{BeginsPiece, NoEnds}
use Rattle.m2v_model.proofs.SplitLaws.{IsKnown}
use Rattle.m2v_law_group.specs.Groups.{is_sequence, end_code}
use Rattle.m2v_law_group.specs.Chosen.{EndClear}
use Rattle.m2v_law_group.proofs.Runs.{Run, Ends, finish, going, IsSplit, split, KnownThere}
use Rattle.m2v_law_group.proofs.Counted.{or_true}
use Rattle.m2v_law_group.proofs.Lists.{Behind, and_parts, or_parts}
use Rattle.m2v_law_group.proofs.Texts.{are_swapped, code_bytes, code_are}
use Rattle.m2v_law_group.proofs.Texts as texts
use Rattle.m2v_law_group.proofs.Told.{events_then}
use Rattle.m2v_law_group.proofs.Tens.{IsFinal, final_told, first_stays, first_kept, headers_kept, run_known}
use Rattle.m2v_law_group.proofs.Start.{sequence_start, complete_there}
use Rattle.m2v_law_group.proofs.Core.{first_read}
use Rattle.m2v_law_group.proofs.Between.{OtherFirst, final_only, paired_end}
use Rattle.m2v_law_group.proofs.Decodes.{read_whole}
use Rattle.m2v_law_seam.specs.Spans.{units_of}
use Rattle.m2v_law_seam.specs.Strands.{begins_sequence, has_end, is_prefix, ends_open, last_open}

-- ---- its units

pub record FirstBytes (bytes : List ℕ) : Type 0 where
  pub rest : List ℕ
  pub is : bytes ≡ 0x00 ∷ 0x00 ∷ 0x01 ∷ 0xB3 ∷ rest

code_parts : (a b c d : Bool) → (a && (b && (c && d))) ≡ true → (a ≡ true) × (b ≡ true) × (c ≡ true) × (d ≡ true)
code_parts a b c d e =
    let x = and_parts a (b && (c && d)) e in
    let y = and_parts b (c && d) x.1 in
    let z = and_parts c d y.1 in
    (x.0, y.0, z.0, z.1)

first_bytes : (bytes : List ℕ) → begins_sequence bytes ≡ true → FirstBytes bytes
first_bytes (a ∷ b ∷ c ∷ d ∷ w) h =
    let p = code_parts (nat_eq a 0) (nat_eq b 0) (nat_eq c 1) (nat_eq d 0xB3) h in
    record { rest = w; is = rw (eqb-true a 0 p.0, eqb-true b 0 p.1, eqb-true c 1 p.2, eqb-true d 0xB3 p.3) refl }
first_bytes _ h = absurd cc

pub none_ends : (us : Units) → has_end us ≡ false → NoEnds us
unfolding has_end
none_ends [] h = tt
none_ends (u ∷ us) h = let p = or_parts (is_end (value_of u)) (has_end us) h in (p.0, none_ends us p.1)

open_ends : (front : List ℕ) → ends_open (front ++ 0x00 ∷ 0x00 ∷ 0x01 ∷ []) ≡ true
unfolding ends_open
open_ends [] = refl
open_ends (x ∷ front) = ap (λ (b : Bool). is_prefix (x ∷ (front ++ 0x00 ∷ 0x00 ∷ 0x01 ∷ [])) || b) (open_ends front) ∙ or_true _

end_clear : (bytes : List ℕ) → ends_open bytes ≡ false → EndClear bytes
end_clear bytes h front e = let wrong : false ≡ true = sym h ∙ ap ends_open e ∙ open_ends front in absurd cc

-- a unit that doesn't end in the prefix of a start code, with the end code behind it
unit_ended : (u : List ℕ) → 4 ≤ length u → Clear 4 u [] → ends_open (drop 4 u) ≡ false → Clear 4 u (end_code ++ [])
unit_ended [] le c h i from lt = absurd (omega arith)
unit_ended (a ∷ []) le c h i from lt = absurd (omega arith)
unit_ended (a ∷ b ∷ []) le c h i from lt = absurd (omega arith)
unit_ended (a ∷ b ∷ d ∷ []) le c h i from lt = absurd (omega arith)
unit_ended (a ∷ b ∷ d ∷ e ∷ w) le c h zero from lt = absurd (omega arith)
unit_ended (a ∷ b ∷ d ∷ e ∷ w) le c h (suc zero) from lt = absurd (omega arith)
unit_ended (a ∷ b ∷ d ∷ e ∷ w) le c h (suc (suc zero)) from lt = absurd (omega arith)
unit_ended (a ∷ b ∷ d ∷ e ∷ w) le c h (suc (suc (suc zero))) from lt = absurd (omega arith)
unit_ended (a ∷ b ∷ d ∷ e ∷ w) le c h (suc (suc (suc (suc i)))) from lt =
    let own : begins_code (drop i w) ≡ false = subst (λ (l : List ℕ). begins_code (drop i l) ≡ false) (append-nil w) (c (suc (suc (suc (suc i)))) (omega arith) (omega (arith, lt))) in
    texts.end_clear w i (omega (arith, lt)) own (end_clear w h)

-- units of which the last one doesn't, with the end code behind them
pub units_ended : (us : Units) → AreUnits us → last_open us ≡ false → AreUnits (us ++ end_code ∷ [])
unfolding last_open
units_ended [] are h = code_are
units_ended (u ∷ []) are h = (are.0, are.1, unit_ended u are.0 are.2 h, code_are)
units_ended (u ∷ v ∷ us) are h =
    let later = units_ended (v ∷ us) are.3 h in
    let b = code_bytes v are.3.1 in
    are_swapped (u ∷ []) (v ∷ us) ((v ∷ us) ++ end_code ∷ []) 0x00 0x00 0x01 b.value b.value (b.rest ++ joined us) (b.rest ++ joined (us ++ end_code ∷ []))
    (ap (λ (l : List ℕ). l ++ joined us) b.is) (ap (λ (l : List ℕ). l ++ joined (us ++ end_code ∷ [])) b.is) later are

unit_sequence : (u rest w : List ℕ) → 4 ≤ length u → u ++ rest ≡ 0x00 ∷ 0x00 ∷ 0x01 ∷ 0xB3 ∷ w → is_sequence u ≡ true
unit_sequence (a ∷ b ∷ c ∷ d ∷ x) rest w le e = let four : d ≡ 0xB3 = cc in ap (λ (n : ℕ). nat_eq n 0xB3) four
unit_sequence _ rest w le e = absurd (omega arith)

-- the units of a strand, with its end code behind them
pub record StrandUnits (bytes : List ℕ) : Type 0 where
  pub h : List ℕ
  pub pm : Units
  pub whole : bytes ≡ joined (h ∷ pm)
  pub are : AreUnits (h ∷ pm)
  pub ended : AreUnits ((h ∷ pm) ++ end_code ∷ [])
  pub is : is_sequence h ≡ true
  pub goes : NoEnds (h ∷ pm)
  pub begins : FirstBytes bytes

units_by : (bytes : List ℕ) (us : Units) → FirstBytes bytes → bytes ≡ joined us → AreUnits us → has_end us ≡ false → last_open us ≡ false → StrandUnits bytes
units_by bytes [] f whole are no_end closed = let wrong : 0x00 ∷ 0x00 ∷ 0x01 ∷ 0xB3 ∷ f.rest ≡ [] = sym f.is ∙ whole in absurd cc
units_by bytes (h ∷ pm) f whole are no_end closed =
    record {
      h = h;
      pm = pm;
      whole = whole;
      are = are;
      ended = units_ended (h ∷ pm) are closed;
      is = unit_sequence h (joined pm) f.rest are.0 (sym whole ∙ f.is);
      goes = none_ends (h ∷ pm) no_end;
      begins = f;
    }

pub strand_units : (bytes : List ℕ) → begins_sequence bytes ≡ true → has_end (cut 0 bytes).1 ≡ false → last_open (cut 0 bytes).1 ≡ false → StrandUnits bytes
strand_units bytes begins no_end closed =
    let f = first_bytes bytes begins in
    let c = cut_cuts bytes in
    let code : begins_code bytes ≡ true = ap begins_code f.is in
    let whole : bytes ≡ joined (cut 0 bytes).1 = c.whole ∙ ap (λ (l : List ℕ). l ++ joined (cut 0 bytes).1) (cut_front bytes code) in
    units_by bytes (cut 0 bytes).1 f whole c.are_units no_end closed

pub own_units : (bytes : List ℕ) (x : StrandUnits bytes) → units_of bytes ≡ x.h ∷ x.pm
own_units bytes x = ap units_of x.whole ∙ cut_units (x.h ∷ x.pm) x.are

-- ---- its parts

no_parts : {st z : State} {us rest : Units} {ps : List Part} → Ends st us ps z rest → ps ≡ [] → ⊥
no_parts (finish e) none = absurd cc
no_parts (going e later) none = absurd cc

-- one part alone leaves its own state
one_part : {st z : State} {us rest : Units} {ps : List Part} → Ends st us ps z rest → (p : Part) → ps ≡ p ∷ [] → z ≡ after st p
one_part {st} (finish {p = q} e) p is = let same : q ≡ p = cc in ap (after st) same
one_part (going {ps = later} e h) p is = let none : later ≡ [] = cc in absurd (no_parts h none)

pub code_begins : BeginsPiece (end_code ∷ [])
unfolding begins_piece
code_begins = refl

pub code_behind : Behind (end_code ∷ [])
unfolding is_end
code_behind = refl

code_other : OtherFirst (end_code ∷ [])
code_other = refl

-- what is read of a strand up to its end code: a sequence header, and parts behind it
pub record StrandRead (tree : Sofar) (h : List ℕ) (pm : Units) : Type 0 where
  pub s : Sequence
  pub later : List Part
  pub mid : Units
  pub between : State
  pub last : Part
  pub read : unit_read at_first (h ∷ pm) ≡ good ((true, sequence s), mid)
  pub run : Run (after at_first (sequence s)) mid later between []
  pub all : Run at_first (h ∷ pm) (sequence s ∷ later) between []
  pub parts : tree.parts ≡ (sequence s ∷ later) ++ last ∷ []
  pub final_one : IsFinal last
  pub state : tree.state ≡ after between last
  pub rest : Units
  pub ends : Ends at_first ((h ∷ pm) ++ end_code ∷ []) tree.parts tree.state rest
  pub known : IsKnown between
  pub complete : is_complete between.sequence between.picture ≡ true
  pub paired : none_waits between.waiting ≡ true
  pub headers : between.headers_only ≡ false
  pub first : between.first ≡ Some s
  pub first_told : tree.state.first ≡ Some s

pub known_behind : (st : State) (s : Sequence) → IsKnown (after st (sequence s))
unfolding after
known_behind st s = refl

pub first_behind : (s : Sequence) → (after at_first (sequence s)).first ≡ Some s
unfolding after
first_behind s = refl

known_start : (h : List ℕ) (pm : Units) → is_sequence h ≡ true → KnownThere at_first (h ∷ pm)
known_start h pm is = is

read_by : (tree : Sofar) (h : List ℕ) (pm rest : Units) → is_sequence h ≡ true → none_waits tree.state.waiting ≡ true → Ends at_first ((h ∷ pm) ++ end_code ∷ []) tree.parts tree.state rest
    → IsSplit at_first (h ∷ pm) (end_code ∷ []) tree.parts tree.state rest → StrandRead tree h pm
read_by tree h pm rest is paired ends i =
    let f = first_read at_first i.between h pm i.mine i.run in
    let q = sequence_start at_first h pm f.mid f.p is f.read in
    let run : Run (after at_first (sequence q.s)) f.mid f.later i.between [] = subst (λ (y : Part). Run (after at_first y) f.mid f.later i.between []) q.part f.run in
    let mine : i.mine ≡ sequence q.s ∷ f.later = f.parts ∙ ap (λ (y : Part). y ∷ f.later) q.part in
    let known = run_known run (known_behind at_first q.s) in
    let o = final_only i.later code_behind known in
    let state = one_part i.later o.0 o.1 in
    let first = first_kept run q.s (first_behind q.s) in
    record {
      s = q.s;
      later = f.later;
      mid = f.mid;
      between = i.between;
      last = o.0;
      read = subst (λ (y : Part). unit_read at_first (h ∷ pm) ≡ good ((true, y), f.mid)) q.part f.read;
      run = run;
      all = subst (λ (l : List Part). Run at_first (h ∷ pm) l i.between []) mine i.run;
      parts = i.parts ∙ ap (λ (l : List Part). l ++ i.others) mine ∙ ap (λ (l : List Part). (sequence q.s ∷ f.later) ++ l) o.1;
      final_one = o.2;
      state = state;
      rest = rest;
      ends = ends;
      known = known;
      complete = complete_there i.later code_begins known;
      paired = paired_end i.later code_begins code_other known paired;
      headers = headers_kept i.run;
      first = first;
      first_told = ap (λ (y : State). y.first) state ∙ first_stays i.between o.0 q.s first;
    }

pub strand_read : (bytes : List ℕ) (tree : Sofar) → (u : StrandUnits bytes) → Stream (bytes ++ end_code) tree → StrandRead tree u.h u.pm
strand_read bytes tree u stream =
    let us = u.h ∷ u.pm in
    let cuts : Cuts (bytes ++ end_code) [] (us ++ end_code ∷ []) = subst (λ (l : List ℕ). Cuts (l ++ end_code) [] (us ++ end_code ∷ [])) (sym u.whole) (texts.cut_cuts us u.ended) in
    let same : stream.units ≡ us ++ end_code ∷ [] = ap (λ (x : List ℕ × Units). x.1) (sym (cuts_is (bytes ++ end_code) stream.front stream.units stream.cuts) ∙ cuts_is (bytes ++ end_code) [] (us ++ end_code ∷ []) cuts) in
    let w = read_whole stream.units stream.rest tree stream.stands in
    let ends = subst (λ (l : Units). Ends at_first l tree.parts tree.state w.rest) same w.ends in
    read_by tree u.h u.pm w.rest u.is w.paired ends (split ends us (end_code ∷ []) refl code_begins u.goes (known_start u.h u.pm u.is))

-- ---- what it tells

last_pictures : (z : State) (p : Part) (ps : List Part) (us : Units) → Run at_first us ps z [] → IsFinal p
    → pictures_in (events_from at_first no_frames (ps ++ p ∷ [])) ≡ pictures_in (events_from at_first no_frames ps) ++ pictures_in (closed z.picture (store_from at_first no_frames ps))
last_pictures z p ps us run f =
    ap pictures_in (events_then run no_frames (p ∷ []) ∙ ap (λ (l : Events). events_from at_first no_frames ps ++ l) (final_told z (store_from at_first no_frames ps) p f))
    ∙ pictures_in-append (events_from at_first no_frames ps) (closed z.picture (store_from at_first no_frames ps))

pub strand_pictures : (tree : Sofar) (h : List ℕ) (pm : Units) (r : StrandRead tree h pm)
    → pictures tree ≡ pictures_in (events_from at_first no_frames (sequence r.s ∷ r.later)) ++ pictures_in (closed (r.between).picture (store_from at_first no_frames (sequence r.s ∷ r.later)))
strand_pictures tree h pm r = ap (λ (l : List Part). pictures_in (events_from at_first no_frames l)) r.parts ∙ last_pictures r.between r.last (sequence r.s ∷ r.later) (h ∷ pm) r.all r.final_one
