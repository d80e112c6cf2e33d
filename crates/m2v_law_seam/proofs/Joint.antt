-- The law of a seam.
use Rattle.std.proofs.Common.{◌≡◌, ℕ, Bool, true, false, List, [], ◌∷◌, ◌++◌, Option, Some, None, refl, sym, ap, subst, ◌∙◌, append_assoc, append-nil, arith}
use Rattle.std.specs.Prelude.{nat_eq, ◌&&◌}
use Rattle.std.specs.Bool.{beq}
use Rattle.std.proofs.lemmas.Bool.{eqb-true}
use Rattle.std.proofs.lemmas.Option.{same_Some}
use Rattle.m2v_bits.specs.Syntax.{seq, done, rule}
use Rattle.m2v_bits.proofs.SyntaxLaws.{good}
use Rattle.m2v_model.specs.declared.state.Sequence.{Sequence}
use Rattle.m2v_model.specs.declared.state.FirstField.{FirstField}
use Rattle.m2v_model.specs.declared.state.State.{State}
use Rattle.m2v_model.specs.Units.{Units, unit_bits, joined, AreUnits, Cuts}
use Rattle.m2v_model.specs.States.{at_first, is_complete, is_same_sequence, none_waits, width_of, height_of, first_or}
use Rattle.m2v_model.specs.Streams.{Part, Sofar, sequence, ending, after, value_of, close, no_second_field_due, sequence_unit}
use Rattle.m2v_model.specs.Pictures.{Store, Pictures, sequence_header, no_frames, pictures_in, closed, picture_ended, events_from, store_from}
use Rattle.m2v_model.specs.Decoding.{Stream, pictures, frames_of, low_delay_of, shown}
use Rattle.m2v_model.specs.Pieces.{begins_piece}
use Rattle.m2v_model.specs.ByPieces.{unit_read}
use Rattle.m2v_model.proofs.StreamLaws.{known_lawful}
use Rattle.m2v_model.proofs.CutLaws.{joined-append, are_before}
use Rattle.m2v_model.proofs.EventLaws.{pictures_in-append}
use Rattle.m2v_model.proofs.SplitLaws.{IsKnown}
use Rattle.m2v_model.proofs.PieceLaws.{no_ends-append}
use Rattle.m2v_law_group.specs.Groups.{is_sequence, end_code}
use Rattle.m2v_law_group.proofs.Law.{sequence_events, sequence_store}
use Rattle.m2v_law_group.proofs.Held.{closed_beside}
use Rattle.m2v_law_group.proofs.Lists.{and_parts}
use Rattle.m2v_law_group.proofs.Runs.{Run, step, run_before, run_then, rounds_by, last_round}
use Rattle.m2v_law_group.proofs.Texts.{are_swapped}
use Rattle.m2v_law_group.proofs.Told.{events_then}
use Rattle.m2v_law_group.proofs.Tens.{run_known}
use Rattle.m2v_law_group.proofs.Start.{none_is, sequence_back, known_sequence, start_both, end_read}
use Rattle.m2v_law_group.proofs.Core.{stream_by, ending_events}
use Rattle.m2v_law_seam.specs.Strands.{all_stand, keeps_rule, are_joint, agrees}
use Rattle.m2v_law_seam.specs.Seam.{Seam}
use Rattle.m2v_law_seam.proofs.Behind.{AreSeamed, none_yet}
use Rattle.m2v_law_seam.proofs.Again.{AllStand, stand_front, RunsAgain, runs_again}
use Rattle.m2v_law_seam.proofs.Orders.{shown_append}
use Rattle.m2v_law_seam.proofs.Rules.{stand_parts, beside_same}
use Rattle.m2v_law_seam.proofs.Strand.{StrandUnits, strand_units, StrandRead, strand_read, strand_pictures, known_behind, code_begins}

-- ---- headers that agree

nat_on : (a b c : ℕ) → nat_eq a b ≡ true → nat_eq b c ≡ true → nat_eq a c ≡ true
nat_on a b c e f = subst (λ (n : ℕ). nat_eq n c ≡ true) (sym (eqb-true a b e)) f

pub bool_is : (a b : Bool) → beq a b ≡ true → a ≡ b
bool_is true true e = refl
bool_is false false e = refl
bool_is true false e = absurd cc
bool_is false true e = absurd cc

four_parts : (a b c d : Bool) → (a && b && c && d) ≡ true → (a ≡ true) × (b ≡ true) × (c ≡ true) × (d ≡ true)
four_parts a b c d e =
    let x = and_parts (a && b && c) d e in
    let y = and_parts (a && b) c x.0 in
    let z = and_parts a b y.0 in
    (z.0, z.1, y.1, x.1)

four_true : (a b c d : Bool) → a ≡ true → b ≡ true → c ≡ true → d ≡ true → (a && b && c && d) ≡ true
four_true a b c d p q r s = rw (p, q, r, s) refl

-- what a header says that says what the first one says, the first one says too
same_on : (f s x : Sequence) → is_same_sequence (Some f) s ≡ true → is_same_sequence (Some s) x ≡ true → is_same_sequence (Some f) x ≡ true
same_on f s x e g =
    let p = four_parts _ _ _ _ e in
    let q = four_parts _ _ _ _ g in
    four_true _ _ _ _ (nat_on (width_of f) (width_of s) (width_of x) p.0 q.0) (nat_on (height_of f) (height_of s) (height_of x) p.1 q.1)
    (subst (λ (b : Bool). beq b x.extension.progressive_sequence ≡ true) (sym (bool_is f.extension.progressive_sequence s.extension.progressive_sequence p.2)) q.2)
    (nat_on f.extension.chroma_format s.extension.chroma_format x.extension.chroma_format p.3 q.3)

record AreJoint (f s : Sequence) : Type 0 where
  same : is_same_sequence (Some f) s ≡ true
  low_delay : f.extension.low_delay ≡ s.extension.low_delay

joint_by : (f s : Sequence) → are_joint f s ≡ true → AreJoint f s
joint_by f s e =
    let a = and_parts _ (beq f.extension.low_delay s.extension.low_delay) e in
    let b = and_parts _ (nat_eq f.extension.rate_d s.extension.rate_d) a.0 in
    let c = and_parts _ (nat_eq f.extension.rate_n s.extension.rate_n) b.0 in
    let d = and_parts (is_same_sequence (Some f) s) (nat_eq f.info.frame_rate_code s.info.frame_rate_code) c.0 in
    record { same = d.0; low_delay = bool_is f.extension.low_delay s.extension.low_delay a.1 }

agreed : (a b : Option Sequence) (f s : Sequence) → a ≡ Some f → b ≡ Some s → agrees a b ≡ true → AreJoint f s
agreed a b f s ea eb h = joint_by f s (subst (λ (x : Option Sequence). agrees (Some f) x ≡ true) eb (subst (λ (x : Option Sequence). agrees x b ≡ true) ea h))

-- ---- the second strand's sequence header, behind the first one

sequence_forth : (a : State) (start : ℕ) (u : List ℕ) (us mid : Units) (s : Sequence) → (sequence_unit at_first start u).Stands (sequence s) us mid → is_complete a.sequence a.picture ≡ true → none_waits a.waiting ≡ true → is_same_sequence a.first s ≡ true
    → (sequence_unit a start u).Stands (sequence s) us mid
unfolding sequence_unit close no_second_field_due seq rule done
sequence_forth a start u us mid s (i, t0, ended, (j, t1, waits, (info, t2, own, (next, t3, at, (v, t4, there, (x, t5, read, (l, t6, first, is))))))) complete paired same =
    let read_as : Sequence = record { info = info; extension = x } in
    let here : is_same_sequence a.first read_as ≡ true = subst (λ (y : Sequence). is_same_sequence a.first y ≡ true) (header_same s read_as is.0) same in
    (i, t0, (complete, ended.1), (j, t1, (paired, waits.1), (info, t2, own, (next, t3, at, (v, t4, there, (x, t5, read, (l, t6, (here, first.1), is)))))))
  where
    header_same : (x y : Sequence) → sequence x ≡ sequence y → x ≡ y
    header_same x y e = cc

header_again : (a : State) (h : List ℕ) (pm mid : Units) (s : Sequence) → is_sequence h ≡ true → unit_read at_first (h ∷ pm) ≡ good ((true, sequence s), mid) → is_complete a.sequence a.picture ≡ true → none_waits a.waiting ≡ true → is_same_sequence a.first s ≡ true
    → unit_read a (h ∷ pm) ≡ good ((true, sequence s), mid)
unfolding unit_read
header_again a h pm mid s is e complete paired same =
    let start = unit_bits (h ∷ pm) in
    let own = known_sequence at_first start h pm mid (sequence s) is ((known_lawful at_first start (value_of h) h).found (true, sequence s) pm mid e) in
    (known_lawful a start (value_of h) h).only (true, sequence s) pm mid (sequence_back a start h pm mid (sequence s) is (sequence_forth a start h pm mid s own complete paired same))

-- both behind it
header_first : (a : State) (f s : Sequence) → a.first ≡ Some f → (after a (sequence s)).first ≡ Some f
unfolding after
header_first a f s e = ap (λ (x : Option Sequence). Some (first_or x s)) e

header_seamed : (a : State) (sa : Store) (f s : Sequence) → a.first ≡ Some f → a.waiting ≡ None → a.headers_only ≡ false → is_same_sequence a.first s ≡ true
    → AreSeamed f s 0 (after a (sequence s)) (after at_first (sequence s)) (picture_ended a.picture sa) no_frames
unfolding after
header_seamed a sa f s first waits headers same =
    let b = start_both true a s (picture_ended a.picture sa) waits headers same (λ off. absurd cc) (λ off. absurd cc) in
    record {
      alike = b.alike;
      whole = header_first a f s first;
      alone = refl;
      same = refl;
      reach = none_yet refl;
      held = b.held;
    }

-- ---- the second strand behind the first one

-- what is read of it there: the same parts, which tell the same pictures
record SecondRead (first second : Sofar) (ha hb : List ℕ) (pa pb : Units) (x : StrandRead first ha pa) (y : StrandRead second hb pb) : Type 0 where
  state : State
  run : Run x.between (hb ∷ pb) (sequence y.s ∷ y.later) state []
  known : IsKnown state
  complete : is_complete state.sequence state.picture ≡ true
  paired : none_waits state.waiting ≡ true
  first_is : state.first ≡ Some x.s
  told : pictures_in (events_from (after x.between (sequence y.s)) (picture_ended (x.between).picture (store_from at_first no_frames (sequence x.s ∷ x.later))) y.later)
      ++ pictures_in (closed state.picture (store_from (after x.between (sequence y.s)) (picture_ended (x.between).picture (store_from at_first no_frames (sequence x.s ∷ x.later))) y.later))
      ≡ pictures second

start_numbers : (s : Sequence) → ((after at_first (sequence s)).anchors ≡ 0) × ((after at_first (sequence s)).waiting ≡ None)
unfolding after
start_numbers s = (refl, refl)

-- a sequence header with no picture before it tells no picture
header_told : (s : Sequence) (ps : List Part) → pictures_in (events_from at_first no_frames (sequence s ∷ ps)) ≡ pictures_in (events_from (after at_first (sequence s)) no_frames ps)
unfolding events_from
header_told s ps = refl

header_store : (s : Sequence) (ps : List Part) → store_from at_first no_frames (sequence s ∷ ps) ≡ store_from (after at_first (sequence s)) no_frames ps
unfolding store_from
header_store s ps = refl

-- its parts may stand in a strand
parts_stand : (second : Sofar) (h : List ℕ) (pm : Units) (y : StrandRead second h pm) → all_stand 0 (pictures second) ≡ true → AllStand 0 None y.later
parts_stand second h pm y rule =
    let all : AllStand 0 None second.parts = stand_parts y.ends refl no_frames 0 rule in
    let parts : AllStand 0 None ((sequence y.s ∷ y.later) ++ y.last ∷ []) = subst (AllStand 0 None) y.parts all in
    stand_front 0 None y.later (y.last ∷ []) parts

-- the pictures that it tells in place and by itself are the same
second_told : (second : Sofar) (h : List ℕ) (pm : Units) (y : StrandRead second h pm) (f : Sequence) (w : State) (sw : Store) (i : RunsAgain f y.s 0 w sw no_frames y.mid [] y.later (after at_first (sequence y.s)) y.between) → all_stand 0 (pictures second) ≡ true
    → pictures_in (events_from w sw y.later) ++ pictures_in (closed (i.state).picture (store_from w sw y.later)) ≡ pictures second
second_told second h pm y f w sw i rule =
    let c = after at_first (sequence y.s) in
    let z = y.between in
    let both = i.both in
    let ps = pictures_in (closed (i.state).picture (store_from w sw y.later)) in
    let qs = pictures_in (closed z.picture (store_from c no_frames y.later)) in
    let beside = closed_beside true i.next z.anchors z.waiting (i.state).picture z.picture (store_from w sw y.later) (store_from c no_frames y.later) both.held [] [] tt in
    let told = i.told (ps ++ []) (qs ++ []) beside in
    let mine : pictures second ≡ pictures_in (events_from c no_frames y.later) ++ (qs ++ []) =
    strand_pictures second h pm y
    ∙ ap (λ (l : Pictures). l ++ pictures_in (closed z.picture (store_from at_first no_frames (sequence y.s ∷ y.later)))) (header_told y.s y.later)
    ∙ ap (λ (t : Store). pictures_in (events_from c no_frames y.later) ++ pictures_in (closed z.picture t)) (header_store y.s y.later)
    ∙ ap (λ (l : Pictures). pictures_in (events_from c no_frames y.later) ++ l) (sym (append-nil qs)) in
    let same = beside_same 0 (pictures_in (events_from w sw y.later) ++ (ps ++ [])) (pictures_in (events_from c no_frames y.later) ++ (qs ++ [])) told (subst (λ (l : Pictures). all_stand 0 l ≡ true) mine rule) in
    ap (λ (l : Pictures). pictures_in (events_from w sw y.later) ++ l) (sym (append-nil ps)) ∙ same ∙ sym mine

second_read : (first second : Sofar) (ha hb : List ℕ) (pa pb : Units) (x : StrandRead first ha pa) (y : StrandRead second hb pb) → is_sequence hb ≡ true → all_stand 0 (pictures second) ≡ true → AreJoint x.s y.s → SecondRead first second ha hb pa pb x y
second_read first second ha hb pa pb x y is rule joint =
    let a = x.between in
    let sa = store_from at_first no_frames (sequence x.s ∷ x.later) in
    let sw = picture_ended a.picture sa in
    let w = after a (sequence y.s) in
    let same : is_same_sequence a.first y.s ≡ true = ap (λ (o : Option Sequence). is_same_sequence o y.s) x.first ∙ joint.same in
    let read = header_again a hb pb y.mid y.s is y.read x.complete x.paired same in
    let b = header_seamed a sa x.s y.s x.first (none_is a.waiting x.paired) x.headers same in
    let n = start_numbers y.s in
    let stand : AllStand (after at_first (sequence y.s)).anchors (after at_first (sequence y.s)).waiting y.later =
    subst (λ (m : ℕ). AllStand m (after at_first (sequence y.s)).waiting y.later) (sym n.0) (subst (λ (o : Option FirstField). AllStand 0 o y.later) (sym n.1) (parts_stand second hb pb y rule)) in
    let i = runs_again y.run x.s y.s 0 w sw no_frames (λ t e. same_on x.s y.s t joint.same e) b stand in
    let both = i.both in
    record {
      state = i.state;
      run = step read i.run;
      known = run_known i.run (known_behind a y.s);
      complete = ap (λ (o : Option Sequence). is_complete o (i.state).picture) (both.alike).sequence ∙ ap (is_complete (y.between).sequence) both.same ∙ y.complete;
      paired = ap none_waits (both.alike).waiting ∙ y.paired;
      first_is = both.whole;
      told = second_told second hb pb y x.s w sw i rule;
    }

-- ---- both strands

sequence_begins : (u : List ℕ) → is_sequence u ≡ true → begins_piece (value_of u) ≡ true
unfolding begins_piece
sequence_begins u is = rw (eqb-true (value_of u) 0xB3 is) refl

-- they are units, one behind the other
both_units : (a b : List ℕ) (x : StrandUnits a) (y : StrandUnits b) → Cuts ((a ++ b) ++ end_code) [] ((x.h ∷ x.pm) ++ ((y.h ∷ y.pm) ++ end_code ∷ []))
both_units a b x y =
    let ua = x.h ∷ x.pm in
    let ub = y.h ∷ y.pm in
    let bytes : joined (ub ++ end_code ∷ []) ≡ b ++ (end_code ++ []) = joined-append ub (end_code ∷ []) ∙ ap (λ (l : List ℕ). l ++ (end_code ++ [])) (sym y.whole) in
    let code : joined (ub ++ end_code ∷ []) ≡ 0x00 ∷ 0x00 ∷ 0x01 ∷ 0xB3 ∷ ((y.begins).rest ++ (end_code ++ [])) = bytes ∙ ap (λ (l : List ℕ). l ++ (end_code ++ [])) (y.begins).is in
    let are : AreUnits (ua ++ (ub ++ end_code ∷ [])) = are_swapped ua (end_code ∷ []) (ub ++ end_code ∷ []) 0x00 0x00 0x01 0xB7 0xB3 [] ((y.begins).rest ++ (end_code ++ [])) refl code y.ended x.ended in
    let shape : (a ++ b) ++ end_code ≡ joined (ua ++ (ub ++ end_code ∷ [])) =
    append_assoc a b end_code ∙ ap (λ (l : List ℕ). l ++ (b ++ end_code)) x.whole ∙ ap (λ (l : List ℕ). joined ua ++ l) (sym bytes) ∙ sym (joined-append ua (ub ++ end_code ∷ [])) in
    record { whole = shape; front_clear = λ i le lt. absurd (omega arith); are_units = are }

-- the end code's part leaves what was told
end_told : (z : State) (store : Store) → pictures_in (events_from z store (ending ∷ [])) ≡ pictures_in (closed z.picture store)
end_told z store = ap pictures_in (ending_events z store ∙ append-nil (closed z.picture store))

next_pictures : (a : State) (sa : Store) (s : Sequence) (ps : List Part) → pictures_in (events_from a sa (sequence s ∷ ps)) ≡ pictures_in (closed a.picture sa) ++ pictures_in (events_from (after a (sequence s)) (picture_ended a.picture sa) ps)
next_pictures a sa s ps =
    let es = events_from (after a (sequence s)) (picture_ended a.picture sa) ps in
    ap pictures_in (sequence_events a sa s ps ∙ append_assoc (closed a.picture sa) (sequence_header s ∷ []) es)
    ∙ pictures_in-append (closed a.picture sa) (sequence_header s ∷ es)

-- what both tell
both_pictures : (first second : Sofar) (ha hb : List ℕ) (pa pb : Units) (x : StrandRead first ha pa) (y : StrandRead second hb pb) (r : SecondRead first second ha hb pa pb x y)
    → pictures_in (events_from at_first no_frames ((sequence x.s ∷ x.later) ++ ((sequence y.s ∷ y.later) ++ ending ∷ []))) ≡ pictures first ++ pictures second
both_pictures first second ha hb pa pb x y r =
    let a = x.between in
    let mine = sequence x.s ∷ x.later in
    let own = sequence y.s ∷ y.later in
    let sa = store_from at_first no_frames mine in
    let sw = picture_ended a.picture sa in
    let w = after a (sequence y.s) in
    let zs = store_from w sw y.later in
    let es = pictures_in (events_from at_first no_frames mine) in
    let cs = pictures_in (closed a.picture sa) in
    let fs = pictures_in (events_from w sw y.later) in
    let ds = pictures_in (closed (r.state).picture zs) in
    let later : pictures_in (events_from a sa (own ++ ending ∷ [])) ≡ (cs ++ fs) ++ ds =
    ap pictures_in (events_then r.run sa (ending ∷ []))
    ∙ pictures_in-append (events_from a sa own) (events_from r.state (store_from a sa own) (ending ∷ []))
    ∙ ap (λ (l : Pictures). l ++ pictures_in (events_from r.state (store_from a sa own) (ending ∷ []))) (next_pictures a sa y.s y.later)
    ∙ ap (λ (l : Pictures). (cs ++ fs) ++ l) (end_told r.state (store_from a sa own))
    ∙ ap (λ (t : Store). (cs ++ fs) ++ pictures_in (closed (r.state).picture t)) (sequence_store a sa y.s y.later) in
    ap pictures_in (events_then x.all no_frames (own ++ ending ∷ []))
    ∙ pictures_in-append (events_from at_first no_frames mine) (events_from a sa (own ++ ending ∷ []))
    ∙ ap (λ (l : Pictures). es ++ l) (later ∙ append_assoc cs fs ds ∙ ap (λ (l : Pictures). cs ++ l) r.told)
    ∙ sym (append_assoc es cs (pictures second))
    ∙ ap (λ (l : Pictures). l ++ pictures second) (sym (strand_pictures first ha pa x))

pub ending_numbers : (st : State) → ((after st ending).waiting ≡ st.waiting) × ((after st ending).first ≡ st.first)
unfolding after
ending_numbers st = (refl, refl)

-- what is shown by the low_delay of both
frames_by : (first second tree : Sofar) (f s : Sequence) → first.state.first ≡ Some f → second.state.first ≡ Some s → tree.state.first ≡ Some f → f.extension.low_delay ≡ s.extension.low_delay → pictures tree ≡ pictures first ++ pictures second → all_stand 0 (pictures second) ≡ true
    → frames_of first ++ frames_of second ≡ frames_of tree
frames_by first second tree f s ef es et low told rule =
    let l = f.extension.low_delay in
    let mine : frames_of first ≡ shown l (pictures first) = ap (λ (o : Option Sequence). shown (low_delay_of o) (pictures first)) ef in
    let own : frames_of second ≡ shown l (pictures second) = ap (λ (o : Option Sequence). shown (low_delay_of o) (pictures second)) es ∙ ap (λ (b : Bool). shown b (pictures second)) (sym low) in
    let all : frames_of tree ≡ shown l (pictures tree) = ap (λ (o : Option Sequence). shown (low_delay_of o) (pictures tree)) et in
    ap (λ (x : List (List ℕ)). x ++ frames_of second) mine
    ∙ ap (λ (x : List (List ℕ)). shown l (pictures first) ++ x) own
    ∙ sym (shown_append l (pictures first) (pictures second) rule)
    ∙ ap (shown l) (sym told)
    ∙ sym all

-- both strands are units with an end code behind them
pub joint_units : (a b : List ℕ) → StrandUnits a → StrandUnits b → StrandUnits (a ++ b)
joint_units a b u v =
    let ua = u.h ∷ u.pm in
    let ub = v.h ∷ v.pm in
    let all : AreUnits ((ua ++ ub) ++ end_code ∷ []) = subst AreUnits (sym (append_assoc ua ub (end_code ∷ []))) (both_units a b u v).are_units in
    record {
      h = u.h;
      pm = u.pm ++ ub;
      whole = ap (λ (l : List ℕ). l ++ b) u.whole ∙ ap (λ (l : List ℕ). joined ua ++ l) v.whole ∙ sym (joined-append ua ub);
      are = are_before (ua ++ ub) (end_code ∷ []) all;
      ended = all;
      is = u.is;
      goes = no_ends-append ua ub u.goes v.goes;
      begins = record { rest = (u.begins).rest ++ b; is = ap (λ (l : List ℕ). l ++ b) (u.begins).is };
    }

-- both strands, one behind the other, as they are read
pub record JointRead (a b : List ℕ) (first second : Sofar) (s : Sequence) : Type 0 where
  pub tree : Sofar
  pub stream : Stream ((a ++ b) ++ end_code) tree
  pub frames : frames_of first ++ frames_of second ≡ frames_of tree
  pub first_is : tree.state.first ≡ Some s

joint_by_parts : (a b : List ℕ) (first second : Sofar) (u : StrandUnits a) (v : StrandUnits b) (x : StrandRead first u.h u.pm) (y : StrandRead second v.h v.pm) → all_stand 0 (pictures second) ≡ true → AreJoint x.s y.s → JointRead a b first second x.s
joint_by_parts a b first second u v x y rule joint =
    let r = second_read first second u.h v.h u.pm v.pm x y v.is rule joint in
    let ua = u.h ∷ u.pm in
    let ub = v.h ∷ v.pm in
    let mine = sequence x.s ∷ x.later in
    let own = sequence y.s ∷ y.later in
    let code = end_code ∷ [] in
    let z = r.state in
    let front : Run at_first (ua ++ (ub ++ code)) mine x.between (ub ++ code) = run_before (ub ++ code) (sequence_begins v.h v.is) x.all in
    let back : Run x.between (ub ++ code) own z code = run_before code code_begins r.run in
    let whole = run_then front back in
    let all = mine ++ own in
    let tree : Sofar = record { state = after z ending; parts = all ++ ending ∷ [] } in
    let rounds = rounds_by whole [] tree [] (last_round z all ending code [] (end_read z r.known r.complete r.paired)) in
    let e = ending_numbers z in
    let stands = stream_by tree (ua ++ (ub ++ code)) [] rounds (ap none_waits e.0 ∙ r.paired) in
    let told : pictures tree ≡ pictures first ++ pictures second = ap (λ (l : List Part). pictures_in (events_from at_first no_frames l)) (append_assoc mine own (ending ∷ [])) ∙ both_pictures first second u.h v.h u.pm v.pm x y r in
    record {
      tree = tree;
      stream = record { front = []; units = ua ++ (ub ++ code); rest = []; cuts = both_units a b u v; stands = stands };
      frames = frames_by first second tree x.s y.s x.first_told y.first_told (e.1 ∙ r.first_is) joint.low_delay told rule;
      first_is = e.1 ∙ r.first_is;
    }

-- whose first header is that of the first one
pub joint_read : (a b : List ℕ) (first second : Sofar) (f : Sequence) → StrandUnits a → StrandUnits b → Stream (a ++ end_code) first → Stream (b ++ end_code) second → first.state.first ≡ Some f → keeps_rule (pictures second) ≡ true
    → agrees (Some f) second.state.first ≡ true → JointRead a b first second f
joint_read a b first second f u v p q is rule agree =
    let x = strand_read a first u p in
    let y = strand_read b second v q in
    let own : x.s ≡ f = same_Some x.s f (sym x.first_told ∙ is) in
    let joint = agreed first.state.first second.state.first x.s y.s x.first_told y.first_told (ap (λ (o : Option Sequence). agrees o second.state.first) is ∙ agree) in
    subst (JointRead a b first second) own (joint_by_parts a b first second u v x y rule joint)

pub seam_law : (a b : List ℕ) → Seam a b
seam_law a b first second p q rule agree =
    let u = strand_units a p.begins p.no_end p.closed in
    let v = strand_units b q.begins q.no_end q.closed in
    let x = strand_read a first u p.stream in
    let r = joint_read a b first second x.s u v p.stream q.stream x.first_told rule (ap (λ (o : Option Sequence). agrees o second.state.first) (sym x.first_told) ∙ agree) in
    record { tree = r.tree; stream = r.stream; shown = r.frames }
