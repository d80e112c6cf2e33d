-- A stream without a fault is mended to its own bytes.
use Rattle.std.proofs.Common.{◌≡◌, ℕ, ◌+◌, ◌≤◌, Bool, true, false, List, [], ◌∷◌, ◌++◌, length, map, drop, take, Option, Some, None, ◌⊎◌, inl, inr, refl, sym, ap, subst, ◌∙◌, append_assoc, append-nil, arith}
use Rattle.std.specs.Prelude.{nat_eq, not, ◌&&◌, ◌||◌}
use Rattle.std.proofs.lemmas.Bool.{cases_Bool, eqb-true}
use Rattle.std.proofs.lemmas.List.{take-append-drop}
use Rattle.m2v_bits.specs.Syntax.{seq, rule, bind}
use Rattle.m2v_bits.proofs.SyntaxLaws.{good}
use Rattle.m2v_model.specs.declared.state.State.{State}
use Rattle.m2v_model.specs.declared.phase.Phase.TheVariants.{Headers}
use Rattle.m2v_model.specs.Units.{Units, cut, joined, AreUnits}
use Rattle.m2v_model.specs.States.{at_first, none_waits}
use Rattle.m2v_model.specs.Streams.{Part, Sofar, value_of, text_end}
use Rattle.m2v_model.specs.Decoding.{Stream}
use Rattle.m2v_model.specs.Pieces.{is_end, grouped}
use Rattle.m2v_model.specs.ByPieces.{unit_read}
use Rattle.m2v_model.proofs.CutLaws.{cut_cuts, cut_units, cuts_is, are_before, are_behind, joined-append}
use Rattle.m2v_model.proofs.ShiftLaws.{BeginsPiece, NoEnds}
use Rattle.m2v_model.proofs.PieceLaws.{no_ends-append}
use Rattle.m2v_law_group.specs.Groups.{is_picture, is_sequence, has_picture, from_sequence, to_end, stream_units, coded_pictures, end_code}
use Rattle.m2v_law_group.specs.Chosen.{EndClear}
use Rattle.m2v_law_group.proofs.Runs.{Ends, finish, going}
use Rattle.m2v_law_group.proofs.Lists.{or_parts, Behind, behind_begins, ended_units, no_ends_parts, first_sequence, and_parts}
use Rattle.m2v_law_group.proofs.Law.{skip}
use Rattle.m2v_law_group.proofs.Decodes.{read_whole, end_other}
use Rattle.m2v_law_seam.specs.Spans.{is_entry, is_anchor_piece, is_second, first_field, field_of, waits_behind, Stretch, stretches_from, stretches, stretch_spans, Span, spans, steps, divided, placed, spans_in}
use Rattle.m2v_law_seam.specs.Strands.{ends_open, last_open}
use Rattle.m2v_law_seam.specs.Mending.{Mending, nothing_yet, strand_of, with_spans, ended_by, strand_ended, with_stretches, strands, gaps_in, ended_text, mended}
use Rattle.m2v_law_seam.specs.Mends.{StartsClear, EndsOnce, AllShort, AllWithin, MendSame}
use Rattle.m2v_law_seam.proofs.Strand.{units_ended}
use Rattle.m2v_law_group.proofs.Texts.{front_ended}
use Rattle.m2v_law_seam.proofs.Fronts.{ReadOn, first_of, front_reads, front_closed}
use Rattle.m2v_law_seam.proofs.Pieced.{flat, AllBegin, Full, Quiet, Pieced, pieced}
use Rattle.m2v_law_seam.proofs.Fields.{next_waits}
use Rattle.m2v_law_seam.proofs.Boundary.{At, rest_last, at_first_piece}
use Rattle.m2v_law_seam.proofs.Tame.{by_test, spans_first}
use Rattle.m2v_law_seam.proofs.Same.{Led, Good, Ready, ready_first, past, has_first, full_behind, IsByFrames, AtIf, AllKnown, walk, pieces_begin}

-- ---- bytes that don't end in the prefix of a start code

record OpenAt (w : List ℕ) : Type 0 where
  front : List ℕ
  is : w ≡ front ++ 0x00 ∷ 0x00 ∷ 0x01 ∷ []

three_of : (a b c : ℕ) → (nat_eq a 0 && (nat_eq b 0 && nat_eq c 1)) ≡ true → a ∷ b ∷ c ∷ [] ≡ 0x00 ∷ 0x00 ∷ 0x01 ∷ []
three_of a b c h =
    let p = and_parts (nat_eq a 0) (nat_eq b 0 && nat_eq c 1) h in
    let q = and_parts (nat_eq b 0) (nat_eq c 1) p.1 in
    rw (eqb-true a 0 p.0, eqb-true b 0 q.0, eqb-true c 1 q.1) refl

open_at : (w : List ℕ) → ends_open w ≡ true → OpenAt w
unfolding ends_open
open_at [] h = absurd cc
open_at (a ∷ []) h = absurd cc
open_at (a ∷ b ∷ []) h = absurd cc
open_at (a ∷ b ∷ c ∷ []) h = record { front = []; is = three_of a b c (own (nat_eq a 0 && (nat_eq b 0 && nat_eq c 1)) h) }
  where
    own : (x : Bool) → (x || (false || (false || false))) ≡ true → x ≡ true
    own true e = refl
    own false e = absurd cc
open_at (a ∷ b ∷ c ∷ d ∷ w) h = let i = open_at (b ∷ c ∷ d ∷ w) h in record { front = a ∷ i.front; is = ap (λ (l : List ℕ). a ∷ l) i.is }

clear_open : (w : List ℕ) → EndClear w → ends_open w ≡ false
clear_open w clear = elim (cases_Bool (ends_open w)) [
  | inl on ↦ let o = open_at w on in absurd (clear o.front o.is)
  | inr off ↦ off
]

clear_behind : (xs ys : List ℕ) → EndClear (xs ++ ys) → EndClear ys
clear_behind xs ys clear front e = clear (xs ++ front) (ap (λ (l : List ℕ). xs ++ l) e ∙ sym (append_assoc xs front (0x00 ∷ 0x00 ∷ 0x01 ∷ [])))

clear_last : (us : Units) → EndClear (joined us) → last_open us ≡ false
unfolding last_open
clear_last [] clear = refl
clear_last (u ∷ []) clear =
    let own : EndClear u = subst EndClear (append-nil u) clear in
    clear_open (drop 4 u) (clear_behind (take 4 u) (drop 4 u) (subst EndClear (sym (take-append-drop 4 u)) own))
clear_last (u ∷ v ∷ us) clear = clear_last (v ∷ us) (clear_behind u (joined (v ∷ us)) clear)

-- ---- where a stream begins

record StartParts (us : Units) (h : List ℕ) (more : Units) : Type 0 where
  pre : Units
  whole : us ≡ pre ++ h ∷ more
  silent : has_picture pre ≡ false
  goes : NoEnds pre
  again : (w : Units) → from_sequence (pre ++ h ∷ w) ≡ h ∷ w

pub own_first : (h : List ℕ) (w : Units) → is_sequence h ≡ true → from_sequence (h ∷ w) ≡ h ∷ w
unfolding from_sequence
own_first h w is = rw is refl

start_here : (u : List ℕ) (us : Units) (h : List ℕ) (more : Units) → is_sequence u ≡ true → from_sequence (u ∷ us) ≡ h ∷ more → StartParts (u ∷ us) h more
unfolding has_picture
start_here u us h more is e =
    let same : u ∷ us ≡ h ∷ more = sym (own_first u us is) ∙ e in
    let one : u ≡ h = cc in
    record { pre = []; whole = same; silent = refl; goes = tt; again = λ w. own_first h w (ap is_sequence (sym one) ∙ is) }

later_first : (u : List ℕ) (us : Units) → is_sequence u ≡ false → from_sequence (u ∷ us) ≡ from_sequence us
unfolding from_sequence
later_first u us off = rw off refl

start_later : (u : List ℕ) (us : Units) (h : List ℕ) (more : Units) → is_sequence u ≡ false → is_picture u ≡ false → is_end (value_of u) ≡ false → StartParts us h more → StartParts (u ∷ us) h more
unfolding has_picture
start_later u us h more off plain goes i = record {
  pre = u ∷ i.pre;
  whole = ap (λ (l : Units). u ∷ l) i.whole;
  silent = rw plain (i.silent);
  goes = (goes, i.goes);
  again = λ w. later_first u (i.pre ++ h ∷ w) off ∙ i.again w;
}

start_parts : (us : Units) (h : List ℕ) (more : Units) → StartsClear us → from_sequence us ≡ h ∷ more → StartParts us h more
unfolding from_sequence
start_parts [] h more clear e = absurd cc
start_parts (u ∷ us) h more (inl is) e = start_here u us h more is e
start_parts (u ∷ us) h more (inr c) e = elim (cases_Bool (is_sequence u)) [
  | inl on ↦ start_here u us h more on e
  | inr off ↦ start_later u us h more off c.0 c.1 (start_parts us h more c.2 (sym (later_first u us off) ∙ e))
]

-- without a sequence header nothing reads
none_read : (st : State) (us rest : Units) (ps : List Part) (z : State) → Ends st us ps z rest → st ≡ at_first → us ≡ [] → ⊥
unfolding unit_read text_end seq rule bind
none_read st us rest ps z (finish {p = p} e) a none =
    let own : unit_read at_first [] ≡ good ((false, p), rest) = subst (λ (s : State). unit_read s [] ≡ good ((false, p), rest)) a (subst (λ (l : Units). unit_read st l ≡ good ((false, p), rest)) none e) in
    absurd cc
none_read st us rest ps z (going {mid = mid} {p = p} e later) a none =
    let own : unit_read at_first [] ≡ good ((true, p), mid) = subst (λ (s : State). unit_read s [] ≡ good ((true, p), mid)) a (subst (λ (l : Units). unit_read st l ≡ good ((true, p), mid)) none e) in
    absurd cc

-- ---- what is known of the text

-- its units: some before the first sequence header, those of the stream, and its end code or none
record Body (text : List ℕ) : Type 0 where
  pre : Units
  h : List ℕ
  pm : Units
  rs : Units
  whole : (cut 0 text).1 ≡ (pre ++ h ∷ pm) ++ rs
  are : AreUnits ((h ∷ pm) ++ rs)
  is : is_sequence h ≡ true
  silent : has_picture pre ≡ false
  again : (w : Units) → from_sequence (pre ++ h ∷ w) ≡ h ∷ w
  goes : NoEnds (pre ++ h ∷ pm)
  goes_on : NoEnds (h ∷ pm)
  behind : Behind rs
  once : (v : List ℕ) (ws : Units) → rs ≡ v ∷ ws → ws ≡ []
  stream : stream_units text ≡ h ∷ pm
  clear : EndClear (joined ((h ∷ pm) ++ rs))
  read : ReadOn ((h ∷ pm) ++ rs)

pub end_here : (u : List ℕ) (us : Units) → is_end (value_of u) ≡ true → to_end (u ∷ us) ≡ []
unfolding to_end
end_here u us on = rw on refl

pub end_later : (u : List ℕ) (us : Units) → is_end (value_of u) ≡ false → to_end (u ∷ us) ≡ u ∷ to_end us
unfolding to_end
end_later u us off = rw off refl

sequence_goes : (h : List ℕ) → is_sequence h ≡ true → is_end (value_of h) ≡ false
unfolding is_end
sequence_goes h is = rw (eqb-true (value_of h) 0xB3 is) refl

once_behind : (us : Units) (v : List ℕ) (ws : Units) → EndsOnce (us ++ v ∷ ws) → is_end (value_of v) ≡ true → ws ≡ []
once_behind [] v ws h e = h.0 e
once_behind (u ∷ us) v ws h e = once_behind us v ws h.1 e

end_of_behind : (rs : Units) (v : List ℕ) (ws : Units) → Behind rs → rs ≡ v ∷ ws → is_end (value_of v) ≡ true
end_of_behind rs v ws b e = subst Behind e b

body_by : (text : List ℕ) (h : List ℕ) (more : Units) (ps : List Part) (z : State) (rest : Units) → StartsClear (cut 0 text).1 → EndsOnce (cut 0 text).1 → EndClear text → from_sequence (cut 0 text).1 ≡ h ∷ more → Ends at_first (h ∷ more) ps z rest → none_waits z.waiting ≡ true → Body text
body_by text h more ps z rest starts once clear e ends paired =
    let us = (cut 0 text).1 in
    let c = cut_cuts text in
    let i = start_parts us h more starts e in
    let is = first_sequence us h more e in
    let n = ended_units more in
    let pm = to_end more in
    let more_is : h ∷ more ≡ (h ∷ pm) ++ n.0 = ap (λ (l : Units). h ∷ l) n.1 in
    let whole : us ≡ (i.pre ++ h ∷ pm) ++ n.0 = i.whole ∙ ap (λ (l : Units). i.pre ++ l) more_is ∙ sym (append_assoc i.pre (h ∷ pm) n.0) in
    let bytes : text ≡ ((cut 0 text).0 ++ joined i.pre) ++ joined ((h ∷ pm) ++ n.0) =
    c.whole ∙ ap (λ (l : Units). (cut 0 text).0 ++ joined l) (i.whole ∙ ap (λ (l : Units). i.pre ++ l) more_is) ∙ ap (λ (l : List ℕ). (cut 0 text).0 ++ l) (joined-append i.pre ((h ∷ pm) ++ n.0))
    ∙ sym (append_assoc (cut 0 text).0 (joined i.pre) (joined ((h ∷ pm) ++ n.0))) in
    record {
      pre = i.pre;
      h = h;
      pm = pm;
      rs = n.0;
      whole = whole;
      are = subst AreUnits more_is (are_behind i.pre (h ∷ more) (subst AreUnits i.whole c.are_units));
      is = is;
      silent = i.silent;
      again = i.again;
      goes = no_ends-append i.pre (h ∷ pm) i.goes (sequence_goes h is, n.3);
      goes_on = (sequence_goes h is, n.3);
      behind = n.2;
      once = λ v ws same. once_behind (i.pre ++ h ∷ pm) v ws (subst EndsOnce (whole ∙ ap (λ (l : Units). (i.pre ++ h ∷ pm) ++ l) same) once) (end_of_behind n.0 v ws n.2 same);
      stream = ap to_end e ∙ end_later h more (sequence_goes h is);
      clear = clear_behind ((cut 0 text).0 ++ joined i.pre) (joined ((h ∷ pm) ++ n.0)) (subst EndClear bytes clear);
      read = record { parts = ps; state = z; rest = rest; ends = subst (λ (l : Units). Ends at_first l ps z rest) more_is ends; paired = paired };
    }

body_from : (text : List ℕ) (s : Units) (ps : List Part) (z : State) (rest : Units) → StartsClear (cut 0 text).1 → EndsOnce (cut 0 text).1 → EndClear text → from_sequence (cut 0 text).1 ≡ s → Ends at_first s ps z rest → none_waits z.waiting ≡ true → Body text
body_from text [] ps z rest starts once clear e ends paired = absurd (none_read at_first [] rest ps z ends refl refl)
body_from text (h ∷ more) ps z rest starts once clear e ends paired = body_by text h more ps z rest starts once clear e ends paired

body_of : (text : List ℕ) (tree : Sofar) → Stream text tree → StartsClear (cut 0 text).1 → EndsOnce (cut 0 text).1 → EndClear text → Body text
body_of text tree stream starts once clear =
    let us = (cut 0 text).1 in
    let same : stream.units ≡ us = ap (λ (x : List ℕ × Units). x.1) (sym (cuts_is text stream.front stream.units stream.cuts)) in
    let w = read_whole stream.units stream.rest tree stream.stands in
    let k = skip us tree.parts tree.state w.rest (subst (λ (l : Units). Ends at_first l tree.parts tree.state w.rest) same w.ends) in
    body_from text (from_sequence us) k.0 tree.state w.rest starts once clear refl k.1 w.paired

-- ---- each front reads

ended_by_rest : (us rs : Units) → AreUnits (us ++ rs) → EndClear (joined (us ++ rs)) → AreUnits (us ++ end_code ∷ []) × (last_open us ≡ false)
ended_by_rest us [] are clear =
    let own : AreUnits us = subst AreUnits (append-nil us) are in
    let closed = clear_last us (subst (λ (l : Units). EndClear (joined l)) (append-nil us) clear) in
    (units_ended us own closed, closed)
ended_by_rest us (v ∷ vs) are clear = (front_ended us v vs are, front_closed us v vs are)

rest_begins : (bu rs : Units) → BeginsPiece bu → Behind rs → BeginsPiece (bu ++ rs)
rest_begins [] rs b behind = behind_begins rs behind
rest_begins (v ∷ bu) rs b behind = b

fronts_read : (text : List ℕ) (b : Body text) → Good (first_of (b.read).parts) (b.h ∷ b.pm)
fronts_read text b h t bu e begins rest =
    let us = h ∷ t in
    let shape : (b.h ∷ b.pm) ++ b.rs ≡ us ++ (bu ++ b.rs) = ap (λ (l : Units). l ++ b.rs) e ∙ append_assoc us bu b.rs in
    let one : b.h ≡ h = cc in
    let are = subst AreUnits shape b.are in
    let x = ended_by_rest us (bu ++ b.rs) are (subst (λ (l : Units). EndClear (joined l)) shape b.clear) in
    let r : ReadOn (us ++ (bu ++ b.rs)) = record { parts = (b.read).parts; state = (b.read).state; rest = (b.read).rest; ends = subst (λ (l : Units). Ends at_first l (b.read).parts (b.read).state (b.read).rest) shape (b.read).ends; paired = (b.read).paired } in
    front_reads h t (bu ++ b.rs) r (ap is_sequence (sym one) ∙ b.is) (no_ends_parts us bu (subst NoEnds e b.goes_on)).0 (rest_begins bu b.rs begins b.behind) (rest us e) (are_before us (bu ++ b.rs) are) x.0 x.1

-- ---- the stretches

stretch_on : (xs rs : Units) (place : ℕ) (before mine : Units) → NoEnds xs → stretches_from place before mine (xs ++ rs) ≡ stretches_from place before (mine ++ xs) rs
unfolding stretches_from
stretch_on [] rs place before mine n = ap (λ (l : Units). stretches_from place before l rs) (sym (append-nil mine))
stretch_on (u ∷ xs) rs place before mine n = rw (n.0) (stretch_on xs rs place before (mine ++ u ∷ []) n.1 ∙ ap (λ (l : Units). stretches_from place before l rs) (append_assoc mine (u ∷ []) xs))

-- the spans of a stretch without units
none_there : (t : ℕ → List ℕ → Bool) (place : ℕ) (before : Units) → stretch_spans (by_test t) (record { place = place; before = before; units = [] }) ≡ []
unfolding grouped divided placed
none_there t place before = refl

-- of the first stretch, and perhaps of one behind the end code that has no units
abbrev TwoAtMost : List Span → List (List Span) → Type 0
TwoAtMost first ss = (ss ≡ first ∷ []) ⊎ (ss ≡ first ∷ [] ∷ [])

stretch_last : (t : ℕ → List ℕ → Bool) (rs : Units) (place : ℕ) (mine : Units) → Behind rs → ((v : List ℕ) (ws : Units) → rs ≡ v ∷ ws → ws ≡ []) → TwoAtMost (stretch_spans (by_test t) (record { place = place; before = []; units = mine })) (map (stretch_spans (by_test t)) (stretches_from place [] mine rs))
unfolding stretches_from
stretch_last t [] place mine behind once = inl refl
stretch_last t (v ∷ ws) place mine behind once =
    let none : ws ≡ [] = once v ws refl in
    let first = stretch_spans (by_test t) (record { place = place; before = []; units = mine }) in
    inr (rw behind (subst (λ (l : Units). first ∷ map (stretch_spans (by_test t)) (stretches_from (place + length (joined mine) + length v) mine [] l) ≡ first ∷ [] ∷ []) (sym none) (ap (λ (l : List Span). first ∷ l ∷ []) (none_there t (place + length (joined mine) + length v) mine))))

-- ---- the fold

-- the strand is what was kept, and nothing was left out
record IsOver (m : Mending) (bytes : List ℕ) : Type 0 where
  done : m.done ≡ bytes ∷ []
  strand : m.strand ≡ None
  gaps : m.gaps ≡ []

over_by : (m : Mending) (b : ℕ) (bytes : List ℕ) (o : Option (List ℕ)) → m.strand ≡ o → o ≡ Some (b ∷ bytes) → m.done ≡ [] → m.gaps ≡ [] → IsOver (ended_by o m) (b ∷ bytes)
over_by m b bytes None e s d g = absurd cc
over_by m b bytes (Some []) e s d g = absurd cc
over_by m b bytes (Some (c ∷ cs)) e s d g =
    let same : c ∷ cs ≡ b ∷ bytes = cc in
    record {
      done = ap (λ (l : List (List ℕ)). l ++ strand_of m.strand) d ∙ ap strand_of (e ∙ s);
      strand = refl;
      gaps = g;
    }

over_still : (m : Mending) (bytes : List ℕ) (o : Option (List ℕ)) → m.strand ≡ o → o ≡ None → IsOver m bytes → IsOver (ended_by o m) bytes
over_still m bytes None e s i = i
over_still m bytes (Some []) e s i = absurd cc
over_still m bytes (Some (c ∷ cs)) e s i = absurd cc

over_all : (m : Mending) (h : List ℕ) (t : Units) → 1 ≤ length h → m.strand ≡ Some (joined (h ∷ t)) → m.done ≡ [] → m.gaps ≡ [] → IsOver (strand_ended m) (joined (h ∷ t))
over_all m [] t le s d g = absurd (omega arith)
over_all m (b ∷ h) t le s d g = over_by m b (h ++ joined t) m.strand refl s d g

-- stretch by stretch
fold_one : (first : List Span) (bytes : List ℕ) → IsOver (strand_ended (with_spans nothing_yet first)) bytes → IsOver (with_stretches nothing_yet (first ∷ [])) bytes
unfolding with_stretches
fold_one first bytes i = i

fold_two : (first : List Span) (bytes : List ℕ) → IsOver (strand_ended (with_spans nothing_yet first)) bytes → IsOver (with_stretches nothing_yet (first ∷ [] ∷ [])) bytes
unfolding with_stretches with_spans
fold_two first bytes i = let m = strand_ended (with_spans nothing_yet first) in over_still m bytes m.strand refl i.strand i

folded : (first : List Span) (ss : List (List Span)) (bytes : List ℕ) → TwoAtMost first ss → IsOver (strand_ended (with_spans nothing_yet first)) bytes → IsOver (with_stretches nothing_yet ss) bytes
folded first ss bytes (inl e) i = subst (λ (l : List (List Span)). IsOver (with_stretches nothing_yet l) bytes) (sym e) (fold_one first bytes i)
folded first ss bytes (inr e) i = subst (λ (l : List (List Span)). IsOver (with_stretches nothing_yet l) bytes) (sym e) (fold_two first bytes i)

first_short : (first : List Span) (ss : List (List Span)) → TwoAtMost first ss → AllWithin ss → AllShort first
first_short first ss (inl e) h = (subst AllWithin e h).0
first_short first ss (inr e) h = (subst AllWithin e h).0

-- ---- the spans of the first stretch

-- the units of a stretch that has some
record Cells (us : Units) : Type 0 where
  u : List ℕ
  rest : Units
  is : us ≡ u ∷ rest

cells : (pre : Units) (h : List ℕ) (pm : Units) → Cells (pre ++ h ∷ pm)
cells [] h pm = record { u = h; rest = pm; is = refl }
cells (u ∷ pre) h pm = record { u = u; rest = pre ++ h ∷ pm; is = refl }

sequence_plain : (h : List ℕ) → is_sequence h ≡ true → is_picture h ≡ false
sequence_plain h is = ap (λ (n : ℕ). nat_eq n 0x00) (eqb-true (value_of h) 0xB3 is)

-- what is known of the first piece from the first sequence header on
record SilentFront (pre t : Units) : Type 0 where
  quiet : Quiet false t
  has : has_picture t ≡ true
  pictures : coded_pictures (pre ++ t) ≡ coded_pictures t

silent_front : (pre t : Units) → has_picture pre ≡ false → Quiet false (pre ++ t) → has_picture (pre ++ t) ≡ true → SilentFront pre t
unfolding has_picture coded_pictures
silent_front [] t off q h = record { quiet = q; has = h; pictures = refl }
silent_front (u ∷ pre) t off q h =
    let p = or_parts (is_picture u) (has_picture pre) off in
    let i = silent_front pre t p.1 (subst (λ (b : Bool). Quiet b (pre ++ t)) p.0 q.1) (rw (p.0) at h) in
    record { quiet = i.quiet; has = i.has; pictures = rw (p.0) (i.pictures) }

-- the state in which the second piece begins
at_by : (text : List ℕ) (b : Body text) (x t : Units) (y : Units) (q : List Units) → b.h ∷ b.pm ≡ t ++ flat (y ∷ q) → x ≡ b.pre ++ t → AreUnits x → Quiet false x → has_picture x ≡ true → AllBegin (y ∷ q) → At (b.h ∷ b.pm) b.rs b.read (waits_behind 0 (joined x)) (flat (y ∷ q))
unfolding waits_behind
at_by text b x [] y q e mine are quiet has begins =
    let wrong : false ≡ true = sym b.silent ∙ ap has_picture (sym (append-nil b.pre) ∙ sym mine) ∙ has in
    absurd cc
at_by text b x (v ∷ t) y q e mine are quiet has begins =
    let one : b.h ≡ v = cc in
    let f = silent_front b.pre (v ∷ t) b.silent (subst (Quiet false) mine quiet) (ap has_picture (sym mine) ∙ has) in
    let goes = (no_ends_parts (v ∷ t) (flat (y ∷ q)) (subst NoEnds e b.goes_on)).0 in
    let a = at_first_piece (b.h ∷ b.pm) b.rs b.read v t (flat (y ∷ q)) e (ap is_sequence (sym one) ∙ b.is) goes (pieces_begin (y ∷ q) b.rs begins (behind_begins b.rs b.behind)) f.quiet f.has in
    let field : field_of (joined x) ≡ first_field (coded_pictures (v ∷ t)) = ap (λ (l : Units). first_field (coded_pictures l)) (cut_units x are ∙ mine) ∙ ap first_field f.pictures in
    subst (λ (n : ℕ). At (b.h ∷ b.pm) b.rs b.read (next_waits 0 n) (flat (y ∷ q))) (sym field) a

first_at : (text : List ℕ) (b : Body text) (x : Units) (q : List Units) → b.pre ++ b.h ∷ b.pm ≡ x ++ flat q → AreUnits x → Quiet false x → Full (x ∷ q) → AllBegin q → AtIf (b.h ∷ b.pm) b.rs b.read (waits_behind 0 (joined x)) q
first_at text b x [] e are quiet full begins = tt
first_at text b x (y ∷ q) e are quiet full begins =
    let p = past b.pre x (flat (y ∷ q)) (b.h ∷ b.pm) e b.silent full.0 in
    at_by text b x p.t y q p.others p.mine are quiet full.0 begins

led_all : (test : ℕ → List ℕ → Bool) → IsByFrames test → (text : List ℕ) (b : Body text) (place : ℕ) → AreUnits (b.pre ++ b.h ∷ b.pm) → AllShort (stretch_spans (by_test test) (record { place = place; before = []; units = b.pre ++ b.h ∷ b.pm })) → 1 ≤ length b.h
    → Led (first_of (b.read).parts) (b.h ∷ b.pm) (with_spans nothing_yet (stretch_spans (by_test test) (record { place = place; before = []; units = b.pre ++ b.h ∷ b.pm }))) []
led_all test by text b place are short some =
    let us = b.pre ++ b.h ∷ b.pm in
    let fs = first_of (b.read).parts in
    let body = b.h ∷ b.pm in
    let c = cells b.pre b.h b.pm in
    let i : Pieced us = subst Pieced (sym c.is) (pieced c.u c.rest (subst AreUnits c.is are) (subst NoEnds c.is b.goes)) in
    let good = fronts_read text b in
    let more = behind_begins b.rs b.behind in
    let last = rest_last body b.rs b.read b.h b.pm refl b.is b.goes_on more (end_other b.rs b.behind) in
    let ready : Ready fs body nothing_yet us = ready_first fs b.pre b.h b.pm good b.silent (sequence_plain b.h b.is) b.again some in
    let left : us ≡ flat (i.x ∷ []) ++ flat i.q = i.whole ∙ ap (λ (l : Units). l ++ flat i.q) (sym (append-nil i.x)) in
    let known : AllKnown i.q = record { are = (i.are).1; begins = i.later; full = full_behind i.x i.q i.full; quiet = (i.quiet).1; goes = (no_ends_parts i.x (flat i.q) (subst NoEnds i.whole b.goes)).1 } in
    let at = first_at text b i.x i.q i.whole (i.are).0 (i.quiet).0 i.full i.later in
    let w = walk test by fs body b.rs b.read good last more i.q i.x [] nothing_yet place [] (waits_behind 0 (joined i.x)) (subst (Ready fs body nothing_yet) left ready) ((i.are).0, tt) known (has_first i.x i.q i.full) at in
    let shape : by_test test (grouped Headers [] us) ≡ divided test (waits_behind 0 (joined i.x)) (map joined (i.x ∷ [])) (map joined i.q) = ap (by_test test) i.pieces ∙ spans_first test i.x i.q in
    subst (λ (l : List (List (List ℕ))). Led fs body (with_spans nothing_yet (placed place [] l)) []) (sym shape) (w (subst (λ (l : List (List (List ℕ))). AllShort (placed place [] l)) shape short))

-- ---- the law

text_is : (ds : List (List ℕ)) (bytes : List ℕ) → ds ≡ bytes ∷ [] → ended_text ds ≡ Some (bytes ++ end_code)
text_is ds bytes e = ap ended_text e ∙ ap (λ (l : List ℕ). Some (l ++ end_code)) (append-nil bytes)

whole_same : (test : ℕ → List ℕ → Bool) → IsByFrames test → (text : List ℕ) → Body text → AllWithin (spans_in (by_test test) text) → (mended (by_test test) text ≡ Some (joined (stream_units text) ++ end_code)) × (gaps_in (by_test test) text ≡ [])
whole_same test by text b within =
    let place = length (cut 0 text).0 in
    let us = b.pre ++ b.h ∷ b.pm in
    let first = stretch_spans (by_test test) (record { place = place; before = []; units = us }) in
    let all : stretches text ≡ stretches_from place [] us b.rs = ap (stretches_from place [] []) b.whole ∙ stretch_on us b.rs place [] [] b.goes in
    let shape : TwoAtMost first (spans_in (by_test test) text) = subst (λ (l : List Stretch). TwoAtMost first (map (stretch_spans (by_test test)) l)) (sym all) (stretch_last test b.rs place us b.behind b.once) in
    let are : AreUnits us = are_before us b.rs (subst AreUnits b.whole (cut_cuts text).are_units) in
    let some = first_long b.h b.pm b.rs b.are in
    let led = led_all test by text b place are (first_short first (spans_in (by_test test) text) shape within) some in
    let mine : joined (led.h ∷ led.t) ≡ joined (stream_units text) = ap joined (sym (append-nil (led.h ∷ led.t)) ∙ sym led.whole ∙ sym b.stream) in
    let over = over_all (with_spans nothing_yet first) led.h led.t led.some led.strand led.done led.gaps in
    let all_over = folded first (spans_in (by_test test) text) (joined (led.h ∷ led.t)) shape over in
    (text_is (strands (by_test test) text) (joined (led.h ∷ led.t)) all_over.done ∙ ap (λ (l : List ℕ). Some (l ++ end_code)) mine, all_over.gaps)
  where
    first_long : (h : List ℕ) (pm rs : Units) → AreUnits ((h ∷ pm) ++ rs) → 1 ≤ length h
    first_long h pm rs are = omega (arith, are.0)

pub same_by_test : (test : ℕ → List ℕ → Bool) → IsByFrames test → (text : List ℕ) → MendSame (by_test test) text
same_by_test test by text tree stream starts once within clear = whole_same test by text (body_of text tree stream starts once clear) within

pub by_entries : IsByFrames (λ waiting p. is_entry p)
by_entries w p on = inl on

pub by_frames : IsByFrames (λ waiting p. is_entry p || (is_anchor_piece p && not (is_second waiting p)))
by_frames w p on = elim (cases_Bool (is_entry p)) [
  | inl entry ↦ inl entry
  | inr off ↦ inr (last_off (is_anchor_piece p) (is_second w p) (rw off at on))
]
  where
    last_off : (a s : Bool) → (a && not s) ≡ true → s ≡ false
    last_off true true e = absurd cc
    last_off true false e = refl
    last_off false s e = absurd cc

pub mend_same : (text : List ℕ) → MendSame spans text
mend_same text = same_by_test (λ waiting p. is_entry p) by_entries text

pub mend_same_steps : (text : List ℕ) → MendSame steps text
mend_same_steps text = same_by_test (λ waiting p. is_entry p || (is_anchor_piece p && not (is_second waiting p))) by_frames text
