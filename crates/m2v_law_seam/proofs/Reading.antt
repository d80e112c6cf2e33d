-- Reading a strand with others behind it is reading it, and going on with those.
use Rattle.std.proofs.Common.{◌≡◌, ℕ, ◌+◌, ◌-◌, ◌*◌, Bool, true, false, cond, List, [], ◌∷◌, ◌++◌, length, Option, Some, None, Result, Ok, Err, refl, sym, ap, subst, ◌∙◌, append_assoc, append-nil, arith}
use Rattle.std.proofs.lemmas.List.{length-append}
use Rattle.m2v_bits.specs.Syntax.{repeated}
use Rattle.m2v_bits.proofs.SyntaxLaws.{good}
use Rattle.m2v_model.specs.declared.fault.FaultKind.{FaultKind}
use Rattle.m2v_model.specs.declared.fault.FaultKind.TheVariants.{MissingMacroblocks, FieldPair}
use Rattle.m2v_model.specs.declared.state.Sequence.{Sequence}
use Rattle.m2v_model.specs.declared.state.Open.{Open}
use Rattle.m2v_model.specs.declared.state.State.{State}
use Rattle.m2v_model.specs.Units.{Units, cut, joined, AreUnits}
use Rattle.m2v_model.specs.States.{at_first, is_complete, none_waits}
use Rattle.m2v_model.specs.Streams.{Part, Sofar, picture, ending, over, after, units_from}
use Rattle.m2v_model.specs.Pictures.{Events, closed, picture_ended}
use Rattle.m2v_model.specs.Pieces.{is_end}
use Rattle.m2v_model.specs.ByPieces.{Between, Course, at_start, behind, course_of, units_read}
use Rattle.m2v_model.proofs.StreamLaws.{units_lawful}
use Rattle.m2v_model.proofs.CutLaws.{cuts_is, cut_units, joined-append}
use Rattle.m2v_model.proofs.PieceLaws.{finished, text_is, no_ends-append}
use Rattle.m2v_model.proofs.ShiftLaws.{NoEnds}
use Rattle.m2v_model.proofs.SplitLaws.{IsKnown, IsKnownBehind, rested, closed_of, behind_none, closing, end_seen, split, splits}
use Rattle.m2v_law_group.specs.Groups.{is_sequence, end_code}
use Rattle.m2v_law_group.proofs.Runs.{Ends, finish, going, ended}
use Rattle.m2v_law_group.proofs.Texts as texts
use Rattle.m2v_law_group.proofs.Tens.{IsFinal, final_part}
use Rattle.m2v_law_seam.specs.Strands.{reads}
use Rattle.m2v_law_seam.specs.Strands as strands
use Rattle.m2v_law_seam.specs.Reading.{ended_read, read_then, CanFollow, ReadsOn}
use Rattle.m2v_law_seam.proofs.Strand.{StrandUnits, none_ends, units_ended, code_begins, own_units}
use Rattle.m2v_law_seam.proofs.Chain.{reads_as}
use Rattle.m2v_law_seam.proofs.Edited.{behind_units}

-- ---- where units end no picture is open

final_closed : (st : State) (p : Part) → IsFinal p → (after st p).picture ≡ None
unfolding after
final_closed st ending f = refl
final_closed st over f = refl
final_closed st _ f = absurd f

ends_closed : {st z : State} {us rest : Units} {ps : List Part} → Ends st us ps z rest → z.picture ≡ None
ends_closed {st} {us = us} {rest = rest} (finish {p = p} e) = final_closed st p (final_part st us rest p e)
ends_closed (going e later) = ends_closed later

tree_closed : (us rest : Units) (tree : Sofar) → (units_from at_first).read us ≡ good (tree, rest) → tree.state.picture ≡ None
unfolding units_from repeated
tree_closed us rest tree e = let x = ended (record { state = at_first; parts = [] }) tree us rest ((units_lawful at_first).found tree us rest e) in ends_closed x.2

abbrev IsClosed : Course → Type 0
IsClosed (Ok x) = (x.1).state.picture ≡ None
IsClosed (Err f) = Unit {0}

course_closed : (us : Units) (r : Result (Sofar × Units) (FaultKind × ℕ)) → (units_from at_first).read us ≡ r → IsClosed (course_of at_start r)
course_closed us (Ok x) e = tree_closed us x.1 x.0 e
course_closed us (Err f) e = tt

pub read_closed : (us : Units) → IsClosed (units_read at_start us)
unfolding units_read
read_closed us = course_closed us ((units_from at_first).read us) refl

-- ---- the end code behind units

complete_none : (s : Option Sequence) (p : Option Open) → p ≡ None → is_complete s p ≡ true
complete_none (Some s) p e = ap (is_complete (Some s)) e
complete_none None p e = refl

pub rested_same : (b : Between) → b.state.picture ≡ None → rested b ≡ b
rested_same b e = ap (λ (p : Option Open). record { state = record b.state { picture = None }; store = picture_ended p b.store }) e ∙ ap (λ (p : Option Open). record { state = record b.state { picture = p }; store = b.store }) (sym e)

code_read : (b : Between) → IsKnown b.state → b.state.picture ≡ None → units_read b (end_code ∷ []) ≡ cond (none_waits b.state.waiting) (Ok ([], b)) (Err (FieldPair, 32))
unfolding is_end
code_read b k none =
    let c : is_complete b.state.sequence b.state.picture ≡ true = complete_none b.state.sequence b.state.picture none in
    let own : units_read (rested b) (end_code ∷ []) ≡ cond (none_waits b.state.waiting) (Ok ([], rested b)) (Err (FieldPair, 32)) = end_seen b end_code [] refl k in
    closing b (end_code ∷ []) code_begins k
    ∙ ap (λ (t : Bool). cond t (behind (closed_of b) (units_read (rested b) (end_code ∷ []))) (Err (MissingMacroblocks, 32))) c
    ∙ ap (λ (p : Option Open). behind (closed p b.store) (units_read (rested b) (end_code ∷ []))) none
    ∙ behind_none (units_read (rested b) (end_code ∷ []))
    ∙ own
    ∙ ap (λ (z : Between). cond (none_waits b.state.waiting) (Ok ([], z)) (Err (FieldPair, 32))) (rested_same b none)

by_waiting : (es : Events) (b : Between) (n end : ℕ) (w : Bool) → none_waits b.state.waiting ≡ w → end ≡ n + 4 → finished end (behind es (cond w (Ok ([], b)) (Err (FieldPair, 32)))) ≡ cond w (Ok (es, b)) (Err (FieldPair, 8 * n))
by_waiting es b n end true e at = rw e (ap (λ (l : Events). Ok (l, b)) (append-nil es))
by_waiting es b n end false e at = let bits : 8 * end - 32 ≡ 8 * n = omega (arith, at) in ap (λ (k : ℕ). Err (FieldPair, k)) bits

code_split : (r : Course) (n end : ℕ) → IsKnownBehind r → IsClosed r → end ≡ n + 4 → finished end (split (end_code ∷ []) r) ≡ ended_read (8 * n) r
code_split (Ok x) n end k none at =
    ap (λ (c : Course). finished end (behind x.0 c)) (code_read x.1 k none) ∙ by_waiting x.0 x.1 n end (none_waits (x.1).state.waiting) refl at
code_split (Err f) n end k none at = let bits : 8 * end - (f.1 + 32) ≡ 8 * n - f.1 = omega (arith, at) in ap (λ (i : ℕ). Err (f.0, i)) bits

-- ---- units with the end code

pub read_ended : (h : List ℕ) (pm : Units) → AreUnits ((h ∷ pm) ++ end_code ∷ []) → is_sequence h ≡ true → NoEnds (h ∷ pm) → strands.read_of (joined (h ∷ pm)) ≡ ended_read (8 * length (joined (h ∷ pm))) (units_read at_start (h ∷ pm))
read_ended h pm are is goes =
    let us = h ∷ pm in
    let text = joined us ++ end_code in
    let cuts = texts.cut_cuts us are in
    let units : (cut 0 text).1 ≡ us ++ end_code ∷ [] = ap (λ (x : List ℕ × Units). x.1) (cuts_is text [] (us ++ end_code ∷ []) cuts) in
    let s = splits at_start us (end_code ∷ []) code_begins goes is in
    let end : length text ≡ length (joined us) + 4 = length-append (joined us) end_code in
    text_is text
    ∙ ap (λ (l : Units). finished (length text) (units_read at_start l)) units
    ∙ ap (finished (length text)) s.is
    ∙ code_split (units_read at_start us) (length (joined us)) (length text) s.known (read_closed us) end

pub alone_by : (bytes : List ℕ) (x : StrandUnits bytes) → strands.read_of bytes ≡ ended_read (8 * length bytes) (units_read at_start (cut 0 bytes).1)
alone_by bytes x =
    let own = x.h ∷ x.pm in
    ap strands.read_of x.whole
    ∙ read_ended x.h x.pm x.ended x.is x.goes
    ∙ ap (λ (l : List ℕ). ended_read (8 * length l) (units_read at_start own)) (sym x.whole)
    ∙ ap (λ (l : Units). ended_read (8 * length bytes) (units_read at_start l)) (sym (own_units bytes x))

-- ---- both

split_then : (vs : Units) (r : Course) → split vs r ≡ read_then r vs
split_then vs (Ok x) = refl
split_then vs (Err f) = refl

on_by : (bytes : List ℕ) (x : StrandUnits bytes) (u : List ℕ) (us : Units) → CanFollow u us → ReadsOn bytes u us
on_by bytes x u us c =
    let own = x.h ∷ x.pm in
    let vs = u ∷ us in
    let mine = own_units bytes x in
    let later = none_ends vs c.no_end in
    let all : AreUnits (own ++ vs) = behind_units own u us x.ended c.are in
    let ended : AreUnits ((own ++ vs) ++ end_code ∷ []) = subst AreUnits (sym (append_assoc own vs (end_code ∷ []))) (behind_units own u (us ++ end_code ∷ []) x.ended (units_ended vs c.are c.closed)) in
    let whole : bytes ++ joined vs ≡ joined (own ++ vs) = ap (λ (l : List ℕ). l ++ joined vs) x.whole ∙ sym (joined-append own vs) in
    let s = splits at_start own vs c.begins x.goes x.is in
    let read : units_read at_start (own ++ vs) ≡ read_then (units_read at_start own) vs = s.is ∙ split_then vs (units_read at_start own) in
    record {
      units = ap (λ (l : List ℕ). (cut 0 l).1) whole ∙ cut_units (own ++ vs) all ∙ ap (λ (l : Units). l ++ vs) (sym mine);
      alone = alone_by bytes x;
      both = ap strands.read_of whole ∙ read_ended x.h (x.pm ++ vs) ended x.is (no_ends-append own vs x.goes later)
          ∙ ap (λ (l : List ℕ). ended_read (8 * length l) (units_read at_start (own ++ vs))) (sym whole)
          ∙ ap (ended_read (8 * length (bytes ++ joined vs))) read
          ∙ ap (λ (l : Units). ended_read (8 * length (bytes ++ joined vs)) (read_then (units_read at_start l) vs)) (sym mine);
    }

pub reads_on : (bytes : List ℕ) (u : List ℕ) (us : Units) → reads bytes ≡ true → CanFollow u us → ReadsOn bytes u us
reads_on bytes u us h c = on_by bytes (reads_as bytes h).units u us c
