-- What is made of spans, with one more.
use Rattle.std.proofs.Common.{◌≡◌, ◌≢◌, ℕ, ◌+◌, ◌*◌, ◌≤◌, Bool, true, false, List, [], ◌∷◌, ◌++◌, length, map, Option, Some, None, Ok, refl, sym, ap, subst, ◌∙◌, append_assoc, append-nil, arith}
use Rattle.std.specs.Prelude.{not, is_none, nat_eq, ◌&&◌, if◌then◌else◌, unwrap_or}
use Rattle.std.specs.Option.{option_map}
use Rattle.std.proofs.lemmas.Bool.{eqb-true, and_right}
use Rattle.std.proofs.lemmas.List.{length-append, length-map, nil_from_length}
use Rattle.std.proofs.Math.Bool.{and-false}
use Rattle.m2v_model.specs.declared.fault.FaultKind.TheVariants.{Unsupported}
use Rattle.m2v_model.specs.declared.state.Sequence.{Sequence}
use Rattle.m2v_model.specs.Units.{Units, joined}
use Rattle.m2v_model.proofs.CutLaws.{joined-append}
use Rattle.m2v_law_group.specs.Groups.{has_sequence}
use Rattle.m2v_law_group.proofs.Lists.{and_parts, or_parts}
use Rattle.m2v_law_seam.specs.Spans.{units_of, units_in, has_group, begins_kind, has_matrices, Span}
use Rattle.m2v_law_seam.specs.Seams.{lowered, text_behind, first_reference, leading, has_own_head, opened_pieces, opened}
use Rattle.m2v_law_seam.specs.Strands.{read_of, first_in, frames_in, reads, agrees, all_fit, is_short, is_strand}
use Rattle.m2v_law_seam.specs.Faults.{has_head, begins_entry, is_under_way, strand_bytes, fault_alone, fault_of, fault_behind}
use Rattle.m2v_law_seam.specs.Mending.{Gap, with_gap, Mending, strand_of, strands_of, frames_shown, first_kept, groups_behind, low_of_span, goes_behind, put_behind, begins_strand, gaps_leading, strand_begun, span_gap, left_out, with_span, ended_by, strand_ended}
use Rattle.m2v_law_seam.specs.Told.{first_fault}
use Rattle.m2v_law_seam.proofs.Chain.{reads_as, agree_self}
use Rattle.m2v_law_seam.proofs.Fold.{begins_parts}
use Rattle.m2v_law_seam.proofs.Tame.{sequence_append}
use Rattle.m2v_law_seam.proofs.Pictures.{none_from}
use Rattle.m2v_decode.specs.m2v_dec_piece.declared.answer.Piece.{Piece}
use Rattle.m2v_decode.specs.m2v_dec_piece.declared.answer.Fault.{Fault}
use Rattle.m2v_mend.specs.declared.begin.Begun.{Begun}
use Rattle.m2v_mend.specs.declared.gap.Gap.{Gap as Kept}
use Rattle.m2v_mend.specs.declared.mender.Mender.{Mender}
use Rattle.m2v_mend.specs.declared.parts.SpanParts.{SpanParts}
use Rattle.m2v_mend.specs.Members.{AreLater, AreSpanPieces, IsSpan}
use Rattle.m2v_mend.specs.Putting.{CanBePut, IsUnderWay, BeginTold}
use Rattle.m2v_mend.specs.Making.{fault_told, gap_told, fault_first, IsMade, IsUnder}
use Rattle.m2v_mend.specs.Mender.{over, IsWhyNot, WentOn}
use Rattle.m2v_mend.specs.Strand.{StrandState, wholes_of, IsAt}
use Rattle.m2v_mend.proofs.Gaps.{gap_behind, some_gap, left_more, fault_stays, first_gap}
use Rattle.m2v_mend.proofs.Written.{wholes_append}

-- ---- strands and that which is under way

pub frames_append : (ss ts : List (List ℕ)) → frames_shown (ss ++ ts) ≡ frames_shown ss + frames_shown ts
unfolding frames_shown
frames_append [] ts = omega (arith)
frames_append (s ∷ ss) ts = let i = frames_append ss ts in omega (arith, i)

frames_one : (t : List ℕ) → frames_shown (t ∷ []) ≡ frames_in (read_of t)
unfolding frames_shown
frames_one t = omega arith

-- without one, or with one that has no byte, they are those that have ended
pub none_under : (m : Mending) → strand_of m.strand ≡ [] → strands_of m ≡ m.done
none_under m e = ap (λ (l : List (List ℕ)). m.done ++ l) e ∙ append-nil m.done

pub one_under : (m : Mending) (b : ℕ) (t : List ℕ) → m.strand ≡ Some (b ∷ t) → strands_of m ≡ m.done ++ (b ∷ t) ∷ []
one_under m b t e = ap (λ (o : Option (List ℕ)). m.done ++ strand_of o) e

-- their bytes
pub bytes_under : (done : List (List ℕ)) (t : List ℕ) → joined (done ++ strand_of (Some t)) ≡ joined done ++ t
bytes_under done [] = ap joined (append-nil done) ∙ sym (append-nil (joined done))
bytes_under done (b ∷ t) = joined-append done ((b ∷ t) ∷ []) ∙ ap (λ (l : List ℕ). joined done ++ l) (append-nil (b ∷ t))

pub under_bytes : (m : Mending) (t : List ℕ) → m.strand ≡ Some t → joined (strands_of m) ≡ joined m.done ++ t
under_bytes m t e = ap (λ (o : Option (List ℕ)). joined (m.done ++ strand_of o)) e ∙ bytes_under m.done t

-- ---- the strand has ended

pub over_made : (written : List ℕ) (listed : List Gap) (m : Mending) (x new : Mender) (frames bytes : ℕ) → IsMade written listed m x → frames ≡ frames_shown (strands_of m) → bytes ≡ length (joined (strands_of m))
    → new ≡ record x { strand = None; low = 0; frames = frames; bytes = bytes; out = new.out } → new.out.items ≡ x.out.items → IsMade written listed (over m) new
over_made written listed m x new frames bytes is f b shape out = record {
  strand = subst (λ (y : Mender). IsUnder (over m) y.strand) (sym shape) refl;
  first = ap (λ (y : Mender). y.first) shape ∙ is.first;
  low = ap (λ (y : Mender). y.low) shape;
  groups = ap (λ (y : Mender). y.groups) shape ∙ is.groups;
  frames = ap (λ (y : Mender). y.frames) shape ∙ f;
  bytes = ap (λ (y : Mender). y.bytes) shape ∙ b;
  out = ap joined (append-nil (strands_of m)) ∙ is.out ∙ ap (λ (l : List Piece). written ++ joined (wholes_of l)) (sym out);
  gaps = is.gaps ∙ ap (λ (y : Mender). listed ++ map gap_told y.gaps.items) (sym shape);
  last = λ none. is.last (sym (ap (λ (y : Mender). y.gaps.items) shape) ∙ none);
  left = ap (λ (y : Mender). y.left) shape ∙ is.left;
  fault = λ bits. is.fault bits ∙ ap (λ (y : Mender). fault_first bits y.fault) (sym shape);
}

pub ended_none : (m : Mending) → strand_of m.strand ≡ [] → strand_ended m ≡ m
ended_none m e = by m.strand e
  where
    by : (o : Option (List ℕ)) → strand_of o ≡ [] → ended_by o m ≡ m
    by None e = refl
    by (Some []) e = refl
    by (Some (b ∷ t)) e = absurd cc

-- ---- a span behind the strand that is under way

-- a strand agrees with the first header that is kept with it
pub own_kept : (opening : Bool) (first : Option Sequence) (t : List ℕ) → is_strand opening first t ≡ true → is_strand opening (first_kept first (first_in (read_of t))) t ≡ true
own_kept opening (Some f) t h = h
own_kept opening None t h =
    let a = and_parts (reads t) _ h in
    let x = reads_as t a.0 in
    let same : agrees (first_in (read_of t)) (first_in (read_of t)) ≡ true = subst (λ (o : Option Sequence). agrees o o ≡ true) (sym x.first_is) (agree_self x.s) in
    rw (a.0, same) a.1

pub some_there : (opening : Bool) (first : Option Sequence) (t : List ℕ) → is_strand opening first t ≡ true → (b : ℕ) × (s : List ℕ) × (t ≡ b ∷ s)
some_there opening first [] h = absurd cc
some_there opening first (b ∷ s) h = (b, s, refl)

later_none : (qs : List (List ℕ)) → AreLater qs → has_sequence (units_in qs) ≡ false
unfolding has_sequence units_in
later_none [] h = refl
later_none (q ∷ qs) h = sequence_append (units_of q) (units_in qs) (or_parts (has_sequence (units_of q)) (has_group (units_of q)) h.1).0 (later_none qs h.2)

pub no_text : (ps : List (List ℕ)) (low : ℕ) → AreSpanPieces ps → has_own_head ps ≡ false → text_behind [] low ps ≡ []
unfolding text_behind units_in
no_text [] low h off = absurd h
no_text (p ∷ ps) low h off =
    ap (λ (us : Units). joined (lowered low us)) (none_from (units_of p ++ units_in ps) (sequence_append (units_of p) (units_in ps) off (later_none ps h.1)))

pub goes_by : (m : Mending) (s : Span) (bytes : List ℕ) → m.strand ≡ Some bytes → is_short s ≡ true → goes_behind m s ≡ is_strand m.opening m.first (bytes ++ text_behind bytes (low_of_span m s) s.pieces)
goes_by m s bytes e short =
    ap (λ (o : Option (List ℕ)). not (is_none o) && (is_short s && is_strand m.opening m.first (strand_bytes o ++ text_behind (strand_bytes o) (low_of_span m s) s.pieces))) e
    ∙ ap (λ (b : Bool). b && is_strand m.opening m.first (bytes ++ text_behind bytes (low_of_span m s) s.pieces)) short

pub with_long : (first : Option Sequence) (s : Span) → is_short s ≡ false → begins_strand first s ≡ false
with_long first s off =
    ap (λ (b : Bool). has_head s && (begins_entry s.pieces && (begins_kind 1 s.pieces && (not (has_matrices (units_in (leading s.pieces))) && ((b && all_fit (opened_pieces s)) && is_strand false first (opened s)))))) off
    ∙ and_right (has_head s) _ (and_right (begins_entry s.pieces) _ (and_right (begins_kind 1 s.pieces) _ (and-false (not (has_matrices (units_in (leading s.pieces)))))))

pub fault_first_none : (m : Mending) (s : Span) → m.strand ≡ Some [] → is_short s ≡ true → has_own_head s.pieces ≡ false → fault_of m.strand (low_of_span m s) m.first s ≡ fault_alone m.first s
fault_first_none m s e short off =
    ap (λ (o : Option (List ℕ)). fault_of o (low_of_span m s) m.first s) e
    ∙ ap (λ (b : Bool). if not b then (Unsupported, 8 * s.place) else if has_own_head s.pieces then fault_behind s (text_behind [] (low_of_span m s) s.pieces) else fault_alone m.first s) short
    ∙ ap (λ (b : Bool). if b then fault_behind s (text_behind [] (low_of_span m s) s.pieces) else fault_alone m.first s) off

pub fault_put : (m : Mending) (s : Span) (bytes : List ℕ) → m.strand ≡ Some bytes → is_short s ≡ true → CanBePut bytes s.pieces
    → fault_of m.strand (low_of_span m s) m.first s ≡ fault_behind s (bytes ++ text_behind bytes (low_of_span m s) s.pieces)
fault_put m s bytes e short can =
    ap (λ (o : Option (List ℕ)). fault_of o (low_of_span m s) m.first s) e
    ∙ ap (λ (b : Bool). if not b then (Unsupported, 8 * s.place) else if is_under_way (Some bytes) s then fault_behind s (bytes ++ text_behind bytes (low_of_span m s) s.pieces) else fault_alone m.first s) short
    ∙ ap (λ (b : Bool). if b then fault_behind s (bytes ++ text_behind bytes (low_of_span m s) s.pieces) else fault_alone m.first s) (under bytes can)
  where
    under : (bytes : List ℕ) → CanBePut bytes s.pieces → is_under_way (Some bytes) s ≡ true
    under [] can = can
    under (b ∷ bytes) can = refl

-- ---- a span was put there

-- what is made then, where the strand has these bytes
abbrev pub put_as : Mending → Span → List ℕ → Mending
put_as m s t = record m {
  strand = Some t;
  first = first_kept m.first (first_in (read_of t));
  low = low_of_span m s;
  groups = groups_behind m.groups s;
}

pub put_is : (m : Mending) (s : Span) (bytes : List ℕ) → m.strand ≡ Some bytes → put_behind m s ≡ put_as m s (bytes ++ text_behind bytes (low_of_span m s) s.pieces)
put_is m s bytes e = ap (λ (o : Option (List ℕ)). put_as m s (strand_bytes o ++ text_behind (strand_bytes o) (low_of_span m s) s.pieces)) e

under_way : (opening : Bool) (first : Option Sequence) (t : List ℕ) → is_strand opening first t ≡ true → IsUnderWay opening (first_kept first (first_in (read_of t))) t
under_way opening first [] h = absurd cc
under_way opening first (b ∷ t) h = own_kept opening first (b ∷ t) h

-- a strand of these bytes is under way in place of one of others, behind those that have ended
pub strand_made : (written : List ℕ) (listed : List Gap) (m : Mending) (x new : Mender) (opening : Bool) (low groups : ℕ) (own : Option Sequence) (z : StrandState) (bytes t text : List ℕ) → IsMade written listed m x → joined (strands_of m) ≡ joined m.done ++ bytes
    → t ≡ bytes ++ text → is_strand opening m.first t ≡ true → IsAt z t → z.opening ≡ opening → own ≡ first_in (read_of t) → joined (wholes_of new.out.items) ≡ joined (wholes_of x.out.items) ++ text
    → new ≡ record x { strand = Some z; first = first_kept x.first own; low = low; groups = groups; out = new.out }
    → IsMade written listed (record m { strand = Some t; opening = opening; first = first_kept m.first (first_in (read_of t)); low = low; groups = groups }) new
strand_made written listed m x new opening low groups own z bytes t text is under te h at o own_is out shape = record {
  strand = subst (λ (y : Mender). IsUnder (record m { strand = Some t; opening = opening; first = first_kept m.first (first_in (read_of t)); low = low; groups = groups }) y.strand) (sym shape) (t, refl, at, o, under_way opening m.first t h);
  first = ap (λ (y : Mender). y.first) shape ∙ ap (λ (f : Option Sequence). first_kept f own) is.first ∙ ap (first_kept m.first) own_is;
  low = ap (λ (y : Mender). y.low) shape;
  groups = ap (λ (y : Mender). y.groups) shape;
  frames = ap (λ (y : Mender). y.frames) shape ∙ is.frames;
  bytes = ap (λ (y : Mender). y.bytes) shape ∙ is.bytes;
  out =
      bytes_under m.done t ∙ ap (λ (l : List ℕ). joined m.done ++ l) te ∙ sym (append_assoc (joined m.done) bytes text)
      ∙ ap (λ (l : List ℕ). l ++ text) (sym under ∙ is.out)
      ∙ append_assoc written (joined (wholes_of x.out.items)) text
      ∙ ap (λ (l : List ℕ). written ++ l) (sym out);
  gaps = is.gaps ∙ ap (λ (y : Mender). listed ++ map gap_told y.gaps.items) (sym shape);
  last = λ none. is.last (sym (ap (λ (y : Mender). y.gaps.items) shape) ∙ none);
  left = ap (λ (y : Mender). y.left) shape ∙ is.left;
  fault = λ bits. is.fault bits ∙ ap (λ (y : Mender). fault_first bits y.fault) (sym shape);
}

-- ---- counts

pub bytes_with : (written : List ℕ) (listed : List Gap) (m : Mending) (x : Mender) (z : StrandState) (n : ℕ) → IsMade written listed m x → x.strand ≡ Some z → n ≡ x.bytes + z.bytes → n ≡ length (joined (strands_of m))
bytes_with written listed m x z n is e sum =
    let u = subst (IsUnder m) e is.strand in
    let all = ap length (under_bytes m u.0 u.1) ∙ length-append (joined m.done) u.0 in
    omega (arith, sum, all, is.bytes, (u.2).length_is)

pub frames_with : (written : List ℕ) (listed : List Gap) (m : Mending) (x : Mender) (z : StrandState) (n f : ℕ) → IsMade written listed m x → x.strand ≡ Some z → z.bytes ≢ 0
    → ((bytes : List ℕ) → IsAt z bytes → 1 ≤ length bytes → f ≡ frames_in (read_of bytes)) → n ≡ x.frames + f → n ≡ frames_shown (strands_of m)
frames_with written listed m x z n f is e some own sum =
    let u = subst (IsUnder m) e is.strand in
    by u.0 u.1 u.2
  where
    by : (bytes : List ℕ) → m.strand ≡ Some bytes → IsAt z bytes → n ≡ frames_shown (strands_of m)
    by [] es at = absurd (some at.length_is)
    by (b ∷ t) es at =
        let all = ap frames_shown (one_under m b t es) ∙ frames_append m.done ((b ∷ t) ∷ []) in
        omega (arith, sum, all, is.frames, own (b ∷ t) at (omega arith), frames_one (b ∷ t))

-- ---- gaps

pub added_made : (written : List ℕ) (listed : List Gap) (m : Mending) (x : Mender) (gap : Kept) (none : Bool) (new : Mender) → IsMade written listed m x → none ≡ nat_eq (length x.gaps.items) 0
    → map gap_told new.gaps.items ≡ with_gap (map gap_told x.gaps.items) (gap_told gap) → new ≡ record x { gaps = new.gaps; left = x.left + gap.pictures; fault = if none then gap.fault else x.fault }
    → IsMade written listed (record m { gaps = with_gap m.gaps (gap_told gap) }) new
added_made written listed m x gap none new is empty more shape = record {
  strand = subst (λ (y : Mender). IsUnder m y.strand) (sym shape) is.strand;
  first = ap (λ (y : Mender). y.first) shape ∙ is.first;
  low = ap (λ (y : Mender). y.low) shape ∙ is.low;
  groups = ap (λ (y : Mender). y.groups) shape ∙ is.groups;
  frames = ap (λ (y : Mender). y.frames) shape ∙ is.frames;
  bytes = ap (λ (y : Mender). y.bytes) shape ∙ is.bytes;
  out = is.out ∙ ap (λ (y : Mender). written ++ joined (wholes_of y.out.items)) (sym shape);
  gaps = ap (λ (l : List Gap). with_gap l (gap_told gap)) is.gaps ∙ gap_behind listed (map gap_told x.gaps.items) (gap_told gap) none_before ∙ ap (λ (l : List Gap). listed ++ l) (sym more);
  last = λ none. absurd (some_gap (map gap_told x.gaps.items) (gap_told gap) (sym more ∙ ap (map gap_told) none));
  left = ap (λ (y : Mender). y.left) shape ∙ ap (λ (k : ℕ). k + gap.pictures) is.left ∙ sym (left_more m.gaps (gap_told gap));
  fault = λ bits. first_by bits none empty ∙ ap (λ (y : Mender). fault_first bits y.fault) (sym shape);
}
  where
    none_before : map gap_told x.gaps.items ≡ [] → listed ≡ []
    none_before e = is.last (nil_from_length x.gaps.items (sym (length-map x.gaps.items gap_told) ∙ ap length e))

    fault_one : (bits : ℕ) (o : Option Fault) → first_fault bits (record (gap_told gap) { fault = option_map fault_told o } ∷ []) ≡ fault_first bits o
    fault_one bits None = refl
    fault_one bits (Some f) = refl

    first_by : (bits : ℕ) (b : Bool) → b ≡ nat_eq (length x.gaps.items) 0 → first_fault bits (with_gap m.gaps (gap_told gap)) ≡ fault_first bits (if b then gap.fault else x.fault)
    first_by bits true e =
        let none_there : x.gaps.items ≡ [] = nil_from_length x.gaps.items (eqb-true (length x.gaps.items) 0 (sym e)) in
        let before : m.gaps ≡ [] = is.gaps ∙ ap (λ (l : List Kept). listed ++ map gap_told l) none_there ∙ append-nil listed ∙ is.last none_there in
        ap (λ (l : List Gap). first_fault bits (with_gap l (gap_told gap))) before ∙ first_gap bits (gap_told gap) ∙ fault_one bits gap.fault
    first_by bits false e = fault_stays bits m.gaps (gap_told gap) some ∙ is.fault bits
      where
        some : m.gaps ≡ [] → ⊥
        some before =
            let zero : length x.gaps.items ≡ 0 = omega (arith, ap length (sym is.gaps ∙ before), length-append listed (map gap_told x.gaps.items), length-map x.gaps.items gap_told) in
            let wrong : false ≡ true = e ∙ ap (λ (k : ℕ). nat_eq k 0) zero in
            absurd cc

pub same_gap : (m : Mending) (s : Span) (x : Mender) (p : SpanParts) (f : Fault) → x.frames ≡ frames_shown (strands_of m) → IsSpan s p → fault_of m.strand (low_of_span m s) m.first s ≡ fault_told f
    → gap_told (record { frames = x.frames; from = p.place; bytes = p.bytes; pictures = p.pictures; fault = Some f }) ≡ span_gap m s
same_gap m s x p f frames is fault = rw (frames, is.place, is.bytes, is.pictures, sym fault) refl

pub left_made : (written : List ℕ) (listed : List Gap) (m : Mending) (s : Span) (g : Gap) (new : Mender) → g ≡ span_gap m s → IsMade written listed (record (over m) { gaps = with_gap m.gaps g }) new → IsMade written listed (left_out m s) new
left_made written listed m s g new e is = subst (λ (h : Gap). IsMade written listed (record (over m) { gaps = with_gap m.gaps h }) new) e is

-- ---- which of the three

pub begins_on : (m : Mending) (s : Span) → goes_behind m s ≡ false → begins_strand m.first s ≡ true → with_span m s ≡ strand_begun m s
unfolding with_span
begins_on m s off on = rw (off, on) refl

pub left_on : (m : Mending) (s : Span) → goes_behind m s ≡ false → begins_strand m.first s ≡ false → with_span m s ≡ left_out m s
unfolding with_span
left_on m s off none = rw (off, none) refl

-- the fault that is told
pub told_fault : (m : Mending) (s : Span) (o : Option Fault) (f : Fault) → IsWhyNot m s o → fault_alone m.first s ≡ fault_told f → fault_of m.strand (low_of_span m s) m.first s ≡ fault_told (unwrap_or o f)
told_fault m s None f why alone = why ∙ alone
told_fault m s (Some g) f why alone = why

-- ---- a strand that has no byte doesn't end

pub ended_same : (written : List ℕ) (listed : List Gap) (m : Mending) (x : Mender) (bytes : ℕ) → IsMade written listed m x → bytes ≡ length (joined (strands_of m)) → bytes ≤ x.bytes → IsMade written listed (strand_ended m) x
ended_same written listed m x bytes is all few = by m.strand refl
  where
    by : (o : Option (List ℕ)) → m.strand ≡ o → IsMade written listed (strand_ended m) x
    by None e = subst (λ (y : Mending). IsMade written listed y x) (sym (ended_none m (ap strand_of e))) is
    by (Some []) e = subst (λ (y : Mending). IsMade written listed y x) (sym (ended_none m (ap strand_of e))) is
    by (Some (b ∷ t)) e = absurd (omega (arith, few, all, is.bytes, ap length (under_bytes m (b ∷ t) e), length-append (joined m.done) (b ∷ t)))

-- ---- a strand has begun

pub begun_made : (written : List ℕ) (listed : List Gap) (m : Mending) (s : Span) (b : Begun) (x y new : Mender) (pieces : List Piece)
    → IsMade written listed (record (over m) { gaps = gaps_leading m.gaps (frames_shown (strands_of m)) s }) x → WentOn s b.strand b.low x y → BeginTold m.first s [] pieces (Ok b)
    → new.out.items ≡ y.out.items ++ pieces → new ≡ record y { out = new.out } → IsMade written listed (strand_begun m s) new
begun_made written listed m s b x y new pieces is went told items shape =
    let t = opened s in
    let h = begins_parts m.first s told.0 in
    let some = some_there false m.first t h in
    let own : went.own ≡ first_in (read_of t) = went.own_is t told.1 (omega (arith, ap length some.2)) in
    let out : joined (wholes_of new.out.items) ≡ joined (wholes_of x.out.items) ++ t =
    ap (λ (l : List Piece). joined (wholes_of l)) (items ∙ ap (λ (z : Mender). z.out.items ++ pieces) went.is) ∙ wholes_append x.out.items pieces ∙ ap (λ (l : List ℕ). joined (wholes_of x.out.items) ++ l) told.3 in
    strand_made written listed (record (over m) { gaps = gaps_leading m.gaps (frames_shown (strands_of m)) s }) x new false (first_reference s.pieces) (groups_behind m.groups s) went.own b.strand [] t t is (ap joined (append-nil (strands_of m)) ∙ sym (append-nil (joined (strands_of m)))) refl h told.1 told.2 own out
    (shape ∙ ap (λ (z : Mender). record z { out = new.out }) went.is ∙ rw (told.4, went.groups_is, is.groups) refl)
