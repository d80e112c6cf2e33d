-- What is made of pieces, with one more piece, and behind the last one of a stretch.
use Rattle.std.proofs.Common.{◌≡◌, ℕ, ◌+◌, ◌≤◌, Bool, true, false, List, [], ◌∷◌, ◌++◌, length, Option, Some, None, inl, inr, refl, sym, ap, subst, ◌∙◌, append_assoc, append-nil, arith}
use Rattle.std.specs.Prelude.{nat_le, nat_lt, not, ◌&&◌, ◌||◌, if◌then◌else◌}
use Rattle.std.proofs.lemmas.Bool.{cases_Bool}
use Rattle.std.proofs.lemmas.List.{length-append}
use Rattle.m2v_model.specs.Units.{Units, joined, AreUnits}
use Rattle.m2v_model.proofs.CutLaws.{joined-append, cut_units, are_before, are_behind}
use Rattle.m2v_decode.specs.m2v_dec_piece.declared.answer.Piece.{Piece}
use Rattle.m2v_decode.specs.Decoding.{whole_of}
use Rattle.m2v_law_group.specs.Groups.{has_sequence, from_last_sequence}
use Rattle.m2v_law_group.proofs.Lists.{or_parts, last_found}
use Rattle.m2v_law_seam.specs.Spans.{units_of, units_in, picture_count, is_entry, waits_behind, has_matrices, extensions_first, behind_extensions, most_head, head_of, span_of, placed, Span}
use Rattle.m2v_law_seam.specs.Seams.{bytes_or_none}
use Rattle.m2v_law_seam.specs.Strands.{has_end}
use Rattle.m2v_law_seam.specs.Mending as mending
use Rattle.m2v_law_seam.specs.Mending.{Mending, nothing_yet, is_group_span, ended_by}
use Rattle.m2v_law_seam.specs.Reading.{BeginsSequence, IsPieceOfUnits}
use Rattle.m2v_law_seam.proofs.Edited.{without_middle}
use Rattle.m2v_law_seam.proofs.Told.{units_append, units_one, none_units}
use Rattle.m2v_law_seam.proofs.ByUnits.{end_append}
use Rattle.m2v_law_seam.proofs.Tame.{HeadOf, head_there, none_last, extensions_parts}
use Rattle.m2v_law_seam.proofs.Groups.{picture_is}
use Rattle.m2v_mend.specs.declared.folding.Folding.{Folding}
use Rattle.m2v_mend.specs.declared.member.Member.{Member}
use Rattle.m2v_mend.specs.declared.parts.SpanParts.{SpanParts}
use Rattle.m2v_mend.specs.Heading.{IsHeads}
use Rattle.m2v_mend.specs.Gathering.{Tally, with_one, with_all, stretch_ended, Gathering, begins_step, finished, begun_with, joined_with, with_piece, before_stretch, nothing_told}
use Rattle.m2v_mend.specs.Members.{IsOneOfUnits, AreLater, AreSpanPieces, HeadStands, IsOfStretch, IsSpan}
use Rattle.m2v_mend.specs.Making.{IsMade, CanBeNext, span_of_pieces, IsAtHand, IsFolded, IsNextPiece}
use Rattle.m2v_mend.specs.Folded.{IsTold, SameTold, HasSpan, IsBegun, IsGrown, Waits}
use Rattle.m2v_mend.proofs.Gathering.{piece_begins, piece_joins}

-- ---- the head before units

-- the head that is told of units stands before those behind them
head_stands : (before us : Units) → AreUnits (before ++ us) → HeadStands us (head_of (from_last_sequence before))
head_stands before us are = stands_by (head_of (from_last_sequence before)) (head_there before us are)
  where
    stands_by : (o : Option (List ℕ)) → HeadOf o us → HeadStands us o
    stands_by None h = tt
    stands_by (Some bytes) h =
        let front : AreUnits (h.hs ++ us) = without_middle h.hs h.ys us h.are in
        let same : units_of bytes ≡ h.hs = ap units_of h.is ∙ cut_units h.hs (are_before h.hs us front) in
        record {
          whole = ap joined same ∙ sym h.is;
          begins = subst BeginsSequence (sym same) h.begins;
          are = subst (λ (l : Units). AreUnits (l ++ us)) (sym same) front;
          no_end = ap has_end same ∙ h.no_end;
          none = ap picture_count same ∙ h.none;
        }

within_by : (h : List ℕ) (w : Units) (b : Bool) → length (bytes_or_none (if b then None else Some (joined (h ∷ extensions_first w)))) ≤ length (joined (h ∷ w))
within_by h w true = omega arith
within_by h w false =
    let e = ap (λ (l : Units). length (joined l)) (extensions_parts w) ∙ ap length (joined-append (extensions_first w) (behind_extensions w)) ∙ length-append (joined (extensions_first w)) (joined (behind_extensions w)) in
    let a = length-append h (joined (extensions_first w)) in
    let b = length-append h (joined w) in
    omega (arith, e, a, b)

head_within : (before : Units) → length (bytes_or_none (head_of (from_last_sequence before))) ≤ length (joined before)
head_within before = elim (cases_Bool (has_sequence before)) [
  | inl on ↦
      let x = last_found before on in
      let own = within_by x.h x.later (has_matrices (behind_extensions x.later) || not (nat_le (length (joined (x.h ∷ extensions_first x.later))) most_head)) in
      let all = ap (λ (l : Units). length (joined l)) x.whole ∙ ap length (joined-append x.before (x.h ∷ x.later)) ∙ length-append (joined x.before) (joined (x.h ∷ x.later)) in
      subst (λ (l : Units). length (bytes_or_none (head_of l)) ≤ length (joined before)) (sym x.last) (omega (arith, own, all))
  | inr off ↦ subst (λ (l : Units). length (bytes_or_none (head_of l)) ≤ length (joined before)) (sym (none_last before off)) (omega arith)
]

-- ---- the pieces of a span

units_more : (ps : List (List ℕ)) (w : List ℕ) → units_in (ps ++ w ∷ []) ≡ units_in ps ++ units_of w
units_more ps w = units_append ps (w ∷ []) ∙ ap (λ (l : Units). units_in ps ++ l) (units_one w)

units_on : (before : Units) (ps : List (List ℕ)) (w : List ℕ) → before ++ units_in (ps ++ w ∷ []) ≡ before ++ units_in ps ++ units_of w
units_on before ps w = ap (λ (l : Units). before ++ l) (units_more ps w) ∙ sym (append_assoc before (units_in ps) (units_of w))

later_bytes : (ps : List (List ℕ)) → AreLater ps → joined (units_in ps) ≡ joined ps
unfolding units_in
later_bytes [] are = refl
later_bytes (p ∷ ps) are = joined-append (units_of p) (units_in ps) ∙ ap (λ (l : List ℕ). l ++ joined (units_in ps)) are.0.whole ∙ ap (λ (l : List ℕ). p ++ l) (later_bytes ps are.2)

span_bytes : (ps : List (List ℕ)) → AreSpanPieces ps → joined (units_in ps) ≡ joined ps
unfolding units_in
span_bytes [] are = absurd are
span_bytes (p ∷ ps) are = joined-append (units_of p) (units_in ps) ∙ ap (λ (l : List ℕ). l ++ joined (units_in ps)) are.0.whole ∙ ap (λ (l : List ℕ). p ++ l) (later_bytes ps are.1)

span_end : (ps : List (List ℕ)) → AreSpanPieces ps → has_end (units_in ps) ≡ false
span_end [] are = absurd are
span_end (p ∷ ps) are = are.3

pieces_one : (w : List ℕ) → IsOneOfUnits w → AreUnits (units_of w) → has_end (units_of w) ≡ false → AreSpanPieces (w ∷ [])
pieces_one w one are off = (one, tt, subst AreUnits (sym (units_one w)) are, ap has_end (units_one w) ∙ off)

later_more : (ps : List (List ℕ)) (w : List ℕ) → AreLater ps → IsPieceOfUnits w → is_entry w ≡ false → AreLater (ps ++ w ∷ [])
later_more [] w are one off = (one, off, tt)
later_more (p ∷ ps) w are one off = (are.0, are.1, later_more ps w are.2 one off)

pieces_more : (ps : List (List ℕ)) (w : List ℕ) → AreSpanPieces ps → IsPieceOfUnits w → is_entry w ≡ false → AreUnits (units_in (ps ++ w ∷ [])) → has_end (units_of w) ≡ false → AreSpanPieces (ps ++ w ∷ [])
pieces_more [] w are one off all none = absurd are
pieces_more (p ∷ ps) w are one off all none = (are.0, later_more ps w are.1 one off, all, ap has_end (units_more (p ∷ ps) w) ∙ end_append (units_in (p ∷ ps)) (units_of w) are.3 none)

of_stretch : (place : ℕ) (before : Units) (ps : List (List ℕ)) → length (joined before) ≤ place → AreUnits (before ++ units_in ps) → AreSpanPieces ps
    → IsOfStretch (record { place = place; head = head_of (from_last_sequence before); pieces = ps })
of_stretch place before ps le are pieces = record { pieces = pieces; head = head_stands before (units_in ps) are; before = omega (arith, le, head_within before) }

-- ---- the strand before a span

next_first : (o : Option (List ℕ)) (ps : List (List ℕ)) → CanBeNext o [] → CanBeNext o ps
next_first None ps n = tt
next_first (Some []) ps n = tt
next_first (Some (b ∷ bytes)) ps n = absurd n

next_more : (o : Option (List ℕ)) (ps : List (List ℕ)) (w : List ℕ) → 1 ≤ length ps → CanBeNext o ps → CanBeNext o (ps ++ w ∷ [])
next_more None ps w some n = tt
next_more (Some []) ps w some n = tt
next_more (Some (b ∷ bytes)) [] w some n = absurd n
next_more (Some (b ∷ bytes)) (p ∷ ps) w some n = n

next_one : (o : Option (List ℕ)) (w : List ℕ) → IsPieceOfUnits w → CanBeNext o (w ∷ [])
next_one None w is = tt
next_one (Some []) w is = tt
next_one (Some (b ∷ bytes)) w is = is.begins

next_ended : (o : Option (List ℕ)) (m : Mending) → m.strand ≡ o → CanBeNext (ended_by o m).strand []
next_ended None m e = subst (λ (o : Option (List ℕ)). CanBeNext o []) (sym e) tt
next_ended (Some []) m e = subst (λ (o : Option (List ℕ)). CanBeNext o []) (sym e) tt
next_ended (Some (b ∷ bytes)) m e = tt

-- ---- with one more piece

none_yet : (t : Tally) (place : ℕ) (before : Units) → with_all t (placed place before []) ≡ t
unfolding with_all placed
none_yet t place before = refl

first_begun : (t : Tally) (place : ℕ) (before : Units) (waiting : ℕ) (w : List ℕ)
    → begun_with (record { tally = t; place = place; before = before; pieces = []; waiting = waiting }) w ≡ joined_with (record { tally = t; place = place; before = before; pieces = []; waiting = waiting }) w
first_begun t place before waiting w =
    let at : place + length (joined []) ≡ place = omega arith in
    let us : before ++ units_in [] ≡ before = ap (λ (l : Units). before ++ l) none_units ∙ append-nil before in
    rw (none_yet t place before, at, us) refl

-- the first piece of a stretch, whether a step begins with it or not
first_piece : (g : Gathering) (w : List ℕ) → g.pieces ≡ [] → with_piece g w ≡ joined_with g w
first_piece g w none = elim (cases_Bool (begins_step g.waiting w)) [
  | inl on ↦
      let from : begun_with g w ≡ joined_with g w =
      subst
      (λ (ps : List (List ℕ)). begun_with (record { tally = g.tally; place = g.place; before = g.before; pieces = ps; waiting = g.waiting }) w ≡ joined_with (record { tally = g.tally; place = g.place; before = g.before; pieces = ps; waiting = g.waiting }) w)
      (sym none)
      (first_begun g.tally g.place g.before g.waiting w) in
      piece_begins g w on ∙ from
  | inr off ↦ piece_joins g w off
]

-- a span of one piece is that of a stretch which has no piece yet
first_span : (place : ℕ) (before : Units) (ps : List (List ℕ)) (at : ℕ) (w : List ℕ) → ps ≡ [] → at ≡ place + length (joined ps)
    → ◌≡◌ {A = Span} (record { place = at; head = head_of (from_last_sequence (before ++ units_in ps)); pieces = w ∷ [] }) (record { place = place; head = head_of (from_last_sequence before); pieces = ps ++ w ∷ [] })
first_span place before [] at w none e =
    let same : at ≡ place = e ∙ omega arith in
    let us : before ++ units_in [] ≡ before = ap (λ (l : Units). before ++ l) none_units ∙ append-nil before in
    rw (same, us) refl
first_span place before (p ∷ ps) at w none e = absurd cc

at_hand : (h : Gathering) (o : Option SpanParts) → HasSpan (span_of_pieces h) o → 1 ≤ length h.pieces → IsOfStretch (span_of_pieces h) → IsAtHand h o
at_hand h None has some of = absurd has
at_hand h (Some x) has some of = (some, has, of)

one_more : (ps : List (List ℕ)) (w : List ℕ) → 1 ≤ length (ps ++ w ∷ [])
one_more ps w = omega (arith, length-append ps (w ∷ []))

module _ (written : List ℕ) (listed : List mending.Gap) (g : Gathering) (old mid new : Folding) (m : Member) (f : IsFolded written listed g old) (n : IsNextPiece g m.piece) (same_heads : mid.heads ≡ old.heads) where
  abbrev w : List ℕ
  w = whole_of m.piece

  abbrev past : Units
  past = g.before ++ units_in g.pieces

  heads_before : IsHeads past mid.heads
  heads_before = subst (IsHeads past) (sym same_heads) f.heads

  own_units : AreUnits (units_of w)
  own_units = are_behind past (units_of w) n.are

  units_are : AreUnits (g.before ++ units_in (g.pieces ++ w ∷ []))
  units_are = subst AreUnits (sym (units_on g.before g.pieces w)) n.are

  waits_more : IsTold written listed g.tally mid → SameTold mid new → ((before : Units) → IsHeads before mid.heads → IsHeads (before ++ units_of w) new.heads) → IsAtHand (joined_with g w) new.parts
      → CanBeNext g.tally.made.strand (g.pieces ++ w ∷ []) → Waits written listed (joined_with g w) new
  waits_more t same heads at next = record {
    made = subst (IsMade written listed g.tally.made) (sym same.mender) t.made;
    groups = same.groups ∙ t.groups;
    pictures = same.pictures ∙ t.pictures;
    heads = subst (λ (l : Units). IsHeads l new.heads) (sym (units_on g.before g.pieces w)) (heads past heads_before);
    before = f.before;
    are = units_are;
    no_end = f.no_end;
    at_hand = at;
    waiting = refl;
    next = next;
  }

  pub folded_first : old.parts ≡ None → IsTold written listed g.tally mid → IsBegun mid m new → Waits written listed (with_piece g w) new
  folded_first empty t b =
      let none : g.pieces ≡ [] = subst (IsAtHand g) empty f.at_hand in
      let shape = first_span g.place g.before g.pieces m.piece.place w none n.place in
      let only : AreSpanPieces (g.pieces ++ w ∷ []) = subst (λ (l : List (List ℕ)). AreSpanPieces (l ++ w ∷ [])) (sym none) (pieces_one w n.one own_units n.no_end) in
      subst (λ (h : Gathering). Waits written listed h new) (sym (first_piece g w none))
      (waits_more t b.told b.heads
      (at_hand (joined_with g w) new.parts (subst (λ (s : Span). HasSpan s new.parts) shape (b.span past heads_before n.zeros)) (one_more g.pieces w) (of_stretch g.place g.before (g.pieces ++ w ∷ []) f.before units_are only))
      (next_first g.tally.made.strand (g.pieces ++ w ∷ []) (subst (CanBeNext g.tally.made.strand) none f.next)))

  pub folded_grown : (x : SpanParts) → old.parts ≡ Some x → begins_step g.waiting w ≡ false → IsTold written listed g.tally mid → IsGrown mid x m new → Waits written listed (with_piece g w) new
  folded_grown x there off t b =
      let has : IsAtHand g (Some x) = subst (IsAtHand g) there f.at_hand in
      let plain : is_entry w ≡ false = (or_parts (is_entry w) _ off).0 in
      let more = pieces_more g.pieces w has.2.pieces (n.begins has.0) plain (are_behind g.before (units_in (g.pieces ++ w ∷ [])) units_are) n.no_end in
      subst (λ (h : Gathering). Waits written listed h new) (sym (piece_joins g w off))
      (waits_more t b.told b.heads
      (at_hand (joined_with g w) new.parts (b.span (span_of_pieces g) has.1 has.0 n.zeros n.place) (one_more g.pieces w) (of_stretch g.place g.before (g.pieces ++ w ∷ []) f.before units_are more))
      (next_more g.tally.made.strand g.pieces w has.0 f.next))

  bytes_before : 1 ≤ length g.pieces → AreSpanPieces g.pieces → length (joined past) ≤ g.place + length (joined g.pieces)
  bytes_before some are =
      let all = ap length (joined-append g.before (units_in g.pieces)) ∙ length-append (joined g.before) (joined (units_in g.pieces)) in
      omega (arith, all, ap length (span_bytes g.pieces are), f.before)

  pub folded_begun : (x : SpanParts) → old.parts ≡ Some x → begins_step g.waiting w ≡ true → IsTold written listed (finished g) mid → IsBegun mid m new → Waits written listed (with_piece g w) new
  folded_begun x there on t b =
      let same = b.told in
      let has : IsAtHand g (Some x) = subst (IsAtHand g) there f.at_hand in
      let one = n.begins has.0 in
      let are : AreUnits (past ++ units_in (w ∷ [])) = subst (λ (l : Units). AreUnits (past ++ l)) (sym (units_one w)) n.are in
      let before = bytes_before has.0 has.2.pieces in
      let span = b.span past heads_before n.zeros in
      subst (λ (h : Gathering). Waits written listed h new) (sym (piece_begins g w on)) (record {
        made = subst (IsMade written listed (finished g).made) (sym same.mender) t.made;
        groups = same.groups ∙ t.groups;
        pictures = same.pictures ∙ t.pictures;
        heads = subst (λ (l : Units). IsHeads (past ++ l) new.heads) (sym (units_one w)) (b.heads past heads_before);
        before = before;
        are = are;
        no_end = end_append g.before (units_in g.pieces) f.no_end (span_end g.pieces has.2.pieces);
        at_hand = at_hand (begun_with g w) new.parts (subst (λ (at : ℕ). HasSpan (record { place = at; head = head_of (from_last_sequence past); pieces = w ∷ [] }) new.parts) n.place span) (omega arith) (of_stretch (g.place + length (joined g.pieces)) past (w ∷ []) before are (pieces_one w n.one own_units n.no_end));
        waiting = refl;
        next = next_one (finished g).made.strand w one;
      })

waits_then : (g : Gathering) (w : List ℕ) → (with_piece g w).waiting ≡ waits_behind g.waiting w
waits_then g w = elim (cases_Bool (begins_step g.waiting w)) [
  | inl on ↦ ap (λ (h : Gathering). h.waiting) (piece_begins g w on)
  | inr off ↦ ap (λ (h : Gathering). h.waiting) (piece_joins g w off)
]

-- the field that waits is set behind it
pub folded_piece : (written : List ℕ) (listed : List mending.Gap) (g : Gathering) (old new : Folding) (p : Piece) (m : Member) (begins : Bool) (waiting : ℕ) → m.piece ≡ p → old.waiting ≡ g.waiting → IsNextPiece g p
    → begins ≡ begins_step old.waiting (whole_of m.piece) → waiting ≡ waits_behind old.waiting (whole_of m.piece)
    → (IsNextPiece g m.piece → begins ≡ begins_step g.waiting (whole_of m.piece) → Waits written listed (with_piece g (whole_of m.piece)) new)
    → IsFolded written listed (with_piece g (whole_of p)) (record new { waiting = waiting })
folded_piece written listed g old new p m begins waiting is same n b w step =
    let here : waiting ≡ (with_piece g (whole_of m.piece)).waiting = w ∙ ap (λ (k : ℕ). waits_behind k (whole_of m.piece)) same ∙ sym (waits_then g (whole_of m.piece)) in
    let told = step (subst (IsNextPiece g) (sym is) n) (b ∙ ap (λ (k : ℕ). begins_step k (whole_of m.piece)) same) in
    subst
    (λ (q : Piece). IsFolded written listed (with_piece g (whole_of q)) (record new { waiting = waiting }))
    is
    (subst (λ (k : ℕ). IsFolded written listed (with_piece g (whole_of m.piece)) (record new { waiting = k })) (sym here) told)

-- ---- a span that is whole

-- it is the one at hand
finished_by : (t : Tally) (place : ℕ) (before : Units) (ps : List (List ℕ)) → 1 ≤ length ps → with_all t (placed place before (span_of ps)) ≡ with_one t (record { place = place; head = head_of (from_last_sequence before); pieces = ps })
unfolding with_all placed
finished_by t place before [] some = absurd (omega (arith, some))
finished_by t place before (p ∷ ps) some = refl

pub finished_one : (g : Gathering) → 1 ≤ length g.pieces → finished g ≡ with_one g.tally (span_of_pieces g)
finished_one g some = finished_by g.tally g.place g.before g.pieces some

pub finished_none : (g : Gathering) → g.pieces ≡ [] → finished g ≡ g.tally
finished_none g none = ap (λ (ps : List (List ℕ)). with_all g.tally (placed g.place g.before (span_of ps))) none ∙ none_yet g.tally g.place g.before

pub group_is : (s : Span) (x : SpanParts) → IsSpan s x → (x.entry && nat_lt 0 x.pictures) ≡ is_group_span s
group_is s x is = rw (is.entry, is.pictures, picture_is (units_in s.pieces)) refl

-- what is made of the spans that are whole, with the span at hand: there is none
pub told_none : (written : List ℕ) (listed : List mending.Gap) (g : Gathering) (o : Option SpanParts) (new : Folding) → IsAtHand g o → None ≡ o → IsTold written listed g.tally new → IsTold written listed (finished g) new
told_none written listed g o new has none t =
    let empty : g.pieces ≡ [] = subst (IsAtHand g) (sym none) has in
    subst (λ (x : Tally). IsTold written listed x new) (sym (finished_none g empty)) t

-- or it is whole too
pub told_some : (written : List ℕ) (listed : List mending.Gap) (g : Gathering) (old new : Folding) (x : SpanParts) → IsFolded written listed g old → Some x ≡ old.parts
    → ((s : Span) → IsSpan s x → IsOfStretch s → CanBeNext g.tally.made.strand s.pieces → IsTold written listed (with_one g.tally s) new) → IsTold written listed (finished g) new
told_some written listed g old new x f there step =
    let has : IsAtHand g (Some x) = subst (IsAtHand g) (sym there) f.at_hand in
    subst (λ (t : Tally). IsTold written listed t new) (sym (finished_one g has.0)) (step (span_of_pieces g) has.1 has.2 f.next)

-- ---- before the first piece, and behind a stretch

pub folded_new : (place : ℕ) (x : Folding) → IsMade [] [] nothing_yet x.mender → IsHeads [] x.heads → x.parts ≡ None → x.waiting ≡ 0 → x.groups ≡ 0 → x.pictures ≡ 0 → IsFolded [] [] (before_stretch nothing_told place []) x
unfolding has_end
folded_new place x made heads parts waiting groups pictures = record {
  made = made;
  groups = groups;
  pictures = pictures;
  heads = subst (λ (l : Units). IsHeads l x.heads) (sym none_units) heads;
  before = omega arith;
  are = subst AreUnits (sym none_units) tt;
  no_end = refl;
  at_hand = subst (IsAtHand (before_stretch nothing_told place [])) (sym parts) refl;
  waiting = waiting;
  next = tt;
}

bytes_all : (g : Gathering) (o : Option SpanParts) → IsAtHand g o → length (joined (units_in g.pieces)) ≡ length (joined g.pieces)
bytes_all g None none = ap (λ (l : List (List ℕ)). length (joined (units_in l))) none ∙ ap (λ (l : Units). length (joined l)) none_units ∙ sym (ap (λ (l : List (List ℕ)). length (joined l)) none)
bytes_all g (Some x) has = ap length (span_bytes g.pieces has.2.pieces)

end_all : (g : Gathering) (o : Option SpanParts) → IsAtHand g o → has_end (units_in g.pieces) ≡ false
unfolding has_end
end_all g None none = ap (λ (l : List (List ℕ)). has_end (units_in l)) none ∙ ap has_end none_units
end_all g (Some x) has = span_end g.pieces has.2.pieces

pub folded_ended : (written : List ℕ) (listed : List mending.Gap) (g : Gathering) (place : ℕ) (old new : Folding) → IsFolded written listed g old → g.place + length (joined g.pieces) ≤ place
    → IsTold written listed (stretch_ended (finished g)) new → new.heads ≡ old.heads → new.parts ≡ None → new.waiting ≡ 0
    → IsFolded written listed (before_stretch (stretch_ended (finished g)) place (g.before ++ units_in g.pieces)) new
folded_ended written listed g place old new f le t heads parts waiting =
    let us = g.before ++ units_in g.pieces in
    let same : us ++ units_in [] ≡ us = ap (λ (l : Units). us ++ l) none_units ∙ append-nil us in
    let all = ap length (joined-append g.before (units_in g.pieces)) ∙ length-append (joined g.before) (joined (units_in g.pieces)) in
    record {
      made = t.made;
      groups = t.groups;
      pictures = t.pictures;
      heads = subst (λ (l : Units). IsHeads l new.heads) (sym same) (subst (IsHeads us) (sym heads) f.heads);
      before = omega (arith, all, bytes_all g old.parts f.at_hand, f.before, le);
      are = subst AreUnits (sym same) f.are;
      no_end = end_append g.before (units_in g.pieces) f.no_end (end_all g old.parts f.at_hand);
      at_hand = subst (IsAtHand (before_stretch (stretch_ended (finished g)) place us)) (sym parts) refl;
      waiting = waiting;
      next = next_ended (finished g).made.strand (finished g).made refl;
    }
