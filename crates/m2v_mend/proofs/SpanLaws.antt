-- A span at hand with one more piece.
use Rattle.std.proofs.Common.{◌≡◌, ℕ, ◌+◌, ◌≤◌, Bool, true, false, List, [], ◌∷◌, ◌++◌, length, map, Option, refl, sym, ap, subst, ◌∙◌, append-nil, arith}
use Rattle.std.specs.Prelude.{nat_le, not, ◌&&◌, ◌||◌, is_none, All, if◌then◌else◌}
use Rattle.std.specs.Option.{option_map}
use Rattle.std.proofs.lemmas.Bool.{lt-leb, leb-false}
use Rattle.std.proofs.lemmas.List.{length-append, map-append}
use Rattle.std.proofs.lemmas.List.Elements.{All-nil, All-cons, All-push}
use Rattle.std.proofs.Math.Bool.{and-false, and-true, and_assoc, not-not}
use Rattle.m2v_model.specs.Units.{Units, joined}
use Rattle.m2v_model.specs.Pieces.{limit, trimmed}
use Rattle.m2v_model.proofs.CutLaws.{joined-append}
use Rattle.m2v_decode.specs.Decoding.{whole_of}
use Rattle.m2v_decode.proofs.EndLaws.{whole_length}
use Rattle.m2v_law_group.specs.Groups.{has_sequence}
use Rattle.m2v_law_group.proofs.Lists.{or_parts, and_parts}
use Rattle.m2v_law_seam.specs.Spans.{units_of, units_in, picture_count, is_entry, end_of_span, Span}
use Rattle.m2v_law_seam.specs.Seams.{has_own_head, bytes_or_none}
use Rattle.m2v_law_seam.specs.Strands.{all_fit, most_span, is_short}
use Rattle.m2v_law_seam.specs.Faults.{begins_entry}
use Rattle.m2v_law_seam.proofs.Told.{pictures_append, units_one}
use Rattle.m2v_mend.specs.declared.member.Member.{Member}
use Rattle.m2v_mend.specs.declared.parts.SpanParts.{SpanParts}
use Rattle.m2v_mend.specs.Strand.{wholes_of, AreInTurn}
use Rattle.m2v_mend.specs.Kept.{head_kept, kept_of, pieces_of, bodies}
use Rattle.m2v_mend.specs.Members.{IsMember, HasZeros, IsSpan}
use Rattle.m2v_mend.proofs.Parting.{bodies_append, bodies_length}

-- ---- how many bytes are kept

members_some : (ms : List Member) → 1 ≤ length ms → 1 ≤ length (bodies ms)
members_some ms le = omega (arith, le, bodies_length ms)

own_more : (ps : List (List ℕ)) (w : List ℕ) → 1 ≤ length ps → has_own_head (ps ++ w ∷ []) ≡ has_own_head ps
own_more [] w le = absurd (omega (arith, le))
own_more (p ∷ ps) w le = refl

entry_more : (ps : List (List ℕ)) (w : List ℕ) → 1 ≤ length ps → begins_entry (ps ++ w ∷ []) ≡ begins_entry ps
entry_more [] w le = absurd (omega (arith, le))
entry_more (p ∷ ps) w le = refl

joined_more : (ps : List (List ℕ)) (w : List ℕ) → length (joined (ps ++ w ∷ [])) ≡ length (joined ps) + length w
joined_more ps w =
    ap length (joined-append ps (w ∷ [])) ∙ length-append (joined ps) (w ++ []) ∙ ap (λ (l : List ℕ). length (joined ps) + length l) (append-nil w)

count_more : (ps : List (List ℕ)) (w : List ℕ) → picture_count (units_in (ps ++ w ∷ [])) ≡ picture_count (units_in ps) + picture_count (units_of w)
count_more ps w = pictures_append ps (w ∷ []) ∙ ap (λ (l : Units). picture_count (units_in ps) + picture_count l) (units_one w)

pub kept_more : (head : Option (List ℕ)) (ps : List (List ℕ)) (w : List ℕ) → 1 ≤ length ps → kept_of head (ps ++ w ∷ []) ≡ kept_of head ps + length (trimmed w)
kept_more head ps w le =
    let own : head_kept head (ps ++ w ∷ []) ≡ head_kept head ps = ap (λ (b : Bool). if b then 0 else length (bytes_or_none head)) (own_more ps w le) in
    let all : length (joined (map trimmed (ps ++ w ∷ []))) ≡ length (joined (map trimmed ps)) + length (trimmed w) = ap (λ (l : List (List ℕ)). length (joined l)) (map-append trimmed ps (w ∷ [])) ∙ joined_more (map trimmed ps) (trimmed w) in
    omega (arith, own, all)

pub kept_with : (head : Option (List ℕ)) (ms : List Member) (m : Member) → 1 ≤ length ms → kept_of head (bodies (ms ++ m ∷ [])) ≡ kept_of head (bodies ms) + length (trimmed (whole_of m.piece))
kept_with head ms m le = ap (kept_of head) (bodies_append ms (m ∷ [])) ∙ kept_more head (bodies ms) (whole_of m.piece) (members_some ms le)

pub kept_on : (head : Option (List ℕ)) (ms new : List Member) (m : Member) (old kept : ℕ) → 1 ≤ length ms → new ≡ ms ++ m ∷ [] → old ≡ kept_of head (bodies ms) → kept ≡ old + length (trimmed (whole_of m.piece))
    → kept ≡ kept_of head (bodies new)
kept_on head ms new m old kept some items is more =
    more
    ∙ ap (λ (n : ℕ). n + length (trimmed (whole_of m.piece))) is
    ∙ sym (kept_with head ms m some)
    ∙ ap (λ (l : List Member). kept_of head (bodies l)) (sym items)

pub some_more : (ms new : List Member) (m : Member) → new ≡ ms ++ m ∷ [] → 1 ≤ length new
some_more ms new m items = omega (arith, ap length items, length-append ms (m ∷ []))

pub members_on : (ms new : List Member) (m : Member) (long : Bool) → All IsMember ms → IsMember m → (long ≡ true → new ≡ []) → (long ≡ false → new ≡ ms ++ m ∷ []) → All IsMember new
members_on ms new m true all is none more = subst (All IsMember) (sym (none refl)) (All-nil IsMember)
members_on ms new m false all is none more = subst (All IsMember) (sym (more refl)) (All-push IsMember ms m all is)

-- of a single piece
pub kept_one : (head : Option (List ℕ)) (m : Member) (own : Bool) (of_head of_piece kept : ℕ) → own ≡ has_sequence (units_of (whole_of m.piece))
    → of_head ≡ (if own then 0 else length (bytes_or_none head)) → of_piece ≡ length (trimmed (whole_of m.piece)) → kept ≡ of_head + of_piece
    → kept ≡ kept_of head (bodies (m ∷ []))
kept_one head m own of_head of_piece kept e h p k =
    let same : of_head ≡ head_kept head (whole_of m.piece ∷ []) = h ∙ ap (λ (b : Bool). if b then 0 else length (bytes_or_none head)) e in
    let all : length (joined (trimmed (whole_of m.piece) ∷ [])) ≡ length (trimmed (whole_of m.piece)) = ap length (append-nil (trimmed (whole_of m.piece))) in
    omega (arith, same, all, p, k)

-- ---- limits

pub fit_append : (ps qs : List (List ℕ)) → all_fit (ps ++ qs) ≡ (all_fit ps && all_fit qs)
unfolding all_fit
fit_append [] qs = refl
fit_append (p ∷ ps) qs = ap (λ (b : Bool). is_none (limit 0 0 p) && b) (fit_append ps qs) ∙ sym (and_assoc (is_none (limit 0 0 p)) (all_fit ps) (all_fit qs))

pub fit_one : (p : List ℕ) → all_fit (p ∷ []) ≡ is_none (limit 0 0 p)
unfolding all_fit
fit_one p = and-true (is_none (limit 0 0 p))

fit_more : (ps : List (List ℕ)) (w : List ℕ) → all_fit (ps ++ w ∷ []) ≡ (all_fit ps && is_none (limit 0 0 w))
fit_more ps w = fit_append ps (w ∷ []) ∙ ap (λ (b : Bool). all_fit ps && b) (fit_one w)

-- a span is short by what is kept of it
short_is : (s : Span) (kept : ℕ) → kept ≡ kept_of s.head s.pieces → is_short s ≡ (all_fit s.pieces && nat_le kept most_span)
short_is s kept e = ap (λ (n : ℕ). all_fit s.pieces && nat_le n most_span) (sym e)

abbrev with_piece : Span → List ℕ → Span
with_piece s w = record s { pieces = s.pieces ++ w ∷ [] }

first_long : (a b : Bool) → (false || (not a || not b)) ≡ not ((a && true) && b)
first_long true true = refl
first_long true false = refl
first_long false b = refl

-- of a single piece
pub one_long : (s : Span) (w : List ℕ) (kept : ℕ) → s.pieces ≡ w ∷ [] → kept ≡ kept_of s.head s.pieces
    → (false || (not (is_none (limit 0 0 w)) || not (nat_le kept most_span))) ≡ not (is_short s)
unfolding all_fit
one_long s w kept one e =
    first_long (is_none (limit 0 0 w)) (nat_le kept most_span)
    ∙ sym (ap not (short_is s kept e ∙ ap (λ (l : List (List ℕ)). all_fit l && nat_le kept most_span) one))

short_less : (ps : List (List ℕ)) (w : List ℕ) (kept more : ℕ) (b : Bool) → all_fit ps ≡ b → kept ≤ more → (all_fit ps && nat_le kept most_span) ≡ false → (all_fit (ps ++ w ∷ []) && nat_le more most_span) ≡ false
short_less ps w kept more true e le off =
    let past : nat_le kept most_span ≡ false = sym (ap (λ (b : Bool). b && nat_le kept most_span) e) ∙ off in
    let over : nat_le more most_span ≡ false = lt-leb more most_span (omega (arith, le, leb-false kept most_span past)) in
    ap (λ (b : Bool). all_fit (ps ++ w ∷ []) && b) over ∙ and-false (all_fit (ps ++ w ∷ []))
short_less ps w kept more false e le off =
    ap (λ (b : Bool). b && nat_le more most_span) (fit_more ps w ∙ ap (λ (b : Bool). b && is_none (limit 0 0 w)) e)

-- a span that is long stays so
long_stays : (s : Span) (w : List ℕ) → 1 ≤ length s.pieces → is_short s ≡ false → is_short (with_piece s w) ≡ false
long_stays s w some off =
    short_less s.pieces w (kept_of s.head s.pieces) (kept_of s.head (s.pieces ++ w ∷ [])) (all_fit s.pieces) refl (omega (arith, kept_more s.head s.pieces w some)) off

-- one that isn't becomes so by the piece, or by what is kept then
short_on : (s : Span) (w : List ℕ) (kept : ℕ) → kept ≡ kept_of s.head (s.pieces ++ w ∷ []) → is_short s ≡ true
    → is_short (with_piece s w) ≡ (is_none (limit 0 0 w) && nat_le kept most_span)
short_on s w kept e on =
    let fit : all_fit s.pieces ≡ true = (and_parts (all_fit s.pieces) _ on).0 in
    short_is (with_piece s w) kept e ∙ ap (λ (b : Bool). b && nat_le kept most_span) (fit_more s.pieces w ∙ ap (λ (b : Bool). b && is_none (limit 0 0 w)) fit)

not_and : (a b : Bool) → (not a || not b) ≡ not (a && b)
not_and true b = refl
not_and false b = refl

-- ---- pieces in turn

turn_more : (at : ℕ) (ms : List Member) (m : Member) → AreInTurn at (pieces_of ms) → m.piece.place ≡ at + length (joined (wholes_of (pieces_of ms))) → AreInTurn at (pieces_of (ms ++ m ∷ []))
turn_more at [] m are e = (e ∙ none, tt)
  where
    none : at + length (joined []) ≡ at
    none = omega arith
turn_more at (n ∷ ms) m are e =
    let all = length-append (whole_of n.piece) (joined (wholes_of (pieces_of ms))) in
    (are.0, turn_more (at + length (whole_of n.piece)) ms m are.1 (omega (arith, e, all)))

-- ---- a span of one piece

pub span_one : (s : Span) (x : SpanParts) (m : Member) → IsMember m → HasZeros m → s.pieces ≡ whole_of m.piece ∷ [] → x.members.items ≡ m ∷ []
    → x.place ≡ m.piece.place → s.place ≡ m.piece.place → option_map (λ v. v.items) x.head ≡ s.head → x.bytes ≡ m.piece.length → x.pictures ≡ m.info.pictures
    → x.entry ≡ is_entry (whole_of m.piece) → x.kept ≡ kept_of (option_map (λ v. v.items) x.head) (bodies (m ∷ []))
    → x.long ≡ (false || (not (is_none (limit 0 0 (whole_of m.piece))) || not (nat_le x.kept most_span)))
    → IsSpan s x
unfolding units_in
span_one s x m is zeros one items at place head bytes pictures entry kept longs =
    let w = whole_of m.piece in
    let wholes : wholes_of (pieces_of x.members.items) ≡ s.pieces = ap (λ (l : List Member). wholes_of (pieces_of l)) items ∙ sym one in
    let count : length (joined (w ∷ [])) ≡ m.piece.length = ap length (append-nil w) ∙ whole_length m.piece is.sound in
    let same : x.kept ≡ kept_of s.head s.pieces = kept ∙ ap (λ (h : Option (List ℕ)). kept_of h (w ∷ [])) head ∙ ap (kept_of s.head) (sym one) in
    record {
      place = at ∙ sym place;
      head = head;
      bytes = bytes ∙ sym (ap (λ (l : List (List ℕ)). length (joined l)) one ∙ count);
      pictures = pictures ∙ is.info.pictures ∙ ap picture_count (sym (append-nil (units_of w))) ∙ ap (λ (l : List (List ℕ)). picture_count (units_in l)) (sym one);
      entry = entry ∙ ap begins_entry (sym one);
      long = longs ∙ one_long s w x.kept one same;
      pieces = λ e. wholes;
      turn = λ e. subst (λ (l : List Member). AreInTurn s.place (pieces_of l)) (sym items) (sym place, tt);
      zeros = λ e. subst (All HasZeros) (sym items) (All-cons HasZeros m [] zeros (All-nil HasZeros));
    }

-- ---- a span with one more piece

-- what a push has done
pub record IsPushed (old new : SpanParts) (m : Member) (kept : ℕ) (long : Bool) : Type 0 where
  pub place : new.place ≡ old.place
  pub head : new.head ≡ old.head
  pub entry : new.entry ≡ old.entry
  pub bytes : new.bytes ≡ old.bytes + m.piece.length
  pub pictures : new.pictures ≡ old.pictures + m.info.pictures
  pub kept_is : kept ≡ old.kept + length (trimmed (whole_of m.piece))
  pub longs : new.long ≡ long
  pub long_is : long ≡ (old.long || (not (is_none (limit 0 0 (whole_of m.piece))) || not (nat_le kept most_span)))
  pub members : long ≡ false → new.members.items ≡ old.members.items ++ m ∷ []

module _ (s : Span) (old new : SpanParts) (m : Member) (kept : ℕ) (long : Bool) (is : IsMember m) (span : IsSpan s old) (some : 1 ≤ length s.pieces) (p : IsPushed old new m kept long) where
  abbrev w : List ℕ
  w = whole_of m.piece

  was_short : long ≡ false → old.long ≡ false
  was_short off = (or_parts old.long _ (sym p.long_is ∙ off)).0

  kept_before : old.long ≡ false → old.kept ≡ kept_of s.head s.pieces
  kept_before off =
      old.kept_is off
      ∙ ap (λ (h : Option (List ℕ)). kept_of h (bodies old.members.items)) span.head
      ∙ ap (kept_of s.head) (span.pieces off)

  long_by : (b : Bool) → old.long ≡ b → long ≡ not (is_short (with_piece s w))
  long_by true e =
      let off : is_short s ≡ false = sym (not-not (is_short s)) ∙ ap not (sym span.long ∙ e) in
      p.long_is ∙ ap (λ (b : Bool). b || (not (is_none (limit 0 0 w)) || not (nat_le kept most_span))) e ∙ sym (ap not (long_stays s w some off))
  long_by false e =
      let on : is_short s ≡ true = sym (not-not (is_short s)) ∙ ap not (sym span.long ∙ e) in
      let same : kept ≡ kept_of s.head (s.pieces ++ w ∷ []) = p.kept_is ∙ ap (λ (n : ℕ). n + length (trimmed w)) (kept_before e) ∙ sym (kept_more s.head s.pieces w some) in
      p.long_is
      ∙ ap (λ (b : Bool). b || (not (is_none (limit 0 0 w)) || not (nat_le kept most_span))) e
      ∙ not_and (is_none (limit 0 0 w)) (nat_le kept most_span)
      ∙ sym (ap not (short_on s w kept same on))

  pub pushed : HasZeros m → m.piece.place ≡ end_of_span s → IsSpan (with_piece s w) new
  pushed zeros at =
      let short : new.long ≡ false → long ≡ false = λ e. sym p.longs ∙ e in
      let behind : old.long ≡ false → m.piece.place ≡ s.place + length (joined (wholes_of (pieces_of old.members.items))) = λ e. at ∙ ap (λ (l : List (List ℕ)). s.place + length (joined l)) (sym (span.pieces e)) in
      record {
        place = p.place ∙ span.place;
        head = ap (option_map (λ v. v.items)) p.head ∙ span.head;
        bytes = omega (arith, p.bytes, span.bytes, joined_more s.pieces w, whole_length m.piece is.sound);
        pictures = omega (arith, p.pictures, span.pictures, is.info.pictures, count_more s.pieces w);
        entry = p.entry ∙ span.entry ∙ sym (entry_more s.pieces w some);
        long = p.longs ∙ long_by old.long refl;
        pieces = λ e.
            let off = was_short (short e) in
            ap (λ (l : List Member). wholes_of (pieces_of l)) (p.members (short e)) ∙ bodies_append old.members.items (m ∷ []) ∙ ap (λ (l : List (List ℕ)). l ++ w ∷ []) (span.pieces off);
        turn = λ e.
            let off = was_short (short e) in
            subst (λ (l : List Member). AreInTurn s.place (pieces_of l)) (sym (p.members (short e))) (turn_more s.place old.members.items m (span.turn off) (behind off));
        zeros = λ e.
            let off = was_short (short e) in
            subst (All HasZeros) (sym (p.members (short e))) (All-push HasZeros old.members.items m (span.zeros off) zeros);
      }
