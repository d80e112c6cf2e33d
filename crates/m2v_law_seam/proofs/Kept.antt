-- Span by span, the strands have the pictures of the pieces that are kept.
use Rattle.std.proofs.Common.{◌≡◌, ℕ, ◌+◌, ◌≤◌, Bool, true, false, List, [], ◌∷◌, ◌++◌, length, Option, Some, None, refl, sym, ap, subst, ◌∙◌, append_assoc, append-nil, arith}
use Rattle.std.specs.Prelude.{not, is_none, ◌&&◌, ◌||◌, if◌then◌else◌}
use Rattle.m2v_model.specs.Units.{Units, joined, AreUnits}
use Rattle.m2v_law_group.specs.Groups.{from_sequence}
use Rattle.m2v_law_group.proofs.Lists.{and_parts}
use Rattle.m2v_law_seam.specs.Spans.{units_of, units_in, picture_count, is_entry, is_anchor_piece, is_second, Span, spans, steps, spans_in}
use Rattle.m2v_law_seam.specs.Seams.{lowered, text_behind, without_leading_pieces, opened}
use Rattle.m2v_law_seam.specs.Strands.{is_short, reads, is_strand}
use Rattle.m2v_law_seam.specs.Faults.{has_head, strand_bytes}
use Rattle.m2v_law_seam.specs.Mending.{Mending, nothing_yet, strand_of, strands_of, low_of_span, strand_with, goes_behind, put_behind, begins_strand, strand_begun, left_out, with_span, with_spans, ended_by, strand_ended, with_stretches}
use Rattle.m2v_law_seam.specs.Mends.{Steps, steps_in, steps_from, kept_of, all_kept_pieces, PicturesKept}
use Rattle.m2v_law_seam.proofs.Fold.{AllKept, IsKept, span_kept, spans_kept, end_kept, begins_parts}
use Rattle.m2v_law_seam.proofs.Pieced.{flat, all_units, units_joined}
use Rattle.m2v_law_seam.proofs.Told.{units_one, pictures_of_pieces, pictures_none, pictures_append}
use Rattle.m2v_law_seam.proofs.Tame.{Tame, AllTame, AllStretches, IsByEntries, by_test, all_tame}
use Rattle.m2v_law_seam.proofs.Pictures.{pictures_are, opening_pictures, behind_pictures, opened_pictures}

-- ---- the pictures of strands

total_one : (s : List ℕ) → pictures_of_pieces (s ∷ []) ≡ picture_count (units_of s)
total_one s = ap picture_count (units_one s)

-- a strand that reads is one
strand_one : (t : List ℕ) → reads t ≡ true → pictures_of_pieces (strand_of (Some t)) ≡ picture_count (units_of t)
strand_one [] h = absurd cc
strand_one (b ∷ t) h = total_one (b ∷ t)

last_reads : (ss : List (List ℕ)) (r : List ℕ) (m : Mending) → AllKept m.first (ss ++ r ∷ []) → reads r ≡ true
last_reads [] r m h = h.0
last_reads (s ∷ ss) r m h = last_reads ss r m h.2

-- ---- a span behind

first_some : (x : Units) (q : Units) → 1 ≤ length x → (v : List ℕ) × (vs : Units) × (x ++ q ≡ v ∷ vs)
first_some [] q le = absurd (omega (arith, le))
first_some (v ∷ x) q le = (v, x ++ q, refl)

text_pictures : (m : Mending) (s : Span) (o : Option (List ℕ)) → m.strand ≡ o → not (is_none o) ≡ true → IsKept m → Tame s → reads (strand_with m s) ≡ true → picture_count (units_of (strand_with m s)) ≡ pictures_of_pieces (strand_of o) + picture_count (units_in s.pieces)
unfolding text_behind
text_pictures m s None e h k t read = absurd cc
text_pictures m s (Some []) e h k t read =
    let low = low_of_span m s in
    let each = all_units (t.x ∷ t.q) t.are in
    let units : units_in s.pieces ≡ flat (t.x ∷ t.q) = ap units_in t.pieces ∙ units_joined (t.x ∷ t.q) each in
    let bytes : strand_with m s ≡ joined (lowered low (from_sequence (flat (t.x ∷ t.q)))) =
    ap (λ (x : Option (List ℕ)). strand_bytes x ++ text_behind (strand_bytes x) low s.pieces) e ∙ ap (λ (l : Units). joined (lowered low (from_sequence l))) units in
    let p = opening_pictures t.x (flat t.q) low t.are t.quiet t.others (ap reads (sym bytes) ∙ read) in
    let c = pictures_are (joined (lowered low (from_sequence (flat (t.x ∷ t.q))))) (picture_count (flat (t.x ∷ t.q))) p in
    let z = pictures_none in
    let d = ap picture_count units in
    let b = ap (λ (l : List ℕ). picture_count (units_of l)) bytes in
    omega (arith, b, c, d, z)
text_pictures m s (Some (a ∷ r)) e h k t read =
    let low = low_of_span m s in
    let each = all_units (t.x ∷ t.q) t.are in
    let units : units_in s.pieces ≡ flat (t.x ∷ t.q) = ap units_in t.pieces ∙ units_joined (t.x ∷ t.q) each in
    let f = first_some t.x (flat t.q) t.some in
    let all : units_in s.pieces ≡ f.0 ∷ f.1 = units ∙ f.2 in
    let bytes : strand_with m s ≡ (a ∷ r) ++ joined (lowered low (f.0 ∷ f.1)) =
    ap (λ (x : Option (List ℕ)). strand_bytes x ++ text_behind (strand_bytes x) low s.pieces) e ∙ ap (λ (l : Units). (a ∷ r) ++ joined (lowered low l)) all in
    let own : reads (a ∷ r) ≡ true = last_reads m.done (a ∷ r) m (subst (λ (x : Option (List ℕ)). AllKept m.first (m.done ++ strand_of x)) e k.kept) in
    let p = behind_pictures (a ∷ r) f.0 f.1 low own (subst AreUnits f.2 t.are) in
    let c = pictures_are ((a ∷ r) ++ joined (lowered low (f.0 ∷ f.1))) (picture_count (units_of (a ∷ r)) + picture_count (f.0 ∷ f.1)) p in
    let d = ap picture_count all in
    let b = ap (λ (l : List ℕ). picture_count (units_of l)) bytes in
    let o = total_one (a ∷ r) in
    omega (arith, b, c, d, o)

behind_total : (m : Mending) (s : Span) → IsKept m → Tame s → goes_behind m s ≡ true → pictures_of_pieces (strands_of (put_behind m s)) ≡ pictures_of_pieces (strands_of m) + picture_count (units_in s.pieces)
behind_total m s k t h =
    let a = and_parts (not (is_none m.strand)) _ h in
    let b = and_parts (is_short s) (is_strand m.opening m.first (strand_with m s)) a.1 in
    let read = (and_parts (reads (strand_with m s)) _ b.1).0 in
    let x = text_pictures m s m.strand refl a.0 k t read in
    let y = strand_one (strand_with m s) read in
    let c = pictures_append m.done (strand_of (Some (strand_with m s))) in
    let d = pictures_append m.done (strand_of m.strand) in
    omega (arith, x, y, c, d)

-- ---- a span with which a strand begins, and one that is left out

begun_total : (m : Mending) (s : Span) → Tame s → begins_strand m.first s ≡ true → pictures_of_pieces (strands_of (strand_begun m s)) ≡ pictures_of_pieces (strands_of m) + picture_count (units_in (without_leading_pieces s.pieces))
begun_total m s t h =
    let read = (and_parts (reads (opened s)) _ (begins_parts m.first s h)).0 in
    let there = (and_parts (has_head s) _ h).0 in
    let p = opened_pictures s t there in
    let c = pictures_are (opened s) (picture_count (units_in (without_leading_pieces s.pieces))) p in
    let y = strand_one (opened s) read in
    let d = pictures_append (strands_of m) (strand_of (Some (opened s))) in
    omega (arith, c, y, d)

over_total : (m : Mending) → pictures_of_pieces (strands_of m ++ []) ≡ pictures_of_pieces (strands_of m)
over_total m = ap pictures_of_pieces (append-nil (strands_of m))

step_total : (m : Mending) (s : Span) (g b : Bool) → goes_behind m s ≡ g → begins_strand m.first s ≡ b → IsKept m → Tame s
    → pictures_of_pieces (strands_of (if g then put_behind m s else if b then strand_begun m s else left_out m s)) ≡ pictures_of_pieces (strands_of m) + picture_count (units_in (if g then s.pieces else if b then without_leading_pieces s.pieces else []))
step_total m s true b eg eb k t = behind_total m s k t eg
step_total m s false true eg eb k t = begun_total m s t eb
step_total m s false false eg eb k t = let a = over_total m in let z = pictures_none in omega (arith, a, z)

span_total : (m : Mending) (s : Span) → IsKept m → Tame s → pictures_of_pieces (strands_of (with_span m s)) ≡ pictures_of_pieces (strands_of m) + picture_count (units_in (kept_of (m, s)))
unfolding with_span
span_total m s k t = step_total m s (goes_behind m s) (begins_strand m.first s) refl refl k t

-- ---- all spans

spans_total : (ss : List Span) (m : Mending) → IsKept m → AllTame ss → pictures_of_pieces (strands_of (with_spans m ss)) ≡ pictures_of_pieces (strands_of m) + pictures_of_pieces (all_kept_pieces (steps_in m ss))
unfolding with_spans steps_in all_kept_pieces
spans_total [] m k t = let z = pictures_none in omega (arith, z)
spans_total (s ∷ ss) m k t =
    let a = span_total m s k t.0 in
    let b = spans_total ss (with_span m s) (span_kept m s k) t.1 in
    let c = pictures_append (kept_of (m, s)) (all_kept_pieces (steps_in (with_span m s) ss)) in
    omega (arith, a, b, c)

end_total : (m : Mending) (o : Option (List ℕ)) → m.strand ≡ o → pictures_of_pieces (strands_of (ended_by o m)) ≡ pictures_of_pieces (strands_of m)
end_total m None e = refl
end_total m (Some []) e = refl
end_total m (Some (b ∷ r)) e = over_total m

-- between two stretches no strand with a byte is under way
end_over : (m : Mending) (o : Option (List ℕ)) → m.strand ≡ o → strand_of (ended_by o m).strand ≡ []
end_over m None e = ap strand_of e
end_over m (Some []) e = ap strand_of e
end_over m (Some (b ∷ r)) e = refl

kept_append : (xs ys : Steps) → all_kept_pieces (xs ++ ys) ≡ all_kept_pieces xs ++ all_kept_pieces ys
unfolding all_kept_pieces
kept_append [] ys = refl
kept_append (x ∷ xs) ys = ap (λ (l : List (List ℕ)). kept_of x ++ l) (kept_append xs ys) ∙ sym (append_assoc (kept_of x) (all_kept_pieces xs) (all_kept_pieces ys))

over_done : (m : Mending) → strand_of m.strand ≡ [] → pictures_of_pieces (strands_of m) ≡ pictures_of_pieces m.done
over_done m e = ap (λ (l : List (List ℕ)). pictures_of_pieces (m.done ++ l)) e ∙ ap pictures_of_pieces (append-nil m.done)

stretches_total : (more : List (List Span)) (m : Mending) → IsKept m → AllStretches more → strand_of m.strand ≡ [] → pictures_of_pieces (with_stretches m more).done ≡ pictures_of_pieces (strands_of m) + pictures_of_pieces (all_kept_pieces (steps_from m more))
unfolding with_stretches steps_from all_kept_pieces
stretches_total [] m k t o = let z = pictures_none in let d = over_done m o in omega (arith, z, d)
stretches_total (ss ∷ more) m k t o =
    let z = with_spans m ss in
    let kz = spans_kept ss m k in
    let a = spans_total ss m k t.0 in
    let b = end_total z z.strand refl in
    let c = stretches_total more (strand_ended z) (end_kept z z.strand refl kz) t.1 (end_over z z.strand refl) in
    let d = ap pictures_of_pieces (kept_append (steps_in m ss) (steps_from (strand_ended z) more)) in
    let e = pictures_append (all_kept_pieces (steps_in m ss)) (all_kept_pieces (steps_from (strand_ended z) more)) in
    omega (arith, a, b, c, d, e)

kept_by : (t : ℕ → List ℕ → Bool) → IsByEntries t → (text : List ℕ) → PicturesKept (by_test t) text
kept_by t by text =
    let k : IsKept nothing_yet = record { kept = tt; ruled = tt; opens = λ e. refl; none = λ e. refl } in
    let x = stretches_total (spans_in (by_test t) text) nothing_yet k (all_tame t by text) refl in
    let z = pictures_none in
    omega (arith, x, z)

pub spans_kept_pictures : (text : List ℕ) → PicturesKept spans text
spans_kept_pictures text = kept_by (λ waiting p. is_entry p) (λ w p on. on) text

pub steps_kept_pictures : (text : List ℕ) → PicturesKept steps text
steps_kept_pictures text = kept_by (λ waiting p. is_entry p || (is_anchor_piece p && not (is_second waiting p))) (λ w p on. rw on refl) text
