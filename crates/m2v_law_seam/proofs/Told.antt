-- Each piece is kept or left out, and the numbers of the gaps are those of the pieces that are left out.
use Rattle.std.proofs.Common.{◌≡◌, ℕ, ◌+◌, Bool, true, false, List, [], ◌∷◌, ◌++◌, length, take, drop, Option, Some, None, refl, sym, ap, subst, ◌∙◌, append_assoc, append-nil, arith}
use Rattle.std.specs.Prelude.{nat_eq, if◌then◌else◌}
use Rattle.std.proofs.lemmas.Bool.{eqb-true}
use Rattle.std.proofs.lemmas.List.{take-append-drop, length-append}
use Rattle.m2v_model.specs.Units.{Units, joined}
use Rattle.m2v_model.proofs.CutLaws.{joined-append}
use Rattle.m2v_law_seam.specs.Spans.{units_of, units_in, picture_count, is_b_piece, Dividing, Span, spans_in}
use Rattle.m2v_law_seam.specs.Seams.{frame_pieces, b_first, behind_b, leading, without_leading_pieces}
use Rattle.m2v_law_seam.specs.Mending.{Gap, joins, both_gaps, with_gap, Mending, nothing_yet, strands_of, frames_shown, goes_behind, put_behind, begins_strand, leading_gap, strand_begun, span_gap, left_out, with_span, with_spans, ended_by, strand_ended, with_stretches, gaps_in}
use Rattle.m2v_law_seam.specs.Told.{left_pictures}
use Rattle.m2v_law_seam.specs.Mends.{Steps, steps_in, steps_from, steps_of, left_of, all_kept_pieces, all_left_pieces, all_pieces, AreParts, neither, kept, left, left_bytes, AllTold}

-- ---- kept or left

all_kept_parts : (ps : List (List ℕ)) → AreParts ps [] ps
all_kept_parts [] = neither
all_kept_parts (p ∷ ps) = kept (all_kept_parts ps)

all_left_parts : (ps : List (List ℕ)) → AreParts [] ps ps
all_left_parts [] = neither
all_left_parts (p ∷ ps) = left (all_left_parts ps)

parts_then : {ks ls all ms ns more : List (List ℕ)} → AreParts ks ls all → AreParts ms ns more → AreParts (ks ++ ms) (ls ++ ns) (all ++ more)
parts_then neither b = b
parts_then (kept a) b = kept (parts_then a b)
parts_then (left a) b = left (parts_then a b)

b_step : (p : List ℕ) (ps : List (List ℕ)) (b : Bool) → is_b_piece p ≡ b → b_first ps ++ behind_b ps ≡ ps → b_first (p ∷ ps) ++ behind_b (p ∷ ps) ≡ p ∷ ps
unfolding b_first behind_b
b_step p ps true e h = rw e (ap (λ (l : List (List ℕ)). p ∷ l) h)
b_step p ps false e h = rw e refl

pub b_parts : (ps : List (List ℕ)) → b_first ps ++ behind_b ps ≡ ps
unfolding b_first behind_b
b_parts [] = refl
b_parts (p ∷ ps) = b_step p ps (is_b_piece p) refl (b_parts ps)

leading_parts : (ps : List (List ℕ)) → AreParts (without_leading_pieces ps) (leading ps) ps
leading_parts ps =
    let n = frame_pieces ps in
    let front = take n ps in
    let rest = drop n ps in
    let behind : AreParts ([] ++ behind_b rest) (b_first rest ++ []) (b_first rest ++ behind_b rest) = parts_then (all_left_parts (b_first rest)) (all_kept_parts (behind_b rest)) in
    let own : AreParts (behind_b rest) (b_first rest) rest = subst (λ (l : List (List ℕ)). AreParts (behind_b rest) l rest) (append-nil (b_first rest)) (subst (AreParts (behind_b rest) (b_first rest ++ [])) (b_parts rest) behind) in
    subst (AreParts (without_leading_pieces ps) (leading ps)) (take-append-drop n ps) (parts_then (all_kept_parts front) own)

step_parts : (m : Mending) (s : Span) (g b : Bool) → AreParts (if g then s.pieces else if b then without_leading_pieces s.pieces else []) (if g then [] else if b then leading s.pieces else s.pieces) s.pieces
step_parts m s true b = all_kept_parts s.pieces
step_parts m s false true = leading_parts s.pieces
step_parts m s false false = all_left_parts s.pieces

all_parts : (xs : Steps) → AreParts (all_kept_pieces xs) (all_left_pieces xs) (all_pieces xs)
unfolding all_kept_pieces all_left_pieces all_pieces
all_parts [] = neither
all_parts (x ∷ xs) = parts_then (step_parts x.0 x.1 (goes_behind x.0 x.1) (begins_strand (x.0).first x.1)) (all_parts xs)

-- ---- numbers

left_append : (xs ys : Steps) → all_left_pieces (xs ++ ys) ≡ all_left_pieces xs ++ all_left_pieces ys
unfolding all_left_pieces
left_append [] ys = refl
left_append (x ∷ xs) ys = ap (λ (l : List (List ℕ)). left_of x ++ l) (left_append xs ys) ∙ sym (append_assoc (left_of x) (all_left_pieces xs) (all_left_pieces ys))

-- what gaps have of a number that each has, and that pieces have
module _ (of_gap : Gap → ℕ) (of_pieces : List (List ℕ) → ℕ) (none : of_pieces [] ≡ 0) (append : (ps qs : List (List ℕ)) → of_pieces (ps ++ qs) ≡ of_pieces ps + of_pieces qs) (both : (g h : Gap) → of_gap (both_gaps g h) ≡ of_gap g + of_gap h) (own : (m : Mending) (s : Span) → of_gap (span_gap m s) ≡ of_pieces s.pieces) (first : (k : ℕ) (s : Span) → of_gap (leading_gap k s) ≡ of_pieces (leading s.pieces)) where
  abbrev total : List Gap → ℕ
  total [] = 0
  total (g ∷ gs) = of_gap g + total gs

  joint : (g h : Gap) (j : Bool) → total (if j then both_gaps g h ∷ [] else g ∷ h ∷ []) ≡ of_gap g + of_gap h
  joint g h true = omega (arith, both g h)
  joint g h false = omega arith

  more : (gs : List Gap) (h : Gap) → total (with_gap gs h) ≡ total gs + of_gap h
  unfolding with_gap
  more [] h = omega arith
  more (g ∷ []) h = let j = joint g h (joins g h) in omega (arith, j)
  more (g ∷ k ∷ gs) h = let i = more (k ∷ gs) h in omega (arith, i)

  nothing_left : (ps : List (List ℕ)) → length ps ≡ 0 → of_pieces ps ≡ 0
  nothing_left [] e = none
  nothing_left (p ∷ ps) e = absurd (omega (arith, e))

  leading_more : (gs : List Gap) (k : ℕ) (s : Span) (b : Bool) → nat_eq (length (leading s.pieces)) 0 ≡ b → total (if b then gs else with_gap gs (leading_gap k s)) ≡ total gs + of_pieces (leading s.pieces)
  leading_more gs k s true e = let z = nothing_left (leading s.pieces) (eqb-true (length (leading s.pieces)) 0 e) in omega (arith, z)
  leading_more gs k s false e = let m = more gs (leading_gap k s) in let f = first k s in omega (arith, m, f)

  step_more : (m : Mending) (s : Span) (g b : Bool) → total (if g then put_behind m s else if b then strand_begun m s else left_out m s).gaps ≡ total m.gaps + of_pieces (if g then [] else if b then leading s.pieces else s.pieces)
  step_more m s true b = omega (arith, none)
  step_more m s false true = leading_more m.gaps (frames_shown (strands_of m)) s (nat_eq (length (leading s.pieces)) 0) refl
  step_more m s false false = let x = more m.gaps (span_gap m s) in let o = own m s in omega (arith, x, o)

  span_more : (m : Mending) (s : Span) → total (with_span m s).gaps ≡ total m.gaps + of_pieces (left_of (m, s))
  unfolding with_span
  span_more m s = step_more m s (goes_behind m s) (begins_strand m.first s)

  spans_more : (ss : List Span) (m : Mending) → total (with_spans m ss).gaps ≡ total m.gaps + of_pieces (all_left_pieces (steps_in m ss))
  unfolding with_spans steps_in all_left_pieces
  spans_more [] m = omega (arith, none)
  spans_more (s ∷ ss) m =
      let a = span_more m s in
      let b = spans_more ss (with_span m s) in
      let c = append (left_of (m, s)) (all_left_pieces (steps_in (with_span m s) ss)) in
      omega (arith, a, b, c)

  end_more : (m : Mending) (o : Option (List ℕ)) → total (ended_by o m).gaps ≡ total m.gaps
  end_more m None = refl
  end_more m (Some []) = refl
  end_more m (Some (b ∷ strand)) = refl

  stretches_more : (ss : List (List Span)) (m : Mending) → total (with_stretches m ss).gaps ≡ total m.gaps + of_pieces (all_left_pieces (steps_from m ss))
  unfolding with_stretches steps_from all_left_pieces
  stretches_more [] m = omega (arith, none)
  stretches_more (s ∷ ss) m =
      let z = with_spans m s in
      let a = spans_more s m in
      let b = end_more z z.strand in
      let c = stretches_more ss (strand_ended z) in
      let d = ap of_pieces (left_append (steps_in m s) (steps_from (strand_ended z) ss)) in
      let e = append (all_left_pieces (steps_in m s)) (all_left_pieces (steps_from (strand_ended z) ss)) in
      omega (arith, a, b, c, d, e)

  all_more : (divide : Dividing) (text : List ℕ) → total (gaps_in divide text) ≡ of_pieces (all_left_pieces (steps_of divide text))
  all_more divide text = let x = stretches_more (spans_in divide text) nothing_yet in omega (arith, x)

-- ---- pictures, and bytes

pub none_units : units_in [] ≡ []
unfolding units_in
none_units = refl

pub units_first : (p : List ℕ) (ps : List (List ℕ)) → units_in (p ∷ ps) ≡ units_of p ++ units_in ps
unfolding units_in
units_first p ps = refl

pub units_one : (p : List ℕ) → units_in (p ∷ []) ≡ units_of p
unfolding units_in
units_one p = append-nil (units_of p)

pub units_append : (ps qs : List (List ℕ)) → units_in (ps ++ qs) ≡ units_in ps ++ units_in qs
unfolding units_in
units_append [] qs = refl
units_append (p ∷ ps) qs = ap (λ (l : Units). units_of p ++ l) (units_append ps qs) ∙ sym (append_assoc (units_of p) (units_in ps) (units_in qs))

pub count_append : (us vs : Units) → picture_count (us ++ vs) ≡ picture_count us + picture_count vs
unfolding picture_count
count_append [] vs = omega arith
count_append (u ∷ us) vs = let i = count_append us vs in omega (arith, i)

abbrev pub pictures_of_pieces : List (List ℕ) → ℕ
pictures_of_pieces ps = picture_count (units_in ps)

abbrev bytes_of_pieces : List (List ℕ) → ℕ
bytes_of_pieces ps = length (joined ps)

pub pictures_none : pictures_of_pieces [] ≡ 0
unfolding units_in picture_count
pictures_none = refl

pub pictures_append : (ps qs : List (List ℕ)) → pictures_of_pieces (ps ++ qs) ≡ pictures_of_pieces ps + pictures_of_pieces qs
pictures_append ps qs = ap picture_count (units_append ps qs) ∙ count_append (units_in ps) (units_in qs)

bytes_append : (ps qs : List (List ℕ)) → bytes_of_pieces (ps ++ qs) ≡ bytes_of_pieces ps + bytes_of_pieces qs
bytes_append ps qs = ap length (joined-append ps qs) ∙ length-append (joined ps) (joined qs)

pictures_total : (gs : List Gap) → left_pictures gs ≡ total (λ g. g.pictures) pictures_of_pieces pictures_none pictures_append (λ g h. refl) (λ m s. refl) (λ k s. refl) gs
unfolding left_pictures
pictures_total [] = refl
pictures_total (g ∷ gs) = let i = pictures_total gs in omega (arith, i)

bytes_total : (gs : List Gap) → left_bytes gs ≡ total (λ g. g.bytes) bytes_of_pieces refl bytes_append (λ g h. refl) (λ m s. refl) (λ k s. refl) gs
unfolding left_bytes
bytes_total [] = refl
bytes_total (g ∷ gs) = let i = bytes_total gs in omega (arith, i)

pub all_told : (divide : Dividing) (text : List ℕ) → AllTold divide text
all_told divide text = record {
  parts = all_parts (steps_of divide text);
  pictures = pictures_total (gaps_in divide text) ∙ all_more (λ g. g.pictures) pictures_of_pieces pictures_none pictures_append (λ g h. refl) (λ m s. refl) (λ k s. refl) divide text;
  bytes = bytes_total (gaps_in divide text) ∙ all_more (λ g. g.bytes) bytes_of_pieces refl bytes_append (λ g h. refl) (λ m s. refl) (λ k s. refl) divide text;
}
