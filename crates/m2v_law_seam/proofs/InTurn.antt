-- Gaps stand in the input's order, and none reaches into another.
use Rattle.std.proofs.Common.{◌≡◌, ℕ, ◌+◌, ◌≤◌, Bool, true, false, List, [], ◌∷◌, ◌++◌, length, map, take, drop, Option, Some, None, refl, sym, ap, subst, ◌∙◌, append_assoc, append-nil, arith}
use Rattle.std.specs.Prelude.{nat_eq, not, is_none, if◌then◌else◌}
use Rattle.std.proofs.lemmas.Bool.{eqb-true}
use Rattle.std.proofs.lemmas.List.{length-append, take-append-drop}
use Rattle.m2v_model.specs.declared.phase.Phase.TheVariants.{Headers}
use Rattle.m2v_model.specs.Units.{Units, cut, joined, AreUnits}
use Rattle.m2v_model.specs.Streams.{value_of}
use Rattle.m2v_model.specs.Pieces.{is_end, grouped}
use Rattle.m2v_model.proofs.CutLaws.{cut_cuts, joined-append, are_before, are_behind}
use Rattle.m2v_model.proofs.ShiftLaws.{NoEnds}
use Rattle.m2v_law_group.proofs.Lists.{and_parts}
use Rattle.m2v_law_seam.specs.Spans.{units_in, Dividing, Span, placed, Stretch, stretches_from, stretch_pieces, stretch_spans}
use Rattle.m2v_law_seam.specs.Seams.{frame_pieces, b_first, behind_b, leading}
use Rattle.m2v_law_seam.specs.Mending.{Gap, joins, both_gaps, with_gap, Mending, nothing_yet, strands_of, frames_shown, goes_behind, put_behind, begins_strand, leading_gap, strand_begun, span_gap, left_out, with_span, with_spans, ended_by, strand_ended, with_stretches, gaps_in}
use Rattle.m2v_law_seam.specs.Mends.{InOrder, AllThere}
use Rattle.m2v_law_seam.proofs.Pieced.{flat, pieced}
use Rattle.m2v_law_seam.proofs.Told.{b_parts}
use Rattle.m2v_law_seam.proofs.There.{all_of, KeepsAll, more_goes, pieces_there}

-- ---- gaps between two bytes

-- in order, from a byte on, and up to another one
abbrev UpTo : ℕ → List Gap → ℕ → Type 0
UpTo at [] end = at ≤ end
UpTo at (g ∷ gs) end = (at ≤ g.from) × UpTo (g.from + g.bytes) gs end

up_order : (at : ℕ) (gs : List Gap) (end : ℕ) → UpTo at gs end → InOrder at gs
up_order at [] end h = tt
up_order at (g ∷ gs) end h = (h.0, up_order (g.from + g.bytes) gs end h.1)

up_more : (at : ℕ) (gs : List Gap) (end more : ℕ) → end ≤ more → UpTo at gs end → UpTo at gs more
up_more at [] end more le h = omega (arith, le, h)
up_more at (g ∷ gs) end more le h = (h.0, up_more (g.from + g.bytes) gs end more le h.1)

up_two : (at : ℕ) (g h : Gap) (end more : ℕ) (j : Bool) → joins g h ≡ j → at ≤ g.from → g.from + g.bytes ≤ end → end ≤ h.from → h.from + h.bytes ≤ more → UpTo at (if j then both_gaps g h ∷ [] else g ∷ h ∷ []) more
up_two at g h end more true e a b c d =
    let x = and_parts (not (is_none g.fault)) _ e in
    let y = and_parts (not (is_none h.fault)) (nat_eq (g.from + g.bytes) h.from) x.1 in
    let same = eqb-true (g.from + g.bytes) h.from y.1 in
    (a, omega (arith, same, d))
up_two at g h end more false e a b c d = (a, (omega (arith, b, c), d))

up_gap : (at : ℕ) (gs : List Gap) (h : Gap) (end more : ℕ) → UpTo at gs end → end ≤ h.from → h.from + h.bytes ≤ more → UpTo at (with_gap gs h) more
unfolding with_gap
up_gap at [] h end more u b c = (omega (arith, u, b), c)
up_gap at (g ∷ []) h end more u b c = up_two at g h end more (joins g h) refl u.0 u.1 b c
up_gap at (g ∷ k ∷ gs) h end more u b c = (u.0, up_gap (g.from + g.bytes) (k ∷ gs) h end more u.1 b c)

-- ---- span by span

-- leading pieces lie in their span
leading_within : (ps : List (List ℕ)) → length (joined (take (frame_pieces ps) ps)) + length (joined (leading ps)) ≤ length (joined ps)
leading_within ps =
    let n = frame_pieces ps in
    let rest = drop n ps in
    let whole : joined ps ≡ joined (take n ps) ++ joined rest = ap joined (sym (take-append-drop n ps)) ∙ joined-append (take n ps) rest in
    let own : joined rest ≡ joined (b_first rest) ++ joined (behind_b rest) = ap joined (sym (b_parts rest)) ∙ joined-append (b_first rest) (behind_b rest) in
    let a = ap length whole ∙ length-append (joined (take n ps)) (joined rest) in
    let b = ap length own ∙ length-append (joined (b_first rest)) (joined (behind_b rest)) in
    omega (arith, a, b)

leading_up : (gs : List Gap) (k : ℕ) (s : Span) (b : Bool) → UpTo 0 gs s.place → UpTo 0 (if b then gs else with_gap gs (leading_gap k s)) (s.place + length (joined s.pieces))
leading_up gs k s true u = up_more 0 gs s.place (s.place + length (joined s.pieces)) (omega arith) u
leading_up gs k s false u =
    let w = leading_within s.pieces in
    up_gap 0 gs (leading_gap k s) s.place (s.place + length (joined s.pieces)) u (omega arith) (omega (arith, w))

step_up : (m : Mending) (s : Span) (g b : Bool) → UpTo 0 m.gaps s.place → UpTo 0 (if g then put_behind m s else if b then strand_begun m s else left_out m s).gaps (s.place + length (joined s.pieces))
step_up m s true b u = up_more 0 m.gaps s.place (s.place + length (joined s.pieces)) (omega arith) u
step_up m s false true u = leading_up m.gaps (frames_shown (strands_of m)) s (nat_eq (length (leading s.pieces)) 0) u
step_up m s false false u = up_gap 0 m.gaps (span_gap m s) s.place (s.place + length (joined s.pieces)) u (omega arith) (omega arith)

span_up : (m : Mending) (s : Span) → UpTo 0 m.gaps s.place → UpTo 0 (with_span m s).gaps (s.place + length (joined s.pieces))
unfolding with_span
span_up m s u = step_up m s (goes_behind m s) (begins_strand m.first s) u

all_length : (s : List (List ℕ)) (ss : List (List (List ℕ))) → length (joined (s ++ all_of ss)) ≡ length (joined s) + length (joined (all_of ss))
all_length s ss = ap length (joined-append s (all_of ss)) ∙ length-append (joined s) (joined (all_of ss))

spans_up : (ss : List (List (List ℕ))) (place : ℕ) (before : Units) (m : Mending) → UpTo 0 m.gaps place → UpTo 0 (with_spans m (placed place before ss)).gaps (place + length (joined (all_of ss)))
unfolding with_spans placed
spans_up [] place before m u = up_more 0 m.gaps place (place + length (joined [])) (omega arith) u
spans_up (s ∷ ss) place before m u =
    let own = span_up m _ u in
    let i = spans_up ss (place + length (joined s)) (before ++ units_in s) _ own in
    let e : place + length (joined s) + length (joined (all_of ss)) ≡ place + length (joined (s ++ all_of ss)) = omega (arith, all_length s ss) in
    subst (UpTo 0 _) e i

end_up : (m : Mending) (o : Option (List ℕ)) (end : ℕ) → UpTo 0 m.gaps end → UpTo 0 (ended_by o m).gaps end
end_up m None end u = u
end_up m (Some []) end u = u
end_up m (Some (b ∷ strand)) end u = u

-- ---- stretch by stretch

joined_flat : (q : List Units) → joined (map joined q) ≡ joined (flat q)
joined_flat [] = refl
joined_flat (x ∷ q) = ap (λ (l : List ℕ). joined x ++ l) (joined_flat q) ∙ sym (joined-append x (flat q))

grouped_bytes : (us : Units) → AreUnits us → NoEnds us → joined (grouped Headers [] us) ≡ joined us
unfolding grouped
grouped_bytes [] are n = refl
grouped_bytes (u ∷ us) are n = let i = pieced u us are n in ap joined i.pieces ∙ joined_flat (i.x ∷ i.q) ∙ ap joined (sym i.whole)

stretch_up : (divide : Dividing) → KeepsAll divide → (s : Stretch) (m : Mending) → AreUnits s.units → NoEnds s.units → UpTo 0 m.gaps s.place → UpTo 0 (strand_ended (with_spans m (stretch_spans divide s))).gaps (s.place + length (joined s.units))
stretch_up divide keeps s m are n u =
    let i = spans_up (divide (stretch_pieces s)) s.place s.before m u in
    let bytes : length (joined (all_of (divide (stretch_pieces s)))) ≡ length (joined s.units) = ap (λ (l : List (List ℕ)). length (joined l)) (keeps (stretch_pieces s)) ∙ ap length (grouped_bytes s.units are n) in
    let z = with_spans m (stretch_spans divide s) in
    end_up z z.strand (s.place + length (joined s.units)) (subst (λ (k : ℕ). UpTo 0 z.gaps (s.place + k)) bytes i)

-- all gaps up to some byte
record UpSome (m : Mending) : Type 0 where
  end : ℕ
  up : UpTo 0 m.gaps end

stretches_step : (divide : Dividing) → KeepsAll divide → (u : List ℕ) (us : Units) (place : ℕ) (before mine : Units) (m : Mending) (b : Bool) → is_end (value_of u) ≡ b → AreUnits (mine ++ u ∷ us) → NoEnds mine → UpTo 0 m.gaps place
    → ((at : ℕ) (past own : Units) (z : Mending) → AreUnits (own ++ us) → NoEnds own → UpTo 0 z.gaps at → UpSome (with_stretches z (map (stretch_spans divide) (stretches_from at past own us))))
    → UpSome (with_stretches m (map (stretch_spans divide) (stretches_from place before mine (u ∷ us))))
unfolding stretches_from with_stretches
stretches_step divide keeps u us place before mine m true e are n up ih =
    let s : Stretch = record { place = place; before = before; units = mine } in
    let own = stretch_up divide keeps s m (are_before mine (u ∷ us) are) n up in
    rw e (ih (place + length (joined mine) + length u) (before ++ mine) [] (strand_ended (with_spans m (stretch_spans divide s))) (are_behind mine (u ∷ us) are).3 tt (up_more 0 _ (place + length (joined mine)) (place + length (joined mine) + length u) (omega arith) own))
stretches_step divide keeps u us place before mine m false e are n up ih =
    rw e (ih place before (mine ++ u ∷ []) m (subst AreUnits (sym (append_assoc mine (u ∷ []) us)) are) (more_goes mine u n e) up)

stretches_up : (divide : Dividing) → KeepsAll divide → (us : Units) (place : ℕ) (before mine : Units) (m : Mending) → AreUnits (mine ++ us) → NoEnds mine → UpTo 0 m.gaps place → UpSome (with_stretches m (map (stretch_spans divide) (stretches_from place before mine us)))
unfolding stretches_from with_stretches
stretches_up divide keeps [] place before mine m are n up =
    let s : Stretch = record { place = place; before = before; units = mine } in
    record { end = place + length (joined mine); up = stretch_up divide keeps s m (subst AreUnits (append-nil mine) are) n up }
stretches_up divide keeps (u ∷ us) place before mine m are n up = stretches_step divide keeps u us place before mine m (is_end (value_of u)) refl are n up (λ at past own z a k v. stretches_up divide keeps us at past own z a k v)

pub in_turn_there : (divide : Dividing) → KeepsAll divide → (text : List ℕ) → InOrder 0 (gaps_in divide text)
in_turn_there divide keeps text =
    let x = stretches_up divide keeps (cut 0 text).1 (length (cut 0 text).0) [] [] nothing_yet (cut_cuts text).are_units tt (omega arith) in
    up_order 0 (gaps_in divide text) x.end x.up

pub all_there : (divide : Dividing) → KeepsAll divide → (text : List ℕ) → AllThere divide text
all_there divide keeps text = record { pieces = pieces_there divide keeps text; in_order = in_turn_there divide keeps text }
