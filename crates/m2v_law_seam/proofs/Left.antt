-- What is left out neither reads behind the strand that was under way nor begins another one.
use Rattle.std.proofs.Common.{◌≡◌, ℕ, Bool, true, false, List, [], ◌∷◌, ◌++◌, length, Option, Some, None, inl, inr, refl, sym}
use Rattle.std.proofs.lemmas.Option.{same_Some}
use Rattle.std.specs.Prelude.{nat_eq, if◌then◌else◌}
use Rattle.m2v_law_seam.specs.Spans.{Dividing, Span, spans_in}
use Rattle.m2v_law_seam.specs.Seams.{leading}
use Rattle.m2v_law_seam.specs.Faults.{Fault, fault_of}
use Rattle.m2v_law_seam.specs.Mending.{Gap, joins, both_gaps, with_gap, Mending, nothing_yet, strands_of, frames_shown, low_of_span, goes_behind, put_behind, begins_strand, leading_gap, strand_begun, span_gap, left_out, with_span, with_spans, ended_by, strand_ended, with_stretches}
use Rattle.m2v_law_seam.specs.Mends.{Steps, steps_in, steps_from, steps_of, Among, BeginsWith, GapsLeft, LeftOut}

-- ---- gaps with one more

abbrev IsTold : Steps → Gap → Type 0
IsTold steps g = (f : Fault) → g.fault ≡ Some f → BeginsWith steps g f

-- two gaps that are one have the first one's place and fault
both_told : (steps : Steps) (g h : Gap) → IsTold steps g → IsTold steps (both_gaps g h)
both_told steps g h t f e =
    let b = t f e in
    record { left = b.left; place = b.place; fault = b.fault }

two_told : (steps : Steps) (g h : Gap) (j : Bool) → IsTold steps g → IsTold steps h → GapsLeft steps (if j then both_gaps g h ∷ [] else g ∷ h ∷ [])
two_told steps g h true a b = (both_told steps g h a, tt)
two_told steps g h false a b = (a, (b, tt))

more_told : (steps : Steps) (gs : List Gap) (h : Gap) → GapsLeft steps gs → IsTold steps h → GapsLeft steps (with_gap gs h)
unfolding with_gap
more_told steps [] h t b = (b, tt)
more_told steps (g ∷ []) h t b = two_told steps g h (joins g h) t.0 b
more_told steps (g ∷ k ∷ gs) h t b = (t.0, more_told steps (k ∷ gs) h t.1 b)

leading_told : (steps : Steps) (gs : List Gap) (frames : ℕ) (s : Span) (none : Bool) → GapsLeft steps gs → GapsLeft steps (if none then gs else with_gap gs (leading_gap frames s))
leading_told steps gs frames s true t = t
leading_told steps gs frames s false t = more_told steps gs (leading_gap frames s) t (λ f e. absurd (none_some f e))
  where
    none_some : (f : Fault) → None ≡ Some f → ⊥
    none_some f e = absurd cc

-- ---- span by span

gap_told : (steps : Steps) (m : Mending) (s : Span) → Among (m, s) steps → goes_behind m s ≡ false → begins_strand m.first s ≡ false → IsTold steps (span_gap m s)
gap_told steps m s among behind begun f e = record {
  left = record { before = m; span = s; among = among; not_behind = behind; not_begun = begun };
  place = refl;
  fault = same_Some f (fault_of m.strand (low_of_span m s) m.first s) (sym e);
}

span_told : (steps : Steps) (m : Mending) (s : Span) (g b : Bool) → goes_behind m s ≡ g → begins_strand m.first s ≡ b → Among (m, s) steps → GapsLeft steps m.gaps → GapsLeft steps (if g then put_behind m s else if b then strand_begun m s else left_out m s).gaps
span_told steps m s true b eg eb among t = t
span_told steps m s false true eg eb among t = leading_told steps m.gaps (frames_shown (strands_of m)) s (nat_eq (length (leading s.pieces)) 0) t
span_told steps m s false false eg eb among t = more_told steps m.gaps (span_gap m s) t (gap_told steps m s among eg eb)

one_told : (steps : Steps) (m : Mending) (s : Span) → Among (m, s) steps → GapsLeft steps m.gaps → GapsLeft steps (with_span m s).gaps
unfolding with_span
one_told steps m s among t = span_told steps m s (goes_behind m s) (begins_strand m.first s) refl refl among t

-- those of some steps are among all
abbrev AreAmong : Steps → Steps → Type 0
AreAmong xs steps = (x : Mending × Span) → Among x xs → Among x steps

spans_told : (steps : Steps) (ss : List Span) (m : Mending) → AreAmong (steps_in m ss) steps → GapsLeft steps m.gaps → GapsLeft steps (with_spans m ss).gaps
unfolding with_spans steps_in
spans_told steps [] m among t = t
spans_told steps (s ∷ ss) m among t = spans_told steps ss (with_span m s) (λ x h. among x (inr h)) (one_told steps m s (among (m, s) (inl refl)) t)

end_told : (steps : Steps) (m : Mending) (o : Option (List ℕ)) → GapsLeft steps m.gaps → GapsLeft steps (ended_by o m).gaps
end_told steps m None t = t
end_told steps m (Some []) t = t
end_told steps m (Some (b ∷ strand)) t = t

among_front : (x : Mending × Span) (xs ys : Steps) → Among x xs → Among x (xs ++ ys)
among_front x [] ys h = absurd h
among_front x (y ∷ xs) ys (inl e) = inl e
among_front x (y ∷ xs) ys (inr h) = inr (among_front x xs ys h)

among_behind : (x : Mending × Span) (xs ys : Steps) → Among x ys → Among x (xs ++ ys)
among_behind x [] ys h = h
among_behind x (y ∷ xs) ys h = inr (among_behind x xs ys h)

stretches_told : (steps : Steps) (more : List (List Span)) (m : Mending) → AreAmong (steps_from m more) steps → GapsLeft steps m.gaps → GapsLeft steps (with_stretches m more).gaps
unfolding with_stretches steps_from
stretches_told steps [] m among t = t
stretches_told steps (ss ∷ more) m among t =
    let z = with_spans m ss in
    let own = spans_told steps ss m (λ x h. among x (among_front x (steps_in m ss) (steps_from (strand_ended z) more) h)) t in
    stretches_told steps more (strand_ended z) (λ x h. among x (among_behind x (steps_in m ss) (steps_from (strand_ended z) more) h)) (end_told steps z z.strand own)

pub left_told : (divide : Dividing) (text : List ℕ) → LeftOut divide text
left_told divide text = stretches_told (steps_of divide text) (spans_in divide text) nothing_yet (λ x h. h) tt
