-- The frames that are told before a gap are those of the strands before it.
use Rattle.std.proofs.Common.{◌≡◌, ℕ, Bool, true, false, List, [], ◌∷◌, ◌++◌, length, Option, Some, None, refl, sym, ap, ◌∙◌, append_assoc, append-nil}
use Rattle.std.specs.Prelude.{nat_eq, if◌then◌else◌}
use Rattle.m2v_law_seam.specs.Spans.{Dividing, Span, spans_in}
use Rattle.m2v_law_seam.specs.Seams.{leading}
use Rattle.m2v_law_seam.specs.Mending.{Gap, joins, both_gaps, with_gap, Mending, nothing_yet, strand_of, strands_of, frames_shown, goes_behind, put_behind, begins_strand, leading_gap, strand_begun, span_gap, left_out, with_span, with_spans, ended_by, strand_ended, with_stretches}
use Rattle.m2v_law_seam.specs.Mends.{GapFrames, AllFrames, FramesTold}

-- more strands behind them
gap_on : (ss more : List (List ℕ)) (g : Gap) → GapFrames ss g → GapFrames (ss ++ more) g
gap_on ss more g x = record {
  front = x.front;
  behind = x.behind ++ more;
  whole = ap (λ (l : List (List ℕ)). l ++ more) x.whole ∙ append_assoc x.front x.behind more;
  frames = x.frames;
}

frames_on : (ss more : List (List ℕ)) (gs : List Gap) → AllFrames ss gs → AllFrames (ss ++ more) gs
frames_on ss more [] a = tt
frames_on ss more (g ∷ gs) a = (gap_on ss more g a.0, frames_on ss more gs a.1)

-- a gap behind all strands so far
gap_here : (ss : List (List ℕ)) (g : Gap) → g.frames ≡ frames_shown ss → GapFrames ss g
gap_here ss g e = record { front = ss; behind = []; whole = sym (append-nil ss); frames = e }

joint : (ss : List (List ℕ)) (g h : Gap) (j : Bool) → GapFrames ss g → GapFrames ss h → AllFrames ss (if j then both_gaps g h ∷ [] else g ∷ h ∷ [])
joint ss g h true a b = (record { front = a.front; behind = a.behind; whole = a.whole; frames = a.frames }, tt)
joint ss g h false a b = (a, (b, tt))

more : (ss : List (List ℕ)) (gs : List Gap) (h : Gap) → AllFrames ss gs → GapFrames ss h → AllFrames ss (with_gap gs h)
unfolding with_gap
more ss [] h a b = (b, tt)
more ss (g ∷ []) h a b = joint ss g h (joins g h) a.0 b
more ss (g ∷ k ∷ gs) h a b = (a.0, more ss (k ∷ gs) h a.1 b)

-- what is made so far: the gaps stand behind strands that have ended
abbrev Told : Mending → Type 0
Told m = AllFrames m.done m.gaps

leading_by : (m : Mending) (s : Span) (b : Bool) → Told m → AllFrames (strands_of m) (if b then m.gaps else with_gap m.gaps (leading_gap (frames_shown (strands_of m)) s))
leading_by m s true t = frames_on m.done (strand_of m.strand) m.gaps t
leading_by m s false t = more (strands_of m) m.gaps (leading_gap (frames_shown (strands_of m)) s) (frames_on m.done (strand_of m.strand) m.gaps t) (gap_here (strands_of m) (leading_gap (frames_shown (strands_of m)) s) refl)

step_told : (m : Mending) (s : Span) (g b : Bool) → Told m → Told (if g then put_behind m s else if b then strand_begun m s else left_out m s)
step_told m s true b t = t
step_told m s false true t = leading_by m s (nat_eq (length (leading s.pieces)) 0) t
step_told m s false false t = more (strands_of m) m.gaps (span_gap m s) (frames_on m.done (strand_of m.strand) m.gaps t) (gap_here (strands_of m) (span_gap m s) refl)

span_told : (m : Mending) (s : Span) → Told m → Told (with_span m s)
unfolding with_span
span_told m s t = step_told m s (goes_behind m s) (begins_strand m.first s) t

spans_told : (ss : List Span) (m : Mending) → Told m → Told (with_spans m ss)
unfolding with_spans
spans_told [] m t = t
spans_told (s ∷ ss) m t = spans_told ss (with_span m s) (span_told m s t)

end_told : (m : Mending) (o : Option (List ℕ)) → Told m → Told (ended_by o m)
end_told m None t = t
end_told m (Some []) t = t
end_told m (Some (b ∷ strand)) t = frames_on m.done (strand_of m.strand) m.gaps t

stretches_told : (ss : List (List Span)) (m : Mending) → Told m → Told (with_stretches m ss)
unfolding with_stretches
stretches_told [] m t = t
stretches_told (s ∷ ss) m t = let z = with_spans m s in stretches_told ss (strand_ended z) (end_told z z.strand (spans_told s m t))

pub frames_told : (divide : Dividing) (text : List ℕ) → FramesTold divide text
frames_told divide text = stretches_told (spans_in divide text) nothing_yet tt
