-- The pieces of all spans are those of the input, and gaps stand in its order.
use Rattle.std.proofs.Common.{◌≡◌, ℕ, ◌+◌, Bool, true, false, List, [], ◌∷◌, ◌++◌, length, map, refl, sym, ap, subst, ◌∙◌, append_assoc, append-nil}
use Rattle.std.specs.Prelude.{◌&&◌, ◌||◌, not}
use Rattle.m2v_model.specs.declared.phase.Phase.TheVariants.{Headers}
use Rattle.m2v_model.specs.Units.{Units, cut, joined, AreUnits}
use Rattle.m2v_model.specs.Streams.{value_of}
use Rattle.m2v_model.specs.Pieces.{is_end, grouped}
use Rattle.m2v_model.proofs.CutLaws.{cut_cuts, are_before, are_behind}
use Rattle.m2v_model.proofs.ShiftLaws.{NoEnds}
use Rattle.m2v_law_seam.specs.Spans.{units_in, is_entry, is_anchor_piece, is_second, waits_behind, Dividing, span_of, divided, spans, steps, Span, placed, Stretch, stretches_from, stretch_pieces, stretch_spans, spans_in}
use Rattle.m2v_law_seam.specs.Mending.{Mending, nothing_yet, with_span, with_spans, strand_ended}
use Rattle.m2v_law_seam.specs.Mends.{Steps, steps_in, steps_from, steps_of, all_pieces, without_ends}
use Rattle.m2v_law_seam.proofs.Pieced.{pieced, units_joined}
use Rattle.m2v_law_seam.proofs.Told.{units_append, none_units}

-- ---- pieces of steps, of spans and of stretches

-- the pieces of spans, one span behind another
abbrev pub span_pieces : List Span → List (List ℕ)
span_pieces [] = []
span_pieces (s ∷ ss) = s.pieces ++ span_pieces ss

abbrev pub stretch_all : List (List Span) → List (List ℕ)
stretch_all [] = []
stretch_all (ss ∷ more) = span_pieces ss ++ stretch_all more

pieces_append : (xs ys : Steps) → all_pieces (xs ++ ys) ≡ all_pieces xs ++ all_pieces ys
unfolding all_pieces
pieces_append [] ys = refl
pieces_append (x ∷ xs) ys = ap (λ (l : List (List ℕ)). (x.1).pieces ++ l) (pieces_append xs ys) ∙ sym (append_assoc (x.1).pieces (all_pieces xs) (all_pieces ys))

steps_pieces : (ss : List Span) (m : Mending) → all_pieces (steps_in m ss) ≡ span_pieces ss
unfolding all_pieces steps_in
steps_pieces [] m = refl
steps_pieces (s ∷ ss) m = ap (λ (l : List (List ℕ)). s.pieces ++ l) (steps_pieces ss (with_span m s))

pub all_steps : (more : List (List Span)) (m : Mending) → all_pieces (steps_from m more) ≡ stretch_all more
unfolding steps_from all_pieces
all_steps [] m = refl
all_steps (ss ∷ more) m =
    let later = steps_from (strand_ended (with_spans m ss)) more in
    pieces_append (steps_in m ss) later ∙ ap (λ (l : List (List ℕ)). l ++ all_pieces later) (steps_pieces ss m) ∙ ap (λ (l : List (List ℕ)). span_pieces ss ++ l) (all_steps more (strand_ended (with_spans m ss)))

-- lists of pieces, one behind another
abbrev pub all_of : List (List (List ℕ)) → List (List ℕ)
all_of [] = []
all_of (ps ∷ qs) = ps ++ all_of qs

placed_pieces : (ss : List (List (List ℕ))) (place : ℕ) (before : Units) → span_pieces (placed place before ss) ≡ all_of ss
unfolding placed
placed_pieces [] place before = refl
placed_pieces (s ∷ ss) place before = ap (λ (l : List (List ℕ)). s ++ l) (placed_pieces ss (place + length (joined s)) (before ++ units_in s))

all_append : (xs ys : List (List (List ℕ))) → all_of (xs ++ ys) ≡ all_of xs ++ all_of ys
all_append [] ys = refl
all_append (x ∷ xs) ys = ap (λ (l : List (List ℕ)). x ++ l) (all_append xs ys) ∙ sym (append_assoc x (all_of xs) (all_of ys))

span_all : (ps : List (List ℕ)) → all_of (span_of ps) ≡ ps
span_all [] = refl
span_all (p ∷ ps) = append-nil (p ∷ ps)

divided_step : (begins : ℕ → List ℕ → Bool) (w : ℕ) (mine : List (List ℕ)) (p : List ℕ) (ps : List (List ℕ)) (b : Bool) → begins w p ≡ b → ((own : List (List ℕ)) → all_of (divided begins (waits_behind w p) own ps) ≡ own ++ ps) → all_of (divided begins w mine (p ∷ ps)) ≡ mine ++ p ∷ ps
unfolding divided
divided_step begins w mine p ps true e ih = rw e (all_append (span_of mine) (divided begins (waits_behind w p) (p ∷ []) ps) ∙ ap (λ (l : List (List ℕ)). l ++ all_of (divided begins (waits_behind w p) (p ∷ []) ps)) (span_all mine) ∙ ap (λ (l : List (List ℕ)). mine ++ l) (ih (p ∷ [])))
divided_step begins w mine p ps false e ih = rw e (ih (mine ++ p ∷ []) ∙ append_assoc mine (p ∷ []) ps)

-- however pieces are divided, they are there in turn
pub divided_all : (begins : ℕ → List ℕ → Bool) (ps : List (List ℕ)) (w : ℕ) (mine : List (List ℕ)) → all_of (divided begins w mine ps) ≡ mine ++ ps
unfolding divided
divided_all begins [] w mine = span_all mine ∙ sym (append-nil mine)
divided_all begins (p ∷ ps) w mine = divided_step begins w mine p ps (begins w p) refl (λ own. divided_all begins ps (waits_behind w p) own)

-- a way of dividing keeps all pieces in turn
abbrev pub KeepsAll : Dividing → Type 0
KeepsAll divide = (ps : List (List ℕ)) → all_of (divide ps) ≡ ps

pub steps_keep : KeepsAll steps
steps_keep ps = divided_all (λ waiting p. is_entry p || (is_anchor_piece p && not (is_second waiting p))) ps 0 []

pub spans_keep : KeepsAll spans
spans_keep ps = divided_all (λ waiting p. is_entry p) ps 0 []

-- ---- units of stretches

grouped_units : (us : Units) → AreUnits us → NoEnds us → units_in (grouped Headers [] us) ≡ us
unfolding grouped units_in
grouped_units [] are n = refl
grouped_units (u ∷ us) are n = let i = pieced u us are n in ap units_in i.pieces ∙ units_joined (i.x ∷ i.q) i.are ∙ sym i.whole

stretch_units : (divide : Dividing) → KeepsAll divide → (s : Stretch) → AreUnits s.units → NoEnds s.units → units_in (span_pieces (stretch_spans divide s)) ≡ s.units
stretch_units divide keeps s are n =
    ap units_in (placed_pieces (divide (stretch_pieces s)) s.place s.before ∙ keeps (stretch_pieces s)) ∙ grouped_units s.units are n

ends_front : (us vs : Units) → NoEnds us → without_ends (us ++ vs) ≡ us ++ without_ends vs
unfolding without_ends
ends_front [] vs n = refl
ends_front (u ∷ us) vs n = rw (n.0) (ap (λ (l : Units). u ∷ l) (ends_front us vs n.1))

pub more_goes : (us : Units) (u : List ℕ) → NoEnds us → is_end (value_of u) ≡ false → NoEnds (us ++ u ∷ [])
more_goes [] u n off = (off, tt)
more_goes (v ∷ us) u n off = (n.0, more_goes us u n.1 off)

stretches_step : (divide : Dividing) → KeepsAll divide → (u : List ℕ) (us : Units) (place : ℕ) (before mine : Units) (b : Bool) → is_end (value_of u) ≡ b → AreUnits (mine ++ u ∷ us) → NoEnds mine
    → ((at : ℕ) (past own : Units) → AreUnits (own ++ us) → NoEnds own → units_in (stretch_all (map (stretch_spans divide) (stretches_from at past own us))) ≡ own ++ without_ends us)
    → units_in (stretch_all (map (stretch_spans divide) (stretches_from place before mine (u ∷ us)))) ≡ mine ++ without_ends (u ∷ us)
unfolding stretches_from without_ends
stretches_step divide keeps u us place before mine true e are n ih =
    let s : Stretch = record { place = place; before = before; units = mine } in
    let at = place + length (joined mine) + length u in
    rw e (units_append (span_pieces (stretch_spans divide s)) (stretch_all (map (stretch_spans divide) (stretches_from at (before ++ mine) [] us)))
    ∙ ap (λ (l : Units). l ++ units_in (stretch_all (map (stretch_spans divide) (stretches_from at (before ++ mine) [] us)))) (stretch_units divide keeps s (are_before mine (u ∷ us) are) n)
    ∙ ap (λ (l : Units). mine ++ l) (ih at (before ++ mine) [] (are_behind mine (u ∷ us) are).3 tt))
stretches_step divide keeps u us place before mine false e are n ih =
    rw e (ih place before (mine ++ u ∷ []) (subst AreUnits (sym (append_assoc mine (u ∷ []) us)) are) (more_goes mine u n e) ∙ append_assoc mine (u ∷ []) (without_ends us))

stretches_units : (divide : Dividing) → KeepsAll divide → (us : Units) (place : ℕ) (before mine : Units) → AreUnits (mine ++ us) → NoEnds mine → units_in (stretch_all (map (stretch_spans divide) (stretches_from place before mine us))) ≡ mine ++ without_ends us
unfolding stretches_from without_ends
stretches_units divide keeps [] place before mine are n =
    let s : Stretch = record { place = place; before = before; units = mine } in
    units_append (span_pieces (stretch_spans divide s)) [] ∙ ap (λ (l : Units). l ++ units_in []) (stretch_units divide keeps s (subst AreUnits (append-nil mine) are) n) ∙ ap (λ (l : Units). mine ++ l) none_units
stretches_units divide keeps (u ∷ us) place before mine are n = stretches_step divide keeps u us place before mine (is_end (value_of u)) refl are n (λ at past own a m. stretches_units divide keeps us at past own a m)

-- the pieces of all spans are those of the input, without end codes
pub pieces_there : (divide : Dividing) → KeepsAll divide → (text : List ℕ) → units_in (all_pieces (steps_of divide text)) ≡ without_ends (cut 0 text).1
pieces_there divide keeps text =
    ap units_in (all_steps (spans_in divide text) nothing_yet) ∙ stretches_units divide keeps (cut 0 text).1 (length (cut 0 text).0) [] [] (cut_cuts text).are_units tt
