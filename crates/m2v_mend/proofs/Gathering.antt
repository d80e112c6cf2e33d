-- What is made of a stretch piece by piece is what is made of its steps.
use Rattle.std.proofs.Common.{◌≡◌, ℕ, true, false, List, [], ◌∷◌, ◌++◌, ◌+◌, map, refl, sym, ap, ◌∙◌, append-nil, length, arith, inl, inr}
use Rattle.std.proofs.lemmas.Bool.{cases_Bool}
use Rattle.m2v_model.specs.Units.{Units, joined}
use Rattle.m2v_law_seam.specs.Spans.{units_in, waits_behind, span_of, divided, steps, placed, Span, Stretch, stretches, spans_in, stretch_spans, stretch_pieces}
use Rattle.m2v_law_seam.specs.Mending.{with_spans, with_stretches}
use Rattle.m2v_law_seam.specs.Told.{groups_in_spans, all_groups, span_pictures, all_pictures}
use Rattle.m2v_law_seam.proofs.Same.{divided_none, divided_on, divided_off}
use Rattle.m2v_mend.specs.Gathering.{Tally, with_one, with_all, stretch_ended, with_each, Gathering, begins_step, finished, begun_with, joined_with, with_piece, with_pieces, before_stretch, nothing_told, tally_of, behind_stretch, behind_stretches, IsTally}

-- ---- a tally is what its parts are

pub all_made : (t : Tally) (ss : List Span) → (with_all t ss).made ≡ with_spans t.made ss
unfolding with_all with_spans
all_made t [] = refl
all_made t (s ∷ ss) = all_made (with_one t s) ss

pub all_grouped : (t : Tally) (ss : List Span) → (with_all t ss).groups ≡ groups_in_spans t.groups ss
unfolding with_all groups_in_spans
all_grouped t [] = refl
all_grouped t (s ∷ ss) = all_grouped (with_one t s) ss

pub all_pictured : (t : Tally) (ss : List Span) → (with_all t ss).pictures ≡ t.pictures + span_pictures ss
unfolding with_all span_pictures
all_pictured t [] = omega (arith)
all_pictured t (s ∷ ss) = let i = all_pictured (with_one t s) ss in omega (arith, i)

pub each_made : (t : Tally) (more : List (List Span)) → (with_each t more).made ≡ with_stretches t.made more
unfolding with_each with_stretches
each_made t [] = refl
each_made t (ss ∷ more) = rw (sym (all_made t ss)) (each_made (stretch_ended (with_all t ss)) more)

pub each_grouped : (t : Tally) (more : List (List Span)) → (with_each t more).groups ≡ all_groups t.groups more
unfolding with_each all_groups
each_grouped t [] = refl
each_grouped t (ss ∷ more) = rw (sym (all_grouped t ss)) (each_grouped (stretch_ended (with_all t ss)) more)

pub each_pictured : (t : Tally) (more : List (List Span)) → (with_each t more).pictures ≡ t.pictures + all_pictures more
unfolding with_each all_pictures
each_pictured t [] = omega (arith)
each_pictured t (ss ∷ more) =
    let one = all_pictured t ss in
    let i = each_pictured (stretch_ended (with_all t ss)) more in
    omega (arith, one, i)

-- ---- spans as they are gathered

-- the span at hand, and those behind it
span_first : (t : Tally) (place : ℕ) (before : Units) (mine : List (List ℕ)) (rest : List (List (List ℕ)))
    → with_all t (placed place before (span_of mine ++ rest))
    ≡ with_all (with_all t (placed place before (span_of mine))) (placed (place + length (joined mine)) (before ++ units_in mine) rest)
unfolding with_all placed units_in
span_first t place before [] rest =
    let none : place + length (joined []) ≡ place = omega (arith) in
    rw (none, append-nil before) refl
span_first t place before (q ∷ qs) rest = refl

pub piece_begins : (g : Gathering) (p : List ℕ) → begins_step g.waiting p ≡ true → with_piece g p ≡ begun_with g p
unfolding with_piece
piece_begins g p on = rw on refl

pub piece_joins : (g : Gathering) (p : List ℕ) → begins_step g.waiting p ≡ false → with_piece g p ≡ joined_with g p
unfolding with_piece
piece_joins g p off = rw off refl

-- pieces behind the span at hand
pub gathered : (ps : List (List ℕ)) (g : Gathering) → with_all g.tally (placed g.place g.before (divided begins_step g.waiting g.pieces ps)) ≡ finished (with_pieces g ps)
unfolding with_pieces
gathered [] g = ap (λ (ss : List (List (List ℕ))). with_all g.tally (placed g.place g.before ss)) (divided_none begins_step g.waiting g.pieces)
gathered (p ∷ ps) g =
    elim (cases_Bool (begins_step g.waiting p)) [
      | inl on ↦
          let rest = divided begins_step (waits_behind g.waiting p) (p ∷ []) ps in
          let apart = ap (λ (ss : List (List (List ℕ))). with_all g.tally (placed g.place g.before ss)) (divided_on begins_step g.waiting g.pieces p ps on) in
          apart ∙ span_first g.tally g.place g.before g.pieces rest ∙ gathered ps (begun_with g p) ∙ ap (λ (h : Gathering). finished (with_pieces h ps)) (sym (piece_begins g p on))
      | inr off ↦
          let on = divided_off begins_step g.waiting g.pieces p ps off in
          ap (λ (ss : List (List (List ℕ))). with_all g.tally (placed g.place g.before ss)) on ∙ gathered ps (joined_with g p) ∙ ap (λ (h : Gathering). finished (with_pieces h ps)) (sym (piece_joins g p off))
    ]

-- ---- stretch by stretch

stretch_gathered : (t : Tally) (s : Stretch) → with_all t (stretch_spans steps s) ≡ finished (with_pieces (before_stretch t s.place s.before) (stretch_pieces s))
stretch_gathered t s = gathered (stretch_pieces s) (before_stretch t s.place s.before)

pub stretches_gathered : (ss : List Stretch) (t : Tally) → with_each t (map (stretch_spans steps) ss) ≡ behind_stretches t ss
unfolding with_each behind_stretches
stretches_gathered [] t = refl
stretches_gathered (s ∷ ss) t =
    ap (λ (x : Tally). with_each (stretch_ended x) (map (stretch_spans steps) ss)) (stretch_gathered t s) ∙ stretches_gathered ss (behind_stretch t s)

pub tallied : (text : List ℕ) → IsTally text (behind_stretches nothing_told (stretches text))
tallied text =
    let same = stretches_gathered (stretches text) nothing_told in
    let ss = spans_in steps text in
    let counted = each_pictured nothing_told ss in
    let pictures : (tally_of text).pictures ≡ all_pictures ss = omega (arith, counted) in
    record {
      made = ap (λ (t : Tally). t.made) (sym same) ∙ each_made nothing_told ss;
      groups = ap (λ (t : Tally). t.groups) (sym same) ∙ each_grouped nothing_told ss;
      pictures = ap (λ (t : Tally). t.pictures) (sym same) ∙ pictures;
    }
