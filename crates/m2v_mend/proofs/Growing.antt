-- What is kept only grows: the strands so far stand at the beginning of the mended text.
use Rattle.std.proofs.Common.{◌≡◌, ℕ, ◌+◌, Bool, true, false, List, [], ◌∷◌, ◌++◌, length, Option, Some, None, inl, inr, refl, sym, ap, subst, ◌∙◌, append_assoc, append-nil}
use Rattle.std.specs.Prelude.{is_none, nat_eq, not, if◌then◌else◌}
use Rattle.std.proofs.lemmas.Bool.{cases_Bool}
use Rattle.std.proofs.lemmas.Grind.{flat_map-append}
use Rattle.m2v_model.specs.Units.{Units, cut, joined}
use Rattle.m2v_model.specs.Streams.{value_of}
use Rattle.m2v_model.specs.Pieces.{is_end}
use Rattle.m2v_law_group.specs.Groups.{end_code}
use Rattle.m2v_law_group.proofs.Lists.{and_parts}
use Rattle.m2v_law_seam.specs.Spans.{Span, Stretch, stretches_from, stretches, stretch_pieces, steps}
use Rattle.m2v_law_seam.specs.Seams.{leading, opened, text_behind, bytes_or_none}
use Rattle.m2v_law_seam.specs.Faults.{strand_bytes}
use Rattle.m2v_law_seam.specs.Mending.{Gap, with_gap, Mending, strand_of, strands_of, frames_shown, strand_with, low_of_span, goes_behind, put_behind, begins_strand, leading_gap, strand_begun, span_gap, left_out, with_span, ended_by, mending, gaps_in, ended_text}
use Rattle.m2v_mend.specs.Answers.{mended_bytes}
use Rattle.m2v_mend.specs.Gathering.{Tally, Gathering, with_one, with_all, stretch_ended, begins_step, span_at, finished, with_piece, with_pieces, before_stretch, nothing_told, behind_stretch, behind_stretches}
use Rattle.m2v_mend.specs.Listing.{gap_line, lines_of, list_of}
use Rattle.m2v_mend.specs.Stretching.{AreSettled}
use Rattle.m2v_mend.proofs.Gaps.{settled_with}
use Rattle.m2v_mend.proofs.Gathering.{piece_begins, piece_joins, tallied}
use Rattle.m2v_mend.proofs.Made.{bytes_under, none_under, under_bytes}

-- the strands have more bytes, and settled gaps stay
pub record Grew (old new : Mending) : Type 0 where
  pub more : List ℕ
  pub is : joined (strands_of new) ≡ joined (strands_of old) ++ more
  pub gaps : (settled : List Gap) → AreSettled settled old.gaps → AreSettled settled new.gaps

-- gaps as they are
same_gaps : (old new : Mending) → new.gaps ≡ old.gaps → (settled : List Gap) → AreSettled settled old.gaps → AreSettled settled new.gaps
same_gaps old new e settled s = subst (AreSettled settled) (sym e) s

pub grew_same : (old new : Mending) → joined (strands_of new) ≡ joined (strands_of old) → new.gaps ≡ old.gaps → Grew old new
grew_same old new e same = record { more = []; is = e ∙ sym (append-nil (joined (strands_of old))); gaps = same_gaps old new same }

pub grew_on : (old mid new : Mending) → Grew old mid → Grew mid new → Grew old new
grew_on old mid new a b = record {
  more = a.more ++ b.more;
  is = b.is ∙ ap (λ (l : List ℕ). l ++ b.more) a.is ∙ append_assoc (joined (strands_of old)) a.more b.more;
  gaps = λ settled s. b.gaps settled (a.gaps settled s);
}

-- ---- a span more

grew_put : (m : Mending) (s : Span) (o : Option (List ℕ)) → m.strand ≡ o → not (is_none o) ≡ true → Grew m (put_behind m s)
grew_put m s None e h = absurd cc
grew_put m s (Some t) e h =
    let more = text_behind t (low_of_span m s) s.pieces in
    let all : strand_with m s ≡ t ++ more = ap (λ (x : Option (List ℕ)). strand_bytes x ++ text_behind (strand_bytes x) (low_of_span m s) s.pieces) e in
    record {
      more = more;
      is = bytes_under m.done (strand_with m s) ∙ ap (λ (l : List ℕ). joined m.done ++ l) all ∙ sym (append_assoc (joined m.done) t more) ∙ ap (λ (l : List ℕ). l ++ more) (sym (under_bytes m t e));
      gaps = same_gaps m (put_behind m s) refl;
    }

grew_begun : (m : Mending) (s : Span) → Grew m (strand_begun m s)
grew_begun m s = record { more = opened s; is = bytes_under (strands_of m) (opened s); gaps = leading_settled (nat_eq (length (leading s.pieces)) 0) }
  where
    leading_settled : (none : Bool) (settled : List Gap) → AreSettled settled m.gaps → AreSettled settled (if none then m.gaps else with_gap m.gaps (leading_gap (frames_shown (strands_of m)) s))
    leading_settled true settled a = a
    leading_settled false settled a = settled_with settled m.gaps (leading_gap (frames_shown (strands_of m)) s) a

grew_left : (m : Mending) (s : Span) → Grew m (left_out m s)
grew_left m s = record {
  more = [];
  is = ap joined (append-nil (strands_of m)) ∙ sym (append-nil (joined (strands_of m)));
  gaps = λ settled a. settled_with settled m.gaps (span_gap m s) a;
}

span_by : (m : Mending) (s : Span) (g b : Bool) → goes_behind m s ≡ g → Grew m (if g then put_behind m s else if b then strand_begun m s else left_out m s)
span_by m s true b eg = grew_put m s m.strand refl (and_parts (not (is_none m.strand)) _ eg).0
span_by m s false true eg = grew_begun m s
span_by m s false false eg = grew_left m s

grew_span : (m : Mending) (s : Span) → Grew m (with_span m s)
unfolding with_span
grew_span m s = span_by m s (goes_behind m s) (begins_strand m.first s) refl

grew_all : (ss : List Span) (t : Tally) → Grew t.made (with_all t ss).made
unfolding with_all
grew_all [] t = grew_same t.made t.made refl refl
grew_all (s ∷ ss) t = grew_on t.made (with_one t s).made (with_all (with_one t s) ss).made (grew_span t.made s) (grew_all ss (with_one t s))

-- ---- pieces

pub grew_finished : (g : Gathering) → Grew g.tally.made (finished g).made
grew_finished g = grew_all (span_at g) g.tally

grew_by : (g : Gathering) (p : List ℕ) (b : Bool) → begins_step g.waiting p ≡ b → Grew g.tally.made (with_piece g p).tally.made
grew_by g p true e = subst (λ (h : Gathering). Grew g.tally.made h.tally.made) (sym (piece_begins g p e)) (grew_finished g)
grew_by g p false e = subst (λ (h : Gathering). Grew g.tally.made h.tally.made) (sym (piece_joins g p e)) (grew_same g.tally.made g.tally.made refl refl)

pub grew_pieces : (ps : List (List ℕ)) (g : Gathering) → Grew g.tally.made (with_pieces g ps).tally.made
unfolding with_pieces
grew_pieces [] g = grew_same g.tally.made g.tally.made refl refl
grew_pieces (p ∷ ps) g = grew_on g.tally.made (with_piece g p).tally.made (with_pieces (with_piece g p) ps).tally.made (grew_by g p (begins_step g.waiting p) refl) (grew_pieces ps (with_piece g p))

-- ---- stretches

-- no strand that has a byte is under way
abbrev pub IsOver : Mending → Type 0
IsOver m = strand_of m.strand ≡ []

over_by : (m : Mending) (o : Option (List ℕ)) → m.strand ≡ o → IsOver (ended_by o m)
over_by m None e = ap strand_of e
over_by m (Some []) e = ap strand_of e
over_by m (Some (b ∷ t)) e = refl

pub over_ended : (t : Tally) → IsOver (stretch_ended t).made
over_ended t = over_by t.made t.made.strand refl

end_by : (m : Mending) (o : Option (List ℕ)) → m.strand ≡ o → Grew m (ended_by o m)
end_by m None e = grew_same m m refl refl
end_by m (Some []) e = grew_same m m refl refl
end_by m (Some (b ∷ t)) e = grew_same m (ended_by (Some (b ∷ t)) m) (ap joined (append-nil (strands_of m))) refl

pub grew_ended : (t : Tally) → Grew t.made (stretch_ended t).made
grew_ended t = end_by t.made t.made.strand refl

-- the pieces at hand, and those that are left of the stretch
pub grew_stretch : (g : Gathering) (ps : List (List ℕ)) → Grew g.tally.made (stretch_ended (finished (with_pieces g ps))).made
grew_stretch g ps =
    let h = with_pieces g ps in
    grew_on g.tally.made h.tally.made (stretch_ended (finished h)).made (grew_pieces ps g)
    (grew_on h.tally.made (finished h).made (stretch_ended (finished h)).made (grew_finished h) (grew_ended (finished h)))

grew_one : (t : Tally) (s : Stretch) → Grew t.made (behind_stretch t s).made
grew_one t s = grew_stretch (before_stretch t s.place s.before) _

pub grew_stretches : (ss : List Stretch) (t : Tally) → Grew t.made (behind_stretches t ss).made
unfolding behind_stretches
grew_stretches [] t = grew_same t.made t.made refl refl
grew_stretches (s ∷ ss) t = grew_on t.made (behind_stretch t s).made (behind_stretches (behind_stretch t s) ss).made (grew_one t s) (grew_stretches ss (behind_stretch t s))

over_stretch : (t : Tally) (s : Stretch) → IsOver (behind_stretch t s).made
over_stretch t s = over_ended (finished (with_pieces (before_stretch t s.place s.before) (stretch_pieces s)))

over_last : (us : Units) (place : ℕ) (before mine : Units) (t : Tally) → IsOver (behind_stretches t (stretches_from place before mine us)).made
unfolding behind_stretches stretches_from
over_last [] place before mine t = over_stretch t (record { place = place; before = before; units = mine })
over_last (u ∷ us) place before mine t = elim (cases_Bool (is_end (value_of u))) [
  | inl on ↦ rw on (over_last us (place + length (joined mine) + length u) (before ++ mine) [] (behind_stretch t (record { place = place; before = before; units = mine })))
  | inr off ↦ rw off (over_last us place before (mine ++ u ∷ []) t)
]

-- ---- the mended text

pub done_bytes : (done : List (List ℕ)) → (more : List ℕ) × (bytes_or_none (ended_text done) ≡ joined done ++ more)
done_bytes [] = ([], refl)
done_bytes (s ∷ ss) = (end_code, refl)

-- what the strands have so far is a prefix of the mended text
pub strands_part : (text : List ℕ) (m : Mending) → Grew m (behind_stretches nothing_told (stretches text)).made → (more : List ℕ) × (mended_bytes text ≡ joined (strands_of m) ++ more)
strands_part text m g =
    let all = behind_stretches nothing_told (stretches text) in
    let over = over_last (cut 0 text).1 (length (cut 0 text).0) [] [] nothing_told in
    let made : all.made ≡ mending steps text = (tallied text).made in
    let d = done_bytes all.made.done in
    let same : mended_bytes text ≡ bytes_or_none (ended_text all.made.done) = ap (λ (m : Mending). bytes_or_none (ended_text m.done)) (sym made) in
    let bytes : joined all.made.done ≡ joined (strands_of m) ++ g.more = ap joined (sym (none_under all.made over)) ∙ g.is in
    (g.more ++ d.0, same ∙ d.1 ∙ ap (λ (l : List ℕ). l ++ d.0) bytes ∙ append_assoc (joined (strands_of m)) g.more d.0)

-- the lines of settled gaps are a prefix of the list
pub settled_part : (text : List ℕ) (m : Mending) (settled : List Gap) → Grew m (behind_stretches nothing_told (stretches text)).made → AreSettled settled m.gaps → (more : List ℕ) × (list_of text ≡ lines_of settled ++ more)
settled_part text m settled g a =
    let s = g.gaps settled a in
    let gaps : gaps_in steps text ≡ settled ++ s.more = ap (λ (m : Mending). m.gaps) (sym (tallied text).made) ∙ s.is in
    (lines_of s.more, ap lines_of gaps ∙ flat_map-append gap_line settled s.more)
