-- What is made of an input stretch by stretch, each from where the end code before it ends.
use Rattle.std.proofs.Common.{◌≡◌, ℕ, suc, ◌+◌, ◌-◌, ◌≤◌, true, false, List, [], ◌∷◌, ◌++◌, length, drop, Option, Some, None, inl, inr, refl, sym, ap, subst, ◌∙◌, append_assoc, append-nil, arith}
use Rattle.std.proofs.lemmas.Bool.{cases_Bool}
use Rattle.std.proofs.lemmas.List.{length-append, length-drop}
use Rattle.m2v_model.specs.Units.{Units, begins_code, cut, joined, Clear, AreUnits, Cuts}
use Rattle.m2v_model.specs.Streams.{value_of}
use Rattle.m2v_model.specs.Pieces.{is_end, grouped}
use Rattle.m2v_model.proofs.CutLaws.{cut_cuts, cuts_is, joined-append, are_behind}
use Rattle.m2v_decode.specs.m2v_dec_piece.Following.{following, following_in}
use Rattle.m2v_law_seam.specs.Spans.{Stretch, stretches_from, stretch_pieces, placed}
use Rattle.m2v_law_seam.specs.Mending.{Mending, ended_by, strand_ended}
use Rattle.m2v_law_seam.specs.Mends.{without_ends}
use Rattle.m2v_mend.specs.Gathering.{Tally, with_all, with_pieces, finished, before_stretch, stretch_ended, behind_stretch, behind_stretches}
use Rattle.m2v_law_group.specs.Groups.{to_end}
use Rattle.m2v_mend.specs.Feeding.{from_end, stretches_at, stretch_at}

-- ---- the units behind those of a stretch

-- the stretches behind an end code, which begins at a byte
next_stretches : ℕ → Units → Units → List Stretch
next_stretches place before [] = []
next_stretches place before (e ∷ later) = stretches_from (place + length e) before [] later

-- the first stretch, and those behind it
parted : (us : Units) (place : ℕ) (before mine : Units)
    → stretches_from place before mine us
    ≡ record { place = place; before = before; units = mine ++ to_end us }
    ∷ next_stretches (place + length (joined (mine ++ to_end us))) (before ++ (mine ++ to_end us)) (from_end us)
unfolding stretches_from to_end from_end next_stretches
parted [] place before mine = ap (λ (l : Units). record { place = place; before = before; units = l } ∷ []) (sym (append-nil mine))
parted (u ∷ us) place before mine =
    elim (cases_Bool (is_end (value_of u))) [
      | inl on ↦ rw (on, append-nil mine) refl
      | inr off ↦ rw (off, sym (append_assoc mine (u ∷ []) (to_end us))) (parted us place before (mine ++ u ∷ []))
    ]

pub units_parted : (us : Units) → us ≡ to_end us ++ from_end us
unfolding to_end from_end
units_parted [] = refl
units_parted (u ∷ us) = elim (cases_Bool (is_end (value_of u))) [ inl on ↦ rw on refl | inr off ↦ rw off (ap (λ (l : Units). u ∷ l) (units_parted us)) ]

pub parted_bytes : (us : Units) → joined us ≡ joined (to_end us) ++ joined (from_end us)
parted_bytes us = ap joined (units_parted us) ∙ joined-append (to_end us) (from_end us)

from_are : (us : Units) → AreUnits us → AreUnits (from_end us)
from_are us are = are_behind (to_end us) (from_end us) (subst AreUnits (units_parted us) are)

-- the bytes behind the four of an end code
behind_code : Units → List ℕ
behind_code [] = []
behind_code (e ∷ later) = drop 4 e ++ joined later

follows_by : (us : Units) → following true us ≡ behind_code (from_end us)
unfolding following from_end behind_code
follows_by [] = refl
follows_by (u ∷ us) =
    elim (cases_Bool (is_end (value_of u))) [
      | inl on ↦ rw on refl
      | inr off ↦ rw off (follows_by us)
    ]

-- the first unit is an end code
abbrev FirstEnds : Units → Type 0
FirstEnds [] = Unit {0}
FirstEnds (e ∷ later) = is_end (value_of e) ≡ true

-- ---- where nothing is left

ended_twice : (m : Mending) (o : Option (List ℕ)) → m.strand ≡ o → strand_ended (ended_by o m) ≡ ended_by o m
ended_twice m None e = ap (λ (x : Option (List ℕ)). ended_by x m) e
ended_twice m (Some []) e = ap (λ (x : Option (List ℕ)). ended_by x m) e
ended_twice m (Some (b ∷ r)) e = refl

pub over_twice : (t : Tally) → stretch_ended (stretch_ended t) ≡ stretch_ended t
over_twice t = ap (λ (m : Mending). record t { made = m }) (ended_twice t.made t.made.strand refl)

pub nothing_left : (t : Tally) (at : ℕ) (before : Units) → behind_stretches t (stretches_at at before []) ≡ stretch_ended t
unfolding cut stretches_from behind_stretches grouped with_pieces with_all placed
nothing_left t at before = refl

-- ---- the first stretch, and the text that follows it

-- behind what is at an end, nothing more is made of no text
none_more : (t z : Tally) (at : ℕ) (before : Units) → z ≡ stretch_ended t → behind_stretches z (stretches_at at before []) ≡ z
none_more t z at before e = nothing_left z at before ∙ ap stretch_ended e ∙ over_twice t ∙ sym e

-- the text behind an end code is what stands behind its four bytes, and the units behind it
next_cut : (e : List ℕ) (later : Units) → AreUnits (e ∷ later) → cut 0 (drop 4 e ++ joined later) ≡ (drop 4 e, later)
next_cut e later are =
    let clear : Clear 0 (drop 4 e) (joined later) = λ i le lt. subst (λ (x : List ℕ). begins_code x ≡ false) (dropped e (joined later) i are.0) (are.2 (suc (suc (suc (suc i)))) (omega arith) (omega (arith, lt, length-drop 4 e, are.0))) in
    let cuts : Cuts (drop 4 e ++ joined later) (drop 4 e) later = record { whole = refl; front_clear = clear; are_units = are.3 } in
    cuts_is (drop 4 e ++ joined later) (drop 4 e) later cuts
  where
    dropped : (e rest : List ℕ) (i : ℕ) → 4 ≤ length e → drop (suc (suc (suc (suc i)))) (e ++ rest) ≡ drop i (drop 4 e ++ rest)
    dropped (a ∷ b ∷ c ∷ v ∷ w) rest i le = refl
    dropped _ rest i le = absurd (omega (arith, le))

-- the stretches behind an end code are those of the text that follows it
same_next : (e : List ℕ) (later : Units) (at place : ℕ) (before : Units) → AreUnits (e ∷ later) → at + length (drop 4 e) ≡ place + length e
    → stretches_at at before (drop 4 e ++ joined later) ≡ stretches_from (place + length e) before [] later
same_next e later at place before are sum =
    ap (λ (x : List ℕ × Units). stretches_from (at + length x.0) before [] x.1) (next_cut e later are) ∙ ap (λ (n : ℕ). stretches_from n before [] later) sum

-- units without end codes are those before the first one, and those of the text that follows it
ends_parted : (us : Units) → without_ends us ≡ to_end us ++ without_ends (from_end us)
unfolding without_ends to_end from_end
ends_parted [] = refl
ends_parted (u ∷ us) =
    elim (cases_Bool (is_end (value_of u))) [
      | inl on ↦ rw (on, on) refl
      | inr off ↦ rw off (ap (λ (l : Units). u ∷ l) (ends_parted us))
    ]

first_ends : (us : Units) → FirstEnds (from_end us)
unfolding from_end
first_ends [] = tt
first_ends (u ∷ us) = elim (cases_Bool (is_end (value_of u))) [ inl on ↦ rw on on | inr off ↦ rw off (first_ends us) ]

next_units : (fe : Units) → AreUnits fe → FirstEnds fe → without_ends fe ≡ without_ends (cut 0 (behind_code fe)).1
unfolding without_ends behind_code cut
next_units [] are on = refl
next_units (e ∷ later) are on = rw on (ap (λ (x : List ℕ × Units). without_ends x.1) (sym (next_cut e later are)))

pub units_follow : (text : List ℕ) → without_ends (cut 0 text).1 ≡ to_end (cut 0 text).1 ++ without_ends (cut 0 (following_in true text)).1
units_follow text =
    let us = (cut 0 text).1 in
    ends_parted us
    ∙ ap (λ (l : Units). to_end us ++ l) (next_units (from_end us) (from_are us (cut_cuts text).are_units) (first_ends us) ∙ ap (λ (x : List ℕ). without_ends (cut 0 x).1) (sym (follows_by us)))

-- what is made behind the first stretch
goes_on : (fe : Units) (t z : Tally) (at place : ℕ) (before : Units) → AreUnits fe → z ≡ stretch_ended t
    → at + length (behind_code fe) ≡ place + length (joined fe) → behind_stretches z (next_stretches place before fe) ≡ behind_stretches z (stretches_at at before (behind_code fe))
unfolding next_stretches behind_code behind_stretches
goes_on [] t z at place before are e sum = sym (none_more t z at before e)
goes_on (c ∷ later) t z at place before are e sum =
    let four : 4 ≤ length c = are.0 in
    let same = same_next c later at place before are (omega (arith, sum, four, length-append (drop 4 c) (joined later), length-append c (joined later), length-drop 4 c)) in
    ap (behind_stretches z) (sym same)

-- What is made of what is left of an input is what is made of its first stretch, and then of the text that follows that, which
-- begins where so many bytes are left.
pub first_made : (t : Tally) (at : ℕ) (before : Units) (text : List ℕ) (at' : ℕ) → at' + length (following_in true text) ≡ at + length text
    → behind_stretches t (stretches_at at before text)
    ≡ behind_stretches (behind_stretch t (stretch_at at before text)) (stretches_at at' (before ++ to_end (cut 0 text).1) (following_in true text))
unfolding behind_stretches
first_made t at before text at' sum =
    let us = (cut 0 text).1 in
    let s = stretch_at at before text in
    let cuts = cut_cuts text in
    let follows = follows_by us in
    let bytes : length text ≡ length (cut 0 text).0 + (length (joined (to_end us)) + length (joined (from_end us))) =
    ap length cuts.whole ∙ length-append (cut 0 text).0 (joined us) ∙ ap (λ (n : ℕ). length (cut 0 text).0 + n) (ap length (parted_bytes us) ∙ length-append (joined (to_end us)) (joined (from_end us))) in
    let place = s.place + length (joined (to_end us)) in
    let ends : at' + length (behind_code (from_end us)) ≡ place + length (joined (from_end us)) = omega (arith, sum, ap length follows, bytes) in
    let next = goes_on (from_end us) (finished (with_pieces (before_stretch t s.place before) (stretch_pieces s))) (behind_stretch t s) at' place (before ++ to_end us) (from_are us cuts.are_units) refl ends in
    ap (behind_stretches t) (parted us s.place before []) ∙ next ∙ ap (λ (x : List ℕ). behind_stretches (behind_stretch t s) (stretches_at at' (before ++ to_end us) x)) (sym follows)

-- what follows a text's first stretch is shorter than the text, where that has a byte
pub all_follows : (text : List ℕ) → following_in true text ≡ text → text ≡ []
unfolding behind_code
all_follows text same =
    let us = (cut 0 text).1 in
    let cuts = cut_cuts text in
    let bytes : length text ≡ length (cut 0 text).0 + (length (joined (to_end us)) + length (joined (from_end us))) =
    ap length cuts.whole ∙ length-append (cut 0 text).0 (joined us) ∙ ap (λ (n : ℕ). length (cut 0 text).0 + n) (ap length (parted_bytes us) ∙ length-append (joined (to_end us)) (joined (from_end us))) in
    none_by text (from_end us) (from_are us cuts.are_units) (sym same ∙ follows_by us) (omega (arith, bytes))
  where
    none_by : (text : List ℕ) (fe : Units) → AreUnits fe → text ≡ behind_code fe → length (joined fe) ≤ length text → text ≡ []
    none_by text [] are e le = e
    none_by text (c ∷ later) are e le = absurd (omega (arith, are.0, le, ap length e, length-append (drop 4 c) (joined later), length-append c (joined later), length-drop 4 c))

-- the text that follows is shorter
behind_less : (us : Units) → AreUnits us → length (behind_code us) ≤ length (joined us) - 1
unfolding behind_code
behind_less [] are = omega arith
behind_less (e ∷ later) are = omega (arith, are.0, length-append (drop 4 e) (joined later), length-append e (joined later), length-drop 4 e)

pub follows_less : (text : List ℕ) → length (following_in true text) ≤ length text - 1
follows_less text =
    let us = (cut 0 text).1 in
    let less = behind_less (from_end us) (from_are us (cut_cuts text).are_units) in
    let follows = ap length (follows_by us) in
    let all = ap length (cut_cuts text).whole ∙ length-append (cut 0 text).0 (joined us) in
    let parts = ap length (parted_bytes us) in
    omega (arith, less, follows, all, parts, length-append (joined (to_end us)) (joined (from_end us)))
