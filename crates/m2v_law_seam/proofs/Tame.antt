-- What is known of each span of a text: its units are units, no picture stands in its first piece before a sequence header, and
-- none of its later pieces has one; and its head stands before it.
use Rattle.std.proofs.Common.{◌≡◌, ℕ, ◌+◌, ◌≤◌, Bool, true, false, List, [], ◌∷◌, ◌++◌, length, map, Option, Some, None, inl, inr, refl, sym, ap, subst, ◌∙◌, append_assoc, append-nil, arith}
use Rattle.std.specs.Prelude.{nat_eq, ◌||◌, if◌then◌else◌}
use Rattle.std.proofs.lemmas.Bool.{cases_Bool, both_ways, eqb-true}
use Rattle.std.proofs.lemmas.List.{map-append}
use Rattle.m2v_model.specs.declared.phase.Phase.TheVariants.{Headers}
use Rattle.m2v_model.specs.Units.{Units, cut, joined, AreUnits}
use Rattle.m2v_model.specs.Streams.{value_of}
use Rattle.m2v_model.specs.Pieces.{is_end, grouped}
use Rattle.m2v_model.proofs.CutLaws.{cut_cuts, cut_units, are_before, are_behind}
use Rattle.m2v_model.proofs.ShiftLaws.{NoEnds}
use Rattle.m2v_law_group.specs.Groups.{is_picture, is_sequence, has_sequence, from_last_sequence}
use Rattle.m2v_law_group.proofs.Lists.{or_parts, last_found}
use Rattle.m2v_law_seam.specs.Spans.{picture_count, has_group, is_entry, waits_behind, divided, Dividing, is_extension, extensions_first, behind_extensions, head_of, Span, placed, stretches_from, stretch_spans, spans_in}
use Rattle.m2v_law_seam.specs.Strands.{has_end}
use Rattle.m2v_law_seam.specs.Reading.{BeginsSequence}
use Rattle.m2v_law_seam.proofs.Pieced.{flat, AllSome, Quiet, AllQuiet, AllUnits, pieced, units_joined}
use Rattle.m2v_law_seam.proofs.Edited.{without_middle}
use Rattle.m2v_law_seam.proofs.Same.{divided_none, divided_on, divided_off, units_more, flat_one, flat_more}
use Rattle.m2v_law_seam.proofs.There.{more_goes}

-- ---- heads

pub extensions_parts : (us : Units) → us ≡ extensions_first us ++ behind_extensions us
unfolding extensions_first behind_extensions
extensions_parts [] = refl
extensions_parts (u ∷ us) = elim (cases_Bool (is_extension u)) [ inl on ↦ rw on (ap (λ (l : Units). u ∷ l) (extensions_parts us)) | inr off ↦ rw off refl ]

pub count_one : (u : List ℕ) (us : Units) → is_picture u ≡ false → picture_count (u ∷ us) ≡ picture_count us
unfolding picture_count
count_one u us off = rw off (omega arith)

pub extensions_count : (us : Units) → picture_count (extensions_first us) ≡ 0
unfolding extensions_first picture_count
extensions_count [] = refl
extensions_count (u ∷ us) = elim (cases_Bool (is_extension u)) [
  | inl on ↦ rw on (count_one u (extensions_first us) (ap (λ (n : ℕ). nat_eq n 0x00) (eqb-true (value_of u) 0xB5 on)) ∙ extensions_count us)
  | inr off ↦ rw off refl
]

extensions_end : (us : Units) → has_end (extensions_first us) ≡ false
unfolding extensions_first has_end is_end
extensions_end [] = refl
extensions_end (u ∷ us) = elim (cases_Bool (is_extension u)) [
  | inl on ↦ rw on (rw (eqb-true (value_of u) 0xB5 on) (extensions_end us))
  | inr off ↦ rw off refl
]

pub none_last : (us : Units) → has_sequence us ≡ false → from_last_sequence us ≡ []
unfolding has_sequence from_last_sequence
none_last [] off = refl
none_last (u ∷ us) off = let p = or_parts (is_sequence u) (has_sequence us) off in rw (p.0) (none_last us p.1)

-- a head is a sequence header and units without a picture, before others and those of its span
pub record IsHead (bytes : List ℕ) (us : Units) : Type 0 where
  pub hs : Units
  pub ys : Units
  pub is : bytes ≡ joined hs
  pub are : AreUnits (hs ++ (ys ++ us))
  pub begins : BeginsSequence hs
  pub no_end : has_end hs ≡ false
  pub none : picture_count hs ≡ 0

abbrev pub HeadOf : Option (List ℕ) → Units → Type 0
HeadOf None us = Unit {0}
HeadOf (Some bytes) us = IsHead bytes us

head_by : (h : List ℕ) (w us : Units) (b : Bool) → is_sequence h ≡ true → AreUnits ((h ∷ w) ++ us) → HeadOf (if b then None else Some (joined (h ∷ extensions_first w))) us
unfolding has_end is_end
head_by h w us true is are = tt
head_by h w us false is are = record {
  hs = h ∷ extensions_first w;
  ys = behind_extensions w;
  is = refl;
  are = subst AreUnits (ap (λ (l : Units). (h ∷ l) ++ us) (extensions_parts w) ∙ append_assoc (h ∷ extensions_first w) (behind_extensions w) us) are;
  begins = is;
  no_end = rw (eqb-true (value_of h) 0xB3 is) (extensions_end w);
  none = count_one h (extensions_first w) (ap (λ (n : ℕ). nat_eq n 0x00) (eqb-true (value_of h) 0xB3 is)) ∙ extensions_count w;
}

pub head_there : (before us : Units) → AreUnits (before ++ us) → HeadOf (head_of (from_last_sequence before)) us
head_there before us are = elim (cases_Bool (has_sequence before)) [
  | inl on ↦
      let x = last_found before on in
      let own = x.h ∷ x.later in
      let rest : AreUnits (own ++ us) = are_behind x.before (own ++ us) (subst AreUnits (ap (λ (l : Units). l ++ us) x.whole ∙ append_assoc x.before own us) are) in
      subst (λ (l : Units). HeadOf (head_of l) us) (sym x.last) (head_by x.h x.later us _ x.is rest)
  | inr off ↦ subst (λ (l : Units). HeadOf (head_of l) us) (sym (none_last before off)) tt
]

-- ---- spans

-- pieces that are no entries
abbrev NoEntries : List Units → Type 0
NoEntries [] = Unit {0}
NoEntries (x ∷ q) = (is_entry (joined x) ≡ false) × NoEntries q

pub record Tame (s : Span) : Type 0 where
  pub x : Units
  pub q : List Units
  pub pieces : s.pieces ≡ map joined (x ∷ q)
  pub are : AreUnits (flat (x ∷ q))
  pub some : 1 ≤ length x
  pub quiet : Quiet false x
  pub others : has_sequence (flat q) ≡ false
  pub head : HeadOf s.head (flat (x ∷ q))

abbrev pub AllTame : List Span → Type 0
AllTame [] = Unit {0}
AllTame (s ∷ ss) = Tame s × AllTame ss

pub sequence_append : (us vs : Units) → has_sequence us ≡ false → has_sequence vs ≡ false → has_sequence (us ++ vs) ≡ false
unfolding has_sequence
sequence_append [] vs a b = b
sequence_append (u ∷ us) vs a b = let p = or_parts (is_sequence u) (has_sequence us) a in rw (p.0) (sequence_append us vs p.1 b)

none_entries : (q : List Units) → AllUnits q → NoEntries q → has_sequence (flat q) ≡ false
unfolding has_sequence
none_entries [] are n = refl
none_entries (x ∷ q) are n =
    let own : (has_sequence x || has_group x) ≡ false = subst (λ (l : Units). (has_sequence l || has_group l) ≡ false) (cut_units x are.0) n.0 in
    sequence_append x (flat q) (or_parts (has_sequence x) (has_group x) own).0 (none_entries q are.1 n.1)

tame_span : (x : Units) (q : List Units) (place : ℕ) (before : Units) → AreUnits (before ++ flat (x ∷ q)) → AllUnits q → 1 ≤ length x → Quiet false x → NoEntries q → Tame (record { place = place; head = head_of (from_last_sequence before); pieces = map joined (x ∷ q) })
tame_span x q place before are each some quiet none = record {
  x = x;
  q = q;
  pieces = refl;
  are = are_behind before (flat (x ∷ q)) are;
  some = some;
  quiet = quiet;
  others = none_entries q each none;
  head = head_there before (flat (x ∷ q)) are;
}

entries_more : (q : List Units) (z : Units) → NoEntries q → is_entry (joined z) ≡ false → NoEntries (q ++ z ∷ [])
entries_more [] z n off = (off, tt)
entries_more (x ∷ q) z n off = (n.0, entries_more q z n.1 off)

tame_last : (y : Units) (ys : List Units) (place : ℕ) (before : Units) → AreUnits (before ++ flat (y ∷ ys)) → AllUnits ys → 1 ≤ length y → Quiet false y → NoEntries ys → AllTame (placed place before (map joined (y ∷ ys) ∷ []))
unfolding placed
tame_last y ys place before are each some quiet none = (tame_span y ys place before are each some quiet none, tt)

tame_next : (y : Units) (ys : List Units) (place : ℕ) (before : Units) (ss : List (List (List ℕ))) → AreUnits (before ++ flat (y ∷ ys)) → AllUnits (y ∷ ys) → 1 ≤ length y → Quiet false y → NoEntries ys
    → ((at : ℕ) → AllTame (placed at (before ++ flat (y ∷ ys)) ss)) → AllTame (placed place before (map joined (y ∷ ys) ∷ ss))
unfolding placed
tame_next y ys place before ss are each some quiet none later =
    (tame_span y ys place before are each.1 some quiet none, subst (λ (l : Units). AllTame (placed (place + length (joined (map joined (y ∷ ys)))) (before ++ l) ss)) (sym (units_joined (y ∷ ys) each)) (later (place + length (joined (map joined (y ∷ ys))))))

-- a test by which each entry begins a span
abbrev pub IsByEntries : (ℕ → List ℕ → Bool) → Type 0
IsByEntries t = (w : ℕ) (p : List ℕ) → is_entry p ≡ true → t w p ≡ true

none_entry : (t : ℕ → List ℕ → Bool) → IsByEntries t → (w : ℕ) (p : List ℕ) → t w p ≡ false → is_entry p ≡ false
none_entry t by w p off = elim (cases_Bool (is_entry p)) [ inl on ↦ absurd (both_ways (t w p) off (by w p on)) | inr none ↦ none ]

tame_walk : (t : ℕ → List ℕ → Bool) → IsByEntries t → (q : List Units) (y : Units) (ys : List Units) (place : ℕ) (before : Units) (w : ℕ) → AreUnits (before ++ (flat (y ∷ ys) ++ flat q)) → AllUnits (y ∷ ys) → AllUnits q → AllSome (y ∷ q) → AllQuiet (y ∷ q) → NoEntries ys
    → AllTame (placed place before (divided t w (map joined (y ∷ ys)) (map joined q)))
tame_walk t by [] y ys place before w are mine each some quiet none =
    subst (λ (l : List (List (List ℕ))). AllTame (placed place before l)) (sym (divided_none t w (map joined (y ∷ ys))))
    (tame_last y ys place before (subst (λ (l : Units). AreUnits (before ++ l)) (append-nil (flat (y ∷ ys))) are) mine.1 some.0 quiet.0 none)
tame_walk t by (z ∷ q) y ys place before w are mine each some quiet none =
    elim (cases_Bool (t w (joined z))) [
      | inl on ↦
          let front : AreUnits (before ++ flat (y ∷ ys)) = are_before (before ++ flat (y ∷ ys)) (flat (z ∷ q)) (subst AreUnits (sym (append_assoc before (flat (y ∷ ys)) (flat (z ∷ q)))) are) in
          let next : AreUnits ((before ++ flat (y ∷ ys)) ++ (flat (z ∷ []) ++ flat q)) = subst AreUnits (sym (append_assoc before (flat (y ∷ ys)) (flat (z ∷ q))) ∙ ap (λ (l : Units). (before ++ flat (y ∷ ys)) ++ l) (sym (flat_one z q))) are in
          subst (λ (l : List (List (List ℕ))). AllTame (placed place before l)) (sym (divided_on t w (map joined (y ∷ ys)) (joined z) (map joined q) on))
          (tame_next y ys place before (divided t (waits_behind w (joined z)) (joined z ∷ []) (map joined q)) front mine some.0 quiet.0 none
          (λ at. tame_walk t by q z [] at (before ++ flat (y ∷ ys)) (waits_behind w (joined z)) next (each.0, tt) each.1 some.1 quiet.1 tt))
      | inr off ↦
          let shape : map joined ((y ∷ ys) ++ z ∷ []) ≡ map joined (y ∷ ys) ++ joined z ∷ [] = map-append joined (y ∷ ys) (z ∷ []) in
          let all : AreUnits (before ++ (flat ((y ∷ ys) ++ z ∷ []) ++ flat q)) = subst (λ (l : Units). AreUnits (before ++ l)) (sym (flat_more (y ∷ ys) z q)) are in
          subst (λ (l : List (List (List ℕ))). AllTame (placed place before l)) (sym (divided_off t w (map joined (y ∷ ys)) (joined z) (map joined q) off))
          (subst (λ (l : List (List ℕ)). AllTame (placed place before (divided t (waits_behind w (joined z)) l (map joined q)))) shape
          (tame_walk t by q y (ys ++ z ∷ []) place before (waits_behind w (joined z)) all (units_more (y ∷ ys) z mine each.0) each.1 (some.0, some.1.1) (quiet.0, quiet.1.1) (entries_more ys z none (none_entry t by w (joined z) off))))
    ]

-- ---- stretches

-- a way of dividing by a test
abbrev pub by_test : (ℕ → List ℕ → Bool) → Dividing
by_test t ps = divided t 0 [] ps

pub spans_first : (t : ℕ → List ℕ → Bool) (x : Units) (q : List Units) → by_test t (map joined (x ∷ q)) ≡ divided t (waits_behind 0 (joined x)) (map joined (x ∷ [])) (map joined q)
unfolding divided
spans_first t x q = elim (cases_Bool (t 0 (joined x))) [ inl on ↦ rw on refl | inr off ↦ rw off refl ]

none_tame : (t : ℕ → List ℕ → Bool) (place : ℕ) (before : Units) → AllTame (stretch_spans (by_test t) (record { place = place; before = before; units = [] }))
unfolding grouped divided placed
none_tame t place before = tt

stretch_tame : (t : ℕ → List ℕ → Bool) → IsByEntries t → (place : ℕ) (before mine : Units) → AreUnits (before ++ mine) → NoEnds mine → AllTame (stretch_spans (by_test t) (record { place = place; before = before; units = mine }))
stretch_tame t by place before [] are n = none_tame t place before
stretch_tame t by place before (u ∷ us) are n =
    let i = pieced u us (are_behind before (u ∷ us) are) n in
    let shape : by_test t (grouped Headers [] (u ∷ us)) ≡ divided t (waits_behind 0 (joined i.x)) (map joined (i.x ∷ [])) (map joined i.q) = ap (by_test t) i.pieces ∙ spans_first t i.x i.q in
    let all : AreUnits (before ++ (flat (i.x ∷ []) ++ flat i.q)) = subst AreUnits (ap (λ (l : Units). before ++ l) (i.whole ∙ sym (flat_one i.x i.q))) are in
    subst (λ (l : List (List (List ℕ))). AllTame (placed place before l)) (sym shape)
    (tame_walk t by i.q i.x [] place before (waits_behind 0 (joined i.x)) all ((i.are).0, tt) (i.are).1 i.cells i.quiet tt)

-- those of each stretch
abbrev pub AllStretches : List (List Span) → Type 0
AllStretches [] = Unit {0}
AllStretches (ss ∷ more) = AllTame ss × AllStretches more

tame_step : (t : ℕ → List ℕ → Bool) → IsByEntries t → (u : List ℕ) (us : Units) (place : ℕ) (before mine : Units) (b : Bool) → is_end (value_of u) ≡ b → AreUnits ((before ++ mine) ++ u ∷ us) → NoEnds mine
    → ((at : ℕ) (past own : Units) → AreUnits ((past ++ own) ++ us) → NoEnds own → AllStretches (map (stretch_spans (by_test t)) (stretches_from at past own us)))
    → AllStretches (map (stretch_spans (by_test t)) (stretches_from place before mine (u ∷ us)))
unfolding stretches_from
tame_step t by u us place before mine true e are n ih =
    let next : AreUnits (((before ++ mine) ++ []) ++ us) = subst (λ (l : Units). AreUnits (l ++ us)) (sym (append-nil (before ++ mine))) (without_middle (before ++ mine) (u ∷ []) us are) in
    rw e (stretch_tame t by place before mine (are_before (before ++ mine) (u ∷ us) are) n, ih (place + length (joined mine) + length u) (before ++ mine) [] next tt)
tame_step t by u us place before mine false e are n ih =
    let next : AreUnits ((before ++ (mine ++ u ∷ [])) ++ us) = subst AreUnits (sym (ap (λ (l : Units). l ++ us) (sym (append_assoc before mine (u ∷ []))) ∙ append_assoc (before ++ mine) (u ∷ []) us)) are in
    rw e (ih place before (mine ++ u ∷ []) next (more_goes mine u n e))

tame_all : (t : ℕ → List ℕ → Bool) → IsByEntries t → (us : Units) (place : ℕ) (before mine : Units) → AreUnits ((before ++ mine) ++ us) → NoEnds mine → AllStretches (map (stretch_spans (by_test t)) (stretches_from place before mine us))
unfolding stretches_from
tame_all t by [] place before mine are n = (stretch_tame t by place before mine (subst AreUnits (append-nil (before ++ mine)) are) n, tt)
tame_all t by (u ∷ us) place before mine are n = tame_step t by u us place before mine (is_end (value_of u)) refl are n (λ at past own a m. tame_all t by us at past own a m)

pub all_tame : (t : ℕ → List ℕ → Bool) → IsByEntries t → (text : List ℕ) → AllStretches (spans_in (by_test t) text)
all_tame t by text = tame_all t by (cut 0 text).1 (length (cut 0 text).0) [] [] (cut_cuts text).are_units tt
