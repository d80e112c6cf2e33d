-- The pieces of units, as lists of units; and spans, of which each but the first begins with an entry.
use Rattle.std.proofs.Common.{◌≡◌, ℕ, ◌≤◌, Bool, true, false, List, [], ◌∷◌, ◌++◌, length, map, inl, inr, refl, sym, ap, subst, ◌∙◌, append_assoc, append-nil, arith}
use Rattle.std.specs.Prelude.{nat_eq, ◌||◌, if◌then◌else◌}
use Rattle.std.proofs.lemmas.Bool.{cases_Bool, both_ways, eqb-true, or_right}
use Rattle.std.proofs.Math.Bool.{or-false, or_assoc}
use Rattle.m2v_model.specs.declared.phase.Phase.{Phase}
use Rattle.m2v_model.specs.declared.phase.Phase.TheVariants.{Before, Headers, Picture}
use Rattle.m2v_model.specs.Units.{Units, joined, AreUnits}
use Rattle.m2v_model.specs.Streams.{value_of}
use Rattle.m2v_model.specs.Pieces.{phase_after, begins_piece, is_end, piece_of, grouped}
use Rattle.m2v_model.proofs.CutLaws.{joined-append, cut_units, are_before, are_behind}
use Rattle.m2v_model.proofs.ShiftLaws.{NoEnds}
use Rattle.m2v_law_group.specs.Groups.{is_picture, is_sequence, is_group, has_picture, has_sequence, group_headers}
use Rattle.m2v_law_group.proofs.Lists.{or_parts}
use Rattle.m2v_law_seam.specs.Spans.{units_of, units_in, has_group, is_entry}

-- ---- lists of lists of units

-- all units of them
abbrev pub flat : List Units → Units
flat [] = []
flat (x ∷ q) = x ++ flat q

pub flat_append : (q r : List Units) → flat (q ++ r) ≡ flat q ++ flat r
flat_append [] r = refl
flat_append (x ∷ q) r = ap (λ (l : Units). x ++ l) (flat_append q r) ∙ sym (append_assoc x (flat q) (flat r))

-- no unit begins a piece
abbrev pub Plain : Units → Type 0
Plain [] = Unit {0}
Plain (u ∷ us) = (begins_piece (value_of u) ≡ false) × Plain us

plain_more : (us : Units) (u : List ℕ) → Plain us → begins_piece (value_of u) ≡ false → Plain (us ++ u ∷ [])
plain_more [] u p b = (b, tt)
plain_more (v ∷ us) u p b = (p.0, plain_more us u p.1 b)

-- units that begin a piece, and if with a picture no other one
abbrev pub BeginsOne : Units → Type 0
BeginsOne [] = ⊥
BeginsOne (v ∷ vs) = (begins_piece (value_of v) ≡ true) × (is_picture v ≡ true → Plain vs)

abbrev pub AllBegin : List Units → Type 0
AllBegin [] = Unit {0}
AllBegin (x ∷ q) = BeginsOne x × AllBegin q

-- each but the last one has a picture
abbrev pub Full : List Units → Type 0
Full [] = Unit {0}
Full (x ∷ []) = Unit {0}
Full (x ∷ y ∷ q) = (has_picture x ≡ true) × Full (y ∷ q)

pub picture_last : (us : Units) (u : List ℕ) → is_picture u ≡ true → has_picture (us ++ u ∷ []) ≡ true
unfolding has_picture
picture_last [] u e = rw e refl
picture_last (v ∷ us) u e = or_right (is_picture v) (has_picture (us ++ u ∷ [])) (picture_last us u e)

front_step : (u : List ℕ) (us vs : Units) (b : Bool) → is_picture u ≡ b → (has_picture us ≡ true → has_picture (us ++ vs) ≡ true) → has_picture (u ∷ us) ≡ true → has_picture (u ∷ (us ++ vs)) ≡ true
unfolding has_picture
front_step u us vs true e ih h = rw e refl
front_step u us vs false e ih h = or_right (is_picture u) (has_picture (us ++ vs)) (ih (rw e at h))

pub picture_front : (us vs : Units) → has_picture us ≡ true → has_picture (us ++ vs) ≡ true
unfolding has_picture
picture_front [] vs h = absurd cc
picture_front (u ∷ us) vs h = front_step u us vs (is_picture u) refl (picture_front us vs) h

-- behind a picture no unit begins a piece
abbrev pub Quiet : Bool → Units → Type 0
Quiet seen [] = Unit {0}
Quiet seen (u ∷ us) = (seen ≡ true → begins_piece (value_of u) ≡ false) × Quiet (seen || is_picture u) us

-- each piece has a unit
abbrev pub AllSome : List Units → Type 0
AllSome [] = Unit {0}
AllSome (x ∷ q) = (1 ≤ length x) × AllSome q

abbrev pub AllQuiet : List Units → Type 0
AllQuiet [] = Unit {0}
AllQuiet (x ∷ q) = Quiet false x × AllQuiet q

quiet_more : (seen : Bool) (us : Units) (u : List ℕ) → Quiet seen us → ((seen || has_picture us) ≡ true → begins_piece (value_of u) ≡ false) → Quiet seen (us ++ u ∷ [])
unfolding has_picture
quiet_more seen [] u q h = (λ on. h (or-false seen ∙ on), tt)
quiet_more seen (v ∷ us) u q h = (q.0, quiet_more (seen || is_picture v) us u q.1 (λ on. h (sym (or_assoc seen (is_picture v) (has_picture us)) ∙ on)))

picture_none : (us : Units) (u : List ℕ) → has_picture us ≡ false → is_picture u ≡ false → has_picture (us ++ u ∷ []) ≡ false
unfolding has_picture
picture_none [] u h off = rw off refl
picture_none (v ∷ us) u h off =
    let p = or_parts (is_picture v) (has_picture us) h in
    rw (p.0) (picture_none us u p.1 off)

picture_off : (u : List ℕ) (us : Units) → has_picture (u ∷ us) ≡ false → is_picture u ≡ false
unfolding has_picture
picture_off u us h = (or_parts (is_picture u) (has_picture us) h).0

-- each is units
abbrev pub AllUnits : List Units → Type 0
AllUnits [] = Unit {0}
AllUnits (x ∷ q) = AreUnits x × AllUnits q

pub all_units : (q : List Units) → AreUnits (flat q) → AllUnits q
all_units [] are = tt
all_units (x ∷ q) are = (are_before x (flat q) are, all_units q (are_behind x (flat q) are))

-- ---- the pieces of units

-- those of units, behind the first ones of a piece
record PiecedFrom (phase : Phase) (x : List ℕ) (xs us : Units) : Type 0 where
  first : Units
  q : List Units
  whole : us ≡ first ++ flat q
  pieces : grouped phase (joined (x ∷ xs)) us ≡ map joined ((x ∷ (xs ++ first)) ∷ q)
  own : is_picture x ≡ true → Plain (xs ++ first)
  later : AllBegin q
  full : Full ((x ∷ (xs ++ first)) ∷ q)
  quiet : AllQuiet ((x ∷ (xs ++ first)) ∷ q)

-- before its picture a piece doesn't begin with one
abbrev IsOpen : Phase → List ℕ → Units → Type 0
IsOpen Before x xs = ⊥
IsOpen Headers x xs = (has_picture (x ∷ xs) ≡ false) × Quiet false (x ∷ xs)
IsOpen Picture x xs = (is_picture x ≡ true → Plain xs) × (has_picture (x ∷ xs) ≡ true) × Quiet false (x ∷ xs)

some_piece : (x : List ℕ) (rest : List ℕ) → 1 ≤ length x → piece_of (x ++ rest) ≡ (x ++ rest) ∷ []
some_piece [] rest le = absurd (omega arith)
some_piece (b ∷ x) rest le = refl

pub joined_one : (x : List ℕ) (xs : Units) (u : List ℕ) → joined (x ∷ xs) ++ u ≡ joined (x ∷ (xs ++ u ∷ []))
joined_one x xs u = append_assoc x (joined xs) u ∙ ap (λ (l : List ℕ). x ++ l) (ap (λ (l : List ℕ). joined xs ++ l) (sym (append-nil u)) ∙ sym (joined-append xs (u ∷ [])))

last_headers : (x : List ℕ) (xs : Units) → 1 ≤ length x → grouped Headers (joined (x ∷ xs)) [] ≡ joined (x ∷ xs) ∷ []
unfolding grouped
last_headers x xs le = some_piece x (joined xs) le

last_picture : (x : List ℕ) (xs : Units) → 1 ≤ length x → grouped Picture (joined (x ∷ xs)) [] ≡ joined (x ∷ xs) ∷ []
unfolding grouped
last_picture x xs le = some_piece x (joined xs) le

headers_more : (bytes : List ℕ) (u : List ℕ) (us : Units) → is_end (value_of u) ≡ false → grouped Headers bytes (u ∷ us) ≡ grouped (phase_after Headers (value_of u)) (bytes ++ u) us
unfolding grouped
headers_more bytes u us off = rw off refl

picture_more : (bytes : List ℕ) (u : List ℕ) (us : Units) → is_end (value_of u) ≡ false → begins_piece (value_of u) ≡ false → grouped Picture bytes (u ∷ us) ≡ grouped Picture (bytes ++ u) us
unfolding grouped
picture_more bytes u us off plain = rw (off, plain) refl

picture_next : (bytes : List ℕ) (u : List ℕ) (us : Units) → is_end (value_of u) ≡ false → begins_piece (value_of u) ≡ true → grouped Picture bytes (u ∷ us) ≡ bytes ∷ grouped (phase_after Headers (value_of u)) u us
unfolding grouped
picture_next bytes u us off begins = rw (off, begins) refl

shown_by : (b : Bool) → (if b then Picture else Headers) ≡ Picture → b ≡ true
shown_by true e = refl
shown_by false e = absurd cc

is_shown : (u : List ℕ) → phase_after Headers (value_of u) ≡ Picture → is_picture u ≡ true
unfolding phase_after
is_shown u e = shown_by (is_picture u) e

no_picture : has_picture [] ≡ false
unfolding has_picture
no_picture = refl

none_shown : (b : Bool) → (if b then Picture else Headers) ≡ Headers → b ≡ false
none_shown true e = absurd cc
none_shown false e = refl

never_before : (b : Bool) → (if b then Picture else Headers) ≡ Before → ⊥
never_before true e = absurd cc
never_before false e = absurd cc

more_quiet : (x : List ℕ) (xs : Units) (u : List ℕ) → has_picture (x ∷ xs) ≡ false → Quiet false (x ∷ xs) → Quiet false (x ∷ (xs ++ u ∷ []))
more_quiet x xs u off q = quiet_more false (x ∷ xs) u q (λ on. absurd (both_ways (has_picture (x ∷ xs)) off on))

open_more : (x : List ℕ) (xs : Units) (u : List ℕ) (phase : Phase) → has_picture (x ∷ xs) ≡ false → Quiet false (x ∷ xs) → phase_after Headers (value_of u) ≡ phase → IsOpen phase x (xs ++ u ∷ [])
unfolding phase_after
open_more x xs u Before off q e = absurd (never_before (is_picture u) e)
open_more x xs u Headers off q e = (picture_none (x ∷ xs) u off (none_shown (is_picture u) e), more_quiet x xs u off q)
open_more x xs u Picture off q e = (λ on. absurd (both_ways (is_picture x) (picture_off x xs off) on), picture_last (x ∷ xs) u (is_shown u e), more_quiet x xs u off q)

open_first : (u : List ℕ) (phase : Phase) → phase_after Headers (value_of u) ≡ phase → IsOpen phase u []
unfolding phase_after
open_first u Before e = absurd (never_before (is_picture u) e)
open_first u Headers e = (picture_none [] u no_picture (none_shown (is_picture u) e), (λ on. absurd cc, tt))
open_first u Picture e = (λ on. tt, picture_last [] u (is_shown u e), (λ on. absurd cc, tt))

pieced_on : (x : List ℕ) (xs : Units) (u : List ℕ) (us : Units) (phase next : Phase) → grouped phase (joined (x ∷ xs)) (u ∷ us) ≡ grouped next (joined (x ∷ xs) ++ u) us → PiecedFrom next x (xs ++ u ∷ []) us → PiecedFrom phase x xs (u ∷ us)
pieced_on x xs u us phase next e i = record {
  first = u ∷ i.first;
  q = i.q;
  whole = ap (λ (l : Units). u ∷ l) i.whole;
  pieces = e ∙ ap (λ (l : List ℕ). grouped next l us) (joined_one x xs u) ∙ i.pieces ∙ ap (λ (l : Units). map joined ((x ∷ l) ∷ i.q)) (append_assoc xs (u ∷ []) i.first);
  own = λ on. subst Plain (append_assoc xs (u ∷ []) i.first) (i.own on);
  later = i.later;
  full = subst (λ (l : Units). Full ((x ∷ l) ∷ i.q)) (append_assoc xs (u ∷ []) i.first) i.full;
  quiet = subst (λ (l : Units). AllQuiet ((x ∷ l) ∷ i.q)) (append_assoc xs (u ∷ []) i.first) i.quiet;
}

pieced_next : (x : List ℕ) (xs : Units) (u : List ℕ) (us : Units) (next : Phase) → IsOpen Picture x xs → begins_piece (value_of u) ≡ true → grouped Picture (joined (x ∷ xs)) (u ∷ us) ≡ joined (x ∷ xs) ∷ grouped next u us → PiecedFrom next u [] us → PiecedFrom Picture x xs (u ∷ us)
pieced_next x xs u us next own begins e i = record {
  first = [];
  q = (u ∷ i.first) ∷ i.q;
  whole = ap (λ (l : Units). u ∷ l) i.whole;
  pieces = e ∙ ap (λ (l : List ℕ). joined (x ∷ xs) ∷ grouped next l us) (sym (append-nil u)) ∙ ap (λ (l : List (List ℕ)). joined (x ∷ xs) ∷ l) i.pieces
      ∙ ap (λ (l : Units). map joined ((x ∷ l) ∷ (u ∷ i.first) ∷ i.q)) (sym (append-nil xs));
  own = λ on. subst Plain (sym (append-nil xs)) (own.0 on);
  later = ((begins, i.own), i.later);
  full = (subst (λ (l : Units). has_picture (x ∷ l) ≡ true) (sym (append-nil xs)) own.1, i.full);
  quiet = (subst (λ (l : Units). Quiet false (x ∷ l)) (sym (append-nil xs)) own.2, i.quiet);
}

pieced_from : (us : Units) (phase : Phase) (x : List ℕ) (xs : Units) → 1 ≤ length x → AreUnits us → NoEnds us → IsOpen phase x xs → PiecedFrom phase x xs us
pieced_from us Before x xs le are n o = absurd o
pieced_from [] Headers x xs le are n o = record {
  first = [];
  q = [];
  whole = refl;
  pieces = last_headers x xs le ∙ ap (λ (l : Units). joined (x ∷ l) ∷ []) (sym (append-nil xs));
  own = λ on. absurd (both_ways (is_picture x) (picture_off x xs o.0) on);
  later = tt;
  full = tt;
  quiet = (subst (λ (l : Units). Quiet false (x ∷ l)) (sym (append-nil xs)) o.1, tt);
}
pieced_from [] Picture x xs le are n o = record {
  first = [];
  q = [];
  whole = refl;
  pieces = last_picture x xs le ∙ ap (λ (l : Units). joined (x ∷ l) ∷ []) (sym (append-nil xs));
  own = λ on. subst Plain (sym (append-nil xs)) (o.0 on);
  later = tt;
  full = tt;
  quiet = (subst (λ (l : Units). Quiet false (x ∷ l)) (sym (append-nil xs)) o.2, tt);
}
pieced_from (u ∷ us) Headers x xs le are n o =
    let next = phase_after Headers (value_of u) in
    pieced_on x xs u us Headers next (headers_more (joined (x ∷ xs)) u us n.0) (pieced_from us next x (xs ++ u ∷ []) le are.3 n.1 (open_more x xs u next o.0 o.1 refl))
pieced_from (u ∷ us) Picture x xs le are n o =
    let next = phase_after Headers (value_of u) in
    elim (cases_Bool (begins_piece (value_of u))) [
      | inl on ↦ pieced_next x xs u us next o on (picture_next (joined (x ∷ xs)) u us n.0 on) (pieced_from us next u [] (omega (arith, are.0)) are.3 n.1 (open_first u next refl))
      | inr off ↦ pieced_on x xs u us Picture Picture (picture_more (joined (x ∷ xs)) u us n.0 off) (pieced_from us Picture x (xs ++ u ∷ []) le are.3 n.1 (λ on. plain_more xs u (o.0 on) off, picture_front (x ∷ xs) (u ∷ []) o.1, quiet_more false (x ∷ xs) u o.2 (λ on. off)))
    ]

begin_some : (q : List Units) → AllBegin q → AllSome q
begin_some [] h = tt
begin_some ([] ∷ q) h = absurd h.0
begin_some ((v ∷ vs) ∷ q) h = (omega arith, begin_some q h.1)

-- the pieces of units that are there
pub record Pieced (us : Units) : Type 0 where
  pub x : Units
  pub q : List Units
  pub whole : us ≡ x ++ flat q
  pub pieces : grouped Headers [] us ≡ map joined (x ∷ q)
  pub are : AllUnits (x ∷ q)
  pub later : AllBegin q
  pub full : Full (x ∷ q)
  pub quiet : AllQuiet (x ∷ q)
  pub cells : AllSome (x ∷ q)
  pub some : (v : List ℕ) × (vs : Units) × (x ≡ v ∷ vs)

pub pieced : (u : List ℕ) (us : Units) → AreUnits (u ∷ us) → NoEnds (u ∷ us) → Pieced (u ∷ us)
pieced u us are n =
    let next = phase_after Headers (value_of u) in
    let i = pieced_from us next u [] (omega (arith, are.0)) are.3 n.1 (open_first u next refl) in
    let whole : u ∷ us ≡ (u ∷ i.first) ++ flat i.q = ap (λ (l : Units). u ∷ l) i.whole in
    record {
      x = u ∷ i.first;
      q = i.q;
      whole = whole;
      pieces = headers_more [] u us n.0 ∙ ap (λ (l : List ℕ). grouped next l us) (sym (append-nil u)) ∙ i.pieces;
      are = all_units ((u ∷ i.first) ∷ i.q) (subst AreUnits whole are);
      later = i.later;
      full = i.full;
      quiet = i.quiet;
      cells = (omega arith, begin_some i.q i.later);
      some = (u, i.first, refl);
    }

-- ---- their units

pub units_joined : (q : List Units) → AllUnits q → units_in (map joined q) ≡ flat q
unfolding units_in
units_joined [] are = refl
units_joined (x ∷ q) are = ap (λ (l : Units). l ++ units_in (map joined q)) (cut_units x are.0) ∙ ap (λ (l : Units). x ++ l) (units_joined q are.1)

-- ---- entries

-- a unit that begins no piece
pub plain_unit : (u : List ℕ) → begins_piece (value_of u) ≡ false → (is_picture u ≡ false) × (is_sequence u ≡ false) × (is_group u ≡ false)
unfolding begins_piece
plain_unit u off =
    let d = or_parts (is_picture u || is_sequence u || nat_eq (value_of u) 0xB7) (is_group u) off in
    let c = or_parts (is_picture u || is_sequence u) (nat_eq (value_of u) 0xB7) d.0 in
    let a = or_parts (is_picture u) (is_sequence u) c.0 in
    (a.0, a.1, d.1)

plain_none : (us : Units) → Plain us → (has_sequence us ≡ false) × (group_headers us ≡ 0)
unfolding has_sequence group_headers
plain_none [] p = (refl, refl)
plain_none (u ∷ us) p =
    let i = plain_none us p.1 in
    let off = plain_unit u p.0 in
    (rw (off.1) i.0, rw (off.2) (omega (arith, i.1)))

-- a piece behind others that is an entry doesn't begin with a picture
pub entry_other : (v : List ℕ) (vs : Units) → AreUnits (v ∷ vs) → BeginsOne (v ∷ vs) → is_entry (joined (v ∷ vs)) ≡ true → is_picture v ≡ false
unfolding has_sequence group_headers
entry_other v vs are b e = elim (cases_Bool (is_picture v)) [
  | inl on ↦
      let p = plain_none vs (b.1 on) in
      let zero = eqb-true (value_of v) 0x00 on in
      let s : is_sequence v ≡ false = ap (λ (n : ℕ). nat_eq n 0xB3) zero in
      let g : is_group v ≡ false = ap (λ (n : ℕ). nat_eq n 0xB8) zero in
      let same : units_of (joined (v ∷ vs)) ≡ v ∷ vs = cut_units (v ∷ vs) are in
      let h : (has_sequence (v ∷ vs) || has_group (v ∷ vs)) ≡ true = subst (λ (l : Units). (has_sequence l || has_group l) ≡ true) same e in
      let wrong : false ≡ true = rw (s, g, p.0, p.1) at h in
      absurd cc
  | inr off ↦ off
]
