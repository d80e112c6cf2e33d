-- Pieces that each have a picture, and what they leave of a search.
use Rattle.std.proofs.Common.{◌≡◌, ℕ, zero, suc, ◌+◌, ◌-◌, ◌<◌, ◌≤◌, Bool, true, false, List, [], ◌∷◌, ◌++◌, length, take, inl, inr, refl, sym, ap, subst, ◌∙◌, append_assoc, arith}
use Rattle.std.specs.Prelude.{nat_eq, not, ◌&&◌, ◌||◌, if◌then◌else◌}
use Rattle.std.proofs.lemmas.Bool.{cases_Bool, eqb-true, or_parts}
use Rattle.std.proofs.Math.Bool.{or_assoc, or-false, or-true}
use Rattle.std.proofs.lemmas.List.{append-nil, length-append, take_at}
use Rattle.m2v_model.specs.Units.{Units, cut, joined}
use Rattle.m2v_model.specs.Streams.{value_of}
use Rattle.m2v_model.specs.Pieces.{begins_piece, is_end}
use Rattle.m2v_model.proofs.CutLaws.{joined-append}
use Rattle.m2v_model.proofs.ShiftLaws.{BeginsPiece, NoEnds}
use Rattle.m2v_law_group.specs.Groups.{is_picture, is_sequence, is_group, has_picture, has_sequence, group_headers, to_end, from_last_sequence, up_to_piece, before_group, from_group}
use Rattle.m2v_cut.specs.Answers.{units_of, groups_of, of_pieces}
use Rattle.m2v_cut.specs.Progress.{bytes_of, all_bytes, all_groups, are_some}
use Rattle.m2v_cut.proofs.Shapes.{has_begin, IsPictured, Shape, AreEnds, Follows, Split, Splits}

-- ---- units without an end code

pub to_end_none : (vs ends : Units) → NoEnds vs → AreEnds ends → to_end (vs ++ ends) ≡ vs
unfolding to_end
to_end_none [] [] n e = refl
to_end_none [] (u ∷ us) n e = rw e.0 refl
to_end_none (v ∷ vs) ends n e = rw n.0 (ap (λ (l : Units). v ∷ l) (to_end_none vs ends n.1 e))

pub split_units : (p : List ℕ) (ps : List (List ℕ)) (us rest : Units) → (s : Split p ps us rest) → units_of p ≡ s.vs
split_units p ps us rest s = ap (λ (x : List ℕ × Units). to_end x.1) s.units ∙ to_end_none s.vs s.ends s.no_ends s.at_end

pub split_bytes : (p : List ℕ) (ps : List (List ℕ)) (us rest : Units) → (s : Split p ps us rest) → bytes_of p ≡ joined s.vs
split_bytes p ps us rest s =
    ap (λ (l : Units). take (length (joined l)) p) (split_units p ps us rest s)
    ∙ ap (take (length (joined s.vs))) (s.whole ∙ joined-append s.vs s.ends)
    ∙ take_at (joined s.vs) (joined s.ends) (length (joined s.vs)) refl

pub split_groups : (p : List ℕ) (ps : List (List ℕ)) (us rest : Units) → (s : Split p ps us rest) → groups_of p ≡ group_headers s.vs
split_groups p ps us rest s = ap group_headers (split_units p ps us rest s)

-- ---- pieces that have a picture each

-- headers and a picture
pub record IsFull (vs : Units) : Type 0 where
  pub shape : Shape vs
  pub some : shape.tail ≡ [] → ⊥

pub record Full (p : List ℕ) (us rest : Units) : Type 0 where
  pub vs : Units
  pub is : us ≡ vs ++ rest
  pub units : units_of p ≡ vs
  pub bytes : bytes_of p ≡ joined vs
  pub whole : p ≡ joined vs
  pub full : IsFull vs
  pub begins : BeginsPiece vs

abbrev pub Fulls : List (List ℕ) → Units → Type 0
Fulls [] us = us ≡ []
Fulls (p ∷ ps) us = (rest : Units) × Full p us rest × Fulls ps rest

-- pieces before others
pub record Before (first others : List (List ℕ)) (us : Units) : Type 0 where
  pub front : Units
  pub behind : Units
  pub is : us ≡ front ++ behind
  pub whole : of_pieces first ≡ joined front
  pub own : Splits first front
  pub fulls : Fulls first front
  pub splits : Splits others behind

-- a piece before others and others behind it
split_on : (p q : List ℕ) (qs ps : List (List ℕ)) (us rest front : Units) → (s : Split p (q ∷ qs) us rest) → Follows ps (s.shape).tail s.ends → Split p ps (s.vs ++ front) front
split_on p q qs ps us rest front s f = record { own = s.own; is = refl; follows = f }

split_whole : (p q : List ℕ) (qs : List (List ℕ)) (us rest : Units) → (s : Split p (q ∷ qs) us rest) → p ≡ joined s.vs
split_whole p q qs us rest s = s.whole ∙ ap (λ (e : Units). joined (s.vs ++ e)) s.follows.1 ∙ ap joined (append-nil s.vs)

split_full : (p q : List ℕ) (qs : List (List ℕ)) (us rest front : Units) → (s : Split p (q ∷ qs) us rest) → Full p (s.vs ++ front) front
split_full p q qs us rest front s = record {
  vs = s.vs;
  is = refl;
  units = split_units p (q ∷ qs) us rest s;
  bytes = split_bytes p (q ∷ qs) us rest s;
  whole = split_whole p q qs us rest s;
  full = record { shape = s.shape; some = s.follows.0 };
  begins = s.begins;
}

pub before_split : (first : List (List ℕ)) (q : List ℕ) (qs : List (List ℕ)) (us : Units) → Splits (first ++ q ∷ qs) us → Before first (q ∷ qs) us
before_split [] q qs us s = record { front = []; behind = us; is = refl; whole = refl; own = refl; fulls = refl; splits = s }
before_split (p ∷ []) q qs us s =
    let one : Split p (q ∷ qs) us s.0 = s.1 in
    record {
      front = one.vs ++ [];
      behind = s.0;
      is = one.is ∙ ap (λ (l : Units). l ++ s.0) (sym (append-nil one.vs));
      whole = append-nil p ∙ split_whole p q qs us s.0 one ∙ ap joined (sym (append-nil one.vs));
      own = ([], split_on p q qs [] us s.0 [] one tt, refl);
      fulls = ([], split_full p q qs us s.0 [] one, refl);
      splits = s.2;
    }
before_split (p ∷ r ∷ first) q qs us s =
    let one : Split p (r ∷ (first ++ q ∷ qs)) us s.0 = s.1 in
    let more = before_split (r ∷ first) q qs s.0 s.2 in
    record {
      front = one.vs ++ more.front;
      behind = more.behind;
      is = one.is ∙ ap (λ (l : Units). one.vs ++ l) more.is ∙ sym (append_assoc one.vs more.front more.behind);
      whole = (λ i. split_whole p r (first ++ q ∷ qs) us s.0 one i ++ more.whole i) ∙ sym (joined-append one.vs more.front);
      own = (more.front, split_on p r (first ++ q ∷ qs) (r ∷ first) us s.0 more.front one one.follows, more.own);
      fulls = (more.front, split_full p r (first ++ q ∷ qs) us s.0 more.front one, more.fulls);
      splits = more.splits;
    }

-- ---- pictures and headers among units

pub picture-append : (us vs : Units) → has_picture (us ++ vs) ≡ (has_picture us || has_picture vs)
unfolding has_picture
picture-append [] vs = refl
picture-append (u ∷ us) vs = ap (λ (b : Bool). is_picture u || b) (picture-append us vs) ∙ sym (or_assoc (is_picture u) (has_picture us) (has_picture vs))

pub sequence-append : (us vs : Units) → has_sequence (us ++ vs) ≡ (has_sequence us || has_sequence vs)
unfolding has_sequence
sequence-append [] vs = refl
sequence-append (u ∷ us) vs = ap (λ (b : Bool). is_sequence u || b) (sequence-append us vs) ∙ sym (or_assoc (is_sequence u) (has_sequence us) (has_sequence vs))

pub headers-append : (us vs : Units) → group_headers (us ++ vs) ≡ group_headers us + group_headers vs
unfolding group_headers
headers-append [] vs = omega arith
headers-append (u ∷ us) vs = omega (arith, headers-append us vs)

-- no unit that begins a piece is a sequence, a group header or a picture
begins_which : (value : ℕ) → begins_piece value ≡ false → (nat_eq value 0x00 ≡ false) × ((nat_eq value 0xB3 ≡ false) × (nat_eq value 0xB8 ≡ false))
unfolding begins_piece
begins_which value off =
    by_case (nat_eq value 0x00) (nat_eq value 0xB3) (nat_eq value 0xB7) (nat_eq value 0xB8) off
  where
    by_case : (a b c d : Bool) → (a || b || c || d) ≡ false → (a ≡ false) × ((b ≡ false) × (d ≡ false))
    by_case true b c d e = absurd cc
    by_case false true c d e = absurd cc
    by_case false false true d e = absurd cc
    by_case false false false d e = (refl, (refl, e))

pub none_begin : (us : Units) → has_begin us ≡ false → (has_picture us ≡ false) × ((has_sequence us ≡ false) × (group_headers us ≡ 0))
unfolding has_begin has_picture has_sequence group_headers
none_begin [] off = (refl, (refl, refl))
none_begin (u ∷ us) off =
    let a = or_parts (begins_piece (value_of u)) (has_begin us) off in
    let w = begins_which (value_of u) a.0 in
    let r = none_begin us a.1 in
    rw (w.0, w.1.0, w.1.1) (r.0, (r.1.0, none r.1.1))
  where
    none : {n : ℕ} → n ≡ 0 → 0 + n ≡ 0
    none {n} e = omega (arith, e)

-- ---- where pieces end

up_none : (us ys : Units) → has_begin us ≡ false → up_to_piece (us ++ ys) ≡ us ++ up_to_piece ys
unfolding has_begin up_to_piece
up_none [] ys off = refl
up_none (u ∷ us) ys off =
    let a = or_parts (begins_piece (value_of u)) (has_begin us) off in
    rw a.0 (ap (λ (l : Units). u ∷ l) (up_none us ys a.1))

-- units before a picture stay
up_before : (us ys : Units) → has_picture ys ≡ true → up_to_piece (us ++ ys) ≡ us ++ up_to_piece ys
unfolding has_picture up_to_piece
up_before [] ys some = refl
up_before (u ∷ us) ys some =
    let e : has_picture (us ++ ys) ≡ true = picture-append us ys ∙ ap (λ (b : Bool). has_picture us || b) some ∙ or-true (has_picture us) in
    rw (e, or-true (is_picture u)) (off (begins_piece (value_of u)) (u ∷ up_to_piece (us ++ ys)) ∙ ap (λ (l : Units). u ∷ l) (up_before us ys some))
  where
    off : (b : Bool) (x : Units) → (if b && not true then [] else x) ≡ x
    off true x = refl
    off false x = refl

up_picture : (us ys : Units) → IsPictured us → (us ≡ [] → ⊥) → up_to_piece (us ++ ys) ≡ us ++ up_to_piece ys
unfolding has_picture up_to_piece
up_picture [] ys p some = absurd (some refl)
up_picture (u ∷ us) ys p some = rw p.0 (off (begins_piece (value_of u)) (u ∷ up_to_piece (us ++ ys)) ∙ ap (λ (l : Units). u ∷ l) (up_none us ys p.1))
  where
    off : (b : Bool) (x : Units) → (if b && not true then [] else x) ≡ x
    off true x = refl
    off false x = refl

tail_picture : (us ys : Units) → IsPictured us → (us ≡ [] → ⊥) → has_picture (us ++ ys) ≡ true
unfolding has_picture
tail_picture [] ys p some = absurd (some refl)
tail_picture (u ∷ us) ys p some = rw p.0 refl

pub up_full : (vs ys : Units) → IsFull vs → up_to_piece (vs ++ ys) ≡ vs ++ up_to_piece ys
up_full vs ys f =
    let s = f.shape in
    let all : vs ++ ys ≡ s.heads ++ (s.tail ++ ys) = ap (λ (l : Units). l ++ ys) s.is ∙ append_assoc s.heads s.tail ys in
    ap up_to_piece all
    ∙ up_before s.heads (s.tail ++ ys) (tail_picture s.tail ys s.pictured f.some)
    ∙ ap (λ (l : Units). s.heads ++ l) (up_picture s.tail ys s.pictured f.some)
    ∙ sym (append_assoc s.heads s.tail (up_to_piece ys))
    ∙ ap (λ (l : Units). l ++ up_to_piece ys) (sym s.is)

pub up_fulls : (ps : List (List ℕ)) (us ys : Units) → Fulls ps us → up_to_piece (us ++ ys) ≡ us ++ up_to_piece ys
up_fulls [] us ys f = ap (λ (l : Units). up_to_piece (l ++ ys)) f ∙ ap (λ (l : Units). l ++ up_to_piece ys) (sym f)
up_fulls (p ∷ ps) us ys f =
    let one : Full p us f.0 = f.1 in
    ap (λ (l : Units). up_to_piece (l ++ ys)) one.is
    ∙ ap up_to_piece (append_assoc one.vs f.0 ys)
    ∙ up_full one.vs (f.0 ++ ys) one.full
    ∙ ap (λ (l : Units). one.vs ++ l) (up_fulls ps f.0 ys f.2)
    ∙ sym (append_assoc one.vs f.0 (up_to_piece ys))
    ∙ ap (λ (l : Units). l ++ up_to_piece ys) (sym one.is)

-- headers that begin a piece are left out
pub up_headers : (ys : Units) → has_picture ys ≡ false → BeginsPiece ys → up_to_piece ys ≡ []
unfolding up_to_piece
up_headers [] none b = refl
up_headers (y ∷ ys) none b = rw (b, none) refl

-- ---- what pieces that have a picture each tell

pub fulls_groups : (ps : List (List ℕ)) (us : Units) → Fulls ps us → group_headers us ≡ all_groups ps
unfolding group_headers
fulls_groups [] us f = ap group_headers f
fulls_groups (p ∷ ps) us f =
    let one : Full p us f.0 = f.1 in
    let e : groups_of p ≡ group_headers one.vs = ap group_headers one.units in
    ap group_headers one.is ∙ headers-append one.vs f.0 ∙ (λ i. (sym e) i + fulls_groups ps f.0 f.2 i)

full_picture : (vs : Units) → IsFull vs → has_picture vs ≡ true
full_picture vs f =
    let s = f.shape in
    ap has_picture s.is ∙ picture-append s.heads s.tail ∙ (λ i. (s.none i) || (ap has_picture (sym (append-nil s.tail)) ∙ tail_picture s.tail [] s.pictured f.some) i)

pub fulls_picture : (ps : List (List ℕ)) (us : Units) → Fulls ps us → has_picture us ≡ are_some ps
unfolding has_picture
fulls_picture [] us f = ap has_picture f
fulls_picture (p ∷ ps) us f =
    let one : Full p us f.0 = f.1 in
    ap has_picture one.is ∙ picture-append one.vs f.0 ∙ ap (λ (b : Bool). b || has_picture f.0) (full_picture one.vs one.full)

pub fulls_bytes : (ps : List (List ℕ)) (us : Units) → Fulls ps us → all_bytes ps ≡ joined us
fulls_bytes [] us f = ap joined (sym f)
fulls_bytes (p ∷ ps) us f =
    let one : Full p us f.0 = f.1 in
    (λ i. (one.bytes i) ++ fulls_bytes ps f.0 f.2 i) ∙ sym (joined-append one.vs f.0) ∙ ap joined (sym one.is)

pub fulls_whole : (ps : List (List ℕ)) (us : Units) → Fulls ps us → of_pieces ps ≡ joined us
fulls_whole [] us f = ap joined (sym f)
fulls_whole (p ∷ ps) us f =
    let one : Full p us f.0 = f.1 in
    (λ i. (one.whole i) ++ fulls_whole ps f.0 f.2 i) ∙ sym (joined-append one.vs f.0) ∙ ap joined (sym one.is)

-- ---- the last sequence header

-- behind the last one of units nothing is changed by units without one
pub last_later : (us ys : Units) → has_sequence ys ≡ false → has_sequence us ≡ true → from_last_sequence (us ++ ys) ≡ from_last_sequence us ++ ys
unfolding has_sequence from_last_sequence
last_later [] ys off on = absurd cc
last_later (u ∷ us) ys off on =
    let e : has_sequence (us ++ ys) ≡ has_sequence us = sequence-append us ys ∙ ap (λ (b : Bool). has_sequence us || b) off ∙ or-false (has_sequence us) in
    elim (cases_Bool (is_sequence u && not (has_sequence us))) [
      | inl here ↦ rw (e, here) refl
      | inr there ↦ rw (e, there) (last_later us ys off (later (is_sequence u) (has_sequence us) there on))
    ]
  where
    later : (a b : Bool) → (a && not b) ≡ false → (a || b) ≡ true → b ≡ true
    later true true x y = refl
    later true false x y = absurd cc
    later false b x y = y

pub last_behind_all : (us ys : Units) → has_sequence ys ≡ true → from_last_sequence (us ++ ys) ≡ from_last_sequence ys
unfolding has_sequence from_last_sequence
last_behind_all [] ys on = refl
last_behind_all (u ∷ us) ys on =
    let e : has_sequence (us ++ ys) ≡ true = sequence-append us ys ∙ ap (λ (b : Bool). has_sequence us || b) on ∙ or-true (has_sequence us) in
    rw e (off (is_sequence u) (u ∷ (us ++ ys)) (from_last_sequence (us ++ ys))) ∙ last_behind_all us ys on
  where
    off : (a : Bool) (x y : Units) → (if a && false then x else y) ≡ y
    off true x y = refl
    off false x y = refl
