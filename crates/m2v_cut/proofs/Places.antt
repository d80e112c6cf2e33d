-- Where a group stands among units that stand one behind another.
use Rattle.std.proofs.Common.{◌≡◌, ℕ, zero, suc, ◌+◌, ◌-◌, ◌<◌, ◌≤◌, Bool, true, false, List, [], ◌∷◌, ◌++◌, length, drop, Option, Some, None, inl, inr, refl, sym, ap, subst, ◌∙◌, append_assoc, arith}
use Rattle.std.specs.Prelude.{nat_eq, not, ◌&&◌, ◌||◌, if◌then◌else◌}
use Rattle.std.proofs.lemmas.Bool.{cases_Bool, eqb-true, or_parts}
use Rattle.std.proofs.lemmas.List.{append-nil}
use Rattle.m2v_model.specs.Units.{Units}
use Rattle.m2v_model.specs.Streams.{value_of}
use Rattle.m2v_law_group.specs.Groups.{is_picture, is_group, has_picture, group_headers, before_group, from_group, coded_pictures, next_unit, is_intra_of, is_coding_extension, begins_with, begins_intra}
use Rattle.m2v_cut.specs.Answers.{first_picture}
use Rattle.m2v_cut.proofs.Shapes.{Shape, IsPictured}
use Rattle.m2v_cut.proofs.Fulls.{IsFull, picture-append, headers-append, none_begin}

-- ---- one unit

abbrev header_in : List ℕ → ℕ
header_in u = if is_group u then 1 else 0

pub before_other : (n : ℕ) (u : List ℕ) (us : Units) → is_group u ≡ false → before_group n (u ∷ us) ≡ u ∷ before_group n us
unfolding before_group
before_other zero u us off = rw off refl
before_other (suc n) u us off = rw off refl

from_other : (n : ℕ) (u : List ℕ) (us : Units) → is_group u ≡ false → from_group n (u ∷ us) ≡ from_group n us
unfolding from_group
from_other zero u us off = rw off refl
from_other (suc n) u us off = rw off refl

before_header : (n : ℕ) (u : List ℕ) (us : Units) → is_group u ≡ true → before_group (suc n) (u ∷ us) ≡ u ∷ before_group n us
unfolding before_group
before_header n u us on = rw on refl

from_header : (n : ℕ) (u : List ℕ) (us : Units) → is_group u ≡ true → from_group (suc n) (u ∷ us) ≡ from_group n us
unfolding from_group
from_header n u us on = rw on refl

before_here : (u : List ℕ) (us : Units) → is_group u ≡ true → before_group 0 (u ∷ us) ≡ []
unfolding before_group
before_here u us on = rw on refl

from_here : (u : List ℕ) (us : Units) → is_group u ≡ true → from_group 0 (u ∷ us) ≡ u ∷ us
unfolding from_group
from_here u us on = rw on refl

pub headers_other : (u : List ℕ) (us : Units) → is_group u ≡ false → group_headers (u ∷ us) ≡ group_headers us
unfolding group_headers
headers_other u us off = rw off (none (group_headers us))
  where
    none : (n : ℕ) → 0 + n ≡ n
    none n = omega arith

pub headers_one : (u : List ℕ) (us : Units) → is_group u ≡ true → group_headers (u ∷ us) ≡ suc (group_headers us)
unfolding group_headers
headers_one u us on = rw on (one (group_headers us))
  where
    one : (n : ℕ) → 1 + n ≡ suc n
    one n = omega arith

-- ---- units behind others

-- where a group stands behind units that have few group headers
pub record Passes (n : ℕ) (us vs : Units) : Type 0 where
  pub before : before_group n (us ++ vs) ≡ us ++ before_group (n - group_headers us) vs
  pub behind : from_group n (us ++ vs) ≡ from_group (n - group_headers us) vs

pub passes : (n : ℕ) (us vs : Units) → group_headers us ≤ n → Passes n us vs
unfolding group_headers
passes n [] vs le =
    let e : n ≡ n - 0 = omega arith in
    record { before = ap (λ (k : ℕ). before_group k vs) e; behind = ap (λ (k : ℕ). from_group k vs) e }
passes n (u ∷ us) vs le = elim (cases_Bool (is_group u)) [
  | inl on ↦ header n (λ k. passes k us vs) (headers_one u us on) le on
  | inr off ↦
      let h = headers_other u us off in
      let r = passes n us vs (omega (arith, h, le)) in
      let e : n - group_headers us ≡ n - group_headers (u ∷ us) = omega (arith, h) in
      record {
        before = before_other n u (us ++ vs) off ∙ ap (λ (l : Units). u ∷ l) r.before ∙ ap (λ (k : ℕ). u ∷ (us ++ before_group k vs)) e;
        behind = from_other n u (us ++ vs) off ∙ r.behind ∙ ap (λ (k : ℕ). from_group k vs) e;
      }
]
  where
    header : (m : ℕ) → ((k : ℕ) → group_headers us ≤ k → Passes k us vs) → group_headers (u ∷ us) ≡ suc (group_headers us) → group_headers (u ∷ us) ≤ m → is_group u ≡ true → Passes m (u ∷ us) vs
    header zero ih h less on = absurd (omega (arith, h, less))
    header (suc m) ih h less on =
        let r = ih m (omega (arith, h, less)) in
        let e : m - group_headers us ≡ suc m - group_headers (u ∷ us) = omega (arith, h) in
        record {
          before = before_header m u (us ++ vs) on ∙ ap (λ (l : Units). u ∷ l) r.before ∙ ap (λ (k : ℕ). u ∷ (us ++ before_group k vs)) e;
          behind = from_header m u (us ++ vs) on ∙ r.behind ∙ ap (λ (k : ℕ). from_group k vs) e;
        }

-- a group whose header is among units, and others behind them
pub record Holds (n : ℕ) (us vs : Units) : Type 0 where
  pub before : before_group n (us ++ vs) ≡ before_group n us
  pub behind : from_group n (us ++ vs) ≡ from_group n us ++ vs
  pub head : List ℕ
  pub rest : Units
  pub is : from_group n us ≡ head ∷ rest
  pub group : is_group head ≡ true
  pub whole : us ≡ before_group n us ++ from_group n us
  pub headers : group_headers (before_group n us) ≡ n

-- behind a unit that leaves group m to be looked for
holds_on : (n m : ℕ) (u : List ℕ) (us vs : Units) → Holds m us vs → before_group n (u ∷ (us ++ vs)) ≡ u ∷ before_group m (us ++ vs) → from_group n (u ∷ (us ++ vs)) ≡ from_group m (us ++ vs)
    → before_group n (u ∷ us) ≡ u ∷ before_group m us → from_group n (u ∷ us) ≡ from_group m us → group_headers (u ∷ before_group m us) ≡ n → Holds n (u ∷ us) vs
holds_on n m u us vs r before behind b f headers = record {
  before = before ∙ ap (λ (l : Units). u ∷ l) r.before ∙ sym b;
  behind = behind ∙ r.behind ∙ ap (λ (l : Units). l ++ vs) (sym f);
  head = r.head;
  rest = r.rest;
  is = f ∙ r.is;
  group = r.group;
  whole = ap (λ (l : Units). u ∷ l) r.whole ∙ (λ i. (sym b) i ++ (sym f) i);
  headers = ap group_headers b ∙ headers;
}

pub holds : (n : ℕ) (us vs : Units) → n < group_headers us → Holds n us vs
unfolding group_headers
holds n [] vs less = absurd (omega arith)
holds n (u ∷ us) vs less = elim (cases_Bool (is_group u)) [
  | inl on ↦ header n (λ k. holds k us vs) (headers_one u us on) less on
  | inr off ↦
      let h = headers_other u us off in
      let r = holds n us vs (omega (arith, h, less)) in
      holds_on n n u us vs r (before_other n u (us ++ vs) off) (from_other n u (us ++ vs) off) (before_other n u us off) (from_other n u us off) (headers_other u (before_group n us) off ∙ r.headers)
]
  where
    header : (m : ℕ) → ((k : ℕ) → k < group_headers us → Holds k us vs) → group_headers (u ∷ us) ≡ suc (group_headers us) → m < group_headers (u ∷ us) → is_group u ≡ true → Holds m (u ∷ us) vs
    header zero ih h small on =
        let b = before_here u us on in
        let f = from_here u us on in
        record {
          before = before_here u (us ++ vs) on ∙ sym b;
          behind = from_here u (us ++ vs) on ∙ ap (λ (l : Units). l ++ vs) (sym f);
          head = u;
          rest = us;
          is = f;
          group = on;
          whole = (λ i. (sym b) i ++ (sym f) i);
          headers = ap group_headers b;
        }
    header (suc m) ih h small on =
        let r = ih m (omega (arith, h, small)) in
        holds_on (suc m) m u us vs r (before_header m u (us ++ vs) on) (from_header m u (us ++ vs) on) (before_header m u us on) (from_header m u us on) (headers_one u (before_group m us) on ∙ ap suc r.headers)

-- no group has the number
pub none_holds : (n : ℕ) (us : Units) → group_headers us ≤ n → (from_group n us ≡ []) × (before_group n us ≡ us)
unfolding from_group before_group
none_holds n us le =
    let p = passes n us [] le in
    (ap (from_group n) (sym (append-nil us)) ∙ p.behind, ap (before_group n) (sym (append-nil us)) ∙ p.before ∙ append-nil us)

-- ---- a piece that holds a group's header

-- the header stands among the headers of a piece: no picture before it, and the piece's picture behind it
pub record InPiece (n : ℕ) (vs : Units) (s : Shape vs) : Type 0 where
  pub none : has_picture (before_group n vs) ≡ false
  pub heads : Units
  pub behind : from_group n vs ≡ heads ++ s.tail
  pub no_picture : has_picture heads ≡ false
  pub held : group_headers s.tail ≡ 0

picture_no_group : (u : List ℕ) → is_picture u ≡ true → is_group u ≡ false
picture_no_group u on = let e = eqb-true (value_of u) 0x00 on in rw e refl

pub tail_headers : (us : Units) → IsPictured us → group_headers us ≡ 0
unfolding group_headers
tail_headers [] p = refl
tail_headers (u ∷ us) p = headers_other u us (picture_no_group u p.0) ∙ (none_begin us p.1).1.1

pub in_piece : (n : ℕ) (vs : Units) (s : Shape vs) → n < group_headers vs → InPiece n vs s
in_piece n vs s less =
    let t : group_headers s.tail ≡ 0 = tail_headers s.tail s.pictured in
    let all : group_headers vs ≡ group_headers s.heads + group_headers s.tail = ap group_headers s.is ∙ headers-append s.heads s.tail in
    let h = holds n s.heads s.tail (omega (arith, all, t, less)) in
    let parts = or_parts _ _ (sym (picture-append (before_group n s.heads) (from_group n s.heads)) ∙ ap has_picture (sym h.whole) ∙ s.none) in
    record {
      none = ap (λ (l : Units). has_picture (before_group n l)) s.is ∙ ap has_picture h.before ∙ parts.0;
      heads = from_group n s.heads;
      behind = ap (from_group n) s.is ∙ h.behind;
      no_picture = parts.1;
      held = t;
    }

-- ---- the first picture of a group

-- of the first picture before the next group header, where there is one
abbrev pub is_first : ℕ → Option (List ℕ × List ℕ) → Bool
is_first structure None = false
is_first structure (Some p) = is_intra_of structure p

pub first_behind : (xs ys : Units) → has_picture xs ≡ false → group_headers xs ≡ 0 → first_picture (xs ++ ys) ≡ first_picture ys
unfolding first_picture has_picture
first_behind [] ys none few = refl
first_behind (x ∷ xs) ys none few =
    let p = or_parts (is_picture x) (has_picture xs) none in
    elim (cases_Bool (is_group x)) [
      | inl on ↦ absurd (omega (arith, headers_one x xs on, few))
      | inr off ↦ rw (off, p.0) (first_behind xs ys p.1 (sym (headers_other x xs off) ∙ few))
    ]

pub first_none : (xs ys : Units) → has_picture xs ≡ false → 0 < group_headers xs → first_picture (xs ++ ys) ≡ None
unfolding first_picture has_picture group_headers
first_none [] ys none some = absurd (omega arith)
first_none (x ∷ xs) ys none some =
    let p = or_parts (is_picture x) (has_picture xs) none in
    elim (cases_Bool (is_group x)) [
      | inl on ↦ rw on refl
      | inr off ↦ rw (off, p.0) (first_none xs ys p.1 (subst (λ (n : ℕ). 0 < n) (headers_other x xs off) some))
    ]

-- the unit behind a picture, up to the next group header or not
pub next_same : (structure : ℕ) (u : List ℕ) (rest : Units) → is_intra_of structure (u, next_unit (before_group 0 rest)) ≡ is_intra_of structure (u, next_unit rest)
unfolding before_group
next_same structure u [] = refl
next_same structure u (r ∷ rest) = elim (cases_Bool (is_group r)) [
  | inl on ↦
      let e = eqb-true (value_of r) 0xB8 on in
      rw (on, e) refl
  | inr off ↦ rw off refl
]

pub first_coded : (structure : ℕ) (us : Units) → begins_with structure (coded_pictures (before_group 0 us)) ≡ is_first structure (first_picture us)
unfolding before_group coded_pictures first_picture
first_coded structure [] = refl
first_coded structure (u ∷ us) = elim (cases_Bool (is_group u)) [
  | inl on ↦ rw on refl
  | inr off ↦ elim (cases_Bool (is_picture u)) [
    | inl picture ↦ rw (off, picture) (next_same structure u us)
    | inr other ↦ rw (off, other) (first_coded structure us)
  ]
]
