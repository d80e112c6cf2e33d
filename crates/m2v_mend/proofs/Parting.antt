-- How the pieces of a span are parted.
use Rattle.std.proofs.Common.{◌≡◌, ℕ, zero, suc, ◌+◌, ◌-◌, ◌<◌, ◌≤◌, true, false, List, [], ◌∷◌, ◌++◌, length, take, drop, map, get_or, refl, sym, ap, subst, ◌∙◌, append_assoc, append-nil, arith}
use Rattle.std.specs.Prelude.{All}
use Rattle.std.proofs.lemmas.List.{length-drop, length-map, get_or-map, take_more, get_or-drop, drop_all, drop_more, take-append-drop}
use Rattle.std.proofs.lemmas.List.Elements.{All-get_or}
use Rattle.m2v_decode.specs.m2v_dec_piece.declared.answer.Piece.{Piece}
use Rattle.m2v_decode.specs.Decoding.{whole_of}
use Rattle.m2v_law_seam.specs.Spans.{is_b_piece}
use Rattle.m2v_law_seam.specs.Seams.{b_first, behind_b}
use Rattle.m2v_law_seam.specs.Faults.{ends_from}
use Rattle.m2v_mend.specs.declared.member.Member.{Member}
use Rattle.m2v_mend.specs.Kept.{pieces_of, bodies}
use Rattle.m2v_mend.specs.Members.{IsMember}
use Rattle.m2v_mend.specs.Strand.{wholes_of, ends_of, AreInTurn}
use Rattle.m2v_mend.specs.Opening.{IsBehindFrame}

-- ---- an element that is next

pub next_taken : {A : Type 0} (xs : List A) (i : ℕ) (x : A) → i < length xs → x ≡ get_or xs i x → take (i + 1) xs ≡ take i xs ++ x ∷ []
next_taken {A} xs i x lt is = take_more xs i x lt ∙ ap (λ (y : A). take i xs ++ y ∷ []) (sym is)

pub next_left : {A : Type 0} (xs : List A) (i : ℕ) (x : A) → i < length xs → x ≡ get_or xs i x → drop i xs ≡ x ∷ drop (i + 1) xs
next_left {A} xs i x lt is = drop_more xs i x lt ∙ ap (λ (y : A). y ∷ drop (i + 1) xs) (sym is)

pub next_parts : {A : Type 0} (xs : List A) (i : ℕ) (x : A) → i < length xs → x ≡ get_or xs i x → xs ≡ take i xs ++ x ∷ drop (i + 1) xs
next_parts {A} xs i x lt is = sym (take-append-drop i xs) ∙ ap (λ (l : List A). take i xs ++ l) (next_left xs i x lt is)

-- ---- the same of what elements have

pub in_map : {A B : Type 0} (f : A → B) (xs : List A) (i : ℕ) → i < length xs → i < length (map f xs)
in_map f xs i lt = omega (arith, lt, length-map xs f)

pub next_map : {A B : Type 0} (f : A → B) (xs : List A) (i : ℕ) (x : A) → i < length xs → x ≡ get_or xs i x → f x ≡ get_or (map f xs) i (f x)
next_map f xs i x lt is = ap f is ∙ sym (get_or-map f xs i x (f x) lt)

pub last_map : {A B : Type 0} (f : A → B) (xs : List A) (x : A) → 0 < length xs → x ≡ get_or xs (length xs - 1) x → f x ≡ get_or (map f xs) (length (map f xs) - 1) (f x)
last_map f xs x some is =
    next_map f xs (length xs - 1) x (omega (arith, some)) is ∙ ap (λ (n : ℕ). get_or (map f xs) (n - 1) (f x)) (sym (length-map xs f))

pub all_next : {A B : Type 0} (f : A → B) (P : B → Type 0) (xs : List A) (i : ℕ) (x : A) → i < length xs → x ≡ get_or xs i x → All P (map f xs) → P (f x)
all_next f P xs i x lt is all = subst P (sym (next_map f xs i x lt is)) (All-get_or P (map f xs) i (f x) (in_map f xs i lt) all)

-- ---- the bytes of pieces, and where they end, one by one

pub bodies_append : (xs ys : List Member) → bodies (xs ++ ys) ≡ bodies xs ++ bodies ys
bodies_append [] ys = refl
bodies_append (x ∷ xs) ys = ap (λ (l : List (List ℕ)). whole_of x.piece ∷ l) (bodies_append xs ys)

pub bodies_take : (n : ℕ) (ms : List Member) → bodies (take n ms) ≡ take n (bodies ms)
bodies_take zero ms = refl
bodies_take (suc n) [] = refl
bodies_take (suc n) (m ∷ ms) = ap (λ (l : List (List ℕ)). whole_of m.piece ∷ l) (bodies_take n ms)

pub bodies_drop : (n : ℕ) (ms : List Member) → bodies (drop n ms) ≡ drop n (bodies ms)
bodies_drop zero ms = refl
bodies_drop (suc n) [] = refl
bodies_drop (suc n) (m ∷ ms) = bodies_drop n ms

pub bodies_length : (ms : List Member) → length (bodies ms) ≡ length ms
bodies_length [] = refl
bodies_length (m ∷ ms) = ap suc (bodies_length ms)

pub bodies_get : (ms : List Member) (i : ℕ) (m : Member) (d : List ℕ) → i < length ms → get_or (bodies ms) i d ≡ whole_of (get_or ms i m).piece
bodies_get [] i m d lt = absurd (omega (arith, lt))
bodies_get (x ∷ ms) zero m d lt = refl
bodies_get (x ∷ ms) (suc i) m d lt = bodies_get ms i m d (omega (arith, lt))

abbrev pub ends_at : List Member → List ℕ
ends_at ms = ends_of (pieces_of ms)

pub ends_append : (xs ys : List Member) → ends_at (xs ++ ys) ≡ ends_at xs ++ ends_at ys
ends_append [] ys = refl
ends_append (x ∷ xs) ys = ap (λ (l : List ℕ). ((x.piece).place + length (whole_of x.piece)) ∷ l) (ends_append xs ys)

pub ends_take : (n : ℕ) (ms : List Member) → ends_at (take n ms) ≡ take n (ends_at ms)
ends_take zero ms = refl
ends_take (suc n) [] = refl
ends_take (suc n) (m ∷ ms) = ap (λ (l : List ℕ). ((m.piece).place + length (whole_of m.piece)) ∷ l) (ends_take n ms)

pub ends_drop : (n : ℕ) (ms : List Member) → ends_at (drop n ms) ≡ drop n (ends_at ms)
ends_drop zero ms = refl
ends_drop (suc n) [] = refl
ends_drop (suc n) (m ∷ ms) = ends_drop n ms

pub wholes_append : (ps qs : List Piece) → wholes_of (ps ++ qs) ≡ wholes_of ps ++ wholes_of qs
wholes_append [] qs = refl
wholes_append (p ∷ ps) qs = ap (λ (l : List (List ℕ)). whole_of p ∷ l) (wholes_append ps qs)

pub ends_in_turn : (ps : List Piece) (at : ℕ) → AreInTurn at ps → ends_of ps ≡ ends_from at (wholes_of ps)
unfolding ends_from
ends_in_turn [] at turn = refl
ends_in_turn (p ∷ ps) at turn =
    let n = length (whole_of p) in
    ap (λ (i : ℕ). (i + n) ∷ ends_of ps) turn.0 ∙ ap (λ (l : List ℕ). (at + n) ∷ l) (ends_in_turn ps (at + n) turn.1)

pub ends_more : (ps qs : List Piece) → ends_of (ps ++ qs) ≡ ends_of ps ++ ends_of qs
ends_more [] qs = refl
ends_more (p ∷ ps) qs = ap (λ (l : List ℕ). (p.place + length (whole_of p)) ∷ l) (ends_more ps qs)

-- ---- the B pieces from a number on

pub record BehindTo (ms : List Member) (n at : ℕ) : Type 0 where
  pub order : n ≤ at
  pub within : at ≤ length ms
  pub first : b_first (drop n (bodies ms)) ≡ take (at - n) (drop n (bodies ms)) ++ b_first (drop at (bodies ms))
  pub rest : behind_b (drop n (bodies ms)) ≡ behind_b (drop at (bodies ms))

first_b : (x : List ℕ) (xs : List (List ℕ)) → is_b_piece x ≡ true → (b_first (x ∷ xs) ≡ x ∷ b_first xs) × (behind_b (x ∷ xs) ≡ behind_b xs)
unfolding b_first behind_b
first_b x xs e = (rw e refl, rw e refl)

first_other : (x : List ℕ) (xs : List (List ℕ)) → is_b_piece x ≡ false → (b_first (x ∷ xs) ≡ []) × (behind_b (x ∷ xs) ≡ x ∷ xs)
unfolding b_first behind_b
first_other x xs e = (rw e refl, rw e refl)

first_none : (b_first [] ≡ []) × (behind_b [] ≡ [])
unfolding b_first behind_b
first_none = (refl, refl)

-- what stands from a piece on
at_piece : (ms : List Member) (at : ℕ) (m : Member) → at < length ms → m ≡ get_or ms at m → drop at (bodies ms) ≡ whole_of m.piece ∷ drop (at + 1) (bodies ms)
at_piece ms at m lt e =
    let body : get_or (bodies ms) at (whole_of m.piece) ≡ whole_of m.piece = bodies_get ms at m (whole_of m.piece) lt ∙ ap (λ (x : Member). whole_of x.piece) (sym e) in
    next_left (bodies ms) at (whole_of m.piece) (omega (arith, lt, bodies_length ms)) (sym body)

pub behind_more : (ms : List Member) (n at : ℕ) (m : Member) → at < length ms → m ≡ get_or ms at m → is_b_piece (whole_of m.piece) ≡ true → BehindTo ms n at → BehindTo ms n (at + 1)
behind_more ms n at m lt e b h =
    let p = whole_of m.piece in
    let d = drop n (bodies ms) in
    let here = at_piece ms at m lt e in
    let is = first_b p (drop (at + 1) (bodies ms)) b in
    let k = at - n in
    let step : at + 1 - n ≡ k + 1 = omega (arith, h.order) in
    let whole : n + k ≡ at = omega (arith, h.order) in
    let sizes : k < length d = omega (arith, lt, h.order, length-drop n (bodies ms), bodies_length ms) in
    let get : get_or d k p ≡ p = get_or-drop n (bodies ms) k p ∙ ap (λ (i : ℕ). get_or (bodies ms) i p) whole ∙ bodies_get ms at m p lt ∙ ap (λ (x : Member). whole_of x.piece) (sym e) in
    let taken : take (at + 1 - n) d ≡ take k d ++ p ∷ [] = ap (λ (i : ℕ). take i d) step ∙ take_more d k p sizes ∙ ap (λ (l : List ℕ). take k d ++ l ∷ []) get in
    record {
      order = omega (arith, h.order);
      within = omega (arith, lt);
      first = h.first ∙ ap (λ (l : List (List ℕ)). take k d ++ b_first l) here ∙ ap (λ (l : List (List ℕ)). take k d ++ l) is.0 ∙ sym (append_assoc (take k d) (p ∷ []) (b_first (drop (at + 1) (bodies ms)))) ∙ ap (λ (l : List (List ℕ)). l ++ b_first (drop (at + 1) (bodies ms))) (sym taken);
      rest = h.rest ∙ ap behind_b here ∙ is.1;
    }

pub behind_here : (ms : List Member) (n at : ℕ) (m : Member) → at < length ms → m ≡ get_or ms at m → is_b_piece (whole_of m.piece) ≡ false → BehindTo ms n at → IsBehindFrame ms n at
behind_here ms n at m lt e b h =
    let d = drop n (bodies ms) in
    let here = at_piece ms at m lt e in
    let is = first_other (whole_of m.piece) (drop (at + 1) (bodies ms)) b in
    record {
      first = sym (h.first ∙ ap (λ (l : List (List ℕ)). take (at - n) d ++ b_first l) here ∙ ap (λ (l : List (List ℕ)). take (at - n) d ++ l) is.0 ∙ append-nil (take (at - n) d));
      rest = sym (h.rest ∙ ap behind_b here ∙ is.1 ∙ sym here);
      order = h.order;
      within = h.within;
    }

pub behind_end : (ms : List Member) (n at : ℕ) → length ms ≤ at → BehindTo ms n at → IsBehindFrame ms n at
behind_end ms n at le h =
    let d = drop n (bodies ms) in
    let none : drop at (bodies ms) ≡ [] = drop_all at (bodies ms) (omega (arith, le, bodies_length ms)) in
    record {
      first = sym (h.first ∙ ap (λ (l : List (List ℕ)). take (at - n) d ++ b_first l) none ∙ ap (λ (l : List (List ℕ)). take (at - n) d ++ l) first_none.0 ∙ append-nil (take (at - n) d));
      rest = none ∙ sym (h.rest ∙ ap behind_b none ∙ first_none.1);
      order = h.order;
      within = h.within;
    }

-- a piece of those at hand is one with what it tells
pub member_at : (ms : List Member) (i : ℕ) (m : Member) → i < length ms → m ≡ get_or ms i m → All IsMember ms → IsMember m
member_at ms i m lt is all = subst IsMember (sym is) (All-get_or IsMember ms i m lt all)
