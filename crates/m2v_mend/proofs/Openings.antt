-- The pieces with which a strand begins, all of them.
use Rattle.std.proofs.Common.{◌≡◌, ℕ, zero, suc, ◌+◌, ◌-◌, ◌<◌, ◌≤◌, false, List, [], ◌∷◌, ◌++◌, length, take, drop, get_or, min, inl, inr, Option, Some, None, refl, sym, ap, subst, ◌∙◌, arith}
use Rattle.std.specs.Prelude.{All, is_none}
use Rattle.std.proofs.lemmas.Bool.{cases_lt}
use Rattle.std.proofs.lemmas.List.{length-take, length-drop, map-append, take_all, drop_all}
use Rattle.std.proofs.lemmas.List.Elements.{All-cons}
use Rattle.m2v_model.specs.Units.{joined}
use Rattle.m2v_model.specs.Pieces.{limit}
use Rattle.m2v_decode.specs.m2v_dec_piece.declared.answer.Piece.{Piece}
use Rattle.m2v_decode.specs.m2v_dec_piece.Sound.{IsSoundPiece}
use Rattle.m2v_decode.specs.Decoding.{whole_of}
use Rattle.m2v_law_seam.specs.Spans.{units_of}
use Rattle.m2v_law_seam.specs.Seams.{lowered, frame_pieces, b_first, behind_b, leading, without_leading_pieces, first_opened, later_opened, pieces_opened}
use Rattle.m2v_law_seam.specs.Strands.{all_fit}
use Rattle.m2v_mend.specs.declared.member.Member.{Member}
use Rattle.m2v_mend.specs.declared.opening.Shape.{Shape}
use Rattle.m2v_mend.specs.Strand.{wholes_of, ends_of}
use Rattle.m2v_mend.specs.Kept.{bodies}
use Rattle.m2v_mend.specs.Opening.{IsShape, AreAdded, FirstTold, ends_opened}
use Rattle.m2v_mend.proofs.Parting.{bodies_take, bodies_drop, bodies_length, ends_at, ends_take, ends_drop}

-- ---- the pieces that aren't leading ones

module _ (ms : List Member) (h : Shape) (s : IsShape ms h) where
  abbrev fp : ℕ
  fp = frame_pieces (bodies ms)

  -- those in front and those behind
  kept_parts : without_leading_pieces (bodies ms) ≡ bodies (take h.frame ms) ++ bodies (drop h.behind ms)
  kept_parts =
      ap (λ (l : List (List ℕ)). l ++ behind_b (drop fp (bodies ms))) (sym (s.frame).front ∙ sym (bodies_take h.frame ms))
      ∙ ap (λ (l : List (List ℕ)). bodies (take h.frame ms) ++ l) (ap behind_b (sym (s.frame).rest) ∙ sym (s.behind).rest ∙ sym (bodies_drop h.behind ms))

  pub leading_bodies : bodies (take (h.behind - h.frame) (drop h.frame ms)) ≡ leading (bodies ms)
  leading_bodies =
      bodies_take (h.behind - h.frame) (drop h.frame ms) ∙ ap (take (h.behind - h.frame)) (bodies_drop h.frame ms) ∙ (s.behind).first ∙ ap b_first (s.frame).rest

  pub leading_count : length (leading (bodies ms)) ≡ h.behind - h.frame
  leading_count =
      let e = ap length leading_bodies in
      omega (arith, e, bodies_length (take (h.behind - h.frame) (drop h.frame ms)), length-take (h.behind - h.frame) (drop h.frame ms), length-drop h.frame ms, (s.behind).within, (s.behind).order)

  pub frame_bodies : bodies (take h.frame ms) ≡ take fp (bodies ms)
  frame_bodies = bodies_take h.frame ms ∙ (s.frame).front

  -- so many stand in front, or all do
  front_count : h.frame ≡ min fp (length ms)
  front_count =
      let e = ap length (s.frame).front in
      omega (arith, e, length-take h.frame (bodies ms), length-take fp (bodies ms), bodies_length ms, (s.frame).within)

  ends_length : length (ends_at ms) ≡ length ms
  ends_length = each ms
    where
      each : (xs : List Member) → length (ends_at xs) ≡ length xs
      each [] = refl
      each (x ∷ xs) = ap suc (each xs)

  ends_parts : ends_opened ms ≡ ends_at (take h.frame ms) ++ ends_at (drop h.behind ms)
  ends_parts =
      let n = h.frame in
      let k = fp + length (leading (bodies ms)) in
      let rest = ap (λ (l : List ℕ). l) (sym (ends_drop h.behind ms)) in
      elim (cases_lt (length ms) fp) [
        | inl lt ↦
            let all : n ≡ length ms = omega (arith, front_count, lt) in
            let front : take fp (ends_at ms) ≡ take n (ends_at ms) = take_all fp (ends_at ms) (omega (arith, lt, ends_length)) ∙ sym (take_all n (ends_at ms) (omega (arith, all, ends_length))) in
            let none : drop k (ends_at ms) ≡ drop h.behind (ends_at ms) = drop_all k (ends_at ms) (omega (arith, lt, ends_length)) ∙ sym (drop_all h.behind (ends_at ms) (omega (arith, all, ends_length, (s.behind).order))) in
            ap (λ (l : List ℕ). l ++ drop k (ends_at ms)) (front ∙ sym (ends_take n ms)) ∙ ap (λ (l : List ℕ). ends_at (take n ms) ++ l) (none ∙ rest)
        | inr le ↦
            let same : fp ≡ n = omega (arith, front_count, le) in
            let both : k ≡ h.behind = omega (arith, same, leading_count, (s.behind).order) in
            ap (λ (i : ℕ). take i (ends_at ms) ++ drop k (ends_at ms)) same ∙ ap (λ (l : List ℕ). l ++ drop k (ends_at ms)) (sym (ends_take n ms))
            ∙ ap (λ (i : ℕ). ends_at (take n ms) ++ drop i (ends_at ms)) both ∙ ap (λ (l : List ℕ). ends_at (take n ms) ++ l) rest
      ]

-- ---- with the first one

front_split : (n : ℕ) (x : Member) (rest : List Member) → 1 ≤ n → take n (x ∷ rest) ≡ x ∷ take (n - 1) rest
front_split zero x rest le = absurd (omega (arith, le))
front_split (suc k) x rest le = let e : k ≡ suc k - 1 = omega arith in ap (λ (i : ℕ). x ∷ take i rest) e

kept_split : (x : Member) (rest : List Member) (h : Shape) → IsShape (x ∷ rest) h → without_leading_pieces (bodies (x ∷ rest)) ≡ whole_of x.piece ∷ (bodies (take (h.frame - 1) rest) ++ bodies (drop h.behind (x ∷ rest)))
kept_split x rest h s =
    kept_parts (x ∷ rest) h s
    ∙ ap (λ (l : List Member). bodies l ++ bodies (drop h.behind (x ∷ rest))) (front_split h.frame x rest ((s.frame).some (omega arith)))

ends_split : (x : Member) (rest : List Member) (h : Shape) → IsShape (x ∷ rest) h → ends_opened (x ∷ rest) ≡ ((x.piece).place + length (whole_of x.piece)) ∷ (ends_at (take (h.frame - 1) rest) ++ ends_at (drop h.behind (x ∷ rest)))
ends_split x rest h s =
    ends_parts (x ∷ rest) h s
    ∙ ap (λ (l : List Member). ends_at l ++ ends_at (drop h.behind (x ∷ rest))) (front_split h.frame x rest ((s.frame).some (omega arith)))

-- ---- what is told

pub opened_none : (low : ℕ) (head : Option (List ℕ)) (ms : List Member) (m : Member) (h : Shape) (o : Option Piece) → 0 < length ms → m ≡ get_or ms 0 m → IsShape ms h → FirstTold low head m.piece o → o ≡ None → all_fit (pieces_opened low head (without_leading_pieces (bodies ms))) ≡ false
unfolding all_fit
opened_none low head [] m h o some e s f none = absurd (omega (arith, some))
opened_none low head (x ∷ rest) m h (Some q) some e s f none = absurd cc
opened_none low head (x ∷ rest) m h None some e s f none =
    let tail = bodies (take (h.frame - 1) rest) ++ bodies (drop h.behind (x ∷ rest)) in
    let first : is_none (limit 0 0 (first_opened low head (whole_of x.piece))) ≡ false = ap (λ (y : Member). is_none (limit 0 0 (first_opened low head (whole_of y.piece)))) (sym e) ∙ f in
    ap (λ (l : List (List ℕ)). all_fit (pieces_opened low head l)) (kept_split x rest h s) ∙ off (first_opened low head (whole_of x.piece)) (later_opened low tail) first
  where
    off : (p : List ℕ) (ps : List (List ℕ)) → is_none (limit 0 0 p) ≡ false → all_fit (p ∷ ps) ≡ false
    off p ps e = rw e refl

record Opened (low : ℕ) (head : Option (List ℕ)) (ms : List Member) (out : List Piece) : Type 0 where
  sound : All IsSoundPiece out
  wholes : wholes_of out ≡ pieces_opened low head (without_leading_pieces (bodies ms))
  ends : ends_of out ≡ ends_opened ms

none_all : All IsSoundPiece []
none_all = λ k d lt. absurd (omega (arith, lt))

opened_some : (low : ℕ) (head : Option (List ℕ)) (ms : List Member) (m : Member) (h : Shape) (q : Piece) (first mid out : List Piece) → 0 < length ms → m ≡ get_or ms 0 m → IsShape ms h → FirstTold low head m.piece (Some q) → first ≡ q ∷ []
    → AreAdded low (take (h.frame - 1) (drop 1 ms)) first mid → AreAdded low (drop h.behind ms) mid out → Opened low head ms out
opened_some low head [] m h q first mid out some e s f is a b = absurd (omega (arith, some))
opened_some low head (x ∷ rest) m h q first mid out some e s f is a b =
    let front = bodies (take (h.frame - 1) rest) in
    let behind = bodies (drop h.behind (x ∷ rest)) in
    let own : whole_of q ≡ first_opened low head (whole_of x.piece) = f.1 ∙ ap (λ (y : Member). first_opened low head (whole_of y.piece)) e in
    let end : q.place + length (whole_of q) ≡ (x.piece).place + length (whole_of x.piece) = f.2 ∙ ap (λ (y : Member). (y.piece).place + length (whole_of y.piece)) e in
    let one : All IsSoundPiece first = subst (All IsSoundPiece) (sym is) (All-cons IsSoundPiece q [] f.0 none_all) in
    let l : List ℕ → List ℕ = λ p. joined (lowered low (units_of p)) in
    record {
      sound = b.sound (a.sound one);
      wholes =
          b.wholes ∙ ap (λ (w : List (List ℕ)). w ++ later_opened low behind) (a.wholes ∙ ap (λ (w : List Piece). wholes_of w ++ later_opened low front) is)
          ∙ ap (λ (w : List ℕ). w ∷ (later_opened low front ++ later_opened low behind)) own
          ∙ ap (λ (w : List (List ℕ)). first_opened low head (whole_of x.piece) ∷ w) (sym (map-append l front behind))
          ∙ ap (pieces_opened low head) (sym (kept_split x rest h s));
      ends =
          b.ends ∙ ap (λ (w : List ℕ). w ++ ends_at (drop h.behind (x ∷ rest))) (a.ends ∙ ap (λ (w : List Piece). ends_of w ++ ends_at (take (h.frame - 1) rest)) is)
          ∙ ap (λ (n : ℕ). n ∷ (ends_at (take (h.frame - 1) rest) ++ ends_at (drop h.behind (x ∷ rest)))) end
          ∙ sym (ends_split x rest h s);
    }

pub opened_told : (low : ℕ) (head : Option (List ℕ)) (ms : List Member) (m : Member) (h : Shape) (q : Piece) (o : Option Piece) (first mid out : List Piece) (n : ℕ) → 0 < length ms → m ≡ get_or ms 0 m → IsShape ms h → FirstTold low head m.piece o → o ≡ Some q → first ≡ [] ++ q ∷ []
    → AreAdded low (take (h.frame - 1) (drop 1 ms)) first mid → AreAdded low (take n (drop h.behind ms)) mid out → n ≡ length ms - h.behind
    → All IsSoundPiece out × (wholes_of out ≡ pieces_opened low head (without_leading_pieces (bodies ms))) × (ends_of out ≡ ends_opened ms)
opened_told low head ms m h q o first mid out n some e s f is one a b size =
    let own : FirstTold low head m.piece (Some q) = subst (FirstTold low head m.piece) is f in
    let all : take n (drop h.behind ms) ≡ drop h.behind ms = take_all n (drop h.behind ms) (omega (arith, size, length-drop h.behind ms)) in
    let r = opened_some low head ms m h q first mid out some e s own one a (subst (λ (l : List Member). AreAdded low l mid out) all b) in
    (r.sound, r.wholes, r.ends)
