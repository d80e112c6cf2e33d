-- Copies of the pieces of a span, that are edited.
use Rattle.std.proofs.Common.{◌≡◌, ◌⊎◌, inl, inr, ℕ, suc, ◌+◌, ◌<◌, ◌≤◌, true, false, List, [], ◌∷◌, ◌++◌, length, map, take, get_or, replicate, min, None, refl, sym, ap, subst, ◌∙◌, append_assoc, arith}
use Rattle.std.specs.Prelude.{nat_eq, All, is_none}
use Rattle.std.proofs.lemmas.Bool.{cases_Bool, eqb-true}
use Rattle.std.proofs.lemmas.List.{length-append, length-replicate, map-append}
use Rattle.std.proofs.lemmas.List.Elements.{All-push}
use Rattle.m2v_model.specs.Units.{Units, joined}
use Rattle.m2v_model.specs.Pieces.{limit, trimmed}
use Rattle.m2v_dec_piece.proofs.TrimLaws.{trimmed_is, zeros_last_end}
use Rattle.m2v_dec_unit.specs.Texts.{text_of}
use Rattle.m2v_decode.specs.m2v_dec_piece.declared.answer.Piece.{Piece}
use Rattle.m2v_decode.specs.m2v_dec_piece.Sound.{IsSoundPiece}
use Rattle.m2v_decode.specs.Decoding.{whole_of}
use Rattle.m2v_decode.proofs.EndLaws.{whole_length}
use Rattle.m2v_law_seam.specs.Spans.{units_of}
use Rattle.m2v_law_seam.specs.Seams.{lowered, marked_unit, later_opened}
use Rattle.m2v_mend.specs.declared.edits.Edit.TheVariants.{Lower, Mark}
use Rattle.m2v_mend.specs.declared.member.Member.{Member}
use Rattle.m2v_mend.specs.Editing.{zeros_in, IsEdited}
use Rattle.m2v_mend.specs.Kept.{pieces_of, bodies}
use Rattle.m2v_mend.specs.Strand.{wholes_of, ends_of}
use Rattle.m2v_mend.specs.Opening.{IsCopy, IsLower, AreAdded, IsOwn, IsOwnFirst, FrontTold}
use Rattle.m2v_mend.proofs.EditLaws.{are_units}
use Rattle.m2v_mend.proofs.FrontLaws.{both_edits}
use Rattle.m2v_mend.proofs.Parting.{bodies_append, ends_append, wholes_append, ends_more, next_taken}
use Rattle.m2v_mend.proofs.LimitLaws.{no_zeros, large_at}

-- ---- a copy

pub copy_whole : (p q : Piece) → IsCopy p q → whole_of q ≡ whole_of p
copy_whole p q h =
    let z : zeros_in q ≡ zeros_in p = omega (arith, h.kept, h.length) in
    ap (λ (l : List ℕ). text_of l (zeros_in q)) h.bytes ∙ ap (λ (n : ℕ). text_of p.bytes.items n) z

-- ---- lowered copies

pub added_more : (low : ℕ) (ms : List Member) (i : ℕ) (m : Member) (old mid new : List Piece) (q : Piece) → i < length ms → m ≡ get_or ms i m → AreAdded low (take i ms) old mid → IsLower low m.piece q → new ≡ mid ++ q ∷ [] → AreAdded low (take (i + 1) ms) old new
added_more low ms i m old mid new q lt is h l e =
    let next = next_taken ms i m lt is in
    let f : List ℕ → List ℕ = λ p. joined (lowered low (units_of p)) in
    let front = later_opened low (bodies (take i ms)) in
    let bodies_next : later_opened low (bodies (take (i + 1) ms)) ≡ front ++ f (whole_of m.piece) ∷ [] =
    ap (λ (x : List Member). later_opened low (bodies x)) next ∙ ap (later_opened low) (bodies_append (take i ms) (m ∷ [])) ∙ map-append f (bodies (take i ms)) (whole_of m.piece ∷ []) in
    let ends_next : ends_of (pieces_of (take (i + 1) ms)) ≡ ends_of (pieces_of (take i ms)) ++ ((m.piece).place + length (whole_of m.piece)) ∷ [] =
    ap (λ (x : List Member). ends_of (pieces_of x)) next ∙ ends_append (take i ms) (m ∷ []) in
    record {
      sound = λ all. subst (All IsSoundPiece) (sym e) (All-push IsSoundPiece mid q (h.sound all) l.sound);
      wholes =
          ap wholes_of e ∙ wholes_append mid (q ∷ []) ∙ ap (λ (x : List (List ℕ)). x ++ whole_of q ∷ []) h.wholes
          ∙ append_assoc (wholes_of old) front (whole_of q ∷ []) ∙ ap (λ (x : List ℕ). wholes_of old ++ (front ++ x ∷ [])) l.whole
          ∙ ap (λ (x : List (List ℕ)). wholes_of old ++ x) (sym bodies_next);
      ends =
          ap ends_of e ∙ ends_more mid (q ∷ []) ∙ ap (λ (x : List ℕ). x ++ (q.place + length (whole_of q)) ∷ []) h.ends
          ∙ append_assoc (ends_of old) (ends_of (pieces_of (take i ms))) ((q.place + length (whole_of q)) ∷ [])
          ∙ ap (λ (n : ℕ). ends_of old ++ (ends_of (pieces_of (take i ms)) ++ n ∷ [])) l.end
          ∙ ap (λ (x : List ℕ). ends_of old ++ x) (sym ends_next);
    }

-- ---- the first piece, from its own sequence header on

pub own_edited : (low : ℕ) (p q r x : Piece) → IsSoundPiece p → IsOwn p q → IsEdited Mark q r → IsEdited (Lower low) r x → IsSoundPiece x → IsOwnFirst low p x
own_edited low p q r x s o a b t =
    let us = units_of (whole_of q) in
    record {
      sound = t;
      whole = b.bytes ∙ ap (λ (l : Units). joined (lowered low l)) a.units ∙ ap joined (sym (both_edits low us (are_units (whole_of q)))) ∙ ap (λ (l : Units). joined (map marked_unit (lowered low l))) o.are;
      end = omega (arith, o.end, a.place, a.length, b.place, b.length, whole_length q o.sound, whole_length x t);
    }

-- ---- behind a head

-- bytes are zero, or zero bytes stand behind the last one that isn't
record Ends (w : List ℕ) : Type 0 where
  front : List ℕ
  last : ℕ
  zeros : ℕ
  other : nat_eq last 0 ≡ false
  are : w ≡ front ++ last ∷ replicate zeros 0

abbrev AllZero : List ℕ → Type 0
AllZero w = (n : ℕ) × (w ≡ replicate n 0)

parts_more : (x : ℕ) (w : List ℕ) → AllZero w ⊎ Ends w → AllZero (x ∷ w) ⊎ Ends (x ∷ w)
parts_more x w (inr e) = inr (record { front = x ∷ e.front; last = e.last; zeros = e.zeros; other = e.other; are = ap (λ (l : List ℕ). x ∷ l) e.are })
parts_more x w (inl z) = elim (cases_Bool (nat_eq x 0)) [
  | inl on ↦ inl (suc z.0, ap (λ (k : ℕ). k ∷ w) (eqb-true x 0 on) ∙ ap (λ (l : List ℕ). 0 ∷ l) z.1)
  | inr off ↦ inr (record { front = []; last = x; zeros = z.0; other = off; are = ap (λ (l : List ℕ). x ∷ l) z.1 })
]

parts : (w : List ℕ) → AllZero w ⊎ Ends w
parts [] = inl (0, refl)
parts (x ∷ w) = parts_more x w (parts w)

few_zeros : (w : List ℕ) → AllZero w → length (trimmed w) ≤ 64
few_zeros w z =
    let t : length (trimmed w) ≡ length (replicate {A = ℕ} (min 64 z.0) 0) = ap (λ (l : List ℕ). length (trimmed l)) z.1 ∙ ap length (sym (trimmed_is [] z.0 no_zeros)) in
    omega (arith, t, length-replicate {A = ℕ} (min 64 z.0) 0)

not_zero : (b : ℕ) → nat_eq b 0 ≡ false → b ≡ 0 → ⊥
not_zero b off e = let on : nat_eq b 0 ≡ true = ap (λ (n : ℕ). nat_eq n 0) e in let wrong : true ≡ false = sym on ∙ off in absurd cc

last_near : (w : List ℕ) → (e : Ends w) → length (trimmed w) ≤ length e.front + 65
last_near w e =
    let own = e.front ++ e.last ∷ [] in
    let whole : w ≡ own ++ replicate e.zeros 0 = e.are ∙ sym (append_assoc e.front (e.last ∷ []) (replicate e.zeros 0)) in
    let t : length (trimmed w) ≡ length (own ++ replicate (min 64 e.zeros) 0) = ap (λ (l : List ℕ). length (trimmed l)) whole ∙ ap length (sym (trimmed_is own e.zeros (zeros_last_end e.front e.last (not_zero e.last e.other)))) in
    omega (arith, t, length-append own (replicate (min 64 e.zeros) 0), length-append e.front (e.last ∷ []), length-replicate {A = ℕ} (min 64 e.zeros) 0)

pub front_large : (head : List ℕ) (p : Piece) (n : ℕ) → n ≡ length (trimmed (whole_of p)) → length head ≤ 4096 → 2097216 < length head + n → FrontTold head p None
front_large head p n is few over = elim (parts (whole_of p)) [
  | inl z ↦ let most = few_zeros (whole_of p) z in absurd (omega (arith, is, few, over, most))
  | inr e ↦
      let near = last_near (whole_of p) e in
      let whole : head ++ whole_of p ≡ (head ++ e.front) ++ e.last ∷ replicate e.zeros 0 = ap (λ (l : List ℕ). head ++ l) e.are ∙ sym (append_assoc head e.front (e.last ∷ replicate e.zeros 0)) in
      ap (λ (l : List ℕ). is_none (limit 0 0 l)) whole ∙ large_at 0 0 (head ++ e.front) e.last (replicate e.zeros 0) e.other (omega (arith, is, over, near, length-append head e.front))
]
