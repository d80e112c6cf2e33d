-- The last of pieces: where it ends, how many bytes they have, and whether a start code can follow it.
use Rattle.std.proofs.Common.{◌≡◌, ℕ, suc, ◌+◌, ◌-◌, ◌<◌, ◌≤◌, Bool, true, false, List, [], ◌∷◌, ◌++◌, length, get_or, refl, sym, ap, subst, ◌∙◌, append-nil, arith}
use Rattle.std.specs.Prelude.{nat_le, ◌&&◌, All}
use Rattle.std.proofs.lemmas.List.{length-append}
use Rattle.std.proofs.lemmas.List.Elements.{All-get_or}
use Rattle.std.proofs.Math.Bool.{and-false, and-true}
use Rattle.m2v_model.specs.Units.{joined}
use Rattle.m2v_law_seam.specs.Spans.{units_of, units_in}
use Rattle.m2v_law_seam.specs.Strands.{ends_open, last_open}
use Rattle.m2v_law_seam.specs.Reading.{ArePieces}
use Rattle.m2v_law_group.specs.m2v_dec_unit.Texts.{text_of}
use Rattle.m2v_decode.specs.m2v_dec_piece.declared.answer.Piece.{Piece}
use Rattle.m2v_decode.specs.m2v_dec_piece.Sound.{IsSoundPiece}
use Rattle.m2v_decode.specs.Decoding.{whole_of}
use Rattle.m2v_decode.proofs.EndLaws.{whole_length}
use Rattle.m2v_mend.specs.Editing.{zeros_in}
use Rattle.m2v_mend.specs.Tail.{last_bits}
use Rattle.m2v_mend.specs.Strand.{wholes_of, bytes_in}
use Rattle.m2v_mend.proofs.Lasting.{last_is, zeros_last, open_pieces}
use Rattle.m2v_mend.proofs.Walked.{last_end}

-- ---- one piece

pub zeros_left : (p : Piece) (z : ℕ) → z ≡ zeros_in p → 0 < z → false ≡ last_open (units_of (whole_of p))
zeros_left p z e some = sym (zeros_last p.bytes.items (zeros_in p) (omega (arith, e, some)))

no_zeros : (p : Piece) (z : ℕ) → z ≡ zeros_in p → z ≤ 0 → whole_of p ≡ p.bytes.items
no_zeros p z e none =
    let is : zeros_in p ≡ 0 = omega (arith, e, none) in
    ap (text_of p.bytes.items) is ∙ append-nil p.bytes.items

pub not_open : (p : Piece) (z : ℕ) → z ≡ zeros_in p → z ≤ 0 → ends_open p.bytes.items ≡ false → false ≡ last_open (units_of (whole_of p))
not_open p z e none closed =
    let ends : ends_open (whole_of p) ≡ false = ap ends_open (no_zeros p z e none) ∙ closed in
    sym (last_is (whole_of p) ∙ ap (λ (b : Bool). nat_le 56 (last_bits 0 (units_of (whole_of p))) && b) ends ∙ and-false _)

pub open_so : (p : Piece) (z bits : ℕ) → z ≡ zeros_in p → z ≤ 0 → ends_open p.bytes.items ≡ true → bits ≡ last_bits 0 (units_of (whole_of p)) → nat_le 56 bits ≡ last_open (units_of (whole_of p))
open_so p z bits e none opens is =
    let ends : ends_open (whole_of p) ≡ true = ap ends_open (no_zeros p z e none) ∙ opens in
    ap (nat_le 56) is ∙ sym (last_is (whole_of p) ∙ ap (λ (b : Bool). nat_le 56 (last_bits 0 (units_of (whole_of p))) && b) ends ∙ and-true _)

-- ---- the last piece

record Parted (ps : List Piece) (p : Piece) : Type 0 where
  front : List Piece
  is : ps ≡ front ++ p ∷ []

parted : (ps : List Piece) (p : Piece) → 0 < length ps → p ≡ get_or ps (length ps - 1) p → Parted ps p
parted [] p some e = absurd (omega (arith, some))
parted (q ∷ []) p some e = record { front = []; is = ap (λ (x : Piece). x ∷ []) (sym e) }
parted (q ∷ x ∷ ps) p some e =
    let next : length (q ∷ x ∷ ps) - 1 ≡ suc (length (x ∷ ps) - 1) = omega arith in
    let own : p ≡ get_or (x ∷ ps) (length (x ∷ ps) - 1) p = e ∙ ap (λ (n : ℕ). get_or (q ∷ x ∷ ps) n p) next in
    let i = parted (x ∷ ps) p (omega arith) own in
    record { front = q ∷ i.front; is = ap (λ (l : List Piece). q ∷ l) i.is }

pub last_open_is : (ps : List Piece) (p : Piece) → 0 < length ps → p ≡ get_or ps (length ps - 1) p → ArePieces (wholes_of ps) → last_open (units_in (wholes_of ps)) ≡ last_open (units_of (whole_of p))
last_open_is ps p some e are =
    let x = parted ps p some e in
    ap (λ (l : List Piece). last_open (units_in (wholes_of l))) x.is ∙ open_pieces x.front p (subst (λ (l : List Piece). ArePieces (wholes_of l)) x.is are)

end_behind : (n : ℕ) (front : List Piece) (p : Piece) → last_end n (front ++ p ∷ []) ≡ p.place + length (whole_of p)
end_behind n [] p = refl
end_behind n (q ∷ front) p = end_behind (q.place + length (whole_of q)) front p

pub last_sound : (ps : List Piece) (p : Piece) → 0 < length ps → p ≡ get_or ps (length ps - 1) p → All IsSoundPiece ps → IsSoundPiece p
last_sound ps p some e all = subst IsSoundPiece (sym e) (All-get_or IsSoundPiece ps (length ps - 1) p (omega (arith, some)) all)

pub last_end_is : (ps : List Piece) (p : Piece) → 0 < length ps → p ≡ get_or ps (length ps - 1) p → All IsSoundPiece ps → p.place + p.length ≡ last_end 0 ps
last_end_is ps p some e all =
    let x = parted ps p some e in
    ap (λ (n : ℕ). p.place + n) (sym (whole_length p (last_sound ps p some e all))) ∙ sym (ap (last_end 0) x.is ∙ end_behind 0 x.front p)

-- ---- all bytes

each : (ps : List Piece) → ((i : ℕ) (d : Piece) → i < length ps → IsSoundPiece (get_or ps i d)) → bytes_in ps ≡ length (joined (wholes_of ps))
each [] h = refl
each (p ∷ ps) h =
    let own = whole_length p (h 0 p (omega arith)) in
    let later = each ps (λ i d lt. h (suc i) d (omega (arith, lt))) in
    let all = length-append (whole_of p) (joined (wholes_of ps)) in
    omega (arith, own, later, all)

pub all_bytes : (ps : List Piece) → All IsSoundPiece ps → bytes_in ps ≡ length (joined (wholes_of ps))
all_bytes ps all = each ps (λ i d lt. All-get_or IsSoundPiece ps i d lt all)
