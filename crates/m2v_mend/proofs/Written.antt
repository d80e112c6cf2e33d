-- Bytes that are written one part after another.
use Rattle.std.proofs.Common.{◌≡◌, ℕ, suc, ◌+◌, ◌-◌, ◌<◌, ◌≤◌, List, [], ◌∷◌, ◌++◌, length, take, drop, get_or, replicate, Option, sym, ap, subst, ◌∙◌, append-nil, arith}
use Rattle.std.specs.Prelude.{vec_len}
use Rattle.std.proofs.Math.Seq.{take-suc}
use Rattle.std.proofs.lemmas.List.{take-append-drop, take_all}
use Rattle.m2v_port.specs.Ends.{change}
use Rattle.m2v_port.specs.Port.{Grows}
use Rattle.m2v_port.specs.declared.error.PortError.{PortError}
use Rattle.m2v_port.proofs.Runs.{grows_on}
use Rattle.m2v_model.specs.Units.{joined}
use Rattle.m2v_model.proofs.CutLaws.{joined-append}
use Rattle.m2v_dec_piece.specs.Putting.{PutStops}
use Rattle.m2v_dec_piece.proofs.PutLaws.{stops_more, stops_on}
use Rattle.m2v_decode.specs.m2v_dec_piece.declared.answer.Piece.{Piece}
use Rattle.m2v_decode.specs.Decoding.{whole_of}
use Rattle.m2v_mend.specs.Strand.{wholes_of}
use Rattle.m2v_mend.proofs.Parting.{wholes_append as each_append}

-- ---- pieces one behind another

pub wholes_append : (ps qs : List Piece) → joined (wholes_of (ps ++ qs)) ≡ joined (wholes_of ps) ++ joined (wholes_of qs)
wholes_append ps qs = ap joined (each_append ps qs) ∙ joined-append (wholes_of ps) (wholes_of qs)

pub wholes_more : (ps : List Piece) (i : ℕ) (p : Piece) → i < length ps → p ≡ get_or ps i p → joined (wholes_of (take (i + 1) ps)) ≡ joined (wholes_of (take i ps)) ++ whole_of p
wholes_more ps i p lt is =
    let next : suc i ≡ i + 1 = omega arith in
    ap (λ (n : ℕ). joined (wholes_of (take n ps))) (sym next)
    ∙ ap (λ (l : List Piece). joined (wholes_of l)) (take-suc ps i p lt ∙ ap (λ (q : Piece). take i ps ++ q ∷ []) (sym is))
    ∙ wholes_append (take i ps) (p ∷ [])
    ∙ ap (λ (l : List ℕ). joined (wholes_of (take i ps)) ++ l) (append-nil (whole_of p))

pub wholes_left : (ps : List Piece) (n : ℕ) → joined (wholes_of (take n ps)) ++ joined (wholes_of (drop n ps)) ≡ joined (wholes_of ps)
wholes_left ps n = sym (wholes_append (take n ps) (drop n ps)) ∙ ap (λ (l : List Piece). joined (wholes_of l)) (take-append-drop n ps)

module _ {K : Type 0} (held : K → Option (List ℕ)) (output_faults : K → ℕ) where
  pub pieces_on : (o0 o1 o2 : K) (ps : List Piece) (i : ℕ) (p : Piece) → i < length ps → p ≡ get_or ps i p → Grows (held o0) (joined (wholes_of (take i ps))) (held o1) → Grows (held o1) (whole_of p) (held o2) → Grows (held o0) (joined (wholes_of (take (i + 1) ps))) (held o2)
  pieces_on o0 o1 o2 ps i p lt is grown next = subst (λ (b : List ℕ). Grows (held o0) b (held o2)) (sym (wholes_more ps i p lt is)) (grows_on grown next)

  pub pieces_stop : (o0 o1 o2 : K) (ps : List Piece) (i : ℕ) (p : Piece) (e : PortError) → i < length ps → p ≡ get_or ps i p → output_faults o0 ≤ output_faults o1 → Grows (held o0) (joined (wholes_of (take i ps))) (held o1) → PutStops (whole_of p) (change held output_faults o1 o2) e
      → PutStops (joined (wholes_of ps)) (change held output_faults o0 o2) e
  pieces_stop o0 o1 o2 ps i p e lt is le grown cut =
      subst (λ (b : List ℕ). PutStops b (change held output_faults o0 o2) e) (ap (λ (b : List ℕ). b ++ joined (wholes_of (drop (i + 1) ps))) (sym (wholes_more ps i p lt is)) ∙ wholes_left ps (i + 1))
      (stops_more held output_faults o0 o2 (joined (wholes_of (take i ps)) ++ whole_of p) (joined (wholes_of (drop (i + 1) ps))) e (stops_on held output_faults o0 o1 o2 (joined (wholes_of (take i ps))) (whole_of p) e le grown cut))

  pub pieces_all : (o0 o1 : K) (ps : List Piece) (i : ℕ) → length ps ≤ i → Grows (held o0) (joined (wholes_of (take i ps))) (held o1) → Grows (held o0) (joined (wholes_of ps)) (held o1)
  pieces_all o0 o1 ps i le grown = subst (λ (l : List Piece). Grows (held o0) (joined (wholes_of l)) (held o1)) (take_all i ps le) grown

-- a piece, as it is written
pub piece_written : (p : Piece) (now : List ℕ) (zeros kept : ℕ) → now ≡ p.bytes.items → zeros ≡ p.length - kept → kept ≡ vec_len p.bytes → now ++ replicate zeros 0 ≡ whole_of p
piece_written p now zeros kept is left len = ap (λ (b : List ℕ). b ++ replicate zeros 0) is ∙ ap (λ (n : ℕ). p.bytes.items ++ replicate n 0) (left ∙ ap (λ (n : ℕ). p.length - n) len)
