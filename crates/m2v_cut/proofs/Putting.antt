-- Parts of pieces that are written.
use Rattle.std.proofs.Common.{◌≡◌, ℕ, zero, suc, ◌+◌, ◌-◌, ◌<◌, ◌≤◌, Bool, true, false, List, [], ◌∷◌, ◌++◌, length, take, drop, replicate, min, max, Option, Some, None, refl, sym, ap, subst, ◌∙◌, append_assoc, inl, inr, arith}
use Rattle.std.specs.Prelude.{slice_index, vec_len}
use Rattle.std.proofs.lemmas.Bool.{cases_lt}
use Rattle.std.proofs.lemmas.List.{append-nil, length-append, take-append-le, drop-append-le, take-replicate, drop-replicate, length-replicate, take_all, drop_all, length-drop}
use Rattle.m2v_port.specs.Ends.{Change, change}
use Rattle.m2v_port.specs.Port.{Grows}
use Rattle.m2v_port.specs.declared.error.PortError.{PortError}
use Rattle.m2v_port.specs.declared.error.PortError.TheVariants as ports
use Rattle.m2v_port.proofs.Runs.{grows_on}
use Rattle.m2v_dec_piece.specs.Putting.{PutStops, named}
use Rattle.m2v_dec_piece.proofs.PutLaws.{stops_more, stops_on}
use Rattle.m2v_decode.specs.m2v_dec_piece.declared.answer.Piece.{Piece}
use Rattle.m2v_decode.specs.m2v_dec_piece.Sound.{IsSoundPiece}
use Rattle.m2v_decode.specs.Decoding.{whole_of}
use Rattle.m2v_law_group.specs.Groups.{with_broken_link}
use Rattle.m2v_cut.specs.declared.answer.CutError.TheVariants as errors
use Rattle.m2v_cut.specs.Progress.{Cuts, part, head_of}

-- by one's own error
pub cuts_named : (bytes : List ℕ) (held : Change) (e : PortError) → PutStops bytes held e → Cuts bytes held (named e errors.Write errors.Memory)
cuts_named bytes held ports.Failed stops = (stops.failed refl, stops.grown)
cuts_named bytes held ports.Memory stops = stops.grown

-- ---- a part of bytes with zero bytes behind them

drop_behind : (n : ℕ) (xs ys : List ℕ) → length xs ≤ n → drop n (xs ++ ys) ≡ drop (n - length xs) ys
drop_behind n [] ys le = let e : n ≡ n - 0 = omega arith in ap (λ (k : ℕ). drop k ys) e
drop_behind zero (x ∷ xs) ys le = absurd (omega arith)
drop_behind (suc n) (x ∷ xs) ys le =
    let e : n - length xs ≡ suc n - suc (length xs) = omega arith in
    drop_behind n xs ys (omega arith) ∙ ap (λ (k : ℕ). drop k ys) e

take_behind : (n : ℕ) (xs ys : List ℕ) → length xs ≤ n → take n (xs ++ ys) ≡ xs ++ take (n - length xs) ys
take_behind n [] ys le = let e : n ≡ n - 0 = omega arith in ap (λ (k : ℕ). take k ys) e
take_behind zero (x ∷ xs) ys le = absurd (omega arith)
take_behind (suc n) (x ∷ xs) ys le =
    let e : n - length xs ≡ suc n - suc (length xs) = omega arith in
    ap (λ (t : List ℕ). x ∷ t) (take_behind n xs ys (omega arith) ∙ ap (λ (k : ℕ). xs ++ take k ys) e)

-- the same numbers, written otherwise
renumbered : (bs : List ℕ) (a a' b b' c c' : ℕ) → a ≡ a' → b ≡ b' → c ≡ c' → take (a - b) (drop b bs) ++ replicate c 0 ≡ take (a' - b') (drop b' bs) ++ replicate c' 0
renumbered bs a a' b b' c c' p q r = λ i. take (p i - q i) (drop (q i) bs) ++ replicate (r i) 0

part_is : (from to : ℕ) (bs : List ℕ) (z : ℕ) → from ≤ to → to ≤ length bs + z
    → part from to (bs ++ replicate z 0) ≡ take (min to (length bs) - min from (length bs)) (drop (min from (length bs)) bs) ++ replicate (max to (length bs) - max from (length bs)) 0
part_is from to bs z le within = elim (cases_lt (length bs) to) [
  | inr low ↦
      ap (take (to - from)) (drop-append-le from bs (replicate z 0) (omega arith))
      ∙ take-append-le (to - from) (drop from bs) (replicate z 0) (omega (arith, length-drop from bs))
      ∙ sym (append-nil (take (to - from) (drop from bs)))
      ∙ renumbered bs to (min to (length bs)) from (min from (length bs)) 0 (max to (length bs) - max from (length bs)) (omega arith) (omega arith) (omega arith)
  | inl high ↦ elim (cases_lt (length bs) from) [
    | inr mid ↦
        ap (take (to - from)) (drop-append-le from bs (replicate z 0) (omega arith))
        ∙ take_behind (to - from) (drop from bs) (replicate z 0) (omega (arith, length-drop from bs))
        ∙ ap (λ (t : List ℕ). t ++ take ((to - from) - length (drop from bs)) (replicate z 0)) (sym (take_all (length bs - from) (drop from bs) (omega (arith, length-drop from bs))))
        ∙ ap (λ (t : List ℕ). take (length bs - from) (drop from bs) ++ t) (take-replicate ((to - from) - length (drop from bs)) z 0 (omega (arith, length-drop from bs)))
        ∙ renumbered bs (length bs) (min to (length bs)) from (min from (length bs)) ((to - from) - length (drop from bs)) (max to (length bs) - max from (length bs)) (omega arith) (omega arith) (omega (arith, length-drop from bs))
    | inl far ↦
        let none : min to (length bs) - min from (length bs) ≡ 0 = omega arith in
        ap (take (to - from)) (drop_behind from bs (replicate z 0) (omega arith) ∙ drop-replicate (from - length bs) z 0)
        ∙ take-replicate (to - from) (z - (from - length bs)) 0 (omega arith)
        ∙ ap (λ (k : ℕ). take k (drop (min from (length bs)) bs) ++ replicate (to - from) 0) (sym none)
        ∙ ap (λ (k : ℕ). take (min to (length bs) - min from (length bs)) (drop (min from (length bs)) bs) ++ replicate k 0) (omega arith)
  ]
]

-- a part of a piece, as it is written
pub part_written : (p : Piece) (from to lo hi bottom top kept : ℕ) (now : List ℕ) → IsSoundPiece p → from ≤ to → to ≤ p.length → now ≡ p.bytes.items → kept ≡ vec_len p.bytes
    → lo ≡ min from kept → hi ≡ min to kept → bottom ≡ max from kept → top ≡ max to kept
    → take (hi - lo) (drop lo now) ++ replicate (top - bottom) 0 ≡ part from to (whole_of p)
part_written p from to lo hi bottom top kept now sound le within is k a b c d =
    let n = length p.bytes.items in
    let len : kept ≡ n = omega (arith, k, p.bytes.ok.0) in
    let a' : lo ≡ min from n = a ∙ ap (λ (x : ℕ). min from x) len in
    let b' : hi ≡ min to n = b ∙ ap (λ (x : ℕ). min to x) len in
    let c' : bottom ≡ max from n = c ∙ ap (λ (x : ℕ). max from x) len in
    let d' : top ≡ max to n = d ∙ ap (λ (x : ℕ). max to x) len in
    (λ i. take (b' i - a' i) (drop (a' i) (is i)) ++ replicate (d' i - c' i) 0)
    ∙ sym (part_is from to p.bytes.items (p.length - vec_len p.bytes) le (omega (arith, sound.kept, k, len)))

-- ---- the first piece with another byte in its group header

pub rest_part : (from : ℕ) (whole : List ℕ) → part from (length whole) whole ≡ drop from whole
rest_part from whole = take_all (length whole - from) (drop from whole) (omega (arith, length-drop from whole))

module _ {K : Type 0} (held : K → Option (List ℕ)) (output_faults : K → ℕ) where
  -- the byte wasn't written
  pub byte_stops : (o0 o1 o2 : K) (whole : List ℕ) (sequence header : ℕ) (behind : Bool) (byte : ℕ) (e : PortError) → behind ≡ true → byte ≡ with_broken_link (slice_index whole (header + 7)) → output_faults o0 ≤ output_faults o1
      → Grows (held o0) (part sequence (header + 7) whole) (held o1) → PutStops (byte ∷ []) (change held output_faults o1 o2) e → PutStops (head_of whole sequence header behind) (change held output_faults o0 o2) e
  byte_stops o0 o1 o2 whole sequence header behind byte e on is le grown stops =
      let front : List ℕ = part sequence (header + 7) whole in
      let rest : List ℕ = drop (header + 8) whole in
      let all : (front ++ byte ∷ []) ++ rest ≡ head_of whole sequence header behind = append_assoc front (byte ∷ []) rest ∙ ap (λ (b : ℕ). front ++ b ∷ rest) is ∙ rw on refl in
      subst (λ (b : List ℕ). PutStops b (change held output_faults o0 o2) e) all
      (stops_more held output_faults o0 o2 (front ++ byte ∷ []) rest e (stops_on held output_faults o0 o1 o2 front (byte ∷ []) e le grown stops))

  -- the bytes behind it weren't written whole
  pub rest_stops : (o0 o1 o2 o3 : K) (whole : List ℕ) (sequence header end : ℕ) (behind : Bool) (byte : ℕ) (e : PortError) → behind ≡ true → byte ≡ with_broken_link (slice_index whole (header + 7)) → end ≡ length whole → output_faults o0 ≤ output_faults o2
      → Grows (held o0) (part sequence (header + 7) whole) (held o1) → Grows (held o1) (byte ∷ []) (held o2) → PutStops (part (header + 8) end whole) (change held output_faults o2 o3) e → PutStops (head_of whole sequence header behind) (change held output_faults o0 o3) e
  rest_stops o0 o1 o2 o3 whole sequence header end behind byte e on is length_is le grown next stops =
      let front : List ℕ = part sequence (header + 7) whole in
      let rest : List ℕ = drop (header + 8) whole in
      let all : (front ++ byte ∷ []) ++ rest ≡ head_of whole sequence header behind = append_assoc front (byte ∷ []) rest ∙ ap (λ (b : ℕ). front ++ b ∷ rest) is ∙ rw on refl in
      subst (λ (b : List ℕ). PutStops b (change held output_faults o0 o3) e) all
      (stops_on held output_faults o0 o2 o3 (front ++ byte ∷ []) rest e le (grows_on grown next)
      (subst (λ (b : List ℕ). PutStops b (change held output_faults o2 o3) e) (ap (λ (n : ℕ). part (header + 8) n whole) length_is ∙ rest_part (header + 8) whole) stops))
