-- A part of a piece's bytes, of which zero bytes at the end aren't kept.
use Rattle.std.proofs.Common.{◌≡◌, ℕ, ◌+◌, ◌-◌, ◌*◌, ◌≤◌, ◌<◌, List, ◌++◌, length, take, drop, replicate, arith, ap, sym, ◌∙◌, ◌⊎◌, inl, inr}
use Rattle.std.proofs.Math.Seq.{take-append-add}
use Rattle.std.proofs.lemmas.Bool.{cases_lt}
use Rattle.std.proofs.lemmas.List.{append-nil, length-drop, length-take-le, take-append-le, drop-append-le, take_all, take-replicate}
use Rattle.m2v_bits.proofs.Cursor.{length-bits}
use Rattle.m2v_model.specs.Units.{body}
use Rattle.m2v_dec_unit.specs.Texts.{text_of}
use Rattle.m2v_dec_unit.proofs.Cuts.{text_length}

-- numbers and zeros behind them, as many as there are in all
front_is : (d : List ℕ) (z n : ℕ) → n ≤ length d + z → (length d < n) ⊎ (n ≤ length d)
    → text_of (take n d) (n - length (take n d)) ≡ take n (d ++ replicate z 0)
front_is d z n le (inl less) =
    let all = take_all n d (omega (arith, less)) in
    let more : length d + (n - length d) ≡ n = omega (arith, less) in
    ap (λ (k : List ℕ). text_of k (n - length k)) all
    ∙ ap (λ (l : List ℕ). d ++ l) (sym (take-replicate (n - length d) z 0 (omega (arith, le))))
    ∙ sym (take-append-add d (replicate z 0) (n - length d))
    ∙ ap (λ (k : ℕ). take k (d ++ replicate z 0)) more
front_is d z n le (inr few) =
    let none : n - length (take n d) ≡ 0 = omega (arith, length-take-le n d few) in
    ap (text_of (take n d)) none ∙ append-nil (take n d) ∙ sym (take-append-le n d (replicate z 0) few)

-- the unit that stands in a piece, by the bytes of it that are kept
pub unit_is : (bs : List ℕ) (z from n : ℕ) (kept : List ℕ) → from ≤ length bs → from + n ≤ length bs + z → kept ≡ take n (drop from bs)
    → text_of kept (n - length kept) ≡ take n (drop from (bs ++ replicate z 0))
unit_is bs z from n kept le within e =
    let d = drop from bs in
    let ld = length-drop from bs in
    ap (λ (k : List ℕ). text_of k (n - length k)) e
    ∙ front_is d z n (omega (arith, ld, le, within)) (cases_lt (length d) n)
    ∙ ap (take n) (sym (drop-append-le from bs (replicate z 0) le))

-- how many bits stand behind its start code
pub body_long : (kept : List ℕ) (z : ℕ) → 4 ≤ length kept → length (body (text_of kept z)) + 32 ≡ 8 * (length kept + z)
body_long kept z le = omega (arith, le, length-bits (drop 4 (text_of kept z)), length-drop 4 (text_of kept z), text_length kept z)
