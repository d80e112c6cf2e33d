-- How long units are, and that they end at the edge of a byte; the bytes of one text behind another.
use Rattle.std.proofs.Common.{◌≡◌, ℕ, zero, suc, ◌+◌, ◌*◌, ◌/◌, Bool, false, List, [], ◌∷◌, ◌++◌, length, replicate, refl, ap, ◌∙◌, arith}
use Rattle.std.proofs.lemmas.List.{length-append, length-replicate}
use Rattle.m2v_bits.specs.Bits.{bits_of, number, packed, start_code, to_edge, unit, IsEdge}
use Rattle.m2v_bits.proofs.Bits.{length-bits_of}

pub start_length : (v : ℕ) → length (start_code v) ≡ 32
start_length v = omega (arith, length-append (bits_of 24 1) (bits_of 8 v), length-bits_of 24 1, length-bits_of 8 v)

pub unit_length : (v : ℕ) (t : List Bool) → length (unit v t) ≡ 32 + length t + to_edge (32 + length t)
unit_length v t =
    let front : length (start_code v ++ t) ≡ 32 + length t = omega (arith, length-append (start_code v) t, start_length v) in
    length-append (start_code v ++ t) (replicate (to_edge (length (start_code v ++ t))) false)
    ∙ rw (length-replicate (to_edge (length (start_code v ++ t))) false, front) refl

pub unit_edge : (v : ℕ) (t : List Bool) → IsEdge (unit v t)
unit_edge v t = omega (arith, unit_length v t)

pub edge-append : (a b : List Bool) → IsEdge a → IsEdge b → IsEdge (a ++ b)
edge-append a b ea eb = omega (arith, length-append a b)

packed_front : (a b c d e f g h : Bool) (rest more : List Bool) → packed (rest ++ more) ≡ packed rest ++ packed more
    → packed ((a ∷ b ∷ c ∷ d ∷ e ∷ f ∷ g ∷ h ∷ rest) ++ more) ≡ packed (a ∷ b ∷ c ∷ d ∷ e ∷ f ∷ g ∷ h ∷ rest) ++ packed more
unfolding packed
packed_front a b c d e f g h rest more is = ap (λ (xs : List ℕ). number (a ∷ b ∷ c ∷ d ∷ e ∷ f ∷ g ∷ h ∷ []) ∷ xs) is

packed_none : packed [] ≡ []
unfolding packed
packed_none = refl

packed_whole : (n : ℕ) (xs ys : List Bool) → length xs ≡ 8 * n → packed (xs ++ ys) ≡ packed xs ++ packed ys
packed_whole zero [] ys len = rw packed_none refl
packed_whole zero (a ∷ xs) ys len = absurd (omega arith)
packed_whole (suc n) (a ∷ b ∷ c ∷ d ∷ e ∷ f ∷ g ∷ h ∷ rest) ys len = packed_front a b c d e f g h rest ys (packed_whole n rest ys (omega arith))
packed_whole (suc n) _ ys len = absurd (omega arith)

-- the bytes of one text behind another, where the first ends at the edge of a byte
pub packed-append : (xs ys : List Bool) → IsEdge xs → packed (xs ++ ys) ≡ packed xs ++ packed ys
packed-append xs ys edge = packed_whole (length xs / 8) xs ys (omega arith)
