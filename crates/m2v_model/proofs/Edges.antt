-- Texts one behind another: how long they are, and that they end at the edge of a byte.
use Rattle.std.proofs.Common.{◌≡◌, ℕ, zero, suc, ◌+◌, Bool, List, [], refl, subst, arith}
use Rattle.std.specs.List.{flat_map, range_with_len}
use Rattle.m2v_bits.specs.Bits.{packed, IsEdge}
use Rattle.m2v_bits.proofs.Units.{edge-append}
use Rattle.m2v_bits.proofs.Texts.{texts_more}

-- ---- the edge of a byte

pub texts_edge : (text : ℕ → List Bool) → ((k : ℕ) → IsEdge (text k)) → (n : ℕ) → IsEdge (flat_map text (range_with_len 0 n))
texts_edge text each zero = refl
texts_edge text each (suc n) =
    let next : n + 1 ≡ suc n = omega arith in
    subst (λ (k : ℕ). IsEdge (flat_map text (range_with_len 0 k))) next
    (rw (texts_more text n) (edge-append (flat_map text (range_with_len 0 n)) (text n) (texts_edge text each n) (each n)))

-- ---- bytes

pub packed_none : packed [] ≡ []
unfolding packed
packed_none = refl
