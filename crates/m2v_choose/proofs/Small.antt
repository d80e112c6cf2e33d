-- Transforms of chroma blocks, by either DCT type, and the pattern as it is made block by block.
use Rattle.std.proofs.Common.{◌≡◌, inl, inr, [], All, length, get_or, subst, sym, ℕ, zero, suc, ◌+◌, ◌*◌, ◌^◌, ◌<◌, ◌≤◌, Bool, true, false, not, cond, List, map, refl, ap, ◌∙◌, arith, ℤ}
use Rattle.std.specs.List.{range_with_len}
use Rattle.std.proofs.lemmas.Bool.{cases_lt}
use Rattle.std.proofs.Math.Nat.{pow-le-pow_right}
use Rattle.std.proofs.lemmas.List.FromFn.{get_or-map-range_with_len}
use Rattle.std.proofs.lemmas.List.Elements.{All-from_get_or}
use Rattle.m2v_idct.specs.Ranges.{IsCoefficient}
use Rattle.m2v_idct.specs.Forward.{forward_of}
use Rattle.m2v_choose.specs.Decisions.{block_place, differences, pattern_of}
use Rattle.m2v_choose.specs.Trials.{is_empty, transforms_of, AreFar, HaveSame, IsSame, StandsFor}

-- transforms of chroma blocks are the same by both DCT types
pub six_transforms : (s p : List ℕ) → length (transforms_of s p false) ≡ 6
unfolding transforms_of
six_transforms s p = refl

four_fields : (s p : List ℕ) → get_or (transforms_of s p false) 4 [] ≡ forward_of (differences s p true 4)
unfolding transforms_of differences block_place
four_fields s p = refl

five_fields : (s p : List ℕ) → get_or (transforms_of s p false) 5 [] ≡ forward_of (differences s p true 5)
unfolding transforms_of differences block_place
five_fields s p = refl

pub chroma_fields : (s p : List ℕ) (b : ℕ) (frame : List (List ℤ)) → frame ≡ transforms_of s p false → 4 ≤ b → b < 6 → get_or frame b [] ≡ forward_of (differences s p true b)
chroma_fields s p b frame same le lt =
    ap (λ (xs : List (List ℤ)). get_or xs b []) same
    ∙ elim (cases_lt b 5) [
      | inl four ↦ let e : 4 ≡ b = omega (arith, le, four) in subst (λ (n : ℕ). get_or (transforms_of s p false) n [] ≡ forward_of (differences s p true n)) e (four_fields s p)
      | inr five ↦ let e : 5 ≡ b = omega (arith, lt, five) in subst (λ (n : ℕ). get_or (transforms_of s p false) n [] ≡ forward_of (differences s p true n)) e (five_fields s p)
    ]

-- what is transformed of a chroma block is
four_same : (s p : List ℕ) (x y : Bool) → differences s p x 4 ≡ differences s p y 4
unfolding differences block_place
four_same s p x y = refl

five_same : (s p : List ℕ) (x y : Bool) → differences s p x 5 ≡ differences s p y 5
unfolding differences block_place
five_same s p x y = refl

pub chroma_same : (s p : List ℕ) (x y : Bool) (b : ℕ) → 4 ≤ b → b < 6 → differences s p x b ≡ differences s p y b
chroma_same s p x y b le lt = elim (cases_lt b 5) [
  | inl four ↦ let e : 4 ≡ b = omega (arith, le, four) in subst (λ (n : ℕ). differences s p x n ≡ differences s p y n) e (four_same s p x y)
  | inr five ↦ let e : 5 ≡ b = omega (arith, five, lt) in subst (λ (n : ℕ). differences s p x n ≡ differences s p y n) e (five_same s p x y)
]

-- the pattern of the first n blocks, by whether each is empty
abbrev pub bit : Bool → ℕ
bit b = cond b 1 0

unfoldable pub pattern_to : (ℕ → Bool) → ℕ → ℕ
pattern_to empty zero = 0
pattern_to empty (suc n) = 2 * pattern_to empty n + bit (not (empty n))

pub pattern_more : (empty : ℕ → Bool) (n : ℕ) → pattern_to empty (n + 1) ≡ 2 * pattern_to empty n + bit (not (empty n))
unfolding pattern_to
pattern_more empty n = let e : n + 1 ≡ suc n = omega arith in ap (pattern_to empty) e

bit_most : (b : Bool) → bit b ≤ 1
bit_most true = omega arith
bit_most false = omega arith

pub pattern_below : (empty : ℕ → Bool) (n : ℕ) → pattern_to empty n < 2 ^ n
unfolding pattern_to
pattern_below empty zero = omega arith
pattern_below empty (suc n) = omega (arith, pattern_below empty n, bit_most (not (empty n)))

pub pattern_few : (empty : ℕ → Bool) (n : ℕ) → n < 6 → pattern_to empty n < 32
pattern_few empty n lt = omega (arith, pattern_below empty n, pow-le-pow_right {n = 2} (omega arith) {i = n} {j = 5} (omega (arith, lt)))

shared : (b : Bool) (k : ℕ) → cond b 0 k ≡ k * bit (not b)
shared true k = omega arith
shared false k = omega arith

pub pattern_whole : (f : ℕ → List ℤ) → pattern_to (λ b. is_empty (f b)) 6 ≡ pattern_of (map f (range_with_len 0 6))
unfolding pattern_of pattern_to
pattern_whole f =
    omega (arith, shared (is_empty (f 0)) 32, shared (is_empty (f 1)) 16, shared (is_empty (f 2)) 8, shared (is_empty (f 3)) 4, shared (is_empty (f 4)) 2, shared (is_empty (f 5)) 1)

-- six blocks that stand for transforms
pub six_stand : (least : ℕ) (s p : List ℕ) (dct : Bool) (out : List (List ℤ)) (most : List ℕ) → length out ≡ 6
    → ((b : ℕ) → b < 6 → StandsFor least (forward_of (differences s p dct b)) (get_or out b []) (get_or most b 0))
    → HaveSame least out (transforms_of s p dct) × All (All IsCoefficient) out × AreFar out most
unfolding transforms_of
six_stand least s p dct out most len at =
    let f = λ (b : ℕ). forward_of (differences s p dct b) in (
      record { at = λ b lt. subst (IsSame least (get_or out b [])) (sym (get_or-map-range_with_len f 0 6 b b [] lt (omega arith))) (at b lt).alike },
      All-from_get_or (All IsCoefficient) out [] (λ i lt. (at i (omega (arith, len, lt))).known),
      record { at = λ b k lt small. (at b lt).far k small },
    )
