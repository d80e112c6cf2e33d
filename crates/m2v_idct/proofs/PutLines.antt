-- A line of a block that is written whole, and lines that are written one behind another.
use Rattle.std.proofs.Common.{◌≡◌, ◌≢◌, ℕ, ◌+◌, ◌-◌, ◌*◌, ◌<◌, ◌∙◌, List, ◌++◌, length, take, drop, get_or, arith, ap, sym, inl, inr, below_more, ℤ, pos}
use Rattle.std.proofs.lemmas.Bool.{cases_lt}
use Rattle.std.proofs.lemmas.List.{get_or-append_right, get_or-drop, get_or-take, get_or_append_left, length-drop, length-take-le}
use Rattle.std.proofs.lemmas.Simd.{put_chunk_whole}
use borrow.Rule.Slice.PartMut.{mid_of, put_mid}
use lib.Lanes.{put_chunk}

-- eight numbers put in the place of those of line y
module _ (xs ys : List ℤ) (y n : ℕ) (long : length xs ≡ 64) (eight : length ys ≡ 8) (ly : y < 8) (ln : n ≡ 8) where
  before : length (take (8 * y) xs) ≡ 8 * y
  before = length-take-le (8 * y) xs (omega (arith, long, ly))

  pub whole_line : put_chunk 0 (mid_of (8 * y) n xs) ys ≡ ys
  whole_line = put_chunk_whole (mid_of (8 * y) n xs) ys (length-take-le n (drop (8 * y) xs) (omega (arith, length-drop (8 * y) xs, long, ly, ln)) ∙ ln ∙ sym eight)

  pub line_here : (k : ℕ) → k < 8 → get_or (put_mid (8 * y) n xs ys) (8 * y + k) (pos 0) ≡ get_or ys k (pos 0)
  line_here k lk =
      let place : 8 * y + k - 8 * y ≡ k = omega arith in
      get_or-append_right (take (8 * y) xs) (ys ++ drop n (drop (8 * y) xs)) (8 * y) (8 * y + k) (pos 0) before (omega arith)
      ∙ ap (λ i. get_or (ys ++ drop n (drop (8 * y) xs)) i (pos 0)) place
      ∙ get_or_append_left ys (drop n (drop (8 * y) xs)) (pos 0) k (omega (arith, eight, lk))

  pub line_else : (i : ℕ) → ((k : ℕ) → k < 8 → i ≢ 8 * y + k) → get_or (put_mid (8 * y) n xs ys) i (pos 0) ≡ get_or xs i (pos 0)
  line_else i apart = elim (cases_lt i (8 * y)) [
    | inl lt ↦
        get_or_append_left (take (8 * y) xs) (ys ++ drop n (drop (8 * y) xs)) (pos 0) i (omega (arith, before, lt)) ∙ get_or-take (8 * y) xs i (pos 0) lt
    | inr ge ↦
        elim (cases_lt i (8 * y + 8)) [
          | inl lt ↦ absurd (apart (i - 8 * y) (omega (arith, ge, lt)) (omega (arith, ge)))
          | inr past ↦
              let place : 8 * y + (n + (i - 8 * y - 8)) ≡ i = omega (arith, past, ln) in
              get_or-append_right (take (8 * y) xs) (ys ++ drop n (drop (8 * y) xs)) (8 * y) i (pos 0) before ge
              ∙ get_or-append_right ys (drop n (drop (8 * y) xs)) 8 (i - 8 * y) (pos 0) eight (omega (arith, past))
              ∙ get_or-drop n (drop (8 * y) xs) (i - 8 * y - 8) (pos 0)
              ∙ get_or-drop (8 * y) xs (n + (i - 8 * y - 8)) (pos 0)
              ∙ ap (λ j. get_or xs j (pos 0)) place
        ]
  ]

-- one line more
abbrev pub AreLines : ℕ → List ℤ → (ℕ → ℕ → ℤ) → Type 0
AreLines n xs g = (y k : ℕ) → y < n → k < 8 → get_or xs (8 * y + k) (pos 0) ≡ g y k

pub line_more : (n : ℕ) (old new : List ℤ) (g : ℕ → ℕ → ℤ) → AreLines n old g
    → ((k : ℕ) → k < 8 → get_or new (8 * n + k) (pos 0) ≡ g n k)
    → ((i : ℕ) → ((k : ℕ) → k < 8 → i ≢ 8 * n + k) → get_or new i (pos 0) ≡ get_or old i (pos 0))
    → AreLines (n + 1) new g
line_more n old new g done here rest y k ly lk =
    below_more (λ j. (i : ℕ) → i < 8 → get_or new (8 * j + i) (pos 0) ≡ g j i) n
    (λ j l i li. rest (8 * j + i) (λ m lm. omega arith) ∙ done j i l li)
    here
    y ly k lk
