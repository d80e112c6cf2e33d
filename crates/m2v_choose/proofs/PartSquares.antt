-- The squares of a macroblock's blocks: what they add up to, and which of them are those of the prediction.
use Rattle.std.proofs.Common.{◌≡◌, ℕ, zero, suc, ◌+◌, ◌*◌, ◌/◌, ◌%◌, ◌^◌, ◌<◌, ◌≤◌, Bool, true, false, ◌&&◌, inl, inr, List, [], ◌∷◌, get_or, ◌-◌, refl, ap, sym, ◌∙◌, subst, arith, ℤ, pos, ◌+ℤ◌, replicate}
use Rattle.std.specs.Prelude.{◌≢◌, cond, if◌then◌else◌, nat_eq, slice_index, slice_index_or}
use Rattle.std.specs.List.{range_with_len, sum_by}
use Rattle.std.proofs.lemmas.Bool.{cases_lt, lt-ltb}
use Rattle.std.proofs.lemmas.Bool.Decides.{nat_tests}
use Rattle.std.proofs.lemmas.List.Sums.{sum_by-cons}
use Rattle.m2v_plane.specs.declared.planes.Plane.{Plane}
use Rattle.m2v_plane.specs.declared.planes.Plane.TheVariants.{Y, Cb, Cr}
use Rattle.m2v_quant.specs.declared.kind.BlockKind.{BlockKind}
use Rattle.m2v_quant.specs.Coefficients.{coefficients_of}
use Rattle.m2v_idct.specs.Inverse.{inverse_of}
use Rattle.m2v_pred.specs.Predicted.{block_by}
use Rattle.m2v_pred.proofs.Blocks.{block-at}
use Rattle.m2v_recon.specs.Macro.{block_of, is_coded, kind_of, residual, clamped, macro_sample}
use Rattle.m2v_recon.specs.Steps.{luma_line, luma_place}
use Rattle.m2v_kernel.specs.Sums.{apart}
use Rattle.m2v_recon.proofs.Luma.{line_below, plus_none}
use Rattle.m2v_choose.specs.Decisions.{block_place}
use Rattle.m2v_choose.specs.Choice.{square_at, plane_squared, squared}
use Rattle.m2v_choose.specs.Trials.{block_squared, coded_squared, uncoded_squared, AreSquares, AreAlike, rebuilt_by}
use Rattle.m2v_choose.specs.declared.task.Task.{Task}
use Rattle.m2v_macro.specs.declared.values.MacroSyntax.{MacroSyntax}
use Rattle.m2v_macro.specs.States.{after}
use Rattle.m2v_macroblock.specs.Macroblocks.{kind_for}
use Rattle.m2v_macroblock.specs.Predictions.{sample_at}
use Rattle.m2v_choose.proofs.Sums.{sum_more, sum_same}
use Rattle.m2v_vlc.proofs.ValueLaws.{below, agree}

-- ---- sums

sum_split : (f : ℕ → ℕ) (m n : ℕ) → sum_by f (range_with_len 0 (m + n)) ≡ sum_by f (range_with_len 0 m) + sum_by (λ c. f (m + c)) (range_with_len 0 n)
sum_split f m zero =
    let none : sum_by (λ c. f (m + c)) (range_with_len 0 0) ≡ 0 = refl in
    let same : m + 0 ≡ m = omega arith in
    omega (arith, none, ap (λ (k : ℕ). sum_by f (range_with_len 0 k)) same)
sum_split f m (suc n) =
    let g = λ (c : ℕ). f (m + c) in
    let left : sum_by f (range_with_len 0 (m + n + 1)) ≡ sum_by f (range_with_len 0 (m + n)) + f (m + n) = sum_more f (m + n) in
    let right : sum_by g (range_with_len 0 (n + 1)) ≡ sum_by g (range_with_len 0 n) + f (m + n) = sum_more g n in
    let one : m + suc n ≡ m + n + 1 = omega arith in
    let two : suc n ≡ n + 1 = omega arith in
    ap (λ (k : ℕ). sum_by f (range_with_len 0 k)) one ∙ (let h : sum_by f (range_with_len 0 (m + n + 1)) ≡ sum_by f (range_with_len 0 m) + sum_by g (range_with_len 0 (n + 1)) = omega (arith, left, right, sum_split f m n) in h)
    ∙ ap (λ (k : ℕ). sum_by f (range_with_len 0 m) + sum_by g (range_with_len 0 k)) (sym two)

even_odd : (f : ℕ → ℕ) (n : ℕ) → sum_by f (range_with_len 0 (2 * n)) ≡ sum_by (λ l. f (2 * l)) (range_with_len 0 n) + sum_by (λ l. f (2 * l + 1)) (range_with_len 0 n)
even_odd f zero = refl
even_odd f (suc n) =
    let first : sum_by f (range_with_len 0 (2 * n + 1)) ≡ sum_by f (range_with_len 0 (2 * n)) + f (2 * n) = sum_more f (2 * n) in
    let second : sum_by f (range_with_len 0 (2 * n + 1 + 1)) ≡ sum_by f (range_with_len 0 (2 * n + 1)) + f (2 * n + 1) = sum_more f (2 * n + 1) in
    let even = λ (l : ℕ). f (2 * l) in
    let odd = λ (l : ℕ). f (2 * l + 1) in
    let e : sum_by even (range_with_len 0 (n + 1)) ≡ sum_by even (range_with_len 0 n) + f (2 * n) = sum_more even n in
    let o : sum_by odd (range_with_len 0 (n + 1)) ≡ sum_by odd (range_with_len 0 n) + f (2 * n + 1) = sum_more odd n in
    let one : 2 * suc n ≡ 2 * n + 1 + 1 = omega arith in
    let two : suc n ≡ n + 1 = omega arith in
    ap (λ (k : ℕ). sum_by f (range_with_len 0 k)) one
    ∙ (let h : sum_by f (range_with_len 0 (2 * n + 1 + 1)) ≡ sum_by even (range_with_len 0 (n + 1)) + sum_by odd (range_with_len 0 (n + 1)) = omega (arith, first, second, e, o, even_odd f n) in h)
    ∙ ap (λ (k : ℕ). sum_by even (range_with_len 0 k) + sum_by odd (range_with_len 0 k)) (sym two)

sum_both : (f g : ℕ → ℕ) (xs : List ℕ) → sum_by (λ x. f x + g x) xs ≡ sum_by f xs + sum_by g xs
sum_both f g [] = refl
sum_both f g (x ∷ xs) = omega (arith, sum_by-cons (λ y. f y + g y) x xs, sum_by-cons f x xs, sum_by-cons g x xs, sum_both f g xs)

pub six : (f : ℕ → ℕ) → sum_by f (range_with_len 0 6) ≡ f 0 + f 1 + f 2 + f 3 + f 4 + f 5
six f =
    let e0 : sum_by f (range_with_len 0 1) ≡ sum_by f (range_with_len 0 0) + f 0 = sum_more f 0 in
    let e1 : sum_by f (range_with_len 0 2) ≡ sum_by f (range_with_len 0 1) + f 1 = sum_more f 1 in
    let e2 : sum_by f (range_with_len 0 3) ≡ sum_by f (range_with_len 0 2) + f 2 = sum_more f 2 in
    let e3 : sum_by f (range_with_len 0 4) ≡ sum_by f (range_with_len 0 3) + f 3 = sum_more f 3 in
    let e4 : sum_by f (range_with_len 0 5) ≡ sum_by f (range_with_len 0 4) + f 4 = sum_more f 4 in
    let e5 : sum_by f (range_with_len 0 6) ≡ sum_by f (range_with_len 0 5) + f 5 = sum_more f 5 in
    let none : sum_by f (range_with_len 0 0) ≡ 0 = refl in
    omega (arith, none, e0, e1, e2, e3, e4, e5)

-- ---- all blocks

module _ (s p : List ℕ) where
  -- eight samples from one on
  eight : ℕ → ℕ
  eight from = sum_by (λ c. square_at s p (from + c)) (range_with_len 0 8)

  -- eight lines, by where each begins
  lines : (ℕ → ℕ) → ℕ
  lines place = sum_by (λ l. eight (place l)) (range_with_len 0 8)

  block_lines : (dct : Bool) (b : ℕ) (place : ℕ → ℕ) → ((l : ℕ) → block_place dct b (8 * l) ≡ place l) → block_squared dct s p b ≡ lines place
  unfolding block_squared eight lines
  block_lines dct b place same = sum_same (λ l. eight (block_place dct b (8 * l))) (λ l. eight (place l)) (range_with_len 0 8) (λ l. ap eight (same l))

  luma_squared : plane_squared s p 16 0 ≡ sum_by (λ l. eight (16 * l)) (range_with_len 0 16) + sum_by (λ l. eight (16 * l + 8)) (range_with_len 0 16)
  unfolding plane_squared eight
  luma_squared =
      sum_same (λ l. sum_by (λ c. square_at s p (0 + (16 * l + c))) (range_with_len 0 16)) (λ l. eight (16 * l) + eight (16 * l + 8)) (range_with_len 0 16)
      (λ l.
      let f = λ (c : ℕ). square_at s p (0 + (16 * l + c)) in
      let first : sum_by f (range_with_len 0 8) ≡ eight (16 * l) = sum_same f (λ c. square_at s p (16 * l + c)) (range_with_len 0 8) (λ c. let e : 0 + (16 * l + c) ≡ 16 * l + c = omega arith in ap (square_at s p) e) in
      let second : sum_by (λ c. f (8 + c)) (range_with_len 0 8) ≡ eight (16 * l + 8) =
      sum_same (λ c. f (8 + c)) (λ c. square_at s p (16 * l + 8 + c)) (range_with_len 0 8) (λ c. let e : 0 + (16 * l + (8 + c)) ≡ 16 * l + 8 + c = omega arith in ap (square_at s p) e) in
      sum_split f 8 8 ∙ (λ i. first i + second i))
      ∙ sum_both (λ l. eight (16 * l)) (λ l. eight (16 * l + 8)) (range_with_len 0 16)

  chroma_squared : (from : ℕ) → plane_squared s p 8 from ≡ lines (λ l. from + 8 * l)
  unfolding plane_squared eight lines
  chroma_squared from =
      sum_same (λ l. sum_by (λ c. square_at s p (from + (8 * l + c))) (range_with_len 0 8)) (λ l. eight (from + 8 * l)) (range_with_len 0 8)
      (λ l. sum_same (λ c. square_at s p (from + (8 * l + c))) (λ c. square_at s p (from + 8 * l + c)) (range_with_len 0 8) (λ c. let e : from + (8 * l + c) ≡ from + 8 * l + c = omega arith in ap (square_at s p) e))

  -- the upper and the lower lines
  by_halves : (k : ℕ) → sum_by (λ l. eight (16 * l + k)) (range_with_len 0 16) ≡ lines (λ l. 16 * l + k) + lines (λ l. 16 * (8 + l) + k)
  unfolding lines
  by_halves k = sum_split (λ l. eight (16 * l + k)) 8 8

  -- the even and the odd lines
  by_fields : (k : ℕ) → sum_by (λ l. eight (16 * l + k)) (range_with_len 0 16) ≡ lines (λ l. 16 * (2 * l) + k) + lines (λ l. 16 * (2 * l + 1) + k)
  unfolding lines
  by_fields k = even_odd (λ l. eight (16 * l + k)) 8

  from_none : sum_by (λ l. eight (16 * l)) (range_with_len 0 16) ≡ sum_by (λ l. eight (16 * l + 0)) (range_with_len 0 16)
  from_none = sum_same (λ l. eight (16 * l)) (λ l. eight (16 * l + 0)) (range_with_len 0 16) (λ l. let e : 16 * l ≡ 16 * l + 0 = omega arith in ap eight e)

  pub squared_blocks : (dct : Bool) → squared s p ≡ sum_by (block_squared dct s p) (range_with_len 0 6)
  unfolding squared block_place
  squared_blocks false =
      let b0 = block_lines false 0 (λ l. 16 * l + 0) (λ l. omega arith) in
      let b1 = block_lines false 1 (λ l. 16 * l + 8) (λ l. omega arith) in
      let b2 = block_lines false 2 (λ l. 16 * (8 + l) + 0) (λ l. omega arith) in
      let b3 = block_lines false 3 (λ l. 16 * (8 + l) + 8) (λ l. omega arith) in
      let b4 = block_lines false 4 (λ l. 256 + 8 * l) (λ l. omega arith) in
      let b5 = block_lines false 5 (λ l. 320 + 8 * l) (λ l. omega arith) in
      omega (arith, six (block_squared false s p), luma_squared, from_none, by_halves 0, by_halves 8, chroma_squared 256, chroma_squared 320, b0, b1, b2, b3, b4, b5)
  squared_blocks true =
      let b0 = block_lines true 0 (λ l. 16 * (2 * l) + 0) (λ l. omega arith) in
      let b1 = block_lines true 1 (λ l. 16 * (2 * l) + 8) (λ l. omega arith) in
      let b2 = block_lines true 2 (λ l. 16 * (2 * l + 1) + 0) (λ l. omega arith) in
      let b3 = block_lines true 3 (λ l. 16 * (2 * l + 1) + 8) (λ l. omega arith) in
      let b4 = block_lines true 4 (λ l. 256 + 8 * l) (λ l. omega arith) in
      let b5 = block_lines true 5 (λ l. 320 + 8 * l) (λ l. omega arith) in
      omega (arith, six (block_squared true s p), luma_squared, from_none, by_fields 0, by_fields 8, chroma_squared 256, chroma_squared 320, b0, b1, b2, b3, b4, b5)

  -- two blocks one above the other have the same lines by either DCT type
  same_lines : (k : ℕ) {upper lower even odd : ℕ} → upper ≡ lines (λ l. 16 * l + k) → lower ≡ lines (λ l. 16 * (8 + l) + k)
      → even ≡ lines (λ l. 16 * (2 * l) + k) → odd ≡ lines (λ l. 16 * (2 * l + 1) + k) → upper + lower ≡ even + odd
  same_lines k a b c d = omega (arith, by_halves k, by_fields k, a, b, c, d)

  pub left_lines : block_squared false s p 0 + block_squared false s p 2 ≡ block_squared true s p 0 + block_squared true s p 2
  unfolding block_place
  left_lines =
      same_lines 0 (block_lines false 0 (λ l. 16 * l + 0) (λ l. omega arith)) (block_lines false 2 (λ l. 16 * (8 + l) + 0) (λ l. omega arith))
      (block_lines true 0 (λ l. 16 * (2 * l) + 0) (λ l. omega arith)) (block_lines true 2 (λ l. 16 * (2 * l + 1) + 0) (λ l. omega arith))

  pub right_lines : block_squared false s p 1 + block_squared false s p 3 ≡ block_squared true s p 1 + block_squared true s p 3
  unfolding block_place
  right_lines =
      same_lines 8 (block_lines false 1 (λ l. 16 * l + 8) (λ l. omega arith)) (block_lines false 3 (λ l. 16 * (8 + l) + 8) (λ l. omega arith))
      (block_lines true 1 (λ l. 16 * (2 * l) + 8) (λ l. omega arith)) (block_lines true 3 (λ l. 16 * (2 * l + 1) + 8) (λ l. omega arith))

  -- and chroma blocks are the same
  pub blue_lines : block_squared false s p 4 ≡ block_squared true s p 4
  unfolding block_squared block_place
  blue_lines = refl

  pub red_lines : block_squared false s p 5 ≡ block_squared true s p 5
  unfolding block_squared block_place
  red_lines = refl

-- ---- blocks with levels, and blocks without

-- a line and a column of luma, and back
place_is : (field : Bool) (b l c : ℕ) → b < 4 → l < 8 → c < 8 → block_of field Y (luma_line field b l) (8 * (b % 2) + c) ≡ record { block = b; line = l; column = c }
unfolding block_of
place_is false b l c lt ll small =
    let e : 2 * ((8 * (b / 2) + l) / 8) + (8 * (b % 2) + c) / 8 ≡ b = omega arith in
    let f : (8 * (b / 2) + l) % 8 ≡ l = omega arith in
    let g : (8 * (b % 2) + c) % 8 ≡ c = omega arith in
    λ i. record { block = e i; line = f i; column = g i }
place_is true b l c lt ll small =
    let e : 2 * ((2 * l + b / 2) % 2) + (8 * (b % 2) + c) / 8 ≡ b = omega arith in
    let f : (2 * l + b / 2) / 2 ≡ l = omega arith in
    let g : (8 * (b % 2) + c) % 8 ≡ c = omega arith in
    λ i. record { block = e i; line = f i; column = g i }

-- where a luma line begins
pub luma_begins : (dct : Bool) (b l : ℕ) → b < 4 → block_place dct b (8 * l) ≡ luma_place dct b l
unfolding block_place
luma_begins dct b l lt =
    let e : 8 * l / 8 ≡ l = omega arith in
    let z : 8 * l % 8 ≡ 0 = omega arith in
    let none : luma_place dct b l + 0 ≡ luma_place dct b l = omega arith in
    rw (lt-ltb b 4 lt) ((λ i. luma_place dct b (e i) + z i) ∙ none)

module _ (dct : Bool) (s p : List ℕ) (ls : List (List ℤ)) (pattern : ℕ) (luma chroma : BlockKind) where
  -- a sample of a block as it is rebuilt
  rebuilt_at : Bool → ℕ → ℕ → ℕ → ℕ
  rebuilt_at coded b i k =
      clamped (pos (if coded && (kind_of luma chroma b).intra then 0 else get_or p k 0)
      +ℤ (if coded then slice_index_or (inverse_of (coefficients_of (slice_index_or ls b (replicate 64 (pos 0))) (kind_of luma chroma b))) i (pos 0) else pos 0))

  samples : List ℕ
  samples = block_by (macro_sample p ls pattern luma chroma dct)

  luma_sample : (b l c : ℕ) → b < 4 → l < 8 → c < 8 → get_or samples (luma_place dct b l + c) 0 ≡ rebuilt_at (is_coded pattern b) b (8 * l + c) (luma_place dct b l + c)
  unfolding rebuilt_at samples macro_sample residual
  luma_sample b l c lt ll cc8 =
      let at = line_below dct b l c lt ll cc8 in
      let column = 8 * (b % 2) + c in
      let line = luma_line dct b l in
      let place : block_of dct Y line column ≡ record { block = b; line = l; column = c } = place_is dct b l c lt ll cc8 in
      ap (λ k. get_or samples k 0) (sym at.2) ∙ block-at (macro_sample p ls pattern luma chroma dct) Y line column at.0 at.1
      ∙ (λ i. rebuilt_at (is_coded pattern (place i).block) (place i).block (8 * (place i).line + (place i).column) (at.2 i))

  chroma_place : (field : Bool) (plane : Plane) (b l c : ℕ) → block_of field Cb l c ≡ record { block = 4; line = l; column = c }
  unfolding block_of
  chroma_place false plane b l c = refl
  chroma_place true plane b l c = refl

  red_place : (field : Bool) (l c : ℕ) → block_of field Cr l c ≡ record { block = 5; line = l; column = c }
  unfolding block_of
  red_place false l c = refl
  red_place true l c = refl

  blue_sample : (l c : ℕ) → l < 8 → c < 8 → get_or samples (256 + (8 * l + c)) 0 ≡ rebuilt_at (is_coded pattern 4) 4 (8 * l + c) (256 + (8 * l + c))
  unfolding rebuilt_at samples macro_sample residual
  blue_sample l c ll small =
      let place = chroma_place dct Cb 4 l c in
      block-at (macro_sample p ls pattern luma chroma dct) Cb l c ll small
      ∙ (λ i. rebuilt_at (is_coded pattern (place i).block) (place i).block (8 * (place i).line + (place i).column) (256 + (8 * l + c)))

  red_sample : (l c : ℕ) → l < 8 → c < 8 → get_or samples (320 + (8 * l + c)) 0 ≡ rebuilt_at (is_coded pattern 5) 5 (8 * l + c) (320 + (8 * l + c))
  unfolding rebuilt_at samples macro_sample residual
  red_sample l c ll small =
      let place = red_place dct l c in
      block-at (macro_sample p ls pattern luma chroma dct) Cr l c ll small
      ∙ (λ i. rebuilt_at (is_coded pattern (place i).block) (place i).block (8 * (place i).line + (place i).column) (320 + (8 * l + c)))

  block_sample : (b l c : ℕ) → b < 6 → l < 8 → c < 8
      → get_or samples (block_place dct b (8 * l) + c) 0 ≡ rebuilt_at (is_coded pattern b) b (8 * l + c) (block_place dct b (8 * l) + c)
  unfolding block_place
  block_sample b l c lt ll small =
      elim (cases_lt b 4) [
        | inl low ↦
            let at = ap (λ k. k + c) (luma_begins dct b l low) in
            ap (λ k. get_or samples k 0) at ∙ luma_sample b l c low ll small ∙ ap (rebuilt_at (is_coded pattern b) b (8 * l + c)) (sym at)
        | inr high ↦
            elim (cases_lt b 5) [
              | inl four ↦
                  let b_is : 4 ≡ b = omega (arith, high, four) in
                  let at : 64 * (4 - 4) + 8 * l + 256 + c ≡ 256 + (8 * l + c) = omega arith in
                  let place : block_place dct 4 (8 * l) + c ≡ 256 + (8 * l + c) = omega arith in
                  subst (λ n. get_or samples (block_place dct n (8 * l) + c) 0 ≡ rebuilt_at (is_coded pattern n) n (8 * l + c) (block_place dct n (8 * l) + c)) b_is
                  (ap (λ k. get_or samples k 0) place ∙ blue_sample l c ll small ∙ ap (rebuilt_at (is_coded pattern 4) 4 (8 * l + c)) (sym place))
              | inr five ↦
                  let b_is : 5 ≡ b = omega (arith, lt, five) in
                  let place : block_place dct 5 (8 * l) + c ≡ 320 + (8 * l + c) = omega arith in
                  subst (λ n. get_or samples (block_place dct n (8 * l) + c) 0 ≡ rebuilt_at (is_coded pattern n) n (8 * l + c) (block_place dct n (8 * l) + c)) b_is
                  (ap (λ k. get_or samples k 0) place ∙ red_sample l c ll small ∙ ap (rebuilt_at (is_coded pattern 5) 5 (8 * l + c)) (sym place))
            ]
      ]

  uncoded_sample : (b i k : ℕ) (coded : Bool) → coded ≡ false → get_or p k 0 < 2 ^ 8 → rebuilt_at coded b i k ≡ get_or p k 0
  unfolding rebuilt_at
  uncoded_sample b i k true e lt = absurd cc
  uncoded_sample b i k false e lt = plus_none (get_or p k 0) lt

pub sum_below_same : (f g : ℕ → ℕ) (n : ℕ) → ((k : ℕ) → k < n → f k ≡ g k) → sum_by f (range_with_len 0 n) ≡ sum_by g (range_with_len 0 n)
sum_below_same f g zero h = refl
sum_below_same f g (suc n) h =
    let one : suc n ≡ n + 1 = omega arith in
    let first : sum_by f (range_with_len 0 (n + 1)) ≡ sum_by f (range_with_len 0 n) + f n = sum_more f n in
    let second : sum_by g (range_with_len 0 (n + 1)) ≡ sum_by g (range_with_len 0 n) + g n = sum_more g n in
    let whole : sum_by f (range_with_len 0 (n + 1)) ≡ sum_by g (range_with_len 0 (n + 1)) = omega (arith, first, second, h n (omega arith), sum_below_same f g n (λ k lt. h k (omega (arith, lt)))) in
    ap (λ (k : ℕ). sum_by f (range_with_len 0 k)) one ∙ whole ∙ ap (λ (k : ℕ). sum_by g (range_with_len 0 k)) (sym one)

-- a sum of numbers below n is at most that of all six
pub front_sum : (f : ℕ → ℕ) (n : ℕ) → n ≤ 6 → sum_by f (range_with_len 0 n) ≤ sum_by f (range_with_len 0 6)
front_sum f n le =
    let e : n + (6 - n) ≡ 6 = omega (arith, le) in
    omega (arith, sum_split f n (6 - n), ap (λ (k : ℕ). sum_by f (range_with_len 0 k)) e)

-- samples that agree in a block
same_block : (dct : Bool) (s x y : List ℕ) (b : ℕ) → ((l c : ℕ) → l < 8 → c < 8 → get_or x (block_place dct b (8 * l) + c) 0 ≡ get_or y (block_place dct b (8 * l) + c) 0)
    → block_squared dct s x b ≡ block_squared dct s y b
unfolding block_squared
same_block dct s x y b h =
    let line = λ (z : List ℕ) (l : ℕ). sum_by (λ c. square_at s z (block_place dct b (8 * l) + c)) (range_with_len 0 8) in
    sum_below_same (line x) (line y) 8
    (λ l ll. sum_below_same (λ c. square_at s x (block_place dct b (8 * l) + c)) (λ c. square_at s y (block_place dct b (8 * l) + c)) 8
    (λ c small. ap (λ (v : ℕ). apart (get_or s (block_place dct b (8 * l) + c) 0) v ^ 2) (h l c ll small)))

-- so they have the same squares there
pub squares_alike : (dct : Bool) (s x y : List ℕ) (b : ℕ) → AreAlike dct b x y → block_squared dct s x b ≡ block_squared dct s y b
squares_alike dct s x y b alike = same_block dct s x y b alike.at

-- a block that is coded is rebuilt alike, whatever other blocks are
pub coded_alike : (dct : Bool) (p : List ℕ) (ls : List (List ℤ)) (one pattern : ℕ) (luma chroma : BlockKind) (b : ℕ) → b < 6 → is_coded one b ≡ true → is_coded pattern b ≡ true
    → AreAlike dct b (block_by (macro_sample p ls one luma chroma dct)) (block_by (macro_sample p ls pattern luma chroma dct))
unfolding samples rebuilt_at
coded_alike dct p ls one pattern luma chroma b lt first second = record {
  at = λ l c ll small.
      block_sample dct p p ls one luma chroma b l c lt ll small
      ∙ ap (λ (k : Bool). rebuilt_at dct p p ls one luma chroma k b (8 * l + c) (block_place dct b (8 * l) + c)) (first ∙ sym second)
      ∙ sym (block_sample dct p p ls pattern luma chroma b l c lt ll small);
}

-- a block is rebuilt from its own samples alone
pub own_alike : (dct : Bool) (x p : List ℕ) (ls : List (List ℤ)) (pattern : ℕ) (luma chroma : BlockKind) (b : ℕ) → b < 6 → AreAlike dct b x p
    → AreAlike dct b (block_by (macro_sample x ls pattern luma chroma dct)) (block_by (macro_sample p ls pattern luma chroma dct))
unfolding samples rebuilt_at
own_alike dct x p ls pattern luma chroma b lt alike =
    let difference = λ (i : ℕ). if is_coded pattern b then slice_index_or (inverse_of (coefficients_of (slice_index_or ls b (replicate 64 (pos 0))) (kind_of luma chroma b))) i (pos 0) else pos 0 in
    record {
      at = λ l c ll small.
          block_sample dct p x ls pattern luma chroma b l c lt ll small
          ∙ ap (λ (k : ℕ). clamped (pos (if is_coded pattern b && (kind_of luma chroma b).intra then 0 else k) +ℤ difference (8 * l + c))) (alike.at l c ll small)
          ∙ sym (block_sample dct p p ls pattern luma chroma b l c lt ll small);
    }

-- a block is rebuilt by its own levels alone
pub levels_alike : (dct : Bool) (p : List ℕ) (ls ms : List (List ℤ)) (pattern : ℕ) (luma chroma : BlockKind) (b : ℕ) → b < 6
    → slice_index_or ls b (replicate 64 (pos 0)) ≡ slice_index_or ms b (replicate 64 (pos 0))
    → AreAlike dct b (block_by (macro_sample p ls pattern luma chroma dct)) (block_by (macro_sample p ms pattern luma chroma dct))
unfolding samples rebuilt_at
levels_alike dct p ls ms pattern luma chroma b lt same = record {
  at = λ l c ll small.
      let k = block_place dct b (8 * l) + c in
      let sample = λ (z : List ℤ).
      clamped (pos (if is_coded pattern b && (kind_of luma chroma b).intra then 0 else get_or p k 0)
      +ℤ (if is_coded pattern b then slice_index_or (inverse_of (coefficients_of z (kind_of luma chroma b))) (8 * l + c) (pos 0) else pos 0)) in
      block_sample dct p p ls pattern luma chroma b l c lt ll small ∙ ap sample same
      ∙ sym (block_sample dct p p ms pattern luma chroma b l c lt ll small);
}

-- a block that isn't coded keeps its samples
pub other_alike : (dct : Bool) (p : List ℕ) (ls : List (List ℤ)) (pattern : ℕ) (luma chroma : BlockKind) (b : ℕ) → b < 6 → is_coded pattern b ≡ false
    → ((k : ℕ) → get_or p k 0 < 2 ^ 8) → AreAlike dct b (block_by (macro_sample p ls pattern luma chroma dct)) p
unfolding samples
other_alike dct p ls pattern luma chroma b lt off bytes = record {
  at = λ l c ll small.
      block_sample dct p p ls pattern luma chroma b l c lt ll small
      ∙ uncoded_sample dct p p ls pattern luma chroma b (8 * l + c) (block_place dct b (8 * l) + c) (is_coded pattern b) off (bytes (block_place dct b (8 * l) + c));
}

pub alike_itself : (dct : Bool) (b : ℕ) (x : List ℕ) → AreAlike dct b x x
alike_itself dct b x = record { at = λ l c ll small. refl }

pub alike_back : (dct : Bool) (b : ℕ) (x y : List ℕ) → AreAlike dct b x y → AreAlike dct b y x
alike_back dct b x y alike = record { at = λ l c ll small. sym (alike.at l c ll small) }

pub alike_on : (dct : Bool) (b : ℕ) (x y z : List ℕ) → AreAlike dct b x y → AreAlike dct b y z → AreAlike dct b x z
alike_on dct b x y z first second = record { at = λ l c ll small. first.at l c ll small ∙ second.at l c ll small }

-- the squares of all blocks: of those that are coded as they are rebuilt, of the others as they are predicted
pub all_squares : (dct : Bool) (s p : List ℕ) (ls : List (List ℤ)) (pattern : ℕ) (luma chroma : BlockKind) → ((k : ℕ) → get_or p k 0 < 2 ^ 8)
    → squared s (block_by (macro_sample p ls pattern luma chroma dct))
    ≡ coded_squared pattern (block_squared dct s (block_by (macro_sample p ls pattern luma chroma dct))) + uncoded_squared pattern (block_squared dct s p)
unfolding coded_squared uncoded_squared samples
all_squares dct s p ls pattern luma chroma bytes =
    let x = block_by (macro_sample p ls pattern luma chroma dct) in
    let f = block_squared dct s x in
    let g = block_squared dct s p in
    squared_blocks s x dct
    ∙ sum_below_same f (λ b. cond (is_coded pattern b) (f b) 0 + cond (is_coded pattern b) 0 (g b)) 6 (λ b lt. by_test b (is_coded pattern b) refl lt)
    ∙ sum_both (λ b. cond (is_coded pattern b) (f b) 0) (λ b. cond (is_coded pattern b) 0 (g b)) (range_with_len 0 6)
  where
    by_test : (b : ℕ) (coded : Bool) → is_coded pattern b ≡ coded → b < 6
        → block_squared dct s (block_by (macro_sample p ls pattern luma chroma dct)) b
        ≡ cond coded (block_squared dct s (block_by (macro_sample p ls pattern luma chroma dct)) b) 0 + cond coded 0 (block_squared dct s p b)
    by_test b true e lt = omega arith
    by_test b false e lt =
        same_block dct s (block_by (macro_sample p ls pattern luma chroma dct)) p b
        (λ l c ll small.
        block_sample dct s p ls pattern luma chroma b l c lt ll small
        ∙ uncoded_sample dct s p ls pattern luma chroma b (8 * l + c) (block_place dct b (8 * l) + c) (is_coded pattern b) e (bytes (block_place dct b (8 * l) + c)))
        ∙ (let none : block_squared dct s p b ≡ 0 + block_squared dct s p b = omega arith in none)

-- the pattern of one block
pub single_coded : (b : ℕ) → b < 6 → is_coded (32 / 2 ^ b) b ≡ true
unfolding below
single_coded b lt = agree (λ j. is_coded (32 / 2 ^ j) j) (λ j. true) 6 b refl lt

-- the place of the one bit that is 1 in it
one_bit : (b k : ℕ) → b < 6 → k < 6 → is_coded (32 / 2 ^ b) k ≡ nat_eq k b
unfolding below
one_bit zero k lt small = agree (λ j. is_coded 32 j) (λ j. nat_eq j 0) 6 k refl small
one_bit (suc zero) k lt small = agree (λ j. is_coded 16 j) (λ j. nat_eq j 1) 6 k refl small
one_bit (suc (suc zero)) k lt small = agree (λ j. is_coded 8 j) (λ j. nat_eq j 2) 6 k refl small
one_bit (suc (suc (suc zero))) k lt small = agree (λ j. is_coded 4 j) (λ j. nat_eq j 3) 6 k refl small
one_bit (suc (suc (suc (suc zero)))) k lt small = agree (λ j. is_coded 2 j) (λ j. nat_eq j 4) 6 k refl small
one_bit (suc (suc (suc (suc (suc zero))))) k lt small = agree (λ j. is_coded 1 j) (λ j. nat_eq j 5) 6 k refl small
one_bit (suc (suc (suc (suc (suc (suc n)))))) k lt small = absurd (omega (arith, lt))

-- and of no other
pub single_alone : (b k : ℕ) → b < 6 → k < 6 → k ≢ b → is_coded (32 / 2 ^ b) k ≡ false
single_alone b k lt small ne = one_bit b k lt small ∙ not_same k b ne
  where
    not_same : (m n : ℕ) → m ≢ n → nat_eq m n ≡ false
    not_same m n ne = grind (arith, nat_tests)

-- where no block is coded, there are no squares
pub none_coded : (f : ℕ → ℕ) → coded_squared 0 f ≡ 0
unfolding coded_squared
none_coded f = refl

-- where all blocks are coded, none is left
pub none_uncoded : (f : ℕ → ℕ) → uncoded_squared 63 f ≡ 0
unfolding uncoded_squared
none_uncoded f = refl

-- where none is, all are
pub all_uncoded : (dct : Bool) (s p : List ℕ) → uncoded_squared 0 (block_squared dct s p) ≡ squared s p
unfolding uncoded_squared
all_uncoded dct s p = sym (squared_blocks s p dct)

pub left_low : (coded : Bool) (n most : ℕ) → n ≤ most → cond coded 0 n ≤ most
left_low true n most le = omega arith
left_low false n most le = le

-- squares that are known by list
pub uncoded_known : (pattern : ℕ) (dct : Bool) (s p squares : List ℕ) → AreSquares dct s p squares → uncoded_squared pattern (slice_index squares) ≡ uncoded_squared pattern (block_squared dct s p)
unfolding uncoded_squared
uncoded_known pattern dct s p squares known =
    sum_below_same (λ b. cond (is_coded pattern b) 0 (slice_index squares b)) (λ b. cond (is_coded pattern b) 0 (block_squared dct s p b)) 6
    (λ b lt. ap (λ (n : ℕ). cond (is_coded pattern b) 0 n) (known.value b lt))

-- of a written macroblock
pub written_squares : (t : Task) (p : List ℕ) (m : MacroSyntax) (ls : List (List ℤ)) → ((k : ℕ) → get_or p k 0 < 2 ^ 8)
    → squared t.source.now.at (rebuilt_by t p (record { syntax = m; levels = ls }))
    ≡ coded_squared m.pattern (block_squared m.dct_field t.source.now.at (rebuilt_by t p (record { syntax = m; levels = ls })))
    + uncoded_squared m.pattern (block_squared m.dct_field t.source.now.at p)
unfolding rebuilt_by sample_at
written_squares t p m ls bytes =
    let q = (after t.context.now t.state.now m).quantiser in
    all_squares m.dct_field t.source.now.at p ls m.pattern (kind_for t.context.now m.kind.intra true q) (kind_for t.context.now m.kind.intra false q) bytes

-- of one without coded blocks
pub still_squares : (t : Task) (p : List ℕ) (m : MacroSyntax) (ls : List (List ℤ)) → ((k : ℕ) → get_or p k 0 < 2 ^ 8) → m.pattern ≡ 0
    → squared t.source.now.at (rebuilt_by t p (record { syntax = m; levels = ls })) ≡ squared t.source.now.at p
still_squares t p m ls bytes none =
    let s = t.source.now.at in
    let f = block_squared m.dct_field s (rebuilt_by t p (record { syntax = m; levels = ls })) in
    let g = block_squared m.dct_field s p in
    let coded : coded_squared m.pattern f ≡ 0 = ap (λ (k : ℕ). coded_squared k f) none ∙ none_coded f in
    let rest : uncoded_squared m.pattern g ≡ squared s p = ap (λ (k : ℕ). uncoded_squared k g) none ∙ all_uncoded m.dct_field s p in
    omega (arith, written_squares t p m ls bytes, coded, rest)
