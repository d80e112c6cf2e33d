use Rattle.std.proofs.Common.{◌≡◌, ℕ, ◌<◌, ◌∙◌, List, All, arith, ap, ℤ, pos, neg_ℤ, ◌+ℤ◌, ◌-ℤ◌}
use Rattle.std.proofs.lemmas.List.Elements.{All-same}
use mir.Syntax.{w16, w32}
use Rattle.m2v_idct.specs.Block.{at}
use Rattle.m2v_idct.specs.Forward.{projection, rounded}
use Rattle.m2v_idct.specs.Ranges.{Within}
use Rattle.m2v_idct.proofs.AllLanes.{fits_short, fits_word, short_told, told_as_within, told_within}
use Rattle.m2v_idct.proofs.ForwardColumns.{both, even_told_at, evens_small, inners_small, odd_told_at, odds_small, outers_small, sum_0, sum_1, sum_2, sum_3, sum_4, sum_5, sum_6, sum_7}
use Rattle.m2v_idct.proofs.PutLines.{line_more}
use Rattle.m2v_idct.proofs.forward_columns.transform_columns.Goals as goal

passed_on : (x u : List ℤ) → x ≡ u → All (Within 32767) u → All (Within 32767) (short_told x)
passed_on x u e h = told_as_within w16 32767 fits_short 32767 x u (omega arith) e h

pub even_line-requires-clause-high : goal.even_line-requires-clause-high
even_line-requires-clause-high c = passed_on c.fold_columns-h.result.even _ c.fold_columns-h.ensures.even (evens_small c.args.high.now c.told-high c.requires.high)

pub even_line-requires-clause-low : goal.even_line-requires-clause-low
even_line-requires-clause-low c = passed_on c.fold_columns-l.result.even _ c.fold_columns-l.ensures.even (evens_small c.args.low.now c.told-low c.requires.low)

pub even_line-requires-2-clause-high : goal.even_line-requires-2-clause-high
even_line-requires-2-clause-high c = passed_on c.fold_columns-h.result.odd _ c.fold_columns-h.ensures.odd (odds_small c.args.high.now c.told-high c.requires.high)

pub even_line-requires-2-clause-low : goal.even_line-requires-2-clause-low
even_line-requires-2-clause-low c = passed_on c.fold_columns-l.result.odd _ c.fold_columns-l.ensures.odd (odds_small c.args.low.now c.told-low c.requires.low)

pub even_line-requires-3-clause-high : goal.even_line-requires-3-clause-high
even_line-requires-3-clause-high c = passed_on c.fold_columns-h.result.even _ c.fold_columns-h.ensures.even (evens_small c.args.high.now c.told-high c.requires.high)

pub even_line-requires-3-clause-low : goal.even_line-requires-3-clause-low
even_line-requires-3-clause-low c = passed_on c.fold_columns-l.result.even _ c.fold_columns-l.ensures.even (evens_small c.args.low.now c.told-low c.requires.low)

pub even_line-requires-4-clause-high : goal.even_line-requires-4-clause-high
even_line-requires-4-clause-high c = passed_on c.fold_columns-h.result.odd _ c.fold_columns-h.ensures.odd (odds_small c.args.high.now c.told-high c.requires.high)

pub even_line-requires-4-clause-low : goal.even_line-requires-4-clause-low
even_line-requires-4-clause-low c = passed_on c.fold_columns-l.result.odd _ c.fold_columns-l.ensures.odd (odds_small c.args.low.now c.told-low c.requires.low)

pub odd_line-requires-clause-high_outer : goal.odd_line-requires-clause-high_outer
odd_line-requires-clause-high_outer c = All-same (Within 32767) c.fold_columns-h.result.outer _ c.fold_columns-h.ensures.outer (outers_small c.args.high.now c.told-high c.requires.high)

pub odd_line-requires-clause-high_inner : goal.odd_line-requires-clause-high_inner
odd_line-requires-clause-high_inner c = All-same (Within 32767) c.fold_columns-h.result.inner _ c.fold_columns-h.ensures.inner (inners_small c.args.high.now c.told-high c.requires.high)

pub odd_line-requires-clause-low_outer : goal.odd_line-requires-clause-low_outer
odd_line-requires-clause-low_outer c = All-same (Within 32767) c.fold_columns-l.result.outer _ c.fold_columns-l.ensures.outer (outers_small c.args.low.now c.told-low c.requires.low)

pub odd_line-requires-clause-low_inner : goal.odd_line-requires-clause-low_inner
odd_line-requires-clause-low_inner c = All-same (Within 32767) c.fold_columns-l.result.inner _ c.fold_columns-l.ensures.inner (inners_small c.args.low.now c.told-low c.requires.low)

pub odd_line-requires-2-clause-high_outer : goal.odd_line-requires-2-clause-high_outer
odd_line-requires-2-clause-high_outer c = All-same (Within 32767) c.fold_columns-h.result.outer _ c.fold_columns-h.ensures.outer (outers_small c.args.high.now c.told-high c.requires.high)

pub odd_line-requires-2-clause-high_inner : goal.odd_line-requires-2-clause-high_inner
odd_line-requires-2-clause-high_inner c = All-same (Within 32767) c.fold_columns-h.result.inner _ c.fold_columns-h.ensures.inner (inners_small c.args.high.now c.told-high c.requires.high)

pub odd_line-requires-2-clause-low_outer : goal.odd_line-requires-2-clause-low_outer
odd_line-requires-2-clause-low_outer c = All-same (Within 32767) c.fold_columns-l.result.outer _ c.fold_columns-l.ensures.outer (outers_small c.args.low.now c.told-low c.requires.low)

pub odd_line-requires-2-clause-low_inner : goal.odd_line-requires-2-clause-low_inner
odd_line-requires-2-clause-low_inner c = All-same (Within 32767) c.fold_columns-l.result.inner _ c.fold_columns-l.ensures.inner (inners_small c.args.low.now c.told-low c.requires.low)

pub odd_line-requires-3-clause-high_outer : goal.odd_line-requires-3-clause-high_outer
odd_line-requires-3-clause-high_outer c = All-same (Within 32767) c.fold_columns-h.result.outer _ c.fold_columns-h.ensures.outer (outers_small c.args.high.now c.told-high c.requires.high)

pub odd_line-requires-3-clause-high_inner : goal.odd_line-requires-3-clause-high_inner
odd_line-requires-3-clause-high_inner c = All-same (Within 32767) c.fold_columns-h.result.inner _ c.fold_columns-h.ensures.inner (inners_small c.args.high.now c.told-high c.requires.high)

pub odd_line-requires-3-clause-low_outer : goal.odd_line-requires-3-clause-low_outer
odd_line-requires-3-clause-low_outer c = All-same (Within 32767) c.fold_columns-l.result.outer _ c.fold_columns-l.ensures.outer (outers_small c.args.low.now c.told-low c.requires.low)

pub odd_line-requires-3-clause-low_inner : goal.odd_line-requires-3-clause-low_inner
odd_line-requires-3-clause-low_inner c = All-same (Within 32767) c.fold_columns-l.result.inner _ c.fold_columns-l.ensures.inner (inners_small c.args.low.now c.told-low c.requires.low)

pub odd_line-requires-4-clause-high_outer : goal.odd_line-requires-4-clause-high_outer
odd_line-requires-4-clause-high_outer c = All-same (Within 32767) c.fold_columns-h.result.outer _ c.fold_columns-h.ensures.outer (outers_small c.args.high.now c.told-high c.requires.high)

pub odd_line-requires-4-clause-high_inner : goal.odd_line-requires-4-clause-high_inner
odd_line-requires-4-clause-high_inner c = All-same (Within 32767) c.fold_columns-h.result.inner _ c.fold_columns-h.ensures.inner (inners_small c.args.high.now c.told-high c.requires.high)

pub odd_line-requires-4-clause-low_outer : goal.odd_line-requires-4-clause-low_outer
odd_line-requires-4-clause-low_outer c = All-same (Within 32767) c.fold_columns-l.result.outer _ c.fold_columns-l.ensures.outer (outers_small c.args.low.now c.told-low c.requires.low)

pub odd_line-requires-4-clause-low_inner : goal.odd_line-requires-4-clause-low_inner
odd_line-requires-4-clause-low_inner c = All-same (Within 32767) c.fold_columns-l.result.inner _ c.fold_columns-l.ensures.inner (inners_small c.args.low.now c.told-low c.requires.low)

pub put_line-requires-clause-within : goal.put_line-requires-clause-within
put_line-requires-clause-within c = told_within w32 2147483647 fits_word 600000000 c.even_line.result (omega arith) c.even_line.ensures.within

pub put_line-requires-2-clause-within : goal.put_line-requires-2-clause-within
put_line-requires-2-clause-within c = told_within w32 2147483647 fits_word 600000000 c.odd_line.result (omega arith) c.odd_line.ensures.within

pub put_line-requires-3-clause-within : goal.put_line-requires-3-clause-within
put_line-requires-3-clause-within c = told_within w32 2147483647 fits_word 600000000 c.even_line-2.result (omega arith) c.even_line-2.ensures.within

pub put_line-requires-4-clause-within : goal.put_line-requires-4-clause-within
put_line-requires-4-clause-within c = told_within w32 2147483647 fits_word 600000000 c.odd_line-2.result (omega arith) c.odd_line-2.ensures.within

pub put_line-requires-5-clause-within : goal.put_line-requires-5-clause-within
put_line-requires-5-clause-within c = told_within w32 2147483647 fits_word 600000000 c.even_line-3.result (omega arith) c.even_line-3.ensures.within

pub put_line-requires-6-clause-within : goal.put_line-requires-6-clause-within
put_line-requires-6-clause-within c = told_within w32 2147483647 fits_word 600000000 c.odd_line-3.result (omega arith) c.odd_line-3.ensures.within

pub put_line-requires-7-clause-within : goal.put_line-requires-7-clause-within
put_line-requires-7-clause-within c = told_within w32 2147483647 fits_word 600000000 c.even_line-4.result (omega arith) c.even_line-4.ensures.within

pub put_line-requires-8-clause-within : goal.put_line-requires-8-clause-within
put_line-requires-8-clause-within c = told_within w32 2147483647 fits_word 600000000 c.odd_line-4.result (omega arith) c.odd_line-4.ensures.within

pub returns : goal.returns
returns c =
    let p = at c.args.high.now in let q = at c.args.low.now in
    let g : ℕ → ℕ → ℤ = λ v k. rounded (projection v (both p q k)) in
    let h = c.fold_columns-h in let l = c.fold_columns-l in
    let r0 = λ (k : ℕ) (lk : k < 8). c.put_line.ensures.row k lk ∙ even_told_at h.result.even l.result.even c.even_line.result (λ k. p 0 k +ℤ p 7 k +ℤ (p 3 k +ℤ p 4 k)) (λ k. p 1 k +ℤ p 6 k +ℤ (p 2 k +ℤ p 5 k)) (λ k. q 0 k +ℤ q 7 k +ℤ (q 3 k +ℤ q 4 k)) (λ k. q 1 k +ℤ q 6 k +ℤ (q 2 k +ℤ q 5 k))
    (pos 2896) (pos 2896) h.ensures.even (evens_small c.args.high.now c.told-high c.requires.high) l.ensures.even (evens_small c.args.low.now c.told-low c.requires.low)
    c.even_line.ensures.value c.even_line.ensures.within k lk ∙ ap rounded (sum_0 p q k) in
    let r1 = λ (k : ℕ) (lk : k < 8). c.put_line-2.ensures.row k lk ∙ odd_told_at h.result.outer h.result.inner l.result.outer l.result.inner c.odd_line.result
    (λ k. p 0 k -ℤ p 7 k) (λ k. p 1 k -ℤ p 6 k) (λ k. p 3 k -ℤ p 4 k) (λ k. p 2 k -ℤ p 5 k) (λ k. q 0 k -ℤ q 7 k) (λ k. q 1 k -ℤ q 6 k) (λ k. q 3 k -ℤ q 4 k) (λ k. q 2 k -ℤ q 5 k)
    (pos 4017) (pos 3406) (pos 2276) (pos 799) h.ensures.outer h.ensures.inner l.ensures.outer l.ensures.inner c.odd_line.ensures.value c.odd_line.ensures.within k lk ∙ ap rounded (sum_1 p q k) in
    let r2 = λ (k : ℕ) (lk : k < 8). c.put_line-3.ensures.row k lk ∙ even_told_at h.result.odd l.result.odd c.even_line-2.result (λ k. p 0 k +ℤ p 7 k -ℤ (p 3 k +ℤ p 4 k)) (λ k. p 1 k +ℤ p 6 k -ℤ (p 2 k +ℤ p 5 k)) (λ k. q 0 k +ℤ q 7 k -ℤ (q 3 k +ℤ q 4 k)) (λ k. q 1 k +ℤ q 6 k -ℤ (q 2 k +ℤ q 5 k))
    (pos 3784) (pos 1567) h.ensures.odd (odds_small c.args.high.now c.told-high c.requires.high) l.ensures.odd (odds_small c.args.low.now c.told-low c.requires.low)
    c.even_line-2.ensures.value c.even_line-2.ensures.within k lk ∙ ap rounded (sum_2 p q k) in
    let r3 = λ (k : ℕ) (lk : k < 8). c.put_line-4.ensures.row k lk ∙ odd_told_at h.result.outer h.result.inner l.result.outer l.result.inner c.odd_line-2.result
    (λ k. p 0 k -ℤ p 7 k) (λ k. p 1 k -ℤ p 6 k) (λ k. p 3 k -ℤ p 4 k) (λ k. p 2 k -ℤ p 5 k) (λ k. q 0 k -ℤ q 7 k) (λ k. q 1 k -ℤ q 6 k) (λ k. q 3 k -ℤ q 4 k) (λ k. q 2 k -ℤ q 5 k)
    (pos 3406) (neg_ℤ (pos 799)) (neg_ℤ (pos 4017)) (neg_ℤ (pos 2276)) h.ensures.outer h.ensures.inner l.ensures.outer l.ensures.inner c.odd_line-2.ensures.value c.odd_line-2.ensures.within k lk ∙ ap rounded (sum_3 p q k) in
    let r4 = λ (k : ℕ) (lk : k < 8). c.put_line-5.ensures.row k lk ∙ even_told_at h.result.even l.result.even c.even_line-3.result (λ k. p 0 k +ℤ p 7 k +ℤ (p 3 k +ℤ p 4 k)) (λ k. p 1 k +ℤ p 6 k +ℤ (p 2 k +ℤ p 5 k)) (λ k. q 0 k +ℤ q 7 k +ℤ (q 3 k +ℤ q 4 k)) (λ k. q 1 k +ℤ q 6 k +ℤ (q 2 k +ℤ q 5 k))
    (pos 2896) (neg_ℤ (pos 2896)) h.ensures.even (evens_small c.args.high.now c.told-high c.requires.high) l.ensures.even (evens_small c.args.low.now c.told-low c.requires.low)
    c.even_line-3.ensures.value c.even_line-3.ensures.within k lk ∙ ap rounded (sum_4 p q k) in
    let r5 = λ (k : ℕ) (lk : k < 8). c.put_line-6.ensures.row k lk ∙ odd_told_at h.result.outer h.result.inner l.result.outer l.result.inner c.odd_line-3.result
    (λ k. p 0 k -ℤ p 7 k) (λ k. p 1 k -ℤ p 6 k) (λ k. p 3 k -ℤ p 4 k) (λ k. p 2 k -ℤ p 5 k) (λ k. q 0 k -ℤ q 7 k) (λ k. q 1 k -ℤ q 6 k) (λ k. q 3 k -ℤ q 4 k) (λ k. q 2 k -ℤ q 5 k)
    (pos 2276) (neg_ℤ (pos 4017)) (pos 799) (pos 3406) h.ensures.outer h.ensures.inner l.ensures.outer l.ensures.inner c.odd_line-3.ensures.value c.odd_line-3.ensures.within k lk ∙ ap rounded (sum_5 p q k) in
    let r6 = λ (k : ℕ) (lk : k < 8). c.put_line-7.ensures.row k lk ∙ even_told_at h.result.odd l.result.odd c.even_line-4.result (λ k. p 0 k +ℤ p 7 k -ℤ (p 3 k +ℤ p 4 k)) (λ k. p 1 k +ℤ p 6 k -ℤ (p 2 k +ℤ p 5 k)) (λ k. q 0 k +ℤ q 7 k -ℤ (q 3 k +ℤ q 4 k)) (λ k. q 1 k +ℤ q 6 k -ℤ (q 2 k +ℤ q 5 k))
    (pos 1567) (neg_ℤ (pos 3784)) h.ensures.odd (odds_small c.args.high.now c.told-high c.requires.high) l.ensures.odd (odds_small c.args.low.now c.told-low c.requires.low)
    c.even_line-4.ensures.value c.even_line-4.ensures.within k lk ∙ ap rounded (sum_6 p q k) in
    let r7 = λ (k : ℕ) (lk : k < 8). c.put_line-8.ensures.row k lk ∙ odd_told_at h.result.outer h.result.inner l.result.outer l.result.inner c.odd_line-4.result
    (λ k. p 0 k -ℤ p 7 k) (λ k. p 1 k -ℤ p 6 k) (λ k. p 3 k -ℤ p 4 k) (λ k. p 2 k -ℤ p 5 k) (λ k. q 0 k -ℤ q 7 k) (λ k. q 1 k -ℤ q 6 k) (λ k. q 3 k -ℤ q 4 k) (λ k. q 2 k -ℤ q 5 k)
    (pos 799) (neg_ℤ (pos 2276)) (pos 3406) (neg_ℤ (pos 4017)) h.ensures.outer h.ensures.inner l.ensures.outer l.ensures.inner c.odd_line-4.ensures.value c.odd_line-4.ensures.within k lk ∙ ap rounded (sum_7 p q k) in
    let d0 = line_more 0 c.args.out.now c.put_line.new.out g (λ v k lv lk. absurd (omega arith)) r0 c.put_line.ensures.rest in
    let d1 = line_more 1 c.put_line.new.out c.put_line-2.new.out g d0 r1 c.put_line-2.ensures.rest in
    let d2 = line_more 2 c.put_line-2.new.out c.put_line-3.new.out g d1 r2 c.put_line-3.ensures.rest in
    let d3 = line_more 3 c.put_line-3.new.out c.put_line-4.new.out g d2 r3 c.put_line-4.ensures.rest in
    let d4 = line_more 4 c.put_line-4.new.out c.put_line-5.new.out g d3 r4 c.put_line-5.ensures.rest in
    let d5 = line_more 5 c.put_line-5.new.out c.put_line-6.new.out g d4 r5 c.put_line-6.ensures.rest in
    let d6 = line_more 6 c.put_line-6.new.out c.put_line-7.new.out g d5 r6 c.put_line-7.ensures.rest in
    line_more 7 c.put_line-7.new.out c.put_line-8.new.out g d6 r7 c.put_line-8.ensures.rest
