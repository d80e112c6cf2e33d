use Rattle.std.proofs.Common.{◌≡◌, ℕ, ◌+◌, ◌<◌, false, true, nat_lt, Some, arith, ap, refl, sym, ◌∙◌}
use Rattle.std.specs.List.{range_with_len, position_or_len}
use Rattle.std.proofs.lemmas.List.Sums.{position_or_len_is}
use Rattle.std.proofs.lemmas.List.FromFn.{get_or-range_with_len}
use Rattle.std.proofs.lemmas.Bool.Decides.{nat_tests}
use Rattle.m2v_y4m.specs.Header.{is_rate, code_of}
use Rattle.m2v_y4m.proofs.words.code_of.Goals as goal

zero-add : (k : ℕ) → 0 + k ≡ k
zero-add k = omega arith

-- the first rate that fits
found : (n d at : ℕ) → at < 8 → ((k : ℕ) → k < at → is_rate n d k ≡ false) → is_rate n d at ≡ true → Some (at + 1) ≡ code_of n d
unfolding code_of
found n d at small before here =
    let p = is_rate n d in
    let is : position_or_len p (range_with_len 0 8) ≡ at = position_or_len_is p (range_with_len 0 8) at 0 (omega arith)
    (λ k lt. ap p (get_or-range_with_len 0 8 k 0 (omega arith) ∙ zero-add k) ∙ before k lt)
    (λ lt. ap p (get_or-range_with_len 0 8 at 0 (omega arith) ∙ zero-add at) ∙ here) in
    let less : nat_lt at 8 ≡ true = grind (arith, nat_tests) in
    rw (is, less) refl

pub returns-then-is_rate-clause-value : goal.returns-then-is_rate-clause-value
returns-then-is_rate-clause-value c = found c.args.frames c.args.seconds c.loop-at.at (omega arith) c.loop-at.invariant (sym c.if-is_rate.ensures.value)
