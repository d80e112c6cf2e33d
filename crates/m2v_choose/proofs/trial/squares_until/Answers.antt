use Rattle.std.proofs.Common.{◌≡◌, ◌≢◌, ◌≤◌, ◌+◌, ℕ, cond, arith, ap, sym, ◌∙◌, subst, inl, inr}
use Rattle.std.proofs.lemmas.Bool.{cases_lt}
use Rattle.std.specs.List.{range_with_len, sum_by}
use Rattle.m2v_recon.specs.Macro.{is_coded, kind_at, macro_sample}
use Rattle.m2v_recon.specs.Steps.{levels_of}
use Rattle.m2v_choose.specs.Trials.{AreAlike, block_squared, rebuilt_with, coded_squared}
use Rattle.m2v_choose.proofs.Sums.{sum_more}
use Rattle.m2v_choose.proofs.PartSquares.{front_sum, none_coded, own_alike, squares_alike, alike_itself, alike_on}
use Rattle.m2v_choose.proofs.Alike.{length_block, all_alike, still_block}
use Rattle.m2v_choose.proofs.trial.squares_until.Goals as goal

pub returns-then-syntax-eq0-clause-enough : goal.returns-then-syntax-eq0-clause-enough
returns-then-syntax-eq0-clause-enough c =
    let m = c.args.syntax.now in
    let squares = block_squared m.dct_field c.args.source.now.at (rebuilt_with c.args.prediction.now.at m (levels_of c.args.levels.now) c.args.kinds.now) in
    let none : m.pattern ≡ 0 = omega arith in
    inl (sym (ap (λ (k : ℕ). coded_squared k squares) none ∙ none_coded squares))

pub returns-then-syntax-eq0-clause-rebuilt : goal.returns-then-syntax-eq0-clause-rebuilt
returns-then-syntax-eq0-clause-rebuilt c = λ less.
    let m = c.args.syntax.now in
    let kinds = c.args.kinds.now in
    let none : m.pattern ≡ 0 = omega arith in
    still_block m.dct_field c.args.prediction.now.at (levels_of c.args.levels.now) m.pattern (kind_at kinds 0) (kind_at kinds 1) c.is_whole.ensures c.are_bytes.ensures none

pub loop-block-init : goal.loop-block-init
loop-block-init c = record {
  value = omega arith;
  len = c.is_whole.ensures;
  low = omega (arith, c.requires.limit);
  done = λ b lt. absurd (omega (arith, lt));
  rest = λ b le lt. alike_itself c.args.syntax.now.dct_field b c.args.prediction.now.at;
  most = omega arith;
}

pub loop-block-preserved : goal.loop-block-preserved
loop-block-preserved c =
    let m = c.args.syntax.now in
    let n = c.loop-block.block in
    let s = c.args.source.now.at in
    let ls = levels_of c.args.levels.now in
    let kinds = c.args.kinds.now in
    let p = c.args.prediction.now.at in
    let f = λ (b : ℕ). cond (is_coded m.pattern b) (block_squared m.dct_field s (rebuilt_with p m ls kinds) b) 0 in
    let alike = own_alike m.dct_field c.loop-block.rebuilt.at p ls m.pattern (kind_at kinds 0) (kind_at kinds 1) n (omega arith) (c.loop-block.invariant.rest n (omega arith) (omega arith)) in
    let own = squares_alike m.dct_field s _ _ n alike in
    let same : c.coded_block-sum.result ≡ f n = c.coded_block-sum.ensures.value ∙ ap (λ (x : ℕ). cond (is_coded m.pattern n) x 0) own in
    let new = c.coded_block-sum.new.rebuilt.at in
    let whole = rebuilt_with p m ls kinds in
    record {
      value = omega (arith, sum_more f n, c.loop-block.invariant.value, same);
      len = c.coded_block-sum.ensures.len;
      low = omega (arith, c.from.ensures, c.if-limit-from.false);
      done = λ b lt.
          elim (cases_lt b n) [
            | inl less ↦
                let earlier : b ≢ n = omega (arith, less) in
                alike_on m.dct_field b new c.loop-block.rebuilt.at whole (c.coded_block-sum.ensures.rest b (omega (arith, less)) earlier) (c.loop-block.invariant.done b less)
            | inr more ↦
                let here : n ≡ b = omega (arith, lt, more) in
                subst (λ (k : ℕ). AreAlike m.dct_field k new whole) here
                (alike_on m.dct_field n new (rebuilt_with c.loop-block.rebuilt.at m ls kinds) whole c.coded_block-sum.ensures.own alike)
          ];
      rest = λ b le lt.
          let later : b ≢ n = omega (arith, le) in
          alike_on m.dct_field b c.coded_block-sum.new.rebuilt.at c.loop-block.rebuilt.at p (c.coded_block-sum.ensures.rest b lt later) (c.loop-block.invariant.rest b (omega (arith, le)) lt);
      most = omega (arith, c.loop-block.invariant.most, c.coded_block-sum.ensures.most);
    }

pub returns : goal.returns
unfolding coded_squared
returns c =
    let m = c.args.syntax.now in
    let end : c.loop-block.block ≡ 6 = omega arith in
    let f = λ (b : ℕ). cond (is_coded m.pattern b) (block_squared m.dct_field c.args.source.now.at (rebuilt_with c.args.prediction.now.at m (levels_of c.args.levels.now) c.args.kinds.now) b) 0 in
    let all : c.loop-block.sum ≡ sum_by f (range_with_len 0 6) = c.loop-block.invariant.value ∙ ap (λ (n : ℕ). sum_by f (range_with_len 0 n)) end in
    record {
      most = omega (arith, all);
      enough = inl all;
      bound = omega (arith, c.loop-block.invariant.most, end);
      rebuilt = λ less.
          let kinds = c.args.kinds.now in
          all_alike m.dct_field c.loop-block.rebuilt.at (rebuilt_with c.args.prediction.now.at m (levels_of c.args.levels.now) kinds)
          (λ b lt. c.loop-block.invariant.done b (omega (arith, lt, end))) c.loop-block.invariant.len
          (length_block (macro_sample c.args.prediction.now.at (levels_of c.args.levels.now) m.pattern (kind_at kinds 0) (kind_at kinds 1) m.dct_field));
      kept = λ le. absurd (omega (arith, le, c.loop-block.invariant.low));
    }

pub returns-then-limit-from-clause-most : goal.returns-then-limit-from-clause-most
unfolding coded_squared
returns-then-limit-from-clause-most c =
    let m = c.args.syntax.now in
    let n = c.loop-block.block in
    let s = c.args.source.now.at in
    let ls = levels_of c.args.levels.now in
    let kinds = c.args.kinds.now in
    let p = c.args.prediction.now.at in
    let f = λ (b : ℕ). cond (is_coded m.pattern b) (block_squared m.dct_field s (rebuilt_with p m ls kinds) b) 0 in
    let front : sum_by f (range_with_len 0 (n + 1)) ≤ sum_by f (range_with_len 0 6) = front_sum f (n + 1) (omega arith) in
    let alike = own_alike m.dct_field c.loop-block.rebuilt.at p ls m.pattern (kind_at kinds 0) (kind_at kinds 1) n (omega arith) (c.loop-block.invariant.rest n (omega arith) (omega arith)) in
    let own = squares_alike m.dct_field s _ _ n alike in
    let same : c.coded_block-sum.result ≡ f n = c.coded_block-sum.ensures.value ∙ ap (λ (x : ℕ). cond (is_coded m.pattern n) x 0) own in
    let sum : c.loop-block.sum + c.coded_block-sum.result ≡ sum_by f (range_with_len 0 (n + 1)) = omega (arith, sum_more f n, c.loop-block.invariant.value, same) in
    omega (arith, sum, front)
