use Rattle.std.proofs.Common.{◌≡◌, ◌≢◌, ◌+◌, ◌-◌, ◌*◌, ◌^◌, ℕ, length, arith, ap, sym, ◌∙◌, subst, replicate, inl, inr}
use Rattle.std.specs.Prelude.{sum_by}
use Rattle.std.specs.List.{range_with_len}
use Rattle.std.proofs.lemmas.Bool.{cases_lt}
use Rattle.m2v_bits.proofs.Texts.{left_length, left_none}
use Rattle.m2v_recon.specs.Steps.{levels_of}
use Rattle.m2v_macro.specs.States.{after}
use Rattle.m2v_macroblock.specs.Texts.{block_in_text}
use Rattle.m2v_choose.specs.Choice.{squared}
use Rattle.m2v_choose.specs.Trials.{AreAlike, block_squared, rebuilt_with, intra_macroblock}
use Rattle.m2v_choose.proofs.Sums.{sum_more}
use Rattle.m2v_choose.proofs.Alike.{all_alike}
use Rattle.m2v_choose.proofs.PartSquares.{squares_alike, alike_on}
use Rattle.m2v_choose.proofs.IntraParts.{whole_of, whole_is, whole_squares, whole_long, all_levels, block_alike, part_below}
use Rattle.m2v_choose.proofs.intra.sums_until.Goals as goal

pub returns-then-part_score-limit-clause-most : goal.returns-then-part_score-limit-clause-most
returns-then-part_score-limit-clause-most c =
    let t = c.args.task.now in
    let m = c.args.syntax.now in
    let kinds = c.args.kinds.now in
    let n = c.loop-block.block in
    let text = block_in_text t.context.now (after t.context.now t.first m) (intra_macroblock t m kinds) in
    let inv = c.loop-block.invariant in
    part_below t m kinds c.requires.task c.requires.can ((2 * t.limits.now.q) ^ 2) (n + 1) n (c.loop-block.bits + c.counted.result - 4) c.loop-block.squares (omega arith) (omega arith)
    (omega (arith, inv.bits, c.counted.ensures.value, c.counted.ensures.least, left_length text 6 n (omega arith))) inv.squares

pub returns-then-part_score-limit-2-clause-most : goal.returns-then-part_score-limit-2-clause-most
returns-then-part_score-limit-2-clause-most c =
    let t = c.args.task.now in
    let m = c.args.syntax.now in
    let kinds = c.args.kinds.now in
    let n = c.loop-block.block in
    let text = block_in_text t.context.now (after t.context.now t.first m) (intra_macroblock t m kinds) in
    let inv = c.loop-block.invariant in
    let f = block_squared m.dct_field t.source.now.at (whole_of t m kinds) in
    let alike = block_alike t m kinds c.requires.task c.requires.can c.put_levels.new.levels c.loop-block.rebuilt.at n (omega arith) c.put_levels.array_long (c.put_levels.ensures.levels n (omega arith)) (inv.rest n (omega arith) (omega arith)) in
    let own : c.rebuilt_block-squares.result ≡ f n = c.rebuilt_block-squares.ensures.value ∙ squares_alike m.dct_field t.source.now.at _ _ n alike in
    part_below t m kinds c.requires.task c.requires.can ((2 * t.limits.now.q) ^ 2) (n + 1) (n + 1) (c.loop-block.bits + c.counted.result - 4) (c.loop-block.squares + c.rebuilt_block-squares.result) (omega arith) (omega arith)
    (omega (arith, inv.bits, c.counted.ensures.value, c.counted.ensures.least, left_length text 6 n (omega arith)))
    (omega (arith, sum_more f n, inv.squares, own))

pub loop-block-preserved : goal.loop-block-preserved
loop-block-preserved c =
    let t = c.args.task.now in
    let m = c.args.syntax.now in
    let kinds = c.args.kinds.now in
    let n = c.loop-block.block in
    let text = block_in_text t.context.now (after t.context.now t.first m) (intra_macroblock t m kinds) in
    let inv = c.loop-block.invariant in
    let f = block_squared m.dct_field t.source.now.at (whole_of t m kinds) in
    let ls = c.put_levels.new.levels in
    let alike = block_alike t m kinds c.requires.task c.requires.can ls c.loop-block.rebuilt.at n (omega arith) c.put_levels.array_long (c.put_levels.ensures.levels n (omega arith)) (inv.rest n (omega arith) (omega arith)) in
    let own : c.rebuilt_block-squares.result ≡ f n = c.rebuilt_block-squares.ensures.value ∙ squares_alike m.dct_field t.source.now.at _ _ n alike in
    let new = c.rebuilt_block-squares.new.rebuilt.at in
    record {
      made = c.reach.ensures.made;
      next = omega (arith, c.reach.ensures.reached);
      bits = omega (arith, inv.bits, c.counted.ensures.value, c.counted.ensures.least, left_length text 6 n (omega arith));
      most_bits = omega (arith, inv.most_bits, c.counted.ensures.most);
      least_bits = omega (arith, inv.least_bits, c.counted.ensures.least);
      squares = omega (arith, sum_more f n, inv.squares, own);
      most_squares = omega (arith, inv.most_squares, c.rebuilt_block-squares.ensures.most);
      low = omega (arith, c.part_score-in-loop-block.ensures, c.if-part_score-limit-2.false);
      levels = c.put_levels.ensures.levels;
      within = c.put_levels.ensures.within;
      len = c.put_levels.array_long;
      long = c.rebuilt_block-squares.ensures.len;
      done = λ b lt.
          elim (cases_lt b n) [
            | inl less ↦
                let earlier : b ≢ n = omega (arith, less) in
                alike_on m.dct_field b new c.loop-block.rebuilt.at (whole_of t m kinds) (c.rebuilt_block-squares.ensures.rest b (omega (arith, less)) earlier) (inv.done b less)
            | inr more ↦
                let here : n ≡ b = omega (arith, lt, more) in
                subst (λ (k : ℕ). AreAlike m.dct_field k new (whole_of t m kinds)) here
                (alike_on m.dct_field n new (rebuilt_with c.loop-block.rebuilt.at m (levels_of ls) kinds) (whole_of t m kinds) c.rebuilt_block-squares.ensures.own alike)
          ];
      rest = λ b le lt.
          let later : b ≢ n = omega (arith, le) in
          alike_on m.dct_field b new c.loop-block.rebuilt.at (replicate 384 0) (c.rebuilt_block-squares.ensures.rest b lt later) (inv.rest b (omega (arith, le)) lt);
    }

pub returns-clause-most : goal.returns-clause-most
returns-clause-most c =
    let t = c.args.task.now in
    let inv = c.loop-block.invariant in
    part_below t c.args.syntax.now c.args.kinds.now c.requires.task c.requires.can ((2 * t.limits.now.q) ^ 2) c.loop-block.block c.loop-block.block c.loop-block.bits c.loop-block.squares (omega arith) (omega arith) inv.bits inv.squares

pub returns-clause-whole : goal.returns-clause-whole
returns-clause-whole c = λ less.
    let t = c.args.task.now in
    let m = c.args.syntax.now in
    let kinds = c.args.kinds.now in
    let text = block_in_text t.context.now (after t.context.now t.first m) (intra_macroblock t m kinds) in
    let inv = c.loop-block.invariant in
    let end : c.loop-block.block ≡ 6 = omega arith in
    let f = block_squared m.dct_field t.source.now.at (whole_of t m kinds) in
    let sum : c.loop-block.squares ≡ sum_by f (range_with_len 0 6) = inv.squares ∙ ap (λ (n : ℕ). sum_by f (range_with_len 0 n)) end in
    let samples = all_alike m.dct_field c.loop-block.rebuilt.at (whole_of t m kinds) (λ b lt. inv.done b (omega (arith, lt, end))) inv.long (whole_long t m kinds c.requires.task c.requires.can)
    ∙ whole_is t m kinds c.requires.task c.requires.can in
    record {
      bits = omega (arith, inv.bits, end, ap length (left_none text 6 c.loop-block.block (omega (arith, end))));
      squares = sum ∙ sym (whole_squares t m kinds c.requires.task c.requires.can) ∙ ap (squared t.source.now.at) (sym samples);
      own = all_levels t m kinds c.requires.task c.requires.can c.loop-block.levels inv.len (λ b lt. inv.levels b (omega (arith, lt, end)));
      rebuilt = samples;
    }
