use Rattle.std.proofs.Common.{◌≡◌, ◌-◌, ℕ, Bool, cond, length, ap, sym, arith, inl}
use Rattle.std.specs.Prelude.{sum_by}
use Rattle.std.specs.List.{range_with_len}
use Rattle.m2v_bits.proofs.Texts.{left_length, left_none}
use Rattle.m2v_macro.specs.States.{after}
use Rattle.m2v_recon.specs.Steps.{levels_of}
use Rattle.m2v_macroblock.specs.Macroblocks.{macroblock_of}
use Rattle.m2v_macroblock.specs.Texts.{block_in_text}
use Rattle.m2v_choose.specs.Trials.{four_of, four_each}
use Rattle.m2v_choose.proofs.Sums.{sum_more}
use Rattle.m2v_choose.proofs.Written.{pattern_most}
use Rattle.m2v_choose.proofs.Cheapest.{rest_least}
use Rattle.m2v_macroblock.proofs.Counted.{one_none}
use Rattle.m2v_choose.proofs.bits.bits_until.Goals.{then-is_coded+else-bit_cost-limit, else-is_coded}
use Rattle.m2v_choose.proofs.bits.bits_until.Goals as goal

pub four_each-requires : goal.four_each-requires
four_each-requires c = omega (arith, c.requires.coded.pattern, pattern_most (levels_of c.args.levels.now))

pub loop-block-preserved : goal.loop-block-preserved
loop-block-preserved c =
    let t = c.args.task.now in
    let m = c.args.syntax.now in
    let n = c.loop-block.block in
    let inv = c.loop-block.invariant in
    let st = after t.context.now t.first m in
    let x = macroblock_of m c.args.levels.now in
    let left = left_length (block_in_text t.context.now st x) 6 n (omega arith) in
    elim c.if-is_coded.branch [
      | then-is_coded+else-bit_cost-limit w ↦
          let on = ap {B = ℕ} (λ (z : Bool). cond z 4 0) (sym w.if-is_coded.ensures.value) in
          record {
            bits = omega (arith, inv.bits, w.bits-is, w.past_four-bits.ensures.value, sum_more (four_of m.pattern) n, left, on);
            most = omega (arith, inv.most, w.bits-is, w.past_four-bits.ensures.most);
          }
      | else-is_coded w ↦
          let off = sym w.if-is_coded.ensures.value in
          let none = ap {B = ℕ} (λ (z : Bool). cond z 4 0) off in
          record {
            bits = omega (arith, inv.bits, w.bits-is, one_none t.context.now st x n off, sum_more (four_of m.pattern) n, left, none);
            most = omega (arith, inv.most, w.bits-is);
          }
    ]

pub returns-then-bit_cost-limit-clause-most : goal.returns-then-bit_cost-limit-clause-most
unfolding four_each
returns-then-bit_cost-limit-clause-most c =
    let t = c.args.task.now in
    let m = c.args.syntax.now in
    let n = c.loop-block.block in
    let coded = c.requires.coded in
    omega (
      arith,
      c.loop-block.invariant.bits,
      rest_least t.context.now (after t.context.now t.first m) m (levels_of c.args.levels.now) coded.other coded.pattern coded.long (6 - n) n (omega arith),
    )

pub returns-clause-most : goal.returns-clause-most
unfolding four_each
returns-clause-most c =
    let t = c.args.task.now in
    let m = c.args.syntax.now in
    let n = c.loop-block.block in
    let coded = c.requires.coded in
    omega (
      arith,
      c.loop-block.invariant.bits,
      rest_least t.context.now (after t.context.now t.first m) m (levels_of c.args.levels.now) coded.other coded.pattern coded.long (6 - n) n (omega arith),
    )

pub returns-clause-enough : goal.returns-clause-enough
unfolding four_each
returns-clause-enough c =
    let t = c.args.task.now in
    let m = c.args.syntax.now in
    let n = c.loop-block.block in
    let end : n ≡ 6 = omega arith in
    let text = block_in_text t.context.now (after t.context.now t.first m) (macroblock_of m c.args.levels.now) in
    inl (omega (arith, c.loop-block.invariant.bits, ap (λ (k : ℕ). sum_by (four_of m.pattern) (range_with_len 0 k)) end, ap length (left_none text 6 n (omega (arith, end)))))
