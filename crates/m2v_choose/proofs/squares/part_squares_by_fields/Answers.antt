use Rattle.std.proofs.Common.{◌≡◌, ◌≤◌, ℕ, true, arith, ◌∙◌}
use Rattle.m2v_choose.specs.Trials.{block_squared}
use Rattle.m2v_choose.proofs.Sums.{six_places}
use Rattle.m2v_choose.proofs.PartSquares.{left_lines, right_lines, blue_lines, red_lines}
use Rattle.m2v_choose.proofs.squares.part_squares_by_fields.Goals as goal

pub other_lines-requires : goal.other_lines-requires
other_lines-requires c =
    let s = c.args.source.now.at in
    let p = c.args.samples.now.at in
    let value = c.requires.frame.value in
    record {
      upper = c.requires.most 0 (omega arith);
      lower = c.requires.most 2 (omega arith);
      first = omega (arith, value 0 (omega arith), value 2 (omega arith), left_lines s p, c.lines_squared-left.ensures.value);
    }

pub other_lines-requires-2 : goal.other_lines-requires-2
other_lines-requires-2 c =
    let s = c.args.source.now.at in
    let p = c.args.samples.now.at in
    let value = c.requires.frame.value in
    record {
      upper = c.requires.most 1 (omega arith);
      lower = c.requires.most 3 (omega arith);
      first = omega (arith, value 1 (omega arith), value 3 (omega arith), right_lines s p, c.lines_squared-right.ensures.value);
    }

pub returns : goal.returns
returns c =
    let s = c.args.source.now.at in
    let p = c.args.samples.now.at in
    let value = c.requires.frame.value in
    let most = c.requires.most in
    record {
      value = six_places (λ b (z : ℕ). z ≡ block_squared true s p b) _ _ _ _ _ _
          c.lines_squared-left.ensures.value c.lines_squared-right.ensures.value
          (omega (arith, c.other_lines.ensures, value 0 (omega arith), value 2 (omega arith), left_lines s p, c.lines_squared-left.ensures.value))
          (omega (arith, c.other_lines-2.ensures, value 1 (omega arith), value 3 (omega arith), right_lines s p, c.lines_squared-right.ensures.value))
          (value 4 (omega arith) ∙ blue_lines s p) (value 5 (omega arith) ∙ red_lines s p);
      most = six_places (λ b (z : ℕ). z ≤ 8323200) _ _ _ _ _ _
          (omega (arith, c.lines_squared-left.ensures.most)) (omega (arith, c.lines_squared-right.ensures.most))
          (omega (arith, c.other_lines.ensures, most 0 (omega arith), most 2 (omega arith))) (omega (arith, c.other_lines-2.ensures, most 1 (omega arith), most 3 (omega arith)))
          (omega (arith, most 4 (omega arith))) (omega (arith, most 5 (omega arith)));
    }
