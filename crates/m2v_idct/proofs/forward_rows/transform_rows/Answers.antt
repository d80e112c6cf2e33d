use Rattle.std.proofs.Common.{ℕ, arith, pos, ◌*ℤ◌, ℤ}
use Rattle.m2v_idct.specs.Block.{at}
use Rattle.m2v_idct.specs.Forward.{projection}
use Rattle.m2v_idct.specs.ForwardLanes.{high_of, low_of}
use Rattle.m2v_idct.proofs.PutLines.{line_more}
use Rattle.m2v_idct.proofs.forward_rows.transform_rows.Goals as goal

pub returns-clause-high : goal.returns-clause-high
returns-clause-high c =
    let g : ℕ → ℕ → ℤ = λ y u. high_of (pos 8 *ℤ projection u (at c.args.f.now y)) in
    let a = line_more 0 c.args.high.now c.transform_line.new.high g (λ y k ly lk. absurd (omega arith)) c.transform_line.ensures.high c.transform_line.ensures.high_rest in
    let b = line_more 1 c.transform_line.new.high c.transform_line-2.new.high g a c.transform_line-2.ensures.high c.transform_line-2.ensures.high_rest in
    let d = line_more 2 c.transform_line-2.new.high c.transform_line-3.new.high g b c.transform_line-3.ensures.high c.transform_line-3.ensures.high_rest in
    let e = line_more 3 c.transform_line-3.new.high c.transform_line-4.new.high g d c.transform_line-4.ensures.high c.transform_line-4.ensures.high_rest in
    let f = line_more 4 c.transform_line-4.new.high c.transform_line-5.new.high g e c.transform_line-5.ensures.high c.transform_line-5.ensures.high_rest in
    let h = line_more 5 c.transform_line-5.new.high c.transform_line-6.new.high g f c.transform_line-6.ensures.high c.transform_line-6.ensures.high_rest in
    let i = line_more 6 c.transform_line-6.new.high c.transform_line-7.new.high g h c.transform_line-7.ensures.high c.transform_line-7.ensures.high_rest in
    line_more 7 c.transform_line-7.new.high c.transform_line-8.new.high g i c.transform_line-8.ensures.high c.transform_line-8.ensures.high_rest

pub returns-clause-low : goal.returns-clause-low
returns-clause-low c =
    let g : ℕ → ℕ → ℤ = λ y u. low_of (pos 8 *ℤ projection u (at c.args.f.now y)) in
    let a = line_more 0 c.args.low.now c.transform_line.new.low g (λ y k ly lk. absurd (omega arith)) c.transform_line.ensures.low c.transform_line.ensures.low_rest in
    let b = line_more 1 c.transform_line.new.low c.transform_line-2.new.low g a c.transform_line-2.ensures.low c.transform_line-2.ensures.low_rest in
    let d = line_more 2 c.transform_line-2.new.low c.transform_line-3.new.low g b c.transform_line-3.ensures.low c.transform_line-3.ensures.low_rest in
    let e = line_more 3 c.transform_line-3.new.low c.transform_line-4.new.low g d c.transform_line-4.ensures.low c.transform_line-4.ensures.low_rest in
    let f = line_more 4 c.transform_line-4.new.low c.transform_line-5.new.low g e c.transform_line-5.ensures.low c.transform_line-5.ensures.low_rest in
    let h = line_more 5 c.transform_line-5.new.low c.transform_line-6.new.low g f c.transform_line-6.ensures.low c.transform_line-6.ensures.low_rest in
    let i = line_more 6 c.transform_line-6.new.low c.transform_line-7.new.low g h c.transform_line-7.ensures.low c.transform_line-7.ensures.low_rest in
    line_more 7 c.transform_line-7.new.low c.transform_line-8.new.low g i c.transform_line-8.ensures.low c.transform_line-8.ensures.low_rest
