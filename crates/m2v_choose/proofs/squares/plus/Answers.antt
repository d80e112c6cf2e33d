use Rattle.std.proofs.Common.{◌∙◌, sym, ℕ, ◌+◌, ◌≡◌, length}
use Rattle.std.proofs.lemmas.Simd.{adds_fit, length-zip2, sum-zip2}
use mir.Syntax.{w32}
use Rattle.m2v_choose.proofs.squares.plus.Goals as goal

pub overflow_add-result : goal.overflow_add-result
overflow_add-result c = adds_fit w32 c.args.x c.args.y c.requires.fits

pub returns-clause-len : goal.returns-clause-len
returns-clause-len c =
    let same : length c.args.x ≡ length c.args.y = c.requires.x ∙ sym c.requires.y in
    length-zip2 (λ (a b : ℕ). a + b) c.args.x c.args.y same ∙ c.requires.x

pub returns-clause-sum : goal.returns-clause-sum
returns-clause-sum c =
    let same : length c.args.x ≡ length c.args.y = c.requires.x ∙ sym c.requires.y in
    sum-zip2 c.args.x c.args.y same
