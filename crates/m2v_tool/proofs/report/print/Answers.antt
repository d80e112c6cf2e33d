use Rattle.std.proofs.Common.{◌++◌, ◌+◌, List, ℕ, Bor, drop, arith, sym, ap, ap₂, ◌∙◌}
use Rattle.m2v_tool.proofs.LineLaws.{line_from, line_more, line_end}
use Rattle.m2v_tool.proofs.report.print.Goals as goal

abbrev text_of : Bor (List ℕ) × ℕ → List ℕ
text_of f = f.0.now

abbrev number_of : Bor (List ℕ) × ℕ → ℕ
number_of f = f.1

pub loop-i-preserved : goal.loop-i-preserved
loop-i-preserved c =
    let before = c.loop-i.line.items in
    let text = c.in_ok-extend_from_slice.ensures.items ∙ ap (λ (b : List ℕ). before ++ b) c.as_bytes.ensures.value in
    let number = c.as_bytes-in-loop-i.ensures.value ∙ c.format.ensures.text in
    let items = c.in_ok-extend_from_slice-2.ensures.items ∙ ap₂ (λ (a b : List ℕ). a ++ b) text number in
    ap (λ (b : List ℕ). b ++ line_from text_of number_of (drop (c.loop-i.i + 1) c.args.figures.now)) items
    ∙ sym (line_more text_of number_of before c.args.figures.now c.loop-i.i _ (omega arith)) ∙ c.loop-i.invariant

pub returns : goal.returns
returns c =
    c.in_ok-extend_from_slice-3.ensures.items
    ∙ sym (line_end text_of number_of c.loop-i.line.items c.args.figures.now c.loop-i.i (omega arith)) ∙ c.loop-i.invariant
