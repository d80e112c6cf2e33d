use Rattle.std.proofs.Common.{◌≡◌, ℕ, List, ◌≤◌, ◌+◌, ◌-◌, ◌∙◌, sym, ap, arith, length, take, drop, length-drop}
use Rattle.std.proofs.lemmas.List.{drop-take}
use Rattle.std.proofs.lemmas.List.Edits.{take-paste}
use Rattle.m2v_y4m.proofs.chunk.move_to_front.Goals as goal

-- what was pasted at the front
pasted : (d s : List ℕ) (n : ℕ) → take (0 + n) d ≡ s → take n d ≡ s
pasted d s n is = let same : n ≡ 0 + n = omega arith in ap (λ k. take k d) same ∙ is

pub returns-clause-front : goal.returns-clause-front
returns-clause-front c =
    let n = c.args.end - c.args.at in
    let fits : n ≤ length (drop c.args.at c.args.bytes.now) = omega (arith, length-drop c.args.at c.args.bytes.now) in
    let is : c.args.at + n ≡ c.args.end = omega arith in
    ap (take n) c.copy_within.ensures.after ∙ pasted _ _ n (take-paste c.args.bytes.now 0 (drop c.args.at c.args.bytes.now) n (omega arith) fits)
    ∙ sym (drop-take c.args.at n c.args.bytes.now) ∙ ap (λ k. drop c.args.at (take k c.args.bytes.now)) is
