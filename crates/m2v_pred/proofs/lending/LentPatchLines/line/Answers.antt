use Rattle.std.proofs.Common.{◌+◌, ◌/◌, get_or, ap, ◌∙◌, length}
use Rattle.m2v_plane.proofs.Places.{length-line_part}
use Rattle.m2v_pred.proofs.Lines.{part_get}
use Rattle.m2v_pred.proofs.lending.LentPatchLines.line.Goals as goal

pub returns-clause-len : goal.returns-clause-len
returns-clause-len g c =
    let p = c.args.self.now.patch.now in
    ap length c.line.ensures.value
    ∙ length-line_part (g.V.RefView.at c.args.self.now.view.now p.plane p.lines (p.y / 2 + c.args.line)) (p.x / 2) c.args.count

pub returns-clause-value : goal.returns-clause-value
returns-clause-value g c = λ k lt.
    let p = c.args.self.now.patch.now in
    ap (λ xs. get_or xs k 0) c.line.ensures.value
    ∙ part_get (g.V.RefView.at c.args.self.now.view.now p.plane p.lines (p.y / 2 + c.args.line)) (p.x / 2) c.args.count k lt
