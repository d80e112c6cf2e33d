use Rattle.std.proofs.Common.{◌∙◌, List, ap, sym, map, drop, ◌+◌}
use Rattle.m2v_dec_rows.specs.declared.opened.SliceUnit.{SliceUnit}
use Rattle.m2v_dec_rows.specs.Rows.{Slices, below, missing}
use Rattle.m2v_dec_rows.specs.Opened.{unread, ending}
use Rattle.m2v_dec_rows.proofs.OwnLaws.{below_found, error_told}
use Rattle.m2v_dec_rows.proofs.row.missing.Goals as goal

pub returns-then-row-u : goal.returns-then-row-u
returns-then-row-u g c =
    let s = c.args.basis.now.setup.now in
    let f = unread c.args.piece.now in
    let end = ending c.args.piece.now c.args.opened.now in
    error_told _ _ _ _ (below c.args.row (map f (drop (c.loop-u.u-index + 1) c.deref-u-items.result.now))) end _ _ _ c.paint.ensures.exact c.err.ensures.value
    ∙ ap (λ (us : Slices). missing s c.args.covered us end)
    (sym (ap (λ (l : List SliceUnit). below c.args.row (map f l)) (sym c.deref-u-items.ensures.value)
    ∙ below_found c.args.row f c.deref-u-items.result.now c.loop-u.u-index _ c.loop-u-test.true c.if-row-u.true c.loop-u.invariant.none))
