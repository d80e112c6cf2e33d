use Rattle.std.proofs.Common.{rules, List, Bool, ap}
use Rattle.m2v_model.specs.Slices.{slice_at}
use Rattle.m2v_dec_rows.specs.Rows.{slice_read}
use Rattle.m2v_dec_rows.specs.Opened.{unread}
use Rattle.m2v_dec_rows.proofs.slice.paint.Goals as goal

pub returns-in-Ok-clause-exact : goal.returns-in-Ok-clause-exact
unfolding slice_read
returns-in-Ok-clause-exact g c =
    let s = c.args.basis.now.setup.now in
    let u = unread c.args.piece.now c.args.u.now in
    let x = c.read_slice.ensures.exact in
    let e = ap (λ (t : List Bool). (slice_at s c.args.covered u.row).read t) c.body_of-bits.ensures.rest in
    search rules

pub returns-in-Ok-clause-wide : goal.returns-in-Ok-clause-wide
returns-in-Ok-clause-wide g c column lt =
    c.in-Ok.ensures.takes (record { row = c.args.u.now.row; column = column; structure = c.args.basis.now.setup.now.context.extension.structure }) (c.requires.wide column lt)

pub returns-in-Err-clause-exact : goal.returns-in-Err-clause-exact
unfolding slice_read
returns-in-Err-clause-exact g c = search rules
