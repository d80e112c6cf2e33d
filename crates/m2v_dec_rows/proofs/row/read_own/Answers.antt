use Rattle.std.proofs.Common.{ℕ, ◌+◌, ◌*◌, ◌≤◌, ◌∙◌, List, [], ◌∷◌, ◌++◌, Ok, refl, ap, sym, subst, arith, map, get_or}
use Rattle.std.proofs.lemmas.Result.{err_from_is_err_and}
use Rattle.m2v_plane.specs.Samples.{Samples}
use Rattle.m2v_model.specs.Samples.{put_in_row}
use Rattle.m2v_dec_picture.specs.Reads.{seen_by}
use Rattle.m2v_dec_rows.specs.declared.opened.SliceUnit.{SliceUnit}
use Rattle.m2v_dec_rows.specs.Rows.{Begun, Read, first_of, own, slices_read, begun_painted, slices_painted}
use Rattle.m2v_dec_rows.specs.Reads.{IsWide}
use Rattle.m2v_dec_rows.specs.Opened.{unread}
use Rattle.m2v_dec_rows.proofs.OwnLaws.{own_more, own_fails, taken_read, painted_snoc}
use Rattle.m2v_dec_rows.proofs.row.read_own.Goals as goal
use Rattle.m2v_dec_rows.proofs.row.read_own.Goals.{then-u-row+in_ok-covered, else-u-row}

pub loop-u-init : goal.loop-u-init
unfolding slices_read slices_painted
loop-u-init g c = record { read = ([], refl, refl); covered = omega (arith); wide = c.requires.wide }

pub returns-in_err-covered-clause-exact : goal.returns-in_err-covered-clause-exact
returns-in_err-covered-clause-exact g c =
    let p = err_from_is_err_and c.from_residual.result c.from_residual.ensures.1 in
    let e = c.in_err-covered.field-0.0 in
    let s = c.args.basis.now.setup.now in
    let now : Read = Ok ([], first_of s c.args.row) in
    let f = unread c.args.piece.now in
    let inv = c.loop-u.invariant.read in
    rw (p.1, p.2)
    (ap (λ (l : List SliceUnit). slices_read s now (own c.args.row (map f l))) (sym c.deref-u-items.ensures.value)
    ∙ own_fails s now c.args.row f c.deref-u-items.result.now c.loop-u.u-index _ inv.0 c.loop-u.covered (e.kind, e.place)
    c.loop-u-test.true c.if-u-row.true inv.1 c.in_err-covered.ensures.exact)

pub loop-u-preserved : goal.loop-u-preserved
loop-u-preserved g c =
    let s = c.args.basis.now.setup.now in
    let now : Read = Ok ([], first_of s c.args.row) in
    let refs = seen_by (g.V.RefView.at c.args.basis.now.forward.now) (g.V.RefView.at c.args.basis.now.backward.now) in
    let f = unread c.args.piece.now in
    let items = c.deref-u-items.result.now in
    let i = c.loop-u.u-index in
    let inv = c.loop-u.invariant in
    elim c.if-u-row.branch [
      | then-u-row+in_ok-covered w ↦
          let t = w.in_ok-covered.ensures.exact in
          let own_row = w.if-u-row.true in
          let x : Begun = record { row = (f (get_or items i (record { row = 0; place = 0; length = 0 }))).row; before = c.loop-u.covered; slice = t.0 } in
          record {
            read = (
              inv.read.0 ++ x ∷ [],
              own_more s now c.args.row f items i _ inv.read.0 c.loop-u.covered t.0 c.loop-u-test.true own_row inv.read.1 t.1 ∙ ap (λ (n : ℕ). Ok (inv.read.0 ++ x ∷ [], n)) (sym (w.covered-is ∙ t.2)),
              w.out-is ∙ t.3 ∙ ap (λ (o : Samples). begun_painted put_in_row s refs o x) inv.read.2 ∙ sym (painted_snoc put_in_row s refs c.args.out.now inv.read.0 x),
            );
            covered = subst (λ (n : ℕ). n ≤ (c.args.row + 1) * s.context.columns) (sym w.covered-is)
                (subst (λ (r : ℕ). w.in_ok-covered.covered ≤ (r + 1) * s.context.columns) own_row w.in_ok-covered.ensures.covered);
            wide = subst (IsWide s) (sym w.out-is) w.in_ok-covered.ensures.wide;
          }
      | else-u-row w ↦ record {
        read = (inv.read.0, taken_read s now c.args.row f items i _ c.loop-u-test.true w.if-u-row.false ∙ inv.read.1 ∙ ap (λ (n : ℕ). Ok (inv.read.0, n)) (sym w.covered-is), w.out-is ∙ inv.read.2);
        covered = subst (λ (n : ℕ). n ≤ (c.args.row + 1) * s.context.columns) (sym w.covered-is) inv.covered;
        wide = subst (IsWide s) (sym w.out-is) inv.wide;
      }
    ]
