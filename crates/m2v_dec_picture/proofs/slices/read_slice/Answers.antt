use Rattle.std.proofs.Common.{◌≡◌, ℕ, sym, ap, subst, ◌∙◌, Ok, Err, pos, ◌+ℤ◌}
use Rattle.std.specs.Prelude.{nat_abs}
use Rattle.std.proofs.lemmas.Result.{err_from_is_err_and}
use Rattle.m2v_macro.specs.declared.values.SliceState.{SliceState}
use Rattle.m2v_macro.specs.Conditions.{IsReady}
use Rattle.m2v_model.specs.Slices.{slice_start}
use Rattle.m2v_dec_picture.specs.Conditions.{IsState, AreFew}
use Rattle.m2v_dec_picture.specs.Reads.{TellsRow, seen_by}
use Rattle.m2v_dec_picture.proofs.SliceLaws.{slice_no_header, slice_no_increment, slice_early, slice_broken, slice_read}
use Rattle.m2v_dec_picture.proofs.RowLaws.{starts_in, start_first, start_next, first_is, few_covered}
use Rattle.m2v_dec_picture.proofs.slices.read_slice.Goals as goal

pub returns-in_err-info-clause-exact : goal.returns-in_err-info-clause-exact
returns-in_err-info-clause-exact g c =
    let f = c.in_err-info.field-0.0 in
    let r = err_from_is_err_and c.from_residual.result c.from_residual.ensures.1 in
    rw (r.1, r.2) (slice_no_header c.args.basis.now.setup.now c.args.covered c.args.row c.args.input.now.rest (f.kind, f.left) c.in_err-info.ensures.exact)

pub returns-in_err-increment-clause-exact : goal.returns-in_err-increment-clause-exact
returns-in_err-increment-clause-exact g c =
    let f = c.in_err-increment.field-0.0 in
    let r = err_from_is_err_and c.from_residual-in_err-increment.result c.from_residual-in_err-increment.ensures.1 in
    rw (r.1, r.2)
    (slice_no_increment c.args.basis.now.setup.now c.args.covered c.args.row c.args.input.now.rest c.in_ok-info.info c.header.new.input.rest (f.kind, f.left) c.in_ok-info.ensures.exact c.in_err-increment.ensures.exact)

pub returns-then-not-begins_late-clause-exact : goal.returns-then-not-begins_late-clause-exact
returns-then-not-begins_late-clause-exact g c =
    let s = c.args.basis.now.setup.now in
    let n = c.in_ok-increment.ensures.exact in
    let late = sym (c.begins_late.ensures n.0 n.2 c.requires.covered) in
    rw c.unit_left-unit.ensures.value
    (slice_early s c.args.covered c.args.row c.args.input.now.rest c.in_ok-info.info c.header.new.input.rest n.1 n.0 c.in_ok-info.ensures.exact n.3 (late ∙ c.if-not-begins_late.true))

pub macroblocks-requires-clause-references : goal.macroblocks-requires-clause-references
macroblocks-requires-clause-references g c = (c.requires.forward, c.requires.backward)

pub macroblocks-requires-clause-state : goal.macroblocks-requires-clause-state
macroblocks-requires-clause-state g c =
    let s = c.args.basis.now.setup.now in
    let row = c.args.row in
    let first = c.at_start-first.result in
    let e : first ≡ slice_start s.context row c.args.covered c.in_ok-info.info.quantiser = first_is s.context c.args.covered row c.in_ok-info.info.quantiser first c.at_start-first.ensures.value in
    subst (IsState s.context row) (sym e) (starts_in s c.args.covered row c.in_ok-info.info.quantiser c.requires.setup c.requires.row c.requires.covered (subst (IsReady s.context) e c.at_start-first.ensures.ready))

pub macroblocks-requires-clause-begins : goal.macroblocks-requires-clause-begins
macroblocks-requires-clause-begins g c =
    let s = c.args.basis.now.setup.now in
    let e = first_is s.context c.args.covered c.args.row c.in_ok-info.info.quantiser c.at_start-first.result c.at_start-first.ensures.value in
    ap (λ (z : SliceState). z.first) e ∙ start_first s.context c.args.covered c.args.row c.in_ok-info.info.quantiser

pub returns-clause-large : goal.returns-clause-large
returns-clause-large g c =
    let s = c.args.basis.now.setup.now in
    let covered = c.args.covered in
    let e = first_is s.context covered c.args.row c.in_ok-info.info.quantiser c.at_start-first.result c.at_start-first.ensures.value in
    let next = ap (λ (z : SliceState). z.next) e ∙ start_next s.context covered c.args.row c.in_ok-info.info.quantiser in
    let last = c.in_ok-last.ensures in
    few_covered covered c.in_ok-last.large c.address_behind.result c.in_ok-last.last (subst (λ (n : ℕ). AreFew n c.in_ok-last.last c.in_ok-last.large) next last.few) last.some c.address_behind.ensures

pub returns-in_err-last-clause-exact : goal.returns-in_err-last-clause-exact
returns-in_err-last-clause-exact g c =
    let s = c.args.basis.now.setup.now in
    let row = c.args.row in
    let covered = c.args.covered in
    let mid = c.header.new.input.rest in
    let refs = seen_by (g.V.RefView.at c.args.basis.now.forward.now) (g.V.RefView.at c.args.basis.now.backward.now) in
    let n = c.in_ok-increment.ensures.exact in
    let late = sym (c.begins_late.ensures n.0 n.2 c.requires.covered) in
    let e = first_is s.context covered row c.in_ok-info.info.quantiser c.at_start-first.result c.at_start-first.ensures.value in
    let f = c.in_err-last.field-0.0 in
    let read = subst (λ (z : SliceState). TellsRow g.T.Target.placed s refs z mid (g.T.Target.samples c.args.out.now) (Err f) c.macroblocks.new.input.rest (g.T.Target.samples c.macroblocks.new.out)) e c.in_err-last.ensures.exact in
    let r = err_from_is_err_and c.from_residual-in_err-last.result c.from_residual-in_err-last.ensures.1 in
    rw (r.1, r.2) (slice_broken s covered row c.args.input.now.rest c.in_ok-info.info mid n.1 n.0 (f.kind, f.left) c.in_ok-info.ensures.exact n.3 (late ∙ c.if-not-begins_late.false) read)

pub returns-clause-exact : goal.returns-clause-exact
returns-clause-exact g c =
    let s = c.args.basis.now.setup.now in
    let row = c.args.row in
    let covered = c.args.covered in
    let mid = c.header.new.input.rest in
    let rest = c.macroblocks.new.input.rest in
    let refs = seen_by (g.V.RefView.at c.args.basis.now.forward.now) (g.V.RefView.at c.args.basis.now.backward.now) in
    let n = c.in_ok-increment.ensures.exact in
    let late = sym (c.begins_late.ensures n.0 n.2 c.requires.covered) in
    let e = first_is s.context covered row c.in_ok-info.info.quantiser c.at_start-first.result c.at_start-first.ensures.value in
    let x = subst (λ (z : SliceState). TellsRow g.T.Target.placed s refs z mid (g.T.Target.samples c.args.out.now) (Ok (c.in_ok-last.last, c.in_ok-last.large)) rest (g.T.Target.samples c.macroblocks.new.out)) e c.in_ok-last.ensures.exact in (
      _,
      slice_read s covered row c.args.input.now.rest c.in_ok-info.info mid n.1 rest n.0 x.0 c.in_ok-info.ensures.exact n.3 (late ∙ c.if-not-begins_late.false) x.1,
      c.address_behind.ensures ∙ ap (λ (z : SliceState). nat_abs (z.address +ℤ pos 1)) x.2,
      x.3,
      x.4,
    )
