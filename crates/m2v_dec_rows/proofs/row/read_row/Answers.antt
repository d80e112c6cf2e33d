use Rattle.std.proofs.Common.{subst, sym}
use Rattle.std.specs.Prelude.{Some, None}
use Rattle.m2v_model.specs.declared.setup.SliceSetup.{SliceSetup}
use Rattle.m2v_dec_picture.specs.Conditions.{HoldsForward, HoldsBackward}
use Rattle.m2v_dec_picture.specs.Reads.{seen_by}
use Rattle.m2v_dec_rows.specs.Opened.{slices_of, ending}
use Rattle.m2v_dec_rows.specs.Reads.{TellsRow}
use Rattle.m2v_dec_rows.proofs.WholeRow.{told_whole, told_fault, told_missing}
use Rattle.m2v_dec_rows.proofs.row.read_row.Goals as goal

pub read_own-requires-clause-references : goal.read_own-requires-clause-references
read_own-requires-clause-references g c =
    let V = g.V.RefView in (
      subst (λ (s : SliceSetup). HoldsForward s (V.size c.args.forward.now) (V.Holds c.args.forward.now)) (sym c.setup-s.ensures) c.requires.forward,
      subst (λ (s : SliceSetup). HoldsBackward s (V.size c.args.backward.now) (V.Holds c.args.backward.now)) (sym c.setup-s.ensures) c.requires.backward,
    )

pub missing-requires-clause-references : goal.missing-requires-clause-references
missing-requires-clause-references g c =
    let V = g.V.RefView in (
      subst (λ (s : SliceSetup). HoldsForward s (V.size c.args.forward.now) (V.Holds c.args.forward.now)) (sym c.setup-s.ensures) c.requires.forward,
      subst (λ (s : SliceSetup). HoldsBackward s (V.size c.args.backward.now) (V.Holds c.args.backward.now)) (sym c.setup-s.ensures) c.requires.backward,
    )

pub returns-then-covered-row : goal.returns-then-covered-row
returns-then-covered-row g c =
    let refs = seen_by (g.V.RefView.at c.args.forward.now) (g.V.RefView.at c.args.backward.now) in
    let us = slices_of c.args.piece.now c.args.opened.now in
    let end = ending c.args.piece.now c.args.opened.now in
    record {
      exact = subst (λ (s : SliceSetup). TellsRow s refs c.args.row us end c.args.out.now None c.read_own.new.out) c.setup-s.ensures
          (told_whole c.setup-s.result refs c.args.row us end c.args.out.now c.read_own.new.out c.in-Ok.covered c.in-Ok.ensures.exact c.if-covered-row.true);
    }

pub returns-in-Err : goal.returns-in-Err
returns-in-Err g c =
    let refs = seen_by (g.V.RefView.at c.args.forward.now) (g.V.RefView.at c.args.backward.now) in
    let us = slices_of c.args.piece.now c.args.opened.now in
    let end = ending c.args.piece.now c.args.opened.now in
    record {
      exact = subst (λ (s : SliceSetup). TellsRow s refs c.args.row us end c.args.out.now (Some c.in-Err.f) c.read_own.new.out) c.setup-s.ensures
          (told_fault c.setup-s.result refs c.args.row us end c.args.out.now c.read_own.new.out c.in-Err.f c.in-Err.ensures.exact);
    }

pub returns-else-covered-row : goal.returns-else-covered-row
returns-else-covered-row g c =
    let refs = seen_by (g.V.RefView.at c.args.forward.now) (g.V.RefView.at c.args.backward.now) in
    let us = slices_of c.args.piece.now c.args.opened.now in
    let end = ending c.args.piece.now c.args.opened.now in
    record {
      exact = subst (λ (s : SliceSetup). TellsRow s refs c.args.row us end c.args.out.now c.missing.result c.missing.new.out) c.setup-s.ensures
          (told_missing c.setup-s.result refs c.args.row us end c.args.out.now c.read_own.new.out c.missing.new.out c.in-Ok.covered c.missing.result c.in-Ok.ensures.exact c.if-covered-row.false c.missing.ensures);
    }
