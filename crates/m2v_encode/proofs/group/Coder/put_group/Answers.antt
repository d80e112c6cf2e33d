use Rattle.std.proofs.Common.{◌*◌, Some, refl, sym, subst, length}
use Rattle.std.proofs.lemmas.Result.{err_from_is_err_and}
use Rattle.std.specs.Vec.{with_items}
use Rattle.m2v_rate.specs.Plans.{Entries, account_at}
use Rattle.m2v_encode.specs.declared.group.Coder.{Coder}
use Rattle.m2v_encode.specs.Groups.{IsPlace}
use Rattle.m2v_encode.proofs.GroupLaws.{group_output, group_recon, coded_by}
use Rattle.m2v_encode.proofs.group.Coder.put_group.Goals as goal

pub put_pictures-requires-clause-place : goal.put_pictures-requires-clause-place
put_pictures-requires-clause-place g c =
    subst (λ (l : Entries). IsPlace c.args.done.settings (account_at l 0) (8 * c.args.self.now.total.bytes)) (sym c.ledger-self.ensures.value) c.requires.place

pub returns-in_err-put_pictures-clause-err : goal.returns-in_err-put_pictures-clause-err
returns-in_err-put_pictures-clause-err g c =
    let p = err_from_is_err_and c.from_residual.result c.from_residual.ensures.1 in
    rw (p.1, p.2) (group_output g.K.Sink.held g.K.Sink.faults g.N.Sink.held g.N.Sink.faults _ c.args.done _ _ _ _ _ c.in_err-put_pictures.ensures.err)

pub returns-in_err-self-clause-err : goal.returns-in_err-self-clause-err
returns-in_err-self-clause-err g c =
    let p = err_from_is_err_and c.from_residual-in_err-self.result c.from_residual-in_err-self.ensures.1 in
    rw (p.1, p.2)
    (group_recon g.K.Sink.held g.K.Sink.faults g.N.Sink.held g.N.Sink.faults _ c.args.done _ _ _ _ _ _ c.in_ok-put_pictures.ensures.grown c.in_err-self.ensures.put.err)

pub returns-clause-coded : goal.returns-clause-coded
returns-clause-coded g c =
    let d : Coder = record {
      settings = c.args.self.now.settings;
      ledger = c.ledger-self.result;
      before = c.in_ok-self.field-0;
      shown = c.args.self.now.shown;
      raw = with_items c.args.self.now.raw c.put_shown.new.buffer;
      headers = c.put_pictures.new.headers;
      total = c.put_pictures.new.total;
      kept = Some c.into_kept.result;
    } in
    coded_by c.args.self.now d c.args.done c.args.ends c.args.self.now.total c.ledger-self.result _ _ refl c.ledger-self.ensures.value
    c.in_ok-put_pictures.ensures.grown c.in_ok-self.ensures.put.grown refl refl c.in_ok-self.ensures.anchor
    c.in_ok-put_pictures.ensures.frames c.in_ok-put_pictures.ensures.pictures c.in_ok-put_pictures.ensures.bytes c.in_ok-put_pictures.ensures.stuffing

pub returns-clause-place : goal.returns-clause-place
returns-clause-place g c = λ ends.
    subst (λ (l : Entries). IsPlace c.args.done.settings (account_at l (length c.args.done.pictures)) (8 * c.put_pictures.new.total.bytes)) c.ledger-self.ensures.value (c.in_ok-put_pictures.ensures.place ends)
