use Rattle.std.proofs.Common.{◌≡◌, ℕ, List, Option, IfSome, Err, refl, ap, sym, subst}
use Rattle.m2v_port.specs.Ends.{change}
use Rattle.m2v_tool.specs.Mending.{MendComes}
use Rattle.m2v_tool.proofs.PlaceLaws.{shut_of}
use Rattle.m2v_tool.proofs.MendingLaws.{read_from, fails_from}
use Rattle.m2v_tool.proofs.beside.mended_beside.Goals as goal

pub returns-in-Err-clause-comes : goal.returns-in-Err-clause-comes
unfolding MendComes
returns-in-Err-clause-comes g c = record {
  named = λ none. cc none;
  shut = shut_of c.in-Err.error
      (record {
        input = change g.S.Source.left g.S.Source.faults c.args.input.now c.args.input.now;
        output = change g.K.Sink.held g.K.Sink.faults c.args.output.now c.args.output.now;
        recon = change g.N.Sink.held g.N.Sink.faults c.args.recon.now c.open.new.self;
        place = record { ready = g.N.Sink.ready c.open.new.self; name = g.N.Sink.name c.open.new.self };
      })
      (λ e. c.in-Err.ensures.failed (ap Err e)) c.in-Err.ensures.err c.in-Err.ensures.same refl refl;
}

pub returns-in-Ok-mend_listed-clause-comes : goal.returns-in-Ok-mend_listed-clause-comes
unfolding MendComes
returns-in-Ok-mend_listed-clause-comes g c =
    let stays = c.mend_listed.ensures.list in
    record {
      mended = read_from g.N.Sink.held g.N.Sink.faults c.args.recon.now c.open.new.self c.mend_listed.new.list c.open.ensures.same c.open.ensures.faults
          _ _ _ c.in-Ok-mend_listed.ensures.ok;
      stands = (stays.is_ready, subst (λ (o : Option (List ℕ)). IfSome o (λ told. told ≡ c.args.name.now)) (sym stays.keeps_name) c.in-Ok.ensures.name);
    }

pub returns-in-Err-mend_listed-clause-comes : goal.returns-in-Err-mend_listed-clause-comes
unfolding MendComes
returns-in-Err-mend_listed-clause-comes g c =
    let stays = c.mend_listed.ensures.list in
    record {
      stops = fails_from g.N.Sink.held g.N.Sink.faults c.args.recon.now c.open.new.self c.mend_listed.new.list c.open.ensures.same c.open.ensures.faults
          _ _ c.in-Err-mend_listed.error c.in-Err-mend_listed.ensures.err;
      stands = (stays.is_ready, subst (λ (o : Option (List ℕ)). IfSome o (λ told. told ≡ c.args.name.now)) (sym stays.keeps_name) c.in-Ok.ensures.name);
    }
