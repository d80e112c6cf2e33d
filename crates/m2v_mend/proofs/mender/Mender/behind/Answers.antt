use Rattle.std.proofs.Common.{sym, subst}
use Rattle.m2v_mend.specs.declared.mender.Behind.{Behind}
use Rattle.m2v_mend.specs.declared.mender.Mender.{Mender}
use Rattle.m2v_mend.specs.Making.{StrandReady}
use Rattle.m2v_mend.specs.Mender.{PutOrNot}
use Rattle.m2v_mend.proofs.Put.{behind_told, long_by}
use Rattle.m2v_mend.proofs.mender.Mender.behind.Goals as goal

pub returns-in-Put-clause-told : goal.returns-in-Put-clause-told
returns-in-Put-clause-told c = λ written listed m s is span stretch next.
    subst (λ (b : Behind). PutOrNot written listed m s b c.args.self.now c.put.new.self) c.in-Put.is (c.in_ok-behind.ensures.told written listed m s is span stretch next)

pub returns-in_default : goal.returns-in_default
returns-in_default c = record {
  told = λ written listed m s is span stretch next.
      behind_told written listed m s c.in_ok-behind.behind c.args.self.now c.put.new.self c.end_with-in_default.new.self c.in_ok-frames.frames c.in_ok-bytes.bytes is
      (c.in_ok-frames.ensures written listed m is) (c.in_ok-bytes.ensures written listed m is) (c.in_ok-behind.ensures.told written listed m s is span stretch next) c.in_default.not-Put c.end_with-in_default.ensures;
  ready = subst (λ (x : Mender). StrandReady x.strand) (sym c.end_with-in_default.ensures) tt;
  parts = c.in_ok-behind.ensures.parts;
  long = long_by c.in_ok-behind.behind c.args.parts.long c.in_ok-behind.ensures.short c.if-parts.false;
}
