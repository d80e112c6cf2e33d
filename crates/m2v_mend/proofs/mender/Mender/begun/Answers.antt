use Rattle.std.proofs.Common.{refl}
use Rattle.m2v_mend.proofs.Made.{begun_made}
use Rattle.m2v_mend.proofs.mender.Mender.begun.Goals as goal

pub returns-clause-told : goal.returns-clause-told
returns-clause-told c = λ written listed m s is span told.
    begun_made written listed m s c.args.begun c.leave_leading.new.self c.go_on.new.self _ c.args.pieces.now.items (c.in_ok-leave_leading.ensures.told written listed _ s is refl span.place told.5) (c.go_on.ensures.told s (c.in_ok-groups.ensures s span)) told c.in_ok-append.ensures.items refl
