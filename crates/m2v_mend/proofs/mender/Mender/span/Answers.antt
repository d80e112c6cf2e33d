use Rattle.std.proofs.Common.{subst}
use Rattle.m2v_mend.specs.declared.mender.Behind.{Behind}
use Rattle.m2v_mend.specs.Members.{IsSpan}
use Rattle.m2v_mend.specs.Mender.{BehindTold, GivesBack}
use Rattle.m2v_mend.proofs.Made.{with_long}
use Rattle.m2v_mend.proofs.Put.{put_is_all, left_is, given_back}
use Rattle.m2v_mend.proofs.mender.Mender.span.Goals as goal

pub returns-in-Put-clause-told : goal.returns-in-Put-clause-told
returns-in-Put-clause-told c = λ written listed m s is span stretch next.
    let told = subst (λ (b : Behind). BehindTold written listed m s b c.behind.new.self) c.in-Put.is (c.in_ok-behind.ensures.told written listed m s is span stretch next) in
    put_is_all written listed m s c.behind.new.self told.0 told.1

pub returns-in_ok-leave_out-in-Long-clause-told : goal.returns-in_ok-leave_out-in-Long-clause-told
returns-in_ok-leave_out-in-Long-clause-told c = λ written listed m s is span stretch next.
    let same = subst (GivesBack c.args.parts) c.in-Long.is c.in_ok-behind.ensures.parts in
    let told = subst (λ (b : Behind). BehindTold written listed m s b c.behind.new.self) c.in-Long.is (c.in_ok-behind.ensures.told written listed m s is span stretch next) in
    left_is written listed m s c.leave_out.new.self told.1 (with_long m.first s told.0)
    (c.in_ok-leave_out-in-Long.ensures.told written listed m s told.3 (given_back (IsSpan s) c.args.parts c.in-Long.parts same span) told.2)

pub returns-in_ok-elsewhere-in-Refused-clause-told : goal.returns-in_ok-elsewhere-in-Refused-clause-told
returns-in_ok-elsewhere-in-Refused-clause-told c = λ written listed m s is span stretch next.
    let same = subst (GivesBack c.args.parts) c.in-Refused.is c.in_ok-behind.ensures.parts in
    let told = subst (λ (b : Behind). BehindTold written listed m s b c.behind.new.self) c.in-Refused.is (c.in_ok-behind.ensures.told written listed m s is span stretch next) in
    c.in_ok-elsewhere-in-Refused.ensures.told written listed m s told.2 (given_back (IsSpan s) c.args.parts c.in-Refused.parts same span) stretch told.0 told.1

pub returns-in_ok-elsewhere-in-NotUnderWay-clause-told : goal.returns-in_ok-elsewhere-in-NotUnderWay-clause-told
returns-in_ok-elsewhere-in-NotUnderWay-clause-told c = λ written listed m s is span stretch next.
    let same = subst (GivesBack c.args.parts) c.in-NotUnderWay.is c.in_ok-behind.ensures.parts in
    let told = subst (λ (b : Behind). BehindTold written listed m s b c.behind.new.self) c.in-NotUnderWay.is (c.in_ok-behind.ensures.told written listed m s is span stretch next) in
    c.in_ok-elsewhere-in-NotUnderWay.ensures.told written listed m s told.2 (given_back (IsSpan s) c.args.parts c.in-NotUnderWay.parts same span) stretch told.0 told.1
