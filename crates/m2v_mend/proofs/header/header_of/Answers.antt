use Rattle.std.proofs.Common.{◌<◌, List, length, get_or, ◌≡◌, subst}
use Rattle.m2v_mend.specs.declared.member.Member.{Member}
use Rattle.m2v_mend.proofs.Headed.{headed_own}
use Rattle.m2v_mend.proofs.header.header_of.Goals as goal

pub returns-then-first-clause-told : goal.returns-then-first-clause-told
returns-then-first-clause-told c = λ s is short st.
    let item = c.in-Some.ensures.item in
    let m = c.in-Some.first.now in
    headed_own s c.args.parts.now m c.in_ok-piece.piece c.from_sequence_on.new.piece is short st c.requires (subst (λ (l : List Member). 0 < length l) c.deref.ensures.value item.3.0) (subst (λ (l : List Member). m ≡ get_or l 0 m) c.deref.ensures.value item.1) c.if-first.true c.in_ok-piece.ensures c.in_ok-from_sequence_on.ensures.front
