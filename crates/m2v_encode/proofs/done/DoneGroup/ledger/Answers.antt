use Rattle.std.proofs.Common.{◌≡◌, ◌∙◌, ℕ, ap, length, arith}
use Rattle.m2v_slice.proofs.Steady.{ledger_at}
use Rattle.m2v_slice.proofs.Ledgers.{whole_is}
use Rattle.m2v_encode.proofs.Pieces.{may_tell, told_more}
use Rattle.m2v_encode.proofs.done.DoneGroup.ledger.Goals as goal

pub known-requires : goal.known-requires
known-requires c =
    let may = may_tell c.args.self.now c.pictures-count.ensures.book c.loop-p.p c.size.result c.work.result c.loop-p.ledger
    (omega (arith, c.pictures-count.ensures.value)) c.size.ensures.value c.work.ensures.value c.loop-p.invariant in
    record { picture = may.picture; first = may.first; planned = may.planned; within = may.within; work = may.effort }

pub loop-p-preserved : goal.loop-p-preserved
loop-p-preserved c =
    told_more c.args.self.now c.loop-p.p c.size.result c.work.result c.loop-p.ledger c.known.new.self c.size.ensures.value c.work.ensures.value c.loop-p.invariant c.known.ensures.value

pub returns : goal.returns
returns c =
    let b = c.args.self.now in
    let end : c.loop-p.p ≡ length b.pictures = omega (arith, c.pictures-count.ensures.value) in
    record { value = c.loop-p.invariant ∙ ap (λ (n : ℕ). ledger_at b n (length b.pictures)) end ∙ whole_is b }
