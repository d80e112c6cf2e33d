use Rattle.m2v_mend.proofs.Trying.{strand_so, refused_so}
use Rattle.m2v_mend.proofs.begin.strand_of.Goals as goal

pub returns-in-Ok-clause-told : goal.returns-in-Ok-clause-told
returns-in-Ok-clause-told c = λ s is short st headed low.
    strand_so s c.args.parts.now c.args.first.now c.args.low c.deref.result.now c.in_ok-pieces.field-0 c.in-Some.pieces c.deref-2.result.now c.deref-3.result.now c.args.out.now.items c.append.new.self.items c.in_ok-strand.field-0 c.in-Ok.strand c.all_fit.result
    is short st headed low c.deref.ensures.value c.in_ok-pieces.ensures c.in-Some.is c.deref-2.ensures.value c.all_fit.ensures c.if-not-all_fit.false c.deref-3.ensures.value c.in_ok-strand.ensures.told c.in-Ok.is c.in_ok-append-in-Ok.ensures.items

pub returns-clause-told : goal.returns-clause-told
returns-clause-told c = λ s is short st headed low.
    refused_so s c.args.parts.now c.args.first.now c.args.low c.deref.result.now c.in_ok-pieces.field-0 c.in-Some.pieces c.deref-2.result.now c.deref-3.result.now c.args.out.now.items c.in_ok-strand.field-0 c.in-Err.refusal c.in_ok-fault_of-in-Err.field-0 c.all_fit.result
    is short st headed low c.deref.ensures.value c.in_ok-pieces.ensures c.in-Some.is c.deref-2.ensures.value c.all_fit.ensures c.if-not-all_fit.false c.deref-3.ensures.value c.in_ok-strand.ensures.told c.in-Err.is c.in_ok-fault_of-in-Err.ensures
