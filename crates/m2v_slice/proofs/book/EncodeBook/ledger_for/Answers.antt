use Rattle.std.proofs.Common.{◌+◌, ◌∙◌, ap, refl, arith}
use Rattle.m2v_slice.specs.declared.cache.Learned.{Learned}
use Rattle.m2v_slice.proofs.Planned.{first_ledger, may_know}
use Rattle.m2v_slice.proofs.book.EncodeBook.ledger_for.Goals as goal

pub returns-then-p-eq0 : goal.returns-then-p-eq0
returns-then-p-eq0 c = record { value = c.ledger.ensures.value ∙ first_ledger c.args.self.now c.pictures-book.ensures.book c.args.p c.if-p-eq0.true }

pub overflow_add-bits : goal.overflow_add-bits
overflow_add-bits c =
    let h = may_know c.args.self.now c.pictures-book.ensures.book c.args.p c.args.cache.now c.requires.learned c.requires.picture
    c.learned-learned.result.now.ledger c.job.result.now (c.header_bits.result + c.learned-learned.result.now.bits) c.args.cache.now.work (ap (λ (x : Learned). x.ledger) c.learned-learned.ensures.value) c.if-p-ge4.true c.job.ensures.value
    (omega (arith, c.header_bits.ensures.value, ap (λ (x : Learned). x.bits) c.learned-learned.ensures.value)) refl in
    record { fits = h.small }

pub known-requires : goal.known-requires
known-requires c =
    let h = may_know c.args.self.now c.pictures-book.ensures.book c.args.p c.args.cache.now c.requires.learned c.requires.picture
    c.learned-learned.result.now.ledger c.job.result.now (c.header_bits.result + c.learned-learned.result.now.bits) c.learned-learned.result.now.work (ap (λ (x : Learned). x.ledger) c.learned-learned.ensures.value) c.if-p-ge4.true c.job.ensures.value
    (omega (arith, c.header_bits.ensures.value, ap (λ (x : Learned). x.bits) c.learned-learned.ensures.value)) (ap (λ (x : Learned). x.work) c.learned-learned.ensures.value) in
    record { picture = h.picture; first = h.first; planned = h.planned; within = h.within; work = h.measured }

pub returns-then-p-ge4 : goal.returns-then-p-ge4
returns-then-p-ge4 c =
    let h = may_know c.args.self.now c.pictures-book.ensures.book c.args.p c.args.cache.now c.requires.learned c.requires.picture
    c.learned-learned.result.now.ledger c.job.result.now (c.header_bits.result + c.learned-learned.result.now.bits) c.learned-learned.result.now.work (ap (λ (x : Learned). x.ledger) c.learned-learned.ensures.value) c.if-p-ge4.true c.job.ensures.value
    (omega (arith, c.header_bits.ensures.value, ap (λ (x : Learned). x.bits) c.learned-learned.ensures.value)) (ap (λ (x : Learned). x.work) c.learned-learned.ensures.value) in
    record { value = c.known.ensures.value ∙ h.after }
